use Rattle.std.proofs.Common.{map, ◌∙◌, arith}
use Rattle.um_tree.specs.ProgramTree.{record_tree}
use Rattle.um_image.proofs.Formats.{IsBytes}
use Rattle.um_image.proofs.PartFormats.{with_functions}
use Rattle.um_image.proofs.Decoded.{image_done, few_left, kept_is}
use Rattle.um_image.proofs.decoding.read_image.Goals as goal

pub read_last_functions-requires : goal.read_last_functions-requires
read_last_functions-requires c =
    let b : IsBytes c.args.bytes.now = λ i. omega (arith, c.type_inv.bytes i) in
    let less = few_left c.args.bytes.now c.in_ok-_letters._letters.now c.in_ok-_letters.rest.now (map record_tree c.in_ok-records.records.items.items) c.in_ok-records.rest.now c.in_ok-_letters.ensures c.in_ok-records.ensures b in
    let few = c.requires in
    omega (arith, less, few)

pub returns-in-Ok : goal.returns-in-Ok
returns-in-Ok c =
    let rs = map record_tree c.in_ok-records.records.items.items in
    let last = c.in-Ok.ensures in (
      with_functions rs last.0,
      image_done c.args.bytes.now c.in_ok-_letters._letters.now c.in_ok-_letters.rest.now rs c.in_ok-records.rest.now c.in_ok-_letters.ensures c.in_ok-records.ensures last.0 last.2,
      c.image_with.ensures ∙ kept_is c.in_ok-records.records c.in-Ok.functions last.0 last.1,
    )
