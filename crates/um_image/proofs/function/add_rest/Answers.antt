use Rattle.std.proofs.Common.{◌≡◌, [], length, ap, rules, arith, List}
use Rattle.std.proofs.lemmas.Result.{err_from_is_err_and}
use Rattle.um_machine.specs.declared.op.Op.{Op}
use Rattle.um_image.specs.Reading.{number_at}
use Rattle.um_image.proofs.Formats.{IsBytes, rest_of}
use Rattle.um_image.proofs.ShapeFormats.{number_items, IsSmall, number_format}
use Rattle.um_image.proofs.FunctionLoops.{last_count_fails, last_fails, last_done, last_more}
use Rattle.um_image.proofs.function.add_rest.Goals as goal

pub returns-in_err-count : goal.returns-in_err-count
returns-in_err-count c =
    let p = err_from_is_err_and c.from_residual.result c.from_residual.ensures.1 in
    rw (p.1, p.2) (last_count_fails c.args.bytes.now c.in_err-count.field-0.0 c.in_err-count.ensures)

pub add_functions-requires : goal.add_functions-requires
add_functions-requires c =
    let b : IsBytes c.args.bytes.now = λ i. omega (arith, c.type_inv.bytes i) in
    let r = rest_of number_at number_items IsSmall number_format c.args.bytes.now c.in_ok-count.count c.in_ok-count.rest.now b c.in_ok-count.ensures in
    let less = r.0 in
    let none = ap (λ (os : List Op). length os) c.requires.empty.ops in
    let few = c.requires.few in
    record { room = omega (arith, less, none, few) }

pub returns-in_err-rest : goal.returns-in_err-rest
returns-in_err-rest c =
    let p = err_from_is_err_and c.from_residual-in_err-rest.result c.from_residual-in_err-rest.ensures.1 in
    rw (p.1, p.2) (last_fails c.args.bytes.now c.in_ok-count.count c.in_ok-count.rest.now c.in_ok-count.ensures c.in_err-rest.field-0.0 (c.in_err-rest.ensures [] c.requires.empty))

pub returns-then-is_empty : goal.returns-then-is_empty
returns-then-is_empty c =
    let read = c.in_ok-rest.ensures [] c.requires.empty in
    let none : length c.in_ok-rest.rest.now ≡ 0 = search rules in
    (read.0, read.1, last_done c.args.bytes.now c.in_ok-count.count c.in_ok-count.rest.now c.in_ok-count.ensures read.0 c.in_ok-rest.rest.now read.2 none)

pub returns-else-is_empty : goal.returns-else-is_empty
returns-else-is_empty c =
    let read = c.in_ok-rest.ensures [] c.requires.empty in
    last_more c.args.bytes.now c.in_ok-count.count c.in_ok-count.rest.now c.in_ok-count.ensures read.0 c.in_ok-rest.rest.now read.2 (search rules)
