use Rattle.std.proofs.Common.{List, map, ap, ◌∙◌}
use Rattle.um_tree.specs.declared.program.Function.{Function}
use Rattle.um_tree.specs.ProgramTree.{function_tree}
use Rattle.um_verify.specs.ImageTree.{image_tree}
use Rattle.um_run.proofs.PlainCopies.{same_records}
use Rattle.um_run.proofs.image_call.program_of.Goals as goal

pub returns : goal.returns
returns c =
    let records = c.in_ok-records.ensures ∙ same_records (image_tree c.args.image.now).records c.requires.records in
    let bases = c.from_vec-bases.ensures ∙ c.new.ensures.items in
    let functions = ap (λ (fs : List Function). map function_tree fs) c.new-2.ensures.items in
    λ i. record { bases = bases i; records = records i; functions = functions i }
