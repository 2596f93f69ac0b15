use Rattle.std.proofs.Common.{sym, ap, ◌∙◌, map}
use Rattle.um_tree.specs.declared.program.Function.{Function}
use Rattle.um_tree.specs.ProgramTree.{function_tree, record_tree}
use Rattle.um_scale.specs.RescaledLiterals.{rescaled_function}
use Rattle.um_scale.proofs.Rescaled.{functions_mapped}
use Rattle.um_scale.proofs.program.rescaled_program.Goals as goal

pub returns-in-Ok : goal.returns-in-Ok
returns-in-Ok c =
    let cs = c.args.scales.now in
    let p = c.args.program.now in
    let bases = c.in_ok-bases.ensures in
    let records = c.in_ok-records.ensures ∙ ap (map record_tree) c.deref.ensures.value in
    let functions = c.in-Ok.ensures ∙ ap (map (λ (f : Function). rescaled_function cs (function_tree f))) c.deref-2.ensures.value ∙ sym (functions_mapped cs function_tree p.functions.items.items) in
    λ i. record { bases = bases i; records = records i; functions = functions i }
