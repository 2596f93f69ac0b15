use Rattle.std.proofs.Common.{◌≡◌, Some, ap, slice_get, subst}
use Rattle.std.proofs.lemmas.Result.{on_ok_weaker}
use Rattle.um_tree.specs.declared.program.Program.{Program}
use Rattle.um_tree.specs.ProgramTree.{program_tree, function_tree}
use Rattle.um_tree.specs.RawTree.{program_syntax}
use Rattle.um_explain_answers.specs.SchemeRest.{function_place}
use Rattle.um_explain_answers.proofs.Adding.{units_added, general_added, slots_added}
use Rattle.um_explain_answers.proofs.schemes.push_scheme_rest.Goals as goal

pub returns-in_ok-push_source-in-Units : goal.returns-in_ok-push_source-in-Units
returns-in_ok-push_source-in-Units c =
    on_ok_weaker c.push_units.result
    (units_added c.args.bytes.now (program_syntax c.args.raw.now) (program_tree c.args.shaped.now) c.args.stop c.in-Units.function c.in-Units.at c.args.text.now.items c.push_source.new.text.items c.push_units.new.out.items
    c.in_ok-push_source-in-Units.ensures c.in-Units.is)
    c.push_units.ensures

pub returns-in_ok-push_source-in-NotGeneral : goal.returns-in_ok-push_source-in-NotGeneral
returns-in_ok-push_source-in-NotGeneral c =
    on_ok_weaker c.push_units-in-NotGeneral.result
    (general_added c.args.bytes.now (program_syntax c.args.raw.now) (program_tree c.args.shaped.now) c.args.stop c.in-NotGeneral.function c.in-NotGeneral.at c.args.text.now.items c.push_source-in-NotGeneral.new.text.items
    c.push_units-in-NotGeneral.new.out.items c.in_ok-push_source-in-NotGeneral.ensures c.in-NotGeneral.is)
    c.push_units-in-NotGeneral.ensures

pub returns-in_ok-push_source-in-Slots : goal.returns-in_ok-push_source-in-Slots
returns-in_ok-push_source-in-Slots c =
    let p = program_tree c.args.shaped.now in
    let i = c.in-Slots.function in
    let f = function_tree c.function_at.result.now in
    let found : slice_get p.functions i ≡ Some f = subst (λ (q : Program). slice_get (program_tree q).functions i ≡ Some f) c.program.ensures.program c.function_at.ensures in
    on_ok_weaker c.push_limit_details.result
    (slots_added c.args.bytes.now (program_syntax c.args.raw.now) p c.args.stop i f.at c.args.text.now.items c.push_source-in-Slots.new.text.items c.push_limit_details.new.text.items c.in_ok-push_source-in-Slots.ensures
    c.in-Slots.is (ap function_place found))
    c.push_limit_details.ensures.details
