use Rattle.std.proofs.Common.{length, refl, sym, ap, ◌∙◌, subst}
use Rattle.std.specs.Prelude.{All}
use Rattle.std.proofs.lemmas.Option.{slice_get_read}
use Rattle.std.proofs.lemmas.Result.{IfOk-weaker}
use Rattle.um_units.specs.Variables.{VariablesBelow}
use Rattle.um_tree.specs.TypeTree.{type_tree}
use Rattle.um_equal_types.specs.declared.row.Row.{Row}
use Rattle.um_equal_types.specs.Steps.{units_of}
use Rattle.um_rows.specs.FirstUnsolvable.{rows_up_to}
use Rattle.um_agree.specs.Answers.{agreement_tree}
use Rattle.um_reasons.specs.Reasons.{reason}
use Rattle.um_reasons.specs.Answers.{reason_tree as tree_of_reason}
use Rattle.um_unit_reasons.specs.Answers.{reason_tree}
use Rattle.um_unit_reasons.proofs.FailingSteps.{rows_low, some_one, one_alone, own_held, reason_are}
use Rattle.um_unit_reasons.proofs.failing.by_agreements.Goals as goal

pub reason_of-requires-clause-variables : goal.reason_of-requires-clause-variables
reason_of-requires-clause-variables c =
    let x = c.args.x.now in
    let s = c.requires.sound in
    let same = c.up_to.ensures ∙ ap (rows_up_to x.row) c.deref.ensures.value in
    subst (All (λ (row : Row). VariablesBelow x.found.now.rows.slots row.unit)) (sym same) (rows_low x s.0 s.1)

pub told_by-requires-clause-low : goal.told_by-requires-clause-low
told_by-requires-clause-low c = λ first second factor e.
    let x = c.args.x.now in
    let s = c.requires.sound in
    let xs = c.args.agreements.now.last.items in
    let y = c.index.result.now in
    let a = agreement_tree y.agreement in
    let there = slice_get_read xs (length xs) 0 y refl (some_one xs _ s.2.last_is) c.index.ensures in
    let same = c.up_to.ensures ∙ ap (rows_up_to x.row) c.deref.ensures.value in
    let is =
    c.in_ok-reason.ensures ∙ (λ k. reason (c.base_count.ensures k) x.parameters x.found.now.rows.slots (units_of (same k)) (c.deref-2.ensures.value k) (type_tree y.agreement.first) (type_tree y.agreement.second)) in
    own_held x s.0 s.1 c.args.core.now.rows.items c.args.agreements.now s.2 a (tree_of_reason c.in_ok-reason.reason) (one_alone xs _ s.2.last_is y there) is first second factor e

pub returns : goal.returns
returns c = λ agreed sound are.
    let x = c.args.x.now in
    let xs = c.args.agreements.now.last.items in
    let y = c.index.result.now in
    let a = agreement_tree y.agreement in
    let there = slice_get_read xs (length xs) 0 y refl (some_one xs _ are.last_is) c.index.ensures in
    let same = c.up_to.ensures ∙ ap (rows_up_to x.row) c.deref.ensures.value in
    let is =
    c.in_ok-reason.ensures ∙ (λ k. reason (c.base_count.ensures k) x.parameters x.found.now.rows.slots (units_of (same k)) (c.deref-2.ensures.value k) (type_tree y.agreement.first) (type_tree y.agreement.second)) in
    IfOk-weaker c.told_by.result _ _
    (λ told by. reason_are x agreed sound c.args.core.now.rows.items c.args.agreements.now are c.args.core.now.cut_off (reason_tree told) a (tree_of_reason c.in_ok-reason.reason) (one_alone xs _ are.last_is y there) is by)
    (c.told_by.ensures agreed c.args.core.now.rows.items sound are)
