use Rattle.std.proofs.Common.{◌≡◌, ◌∙◌, true, false, Some, None, sym, ap, subst}
use Rattle.std.specs.Prelude.{option_map}
use Rattle.std.specs.List.{list_any}
use Rattle.std.proofs.lemmas.Result.{IfOk-weaker}
use Rattle.um_units.specs.declared.Term.{Term}
use Rattle.um_units.specs.PowerMap.{replace, nth}
use Rattle.um_elim.specs.Elimination.{is_empty}
use Rattle.um_pivots.specs.Pivot.{pivot, pivot_of, is_other, has_other}
use Rattle.um_elim.proofs.MostGeneral.{IsSound}
use Rattle.um_reasons.specs.Search.{outcome}
use Rattle.um_reasons.specs.Wide.{as_pivot, IsAfterStep}
use Rattle.um_reasons.proofs.WideProducts.{any_wide, empty_is}
use Rattle.um_reasons.proofs.WideSteps.{step_again, step_falls, step_ends, closed_sound, right_from_sound}
use Rattle.um_reasons.proofs.wide_rows.eliminate.Goals as goal

pub loop-at-init : goal.loop-at-init
loop-at-init c = record { sound = λ o g. g; narrow = c.requires.narrow; r_narrow = c.in_ok-r.ensures.narrow }

pub returns-in_default-clause-right : goal.returns-in_default-clause-right
returns-in_default-clause-right c =
    let old = c.args.units.now.items in
    let row = c.args.row.now.unit in
    let r = c.loop-at.r in
    let first = c.in_ok-r.ensures.exact ∙ ap (λ us. replace (nth us) row) c.deref.ensures.value in
    let none : pivot r ≡ None = sym (c.pivot_of.ensures ∙ ap pivot_of c.terms.ensures.terms) ∙ ap (option_map as_pivot) c.in_default.is in
    let empty : c.is_empty.result ≡ is_empty r.terms = c.is_empty.ensures ∙ empty_is c.terms-in_default.result.now ∙ ap is_empty c.terms-in_default.ensures.terms in
    let o = outcome c.is_empty.result c.loop-at.units.items in
    right_from_sound old row c.requires.variables o
    (subst (λ u. IsSound old u o) first
    (c.loop-at.invariant.sound o (subst (λ b. IsSound c.loop-at.units.items r (outcome b c.loop-at.units.items)) (sym empty) (closed_sound c.loop-at.units.items r none))))

pub returns-then-not-has_other_variable-clause-right : goal.returns-then-not-has_other_variable-clause-right
returns-then-not-has_other_variable-clause-right c =
    let old = c.args.units.now.items in
    let row = c.args.row.now.unit in
    let r = c.loop-at.r in
    let at = as_pivot c.in-Some.at in
    let after = c.in_ok-next.field-0 in
    let new = c.end_row.new.units.items in
    let first = c.in_ok-r.ensures.exact ∙ ap (λ us. replace (nth us) row) c.deref.ensures.value in
    let is : pivot r ≡ Some at = sym (c.pivot_of.ensures ∙ ap pivot_of c.terms.ensures.terms) ∙ ap (option_map as_pivot) c.in-Some.is in
    let a : IsAfterStep at c.loop-at.units.items r after = subst (λ us. IsAfterStep at us r after) c.deref-in-loop-at.ensures.value c.in_ok-next.ensures in
    let alone : has_other at.variable after.left ≡ false =
    sym (c.has_other_variable.ensures ∙ any_wide (is_other at.variable) c.terms-in-loop-at.result.now ∙ ap (list_any (λ (t : Term). is_other at.variable t.atom)) c.terms-in-loop-at.ensures.terms)
    ∙ c.if-not-has_other_variable.true in
    IfOk-weaker c.end_row.result _ _
    (λ solved e.
    right_from_sound old row c.requires.variables (outcome solved new)
    (subst (λ u. IsSound old u (outcome solved new)) first
    (c.loop-at.invariant.sound (outcome solved new) (step_ends r at is c.loop-at.units.items after a (outcome solved new) alone e))))
    c.end_row.ensures.ended

pub loop-at-smaller : goal.loop-at-smaller
loop-at-smaller c =
    let r = c.loop-at.r in
    let at = as_pivot c.in-Some.at in
    let after = c.in_ok-next.field-0 in
    let is : pivot r ≡ Some at = sym (c.pivot_of.ensures ∙ ap pivot_of c.terms.ensures.terms) ∙ ap (option_map as_pivot) c.in-Some.is in
    let a : IsAfterStep at c.loop-at.units.items r after = subst (λ us. IsAfterStep at us r after) c.deref-in-loop-at.ensures.value c.in_ok-next.ensures in
    let other : has_other at.variable after.left ≡ true =
    sym (c.has_other_variable.ensures ∙ any_wide (is_other at.variable) c.terms-in-loop-at.result.now ∙ ap (list_any (λ (t : Term). is_other at.variable t.atom)) c.terms-in-loop-at.ensures.terms)
    ∙ c.if-not-has_other_variable.false in
    step_falls r at is c.loop-at.units.items after a other

pub loop-at-preserved : goal.loop-at-preserved
loop-at-preserved c =
    let r = c.loop-at.r in
    let at = as_pivot c.in-Some.at in
    let after = c.in_ok-next.field-0 in
    let is : pivot r ≡ Some at = sym (c.pivot_of.ensures ∙ ap pivot_of c.terms.ensures.terms) ∙ ap (option_map as_pivot) c.in-Some.is in
    let a : IsAfterStep at c.loop-at.units.items r after = subst (λ us. IsAfterStep at us r after) c.deref-in-loop-at.ensures.value c.in_ok-next.ensures in
    record {
      sound = λ o g. c.loop-at.invariant.sound o (step_again r at is c.loop-at.units.items after a o g);
      narrow = a.narrow;
      r_narrow = a.left_narrow;
    }
