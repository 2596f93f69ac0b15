use Rattle.std.proofs.Common.{◌≡◌, ◌∙◌, [], true, cond, suc, refl, ap, subst, sym, length, rules}
use Rattle.um_units.specs.Variables.{VariablesBelow}
use Rattle.um_units.proofs.Variables.{VariablesBelow-replace_nth}
use Rattle.std.proofs.lemmas.List.{nil_from_length}
use Rattle.std.proofs.lemmas.Result.{err_from_is_err_and}
use Rattle.um_units.specs.PowerMap.{product, images, replace, nth}
use Rattle.um_units.specs.Range.{fits, IsStopUnless}
use Rattle.um_pivots.specs.Pivot.{least_power}
use Rattle.um_elim.specs.Elimination.{Range, steps, eliminate}
use Rattle.um_elim.specs.Steps.{IsStep, RemainderBelow}
use Rattle.um_elim.proofs.StepsOfCode.{first_stops, step_goes_on}
use Rattle.um_elim.proofs.solver.eliminate_row.Goals as goal

pub returns-then-is_empty-clause-outcome : goal.returns-then-is_empty-clause-outcome
unfolding product
returns-then-is_empty-clause-outcome c =
    let us = c.args.units.now.items in
    let none : c.terms.result.now ≡ [] = nil_from_length c.terms.result.now (search rules) in
    ap (λ ts. let r = product (images (nth us) ts) in cond (fits r) (steps (suc (least_power r)) us r) Range) (sym c.terms.ensures.terms ∙ none)

pub returns-in_err-r-clause-outcome : goal.returns-in_err-r-clause-outcome
returns-in_err-r-clause-outcome c =
    let p = err_from_is_err_and c.from_residual.result c.from_residual.ensures.1 in
    rw (p.1, p.2) (first_stops c.args.units.now.items c.args.row.now c.in_err-r.field-0.0
    (subst (λ us. IsStopUnless (fits (replace (nth us) c.args.row.now)) c.in_err-r.field-0.0) c.deref.ensures.value c.in_err-r.ensures.range))

pub loop-r-preserved : goal.loop-r-preserved
loop-r-preserved c =
    let w = subst (IsStep c.loop-r.units.items c.loop-r.r c.take_step.new.units.items) c.in-Again.is c.in_ok-remainder.ensures.outcome in
    record {
      same = step_goes_on c.loop-r.units.items c.take_step.new.units.items c.loop-r.r c.in-Again.remainder (eliminate c.args.units.now.items c.args.row.now) c.loop-r.invariant.same w.0 w.1;
      slots = c.take_step.ensures.slots ∙ c.loop-r.invariant.slots;
      indexed = c.in_ok-remainder.ensures.indexed;
      variables = subst (λ n. VariablesBelow n c.in-Again.remainder) (sym c.take_step.ensures.slots) (subst (RemainderBelow (length c.loop-r.units.items)) c.in-Again.is c.in_ok-remainder.ensures.variables);
    }

pub loop-r-init : goal.loop-r-init
loop-r-init c =
    let us = c.args.units.now.items in
    let row = c.args.row.now in
    let r = replace (nth us) row in
    let exact : c.in_ok-r.r ≡ r = c.in_ok-r.ensures.exact ∙ ap (λ vs. replace (nth vs) row) c.deref.ensures.value in
    let fit : fits r ≡ true = ap (λ vs. fits (replace (nth vs) row)) (sym c.deref.ensures.value) ∙ c.in_ok-r.ensures.range in
    record {
      same = ap (λ u. steps (suc (least_power u)) us u) exact ∙ sym (ap (λ b. cond b (steps (suc (least_power r)) us r) Range) fit);
      slots = refl;
      indexed = c.requires.indexed;
      variables = subst (VariablesBelow (length us)) (sym exact) (VariablesBelow-replace_nth (length us) us row c.requires.indexed.variables c.requires.variables);
    }
