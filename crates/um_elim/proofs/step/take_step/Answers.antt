-- proofs/step/take_step/Answers.antt
use Rattle.std.proofs.Common.{◌≡◌, ◌∙◌, sym, ap, subst, map, nat_abs, true, false, refl}
use Rattle.std.specs.Prelude.{IsTrue}
use Rattle.std.specs.List.{list_all, list_any}
use Rattle.std.proofs.lemmas.Bool.{eqb-true}
use Rattle.std.proofs.lemmas.Result.{err_from_is_err_and}
use Rattle.um_units.specs.declared.Atom.TheVariants.{Var}
use Rattle.um_units.specs.declared.Term.{Term}
use Rattle.um_units.specs.PowerMap.{power_of, replace}
use Rattle.um_units.specs.Range.{fits, IsStopUnless}
use Rattle.um_pivots.specs.Pivot.{is_other, is_base, has_other, has_base}
use Rattle.um_elim.specs.ElimStep.{multiply, signed, IsStepOf, IsNextStep}
use Rattle.um_elim.specs.Elimination.{Solved}
use Rattle.um_elim.proofs.StepsOfCode.{IsSet, remainder_stops, slots_stop, steps_again, steps_unsolvable, steps_solved, least_power-lower}
use Rattle.um_elim.proofs.StepVariables.{step_low, step_absent, factor_below, remainder_below}
use Rattle.um_elim.proofs.LastStep.{all_fit-alike, one_for_all_multiplied}
use Rattle.um_elim.proofs.step.take_step.Goals as goal

pub returns-in_err-remainder-clause-outcome : goal.returns-in_err-remainder-clause-outcome
returns-in_err-remainder-clause-outcome c =
    let x = err_from_is_err_and c.from_residual-in_err-remainder.result c.from_residual-in_err-remainder.ensures.1 in
    let r = c.args.r.now in
    let t = c.in-Some.step in
    let is : IsStepOf c.args.r.now c.in-Some.step = subst (IsNextStep c.args.r.now) c.in-Some.is c.in_ok-step.ensures.next in
    let s : IsSet r t (replace (multiply t.variable t.by) (signed t.inverted r)) = record { is = is; remainder_is = refl } in
    rw (x.1, x.2) (remainder_stops c.args.units.now.items r t (replace (multiply t.variable t.by) (signed t.inverted r)) s c.in_err-remainder.field-0.0 c.in_err-remainder.ensures.range)

pub returns-in_err-multiply_holders-clause-outcome : goal.returns-in_err-multiply_holders-clause-outcome
returns-in_err-multiply_holders-clause-outcome c =
    let x = err_from_is_err_and c.from_residual-in_err-multiply_holders.result c.from_residual-in_err-multiply_holders.ensures.1 in
    let r = c.args.r.now in
    let t = c.in-Some.step in
    let is : IsStepOf c.args.r.now c.in-Some.step = subst (IsNextStep c.args.r.now) c.in-Some.is c.in_ok-step.ensures.next in
    let s : IsSet r t c.in_ok-remainder.remainder = record { is = is; remainder_is = c.in_ok-remainder.ensures.exact } in
    rw (x.1, x.2) (slots_stop c.args.units.now.items r t c.in_ok-remainder.remainder s c.in_err-multiply_holders.field-0.0 c.in_err-multiply_holders.ensures.range)

pub returns-then-has_other_variable-clause-outcome : goal.returns-then-has_other_variable-clause-outcome
returns-then-has_other_variable-clause-outcome c =
    let r = c.args.r.now in
    let t = c.in-Some.step in
    let is : IsStepOf c.args.r.now c.in-Some.step = subst (IsNextStep c.args.r.now) c.in-Some.is c.in_ok-step.ensures.next in
    let s : IsSet r t c.in_ok-remainder.remainder = record { is = is; remainder_is = c.in_ok-remainder.ensures.exact } in
    let old = c.args.units.now.items in
    let remainder = c.in_ok-remainder.remainder in
    let fl : IsTrue (fits remainder) = subst (λ u. IsTrue (fits u)) (sym c.in_ok-remainder.ensures.exact) c.in_ok-remainder.ensures.range in
    let fs : IsTrue (list_all fits (map (replace (multiply t.variable t.by)) old)) = c.in_ok-multiply_holders.ensures.range in
    let o : has_other t.variable remainder ≡ true = sym (c.has_other_variable.ensures ∙ ap (list_any (λ (k : Term). is_other t.variable k.atom)) c.terms-2.ensures.terms) ∙ c.if-has_other_variable.true in
    ((λ again. steps_again old r t remainder s fl fs o again ∙ ap (λ us. again us remainder) (sym c.in_ok-multiply_holders.ensures.exact)), least_power-lower old r t remainder s o)

pub returns-in_err-put_in_holders-clause-outcome : goal.returns-in_err-put_in_holders-clause-outcome
returns-in_err-put_in_holders-clause-outcome c =
    let x = err_from_is_err_and c.from_residual-in_err-put_in_holders.result c.from_residual-in_err-put_in_holders.ensures.1 in
    let r = c.args.r.now in
    let t = c.in-Some.step in
    let is : IsStepOf c.args.r.now c.in-Some.step = subst (IsNextStep c.args.r.now) c.in-Some.is c.in_ok-step.ensures.next in
    let s : IsSet r t c.in_ok-remainder.remainder = record { is = is; remainder_is = c.in_ok-remainder.ensures.exact } in
    let old = c.args.units.now.items in
    let alike = all_fit-alike t.variable t.by (step_absent r t is) old c.requires.indexed.fit in
    let stop = c.in_err-put_in_holders.field-0.0 in
    rw (x.1, x.2) (slots_stop old r t c.in_ok-remainder.remainder s stop (subst (λ b. IsStopUnless b stop) alike c.in_err-put_in_holders.ensures.range))

pub returns-then-has_base_unit-clause-outcome : goal.returns-then-has_base_unit-clause-outcome
returns-then-has_base_unit-clause-outcome c =
    let r = c.args.r.now in
    let t = c.in-Some.step in
    let is : IsStepOf c.args.r.now c.in-Some.step = subst (IsNextStep c.args.r.now) c.in-Some.is c.in_ok-step.ensures.next in
    let s : IsSet r t c.in_ok-remainder.remainder = record { is = is; remainder_is = c.in_ok-remainder.ensures.exact } in
    let old = c.args.units.now.items in
    let remainder = c.in_ok-remainder.remainder in
    let fl : IsTrue (fits remainder) = subst (λ u. IsTrue (fits u)) (sym c.in_ok-remainder.ensures.exact) c.in_ok-remainder.ensures.range in
    let alike = all_fit-alike t.variable t.by (step_absent r t is) old c.requires.indexed.fit in
    let fs : IsTrue (list_all fits (map (replace (multiply t.variable t.by)) old)) = sym alike ∙ c.in_ok-put_in_holders.ensures.range in
    let o : has_other t.variable remainder ≡ false = sym (c.has_other_variable.ensures ∙ ap (list_any (λ (k : Term). is_other t.variable k.atom)) c.terms-2.ensures.terms) ∙ c.if-has_other_variable.false in
    let b : has_base remainder ≡ true = sym (c.has_base_unit.ensures ∙ ap (list_any (λ (k : Term). is_base k.atom)) c.terms-3.ensures.terms) ∙ c.if-has_base_unit.true in
    steps_unsolvable old r t remainder s fl fs o b

pub returns-clause-outcome : goal.returns-clause-outcome
returns-clause-outcome c =
    let r = c.args.r.now in
    let t = c.in-Some.step in
    let is : IsStepOf c.args.r.now c.in-Some.step = subst (IsNextStep c.args.r.now) c.in-Some.is c.in_ok-step.ensures.next in
    let s : IsSet r t c.in_ok-remainder.remainder = record { is = is; remainder_is = c.in_ok-remainder.ensures.exact } in
    let old = c.args.units.now.items in
    let remainder = c.in_ok-remainder.remainder in
    let fl : IsTrue (fits remainder) = subst (λ u. IsTrue (fits u)) (sym c.in_ok-remainder.ensures.exact) c.in_ok-remainder.ensures.range in
    let alike = all_fit-alike t.variable t.by (step_absent r t is) old c.requires.indexed.fit in
    let fs : IsTrue (list_all fits (map (replace (multiply t.variable t.by)) old)) = sym alike ∙ c.in_ok-put_in_holders.ensures.range in
    let o : has_other t.variable remainder ≡ false = sym (c.has_other_variable.ensures ∙ ap (list_any (λ (k : Term). is_other t.variable k.atom)) c.terms-2.ensures.terms) ∙ c.if-has_other_variable.false in
    let b : has_base remainder ≡ false = sym (c.has_base_unit.ensures ∙ ap (list_any (λ (k : Term). is_base k.atom)) c.terms-3.ensures.terms) ∙ c.if-has_base_unit.false in
    λ again. steps_solved old r t remainder s fl fs o b again
    ∙ ap Solved (one_for_all_multiplied t.variable t.by (step_absent r t is) old ∙ sym c.in_ok-put_in_holders.ensures.exact)

pub multiply_holders-requires-clause-m : goal.multiply_holders-requires-clause-m
multiply_holders-requires-clause-m c =
    let r = c.args.r.now in
    let t = c.in-Some.step in
    let is : IsStepOf c.args.r.now c.in-Some.step = subst (IsNextStep c.args.r.now) c.in-Some.is c.in_ok-step.ensures.next in
    step_low _ r t is c.requires.variables

pub multiply_holders-requires-clause-variables : goal.multiply_holders-requires-clause-variables
multiply_holders-requires-clause-variables c =
    let r = c.args.r.now in
    let t = c.in-Some.step in
    let is : IsStepOf c.args.r.now c.in-Some.step = subst (IsNextStep c.args.r.now) c.in-Some.is c.in_ok-step.ensures.next in
    factor_below _ r t is c.requires.variables

pub put_in_holders-requires-clause-m : goal.put_in_holders-requires-clause-m
put_in_holders-requires-clause-m c =
    let r = c.args.r.now in
    let t = c.in-Some.step in
    let is : IsStepOf c.args.r.now c.in-Some.step = subst (IsNextStep c.args.r.now) c.in-Some.is c.in_ok-step.ensures.next in
    step_low _ r t is c.requires.variables

pub put_in_holders-requires-clause-variables : goal.put_in_holders-requires-clause-variables
put_in_holders-requires-clause-variables c =
    let r = c.args.r.now in
    let t = c.in-Some.step in
    let is : IsStepOf c.args.r.now c.in-Some.step = subst (IsNextStep c.args.r.now) c.in-Some.is c.in_ok-step.ensures.next in
    factor_below _ r t is c.requires.variables

pub put_in_holders-requires-clause-absent : goal.put_in_holders-requires-clause-absent
put_in_holders-requires-clause-absent c =
    let r = c.args.r.now in
    let t = c.in-Some.step in
    let is : IsStepOf c.args.r.now c.in-Some.step = subst (IsNextStep c.args.r.now) c.in-Some.is c.in_ok-step.ensures.next in
    step_absent r t is

pub put_in_holders-requires-clause-fits : goal.put_in_holders-requires-clause-fits
put_in_holders-requires-clause-fits c = c.in_ok-step.ensures.fits c.in-Some.step c.in-Some.is

pub returns-then-has_other_variable-clause-variables : goal.returns-then-has_other_variable-clause-variables
returns-then-has_other_variable-clause-variables c =
    let r = c.args.r.now in
    let t = c.in-Some.step in
    let is : IsStepOf c.args.r.now c.in-Some.step = subst (IsNextStep c.args.r.now) c.in-Some.is c.in_ok-step.ensures.next in
    remainder_below _ t.variable t.inverted r t.by c.in_ok-remainder.remainder (factor_below _ r t is c.requires.variables) c.in_ok-remainder.ensures.exact c.requires.variables

pub take_single_step-requires-clause-step : goal.take_single_step-requires-clause-step
take_single_step-requires-clause-step c = subst (IsNextStep c.args.r.now) c.in-Some.is c.in_ok-step.ensures.next

pub take_single_step-requires-clause-single : goal.take_single_step-requires-clause-single
take_single_step-requires-clause-single c = eqb-true (nat_abs (power_of c.args.r.now (Var c.in-Some.step.variable))) 1 (sym c.is_single.ensures ∙ c.if-is_single.true)
