use Rattle.std.proofs.Common.{◌≡◌, ◌∙◌, Bool, true, false, not, nat_abs, refl, sym, ap, subst, map}
use Rattle.std.specs.Prelude.{OnOk}
use Rattle.std.specs.List.{list_all}
use Rattle.um_units.specs.declared.Atom.TheVariants.{Var}
use Rattle.um_units.specs.PowerMap.{PowerMap, power_of, atom, inv, mul, replace}
use Rattle.um_units.specs.Range.{fits, RangeUnless}
use Rattle.um_elim.specs.declared.elim_step.ElimStep.{ElimStep}
use Rattle.um_elim.specs.ElimStep.{multiply, signed, substitute, IsStepOf}
use Rattle.um_elim.proofs.StepVariables.{step_low, step_absent, factor_below}
use Rattle.um_elim.proofs.LastStep.{multiply-over_variable}
use Rattle.um_elim.proofs.SingleSteps.{single_change}
use Rattle.um_elim.proofs.step.put_single_step.Goals as goal

-- where the step inverts r, or doesn't, its change is r, or the inverse
changed : (r change : PowerMap) (t : ElimStep) (b : Bool) → change ≡ signed (not b) r → t.inverted ≡ b → IsStepOf r t → nat_abs (power_of r (Var t.variable)) ≡ 1 → change ≡ mul t.by (inv (atom (Var t.variable)))
changed r change t b e i is h = e ∙ ap (λ d. signed (not d) r) (sym i) ∙ single_change r t is h

-- the variable times its change is what is put for it
put : (r change : PowerMap) (t : ElimStep) (b : Bool) → change ≡ signed (not b) r → t.inverted ≡ b → IsStepOf r t → nat_abs (power_of r (Var t.variable)) ≡ 1 → multiply t.variable change ≡ substitute t.variable t.by
put r change t b e i is h = ap (multiply t.variable) (changed r change t b e i is h) ∙ multiply-over_variable t.variable t.by

-- ---- the step inverts r
pub put_in_each-requires-clause-variable : goal.put_in_each-requires-clause-variable
put_in_each-requires-clause-variable c = step_low _ c.args.r.now c.args.step.now c.requires.step c.requires.variables

pub invariant_of-replacement-clause-absent : goal.invariant_of-replacement-clause-absent
invariant_of-replacement-clause-absent c = step_absent c.args.r.now c.args.step.now c.requires.step

pub put_in_each-requires-clause-variables : goal.put_in_each-requires-clause-variables
put_in_each-requires-clause-variables c = factor_below _ c.args.r.now c.args.step.now c.requires.step c.requires.variables

pub invariant_of-replacement-clause-over : goal.invariant_of-replacement-clause-over
invariant_of-replacement-clause-over c = changed c.args.r.now c.args.r.now c.args.step.now true refl c.if-step.true c.requires.step c.requires.single

pub returns-then-step-clause-exact : goal.returns-then-step-clause-exact
returns-then-step-clause-exact c =
    let same = put c.args.r.now c.args.r.now c.args.step.now true refl c.if-step.true c.requires.step c.requires.single in
    subst (λ s. OnOk c.put_in_each.result (c.put_in_each.new.units.items ≡ map (replace s) c.args.units.now.items)) same c.put_in_each.ensures.exact

pub returns-then-step-clause-range : goal.returns-then-step-clause-range
returns-then-step-clause-range c =
    let same = put c.args.r.now c.args.r.now c.args.step.now true refl c.if-step.true c.requires.step c.requires.single in
    subst (λ s. RangeUnless c.put_in_each.result (list_all fits (map (replace s) c.args.units.now.items))) same c.put_in_each.ensures.range

-- ---- it doesn't
pub put_in_each-requires-2-clause-variable : goal.put_in_each-requires-2-clause-variable
put_in_each-requires-2-clause-variable c = step_low _ c.args.r.now c.args.step.now c.requires.step c.requires.variables

pub invariant_of-replacement-2-clause-absent : goal.invariant_of-replacement-2-clause-absent
invariant_of-replacement-2-clause-absent c = step_absent c.args.r.now c.args.step.now c.requires.step

pub put_in_each-requires-2-clause-variables : goal.put_in_each-requires-2-clause-variables
put_in_each-requires-2-clause-variables c = factor_below _ c.args.r.now c.args.step.now c.requires.step c.requires.variables

pub invariant_of-replacement-2-clause-over : goal.invariant_of-replacement-2-clause-over
invariant_of-replacement-2-clause-over c = changed c.args.r.now c.in_ok-change.change c.args.step.now false c.in_ok-change.ensures.exact c.if-step.false c.requires.step c.requires.single

pub returns-clause-exact : goal.returns-clause-exact
returns-clause-exact c =
    let same = put c.args.r.now c.in_ok-change.change c.args.step.now false c.in_ok-change.ensures.exact c.if-step.false c.requires.step c.requires.single in
    subst (λ s. OnOk c.put_in_each-2.result (c.put_in_each-2.new.units.items ≡ map (replace s) c.args.units.now.items)) same c.put_in_each-2.ensures.exact

pub returns-clause-range : goal.returns-clause-range
returns-clause-range c =
    let same = put c.args.r.now c.in_ok-change.change c.args.step.now false c.in_ok-change.ensures.exact c.if-step.false c.requires.step c.requires.single in
    subst (λ s. RangeUnless c.put_in_each-2.result (list_all fits (map (replace s) c.args.units.now.items))) same c.put_in_each-2.ensures.range
