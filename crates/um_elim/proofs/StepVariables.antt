-- The variables of the units of a step are slots.
use Rattle.std.proofs.Common.{◌≡◌, ℕ, ◌<◌, Bool, true, false, sym, ◌∙◌, subst, pos, nat_abs}
use Rattle.um_units.specs.declared.Atom.TheVariants.{Var}
use Rattle.um_units.specs.PowerMap.{PowerMap, power_of, replace}
use Rattle.um_units.specs.Variables.{VariablesBelow}
use Rattle.um_units.proofs.Variables.{VariablesBelow-inv}
use Rattle.um_elim.specs.declared.elim_step.ElimStep.{ElimStep}
use Rattle.um_elim.specs.ElimStep.{multiply, inverted_if_negative, signed, IsStepOf}
use Rattle.um_elim.proofs.PivotLaws.{is_pivot}
use Rattle.um_elim.proofs.StepLaws.{power_of-quotients_pivot}
use Rattle.um_elim.proofs.VariablesKept.{quotients_below, inverted_below, replaced_below}
use Rattle.um_elim.proofs.IndexStep.{multiply_stays}

module _ (n : ℕ) (r : PowerMap) (t : ElimStep) (is : IsStepOf r t) where
  pub step_low : VariablesBelow n r → t.variable < n
  step_low below =
      let found = is_pivot r is.0 is.1 in
      subst (λ (x : ElimStep). x.variable < n) (sym is.2) (below is.0.variable (λ z. found.nonzero (sym found.is ∙ z)))

  pub factor_below : VariablesBelow n r → VariablesBelow n t.by
  factor_below below =
      let p = is.0 in
      subst (λ (x : ElimStep). VariablesBelow n x.by) (sym is.2)
      (quotients_below n p.variable (nat_abs p.power) (inverted_if_negative p.power r) (inverted_below n p.power r below))

-- the variable of a step doesn't stand in what it is multiplied by
pub step_absent : (r : PowerMap) (t : ElimStep) → IsStepOf r t → power_of t.by (Var t.variable) ≡ pos 0
step_absent r t is =
    let p = is.0 in
    subst (λ (x : ElimStep). power_of x.by (Var x.variable) ≡ pos 0) (sym is.2)
    (power_of-quotients_pivot p.variable (nat_abs p.power) (inverted_if_negative p.power r))

signed_below : (n : ℕ) (b : Bool) (r : PowerMap) → VariablesBelow n r → VariablesBelow n (signed b r)
signed_below n true r below = VariablesBelow-inv n r below
signed_below n false r below = below

pub remainder_below : (n m : ℕ) (b : Bool) (r w remainder : PowerMap) → VariablesBelow n w → remainder ≡ replace (multiply m w) (signed b r) → VariablesBelow n r → VariablesBelow n remainder
remainder_below n m b r w remainder low made below =
    subst (VariablesBelow n) (sym made) (replaced_below n (multiply m w) (multiply_stays n m w low) (signed b r) (signed_below n b r below))
