-- Steps one after another: one more at the end, what an odd number of inversions comes to, and which variables they leave.
use Rattle.std.proofs.Common.{◌≡◌, ℕ, Bool, true, false, not, List, [], ◌∷◌, ◌++◌, map, refl, ap, ◌∙◌}
use Rattle.std.specs.Prelude.{All, if◌then◌else◌}
use Rattle.std.proofs.lemmas.List.Elements.{All-nil, All-cons, All-weaker, All-map}
use Rattle.um_units.specs.declared.Atom.{Atom}
use Rattle.um_units.specs.PowerMap.{PowerMap, replace}
use Rattle.um_units.specs.Variables.{VariablesBelow}
use Rattle.um_units.proofs.Group.{inv-inv}
use Rattle.um_elim.specs.declared.elim_step.ElimStep.{ElimStep}
use Rattle.um_elim.specs.ElimStep.{multiply, signed, IsStepOf}
use Rattle.um_elim.proofs.StepVariables.{step_absent, factor_below, remainder_below}
use Rattle.um_elim.proofs.IndexStep.{multiply_stays}
use Rattle.um_elim.proofs.VariablesKept.{Stays, replaced_below}
use Rattle.um_elim.specs.EliminationSteps.{unit_after, units_after, AreStepsOf, IsShear}
use Rattle.um_check.specs.Existence.{signed_by, divided_inverse, inverse_after}
use Rattle.um_kept.specs.Steps.{is_inverted}

-- ---- one more step
pub unit_after-push : (ts : List ElimStep) (t : ElimStep) (r : PowerMap) → unit_after (ts ++ t ∷ []) r ≡ replace (multiply t.variable t.by) (signed t.inverted (unit_after ts r))
unit_after-push [] t r = refl
unit_after-push (s ∷ ts) t r = unit_after-push ts t (replace (multiply s.variable s.by) (signed s.inverted r))

pub units_after-push : (ts : List ElimStep) (t : ElimStep) (us : List PowerMap) → units_after (ts ++ t ∷ []) us ≡ map (replace (multiply t.variable t.by)) (units_after ts us)
units_after-push [] t us = refl
units_after-push (s ∷ ts) t us = units_after-push ts t (map (replace (multiply s.variable s.by)) us)

pub inverse_after-push : (ts : List ElimStep) (t : ElimStep) (back : Atom → PowerMap) → inverse_after (ts ++ t ∷ []) back ≡ divided_inverse t.variable t.by (inverse_after ts back)
inverse_after-push [] t back = refl
inverse_after-push (s ∷ ts) t back = inverse_after-push ts t (divided_inverse s.variable s.by back)

pub steps-push : (ts : List ElimStep) (t : ElimStep) (r : PowerMap) → AreStepsOf r ts → IsStepOf (unit_after ts r) t → AreStepsOf r (ts ++ t ∷ [])
steps-push [] t r are is = (is, tt)
steps-push (s ∷ ts) t r are is = (are.0, steps-push ts t (replace (multiply s.variable s.by) (signed s.inverted r)) are.1 is)

-- ---- inversions
pub signed_by-inverted : (ts : List ElimStep) (u : PowerMap) → signed_by ts u ≡ signed (is_inverted ts) u
signed_by-inverted [] u = refl
signed_by-inverted (t ∷ ts) u = signed_by-inverted ts (signed t.inverted u) ∙ twice t.inverted (is_inverted ts)
  where
    twice : (a b : Bool) → signed b (signed a u) ≡ signed (if a then not b else b) u
    twice true true = inv-inv u
    twice true false = refl
    twice false b = refl

pub is_inverted-push : (ts : List ElimStep) (t : ElimStep) → is_inverted (ts ++ t ∷ []) ≡ (if t.inverted then not (is_inverted ts) else is_inverted ts)
is_inverted-push [] t = refl
is_inverted-push (s ∷ ts) t = ap (λ b. if s.inverted then not b else b) (is_inverted-push ts t) ∙ swapped s.inverted t.inverted (is_inverted ts)
  where
    swapped : (a b i : Bool) → (if a then not (if b then not i else i) else (if b then not i else i)) ≡ (if b then not (if a then not i else i) else (if a then not i else i))
    swapped true true i = refl
    swapped true false i = refl
    swapped false true i = refl
    swapped false false i = refl

-- ---- each step can be undone
pub steps_are_shears : (ts : List ElimStep) (r : PowerMap) → AreStepsOf r ts → All IsShear ts
steps_are_shears [] r are = All-nil IsShear
steps_are_shears (t ∷ ts) r are = All-cons IsShear t ts (step_absent r t are.0) (steps_are_shears ts (replace (multiply t.variable t.by) (signed t.inverted r)) are.1)

-- ---- variables below a number stay below it
pub all_replaced : (n : ℕ) (s : ℕ → PowerMap) → Stays n s → (us : List PowerMap) → All (VariablesBelow n) us → All (VariablesBelow n) (map (replace s) us)
all_replaced n s stays us all =
    All-map (VariablesBelow n) (replace s) us (All-weaker (VariablesBelow n) (λ u. VariablesBelow n (replace s u)) (λ u h. replaced_below n s stays u h) us all)

pub unit_after_step_below : (n : ℕ) (r : PowerMap) (t : ElimStep) → VariablesBelow n r → IsStepOf r t → VariablesBelow n (replace (multiply t.variable t.by) (signed t.inverted r))
unit_after_step_below n r t below is =
    remainder_below n t.variable t.inverted r t.by (replace (multiply t.variable t.by) (signed t.inverted r)) (factor_below n r t is below) refl below

pub all_after_step_below : (n : ℕ) (ts : List ElimStep) (r : PowerMap) (us : List PowerMap) → VariablesBelow n r → AreStepsOf r ts → All (VariablesBelow n) us → All (VariablesBelow n) (units_after ts us)
all_after_step_below n [] r us below are all = all
all_after_step_below n (t ∷ ts) r us below are all =
    all_after_step_below n ts (replace (multiply t.variable t.by) (signed t.inverted r)) (map (replace (multiply t.variable t.by)) us) (unit_after_step_below n r t below are.0) are.1
    (all_replaced n (multiply t.variable t.by) (multiply_stays n t.variable t.by (factor_below n r t are.0 below)) us all)
