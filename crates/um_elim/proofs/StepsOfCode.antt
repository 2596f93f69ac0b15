-- A step, as the code makes it, against the definition.
use Rattle.std.proofs.Common.{◌≡◌, suc, ◌<◌, ◌≤◌, ◌<ℤ◌, to_z, of_z, w32, true, false, cond, ◌&&◌, List, map, ℤ, pos, nat_abs, refl, sym, ap, ◌∙◌, subst, arith}
use Rattle.std.specs.Prelude.{IsTrue, IsFalse}
use Rattle.std.specs.List.{list_all}
use Rattle.std.proofs.lemmas.Bool.{and_left, and_right, and_from}
use Rattle.um_units.specs.declared.Atom.TheVariants.{Var}
use Rattle.um_units.specs.declared.UnitStop.{UnitStop}
use Rattle.um_units.specs.declared.UnitStop.TheVariants as unit
use Rattle.um_units.specs.PowerMap.{PowerMap, power_of, one, replace, nth}
use Rattle.um_units.specs.Range.{fits, IsStopUnless}
use Rattle.um_elim.specs.declared.elim_step.ElimStep.{ElimStep}
use Rattle.um_elim.specs.declared.stop.ElimStop.{ElimStop}
use Rattle.um_elim.specs.declared.stop.ElimStop.TheVariants as stop
use Rattle.um_pivots.specs.Pivot.{pivot, least_power, size, has_other, has_base}
use Rattle.um_elim.specs.ElimStep.{substitute, multiply, step, inverted_if_negative, signed, IsStepOf}
use Rattle.um_elim.specs.Elimination.{Elimination, Solved, NoSolution, Range, ended, after_step, step_at, steps, eliminate}
use Rattle.um_elim.specs.Stops.{stop_of}
use Rattle.um_elim.specs.Steps.{StepGives, StopsStep, StopsAs}
use Rattle.um_elim.proofs.PivotLaws.{is_pivot}
use Rattle.um_elim.proofs.StepLaws.{signed_inverted, power_of-step_other, least_power-falls, positive_pivot, positive_size}
use Rattle.um_elim.proofs.InRange.{kept32}
use Rattle.std.proofs.lemmas.Int.{ints}
use Rattle.um_elim.proofs.Rows.{steps-enough}

-- what the code has after it made the step t of r
pub record IsSet (r : PowerMap) (t : ElimStep) (remainder : PowerMap) : Type 0 where
  pub is : IsStepOf r t
  pub remainder_is : remainder ≡ replace (multiply t.variable t.by) (signed t.inverted r)

module _ (old : List PowerMap) (r : PowerMap) (t : ElimStep) (remainder : PowerMap) (s : IsSet r t remainder) where
  goes_on : (again : List PowerMap → PowerMap → Elimination) → step_at again old r (pivot r) ≡ after_step again t.variable (map (replace (multiply t.variable t.by)) old) remainder
  goes_on again =
      let p = s.is.0 in
      ap (step_at again old r) s.is.1
      ∙ ap (λ u. after_step again p.variable (map (replace (step p.variable (nat_abs p.power) (inverted_if_negative p.power r))) old) (replace (step p.variable (nat_abs p.power) (inverted_if_negative p.power r)) u)) (sym (signed_inverted p.power r))
      ∙ ap (λ (x : ElimStep). after_step again x.variable (map (replace (multiply x.variable x.by)) old) (replace (multiply x.variable x.by) (signed x.inverted r))) (sym s.is.2)
      ∙ ap (after_step again t.variable (map (replace (multiply t.variable t.by)) old)) (sym s.remainder_is)

  not_in_range : IsFalse (fits remainder && list_all fits (map (replace (multiply t.variable t.by)) old)) → StepGives old r (λ again. Range)
  not_in_range n again = goes_on again ∙ rw n refl

  pub remainder_stops : (e : UnitStop) → IsStopUnless (fits remainder) e → StopsStep old r (stop_of e)
  remainder_stops unit.Range n = not_in_range (and_left (fits remainder) _ n)
  remainder_stops unit.NoMemory n = tt

  pub slots_stop : (e : UnitStop) → IsStopUnless (list_all fits (map (replace (multiply t.variable t.by)) old)) e → StopsStep old r (stop_of e)
  slots_stop unit.Range n = not_in_range (and_right (fits remainder) _ n)
  slots_stop unit.NoMemory n = tt

  module _ (f : IsTrue (fits remainder)) (g : IsTrue (list_all fits (map (replace (multiply t.variable t.by)) old))) where
    in_range : (again : List PowerMap → PowerMap → Elimination) → step_at again old r (pivot r) ≡ cond (has_other t.variable remainder) (again (map (replace (multiply t.variable t.by)) old) remainder) (ended t.variable (map (replace (multiply t.variable t.by)) old) remainder)
    in_range again = goes_on again ∙ rw (and_from (fits remainder) _ f g) refl

    pub steps_again : has_other t.variable remainder ≡ true → StepGives old r (λ again. again (map (replace (multiply t.variable t.by)) old) remainder)
    steps_again o again = in_range again ∙ rw o refl

    pub steps_unsolvable : has_other t.variable remainder ≡ false → has_base remainder ≡ true → StepGives old r (λ again. NoSolution)
    steps_unsolvable o b again = in_range again ∙ rw (o, b) refl

    pub steps_solved : has_other t.variable remainder ≡ false → has_base remainder ≡ false → StepGives old r (λ again. Solved (map (replace (substitute t.variable one)) (map (replace (multiply t.variable t.by)) old)))
    steps_solved o b again = in_range again ∙ rw (o, b) refl

  pub least_power-lower : has_other t.variable remainder ≡ true → least_power remainder < least_power r
  least_power-lower o =
      let p = s.is.0 in
      let found = is_pivot r p s.is.1 in
      let m = p.variable in
      let n = nat_abs p.power in
      let q = inverted_if_negative p.power r in
      let at : power_of q (Var m) ≡ pos n = positive_pivot p.power m r found.is in
      let h : 0 < n = positive_size p.power found.nonzero in
      let e : remainder ≡ replace (step m n q) q = s.remainder_is ∙ ap (λ (x : ElimStep). replace (multiply x.variable x.by) (signed x.inverted r)) s.is.2 ∙ ap (replace (step m n q)) (signed_inverted p.power r) in
      let o' : has_other m (replace (step m n q) q) ≡ true = sym (ap (has_other m) e) ∙ ap (λ (x : ElimStep). has_other x.variable remainder) (sym s.is.2) ∙ o in
      let l = least_power-falls m n (replace (step m n q) q) (power_of-step_other m n q h at) o' in
      subst (λ a. least_power remainder < size a) (sym s.is.1) (subst (λ u. least_power u < n) (sym e) l)

-- ---- the loop over the steps
pub first_stops : (us : List PowerMap) (row : PowerMap) (e : UnitStop) → IsStopUnless (fits (replace (nth us) row)) e → StopsAs (eliminate us row) (stop_of e)
first_stops us row unit.Range n = rw n refl
first_stops us row unit.NoMemory n = tt

pub first_steps : (us : List PowerMap) (row r : PowerMap) → r ≡ replace (nth us) row → IsTrue (fits (replace (nth us) row)) → steps (suc (least_power r)) us r ≡ eliminate us row
first_steps us row r e f = ap (λ u. steps (suc (least_power u)) us u) e ∙ sym (rw f refl)

pub step_stops : (us : List PowerMap) (r : PowerMap) (o : Elimination) → steps (suc (least_power r)) us r ≡ o → (e : ElimStop) → StopsStep us r e → StopsAs o e
step_stops us r o is stop.NoSolution g = sym is ∙ g (steps (least_power r))
step_stops us r o is stop.Range g = sym is ∙ g (steps (least_power r))
step_stops us r o is stop.Spent g = g
step_stops us r o is stop.NoMemory g = tt

pub step_goes_on : (us new : List PowerMap) (r remainder : PowerMap) (o : Elimination) → steps (suc (least_power r)) us r ≡ o → StepGives us r (λ again. again new remainder) → least_power remainder < least_power r →
    steps (suc (least_power remainder)) new remainder ≡ o
step_goes_on us new r remainder o is g l =
    steps-enough (suc (least_power remainder)) (least_power r) new remainder (omega arith) l ∙ sym (g (steps (least_power r))) ∙ is

-- ---- the powers as the code passes them, in 32 bits
pub passed_size : (a n : ℤ) → nat_abs a ≤ 2147483647 → n ≡ pos (nat_abs (to_z w32 (of_z w32 a))) → to_z w32 (of_z w32 n) ≡ pos (nat_abs a)
passed_size a n h e =
    let f : n ≡ pos (nat_abs a) = e ∙ ap (λ z. pos (nat_abs z)) (kept32 a h) in
    ap (λ z. to_z w32 (of_z w32 z)) f ∙ kept32 (pos (nat_abs a)) h

pub passed_positive : (a n : ℤ) → nat_abs a ≤ 2147483647 → 0 < nat_abs a → n ≡ pos (nat_abs (to_z w32 (of_z w32 a))) → pos 0 <ℤ to_z w32 (of_z w32 n)
passed_positive a n h g e = rw (passed_size a n h e) (omega (arith, ints, g))
