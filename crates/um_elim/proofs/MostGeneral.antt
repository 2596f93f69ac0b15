-- The steps give the most general solution of a unit: what is right after a step is right before it.
-- Source: Kennedy (1996), on unification in the free abelian group.
use Rattle.std.proofs.Common.{◌≡◌, ℕ, zero, suc, ◌<◌, ◌≤◌, true, false, ◌&&◌, Option, Some, None, List, [], ◌∷◌, map, ℤ, pos, nat_abs, refl, sym, ap, ◌∙◌, arith}
use Rattle.std.specs.List.{list_all}
use Rattle.um_units.specs.declared.Atom.{Atom}
use Rattle.um_units.specs.declared.Atom.TheVariants.{Base, Var}
use Rattle.um_units.specs.declared.Term.{Term}
use Rattle.um_units.specs.Atoms.{same_atom}
use Rattle.um_units.specs.Terms.{indicator, power_in}
use Rattle.um_units.specs.PowerMap.{PowerMap, power_of, one, replace}
use Rattle.um_units.specs.Range.{fits}
use Rattle.um_units.proofs.Equality.{same_unit}
use Rattle.um_units.proofs.Group.{weight-one, terms-one}
use Rattle.um_units.proofs.Replacement.{replace-one, replace-replace, replace-closed}
use Rattle.um_pivots.specs.declared.pivot.Pivot.{Pivot}
use Rattle.um_pivots.specs.Pivot.{pivot, size, least_power, has_other, has_base}
use Rattle.um_elim.specs.ElimStep.{substitute, step, inverted_if_negative}
use Rattle.um_elim.specs.Elimination.{Elimination, Solved, NoSolution, Range, is_empty, ended, after_step, step_at, steps}
use Rattle.um_elim.proofs.Cases.{on_test}
use Rattle.um_elim.proofs.PivotLaws.{is_pivot, no_pivot}
use Rattle.um_elim.proofs.StepLaws.{IsRemainder, power_of-step_pivot, power_of-step_other, least_power-falls, step_back, after_step_back, positive_pivot, inverted_solved, inverted_solves, positive_size}
use Rattle.um_elim.proofs.EndLaws.{unsolvable_end, pivot_is_one, one_solves, after_one, one_for_pivot}

-- the substitutions that solve r give the old units exactly the values that any substitution gives the new ones
pub record Generates (old : List PowerMap) (r : PowerMap) (new : List PowerMap) : Type 0 where
  pub each : (s : ℕ → PowerMap) → replace s r ≡ one → (t : ℕ → PowerMap) × (map (replace t) new ≡ map (replace s) old)
  pub only : (t : ℕ → PowerMap) → (s : ℕ → PowerMap) × (replace s r ≡ one) × (map (replace s) old ≡ map (replace t) new)

abbrev pub IsSound : List PowerMap → PowerMap → Elimination → Type 0
IsSound old r (Solved new) = Generates old r new
IsSound old r NoSolution = (s : ℕ → PowerMap) → replace s r ≡ one → ⊥
IsSound old r Range = Unit {0}

-- s after t
abbrev pub after : (ℕ → PowerMap) → (ℕ → PowerMap) → ℕ → PowerMap
after s t k = replace s (t k)

map-after : (s t : ℕ → PowerMap) (us : List PowerMap) → map (replace s) (map (replace t) us) ≡ map (replace (after s t)) us
map-after s t [] = refl
map-after s t (u ∷ us) = λ i. replace-replace t s u i ∷ map-after s t us i

-- ---- a step
undone : (m p : ℕ) (q u : PowerMap) (s : ℕ → PowerMap) → replace (after s (step_back m p q)) (replace (step m p q) u) ≡ replace s u
undone m p q u s = sym (replace-replace (step_back m p q) s (replace (step m p q) u)) ∙ ap (replace s) (after_step_back m p q u)

map-undone : (m p : ℕ) (q : PowerMap) (s : ℕ → PowerMap) (us : List PowerMap) → map (replace (after s (step_back m p q))) (map (replace (step m p q)) us) ≡ map (replace s) us
map-undone m p q s [] = refl
map-undone m p q s (u ∷ us) = λ i. undone m p q u s i ∷ map-undone m p q s us i

before_step : (m p : ℕ) (a : ℤ) (r : PowerMap) (old : List PowerMap) (o : Elimination) →
    IsSound (map (replace (step m p (inverted_if_negative a r))) old) (replace (step m p (inverted_if_negative a r)) (inverted_if_negative a r)) o → IsSound old r o
before_step m p a r old (Solved new) g =
    let q = inverted_if_negative a r in
    record {
      each = λ s h.
          let w = g.each (after s (step_back m p q)) (undone m p q q s ∙ inverted_solved s a r h) in
          (w.0, w.1 ∙ map-undone m p q s old);
      only = λ t.
          let w = g.only t in
          (after w.0 (step m p q), inverted_solves (after w.0 (step m p q)) a r (sym (replace-replace (step m p q) w.0 q) ∙ w.1), sym (map-after w.0 (step m p q) old) ∙ w.2);
    }
before_step m p a r old NoSolution g = λ s h. g (after s (step_back m p (inverted_if_negative a r))) (undone m p (inverted_if_negative a r) (inverted_if_negative a r) s ∙ inverted_solved s a r h)
before_step m p a r old Range g = tt

-- ---- the end of a row
ended_sound : (m p : ℕ) (r : PowerMap) (old : List PowerMap) → 0 < p → power_of r (Var m) ≡ pos p → ((b : ℕ) → IsRemainder p (power_of r (Base b))) → has_other m r ≡ false → IsSound old r (ended m old r)
ended_sound m p r old h e small o =
    on_test (has_base r)
    (λ f. rw f (unsolvable_end m p r e small o f))
    (λ f. rw f (record {
      each = λ s solved. (s, map-after s (substitute m one) old ∙ ap (λ t. map (replace t) old) (λ i k. after_one m s (pivot_is_one m p r h e o f s solved) k i));
      only = λ t. (after t (substitute m one), one_solves m p r e o f (after t (substitute m one)) (one_for_pivot m t), sym (map-after t (substitute m one) old));
    }))

after_step_sound : (again : List PowerMap → PowerMap → Elimination) (n m p : ℕ) (r : PowerMap) (old : List PowerMap) →
    ((us : List PowerMap) (u : PowerMap) → least_power u < n → IsSound us u (again us u)) →
    0 < p → p ≤ n → power_of r (Var m) ≡ pos p → ((y : Atom) → same_atom (Var m) y ≡ false → IsRemainder p (power_of r y)) →
    IsSound old r (after_step again m old r)
after_step_sound again n m p r old rest h l e small =
    on_test (fits r && list_all fits old)
    (λ f. rw f (on_test (has_other m r)
    (λ g. rw g (let w = least_power-falls m p r small g in rest old r (omega (arith, w, l))))
    (λ g. rw g (ended_sound m p r old h e (λ b. small (Base b) refl) g))))
    (λ f. rw f tt)

-- ---- no variable
empty_one : (r : PowerMap) → is_empty r.terms ≡ true → r ≡ one
empty_one r f = same_unit _ _ (λ x. ap (λ ts. power_in ts x) (no_terms r.terms f) ∙ sym (weight-one (indicator x)))
  where
    no_terms : (ts : List Term) → is_empty ts ≡ true → ts ≡ []
    no_terms [] f = refl
    no_terms (t ∷ ts) f = cc

one_empty : (r : PowerMap) → r ≡ one → is_empty r.terms ≡ true
one_empty r e = ap (λ (u : PowerMap). is_empty u.terms) e ∙ ap is_empty terms-one

-- ---- all steps
step_at_sound : (again : List PowerMap → PowerMap → Elimination) (n : ℕ) (old : List PowerMap) (r : PowerMap) →
    ((us : List PowerMap) (u : PowerMap) → least_power u < n → IsSound us u (again us u)) →
    (o : Option Pivot) → pivot r ≡ o → size o ≤ n → IsSound old r (step_at again old r o)
step_at_sound again n old r rest None e l =
    on_test (is_empty r.terms)
    (λ f. rw f (record { each = λ s h. (s, refl); only = λ t. (t, ap (replace t) (empty_one r f) ∙ replace-one t, refl) }))
    (λ f. rw f (λ s h. let g = one_empty r (sym (replace-closed s r (no_pivot r e)) ∙ h) in cc))
step_at_sound again n old r rest (Some t) e l =
    let found = is_pivot r t e in
    let m = t.variable in
    let p = nat_abs t.power in
    let q = inverted_if_negative t.power r in
    let at : power_of q (Var m) ≡ pos p = positive_pivot t.power m r found.is in
    let h : 0 < p = positive_size t.power found.nonzero in
    before_step m p t.power r old _
    (after_step_sound again n m p (replace (step m p q) q) (map (replace (step m p q)) old) rest h l (power_of-step_pivot m p q ∙ at) (power_of-step_other m p q h at))

-- the steps answer right where they are enough
pub steps_sound : (n : ℕ) (old : List PowerMap) (r : PowerMap) → least_power r < n → IsSound old r (steps n old r)
steps_sound zero old r l = absurd (omega (arith, l))
steps_sound (suc n) old r l = step_at_sound (steps n) n old r (steps_sound n) (pivot r) refl (omega (arith, l))
