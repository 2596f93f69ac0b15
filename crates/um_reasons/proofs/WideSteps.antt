-- Elimination steps whatever the size of powers: what is right after a step is right before it.
-- Source: Kennedy (1996), on unification in the free abelian group.
use Rattle.std.proofs.Common.{◌≡◌, ℕ, ◌<◌, true, false, Some, None, List, [], ◌∷◌, map, length, pos, nat_abs, refl, sym, ap, ◌∙◌, subst, arith}
use Rattle.um_units.specs.declared.Atom.{Atom}
use Rattle.um_units.specs.declared.Atom.TheVariants.{Base, Var}
use Rattle.um_units.specs.declared.Term.{Term}
use Rattle.um_units.specs.Atoms.{same_atom}
use Rattle.um_units.specs.Terms.{indicator, power_in}
use Rattle.um_units.specs.PowerMap.{PowerMap, power_of, one, replace, nth}
use Rattle.um_units.specs.Variables.{VariablesBelow}
use Rattle.um_units.proofs.Equality.{same_unit}
use Rattle.um_units.proofs.Group.{weight-one, terms-one}
use Rattle.um_units.proofs.Replacement.{replace-one, replace-replace, replace-closed, replace-nth_map}
use Rattle.um_pivots.specs.declared.pivot.Pivot.{Pivot}
use Rattle.um_pivots.specs.Pivot.{pivot, size, least_power, has_other, has_base}
use Rattle.um_elim.specs.ElimStep.{substitute, step, inverted_if_negative}
use Rattle.um_elim.specs.Elimination.{Elimination, Solved, NoSolution, Range, is_empty, ended}
use Rattle.um_elim.specs.Instances.{Satisfies, IsRight}
use Rattle.um_elim.proofs.Cases.{on_test}
use Rattle.um_elim.proofs.PivotLaws.{is_pivot, no_pivot}
use Rattle.um_elim.proofs.StepLaws.{IsRemainder, power_of-step_pivot, power_of-step_other, least_power-falls, step_back, after_step_back, positive_pivot, inverted_solved, inverted_solves, positive_size}
use Rattle.um_elim.proofs.EndLaws.{unsolvable_end, pivot_is_one, one_solves, after_one, one_for_pivot}
use Rattle.um_elim.proofs.MostGeneral.{IsSound, after}
use Rattle.um_reasons.specs.declared.wide_step.Stepped.{Stepped}
use Rattle.um_reasons.specs.Search.{outcome}
use Rattle.um_reasons.specs.Wide.{IsAfterStep}

map-after : (s t : ℕ → PowerMap) (us : List PowerMap) → map (replace s) (map (replace t) us) ≡ map (replace (after s t)) us
map-after s t [] = refl
map-after s t (u ∷ us) = λ i. replace-replace t s u i ∷ map-after s t us i

-- ---- a step
undone : (m p : ℕ) (q u : PowerMap) (s : ℕ → PowerMap) → replace (after s (step_back m p q)) (replace (step m p q) u) ≡ replace s u
undone m p q u s = sym (replace-replace (step_back m p q) s (replace (step m p q) u)) ∙ ap (replace s) (after_step_back m p q u)

map-undone : (m p : ℕ) (q : PowerMap) (s : ℕ → PowerMap) (us : List PowerMap) → map (replace (after s (step_back m p q))) (map (replace (step m p q)) us) ≡ map (replace s) us
map-undone m p q s [] = refl
map-undone m p q s (u ∷ us) = λ i. undone m p q u s i ∷ map-undone m p q s us i

module _ (r : PowerMap) (at : Pivot) where
  abbrev m : ℕ
  m = at.variable

  abbrev p : ℕ
  p = nat_abs at.power

  abbrev q : PowerMap
  q = inverted_if_negative at.power r

  abbrev left : PowerMap
  left = replace (step m p q) q

  pub before_step : (old : List PowerMap) (o : Elimination) → IsSound (map (replace (step m p q)) old) left o → IsSound old r o
  before_step old (Solved new) g = record {
    each = λ s h.
        let w = g.each (after s (step_back m p q)) (undone m p q q s ∙ inverted_solved s at.power r h) in
        (w.0, w.1 ∙ map-undone m p q s old);
    only = λ t.
        let w = g.only t in
        (after w.0 (step m p q), inverted_solves (after w.0 (step m p q)) at.power r (sym (replace-replace (step m p q) w.0 q) ∙ w.1), sym (map-after w.0 (step m p q) old) ∙ w.2);
  }
  before_step old NoSolution g = λ s h. g (after s (step_back m p q)) (undone m p q q s ∙ inverted_solved s at.power r h)
  before_step old Range g = tt

  module _ (is : pivot r ≡ Some at) where
    pub positive : 0 < p
    positive = positive_size at.power (is_pivot r at is).nonzero

    power_positive : power_of q (Var m) ≡ pos p
    power_positive = positive_pivot at.power m r (is_pivot r at is).is

    power_left : power_of left (Var m) ≡ pos p
    power_left = power_of-step_pivot m p q ∙ power_positive

    remainders : (y : Atom) → same_atom (Var m) y ≡ false → IsRemainder p (power_of left y)
    remainders = power_of-step_other m p q positive power_positive

    -- the least power falls
    pub falls : has_other m left ≡ true → least_power left < least_power r
    falls other =
        let low = least_power-falls m p left remainders other in
        let same = ap size is in
        omega (arith, low, same)

    -- ---- the end of a row
    pub ended_sound : (old : List PowerMap) → has_other m left ≡ false → IsSound old left (ended m old left)
    ended_sound old o =
        on_test (has_base left)
        (λ f. rw f (unsolvable_end m p left power_left (λ b. remainders (Base b) refl) o f))
        (λ f. rw f (record {
          each = λ s solved. (s, map-after s (substitute m one) old ∙ ap (λ t. map (replace t) old) (λ i k. after_one m s (pivot_is_one m p left positive power_left o f s solved) k i));
          only = λ t. (after t (substitute m one), one_solves m p left power_left o f (after t (substitute m one)) (one_for_pivot m t), sym (map-after t (substitute m one) old));
        }))

    -- ---- after a step of the code
    module _ (us : List PowerMap) (after_it : Stepped) (a : IsAfterStep at us r after_it) where
      pub step_again : (o : Elimination) → IsSound after_it.units.items after_it.left o → IsSound us r o
      step_again o h = before_step us o (subst (λ z. IsSound z left o) a.units (subst (λ z. IsSound after_it.units.items z o) a.left h))

      pub step_falls : has_other m after_it.left ≡ true → least_power after_it.left < least_power r
      step_falls f = subst (λ z. least_power z < least_power r) (sym a.left) (falls (subst (λ z. has_other m z ≡ true) a.left f))

      pub step_ends : (o : Elimination) → has_other m after_it.left ≡ false → o ≡ ended m after_it.units.items after_it.left → IsSound us r o
      step_ends o f e =
          before_step us o
          (subst (IsSound (map (replace (step m p q)) us) left) (sym (e ∙ (λ i. ended m (a.units i) (a.left i))))
          (ended_sound (map (replace (step m p q)) us) (subst (λ z. has_other m z ≡ false) a.left f)))

-- ---- no variable
empty_one : (r : PowerMap) → is_empty r.terms ≡ true → r ≡ one
empty_one r f = same_unit _ _ (λ x. ap (λ ts. power_in ts x) (no_terms r.terms f) ∙ sym (weight-one (indicator x)))
  where
    no_terms : (ts : List Term) → is_empty ts ≡ true → ts ≡ []
    no_terms [] f = refl
    no_terms (t ∷ ts) f = cc

one_empty : (r : PowerMap) → r ≡ one → is_empty r.terms ≡ true
one_empty r e = ap (λ (u : PowerMap). is_empty u.terms) e ∙ ap is_empty terms-one

pub closed_sound : (old : List PowerMap) (r : PowerMap) → pivot r ≡ None → IsSound old r (outcome (is_empty r.terms) old)
closed_sound old r e =
    on_test (is_empty r.terms)
    (λ f. rw f (record { each = λ s h. (s, refl); only = λ t. (t, ap (replace t) (empty_one r f) ∙ replace-one t, refl) }))
    (λ f. rw f (λ s h. let g = one_empty r (sym (replace-closed s r (no_pivot r e)) ∙ h) in cc))

-- ---- one row
pub right_from_sound : (old : List PowerMap) (row : PowerMap) → VariablesBelow (length old) row → (o : Elimination) → IsSound old (replace (nth old) row) o → IsRight old row o
right_from_sound old row h (Solved new) g = λ v. (
  (λ i. let w = g.only i.0 in ((w.0, w.2 ∙ i.1), subst (λ z. Satisfies z row) (w.2 ∙ i.1) (replace-nth_map w.0 old row h ∙ w.1))),
  (λ b. let i = b.0 in let w = g.each i.0 (sym (replace-nth_map i.0 old row h) ∙ subst (λ z. Satisfies z row) (sym i.1) b.1) in (w.0, w.1 ∙ i.1)),
)
right_from_sound old row h NoSolution g = λ v i e. g i.0 (sym (replace-nth_map i.0 old row h) ∙ subst (λ z. Satisfies z row) (sym i.1) e)
right_from_sound old row h Range g = tt
