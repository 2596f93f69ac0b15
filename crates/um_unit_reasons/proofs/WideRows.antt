-- The elimination of rows without a bound on powers: each row is solved or has no solution.
-- Source: Kennedy (1996), on unification in the free abelian group.
use Rattle.std.proofs.Common.{◌≡◌, ◌≢◌, ◌⊎◌, inl, inr, ℕ, zero, suc, ◌<◌, ◌≤◌, true, false, Option, Some, None, List, [], ◌∷◌, ◌++◌, map, length, ℤ, pos, nat_abs, refl, sym, ap, ◌∙◌, subst, arith, append_assoc}
use Rattle.std.specs.Prelude.{All}
use Rattle.std.proofs.lemmas.List.{append-nil}
use Rattle.std.proofs.lemmas.List.Elements.{All-head, All-tail}
use Rattle.um_units.specs.declared.Atom.{Atom}
use Rattle.um_units.specs.declared.Atom.TheVariants.{Base, Var}
use Rattle.um_units.specs.declared.Term.{Term}
use Rattle.um_units.specs.Atoms.{same_atom}
use Rattle.um_units.specs.Terms.{indicator, power_in}
use Rattle.um_units.specs.PowerMap.{PowerMap, power_of, one, replace, nth}
use Rattle.um_units.specs.Variables.{VariablesBelow}
use Rattle.um_units.specs.Solutions.{IsSolvable}
use Rattle.um_units.proofs.Equality.{same_unit}
use Rattle.um_units.proofs.Group.{weight-one, terms-one}
use Rattle.um_units.proofs.Replacement.{replace-one, replace-replace, replace-closed, replace-nth_map}
use Rattle.um_units.proofs.Solutions.{IsSolvable-front, IsSubstitutionInstance_refl}
use Rattle.um_pivots.specs.declared.pivot.Pivot.{Pivot}
use Rattle.um_pivots.specs.Pivot.{pivot, size, least_power, has_other, has_base}
use Rattle.um_elim.specs.ElimStep.{substitute, step, inverted_if_negative}
use Rattle.um_elim.specs.Elimination.{Elimination, Solved, NoSolution, Range, is_empty}
use Rattle.um_elim.specs.Instances.{Satisfies, IsRight, SolvesExactly}
use Rattle.um_elim.specs.Solution.{rigid_units, parameter_rows}
use Rattle.um_elim.proofs.Cases.{on_test}
use Rattle.um_elim.proofs.PivotLaws.{is_pivot, no_pivot}
use Rattle.um_elim.proofs.StepLaws.{IsRemainder, power_of-step_pivot, power_of-step_other, least_power-falls, step_back, after_step_back, positive_pivot, inverted_solved, inverted_solves, positive_size}
use Rattle.um_elim.proofs.EndLaws.{unsolvable_end, pivot_is_one, one_solves, after_one, one_for_pivot}
use Rattle.um_elim.proofs.MostGeneral.{IsSound, after}
use Rattle.um_elim.proofs.Rows.{length-solved, exactly-more, unsolvable-more}
use Rattle.um_elim.proofs.Slots.{length-rigid, rigid_is_general}
use Rattle.um_unit_reasons.specs.Laws.{RowsAreDecided}

-- ---- one step, as in the elimination with a bound

map-after : (s t : ℕ → PowerMap) (us : List PowerMap) → map (replace s) (map (replace t) us) ≡ map (replace (after s t)) us
map-after s t [] = refl
map-after s t (u ∷ us) = λ i. replace-replace t s u i ∷ map-after s t us i

undone : (m p : ℕ) (q u : PowerMap) (s : ℕ → PowerMap) → replace (after s (step_back m p q)) (replace (step m p q) u) ≡ replace s u
undone m p q u s = sym (replace-replace (step_back m p q) s (replace (step m p q) u)) ∙ ap (replace s) (after_step_back m p q u)

map-undone : (m p : ℕ) (q : PowerMap) (s : ℕ → PowerMap) (us : List PowerMap) → map (replace (after s (step_back m p q))) (map (replace (step m p q)) us) ≡ map (replace s) us
map-undone m p q s [] = refl
map-undone m p q s (u ∷ us) = λ i. undone m p q u s i ∷ map-undone m p q s us i

before_step : (m p : ℕ) (a : ℤ) (r : PowerMap) (old : List PowerMap) (o : Elimination) →
    IsSound (map (replace (step m p (inverted_if_negative a r))) old) (replace (step m p (inverted_if_negative a r)) (inverted_if_negative a r)) o → IsSound old r o
before_step m p a r old (Solved new) g =
    let q = inverted_if_negative a r in
    record {
      each = λ s h.
          let w = g.each (after s (step_back m p q)) (undone m p q q s ∙ inverted_solved s a r h) in
          (w.0, w.1 ∙ map-undone m p q s old);
      only = λ t.
          let w = g.only t in
          (after w.0 (step m p q), inverted_solves (after w.0 (step m p q)) a r (sym (replace-replace (step m p q) w.0 q) ∙ w.1), sym (map-after w.0 (step m p q) old) ∙ w.2);
    }
before_step m p a r old NoSolution g = λ s h. g (after s (step_back m p (inverted_if_negative a r))) (undone m p (inverted_if_negative a r) (inverted_if_negative a r) s ∙ inverted_solved s a r h)
before_step m p a r old Range g = tt

-- ---- an outcome besides the range

abbrev Outcome : List PowerMap → PowerMap → Type 0
Outcome old r = (o : Elimination) × (o ≢ Range) × IsSound old r o

ended : (m p : ℕ) (r : PowerMap) (old : List PowerMap) → 0 < p → power_of r (Var m) ≡ pos p → ((b : ℕ) → IsRemainder p (power_of r (Base b))) → has_other m r ≡ false → Outcome old r
ended m p r old h e small o =
    on_test (has_base r)
    (λ f. (NoSolution, (λ k. cc k), unsolvable_end m p r e small o f))
    (λ f. (
      Solved (map (replace (substitute m one)) old),
      (λ k. cc k),
      record {
        each = λ s solved. (s, map-after s (substitute m one) old ∙ ap (λ t. map (replace t) old) (λ i k. after_one m s (pivot_is_one m p r h e o f s solved) k i));
        only = λ t. (after t (substitute m one), one_solves m p r e o f (after t (substitute m one)) (one_for_pivot m t), sym (map-after t (substitute m one) old));
      },
    ))

empty_one : (r : PowerMap) → is_empty r.terms ≡ true → r ≡ one
empty_one r f = same_unit _ _ (λ x. ap (λ ts. power_in ts x) (no_terms r.terms f) ∙ sym (weight-one (indicator x)))
  where
    no_terms : (ts : List Term) → is_empty ts ≡ true → ts ≡ []
    no_terms [] f = refl
    no_terms (t ∷ ts) f = cc

one_empty : (r : PowerMap) → r ≡ one → is_empty r.terms ≡ true
one_empty r e = ap (λ (u : PowerMap). is_empty u.terms) e ∙ ap is_empty terms-one

at_pivot : (n : ℕ) (old : List PowerMap) (r : PowerMap) → ((us : List PowerMap) (u : PowerMap) → least_power u < n → Outcome us u) → (o : Option Pivot) → pivot r ≡ o → size o ≤ n → Outcome old r
at_pivot n old r rest None e l =
    on_test (is_empty r.terms)
    (λ f. (Solved old, (λ k. cc k), record { each = λ s h. (s, refl); only = λ t. (t, ap (replace t) (empty_one r f) ∙ replace-one t, refl) }))
    (λ f. (NoSolution, (λ k. cc k), (λ s h. let g = one_empty r (sym (replace-closed s r (no_pivot r e)) ∙ h) in cc)))
at_pivot n old r rest (Some t) e l =
    let found = is_pivot r t e in
    let m = t.variable in
    let p = nat_abs t.power in
    let q = inverted_if_negative t.power r in
    let at : power_of q (Var m) ≡ pos p = positive_pivot t.power m r found.is in
    let h : 0 < p = positive_size t.power found.nonzero in
    let new = replace (step m p q) q in
    let us = map (replace (step m p q)) old in
    let small : (y : Atom) → same_atom (Var m) y ≡ false → IsRemainder p (power_of new y) = power_of-step_other m p q h at in
    let w : Outcome us new =
    on_test (has_other m new)
    (λ g. let less = least_power-falls m p new small g in rest us new (omega (arith, less, l)))
    (λ g. ended m p new us h (power_of-step_pivot m p q ∙ at) (λ b. small (Base b) refl) g)
    in
    (w.0, w.1, before_step m p t.power r old w.0 w.2)

each_has_outcome : (n : ℕ) (old : List PowerMap) (r : PowerMap) → least_power r < n → Outcome old r
each_has_outcome zero old r l = absurd (omega (arith, l))
each_has_outcome (suc n) old r l = at_pivot n old r (each_has_outcome n) (pivot r) refl (omega (arith, l))

-- ---- rows

right_from_sound : (old : List PowerMap) (row : PowerMap) → VariablesBelow (length old) row → (o : Elimination) → IsSound old (replace (nth old) row) o → IsRight old row o
right_from_sound old row h (Solved new) g = λ v. (
  (λ i. let w = g.only i.0 in ((w.0, w.2 ∙ i.1), subst (λ z. Satisfies z row) (w.2 ∙ i.1) (replace-nth_map w.0 old row h ∙ w.1))),
  (λ b. let i = b.0 in let w = g.each i.0 (sym (replace-nth_map i.0 old row h) ∙ subst (λ z. Satisfies z row) (sym i.1) b.1) in (w.0, w.1 ∙ i.1)),
)
right_from_sound old row h NoSolution g = λ v i e. g i.0 (sym (replace-nth_map i.0 old row h) ∙ subst (λ z. Satisfies z row) (sym i.1) e)
right_from_sound old row h Range g = tt

module _ (slots : ℕ) where
  abbrev Decided : List PowerMap → Type 0
  Decided rows = IsSolvable slots rows ⊎ (IsSolvable slots rows → ⊥)

  -- us: the solution of the rows that are done
  rows_decided : (us done rows : List PowerMap) → length us ≡ slots → All (VariablesBelow slots) rows → SolvesExactly slots done us → Decided (done ++ rows)
  rows_decided us done [] many below exact = inl (subst (IsSolvable slots) (sym (append-nil done)) (us, (exact us).0 (IsSubstitutionInstance_refl us)))
  rows_decided us done (row ∷ rows) many below exact =
      let h : VariablesBelow (length us) row = subst (λ n. VariablesBelow n row) (sym many) (All-head (VariablesBelow slots) row rows below) in
      let r = replace (nth us) row in
      let (o, some, sound) = each_has_outcome (suc (least_power r)) us r (omega arith) in
      by (λ vs many exact. rows_decided vs (done ++ row ∷ []) rows many (All-tail (VariablesBelow slots) row rows below) exact) o some (right_from_sound us row h o sound)
    where
      split : (done ++ row ∷ []) ++ rows ≡ done ++ row ∷ rows
      split = append_assoc done (row ∷ []) rows

      by : ((vs : List PowerMap) → length vs ≡ slots → SolvesExactly slots (done ++ row ∷ []) vs → Decided ((done ++ row ∷ []) ++ rows)) → (o : Elimination) → o ≢ Range → IsRight us row o → Decided (done ++ row ∷ rows)
      by rest (Solved vs) some g = subst Decided split (rest vs (length-solved us row vs g ∙ many) (exactly-more slots done row us vs exact g))
      by rest NoSolution some g =
          inr (λ solvable. unsolvable-more slots done row us exact g (IsSolvable-front slots (done ++ row ∷ []) rows (subst (IsSolvable slots) (sym split) solvable)))
      by rest Range some g = absurd (some refl)

pub rows_are_decided : RowsAreDecided
rows_are_decided slots bases parameters rows few below =
    rows_decided slots (rigid_units bases parameters slots) (parameter_rows bases parameters) rows (length-rigid bases parameters slots) below (rigid_is_general bases parameters slots few)
