-- Rows that the elimination solves have a Yes.
use Rattle.std.proofs.Common.{◌≡◌, inl, inr, ℕ, zero, suc, ◌*◌, ◌<◌, List, [], ◌∷◌, ◌++◌, length, pos, refl, sym, ap, ◌∙◌, subst, arith}
use Rattle.std.specs.Prelude.{All}
use Rattle.std.proofs.lemmas.List.{length-map, length-append, append_assoc}
use Rattle.std.proofs.lemmas.List.Elements.{All-head, All-tail}
use Rattle.std.proofs.lemmas.List.FromFn.{get_or-map-range_with_len}
use Rattle.std.proofs.Math.Seq.{get_or-append_seam}
use Rattle.um_units.specs.declared.Atom.TheVariants.{Var}
use Rattle.um_units.specs.PowerMap.{PowerMap, one, atom, mul, inv, pow, replace, nth, extension}
use Rattle.um_units.specs.Terms.{indicator}
use Rattle.um_units.specs.Variables.{VariablesBelow}
use Rattle.um_units.proofs.Weights.{weigh_alike}
use Rattle.um_units.proofs.Equality.{same_unit}
use Rattle.um_units.proofs.Group.{weight-atom, mul-inv, one-pow}
use Rattle.um_units.proofs.Replacement.{replace-one}
use Rattle.um_elim.specs.ElimStep.{substitute}
use Rattle.um_elim.specs.Elimination.{Elimination, Solved, NoSolution, Range, eliminate, on_solved, eliminate_rows}
use Rattle.um_elim.specs.Solution.{own_variables}
use Rattle.um_elim.proofs.Slots.{length-own}
use Rattle.um_elim.specs.EliminationSteps.{units_after, IsSolvedBySteps, IsRefusedBySteps}
use Rattle.um_check.specs.Existence.{signed_by, inverse_after, total, parts_after, HasInverse, HasRefutation}
use Rattle.um_check.proofs.Extensions.{weight-extension}
use Rattle.um_check.proofs.InverseSteps.{length-units_after, inverse_after-base, kept_after, kept_row}
use Rattle.um_elim.proofs.FollowedSteps.{eliminate_treated, eliminate_refused}
use Rattle.um_check.proofs.RefutedSteps.{closed_is_apart, stuck_is_apart}

-- the state and the length after a row
made_row : (rows us : List PowerMap) (k : ℕ) (vs : List PowerMap) → VariablesBelow (length us) (nth rows k) → HasInverse rows us → IsSolvedBySteps us (replace (nth us) (nth rows k)) vs → HasInverse rows vs × (length vs ≡ length us)
made_row rows us k vs below made treated =
    elim treated.ends [
      | inl h ↦ (
        subst (HasInverse rows) (sym h.units) (record {
          back = inverse_after treated.steps made.back;
          divisor = made.divisor;
          positive = made.positive;
          bases = λ n. inverse_after-base treated.steps made.back n ∙ made.bases n;
          parts = made.parts;
          kept = kept_after rows us made.back (pos made.divisor) made.parts treated.steps treated.shears made.kept;
        }),
        ap length h.units ∙ length-units_after treated.steps us,
      )
      | inr h ↦ (
        subst (HasInverse rows) (sym h.units) (record {
          back = inverse_after treated.steps made.back;
          divisor = made.divisor * h.p;
          positive = positive_product made.divisor h.p made.positive h.positive;
          bases = λ n. inverse_after-base treated.steps made.back n ∙ made.bases n;
          parts = parts_after h.m h.p (signed_by treated.steps (total made.parts (nth rows k) k (pos made.divisor))) (units_after treated.steps us) made.parts;
          kept = kept_row rows us made.back (pos made.divisor) made.parts k h.m h.p treated.steps made.kept below (λ n _. made.bases n) treated.shears h.left;
        }),
        ap length h.units ∙ length-map (units_after treated.steps us) (replace (substitute h.m one)) ∙ length-units_after treated.steps us,
      )
    ]
  where
    positive_product : (a b : ℕ) → 0 < a → 0 < b → 0 < a * b
    positive_product zero b h k = absurd (omega (arith, h))
    positive_product (suc a) zero h k = absurd (omega (arith, k))
    positive_product (suc a) (suc b) h k = omega arith

made_rows : (rows front rest us vs : List PowerMap) (slots : ℕ) → rows ≡ front ++ rest → length us ≡ slots → All (VariablesBelow slots) rest → HasInverse rows us → eliminate_rows us rest ≡ Solved vs → HasInverse rows vs
made_rows rows front [] us vs slots e l below made is = let same : us ≡ vs = cc is in subst (HasInverse rows) same made
made_rows rows front (row ∷ rest) us vs slots e l below made is =
    at (eliminate us row) refl is (λ ws t k m. made_rows rows (front ++ row ∷ []) rest ws vs slots (e ∙ sym (append_assoc front (row ∷ []) rest)) m (All-tail (VariablesBelow slots) row rest below) t k)
  where
    here : nth rows (length front) ≡ row
    here = ap (λ rs. nth rs (length front)) e ∙ get_or-append_seam front row rest (atom (Var (length front)))

    at : (o : Elimination) → eliminate us row ≡ o → on_solved o (λ ws. eliminate_rows ws rest) ≡ Solved vs → ((ws : List PowerMap) → HasInverse rows ws → eliminate_rows ws rest ≡ Solved vs → length ws ≡ slots → HasInverse rows vs) → HasInverse rows vs
    at (Solved ws) f k go =
        let treated = subst (λ u. IsSolvedBySteps us (replace (nth us) u) ws) (sym here) (eliminate_treated us row ws f) in
        let next = made_row rows us (length front) ws (subst (λ u. VariablesBelow (length us) u) (sym here) (subst (λ n. VariablesBelow n row) (sym l) (All-head (VariablesBelow slots) row rest below))) made treated in
        go ws next.0 k (next.1 ∙ l)
    at NoSolution f k go = cc
    at Range f k go = cc

-- ---- before any row
extension-same : (u : PowerMap) → extension atom u ≡ u
extension-same u = same_unit _ _ (λ x. weight-extension (indicator x) atom u ∙ weigh_alike _ _ (λ y. weight-atom (indicator x) y) u.terms)

own : (slots : ℕ) (j : ℕ) → j < length (own_variables slots) → nth (own_variables slots) j ≡ atom (Var j)
own slots j l = get_or-map-range_with_len (λ k. atom (Var k)) 0 slots j j (atom (Var j)) (subst (λ n. j < n) (length-own slots) l) (omega arith)

made_first : (rows : List PowerMap) (slots : ℕ) → HasInverse rows (own_variables slots)
made_first rows slots = record {
  back = atom;
  divisor = 1;
  positive = omega arith;
  bases = λ n. refl;
  parts = λ j. one;
  kept = record {
    by_rows = λ j l.
        ap (λ u. pow (mul u (inv (atom (Var j)))) (pos 1)) (extension-same (nth (own_variables slots) j) ∙ own slots j l)
        ∙ ap (λ u. pow u (pos 1)) (mul-inv (atom (Var j))) ∙ one-pow (pos 1) ∙ sym (replace-one (nth rows));
  };
}

-- what the elimination gives for rows over slots has a Yes
pub solved_have_inverses : (rows : List PowerMap) (slots : ℕ) (vs : List PowerMap) → All (VariablesBelow slots) rows → eliminate_rows (own_variables slots) rows ≡ Solved vs → HasInverse rows vs
solved_have_inverses rows slots vs below is = made_rows rows [] rows (own_variables slots) vs slots refl (length-own slots) below (made_first rows slots) is

-- ---- a No
refused_row : (rows us : List PowerMap) (k : ℕ) → k < length rows → VariablesBelow (length us) (nth rows k) → HasInverse rows us → IsRefusedBySteps (replace (nth us) (nth rows k)) → HasRefutation rows
refused_row rows us k h below made refused =
    elim refused.ends [
      | inl left ↦ record { last = k; inside = h; modulus = _; row_powers = signed_by refused.steps (total made.parts (nth rows k) k (pos made.divisor)); apart = closed_is_apart rows us made.back made.divisor made.parts k refused.steps made.positive made.kept below made.bases refused.shears left }
      | inr stuck ↦ record { last = k; inside = h; modulus = _; row_powers = signed_by refused.steps (total made.parts (nth rows k) k (pos made.divisor)); apart = stuck_is_apart rows us made.back made.divisor made.parts k refused.steps made.positive made.kept below made.bases refused.shears stuck }
    ]

refused_rows : (rows front rest us : List PowerMap) (slots : ℕ) → rows ≡ front ++ rest → length us ≡ slots → All (VariablesBelow slots) rest → HasInverse rows us → eliminate_rows us rest ≡ NoSolution → HasRefutation rows
refused_rows rows front [] us slots e l below made is = cc
refused_rows rows front (row ∷ rest) us slots e l below made is =
    at (eliminate us row) refl is (λ ws t k m. refused_rows rows (front ++ row ∷ []) rest ws slots (e ∙ sym (append_assoc front (row ∷ []) rest)) m (All-tail (VariablesBelow slots) row rest below) t k)
  where
    here : nth rows (length front) ≡ row
    here = ap (λ rs. nth rs (length front)) e ∙ get_or-append_seam front row rest (atom (Var (length front)))

    inside : length front < length rows
    inside = let f = ap length e ∙ length-append front (row ∷ rest) in omega (arith, f)

    row_below : VariablesBelow (length us) (nth rows (length front))
    row_below = subst (λ u. VariablesBelow (length us) u) (sym here) (subst (λ n. VariablesBelow n row) (sym l) (All-head (VariablesBelow slots) row rest below))

    at : (o : Elimination) → eliminate us row ≡ o → on_solved o (λ ws. eliminate_rows ws rest) ≡ NoSolution → ((ws : List PowerMap) → HasInverse rows ws → eliminate_rows ws rest ≡ NoSolution → length ws ≡ slots → HasRefutation rows) → HasRefutation rows
    at (Solved ws) f k go =
        let treated = subst (λ u. IsSolvedBySteps us (replace (nth us) u) ws) (sym here) (eliminate_treated us row ws f) in
        let next = made_row rows us (length front) ws row_below made treated in
        go ws next.0 k (next.1 ∙ l)
    at NoSolution f k go = refused_row rows us (length front) inside row_below made (subst (λ u. IsRefusedBySteps (replace (nth us) u)) (sym here) (eliminate_refused us row f))
    at Range f k go = cc

-- what the elimination refuses has a No
pub refused_have_refutations : (rows : List PowerMap) (slots : ℕ) → All (VariablesBelow slots) rows → eliminate_rows (own_variables slots) rows ≡ NoSolution → HasRefutation rows
refused_have_refutations rows slots below is = refused_rows rows [] rows (own_variables slots) slots refl (length-own slots) below (made_first rows slots) is
