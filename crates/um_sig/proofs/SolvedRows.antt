-- Rows that are eliminated one after another leave exactly their joint solutions, up to the first type whose rows have none
-- with those before.
-- Source: Kennedy (1996), unification in the free abelian group, equation by equation.
use Rattle.std.proofs.Common.{◌≡◌, ℕ, suc, ◌+◌, List, [], ◌∷◌, ◌++◌, length, take, refl, sym, subst, arith}
use Rattle.std.specs.Prelude.{All}
use Rattle.std.proofs.lemmas.List.{append-nil, append_assoc}
use Rattle.std.proofs.lemmas.List.Elements.{All-nil, All-cons, All-head, All-tail}
use Rattle.um_units.specs.PowerMap.{PowerMap}
use Rattle.um_units.specs.Range.{fits}
use Rattle.um_units.specs.Variables.{VariablesBelow}
use Rattle.um_units.specs.Solutions.{IsSolvable}
use Rattle.um_units.proofs.Solutions.{IsSubstitutionInstance_refl, IsSolvable-front}
use Rattle.um_tree.specs.TypeTree.{TypeTree}
use Rattle.um_elim.specs.Elimination.{Elimination, Solved, NoSolution, Range, eliminate, on_solved}
use Rattle.um_elim.specs.Instances.{SolvesExactly, IsJointlyRight}
use Rattle.um_elim.specs.Solution.{own_variables}
use Rattle.um_elim.proofs.Cases.{on_test}
use Rattle.um_elim.proofs.Rows.{solved_is_most_general, refused_is_unsatisfiable, exactly-more, unsolvable-more}
use Rattle.um_elim.proofs.Slots.{own_is_general}
use Rattle.um_sig.specs.Matching.{type_rows, matching_rows, eliminate_each, Matching, matched, unmatched, out_of_range, after_type, match_from, match_types}

-- ---- rows
solvable_so_far : (n : ℕ) (done us : List PowerMap) → SolvesExactly n done us → IsSolvable n done
solvable_so_far n done us exact = (us, (exact us).0 (IsSubstitutionInstance_refl us))

one_by_one : (n : ℕ) (us done rows : List PowerMap) → All (VariablesBelow n) rows → SolvesExactly n done us → IsJointlyRight n (done ++ rows) (eliminate_each us rows)
one_by_one n us done [] below exact = subst (λ rs. SolvesExactly n rs us) (sym (append-nil done)) exact
one_by_one n us done (row ∷ rows) below exact =
    on_test (fits row)
    (λ t. rw t (at (λ vs e. one_by_one n vs (done ++ row ∷ []) rows (All-tail (VariablesBelow n) row rows below) e) (eliminate us row) refl))
    (λ t. rw t tt)
  where
    h : VariablesBelow (length us) row
    h = subst (λ m. VariablesBelow m row) (sym ((exact us).0 (IsSubstitutionInstance_refl us)).per_slot) (All-head (VariablesBelow n) row rows below)

    split : (done ++ row ∷ []) ++ rows ≡ done ++ row ∷ rows
    split = append_assoc done (row ∷ []) rows

    at : ((vs : List PowerMap) → SolvesExactly n (done ++ row ∷ []) vs → IsJointlyRight n ((done ++ row ∷ []) ++ rows) (eliminate_each vs rows)) →
        (o : Elimination) → eliminate us row ≡ o → IsJointlyRight n (done ++ row ∷ rows) (on_solved o (λ vs. eliminate_each vs rows))
    at rest (Solved vs) e =
        subst (λ rs. IsJointlyRight n rs (eliminate_each vs rows)) split (rest vs (exactly-more n done row us vs exact (solved_is_most_general us row vs h e)))
    at rest NoSolution e =
        λ solvable. unsolvable-more n done row us exact (refused_is_unsatisfiable us row h e) (IsSolvable-front n (done ++ row ∷ []) rows (subst (IsSolvable n) (sym split) solvable))
    at rest Range e = tt

-- ---- types
module _ (bases n : ℕ) where
  -- what types end with, numbered from k on, behind rows whose joint solutions the units give
  abbrev pub IsRightFrom : ℕ → List PowerMap → List TypeTree → List TypeTree → Matching → Type 0
  IsRightFrom k done ss ts (matched us) = SolvesExactly n (done ++ matching_rows bases ss ts) us
  IsRightFrom k done ss ts (unmatched i) =
      (j : ℕ) × (i ≡ k + j)
      × IsSolvable n (done ++ matching_rows bases (take j ss) (take j ts))
      × (IsSolvable n (done ++ matching_rows bases (take (suc j) ss) (take (suc j) ts)) → ⊥)
  IsRightFrom k done ss ts (out_of_range i) = Unit {0}

  -- behind the first type
  behind : (k : ℕ) (done : List PowerMap) (s t : TypeTree) (ss ts : List TypeTree) (m : Matching) →
      IsRightFrom (suc k) (done ++ type_rows bases s t) ss ts m → IsRightFrom k done (s ∷ ss) (t ∷ ts) m
  behind k done s t ss ts (matched us) h = subst (λ rs. SolvesExactly n rs us) (append_assoc done (type_rows bases s t) (matching_rows bases ss ts)) h
  behind k done s t ss ts (unmatched i) h =
      let j = h.0 in
      let number : i ≡ suc k + j = h.1 in (
        suc j,
        omega (arith, number),
        subst (IsSolvable n) (append_assoc done (type_rows bases s t) (matching_rows bases (take j ss) (take j ts))) h.2,
        λ w. h.3 (subst (IsSolvable n) (sym (append_assoc done (type_rows bases s t) (matching_rows bases (take (suc j) ss) (take (suc j) ts)))) w),
      )
  behind k done s t ss ts (out_of_range i) h = tt

  matching_right : (k : ℕ) (ss ts : List TypeTree) (us done : List PowerMap) → All (VariablesBelow n) (matching_rows bases ss ts) → SolvesExactly n done us → IsRightFrom k done ss ts (match_from bases k ss ts us)
  matching_right k [] [] us done below exact = subst (λ rs. SolvesExactly n rs us) (sym (append-nil done)) exact
  matching_right k [] (t ∷ ts) us done below exact = subst (λ rs. SolvesExactly n rs us) (sym (append-nil done)) exact
  matching_right k (s ∷ ss) [] us done below exact = subst (λ rs. SolvesExactly n rs us) (sym (append-nil done)) exact
  matching_right k (s ∷ ss) (t ∷ ts) us done below exact =
      at (λ vs e. matching_right (suc k) ss ts vs (done ++ type_rows bases s t) (rest_below (type_rows bases s t) (matching_rows bases ss ts) below) e)
      (eliminate_each us (type_rows bases s t)) (one_by_one n us done (type_rows bases s t) (first_below (type_rows bases s t) (matching_rows bases ss ts) below) exact)
    where
      first_below : (rows more : List PowerMap) → All (VariablesBelow n) (rows ++ more) → All (VariablesBelow n) rows
      first_below [] more all = All-nil (VariablesBelow n)
      first_below (row ∷ rows) more all =
          All-cons (VariablesBelow n) row rows (All-head (VariablesBelow n) row (rows ++ more) all) (first_below rows more (All-tail (VariablesBelow n) row (rows ++ more) all))

      rest_below : (rows more : List PowerMap) → All (VariablesBelow n) (rows ++ more) → All (VariablesBelow n) more
      rest_below [] more all = all
      rest_below (row ∷ rows) more all = rest_below rows more (All-tail (VariablesBelow n) row (rows ++ more) all)

      at : ((vs : List PowerMap) → SolvesExactly n (done ++ type_rows bases s t) vs → IsRightFrom (suc k) (done ++ type_rows bases s t) ss ts (match_from bases (suc k) ss ts vs)) →
          (o : Elimination) → IsJointlyRight n (done ++ type_rows bases s t) o → IsRightFrom k done (s ∷ ss) (t ∷ ts) (after_type k o (match_from bases (suc k) ss ts))
      at rest (Solved vs) right = behind k done s t ss ts (match_from bases (suc k) ss ts vs) (rest vs right)
      at rest NoSolution right = (
        0,
        omega arith,
        subst (IsSolvable n) (sym (append-nil done)) (solvable_so_far n done us exact),
        λ w. right (subst (λ rs. IsSolvable n (done ++ rs)) (append-nil (type_rows bases s t)) w),
      )
      at rest Range right = tt

  pub match_types_right : (ss ts : List TypeTree) → All (VariablesBelow n) (matching_rows bases ss ts) → IsRightFrom 0 [] ss ts (match_types bases n ss ts)
  match_types_right ss ts below = matching_right 0 ss ts (own_variables n) [] below (own_is_general n)
