-- The elimination of rows one after another over the slots' own variables keeps exactly their joint solutions.
-- Source: Kennedy (1996), on unification in the free abelian group.
use Rattle.std.proofs.Common.{◌≡◌, ℕ, List, [], ◌∷◌, ◌++◌, length, refl, sym, ◌∙◌, subst}
use Rattle.std.specs.Prelude.{All}
use Rattle.std.proofs.lemmas.List.{append-nil, append_assoc}
use Rattle.std.proofs.lemmas.List.Elements.{All-head, All-tail}
use Rattle.um_units.specs.PowerMap.{PowerMap}
use Rattle.um_units.specs.Variables.{VariablesBelow}
use Rattle.um_units.specs.Solutions.{IsSolvable}
use Rattle.um_units.proofs.Solutions.{IsSolvable-front}
use Rattle.um_elim.specs.Elimination.{Elimination, Solved, NoSolution, Range, eliminate, on_solved, eliminate_rows}
use Rattle.um_elim.specs.Instances.{SolvesExactly, IsJointlyRight}
use Rattle.um_elim.specs.Solution.{own_variables}
use Rattle.um_elim.proofs.Rows.{solved_is_most_general, refused_is_unsatisfiable, length-solved, exactly-more, unsolvable-more}
use Rattle.um_elim.proofs.Slots.{length-own, own_is_general}

-- from units whose instances are the joint solutions of the rows before
one_by_one : (slots : ℕ) (us done rows : List PowerMap) → length us ≡ slots → All (VariablesBelow slots) rows → SolvesExactly slots done us → IsJointlyRight slots (done ++ rows) (eliminate_rows us rows)
one_by_one slots us done [] l below exact = subst (λ rs. SolvesExactly slots rs us) (sym (append-nil done)) exact
one_by_one slots us done (row ∷ rows) l below exact =
    at (λ vs k e. one_by_one slots vs (done ++ row ∷ []) rows k (All-tail (VariablesBelow slots) row rows below) e) (eliminate us row) refl
  where
    h : VariablesBelow (length us) row
    h = subst (λ n. VariablesBelow n row) (sym l) (All-head (VariablesBelow slots) row rows below)

    split : (done ++ row ∷ []) ++ rows ≡ done ++ row ∷ rows
    split = append_assoc done (row ∷ []) rows

    at : ((vs : List PowerMap) → length vs ≡ slots → SolvesExactly slots (done ++ row ∷ []) vs → IsJointlyRight slots ((done ++ row ∷ []) ++ rows) (eliminate_rows vs rows)) → (o : Elimination) → eliminate us row ≡ o → IsJointlyRight slots (done ++ row ∷ rows) (on_solved o (λ vs. eliminate_rows vs rows))
    at rest (Solved vs) e =
        let g = solved_is_most_general us row vs h e in
        subst (λ rs. IsJointlyRight slots rs (eliminate_rows vs rows)) split
        (rest vs (length-solved us row vs g ∙ l) (exactly-more slots done row us vs exact g))
    at rest NoSolution e = λ solvable. unsolvable-more slots done row us exact (refused_is_unsatisfiable us row h e) (IsSolvable-front slots (done ++ row ∷ []) rows (subst (IsSolvable slots) (sym split) solvable))
    at rest Range e = tt

-- from the slots' own variables
pub eliminate_rows_right : (slots : ℕ) (rows : List PowerMap) → All (VariablesBelow slots) rows → IsJointlyRight slots rows (eliminate_rows (own_variables slots) rows)
eliminate_rows_right slots rows below = one_by_one slots (own_variables slots) [] rows (length-own slots) below (own_is_general slots)
