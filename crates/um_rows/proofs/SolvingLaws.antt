-- Solving row by row finds the most general solution, or the first unsolvable row.
use Rattle.std.proofs.Common.{◌≡◌, ℕ, zero, suc, ◌-◌, ◌≤◌, List, [], ◌∷◌, ◌++◌, length, take, refl, sym, ap, ◌∙◌, subst, arith}
use Rattle.std.specs.Prelude.{All}
use Rattle.std.proofs.lemmas.List.{append-nil, append_assoc, map-append, length-append}
use Rattle.std.proofs.lemmas.List.Elements.{All-nil, All-cons, All-head, All-tail}
use Rattle.um_units.specs.PowerMap.{PowerMap}
use Rattle.um_units.specs.Variables.{VariablesBelow}
use Rattle.um_units.specs.Solutions.{IsSolvable}
use Rattle.um_units.proofs.Solutions.{IsSubstitutionInstance_refl, IsSolvable-front}
use Rattle.um_elim.specs.Elimination.{Elimination, Solved, NoSolution, Range, eliminate}
use Rattle.um_elim.specs.Instances.{SolvesExactly}
use Rattle.um_elim.specs.Solution.{own_variables, rigid_units, parameter_rows}
use Rattle.um_elim.proofs.Rows.{solved_is_most_general, refused_is_unsatisfiable, length-solved, exactly-more, unsolvable-more}
use Rattle.um_elim.proofs.Slots.{length-own, length-rigid, own_is_general, rigid_is_general}
use Rattle.um_elim.proofs.VariablesKept.{solved_below, all_own_below, all_rigid_below}
use Rattle.um_equal_types.specs.declared.row.Row.{Row}
use Rattle.um_equal_types.specs.Steps.{units_of}
use Rattle.um_rows.specs.FirstUnsolvable.{IsFirstUnsolvable, Solving, solved, unsolved, out_of_range, after_row, solve, rows_up_to}

units_of-append : (a b : List Row) → units_of (a ++ b) ≡ units_of a ++ units_of b
units_of-append a b = map-append (λ (r : Row). r.unit) a b

-- what the end of solving says of the given equations and all rows
abbrev pub IsRightFor : ℕ → List PowerMap → List Row → Solving → Type 0
IsRightFor slots given rows (solved us) = SolvesExactly slots (given ++ units_of rows) us × All (VariablesBelow slots) us
IsRightFor slots given rows (unsolved k at) = IsFirstUnsolvable slots given rows k at
IsRightFor slots given rows (out_of_range at) = Unit {0}

-- from units whose instances are the joint solutions of the given equations and the rows before
pub solved_from : (slots : ℕ) (given : List PowerMap) (k : ℕ) (done rows : List Row) (us : List PowerMap) → length done ≡ k → length us ≡ slots → All (VariablesBelow slots) (units_of rows) →
    SolvesExactly slots (given ++ units_of done) us → All (VariablesBelow slots) us → IsRightFor slots given (done ++ rows) (solve k rows us)
solved_from slots given k done [] us count l low exact below = (subst (λ rs. SolvesExactly slots (given ++ units_of rs) us) (sym (append-nil done)) exact, below)
solved_from slots given k done (r ∷ rows) us count l low exact below =
    found (λ vs m e b. solved_from slots given (suc k) (done ++ r ∷ []) rows vs (let more = length-append done (r ∷ []) in omega (arith, more, count)) m (All-tail (VariablesBelow slots) r.unit (units_of rows) low) e b) (eliminate us r.unit) refl
  where
    h : VariablesBelow (length us) r.unit
    h = subst (λ n. VariablesBelow n r.unit) (sym l) (All-head (VariablesBelow slots) r.unit (units_of rows) low)

    one_more : given ++ units_of (done ++ r ∷ []) ≡ (given ++ units_of done) ++ r.unit ∷ []
    one_more = ap (λ rs. given ++ rs) (units_of-append done (r ∷ [])) ∙ sym (append_assoc given (units_of done) (r.unit ∷ []))

    found : ((vs : List PowerMap) → length vs ≡ slots → SolvesExactly slots (given ++ units_of (done ++ r ∷ [])) vs → All (VariablesBelow slots) vs → IsRightFor slots given ((done ++ r ∷ []) ++ rows) (solve (suc k) rows vs)) →
        (o : Elimination) → eliminate us r.unit ≡ o → IsRightFor slots given (done ++ r ∷ rows) (after_row k r.at o (solve (suc k) rows))
    found rest (Solved vs) e =
        let g = solved_is_most_general us r.unit vs h e in
        subst (λ rs. IsRightFor slots given rs (solve (suc k) rows vs)) (append_assoc done (r ∷ []) rows)
        (rest vs (length-solved us r.unit vs g ∙ l) (subst (λ rs. SolvesExactly slots rs vs) (sym one_more) (exactly-more slots (given ++ units_of done) r.unit us vs exact g)) (solved_below us r.unit vs h e slots below))
    found rest NoSolution e = record {
      before = done;
      row = r;
      behind = rows;
      splits = refl;
      index = count;
      place = refl;
      solvable = (us, (exact us).0 (IsSubstitutionInstance_refl us));
      unsolvable = λ w. unsolvable-more slots (given ++ units_of done) r.unit us exact (refused_is_unsatisfiable us r.unit h e) (subst (IsSolvable slots) (sym (append_assoc given (units_of done) (r.unit ∷ []))) w);
    }
    found rest Range e = tt

-- from the slots' own variables
pub solve_right : (slots : ℕ) (rows : List Row) → All (VariablesBelow slots) (units_of rows) → IsRightFor slots [] rows (solve 0 rows (own_variables slots))
solve_right slots rows low = solved_from slots [] 0 [] rows (own_variables slots) refl (length-own slots) low (own_is_general slots) (all_own_below slots)

-- from the units in which each unit parameter is a unit of its own
pub solve_rigidly : (bases parameters slots : ℕ) (rows : List Row) → parameters ≤ slots → All (VariablesBelow slots) (units_of rows) →
    IsRightFor slots (parameter_rows bases parameters) rows (solve 0 rows (rigid_units bases parameters slots))
solve_rigidly bases parameters slots rows few low =
    solved_from slots (parameter_rows bases parameters) 0 [] rows (rigid_units bases parameters slots) refl (length-rigid bases parameters slots) low
    (subst (λ rs. SolvesExactly slots rs (rigid_units bases parameters slots)) (sym (append-nil (parameter_rows bases parameters))) (rigid_is_general bases parameters slots few))
    (all_rigid_below bases parameters slots)

-- where a row is the first unsolvable one, all rows have no joint solution
pub unsolvable_rows : (slots : ℕ) (given : List PowerMap) (rows : List Row) (k at : ℕ) → IsFirstUnsolvable slots given rows k at → IsSolvable slots (given ++ units_of rows) → ⊥
unsolvable_rows slots given rows k at first h =
    let units = ap units_of first.splits ∙ units_of-append first.before (first.row ∷ first.behind) ∙ sym (append_assoc (units_of first.before) (first.row.unit ∷ []) (units_of first.behind)) in
    let parts = ap (λ rs. given ++ rs) units ∙ sym (append_assoc given (units_of first.before ++ first.row.unit ∷ []) (units_of first.behind)) in
    first.unsolvable (IsSolvable-front slots (given ++ (units_of first.before ++ first.row.unit ∷ [])) (units_of first.behind) (subst (IsSolvable slots) parts h))

-- the rows that are solved are solvable
pub solvable_rows : (slots : ℕ) (rows : List Row) (us : List PowerMap) → IsRightFor slots [] rows (solved us) → IsSolvable slots (units_of rows)
solvable_rows slots rows us right = (us, (right.0 us).0 (IsSubstitutionInstance_refl us))

-- the first rows hold what all do
pub first_rows_below : (n : ℕ) (rows : List Row) (k : ℕ) → All (VariablesBelow n) (units_of rows) → All (VariablesBelow n) (units_of (take k rows))
first_rows_below n rows zero low = All-nil (VariablesBelow n)
first_rows_below n [] (suc k) low = low
first_rows_below n (r ∷ rows) (suc k) low =
    All-cons (VariablesBelow n) r.unit (units_of (take k rows)) (All-head (VariablesBelow n) r.unit (units_of rows) low) (first_rows_below n rows k (All-tail (VariablesBelow n) r.unit (units_of rows) low))

-- ---- the rows up to the first that isn't solved end as all rows do
abbrev EndsSo : ℕ → List Row → List PowerMap → ℕ → ℕ → Type 0
EndsSo m rows us k at = (m ≤ k) × (solve m (take (suc (k - m)) rows) us ≡ unsolved k at)

solved_again : (m : ℕ) (rows : List Row) (us : List PowerMap) (k at : ℕ) → solve m rows us ≡ unsolved k at → EndsSo m rows us k at
solved_again m [] us k at is = absurd (cc is)
solved_again m (r ∷ rows) us k at is = found (λ vs. solved_again (suc m) rows vs k at) (eliminate us r.unit) refl is
  where
    found : ((vs : List PowerMap) → solve (suc m) rows vs ≡ unsolved k at → EndsSo (suc m) rows vs k at) → (o : Elimination) → eliminate us r.unit ≡ o →
        after_row m r.at o (solve (suc m) rows) ≡ unsolved k at → EndsSo m (r ∷ rows) us k at
    found rest (Solved vs) e h =
        let w = rest vs h in
        let low = w.0 in
        let less : k - m ≡ suc (k - suc m) = omega (arith, low) in (
          omega (arith, low),
          ap (λ o. after_row m r.at o (solve (suc m) (take (k - m) rows))) e ∙ ap (λ n. solve (suc m) (take n rows) vs) less ∙ w.1,
        )
    found rest NoSolution e h =
        let number : m ≡ k = cc h in (
          omega (arith, number),
          ap (λ o. after_row m r.at o (solve (suc m) (take (k - m) rows))) e ∙ h,
        )
    found rest Range e h = absurd (cc h)

pub solved_up_to : (rows : List Row) (us : List PowerMap) (k at : ℕ) → solve 0 rows us ≡ unsolved k at → solve 0 (rows_up_to k rows) us ≡ unsolved k at
solved_up_to rows us k at is =
    let w = solved_again 0 rows us k at is in
    let whole : k - 0 ≡ k = omega arith in
    ap (λ n. solve 0 (take (suc n) rows) us) (sym whole) ∙ w.1
