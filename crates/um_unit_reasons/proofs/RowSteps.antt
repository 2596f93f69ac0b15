-- Rows solved one by one, up to the first that has no solution.
use Rattle.std.proofs.Common.{◌≡◌, ℕ, suc, ◌+◌, ◌<◌, ◌≤◌, add-one, Bool, true, false, List, ◌∷◌, length, drop, get_or, refl, sym, ap, ◌∙◌, subst}
use Rattle.std.specs.Prelude.{All}
use Rattle.std.proofs.lemmas.List.{drop_more, drop_all}
use Rattle.std.proofs.lemmas.List.Elements.{All-get_or}
use Rattle.um_units.specs.Variables.{VariablesBelow}
use Rattle.um_elim.specs.Elimination.{Elimination, Solved, NoSolution, Range, eliminate}
use Rattle.um_elim.specs.Solution.{Solution, rigid, rigid_units}
use Rattle.um_elim.proofs.Slots.{length-rigid}
use Rattle.um_equal_types.specs.declared.row.Row.{Row}
use Rattle.um_rows.specs.FirstUnsolvable.{Solving, solved, unsolved, after_row, solve}
use Rattle.um_reasons.specs.Answers.{IsUnsolved, IsJoined}

module _ (bases parameters slots : ℕ) (rows : List Row) where
  abbrev pub whole : Solving
  whole = solve 0 rows (rigid_units bases parameters slots)

  -- the rows before row k are solved
  pub record IsLeft (k : ℕ) (s : Solution) : Type 0 where
    pub rest : whole ≡ solve k (drop k rows) s.units
    pub unspent : s.spent ≡ false
    pub count : length s.units ≡ slots

  pub none_solved : (s : Solution) → s ≡ rigid bases parameters slots → IsLeft 0 s
  none_solved s is = record {
    rest = ap (λ (x : Solution). solve 0 rows x.units) (sym is);
    unspent = ap (λ (x : Solution). x.spent) is;
    count = ap (λ (x : Solution). length x.units) is ∙ length-rigid bases parameters slots;
  }

  module _ (k : ℕ) (s : Solution) (below : k < length rows) (left : IsLeft k s) (row : Row) (is : row ≡ get_or rows k row) (new : Solution) where
    next : whole ≡ after_row k row.at (eliminate s.units row.unit) (solve (suc k) (drop (k + 1) rows))
    next =
        left.rest ∙ ap (λ rs. solve k rs s.units) (drop_more rows k row below ∙ ap (λ (r : Row). r ∷ drop (k + 1) rows) (sym is))

    pub joined : (b : Bool) → b ≡ true → IsJoined s row.unit new b → length new.units ≡ length s.units → IsLeft (k + 1) new
    joined true e j same = record {
      rest = next ∙ ap (λ o. after_row k row.at o (solve (suc k) (drop (k + 1) rows))) j.0 ∙ ap (λ n. solve n (drop (k + 1) rows) new.units) (sym (add-one k));
      unspent = j.1;
      count = same ∙ left.count;
    }
    joined false e j same = absurd (cc e)

    by : (o : Elimination) → eliminate s.units row.unit ≡ o → IsUnsolved o → (m at : ℕ) → after_row k row.at o (solve (suc k) (drop (k + 1) rows)) ≡ unsolved m at → k ≡ m
    by (Solved us) h none m at e = absurd none
    by NoSolution h none m at e = cc e
    by Range h none m at e = absurd (cc e)

    pub refused : (b : Bool) → b ≡ false → IsJoined s row.unit new b → (m at : ℕ) → whole ≡ unsolved m at → k ≡ m
    refused true e j m at stop = absurd (cc e)
    refused false e j m at stop = by (eliminate s.units row.unit) refl j m at (sym next ∙ stop)

  -- they aren't all solved
  pub never : (k : ℕ) (s : Solution) → length rows ≤ k → IsLeft k s → (m at : ℕ) → whole ≡ unsolved m at → ⊥
  never k s past left m at stop =
      let all : solved s.units ≡ unsolved m at = sym (left.rest ∙ ap (λ rs. solve k rs s.units) (drop_all k rows past)) ∙ stop in absurd (cc all)

pub row_below : (slots n : ℕ) (rows : List Row) (k : ℕ) (row : Row) → n ≡ slots → k < length rows → row ≡ get_or rows k row → All (λ (r : Row). VariablesBelow slots r.unit) rows → VariablesBelow n row.unit
row_below slots n rows k row e l is below =
    subst (λ m. VariablesBelow m row.unit) (sym e)
    (subst (λ (r : Row). VariablesBelow slots r.unit) (sym is) (All-get_or (λ (r : Row). VariablesBelow slots r.unit) rows k row l below))
