-- Rows that are solved one by one.
-- Source: Kennedy (1996), unification in the free abelian group, equation by equation.
use Rattle.std.proofs.Common.{◌≡◌, ℕ, suc, ◌+◌, add-one, ◌<◌, ◌≤◌, List, length, drop, get_or, false, sym, ap, ◌∙◌, subst}
use Rattle.std.specs.Prelude.{All}
use Rattle.std.proofs.lemmas.List.{drop_more, drop_all}
use Rattle.um_units.specs.PowerMap.{PowerMap}
use Rattle.um_units.specs.Variables.{VariablesBelow}
use Rattle.um_tree.specs.ProgramTree.{Signature}
use Rattle.um_elim.specs.Elimination.{Solved, eliminate}
use Rattle.um_elim.specs.Adding.{VariablesStayBelow}
use Rattle.um_elim.specs.Solution.{Solution, own_variables, rigid, rigid_units}
use Rattle.um_elim.proofs.Slots.{length-rigid, rigid-own}
use Rattle.um_equal_types.specs.declared.row.Row.{Row}
use Rattle.um_rows.specs.FirstUnsolvable.{Solving, unsolved, out_of_range, after_row, solve, rows_up_to}
use Rattle.um_rows.specs.Judgement.{by_slots, by_solving, by_rows}
use Rattle.um_solving.specs.declared.refusal.Refusal.{Refusal}
use Rattle.um_solving.specs.declared.solving.SolveStop.{SolveStop}
use Rattle.um_solving.specs.declared.solving.SolveStop.TheVariants as stop
use Rattle.um_solving.specs.Solving.{RefusesRow, RefusesRows, IsSolutionOf, IsRefusal}

-- the solution after the first i rows
pub record IsSolvedUpTo (slots : ℕ) (start : List PowerMap) (rows : List Row) (i : ℕ) (solution : Solution) : Type 0 where
  pub goes_on : solve i (drop i rows) solution.units ≡ solve 0 rows start
  pub unspent : solution.spent ≡ false
  pub count : length solution.units ≡ slots
  pub below : All (VariablesBelow slots) solution.units

pub none_solved : (bases parameters slots : ℕ) (rows : List Row) (solution : Solution) → solution ≡ rigid bases parameters slots → All (VariablesBelow slots) solution.units → IsSolvedUpTo slots (rigid_units bases parameters slots) rows 0 solution
none_solved bases parameters slots rows solution is below = record {
  goes_on = ap (λ (s : Solution). solve 0 (drop 0 rows) s.units) is;
  unspent = ap (λ (s : Solution). s.spent) is;
  count = ap (λ (s : Solution). length s.units) is ∙ length-rigid bases parameters slots;
  below = below;
}

-- the next row
next_row : (rows : List Row) (i : ℕ) (row : Row) (us : List PowerMap) → i < length rows → row ≡ get_or rows i row →
    solve i (drop i rows) us ≡ after_row i row.at (eliminate us row.unit) (solve (i + 1) (drop (i + 1) rows))
next_row rows i row us l is =
    ap (λ rs. solve i rs us) (drop_more rows i row l)
    ∙ ap (λ (r : Row). after_row i r.at (eliminate us r.unit) (solve (suc i) (drop (i + 1) rows))) (sym is)
    ∙ ap (λ n. after_row i row.at (eliminate us row.unit) (solve n (drop (i + 1) rows))) (sym (add-one i))

module _ (slots : ℕ) (start : List PowerMap) where
  pub row_solved : (rows : List Row) (i : ℕ) (row : Row) (old new : Solution) → i < length rows → row ≡ get_or rows i row → IsSolvedUpTo slots start rows i old →
      eliminate old.units row.unit ≡ Solved new.units → new.spent ≡ false → length new.units ≡ length old.units → VariablesStayBelow old.units new.units → IsSolvedUpTo slots start rows (i + 1) new
  row_solved rows i row old new l is h e unspent same stays = record {
    goes_on =
        sym (next_row rows i row old.units l is ∙ ap (λ o. after_row i row.at o (solve (i + 1) (drop (i + 1) rows))) e) ∙ h.goes_on;
    unspent = unspent;
    count = same ∙ h.count;
    below = stays slots h.below;
  }

  pub row_refused : (rows : List Row) (i : ℕ) (row : Row) (old : Solution) (r : SolveStop) → i < length rows → row ≡ get_or rows i row → IsSolvedUpTo slots start rows i old →
      RefusesRow i row.at (eliminate old.units row.unit) r → RefusesRows (solve 0 rows start) r
  row_refused rows i row old (stop.NoSolution number place) l is h w =
      let e = sym h.goes_on ∙ next_row rows i row old.units l is in
      e ∙ ap (λ o. after_row i row.at o (solve (i + 1) (drop (i + 1) rows))) w.0 ∙ ap (λ n. unsolved n row.at) (sym w.1) ∙ ap (unsolved number) (sym w.2)
  row_refused rows i row old (stop.Range place) l is h w =
      let e = sym h.goes_on ∙ next_row rows i row old.units l is in
      e ∙ ap (λ o. after_row i row.at o (solve (i + 1) (drop (i + 1) rows))) w.0 ∙ ap out_of_range (sym w.1)
  row_refused rows i row old stop.NoMemory l is h w = w

  pub all_solved : (rows : List Row) (n : ℕ) (solution : Solution) → length rows ≤ n → IsSolvedUpTo slots start rows n solution → IsSolutionOf slots start rows solution
  all_solved rows n solution l h = record {
    solves = sym h.goes_on ∙ ap (λ rs. solve n rs solution.units) (drop_all n rows l);
    unspent = h.unspent;
    count = h.count;
    below = h.below;
  }

-- ---- with the unit parameters as slots like the others
pub own_start : (slots : ℕ) (rows : List Row) (s : Solving) → solve 0 rows (rigid_units 0 0 slots) ≡ s → solve 0 rows (own_variables slots) ≡ s
own_start slots rows s is = ap (solve 0 rows) (sym (rigid-own 0 slots)) ∙ is

-- ---- from the rows' end to the judgement, whatever the types and the place
module _ (bases parameters slots : ℕ) (rows : List Row) (r : Refusal) where
  pub refused_for : (s : Solving) → solve 0 rows (rigid_units bases parameters slots) ≡ s → ((at : ℕ) (g : Signature) → IsRefusal (by_solving bases parameters slots at g rows s) r) →
      (at : ℕ) (g : Signature) → IsRefusal (by_rows bases parameters slots at g rows) r
  refused_for s is h at g = subst (λ end. IsRefusal (by_solving bases parameters slots at g rows end) r) (sym is) (h at g)

  pub refused_for_row : (k at : ℕ) → solve 0 rows (rigid_units bases parameters slots) ≡ unsolved k at → IsRefusal (by_slots k at (solve 0 (rows_up_to k rows) (own_variables slots))) r →
      (place : ℕ) (g : Signature) → IsRefusal (by_rows bases parameters slots place g rows) r
  refused_for_row k at is h = refused_for (unsolved k at) is (λ place g. h)
