-- Rows that are solved one after another are kept, up to the first that has no solution, unless a number passes.
use Rattle.std.proofs.Common.{◌≡◌, ◌⊎◌, inl, inr, ℕ, zero, suc, ◌+◌, ◌<◌, List, ◌∷◌, map, length, drop, get_or, ℤ, refl, sym, ap, ◌∙◌, subst, arith}
use Rattle.std.proofs.lemmas.List.{length-map, drop_all, drop_more, get_or-map}
use Rattle.um_units.specs.declared.Atom.TheVariants.{Var}
use Rattle.um_units.specs.PowerMap.{PowerMap, one, atom, replace, nth}
use Rattle.um_wide.specs.Room.{IsNarrow}
use Rattle.um_wide.proofs.Rooms.{within-one}
use Rattle.um_elim.specs.ElimStep.{substitute}
use Rattle.um_elim.specs.Elimination.{Elimination, Solved, NoSolution, Range, eliminate}
use Rattle.um_elim.specs.EliminationSteps.{units_after, IsSolvedBySteps, LeavesOne, LeavesPower, IsRefusedBySteps}
use Rattle.um_elim.specs.Solution.{rigid_units}
use Rattle.um_elim.proofs.FollowedSteps.{eliminate_treated, eliminate_refused}
use Rattle.um_equal_types.specs.declared.row.Row.{Row}
use Rattle.um_equal_types.specs.Steps.{units_of}
use Rattle.um_rows.specs.FirstUnsolvable.{Solving, solved, unsolved, out_of_range, after_row, solve}
use Rattle.um_check.specs.Existence.{parts_after}
use Rattle.um_check.proofs.InverseSteps.{length-units_after}
use Rattle.um_kept.specs.Kept.{Kept, row_unit, row_total, kept_after_steps, ended, LeavePower, IsRowMade, IsReached, first}
use Rattle.um_kept.specs.Formed.{IsNumber, PassesInRow, PassesInRows}
use Rattle.um_all_answers.proofs.Narrow.{IsPastAmong, AreNarrow, all_narrow_or_past}

module _ (rows : List PowerMap) (start : Kept) where
  -- what is kept after the first k rows, of which these units are the solution
  pub record IsAfter (k : ℕ) (units : List PowerMap) : Type 0 where
    pub kept : Kept
    pub reached : IsReached rows start k kept
    pub solution : kept.solution ≡ units
    pub narrow : (j : ℕ) → j < length kept.solution → IsNarrow (kept.parts j)

  -- row k has no solution together with those before it
  pub record IsRefusedAfter (k : ℕ) : Type 0 where
    pub kept : Kept
    pub within : k < length rows
    pub reached : IsReached rows start k kept
    pub refused : IsRefusedBySteps (row_unit rows kept k)

  pub record Passes : Type 0 where
    pub number : ℤ
    pub passes : PassesInRows rows start number

  abbrev pub Ends : Solving → Type 0
  Ends (solved units) = IsAfter (length rows) units
  Ends (unsolved k at) = IsRefusedAfter k
  Ends (out_of_range at) = Unit {0}

-- ---- one row

module _ (rows : List PowerMap) (start : Kept) (k : ℕ) (within : k < length rows) (before : List PowerMap) (h : IsAfter rows start k before) (vs : List PowerMap) (t : IsSolvedBySteps h.kept.solution (row_unit rows h.kept k) vs) where
  abbrev kept : Kept
  kept = h.kept

  abbrev Next : Type 0
  Next = IsAfter rows start (suc k) vs ⊎ Passes rows start

  same_length : length (units_after t.steps kept.solution) ≡ length kept.solution
  same_length = length-units_after t.steps kept.solution

  by_one : LeavesOne t.steps kept.solution (row_unit rows kept k) vs → Next
  by_one left =
      let next = kept_after_steps rows kept k t.steps in
      let made : IsRowMade rows kept k next = (t.steps, t.are, inl (left.left, refl)) in
      inl (record { kept = next; reached = (kept, h.reached, made); solution = sym left.units; narrow = λ j less. h.narrow j (subst (λ n. j < n) same_length less) })

  module _ (left : LeavesPower t.steps kept.solution (row_unit rows kept k) vs) where
    abbrev parts : ℕ → PowerMap
    parts = parts_after left.m left.p (row_total rows kept k t.steps) (units_after t.steps kept.solution) kept.parts

    leaves : LeavePower rows kept k t.steps left.m left.p
    leaves = (left.positive, left.left)

    new_length : length (map (replace (substitute left.m one)) (units_after t.steps kept.solution)) ≡ length kept.solution
    new_length = length-map (units_after t.steps kept.solution) (replace (substitute left.m one)) ∙ same_length

    made_so : AreNarrow parts (length kept.solution) → Next
    made_so all =
        let next = ended rows kept k t.steps left.m left.p in
        let made : IsRowMade rows kept k next = (t.steps, t.are, inr (left.m, left.p, leaves, refl)) in
        inl (record { kept = next; reached = (kept, h.reached, made); solution = sym left.units; narrow = λ j less. all j (subst (λ n. j < n) new_length less) })

    passes : IsPastAmong parts (length kept.solution) → Next
    passes w =
        let number : IsNumber rows kept k w.past.number = (t.steps, t.are, inl (left.m, left.p, leaves, inr (inl (w.index, w.within, w.past.stands)))) in
        let past : PassesInRow rows kept k w.past.number = inr (number, w.past.passes) in
        inr (record { number = w.past.number; passes = (k, within, kept, h.reached, past) })

    by_power : Next
    by_power =
        elim (all_narrow_or_past parts (length kept.solution)) [
          | inl all ↦ made_so all
          | inr w ↦ passes w
        ]

  next_row : Next
  next_row =
      elim t.ends [
        | inl left ↦ by_one left
        | inr left ↦ by_power left
      ]

-- ---- row after row

module _ (list : List Row) (start : Kept) where
  abbrev rows : List PowerMap
  rows = units_of list

  long : length rows ≡ length list
  long = length-map list (λ (r : Row). r.unit)

  abbrev none : Row
  none = record { at = 0; unit = one }

  abbrev End : Solving → Type 0
  End end = Ends rows start end ⊎ Passes rows start

  module _ (k : ℕ) (within : k < length list) where
    abbrev row : Row
    row = get_or list k none

    inside : k < length rows
    inside = let l = long in omega (arith, l, within)

    unit : nth rows k ≡ row.unit
    unit = get_or-map (λ (r : Row). r.unit) list k none (atom (Var k)) within

    one_more : drop k list ≡ row ∷ drop (suc k) list
    one_more = drop_more list k none within ∙ ap (λ n. row ∷ drop n list) (next k)
      where
        next : (k : ℕ) → k + 1 ≡ suc k
        next k = omega arith

    module _ (units : List PowerMap) (h : IsAfter rows start k units) (further : (vs : List PowerMap) → IsAfter rows start (suc k) vs → End (solve (suc k) (drop (suc k) list) vs)) where
      as_kept : eliminate h.kept.solution (nth rows k) ≡ eliminate units row.unit
      as_kept = ap (λ us. eliminate us (nth rows k)) h.solution ∙ ap (eliminate units) unit

      by_row : (o : Elimination) → eliminate units row.unit ≡ o → End (after_row k row.at o (solve (suc k) (drop (suc k) list)))
      by_row (Solved vs) e =
          elim (next_row rows start k inside units h vs (eliminate_treated h.kept.solution (nth rows k) vs (as_kept ∙ e))) [
            | inl after ↦ further vs after
            | inr past ↦ inr past
          ]
      by_row NoSolution e = inl (record { kept = h.kept; within = inside; reached = h.reached; refused = eliminate_refused h.kept.solution (nth rows k) (as_kept ∙ e) })
      by_row Range e = inl tt

      step : solve k (drop k list) units ≡ after_row k row.at (eliminate units row.unit) (solve (suc k) (drop (suc k) list))
      step = ap (λ l. solve k l units) one_more

      go_on : End (solve k (drop k list) units)
      go_on = subst End (sym step) (by_row (eliminate units row.unit) refl)

  at_end : (k : ℕ) (units : List PowerMap) → k ≡ length list → IsAfter rows start k units → End (solve k (drop k list) units)
  at_end k units e h =
      let all : k ≡ length rows = e ∙ sym long in
      let last : Ends rows start (solved units) = subst (λ n. IsAfter rows start n units) all h in
      subst (λ l. End (solve k l units)) (sym (drop_all k list (omega (arith, e)))) (inl last)

  follow : (n k : ℕ) → k + n ≡ length list → (units : List PowerMap) → IsAfter rows start k units → End (solve k (drop k list) units)
  follow zero k e units h = at_end k units (omega (arith, e)) h
  follow (suc n) k e units h = go_on k (omega (arith, e)) units h (follow n (suc k) (omega (arith, e)))

pub rows_end : (bases parameters slots : ℕ) (list : List Row) →
    Ends (units_of list) (first bases parameters slots) (solve 0 list (rigid_units bases parameters slots)) ⊎ Passes (units_of list) (first bases parameters slots)
rows_end bases parameters slots list =
    let start = first bases parameters slots in
    let begun : IsAfter (units_of list) start 0 (rigid_units bases parameters slots) = record { kept = start; reached = refl; solution = refl; narrow = λ j less. within-one 9223372036854775807 } in
    follow list start (length list) 0 (omega arith) (rigid_units bases parameters slots) begun
