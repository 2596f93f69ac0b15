-- The elimination of a row: from the units of the slots those that solve the row too, and are most general.
-- Source: Kennedy (1996), unification in the free abelian group. The order of the steps, and that powers are refused
-- outside a range, are this project's own. Units are exact here, with powers without bound.
use Rattle.std.specs.Prelude.{ℕ, zero, suc, Bool, true, false, ◌&&◌, if◌then◌else◌}
use Rattle.std.specs.Prelude.{nat_abs, Option, Some, None, List, [], ◌∷◌, map}
use Rattle.std.specs.List.{list_all}
use Rattle.um_units.specs.declared.Term.{Term}
use Rattle.um_units.specs.PowerMap.{PowerMap, one, replace, nth}
use Rattle.um_units.specs.Range.{fits}
use Rattle.um_pivots.specs.declared.pivot.Pivot.{Pivot}
use Rattle.um_pivots.specs.Pivot.{pivot, least_power, has_other, has_base}
use Rattle.um_elim.specs.ElimStep.{substitute, step, inverted_if_negative}

-- what a row makes of the units of the slots: new units, or the row has no solution, or a power is out of range
pub data Elimination : Type 0 where
  Solved : List PowerMap → Elimination
  NoSolution : Elimination
  Range : Elimination

abbrev pub is_empty : List Term → Bool
is_empty [] = true
is_empty (t ∷ ts) = false

-- the end, if no variable except m occurs in r: no solution if a base unit does, otherwise m is replaced by 1
abbrev pub ended : ℕ → List PowerMap → PowerMap → Elimination
ended m us r = if has_base r then NoSolution else Solved (map (replace (substitute m one)) us)

-- after a step at m: Range if a power of r or of a slot's unit is out of range, then `again` if a variable other than m
-- occurs in r, otherwise the end
abbrev pub after_step : (List PowerMap → PowerMap → Elimination) → ℕ → List PowerMap → PowerMap → Elimination
after_step again m us r =
    if fits r && list_all fits us then (if has_other m r then again us r else ended m us r) else Range

-- the step at a pivot of r, which is inverted first if the pivot's power is negative. Without a variable the row is
-- solved if r is 1
abbrev pub step_at : (List PowerMap → PowerMap → Elimination) → List PowerMap → PowerMap → Option Pivot → Elimination
step_at again us r None = if is_empty r.terms then Solved us else NoSolution
step_at again us r (Some p) =
    let s = step p.variable (nat_abs p.power) (inverted_if_negative p.power r) in
    after_step again p.variable (map (replace s) us) (replace s (inverted_if_negative p.power r))

-- at most n steps. The least power falls from step to step, so n is enough if it is above the least power
abbrev pub steps : ℕ → List PowerMap → PowerMap → Elimination
steps zero us r = NoSolution
steps (suc n) us r = step_at (steps n) us r (pivot r)

-- the row with the slots' units put for its variables, and then the steps
abbrev pub eliminate : List PowerMap → PowerMap → Elimination
eliminate us row =
    let r = replace (nth us) row in
    if fits r then steps (suc (least_power r)) us r else Range

-- what comes after a row that is solved
abbrev pub on_solved : Elimination → (List PowerMap → Elimination) → Elimination
on_solved (Solved us) rest = rest us
on_solved NoSolution rest = NoSolution
on_solved Range rest = Range

-- row after row: the first that has no solution or a power out of range is the outcome
abbrev pub eliminate_rows : List PowerMap → List PowerMap → Elimination
eliminate_rows us [] = Solved us
eliminate_rows us (row ∷ rows) = on_solved (eliminate us row) (λ vs. eliminate_rows vs rows)
