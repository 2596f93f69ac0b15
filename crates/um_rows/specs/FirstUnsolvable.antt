-- The first row with which the rows have no joint solution, and the search for it.
-- Source: Kennedy (1996), unification in the free abelian group, equation by equation. That the first unsolvable row is
-- named is this project's own.
use Rattle.std.specs.Prelude.{◌≡◌, ℕ, suc, List, [], ◌∷◌, ◌++◌, length, take}
use Rattle.um_units.specs.PowerMap.{PowerMap}
use Rattle.um_units.specs.Solutions.{IsSolvable}
use Rattle.um_elim.specs.Elimination.{Elimination, Solved, NoSolution, Range, eliminate}
use Rattle.um_equal_types.specs.declared.row.Row.{Row}
use Rattle.um_equal_types.specs.Steps.{units_of}

-- row k, counted from 0, is the one, and it stands at this place: the given equations and the rows before it have a
-- joint solution, and with it they have none. If each unit parameter is a unit of its own, the given equations say so
pub record IsFirstUnsolvable (slots : ℕ) (given : List PowerMap) (rows : List Row) (k at : ℕ) : Type 0 where
  pub before : List Row
  pub row : Row
  pub behind : List Row
  pub splits : rows ≡ before ++ row ∷ behind
  pub index : length before ≡ k
  pub place : row.at ≡ at
  pub solvable : IsSolvable slots (given ++ units_of before)
  pub unsolvable : IsSolvable slots (given ++ (units_of before ++ row.unit ∷ [])) → ⊥

-- the rows up to row k
abbrev pub rows_up_to : ℕ → List Row → List Row
rows_up_to k rows = take (suc k) rows

-- what solving the rows one by one ends with: units for the slots, the number and the place of the row that has no
-- solution, or the place of the row at which a power is out of range
pub data Solving : Type 0 where
  solved : List PowerMap → Solving
  unsolved : ℕ → ℕ → Solving
  out_of_range : ℕ → Solving

abbrev pub after_row : ℕ → ℕ → Elimination → (List PowerMap → Solving) → Solving
after_row k at (Solved us) rest = rest us
after_row k at NoSolution rest = unsolved k at
after_row k at Range rest = out_of_range at

-- row after row, numbered from k on, from units for the slots
abbrev pub solve : ℕ → List Row → List PowerMap → Solving
solve k [] us = solved us
solve k (r ∷ rows) us = after_row k r.at (eliminate us r.unit) (solve (suc k) rows)
