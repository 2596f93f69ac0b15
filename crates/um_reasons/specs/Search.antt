-- The code's: rows added one by one, and what the search for the next row answers.
-- Source: this project's own; no public clause rests on it.
use Rattle.std.specs.Prelude.{◌≡◌, ℕ, Bool, true, false, List, ◌++◌, length}
use Rattle.um_units.specs.PowerMap.{PowerMap}
use Rattle.um_elim.specs.Elimination.{Elimination, Solved, NoSolution}
use Rattle.um_elim.specs.Instances.{SolvesExactly}
use Rattle.um_elim.specs.Solution.{parameter_rows}
use Rattle.um_equal_types.specs.declared.row.Row.{Row}
use Rattle.um_equal_types.specs.Steps.{units_of}
use Rattle.um_reasons.specs.declared.search.Next.{Next}
use Rattle.um_reasons.specs.declared.search.Next.TheVariants.{Unsolvable, Row as row_of}
use Rattle.um_reasons.specs.Core.{IsSolvableList, IsNextRow}

-- what a row makes of the units, if it is solved or not
abbrev pub outcome : Bool → List PowerMap → Elimination
outcome true us = Solved us
outcome false us = NoSolution

-- the instances of the units are the joint solutions of the unit parameters' equations and the rows
pub record AreSolved (slots bases parameters : ℕ) (rows units : List PowerMap) : Type 0 where
  pub exact : SolvesExactly slots (parameter_rows bases parameters ++ rows) units
  pub count : length units ≡ slots

-- ---- given: the equations of unit parameters
module _ (slots bases parameters : ℕ) (rows : List Row) where
  abbrev pub given : List PowerMap
  given = parameter_rows bases parameters

  abbrev pub IsNext : List ℕ → Next → Type 0
  IsNext list Unsolvable = IsSolvableList slots given (units_of rows) list → ⊥
  IsNext list (row_of j) =
      IsSolvableList slots given (units_of rows) list × IsNextRow slots given (units_of rows) list j

-- whether there is a further row
abbrev pub has_row : Next → Bool
has_row Unsolvable = false
has_row (row_of j) = true
