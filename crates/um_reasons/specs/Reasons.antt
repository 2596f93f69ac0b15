-- What is told of the agreement of the last row of a core: its two types after the elimination of the core's other
-- rows, and the factor between them.
-- Source: Kennedy (1996): the solution of the other rows is most general. The factor is this project's own.
use Rattle.std.specs.Prelude.{ℕ, ◌-◌, ◌&&◌, nat_eq, nat_le, not, Bool, true, if◌then◌else◌, List, length, filter}
use Rattle.std.specs.Prelude.{Option, Some, None, map, slice_index_or}
use Rattle.std.specs.List.{list_any, range_with_len}
use Rattle.um_units.specs.declared.Atom.{Atom}
use Rattle.um_units.specs.declared.Atom.TheVariants.{Base, Var}
use Rattle.um_units.specs.PowerMap.{PowerMap, one, inv, replace, nth}
use Rattle.um_units.specs.Range.{fits}
use Rattle.um_tree.specs.TypeTree.{TypeTree}
use Rattle.um_tree.specs.Typing.{put}
use Rattle.um_elim.specs.Application.{type_fits}
use Rattle.um_elim.specs.Elimination.{Elimination, Solved, NoSolution, Range, eliminate_rows}
use Rattle.um_elim.specs.Solution.{rigid_units}

-- the numbers of a core's rows other than the last of n rows, in order
abbrev pub other_rows : ℕ → List ℕ → List ℕ
other_rows n core = filter (λ k. list_any (nat_eq k) core) (range_with_len 0 (n - 1))

-- the units of the rows with these numbers
abbrev pub numbered : List PowerMap → List ℕ → List PowerMap
numbered rows list = map (λ k. slice_index_or rows k one) list

-- two types and the factor between them, or a power of the elimination or of a type is out of range
pub data Reason : Type 0 where
  disagree : TypeTree → TypeTree → Option PowerMap → Reason
  units_pass : Reason

-- a variable, or the base unit of a unit parameter
abbrev pub is_open : ℕ → Atom → Bool
is_open bases (Base n) = nat_le bases n
is_open bases (Var k) = true

-- what the first type is multiplied by to give the second, if the unit of the row that fails is closed and in range
abbrev pub factor : ℕ → PowerMap → Option PowerMap
factor bases u = if not (list_any (λ t. is_open bases t.atom) u.terms) && fits u then Some (inv u) else None

module _ (bases : ℕ) (first second : TypeTree) (row : PowerMap) where
  -- units: the solution of the other rows
  abbrev pub by_units : List PowerMap → Reason
  by_units units =
      if type_fits (put (nth units) first) && type_fits (put (nth units) second) then
      disagree (put (nth units) first) (put (nth units) second) (factor bases (replace (nth units) row))
      else units_pass

  -- a smaller part of a core is solvable
  abbrev pub by_elimination : Elimination → Reason
  by_elimination (Solved units) = by_units units
  by_elimination NoSolution = units_pass
  by_elimination Range = units_pass

-- rows: those up to the first unsolvable one, which is of an agreement of these two types
abbrev pub reason : ℕ → ℕ → ℕ → List PowerMap → List ℕ → TypeTree → TypeTree → Reason
reason bases parameters slots rows core first second =
    by_elimination bases first second (slice_index_or rows (length rows - 1) one)
    (eliminate_rows (rigid_units bases parameters slots) (numbered rows (other_rows (length rows) core)))
