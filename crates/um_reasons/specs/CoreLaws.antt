-- What a core comes to. The definitions do not rest on this.
-- Source: Tamiz, Mardle and Jones (1996): the set that the additive method finds is irreducible.
use Rattle.std.specs.Prelude.{◌≡◌, ℕ, ◌-◌, ◌<◌, Bool, true, false, List, [], ◌++◌, length, take, Contains}
use Rattle.um_units.specs.PowerMap.{PowerMap}
use Rattle.um_units.specs.Solutions.{IsSolvable}
use Rattle.um_equal_types.specs.declared.row.Row.{Row}
use Rattle.um_equal_types.specs.Steps.{units_of}
use Rattle.um_rows.specs.FirstUnsolvable.{IsFirstUnsolvable, rows_up_to}
use Rattle.um_reasons.specs.Core.{IsSolvableList, IsCore}

-- the part has rows of the core alone, and not all of them
pub record IsSmallerPart (part core : List ℕ) : Type 0 where
  pub rows : (k : ℕ) → Contains part k → Contains core k
  pub left_out : ℕ
  pub held : Contains core left_out
  pub missing : Contains part left_out → ⊥

-- the last row is the first unsolvable one
pub record EndsUnsolvable (slots : ℕ) (given rows : List PowerMap) : Type 0 where
  pub some : 0 < length rows
  pub solvable : IsSolvable slots (given ++ take (length rows - 1) rows)
  pub unsolvable : IsSolvable slots (given ++ rows) → ⊥

-- a core that isn't cut off is unsolvable, and each smaller part of it is solvable. So none of its rows can be left out
abbrev pub CoresAreSmallest : Type 0
CoresAreSmallest =
    (slots : ℕ) (given rows : List PowerMap) (core : List ℕ) → EndsUnsolvable slots given rows →
    IsCore slots given rows core false →
    (IsSolvableList slots given rows core → ⊥)
    × ((part : List ℕ) → IsSmallerPart part core → IsSolvableList slots given rows part)

-- one that is cut off is solvable, and so is each part of it
abbrev pub CutCoresAreSolvable : Type 0
CutCoresAreSolvable =
    (slots : ℕ) (given rows : List PowerMap) (core : List ℕ) → IsCore slots given rows core true →
    IsSolvableList slots given rows core

-- there is one core: rows up to a first unsolvable one decide it
abbrev pub CoresAreUnique : Type 0
CoresAreUnique =
    (slots : ℕ) (given rows : List PowerMap) (core other : List ℕ) (cut_off also : Bool) →
    EndsUnsolvable slots given rows → IsCore slots given rows core cut_off → IsCore slots given rows other also →
    (core ≡ other) × (cut_off ≡ also)

-- rows up to the first unsolvable one end with it
abbrev pub FirstUnsolvableEnds : Type 0
FirstUnsolvableEnds =
    (slots : ℕ) (given : List PowerMap) (rows : List Row) (k at : ℕ) → IsFirstUnsolvable slots given rows k at →
    EndsUnsolvable slots given (units_of (rows_up_to k rows))

-- and so they do without the given equations, if they have no joint solution without them
abbrev pub FirstUnsolvableEndsAlone : Type 0
FirstUnsolvableEndsAlone =
    (slots : ℕ) (given : List PowerMap) (rows : List Row) (k at : ℕ) → IsFirstUnsolvable slots given rows k at →
    (IsSolvable slots (units_of (rows_up_to k rows)) → ⊥) → EndsUnsolvable slots [] (units_of (rows_up_to k rows))
