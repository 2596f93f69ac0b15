-- The core of rows that have no joint solution: rows that force the last one to fail. It begins with the last row, and
-- grows by the first row with which the rows are unsolvable.
-- Source: the additive method for an irreducible infeasible set (Tamiz, Mardle and Jones, Detecting IIS in infeasible
-- linear programmes, 1996), here over units in the free abelian group (Kennedy 1996). That it begins with the last row,
-- and the bound of 17 rows, are this project's own.
use Rattle.std.specs.Prelude.{◌≡◌, ℕ, suc, ◌-◌, ◌<◌, ◌≤◌, Bool, true, false, List, [], ◌∷◌, ◌++◌, length, map, take}
use Rattle.std.specs.Prelude.{slice_index_or}
use Rattle.um_units.specs.PowerMap.{PowerMap, one}
use Rattle.um_units.specs.Solutions.{IsSolvable}

-- given: equations that hold whatever the rows are, as those of unit parameters. rows: those up to the one that fails
module _ (slots : ℕ) (given rows : List PowerMap) where
  -- the rows with these numbers, counted from 0
  abbrev pub picked : List ℕ → List PowerMap
  picked list = map (λ k. slice_index_or rows k one) list

  -- the rows of the list and the first n of all have a joint solution
  abbrev pub IsSolvableWith : List ℕ → ℕ → Type 0
  IsSolvableWith list n = IsSolvable slots (given ++ picked list ++ take n rows)

  abbrev pub IsSolvableList : List ℕ → Type 0
  IsSolvableList list = IsSolvable slots (given ++ picked list)

  -- row j is the first with which they have none
  pub record IsNextRow (list : List ℕ) (j : ℕ) : Type 0 where
    pub within : j < length rows
    pub solvable : IsSolvableWith list j
    pub unsolvable : IsSolvableWith list (suc j) → ⊥

  -- each further row is the next one of those before it
  abbrev pub IsGrown : List ℕ → List ℕ → Type 0
  IsGrown list [] = Unit {0}
  IsGrown list (j ∷ further) = IsNextRow list j × IsGrown (list ++ j ∷ []) further

  -- a core that isn't cut off is unsolvable; one that is has 17 rows, and isn't
  abbrev pub EndsAs : List ℕ → Bool → Type 0
  EndsAs core false = IsSolvableList core → ⊥
  EndsAs core true = (length core ≡ 17) × IsSolvableList core

  -- a list on its way to the core: it begins with the last row
  pub record IsBegun (list : List ℕ) : Type 0 where
    pub further : List ℕ
    pub begins : list ≡ (length rows - 1) ∷ further
    pub grown : IsGrown ((length rows - 1) ∷ []) further

  -- the numbers of the rows in the order in which they came in, and whether it was cut off
  pub record IsCore (core : List ℕ) (cut_off : Bool) : Type 0 where
    pub begun : IsBegun core
    pub few : length core ≤ 17
    pub ends : EndsAs core cut_off
