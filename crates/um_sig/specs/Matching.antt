-- The matching of a scheme's types with a signature's: equations of units, one for each unit, that are solved one after
-- another.
-- Source: Kennedy (1996): one type is an instance of another where the two unify with the variables of the first taken
-- for constants. That a constant is a base unit after the declared ones, and that powers are refused outside a range,
-- are this project's own.
use Rattle.std.specs.Prelude.{ℕ, suc, if◌then◌else◌, List, [], ◌∷◌, ◌++◌}
use Rattle.um_units.specs.PowerMap.{PowerMap, mul, inv, replace}
use Rattle.um_units.specs.Range.{fits}
use Rattle.um_tree.specs.TypeTree.{TypeTree, num_type, list_type, record_type}
use Rattle.um_tree.specs.Typing.{parameter_unit, put}
use Rattle.um_elim.specs.Elimination.{Elimination, Solved, NoSolution, Range, eliminate, on_solved}
use Rattle.um_elim.specs.Solution.{own_variables}

-- ---- the rows, where the signature's variable k is the base unit bases + k

module _ (bases : ℕ) where
  -- the unit of a signature with its variables as units of their own
  abbrev pub fixed : PowerMap → PowerMap
  fixed u = replace (parameter_unit bases) u

  -- and a type of a signature
  abbrev pub fixed_type : TypeTree → TypeTree
  fixed_type t = put (parameter_unit bases) t

  -- the scheme's unit over the signature's: it asks that it is 1, over the scheme's variables as slots
  abbrev pub unit_row : PowerMap → PowerMap → PowerMap
  unit_row u v = mul u (inv (fixed v))

  abbrev pub unit_rows : List PowerMap → List PowerMap → List PowerMap
  unit_rows (u ∷ us) (v ∷ vs) = unit_row u v ∷ unit_rows us vs
  unit_rows us vs = []

  -- the rows of two types of one form: one for each unit, from left to right
  abbrev pub type_rows : TypeTree → TypeTree → List PowerMap
  type_rows (num_type u) (num_type v) = unit_row u v ∷ []
  type_rows (list_type s) (list_type t) = type_rows s t
  type_rows (record_type r us) (record_type q vs) = unit_rows us vs
  type_rows s t = []

  -- of all types
  abbrev pub matching_rows : List TypeTree → List TypeTree → List PowerMap
  matching_rows (s ∷ ss) (t ∷ ts) = type_rows s t ++ matching_rows ss ts
  matching_rows ss ts = []

-- ---- their solution

-- the row's own powers come first, and then those that its elimination forms
abbrev pub eliminate_row : List PowerMap → PowerMap → Elimination
eliminate_row us row = if fits row then eliminate us row else Range

-- row after row: the first that has no solution with those before it, or leaves the range, is the outcome
abbrev pub eliminate_each : List PowerMap → List PowerMap → Elimination
eliminate_each us [] = Solved us
eliminate_each us (row ∷ rows) = on_solved (eliminate_row us row) (λ vs. eliminate_each vs rows)

-- what the rows end with: units for the scheme's variables; or the index, counted from 0, of the type that has the
-- first row without a solution, or the first that leaves the range
pub data Matching : Type 0 where
  matched : List PowerMap → Matching
  unmatched : ℕ → Matching
  out_of_range : ℕ → Matching

-- what comes after the rows of the type at index i
abbrev pub after_type : ℕ → Elimination → (List PowerMap → Matching) → Matching
after_type i (Solved us) rest = rest us
after_type i NoSolution rest = unmatched i
after_type i Range rest = out_of_range i

-- type after type, numbered from i on, from units for the scheme's variables
abbrev pub match_from : ℕ → ℕ → List TypeTree → List TypeTree → List PowerMap → Matching
match_from bases i (s ∷ ss) (t ∷ ts) us =
    after_type i (eliminate_each us (type_rows bases s t)) (match_from bases (suc i) ss ts)
match_from bases i ss ts us = matched us

-- a scheme over so many variables, with these types, against a signature
abbrev pub match_types : ℕ → ℕ → List TypeTree → List TypeTree → Matching
match_types bases vars ss ts = match_from bases 0 ss ts (own_variables vars)
