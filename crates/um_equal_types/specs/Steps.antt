-- What the typing rules form for a function over its slots, one after another: rows, and the types of its nodes.
-- Source: Kennedy (1996): the inference of units asks for equations between units, in the free abelian group. Their
-- order and their places are this project's own.
use Rattle.std.specs.Prelude.{ℕ, if◌then◌else◌, List, [], ◌∷◌, map, Option, Some, None}
use Rattle.um_units.specs.declared.Atom.TheVariants.{Base}
use Rattle.um_units.specs.PowerMap.{PowerMap, atom}
use Rattle.um_units.specs.Range.{fits}
use Rattle.um_tree.specs.TypeTree.{TypeTree}
use Rattle.um_elim.specs.Application.{type_fits}
use Rattle.um_equal_types.specs.declared.row.Row.{Row}

-- each step has the place of its node
pub data Step : Type 0 where
  -- a row: it asks that the unit is 1
  row_at : ℕ → PowerMap → Step
  -- a part has another shape than its node asks for
  wrong_shape_at : ℕ → Step
  -- the type of a node
  type_at : ℕ → TypeTree → Step

-- the types of what stands at one place
abbrev pub types_at : ℕ → List TypeTree → List Step
types_at at [] = []
types_at at (t ∷ ts) = type_at at t ∷ types_at at ts

-- the rows among the steps, in order. For a wrong shape there stands a row that no units satisfy
abbrev pub rows_of : List Step → List Row
rows_of [] = []
rows_of (row_at at u ∷ ss) = record { at = at; unit = u } ∷ rows_of ss
rows_of (wrong_shape_at at ∷ ss) = record { at = at; unit = atom (Base 0) } ∷ rows_of ss
rows_of (type_at at t ∷ ss) = rows_of ss

-- the units of some rows
abbrev pub units_of : List Row → List PowerMap
units_of rows = map (λ (r : Row). r.unit) rows

abbrev pub row_units : List Step → List PowerMap
row_units ss = units_of (rows_of ss)

-- the place of the first step that has a power outside -2147483647..2147483647
abbrev pub first_past : List Step → Option ℕ
first_past [] = None
first_past (row_at at u ∷ ss) = if fits u then first_past ss else Some at
first_past (wrong_shape_at at ∷ ss) = first_past ss
first_past (type_at at t ∷ ss) = if type_fits t then first_past ss else Some at
