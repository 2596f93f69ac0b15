-- The form of a type, and where two lists of types first differ in form.
-- Source: this project's own: a signature may be used for a function only if both have the same types but for units.
use Rattle.std.specs.Prelude.{◌≡◌, ◌≢◌, ◌<◌, ℕ, List, map, Option, slice_get}
use Rattle.um_units.specs.PowerMap.{one}
use Rattle.um_tree.specs.TypeTree.{TypeTree}
use Rattle.um_tree.specs.Typing.{moved}

-- the type with the unit 1 in place of each of its units. A record keeps its number of units
abbrev pub form : TypeTree → TypeTree
form t = moved (λ u. one) t

-- the form of the type at an index, counted from 0, if a type stands there
abbrev pub form_at : List TypeTree → ℕ → Option TypeTree
form_at ts i = slice_get (map form ts) i

-- as many types, of the same forms
abbrev pub AreAlike : List TypeTree → List TypeTree → Type 0
AreAlike ss ts = map form ss ≡ map form ts

-- the first index at which one list has a type and the other none, or the two types have two forms
pub record IsFirstDifference (ss ts : List TypeTree) (i : ℕ) : Type 0 where
  pub before : (j : ℕ) → j < i → form_at ss j ≡ form_at ts j
  pub here : form_at ss i ≢ form_at ts i
