-- Calls of an image's functions.
-- Source: this project's own.
use Rattle.std.specs.Prelude.{◌≡◌, ℕ, List, Some, slice_get}
use Rattle.um_tree.specs.ValueTree.{ValueTree, OutcomeTree}
use Rattle.um_verify.specs.ImageTree.{HeadTree, ImageTree}
use Rattle.um_verify.specs.Laws.{OutcomeHas, IsCall}

-- function f is one of the image, and the values have its parameters' shapes
abbrev pub IsCallIn : ImageTree → ℕ → List ValueTree → Type 0
IsCallIn image f vs = (head : HeadTree) × IsCall image f head vs

-- a value has the shape of the function's result
abbrev pub ResultHas : ImageTree → ℕ → OutcomeTree → Type 0
ResultHas image f o = (head : HeadTree) → slice_get image.heads f ≡ Some head → OutcomeHas image.records o head.result
