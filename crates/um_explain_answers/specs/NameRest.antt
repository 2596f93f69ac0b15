-- What follows the report line of a name that stands for nothing, and of a node without a shape: the source line with a
-- caret, and the details.
-- Source: this project's own texts.
use Rattle.std.specs.Prelude.{ℕ, ◌≡◌, List, ◌++◌}
use Rattle.um_tree.specs.RawTree.{DeclSyntax}
use Rattle.um_tree.specs.ProgramTree.{ProgramTree}
use Rattle.um_types.specs.declared.parse.LimitKind.TheVariants as limit
use Rattle.um_measures.specs.declared.stop.NameStop.{NameStop}
use Rattle.um_measures.specs.declared.stop.NameStop.TheVariants as name_stop
use Rattle.um_shape.specs.declared.stop.ShapeStop.{ShapeStop}
use Rattle.um_shape.specs.declared.stop.ShapeStop.TheVariants as shape_stop
use Rattle.um_excerpt.specs.Excerpt.{excerpt}
use Rattle.um_sites.specs.NameDetails.{name_details}
use Rattle.um_mismatch.specs.ShapeDetails.{shape_details}
use Rattle.um_text_details.specs.LimitDetails.{limit_details}
use Rattle.um_reports.specs.Places.{place_text}

-- the place of a fault of names
abbrev pub name_place : NameStop → ℕ
name_place (name_stop.Unknown at) = at
name_place (name_stop.Twice at) = at
name_place (name_stop.WrongCount at) = at
name_place (name_stop.Hole at) = at
name_place (name_stop.Range at) = at
name_place name_stop.NoMemory = 0

abbrev pub IsNameRest : List ℕ → List DeclSyntax → NameStop → List ℕ → Type 0
IsNameRest bytes raw name_stop.NoMemory rest = ⊥
IsNameRest bytes raw stop rest = rest ≡ excerpt bytes (name_place stop) ++ name_details (place_text bytes) stop raw

-- the two shapes that don't match, or the limit of a shape's height
abbrev pub IsShapeRest : List ℕ → ProgramTree → ShapeStop → List ℕ → Type 0
IsShapeRest bytes p (shape_stop.Shape at) rest = rest ≡ excerpt bytes at ++ shape_details p
IsShapeRest bytes p (shape_stop.Depth at) rest = rest ≡ excerpt bytes at ++ limit_details limit.Depth
IsShapeRest bytes p shape_stop.NoMemory rest = ⊥
