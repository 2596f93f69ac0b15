-- What follows the report line of a function without a scheme: the source line with a caret, and the details.
-- Source: this project's own texts.
use Rattle.std.specs.Prelude.{ℕ, ◌≡◌, List, ◌++◌, slice_get, Option, Some, None}
use Rattle.um_tree.specs.RawTree.{DeclSyntax}
use Rattle.um_tree.specs.ProgramTree.{FunctionTree, ProgramTree}
use Rattle.um_types.specs.declared.parse.LimitKind.TheVariants as limit
use Rattle.um_infer.specs.declared.stop.InferStop.{InferStop}
use Rattle.um_infer.specs.declared.stop.InferStop.TheVariants as stop
use Rattle.um_excerpt.specs.Excerpt.{excerpt}
use Rattle.um_explain_answers.specs.UnitsDetails.{IsUnitsDetails}
use Rattle.um_text_details.specs.LimitDetails.{limit_details, range_details}

-- the place of a function's name
abbrev pub function_place : Option FunctionTree → ℕ
function_place None = 0
function_place (Some f) = f.at

-- the units that disagree, or the limit
abbrev pub IsSchemeRest : List ℕ → List DeclSyntax → ProgramTree → InferStop → List ℕ → Type 0
IsSchemeRest bytes raw p (stop.Units i at) rest =
    (details : List ℕ) × IsUnitsDetails bytes raw p (stop.Units i at) details × (rest ≡ excerpt bytes at ++ details)
IsSchemeRest bytes raw p (stop.NotGeneral i at) rest =
    (details : List ℕ) × IsUnitsDetails bytes raw p (stop.NotGeneral i at) details
    × (rest ≡ excerpt bytes at ++ details)
IsSchemeRest bytes raw p (stop.PowerRange i at) rest = rest ≡ excerpt bytes at ++ range_details
IsSchemeRest bytes raw p (stop.Slots i) rest =
    rest ≡ excerpt bytes (function_place (slice_get p.functions i)) ++ limit_details limit.Slots
IsSchemeRest bytes raw p stop.NoMemory rest = ⊥
