-- What the code adds to a text, and what it asks of it.
-- Source: this project's own.
use Rattle.std.specs.Prelude.{ℕ, ◌≡◌, ◌<◌, ◌≤◌, List, ◌++◌, length, slice_get, take, Ok}
use Rattle.std.specs.Str.{IsUtf8}
use Rattle.um_syntax.specs.declared.token.TextStop.{TextStop}
use Rattle.um_syntax.specs.declared.token.TextStop.TheVariants as text_stop
use Rattle.um_tree.specs.RawTree.{DeclSyntax}
use Rattle.um_tree.specs.ProgramTree.{ProgramTree}
use Rattle.um_measures.specs.declared.abbreviation.Abbreviation.{Abbreviation}
use Rattle.um_names.specs.Resolution.{resolved_program, resolved_abbreviations}
use Rattle.um_shape.specs.declared.stop.ShapeStop.{ShapeStop}
use Rattle.um_shape.specs.declared.stop.ShapeStop.TheVariants as shape_stop
use Rattle.um_infer.specs.declared.stop.InferStop.{InferStop}
use Rattle.um_infer.specs.declared.stop.InferStop.TheVariants as infer_stop
use Rattle.um_front.specs.Places.{IsPlace}
use Rattle.um_reports.specs.declared.status.Status.{Status}
use Rattle.um_front.specs.Stages.{IsReadText}
use Rattle.um_front.specs.Refused.{IsUnchecked}
use Rattle.um_explain_answers.specs.SchemeRest.{function_place}

-- something of which P holds is added
abbrev pub Adds : (List ℕ → Type 0) → List ℕ → List ℕ → Type 0
Adds P before after = (rest : List ℕ) × (after ≡ before ++ rest) × P rest

-- the text isn't too long, and is refused with this line
abbrev pub IsRefused : List ℕ → List ℕ → Status → Type 0
IsRefused bytes line status = (length bytes ≤ 1048576) × IsUnchecked bytes line status

-- a text that was read stands for this program
pub record HasNames (bytes : List ℕ) (raw : List DeclSyntax) (p : ProgramTree) : Type 0 where
  pub read : IsReadText bytes raw
  pub resolved : resolved_program raw ≡ Ok p
  pub shorts : List Abbreviation
  pub abbreviated : resolved_abbreviations raw ≡ Ok shorts

-- ---- places of stops

-- where a text without tokens stops
abbrev pub IsTextPlace : List ℕ → TextStop → Type 0
IsTextPlace bytes (text_stop.Utf8 at) = (at ≤ length bytes) × IsUtf8 (take at bytes)
IsTextPlace bytes (text_stop.BadChar at) = IsPlace bytes at
IsTextPlace bytes (text_stop.NumberRange at) = IsPlace bytes at
IsTextPlace bytes (text_stop.PowerText at) = IsPlace bytes at
IsTextPlace bytes text_stop.NoMemory = Unit {0}

abbrev pub ShapePlace : (ℕ → Type 0) → ShapeStop → Type 0
ShapePlace P (shape_stop.Shape at) = P at
ShapePlace P (shape_stop.Depth at) = P at
ShapePlace P shape_stop.NoMemory = Unit {0}

-- the place of the equation, or of the name of the function
abbrev pub InferPlace : (ℕ → Type 0) → ProgramTree → InferStop → Type 0
InferPlace P p (infer_stop.Units i at) = P at
InferPlace P p (infer_stop.NotGeneral i at) = P at
InferPlace P p (infer_stop.PowerRange i at) = P at
InferPlace P p (infer_stop.Slots i) = (i < length p.functions) × P (function_place (slice_get p.functions i))
InferPlace P p infer_stop.NoMemory = Unit {0}
