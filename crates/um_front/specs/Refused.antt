-- How a text is refused: by its first stage that fails, with the line and the status of the fault.
-- Source: this project's own.
use Rattle.std.specs.Prelude.{ℕ, ◌≡◌, ◌≤◌, ◌<◌, ◌⊎◌, List, length, codes, slice_get, Some, Ok, Err}
use Rattle.um_syntax.specs.declared.token.Token.{Token}
use Rattle.um_syntax.specs.declared.token.TextStop.{TextStop}
use Rattle.um_syntax.specs.Feeding.{IsTextAnswer}
use Rattle.um_types.specs.declared.parse.ParseStop.{ParseStop}
use Rattle.um_tree.specs.RawTree.{DeclSyntax}
use Rattle.um_tree.specs.ProgramTree.{FunctionTree, ProgramTree}
use Rattle.um_parse.specs.Parsed.{Parsed}
use Rattle.um_measures.specs.declared.stop.NameStop.{NameStop}
use Rattle.um_measures.specs.Stops.{IsFirst}
use Rattle.um_names.specs.Resolution.{resolved_program}
use Rattle.um_shape.specs.declared.stop.ShapeStop.{ShapeStop}
use Rattle.um_shape.specs.FirstFault.{first_fault}
use Rattle.um_shape.specs.ShapedProgram.{IsRefusal}
use Rattle.um_infer.specs.Inference.{Inference, all_schemes, stops_at_slots, stops_at_range, stops_at_units}
use Rattle.um_infer.specs.Inference.{stops_at_not_general, infer}
use Rattle.um_reports.specs.declared.status.Status.{Status}
use Rattle.um_reports.specs.declared.status.Status.TheVariants.{TooLong}
use Rattle.um_reports.specs.Refusals.{IsTextReply, IsParseReply, IsNameReply, IsShapeReply, IsSlotsReply}
use Rattle.um_reports.specs.Refusals.{IsRangeReply, IsUnitsReply, IsNotGeneralReply}
use Rattle.um_reports.specs.Steps.{line, IsReply}
use Rattle.um_front.specs.Stages.{IsReadText, ShapedTree, IsShapedText}

-- the function of this number, and what is said of it
abbrev pub OfFunction : ProgramTree → ℕ → (FunctionTree → Type 0) → Type 0
OfFunction p i Says = (f : FunctionTree) × (slice_get p.functions i ≡ Some f) × Says f

-- ---- what fails first
module _ (bytes text : List ℕ) (status : Status) where
  -- the text is too long
  abbrev pub IsTooLong : Type 0
  IsTooLong = (1048576 < length bytes) × IsReply text status (line (codes "error 2: text too long")) TooLong

  -- it has no tokens
  abbrev pub HasNoTokens : Type 0
  HasNoTokens =
      (length bytes ≤ 1048576) × (stop : TextStop) × IsTextAnswer bytes (Err stop) × IsTextReply bytes stop text status

  -- its tokens are no program within the limits
  abbrev pub HasNoTree : Type 0
  HasNoTree =
      (length bytes ≤ 1048576) × (tokens : List Token) × IsTextAnswer bytes (Ok tokens)
      × (stop : ParseStop) × Parsed tokens (length bytes) (Err stop) × IsParseReply bytes stop text status

  -- a name of its program stands for nothing
  abbrev pub HasNoNames : Type 0
  HasNoNames =
      (raw : List DeclSyntax) × IsReadText bytes raw
      × (stop : NameStop) × IsFirst (resolved_program raw) stop × IsNameReply bytes stop text status

  -- a node has no shape
  abbrev pub HasNoShapes : Type 0
  HasNoShapes =
      (raw : List DeclSyntax) × IsReadText bytes raw × (p : ProgramTree) × (resolved_program raw ≡ Ok p)
      × (stop : ShapeStop) × IsRefusal (first_fault p) stop × IsShapeReply bytes stop text status

  -- a function has no scheme: the first such function is told
  abbrev pub IsUntypedReply : ProgramTree → Inference → Type 0
  IsUntypedReply p (all_schemes schemes) = ⊥
  IsUntypedReply p (stops_at_slots i) = OfFunction p i (λ f. IsSlotsReply bytes f.at text status)
  IsUntypedReply p (stops_at_range i at) = OfFunction p i (λ f. IsRangeReply bytes f.name at text status)
  IsUntypedReply p (stops_at_units i row at) = OfFunction p i (λ f. IsUnitsReply bytes f.name at text status)
  IsUntypedReply p (stops_at_not_general i row at) =
      OfFunction p i (λ f. IsNotGeneralReply bytes f.name at text status)

  abbrev pub HasNoSchemes : Type 0
  HasNoSchemes = (s : ShapedTree) × IsShapedText bytes s × IsUntypedReply s.program (infer s.program)

-- ---- the text is refused up to a stage

-- it isn't read
unfoldable pub IsUnread : List ℕ → List ℕ → Status → Type 0
IsUnread bytes text status = IsTooLong bytes text status ⊎ (HasNoTokens bytes text status ⊎ HasNoTree bytes text status)

-- or it is read, and has no shapes
unfoldable pub IsUnshaped : List ℕ → List ℕ → Status → Type 0
IsUnshaped bytes text status =
    IsUnread bytes text status ⊎ (HasNoNames bytes text status ⊎ HasNoShapes bytes text status)

-- or it has its shapes, and a function has no scheme
unfoldable pub IsUnchecked : List ℕ → List ℕ → Status → Type 0
IsUnchecked bytes text status = IsUnshaped bytes text status ⊎ HasNoSchemes bytes text status
