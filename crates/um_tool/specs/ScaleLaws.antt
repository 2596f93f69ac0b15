-- What answers to `rescale` and `twin` say, in the subject's words.
-- Source: the scaling law, and that a number at an open unit is 0, are Kennedy's (1997).
use Rattle.std.specs.Prelude.{ℕ, ◌≡◌, ◌≤◌, IsTrue, List, length, map, None, Some, Ok}
use Rattle.um_frac.specs.declared.number.Frac.{Frac}
use Rattle.um_syntax.specs.declared.token.Token.{Token}
use Rattle.um_tree.specs.RawTree.{DeclSyntax}
use Rattle.um_tree.specs.ValueTree.{ValueTree, OutcomeTree, value_outcome}
use Rattle.um_tree.specs.ValueTree.{InputTree, inputs_in_order, without_units}
use Rattle.um_tree.specs.ProgramTree.{ProgramTree}
use Rattle.um_tree.specs.Meaning.{outcome_of_call}
use Rattle.um_infer.specs.Schemes.{ArePrincipal}
use Rattle.um_run.specs.Calls.{CallTree, call_values}
use Rattle.um_run.specs.Laws.{IsTypedCall}
use Rattle.um_scaling.specs.RescaledProgram.{IsRescaled}
use Rattle.um_scaling.specs.RescaledInput.{RescaledInputs}
use Rattle.um_scaling.specs.ScaledValues.{OutcomesScaled}
use Rattle.um_scaling.specs.FreeNumbers.{IsFreeZero}
use Rattle.um_scale.specs.Sizes.{sizes}
use Rattle.um_scale.specs.RescaledLiterals.{misfit_in}
use Rattle.um_scale.specs.RescaledText.{IsRescaledText}
use Rattle.um_rescaled.specs.NumberLaws.{Spells}
use Rattle.um_rescaled.specs.UnplacedPrograms.{unplaced_program}
use Rattle.um_sizes.specs.BaseSizes.{AreScalesRead}
use Rattle.um_orders.specs.declared.order.Order.TheVariants.{Rescale, Twin}
use Rattle.um_orders.specs.Orders.{order_of}
use Rattle.um_reports.specs.declared.status.Status.{Status}
use Rattle.um_reports.specs.declared.status.Status.TheVariants.{Done}
use Rattle.um_front.specs.Stages.{ShapedTree, IsShapedText, CheckedTree, IsCheckedText}
use Rattle.um_call_answers.specs.AskedCall.{AskedCall}
use Rattle.um_call_answers.specs.TwinAnswer.{misfit_among, AreOutcomeReplies}
use Rattle.um_call_answers.specs.OfCall.{IsAskedCall}
use Rattle.um_tool.specs.Asked.{rescale_sizes, twin_sizes, called_twice}
use Rattle.um_tool.specs.Answer.{Answer}
use Rattle.um_tool.specs.Laws.{TypesAnswers}
use Rattle.um_tool.specs.CallLaws.{ends_a_call}

-- The program that the bytes spell, with the sizes of its base units that a word states, and in these sizes: each of
-- its literals has a rescaled number in range.
pub record InSizes (word bytes : List ℕ) : Type 0 where
  pub checked : CheckedTree
  pub spelled : IsCheckedText bytes checked
  pub scales : List Frac
  pub read : AreScalesRead checked.text.program.bases word (Ok scales)
  pub fit : misfit_in scales checked.text.program.functions ≡ None
  pub other : ProgramTree
  pub rescaled : IsRescaled (sizes scales) checked.text.program other

-- What `rescale` prints with status 0 are the bytes with the numbers of the rescaled program.
abbrev pub RescaledTextsAreRescaled : Type 0
RescaledTextsAreRescaled =
    (words : List (List ℕ)) (bytes text : List ℕ) →
    order_of words ≡ Some Rescale → Answer words bytes text Done →
    (s : InSizes (rescale_sizes words) bytes) × IsRescaledText bytes s.other text

-- Read again, this text spells that program but for places, with the same abbreviations; and if it is at most 1,048,576
-- bytes long, it is within all limits and has its shapes.
abbrev pub RescaledTextsAreRead : Type 0
RescaledTextsAreRead =
    (words : List (List ℕ)) (bytes text : List ℕ) →
    order_of words ≡ Some Rescale → Answer words bytes text Done →
    (s : InSizes (rescale_sizes words) bytes) × (tokens : List Token) × (raw : List DeclSyntax)
    × (again : ShapedTree) × Spells text tokens raw again.program
    × (unplaced_program again.program ≡ unplaced_program s.other)
    × (again.abbreviations ≡ s.checked.text.abbreviations) × (length text ≤ 1048576 → IsShapedText text again)

-- So if it isn't longer, `types` answers it with status 0, and with the lines with which it answers the bytes.
abbrev pub RescaledTextsHaveTheSchemes : Type 0
RescaledTextsHaveTheSchemes =
    (words : List (List ℕ)) (bytes text : List ℕ) →
    order_of words ≡ Some Rescale → Answer words bytes text Done → length text ≤ 1048576 →
    (lines : List ℕ) × TypesAnswers bytes lines Done × TypesAnswers text lines Done

-- This is a call that has a type, given principal schemes, and its arguments in other sizes are in range. Both outcomes
-- are those of the meaning, the second in the program in other sizes and on the arguments in other sizes. The second is
-- the first one rescaled at the call's type, unless one of them overflows; and a number of either value whose unit
-- isn't closed is 0.
pub record IsTwinCall (word : List ℕ) (asked : AskedCall) (bytes text : List ℕ) (status : Status) : Type 0 where
  pub both : InSizes word bytes
  pub principal :
      ArePrincipal both.checked.text.program (length both.checked.text.program.functions) both.checked.schemes
  pub call : CallTree
  pub named : IsAskedCall asked both.checked call
  pub typed : IsTypedCall both.checked.text.program call
  pub fit : misfit_among both.scales call.inputs ≡ None
  pub others : List InputTree
  pub rescaled : RescaledInputs (sizes both.scales) (inputs_in_order call.inputs) (inputs_in_order others)
  pub first : OutcomeTree
  pub meant : outcome_of_call both.checked.text.program call.function (call_values call) asked.budget ≡ Some first
  pub second : OutcomeTree
  pub also_meant :
      outcome_of_call both.other call.function (map without_units others) asked.budget ≡ Some second
  pub related :
      OutcomesScaled both.checked.text.program.records (sizes both.scales) first call.type second
  pub free_zeros :
      (v w : ValueTree) → first ≡ value_outcome v → second ≡ value_outcome w →
      IsFreeZero both.checked.text.program.records v call.type
      × IsFreeZero both.checked.text.program.records w call.type
  pub printed : AreOutcomeReplies both.checked.text.program call.type first second text status

-- Two calls that are answered with such a status ended as their meanings have it, and are related so.
abbrev pub EndedTwinsAreRelated : Type 0
EndedTwinsAreRelated =
    (budget : ℕ) (words : List (List ℕ)) (bytes text : List ℕ) (status : Status) →
    order_of words ≡ Some (Twin budget) → Answer words bytes text status → IsTrue (ends_a_call status) →
    IsTwinCall (twin_sizes words) (called_twice budget words) bytes text status
