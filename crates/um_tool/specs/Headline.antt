-- The headline: what is answered to a text that spells a program. Each third goes from its premises alone to what the
-- answer is; want of memory is no answer.
-- Source: principal schemes and typings are Kennedy's (1996), and the scaling of outcomes is Kennedy's (1997).
use Rattle.std.specs.Prelude.{ℕ, ◌≡◌, ◌⊎◌, ◌↔◌, Bool, true, false, IsTrue, List, [], ◌∷◌, length, codes}
use Rattle.std.specs.Prelude.{Option, None, Some, Ok}
use Rattle.std.specs.Io.KnownBytes.{Appends}
use Rattle.um_wire.specs.Faults.{Rose}
use Rattle.um_frac.specs.declared.number.Frac.{Frac}
use Rattle.um_tree.specs.TypeTree.{TypeTree}
use Rattle.um_tree.specs.ValueTree.{InputTree, inputs_in_order}
use Rattle.um_tree.specs.ProgramTree.{FunctionTree, ProgramTree, SchemeTree}
use Rattle.um_tree.specs.InputType.{IsResultOfCall}
use Rattle.um_measures.specs.ClosedUnits.{given}
use Rattle.um_rows.specs.Judgement.{too_many_slots, passes_range}
use Rattle.um_infer.specs.Inference.{infer}
use Rattle.um_infer.specs.Schemes.{ArePrincipal, AreTyped, IsFirstWithoutUnits, IsFirstNotGeneral}
use Rattle.um_infer.specs.Laws.{IsLimited}
use Rattle.um_infer.specs.CallJudgement.{judge_call}
use Rattle.um_run.specs.Calls.{AreInputs, parameter_shapes, IsNamed}
use Rattle.um_run.specs.Laws.{FitsTyping}
use Rattle.um_scale.specs.RescaledLiterals.{misfit_in}
use Rattle.um_sizes.specs.BaseSizes.{AreScalesRead}
use Rattle.um_orders.specs.declared.order.Order.{Order}
use Rattle.um_orders.specs.declared.order.Order.TheVariants.{Explain, Fmt, Tidy, Twin, Big, Prove, Exec, Calls}
use Rattle.um_orders.specs.Orders.{order_of}
use Rattle.um_reports.specs.declared.status.Status.{Status}
use Rattle.um_reports.specs.declared.status.Status.TheVariants.{Done, Units, Input, NoMemory, NotGeneral}
use Rattle.um_reports.specs.Refusals.{placed, units_label, not_general_label}
use Rattle.um_reports.specs.Steps.{line, IsReply}
use Rattle.um_front.specs.Stages.{ShapedTree, IsShapedText, CheckedTree, IsCheckedText}
use Rattle.um_answers.specs.TypesAnswer.{scheme_lines}
use Rattle.um_call_answers.specs.declared.way.Way.{Way}
use Rattle.um_call_answers.specs.AskedCall.{AskedCall}
use Rattle.um_call_answers.specs.TwinAnswer.{misfit_among}
use Rattle.um_tool.specs.Asked.{called, twin_sizes, called_twice, StatesUnits}
use Rattle.um_tool.specs.Answer.{Answer}
use Rattle.um_tool.specs.Passing.{IsCheckedWith}
use Rattle.um_tool.specs.Laws.{TypesAnswers}
use Rattle.um_tool.specs.CallLaws.{IsCall, IsMeantCall}
use Rattle.um_tool.specs.ScaleLaws.{IsTwinCall}

-- ---- schemes, or the first function without a typing

-- the text, of at most 1,048,576 bytes, spells this program with its shapes, and none of its functions passes its limit
-- of slots or of powers
pub record SpellsProgram (bytes : List ℕ) (s : ShapedTree) : Type 0 where
  pub shaped : IsShapedText bytes s
  pub unlimited : IsLimited (infer s.program) → ⊥

abbrev pub EachIsTyped : ProgramTree → Type 0
EachIsTyped p = AreTyped p (length p.functions)

module _ (bytes : List ℕ) (p : ProgramTree) (text : List ℕ) (status : Status) where
  -- a line for each function, in order: a scheme whose instances are exactly the function's typings
  abbrev pub PrintsSchemes : Type 0
  PrintsSchemes =
      (status ≡ Done)
      × ((schemes : List SchemeTree) × ArePrincipal p (length p.functions) schemes
      × (text ≡ scheme_lines p p.functions schemes))

  -- the first function without a typing, at its first equation that no units satisfy together with those before it
  abbrev pub NamesWithoutUnits : Type 0
  NamesWithoutUnits =
      (status ≡ Units)
      × ((i row at : ℕ) × (untyped : IsFirstWithoutUnits p i row at)
      × (text ≡ placed (units_label untyped.0.function.name) bytes at))

  -- the same, but some units do, and none in which each unit parameter is a unit of its own
  abbrev pub NamesNotGeneral : Type 0
  NamesNotGeneral =
      (status ≡ NotGeneral)
      × ((i row at : ℕ) × (untyped : IsFirstNotGeneral p i row at)
      × (text ≡ placed (not_general_label untyped.0.function.name) bytes at))

  abbrev pub NamesFirstUntyped : Type 0
  NamesFirstUntyped = NamesWithoutUnits ⊎ NamesNotGeneral

  -- if each function has a typing, the schemes; and otherwise the first function that has none
  abbrev pub SchemesOrFirstUntyped : Type 0
  SchemesOrFirstUntyped = (EachIsTyped p × PrintsSchemes) ⊎ ((EachIsTyped p → ⊥) × NamesFirstUntyped)

-- What `types` answers to such a text.
abbrev pub TypesAreSchemesOrFirstUntyped : Type 0
TypesAreSchemesOrFirstUntyped =
    (bytes : List ℕ) (s : ShapedTree) → SpellsProgram bytes s →
    (text : List ℕ) (status : Status) → TypesAnswers bytes text status →
    SchemesOrFirstUntyped bytes s.program text status

-- the order asks for the schemes of all functions of the text that it reads, and is refused without them
abbrev pub NeedsSchemes : Order → Type 0
NeedsSchemes Explain = ⊥
NeedsSchemes Fmt = ⊥
NeedsSchemes Tidy = ⊥
NeedsSchemes Prove = ⊥
NeedsSchemes (Big n) = ⊥
NeedsSchemes (Exec budget) = ⊥
NeedsSchemes (Calls budget) = ⊥
NeedsSchemes order = Unit {0}

-- the status is one with which a function without a typing is named
abbrev pub names_untyped : Status → Bool
names_untyped Units = true
names_untyped NotGeneral = true
names_untyped status = false

-- Each such order is answered the first function without a typing exactly if there is one. A word that shall state
-- units has to.
abbrev pub EachOrderNamesFirstUntyped : Type 0
EachOrderNamesFirstUntyped =
    (order : Order) (words : List (List ℕ)) (bytes : List ℕ) (s : ShapedTree) →
    NeedsSchemes order → StatesUnits order words → order_of words ≡ Some order → SpellsProgram bytes s →
    (text : List ℕ) (status : Status) → Answer words bytes text status →
    (EachIsTyped s.program × (IsTrue (names_untyped status) → ⊥))
    ⊎ ((EachIsTyped s.program → ⊥) × NamesFirstUntyped bytes s.program text status)

-- ---- calls of a text that has its schemes: each function has a typing, and none passes its limits

-- the arguments fit a typing of the function, and the call is within its limits of slots and of powers
abbrev pub FitsCall : AskedCall → CheckedTree → Type 0
FitsCall asked c = FitsTyping c.text.program c.text.abbreviations c.schemes asked.name asked.texts

-- What `run`, `steps` and `eval` answer to such a call: its meaning's outcome, each of a value, a trap and the budget's
-- end exactly if it is the outcome; a value of which the type of a part has a power out of range is told so.
abbrev pub FittingCallsAreMeant : Type 0
FittingCallsAreMeant =
    (order : Order) (w : Way) (budget : ℕ) (words : List (List ℕ)) (bytes text : List ℕ) (status : Status) →
    IsCall order w budget → order_of words ≡ Some order → IsCheckedWith bytes (FitsCall (called budget words)) →
    Answer words bytes text status → IsMeantCall w (called budget words) bytes text status

-- the name is a function's, the texts are inputs of its parameters' shapes, and the call is within its limits of slots
-- and of powers
pub record HasInputs (asked : AskedCall) (c : CheckedTree) : Type 0 where
  pub number : ℕ
  pub function : FunctionTree
  pub named : IsNamed c.text.program asked.name number function
  pub inputs : List InputTree
  pub read : AreInputs (given c.text.program c.text.abbreviations) (parameter_shapes function) asked.texts inputs
  pub few : judge_call c.text.program c.schemes number function (inputs_in_order inputs) ≡ too_many_slots → ⊥
  pub in_range :
      (at : ℕ) → judge_call c.text.program c.schemes number function (inputs_in_order inputs) ≡ passes_range at → ⊥

abbrev pub IsUnitsOfArguments : List ℕ → Status → Type 0
IsUnitsOfArguments text status = IsReply text status (line (codes "error 11: units of the arguments")) Input

-- The units of such arguments are refused exactly if no typing of the function has their types.
abbrev pub UnitsOfArgumentsAreExact : Type 0
UnitsOfArgumentsAreExact =
    (order : Order) (w : Way) (budget : ℕ) (words : List (List ℕ)) (bytes text : List ℕ) (status : Status) →
    IsCall order w budget → order_of words ≡ Some order → (c : CheckedTree) → IsCheckedText bytes c →
    (h : HasInputs (called budget words) c) → Answer words bytes text status →
    IsUnitsOfArguments text status
    ↔ ((t : TypeTree) → IsResultOfCall c.text.program h.number (inputs_in_order h.inputs) t → ⊥)

-- ---- calls in two sizes

-- the word states sizes of base units of the program, the arguments fit a typing, the call is within its limits, and
-- each literal and each number of the arguments has a rescaled number in range
pub record FitsTwice (word : List ℕ) (asked : AskedCall) (c : CheckedTree) : Type 0 where
  pub scales : List Frac
  pub read : AreScalesRead c.text.program.bases word (Ok scales)
  pub literals : misfit_in scales c.text.program.functions ≡ None
  pub fits : FitsCall asked c
  pub arguments : misfit_among scales fits.inputs ≡ None

-- What `twin` answers to such a call: both meanings' outcomes, of which the second is the first one rescaled unless one
-- overflows.
abbrev pub FittingTwinsAreRelated : Type 0
FittingTwinsAreRelated =
    (budget : ℕ) (words : List (List ℕ)) (bytes text : List ℕ) (status : Status) →
    order_of words ≡ Some (Twin budget) →
    IsCheckedWith bytes (FitsTwice (twin_sizes words) (called_twice budget words)) →
    Answer words bytes text status → IsTwinCall (twin_sizes words) (called_twice budget words) bytes text status

-- ---- a run of the program

-- the source told these bytes, no fault was met, and memory sufficed
pub record IsCalm
    (left : Option (List ℕ)) (bytes : List ℕ) (read_before read_now written_before written_now : ℕ) (status : Status)
    : Type 0 where
  pub told : left ≡ Some bytes
  pub reads : Rose read_before read_now → ⊥
  pub writes : Rose written_before written_now → ⊥
  pub memory : status ≡ NoMemory → ⊥

-- a text was added to the sink, and this holds of it and of the status
abbrev pub Writes : Option (List ℕ) → Option (List ℕ) → Status → (List ℕ → Status → Type 0) → Type 0
Writes old new status Says = (text : List ℕ) × Appends old new text × Says text status

-- What such a run wrote: the schemes or the first function without a typing, the outcome of a call, those of twins.
pub record ServesHeadline
    (words : List (List ℕ)) (bytes : List ℕ) (old new : Option (List ℕ)) (status : Status) : Type 0 where
  pub types :
      words ≡ codes "types" ∷ [] → (s : ShapedTree) → SpellsProgram bytes s →
      Writes old new status (SchemesOrFirstUntyped bytes s.program)
  pub calls :
      (order : Order) (w : Way) (budget : ℕ) → IsCall order w budget → order_of words ≡ Some order →
      IsCheckedWith bytes (FitsCall (called budget words)) →
      Writes old new status (IsMeantCall w (called budget words) bytes)
  pub twins :
      (budget : ℕ) → order_of words ≡ Some (Twin budget) →
      IsCheckedWith bytes (FitsTwice (twin_sizes words) (called_twice budget words)) →
      Writes old new status (IsTwinCall (twin_sizes words) (called_twice budget words) bytes)
