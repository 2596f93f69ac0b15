-- What answers to `code`, to calls and to signatures say, in the subject's words.
-- Source: principal schemes and typings are Kennedy's (1996); the rest is this project's own.
use Rattle.std.specs.Prelude.{ℕ, ◌≡◌, ◌⊎◌, Bool, true, false, IsTrue, List, [], ◌∷◌, ◌++◌, length, chars, codes, Some}
use Rattle.std.specs.Prelude.{Ok, Option}
use Rattle.std.specs.Str.{IsUtf8}
use Rattle.um_tree.specs.TypeTree.{type_trees}
use Rattle.um_tree.specs.ValueTree.{ValueTree, OutcomeTree, value_outcome}
use Rattle.um_tree.specs.Meaning.{outcome_of_call}
use Rattle.um_scaling.specs.FreeNumbers.{IsFreeZero}
use Rattle.um_measures.specs.Known.{number_of, function_names}
use Rattle.um_infer.specs.Schemes.{ArePrincipal}
use Rattle.um_gen.specs.ProgramCode.{program_code}
use Rattle.um_code.specs.Listing.{listing_text}
use Rattle.um_run.specs.Calls.{CallTree, call_values}
use Rattle.um_run.specs.Laws.{IsTypedCall}
use Rattle.um_sig.specs.declared.signature.Signature.{Signature}
use Rattle.um_sig.specs.Reading.{IsRead}
use Rattle.um_sig.specs.Instances.{AreAllTypings}
use Rattle.um_lines.specs.Sources.{program_in, calls_of, words_in}
use Rattle.um_orders.specs.declared.order.Order.{Order}
use Rattle.um_orders.specs.declared.order.Order.TheVariants.{Run, Steps, Eval, Conform}
use Rattle.um_orders.specs.Orders.{order_of}
use Rattle.um_reports.specs.declared.status.Status.{Status}
use Rattle.um_reports.specs.declared.status.Status.TheVariants.{Done, Trap, BudgetEnd, NotConform}
use Rattle.um_reports.specs.Steps.{line, Cases}
use Rattle.um_front.specs.Stages.{CheckedTree, IsCheckedText}
use Rattle.um_call_answers.specs.declared.way.Way.{Way}
use Rattle.um_call_answers.specs.declared.way.Way.TheVariants as way
use Rattle.um_call_answers.specs.AskedCall.{AskedCall}
use Rattle.um_call_answers.specs.CallAnswer.{EndsBy, IsOutcomeReply}
use Rattle.um_call_answers.specs.OfCall.{IsAskedCall}
use Rattle.um_tool.specs.Asked.{called, held_name, signature_text}
use Rattle.um_tool.specs.Answer.{Answer}

-- What `code` prints with status 0 is the listing of the code of the program that the bytes spell.
abbrev pub PrintedCodeIsTheProgramsCode : Type 0
PrintedCodeIsTheProgramsCode =
    (bytes text : List ℕ) → Answer (codes "code" ∷ []) bytes text Done →
    (c : CheckedTree) × IsCheckedText bytes c
    × (text ≡ listing_text c.text.program (program_code c.text.program.functions))

-- ---- calls

-- the order calls a function, in this way and at this budget
abbrev pub IsCall : Order → Way → ℕ → Type 0
IsCall (Run n) w budget = (w ≡ way.Code) × (n ≡ budget)
IsCall (Steps n) w budget = (w ≡ way.Counted) × (n ≡ budget)
IsCall (Eval n) w budget = (w ≡ way.Tree) × (n ≡ budget)
IsCall order w budget = ⊥

-- a call ended: with a value, with a trap, or with the budget's end
abbrev pub ends_a_call : Status → Bool
ends_a_call Done = true
ends_a_call Trap = true
ends_a_call BudgetEnd = true
ends_a_call status = false

-- This is a call in the program that the bytes spell, given its principal schemes; the call has a type, and the text
-- and the status are those of its meaning's outcome at the budget. Run in this way, the call ends with it, and if steps
-- are counted, they are told, too. A number of its value is 0 if its unit isn't closed.
pub record IsMeantCall (way : Way) (asked : AskedCall) (bytes text : List ℕ) (status : Status) : Type 0 where
  pub checked : CheckedTree
  pub spelled : IsCheckedText bytes checked
  pub principal : ArePrincipal checked.text.program (length checked.text.program.functions) checked.schemes
  pub call : CallTree
  pub named : IsAskedCall asked checked call
  pub typed : IsTypedCall checked.text.program call
  pub outcome : OutcomeTree
  pub meant : outcome_of_call checked.text.program call.function (call_values call) asked.budget ≡ Some outcome
  pub free_zeros : (v : ValueTree) → outcome ≡ value_outcome v → IsFreeZero checked.text.program.records v call.type
  pub steps : Option ℕ
  pub ended : EndsBy way asked.budget checked.text.program call outcome steps
  pub printed : IsOutcomeReply checked.text.program call.type outcome steps text status

-- A call that is answered with such a status ended as its meaning has it.
abbrev pub EndedCallsAreMeant : Type 0
EndedCallsAreMeant =
    (order : Order) (w : Way) (budget : ℕ) (words : List (List ℕ)) (bytes text : List ℕ) (status : Status) →
    IsCall order w budget → order_of words ≡ Some order → Answer words bytes text status →
    IsTrue (ends_a_call status) → IsMeantCall w (called budget words) bytes text status

-- ---- many calls

-- the words of `run` at the budget that a word states, with the words of a line after it
abbrev pub run_words : List ℕ → List ℕ → List (List ℕ)
run_words budget bytes = codes "run" ∷ budget ∷ words_in bytes

-- The text is what `run` answers with the words of the line on the program. An empty line has an empty line, and one
-- that isn't UTF-8 the line for words of no command.
abbrev pub IsRunOf : List ℕ → List ℕ → List ℕ → List ℕ → Type 0
IsRunOf budget program bytes text = Cases (bytes ≡ []) (text ≡ line [])
    (Cases (IsUtf8 bytes) ((status : Status) × Answer (run_words budget bytes) program text status)
    (text ≡ line (codes "error 1: usage")))

-- line by line
abbrev pub AreRunsOf : List ℕ → List ℕ → List (List ℕ) → List ℕ → Type 0
AreRunsOf budget program [] text = text ≡ []
AreRunsOf budget program (bytes ∷ more) text =
    (first rest : List ℕ) × IsRunOf budget program bytes first × AreRunsOf budget program more rest
    × (text ≡ first ++ rest)

-- What `calls` answers with status 0 is, line by line, what `run` answers with the words of the line on the program.
abbrev pub CallsAreRuns : Type 0
CallsAreRuns =
    (budget bytes text : List ℕ) → Answer (codes "calls" ∷ budget ∷ []) bytes text Done →
    AreRunsOf budget (program_in bytes) (calls_of bytes) text

-- ---- signatures

-- a function conforms, or it doesn't for its form or its units
abbrev pub is_verdict : Status → Bool
is_verdict Done = true
is_verdict NotConform = true
is_verdict status = false

-- The words name a function of the program that the bytes spell, and a signature. With status 0 each instance of the
-- signature is a typing of the function, and otherwise not each is.
pub record IsVerdict (words : List (List ℕ)) (bytes text : List ℕ) (status : Status) : Type 0 where
  pub checked : CheckedTree
  pub spelled : IsCheckedText bytes checked
  pub number : ℕ
  pub named : number_of (function_names checked.text.program.functions) (held_name words) ≡ Some number
  pub signature : Signature
  pub read :
      IsRead checked.text.program checked.text.abbreviations (chars (signature_text words))
      (length (signature_text words)) (Ok signature)
  pub verdict :
      ((status ≡ Done) × AreAllTypings checked.text.program number (type_trees signature.types)
      × (text ≡ line (held_name words ++ codes " conforms")))
      ⊎ ((status ≡ NotConform) × (AreAllTypings checked.text.program number (type_trees signature.types) → ⊥))

abbrev pub VerdictsSayWhatTypingsAre : Type 0
VerdictsSayWhatTypingsAre =
    (words : List (List ℕ)) (bytes text : List ℕ) (status : Status) →
    order_of words ≡ Some Conform → Answer words bytes text status → IsTrue (is_verdict status) →
    IsVerdict words bytes text status
