-- What is asked of the words and the bytes so that every step of the answer goes through.
-- Source: this project's own.
use Rattle.std.specs.Prelude.{ℕ, ◌-◌, ◌≤◌, List, length}
use Rattle.um_tree.specs.RawTree.{DeclSyntax}
use Rattle.um_lines.specs.Sources.{program_in}
use Rattle.um_orders.specs.declared.order.Order.{Order}
use Rattle.um_orders.specs.declared.order.Order.TheVariants.{Types, Explain, Annot, Code, Fmt, Tidy, Run, Steps, Eval}
use Rattle.um_orders.specs.declared.order.Order.TheVariants.{Trace, Show, Conform, Rescale, Twin}
use Rattle.um_orders.specs.declared.order.Order.TheVariants.{Big, Prove, Image, Exec, Calls}
use Rattle.um_front.specs.Stages.{IsReadText, CheckedTree, IsCheckedText}
use Rattle.um_answers.specs.Passing.{IsTypedText, IsProvableText, HasNodeTypes, HasTypings, HasSizes}
use Rattle.um_call_answers.specs.AskedCall.{AskedCall}
use Rattle.um_call_answers.specs.BigText.{big_text}
use Rattle.um_call_answers.specs.BigAnswer.{last_call}
use Rattle.um_call_answers.specs.ExecAnswer.{GivesImageValue}
use Rattle.um_call_answers.specs.Passing.{GivesValue, GivesTwins}
use Rattle.um_shown_answers.specs.Laws.{CanBeTraced}
use Rattle.um_shown_answers.specs.Passing.{GivesDisplay}
use Rattle.um_tool.specs.Asked.{called, held_name, signature_text, rescale_sizes, twin_sizes, called_twice}
use Rattle.um_tool.specs.Asked.{shown_units, called_shown, StatesUnits}

-- the text has its schemes, and this holds of its program
abbrev pub IsCheckedWith : List ℕ → (CheckedTree → Type 0) → Type 0
IsCheckedWith bytes Holds = (c : CheckedTree) × IsCheckedText bytes c × Holds c

abbrev pub CallGoesThrough : AskedCall → List ℕ → Type 0
CallGoesThrough asked bytes = IsCheckedWith bytes (λ c. GivesValue asked c)

abbrev pub GoesThrough : Order → List (List ℕ) → List ℕ → Type 0
GoesThrough Types words bytes = IsTypedText bytes
GoesThrough Explain words bytes = length bytes ≤ 1048576
GoesThrough Annot words bytes = IsCheckedWith bytes (λ c. HasNodeTypes c)
GoesThrough Code words bytes = IsTypedText bytes
GoesThrough Fmt words bytes = (raw : List DeclSyntax) × IsReadText bytes raw
GoesThrough Tidy words bytes = (raw : List DeclSyntax) × IsReadText bytes raw
GoesThrough (Run budget) words bytes = CallGoesThrough (called budget words) bytes
GoesThrough (Steps budget) words bytes = CallGoesThrough (called budget words) bytes
GoesThrough (Eval budget) words bytes = CallGoesThrough (called budget words) bytes
GoesThrough (Trace budget) words bytes = IsCheckedWith bytes (λ c. CanBeTraced (called budget words) c)
GoesThrough (Show digits budget) words bytes =
    StatesUnits (Show digits budget) words
    × IsCheckedWith bytes (λ c. GivesDisplay (shown_units words) (called_shown budget words) c)
GoesThrough Conform words bytes = IsCheckedWith bytes (λ c. HasTypings (held_name words) (signature_text words) c)
GoesThrough Rescale words bytes = IsCheckedWith bytes (λ c. HasSizes (rescale_sizes words) c.text.program)
GoesThrough (Twin budget) words bytes =
    IsCheckedWith bytes (λ c. GivesTwins (twin_sizes words) (called_twice budget words) c)
GoesThrough (Big n) words bytes = CallGoesThrough (last_call (n - 1)) (big_text n)
GoesThrough Prove words bytes = IsProvableText bytes
GoesThrough Image words bytes = IsTypedText bytes
GoesThrough (Exec budget) words bytes = GivesImageValue (called budget words) bytes
GoesThrough (Calls budget) words bytes = (length bytes ≤ 16777216) × IsTypedText (program_in bytes)
