-- The answer to `calls BUDGET`: the source is cut in two, its program is looked at once, and each line after it is
-- answered as `run` answers a call by the words of the line.
-- Source: this project's own.
use Rattle.std.specs.Prelude.{ℕ, ◌≡◌, ◌<◌, IsTrue, Bool, nat_le, List, [], ◌∷◌, ◌++◌, length, drop, get_or, codes}
use Rattle.std.specs.List.{list_all}
use Rattle.std.specs.Str.{IsUtf8}
use Rattle.um_lines.specs.Sources.{program_in, calls_of, words_in}
use Rattle.um_reports.specs.declared.status.Status.{Status}
use Rattle.um_reports.specs.declared.status.Status.TheVariants.{Done, TooLong}
use Rattle.um_reports.specs.Steps.{line, IsReply, Cases}
use Rattle.um_front.specs.Stages.{CheckedTree}
use Rattle.um_front.specs.Staged.{OfChecked}
use Rattle.um_call_answers.specs.declared.way.Way.TheVariants as way
use Rattle.um_call_answers.specs.AskedCall.{AskedCall}
use Rattle.um_call_answers.specs.CallAnswer.{IsCallAnswer}

-- ---- a line

-- the call that words ask for: the name of a function, and the texts of its arguments
abbrev pub call_by : ℕ → List (List ℕ) → AskedCall
call_by budget words = record { budget = budget; name = get_or words 0 []; texts = drop 1 words }

-- each word is at most 1,048,576 bytes long
abbrev pub are_short : List (List ℕ) → Bool
are_short words = list_all (λ (word : List ℕ). nat_le (length word) 1048576) words

-- the words of the line are those of a call: they are UTF-8, and none is too long
abbrev pub HasCallWords : List ℕ → Type 0
HasCallWords bytes = IsUtf8 bytes × IsTrue (are_short (words_in bytes))

-- the text is that which `run` answers with these words
abbrev pub IsRunText : ℕ → CheckedTree → List (List ℕ) → List ℕ → Type 0
IsRunText budget c words text = (status : Status) × IsCallAnswer way.Code (call_by budget words) c text status

-- an empty line is answered by an empty line, and one without words of a call as words of no command
unfoldable pub IsLineAnswer : ℕ → CheckedTree → List ℕ → List ℕ → Type 0
IsLineAnswer budget c bytes text = Cases (bytes ≡ []) (text ≡ line [])
    (Cases (HasCallWords bytes) (IsRunText budget c (words_in bytes) text) (text ≡ line (codes "error 1: usage")))

-- ---- all lines

-- the answers to the lines, in order
abbrev pub AreLineAnswers : ℕ → CheckedTree → List (List ℕ) → List ℕ → Type 0
AreLineAnswers budget c [] text = text ≡ []
AreLineAnswers budget c (bytes ∷ more) text =
    (first rest : List ℕ) × IsLineAnswer budget c bytes first × AreLineAnswers budget c more rest
    × (text ≡ first ++ rest)

abbrev pub AreCallsAnswers : ℕ → List (List ℕ) → CheckedTree → List ℕ → Status → Type 0
AreCallsAnswers budget lines c text status = AreLineAnswers budget c lines text × (status ≡ Done)

-- of the program's text and the lines after it
unfoldable pub SourceAnswer : ℕ → List ℕ → List ℕ → Status → Type 0
SourceAnswer budget bytes text status =
    OfChecked (AreCallsAnswers budget (calls_of bytes)) (program_in bytes) text status

-- the source is at most this long
unfoldable pub CallsAnswer : ℕ → List ℕ → List ℕ → Status → Type 0
CallsAnswer budget bytes text status = Cases (16777216 < length bytes)
    (IsReply text status (line (codes "error 2: text too long")) TooLong)
    (SourceAnswer budget bytes text status)
