-- Each call has an answer. Want of memory is none.
-- Source: this project's own.
use Rattle.std.specs.Prelude.{ℕ, ◌<◌, ◌⊎◌, IsTrue, All, List}
use Rattle.um_sizes.specs.ScaleWords.{is_scales}
use Rattle.um_display.specs.UnitWords.{PartSyntax, IsUnitWord}
use Rattle.um_reports.specs.declared.status.Status.{Status}
use Rattle.um_call_answers.specs.declared.way.Way.{Way}
use Rattle.um_call_answers.specs.AskedCall.{AskedCall}
use Rattle.um_call_answers.specs.CallAnswer.{CallAnswer}
use Rattle.um_call_answers.specs.TwinAnswer.{TwinAnswer}
use Rattle.um_call_answers.specs.BigAnswer.{BigAnswer}
use Rattle.um_call_answers.specs.ExecAnswer.{ExecAnswer}
use Rattle.um_call_answers.specs.CallsAnswer.{CallsAnswer}
use Rattle.um_shown_answers.specs.TraceAnswer.{TraceAnswer}
use Rattle.um_shown_answers.specs.ShowAnswer.{ShowAnswer}
use Rattle.um_all_answers.specs.Answered.{HasAnswer}

-- `run`, `steps` and `eval` answer each call about each text
abbrev pub CallsHaveAnswers : Type 0
CallsHaveAnswers = (way : Way) (asked : AskedCall) (bytes : List ℕ) → HasAnswer (CallAnswer way asked) bytes

-- so does `trace`
abbrev pub TracesHaveAnswers : Type 0
TracesHaveAnswers = (asked : AskedCall) (bytes : List ℕ) → HasAnswer (TraceAnswer asked) bytes

-- `twin` does, if its word states sizes
abbrev pub TwinsHaveAnswers : Type 0
TwinsHaveAnswers =
    (word : List ℕ) (asked : AskedCall) (bytes : List ℕ) → IsTrue (is_scales word) →
    HasAnswer (TwinAnswer word asked) bytes

-- it is decided whether a word states units
abbrev pub UnitWordsAreDecided : Type 0
UnitWordsAreDecided =
    (word : List ℕ) →
    ((parts : List PartSyntax) × IsUnitWord word parts) ⊎ ((parts : List PartSyntax) → IsUnitWord word parts → ⊥)

-- `show` has an answer, if its word states units
abbrev pub DisplaysHaveAnswers : Type 0
DisplaysHaveAnswers =
    (digits : ℕ) (word : List ℕ) (parts : List PartSyntax) (asked : AskedCall) (bytes : List ℕ) →
    IsUnitWord word parts → HasAnswer (ShowAnswer digits word asked) bytes

-- `calls` answers the calls of each source
abbrev pub SourcesHaveAnswers : Type 0
SourcesHaveAnswers = (budget : ℕ) (bytes : List ℕ) → HasAnswer (CallsAnswer budget) bytes

-- `big` answers about each generated program
abbrev pub GeneratedProgramsHaveAnswers : Type 0
GeneratedProgramsHaveAnswers = (n : ℕ) → (text : List ℕ) × (status : Status) × BigAnswer n text status

-- `exec` answers each call of all bytes
abbrev pub ImagesHaveAnswers : Type 0
ImagesHaveAnswers =
    (asked : AskedCall) (bytes : List ℕ) → All (λ b. b < 256) bytes → HasAnswer (ExecAnswer asked) bytes
