-- The answer to `explain`: that of `types`; and of a text that is refused, why. That is what was asked for, so the
-- answer is done then.
-- Source: this project's own.
use Rattle.std.specs.Prelude.{ℕ, ◌≡◌, Bool, true, false, List, ◌++◌}
use Rattle.um_reports.specs.declared.status.Status.{Status}
use Rattle.um_reports.specs.declared.status.Status.TheVariants.{Done, Utf8, Lexical, Syntax, Limit, Names, Shape}
use Rattle.um_reports.specs.declared.status.Status.TheVariants.{Units, PowerRange, NotGeneral}
use Rattle.um_answers.specs.TypesAnswer.{TypesAnswer}
use Rattle.um_explain_answers.specs.Stages.{FollowsLine}

-- the statuses of refusals of a text that are explained
abbrev pub is_explained : Status → Bool
is_explained Utf8 = true
is_explained Lexical = true
is_explained Syntax = true
is_explained Limit = true
is_explained Names = true
is_explained Shape = true
is_explained Units = true
is_explained PowerRange = true
is_explained NotGeneral = true
is_explained _ = false

-- a refusal that is explained: its line and what follows; any other answer as it is
abbrev pub Explains : Bool → List ℕ → List ℕ → Status → List ℕ → Status → Type 0
Explains true bytes line answered text status =
    (status ≡ Done) × (rest : List ℕ) × (text ≡ line ++ rest) × FollowsLine bytes rest
Explains false bytes line answered text status = (text ≡ line) × (status ≡ answered)

unfoldable pub ExplainAnswer : List ℕ → List ℕ → Status → Type 0
ExplainAnswer bytes text status =
    (line : List ℕ) × (answered : Status) × TypesAnswer bytes line answered
    × Explains (is_explained answered) bytes line answered text status
