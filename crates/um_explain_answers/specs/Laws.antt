-- What holds of all answers to `explain`.
use Rattle.std.specs.Prelude.{ℕ, ◌≡◌, ◌≤◌, ◌⊎◌, IsTrue, List, ◌++◌, length}
use Rattle.um_reports.specs.declared.status.Status.{Status}
use Rattle.um_reports.specs.declared.status.Status.TheVariants.{Done}
use Rattle.um_answers.specs.TypesAnswer.{TypesAnswer}
use Rattle.um_explain_answers.specs.ExplainAnswer.{is_explained, ExplainAnswer}

-- the answer of `types`; or its line, if that is the refusal of a text, with more after it, and done
abbrev pub Follows : List ℕ → Status → List ℕ → Status → Type 0
Follows text status line answered =
    ((text ≡ line) × (status ≡ answered))
    ⊎ ((status ≡ Done) × IsTrue (is_explained answered) × (rest : List ℕ) × (text ≡ line ++ rest))

abbrev pub ExplanationsFollowTypes : Type 0
ExplanationsFollowTypes =
    (bytes text line : List ℕ) (status answered : Status) → ExplainAnswer bytes text status →
    TypesAnswer bytes line answered → Follows text status line answered

-- a text that isn't too long is explained
abbrev pub ExplanationsAreDone : Type 0
ExplanationsAreDone =
    (bytes text : List ℕ) (status : Status) → length bytes ≤ 1048576 → ExplainAnswer bytes text status → status ≡ Done
