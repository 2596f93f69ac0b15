-- How the steps of an answer follow each other: the first case that applies decides.
use Rattle.std.specs.Prelude.{◌≡◌, ◌⊎◌, ℕ, List, ◌++◌, codes}
use Rattle.um_reports.specs.declared.status.Status.{Status}

-- these bytes and a line feed
abbrev pub line : List ℕ → List ℕ
line bytes = bytes ++ codes "\n"

-- the text and the status are these
abbrev pub IsReply : List ℕ → Status → List ℕ → Status → Type 0
IsReply text status wanted_text wanted_status = (text ≡ wanted_text) × (status ≡ wanted_status)

-- if the case applies, what it says, and otherwise what comes after it
abbrev pub Cases : Type 0 → Type 0 → Type 0 → Type 0
Cases case here after = (case × here) ⊎ ((case → ⊥) × after)
