-- That there is an answer. Want of memory is none.
-- Source: this project's own.
use Rattle.std.specs.Prelude.{ℕ, ◌⊎◌, List}
use Rattle.um_tree.specs.RawTree.{DeclSyntax}
use Rattle.um_reports.specs.declared.status.Status.{Status}
use Rattle.um_front.specs.Stages.{IsReadText}
use Rattle.um_front.specs.Refused.{IsUnread}

-- some text and status answer the bytes
abbrev pub HasAnswer : (List ℕ → List ℕ → Status → Type 0) → List ℕ → Type 0
HasAnswer Answers bytes = (text : List ℕ) × (status : Status) × Answers bytes text status

-- the bytes are read as a program within the limits, or there is a refusal of them
abbrev pub IsReadOrRefused : List ℕ → Type 0
IsReadOrRefused bytes = ((raw : List DeclSyntax) × IsReadText bytes raw) ⊎ HasAnswer IsUnread bytes
