-- What a command says of a text: something of the value of the stage that it needs, or the refusal of the text.
-- Source: this project's own.
use Rattle.std.specs.Prelude.{ℕ, ◌⊎◌, List}
use Rattle.um_tree.specs.RawTree.{DeclSyntax}
use Rattle.um_reports.specs.declared.status.Status.{Status}
use Rattle.um_front.specs.Stages.{IsReadText, ShapedTree, IsShapedText, CheckedTree, IsCheckedText}
use Rattle.um_front.specs.Refused.{IsUnread, IsUnshaped, IsUnchecked}

-- of the program as it is written
abbrev pub OfRead : (List DeclSyntax → List ℕ → Status → Type 0) → List ℕ → List ℕ → Status → Type 0
OfRead Says bytes text status =
    ((raw : List DeclSyntax) × IsReadText bytes raw × Says raw text status) ⊎ IsUnread bytes text status

-- of the program with its shapes
abbrev pub OfShaped : (ShapedTree → List ℕ → Status → Type 0) → List ℕ → List ℕ → Status → Type 0
OfShaped Says bytes text status =
    ((s : ShapedTree) × IsShapedText bytes s × Says s text status) ⊎ IsUnshaped bytes text status

-- of the program with the schemes of its functions
abbrev pub OfChecked : (CheckedTree → List ℕ → Status → Type 0) → List ℕ → List ℕ → Status → Type 0
OfChecked Says bytes text status =
    ((c : CheckedTree) × IsCheckedText bytes c × Says c text status) ⊎ IsUnchecked bytes text status
