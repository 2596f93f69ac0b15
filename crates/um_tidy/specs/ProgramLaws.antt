-- What holds of each program that the tokens of some text are, laid out in both ways: by its tree alone (`layout` of
-- `um_show`), and with its own tokens, comments and line breaks (`tidied` of `um_tidy`).
-- Source: this project's own.
use Rattle.std.specs.Prelude.{◌≡◌, ℕ, List, Ok}
use Rattle.um_syntax.specs.declared.token.Token.{Token}
use Rattle.um_syntax.specs.Feeding.{IsTextAnswer}
use Rattle.um_tree.specs.RawTree.{DeclSyntax}
use Rattle.um_parse.specs.DeclGrammar.{IsProgram}
use Rattle.um_show.specs.Layout.{layout}
use Rattle.um_show.specs.Unplaced.{bare_program}
use Rattle.um_tidy.specs.Tidied.{tidied}

-- The layout of a program is laid out as it stands. So between two tokens the layout has a space exactly if the table
-- of spaces has one there, and it has a line of its own for each token that begins a declaration and for no other.
abbrev pub LayoutIsTidy : Type 0
LayoutIsTidy =
    (text : List ℕ) (tokens : List Token) (ds : List DeclSyntax) → IsTextAnswer text (Ok tokens) → IsProgram tokens ds
    → (others : List Token) × IsTextAnswer (layout ds) (Ok others) × (tidied (layout ds) others ≡ layout ds)

-- The text of a program laid out anew is a text whose tokens are the same program, places aside.
abbrev pub ProgramStays : Type 0
ProgramStays =
    (text : List ℕ) (tokens : List Token) (ds : List DeclSyntax) → IsTextAnswer text (Ok tokens) → IsProgram tokens ds
    → (others : List Token) × (again : List DeclSyntax) × IsTextAnswer (tidied text tokens) (Ok others)
    × IsProgram others again × (bare_program again ≡ bare_program ds)

-- The layout of a text laid out anew is that of the text.
abbrev pub LayoutStays : Type 0
LayoutStays =
    (text : List ℕ) (tokens : List Token) (ds : List DeclSyntax) → IsTextAnswer text (Ok tokens) → IsProgram tokens ds
    → (others : List Token) × (again : List DeclSyntax) × IsTextAnswer (tidied text tokens) (Ok others)
    × IsProgram others again × (layout again ≡ layout ds)
