-- What holds of all layouts, by the definitions alone.
use Rattle.std.specs.Prelude.{◌≡◌, ℕ, List, Ok}
use Rattle.um_syntax.specs.declared.token.Token.{Token}
use Rattle.um_syntax.specs.Feeding.{IsTextAnswer}
use Rattle.um_tree.specs.RawTree.{DeclSyntax}
use Rattle.um_parse.specs.DeclGrammar.{IsProgram}
use Rattle.um_show.specs.Layout.{layout}
use Rattle.um_show.specs.Unplaced.{bare_program}

-- For each program that the tokens of some text are, the layout of it is a text whose tokens are the same program,
-- places aside.
abbrev pub LayoutIsReadBack : Type 0
LayoutIsReadBack =
    (text : List ℕ) (tokens : List Token) (ds : List DeclSyntax) → IsTextAnswer text (Ok tokens) → IsProgram tokens ds
    → (others : List Token) × (again : List DeclSyntax) × IsTextAnswer (layout ds) (Ok others) × IsProgram others again
    × (bare_program again ≡ bare_program ds)
