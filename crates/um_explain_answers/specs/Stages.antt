-- What follows the report line of a text that is refused, by the first stage that fails.
-- Source: this project's own.
use Rattle.std.specs.Prelude.{ℕ, ◌≡◌, ◌⊎◌, List, length, None, Ok, Err}
use Rattle.um_syntax.specs.declared.token.Token.{Token}
use Rattle.um_syntax.specs.declared.token.TextStop.{TextStop}
use Rattle.um_syntax.specs.Feeding.{IsTextAnswer}
use Rattle.um_types.specs.declared.parse.ParseStop.{ParseStop}
use Rattle.um_tree.specs.RawTree.{DeclSyntax}
use Rattle.um_tree.specs.ProgramTree.{ProgramTree}
use Rattle.um_parse.specs.Parsed.{Parsed, IsRead}
use Rattle.um_measures.specs.declared.stop.NameStop.{NameStop}
use Rattle.um_measures.specs.Stops.{IsFirst}
use Rattle.um_names.specs.Resolution.{resolved_program}
use Rattle.um_shape.specs.declared.stop.ShapeStop.{ShapeStop}
use Rattle.um_shape.specs.FirstFault.{first_fault}
use Rattle.um_shape.specs.ShapedProgram.{IsRefusal}
use Rattle.um_infer.specs.declared.stop.InferStop.{InferStop}
use Rattle.um_infer.specs.Answers.{IsInferred}
use Rattle.um_explain_answers.specs.TokenRest.{IsTextRest, IsParseRest}
use Rattle.um_explain_answers.specs.NameRest.{IsNameRest, IsShapeRest}
use Rattle.um_explain_answers.specs.SchemeRest.{IsSchemeRest}

module _ (bytes : List ℕ) where
  -- a function of the program has no scheme
  abbrev pub AfterShapes : List DeclSyntax → ProgramTree → List ℕ → Type 0
  AfterShapes raw p rest = (stop : InferStop) × IsInferred p (Err stop) × IsSchemeRest bytes raw p stop rest

  -- a node of the program has no shape, or else a function has no scheme
  abbrev pub AfterNames : List DeclSyntax → ProgramTree → List ℕ → Type 0
  AfterNames raw p rest =
      ((stop : ShapeStop) × IsRefusal (first_fault p) stop × IsShapeRest bytes p stop rest)
      ⊎ ((first_fault p ≡ None) × AfterShapes raw p rest)

  -- a name of the tree stands for nothing, or else its program is refused
  abbrev pub AfterTree : List DeclSyntax → List ℕ → Type 0
  AfterTree raw rest =
      ((stop : NameStop) × IsFirst (resolved_program raw) stop × IsNameRest bytes raw stop rest)
      ⊎ ((p : ProgramTree) × (resolved_program raw ≡ Ok p) × AfterNames raw p rest)

  -- the tokens are no program within the limits, or else their tree is refused
  abbrev pub AfterTokens : List Token → List ℕ → Type 0
  AfterTokens tokens rest =
      ((stop : ParseStop) × Parsed tokens (length bytes) (Err stop) × IsParseRest bytes tokens stop rest)
      ⊎ ((raw : List DeclSyntax) × IsRead tokens raw × AfterTree raw rest)

  -- the text has no tokens, or else its tokens are refused
  unfoldable pub FollowsLine : List ℕ → Type 0
  FollowsLine rest =
      ((stop : TextStop) × IsTextAnswer bytes (Err stop) × IsTextRest bytes stop rest)
      ⊎ ((tokens : List Token) × IsTextAnswer bytes (Ok tokens) × AfterTokens tokens rest)
