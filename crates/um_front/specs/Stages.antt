-- The stages that all commands on a text share: from its bytes to its program with the schemes of its functions.
-- Source: this project's own; schemes are Kennedy's (1996).
use Rattle.std.specs.Prelude.{ℕ, ◌≡◌, ◌≤◌, List, length, None, Ok}
use Rattle.um_syntax.specs.declared.token.Token.{Token}
use Rattle.um_syntax.specs.Feeding.{IsTextAnswer}
use Rattle.um_tree.specs.RawTree.{DeclSyntax}
use Rattle.um_tree.specs.ProgramTree.{ProgramTree, SchemeTree}
use Rattle.um_parse.specs.Parsed.{IsRead}
use Rattle.um_measures.specs.declared.abbreviation.Abbreviation.{Abbreviation}
use Rattle.um_names.specs.Resolution.{resolved_program, resolved_abbreviations}
use Rattle.um_shape.specs.FirstFault.{first_fault}
use Rattle.um_infer.specs.Inference.{all_schemes, infer}

-- The bytes are a text that is short enough, and its tokens are this program, as it is written, within the limits.
pub record IsReadText (bytes : List ℕ) (raw : List DeclSyntax) : Type 0 where
  pub short : length bytes ≤ 1048576
  pub tokens : List Token
  pub lexed : IsTextAnswer bytes (Ok tokens)
  pub read : IsRead tokens raw

-- what the names of a program stand for, and its abbreviations with their closed units
pub record ShapedTree : Type 0 where
  pub program : ProgramTree
  pub abbreviations : List Abbreviation

-- The text is read; its names stand for this program and these abbreviations; and each node has its shape.
pub record IsShapedText (bytes : List ℕ) (s : ShapedTree) : Type 0 where
  pub raw : List DeclSyntax
  pub written : IsReadText bytes raw
  pub resolved : resolved_program raw ≡ Ok s.program
  pub abbreviated : resolved_abbreviations raw ≡ Ok s.abbreviations
  pub faultless : first_fault s.program ≡ None

-- such a program, and a scheme for each of its functions
pub record CheckedTree : Type 0 where
  pub text : ShapedTree
  pub schemes : List SchemeTree

-- The text has its shapes, and these are the schemes of its functions.
pub record IsCheckedText (bytes : List ℕ) (c : CheckedTree) : Type 0 where
  pub shaped : IsShapedText bytes c.text
  pub inferred : infer c.text.program ≡ all_schemes c.schemes
