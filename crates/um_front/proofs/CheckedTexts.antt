-- What is known of a text with the value of a stage.
use Rattle.std.proofs.Common.{ℕ, List, length}
use Rattle.um_tree.specs.RawTree.{DeclSyntax}
use Rattle.um_tree.specs.Formed.{IsFormed}
use Rattle.um_names.specs.Readable.{IsReadable}
use Rattle.um_names.proofs.FormedPrograms.{resolution_formed}
use Rattle.um_front.proofs.TextBytes.{readable_program}
use Rattle.um_infer.specs.Schemes.{ArePrincipal}
use Rattle.um_infer.proofs.InferenceLaws.{given_schemes_are_principal}
use Rattle.um_run.specs.Calls.{AreClosedUnits}
use Rattle.um_run.specs.Laws.{AreKnown}
use Rattle.um_run.proofs.ClosedAbbreviations.{abbreviations_are_closed}
use Rattle.um_front.specs.Stages.{IsReadText, ShapedTree, IsShapedText, CheckedTree, IsCheckedText}

pub read_is_readable : (bytes : List ℕ) (raw : List DeclSyntax) → IsReadText bytes raw → IsReadable raw
read_is_readable bytes raw is = readable_program bytes is.tokens raw is.lexed.0 is.short is.lexed.1 is.read

pub shaped_is_formed : (bytes : List ℕ) (s : ShapedTree) → IsShapedText bytes s → IsFormed s.program
shaped_is_formed bytes s is = resolution_formed is.raw s.program (read_is_readable bytes is.raw is.written) is.resolved

pub units_are_closed : (bytes : List ℕ) (s : ShapedTree) → IsShapedText bytes s → AreClosedUnits (length s.program.bases) s.abbreviations
units_are_closed bytes s is = abbreviations_are_closed is.raw s.program s.abbreviations is.resolved is.abbreviated

pub checked_is_known : (bytes : List ℕ) (c : CheckedTree) → IsCheckedText bytes c → AreKnown c.text.program c.text.abbreviations c.schemes
checked_is_known bytes c is = record {
  formed = shaped_is_formed bytes c.text is.shaped;
  inferred = is.inferred;
  closed = units_are_closed bytes c.text is.shaped;
}

pub schemes_are_principal : (bytes : List ℕ) (c : CheckedTree) → IsCheckedText bytes c → ArePrincipal c.text.program (length c.text.program.functions) c.schemes
schemes_are_principal bytes c is = given_schemes_are_principal c.text.program (shaped_is_formed bytes c.text is.shaped) c.schemes is.inferred
