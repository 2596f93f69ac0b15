use Rattle.std.proofs.Common.{map}
use Rattle.um_tree.specs.RawTree.{type_syntax}
use Rattle.um_tree.specs.TypeTree.{type_tree}
use Rattle.um_sig.specs.SignatureNames.{one_type}
use Rattle.um_names.specs.Tables.{known_of}
use Rattle.um_measures.proofs.Stages.{Stage}
use Rattle.um_sig.proofs.types.types.Given as goal

abbrev pub invariant-loop-text : goal.invariant-loop-text
invariant-loop-text l = Stage (one_type (known_of l.tables) l.variables) type_syntax l.raw (map type_tree l.types.items) l.text-index
