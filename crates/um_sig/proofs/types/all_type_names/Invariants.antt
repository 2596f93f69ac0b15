use Rattle.std.proofs.Common.{◌≡◌, map, drop}
use Rattle.um_tree.specs.RawTree.{type_syntax}
use Rattle.um_sig.specs.SignatureNames.{all_type_names}
use Rattle.um_names.specs.Tables.{known_of}
use Rattle.um_sig.proofs.types.all_type_names.Given as goal

abbrev pub invariant-loop-text : goal.invariant-loop-text
invariant-loop-text l = all_type_names (known_of l.tables) l.variables (map type_syntax l.raw) ≡ all_type_names (known_of l.tables) l.variables (map type_syntax (drop l.text-index l.raw))
