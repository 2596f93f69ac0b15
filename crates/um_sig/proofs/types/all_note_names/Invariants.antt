use Rattle.std.proofs.Common.{◌≡◌, map, drop}
use Rattle.um_tree.specs.RawTree.{note_syntax}
use Rattle.um_sig.specs.SignatureNames.{all_note_names}
use Rattle.um_names.specs.Tables.{known_of}
use Rattle.um_sig.proofs.types.all_note_names.Given as goal

abbrev pub invariant-loop-text : goal.invariant-loop-text
invariant-loop-text l = all_note_names (known_of l.tables) l.variables (map note_syntax l.raw) ≡ all_note_names (known_of l.tables) l.variables (map note_syntax (drop l.text-index l.raw))
