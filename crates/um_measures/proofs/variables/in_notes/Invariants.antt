use Rattle.std.proofs.Common.{◌≡◌, map, drop}
use Rattle.std.specs.List.{flat_map}
use Rattle.um_tree.specs.RawTree.{note_syntax}
use Rattle.um_measures.specs.Variables.{first_occurrences, note_variables}
use Rattle.um_measures.proofs.variables.in_notes.Given as goal

abbrev pub invariant-loop-note : goal.invariant-loop-note
invariant-loop-note l = first_occurrences l.fn.names (flat_map note_variables (map note_syntax l.raw)) ≡ first_occurrences l.names (flat_map note_variables (map note_syntax (drop l.note-index l.raw)))
