use Rattle.um_tree.specs.RawTree.{note_syntax}
use Rattle.um_names.specs.Tables.{known_of}
use Rattle.um_names.specs.TypeNames.{resolved_note}
use Rattle.um_measures.proofs.Stages.{Stage}
use Rattle.um_names.proofs.types.unit_notes.Given as goal

abbrev pub invariant-loop-text : goal.invariant-loop-text
invariant-loop-text l = Stage (resolved_note (known_of l.tables) l.variables l.holes) note_syntax l.raw l.items.items l.text-index
