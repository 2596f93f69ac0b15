use Rattle.std.proofs.Common.{ap, map, drop, ◌+◌}
use Rattle.std.specs.List.{flat_map}
use Rattle.um_tree.specs.RawTree.{note_syntax}
use Rattle.um_measures.specs.Variables.{first_occurrences, note_variables}
use Rattle.um_measures.proofs.Stages.{map_from_more}
use Rattle.um_measures.proofs.Occurrences.{occur_next}
use Rattle.um_measures.proofs.variables.in_notes.Goals as goal

pub loop-note-preserved : goal.loop-note-preserved
loop-note-preserved c =
    let ns = c.args.raw.now in
    let i = c.loop-note.note-index in
    let x = c.note-item.result in
    occur_next (first_occurrences c.args.names.now (flat_map note_variables (map note_syntax ns))) c.loop-note.names c.in_note.new.names (flat_map note_variables (map note_syntax (drop i ns))) (note_variables (note_syntax x)) (flat_map note_variables (map note_syntax (drop (i + 1) ns)))
    c.loop-note.invariant (ap (flat_map note_variables) (map_from_more note_syntax ns i x c.loop-note-test.true c.note-item.is)) c.in_ok-in_note.ensures
