use Rattle.std.proofs.Common.{◌≡◌, [], rules}
use Rattle.std.proofs.lemmas.Result.{err_from_is_err_and}
use Rattle.um_tree.specs.RawTree.{note_syntax}
use Rattle.um_names.specs.Tables.{known_of}
use Rattle.um_names.specs.TypeNames.{resolved_note}
use Rattle.um_measures.proofs.Stages.{stage_first, stage_pushed, stage_stops, stage_ends}
use Rattle.um_names.proofs.types.unit_notes.Goals as goal

pub loop-text-init : goal.loop-text-init
loop-text-init c =
    let none : c.reserve.new.self.items ≡ [] = search rules in
    stage_first (resolved_note (known_of c.args.tables.now) c.args.variables.now c.args.holes) note_syntax c.args.raw.now c.reserve.new.self.items none

pub loop-text-preserved : goal.loop-text-preserved
loop-text-preserved c =
    stage_pushed (resolved_note (known_of c.args.tables.now) c.args.variables.now c.args.holes) note_syntax c.args.raw.now c.loop-text.items.items c.push.new.self.items c.loop-text.text-index c.text-item.result c.in_ok-unit_note.field-0
    c.loop-text.invariant c.loop-text-test.true c.text-item.is c.in_ok-unit_note.ensures.exact c.in_ok-push.ensures.items

pub returns-clause-exact : goal.returns-clause-exact
returns-clause-exact c = stage_ends (resolved_note (known_of c.args.tables.now) c.args.variables.now c.args.holes) note_syntax c.args.raw.now c.loop-text.items.items c.loop-text.text-index c.loop-text.invariant c.loop-text-test.false

pub returns-in_err-unit_note-clause-faults : goal.returns-in_err-unit_note-clause-faults
returns-in_err-unit_note-clause-faults c =
    let p = err_from_is_err_and c.from_residual-in_err-unit_note.result c.from_residual-in_err-unit_note.ensures.1 in
    rw (p.1, p.2)
    (stage_stops (resolved_note (known_of c.args.tables.now) c.args.variables.now c.args.holes) note_syntax c.args.raw.now c.loop-text.items.items c.loop-text.text-index c.text-item.result c.in_err-unit_note.field-0.0
    c.loop-text.invariant c.loop-text-test.true c.text-item.is c.in_err-unit_note.ensures.faults)
