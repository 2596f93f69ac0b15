use Rattle.std.proofs.Common.{◌≡◌, ◌≤◌, map, sym, ap, subst}
use Rattle.std.proofs.lemmas.Result.{IfOk-weaker}
use Rattle.std.specs.Prelude.{IfOk}
use Rattle.um_syntax.specs.declared.token.Token.{Token}
use Rattle.um_reader.specs.declared.taken.Taken.{Taken}
use Rattle.um_tree.specs.ProgramTree.{record_tree}
use Rattle.um_unit_texts.specs.UnitStops.{greatest_height}
use Rattle.um_types.specs.NoteView.{note_state}
use Rattle.um_value.specs.declared.frame.Focus.{Focus}
use Rattle.um_value.specs.ValueMachine.{ValueState, InNote, own_act, value_finish, value_least}
use Rattle.um_value.specs.ValueView.{stack, state_of, value_state, Moves, ValueTakes}
use Rattle.um_value.proofs.ValueMoves.{own_takes, note_stops, no_note}
use Rattle.um_value.proofs.reader.ValueReader.take.Goals as goal

pub returns-in-Stops : goal.returns-in-Stops
returns-in-Stops c =
    let old = c.args.self.now in
    let records = map record_tree c.args.records.now in
    let x = c.args.token.now in
    let frames = stack old.frames.items in
    let l = c.in-InNote.field-0 in
    let note = note_state c.in-InNote.note in
    let mid : ValueState = InNote frames l.at l.negative l.value (note_state c.take.new.self) in
    let new = value_state c.take_own.new.self in
    let low = subst (λ (f : Focus). value_least (state_of frames f) ≤ greatest_height) c.in-InNote.is c.requires.low in
    let same : value_state old ≡ InNote frames l.at l.negative l.value note = ap (state_of frames) c.in-InNote.is in
    let refused = rw c.in-Stops.is at c.in_ok-take-in-InNote.ensures.taken in
    let kept = c.in_ok-take-in-InNote.ensures.kept c.in-Stops.is in
    let own =
    subst (λ (y : Token). IfOk c.take_own.result (λ (t : Taken). Moves (value_finish mid) (own_act records mid y.kind y.start y.glued) t new)) kept c.take_own.ensures
    in
    IfOk-weaker c.take_own.result (λ (t : Taken). Moves (value_finish mid) (own_act records mid x.kind x.start x.glued) t new) (λ (t : Taken). ValueTakes records (value_state old) x t new)
    (λ t m. subst (λ (st : ValueState). ValueTakes records st x t new) (sym same) (note_stops records frames l.at l.negative l.value note (note_state c.take.new.self) x t new low refused m)) own

pub returns-in_default : goal.returns-in_default
returns-in_default c =
    let old = c.args.self.now in
    let records = map record_tree c.args.records.now in
    let x = c.args.token.now in
    let st = value_state old in
    let new = value_state c.take_own-in_default.new.self in
    let own = no_note records (stack old.frames.items) old.focus x c.in_default.not-InNote in
    IfOk-weaker c.take_own-in_default.result (λ (t : Taken). Moves (value_finish st) (own_act records st x.kind x.start x.glued) t new) (λ (t : Taken). ValueTakes records st x t new)
    (λ t m. own_takes records st x t new own c.requires.low m) c.take_own-in_default.ensures
