use Rattle.std.proofs.Common.{sym, ◌∙◌}
use Rattle.um_types.specs.NoteMachine.{note_act, note_finish}
use Rattle.um_types.specs.NoteView.{note_state}
use Rattle.um_forms.specs.ExprTokens.{expr_token}
use Rattle.um_expr.specs.ExprMachine.{note_ends}
use Rattle.um_expr.proofs.Standing.{note_on, note_over, note_found, note_open}
use Rattle.um_expr.proofs.query.can_take_in_note.Goals as goal

pub returns-then-can_take : goal.returns-then-can_take
returns-then-can_take c frames place value at =
    let s = note_state c.args.note.now in
    let ended = note_ends frames place value (note_finish s) (expr_token c.args.kind.now) in
    c.if-can_take.true ∙ note_on frames place value (note_act s c.args.kind.now at) ended (sym c.if-can_take.true ∙ c.can_take.ensures at)

pub returns-then-is_whole : goal.returns-then-is_whole
returns-then-is_whole c frames place value at =
    let s = note_state c.args.note.now in
    let token = expr_token c.args.kind.now in
    let ended = note_ends frames place value (note_finish s) token in
    note_found frames place value (note_finish s) token c.ends_note.result (sym c.if-is_whole.true ∙ c.is_whole.ensures) (c.ends_note.ensures frames place value)
    ∙ note_over frames place value (note_act s c.args.kind.now at) ended (sym c.if-can_take.false ∙ c.can_take.ensures at)

pub returns-else-is_whole : goal.returns-else-is_whole
returns-else-is_whole c frames place value at =
    let s = note_state c.args.note.now in
    let token = expr_token c.args.kind.now in
    let ended = note_ends frames place value (note_finish s) token in
    c.if-is_whole.false ∙ note_open frames place value (note_finish s) token (sym c.if-is_whole.false ∙ c.is_whole.ensures)
    ∙ note_over frames place value (note_act s c.args.kind.now at) ended (sym c.if-can_take.false ∙ c.can_take.ensures at)
