use Rattle.std.proofs.Common.{◌≤◌, refl, sym, subst}
use Rattle.um_reader.specs.Takes.{Takes}
use Rattle.um_reader.specs.declared.taken.Taken.TheVariants as taken
use Rattle.um_unit_texts.specs.UnitStops.{greatest_height}
use Rattle.um_types.specs.TypeMachine.{type_least, machine_of_types}
use Rattle.um_types.specs.TypeView.{operand_type, view_owner, type_focus_state, IsLow}
use Rattle.um_types.specs.NoteView.{note_state}
use Rattle.um_types.specs.declared.type_operand.TypeFocus.{TypeFocus}
use Rattle.um_types.proofs.Inside.{note_low}
use Rattle.um_types.proofs.type_reader.TypeReader.take.Goals as goal

pub take_own-requires-in-Stops : goal.take_own-requires-in-Stops
take_own-requires-in-Stops c =
    let old = c.args.self.now in
    let mid = c.take.new.self in
    let low = subst (λ (f : TypeFocus). type_least (type_focus_state old.depth f old.note) ≤ greatest_height) c.in-Note.is c.requires.low in
    record {
      low =
          subst (λ (f : TypeFocus). IsLow (type_focus_state old.depth f mid)) (sym c.in-Note.is)
          (note_low old.depth (view_owner c.in-Note.field-0) (note_state old.note) (note_state mid) c.args.token.now low (rw c.in-Stops.is at c.in_ok-take-in-Note.ensures.taken));
    }

pub returns-else-may_follow : goal.returns-else-may_follow
returns-else-may_follow c =
    let old = c.args.self.now in
    let refused = c.may_follow.ensures c.if-may_follow.false (operand_type c.in-Full.field-0) in
    record {
      taken =
          subst (λ (f : TypeFocus). Takes machine_of_types greatest_height (type_focus_state old.depth f old.note) c.args.token.now taken.Stops (type_focus_state old.depth f old.note)) (sym c.in-Full.is)
          (refused, refl);
      kept = λ e. refl;
    }
