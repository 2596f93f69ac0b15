use Rattle.std.proofs.Common.{[], refl, sym, ap, subst, ◌∙◌}
use Rattle.um_reader.specs.Takes.{Takes}
use Rattle.um_reader.specs.declared.taken.Taken.TheVariants as taken
use Rattle.um_unit_texts.specs.UnitStops.{greatest_height}
use Rattle.um_unit_texts.specs.UnitTokens.{unit_token}
use Rattle.um_unit_texts.specs.UnitMachine.{Have}
use Rattle.um_unit_texts.specs.UnitFrames.{operand_syntax}
use Rattle.um_types.specs.NoteMachine.{unit_goes, machine_of_notes}
use Rattle.um_types.specs.NoteView.{note_focus_state}
use Rattle.um_types.specs.declared.note_reader.NoteFocus.{NoteFocus}
use Rattle.um_unit_texts.proofs.ForeignTokens.{foreign_refused}
use Rattle.um_types.proofs.note_reader.NoteReader.take.Goals as goal

pub returns-then-is_foreign : goal.returns-then-is_foreign
returns-then-is_foreign c =
    let token = c.args.token.now in
    let refused = foreign_refused (Have [] (operand_syntax c.in-Atom.field-1)) (unit_token token.kind) token.start (sym c.is_foreign.ensures ∙ c.if-is_foreign.true) in
    record {
      taken =
          subst (λ (f : NoteFocus). Takes machine_of_notes greatest_height (note_focus_state f) token taken.Stops (note_focus_state f)) (sym c.in-Atom.is)
          (ap (unit_goes c.in-Atom.field-0) refused, refl);
      kept = λ e. refl;
    }
