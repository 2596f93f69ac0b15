use Rattle.std.proofs.Common.{List, subst}
use Rattle.um_tree.specs.declared.program.Program.{Program}
use Rattle.um_tree.specs.ProgramTree.{program_tree}
use Rattle.um_measures.specs.declared.abbreviation.Abbreviation.{Abbreviation}
use Rattle.um_measures.specs.ClosedUnits.{given}
use Rattle.um_display.specs.DisplayUnits.{AreDisplayUnits}
use Rattle.um_display.specs.PartView.{parts_syntax, units_answer}
use Rattle.um_shown_answers.proofs.show.units_in.Goals as goal

pub unreachable-requires : goal.unreachable-requires
unreachable-requires c = (rw c.in-Ok-None.field-0-is at c.in-Ok-None.ensures) c.requires.stated.0 c.requires.stated.1

pub returns-in-Ok-Some : goal.returns-in-Ok-Some
returns-in-Ok-Some c =
    let parts = parts_syntax c.in-Ok-Some.parts in
    let stated = rw c.in-Ok-Some.field-0-is at c.in-Ok-Some.ensures in
    let answer = units_answer c.display_units-units.result in
    let program = c.args.checked.now.text.shaped in
    let of_program = subst (λ (p : Program). AreDisplayUnits (given (program_tree p) c.abbreviations.result.now) parts answer) c.program.ensures.program c.display_units-units.ensures in
    (parts, stated, subst (λ (shorts : List Abbreviation). AreDisplayUnits (given (program_tree program) shorts) parts answer) c.abbreviations.ensures.abbreviations of_program)

pub returns-in-Err : goal.returns-in-Err
returns-in-Err c = (c.requires.stated.0, c.requires.stated.1, tt)
