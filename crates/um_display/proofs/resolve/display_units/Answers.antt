use Rattle.std.proofs.Common.{◌≡◌, ℕ, List, Option, subst}
use Rattle.um_units.specs.PowerMap.{PowerMap}
use Rattle.um_tree.specs.ProgramTree.{program_tree}
use Rattle.um_measures.specs.ClosedUnits.{given}
use Rattle.um_measures.specs.Known.{short_unit, measure_unit}
use Rattle.um_display.specs.declared.part.Part.{Part}
use Rattle.um_display.specs.DisplayUnits.{IsOr, part_units}
use Rattle.um_display.specs.PartView.{list_syntax, parts_syntax, units_answer}
use Rattle.um_display.proofs.resolve.display_units.Goals as goal

pub returns : goal.returns
returns c =
    let answer = units_answer c.units_of-units.result in
    let m = short_unit c.in_ok-measures.measures in
    let known = given (program_tree c.args.program.now) c.args.abbreviations.now in
    let alike : m ≡ measure_unit known = λ i x. c.in_ok-measures.ensures x i in
    subst (λ (f : List ℕ → Option PowerMap). IsOr (part_units f (parts_syntax c.args.parts.now)) answer) alike
    (subst (λ (ps : List Part). IsOr (part_units m (list_syntax ps)) answer) c.deref.ensures.value c.units_of-units.ensures)
