use Rattle.std.proofs.Common.{[], sym, ap, ◌∙◌, subst, Ok}
use Rattle.std.proofs.lemmas.Result.{err_from_is_err_and}
use Rattle.um_units.specs.PowerMap.{PowerMap}
use Rattle.um_tree.specs.declared.note.UnitNote.TheVariants.{Written}
use Rattle.um_tree.specs.ProgramTree.{program_tree}
use Rattle.um_tree.specs.RawTree.{unit_syntax}
use Rattle.um_measures.specs.Faults.{Found, and_then}
use Rattle.um_measures.specs.Stops.{IsFirst}
use Rattle.um_measures.specs.Known.{short_unit, measure_unit}
use Rattle.um_measures.specs.UnitNames.{resolved_unit}
use Rattle.um_measures.specs.ClosedUnits.{given}
use Rattle.um_measures.proofs.MeasureLists.{closed_is}
use Rattle.um_measures.proofs.Firsts.{first_and_then}
use Rattle.um_measures.proofs.closed.closed_unit.Goals as goal

pub returns-clause-exact : goal.returns-clause-exact
returns-clause-exact c =
    let p = program_tree c.args.program.now in
    let is = closed_is (short_unit c.in_ok-measures.measures) c.new.result p c.args.abbreviations.now (unit_syntax c.args.raw.now) c.in_ok-measures.ensures c.new.ensures in
    ap (λ r. and_then r (λ v. Ok (Written v))) (sym is ∙ c.in_ok-unit.ensures.exact)

pub returns-in_err-unit-clause-faults : goal.returns-in_err-unit-clause-faults
returns-in_err-unit-clause-faults c =
    let p = program_tree c.args.program.now in
    let shorts = c.args.abbreviations.now in
    let is = closed_is (short_unit c.in_ok-measures.measures) c.new.result p shorts (unit_syntax c.args.raw.now) c.in_ok-measures.ensures c.new.ensures in
    let e = err_from_is_err_and c.from_residual-in_err-unit.result c.from_residual-in_err-unit.ensures.1 in
    let stop = c.in_err-unit.field-0.0 in
    rw (e.1, e.2)
    (first_and_then (resolved_unit (measure_unit (given p shorts)) [] (unit_syntax c.args.raw.now)) (λ v. Ok (Written v)) stop (subst (λ (r : Found PowerMap). IsFirst r stop) is c.in_err-unit.ensures.faults))
