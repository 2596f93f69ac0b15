use Rattle.std.proofs.lemmas.Result.{err_from_is_err_and}
use Rattle.um_measures.specs.Known.{short_unit}
use Rattle.um_display.proofs.AddedUnits.{none_added, one_added, one_failed}
use Rattle.um_display.proofs.resolve.add_units.Goals as goal

pub loop-i-init : goal.loop-i-init
loop-i-init c = none_added (short_unit c.args.measures.now) c.args.parts.now c.args.units.now.items

pub loop-i-preserved : goal.loop-i-preserved
loop-i-preserved c =
    let unit = c.in_ok-add_unit.ensures.unit in
    one_added (short_unit c.args.measures.now) c.args.parts.now c.args.units.now.items c.loop-i.units.items c.add_unit.new.units.items c.loop-i.i c.index-parts-i.result
    c.loop-i-test.true c.index-parts-i.is unit.0 c.loop-i.invariant unit.1 unit.2

pub returns-in_err-add_unit-clause-stop : goal.returns-in_err-add_unit-clause-stop
returns-in_err-add_unit-clause-stop c =
    let e = err_from_is_err_and c.from_residual.result c.from_residual.ensures.1 in
    let stop = c.in_err-add_unit.field-0.0 in
    rw (e.1, e.2)
    (one_failed (short_unit c.args.measures.now) c.args.parts.now c.args.units.now.items c.loop-i.units.items c.loop-i.units.items c.loop-i.i c.index-parts-i.result
    c.loop-i-test.true c.index-parts-i.is stop c.loop-i.invariant c.in_err-add_unit.ensures.stop)
