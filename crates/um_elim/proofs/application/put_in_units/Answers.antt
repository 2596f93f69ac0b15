use Rattle.std.proofs.Common.{map, subst}
use Rattle.std.specs.List.{list_all}
use Rattle.std.proofs.lemmas.Result.{err_from_is_err_and}
use Rattle.um_units.specs.PowerMap.{nth, replace}
use Rattle.um_units.specs.Range.{fits, IsStopUnless}
use Rattle.um_elim.proofs.Changes.{stop_in_list}
use Rattle.um_elim.proofs.application.put_in_units.Goals as goal

pub returns-in_err-replace-clause-range : goal.returns-in_err-replace-clause-range
returns-in_err-replace-clause-range c =
    let p = err_from_is_err_and c.from_residual-in_err-replace.result c.from_residual-in_err-replace.ensures.1 in
    let f = replace (nth c.args.by.now) in
    rw (p.1, p.2) (subst (λ us. IsStopUnless (list_all fits (map f us)) c.in_err-replace.field-0.0) c.as_slice-unit-items.ensures.items
    (stop_in_list f c.as_slice-unit-items.result.now c.loop-unit.unit-index c.unit-item.result c.loop-unit-test.true c.unit-item.is c.in_err-replace.field-0.0 c.in_err-replace.ensures.range))
