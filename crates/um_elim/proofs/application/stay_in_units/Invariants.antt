use Rattle.std.proofs.Common.{◌≡◌, take, map}
use Rattle.std.specs.Prelude.{IsTrue}
use Rattle.std.specs.List.{list_all}
use Rattle.um_units.specs.PowerMap.{nth, replace}
use Rattle.um_units.specs.Range.{fits}
use Rattle.um_elim.proofs.application.stay_in_units.Given as goal

abbrev pub invariant-loop-unit : goal.invariant-loop-unit
invariant-loop-unit l = record {
  stay : map (replace (nth l.by)) (take l.unit-index l.units) ≡ take l.unit-index l.units;
  fit : IsTrue (list_all fits (map (replace (nth l.by)) (take l.unit-index l.units)));
}
