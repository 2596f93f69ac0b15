use Rattle.std.proofs.Common.{◌≡◌, take}
use Rattle.std.specs.Prelude.{IsTrue}
use Rattle.std.specs.List.{list_all}
use Rattle.um_units.specs.Range.{fits}
use Rattle.um_equal_types.specs.Steps.{units_of}
use Rattle.um_agree.specs.Made.{units_by}
use Rattle.um_agree.proofs.agreement.units_by.Given as goal

abbrev pub invariant-loop-k : goal.invariant-loop-k
invariant-loop-k l = record { items : l.items.items ≡ units_by l.by (take l.k l.units) (units_of l.rows); fit : IsTrue (list_all fits l.items.items) }
