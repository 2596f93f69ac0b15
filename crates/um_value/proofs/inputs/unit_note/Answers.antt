use Rattle.std.proofs.Common.{rules, ◌≡◌, ℕ, List, [], Option, Some, sym, subst}
use Rattle.um_tree.specs.RawTree.{NoteSyntax, unit_note_syntax, unit_syntax, written_note}
use Rattle.um_measures.specs.Known.{short_unit}
use Rattle.um_measures.specs.Stops.{IsFirst}
use Rattle.um_measures.specs.UnitNames.{resolved_unit}
use Rattle.um_value.specs.ValueNames.{note_range_fault}
use Rattle.um_value.specs.RangeStops.{IsRangeAt}
use Rattle.um_value.proofs.inputs.unit_note.Goals as goal

pub returns-clause-faults : goal.returns-clause-faults
returns-clause-faults c =
    let m = short_unit c.args.measures.now in
    let w = c.in-Some-Unit in
    let u = unit_syntax w.unit in
    let seen : written_note c.args.note.now ≡ Some (unit_note_syntax w.field-0-0 u) = search rules in
    let first = subst (λ (vars : List (List ℕ)). IsFirst (resolved_unit m vars u) c.in-Err.stop) c.new.ensures c.in-Err.ensures.faults in
    subst (λ (o : Option NoteSyntax). IsRangeAt (note_range_fault m o) c.range_stop.result) (sym seen) (c.range_stop.ensures (resolved_unit m [] u) first)
