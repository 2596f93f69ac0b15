use Rattle.std.proofs.Common.{◌+◌, ◌≤◌, length, map, Some, sym, ap, subst, ◌∙◌}
use Rattle.std.proofs.lemmas.Bool.{ltb-true}
use Rattle.um_units.specs.PowerMap.{nth}
use Rattle.um_tree.specs.TypeTree.{type_tree}
use Rattle.um_tree.specs.ProgramTree.{record_tree}
use Rattle.um_slots.specs.SlotUnits.{AreVariables}
use Rattle.um_slots.specs.Holes.{record_holes}
use Rattle.um_rows.specs.Rules.{record_rule}
use Rattle.um_rows.specs.Derivation.{first_units}
use Rattle.um_rows.specs.Walk.{node}
use Rattle.um_rows.specs.Reached.{IsReached}
use Rattle.um_rows.specs.Closed.{IsClosedRecord}
use Rattle.um_rows.proofs.SliceLaws.{length-part, part_variables, first_units-part}
use Rattle.um_rows.proofs.NodeLaws.{mapped_found, mapped_past}
use Rattle.um_rows.proofs.records.record.Goals as goal

pub invariant_of-value : goal.invariant_of-value
invariant_of-value c =
    let walk = c.args.walk.now in
    let holes = walk.context.holes.items in
    let d = c.in-Some.declaration.now in
    let found = c.in-Some.ensures.lookup in
    let low = ltb-true c.args.r (length walk.records.now) (sym found.0) in
    let record_is = mapped_found record_tree walk.records.now c.args.r d low found.1 in
    let room : c.args.first + d.units ≤ length holes = subst (λ o. c.args.first + record_holes o ≤ length holes) record_is c.requires.room in
    record {
      variables = subst AreVariables (sym c.hole_units-units.ensures) (part_variables holes c.args.first d.units room walk.variables);
      many = ap length c.hole_units-units.ensures ∙ length-part holes c.args.first d.units room;
      closed = subst IsClosedRecord (sym found.1) (walk.closed_records c.args.r d low);
    }

pub returns-in-Some-clause-reached : goal.returns-in-Some-clause-reached
returns-in-Some-clause-reached c =
    let walk = c.args.walk.now in
    let holes = walk.context.holes.items in
    let progress = c.args.progress.now in
    let d = c.in-Some.declaration.now in
    let n = c.args.first in
    let new = c.record_of.new.progress in
    let r = c.record_of.result in
    let parts = map type_tree c.args.parts.now in
    let found = c.in-Some.ensures.lookup in
    let low = ltb-true c.args.r (length walk.records.now) (sym found.0) in
    let record_is = mapped_found record_tree walk.records.now c.args.r d low found.1 in
    let room : n + d.units ≤ length holes = subst (λ o. n + record_holes o ≤ length holes) record_is c.requires.room in
    let units = first_units-part holes n d.units room ∙ sym c.hole_units-units.ensures in
    subst (λ o. IsReached (node progress.rows.items progress.holes (record_rule c.args.at c.args.r (first_units (record_holes o) (λ k. nth holes (n + k))) o parts)) new r) (sym record_is)
    (subst (λ us. IsReached (node progress.rows.items progress.holes (record_rule c.args.at c.args.r us (Some (record_tree d)) parts)) new r) (sym units) c.record_of.ensures.reached)

pub returns-in-None-clause-reached : goal.returns-in-None-clause-reached
returns-in-None-clause-reached c =
    let walk = c.args.walk.now in
    let holes = walk.context.holes.items in
    let progress = c.args.progress.now in
    let parts = map type_tree c.args.parts.now in
    let past = mapped_past record_tree walk.records.now c.args.r c.in-None.ensures.lookup.3 in
    subst (λ o. IsReached (node progress.rows.items progress.holes (record_rule c.args.at c.args.r (first_units (record_holes o) (λ k. nth holes (c.args.first + k))) o parts)) c.mismatch.new.progress c.mismatch.result) (sym past) c.mismatch.ensures.reached
