use Rattle.std.proofs.Common.{◌+◌, ◌≤◌, length, map, sym, ap, subst, ◌∙◌}
use Rattle.std.proofs.lemmas.Bool.{ltb-true}
use Rattle.um_units.specs.PowerMap.{nth}
use Rattle.um_tree.specs.TypeTree.{type_tree}
use Rattle.um_slots.specs.SlotUnits.{AreVariables}
use Rattle.um_slots.specs.Holes.{callee_holes, nobody}
use Rattle.um_rows.specs.Rules.{call_rule}
use Rattle.um_rows.specs.Walk.{node}
use Rattle.um_rows.specs.Reached.{IsReached}
use Rattle.um_rows.specs.Closed.{IsClosedScheme}
use Rattle.um_rows.proofs.SliceLaws.{length-part, part_variables}
use Rattle.um_rows.proofs.OfferLaws.{called_before, called_missing, offer_of, offer_before}
use Rattle.um_rows.proofs.calls.call.Goals as goal

pub scheme_call-requires-clause-variables : goal.scheme_call-requires-clause-variables
scheme_call-requires-clause-variables c =
    let walk = c.args.walk.now in
    let holes = walk.context.holes.items in
    let s = c.in-Some.scheme.now in
    let found = c.in-Some.ensures.lookup in
    let low = ltb-true c.args.j (length walk.schemes.now) (sym found.0) in
    let callee = called_before walk.schemes.now walk.context c.args.j s c.if-j-context.true low found.1 in
    let room : c.args.first + s.vars ≤ length holes = subst (λ x. c.args.first + callee_holes x ≤ length holes) callee c.requires.room in
    subst AreVariables (sym c.hole_units-by.ensures) (part_variables holes c.args.first s.vars room walk.variables)

pub scheme_call-requires-clause-many : goal.scheme_call-requires-clause-many
scheme_call-requires-clause-many c =
    let walk = c.args.walk.now in
    let holes = walk.context.holes.items in
    let s = c.in-Some.scheme.now in
    let found = c.in-Some.ensures.lookup in
    let low = ltb-true c.args.j (length walk.schemes.now) (sym found.0) in
    let callee = called_before walk.schemes.now walk.context c.args.j s c.if-j-context.true low found.1 in
    let room : c.args.first + s.vars ≤ length holes = subst (λ x. c.args.first + callee_holes x ≤ length holes) callee c.requires.room in
    ap length c.hole_units-by.ensures ∙ length-part holes c.args.first s.vars room

pub returns-in-Some-clause-reached : goal.returns-in-Some-clause-reached
returns-in-Some-clause-reached c =
    let walk = c.args.walk.now in
    let holes = walk.context.holes.items in
    let s = c.in-Some.scheme.now in
    let progress = c.args.progress.now in
    let found = c.in-Some.ensures.lookup in
    let low = ltb-true c.args.j (length walk.schemes.now) (sym found.0) in
    let callee = called_before walk.schemes.now walk.context c.args.j s c.if-j-context.true low found.1 in
    let room : c.args.first + s.vars ≤ length holes = subst (λ x. c.args.first + callee_holes x ≤ length holes) callee c.requires.room in
    let closed = subst IsClosedScheme (sym found.1) (walk.closed_schemes c.args.j s c.if-j-context.true low) in
    let offered = offer_before walk.schemes.now walk.context c.args.j walk.records.now c.args.first s c.if-j-context.true low found.1 closed room in
    let by = c.hole_units-by.ensures in
    subst (λ o. IsReached (node progress.rows.items progress.holes (call_rule c.args.at o (map type_tree c.args.arguments.now))) c.scheme_call.new.progress c.scheme_call.result) (sym offered)
    (subst (λ us. IsReached (node progress.rows.items progress.holes (call_rule c.args.at (Rattle.std.proofs.Common.Some (Rattle.um_tree.specs.Typing.put_signature (nth us) (Rattle.um_tree.specs.ProgramTree.scheme_tree s).signature)) (map type_tree c.args.arguments.now))) c.scheme_call.new.progress c.scheme_call.result) by c.scheme_call.ensures.reached)

pub returns-in-None-clause-reached : goal.returns-in-None-clause-reached
returns-in-None-clause-reached c =
    let walk = c.args.walk.now in
    let progress = c.args.progress.now in
    let missing = called_missing walk.schemes.now walk.context c.args.j c.if-j-context.true c.in-None.ensures.lookup.3 in
    subst (λ o. IsReached (node progress.rows.items progress.holes (call_rule c.args.at o (map type_tree c.args.arguments.now))) c.mismatch.new.progress c.mismatch.result) (sym (offer_of walk.schemes.now walk.context c.args.j walk.records.now c.args.first nobody missing)) c.mismatch.ensures.reached
