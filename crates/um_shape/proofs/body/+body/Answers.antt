use Rattle.std.proofs.Common.{◌≡◌, ◌<◌, ◌+◌, length, sym, ap, subst, [], ◌∷◌, ◌++◌, arith, rules}
use denote.Param.Weighed.{at_most}
use Rattle.um_tree.proofs.expression.Expr.TheLaws.{the_size}
use Rattle.um_shape.specs.FlatShapes.{known_records, heads_shapes}
use Rattle.um_shape.proofs.AllFound.{IsLeft, left_first, low_at, left_stops, left_next, left_last}
use Rattle.um_shape.proofs.body.+body.Goals as goal

pub shapes_of-loop-i-init : goal.shapes_of-loop-i-init
shapes_of-loop-i-init t c =
    let known = c.args.body.now.known.now in
    let records = known_records known.records.items in
    let heads = heads_shapes known.heads.items in
    let vars = c.args.scope.now.items in
    let none : c.reserve.new.self.items ≡ [] = search rules in
    subst (λ shapes. IsLeft records heads vars c.args.parts.now 0 shapes vars) (sym none) (left_first records heads vars c.args.parts.now c.requires.low)

pub shapes_of-shape_of-requires-in-loop-i : goal.shapes_of-shape_of-requires-in-loop-i
shapes_of-shape_of-requires-in-loop-i t c =
    let es = c.args.parts.now in
    let known = c.args.body.now.known.now in
    let i = c.loop-i.i in
    let below : i < length es = omega (arith, c.loop-i-test.true) in
    let falls = at_most the_size es i c.index-parts-i.result below in
    let same = ap the_size c.index-parts-i.is in
    (omega (arith, falls, same), (low_at (known_records known.records.items) (heads_shapes known.heads.items) c.args.scope.now.items es i c.index-parts-i.result below c.index-parts-i.is c.loop-i.invariant.low).0)

pub shapes_of-returns-in_err-shape_of-clause-found : goal.shapes_of-returns-in_err-shape_of-clause-found
shapes_of-returns-in_err-shape_of-clause-found t c =
    let es = c.args.parts.now in
    let known = c.args.body.now.known.now in
    let i = c.loop-i.i in
    let below : i < length es = omega (arith, c.loop-i-test.true) in
    let stops = left_stops (known_records known.records.items) (heads_shapes known.heads.items) c.args.scope.now.items es i c.index-parts-i.result c.loop-i.shapes.items c.loop-i.scope.items c.in_err-shape_of.field-0.0 below c.index-parts-i.is c.loop-i.invariant c.in_err-shape_of.ensures.found in
    search (rules, stops)

pub shapes_of-loop-i-preserved : goal.shapes_of-loop-i-preserved
shapes_of-loop-i-preserved t c =
    let es = c.args.parts.now in
    let known = c.args.body.now.known.now in
    let i = c.loop-i.i in
    let below : i < length es = omega (arith, c.loop-i-test.true) in
    let next = left_next (known_records known.records.items) (heads_shapes known.heads.items) c.args.scope.now.items es i c.index-parts-i.result c.loop-i.shapes.items c.loop-i.scope.items c.shape_of.new.scope.items c.in_ok-shape_of.field-0 below c.index-parts-i.is c.loop-i.invariant c.in_ok-shape_of.ensures.found c.in_ok-shape_of.ensures.scope in
    let items : c.push.new.self.items ≡ c.loop-i.shapes.items ++ c.in_ok-shape_of.field-0 ∷ [] = search rules in
    subst (λ shapes. IsLeft (known_records known.records.items) (heads_shapes known.heads.items) c.args.scope.now.items es (i + 1) shapes c.shape_of.new.scope.items) (sym items) next

pub shapes_of-returns-clause-found : goal.shapes_of-returns-clause-found
shapes_of-returns-clause-found t c =
    let known = c.args.body.now.known.now in
    left_last (known_records known.records.items) (heads_shapes known.heads.items) c.args.scope.now.items c.args.parts.now c.loop-i.i c.loop-i.shapes.items c.loop-i.scope.items (omega (arith, c.loop-i-test.false)) c.loop-i.invariant

pub shapes_of-returns-clause-scope : goal.shapes_of-returns-clause-scope
shapes_of-returns-clause-scope t c = c.loop-i.invariant.same_scope
