use Rattle.std.proofs.Common.{◌<◌, ◌+◌, ◌^◌, length, subst, sym, arith}
use Rattle.std.specs.Prelude.{All}
use Rattle.um_tree.specs.Scheme.{unit_variables}
use Rattle.um_elim.proofs.GrowingOrder.{All-at}
use Rattle.um_sig.specs.Steps.{HaveRoom}
use Rattle.um_sig.proofs.matching.match_units.Goals as goal

pub match_unit-requires-clause-variables : goal.match_unit-requires-clause-variables
match_unit-requires-clause-variables c =
    let n = length c.args.solver.now.units in
    subst (λ m. All (λ k. k < m) (unit_variables c.index-own-i.result)) (sym c.loop-i.invariant.count)
    (subst (λ u. All (λ k. k < n) (unit_variables u)) (sym c.index-own-i.is)
    (All-at (λ k. k < n) unit_variables c.args.own.now c.loop-i.i c.index-own-i.result c.loop-i-test.true c.requires.variables))

pub match_unit-requires-clause-room : goal.match_unit-requires-clause-room
match_unit-requires-clause-room c =
    let b = c.args.bases in
    let below : c.loop-i.i < length c.args.other.now = (let test = c.loop-i-test.true in let count = c.requires.count in omega (arith, test, count)) in
    subst (λ u. HaveRoom b (unit_variables u)) (sym c.index-other-i.is)
    (All-at (λ k. b + k < 2 ^ 32) unit_variables c.args.other.now c.loop-i.i c.index-other-i.result below c.requires.room)
