use Rattle.std.proofs.Common.{rules, arith, ◌≡◌, refl, sym, subst, ◌+◌, suc, slice_get, length}
use Rattle.um_verify.specs.Verified.{met, passed}
use Rattle.um_verifier.specs.KnownImages.{known_body, known_heights, known_view}
use Rattle.um_verifier.specs.Tables.{met_of, flow_of}
use Rattle.um_verifier.proofs.LowMet.{LowMet, met_low}
use Rattle.um_verifier.proofs.Loop.{TableIs, taken_is, flow_met, table_next, has_passed, is_low_met}
use Rattle.um_verifier.proofs.body.verify_body.Goals as goal

pub pass-flow-requires-clause-low : goal.pass-flow-requires-clause-low
pass-flow-requires-clause-low c =
    let known = c.args.view.now.known.now in
    let stacks = c.loop-n.stacks in
    let view = known_view known c.args.view.now.code.now in
    let body = known_body c.args.entry c.args.head.now in
    let m = c.index-met.result.now in
    let taken : met_of stacks m ≡ met view body (body.start + c.loop-n.n) c.loop-n.n = taken_is view body stacks c.loop-n.table.items c.loop-n.n m c.loop-n.invariant.0 c.loop-n-test.true c.index-met.ensures in
    is_low_met known stacks m (subst (LowMet (known_heights known)) (sym taken) (met_low view body c.requires.low (body.start + c.loop-n.n) c.loop-n.n))

pub loop-n-preserved : goal.loop-n-preserved
loop-n-preserved c =
    let stacks = c.loop-n.stacks in
    let view = known_view c.args.view.now.known.now c.args.view.now.code.now in
    let body = known_body c.args.entry c.args.head.now in
    let n = c.loop-n.n in
    let m = c.index-met.result.now in
    let f = flow_of stacks c.pass-flow.result in
    let taken : met_of stacks m ≡ met view body (body.start + n) n = taken_is view body stacks c.loop-n.table.items n m c.loop-n.invariant.0 c.loop-n-test.true c.index-met.ensures in
    let given : f ≡ passed view body (body.start + n) (slice_get view.ops (body.start + n)) (met_of stacks m) = c.pass-flow.ensures.flow body refl refl in
    let is = flow_met view body n (met_of stacks m) f taken given in
    let lengths : length c.send.new.table.items ≡ length c.loop-n.table.items = search (rules, c.in_ok-send.ensures.length) in
    let next : suc n ≡ n + 1 = omega arith in (
      subst (TableIs view body c.send.new.stacks c.send.new.table.items) next
          (table_next view body stacks c.send.new.stacks c.loop-n.table.items c.send.new.table.items n f c.loop-n.invariant.0 c.loop-n-test.true is (has_passed c.has_failed.result f c.if-has_failed.false (c.has_failed.ensures stacks)) lengths c.in_ok-send.ensures.gathered),
      c.in_ok-send.ensures.below,
    )
