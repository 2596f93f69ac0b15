use Rattle.std.proofs.Common.{◌≡◌, sym, subst, ◌<◌, ◌≤◌, length, rules, arith, Err}
use Rattle.um_scale.specs.PassedNumbers.{IsPassed}
use Rattle.um_scale.proofs.PassedNumbers.{numbers_left, passes_next, passes_stop, passes_end}
use Rattle.um_scale.proofs.input.+passed.Goals as goal

pub all_passed-returns-in_err-next : goal.all_passed-returns-in_err-next
all_passed-returns-in_err-next t c =
    let l = c.loop-i in
    let inputs = c.args.inputs.now in
    let below : l.i < length inputs = omega (arith, c.loop-i-test.true) in
    let stop = c.in_err-next.field-0.0 in
    let is : c.from_residual.result ≡ Err stop = search rules in
    subst (IsPassed c.args.scales.now (numbers_left inputs 0) c.args.from) (sym is)
    (passes_stop c.args.scales.now inputs c.args.from l.i l.next l.invariant c.index-inputs-i.result stop below c.index-inputs-i.is c.in_err-next.ensures)

pub all_passed-loop-i-preserved : goal.all_passed-loop-i-preserved
all_passed-loop-i-preserved t c =
    let l = c.loop-i in
    let inputs = c.args.inputs.now in
    let below : l.i < length inputs = omega (arith, c.loop-i-test.true) in
    passes_next c.args.scales.now inputs c.args.from l.i l.next l.invariant c.index-inputs-i.result c.in_ok-next.next below c.index-inputs-i.is c.in_ok-next.ensures

pub all_passed-returns : goal.all_passed-returns
all_passed-returns t c =
    let l = c.loop-i in
    let past : length c.args.inputs.now ≤ l.i = omega (arith, c.loop-i-test.false) in
    passes_end c.args.scales.now c.args.inputs.now c.args.from l.i l.next l.invariant past
