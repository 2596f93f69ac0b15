use Rattle.std.proofs.Common.{◌≡◌, ap, ◌∙◌, ◌+◌, ◌-◌, ◌∷◌, [], List, length, drop, arith, length-append}
use Rattle.um_verify.specs.StackShape.{fit_all}
use Rattle.um_stacks.specs.FlatShapes.{flat_shapes}
use Rattle.um_stacks.specs.declared.flat.FlatShape.{FlatShape}
use Rattle.um_stacks.specs.Stacks.{stack_at}
use Rattle.um_verifier.proofs.TopFits.{top_more, top_misfit}
use Rattle.um_verifier.proofs.rules.top_fits.Goals as goal

pub returns-then-not-fits : goal.returns-then-not-fits
returns-then-not-fits c =
    let st = stack_at c.args.stacks.now c.args.stack in
    let asked = c.args.asked.now in
    let place = length st - length asked in
    let i = c.loop-i.i in
    let next : i - 1 + 1 ≡ i = omega (arith, c.loop-i-test.true) in
    top_misfit (stack_at c.args.stacks.now c.loop-i.low) (stack_at c.args.stacks.now c.in-Some.below) asked place i (i - 1) c.in-Some.y c.index-asked-i.result c.fits.result (fit_all (flat_shapes (drop place st)) (flat_shapes asked)) c.loop-i.invariant.2 c.in-Some.ensures next c.loop-i.invariant.0 c.index-asked-i.is c.loop-i.invariant.1 c.fits.ensures c.if-not-fits.true

pub loop-i-preserved : goal.loop-i-preserved
loop-i-preserved c =
    let st = stack_at c.args.stacks.now c.args.stack in
    let asked = c.args.asked.now in
    let place = length st - length asked in
    let i = c.loop-i.i in
    let low = stack_at c.args.stacks.now c.loop-i.low in
    let below = stack_at c.args.stacks.now c.in-Some.below in
    let next : i - 1 + 1 ≡ i = omega (arith, c.loop-i-test.true) in
    let long : length low ≡ length below + 1 = ap (λ (s : List FlatShape). length s) c.in-Some.ensures ∙ length-append below (c.in-Some.y ∷ []) in (
      omega (arith, c.loop-i.invariant.0),
      omega (arith, c.loop-i.invariant.1, long, c.loop-i-test.true),
      top_more low below asked place i (i - 1) c.in-Some.y c.index-asked-i.result c.fits.result (fit_all (flat_shapes (drop place st)) (flat_shapes asked)) c.loop-i.invariant.2 c.in-Some.ensures next c.loop-i.invariant.0 c.index-asked-i.is c.loop-i.invariant.1 c.fits.ensures c.if-not-fits.false,
    )
