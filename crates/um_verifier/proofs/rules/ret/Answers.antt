use Rattle.std.proofs.Common.{◌≡◌, sym, ap, ◌∙◌, [], Bool, length, List}
use Rattle.um_verify.specs.Rules.{need, passes}
use Rattle.um_verifier.proofs.Taken.{ret_none, ret_is}
use Rattle.um_stacks.specs.declared.flat.FlatShape.{FlatShape}
use Rattle.um_stacks.specs.Stacks.{stack_at}
use Rattle.um_verifier.proofs.rules.ret.Goals as goal

pub returns-in-None : goal.returns-in-None
returns-in-None c = λ code body r.
    let p = c.args.point.now in
    let st = stack_at p.stacks.now p.stack in
    let none : length st ≡ 0 = ap (λ (s : List FlatShape). length s) c.in-None.ensures in
    ret_none p.known.now p.at st code body none

pub returns-then-fits : goal.returns-then-fits
returns-then-fits c = λ code body r.
    let p = c.args.point.now in
    ap (λ (b : Bool). need b (passes [])) (sym c.if-fits.true)
    ∙ ret_is p.known.now p.at (stack_at p.stacks.now p.stack) code body _ c.in-Some.y c.args.result_shape c.fits.result c.in-Some.ensures r c.fits.ensures

pub returns-else-fits : goal.returns-else-fits
returns-else-fits c = λ code body r.
    let p = c.args.point.now in
    ap (λ (b : Bool). need b (passes [])) (sym c.if-fits.false)
    ∙ ret_is p.known.now p.at (stack_at p.stacks.now p.stack) code body _ c.in-Some.y c.args.result_shape c.fits.result c.in-Some.ensures r c.fits.ensures
