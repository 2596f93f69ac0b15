use Rattle.std.proofs.Common.{◌≡◌, sym, ap, ◌∙◌, ◌+◌, ◌∷◌, [], Bool, List, length}
use Rattle.um_verify.specs.StackShape.{fits}
use Rattle.um_verify.specs.Rules.{need, passes}
use Rattle.um_stacks.specs.FlatShapes.{flat_shape, flat_shapes}
use Rattle.um_stacks.specs.declared.flat.FlatShape.{FlatShape}
use Rattle.um_verifier.proofs.Taken.{unless_none, unless_is, low_left}
use Rattle.um_stacks.specs.Stacks.{stack_at}
use Rattle.um_verifier.proofs.rules.jump_if_not.Goals as goal

pub returns-in-None : goal.returns-in-None
returns-in-None c = λ code body.
    let p = c.args.point.now in
    let st = stack_at p.stacks.now p.stack in
    let none : length st ≡ 0 = ap (λ (s : List FlatShape). length s) c.in-None.ensures in
    unless_none p.known.now p.at st code body c.args.t none

pub returns-then-fits : goal.returns-then-fits
returns-then-fits c = λ code body.
    let p = c.args.point.now in
    let st = stack_at p.stacks.now p.stack in
    let low = stack_at p.stacks.now c.in-Some.low in
    let is_low = low_left p.known.now st low (c.in-Some.y ∷ []) p.low c.in-Some.ensures in
    ap (λ (b : Bool). need b (passes (record { to = p.at + 1; state = flat_shapes low } ∷ record { to = c.args.t; state = flat_shapes low } ∷ []))) (sym c.if-fits.true)
    ∙ unless_is p.known.now p.at st code body c.args.t low c.in-Some.y c.fits.result c.in-Some.ensures (c.fits.ensures ∙ ap (fits (flat_shape c.in-Some.y)) c.of.ensures) is_low

pub returns-else-fits : goal.returns-else-fits
returns-else-fits c = λ code body.
    let p = c.args.point.now in
    let st = stack_at p.stacks.now p.stack in
    let low = stack_at p.stacks.now c.in-Some.low in
    let is_low = low_left p.known.now st low (c.in-Some.y ∷ []) p.low c.in-Some.ensures in
    ap (λ (b : Bool). need b (passes (record { to = p.at + 1; state = flat_shapes low } ∷ record { to = c.args.t; state = flat_shapes low } ∷ []))) (sym c.if-fits.false)
    ∙ unless_is p.known.now p.at st code body c.args.t low c.in-Some.y c.fits.result c.in-Some.ensures (c.fits.ensures ∙ ap (fits (flat_shape c.in-Some.y)) c.of.ensures) is_low
