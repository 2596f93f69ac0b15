use Rattle.std.proofs.Common.{◌≡◌, sym, ap, ◌∙◌, ◌+◌, ◌++◌, ◌∷◌, [], Bool, length, List}
use Rattle.um_verify.specs.Rules.{need, to}
use Rattle.um_stacks.specs.FlatShapes.{flat_shape, flat_shapes}
use Rattle.um_verifier.specs.KnownImages.{known_heights, lowered}
use Rattle.um_verifier.proofs.Taken.{one_none, one_is, low_left}
use Rattle.um_stacks.specs.declared.flat.FlatShape.{FlatShape}
use Rattle.um_stacks.specs.Stacks.{stack_at}
use Rattle.um_verifier.proofs.rules.on_one.Goals as goal

pub pushed-requires : goal.pushed-requires
pushed-requires c =
    let p = c.args.point.now in
    low_left p.known.now (stack_at p.stacks.now p.stack) (stack_at p.stacks.now c.in-Some.low) (c.in-Some.y ∷ []) p.low c.in-Some.ensures

pub returns-in-None : goal.returns-in-None
returns-in-None c =
    let p = c.args.point.now in
    let st = stack_at p.stacks.now p.stack in
    let none : length st ≡ 0 = ap (λ (s : List FlatShape). length s) c.in-None.ensures in
    one_none p.known.now p.at st c.args.asked c.args.given none

pub returns-then-fits : goal.returns-then-fits
returns-then-fits c =
    let p = c.args.point.now in
    let low = stack_at p.stacks.now c.in-Some.low in
    let heights = known_heights p.known.now in
    let next = lowered heights (to (p.at + 1) (flat_shapes low ++ flat_shape c.args.given ∷ [])) in
    c.pushed.ensures ∙ ap (λ (b : Bool). need b next) (sym c.if-fits.true) ∙ one_is p.known.now p.at (stack_at p.stacks.now p.stack) low c.in-Some.y c.args.asked c.args.given c.fits.result c.in-Some.ensures c.fits.ensures

pub returns-else-fits : goal.returns-else-fits
returns-else-fits c =
    let p = c.args.point.now in
    let low = stack_at p.stacks.now c.in-Some.low in
    let heights = known_heights p.known.now in
    let next = lowered heights (to (p.at + 1) (flat_shapes low ++ flat_shape c.args.given ∷ [])) in
    ap (λ (b : Bool). need b next) (sym c.if-fits.false) ∙ one_is p.known.now p.at (stack_at p.stacks.now p.stack) low c.in-Some.y c.args.asked c.args.given c.fits.result c.in-Some.ensures c.fits.ensures
