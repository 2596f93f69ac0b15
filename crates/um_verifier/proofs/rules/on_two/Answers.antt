use Rattle.std.proofs.Common.{sym, ap, ◌∙◌, ◌+◌, ◌<◌, ◌++◌, ◌∷◌, [], Bool, length}
use Rattle.um_verify.specs.Rules.{need, to}
use Rattle.um_stacks.specs.FlatShapes.{flat_shape, flat_shapes}
use Rattle.um_verifier.specs.KnownImages.{known_heights, lowered}
use Rattle.um_verifier.proofs.Taken.{two_none, two_is, low_left}
use Rattle.um_stacks.specs.Stacks.{stack_at}
use Rattle.um_verifier.proofs.rules.on_two.Goals as goal

pub pushed-requires : goal.pushed-requires
pushed-requires c =
    let p = c.args.point.now in
    low_left p.known.now (stack_at p.stacks.now p.stack) (stack_at p.stacks.now c.in-Some.low) (c.in-Some.x ∷ c.in-Some.y ∷ []) p.low c.in-Some.ensures

pub returns-in-None : goal.returns-in-None
returns-in-None c =
    let p = c.args.point.now in
    let st = stack_at p.stacks.now p.stack in
    let few : length st < 2 = c.in-None.ensures in
    two_none p.known.now p.at st c.args.asked c.args.given few

pub returns-then-both_fit : goal.returns-then-both_fit
returns-then-both_fit c =
    let p = c.args.point.now in
    let low = stack_at p.stacks.now c.in-Some.low in
    let heights = known_heights p.known.now in
    let next = lowered heights (to (p.at + 1) (flat_shapes low ++ flat_shape c.args.given ∷ [])) in
    c.pushed.ensures ∙ ap (λ (b : Bool). need b next) (sym c.if-both_fit.true) ∙ two_is p.known.now p.at (stack_at p.stacks.now p.stack) low c.in-Some.x c.in-Some.y c.args.asked c.args.given c.both_fit.result c.in-Some.ensures c.both_fit.ensures

pub returns-else-both_fit : goal.returns-else-both_fit
returns-else-both_fit c =
    let p = c.args.point.now in
    let low = stack_at p.stacks.now c.in-Some.low in
    let heights = known_heights p.known.now in
    let next = lowered heights (to (p.at + 1) (flat_shapes low ++ flat_shape c.args.given ∷ [])) in
    ap (λ (b : Bool). need b next) (sym c.if-both_fit.false) ∙ two_is p.known.now p.at (stack_at p.stacks.now p.stack) low c.in-Some.x c.in-Some.y c.args.asked c.args.given c.both_fit.result c.in-Some.ensures c.both_fit.ensures
