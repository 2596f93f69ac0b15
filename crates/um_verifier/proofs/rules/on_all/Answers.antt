use Rattle.std.proofs.Common.{◌≡◌, refl, sym, ap, ◌∙◌, ℕ, ◌<◌, ◌≤◌, ◌+◌, ◌-◌, ◌++◌, ◌∷◌, [], Bool, take, drop, length, arith}
use Rattle.um_verify.specs.Rules.{need, to}
use Rattle.um_stacks.specs.FlatShapes.{flat_shape, flat_shapes}
use Rattle.um_stacks.specs.Stacks.{stack_at}
use Rattle.um_verifier.specs.KnownImages.{known_heights, lowered}
use Rattle.um_verifier.proofs.Taken.{low_cut}
use Rattle.um_verifier.proofs.TakenMany.{many_few, many_is}
use Rattle.um_verifier.proofs.rules.on_all.Goals as goal

pub returns-then-height-asked : goal.returns-then-height-asked
returns-then-height-asked c =
    let p = c.args.point.now in
    let st = stack_at p.stacks.now p.stack in
    let few : length st < length c.args.asked.now = omega (arith, c.height-height.ensures.height, c.if-height-asked.true) in
    many_few p.known.now p.at st c.args.asked.now (flat_shape c.args.given) few

pub returns-then-not-top_fits : goal.returns-then-not-top_fits
returns-then-not-top_fits c =
    let p = c.args.point.now in
    let st = stack_at p.stacks.now p.stack in
    let many : length c.args.asked.now ≤ length st = omega (arith, c.height-height.ensures.height, c.if-height-asked.false) in
    let place = length st - length c.args.asked.now in
    let next = lowered (known_heights p.known.now) (to (p.at + 1) (flat_shapes (take place st) ++ flat_shape c.args.given ∷ [])) in
    ap (λ (b : Bool). need b next) (sym c.if-not-top_fits.true) ∙ many_is p.known.now p.at st c.args.asked.now (take place st) (drop place st) (flat_shape c.args.given) c.top_fits.result many refl refl c.top_fits.ensures

pub pushed-requires : goal.pushed-requires
pushed-requires c =
    let p = c.args.point.now in
    low_cut p.known.now (stack_at p.stacks.now p.stack) (stack_at p.stacks.now c.lower-low.result) _ p.low c.lower-low.ensures.part

pub returns : goal.returns
returns c =
    let p = c.args.point.now in
    let st = stack_at p.stacks.now p.stack in
    let many : length c.args.asked.now ≤ length st = omega (arith, c.height-height.ensures.height, c.if-height-asked.false) in
    let place = length st - length c.args.asked.now in
    let next = lowered (known_heights p.known.now) (to (p.at + 1) (flat_shapes (stack_at p.stacks.now c.lower-low.result) ++ flat_shape c.args.given ∷ [])) in
    let cut : stack_at p.stacks.now c.lower-low.result ≡ take place st = c.lower-low.ensures.part ∙ ap (λ (m : ℕ). take (m - length c.args.asked.now) st) c.height-height.ensures.height in
    c.pushed.ensures
    ∙ ap (λ (b : Bool). need b next) (sym c.if-not-top_fits.false)
    ∙ many_is p.known.now p.at st c.args.asked.now (stack_at p.stacks.now c.lower-low.result) (drop place st) (flat_shape c.args.given) c.top_fits.result many cut refl c.top_fits.ensures
