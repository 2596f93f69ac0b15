use Rattle.std.proofs.Common.{◌≡◌, ap, ◌∙◌, ℕ, ◌<◌, ◌≤◌, ◌-◌, ◌∷◌, [], List, take, length, arith}
use Rattle.um_stacks.specs.declared.flat.FlatShape.{FlatShape}
use Rattle.um_stacks.specs.Stacks.{stack_at}
use Rattle.um_verifier.proofs.Taken.{slide_none, slide_few, slide_is, low_left, low_cut}
use Rattle.um_verifier.proofs.rules.slide.Goals as goal

pub returns-in-None : goal.returns-in-None
returns-in-None c = λ code body.
    let p = c.args.point.now in
    let st = stack_at p.stacks.now p.stack in
    let none : length st ≡ 0 = ap (λ (s : List FlatShape). length s) c.in-None.ensures in
    slide_none p.known.now p.at st code body c.args.k none

pub returns-then-height-k : goal.returns-then-height-k
returns-then-height-k c = λ code body.
    let p = c.args.point.now in
    let low = stack_at p.stacks.now c.in-Some.low in
    let few : length low < c.args.k = omega (arith, c.height-height.ensures.height, c.if-height-k.true) in
    slide_few p.known.now p.at (stack_at p.stacks.now p.stack) code body c.args.k low c.in-Some.y c.in-Some.ensures few

pub pushed-requires : goal.pushed-requires
pushed-requires c =
    let p = c.args.point.now in
    let low = stack_at p.stacks.now c.in-Some.low in
    let is_low = low_left p.known.now (stack_at p.stacks.now p.stack) low (c.in-Some.y ∷ []) p.low c.in-Some.ensures in
    low_cut p.known.now low (stack_at p.stacks.now c.lower-lower.result) _ is_low c.lower-lower.ensures.part

pub returns-else-height-k : goal.returns-else-height-k
returns-else-height-k c = λ code body.
    let p = c.args.point.now in
    let low = stack_at p.stacks.now c.in-Some.low in
    let many : c.args.k ≤ length low = omega (arith, c.height-height.ensures.height, c.if-height-k.false) in
    let cut : stack_at p.stacks.now c.lower-lower.result ≡ take (length low - c.args.k) low = c.lower-lower.ensures.part ∙ ap (λ (n : ℕ). take (n - c.args.k) low) c.height-height.ensures.height in
    c.pushed.ensures ∙ slide_is p.known.now p.at (stack_at p.stacks.now p.stack) code body c.args.k low (stack_at p.stacks.now c.lower-lower.result) c.in-Some.y c.in-Some.ensures many cut
