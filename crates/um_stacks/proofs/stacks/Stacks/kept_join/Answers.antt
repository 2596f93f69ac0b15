use Rattle.std.proofs.Common.{◌≡◌, ◌∙◌, ◌<◌, length, arith}
use Rattle.um_stacks.proofs.KeptJoins.{kept_at}
use Rattle.um_stacks.proofs.stacks.Stacks.kept_join.Goals as goal

pub returns-then-kept-other : goal.returns-then-kept-other
returns-then-kept-other c =
    let s = c.self.inside in
    let many : c.len.result ≡ length s.joins.items = c.len.ensures ∙ s.joins.ok.0 in
    let within : c.in-Some.place.now < length s.joins.items = omega (arith, many, c.if-len-place.false) in
    kept_at c.args.self.now s.nodes.items s.joins.items c.in-Some.place.now c.args.one c.args.other c.index-kept.result.now c.self.view_is c.self.invariant.1 within c.index-kept.ensures c.if-kept-one.true c.if-kept-other.true
