use Rattle.std.proofs.Common.{◌≡◌, ap, ◌∙◌, ◌+◌, ◌-◌, ◌<◌, ◌≤◌, length, arith}
use Rattle.um_stacks.specs.Stacks.{stack_at}
use Rattle.um_stacks.proofs.Nodes.{count_is, first_is, past_empty, node_at}
use Rattle.um_stacks.proofs.stacks.Stacks.node.Goals as goal

pub returns-then-stack-eq-EMPTY : goal.returns-then-stack-eq-EMPTY
returns-then-stack-eq-EMPTY c = ap (stack_at c.args.self.now) c.if-stack-eq-EMPTY.true ∙ first_is c.args.self.now c.self.inside.nodes.items c.self.view_is

pub returns-then-count-place : goal.returns-then-count-place
returns-then-count-place c =
    let l = count_is c.args.self.now c.self.inside.nodes.items c.self.view_is in
    let n : c.len-count.result ≡ length c.self.inside.nodes.items = c.len-count.ensures ∙ c.self.inside.nodes.ok.0 in
    let past : length c.args.self.now ≤ c.args.stack = omega (arith, l, n, c.if-count-place.true, c.if-stack-eq-EMPTY.false) in
    past_empty c.args.self.now c.args.stack past

pub returns : goal.returns
returns c =
    let n : c.len-count.result ≡ length c.self.inside.nodes.items = c.len-count.ensures ∙ c.self.inside.nodes.ok.0 in
    let within : c.args.stack - 1 < length c.self.inside.nodes.items = omega (arith, n, c.if-count-place.false) in
    let number : (c.args.stack - 1) + 1 ≡ c.args.stack = omega (arith, c.if-stack-eq-EMPTY.false) in
    node_at c.args.self.now c.self.inside.nodes.items (c.args.stack - 1) c.args.stack c.index.result.now c.self.view_is c.self.invariant.0 within number c.index.ensures
