use Rattle.std.proofs.Common.{◌≡◌, sym, subst, ◌∙◌, ◌≤◌, List, length, arith}
use Rattle.um_stacks.specs.Stacks.{stacks_of, AreNodes, AreKept}
use Rattle.um_stacks.specs.declared.stacks.KeptJoin.{KeptJoin}
use Rattle.um_stacks.proofs.KeptJoins.{keeps}
use Rattle.um_stacks.proofs.stacks.Stacks.keep_join.Goals as goal

pub invariant_of-self-in_err-insert : goal.invariant_of-self-in_err-insert
invariant_of-self-in_err-insert c =
    let s = c.self.inside in
    let many : c.len-count.result ≡ length s.nodes.items = c.len-count.ensures ∙ s.nodes.ok.0 in
    let one : c.args.one ≤ length s.nodes.items = omega (arith, many, c.if-count-one.false) in
    let other : c.args.other ≤ length s.nodes.items = omega (arith, many, c.if-count-other.false) in
    (c.self.invariant.0, keeps c.args.self.now s.nodes.items s.joins.items c.push.new.self.items (record { one = c.args.one; other = c.args.other; join = c.args.join }) c.self.view_is c.self.invariant.1 one other c.requires c.in_ok-push.ensures.items)

pub invariant_of-self-2 : goal.invariant_of-self-2
invariant_of-self-2 c =
    let s = c.self.inside in
    let many : c.len-count.result ≡ length s.nodes.items = c.len-count.ensures ∙ s.nodes.ok.0 in
    let one : c.args.one ≤ length s.nodes.items = omega (arith, many, c.if-count-one.false) in
    let other : c.args.other ≤ length s.nodes.items = omega (arith, many, c.if-count-other.false) in
    (c.self.invariant.0, keeps c.args.self.now s.nodes.items s.joins.items c.push.new.self.items (record { one = c.args.one; other = c.args.other; join = c.args.join }) c.self.view_is c.self.invariant.1 one other c.requires c.in_ok-push.ensures.items)

pub invariant_of-self : goal.invariant_of-self
invariant_of-self c =
    let nodes = c.self.inside.nodes.items in
    subst (λ (joins : List KeptJoin). AreNodes nodes × AreKept (stacks_of nodes) joins) (sym c.in_err-push.ensures.items) c.self.invariant
