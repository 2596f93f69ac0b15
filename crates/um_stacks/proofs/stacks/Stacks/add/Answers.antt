use Rattle.std.proofs.Common.{◌≡◌, refl, sym, subst, ap, ◌∙◌, ◌+◌, ◌∷◌, ◌++◌, [], List, length, arith, length-append}
use Rattle.um_stacks.specs.declared.stacks.Node.{Node}
use Rattle.um_stacks.specs.declared.flat.FlatShape.{FlatShape}
use Rattle.um_stacks.specs.Stacks.{stack_at, stacks_of, AreNodes, AreKept}
use Rattle.um_stacks.proofs.KeptJoins.{kept_stays}
use Rattle.um_stacks.proofs.Nodes.{count_is, nodes_grow, stacks_grow}
use Rattle.um_stacks.proofs.stacks.Stacks.add.Goals as goal

pub overflow_cast-result : goal.overflow_cast-result
overflow_cast-result c =
    let l = count_is c.args.self.now c.self.inside.nodes.items c.self.view_is in
    let n : c.len.result ≡ length c.self.inside.nodes.items + 1 = c.len.ensures ∙ c.push.new.self.ok.0 ∙ ap (λ (ns : List Node). length ns) c.in_ok-push.ensures.items ∙ length-append c.self.inside.nodes.items (c.args.node ∷ []) in
    omega (arith, l, n, c.requires.few)

pub invariant_of-self-2 : goal.invariant_of-self-2
invariant_of-self-2 c =
    let nodes = c.self.inside.nodes.items in
    let new = stacks_grow (stacks_of nodes) nodes c.push.new.self.items c.args.node refl c.in_ok-push.ensures.items in (
      nodes_grow c.args.self.now nodes c.push.new.self.items c.args.node c.self.view_is c.self.invariant.0 c.requires.few c.requires.node c.in_ok-push.ensures.items,
      subst (λ (s : List (List FlatShape)). AreKept s c.self.inside.joins.items) (sym new) (kept_stays (stacks_of nodes) ((stack_at (stacks_of nodes) c.args.node.below ++ c.args.node.top ∷ []) ∷ []) c.self.inside.joins.items c.self.invariant.1),
    )

pub returns-clause-number : goal.returns-clause-number
returns-clause-number c =
    let l = count_is c.args.self.now c.self.inside.nodes.items c.self.view_is in
    let n : c.len.result ≡ length c.self.inside.nodes.items + 1 = c.len.ensures ∙ c.push.new.self.ok.0 ∙ ap (λ (ns : List Node). length ns) c.in_ok-push.ensures.items ∙ length-append c.self.inside.nodes.items (c.args.node ∷ []) in
    n ∙ sym l

pub returns-clause-stacks : goal.returns-clause-stacks
returns-clause-stacks c = stacks_grow c.args.self.now c.self.inside.nodes.items c.push.new.self.items c.args.node c.self.view_is c.in_ok-push.ensures.items

pub invariant_of-self : goal.invariant_of-self
invariant_of-self c = subst (λ (nodes : List Node). AreNodes nodes × AreKept (stacks_of nodes) c.self.inside.joins.items) (sym c.in_err-push.ensures.items) c.self.invariant
