use Rattle.std.proofs.Common.{◌<◌, [], length, map, drop, sym, ap, ◌∙◌, subst, arith}
use Rattle.std.specs.Prelude.{All}
use Rattle.um_tree.specs.TypeTree.{TypeTree, type_trees}
use Rattle.um_tree.specs.Scheme.{variables}
use Rattle.um_elim.specs.Numbering.{renumbered}
use Rattle.um_annot.specs.TextOrder.{node_with}
use Rattle.um_annot.specs.Annotated.{node_types, general, numbered, unless_past, annotated}
use Rattle.um_annot.specs.Answers.{solved_nodes, retyped}
use Rattle.um_annot.specs.Placing.{placed_nodes}
use Rattle.um_annot.proofs.PlacedNodes.{retyped_anywhere}
use Rattle.um_annot.proofs.AnnotSteps.{all_both, numbered_back, solved_count}
use Rattle.um_annot.proofs.annotation.annotated_in_order.Goals as goal

pub put_numbered-requires-clause-variables : goal.put_numbered-requires-clause-variables
put_numbered-requires-clause-variables c =
    let units = c.args.solver.now.units in
    let ns = placed_nodes c.args.nodes.now.items c.args.order.now in
    subst (λ ts. All (λ k. k < c.args.head.slots) (variables ts)) (sym c.in-Ok.ensures.solved)
    (all_both (λ k. k < c.args.head.slots) (type_trees c.args.types) (node_types (solved_nodes units ns)) c.requires.types c.requires.nodes)

pub put_numbered-requires-clause-nodes : goal.put_numbered-requires-clause-nodes
put_numbered-requires-clause-nodes c = c.requires.numbers.count ∙ sym c.all_solved.ensures.count

pub put_numbered-requires-clause-count : goal.put_numbered-requires-clause-count
put_numbered-requires-clause-count c =
    let long = solved_count c.args.solver.now.units (type_trees c.args.types) c.args.nodes.now.items c.args.order.now c.in-Ok.types c.in-Ok.ensures.solved in
    omega (arith, long)

pub returns-in_ok-put_numbered-in-Ok : goal.returns-in_ok-put_numbered-in-Ok
returns-in_ok-put_numbered-in-Ok c =
    let h = c.args.head in
    let nodes = c.args.nodes.now.items in
    let order = c.args.order.now in
    let ns = placed_nodes nodes order in
    let units = c.args.solver.now.units in
    let hs = type_trees c.args.types in
    let gen : TypeTree → TypeTree = λ t. general h.bases h.parameters h.slots t in
    let all = c.in-Ok.types in
    let made = c.in_ok-put_numbered-in-Ok.ensures (length hs) (solved_count units hs nodes order all c.in-Ok.ensures.solved)
    ∙ retyped_anywhere [] nodes order (drop (length hs) (renumbered (map gen (type_trees all))))
    ∙ ap (λ ts. retyped ns (drop (length hs) (renumbered (map gen ts)))) c.in-Ok.ensures.solved
    ∙ numbered_back h.bases h.parameters h.slots units hs ns in
    ap (λ o. unless_past o (numbered (map gen hs) (map (node_with gen) (solved_nodes units ns)))) c.in-Ok.ensures.range ∙ ap annotated (sym made)
