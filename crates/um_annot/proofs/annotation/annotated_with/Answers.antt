use Rattle.std.proofs.Common.{◌≡◌, ◌<◌, ◌∙◌, map, sym, ap, subst}
use Rattle.std.specs.Prelude.{All}
use Rattle.um_tree.specs.TypeTree.{type_trees}
use Rattle.um_tree.specs.Scheme.{variables}
use Rattle.um_rows.specs.NodeTypes.{typed_node}
use Rattle.um_annot.specs.TextOrder.{in_text_order}
use Rattle.um_annot.specs.Annotated.{by_heads, node_types}
use Rattle.um_annot.specs.Answers.{IsAnnotated, solved_nodes}
use Rattle.um_annot.specs.Placing.{AreNumbersOf, placed_nodes}
use Rattle.um_annot.proofs.AnnotSteps.{solved_in_order}
use Rattle.um_annot.proofs.annotation.annotated_with.Goals as goal

pub annotated_in_order-requires-clause-numbers : goal.annotated_in_order-requires-clause-numbers
annotated_in_order-requires-clause-numbers c =
    let numbers = subst (λ ns. AreNumbersOf ns c.in-Ok.order.items) c.deref.ensures.value c.in-Ok.ensures.numbers in
    subst (AreNumbersOf c.args.nodes.now.items) (sym c.deref-in-Ok.ensures.value) numbers

pub annotated_in_order-requires-clause-nodes : goal.annotated_in_order-requires-clause-nodes
annotated_in_order-requires-clause-nodes c =
    let slots = c.args.head.slots in
    let us = c.args.solver.now.units in
    let nodes = c.args.nodes.now.items in
    let placed = subst (λ ns. placed_nodes ns c.in-Ok.order.items ≡ in_text_order (map typed_node ns)) c.deref.ensures.value c.in-Ok.ensures.placed in
    let same = ap (placed_nodes nodes) c.deref-in-Ok.ensures.value ∙ placed in
    subst (λ ns. All (λ k. k < slots) (variables (node_types (solved_nodes us ns)))) (sym same) (solved_in_order slots us (map typed_node nodes) c.requires.nodes)

pub returns-in-Ok : goal.returns-in-Ok
returns-in-Ok c =
    let h = c.args.head in
    let us = c.args.solver.now.units in
    let nodes = c.args.nodes.now.items in
    let made = map typed_node c.annotated_in_order.new.nodes.items in
    let placed = subst (λ ns. placed_nodes ns c.in-Ok.order.items ≡ in_text_order (map typed_node ns)) c.deref.ensures.value c.in-Ok.ensures.placed in
    let same = ap (placed_nodes nodes) c.deref-in-Ok.ensures.value ∙ placed in
    subst (λ ns. IsAnnotated (by_heads h.bases h.parameters h.slots (type_trees c.args.types) (solved_nodes us ns)) made c.annotated_in_order.result) same c.annotated_in_order.ensures
