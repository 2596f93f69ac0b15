use Rattle.std.proofs.Common.{◌+◌, ◌<◌, [], drop, sym, ap, ◌∙◌, subst, arith}
use Rattle.std.specs.Prelude.{All}
use Rattle.std.proofs.lemmas.List.Elements.{All-weaker}
use Rattle.um_tree.specs.TypeTree.{TypeTree, type_trees}
use Rattle.um_tree.specs.Scheme.{variables}
use Rattle.um_elim.specs.Numbering.{renumbered}
use Rattle.um_infer.proofs.GeneralSteps.{types_stay}
use Rattle.um_annot.specs.Annotated.{general}
use Rattle.um_annot.specs.Answers.{retyped}
use Rattle.um_annot.specs.Placing.{placed_nodes}
use Rattle.um_annot.proofs.AnnotSteps.{numbered_count}
use Rattle.um_annot.proofs.annotation.put_numbered.Goals as goal

pub renumber-requires : goal.renumber-requires
renumber-requires c =
    let h = c.args.head in
    let n = c.args.head.slots in
    let few : n + h.parameters < 4294967295 = c.requires.slots in
    let stays = types_stay h.bases h.parameters n (type_trees c.args.types) c.requires.variables in
    All-weaker (λ k. k < n + h.parameters) (λ k. k < 4294967295) (λ k low. omega (arith, low, few)) (variables (type_trees c.in_ok-types.types))
    (subst (λ us. All (λ k. k < n + h.parameters) (variables us)) (sym c.in_ok-types.ensures) stays)

pub put_types-requires-clause-count : goal.put_types-requires-clause-count
put_types-requires-clause-count c =
    let h = c.args.head in
    let long = numbered_count (λ (t : TypeTree). general h.bases h.parameters c.args.head.slots t) c.args.types c.in_ok-types.types c.in_ok-types-2.field-0.types c.in_ok-types.ensures c.in_ok-types-2.ensures.renumbered in
    let count = c.requires.count in
    omega (arith, long, count)

pub returns : goal.returns
returns c = λ heads count.
    let h = c.args.head in
    let long = numbered_count (λ (t : TypeTree). general h.bases h.parameters c.args.head.slots t) c.args.types c.in_ok-types.types c.in_ok-types-2.field-0.types c.in_ok-types.ensures c.in_ok-types-2.ensures.renumbered in
    c.put_types.ensures heads (long ∙ count)
    ∙ ap (λ ts. retyped (placed_nodes [] c.args.order.now) (drop heads ts)) (c.in_ok-types-2.ensures.renumbered ∙ ap renumbered c.in_ok-types.ensures)
