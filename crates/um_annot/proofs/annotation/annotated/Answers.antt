use Rattle.std.proofs.Common.{◌<◌, List, length, map, refl, sym, ◌∙◌, subst, arith}
use Rattle.std.specs.Prelude.{All}
use Rattle.um_units.specs.PowerMap.{nth}
use Rattle.um_tree.specs.ProgramTree.{SchemeTree, program_tree}
use Rattle.um_tree.specs.Scheme.{signature_types, variables}
use Rattle.um_tree.specs.Typing.{put}
use Rattle.um_elim.specs.Solution.{rigid_units}
use Rattle.um_rows.specs.Answers.{rows_signature}
use Rattle.um_rows.specs.FirstUnsolvable.{solve}
use Rattle.um_rows.specs.NodeTypes.{typed_node, typed_nodes}
use Rattle.um_infer.specs.SolvedPrograms.{IsSolvedAt}
use Rattle.um_infer.proofs.FormingSteps.{puts_below}
use Rattle.um_infer.proofs.SchemeLists.{item_at}
use Rattle.um_annot.specs.TextOrder.{in_text_order}
use Rattle.um_annot.specs.Annotated.{by_heads, by_solving, node_types}
use Rattle.um_annot.specs.Answers.{IsAnnotated, solved_nodes}
use Rattle.um_annot.proofs.AnnotSteps.{solved_below}
use Rattle.um_annot.proofs.Functions.{few, types_low, nodes_low, within, judged, same_annotation, same_schemes}
use Rattle.um_annot.proofs.annotation.annotated.Goals as goal

pub signature_by-requires : goal.signature_by-requires
signature_by-requires c =
    let p = program_tree c.args.shaped.now in
    let formed = c.head_of-head.ensures.formed in
    let w = item_at p.functions c.args.i c.requires.function in
    let one = c.requires.solved.2 w.0 w.1 in
    let j = judged p formed c.requires.solved.0 c.requires.solved.1 c.args.i c.requires.function w.0 w.1 c.args.solved.now.typed.rows one.equations (length p.bases) w.0.units c.head_of-head.result.at refl refl (c.head_of-head.ensures.function w.0 w.1).1 in
    (length p.bases, w.0.units, j.0, one.solution, j.1)

pub annotated_with-requires-clause-unspent : goal.annotated_with-requires-clause-unspent
annotated_with-requires-clause-unspent c =
    let p = program_tree c.args.shaped.now in
    let w = item_at p.functions c.args.i c.requires.function in
    (c.requires.solved.2 w.0 w.1).solution.unspent

pub annotated_with-requires-clause-slots : goal.annotated_with-requires-clause-slots
annotated_with-requires-clause-slots c =
    let p = program_tree c.args.shaped.now in
    let formed = c.head_of-head.ensures.formed in
    let w = item_at p.functions c.args.i c.requires.function in
    let one = c.requires.solved.2 w.0 w.1 in
    let slots = few p formed c.requires.solved.0 c.requires.solved.1 c.args.i c.requires.function w.0 w.1 c.args.solved.now.typed.rows one.equations in
    let inside = within p formed c.requires.solved.0 c.requires.solved.1 c.args.i c.requires.function w.0 w.1 c.args.solved.now.typed.rows one.equations c.head_of-head.result.parameters (c.head_of-head.ensures.function w.0 w.1).0 in
    let same = c.head_of-head.ensures.slots in
    omega (arith, slots, inside, same)

pub annotated_with-requires-clause-bases : goal.annotated_with-requires-clause-bases
annotated_with-requires-clause-bases c =
    let p = program_tree c.args.shaped.now in
    let formed = c.head_of-head.ensures.formed in
    let w = item_at p.functions c.args.i c.requires.function in
    let one = c.requires.solved.2 w.0 w.1 in
    let slots = few p formed c.requires.solved.0 c.requires.solved.1 c.args.i c.requires.function w.0 w.1 c.args.solved.now.typed.rows one.equations in
    let inside = within p formed c.requires.solved.0 c.requires.solved.1 c.args.i c.requires.function w.0 w.1 c.args.solved.now.typed.rows one.equations c.head_of-head.result.parameters (c.head_of-head.ensures.function w.0 w.1).0 in
    let most = c.head_of-head.ensures.few in
    omega (arith, slots, inside, most)

pub annotated_with-requires-clause-types : goal.annotated_with-requires-clause-types
annotated_with-requires-clause-types c =
    let p = program_tree c.args.shaped.now in
    let formed = c.head_of-head.ensures.formed in
    let w = item_at p.functions c.args.i c.requires.function in
    let one = c.requires.solved.2 w.0 w.1 in
    let rows = c.args.solved.now.typed.rows in
    let ts = signature_types (rows_signature rows) in
    let low = types_low p formed c.requires.solved.0 c.requires.solved.1 c.args.i c.requires.function w.0 w.1 rows one.equations in
    rw c.head_of-head.ensures.slots (subst (λ us. All (λ k. k < rows.slots) (variables us)) (sym c.in-Ok.ensures)
    (puts_below rows.slots c.args.solved.now.solver.units one.solution.below ts (subst (λ m. All (λ k. k < m) (variables ts)) (sym one.solution.count) low)))

pub annotated_with-requires-clause-nodes : goal.annotated_with-requires-clause-nodes
annotated_with-requires-clause-nodes c =
    let p = program_tree c.args.shaped.now in
    let formed = c.head_of-head.ensures.formed in
    let w = item_at p.functions c.args.i c.requires.function in
    let one = c.requires.solved.2 w.0 w.1 in
    let rows = c.args.solved.now.typed.rows in
    let ns = typed_nodes c.args.solved.now.typed.nodes in
    let low = nodes_low p formed c.requires.solved.0 c.requires.solved.1 c.args.i c.requires.function w.0 w.1 rows one.equations ns one.nodes in
    rw c.head_of-head.ensures.slots (solved_below rows.slots c.args.solved.now.solver.units one.solution.below ns (subst (λ m. All (λ k. k < m) (variables (node_types ns))) (sym one.solution.count) low))

pub returns-in-Ok : goal.returns-in-Ok
returns-in-Ok c = λ schemes f inferred declared.
    let p = program_tree c.args.shaped.now in
    let formed = c.head_of-head.ensures.formed in
    let h = c.head_of-head.result in
    let solved = c.args.solved.now in
    let at = subst (λ (ss : List SchemeTree). IsSolvedAt p ss c.args.i solved) (same_schemes p c.requires.solved.0 schemes c.requires.solved.1 inferred) c.requires.solved.2 in
    let one = at f declared in
    let rows = solved.typed.rows in
    let ordered = in_text_order (typed_nodes solved.typed.nodes) in
    let made = map typed_node c.annotated_with.new.nodes.items in
    let units = solved.solver.units in
    let heads = subst (λ ts. IsAnnotated (by_heads h.bases h.parameters h.slots ts (solved_nodes units ordered)) made c.annotated_with.result) c.in-Ok.ensures c.annotated_with.ensures in
    let own = subst (λ n. IsAnnotated (by_heads h.bases h.parameters n (map (put (nth units)) (signature_types (rows_signature rows))) (solved_nodes units ordered)) made c.annotated_with.result) c.head_of-head.ensures.slots heads in
    let place = (c.head_of-head.ensures.function f declared).0 in
    let count = c.head_of-head.ensures.bases in
    let solves = (λ j. solve 0 rows.list.items.items (rigid_units (count j) (place j) rows.slots)) ∙ one.solution.solves in
    let solving = subst (λ r. IsAnnotated (by_solving h.bases h.parameters rows.slots (rows_signature rows) ordered r) made c.annotated_with.result) (sym solves) own in
    subst (λ a. IsAnnotated a made c.annotated_with.result) (same_annotation p formed schemes inferred c.args.i c.requires.function f declared rows one.equations h.bases h.parameters (typed_nodes solved.typed.nodes) count place one.nodes) solving
