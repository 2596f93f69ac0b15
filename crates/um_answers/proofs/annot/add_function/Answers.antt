use Rattle.std.proofs.Common.{◌<◌, ◌++◌, ◌∙◌, append_assoc, arith, ap, length, map, slice_get}
use Rattle.std.proofs.lemmas.List.{length-map}
use Rattle.um_tree.specs.declared.program.Program.{Program}
use Rattle.um_tree.specs.ProgramTree.{program_tree, scheme_tree}
use Rattle.um_infer.specs.Answers.{scheme_trees}
use Rattle.um_rows.specs.NodeTypes.{typed_node, typed_nodes}
use Rattle.um_show.specs.SchemeText.{scheme_text}
use Rattle.um_reports.specs.Steps.{line}
use Rattle.um_answers.specs.AnnotAnswer.{node_lines}
use Rattle.um_answers.proofs.SchemesGiven.{as_many_schemes}
use Rattle.um_answers.proofs.annot.add_function.Goals as goal

pub add_scheme-requires-clause-scheme : goal.add_scheme-requires-clause-scheme
add_scheme-requires-clause-scheme c =
    let p = program_tree c.args.source.now.shaped.now in
    let schemes = c.args.source.now.schemes.now.items.items in
    let count = as_many_schemes p schemes c.program-program.ensures.formed c.requires.inferred in
    let same = length-map schemes scheme_tree in
    let inside : c.args.i < length p.functions = c.requires.function in
    omega (arith, count, same, inside)

pub annotated-requires-clause-solved : goal.annotated-requires-clause-solved
annotated-requires-clause-solved c = (scheme_trees c.args.source.now.schemes.now, c.requires.inferred, c.requires.solved)

pub returns-in_ok-add_nodes-in-Ok-clause-lines : goal.returns-in_ok-add_nodes-in-Ok-clause-lines
returns-in_ok-add_nodes-in-Ok-clause-lines c = λ f s declared stands.
    let bytes = c.args.source.now.bytes.now in
    let p = c.args.source.now.shaped.now in
    let own = c.program-program.ensures.program in
    let nodes = typed_nodes c.annotated.new.solved.typed.nodes in
    let old = c.args.text.now.items in
    let first = line (scheme_text (program_tree p) f.name s) in
    let rest = node_lines bytes (program_tree p) nodes in
    let here = ap (λ (q : Program). slice_get (program_tree q).functions c.args.i) own ∙ declared in
    let head = c.in_ok-add_scheme.ensures f s here stands ∙ ap (λ (q : Program). old ++ line (scheme_text (program_tree q) f.name s)) own in
    let tail = c.in_ok-add_nodes-in-Ok.ensures.lines ∙ (λ i. c.add_scheme.new.text.items ++ node_lines bytes (program_tree (own i)) (map typed_node (c.deref.ensures.value i))) in
    (nodes, c.in-Ok.ensures (scheme_trees c.args.source.now.schemes.now) f c.requires.inferred declared, tail ∙ ap (λ t. t ++ rest) head ∙ append_assoc old first rest)
