use Rattle.um_tree.specs.ProgramTree.{program_tree, scheme_tree}
use Rattle.std.proofs.Common.{map}
use Rattle.um_rows.specs.NodeTypes.{typed_nodes}
use Rattle.um_agree.proofs.FunctionAsked.{are_agreed}
use Rattle.um_agree.proofs.agreements.agreed_rows.Goals as goal

pub returns-in-Ok-clause-agreements : goal.returns-in-Ok-clause-agreements
returns-in-Ok-clause-agreements c = λ f e.
    let p = program_tree c.args.shaped.now in
    let found = c.in_ok-rows.field-0 in
    let equations = c.in_ok-rows.ensures.equations f e in
    are_agreed p.records (map scheme_tree c.args.schemes.now.items.items) c.args.i f (c.requires.right f e) found.rows.list.items.items equations.list (typed_nodes found.nodes) (c.in_ok-rows.ensures.nodes f e)
    c.in-Ok.asked.items (c.in-Ok.ensures.asked f e)
