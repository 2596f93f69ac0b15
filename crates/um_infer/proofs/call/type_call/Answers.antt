use Rattle.std.proofs.Common.{ap}
use Rattle.um_tree.specs.ProgramTree.{program_tree, scheme_tree}
use Rattle.um_tree.specs.TypeTree.{type_tree}
use Rattle.um_tree.specs.ValueTree.{input_trees}
use Rattle.um_infer.specs.Answers.{scheme_trees}
use Rattle.um_infer.proofs.SchemeLists.{item_at}
use Rattle.um_infer.proofs.CallTypes.{judged_call_types, call_refused, refused_call}
use Rattle.um_infer.proofs.call.type_call.Goals as goal

pub returns-in-Ok-clause-typed : goal.returns-in-Ok-clause-typed
returns-in-Ok-clause-typed c = λ f declared. (scheme_tree c.in-Ok.scheme, c.in-Ok.ensures f declared, ap type_tree c.into_result.ensures)

pub returns-in-Ok-clause-types : goal.returns-in-Ok-clause-types
returns-in-Ok-clause-types c =
    let p = program_tree c.args.shaped.now in let schemes = scheme_trees c.args.schemes.now in let inputs = input_trees c.args.args.now in
    let w = item_at p.functions c.args.f c.requires.function in
    rw c.into_result.ensures (judged_call_types p schemes c.args.f w.0 inputs c.function_count.ensures.formed c.requires.inferred w.1 c.requires.inputs (scheme_tree c.in-Ok.scheme) (c.in-Ok.ensures w.0 w.1))

pub returns-in-Err-clause-types : goal.returns-in-Err-clause-types
returns-in-Err-clause-types c =
    let p = program_tree c.args.shaped.now in let schemes = scheme_trees c.args.schemes.now in
    let w = item_at p.functions c.args.f c.requires.function in
    rw c.call_stop_of.ensures (refused_call p schemes c.args.f w.0 (input_trees c.args.args.now) c.function_count.ensures.formed c.requires.inferred w.1 c.requires.inputs c.in-Err.refusal (c.in-Err.ensures w.0 w.1))

pub returns-in-Err-clause-typed : goal.returns-in-Err-clause-typed
returns-in-Err-clause-typed c = λ f declared.
    rw c.call_stop_of.ensures (call_refused (program_tree c.args.shaped.now) (scheme_trees c.args.schemes.now) c.args.f f (input_trees c.args.args.now) c.in-Err.refusal (c.in-Err.ensures f declared))
