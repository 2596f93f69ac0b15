use Rattle.std.proofs.Common.{ap, ◌∙◌, map, subst}
use Rattle.um_tree.specs.ValueTree.{value_tree}
use Rattle.um_tree.specs.ProgramTree.{function_tree, program_tree}
use Rattle.um_tree.specs.Shapes.{IsShaped}
use Rattle.um_eval.proofs.Ending.{right_call}
use Rattle.um_eval.proofs.runner.TreeRunner.trace.Goals as goal

pub trace_call-requires-clause-right : goal.trace_call-requires-clause-right
trace_call-requires-clause-right c =
    let p = program_tree c.args.self.now in
    let same = ap (map function_tree) c.deref.ensures.value ∙ ap (λ q. (program_tree q).functions) (c.program.ensures.program ∙ c.self.view_is) in
    right_call p (map function_tree c.deref.result.now) c.put_arguments.new.store c.in_ok-words.words.items c.args.f c.args.budget (map value_tree c.args.args.items.items) same c.in_ok-words.ensures (subst (λ q. IsShaped (program_tree q)) c.self.view_is c.program.ensures.shaped) c.requires.arguments
