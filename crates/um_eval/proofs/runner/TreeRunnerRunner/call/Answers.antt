use Rattle.std.proofs.Common.{◌≡◌, Some, map, ap, ◌∙◌, subst}
use Rattle.std.specs.Prelude.{IfOk}
use Rattle.std.proofs.lemmas.Result.{IfOk-weaker}
use Rattle.um_tree.specs.ValueTree.{value_tree, outcome_tree}
use Rattle.um_tree.specs.ProgramTree.{function_tree, program_tree, ProgramTree}
use Rattle.um_tree.specs.Shapes.{IsShaped}
use Rattle.um_tree.specs.Meaning.{outcome_of_call}
use Rattle.um_cells.specs.Arguments.{AreArgumentsOf}
use Rattle.um_cells.specs.Running.{EndsAsMeant}
use Rattle.um_eval.specs.Progress.{end_of_call}
use Rattle.um_eval.proofs.Ending.{right_call}
use Rattle.um_eval.proofs.runner.TreeRunnerRunner.call.Goals as goal

pub run_call-requires-clause-words : goal.run_call-requires-clause-words
run_call-requires-clause-words c = (map value_tree c.args.args.items.items, c.in_ok-words.ensures)

pub run_call-requires-clause-right : goal.run_call-requires-clause-right
run_call-requires-clause-right c =
    let p = program_tree c.args.self.now in
    let args = map value_tree c.args.args.items.items in
    let (q, is, allowed) = c.requires.arguments in
    let same = ap (map function_tree) c.deref.ensures.value ∙ ap (λ q. (program_tree q).functions) (c.program.ensures.program ∙ c.self.view_is) in
    right_call p (map function_tree c.deref.result.now) c.put_arguments.new.store c.in_ok-words.words.items c.args.f c.args.budget args same c.in_ok-words.ensures (subst (λ q. IsShaped (program_tree q)) c.self.view_is c.program.ensures.shaped) (subst (λ (r : ProgramTree). AreArgumentsOf r c.args.f args) is allowed)

pub returns : goal.returns
returns c =
    let p = program_tree c.args.self.now in
    let args = map value_tree c.args.args.items.items in
    let same = ap (map function_tree) c.deref.ensures.value ∙ ap (λ q. (program_tree q).functions) (c.program.ensures.program ∙ c.self.view_is) in
    let ended = subst (λ fs. IfOk c.run_call.result (λ outcome. end_of_call fs c.args.f args c.args.budget ≡ Some (outcome_tree outcome))) same (c.run_call.ensures args c.in_ok-words.ensures) in
    IfOk-weaker c.run_call.result (λ outcome. outcome_of_call p c.args.f args c.args.budget ≡ Some (outcome_tree outcome)) (λ outcome. EndsAsMeant (λ q. q ≡ p) c.args.f args c.args.budget (outcome_tree outcome))
    (λ outcome e. λ q is allowed. ap (λ (r : ProgramTree). outcome_of_call r c.args.f args c.args.budget) is ∙ e)
    ended
