use Rattle.std.proofs.Common.{◌≡◌, Some, refl, sym, ap, subst}
use Rattle.um_tree.specs.ValueTree.{outcome_tree}
use Rattle.um_tree.specs.ProgramTree.{program_tree}
use Rattle.um_tree.specs.Meaning.{outcome_of_call}
use Rattle.um_cells.specs.Arguments.{AreArgumentsOf}
use Rattle.um_call_answers.proofs.call.run_by_tree.Goals as goal

pub call-requires-clause-arguments : goal.call-requires-clause-arguments
call-requires-clause-arguments c =
    let p = program_tree c.args.shaped.now in
    (p, ap program_tree (sym c.new-runner.ensures), subst (AreArgumentsOf p c.args.call.now.function) (sym c.in_ok-values.ensures) c.requires.can.arguments)

pub returns : goal.returns
returns c =
    let p = program_tree c.args.shaped.now in let f = c.args.call.now.function in let b = c.args.budget in
    let allowed = subst (AreArgumentsOf p f) (sym c.in_ok-values.ensures) c.requires.can.arguments in
    let meant = c.in_ok-outcome.ensures p (ap program_tree (sym c.new-runner.ensures)) allowed in
    (subst (λ us. outcome_of_call p f us b ≡ Some (outcome_tree c.in_ok-outcome.outcome)) c.in_ok-values.ensures meant, refl)
