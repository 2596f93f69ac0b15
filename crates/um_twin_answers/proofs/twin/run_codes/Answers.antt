use Rattle.std.proofs.Common.{◌≡◌, Some, map, sym, ap, subst, ◌∙◌}
use Rattle.std.proofs.lemmas.Result.{IfOk-weaker}
use Rattle.um_tree.specs.ValueTree.{value_tree, without_units, outcome_tree}
use Rattle.um_tree.specs.ProgramTree.{ProgramTree, program_tree}
use Rattle.um_tree.specs.Meaning.{outcome_of_call}
use Rattle.um_cells.specs.Arguments.{AreArgumentsOf}
use Rattle.um_cells.specs.Running.{EndsAsMeant}
use Rattle.um_machine.specs.Machine.{EndsWith}
use Rattle.um_gen.specs.ProgramCode.{program_code}
use Rattle.um_gen.proofs.EndsAsMeant.{outcomes_are_reached}
use Rattle.um_vm.specs.Running.{IsCodeOf}
use Rattle.um_run.specs.Calls.{call_tree, call_values}
use Rattle.um_scale.specs.RescaledLiterals.{rescaled_program}
use Rattle.um_call_answers.specs.TwinAnswer.{rescaled_values}
use Rattle.um_call_answers.proofs.TwinArguments.{other_arguments}
use Rattle.um_twin_answers.proofs.twin.run_codes.Goals as goal

pub twin-requires-clause-first_arguments : goal.twin-requires-clause-first_arguments
twin-requires-clause-first_arguments c =
    let p = program_tree c.args.both.now.shaped.now in
    (p, c.new-first.ensures.runs, subst (AreArgumentsOf p c.args.both.now.call.now.function) (sym c.in_ok-args.ensures) c.requires.can.typed.arguments)

pub twin-requires-clause-second_arguments : goal.twin-requires-clause-second_arguments
twin-requires-clause-second_arguments c =
    let cs = c.args.both.now.scales.now in let p = program_tree c.args.both.now.shaped.now in let q = program_tree c.args.other.now in
    let call = call_tree c.args.both.now.call.now in
    let values : map value_tree c.in-Ok.scaled.items.items ≡ rescaled_values cs call = c.in-Ok.ensures ∙ ap (map without_units) c.requires.fit.rescaled in
    let allowed = other_arguments cs p q call c.requires.other c.requires.fit.fit c.requires.can.typed.arguments in
    (q, c.new-second.ensures.runs, subst (AreArgumentsOf q call.function) (sym values) allowed)

pub returns-in-Ok-clause-first : goal.returns-in-Ok-clause-first
returns-in-Ok-clause-first c =
    let p = program_tree c.args.both.now.shaped.now in let b = c.args.both.now.budget in
    let call = call_tree c.args.both.now.call.now in let f = call.function in
    let allowed = subst (AreArgumentsOf p f) (sym c.in_ok-args.ensures) c.requires.can.typed.arguments in
    IfOk-weaker c.twin.result (λ t. EndsAsMeant (λ x. IsCodeOf c.new-first.result x) f (map value_tree c.in_ok-args.args.items.items) b (outcome_tree t.first))
    (λ t. EndsWith (program_code p.functions) f (call_values call) b (outcome_tree t.first))
    (λ t meant. outcomes_are_reached p f (call_values call) b (outcome_tree t.first) (subst (λ us. outcome_of_call p f us b ≡ Some (outcome_tree t.first)) c.in_ok-args.ensures (meant p c.new-first.ensures.runs allowed)))
    c.twin.ensures.first

pub returns-in-Ok-clause-second : goal.returns-in-Ok-clause-second
returns-in-Ok-clause-second c =
    let cs = c.args.both.now.scales.now in let p = program_tree c.args.both.now.shaped.now in let q = program_tree c.args.other.now in
    let b = c.args.both.now.budget in let call = call_tree c.args.both.now.call.now in let f = call.function in
    let values : map value_tree c.in-Ok.scaled.items.items ≡ rescaled_values cs call = c.in-Ok.ensures ∙ ap (map without_units) c.requires.fit.rescaled in
    let allowed = subst (AreArgumentsOf q f) (sym values) (other_arguments cs p q call c.requires.other c.requires.fit.fit c.requires.can.typed.arguments) in
    IfOk-weaker c.twin.result (λ t. EndsAsMeant (λ x. IsCodeOf c.new-second.result x) f (map value_tree c.in-Ok.scaled.items.items) b (outcome_tree t.second))
    (λ t. EndsWith (program_code (rescaled_program cs p).functions) f (rescaled_values cs call) b (outcome_tree t.second))
    (λ t meant.
    let ended = subst (λ us. outcome_of_call q f us b ≡ Some (outcome_tree t.second)) values (meant q c.new-second.ensures.runs allowed) in
    subst (λ (x : ProgramTree). EndsWith (program_code x.functions) f (rescaled_values cs call) b (outcome_tree t.second)) c.requires.other.rescaled
    (outcomes_are_reached q f (rescaled_values cs call) b (outcome_tree t.second) ended))
    c.twin.ensures.second
