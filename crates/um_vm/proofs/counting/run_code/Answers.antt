use Rattle.std.proofs.Common.{map, subst}
use Rattle.std.specs.Prelude.{IsTrue}
use Rattle.std.proofs.lemmas.Result.{IfOk-weaker}
use Rattle.um_tree.specs.ValueTree.{value_tree, outcome_tree}
use Rattle.um_machine.specs.Machine.{Runs}
use Rattle.um_vm.specs.Phases.{phase_holds}
use Rattle.um_vm.proofs.Calls.{counted_ends}
use Rattle.um_vm.proofs.Counted.{reaches_start, reaches_more, counted_end, never_stuck, never_failed, run_falls}
use Rattle.um_vm.proofs.counting.run_code.Goals as goal

pub loop-machine-init : goal.loop-machine-init
loop-machine-init c = reaches_start c.args.code.now c.args.f (map value_tree c.args.args.items.items) c.args.budget c.in_ok-machine.machine c.in_ok-machine.ensures

pub loop-machine-preserved : goal.loop-machine-preserved
loop-machine-preserved c = reaches_more c.args.code.now c.args.f (map value_tree c.args.args.items.items) c.args.budget c.loop-machine.machine c.go_on.new.self c.loop-machine.steps c.in_ok-more-in-Going.more c.saturating_add-steps.result c.in-Going.is (c.in_ok-more-in-Going.ensures.refines c.args.code.now) c.saturating_add-steps.ensures c.loop-machine.invariant

pub loop-machine-smaller : goal.loop-machine-smaller
loop-machine-smaller c =
    let (i, h, counted, before) = c.loop-machine.invariant in
    run_falls c.args.code.now c.loop-machine.machine c.go_on.new.self (Runs c.args.code.now c.args.f (map value_tree c.args.args.items.items) c.args.budget i) c.in_ok-more-in-Going.more c.requires.forward c.in-Going.is h (c.in_ok-more-in-Going.ensures.refines c.args.code.now)

pub finish-requires : goal.finish-requires
finish-requires c = subst (λ p. IsTrue (phase_holds c.loop-machine.machine.run.stack.store p)) c.in-Ended.is c.loop-machine.machine.ended

pub returns-in-Ended-clause-steps : goal.returns-in-Ended-clause-steps
returns-in-Ended-clause-steps c = counted_end c.args.code.now c.args.f (map value_tree c.args.args.items.items) c.args.budget c.finish.result (λ counted. outcome_tree counted.outcome) (λ counted. counted.steps) c.loop-machine.machine c.loop-machine.steps c.in-Ended.end c.in-Ended.is c.loop-machine.invariant c.finish.ensures

pub returns-in-Ended-clause-end : goal.returns-in-Ended-clause-end
returns-in-Ended-clause-end c =
    let args = map value_tree c.args.args.items.items in
    IfOk-weaker c.finish.result _ _ (λ counted k. counted_ends c.args.code.now c.args.f args c.args.budget (outcome_tree counted.outcome) counted.steps k) (returns-in-Ended-clause-steps c)

pub unreachable-requires : goal.unreachable-requires
unreachable-requires c = never_stuck c.args.code.now c.args.f (map value_tree c.args.args.items.items) c.args.budget c.loop-machine.machine c.loop-machine.steps c.in-Stuck.is c.requires.ends c.loop-machine.invariant

pub unreachable-requires-in-Failed : goal.unreachable-requires-in-Failed
unreachable-requires-in-Failed c = never_failed c.args.code.now c.args.f (map value_tree c.args.args.items.items) c.args.budget c.loop-machine.machine c.loop-machine.steps c.in-Failed.is c.loop-machine.invariant
