use Rattle.std.proofs.Common.{map, subst}
use Rattle.std.proofs.lemmas.Option.{slice_get_within}
use Rattle.um_tree.specs.ValueTree.{value_tree}
use Rattle.um_steps.specs.Stepping.{IsBegun}
use Rattle.um_vm.proofs.Shown.{shows_start, first_holds}
use Rattle.um_vm.proofs.machine.Machine.start.Goals as goal

pub new-requires : goal.new-requires
new-requires c = slice_get_within c.args.code.now.entries c.args.f c.requires.0 c.requires.1

pub returns : goal.returns
returns c = shows_start c.args.code.now c.args.f (map value_tree c.args.args.items.items) c.args.budget c.in_ok-run.run' c.first_phase.result c.first_phase.ensures (subst (λ b. IsBegun c.args.code.now c.args.f (map value_tree c.args.args.items.items) b c.in_ok-run.run') c.saturating_sub.ensures c.in_ok-run.ensures)

pub invariant_of-result : goal.invariant_of-result
invariant_of-result c = record { ended = first_holds c.in_ok-run.run'.stack.store c.args.budget c.first_phase.result c.first_phase.ensures }
