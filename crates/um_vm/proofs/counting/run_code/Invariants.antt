use Rattle.std.proofs.Common.{map}
use Rattle.um_tree.specs.ValueTree.{value_tree}
use Rattle.um_vm.proofs.Counted.{Reaches, left_of}
use Rattle.um_vm.proofs.counting.run_code.Given as goal

abbrev pub invariant-loop-machine : goal.invariant-loop-machine
invariant-loop-machine l = Reaches l.code l.fn.f (map value_tree l.fn.args.items.items) l.fn.budget l.machine l.steps

abbrev pub decreases-loop-machine : goal.decreases-loop-machine
decreases-loop-machine l = left_of l.machine
