use Rattle.std.proofs.Common.{ℕ, map}
use Rattle.um_tree.specs.ProgramTree.{function_tree}
use Rattle.um_eval.specs.Through.{Whole}
use Rattle.um_eval.specs.Tasks.{task_of}
use Rattle.um_eval.specs.Progress.{Goes}
use Rattle.um_eval.proofs.Running.{left_of}
use Rattle.um_eval.proofs.evaluator.Evaluator.run.Given as goal

abbrev pub invariant-loop-next : goal.invariant-loop-next
invariant-loop-next l = record {
  leads : (whole : Whole) (n : ℕ) → Goes (map function_tree l.functions) l.fn.self l.fn.first whole n → Goes (map function_tree l.functions) l.self l.next whole (left_of (map function_tree l.functions) l.self (task_of l.self l.next));
  some : (whole : Whole) × (n : ℕ) × Goes (map function_tree l.functions) l.self l.next whole n;
}

abbrev pub decreases-loop-next : goal.decreases-loop-next
decreases-loop-next l = left_of (map function_tree l.functions) l.self (task_of l.self l.next)
