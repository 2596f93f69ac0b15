-- What is to be done next, with what the evaluator keeps beside it.
-- Source: this project's own.
use Rattle.std.specs.Prelude.{ℕ, Option, Some, None}
use Rattle.std.specs.Borrow.{Bor}
use Rattle.um_tree.specs.declared.expression.Expr.{Expr}
use Rattle.um_tree.specs.Meaning.{Stop, trap, budget_end}
use Rattle.um_cells.specs.declared.word.Word.{Word}
use Rattle.um_eval.specs.declared.stop.Operands.{Operands}
use Rattle.um_eval.specs.declared.next.Next.{Next}
use Rattle.um_eval.specs.declared.next.Next.TheVariants as next
use Rattle.um_eval.specs.declared.evaluator.Evaluator.{Evaluator}

pub data Task : Type 0 where
  Evaluate : Bor Expr → Task
  Give : Word → Task
  -- the stop, the place of the node that has no value, and its operands
  Halt : Stop → ℕ → Operands → Task
  -- a shape is wrong
  Break : Task

-- nothing more is to be done for want of memory
abbrev pub task_of : Evaluator → Next → Option Task
task_of m (next.Evaluate e) = Some (Evaluate e)
task_of m next.Give = Some (Give m.value)
task_of m next.Trap = Some (Halt (trap m.trap) m.at m.operands)
task_of m next.BudgetEnd = Some (Halt budget_end m.at m.operands)
task_of m next.Wrong = Some Break
task_of m next.NoMemory = None
