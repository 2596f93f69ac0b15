-- How much is left to do: it falls with each step.
-- Source: this project's own.
use Rattle.std.specs.Prelude.{ℕ, ◌+◌, ◌*◌, List, [], ◌∷◌, map}
use Rattle.um_tree.specs.ExprTree.{ExprTree, ExprTrees, truth, number, local, call, negate, not_expr, pown, arith}
use Rattle.um_tree.specs.ExprTree.{compare, both, either, if, bind, split, nil, list_expr, cons, record_expr, field}
use Rattle.um_tree.specs.ExprTree.{none, more, expr_tree, in_order}
use Rattle.um_tree.specs.ProgramTree.{FunctionTree}
use Rattle.um_eval.specs.Tasks.{Task, Evaluate, Give, Halt, Break}
use Rattle.um_eval.specs.declared.frame.Frame.{Frame}
use Rattle.um_eval.specs.declared.frame.Frame.TheVariants as frame

-- the steps of an expression, its calls left out
abbrev mutual
  pub steps : ExprTree → ℕ
  steps (truth at b) = 1
  steps (number at c n) = 1
  steps (local at k) = 1
  steps (call at j es) = steps_of_each es + 2
  steps (negate at a) = steps a + 2
  steps (not_expr at a) = steps a + 2
  steps (pown at a k) = steps a + 2
  steps (arith at op a b) = steps a + steps b + 3
  steps (compare at sign a b) = steps a + steps b + 3
  steps (both at a b) = steps a + steps b + 3
  steps (either at a b) = steps a + steps b + 3
  steps (if at c a b) = steps c + steps a + steps b + 3
  steps (bind at a b) = steps a + steps b + 3
  steps (split at l a b) = steps l + steps a + steps b + 3
  steps (nil at n) = 1
  steps (list_expr at es) = steps_of_each es + 2
  steps (cons at a b) = steps a + steps b + 3
  steps (record_expr at r es) = steps_of_each es + 2
  steps (field at r k a) = steps a + 2

  pub steps_of_each : ExprTrees → ℕ
  steps_of_each none = 0
  steps_of_each (more e es) = steps e + 1 + steps_of_each es

abbrev pub frame_steps : Frame → ℕ
frame_steps (frame.Operand op) = 1
frame_steps (frame.Left op y) = steps (expr_tree y.now) + 2
frame_steps (frame.Right op x) = 1
frame_steps (frame.LeftOfAnd y) = steps (expr_tree y.now) + 1
frame_steps (frame.LeftOfOr y) = steps (expr_tree y.now) + 1
frame_steps (frame.Test x y) = steps (expr_tree x.now) + steps (expr_tree y.now) + 1
frame_steps (frame.Bound y) = steps (expr_tree y.now) + 2
frame_steps (frame.Matched x y) = steps (expr_tree x.now) + steps (expr_tree y.now) + 2
frame_steps (frame.Inner n) = 1
frame_steps (frame.Item c rest first) = steps_of_each (in_order (map expr_tree rest.now)) + 2
frame_steps (frame.Body base j at) = 1

abbrev pub frames_steps : List Frame → ℕ
frames_steps [] = 0
frames_steps (f ∷ frames) = frame_steps f + frames_steps frames

abbrev pub task_steps : Task → ℕ
task_steps (Evaluate e) = steps (expr_tree e.now)
task_steps (Give w) = 0
task_steps (Halt r at given) = 0
task_steps Break = 0

-- no body of a function has more
abbrev pub most_steps : List FunctionTree → ℕ
most_steps [] = 0
most_steps (f ∷ fs) = steps f.body + most_steps fs

-- with a budget of calls, frames, and this many steps inside them
abbrev pub steps_left : List FunctionTree → ℕ → List Frame → ℕ → ℕ
steps_left fs budget frames inside = budget * most_steps fs + frames_steps frames + inside
