-- What follows on an operation, and on a test.
-- Source: this project's own.
use Rattle.std.specs.Prelude.{ℕ, Bool, true, false, Option, Some, None}
use Rattle.um_frac.specs.declared.number.Frac.{Frac}
use Rattle.um_tree.specs.Meaning.{trap}
use Rattle.um_cells.specs.declared.word.Word.{Word}
use Rattle.um_cells.specs.declared.word.Word.TheVariants as word
use Rattle.um_cells.specs.declared.operations.WordOutcome.{WordOutcome}
use Rattle.um_cells.specs.declared.operations.WordOutcome.TheVariants as outcome
use Rattle.um_eval.specs.declared.frame.Unary.{Unary}
use Rattle.um_eval.specs.declared.frame.Unary.TheVariants as unary
use Rattle.um_eval.specs.declared.frame.Binary.{Binary}
use Rattle.um_eval.specs.declared.frame.Binary.TheVariants as binary
use Rattle.um_eval.specs.declared.stop.Operands.{Operands}
use Rattle.um_eval.specs.declared.stop.Operands.TheVariants as operands
use Rattle.um_eval.specs.declared.next.Next.{Next}
use Rattle.um_eval.specs.declared.next.Next.TheVariants as next
use Rattle.um_eval.specs.Tasks.{Task, Give, Halt, Break}

-- of an operation at this place, with these operands if it traps
abbrev pub settled : WordOutcome → ℕ → Operands → Task
settled (outcome.Value w) at given = Give w
settled (outcome.Trap t) at given = Halt (trap t) at given
settled outcome.Wrong at given = Break

-- the number that a word is, if it is one
abbrev pub number_of : Word → Option Frac
number_of (word.Bool b) = None
number_of (word.Num x) = Some x
number_of word.Nil = None
number_of (word.List n) = None
number_of (word.Rec r n) = None

abbrev pub one_operand : Option Frac → Operands
one_operand None = operands.None
one_operand (Some x) = operands.One x

abbrev pub two_operands : Option Frac → Option Frac → Operands
two_operands None y = operands.None
two_operands (Some x) None = operands.None
two_operands (Some x) (Some y) = operands.Two x y

-- the second or the only operand, and the first of two
abbrev pub given_operands : Option Word → Word → Operands
given_operands None y = one_operand (number_of y)
given_operands (Some x) y = two_operands (number_of x) (number_of y)

-- the places of the operations that can trap
abbrev pub unary_place : Unary → ℕ
unary_place unary.Negate = 0
unary_place unary.Not = 0
unary_place (unary.Power k at) = at
unary_place (unary.Field r k) = 0

abbrev pub binary_place : Binary → ℕ
binary_place (binary.Arith op at) = at
binary_place (binary.Compare sign) = 0
binary_place binary.Cons = 0

abbrev pub either : Option Bool → Next → Next → Next
either (Some true) x y = x
either (Some false) x y = y
either None x y = next.Wrong

abbrev pub task_by : Option Bool → Task → Task → Task
task_by (Some true) x y = x
task_by (Some false) x y = y
task_by None x y = Break
