-- Code whose jumps go forward. Each of its runs ends: only a call goes back, and it takes one from the budget.
-- Source: this project's own.
use Rattle.std.specs.Prelude.{◌≡◌, ℕ, ◌<◌, Some, slice_get}
use Rattle.um_machine.specs.declared.op.Op.{Op}
use Rattle.um_machine.specs.declared.op.Op.TheVariants.{PushNum, PushBool, Load, Add, Sub, Mul, Div, Neg, Not, Lt, Le}
use Rattle.um_machine.specs.declared.op.Op.TheVariants.{Eq, Jump, JumpIfNot, MakeList, Cons, Split, MakeRec, Field}
use Rattle.um_machine.specs.declared.op.Op.TheVariants.{Slide, Call, Ret, Pow}
use Rattle.um_machine.specs.declared.code.Code.{Code}

-- a jump of the instruction at this address goes forward
abbrev pub GoesForward : ℕ → Op → Type 0
GoesForward a (PushNum c) = Unit {0}
GoesForward a (PushBool b) = Unit {0}
GoesForward a (Load k) = Unit {0}
GoesForward a Add = Unit {0}
GoesForward a Sub = Unit {0}
GoesForward a Mul = Unit {0}
GoesForward a Div = Unit {0}
GoesForward a Neg = Unit {0}
GoesForward a Not = Unit {0}
GoesForward a Lt = Unit {0}
GoesForward a Le = Unit {0}
GoesForward a Eq = Unit {0}
GoesForward a (Jump t) = a < t
GoesForward a (JumpIfNot t) = a < t
GoesForward a (MakeList n) = Unit {0}
GoesForward a Cons = Unit {0}
GoesForward a (Split t) = a < t
GoesForward a (MakeRec r n) = Unit {0}
GoesForward a (Field k) = Unit {0}
GoesForward a (Slide k) = Unit {0}
GoesForward a (Call f) = Unit {0}
GoesForward a Ret = Unit {0}
GoesForward a (Pow k) = Unit {0}

-- at each address
abbrev pub JumpsGoForward : Code → Type 0
JumpsGoForward code = (a : ℕ) (i : Op) → slice_get code.ops a ≡ Some i → GoesForward a i
