-- The table of instructions: the word and the operands of each, from which listings and images are made. What each
-- does stands in Machine.
-- Source: this project's own.
use Rattle.std.specs.Prelude.{ℕ, List, [], ◌∷◌, codes}
use Rattle.um_machine.specs.declared.op.Op.{Op}
use Rattle.um_machine.specs.declared.op.Op.TheVariants.{PushNum, PushBool, Load, Add, Sub, Mul, Div, Neg, Not, Lt, Le}
use Rattle.um_machine.specs.declared.op.Op.TheVariants.{Eq, Jump, JumpIfNot, MakeList, Cons, Split, MakeRec, Field}
use Rattle.um_machine.specs.declared.op.Op.TheVariants.{Slide, Call, Ret, Pow}
use Rattle.um_machine.specs.declared.table.Operand.{Operand}
use Rattle.um_machine.specs.declared.table.Operand.TheVariants as operand

abbrev pub op_word : Op → List ℕ
op_word (PushNum c) = codes "num"
op_word (PushBool b) = codes "bool"
op_word (Load k) = codes "load"
op_word Add = codes "add"
op_word Sub = codes "sub"
op_word Mul = codes "mul"
op_word Div = codes "div"
op_word Neg = codes "neg"
op_word Not = codes "not"
op_word Lt = codes "lt"
op_word Le = codes "le"
op_word Eq = codes "eq"
op_word (Jump t) = codes "jump"
op_word (JumpIfNot t) = codes "jumpifnot"
op_word (MakeList n) = codes "list"
op_word Cons = codes "cons"
op_word (Split t) = codes "split"
op_word (MakeRec r n) = codes "rec"
op_word (Field k) = codes "field"
op_word (Slide k) = codes "slide"
op_word (Call f) = codes "call"
op_word Ret = codes "ret"
op_word (Pow k) = codes "pown"

abbrev pub op_operands : Op → List Operand
op_operands (PushNum c) = operand.Num c ∷ []
op_operands (PushBool b) = operand.Bool b ∷ []
op_operands (Load k) = operand.Count k ∷ []
op_operands Add = []
op_operands Sub = []
op_operands Mul = []
op_operands Div = []
op_operands Neg = []
op_operands Not = []
op_operands Lt = []
op_operands Le = []
op_operands Eq = []
op_operands (Jump t) = operand.Count t ∷ []
op_operands (JumpIfNot t) = operand.Count t ∷ []
op_operands (MakeList n) = operand.Count n ∷ []
op_operands Cons = []
op_operands (Split t) = operand.Count t ∷ []
op_operands (MakeRec r n) = operand.Record r ∷ operand.Count n ∷ []
op_operands (Field k) = operand.Count k ∷ []
op_operands (Slide k) = operand.Count k ∷ []
op_operands (Call f) = operand.Function f ∷ []
op_operands Ret = []
op_operands (Pow k) = operand.Power k ∷ []
