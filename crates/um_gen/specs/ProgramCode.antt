-- The code of a program: its functions in order, each its body and then `ret`.
-- Source: compiling expressions for a stack machine, as in J. McCarthy and J. Painter, Correctness of a compiler for
-- arithmetic expressions, 1967. The instructions are this project's own.
-- Addresses count over the whole program from 0. A variable has a place in its function's frame: a parameter the one of
-- its number, and a local variable the one at which its value was pushed.
use Rattle.std.specs.Prelude.{ℕ, ◌+◌, List, [], ◌∷◌, ◌++◌, length, get_or, false, true}
use Rattle.std.specs.List.{range_with_len}
use Rattle.um_tree.specs.declared.expression.Arith.{Arith}
use Rattle.um_tree.specs.declared.expression.Arith.TheVariants as arith
use Rattle.um_tree.specs.declared.expression.Sign.{Sign}
use Rattle.um_tree.specs.declared.expression.Sign.TheVariants as sign
use Rattle.um_tree.specs.ExprTree.{ExprTree, ExprTrees, truth, number, local, call, negate, not_expr, pown}
use Rattle.um_tree.specs.ExprTree.{arith as arith_tree, compare, both, either, if, bind, split, nil, list_expr, cons}
use Rattle.um_tree.specs.ExprTree.{record_expr, field, none, more}
use Rattle.um_tree.specs.ProgramTree.{FunctionTree}
use Rattle.um_tree.specs.Formed.{count}
use Rattle.um_machine.specs.declared.op.Op.{Op}
use Rattle.um_machine.specs.declared.op.Op.TheVariants.{PushNum, PushBool, Load, Add, Sub, Mul, Div, Neg, Not, Lt, Le}
use Rattle.um_machine.specs.declared.op.Op.TheVariants.{Eq, Jump, JumpIfNot, MakeList, Cons, Split, MakeRec, Field}
use Rattle.um_machine.specs.declared.op.Op.TheVariants.{Slide, Call, Ret, Pow}
use Rattle.um_machine.specs.declared.code.Entry.{Entry}
use Rattle.um_machine.specs.declared.code.Code.{Code}

abbrev pub arith_op : Arith → Op
arith_op arith.Add = Add
arith_op arith.Sub = Sub
arith_op arith.Mul = Mul
arith_op arith.Div = Div

abbrev pub sign_ops : Sign → List Op
sign_ops sign.Lt = Lt ∷ []
sign_ops sign.Le = Le ∷ []
sign_ops sign.Eq = Eq ∷ []
sign_ops sign.Gt = Le ∷ Not ∷ []
sign_ops sign.Ge = Lt ∷ Not ∷ []
sign_ops sign.Ne = Eq ∷ Not ∷ []

-- how many instructions an expression has
abbrev mutual
  pub expr_size : ExprTree → ℕ
  expr_size (truth at b) = 1
  expr_size (number at c n) = 1
  expr_size (local at k) = 1
  expr_size (call at f es) = all_size es + 1
  expr_size (negate at x) = expr_size x + 1
  expr_size (not_expr at x) = expr_size x + 1
  expr_size (pown at x k) = expr_size x + 1
  expr_size (arith_tree at op x y) = expr_size x + expr_size y + 1
  expr_size (compare at s x y) = expr_size x + expr_size y + length (sign_ops s)
  expr_size (both at x y) = expr_size x + 1 + expr_size y + 2
  expr_size (either at x y) = expr_size x + 3 + expr_size y
  expr_size (if at c x y) = expr_size c + 1 + expr_size x + 1 + expr_size y
  expr_size (bind at x y) = expr_size x + expr_size y + 1
  expr_size (split at l x y) = expr_size l + 1 + expr_size y + 2 + expr_size x
  expr_size (nil at n) = 1
  expr_size (list_expr at es) = all_size es + 1
  expr_size (cons at x y) = expr_size x + expr_size y + 1
  expr_size (record_expr at r es) = all_size es + 1
  expr_size (field at r k x) = expr_size x + 1

  pub all_size : ExprTrees → ℕ
  all_size none = 0
  all_size (more e es) = expr_size e + all_size es

-- The code of an expression, where the variables stand at these places, d values stand in the frame before, and the
-- first instruction has address a.
abbrev mutual
  pub expr_code : ExprTree → List ℕ → ℕ → ℕ → List Op
  expr_code (truth at b) ps d a = PushBool b ∷ []
  expr_code (number at c n) ps d a = PushNum c ∷ []
  expr_code (local at k) ps d a = Load (get_or ps k 0) ∷ []
  expr_code (call at f es) ps d a = all_code es ps d a ++ Call f ∷ []
  expr_code (negate at x) ps d a = expr_code x ps d a ++ Neg ∷ []
  expr_code (not_expr at x) ps d a = expr_code x ps d a ++ Not ∷ []
  expr_code (pown at x k) ps d a = expr_code x ps d a ++ Pow k ∷ []
  expr_code (arith_tree at op x y) ps d a =
      expr_code x ps d a ++ (expr_code y ps (d + 1) (a + expr_size x) ++ arith_op op ∷ [])
  expr_code (compare at s x y) ps d a =
      expr_code x ps d a ++ (expr_code y ps (d + 1) (a + expr_size x) ++ sign_ops s)
  -- the second part, or otherwise false
  expr_code (both at x y) ps d a =
      let second = a + expr_size x + 1 in
      let other = second + expr_size y + 1 in
      expr_code x ps d a ++ (JumpIfNot other ∷ (expr_code y ps d second ++ Jump (other + 1) ∷ PushBool false ∷ []))
  -- true, or otherwise the second part
  expr_code (either at x y) ps d a =
      let second = a + expr_size x + 3 in
      expr_code x ps d a ++ (JumpIfNot second ∷ PushBool true ∷ Jump (second + expr_size y) ∷ expr_code y ps d second)
  expr_code (if at c x y) ps d a =
      let first = a + expr_size c + 1 in
      let second = first + expr_size x + 1 in
      expr_code c ps d a
      ++ (JumpIfNot second ∷ (expr_code x ps d first ++ Jump (second + expr_size y) ∷ expr_code y ps d second))
  expr_code (bind at x y) ps d a =
      expr_code x ps d a ++ (expr_code y (ps ++ d ∷ []) (d + 1) (a + expr_size x) ++ Slide 1 ∷ [])
  -- the arm of a list with items, and after it that of the empty list
  expr_code (split at l x y) ps d a =
      let full = a + expr_size l + 1 in
      let empty = full + expr_size y + 2 in
      expr_code l ps d a
      ++ (Split empty ∷ (expr_code y (ps ++ d ∷ (d + 1) ∷ []) (d + 2) full
      ++ Slide 2 ∷ Jump (empty + expr_size x) ∷ expr_code x ps d empty))
  expr_code (nil at n) ps d a = MakeList 0 ∷ []
  expr_code (list_expr at es) ps d a = all_code es ps d a ++ MakeList (count es) ∷ []
  expr_code (cons at x y) ps d a = expr_code x ps d a ++ (expr_code y ps (d + 1) (a + expr_size x) ++ Cons ∷ [])
  expr_code (record_expr at r es) ps d a = all_code es ps d a ++ MakeRec r (count es) ∷ []
  expr_code (field at r k x) ps d a = expr_code x ps d a ++ Field k ∷ []

  -- expression by expression
  pub all_code : ExprTrees → List ℕ → ℕ → ℕ → List Op
  all_code none ps d a = []
  all_code (more e es) ps d a = expr_code e ps d a ++ all_code es ps (d + 1) (a + expr_size e)

-- the places of a function's parameters
abbrev pub parameter_places : FunctionTree → List ℕ
parameter_places f = range_with_len 0 (length f.params)

abbrev pub function_code : FunctionTree → ℕ → List Op
function_code f a = expr_code f.body (parameter_places f) (length f.params) a ++ Ret ∷ []

abbrev pub function_entry : FunctionTree → ℕ → Entry
function_entry f a = record { start = a; end = a + expr_size f.body + 1; params = length f.params }

-- the functions' instructions, and their entries, from an address on
abbrev pub functions_code : List FunctionTree → ℕ → List Op
functions_code [] a = []
functions_code (f ∷ fs) a = function_code f a ++ functions_code fs (a + expr_size f.body + 1)

abbrev pub functions_entries : List FunctionTree → ℕ → List Entry
functions_entries [] a = []
functions_entries (f ∷ fs) a = function_entry f a ∷ functions_entries fs (a + expr_size f.body + 1)

unfoldable pub program_code : List FunctionTree → Code
program_code fs = record { ops = functions_code fs 0; entries = functions_entries fs 0 }
