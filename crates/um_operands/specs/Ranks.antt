-- How tightly the signs between two operands bind, from `*` and `/` (3) to `||` (8).
-- An atom has rank 0, an application and `not` 1, a sign before its operand 2, and `let`, `if` and `match` 9.
-- Source: the F# specification, Precedence of Symbolic Operators; comparisons aren't chained here.
use Rattle.std.specs.Prelude.{ℕ}
use Rattle.um_tree.specs.declared.expression.Arith.{Arith}
use Rattle.um_tree.specs.declared.expression.Arith.TheVariants as arith
use Rattle.um_tree.specs.RawTree.{ExprSyntax, arith_syntax, compare_syntax, and_syntax, or_syntax, cons_syntax}
use Rattle.um_operands.specs.declared.infix.Infix.{Infix}
use Rattle.um_operands.specs.declared.infix.Infix.TheVariants as between

abbrev pub arith_rank : Arith → ℕ
arith_rank arith.Add = 4
arith_rank arith.Sub = 4
arith_rank arith.Mul = 3
arith_rank arith.Div = 3

abbrev pub infix_rank : Infix → ℕ
infix_rank between.Or = 8
infix_rank between.And = 7
infix_rank (between.Compare sign) = 6
infix_rank between.Cons = 5
infix_rank (between.Arith op) = arith_rank op

-- the greatest rank of the left operand: `::` and comparisons want something tighter there
abbrev pub left_limit : Infix → ℕ
left_limit between.Or = 8
left_limit between.And = 7
left_limit (between.Compare sign) = 5
left_limit between.Cons = 4
left_limit (between.Arith op) = arith_rank op

-- the rank of the right operand lies below this: only `::` has its like there
abbrev pub right_bound : Infix → ℕ
right_bound between.Or = 8
right_bound between.And = 7
right_bound (between.Compare sign) = 6
right_bound between.Cons = 6
right_bound (between.Arith op) = arith_rank op

-- the tree of a sign at its place with both operands
abbrev pub infix_text : ℕ → Infix → ExprSyntax → ExprSyntax → ExprSyntax
infix_text at between.Or a b = or_syntax at a b
infix_text at between.And a b = and_syntax at a b
infix_text at (between.Compare sign) a b = compare_syntax at sign a b
infix_text at between.Cons a b = cons_syntax at a b
infix_text at (between.Arith op) a b = arith_syntax at op a b
