-- Mirrors the code: nodes of two parts.
use Rattle.std.specs.Prelude.{ℕ}
use Rattle.um_tree.specs.ExprTree.{ExprTree, arith, compare, both, either, cons}
use Rattle.um_tree.specs.RawTree.{ExprSyntax, arith_syntax, compare_syntax, and_syntax, or_syntax, cons_syntax}
use Rattle.um_names.specs.declared.joint.Joint.{Joint}
use Rattle.um_names.specs.declared.joint.Joint.TheVariants.{Arith, Compare, And, Or, Cons}

abbrev pub joint_syntax : Joint → ℕ → ExprSyntax → ExprSyntax → ExprSyntax
joint_syntax (Arith op) at a b = arith_syntax at op a b
joint_syntax (Compare sign) at a b = compare_syntax at sign a b
joint_syntax And at a b = and_syntax at a b
joint_syntax Or at a b = or_syntax at a b
joint_syntax Cons at a b = cons_syntax at a b

abbrev pub joint_tree : Joint → ℕ → ExprTree → ExprTree → ExprTree
joint_tree (Arith op) at a b = arith at op a b
joint_tree (Compare sign) at a b = compare at sign a b
joint_tree And at a b = both at a b
joint_tree Or at a b = either at a b
joint_tree Cons at a b = cons at a b
