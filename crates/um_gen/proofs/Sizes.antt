-- How many instructions the functions of a formed program have at most.
use Rattle.std.proofs.Common.{◌*◌, ◌≤◌, ◌<◌, length, arith}
use Rattle.um_tree.specs.declared.expression.Sign.{Sign}
use Rattle.um_tree.specs.declared.expression.Sign.TheVariants as sign
use Rattle.um_tree.specs.ExprTree.{ExprTree, ExprTrees, truth, number, local, call, negate, not_expr, pown, arith as arith_tree, compare, both, either, if, bind, split, nil, list_expr, cons, record_expr, field, none, more}
use Rattle.um_tree.specs.TreeHeights.{tree_nodes, all_tree_nodes}
use Rattle.um_tree.specs.Formed.{count}
use Rattle.um_gen.specs.ProgramCode.{sign_ops, expr_size, all_size}

few_for_sign : (s : Sign) → length (sign_ops s) ≤ 3
few_for_sign sign.Lt = omega arith
few_for_sign sign.Le = omega arith
few_for_sign sign.Eq = omega arith
few_for_sign sign.Gt = omega arith
few_for_sign sign.Ge = omega arith
few_for_sign sign.Ne = omega arith

some_for_sign : (s : Sign) → 0 < length (sign_ops s)
some_for_sign sign.Lt = omega arith
some_for_sign sign.Le = omega arith
some_for_sign sign.Eq = omega arith
some_for_sign sign.Gt = omega arith
some_for_sign sign.Ge = omega arith
some_for_sign sign.Ne = omega arith

-- at most three for a node
mutual
  pub few : (e : ExprTree) → expr_size e ≤ 3 * tree_nodes e
  few (truth at b) = omega arith
  few (number at c n) = omega arith
  few (local at k) = omega arith
  few (call at f es) = omega (arith, few_each es)
  few (negate at x) = omega (arith, few x)
  few (not_expr at x) = omega (arith, few x)
  few (pown at x k) = omega (arith, few x)
  few (arith_tree at op x y) = omega (arith, few x, few y)
  few (compare at s x y) = omega (arith, few x, few y, few_for_sign s)
  few (both at x y) = omega (arith, few x, few y)
  few (either at x y) = omega (arith, few x, few y)
  few (if at c x y) = omega (arith, few c, few x, few y)
  few (bind at x y) = omega (arith, few x, few y)
  few (split at l x y) = omega (arith, few l, few x, few y)
  few (nil at n) = omega arith
  few (list_expr at es) = omega (arith, few_each es)
  few (cons at x y) = omega (arith, few x, few y)
  few (record_expr at r es) = omega (arith, few_each es)
  few (field at r k x) = omega (arith, few x)

  few_each : (es : ExprTrees) → all_size es ≤ 3 * all_tree_nodes es
  few_each none = omega arith
  few_each (more e es) = omega (arith, few e, few_each es)

-- at least one for an expression
pub some : (e : ExprTree) → 0 < expr_size e
some (truth at b) = omega arith
some (number at c n) = omega arith
some (local at k) = omega arith
some (call at f es) = omega arith
some (negate at x) = omega arith
some (not_expr at x) = omega arith
some (pown at x k) = omega arith
some (arith_tree at op x y) = omega arith
some (compare at s x y) = omega (arith, some_for_sign s)
some (both at x y) = omega arith
some (either at x y) = omega arith
some (if at c x y) = omega arith
some (bind at x y) = omega arith
some (split at l x y) = omega arith
some (nil at n) = omega arith
some (list_expr at es) = omega arith
some (cons at x y) = omega arith
some (record_expr at r es) = omega arith
some (field at r k x) = omega arith

pub some_each : (es : ExprTrees) → count es ≤ all_size es
some_each none = omega arith
some_each (more e es) = omega (arith, some e, some_each es)
