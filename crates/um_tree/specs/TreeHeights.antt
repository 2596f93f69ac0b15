-- Heights and numbers of nodes of resolved trees, in which brackets leave no node.
-- Source: this project's own limits.
use Rattle.std.specs.Prelude.{ℕ, ◌+◌, max}
use Rattle.um_tree.specs.TypeTree.{TypeTree, bool_type, num_type, list_type, record_type, NoteTree, bool_note}
use Rattle.um_tree.specs.TypeTree.{num_note, list_note, record_note}
use Rattle.um_tree.specs.ExprTree.{ExprTree, ExprTrees, truth, number, local, call, negate, not_expr, pown, arith}
use Rattle.um_tree.specs.ExprTree.{compare, both, either, if, bind, split, nil, list_expr, cons, record_expr, field}
use Rattle.um_tree.specs.ExprTree.{none, more}

abbrev pub type_tree_height : TypeTree → ℕ
type_tree_height bool_type = 1
type_tree_height (num_type u) = 1
type_tree_height (list_type t) = type_tree_height t + 1
type_tree_height (record_type r us) = 1

abbrev pub note_tree_height : NoteTree → ℕ
note_tree_height bool_note = 1
note_tree_height (num_note n) = 1
note_tree_height (list_note n) = note_tree_height n + 1
note_tree_height (record_note r ns) = 1

abbrev mutual
  pub tree_height : ExprTree → ℕ
  tree_height (truth at b) = 1
  tree_height (number at c n) = 1
  tree_height (local at k) = 1
  tree_height (call at j es) = tallest_tree es + 1
  tree_height (negate at a) = tree_height a + 1
  tree_height (not_expr at a) = tree_height a + 1
  tree_height (pown at a k) = tree_height a + 1
  tree_height (arith at op a b) = max (tree_height a) (tree_height b) + 1
  tree_height (compare at sign a b) = max (tree_height a) (tree_height b) + 1
  tree_height (both at a b) = max (tree_height a) (tree_height b) + 1
  tree_height (either at a b) = max (tree_height a) (tree_height b) + 1
  tree_height (if at c a b) = max (tree_height c) (max (tree_height a) (tree_height b)) + 1
  tree_height (bind at a b) = max (tree_height a) (tree_height b) + 1
  tree_height (split at l a b) = max (tree_height l) (max (tree_height a) (tree_height b)) + 1
  tree_height (nil at n) = 3
  tree_height (list_expr at es) = tallest_tree es + 1
  tree_height (cons at a b) = max (tree_height a) (tree_height b) + 1
  tree_height (record_expr at r es) = tallest_tree es + 1
  tree_height (field at r k a) = tree_height a + 1

  pub tallest_tree : ExprTrees → ℕ
  tallest_tree none = 0
  tallest_tree (more e es) = max (tree_height e) (tallest_tree es)

abbrev mutual
  pub tree_nodes : ExprTree → ℕ
  tree_nodes (truth at b) = 1
  tree_nodes (number at c n) = 1
  tree_nodes (local at k) = 1
  tree_nodes (call at j es) = all_tree_nodes es + 1
  tree_nodes (negate at a) = tree_nodes a + 1
  tree_nodes (not_expr at a) = tree_nodes a + 1
  tree_nodes (pown at a k) = tree_nodes a + 1
  tree_nodes (arith at op a b) = tree_nodes a + tree_nodes b + 1
  tree_nodes (compare at sign a b) = tree_nodes a + tree_nodes b + 1
  tree_nodes (both at a b) = tree_nodes a + tree_nodes b + 1
  tree_nodes (either at a b) = tree_nodes a + tree_nodes b + 1
  tree_nodes (if at c a b) = tree_nodes c + tree_nodes a + tree_nodes b + 1
  tree_nodes (bind at a b) = tree_nodes a + tree_nodes b + 1
  tree_nodes (split at l a b) = tree_nodes l + tree_nodes a + tree_nodes b + 1
  tree_nodes (nil at n) = 1
  tree_nodes (list_expr at es) = all_tree_nodes es + 1
  tree_nodes (cons at a b) = tree_nodes a + tree_nodes b + 1
  tree_nodes (record_expr at r es) = all_tree_nodes es + 1
  tree_nodes (field at r k a) = tree_nodes a + 1

  pub all_tree_nodes : ExprTrees → ℕ
  all_tree_nodes none = 0
  all_tree_nodes (more e es) = tree_nodes e + all_tree_nodes es
