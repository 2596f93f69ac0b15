-- Heights and numbers of nodes.
-- Source: this project's own limits.
use Rattle.std.specs.Prelude.{ℕ, ◌+◌, max}
use Rattle.um_tree.specs.RawTree.{UnitSyntax, UnitSyntaxes, one_syntax, measure_syntax, variable_syntax, power_syntax}
use Rattle.um_tree.specs.RawTree.{side_syntax, times_syntax, over_syntax, inverse_syntax, bracket_syntax, no_units}
use Rattle.um_tree.specs.RawTree.{more_units, TypeSyntax, bool_syntax, num_syntax, record_syntax, list_type_syntax}
use Rattle.um_tree.specs.RawTree.{bracket_type_syntax, ExprSyntax, ExprSyntaxes, FieldSyntaxes, truth_syntax}
use Rattle.um_tree.specs.RawTree.{number_syntax, name_syntax, call_syntax, negate_syntax, not_syntax, pown_syntax}
use Rattle.um_tree.specs.RawTree.{arith_syntax}
use Rattle.um_tree.specs.RawTree.{compare_syntax, and_syntax, or_syntax, if_syntax, let_syntax, match_syntax}
use Rattle.um_tree.specs.RawTree.{nil_syntax, list_syntax, cons_syntax, fields_syntax, field_syntax}
use Rattle.um_tree.specs.RawTree.{bracket_expr_syntax, no_exprs, more_exprs, no_fields, more_fields}

-- the greatest height of a unit text, a type text, an expression, a type and a shape
abbrev pub greatest_height : ℕ
greatest_height = 400

-- the height of a unit text
abbrev mutual
  pub unit_height : UnitSyntax → ℕ
  unit_height (one_syntax at) = 1
  unit_height (measure_syntax at x) = 1
  unit_height (variable_syntax at x) = 1
  unit_height (power_syntax u k) = unit_height u + 1
  unit_height (side_syntax us) = tallest_unit us + 1
  unit_height (times_syntax u v) = max (unit_height u) (unit_height v) + 1
  unit_height (over_syntax u v) = max (unit_height u) (unit_height v) + 1
  unit_height (inverse_syntax at u) = unit_height u + 1
  unit_height (bracket_syntax at u) = unit_height u + 1

  pub tallest_unit : UnitSyntaxes → ℕ
  tallest_unit no_units = 0
  tallest_unit (more_units u us) = max (unit_height u) (tallest_unit us)

-- the height of a type text; unit texts in it are counted by themselves
abbrev pub type_height : TypeSyntax → ℕ
type_height bool_syntax = 1
type_height (num_syntax n) = 1
type_height (record_syntax at x ns) = 1
type_height (list_type_syntax t) = type_height t + 1
type_height (bracket_type_syntax t) = type_height t + 1

-- the height of an expression; unit texts and type texts in it are counted by themselves
abbrev mutual
  pub expr_height : ExprSyntax → ℕ
  expr_height (truth_syntax at b) = 1
  expr_height (number_syntax at c n) = 1
  expr_height (name_syntax at x) = 1
  expr_height (call_syntax at x es) = tallest_expr es + 1
  expr_height (negate_syntax at a) = expr_height a + 1
  expr_height (not_syntax at a) = expr_height a + 1
  expr_height (pown_syntax at a k) = expr_height a + 1
  expr_height (arith_syntax at op a b) = max (expr_height a) (expr_height b) + 1
  expr_height (compare_syntax at sign a b) = max (expr_height a) (expr_height b) + 1
  expr_height (and_syntax at a b) = max (expr_height a) (expr_height b) + 1
  expr_height (or_syntax at a b) = max (expr_height a) (expr_height b) + 1
  expr_height (if_syntax at c a b) = max (expr_height c) (max (expr_height a) (expr_height b)) + 1
  expr_height (let_syntax at x a b) = max (expr_height a) (expr_height b) + 1
  expr_height (match_syntax at l a x y b) = max (expr_height l) (max (expr_height a) (expr_height b)) + 1
  -- as brackets round a list of one item
  expr_height (nil_syntax at t) = 3
  expr_height (list_syntax at es) = tallest_expr es + 1
  expr_height (cons_syntax at a b) = max (expr_height a) (expr_height b) + 1
  expr_height (fields_syntax at fs) = tallest_field fs + 1
  expr_height (field_syntax at place x a) = expr_height a + 1
  expr_height (bracket_expr_syntax at a) = expr_height a + 1

  pub tallest_expr : ExprSyntaxes → ℕ
  tallest_expr no_exprs = 0
  tallest_expr (more_exprs e es) = max (expr_height e) (tallest_expr es)

  pub tallest_field : FieldSyntaxes → ℕ
  tallest_field no_fields = 0
  tallest_field (more_fields at x e fs) = max (expr_height e) (tallest_field fs)

-- the number of nodes of an expression, brackets included
abbrev mutual
  pub expr_nodes : ExprSyntax → ℕ
  expr_nodes (truth_syntax at b) = 1
  expr_nodes (number_syntax at c n) = 1
  expr_nodes (name_syntax at x) = 1
  expr_nodes (call_syntax at x es) = all_expr_nodes es + 1
  expr_nodes (negate_syntax at a) = expr_nodes a + 1
  expr_nodes (not_syntax at a) = expr_nodes a + 1
  expr_nodes (pown_syntax at a k) = expr_nodes a + 1
  expr_nodes (arith_syntax at op a b) = expr_nodes a + expr_nodes b + 1
  expr_nodes (compare_syntax at sign a b) = expr_nodes a + expr_nodes b + 1
  expr_nodes (and_syntax at a b) = expr_nodes a + expr_nodes b + 1
  expr_nodes (or_syntax at a b) = expr_nodes a + expr_nodes b + 1
  expr_nodes (if_syntax at c a b) = expr_nodes c + expr_nodes a + expr_nodes b + 1
  expr_nodes (let_syntax at x a b) = expr_nodes a + expr_nodes b + 1
  expr_nodes (match_syntax at l a x y b) = expr_nodes l + expr_nodes a + expr_nodes b + 1
  expr_nodes (nil_syntax at t) = 1
  expr_nodes (list_syntax at es) = all_expr_nodes es + 1
  expr_nodes (cons_syntax at a b) = expr_nodes a + expr_nodes b + 1
  expr_nodes (fields_syntax at fs) = all_field_nodes fs + 1
  expr_nodes (field_syntax at place x a) = expr_nodes a + 1
  expr_nodes (bracket_expr_syntax at a) = expr_nodes a + 1

  pub all_expr_nodes : ExprSyntaxes → ℕ
  all_expr_nodes no_exprs = 0
  all_expr_nodes (more_exprs e es) = expr_nodes e + all_expr_nodes es

  pub all_field_nodes : FieldSyntaxes → ℕ
  all_field_nodes no_fields = 0
  all_field_nodes (more_fields at x e fs) = expr_nodes e + all_field_nodes fs
