-- Raw trees without their places: each place is 0.
-- Source: this project's own.
use Rattle.std.specs.Prelude.{Option, Some, None, List, map}
use Rattle.um_tree.specs.RawTree.{UnitSyntax, UnitSyntaxes, one_syntax, measure_syntax, variable_syntax, power_syntax}
use Rattle.um_tree.specs.RawTree.{side_syntax, times_syntax, over_syntax, inverse_syntax, bracket_syntax, no_units}
use Rattle.um_tree.specs.RawTree.{more_units, NoteSyntax, hole_syntax, unit_note_syntax, TypeSyntax, bool_syntax}
use Rattle.um_tree.specs.RawTree.{num_syntax, record_syntax, list_type_syntax, bracket_type_syntax, BinderSyntax}
use Rattle.um_tree.specs.RawTree.{ExprSyntax, ExprSyntaxes, FieldSyntaxes, truth_syntax, number_syntax, name_syntax}
use Rattle.um_tree.specs.RawTree.{call_syntax, negate_syntax, not_syntax, pown_syntax, arith_syntax, compare_syntax}
use Rattle.um_tree.specs.RawTree.{and_syntax, or_syntax, if_syntax, let_syntax, match_syntax, nil_syntax, list_syntax}
use Rattle.um_tree.specs.RawTree.{cons_syntax, fields_syntax, field_syntax, bracket_expr_syntax, no_exprs, more_exprs}
use Rattle.um_tree.specs.RawTree.{no_fields, more_fields, VarSyntax, FieldDeclSyntax, ParamSyntax, FunctionSyntax}
use Rattle.um_tree.specs.RawTree.{DeclSyntax, base_syntax, short_syntax, record_decl_syntax, function_syntax}

abbrev mutual
  pub bare_unit : UnitSyntax → UnitSyntax
  bare_unit (one_syntax at) = one_syntax 0
  bare_unit (measure_syntax at x) = measure_syntax 0 x
  bare_unit (variable_syntax at x) = variable_syntax 0 x
  bare_unit (power_syntax u k) = power_syntax (bare_unit u) k
  bare_unit (side_syntax us) = side_syntax (bare_units us)
  bare_unit (times_syntax u v) = times_syntax (bare_unit u) (bare_unit v)
  bare_unit (over_syntax u v) = over_syntax (bare_unit u) (bare_unit v)
  bare_unit (inverse_syntax at u) = inverse_syntax 0 (bare_unit u)
  bare_unit (bracket_syntax at u) = bracket_syntax 0 (bare_unit u)

  pub bare_units : UnitSyntaxes → UnitSyntaxes
  bare_units no_units = no_units
  bare_units (more_units u us) = more_units (bare_unit u) (bare_units us)

abbrev pub bare_note : NoteSyntax → NoteSyntax
bare_note (hole_syntax at) = hole_syntax 0
bare_note (unit_note_syntax at u) = unit_note_syntax 0 (bare_unit u)

abbrev pub bare_written : Option NoteSyntax → Option NoteSyntax
bare_written None = None
bare_written (Some n) = Some (bare_note n)

abbrev pub bare_type : TypeSyntax → TypeSyntax
bare_type bool_syntax = bool_syntax
bare_type (num_syntax n) = num_syntax (bare_written n)
bare_type (record_syntax at x ns) = record_syntax 0 x (map bare_note ns)
bare_type (list_type_syntax t) = list_type_syntax (bare_type t)
bare_type (bracket_type_syntax t) = bracket_type_syntax (bare_type t)

abbrev pub bare_binder : BinderSyntax → BinderSyntax
bare_binder x = record { at = 0; name = x.name }

abbrev mutual
  pub bare_expr : ExprSyntax → ExprSyntax
  bare_expr (truth_syntax at b) = truth_syntax 0 b
  bare_expr (number_syntax at c n) = number_syntax 0 c (bare_written n)
  bare_expr (name_syntax at x) = name_syntax 0 x
  bare_expr (call_syntax at f es) = call_syntax 0 f (bare_exprs es)
  bare_expr (negate_syntax at a) = negate_syntax 0 (bare_expr a)
  bare_expr (not_syntax at a) = not_syntax 0 (bare_expr a)
  bare_expr (pown_syntax at a k) = pown_syntax 0 (bare_expr a) k
  bare_expr (arith_syntax at op a b) = arith_syntax 0 op (bare_expr a) (bare_expr b)
  bare_expr (compare_syntax at sign a b) = compare_syntax 0 sign (bare_expr a) (bare_expr b)
  bare_expr (and_syntax at a b) = and_syntax 0 (bare_expr a) (bare_expr b)
  bare_expr (or_syntax at a b) = or_syntax 0 (bare_expr a) (bare_expr b)
  bare_expr (if_syntax at c a b) = if_syntax 0 (bare_expr c) (bare_expr a) (bare_expr b)
  bare_expr (let_syntax at x a b) = let_syntax 0 (bare_binder x) (bare_expr a) (bare_expr b)
  bare_expr (match_syntax at l a x y b) =
      match_syntax 0 (bare_expr l) (bare_expr a) (bare_binder x) (bare_binder y) (bare_expr b)
  bare_expr (nil_syntax at t) = nil_syntax 0 (bare_type t)
  bare_expr (list_syntax at es) = list_syntax 0 (bare_exprs es)
  bare_expr (cons_syntax at a b) = cons_syntax 0 (bare_expr a) (bare_expr b)
  bare_expr (fields_syntax at fs) = fields_syntax 0 (bare_fields fs)
  bare_expr (field_syntax at place x a) = field_syntax 0 0 x (bare_expr a)
  bare_expr (bracket_expr_syntax at a) = bracket_expr_syntax 0 (bare_expr a)

  pub bare_exprs : ExprSyntaxes → ExprSyntaxes
  bare_exprs no_exprs = no_exprs
  bare_exprs (more_exprs e es) = more_exprs (bare_expr e) (bare_exprs es)

  pub bare_fields : FieldSyntaxes → FieldSyntaxes
  bare_fields no_fields = no_fields
  bare_fields (more_fields at x e fs) = more_fields 0 x (bare_expr e) (bare_fields fs)

abbrev pub bare_var : VarSyntax → VarSyntax
bare_var v = record { at = 0; name = v.name }

abbrev pub bare_field_decl : FieldDeclSyntax → FieldDeclSyntax
bare_field_decl f = record { at = 0; name = f.name; type = bare_type f.type }

abbrev pub bare_param : ParamSyntax → ParamSyntax
bare_param p = record { binder = bare_binder p.binder; type = bare_type p.type }

abbrev pub bare_result : Option TypeSyntax → Option TypeSyntax
bare_result None = None
bare_result (Some t) = Some (bare_type t)

abbrev pub bare_function : FunctionSyntax → FunctionSyntax
bare_function f = record {
  at = 0;
  name = f.name;
  recursive = f.recursive;
  units = map bare_var f.units;
  params = map bare_param f.params;
  result = bare_result f.result;
  body = bare_expr f.body;
}

abbrev pub bare_decl : DeclSyntax → DeclSyntax
bare_decl (base_syntax at x) = base_syntax 0 x
bare_decl (short_syntax at x u) = short_syntax 0 x (bare_unit u)
bare_decl (record_decl_syntax at x vs fs) = record_decl_syntax 0 x (map bare_var vs) (map bare_field_decl fs)
bare_decl (function_syntax f) = function_syntax (bare_function f)

-- a program without its places
abbrev pub bare_program : List DeclSyntax → List DeclSyntax
bare_program ds = map bare_decl ds
