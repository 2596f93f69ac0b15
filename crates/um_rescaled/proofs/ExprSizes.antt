-- The height of an expression, that of the notes in it, and its number of nodes, together.
use Rattle.std.specs.Prelude.{ℕ, ◌+◌, max}
use Rattle.um_tree.specs.RawTree.{ExprSyntax, ExprSyntaxes, FieldSyntaxes}
use Rattle.um_tree.specs.Heights.{expr_height, tallest_expr, tallest_field, expr_nodes, all_expr_nodes, all_field_nodes}
use Rattle.um_operands.specs.ExprHeights.{notes_in, notes_in_all, notes_in_fields}

pub record Size : Type 0 where
  pub height : ℕ
  pub notes : ℕ
  pub nodes : ℕ

abbrev pub size : ExprSyntax → Size
size e = record { height = expr_height e; notes = notes_in e; nodes = expr_nodes e }

abbrev pub list_size : ExprSyntaxes → Size
list_size es = record { height = tallest_expr es; notes = notes_in_all es; nodes = all_expr_nodes es }

abbrev pub fields_size : FieldSyntaxes → Size
fields_size fs = record { height = tallest_field fs; notes = notes_in_fields fs; nodes = all_field_nodes fs }

-- of parts side by side, and of a node with one, two or three parts
abbrev pub beside : Size → Size → Size
beside s t = record { height = max s.height t.height; notes = max s.notes t.notes; nodes = s.nodes + t.nodes }

abbrev pub one_more : Size → Size
one_more s = record { height = s.height + 1; notes = s.notes; nodes = s.nodes + 1 }

abbrev pub over_two : Size → Size → Size
over_two s t = one_more (beside s t)

abbrev pub over_three : Size → Size → Size → Size
over_three r s t = record {
  height = max r.height (max s.height t.height) + 1;
  notes = max r.notes (max s.notes t.notes);
  nodes = r.nodes + s.nodes + t.nodes + 1;
}
