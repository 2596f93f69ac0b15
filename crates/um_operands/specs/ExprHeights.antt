-- The heights of an expression: its own, and those of the unit texts and type texts in it.
-- Source: this project's own limits.
use Rattle.std.specs.Prelude.{ℕ, max, Option, Some, None}
use Rattle.um_tree.specs.RawTree.{NoteSyntax, ExprSyntax, ExprSyntaxes, FieldSyntaxes, truth_syntax, number_syntax}
use Rattle.um_tree.specs.RawTree.{name_syntax, call_syntax, negate_syntax, not_syntax, pown_syntax, arith_syntax}
use Rattle.um_tree.specs.RawTree.{compare_syntax}
use Rattle.um_tree.specs.RawTree.{and_syntax, or_syntax, if_syntax, let_syntax, match_syntax, nil_syntax, list_syntax}
use Rattle.um_tree.specs.RawTree.{cons_syntax, fields_syntax, field_syntax, bracket_expr_syntax, no_exprs, more_exprs}
use Rattle.um_tree.specs.RawTree.{no_fields, more_fields}
use Rattle.um_tree.specs.Heights.{expr_height}
use Rattle.um_types.specs.TypeHeights.{note_height, whole_height}

-- the height of the unit text of a number, if it has one
abbrev pub written_height : Option NoteSyntax → ℕ
written_height None = 0
written_height (Some n) = note_height n

-- the greatest of the heights of the unit texts and type texts in an expression
abbrev mutual
  pub notes_in : ExprSyntax → ℕ
  notes_in (truth_syntax at b) = 0
  notes_in (number_syntax at c n) = written_height n
  notes_in (name_syntax at x) = 0
  notes_in (call_syntax at f es) = notes_in_all es
  notes_in (negate_syntax at a) = notes_in a
  notes_in (not_syntax at a) = notes_in a
  notes_in (pown_syntax at a k) = notes_in a
  notes_in (arith_syntax at op a b) = max (notes_in a) (notes_in b)
  notes_in (compare_syntax at sign a b) = max (notes_in a) (notes_in b)
  notes_in (and_syntax at a b) = max (notes_in a) (notes_in b)
  notes_in (or_syntax at a b) = max (notes_in a) (notes_in b)
  notes_in (if_syntax at c a b) = max (notes_in c) (max (notes_in a) (notes_in b))
  notes_in (let_syntax at x a b) = max (notes_in a) (notes_in b)
  notes_in (match_syntax at l a x y b) = max (notes_in l) (max (notes_in a) (notes_in b))
  notes_in (nil_syntax at t) = whole_height t
  notes_in (list_syntax at es) = notes_in_all es
  notes_in (cons_syntax at a b) = max (notes_in a) (notes_in b)
  notes_in (fields_syntax at fs) = notes_in_fields fs
  notes_in (field_syntax at place x a) = notes_in a
  notes_in (bracket_expr_syntax at a) = notes_in a

  pub notes_in_all : ExprSyntaxes → ℕ
  notes_in_all no_exprs = 0
  notes_in_all (more_exprs e es) = max (notes_in e) (notes_in_all es)

  pub notes_in_fields : FieldSyntaxes → ℕ
  notes_in_fields no_fields = 0
  notes_in_fields (more_fields at x e fs) = max (notes_in e) (notes_in_fields fs)

-- the height of an expression, or of what is higher in it
abbrev pub whole_expr_height : ExprSyntax → ℕ
whole_expr_height e = max (expr_height e) (notes_in e)
