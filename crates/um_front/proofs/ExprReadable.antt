-- An expression of the grammar whose type texts are low is readable: each list text in it has an item.
use Rattle.std.proofs.Common.{ℕ, ◌<◌, ◌≤◌, max, List, arith}
use Rattle.um_syntax.specs.declared.token.Token.{Token}
use Rattle.um_tree.specs.RawTree.{TypeSyntax, ExprSyntax, ExprSyntaxes, FieldSyntaxes, truth_syntax, number_syntax, name_syntax, call_syntax, negate_syntax, not_syntax, pown_syntax, arith_syntax, compare_syntax, and_syntax, or_syntax, if_syntax, let_syntax, match_syntax, nil_syntax, list_syntax, cons_syntax, fields_syntax, field_syntax, bracket_expr_syntax, no_exprs, more_exprs, no_fields, more_fields}
use Rattle.um_tree.specs.Heights.{greatest_height, type_height}
use Rattle.um_types.specs.TypeHeights.{units_height, whole_height}
use Rattle.um_operands.specs.ExprHeights.{notes_in, notes_in_all, notes_in_fields}
use Rattle.um_expr.specs.ExprGrammar.{Spells, AllSpell, ItemsSpell, MoreItems, FieldsSpell, MoreFields}
use Rattle.um_names.specs.ExprNames.{length_of}
use Rattle.um_names.specs.Readable.{IsReadExpr, AreReadExprs, AreReadFields}

pub left_low : (a b : ℕ) → max a b ≤ greatest_height → a ≤ greatest_height
left_low a b h = omega (arith, h)

pub right_low : (a b : ℕ) → max a b ≤ greatest_height → b ≤ greatest_height
right_low a b h = omega (arith, h)

pub type_low : (t : TypeSyntax) → whole_height t ≤ greatest_height → type_height t ≤ greatest_height
type_low t h = left_low (type_height t) (units_height t) h

some_item : (es : ExprSyntaxes) (tokens rest : List Token) → ItemsSpell es tokens rest → 0 < length_of es
some_item no_exprs tokens rest s = absurd s
some_item (more_exprs e es) tokens rest s = omega arith

mutual
  pub expr_readable : (t : ExprSyntax) (tokens rest : List Token) → Spells t tokens rest → notes_in t ≤ greatest_height → IsReadExpr t
  expr_readable (truth_syntax at b) tokens rest s low = tt
  expr_readable (number_syntax at c n) tokens rest s low = tt
  expr_readable (name_syntax at x) tokens rest s low = tt
  expr_readable (call_syntax at f args) tokens rest s low = arguments_readable args s.0 rest s.2 low
  expr_readable (negate_syntax at e) tokens rest s low = expr_readable e s.0 rest s.2 low
  expr_readable (not_syntax at e) tokens rest s low = expr_readable e s.0 rest s.2 low
  expr_readable (pown_syntax at e k) tokens rest s low = expr_readable e s.0 s.1 s.3 low
  expr_readable (arith_syntax at op a b) tokens rest s low =
      (expr_readable a tokens s.0 s.2 (left_low (notes_in a) (notes_in b) low), expr_readable b s.1 rest s.4 (right_low (notes_in a) (notes_in b) low))
  expr_readable (compare_syntax at sign a b) tokens rest s low =
      (expr_readable a tokens s.0 s.2 (left_low (notes_in a) (notes_in b) low), expr_readable b s.1 rest s.4 (right_low (notes_in a) (notes_in b) low))
  expr_readable (and_syntax at a b) tokens rest s low =
      (expr_readable a tokens s.0 s.2 (left_low (notes_in a) (notes_in b) low), expr_readable b s.1 rest s.4 (right_low (notes_in a) (notes_in b) low))
  expr_readable (or_syntax at a b) tokens rest s low =
      (expr_readable a tokens s.0 s.2 (left_low (notes_in a) (notes_in b) low), expr_readable b s.1 rest s.4 (right_low (notes_in a) (notes_in b) low))
  expr_readable (cons_syntax at a b) tokens rest s low =
      (expr_readable a tokens s.0 s.2 (left_low (notes_in a) (notes_in b) low), expr_readable b s.1 rest s.4 (right_low (notes_in a) (notes_in b) low))
  expr_readable (if_syntax at c a b) tokens rest s low =
      let arms = right_low (notes_in c) (max (notes_in a) (notes_in b)) low in (
        expr_readable c s.0 s.1 s.6 (left_low (notes_in c) (max (notes_in a) (notes_in b)) low),
        expr_readable a s.2 s.3 s.8 (left_low (notes_in a) (notes_in b) arms),
        expr_readable b s.4 rest s.10 (right_low (notes_in a) (notes_in b) arms),
      )
  expr_readable (let_syntax at x a b) tokens rest s low =
      (expr_readable a s.2 s.3 s.8 (left_low (notes_in a) (notes_in b) low), expr_readable b s.4 rest s.10 (right_low (notes_in a) (notes_in b) low))
  expr_readable (match_syntax at l a x y b) tokens rest s low =
      let arms = right_low (notes_in l) (max (notes_in a) (notes_in b)) low in (
        expr_readable l s.0 s.1 s.6 (left_low (notes_in l) (max (notes_in a) (notes_in b)) low),
        expr_readable a s.2 s.3 s.8 (left_low (notes_in a) (notes_in b) arms),
        expr_readable b s.4 rest s.10 (right_low (notes_in a) (notes_in b) arms),
      )
  expr_readable (nil_syntax at t) tokens rest s low = type_low t low
  expr_readable (list_syntax at es) tokens rest s low = (some_item es s.0 s.1 s.3, items_readable es s.0 s.1 s.3 low)
  expr_readable (fields_syntax at fs) tokens rest s low = fields_readable fs s.0 s.1 s.3 low
  expr_readable (field_syntax at place x e) tokens rest s low = expr_readable e tokens s.0 s.2 low
  expr_readable (bracket_expr_syntax at e) tokens rest s low = expr_readable e s.0 s.1 s.3 low

  arguments_readable : (es : ExprSyntaxes) (tokens rest : List Token) → AllSpell es tokens rest → notes_in_all es ≤ greatest_height → AreReadExprs es
  arguments_readable no_exprs tokens rest s low = tt
  arguments_readable (more_exprs e es) tokens rest s low =
      (expr_readable e tokens s.0 s.1 (left_low (notes_in e) (notes_in_all es) low), arguments_readable es s.0 rest s.2 (right_low (notes_in e) (notes_in_all es) low))

  items_readable : (es : ExprSyntaxes) (tokens rest : List Token) → ItemsSpell es tokens rest → notes_in_all es ≤ greatest_height → AreReadExprs es
  items_readable no_exprs tokens rest s low = tt
  items_readable (more_exprs e es) tokens rest s low =
      (expr_readable e tokens s.0 s.1 (left_low (notes_in e) (notes_in_all es) low), more_items_readable es s.0 rest s.2 (right_low (notes_in e) (notes_in_all es) low))

  more_items_readable : (es : ExprSyntaxes) (tokens rest : List Token) → MoreItems es tokens rest → notes_in_all es ≤ greatest_height → AreReadExprs es
  more_items_readable no_exprs tokens rest s low = tt
  more_items_readable (more_exprs e es) tokens rest s low =
      (expr_readable e s.0 s.1 s.3 (left_low (notes_in e) (notes_in_all es) low), more_items_readable es s.1 rest s.4 (right_low (notes_in e) (notes_in_all es) low))

  fields_readable : (fs : FieldSyntaxes) (tokens rest : List Token) → FieldsSpell fs tokens rest → notes_in_fields fs ≤ greatest_height → AreReadFields fs
  fields_readable no_fields tokens rest s low = tt
  fields_readable (more_fields at x e fs) tokens rest s low =
      (expr_readable e s.1 s.2 s.5 (left_low (notes_in e) (notes_in_fields fs) low), more_fields_readable fs s.2 rest s.6 (right_low (notes_in e) (notes_in_fields fs) low))

  more_fields_readable : (fs : FieldSyntaxes) (tokens rest : List Token) → MoreFields fs tokens rest → notes_in_fields fs ≤ greatest_height → AreReadFields fs
  more_fields_readable no_fields tokens rest s low = tt
  more_fields_readable (more_fields at x e fs) tokens rest s low =
      (expr_readable e s.2 s.3 s.7 (left_low (notes_in e) (notes_in_fields fs) low), more_fields_readable fs s.3 rest s.8 (right_low (notes_in e) (notes_in_fields fs) low))
