-- Lists of expressions and fields with one more.
use Rattle.std.proofs.Common.{◌≡◌, max, List, [], ◌∷◌, ◌++◌, map, ap, arith}
use Rattle.um_tree.specs.declared.raw.RawExpr.{RawExpr}
use Rattle.um_tree.specs.declared.raw.RawField.{RawField}
use Rattle.um_tree.specs.RawTree.{FieldPart, expr_syntax, exprs_in_order, field_part, fields_in_order}
use Rattle.um_tree.specs.Heights.{expr_height, tallest_expr, tallest_field}
use Rattle.um_operands.specs.ExprHeights.{notes_in, notes_in_all, notes_in_fields}

pub items_more : (xs : List RawExpr) (x : RawExpr)
    → (tallest_expr (exprs_in_order (map expr_syntax (xs ++ x ∷ []))) ≡ max (tallest_expr (exprs_in_order (map expr_syntax xs))) (expr_height (expr_syntax x)))
    × (notes_in_all (exprs_in_order (map expr_syntax (xs ++ x ∷ []))) ≡ max (notes_in_all (exprs_in_order (map expr_syntax xs))) (notes_in (expr_syntax x)))
items_more [] x = (omega arith, omega arith)
items_more (y ∷ xs) x = let e = items_more xs x in (omega (arith, e.0), omega (arith, e.1))

pub fields_more : (xs : List RawField) (x : RawField)
    → (tallest_field (fields_in_order (map field_part (xs ++ x ∷ []))) ≡ max (tallest_field (fields_in_order (map field_part xs))) (expr_height (field_part x).part))
    × (notes_in_fields (fields_in_order (map field_part (xs ++ x ∷ []))) ≡ max (notes_in_fields (fields_in_order (map field_part xs))) (notes_in (field_part x).part))
fields_more [] x = (omega arith, omega arith)
fields_more (y ∷ xs) x = let e = fields_more xs x in (omega (arith, e.0), omega (arith, e.1))

pub fields_put : (xs : List RawField) (f : RawField) (part : FieldPart) → field_part f ≡ part → map field_part (xs ++ f ∷ []) ≡ map field_part xs ++ part ∷ []
fields_put [] f part e = ap (λ p. p ∷ []) e
fields_put (y ∷ xs) f part e = ap (λ ps. field_part y ∷ ps) (fields_put xs f part e)
