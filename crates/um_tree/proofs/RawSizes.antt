-- Heights and numbers of nodes of the last of some expressions, or of some fields.
use Rattle.std.proofs.Common.{ℕ, zero, suc, ◌+◌, ◌≤◌, ◌<◌, ◌≡◌, List, [], ◌∷◌, map, length, get_or, drop, arith, sym, ap, subst}
use Rattle.um_tree.specs.RawTree.{ExprSyntax, FieldPart, exprs_in_order, fields_in_order}
use Rattle.um_tree.specs.Heights.{expr_height, tallest_expr, tallest_field, expr_nodes, all_expr_nodes, all_field_nodes}

abbrev pub expr_tail : {A : Type 0} → (A → ExprSyntax) → List A → ℕ → ℕ
expr_tail f xs i = all_expr_nodes (exprs_in_order (map f (drop i xs)))

pub expr_tail-at : {A : Type 0} (f : A → ExprSyntax) (xs : List A) (i : ℕ) (x : A) → i < length xs → x ≡ get_or xs i x → expr_tail f xs i ≡ expr_nodes (f x) + expr_tail f xs (suc i)
expr_tail-at f [] i x h s = absurd (omega arith)
expr_tail-at f (y ∷ xs) zero x h s = ap (λ z. expr_nodes (f z) + expr_tail f xs 0) (sym s)
expr_tail-at f (y ∷ xs) (suc i) x h s = expr_tail-at f xs i x (omega arith) s

pub expr_tail-le : {A : Type 0} (f : A → ExprSyntax) (xs : List A) (i : ℕ) → expr_tail f xs i ≤ expr_tail f xs 0
expr_tail-le f [] zero = omega arith
expr_tail-le f [] (suc i) = omega arith
expr_tail-le f (x ∷ xs) zero = omega arith
expr_tail-le f (x ∷ xs) (suc i) = omega (arith, expr_tail-le f xs i)

abbrev pub field_tail : {A : Type 0} → (A → FieldPart) → List A → ℕ → ℕ
field_tail f xs i = all_field_nodes (fields_in_order (map f (drop i xs)))

pub field_tail-at : {A : Type 0} (f : A → FieldPart) (xs : List A) (i : ℕ) (x : A) → i < length xs → x ≡ get_or xs i x → field_tail f xs i ≡ expr_nodes (f x).part + field_tail f xs (suc i)
field_tail-at f [] i x h s = absurd (omega arith)
field_tail-at f (y ∷ xs) zero x h s = ap (λ z. expr_nodes (f z).part + field_tail f xs 0) (sym s)
field_tail-at f (y ∷ xs) (suc i) x h s = field_tail-at f xs i x (omega arith) s

pub field_tail-le : {A : Type 0} (f : A → FieldPart) (xs : List A) (i : ℕ) → field_tail f xs i ≤ field_tail f xs 0
field_tail-le f [] zero = omega arith
field_tail-le f [] (suc i) = omega arith
field_tail-le f (x ∷ xs) zero = omega arith
field_tail-le f (x ∷ xs) (suc i) = omega (arith, field_tail-le f xs i)

expr_at : {A : Type 0} (f : A → ExprSyntax) (xs : List A) (i : ℕ) (d : A) → i < length xs → expr_height (f (get_or xs i d)) ≤ tallest_expr (exprs_in_order (map f xs))
expr_at f [] i d h = absurd (omega arith)
expr_at f (x ∷ xs) zero d h = omega arith
expr_at f (x ∷ xs) (suc i) d h = omega (arith, expr_at f xs i d (omega arith))

-- an item is no higher than the tallest
pub expr_is_low : {A : Type 0} (f : A → ExprSyntax) (xs : List A) (i : ℕ) (x : A) → i < length xs → x ≡ get_or xs i x → expr_height (f x) ≤ tallest_expr (exprs_in_order (map f xs))
expr_is_low f xs i x h e = subst (λ z. expr_height (f z) ≤ tallest_expr (exprs_in_order (map f xs))) (sym e) (expr_at f xs i x h)

field_at : {A : Type 0} (f : A → FieldPart) (xs : List A) (i : ℕ) (d : A) → i < length xs → expr_height (f (get_or xs i d)).part ≤ tallest_field (fields_in_order (map f xs))
field_at f [] i d h = absurd (omega arith)
field_at f (x ∷ xs) zero d h = omega arith
field_at f (x ∷ xs) (suc i) d h = omega (arith, field_at f xs i d (omega arith))

-- a field's part is no higher than the tallest
pub field_is_low : {A : Type 0} (f : A → FieldPart) (xs : List A) (i : ℕ) (x : A) → i < length xs → x ≡ get_or xs i x → expr_height (f x).part ≤ tallest_field (fields_in_order (map f xs))
field_is_low f xs i x h e = subst (λ z. expr_height (f z).part ≤ tallest_field (fields_in_order (map f xs))) (sym e) (field_at f xs i x h)
