-- The first of some parts and the others, and what is left of expressions after the first ones.
use Rattle.std.proofs.Common.{◌≡◌, refl, sym, ap, ◌∙◌, ℕ, zero, suc, ◌+◌, ◌-◌, ◌<◌, ◌≤◌, List, [], ◌∷◌, map, take, drop, length, get_or, arith}
use Rattle.std.proofs.lemmas.List.{drop_more, take_all}
use Rattle.um_tree.specs.declared.expression.Expr.{Expr}
use Rattle.um_tree.specs.ExprTree.{ExprTrees, none, more, expr_tree, in_order}

-- a list by its first item and the others, as a pattern of a slice cuts it
pub first_and_others : {A : Type 0} (xs : List A) (x : A) → 1 ≤ length xs → x ≡ get_or xs 0 x → xs ≡ x ∷ take (length xs - 1) (drop 1 xs)
first_and_others [] x h e = absurd (omega (arith, h))
first_and_others (y ∷ ys) x h e =
    let rest : take (length (y ∷ ys) - 1) ys ≡ ys = take_all (length (y ∷ ys) - 1) ys (omega arith) in
    λ i. sym e i ∷ sym rest i

-- the expressions from the i-th on
abbrev pub from : List Expr → ℕ → ExprTrees
from es i = in_order (map expr_tree (drop i es))

pub from_more : (es : List Expr) (i : ℕ) (e : Expr) → i < length es → e ≡ get_or es i e → from es i ≡ more (expr_tree e) (from es (i + 1))
from_more es i e h s = ap (λ xs. in_order (map expr_tree xs)) (drop_more es i e h) ∙ ap (λ y. more (expr_tree y) (from es (i + 1))) (sym s)

pub from_end : (es : List Expr) (i : ℕ) → length es ≤ i → from es i ≡ none
from_end [] zero h = refl
from_end [] (suc i) h = refl
from_end (x ∷ es) zero h = absurd (omega (arith, h))
from_end (x ∷ es) (suc i) h = from_end es i (omega (arith, h))
