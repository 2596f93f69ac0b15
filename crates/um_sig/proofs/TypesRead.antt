-- Types that the code reads, as places in lists of trees.
use Rattle.std.proofs.Common.{◌≡◌, ℕ, zero, suc, ◌+◌, ◌<◌, ◌≤◌, List, [], ◌∷◌, ◌++◌, map, length, get_or, drop, slice_get, Some, refl, sym, ap, ◌∙◌, subst, arith}
use Rattle.std.specs.Prelude.{All, option_map}
use Rattle.std.proofs.lemmas.List.{length-map, length_push, drop_more}
use Rattle.std.proofs.lemmas.Option.{same_Some, slice_get-map, slice_get_read, slice_get_within, get_or_from_slice_get}
use Rattle.um_tree.specs.declared.types.Ty.{Ty}
use Rattle.um_tree.specs.TypeTree.{TypeTree, type_tree}
use Rattle.um_tree.specs.Scheme.{type_variables, variables}
use Rattle.um_elim.proofs.GrowingOrder.{All-at}
use Rattle.um_sig.specs.Form.{form, AreAlike}

-- ---- places in lists
pub slice_get-front : {A : Type 0} (xs ys : List A) (i : ℕ) (x : A) → slice_get xs i ≡ Some x → slice_get (xs ++ ys) i ≡ Some x
slice_get-front [] ys i x e = absurd (cc e)
slice_get-front (y ∷ xs) ys zero x e = e
slice_get-front (y ∷ xs) ys (suc i) x e = slice_get-front xs ys i x e

pub slice_get-last : {A : Type 0} (xs : List A) (x : A) (i : ℕ) → i ≡ length xs → slice_get (xs ++ x ∷ []) i ≡ Some x
slice_get-last [] x zero e = refl
slice_get-last [] x (suc i) e = absurd (omega (arith, e))
slice_get-last (y ∷ xs) x zero e = absurd (omega (arith, e))
slice_get-last (y ∷ xs) x (suc i) e = slice_get-last xs x i (omega (arith, e))

pub drop_is : {A : Type 0} (xs : List A) (i : ℕ) (x : A) → slice_get xs i ≡ Some x → drop i xs ≡ x ∷ drop (i + 1) xs
drop_is xs i x e = drop_more xs i x (slice_get_within xs i x e) ∙ ap (λ y. y ∷ drop (i + 1) xs) (get_or_from_slice_get xs i x x e)

-- ---- types
pub type_read : (ts : List Ty) (i : ℕ) (x : Ty) → i < length ts → x ≡ get_or ts i x → slice_get (map type_tree ts) i ≡ Some (type_tree x)
type_read ts i x l is = slice_get-map type_tree ts i ∙ ap (option_map type_tree) (slice_get_read ts (length ts) i x refl l is)

-- of the parameters' types and the result's
module _ (ps : List Ty) (result : TypeTree) (i : ℕ) where
  pub param_read : (x : Ty) → i < length ps → x ≡ get_or ps i x → slice_get (map type_tree ps ++ result ∷ []) i ≡ Some (type_tree x)
  param_read x l is = slice_get-front (map type_tree ps) (result ∷ []) i (type_tree x) (type_read ps i x l is)

  pub result_read : length ps ≤ i → i ≤ length ps → slice_get (map type_tree ps ++ result ∷ []) i ≡ Some result
  result_read low high = slice_get-last (map type_tree ps) result i (let count = length-map ps type_tree in omega (arith, count, low, high))

pub length-types : (ps : List Ty) (result : TypeTree) → length (map type_tree ps ++ result ∷ []) ≡ length ps + 1
length-types ps result = length_push (map type_tree ps) result ∙ ap (λ n. n + 1) (length-map ps type_tree)

-- two alike lists have types of one form at an index, and as many types
pub same_form_there : (ss ts : List TypeTree) (i : ℕ) (s t : TypeTree) → AreAlike ss ts → slice_get ss i ≡ Some s → slice_get ts i ≡ Some t → form s ≡ form t
same_form_there ss ts i s t alike is has =
    same_Some (form s) (form t)
    (sym (slice_get-map form ss i ∙ ap (option_map form) is) ∙ ap (λ fs. slice_get fs i) alike ∙ slice_get-map form ts i ∙ ap (option_map form) has)

pub as_many : (ss ts : List TypeTree) → AreAlike ss ts → length ss ≡ length ts
as_many ss ts alike = sym (length-map ss form) ∙ ap length alike ∙ length-map ts form

-- what all variables of the types have, those of one have
pub variables_there : (P : ℕ → Type 0) (ts : List TypeTree) (i : ℕ) (t : TypeTree) → slice_get ts i ≡ Some t → All P (variables ts) → All P (type_variables t)
variables_there P ts i t is all =
    subst (λ u. All P (type_variables u)) (get_or_from_slice_get ts i t t is)
    (All-at P type_variables ts i t (slice_get_within ts i t is) all)
