-- Types of one form, and where two lists first differ in form.
use Rattle.std.proofs.Common.{◌≡◌, ℕ, suc, ◌<◌, ◌≤◌, true, false, inl, inr, List, [], ◌∷◌, map, length, slice_get, Option, Some, None, refl, sym, ap, ◌∙◌, arith}
use Rattle.std.specs.Prelude.{◌==◌, option_map}
use Rattle.std.proofs.lemmas.Bool.{eqb-true, eq-eqb, and_parts, and_from, cases_lt}
use Rattle.std.proofs.lemmas.List.{length-map}
use Rattle.std.proofs.lemmas.Option.{none-some, same_Some, slice_get-map, slice_get_past, slice_get-get_or}
use Rattle.um_units.specs.PowerMap.{PowerMap, one}
use Rattle.um_tree.specs.TypeTree.{TypeTree, bool_type, num_type, list_type, record_type}
use Rattle.um_sig.specs.Form.{form, form_at, AreAlike, IsFirstDifference}
use Rattle.um_sig.specs.Steps.{same_form, same_form_at}

-- ---- two types
ones_alike : (us vs : List PowerMap) → length us ≡ length vs → map (λ (u : PowerMap). one) us ≡ map (λ (u : PowerMap). one) vs
ones_alike [] [] e = refl
ones_alike [] (v ∷ vs) e = absurd (omega (arith, e))
ones_alike (u ∷ us) [] e = absurd (omega (arith, e))
ones_alike (u ∷ us) (v ∷ vs) e = ap (λ ws. one ∷ ws) (ones_alike us vs (omega (arith, e)))

-- as many units stand in two records of one form
pub same_length : (us vs : List PowerMap) → map (λ (u : PowerMap). one) us ≡ map (λ (u : PowerMap). one) vs → length us ≡ length vs
same_length us vs e = sym (length-map us (λ (u : PowerMap). one)) ∙ ap length e ∙ length-map vs (λ (u : PowerMap). one)

pub form-same : (s t : TypeTree) → same_form s t ≡ true → form s ≡ form t
form-same bool_type bool_type e = refl
form-same (num_type u) (num_type v) e = refl
form-same (list_type s) (list_type t) e = ap list_type (form-same s t e)
form-same (record_type r us) (record_type q vs) e =
    let both = and_parts (r == q) (length us == length vs) e in
    let number = eqb-true r q both.0 in
    let ones = ones_alike us vs (eqb-true (length us) (length vs) both.1) in
    λ i. record_type (number i) (ones i)
form-same s t e = absurd (cc e)

pub same-form : (s t : TypeTree) → form s ≡ form t → same_form s t ≡ true
same-form bool_type bool_type e = refl
same-form (num_type u) (num_type v) e = refl
same-form (list_type s) (list_type t) e = let inner : form s ≡ form t = cc e in same-form s t inner
same-form (record_type r us) (record_type q vs) e =
    let number : r ≡ q = cc e in
    let ones : map (λ (u : PowerMap). one) us ≡ map (λ (u : PowerMap). one) vs = cc e in
    and_from (r == q) (length us == length vs) (eq-eqb r q number) (eq-eqb (length us) (length vs) (same_length us vs ones))
same-form s t e = absurd (cc e)

-- ---- two lists
pub same_items : {A : Type 0} (xs ys : List A) → ((i : ℕ) → slice_get xs i ≡ slice_get ys i) → xs ≡ ys
same_items [] [] h = refl
same_items [] (y ∷ ys) h = absurd (none-some y (h 0))
same_items (x ∷ xs) [] h = absurd (none-some x (sym (h 0)))
same_items (x ∷ xs) (y ∷ ys) h =
    let first = same_Some x y (h 0) in
    let rest = same_items xs ys (λ i. h (suc i)) in
    λ i. first i ∷ rest i

module _ (ss ts : List TypeTree) (i : ℕ) (s : TypeTree) (is : slice_get ss i ≡ Some s) where
  here : form_at ss i ≡ Some (form s)
  here = slice_get-map form ss i ∙ ap (option_map form) is

  there : form_at ts i ≡ option_map form (slice_get ts i)
  there = slice_get-map form ts i

  pub alike_here : same_form_at s (slice_get ts i) ≡ true → form_at ss i ≡ form_at ts i
  alike_here h = here ∙ at (slice_get ts i) h ∙ sym there
    where
      at : (o : Option TypeTree) → same_form_at s o ≡ true → Some (form s) ≡ option_map form o
      at None h = absurd (cc h)
      at (Some t) h = ap Some (form-same s t h)

  pub differs_here : same_form_at s (slice_get ts i) ≡ false → form_at ss i ≡ form_at ts i → ⊥
  differs_here h e = at (slice_get ts i) h (sym here ∙ e ∙ there)
    where
      at : (o : Option TypeTree) → same_form_at s o ≡ false → Some (form s) ≡ option_map form o → ⊥
      at None h e = none-some (form s) (sym e)
      at (Some t) h e = let same = same-form s t (same_Some (form s) (form t) e) in cc

-- no type stands behind a list's end
pub nothing_behind : (ts : List TypeTree) (i : ℕ) → length ts ≤ i → form_at ts i ≡ None
nothing_behind ts i l = slice_get_past (map form ts) i (omega (arith, l, length-map ts form))

pub differs_behind : (ss ts : List TypeTree) (i : ℕ) → length ss ≤ i → i < length ts → form_at ss i ≡ form_at ts i → ⊥
differs_behind ss ts i past l e =
    let within : i < length (map form ts) = omega (arith, l, length-map ts form) in
    none-some _ (sym (nothing_behind ss i past) ∙ e ∙ slice_get-get_or (map form ts) i bool_type within)

pub all_alike : (ss ts : List TypeTree) (n : ℕ) → ((j : ℕ) → j < n → form_at ss j ≡ form_at ts j) → length ss ≤ n → length ts ≤ n → AreAlike ss ts
all_alike ss ts n same l m =
    same_items (map form ss) (map form ts) (λ j. elim (cases_lt j n) [
      | inl h ↦ same j h
      | inr h ↦ nothing_behind ss j (omega (arith, h, l)) ∙ sym (nothing_behind ts j (omega (arith, h, m)))
    ])

-- where two lists are alike they have no difference
pub alike_everywhere : (ss ts : List TypeTree) → AreAlike ss ts → (i : ℕ) → form_at ss i ≡ form_at ts i
alike_everywhere ss ts e i = ap (λ fs. slice_get fs i) e

-- there is one first difference
pub one_difference : (ss ts : List TypeTree) (i j : ℕ) → IsFirstDifference ss ts i → IsFirstDifference ss ts j → i ≡ j
one_difference ss ts i j d e =
    elim (cases_lt i j) [
      | inl h ↦ absurd (d.here (e.before i h))
      | inr h ↦ elim (cases_lt j i) [ inl k ↦ absurd (e.here (d.before j k)) | inr k ↦ omega (arith, h, k) ]
    ]
