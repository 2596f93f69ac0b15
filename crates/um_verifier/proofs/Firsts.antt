-- What holds of the first elements of a list, one after another.
use Rattle.std.proofs.Common.{◌≡◌, sym, ap, subst, ◌∙◌, ℕ, ◌+◌, ◌<◌, ◌≤◌, ◌⊎◌, inl, inr, List, length, map, get_or, Some, slice_get, refl, arith}
use Rattle.std.specs.Prelude.{option_map}
use Rattle.std.proofs.lemmas.Bool.{cases_order}
use Rattle.std.proofs.lemmas.Option.{slice_get_within, slice_get_read, slice_get-map}

module _ {A : Type 0} (P : ℕ → A → Type 0) (xs : List A) where
  abbrev pub HoldBefore : ℕ → Type 0
  HoldBefore i = (j : ℕ) (x : A) → j < i → slice_get xs j ≡ Some x → P j x

  same_element : (x y : A) → Some x ≡ Some y → x ≡ y
  same_element x y h = cc

  pub hold_next : (i : ℕ) (x : A) → slice_get xs i ≡ Some x → HoldBefore i → P i x → HoldBefore (i + 1)
  hold_next i x there before holds j y l t = by (cases_order j i) where
    by : (j ≡ i) ⊎ ((j < i) ⊎ (i < j)) → P j y
    by (inl s) =
        let same : x ≡ y = same_element x y (sym there ∙ ap (slice_get xs) (sym s) ∙ t) in
        subst (P j) same (subst (λ (n : ℕ). P n x) (sym s) holds)
    by (inr (inl m)) = before j y m t
    by (inr (inr m)) = absurd (omega arith)

  pub all_hold : (i : ℕ) → length xs ≤ i → HoldBefore i → (j : ℕ) (x : A) → slice_get xs j ≡ Some x → P j x
  all_hold i l before j x t = let within = slice_get_within xs j x t in before j x (omega arith) t

-- the tree of the element that was read
pub tree_there : {A B : Type 0} (tree : A → B) (xs : List A) (i : ℕ) (x : A) → i < length xs → x ≡ get_or xs i x → slice_get (map tree xs) i ≡ Some (tree x)
tree_there tree xs i x l e = slice_get-map tree xs i ∙ ap (option_map tree) (slice_get_read xs (length xs) i x refl l e)
