-- What is read of a list by a place.
use Rattle.std.proofs.Common.{◌≡◌, sym, ap, ◌∙◌, ℕ, ◌<◌, ◌≤◌, List, map, length, get_or, slice_get, Some, None}
use Rattle.std.specs.Option.{option_map}
use Rattle.std.proofs.lemmas.Option.{slice_get-map, slice_get-get_or, slice_get_past}

pub item_found : {A : Type 0} (xs ys : List A) (k : ℕ) (x : A) → ys ≡ xs → k < length ys → x ≡ get_or ys k x → slice_get xs k ≡ Some x
item_found xs ys k x same l e = ap (λ zs. slice_get zs k) (sym same) ∙ slice_get-get_or ys k x l ∙ ap Some (sym e)

pub item_past : {A : Type 0} (xs ys : List A) (k : ℕ) → ys ≡ xs → length ys ≤ k → slice_get xs k ≡ None
item_past xs ys k same l = ap (λ zs. slice_get zs k) (sym same) ∙ slice_get_past ys k l

pub mapped_found : {A B : Type 0} (f : A → B) (xs : List A) (k : ℕ) (x : A) → k < length xs → x ≡ get_or xs k x → slice_get (map f xs) k ≡ Some (f x)
mapped_found f xs k x l e = slice_get-map f xs k ∙ ap (option_map f) (slice_get-get_or xs k x l ∙ ap Some (sym e))

pub mapped_past : {A B : Type 0} (f : A → B) (xs : List A) (k : ℕ) → length xs ≤ k → slice_get (map f xs) k ≡ None
mapped_past f xs k l = slice_get-map f xs k ∙ ap (option_map f) (slice_get_past xs k l)
