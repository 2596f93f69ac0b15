-- The lines of open calls, one after another.
use Rattle.std.proofs.Common.{◌≡◌, ℕ, ◌+◌, ◌<◌, ◌≤◌, List, [], ◌∷◌, ◌++◌, length, map, take, get_or, sym, ap, ◌∙◌, append_assoc}
use Rattle.std.specs.List.{flat_map}
use Rattle.std.proofs.lemmas.Grind.{flat_map-append}
use Rattle.std.proofs.lemmas.List.{append-nil, map-append, take_all, take_more}

module _ {X Y : Type 0} (f : Y → List ℕ) (g : X → Y) (xs : List X) (before : List ℕ) where
  -- the lines of the first k stand in the text
  abbrev pub Added : ℕ → List ℕ → Type 0
  Added k text = text ≡ before ++ flat_map f (map g (take k xs))

  pub none_added : Added 0 before
  none_added = sym (append-nil before)

  one_more : (k : ℕ) (d : X) → k < length xs → flat_map f (map g (take (k + 1) xs)) ≡ flat_map f (map g (take k xs)) ++ f (g (get_or xs k d))
  one_more k d l =
      let x = get_or xs k d in
      ap (λ ys. flat_map f (map g ys)) (take_more xs k d l)
      ∙ ap (flat_map f) (map-append g (take k xs) (x ∷ []))
      ∙ flat_map-append f (map g (take k xs)) (g x ∷ [])
      ∙ ap (λ z. flat_map f (map g (take k xs)) ++ z) (append-nil (f (g x)))

  pub next_added : (k : ℕ) (d : X) (text more : List ℕ) → k < length xs → Added k text → more ≡ text ++ f (g (get_or xs k d)) → Added (k + 1) more
  next_added k d text more l so_far e =
      let x = get_or xs k d in
      e ∙ ap (λ t. t ++ f (g x)) so_far
      ∙ append_assoc before (flat_map f (map g (take k xs))) (f (g x))
      ∙ ap (λ t. before ++ t) (sym (one_more k d l))

  pub all_added : (k : ℕ) (text : List ℕ) → length xs ≤ k → Added k text → text ≡ before ++ flat_map f (map g xs)
  all_added k text l so_far = so_far ∙ ap (λ ys. before ++ flat_map f (map g ys)) (take_all k xs l)

-- one piece after another
pub five_added : (text a b c d e f t u v w x y : List ℕ) → t ≡ text ++ a → u ≡ t ++ b → v ≡ u ++ c → w ≡ v ++ d → x ≡ w ++ e → y ≡ x ++ f → y ≡ text ++ (((a ++ b) ++ c) ++ d ++ e ++ f)
five_added text a b c d e f t u v w x y it iu iv iw ix iy =
    iy ∙ ap (λ z. z ++ f) (ix ∙ ap (λ z. z ++ e) (iw ∙ ap (λ z. z ++ d) (iv ∙ ap (λ z. z ++ c) (iu ∙ ap (λ z. z ++ b) it ∙ append_assoc text a b) ∙ append_assoc text (a ++ b) c) ∙ append_assoc text ((a ++ b) ++ c) d) ∙ append_assoc text (((a ++ b) ++ c) ++ d) e)
    ∙ append_assoc text ((((a ++ b) ++ c) ++ d) ++ e) f
