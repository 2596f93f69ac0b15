-- Loops that change a list in place, item by item.
use Rattle.std.proofs.Common.{◌≡◌, inl, inr, ℕ, ◌+◌, ◌<◌, ◌≤◌, List, [], ◌∷◌, ◌++◌, map, length, take, drop, get_or, set, sym, ap, ◌∙◌, arith}
use Rattle.std.specs.Prelude.{slice_index_or}
use Rattle.std.proofs.lemmas.Bool.{cases_eq}
use Rattle.std.proofs.lemmas.List.{append-nil, append_assoc, length-map, length-take-le, get_or_at, set_at, drop_more, drop_all, take_all, map_more, get_or-set_same, get_or-set_other}

module _ {X : Type 0} (f : X → X) (old now : List X) (j : ℕ) (is : now ≡ map f (take j old) ++ drop j old) where
  module _ (d : X) (h : j < length old) where
    long : length (map f (take j old)) ≡ j
    long = length-map (take j old) f ∙ length-take-le j old (omega (arith, h))

    opened : now ≡ map f (take j old) ++ get_or old j d ∷ drop (j + 1) old
    opened = is ∙ ap (λ r. map f (take j old) ++ r) (drop_more old j d h)

    more : map f (take j old) ++ f (get_or old j d) ∷ drop (j + 1) old ≡ map f (take (j + 1) old) ++ drop (j + 1) old
    more = sym (append_assoc (map f (take j old)) (f (get_or old j d) ∷ []) (drop (j + 1) old)) ∙ ap (λ l. l ++ drop (j + 1) old) (sym (map_more f old j d h))

    -- the next item is as it was
    pub next_is : (e : X) → get_or now j e ≡ get_or old j d
    next_is e = ap (λ l. get_or l j e) opened ∙ get_or_at (map f (take j old)) (get_or old j d) (drop (j + 1) old) e j long

    -- it is changed
    pub next_set : (x : X) → x ≡ f (get_or old j d) → set now j x ≡ map f (take (j + 1) old) ++ drop (j + 1) old
    next_set x e =
        ap (λ l. set l j x) opened ∙ set_at (map f (take j old)) (get_or old j d) (drop (j + 1) old) x j long
        ∙ ap (λ y. map f (take j old) ++ y ∷ drop (j + 1) old) e ∙ more

    -- or left, where it is its own image
    pub next_left : f (get_or old j d) ≡ get_or old j d → now ≡ map f (take (j + 1) old) ++ drop (j + 1) old
    next_left e = opened ∙ ap (λ y. map f (take j old) ++ y ∷ drop (j + 1) old) (sym e) ∙ more

  pub all_set : length old ≤ j → now ≡ map f old
  all_set h = is ∙ ap (λ l. map f l ++ drop j old) (take_all j old h) ∙ ap (λ r. map f old ++ r) (drop_all j old h) ∙ append-nil (map f old)

-- by places
module _ {X : Type 0} (now old : List X) (j : ℕ) (x d : X) where
  pub set_done : (f : ℕ → X) → j < length now → x ≡ f j → ((i : ℕ) → i < j → slice_index_or now i d ≡ f i) → (i : ℕ) → i < j + 1 → slice_index_or (set now j x) i d ≡ f i
  set_done f h e done i l =
      elim (cases_eq i j) [
        | inl q ↦ ap (λ n. get_or (set now j x) n d) q ∙ get_or-set_same now j x d h ∙ e ∙ ap f (sym q)
        | inr n ↦ get_or-set_other now j i x d n ∙ done i (omega (arith, l, n))
      ]

  pub set_rest : ((i : ℕ) → j ≤ i → slice_index_or now i d ≡ slice_index_or old i d) → (i : ℕ) → j + 1 ≤ i → slice_index_or (set now j x) i d ≡ slice_index_or old i d
  set_rest rest i l = get_or-set_other now j i x d (λ q. omega (arith, l, q)) ∙ rest i (omega (arith, l))
