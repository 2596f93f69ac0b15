-- It is decided whether bytes are a name's, and whether names are distinct.
use Rattle.std.proofs.Common.{◌≡◌, inl, inr, ℕ, zero, suc, Bool, true, false, ◌&&◌, ◌||◌, not, List, [], ◌∷◌, Some, refl, sym, ap, ◌∙◌}
use Rattle.std.specs.Prelude.{slice_get, MatchBool}
use Rattle.std.specs.List.{list_any}
use Rattle.std.specs.Str.{is_utf8, chars, bytes_eq}
use Rattle.std.proofs.lemmas.Str.{IsUtf8-from_is_utf8, is_utf8-from_IsUtf8}
use Rattle.std.proofs.lemmas.Slice.Eq.{bytes_eq-Decides}
use Rattle.um_tree.specs.Formed.{IsNameBytes, AreDistinct}
use Rattle.um_verifier.specs.Names.{reads, no_names, is_one_of}
use Rattle.um_verifier.proofs.NameTests.{no_text, text_test}
use Rattle.um_verifier.proofs.Decisions.{Dec, as_well, both, is_test}

by_match : {P : Type 0} (b : Bool) → MatchBool b P (P → ⊥) → Dec P
by_match true p = inl p
by_match false none = inr none

pub is_name : (bytes : List ℕ) → Dec (IsNameBytes bytes)
is_name bytes = by (is_utf8 bytes) refl where
  by : (text : Bool) → is_utf8 bytes ≡ text → Dec (IsNameBytes bytes)
  by true t =
      let b = reads false (chars bytes) && not (is_one_of no_names bytes) in
      by_match b (text_test bytes bytes refl (IsUtf8-from_is_utf8 bytes t) b refl)
  by false t = inr (no_text bytes (λ u. cc (sym (is_utf8-from_IsUtf8 bytes u) ∙ t)))

-- ---- distinct names

at_among : (xs : List (List ℕ)) (x : List ℕ) → list_any (bytes_eq x) xs ≡ true → (j : ℕ) × (slice_get xs j ≡ Some x)
at_among [] x e = absurd (cc e)
at_among (y ∷ xs) x e = by (at_among xs x) (bytes_eq x y) refl e where
  by : (list_any (bytes_eq x) xs ≡ true → (j : ℕ) × (slice_get xs j ≡ Some x)) → (b : Bool) → bytes_eq x y ≡ b → (b || list_any (bytes_eq x) xs) ≡ true → (j : ℕ) × (slice_get (y ∷ xs) j ≡ Some x)
  by later true same e = (0, ap Some (sym ((bytes_eq-Decides x y).0 same)))
  by later false other e = let (j, is) = later e in (suc j, is)

among_at : (xs : List (List ℕ)) (x : List ℕ) (j : ℕ) → slice_get xs j ≡ Some x → list_any (bytes_eq x) xs ≡ true
among_at [] x j e = absurd (cc e)
among_at (y ∷ xs) x zero e = let same : y ≡ x = cc e in ap (λ b. b || list_any (bytes_eq x) xs) ((bytes_eq-Decides x y).1 (sym same))
among_at (y ∷ xs) x (suc j) e = either (bytes_eq x y) (among_at xs x j e) where
  either : (b : Bool) → list_any (bytes_eq x) xs ≡ true → (b || list_any (bytes_eq x) xs) ≡ true
  either true t = refl
  either false t = t

module _ (x : List ℕ) (xs : List (List ℕ)) where
  first_apart : list_any (bytes_eq x) xs ≡ false → AreDistinct xs → AreDistinct (x ∷ xs)
  first_apart none others zero zero y e f = refl
  first_apart none others zero (suc j) y e f = let same : y ≡ x = cc (sym e) in absurd (cc (sym (among_at xs x j (f ∙ ap Some same)) ∙ none))
  first_apart none others (suc i) zero y e f = let same : y ≡ x = cc (sym f) in absurd (cc (sym (among_at xs x i (e ∙ ap Some same)) ∙ none))
  first_apart none others (suc i) (suc j) y e f = ap (λ n. suc n) (others i j y e f)

  others_apart : AreDistinct (x ∷ xs) → AreDistinct xs
  others_apart all i j y e f = let next : suc i ≡ suc j = all (suc i) (suc j) y e f in cc next

  none_same : AreDistinct (x ∷ xs) → list_any (bytes_eq x) xs ≡ false
  none_same all = by (list_any (bytes_eq x) xs) refl where
    by : (among : Bool) → list_any (bytes_eq x) xs ≡ among → among ≡ false
    by true t = let (j, is) = at_among xs x t in let next : 0 ≡ suc j = all 0 (suc j) x refl is in absurd (cc next)
    by false t = refl

pub are_distinct : (xs : List (List ℕ)) → Dec (AreDistinct xs)
are_distinct [] = inl (λ i j x e f. absurd (cc e))
are_distinct (x ∷ xs) = as_well (both (is_test (list_any (bytes_eq x) xs) false) (are_distinct xs)) (λ h. first_apart x xs h.0 h.1) (λ h. (none_same x xs h, others_apart x xs h))
