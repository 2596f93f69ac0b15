-- Names in UTF-8.
use Rattle.std.proofs.Common.{◌≡◌, ap, sym, ◌∙◌, refl, ℕ, zero, suc, ◌<◌, ◌+◌, ◌&&◌, Bool, true, false, cond, List, [], ◌∷◌, drop, get_or, length, filter, nat_lt, arith, add-one}
use Rattle.std.specs.Str.{IsUtf8, is_utf8, chars}
use Rattle.std.proofs.lemmas.Str.{IsUtf8-from_is_utf8, is_utf8-from_IsUtf8}
use Rattle.um_similar.specs.SimilarNames.{Search, looked_at, looked_at_all, similar_names}
use Rattle.um_sites.specs.NameDetails.{similar_to}

pub text_is : (bytes : List ℕ) → IsUtf8 bytes → is_utf8 bytes ≡ true
text_is bytes is = is_utf8-from_IsUtf8 bytes is

pub no_text : (bytes : List ℕ) → ¬ (IsUtf8 bytes) → is_utf8 bytes ≡ false
no_text bytes is_not = go (is_utf8 bytes) refl
  where
    go : (b : Bool) → is_utf8 bytes ≡ b → b ≡ false
    go true is = absurd (is_not (IsUtf8-from_is_utf8 bytes is))
    go false is = refl

rest_from : {A : Type 0} (xs : List A) (i : ℕ) (x : A) → i < length xs → x ≡ get_or xs i x → drop i xs ≡ x ∷ drop (suc i) xs
rest_from [] i x h e = absurd (omega arith)
rest_from (y ∷ xs) zero x h e = ap (λ z. z ∷ xs) (sym e)
rest_from (y ∷ xs) (suc i) x h e = rest_from xs i x (omega arith) e

-- the items from one on are it and the later ones
pub rest_more : {A : Type 0} (xs : List A) (i : ℕ) (x : A) → i < length xs → x ≡ get_or xs i x → drop i xs ≡ x ∷ drop (i + 1) xs
rest_more xs i x h e = rw add-one (rest_from xs i x h e)

look_next_by : (p : List ℕ → Bool) (s next : Search) (x : List ℕ) (xs : List (List ℕ)) → next ≡ cond (p x) (looked_at s x) s
    → looked_at_all next (filter p xs) ≡ looked_at_all s (filter p (x ∷ xs))
look_next_by p s next x xs is = ap (λ z. looked_at_all z (filter p xs)) is ∙ go (p x)
  where
    go : (b : Bool) → looked_at_all (cond b (looked_at s x) s) (filter p xs) ≡ looked_at_all s (cond b (x ∷ filter p xs) (filter p xs))
    go true = refl
    go false = refl

-- a name that is looked at is the first of those in UTF-8, if it is one
pub look_next : (s next : Search) (x : List ℕ) (xs : List (List ℕ)) → next ≡ cond (is_utf8 x) (looked_at s x) s
    → looked_at_all next (filter is_utf8 xs) ≡ looked_at_all s (filter is_utf8 (x ∷ xs))
look_next s next x xs is = look_next_by is_utf8 s next x xs is

abbrev shown : Bool → List ℕ → List (List ℕ) → List (List ℕ)
shown b x known = cond (b && nat_lt 1 (length (chars x))) (similar_names (chars x) (filter is_utf8 known)) []

pub similar_word : (x word : List ℕ) (known : List (List ℕ)) → word ≡ x → IsUtf8 x
    → cond (nat_lt 1 (length (chars word))) (similar_names (chars word) (filter is_utf8 known)) [] ≡ similar_to x known
similar_word x word known same is = ap (λ w. shown true w known) same ∙ ap (λ b. shown b x known) (sym (text_is x is))

pub similar_none : (x : List ℕ) (known : List (List ℕ)) → ¬ (IsUtf8 x) → similar_to x known ≡ []
similar_none x known is_not = ap (λ b. shown b x known) (no_text x is_not)
