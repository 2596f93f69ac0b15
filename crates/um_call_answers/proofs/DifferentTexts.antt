-- Texts, each kept once, and how many they are.
use Rattle.std.proofs.Common.{◌≡◌, ℕ, Bool, true, false, cond, ◌||◌, List, [], ◌∷◌, ◌++◌, length, refl, sym, ap, ◌∙◌}
use Rattle.std.specs.Cmp.{IsEquivalence}
use Rattle.std.specs.List.{IsDistinct}
use Rattle.std.specs.Set.{distinct_count}
use Rattle.std.specs.Str.{bytes_eq}
use Rattle.std.proofs.lemmas.Cmp.{nat_list_eq_equiv}
use Rattle.std.proofs.lemmas.Slice.Eq.{bytes_eq-Decides}
use Rattle.std.proofs.lemmas.List.Folds.{list_any-append}
use Rattle.std.proofs.lemmas.Map.Keys.{IsDistinct-push}
use Rattle.std.proofs.lemmas.Map.Made.{length-from_keys}
use Rattle.um_measures.specs.Known.{is_among}

-- the list holds each of the texts once, and no other
pub record HoldsOnce (kept texts : List (List ℕ)) : Type 0 where
  pub once : IsDistinct bytes_eq kept
  pub same : (q : List ℕ) → is_among kept q ≡ is_among texts q

pub none_held : HoldsOnce [] []
unfolding IsDistinct
none_held = record { once = tt; same = λ q. refl }

equal_bytes : IsEquivalence bytes_eq
equal_bytes = nat_list_eq_equiv

or_true : (b : Bool) → (b || true) ≡ true
or_true true = refl
or_true false = refl

or_false : (b : Bool) → (b || false) ≡ b
or_false true = refl
or_false false = refl

-- a text that is kept already changes nothing
kept_already : (kept texts : List (List ℕ)) (t q : List ℕ) → is_among kept t ≡ true → is_among kept q ≡ is_among texts q → is_among kept q ≡ (is_among texts q || (bytes_eq q t || false))
kept_already kept texts t q there same = by (bytes_eq q t) refl
  where
    by : (b : Bool) → bytes_eq q t ≡ b → is_among kept q ≡ (is_among texts q || (b || false))
    by true e = ap (is_among kept) ((bytes_eq-Decides q t).0 e) ∙ there ∙ sym (or_true (is_among texts q))
    by false e = same ∙ sym (or_false (is_among texts q))

pub one_more_held : (kept texts : List (List ℕ)) (t : List ℕ) → HoldsOnce kept texts → HoldsOnce (cond (is_among kept t) kept (kept ++ t ∷ [])) (texts ++ t ∷ [])
one_more_held kept texts t h = by (is_among kept t) refl
  where
    more : (q : List ℕ) → is_among (texts ++ t ∷ []) q ≡ (is_among texts q || (bytes_eq q t || false))
    more q = list_any-append (bytes_eq q) texts (t ∷ [])

    by : (b : Bool) → is_among kept t ≡ b → HoldsOnce (cond b kept (kept ++ t ∷ [])) (texts ++ t ∷ [])
    by true there = record { once = h.once; same = λ q. kept_already kept texts t q there (h.same q) ∙ sym (more q) }
    by false new = record {
      once = IsDistinct-push equal_bytes kept t h.once new;
      same = λ q. list_any-append (bytes_eq q) kept (t ∷ []) ∙ ap (λ b. b || (bytes_eq q t || false)) (h.same q) ∙ sym (more q);
    }

pub held_counted : (kept texts : List (List ℕ)) → HoldsOnce kept texts → length kept ≡ distinct_count bytes_eq texts
held_counted kept texts h = length-from_keys equal_bytes kept texts h.once h.same
