-- Runs of spaces, byte by byte; and which texts are plain.
use Rattle.std.proofs.Common.{◌≡◌, ℕ, zero, suc, ◌+◌, ◌-◌, ◌<◌, ◌≤◌, Bool, true, false, ◌&&◌, ◌||◌, cond, eqb, List, [], ◌∷◌, ◌++◌, drop, get_or, length, codes, refl, sym, ap, ◌∙◌, append_assoc, add-one, arith}
use Rattle.std.specs.Prelude.{MatchBool, not}
use Rattle.std.specs.List.{list_any}
use Rattle.std.specs.Str.{chars}
use Rattle.std.specs.Str.Iter.{HasSubslice}
use Rattle.std.proofs.lemmas.List.{append-nil}
use Rattle.std.proofs.Math.ListN.{drop_of_length-le}
use Rattle.um_display.specs.UnitWords.{IsPlain, is_other_white, is_space_at, one_space_each}
use Rattle.um_display.specs.PartView.{kept_byte}

kept_from : (bytes : List ℕ) (i : ℕ) → i < length bytes
    → one_space_each (drop i bytes) ≡ cond (is_space_at bytes i && is_space_at bytes (suc i)) [] (get_or bytes i 0 ∷ []) ++ one_space_each (drop (suc i) bytes)
kept_from [] i h = absurd (omega arith)
kept_from (b ∷ []) zero h = last (eqb b 32) where
  last : (s : Bool) → b ∷ [] ≡ cond (s && false) [] (b ∷ []) ++ []
  last true = refl
  last false = refl
kept_from (b ∷ c ∷ cs) zero h = next (eqb b 32 && eqb c 32) where
  next : (s : Bool) → cond s (one_space_each (c ∷ cs)) (b ∷ one_space_each (c ∷ cs)) ≡ cond s [] (b ∷ []) ++ one_space_each (c ∷ cs)
  next true = refl
  next false = refl
kept_from (b ∷ bs) (suc i) h = kept_from bs i (omega arith)

-- one byte more
pub spaces_more : (bytes : List ℕ) (i : ℕ) (whole text new : List ℕ) → i < length bytes → text ++ one_space_each (drop i bytes) ≡ whole → new ≡ text ++ kept_byte bytes i
    → new ++ one_space_each (drop (i + 1) bytes) ≡ whole
spaces_more bytes i whole text new h so_far added =
    ap (λ s. s ++ one_space_each (drop (i + 1) bytes)) added
    ∙ append_assoc text (kept_byte bytes i) (one_space_each (drop (i + 1) bytes))
    ∙ ap (λ s. text ++ s) (sym step)
    ∙ so_far where
      step : one_space_each (drop i bytes) ≡ kept_byte bytes i ++ one_space_each (drop (i + 1) bytes)
      step = rw add-one (kept_from bytes i h)

-- ---- the four tests of a plain text, of which the last two are one

pub plain_by : (bytes : List ℕ) (a b c : Bool) → MatchBool a (HasSubslice bytes (codes "//")) (HasSubslice bytes (codes "//") → ⊥)
    → b ≡ list_any is_other_white (chars bytes) → c ≡ (is_space_at bytes 0 || is_space_at bytes (length bytes - 1))
    → MatchBool (not a && (not b && not c)) (IsPlain bytes) (IsPlain bytes → ⊥)
plain_by bytes true b c h white outer = λ p. p.no_comment h
plain_by bytes false true c h white outer = λ p. absurd (cc (white ∙ p.no_other_white))
plain_by bytes false false true h white outer = λ p. absurd (cc (outer ∙ ap (λ s. s || is_space_at bytes (length bytes - 1)) p.no_space_first ∙ p.no_space_last))
plain_by bytes false false false h white outer = record {
  no_comment = h;
  no_other_white = sym white;
  no_space_first = (neither (is_space_at bytes 0) (is_space_at bytes (length bytes - 1)) (sym outer)).0;
  no_space_last = (neither (is_space_at bytes 0) (is_space_at bytes (length bytes - 1)) (sym outer)).1;
} where
  neither : (s t : Bool) → (s || t) ≡ false → (s ≡ false) × (t ≡ false)
  neither true t e = absurd (cc e)
  neither false t e = (refl, e)

-- no byte is left
pub spaces_all : (bytes : List ℕ) (i : ℕ) (text : List ℕ) → length bytes ≤ i → text ++ one_space_each (drop i bytes) ≡ one_space_each bytes → text ≡ one_space_each bytes
spaces_all bytes i text past so_far = sym (append-nil text) ∙ ap (λ bs. text ++ one_space_each bs) (sym (drop_of_length-le bytes past)) ∙ so_far
