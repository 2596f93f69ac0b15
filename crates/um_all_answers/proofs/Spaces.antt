-- Runs of spaces as one, in bytes and in characters.
use Rattle.std.proofs.Common.{◌≡◌, ◌≢◌, ℕ, suc, ◌<◌, Bool, true, false, ◌==◌, ◌&&◌, cond, eqb, List, [], ◌∷◌, ◌++◌, get_or, length, refl, sym, ap, ◌∙◌, arith, lit<}
use Rattle.std.proofs.lemmas.Bool.{false≢true, eqb-true, and_parts, and_from}
use Rattle.std.proofs.lemmas.List.{append-nil}
use Rattle.std.proofs.lemmas.Str.{encode_ascii, length-encode}
use Rattle.std.proofs.lemmas.Str.Pattern.{NoCharPasses-char}
use Rattle.std.proofs.lemmas.Str.{len_utf8_bounds}
use Rattle.std.specs.Str.{all_scalars}
use lib.Utf8.{scalar, encode, encodes}
use Rattle.um_syntax.specs.Lexeme.{begins}
use Rattle.um_show.proofs.SignRoles.{and_no}
use Rattle.um_display.specs.UnitWords.{one_space_each}

abbrev pub is_blank : ℕ → Bool
is_blank c = c == 32

abbrev pub NoSpaces : List ℕ → Type 0
NoSpaces [] = Unit {0}
NoSpaces (c ∷ cs) = (is_blank c ≡ false) × NoSpaces cs

-- a character that is no space stays, and so does the last of some spaces
kept : (x : ℕ) (zs : List ℕ) → is_blank x ≡ false → one_space_each (x ∷ zs) ≡ x ∷ one_space_each zs
kept x [] e = refl
kept x (z ∷ zs) e = ap (λ b. cond (b && is_blank z) (one_space_each (z ∷ zs)) (x ∷ one_space_each (z ∷ zs))) e

kept_before : (x : ℕ) (zs : List ℕ) → begins is_blank zs ≡ false → one_space_each (x ∷ zs) ≡ x ∷ one_space_each zs
kept_before x [] e = refl
kept_before x (z ∷ zs) e = ap (λ b. cond b (one_space_each (z ∷ zs)) (x ∷ one_space_each (z ∷ zs))) (and_no (is_blank x) (is_blank z) e)

dropped : (zs : List ℕ) → begins is_blank zs ≡ true → one_space_each (32 ∷ zs) ≡ one_space_each zs
dropped [] e = absurd (false≢true e)
dropped (z ∷ zs) e = ap (λ b. cond b (one_space_each (z ∷ zs)) (32 ∷ one_space_each (z ∷ zs))) e

kept_text : (xs ys : List ℕ) → NoSpaces xs → one_space_each (xs ++ ys) ≡ xs ++ one_space_each ys
kept_text [] ys h = refl
kept_text (x ∷ xs) ys h = kept x (xs ++ ys) h.0 ∙ ap (λ w. x ∷ w) (kept_text xs ys h.1)

-- ---- bytes of a character

other_byte : (a b : ℕ) → (a ≡ b → ⊥) → eqb a b ≡ false
other_byte a b none = go (eqb a b) refl where
  go : (t : Bool) → eqb a b ≡ t → eqb a b ≡ false
  go true e = absurd (none (eqb-true a b e))
  go false e = e

none_by_index : (bs : List ℕ) → ((i : ℕ) → i < length bs → get_or bs i 0 ≢ 32) → NoSpaces bs
none_by_index [] h = tt
none_by_index (b ∷ bs) h = (other_byte b 32 (h 0 (omega arith)), none_by_index bs (λ i below. h (suc i) (omega (arith, below))))

no_space_bytes : (c : ℕ) → is_blank c ≡ false → NoSpaces (encode c)
no_space_bytes c e = none_by_index (encode c) (λ i below. NoCharPasses-char 32 (encode c) i ((c ∷ []), append-nil (encode c), (e, tt)) (lit< tt) below)

some_bytes : (c : ℕ) → 0 < length (encode c)
some_bytes c = let size = length-encode c in let some = (len_utf8_bounds c).0 in omega (arith, size, some)

begins_no_space : (xs ys : List ℕ) → NoSpaces xs → 0 < length xs → begins is_blank (xs ++ ys) ≡ false
begins_no_space [] ys h some = absurd (omega (arith, some))
begins_no_space (x ∷ xs) ys h some = h.0

-- ---- the same of the characters

space_is : encode 32 ≡ 32 ∷ []
space_is = encode_ascii 32 (lit< tt)

abbrev Agrees : List ℕ → Type 0
Agrees cs = one_space_each (encodes cs) ≡ encodes (one_space_each cs)

behind_space : (ds : List ℕ) → Agrees ds → one_space_each (32 ∷ encodes ds) ≡ encodes (one_space_each (32 ∷ ds))
behind_space [] same = sym (ap (λ w. w ++ []) space_is)
behind_space (d ∷ ds) same = go (is_blank d) refl where
  go : (b : Bool) → is_blank d ≡ b → one_space_each (32 ∷ encodes (d ∷ ds)) ≡ encodes (one_space_each (32 ∷ d ∷ ds))
  go true e =
      dropped (encodes (d ∷ ds)) (ap (λ (x : ℕ). begins is_blank (encode x ++ encodes ds)) (eqb-true d 32 e) ∙ ap (λ w. begins is_blank (w ++ encodes ds)) space_is)
      ∙ same ∙ ap encodes (sym (dropped (d ∷ ds) e))
  go false e =
      kept_before 32 (encodes (d ∷ ds)) (begins_no_space (encode d) (encodes ds) (no_space_bytes d e) (some_bytes d))
      ∙ ap (λ w. 32 ∷ w) same
      ∙ sym (ap (λ w. w ++ encodes (one_space_each (d ∷ ds))) space_is)
      ∙ ap encodes (sym (kept_before 32 (d ∷ ds) e))

one_more_encoded : (c : ℕ) (cs : List ℕ) → Agrees cs → Agrees (c ∷ cs)
one_more_encoded c cs h = by (is_blank c) refl where
  by : (b : Bool) → is_blank c ≡ b → Agrees (c ∷ cs)
  by true e =
      let same : c ≡ 32 = eqb-true c 32 e in
      ap (λ (x : ℕ). one_space_each (encode x ++ encodes cs)) same ∙ ap (λ w. one_space_each (w ++ encodes cs)) space_is
      ∙ behind_space cs h
      ∙ ap (λ (x : ℕ). encodes (one_space_each (x ∷ cs))) (sym same)
  by false e =
      kept_text (encode c) (encodes cs) (no_space_bytes c e) ∙ ap (λ w. encode c ++ w) h
      ∙ ap encodes (sym (kept c cs e))

pub one_space_encoded : (cs : List ℕ) → one_space_each (encodes cs) ≡ encodes (one_space_each cs)
one_space_encoded [] = refl
one_space_encoded (c ∷ cs) = one_more_encoded c cs (one_space_encoded cs)

pub one_space_scalars : (cs : List ℕ) → all_scalars cs ≡ true → all_scalars (one_space_each cs) ≡ true
one_space_scalars [] h = refl
one_space_scalars (b ∷ []) h = h
one_space_scalars (b ∷ c ∷ cs) h = go (is_blank b && is_blank c) (one_space_scalars (c ∷ cs) (and_parts (scalar b) (all_scalars (c ∷ cs)) h).1) where
  go : (t : Bool) → all_scalars (one_space_each (c ∷ cs)) ≡ true → all_scalars (cond t (one_space_each (c ∷ cs)) (b ∷ one_space_each (c ∷ cs))) ≡ true
  go true rest = rest
  go false rest = and_from (scalar b) (all_scalars (one_space_each (c ∷ cs))) (and_parts (scalar b) (all_scalars (c ∷ cs)) h).0 rest
