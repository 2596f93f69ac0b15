-- The characters at the front of bytes.
use Rattle.std.proofs.Common.{◌≡◌, ℕ, ◌+◌, ◌/◌, ◌<◌, ◌≤◌, Bool, true, false, ◌&&◌, List, [], ◌∷◌, ◌++◌, length, get_or, take, refl, sym, ap, subst, ◌∙◌, arith, ⊎_elim, length-append}
use Rattle.std.proofs.lemmas.Bool.{cases_lt, lt-ltb, le-ltb}
use Rattle.std.proofs.lemmas.Str.{cons_from_encodes, length-encode, len_utf8_bounds, IsUtf8-encode}
use Rattle.std.proofs.Math.Seq.{take-append_seam}
use Rattle.std.specs.Char.{IsScalar}
use Rattle.std.specs.Str.{IsUtf8}
use lib.Utf8.{encode, scalar, scalars, scalar_cases}
use Rattle.um_syntax.specs.Decoding.{char_len, NoWhole, NoChar}

-- A character's first byte tells how many it has.
lead_two : (q : ℕ) → 0 < q → q < 32 → char_len (192 + q) ≡ 2
lead_two q some few =
    let a : 128 ≤ 192 + q = omega arith in
    let b : 192 ≤ 192 + q = omega arith in
    let c : 192 + q < 224 = omega arith in
    rw (le-ltb (192 + q) 128 a, le-ltb (192 + q) 192 b, lt-ltb (192 + q) 224 c) refl

lead_three : (q : ℕ) → q < 16 → char_len (224 + q) ≡ 3
lead_three q few =
    let a : 128 ≤ 224 + q = omega arith in
    let b : 192 ≤ 224 + q = omega arith in
    let c : 224 ≤ 224 + q = omega arith in
    let d : 224 + q < 240 = omega arith in
    rw (le-ltb (224 + q) 128 a, le-ltb (224 + q) 192 b, le-ltb (224 + q) 224 c, lt-ltb (224 + q) 240 d) refl

lead_four : (q : ℕ) → q < 8 → char_len (240 + q) ≡ 4
lead_four q few =
    let a : 128 ≤ 240 + q = omega arith in
    let b : 192 ≤ 240 + q = omega arith in
    let c : 224 ≤ 240 + q = omega arith in
    let d : 240 ≤ 240 + q = omega arith in
    let e : 240 + q < 248 = omega arith in
    rw (le-ltb (240 + q) 128 a, le-ltb (240 + q) 192 b, le-ltb (240 + q) 224 c, le-ltb (240 + q) 240 d, lt-ltb (240 + q) 248 e) refl

scalar_bound : (c : ℕ) → IsScalar c → c < 1114112
scalar_bound c s = ⊎_elim (λ (h : c < 55296). omega arith) (λ h. h.1) (scalar_cases c s)

pub lead_len : (c : ℕ) (more : List ℕ) → IsScalar c → char_len (get_or (encode c ++ more) 0 0) ≡ length (encode c)
unfolding encode
lead_len c more s = ⊎_elim one (λ h. ⊎_elim (two h) (λ h2. ⊎_elim (three h2) four (cases_lt c 65536)) (cases_lt c 2048)) (cases_lt c 128)
  where
    one : c < 128 → char_len (get_or (encode c ++ more) 0 0) ≡ length (encode c)
    one h = rw (lt-ltb c 128 h, lt-ltb c 128 h) refl

    two : 128 ≤ c → c < 2048 → char_len (get_or (encode c ++ more) 0 0) ≡ length (encode c)
    two l h = rw (le-ltb c 128 l, lt-ltb c 2048 h) (lead_two (c / 64) (omega arith) (omega arith))

    three : 2048 ≤ c → c < 65536 → char_len (get_or (encode c ++ more) 0 0) ≡ length (encode c)
    three l h = let m : 128 ≤ c = omega arith in rw (le-ltb c 128 m, le-ltb c 2048 l, lt-ltb c 65536 h) (lead_three (c / 4096) (omega arith))

    four : 65536 ≤ c → char_len (get_or (encode c ++ more) 0 0) ≡ length (encode c)
    four l =
        let m : 128 ≤ c = omega arith in
        let n : 2048 ≤ c = omega arith in
        let b = scalar_bound c s in
        rw (le-ltb c 128 m, le-ltb c 2048 n, le-ltb c 65536 l) (lead_four (c / 262144) (omega arith))

encode_some : (c : ℕ) → 1 ≤ length (encode c)
encode_some c = let e = length-encode c in let b = len_utf8_bounds c in omega (arith, e, b)

pub no_whole : (bytes : List ℕ) → length bytes < char_len (get_or bytes 0 0) → NoWhole bytes
no_whole bytes short c more s e =
    let lead = ap (λ x. char_len (get_or x 0 0)) e ∙ lead_len c more s in
    let whole = ap length e ∙ length-append (encode c) more in
    omega (arith, lead, whole)

pub no_lead : (bytes : List ℕ) → 0 < length bytes → char_len (get_or bytes 0 0) ≡ 0 → NoChar bytes
no_lead [] some none after c more s e = omega arith
no_lead (b ∷ bs) some none after c more s e =
    let lead = ap (λ x. char_len (get_or x 0 0)) e ∙ lead_len c more s in
    let one = encode_some c in
    omega (arith, lead, none, one)

front_same : (xs ys more after : List ℕ) → length xs ≡ length ys → xs ++ after ≡ ys ++ more → xs ≡ ys
front_same xs ys more after n e = sym (take-append_seam xs after) ∙ ap (λ l. take (length xs) l) e ∙ ap (λ k. take k (ys ++ more)) n ∙ take-append_seam ys more

pub no_text : (bytes : List ℕ) → 0 < length bytes → length bytes ≡ char_len (get_or bytes 0 0) → ¬ (IsUtf8 bytes) → NoChar bytes
no_text [] some whole bad after c more s e = omega arith
no_text (b ∷ bs) some whole bad after c more s e =
    let lead = ap (λ x. char_len (get_or x 0 0)) e ∙ lead_len c more s in
    let same = front_same (b ∷ bs) (encode c) more after (whole ∙ lead) e in
    bad (subst IsUtf8 (sym same) (IsUtf8-encode c s))

-- bytes that are one character long begin with it
pub one_char : (bytes : List ℕ) → length bytes ≡ char_len (get_or bytes 0 0) → (c : ℕ) (more : List ℕ) → IsScalar c → bytes ≡ encode c ++ more → bytes ≡ encode c
one_char bytes whole c more s e =
    let lead = ap (λ x. char_len (get_or x 0 0)) e ∙ lead_len c more s in
    front_same bytes (encode c) more [] (whole ∙ lead) (append_nothing bytes ∙ e)
  where
    append_nothing : (xs : List ℕ) → xs ++ [] ≡ xs
    append_nothing [] = refl
    append_nothing (x ∷ xs) = ap (λ l. x ∷ l) (append_nothing xs)

pub text_front : (bytes : List ℕ) → IsUtf8 bytes → length bytes ≡ char_len (get_or bytes 0 0) → (c : ℕ) (rest : List ℕ) → bytes ≡ encode c ++ rest → IsScalar c × (bytes ≡ encode c)
text_front bytes text whole c rest e =
    let r = cons_from_encodes text.0 rest c (text.1.1 ∙ e) in
    let s : scalars (c ∷ r.0) ≡ true = subst (λ x. scalars x ≡ true) r.1 text.1.0 in
    let is = first_true (scalar c) (scalars r.0) s in
    (is, one_char bytes whole c rest is e)
  where
    first_true : (a b : Bool) → (a && b) ≡ true → a ≡ true
    first_true true b e = refl
    first_true false b e = e

pub whole_len : (n l : ℕ) → 0 < n → (1 < n → n ≤ l) → l ≤ n → ¬ (l ≡ 0) → n ≡ l
whole_len n l some most least lead = ⊎_elim (λ h. let m = most h in let e : n ≡ l = omega arith in e) (λ (h : n ≤ 1). ⊎_elim (λ (z : 0 < l). let e : n ≡ l = omega arith in e) (λ (z : l ≤ 0). absurd (lead (omega arith))) (cases_lt 0 l)) (cases_lt 1 n)
