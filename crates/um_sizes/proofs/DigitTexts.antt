-- Digits as they are read, and the number that they write.
use Rattle.std.proofs.Common.{◌≡◌, ℕ, ◌+◌, ◌-◌, ◌*◌, ◌^◌, ◌<◌, ◌≤◌, Bool, true, false, ltb, cond, List, [], ◌∷◌, ◌++◌, length, length-append, pos, Some, None, Result, Ok, refl, sym, ap, subst, ◌∙◌, arith, rules}
use Rattle.std.specs.Char.{is_ascii_digit}
use Rattle.std.specs.List.{list_all}
use Rattle.std.specs.Str.Parse.{ParsesUnsigned}
use Rattle.std.proofs.lemmas.Bool.{and_parts, ltb-true, le-leb}
use Rattle.std.proofs.lemmas.Str.Parse.{IsNumeralModel, numerals_by_fold, digits_value_short, parse_gives}
use Rattle.std.proofs.Math.Nat.{pow-suc, pow-le-pow_right}
use Rattle.um_frac.specs.Fraction.{reduced}
use Rattle.um_syntax.specs.Numeral.{AreDigits, value_after, value_of}
use Rattle.um_syntax.specs.Numeral.{Decimal}
use Rattle.um_syntax.proofs.Digits.{value_after-append, value_after-bound, AreDigits-append}
use Rattle.um_sizes.specs.NumberTexts.{are_digits, value_in}

all_digits : (ds : List ℕ) → list_all is_ascii_digit ds ≡ true → AreDigits ds
all_digits [] e = tt
all_digits (d ∷ ds) e = let h = and_parts (is_ascii_digit d) (list_all is_ascii_digit ds) e in (h.0, all_digits ds h.1)

some_digits : (ds : List ℕ) → are_digits ds ≡ true → AreDigits ds × (0 < length ds)
some_digits ds e =
    let h = and_parts (ltb 0 (length ds)) (list_all is_ascii_digit ds) e in
    (all_digits ds h.1, ltb-true 0 (length ds) h.0)

own : IsNumeralModel AreDigits (value_after 0)
own = numerals_by_fold AreDigits (search rules) value_after (search rules)

-- digits write less than a power of ten
pub value_below : (ds : List ℕ) (k : ℕ) → are_digits ds ≡ true → length ds ≤ k → value_of ds < 10 ^ k
value_below ds k e few = digits_value_short own ds k (some_digits ds e).0 few

-- few digits are read as their value
pub value_parsed : {E : Type 0} (ds : List ℕ) (r : Result ℕ E) → are_digits ds ≡ true → length ds ≤ 38 → ParsesUnsigned 128 10 ds r → r ≡ Ok (value_of ds)
value_parsed ds r e few parses =
    let digits = some_digits ds e in
    let below = value_below ds 38 e few in
    parse_gives own 128 ds r parses digits.0 digits.1 (omega (arith, below))

-- ---- digits behind others

shifted_more : (n e p v : ℕ) → (10 * n + e) * p + v ≡ n * (p * 10) + ((10 * 0 + e) * p + v)
shifted_more n e p v = grind arith

shifted : (n : ℕ) (ds : List ℕ) → value_after n ds ≡ n * 10 ^ length ds + value_of ds
shifted n [] = omega arith
shifted n (d ∷ ds) =
    rw (pow-suc 10 (length ds))
    (shifted (10 * n + (d - 48)) ds ∙ shifted_more n (d - 48) (10 ^ length ds) (value_of ds)
    ∙ ap (λ k. n * (10 ^ length ds * 10) + k) (sym (shifted (10 * 0 + (d - 48)) ds)))

pub value_joined : (ds es : List ℕ) → value_of (ds ++ es) ≡ value_of ds * 10 ^ length es + value_of es
value_joined ds es = value_after-append 0 ds es ∙ shifted (value_of ds) es

-- what is told of digits
pub told : (ds : List ℕ) (v : ℕ) → Some v ≡ cond (are_digits ds) (Some (value_of ds)) None → (are_digits ds ≡ true) × (v ≡ value_of ds)
told ds v e = by (are_digits ds) refl e where
  by : (b : Bool) → are_digits ds ≡ b → Some v ≡ cond b (Some (value_of ds)) None → (are_digits ds ≡ true) × (v ≡ value_of ds)
  by true s h = (s, cc h)
  by false s h = absurd (cc h)

-- ---- digits with a point

pub ten_within : (k : ℕ) → k ≤ 38 → 10 ^ k ≤ 10 ^ 38
ten_within k h = pow-le-pow_right {n = 10} (omega arith) h

pub joined_within : (ds es : List ℕ) → are_digits ds ≡ true → are_digits es ≡ true → length ds + length es ≤ 38
    → value_of ds * 10 ^ length es + value_of es < 10 ^ 38
joined_within ds es d e few =
    let bound = value_after-bound 0 (ds ++ es) (AreDigits-append ds es (some_digits ds d).0 (some_digits es e).0) in
    let many = length-append ds es in
    let most = ten_within (length (ds ++ es)) (omega (arith, many, few)) in
    let whole : value_of (ds ++ es) < 10 ^ 38 = omega (arith, bound, most) in
    subst (λ n. n < 10 ^ 38) (value_joined ds es) whole

pub decimal_is : (ds es : List ℕ) → are_digits ds ≡ true → are_digits es ≡ true → length ds + length es ≤ 38
    → reduced (pos (value_of ds * 10 ^ length es + value_of es)) (pos (10 ^ length es)) ≡ value_in (Decimal ds es)
decimal_is ds es d e few = rw (d, e, le-leb (length ds + length es) 38 few, value_joined ds es) refl
