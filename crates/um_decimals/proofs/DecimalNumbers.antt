-- Decimal numbers of fractions: their sizes, and when they are the fractions.
use Rattle.std.proofs.Common.{◌≡◌, ℕ, zero, suc, ◌+◌, ◌*◌, ◌%◌, ◌^◌, ◌<◌, ◌≤◌, Bool, true, false, ◌&&◌, not, eqb, ◌++◌, ◌-◌, List, length, take, append_assoc, pos, ◌*ℤ◌, unsigned_abs, refl, sym, ap, ◌∙◌, arith, eqb-true}
use Rattle.std.specs.Prelude.{int_lt, codes, replicate, Result, Ok, Err, is_ok, OnOk, if◌then◌else◌}
use Rattle.std.specs.Fmt.{decimal}
use Rattle.std.proofs.lemmas.List.{take-replicate}
use Rattle.std.proofs.lemmas.Int.{ints}
use Rattle.std.proofs.Math.Nat.{mul-le-mul, pow-le-pow_right}
use Rattle.std.proofs.lemmas.Bool.{eq-eqb}
use Rattle.um_frac.specs.declared.number.Frac.{Frac}
use Rattle.um_frac.specs.Fraction.{numerator, denominator, signed}
use Rattle.um_frac.proofs.LowestTerms.{above_zero, signed_size, signed_times, signed_abs}
use Rattle.um_decimals.specs.Decimals.{nearest, scaled_size, last_digits, is_exact, is_below_zero, marks_text, digits_text, decimal_text, padded}
use Rattle.um_decimals.specs.Laws.{DecimalIsNearest, ExactlyTheFraction}
use Rattle.um_decimals.proofs.Nearest.{nearest_is_nearest, nearest_small, exact_by_rest}

pub den_positive : (x : Frac) → 0 < unsigned_abs (denominator x)
den_positive x = omega (arith, ints, x.positive)

pub decimal_is_nearest : DecimalIsNearest
decimal_is_nearest k x = nearest_is_nearest (scaled_size k x) (unsigned_abs (denominator x)) (den_positive x)

-- ---- sizes

-- a power of ten is above 0
pub tens_positive : (k : ℕ) → 0 < 10 ^ k
tens_positive zero = omega arith
tens_positive (suc k) = let e : 10 ^ suc k ≡ 10 * 10 ^ k = grind arith in omega (arith, e, tens_positive k)

pub tens_small : (k : ℕ) → k ≤ 18 → 10 ^ k ≤ 10 ^ 18
tens_small k few = pow-le-pow_right (omega arith) few

-- a product of a number of 64 bits and a power of ten fits
pub scaled_fits : (n t : ℕ) → n ≤ 2 ^ 63 → t ≤ 10 ^ 18 → n * t < 2 ^ 126
scaled_fits n t small few =
    let most : n * t ≤ 2 ^ 63 * 10 ^ 18 = mul-le-mul small few in
    omega (arith, most)

-- and so does the nearest number, which is at most one more
pub units_fit : (n t d : ℕ) → n < 2 ^ 63 + 1 → 0 < t → 0 < d → nearest (n * t) d < 2 ^ 64 * t
units_fit n t d small positive above =
    let near = nearest_small (n * t) d above in
    let most : n * t ≤ 2 ^ 63 * t = mul-le-mul (omega (arith, small)) (omega arith) in
    let more : 2 ^ 64 * t ≡ 2 ^ 63 * t + 2 ^ 63 * t = grind arith in
    let one : 1 < 2 ^ 63 * t = omega (arith, positive) in
    omega (arith, near, most, more, one)

-- ---- the text

pub decimal_told : (k : ℕ) (x : Frac) (n d u : ℕ) (exact negative : Bool) → n ≡ scaled_size k x → d ≡ unsigned_abs (denominator x) → u ≡ nearest n d
    → exact ≡ eqb (n % d) 0 → negative ≡ (int_lt (numerator x) (pos 0) && not (eqb u 0)) → marks_text exact negative ++ digits_text k u ≡ decimal_text k x
unfolding decimal_text
decimal_told k x n d u exact negative size below near rest sign =
    let units : u ≡ last_digits k x = near ∙ (λ i. nearest (size i) (below i)) in
    let marked : exact ≡ is_exact k x =
    rest ∙ (λ i. eqb (size i % below i) 0) ∙ sym (exact_by_rest (scaled_size k x) (unsigned_abs (denominator x)) (den_positive x)) in
    let signed : negative ≡ is_below_zero k x = sign ∙ ap (λ v. int_lt (numerator x) (pos 0) && not (eqb v 0)) units in
    λ i. marks_text (marked i) (signed i) ++ digits_text k (units i)

-- ---- when it is the fraction

-- 0 has no sign
sign_kept : (b : Bool) (u : ℕ) → signed (b && not (eqb u 0)) u ≡ signed b u
sign_kept false u = refl
sign_kept true u = by (eqb u 0) refl where
  by : (b : Bool) → eqb u 0 ≡ b → signed (not b) u ≡ signed true u
  by true e = ap (signed false) (eqb-true u 0 e) ∙ ap (signed true) (sym (eqb-true u 0 e))
  by false e = refl

pub exactly_the_fraction : ExactlyTheFraction
exactly_the_fraction k x = (to, from) where
  negative : Bool
  negative = int_lt (numerator x) (pos 0)

  den : denominator x ≡ pos (unsigned_abs (denominator x))
  den = let (d, is, positive) = above_zero (denominator x) x.positive in is ∙ ap (λ z. pos (unsigned_abs z)) (sym is)

  left : signed (is_below_zero k x) (last_digits k x) *ℤ denominator x ≡ signed negative (last_digits k x * unsigned_abs (denominator x))
  left =
      (λ i. sign_kept negative (last_digits k x) i *ℤ den i)
      ∙ signed_times negative (last_digits k x) (unsigned_abs (denominator x))

  right : numerator x *ℤ pos (10 ^ k) ≡ signed negative (scaled_size k x)
  right = ap (λ z. z *ℤ pos (10 ^ k)) (sym (signed_size (numerator x))) ∙ signed_times negative (unsigned_abs (numerator x)) (10 ^ k)

  to : is_exact k x ≡ true → signed (is_below_zero k x) (last_digits k x) *ℤ denominator x ≡ numerator x *ℤ pos (10 ^ k)
  to h = left ∙ ap (signed negative) (eqb-true (last_digits k x * unsigned_abs (denominator x)) (scaled_size k x) h) ∙ sym right

  from : signed (is_below_zero k x) (last_digits k x) *ℤ denominator x ≡ numerator x *ℤ pos (10 ^ k) → is_exact k x ≡ true
  from e =
      let same = sym left ∙ e ∙ right in
      eq-eqb (last_digits k x * unsigned_abs (denominator x)) (scaled_size k x)
      (sym (signed_abs negative (last_digits k x * unsigned_abs (denominator x))) ∙ ap unsigned_abs same ∙ signed_abs negative (scaled_size k x))

-- ---- zeros before a number

abbrev pub eighteen_zeros : List ℕ
eighteen_zeros = codes "000000000000000000"

leading_zeros : (k n : ℕ) → k ≤ 18 → take (k - n) eighteen_zeros ≡ replicate (k - n) 48
leading_zeros k n few = take-replicate (k - n) 18 48 (omega (arith, few))

padded_from : (before mid after written : List ℕ) (k n : ℕ) → k ≤ 18 → written ≡ decimal n → mid ≡ before ++ take (k - length written) eighteen_zeros
    → after ≡ mid ++ written → after ≡ before ++ padded k n
padded_from before mid after written k n few is first second =
    second ∙ (λ i. first i ++ is i) ∙ append_assoc before (take (k - length written) eighteen_zeros) (decimal n)
    ∙ ap (λ (zeros : List ℕ). before ++ (zeros ++ decimal n))
    (leading_zeros k (length written) few ∙ ap (λ (ds : List ℕ). replicate (k - length ds) 48) is)

pub padded_added : {T E : Type 0} (r : Result T E) (before mid after written : List ℕ) (k n : ℕ) → k ≤ 18 → written ≡ decimal n
    → mid ≡ before ++ take (k - length written) eighteen_zeros → after ≡ if◌then◌else◌ (is_ok r) (mid ++ written) mid → OnOk r (after ≡ before ++ padded k n)
padded_added (Ok x) before mid after written k n few is first second = padded_from before mid after written k n few is first second
padded_added (Err e) before mid after written k n few is first second = tt
