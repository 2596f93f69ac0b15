-- The text of a number that isn't negative is a number text with its value.
use Rattle.std.proofs.Common.{◌≡◌, ◌≢◌, ℕ, ◌+◌, ◌^◌, ◌<◌, ◌≤◌, ℤ, pos, negsuc, ◌*ℤ◌, ◌≤ℤ◌, Bool, true, false, cond, nat_le, List, [], ◌∷◌, ◌++◌, length, Option, Some, None, refl, sym, ap, ◌∙◌, subst, arith, codes}
use Rattle.std.specs.Char.{is_ascii_digit}
use Rattle.std.specs.Fmt.{decimal, signed_decimal}
use Rattle.std.specs.Ordering.{int_eq}
use Rattle.std.proofs.lemmas.List.{append-nil}
use Rattle.std.proofs.lemmas.Fmt.{digits_decimal, digits_value-decimal, decimal_nonempty, length-decimal-le}
use Rattle.std.proofs.lemmas.Str.Parse.{IsDigitsTest, FoldsDigits, IsNumeralModel, numerals_by_fold}
use Rattle.std.proofs.lemmas.Int.{ints}
use Rattle.std.proofs.lemmas.Bool.Decides.{nat_tests, Decides-int_eq}
use Rattle.um_frac.specs.declared.number.Frac.{Frac}
use Rattle.um_frac.specs.Range.{greatest}
use Rattle.um_frac.specs.Fraction.{numerator, denominator, reduced}
use Rattle.um_frac.proofs.LowestTerms.{reduced_from}
use Rattle.um_syntax.specs.Numeral.{AreDigits, IsDigits, value_after, value_of, Numeral, Whole, Ratio, numeral_text, IsNumeral, ordinary_value, power_value}
use Rattle.um_show.specs.NumberText.{number_text, divisor_text}

in_range : (c : ℕ) → is_ascii_digit c ≡ true → (48 ≤ c) × (c ≤ 57)
in_range c e = grind (arith, nat_tests)

is_digit : (c : ℕ) → 48 ≤ c → c ≤ 57 → is_ascii_digit c ≡ true
is_digit c low high = grind (arith, nat_tests)

test : IsDigitsTest AreDigits
test = record {
  empty = tt;
  parts = λ c cs p. (in_range c p.0, p.1);
  more = λ c cs r p. (is_digit c r.0 r.1, p);
}

folds : FoldsDigits value_after
folds = record {
  empty = λ n. refl;
  more = λ n c cs r. ap (λ m. value_after m cs) (omega arith);
}

digits_model : IsNumeralModel AreDigits value_of
digits_model = numerals_by_fold AreDigits test value_after folds

some_digits : (ds : List ℕ) → AreDigits ds → 0 < length ds → IsDigits ds
some_digits [] a h = absurd (omega (arith, h))
some_digits (d ∷ ds) a h = a

pub decimal_digits : (n : ℕ) → n < 2 ^ 64 → IsDigits (decimal n)
decimal_digits n h = some_digits (decimal n) (digits_decimal digits_model n h) (decimal_nonempty n h)

pub decimal_value : (n : ℕ) → n < 2 ^ 64 → value_of (decimal n) ≡ n
decimal_value n h = digits_value-decimal digits_model n h

-- a number text that has the value of a number, and is what is printed for it
pub record NumeralOf (c : Frac) : Type 0 where
  pub numeral : Numeral
  pub printed : numeral_text numeral ≡ number_text c
  pub fits : IsNumeral numeral
  pub value : ordinary_value numeral ≡ Some c

allowed : (count : ℕ) (c : Frac) → count ≤ 38 → (value : Option Frac) → value ≡ Some c → cond (nat_le count 38) value None ≡ Some c
allowed count c few value is = let t : nat_le count 38 ≡ true = grind (arith, nat_tests) in ap (λ b. cond b value None) t ∙ is

-- the parts of a fraction are in the range
in_reach : (c : Frac) (n : ℕ) → numerator c ≡ pos n → n < 10 ^ 19
in_reach c n e = let h : pos n ≤ℤ pos greatest = subst (λ z. z ≤ℤ pos greatest) e c.num_fits in omega (arith, ints)

below_reach : (c : Frac) (d : ℕ) → denominator c ≡ pos d → (0 < d) × (d < 10 ^ 19)
below_reach c d e =
    let h : pos d ≤ℤ pos greatest = subst (λ z. z ≤ℤ pos greatest) e c.den_fits in let k : pos 1 ≤ℤ pos d = subst (λ z. pos 1 ≤ℤ z) e c.positive in
    (omega (arith, ints), omega (arith, ints))

whole_is : (c : Frac) (n : ℕ) → numerator c ≡ pos n → denominator c ≡ pos 1 → NumeralOf c
whole_is c n e f =
    let small = in_reach c n e in
    let text : number_text c ≡ decimal n = ap (λ z. signed_decimal z ++ divisor_text (denominator c)) e ∙ ap (λ z. decimal n ++ divisor_text z) f ∙ append-nil (decimal n) in
    let quotient : numerator c *ℤ pos 1 ≡ pos n *ℤ denominator c = ap (λ z. z *ℤ pos 1) e ∙ ap (λ z. pos n *ℤ z) (sym f) in
    let value : reduced (pos (value_of (decimal n))) (pos 1) ≡ Some c = ap (λ m. reduced (pos m) (pos 1)) (decimal_value n (omega (arith, small))) ∙ reduced_from c (pos n) (pos 1) (one_zero, quotient) in
    record {
      numeral = Whole (decimal n);
      printed = sym text;
      fits = decimal_digits n (omega (arith, small));
      value = allowed (length (decimal n)) c (omega (arith, length-decimal-le 19 n (omega arith) small (omega (arith, small)))) _ value;
    }
  where
    one_zero : pos 1 ≢ pos 0
    one_zero e = cc

ratio_is : (c : Frac) (n d : ℕ) → numerator c ≡ pos n → denominator c ≡ pos d → int_eq (pos d) (pos 1) ≡ false → NumeralOf c
ratio_is c n d e f more =
    let small = in_reach c n e in let below = below_reach c d f in
    let over : divisor_text (pos d) ≡ codes "r" ++ decimal d = ap (λ b. cond b [] (codes "r" ++ decimal d)) more in
    let text : number_text c ≡ decimal n ++ (codes "r" ++ decimal d) = ap (λ z. signed_decimal z ++ divisor_text (denominator c)) e ∙ ap (λ z. decimal n ++ divisor_text z) f ∙ ap (λ s. decimal n ++ s) over in
    let quotient : numerator c *ℤ pos d ≡ pos n *ℤ denominator c = ap (λ z. z *ℤ pos d) e ∙ ap (λ z. pos n *ℤ z) (sym f) in
    let value : reduced (pos (value_of (decimal n))) (pos (value_of (decimal d))) ≡ Some c = ap (λ m. reduced (pos m) (pos (value_of (decimal d)))) (decimal_value n (omega (arith, small))) ∙ ap (λ m. reduced (pos n) (pos m)) (decimal_value d (omega (arith, below.1))) ∙ reduced_from c (pos n) (pos d) (no_zero below.0, quotient) in
    record {
      numeral = Ratio (decimal n) (decimal d);
      printed = sym text;
      fits = (decimal_digits n (omega (arith, small)), decimal_digits d (omega (arith, below.1)));
      value = allowed (length (decimal n) + length (decimal d)) c (omega (arith, length-decimal-le 19 n (omega arith) small (omega (arith, small)), length-decimal-le 19 d (omega arith) below.1 (omega (arith, below.1)))) _ value;
    }
  where
    no_zero : 0 < d → pos d ≢ pos 0
    no_zero h z = let w : d ≡ 0 = cc in omega (arith, h, w)

by_divisor : (c : Frac) (n d : ℕ) → numerator c ≡ pos n → denominator c ≡ pos d → (b : Bool) → int_eq (pos d) (pos 1) ≡ b → NumeralOf c
by_divisor c n d e f true t = whole_is c n e (f ∙ (Decides-int_eq (pos d) (pos 1)).0 t)
by_divisor c n d e f false t = ratio_is c n d e f t

by_denominator : (c : Frac) (n : ℕ) → numerator c ≡ pos n → (z : ℤ) → denominator c ≡ z → NumeralOf c
by_denominator c n e (pos d) f = by_divisor c n d e f (int_eq (pos d) (pos 1)) refl
by_denominator c n e (negsuc d) f = absurd (let h : pos 1 ≤ℤ negsuc d = subst (λ z. pos 1 ≤ℤ z) f c.positive in omega (arith, ints))

pub numeral_of : (c : Frac) (n : ℕ) → numerator c ≡ pos n → NumeralOf c
numeral_of c n e = by_denominator c n e (denominator c) refl

-- digits up to the greatest power are a number text, as a power or not
pub power_is : (n : ℕ) → n ≤ 2147483647 → (power_value (Whole (decimal n)) ≡ reduced (pos n) (pos 1)) × (ordinary_value (Whole (decimal n)) ≡ reduced (pos n) (pos 1))
power_is n h =
    let value : value_of (decimal n) ≡ n = decimal_value n (omega (arith, h)) in
    let few : length (decimal n) ≤ 19 = length-decimal-le 19 n (omega arith) (omega (arith, h)) (omega (arith, h)) in
    let low : nat_le n 2147483647 ≡ true = grind (arith, nat_tests) in let short : nat_le (length (decimal n)) 38 ≡ true = grind (arith, nat_tests) in
    (ap (λ m. cond (nat_le m 2147483647) (reduced (pos m) (pos 1)) None) value ∙ ap (λ b. cond b (reduced (pos n) (pos 1)) None) low, ap (λ b. cond b (reduced (pos (value_of (decimal n))) (pos 1)) None) short ∙ ap (λ m. reduced (pos m) (pos 1)) value)
