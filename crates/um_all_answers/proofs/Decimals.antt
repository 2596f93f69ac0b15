-- Two texts are read as the number that they print: an exact decimal number, and a number that isn't negative as it is.
use Rattle.std.proofs.Common.{◌≡◌, ◌≢◌, ℕ, zero, suc, ◌+◌, ◌*◌, ◌^◌, ◌<◌, ◌≤◌, ℤ, pos, negsuc, ◌*ℤ◌, neg_ℤ, unsigned_abs, Bool, true, false, ◌&&◌, ◌==◌, not, cond, eqb-true, List, [], ◌∷◌, ◌++◌, codes, Some, bytes_eq, refl, sym, ap, ◌∙◌, arith}
use Rattle.std.specs.Prelude.{int_lt}
use Rattle.std.proofs.Math.IntN.{neg_ℤ-neg_ℤ}
use Rattle.std.proofs.Math.Nat.{pow-suc}
use Rattle.um_frac.specs.declared.number.Frac.{Frac}
use Rattle.um_frac.specs.Fraction.{numerator, denominator, reduced}
use Rattle.um_frac.specs.Arithmetic.{negation_of}
use Rattle.um_frac.proofs.LowestTerms.{above_zero, reduced_from}
use Rattle.um_frac.proofs.FractionLaws.{negation, negation_from}
use Rattle.um_syntax.specs.declared.token.Token.{Token}
use Rattle.um_syntax.specs.declared.token.Kind.TheVariants as kind
use Rattle.um_vocabulary.specs.declared.vocabulary.Symbol.TheVariants as symbol
use Rattle.um_syntax.specs.Numeral.{Numeral, numeral_text, IsNumeral, ordinary_value}
use Rattle.um_syntax.specs.Lexeme.{is_whole}
use Rattle.um_types.specs.TypeGrammar.{FirstSign}
use Rattle.um_value.specs.ValueGrammar.{FirstNumber}
use Rattle.um_value.specs.ValueNames.{signed_number}
use Rattle.um_decimals.specs.Decimals.{scaled_size, last_digits, is_exact, is_below_zero, digits_text, marks_text, decimal_text}
use Rattle.um_show.specs.NumberText.{number_text}
use Rattle.um_show.proofs.Numbers.{numeral_of}
use Rattle.um_show.proofs.Chain.{fresh, full}
use Rattle.um_display.specs.Laws.{decimal_numeral, IsReadAs}
use Rattle.um_display.proofs.ReadDecimals.{decimals_are_read}
use Rattle.um_all_answers.proofs.Segments.{Spelling, Segment, Then, segment_then, segment_as, segment_of, segment_token, FirstToken}
use Rattle.um_all_answers.proofs.Tokens.{sign_token, numeral_token}
use Rattle.um_all_answers.proofs.UnitSizes.{not_below}

-- a number after `-`, if it is negative
abbrev pub SignedSpells : ℕ → Bool → Frac → Spelling
SignedSpells at false value tokens rest = FirstNumber at value tokens rest
SignedSpells at true value tokens rest = (next : List Token) × FirstSign symbol.Minus tokens next × FirstNumber at value next rest

-- the tokens up to the rest are the number's, but for its unit
pub record IsDigitsOf (x : Frac) (tokens rest : List Token) : Type 0 where
  pub at : ℕ
  pub negative : Bool
  pub value : Frac
  pub spelled : SignedSpells at negative value tokens rest
  pub signed : signed_number negative value ≡ x
  pub zero_too : numerator x ≡ pos 0 → numerator value ≡ pos 0

plain_digits : (n : Numeral) (x : Frac) (tokens rest : List Token) (g : Bool) → FirstToken (kind.Number x (is_whole n) (bytes_eq (numeral_text n) (49 ∷ []))) g tokens rest → IsDigitsOf x tokens rest
plain_digits n x tokens rest g (token, is, glued, first) = record {
  at = token.start;
  negative = false;
  value = x;
  spelled = (token, is_whole n, bytes_eq (numeral_text n) (49 ∷ []), is, refl, first);
  signed = refl;
  zero_too = λ e. e;
}

-- a number text of the number
segment_plain : (n : Numeral) (x : Frac) (g : Bool) → IsNumeral n → ordinary_value n ≡ Some x → Segment (numeral_text n) (fresh g false) full (IsDigitsOf x)
segment_plain n x g is value =
    let k = kind.Number x (is_whole n) (bytes_eq (numeral_text n) (49 ∷ [])) in
    segment_as (numeral_text n) (fresh g false) full (FirstToken k g) (IsDigitsOf x) (λ tokens rest. plain_digits n x tokens rest g)
    (segment_token (numeral_text n) (fresh g false) full k (numeral_token n x (fresh g false) is value refl))

-- the text of a number that isn't negative, as it is
pub segment_number : (x : Frac) (n : ℕ) (g : Bool) → numerator x ≡ pos n → Segment (number_text x) (fresh g false) full (IsDigitsOf x)
segment_number x n g e =
    let own = numeral_of x n e in
    segment_of (numeral_text own.numeral) (number_text x) (fresh g false) full (IsDigitsOf x) own.printed (segment_plain own.numeral x g own.fits own.value)

minus_digits : (n : Numeral) (y x : Frac) (m : ℕ) (tokens rest : List Token) (g : Bool) → signed_number true y ≡ x → numerator x ≡ negsuc m
    → Then (FirstToken (kind.Sign symbol.Minus) g) (FirstToken (kind.Number y (is_whole n) (bytes_eq (numeral_text n) (49 ∷ []))) true) tokens rest → IsDigitsOf x tokens rest
minus_digits n y x m tokens rest g signed below (next, (minus, sign, glued, first), (token, is, behind, second)) = record {
  at = token.start;
  negative = true;
  value = y;
  spelled = (next, (minus, sign, first), (token, is_whole n, bytes_eq (numeral_text n) (49 ∷ []), is, refl, second));
  signed = signed;
  zero_too = λ e. absurd (cc (sym below ∙ e));
}

segment_minus : (n : Numeral) (y x : Frac) (m : ℕ) (g : Bool) → IsNumeral n → ordinary_value n ≡ Some y → signed_number true y ≡ x → numerator x ≡ negsuc m
    → Segment (codes "-" ++ numeral_text n) (fresh g false) full (IsDigitsOf x)
segment_minus n y x m g is value signed below =
    let k = kind.Number y (is_whole n) (bytes_eq (numeral_text n) (49 ∷ [])) in
    segment_as (codes "-" ++ numeral_text n) (fresh g false) full (Then (FirstToken (kind.Sign symbol.Minus) g) (FirstToken k true)) (IsDigitsOf x)
    (λ tokens rest. minus_digits n y x m tokens rest g signed below)
    (
    segment_then (codes "-") (numeral_text n) (fresh g false) (fresh true false) full (FirstToken (kind.Sign symbol.Minus) g) (FirstToken k true)
    (segment_token (codes "-") (fresh g false) (fresh true false) (kind.Sign symbol.Minus) (sign_token symbol.Minus (fresh g false) refl))
    (segment_token (numeral_text n) (fresh true false) full k (numeral_token n y (fresh true false) is value refl))
    )

-- ---- decimals

-- the number without its sign, by the digits' value
value_without_sign : (x y : Frac) → numerator y ≡ pos (unsigned_abs (numerator x)) → denominator y ≡ denominator x
    → reduced (pos (unsigned_abs (numerator x))) (denominator x) ≡ Some y
value_without_sign x y e f =
    let den = above_zero (denominator x) x.positive in
    reduced_from y (pos (unsigned_abs (numerator x))) (denominator x) (other den.0 den.1 den.2, (λ i. e i *ℤ sym f i))
  where
    other : (n : ℕ) → denominator x ≡ pos n → 0 < n → denominator x ≢ pos 0
    other n is some none = let z : n ≡ 0 = cc (sym is ∙ none) in omega (arith, z, some)

power_above : (k : ℕ) → 0 < 10 ^ k
power_above zero = omega arith
power_above (suc k) = let p = power_above k in rw (pow-suc 10 k) (omega (arith, p))

-- an exact number below 0 has a digit other than 0
some_digits : (k m : ℕ) (x : Frac) → numerator x ≡ negsuc m → is_exact k x ≡ true → (last_digits k x == 0) ≡ false
some_digits k m x below exact = go (last_digits k x == 0) refl where
  go : (b : Bool) → (last_digits k x == 0) ≡ b → (last_digits k x == 0) ≡ false
  go false e = e
  go true e =
      let none : last_digits k x ≡ 0 = eqb-true (last_digits k x) 0 e in
      let same : last_digits k x * unsigned_abs (denominator x) ≡ scaled_size k x = eqb-true (last_digits k x * unsigned_abs (denominator x)) (scaled_size k x) exact in
      let left : last_digits k x * unsigned_abs (denominator x) ≡ 0 * unsigned_abs (denominator x) = ap (λ n. n * unsigned_abs (denominator x)) none in
      let right : scaled_size k x ≡ suc m * 10 ^ k = ap (λ z. unsigned_abs z * 10 ^ k) below in
      let split : suc m * 10 ^ k ≡ m * 10 ^ k + 10 ^ k = grind arith in
      let zero : 0 * unsigned_abs (denominator x) ≡ 0 = grind arith in
      let some = power_above k in
      absurd (omega (arith, same, left, right, split, zero, some))

module _ (k : ℕ) (x : Frac) (few : k ≤ 18) (exact : is_exact k x ≡ true) where
  abbrev numeral : Numeral
  numeral = decimal_numeral k (last_digits k x)

  read : IsReadAs k x numeral
  read = decimals_are_read k x few exact

  marked : (negative : Bool) → is_below_zero k x ≡ negative → cond negative (codes "-") [] ++ numeral_text numeral ≡ decimal_text k x
  unfolding decimal_text
  marked negative e =
      (λ i. cond negative (codes "-") [] ++ read.printed i)
      ∙ (λ i. marks_text true (sym e i) ++ digits_text k (last_digits k x))
      ∙ (λ i. marks_text (sym exact i) (is_below_zero k x) ++ digits_text k (last_digits k x))

  by_numerator : (g : Bool) (z : ℤ) → numerator x ≡ z → Segment (decimal_text k x) (fresh g false) full (IsDigitsOf x)
  by_numerator g (pos n) e =
      let above : is_below_zero k x ≡ false = ap (λ z. int_lt z (pos 0) && not (last_digits k x == 0)) e ∙ ap (λ b. b && not (last_digits k x == 0)) (not_below n) in
      let size : numerator x ≡ pos (unsigned_abs (numerator x)) = e ∙ ap (λ z. pos (unsigned_abs z)) (sym e) in
      segment_of (numeral_text numeral) (decimal_text k x) (fresh g false) full (IsDigitsOf x) (marked false above)
      (segment_plain numeral x g read.is (read.value ∙ value_without_sign x x size refl))
  by_numerator g (negsuc m) e =
      let below : is_below_zero k x ≡ true = ap (λ z. int_lt z (pos 0) && not (last_digits k x == 0)) e ∙ ap not (some_digits k m x e exact) in
      let other = negation x in
      let y = other.0 in
      let size : numerator y ≡ pos (unsigned_abs (numerator x)) = other.1.0 ∙ ap neg_ℤ e ∙ ap (λ z. pos (unsigned_abs z)) (sym e) in
      let back : x ≡ negation_of y = negation_from y x (twice (numerator x) (numerator y) other.1.0, sym other.1.1) in
      segment_of (codes "-" ++ numeral_text numeral) (decimal_text k x) (fresh g false) full (IsDigitsOf x) (marked true below)
      (segment_minus numeral y x m g read.is (read.value ∙ value_without_sign x y size other.1.1) (sym back) e)
    where
      twice : (a b : ℤ) → b ≡ neg_ℤ a → a ≡ neg_ℤ b
      twice a b e = sym (neg_ℤ-neg_ℤ a) ∙ ap neg_ℤ (sym e)

  pub segment_decimal : (g : Bool) → Segment (decimal_text k x) (fresh g false) full (IsDigitsOf x)
  segment_decimal g = by_numerator g (numerator x) refl
