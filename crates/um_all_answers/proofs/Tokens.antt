-- Texts that are one token each.
use Rattle.std.proofs.Common.{◌≡◌, ℕ, ◌≤◌, pos, Bool, true, ◌||◌, ◌&&◌, nat_le, List, [], ◌∷◌, Some, option_map, refl, sym, ap, ◌∙◌, arith, bytes_eq, codes}
use Rattle.std.proofs.lemmas.Bool.Decides.{nat_tests}
use Rattle.std.proofs.lemmas.Int.{ints}
use Rattle.std.specs.Fmt.{decimal}
use Rattle.um_frac.specs.declared.number.Frac.{Frac}
use Rattle.um_frac.specs.Fraction.{numerator, reduced}
use Rattle.um_frac.proofs.Gcd.{gcd-one}
use Rattle.um_frac.proofs.LowestTerms.{fraction_from}
use Rattle.um_frac.proofs.Outcomes.{reduced-whole}
use Rattle.um_syntax.specs.declared.token.Kind.TheVariants as kind_is
use Rattle.um_vocabulary.specs.declared.vocabulary.Keyword.{Keyword}
use Rattle.um_vocabulary.specs.declared.vocabulary.Symbol.{Symbol}
use Rattle.um_vocabulary.specs.Vocabulary.{keyword_text, symbol_text}
use Rattle.um_syntax.specs.Numeral.{Numeral, Whole, numeral_text, IsNumeral, ordinary_value}
use Rattle.um_syntax.specs.Lexeme.{Name, Number, Word, Hole, Sign, is_whole, kind_of}
use Rattle.um_syntax.proofs.WordLetters.{keyword_identifier}
use Rattle.um_syntax.proofs.Texts.{hole_encoded}
use Rattle.um_unit_texts.specs.UnitTokens.{greatest_power}
use Rattle.um_show.proofs.Numbers.{power_is, decimal_digits}
use Rattle.um_show.proofs.Chain.{Place, full, raised, role, after_role, takes_letter, is_fresh, takes_sign, is_raised, IsGoodName}
use Rattle.um_show.proofs.SignRoles.{role_is, sign_stops, raised_after, power_after, behind_after}
use Rattle.um_show.proofs.Beginnings.{low_encoded, low_scalars, numeral_low, word_low, sign_low, letter_clear, numeral_clear, fresh_takes_digit, fresh_no_power, sign_clear, numeral_ends}
use Rattle.um_all_answers.proofs.Segments.{IsOneToken}

pub name_token : (x : List ℕ) (s : Place) → IsGoodName x → takes_letter s ≡ true → IsOneToken x s full (kind_is.Name x)
name_token x s g m = record {
  lexeme = Name g.text;
  fits = g.named;
  is = record { scalars = g.scalars; encoded = g.bytes };
  ends = λ more c. (c.0, tt);
  clear = λ more c. letter_clear s m g.text g.named.0 more;
  kind = ap (λ (y : List ℕ). Some (kind_is.Name y)) g.bytes;
  caret = refl;
  power = refl;
  behind = refl;
}

pub word_token : (k : Keyword) (s : Place) → takes_letter s ≡ true → IsOneToken (keyword_text k) s full (kind_is.Word k)
word_token k s m = record {
  lexeme = Word k;
  fits = tt;
  is = record { scalars = low_scalars (keyword_text k) (word_low k); encoded = low_encoded (keyword_text k) (word_low k) };
  ends = λ more c. (c.0, tt);
  clear = λ more c. letter_clear s m (keyword_text k) (keyword_identifier k) more;
  kind = refl;
  caret = refl;
  power = refl;
  behind = refl;
}

pub hole_token : (s : Place) → takes_letter s ≡ true → IsOneToken (codes "_") s full kind_is.Hole
hole_token s m = record {
  lexeme = Hole;
  fits = tt;
  is = record { scalars = refl; encoded = hole_encoded };
  ends = λ more c. (c.0, tt);
  clear = λ more c. letter_clear s m (95 ∷ []) (refl, tt) more;
  kind = refl;
  caret = refl;
  power = refl;
  behind = refl;
}

pub sign_token : (k : Symbol) (s : Place) → takes_sign s (symbol_text k) ≡ true → IsOneToken (symbol_text k) s (after_role (role k) s) (kind_is.Sign k)
sign_token k s m = record {
  lexeme = Sign k;
  fits = tt;
  is = record { scalars = low_scalars (symbol_text k) (sign_low k); encoded = low_encoded (symbol_text k) (sign_low k) };
  ends = λ more c. (sign_stops k s more c, tt);
  clear = λ more c. sign_clear s k m more c;
  kind = refl;
  caret = (role_is k).caret ∙ raised_after (role k) s;
  power = (λ i. (role_is k).caret i || ((role_is k).minus i && is_raised s)) ∙ power_after (role k) s;
  behind = behind_after (role k) s;
}

-- a number text of this value
pub numeral_token : (n : Numeral) (c : Frac) (s : Place) → IsNumeral n → ordinary_value n ≡ Some c → is_fresh s ≡ true
    → IsOneToken (numeral_text n) s full (kind_is.Number c (is_whole n) (bytes_eq (numeral_text n) (49 ∷ [])))
numeral_token n c s is value m = record {
  lexeme = Number n;
  fits = is;
  is = record { scalars = low_scalars (numeral_text n) (numeral_low n is); encoded = low_encoded (numeral_text n) (numeral_low n is) };
  ends = λ more clear. (numeral_ends n more clear, clear.0);
  clear = λ more clear. numeral_clear s (fresh_takes_digit s m) n is more;
  kind =
      ap (λ b. kind_of b (Number n)) (fresh_no_power s m)
      ∙ ap (option_map (λ v. kind_is.Number v (is_whole n) (bytes_eq (numeral_text n) (49 ∷ [])))) value;
  caret = refl;
  power = refl;
  behind = refl;
}

-- ---- a power

-- a whole number as a fraction
whole_fraction : (n : ℕ) → n ≤ 2147483647 → (v : Frac) × (numerator v ≡ pos n) × (reduced (pos n) (pos 1) ≡ Some v)
whole_fraction n h =
    let v : Frac = record { num = pos n; den = pos 1; positive = omega (arith, ints); den_fits = omega (arith, ints); above = omega (arith, ints, h); num_fits = omega (arith, ints, h); lowest = gcd-one n } in
    (v, refl, reduced-whole (pos n) ∙ sym (fraction_from (pos n) (pos 1) v refl refl))

-- the digits of a power, directly after `^`
pub record PowerToken (n : ℕ) : Type 0 where
  pub value : Frac
  pub one : Bool
  pub above : numerator value ≡ pos n
  pub low : nat_le n greatest_power ≡ true
  pub token : IsOneToken (decimal n) raised full (kind_is.Number value true one)

pub power_token : (n : ℕ) → n ≤ 2147483647 → PowerToken n
power_token n h =
    let v = whole_fraction n h in let fits = decimal_digits n (omega (arith, h)) in
    let one = bytes_eq (decimal n) (49 ∷ []) in
    record {
      value = v.0;
      one = one;
      above = v.1;
      low = grind (arith, nat_tests);
      token = record {
        lexeme = Number (Whole (decimal n));
        fits = fits;
        is = record { scalars = low_scalars (decimal n) (numeral_low (Whole (decimal n)) fits); encoded = low_encoded (decimal n) (numeral_low (Whole (decimal n)) fits) };
        ends = λ more clear. (numeral_ends (Whole (decimal n)) more clear, clear.0);
        clear = λ more clear. numeral_clear raised refl (Whole (decimal n)) fits more;
        kind = ap (option_map (λ w. kind_is.Number w true one)) ((power_is n h).0 ∙ v.2);
        caret = refl;
        power = refl;
        behind = refl;
      };
    }
