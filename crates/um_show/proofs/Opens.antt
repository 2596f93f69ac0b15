-- A piece that may stand at a place is the text of a token there.
use Rattle.std.proofs.Common.{◌≡◌, ℕ, ◌≤◌, pos, Bool, true, false, ◌||◌, ◌&&◌, nat_le, List, [], ◌∷◌, ◌++◌, Some, option_map, refl, sym, ap, ◌∙◌, arith, lit<, bytes_eq, encode_utf8_all, inl}
use Rattle.std.proofs.lemmas.Bool.{false≢true}
use Rattle.std.proofs.lemmas.Bool.Decides.{nat_tests}
use Rattle.std.proofs.lemmas.Int.{ints}
use Rattle.std.proofs.lemmas.Fmt.{decimal_digit}
use Rattle.std.proofs.lemmas.Str.{encode_ascii}
use Rattle.std.specs.Fmt.{decimal}
use Rattle.std.specs.Str.{all_scalars}
use lib.Utf8.{encodes}
use Rattle.um_frac.specs.declared.number.Frac.{Frac}
use Rattle.um_frac.specs.Fraction.{numerator, reduced}
use Rattle.um_frac.proofs.Gcd.{gcd-one}
use Rattle.um_frac.proofs.LowestTerms.{fraction_from}
use Rattle.um_frac.proofs.Outcomes.{reduced-whole}
use Rattle.um_syntax.specs.declared.token.Kind.{Kind}
use Rattle.um_syntax.specs.declared.token.Kind.TheVariants as kind_is
use Rattle.um_vocabulary.specs.declared.vocabulary.Keyword.{Keyword}
use Rattle.um_vocabulary.specs.declared.vocabulary.Symbol.{Symbol}
use Rattle.um_vocabulary.specs.Vocabulary.{keyword_text, symbol_text}
use Rattle.um_syntax.specs.Numeral.{Whole, numeral_text, number_value}
use Rattle.um_syntax.specs.Lexeme.{Lexeme, Name, Var, Number, Word, Hole, Sign, text_of, IsLexeme, Ends, IsAlone, is_whole, kind_of}
use Rattle.um_syntax.specs.Lexing.{is_caret_kind, is_minus_kind}
use Rattle.um_syntax.proofs.WordLetters.{keyword_identifier}
use Rattle.um_syntax.proofs.Texts.{hole_encoded}
use Rattle.um_unit_texts.specs.UnitTokens.{greatest_power}
use Rattle.um_show.specs.Pieces.{Piece, name, variable, number, digits, word, sign, hole, space, line_end, piece_text}
use Rattle.um_show.proofs.PieceTokens.{IsKind}
use Rattle.um_show.proofs.Numbers.{numeral_of, power_is, decimal_digits}
use Rattle.um_show.proofs.Chain.{Place, full, role, after_role, after, takes_letter, is_fresh, takes_digit, takes_sign, may, IsGoodName, Good, Clear, is_behind, is_raised, is_power}
use Rattle.um_show.proofs.SignRoles.{role_is, sign_stops, raised_after, power_after, behind_after}
use Rattle.um_show.proofs.Beginnings.{low_encoded, low_scalars, numeral_low, word_low, sign_low, letter_clear, quote_clear, numeral_clear, fresh_takes_digit, fresh_no_power, sign_clear, numeral_ends}

-- the token that a piece is, at a place and in front of these characters
pub record Opens (p : Piece) (s : Place) (more : List ℕ) : Type 0 where
  pub lexeme : Lexeme
  pub fits : IsLexeme lexeme
  pub encoded : encodes (text_of lexeme) ≡ piece_text p
  pub scalars : all_scalars (text_of lexeme) ≡ true
  pub ends : Ends lexeme more
  pub alone : IsAlone lexeme more
  pub clears : Clear s (text_of lexeme ++ more)
  pub which : Kind
  pub kind : kind_of (is_power s) lexeme ≡ Some which
  pub is : IsKind p which
  pub caret : is_caret_kind which ≡ is_raised (after p s)
  pub power : (is_caret_kind which || (is_minus_kind which && is_raised s)) ≡ is_power (after p s)
  pub behind : is_behind (after p s) ≡ true

name_opens : (x : List ℕ) (s : Place) (more : List ℕ) → IsGoodName x → takes_letter s ≡ true → Clear full more → Opens (name x) s more
name_opens x s more g m clear = record {
  lexeme = Name g.text;
  fits = g.named;
  encoded = g.bytes;
  scalars = g.scalars;
  ends = clear.0;
  alone = tt;
  clears = letter_clear s m g.text g.named.0 more;
  which = kind_is.Name (encode_utf8_all g.text);
  kind = refl;
  is = ap kind_is.Name g.bytes;
  caret = refl;
  power = refl;
  behind = refl;
}

variable_opens : (x : List ℕ) (s : Place) (more : List ℕ) → IsGoodName x → is_fresh s ≡ true → Clear full more → Opens (variable x) s more
variable_opens x s more g m clear = record {
  lexeme = Var g.text;
  fits = g.named;
  encoded = λ i. encode_ascii 39 (lit< tt) i ++ g.bytes i;
  scalars = g.scalars;
  ends = inl clear.0;
  alone = tt;
  clears = quote_clear s m (g.text ++ more);
  which = kind_is.Var (encode_utf8_all g.text);
  kind = refl;
  is = ap kind_is.Var g.bytes;
  caret = refl;
  power = refl;
  behind = refl;
}

word_opens : (k : Keyword) (s : Place) (more : List ℕ) → takes_letter s ≡ true → Clear full more → Opens (word k) s more
word_opens k s more m clear = record {
  lexeme = Word k;
  fits = tt;
  encoded = low_encoded (keyword_text k) (word_low k);
  scalars = low_scalars (keyword_text k) (word_low k);
  ends = clear.0;
  alone = tt;
  clears = letter_clear s m (keyword_text k) (keyword_identifier k) more;
  which = kind_is.Word k;
  kind = refl;
  is = refl;
  caret = refl;
  power = refl;
  behind = refl;
}

hole_opens : (s : Place) (more : List ℕ) → takes_letter s ≡ true → Clear full more → Opens hole s more
hole_opens s more m clear = record {
  lexeme = Hole;
  fits = tt;
  encoded = hole_encoded;
  scalars = refl;
  ends = clear.0;
  alone = tt;
  clears = letter_clear s m (95 ∷ []) (refl, tt) more;
  which = kind_is.Hole;
  kind = refl;
  is = refl;
  caret = refl;
  power = refl;
  behind = refl;
}

sign_opens : (k : Symbol) (s : Place) (more : List ℕ) → takes_sign s (symbol_text k) ≡ true → Clear (after_role (role k) s) more → Opens (sign k) s more
sign_opens k s more m clear = record {
  lexeme = Sign k;
  fits = tt;
  encoded = low_encoded (symbol_text k) (sign_low k);
  scalars = low_scalars (symbol_text k) (sign_low k);
  ends = sign_stops k s more clear;
  alone = tt;
  clears = sign_clear s k m more clear;
  which = kind_is.Sign k;
  kind = refl;
  is = refl;
  caret = (role_is k).caret ∙ raised_after (role k) s;
  power = (λ i. (role_is k).caret i || ((role_is k).minus i && is_raised s)) ∙ power_after (role k) s;
  behind = behind_after (role k) s;
}

number_opens : (c : Frac) (n : ℕ) → numerator c ≡ pos n → (s : Place) (more : List ℕ) → is_fresh s ≡ true → Clear full more → Opens (number c) s more
number_opens c n e s more m clear =
    let own = numeral_of c n e in
    record {
      lexeme = Number own.numeral;
      fits = own.fits;
      encoded = low_encoded (numeral_text own.numeral) (numeral_low own.numeral own.fits) ∙ own.printed;
      scalars = low_scalars (numeral_text own.numeral) (numeral_low own.numeral own.fits);
      ends = numeral_ends own.numeral more clear;
      alone = clear.0;
      clears = numeral_clear s (fresh_takes_digit s m) own.numeral own.fits more;
      which = kind_is.Number c (is_whole own.numeral) (bytes_eq (numeral_text own.numeral) (49 ∷ []));
      kind =
          ap (λ b. kind_of b (Number own.numeral)) (fresh_no_power s m)
          ∙ ap (option_map (λ v. kind_is.Number v (is_whole own.numeral) (bytes_eq (numeral_text own.numeral) (49 ∷ [])))) own.value;
      is = (is_whole own.numeral, bytes_eq (numeral_text own.numeral) (49 ∷ []), refl);
      caret = refl;
      power = refl;
      behind = refl;
    }

-- a whole number as a fraction
whole_fraction : (n : ℕ) → n ≤ 2147483647 → (v : Frac) × (numerator v ≡ pos n) × (reduced (pos n) (pos 1) ≡ Some v)
whole_fraction n h =
    let v : Frac = record { num = pos n; den = pos 1; positive = omega (arith, ints); den_fits = omega (arith, ints); above = omega (arith, ints, h); num_fits = omega (arith, ints, h); lowest = gcd-one n } in
    (v, refl, reduced-whole (pos n) ∙ sym (fraction_from (pos n) (pos 1) v refl refl))

digits_value : (n : ℕ) → n ≤ 2147483647 → (v : Frac) → reduced (pos n) (pos 1) ≡ Some v → (power : Bool) → number_value power (Whole (decimal n)) ≡ Some v
digits_value n h v e true = (power_is n h).0 ∙ e
digits_value n h v e false = (power_is n h).1 ∙ e

-- the text of 1 is the one digit 1
one_digit : (n : ℕ) → n ≡ 1 → bytes_eq (decimal n) (49 ∷ []) ≡ true
one_digit n e = ap (λ m. bytes_eq (decimal m) (49 ∷ [])) e ∙ ap (λ t. bytes_eq t (49 ∷ [])) (decimal_digit 1 (lit< tt))

digits_opens : (n : ℕ) → n ≤ 2147483647 → (s : Place) (more : List ℕ) → takes_digit s ≡ true → Clear full more → Opens (digits n) s more
digits_opens n h s more m clear =
    let v = whole_fraction n h in let fits = decimal_digits n (omega (arith, h)) in
    let small : nat_le n greatest_power ≡ true = grind (arith, nat_tests) in
    record {
      lexeme = Number (Whole (decimal n));
      fits = fits;
      encoded = low_encoded (decimal n) (numeral_low (Whole (decimal n)) fits);
      scalars = low_scalars (decimal n) (numeral_low (Whole (decimal n)) fits);
      ends = numeral_ends (Whole (decimal n)) more clear;
      alone = clear.0;
      clears = numeral_clear s m (Whole (decimal n)) fits more;
      which = kind_is.Number v.0 true (bytes_eq (decimal n) (49 ∷ []));
      kind = ap (option_map (λ w. kind_is.Number w true (bytes_eq (decimal n) (49 ∷ [])))) (digits_value n h v.0 v.2 (is_power s));
      is = record { value = v.0; one = bytes_eq (decimal n) (49 ∷ []); is = refl; above = v.1; low = small; is_one = one_digit n };
      caret = refl;
      power = refl;
      behind = refl;
    }

abbrev pub is_token : Piece → Bool
is_token (name x) = true
is_token (variable x) = true
is_token (number c) = true
is_token (digits n) = true
is_token (word k) = true
is_token (sign k) = true
is_token hole = true
is_token space = false
is_token line_end = false

pub opens : (p : Piece) (s : Place) (more : List ℕ) → is_token p ≡ true → Good p → may s p ≡ true → Clear (after p s) more → Opens p s more
opens (name x) s more t g m clear = name_opens x s more g m clear
opens (variable x) s more t g m clear = variable_opens x s more g m clear
opens (number c) s more t g m clear = number_opens c g.0 g.1 s more m clear
opens (digits n) s more t g m clear = digits_opens n g s more m clear
opens (word k) s more t g m clear = word_opens k s more m clear
opens (sign k) s more t g m clear = sign_opens k s more m clear
opens hole s more t g m clear = hole_opens s more m clear
opens space s more t g m clear = absurd (false≢true t)
opens line_end s more t g m clear = absurd (false≢true t)
