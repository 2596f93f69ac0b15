-- What the text of a token begins with, and that a place lets it stand there.
use Rattle.std.proofs.Common.{◌≡◌, ℕ, ◌<◌, nat_lt, Bool, true, false, ◌==◌, ◌||◌, ◌&&◌, not, eqb, List, [], ◌∷◌, ◌++◌, length, refl, sym, ap, ◌∙◌, subst, arith, lit<}
use Rattle.std.proofs.lemmas.Bool.{false≢true, eqb-true, and_parts, and_from, or_from}
use Rattle.std.proofs.lemmas.Bool.Decides.{nat_tests}
use Rattle.std.proofs.lemmas.Str.{encode_ascii}
use Rattle.std.specs.Char.{is_ascii_digit, is_ascii_alphabetic, is_ascii_alphanumeric}
use lib.Utf8.{scalar, scalars, encodes, low_scalar}
use Rattle.unicode_ident.specs.Ident.{is_xid_continue}
use Rattle.unicode_ident.proofs.IdentLemmas.{is_xid_continue-ascii}
use Rattle.um_vocabulary.specs.declared.vocabulary.Keyword.{Keyword}
use Rattle.um_vocabulary.specs.declared.vocabulary.Symbol.{Symbol}
use Rattle.um_vocabulary.specs.Vocabulary.{keyword_text, symbol_text}
use Rattle.um_syntax.specs.Numeral.{AreDigits, IsDigits, Numeral, Whole, Decimal, Ratio, numeral_text, IsNumeral}
use Rattle.um_syntax.specs.Lexeme.{starts_name, IsIdentifier, Lexeme, Sign, Number, text_of, IsLexeme, begins, NumeralEnds}
use Rattle.um_syntax.proofs.Reading.{ascii_no_name, digit_no_name}
use Rattle.um_syntax.proofs.WordLetters.{are_letters, keyword_letters}
use Rattle.um_syntax.proofs.Texts.{head_of}
use Rattle.um_syntax.proofs.Digits.{IsDigits-are}
use Rattle.um_show.proofs.Apart.{are_marks, is_mark, both_true, sign_marks, sign_begins}
use Rattle.um_show.proofs.Chain.{Place, fresh, full, raised, lowered, pointed, role, after_role, is_second, is_slash, takes_letter, is_fresh, takes_digit, takes_blank, takes_sign, Clear, is_behind, is_raised, is_power}
use Rattle.um_show.proofs.SignRoles.{and_no, role_is, part_clear}

-- ---- characters of the ASCII range

abbrev pub AllLow : List ℕ → Type 0
AllLow [] = Unit {0}
AllLow (c ∷ cs) = (c < 128) × AllLow cs

pub low_encoded : (cs : List ℕ) → AllLow cs → encodes cs ≡ cs
low_encoded [] h = refl
low_encoded (c ∷ cs) h = ap (λ x. x ++ encodes cs) (encode_ascii c h.0) ∙ ap (λ x. c ∷ x) (low_encoded cs h.1)

pub low_scalars : (cs : List ℕ) → AllLow cs → scalars cs ≡ true
low_scalars [] h = refl
low_scalars (c ∷ cs) h = and_from (scalar c) (scalars cs) (low_scalar c (let small = h.0 in omega (arith, small))) (low_scalars cs h.1)

pub scalars_append : (xs ys : List ℕ) → scalars xs ≡ true → scalars ys ≡ true → scalars (xs ++ ys) ≡ true
scalars_append [] ys p q = q
scalars_append (x ∷ xs) ys p q = let h = and_parts (scalar x) (scalars xs) p in and_from (scalar x) (scalars (xs ++ ys)) h.0 (scalars_append xs ys h.1 q)

low_append : (xs ys : List ℕ) → AllLow xs → AllLow ys → AllLow (xs ++ ys)
low_append [] ys h k = k
low_append (x ∷ xs) ys h k = (h.0, low_append xs ys h.1 k)

digit_low : (c : ℕ) → is_ascii_digit c ≡ true → c < 128
digit_low c e = grind (arith, nat_tests)

digits_low : (ds : List ℕ) → AreDigits ds → AllLow ds
digits_low [] a = tt
digits_low (d ∷ ds) a = (digit_low d a.0, digits_low ds a.1)

some_low : (ds : List ℕ) → IsDigits ds → AllLow ds
some_low ds i = digits_low ds (IsDigits-are ds i).0

pub numeral_low : (n : Numeral) → IsNumeral n → AllLow (numeral_text n)
numeral_low (Whole ds) i = some_low ds i
numeral_low (Decimal w q) i = low_append w (46 ∷ q) (some_low w i.0) (lit< tt, some_low q i.1)
numeral_low (Ratio a b) i = low_append a (114 ∷ b) (some_low a i.0) (lit< tt, some_low b i.1)

letter_low : (c : ℕ) → is_ascii_alphabetic c ≡ true → c < 128
letter_low c e = grind (arith, nat_tests)

letters_low : (cs : List ℕ) → are_letters cs ≡ true → AllLow cs
letters_low [] e = tt
letters_low (c ∷ cs) e = let p = both_true (is_ascii_alphabetic c) (are_letters cs) e in (letter_low c p.0, letters_low cs p.1)

pub word_low : (k : Keyword) → AllLow (keyword_text k)
word_low k = letters_low (keyword_text k) (keyword_letters k)

mark_low : (c : ℕ) → nat_lt c 128 ≡ true → c < 128
mark_low c e = grind (arith, nat_tests)

marks_low : (cs : List ℕ) → are_marks cs ≡ true → AllLow cs
marks_low [] e = tt
marks_low (c ∷ cs) e =
    let p = both_true (nat_lt c 128) (is_mark c && are_marks cs) e in
    (mark_low c p.0, marks_low cs (both_true (is_mark c) (are_marks cs) p.1).1)

pub sign_low : (k : Symbol) → AllLow (symbol_text k)
sign_low k = marks_low (symbol_text k) (sign_marks k)

-- ---- the first characters of tokens

letter_apart : (c x : ℕ) → starts_name c ≡ true → x < 128 → (eqb x 95 || is_ascii_alphabetic x) ≡ false → eqb c x ≡ false
letter_apart c x s small none = go (eqb c x) refl
  where
    go : (b : Bool) → eqb c x ≡ b → eqb c x ≡ false
    go false e = e
    go true e = absurd (false≢true (sym (ascii_no_name x small none) ∙ ap starts_name (sym (eqb-true c x e)) ∙ s))

letter_no_second : (c : ℕ) → starts_name c ≡ true → is_second c ≡ false
letter_no_second c s =
    or_from _ _ (letter_apart c 60 s (lit< tt) refl) (or_from _ _ (letter_apart c 61 s (lit< tt) refl) (or_from _ _ (letter_apart c 62 s (lit< tt) refl)
    (or_from _ _ (letter_apart c 58 s (lit< tt) refl) (or_from _ _ (letter_apart c 124 s (lit< tt) refl) (letter_apart c 38 s (lit< tt) refl)))))

letter_no_digit : (c : ℕ) → starts_name c ≡ true → is_ascii_digit c ≡ false
letter_no_digit c s = go (is_ascii_digit c) refl
  where
    go : (b : Bool) → is_ascii_digit c ≡ b → is_ascii_digit c ≡ false
    go false e = e
    go true e = absurd (false≢true (sym (digit_no_name c e) ∙ s))

digit_no_second : (c : ℕ) → is_ascii_digit c ≡ true → is_second c ≡ false
digit_no_second c e = grind (arith, nat_tests)

digit_no_slash : (c : ℕ) → is_ascii_digit c ≡ true → is_slash c ≡ false
digit_no_slash c e = grind (arith, nat_tests)

-- a name, a word or `_`
pub letter_clear : (s : Place) → takes_letter s ≡ true → (text : List ℕ) → IsIdentifier text → (more : List ℕ) → Clear s (text ++ more)
letter_clear s m [] i more = absurd i
letter_clear (fresh g d) m (c ∷ cs) i more = (and_no g (is_second c) (letter_no_second c i.0), and_no d (is_slash c) (letter_apart c 47 i.0 (lit< tt) refl))
letter_clear full m (c ∷ cs) i more = absurd (false≢true m)
letter_clear raised m (c ∷ cs) i more = absurd (false≢true m)
letter_clear lowered m (c ∷ cs) i more = absurd (false≢true m)
letter_clear pointed m (c ∷ cs) i more = letter_no_digit c i.0

-- a variable
pub quote_clear : (s : Place) → is_fresh s ≡ true → (more : List ℕ) → Clear s (39 ∷ more)
quote_clear (fresh g d) m more = (and_no g false refl, and_no d false refl)
quote_clear full m more = absurd (false≢true m)
quote_clear raised m more = absurd (false≢true m)
quote_clear lowered m more = absurd (false≢true m)
quote_clear pointed m more = absurd (false≢true m)

-- a number
digit_clear : (s : Place) → takes_digit s ≡ true → (c : ℕ) → is_ascii_digit c ≡ true → (more : List ℕ) → Clear s (c ∷ more)
digit_clear (fresh g d) m c e more = (and_no g (is_second c) (digit_no_second c e), and_no d (is_slash c) (digit_no_slash c e))
digit_clear full m c e more = absurd (false≢true m)
digit_clear raised m c e more = tt
digit_clear lowered m c e more = digit_no_second c e
digit_clear pointed m c e more = absurd (false≢true m)

pub numeral_clear : (s : Place) → takes_digit s ≡ true → (n : Numeral) → IsNumeral n → (more : List ℕ) → Clear s (numeral_text n ++ more)
numeral_clear s m n i more = let h = head_of (Number n) i in subst (λ t. Clear s (t ++ more)) (sym h.2) (digit_clear s m h.0 h.3 (h.1 ++ more))

pub fresh_takes_digit : (s : Place) → is_fresh s ≡ true → takes_digit s ≡ true
fresh_takes_digit (fresh g d) m = refl
fresh_takes_digit full m = m
fresh_takes_digit raised m = refl
fresh_takes_digit lowered m = refl
fresh_takes_digit pointed m = m

pub fresh_no_power : (s : Place) → is_fresh s ≡ true → is_power s ≡ false
fresh_no_power (fresh g d) m = refl
fresh_no_power full m = refl
fresh_no_power raised m = absurd (false≢true m)
fresh_no_power lowered m = absurd (false≢true m)
fresh_no_power pointed m = refl

-- a sign
some_text : (lexeme : Lexeme) → IsLexeme lexeme → 0 < length (text_of lexeme)
some_text lexeme fits = let h = head_of lexeme fits in subst (λ t. 0 < length t) (sym h.2) (omega arith)

begins_first : (f : ℕ → Bool) (t more : List ℕ) → 0 < length t → begins f (t ++ more) ≡ begins f t
begins_first f [] more some = absurd (omega (arith, some))
begins_first f (c ∷ cs) more some = refl

kept_apart : (a g : Bool) → (not a || not g) ≡ true → (g && a) ≡ false
kept_apart true true e = absurd (false≢true e)
kept_apart true false e = refl
kept_apart false true e = refl
kept_apart false false e = refl

pub sign_clear : (s : Place) (k : Symbol) → takes_sign s (symbol_text k) ≡ true → (more : List ℕ) → Clear (after_role (role k) s) more → Clear s (symbol_text k ++ more)
sign_clear (fresh g d) k m more clear =
    let some = some_text (Sign k) tt in
    let p = and_parts (not (begins is_second (symbol_text k)) || not g) (not (begins is_slash (symbol_text k)) || not d) m in (
      ap (λ b. g && b) (begins_first is_second (symbol_text k) more some) ∙ kept_apart (begins is_second (symbol_text k)) g p.0,
      ap (λ b. d && b) (begins_first is_slash (symbol_text k) more some) ∙ kept_apart (begins is_slash (symbol_text k)) d p.1,
    )
sign_clear full k m more clear = (sign_begins k more, part_clear (role k) (symbol_text k) more full (role_is k).begins_as clear (some_text (Sign k) tt))
sign_clear raised k m more clear = tt
sign_clear lowered k m more clear = absurd (false≢true m)
sign_clear pointed k m more clear = absurd (false≢true m)

-- white space
pub blank_clear : (s : Place) → takes_blank s ≡ true → (c : ℕ) → is_second c ≡ false → is_slash c ≡ false → is_xid_continue c ≡ false → (eqb c 46 || eqb c 114) ≡ false → (more : List ℕ) → Clear s (c ∷ more)
blank_clear (fresh g d) m c no_second no_slash stops no_part more = (and_no g (is_second c) no_second, and_no d (is_slash c) no_slash)
blank_clear full m c no_second no_slash stops no_part more = (stops, ap (λ b. b && begins is_ascii_digit more) no_part)
blank_clear raised m c no_second no_slash stops no_part more = absurd (false≢true m)
blank_clear lowered m c no_second no_slash stops no_part more = absurd (false≢true m)
blank_clear pointed m c no_second no_slash stops no_part more = absurd (false≢true m)

-- what is blank stands behind no `^`
pub blank_behind : (s : Place) → takes_blank s ≡ true → (is_behind s ≡ true) × (is_raised s ≡ false) × (is_power s ≡ false)
blank_behind (fresh g d) m = (m, refl, refl)
blank_behind full m = (refl, refl, refl)
blank_behind raised m = absurd (false≢true m)
blank_behind lowered m = absurd (false≢true m)
blank_behind pointed m = absurd (false≢true m)

-- ---- where numbers end

digit_continues : (c : ℕ) → is_ascii_digit c ≡ true → (is_ascii_alphanumeric c || (c == 95)) ≡ true
digit_continues c e = grind (arith, nat_tests)

no_digit : (more : List ℕ) → begins is_xid_continue more ≡ false → begins is_ascii_digit more ≡ false
no_digit [] e = refl
no_digit (c ∷ cs) e = go (is_ascii_digit c) refl
  where
    go : (b : Bool) → is_ascii_digit c ≡ b → is_ascii_digit c ≡ false
    go false d = d
    go true d = absurd (false≢true (sym e ∙ is_xid_continue-ascii c (digit_low c d) ∙ digit_continues c d))

pub numeral_ends : (n : Numeral) (more : List ℕ) → Clear full more → NumeralEnds n more
numeral_ends (Whole ds) more clear = (no_digit more clear.0, clear.1)
numeral_ends (Decimal w q) more clear = no_digit more clear.0
numeral_ends (Ratio a b) more clear = no_digit more clear.0
