-- If the characters after a token begin alike, it ends before the others, too.
use Rattle.std.proofs.Common.{◌≡◌, ◌≢◌, ℕ, Bool, true, false, ◌==◌, ◌||◌, ◌&&◌, not, inl, inr, List, [], ◌∷◌, ◌++◌, refl, sym, ap, subst, ◌∙◌, arith}
use Rattle.std.proofs.lemmas.Bool.{false≢true}
use Rattle.std.proofs.lemmas.Bool.Decides.{nat_tests}
use Rattle.std.specs.Char.{is_ascii_digit, is_ascii_alphanumeric, is_ascii_alphabetic}
use Rattle.unicode_ident.specs.Ident.{is_xid_continue}
use Rattle.um_vocabulary.specs.declared.vocabulary.Symbol.{Symbol}
use Rattle.um_vocabulary.specs.declared.vocabulary.Symbol.TheVariants as symbol
use Rattle.um_vocabulary.specs.Vocabulary.{symbol_text}
use Rattle.um_syntax.specs.Numeral.{Numeral, Whole, Decimal, Ratio}
use Rattle.um_syntax.specs.Lexeme.{Lexeme, Name, Var, Number, Word, Hole, Sign, IsWord, NumeralEnds, LeavesLetter, SignEnds, Ends, IsAlone}
use Rattle.um_syntax.proofs.WordLetters.{are_letters, keyword_letters}
use Rattle.um_rescaled.proofs.Alike.{Alike, AlikeTexts, continues_alike, digit_alike, part_alike, all_last}

pub both_true : (a b : Bool) → (a && b) ≡ true → (a ≡ true) × (b ≡ true)
both_true true b e = (refl, e)
both_true false b e = absurd (false≢true e)

-- ---- no sign ends with a digit

abbrev is_mark : ℕ → Bool
is_mark c = not (is_ascii_alphanumeric c || c == 95)

abbrev are_marks : List ℕ → Bool
are_marks [] = true
are_marks (c ∷ cs) = is_mark c && are_marks cs

sign_marks : (k : Symbol) → are_marks (symbol_text k) ≡ true
sign_marks symbol.LeftParen = refl
sign_marks _ = refl

digit_no_mark : (c : ℕ) → is_ascii_digit c ≡ true → is_mark c ≡ true → ⊥
digit_no_mark c d e = grind (arith, nat_tests)

no_last_digit : (text : List ℕ) (c : ℕ) (whole : List ℕ) → are_marks whole ≡ true → is_ascii_digit c ≡ true → whole ≢ text ++ c ∷ []
no_last_digit text c whole marks d e = digit_no_mark c d (all_last is_mark are_marks (λ x xs h. both_true (is_mark x) (are_marks xs) h) text c (sym (ap are_marks e) ∙ marks))

sign_before_digit : (text : List ℕ) (c : ℕ) (more : List ℕ) → is_ascii_digit c ≡ true → SignEnds text (c ∷ more)
sign_before_digit text c more d = ((λ k. no_last_digit text c (symbol_text k) (sign_marks k) d), λ e. no_last_digit text c (47 ∷ 47 ∷ []) refl d (sym e))

sign_alike : (text xs ys : List ℕ) → Alike 1 xs ys → SignEnds text xs → SignEnds text ys
sign_alike text [] [] h s = tt
sign_alike text [] (y ∷ ys) h s = absurd h
sign_alike text (x ∷ xs) [] h s = absurd h
sign_alike text (x ∷ xs) (y ∷ ys) (inl e) s = subst (λ c. ((k : Symbol) → symbol_text k ≢ text ++ c ∷ []) × (text ++ c ∷ [] ≢ 47 ∷ 47 ∷ [])) e.0 s
sign_alike text (x ∷ xs) (y ∷ ys) (inr d) s = sign_before_digit text y ys d.1

-- ---- no reserved word ends with a digit

digit_no_letter : (c : ℕ) → is_ascii_digit c ≡ true → is_ascii_alphabetic c ≡ true → ⊥
digit_no_letter c d e = grind (arith, nat_tests)

no_word_digit : (name : List ℕ) (c : ℕ) → is_ascii_digit c ≡ true → IsWord (name ++ c ∷ []) → ⊥
no_word_digit name c d w =
    digit_no_letter c d (all_last is_ascii_alphabetic are_letters (λ x xs h. both_true (is_ascii_alphabetic x) (are_letters xs) h) name c (ap are_letters w.1 ∙ keyword_letters w.0))

letter_alike : (name xs ys : List ℕ) → Alike 2 xs ys → LeavesLetter name xs → LeavesLetter name ys
letter_alike name [] ys h l = absurd l
letter_alike name (x ∷ xs) [] h l = absurd h
letter_alike name (x ∷ xs) (y ∷ ys) (inl e) l =
    let same = e.0 in (
      ap is_xid_continue (sym same) ∙ l.0,
      subst (λ c. IsWord (name ++ c ∷ [])) same l.1,
      sym (continues_alike 0 xs ys e.1) ∙ l.2,
    )
letter_alike name (x ∷ xs) (y ∷ ys) (inr d) l = absurd (no_word_digit name x d.0 l.1)

-- ---- numbers

numeral_alike : (n : Numeral) (xs ys : List ℕ) → AlikeTexts xs ys → NumeralEnds n xs → NumeralEnds n ys
numeral_alike (Whole ds) xs ys h e = (sym (digit_alike 0 xs ys (h 1)) ∙ e.0, sym (part_alike 0 xs ys (h 2)) ∙ e.1)
numeral_alike (Decimal a b) xs ys h e = sym (digit_alike 0 xs ys (h 1)) ∙ e
numeral_alike (Ratio a b) xs ys h e = sym (digit_alike 0 xs ys (h 1)) ∙ e

-- ---- any token

var_alike : (name xs ys : List ℕ) → AlikeTexts xs ys → Ends (Var name) xs → Ends (Var name) ys
var_alike name xs ys h (inl e) = inl (sym (continues_alike 0 xs ys (h 1)) ∙ e)
var_alike name xs ys h (inr l) = inr (letter_alike name xs ys (h 2) l)

pub ends_alike : (lexeme : Lexeme) (xs ys : List ℕ) → AlikeTexts xs ys → Ends lexeme xs → Ends lexeme ys
ends_alike (Name text) xs ys h e = sym (continues_alike 0 xs ys (h 1)) ∙ e
ends_alike (Var name) xs ys h e = var_alike name xs ys h e
ends_alike (Number n) xs ys h e = numeral_alike n xs ys h e
ends_alike (Word k) xs ys h e = sym (continues_alike 0 xs ys (h 1)) ∙ e
ends_alike Hole xs ys h e = sym (continues_alike 0 xs ys (h 1)) ∙ e
ends_alike (Sign k) xs ys h e = sign_alike (symbol_text k) xs ys (h 1) e

pub alone_alike : (lexeme : Lexeme) (xs ys : List ℕ) → AlikeTexts xs ys → IsAlone lexeme xs → IsAlone lexeme ys
alone_alike (Name text) xs ys h e = tt
alone_alike (Var name) xs ys h e = tt
alone_alike (Number n) xs ys h e = sym (continues_alike 0 xs ys (h 1)) ∙ e
alone_alike (Word k) xs ys h e = tt
alone_alike Hole xs ys h e = tt
alone_alike (Sign k) xs ys h e = tt
