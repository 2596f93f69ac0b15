-- The characters of signs continue no name.
use Rattle.std.proofs.Common.{◌≡◌, ◌≢◌, ℕ, ◌<◌, nat_lt, Bool, true, false, ◌==◌, ◌||◌, ◌&&◌, not, List, [], ◌∷◌, ◌++◌, refl, sym, ◌∙◌, ⊎_elim, arith}
use Rattle.std.proofs.lemmas.Bool.{false≢true}
use Rattle.std.proofs.lemmas.Bool.Decides.{nat_tests}
use Rattle.std.specs.Char.{is_ascii_alphanumeric}
use Rattle.unicode_ident.specs.Ident.{is_xid_continue}
use Rattle.unicode_ident.proofs.IdentLemmas.{is_xid_continue-ascii}
use Rattle.um_vocabulary.specs.declared.vocabulary.Symbol.{Symbol}
use Rattle.um_vocabulary.specs.declared.vocabulary.Symbol.TheVariants as symbol
use Rattle.um_vocabulary.specs.Vocabulary.{symbol_text}
use Rattle.um_syntax.specs.Lexeme.{begins}
use Rattle.um_vocabulary.proofs.Tables.{symbol_form}

-- a character of the ASCII range that continues no name
abbrev pub is_mark : ℕ → Bool
is_mark c = not (is_ascii_alphanumeric c || c == 95)

abbrev pub are_marks : List ℕ → Bool
are_marks [] = true
are_marks (c ∷ cs) = nat_lt c 128 && (is_mark c && are_marks cs)

pub both_true : (a b : Bool) → (a && b) ≡ true → (a ≡ true) × (b ≡ true)
both_true true b e = (refl, e)
both_true false b e = absurd (false≢true e)

-- each character of a sign is a mark
pub sign_marks : (k : Symbol) → are_marks (symbol_text k) ≡ true
sign_marks symbol.LeftParen = refl
sign_marks _ = refl

mark_continues : (c : ℕ) (cs : List ℕ) → are_marks (c ∷ cs) ≡ true → is_xid_continue c ≡ false
mark_continues c cs e =
    let p = both_true (nat_lt c 128) (is_mark c && are_marks cs) e in let q = both_true (is_mark c) (are_marks cs) p.1 in
    let low : c < 128 = grind (arith, nat_tests) in
    is_xid_continue-ascii c low ∙ denied (is_ascii_alphanumeric c || c == 95) q.0
  where
    denied : (b : Bool) → not b ≡ true → b ≡ false
    denied true e = absurd (false≢true e)
    denied false e = refl

text_begins : (t more : List ℕ) → are_marks t ≡ true → t ≢ [] → begins is_xid_continue (t ++ more) ≡ false
text_begins [] more e some = absurd (some refl)
text_begins (c ∷ cs) more e some = mark_continues c cs e

-- no sign continues a name
pub sign_begins : (k : Symbol) (more : List ℕ) → begins is_xid_continue (symbol_text k ++ more) ≡ false
sign_begins k more =
    text_begins (symbol_text k) more (sign_marks k) (λ none. ⊎_elim (λ f. no_one f.0 (sym none ∙ f.1)) (λ f. no_two f.0 f.1 (sym none ∙ f.2)) (symbol_form k))
  where
    no_one : (c : ℕ) → ◌≡◌ {A = List ℕ} [] (c ∷ []) → ⊥
    no_one c e = cc

    no_two : (a b : ℕ) → ◌≡◌ {A = List ℕ} [] (a ∷ b ∷ []) → ⊥
    no_two a b e = cc
