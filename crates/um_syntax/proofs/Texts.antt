-- How the texts of tokens begin, and which token an identifier is.
use Rattle.std.proofs.Common.{◌≡◌, ◌≢◌, ℕ, Bool, true, false, cond, List, [], ◌∷◌, ◌++◌, Option, None, Some, is_some, refl, sym, ap, subst, ◌∙◌, ◌⊎◌, inl, inr, ⊎_elim, lit<}
use Rattle.std.proofs.lemmas.Slice.Eq.{bytes_eq-Decides}
use Rattle.std.proofs.lemmas.Bool.{false≢true}
use Rattle.std.proofs.lemmas.Str.{encodes_same, encode_ascii}
use Rattle.std.specs.Str.{bytes_eq}
use Rattle.std.specs.Char.{is_ascii_digit}
use lib.Utf8.{encodes}
use Rattle.unicode_ident.specs.Ident.{is_xid_continue}
use Rattle.um_vocabulary.specs.declared.vocabulary.Keyword.{Keyword}
use Rattle.um_syntax.specs.declared.token.Kind.TheVariants as kind
use Rattle.um_vocabulary.specs.Vocabulary.{keyword_text}
use Rattle.um_syntax.specs.Gap.{is_space}
use Rattle.um_syntax.specs.Numeral.{Whole, Decimal, Ratio, IsDigits}
use Rattle.um_syntax.specs.Lexeme.{starts_name, IsIdentifier, IsWord, IsName, Lexeme, Name, Var, Number, Word, Hole, Sign, text_of, IsLexeme, begins, Ends, IsAlone, kind_of}
use Rattle.um_syntax.specs.Lexing.{NothingStands}
use Rattle.um_vocabulary.specs.Tables.{keyword_of, single_symbol, double_symbol}
use Rattle.um_syntax.specs.Machine.{letters_kind, word_kind}
use Rattle.um_vocabulary.proofs.Tables.{keyword_of-text, symbol_form}
use Rattle.um_syntax.proofs.WordLetters.{keyword_of-none, keyword_encoded, keyword_identifier}

-- the first character of a token's text, and what it tells
abbrev pub HasHead : Lexeme → ℕ → List ℕ → Type 0
HasHead (Name text) c cs = starts_name c ≡ true
HasHead (Var name) c cs = (c ≡ 39) × (cs ≡ name) × IsName name
HasHead (Number numeral) c cs = is_ascii_digit c ≡ true
HasHead (Word k) c cs = starts_name c ≡ true
HasHead Hole c cs = starts_name c ≡ true
HasHead (Sign k) c cs = (is_some (single_symbol c) ≡ true) ⊎ ((b : ℕ) × (cs ≡ b ∷ []) × (is_some (double_symbol c b) ≡ true))

pub identifier_head : (text : List ℕ) → IsIdentifier text → (c : ℕ) × (cs : List ℕ) × (text ≡ c ∷ cs) × (starts_name c ≡ true)
identifier_head [] i = absurd i
identifier_head (c ∷ cs) i = (c, cs, refl, i.0)

digits_head : (ds more : List ℕ) → IsDigits ds → (c : ℕ) × (cs : List ℕ) × (ds ++ more ≡ c ∷ cs) × (is_ascii_digit c ≡ true)
digits_head [] more i = absurd i
digits_head (d ∷ ds) more i = (d, ds ++ more, refl, i.0)

append_nil : (xs : List ℕ) → xs ++ [] ≡ xs
append_nil [] = refl
append_nil (x ∷ xs) = ap (λ l. x ∷ l) (append_nil xs)

pub head_of : (lexeme : Lexeme) → IsLexeme lexeme → (c : ℕ) × (cs : List ℕ) × (text_of lexeme ≡ c ∷ cs) × HasHead lexeme c cs
head_of (Name text) fits = identifier_head text fits.0
head_of (Var name) fits = (39, name, refl, (refl, refl, fits))
head_of (Number (Whole ds)) fits = let d = digits_head ds [] fits in (d.0, d.1, sym (append_nil ds) ∙ d.2, d.3)
head_of (Number (Decimal w q)) fits = digits_head w (46 ∷ q) fits.0
head_of (Number (Ratio a b)) fits = digits_head a (114 ∷ b) fits.0
head_of (Word k) fits = identifier_head (keyword_text k) (keyword_identifier k)
head_of Hole fits = (95, [], refl, refl)
head_of (Sign k) fits =
    ⊎_elim (λ f. (f.0, [], f.1, inl (ap is_some f.2)))
    (λ f. (f.0, f.1 ∷ [], f.2, inr (f.1, refl, ap is_some f.3)))
    (symbol_form k)

-- the tests by which no token begins with a character
pub record NoHead (c : ℕ) (rest : List ℕ) : Type 0 where
  pub name : starts_name c ≡ false
  pub digit : is_ascii_digit c ≡ false
  pub single : is_some (single_symbol c) ≡ false
  pub double : (b : ℕ) (more : List ℕ) → rest ≡ b ∷ more → is_some (double_symbol c b) ≡ false
  pub variable : c ≡ 39 → (name more : List ℕ) → IsName name → rest ≢ name ++ more

clash : (lexeme : Lexeme) (c : ℕ) (rest cs more : List ℕ) → NoHead c rest → HasHead lexeme c cs → rest ≡ cs ++ more → ⊥
clash (Name text) c rest cs more none has e = false≢true (sym none.name ∙ has)
clash (Var name) c rest cs more none has e = none.variable has.0 name more has.2 (e ∙ ap (λ x. x ++ more) has.1)
clash (Number numeral) c rest cs more none has e = false≢true (sym none.digit ∙ has)
clash (Word k) c rest cs more none has e = false≢true (sym none.name ∙ has)
clash Hole c rest cs more none has e = false≢true (sym none.name ∙ has)
clash (Sign k) c rest cs more none has e =
    ⊎_elim (λ s. false≢true (sym none.single ∙ s)) (λ d. false≢true (sym (none.double d.0 more (e ∙ ap (λ x. x ++ more) d.1)) ∙ d.2)) has

no_lexeme : (c : ℕ) (rest : List ℕ) → NoHead c rest → (lexeme : Lexeme) (more : List ℕ) → IsLexeme lexeme → c ∷ rest ≢ text_of lexeme ++ more
no_lexeme c rest none lexeme more fits e =
    let h = head_of lexeme fits in
    let whole : c ∷ rest ≡ h.0 ∷ (h.1 ++ more) = e ∙ ap (λ x. x ++ more) h.2 in
    let first : h.0 ≡ c = cc in
    let others : rest ≡ h.1 ++ more = cc in
    clash lexeme c rest h.1 more none (subst (λ x. HasHead lexeme x h.1) first h.3) others

pub nothing_at : (c : ℕ) (rest : List ℕ) → is_space c ≡ false → NoHead c rest → NothingStands (c ∷ rest)
nothing_at c rest space none = record {
  some = λ e. cons_some e;
  no_space = space;
  no_token = no_lexeme c rest none;
}
  where
    cons_some : c ∷ rest ≡ [] → ⊥
    cons_some e = cc

pub hole_encoded : encodes (95 ∷ []) ≡ 95 ∷ []
hole_encoded = ap (λ x. x ++ []) (encode_ascii 95 (lit< tt))

pub hole_from : (text : List ℕ) → bytes_eq (encodes text) (95 ∷ []) ≡ true → text ≡ 95 ∷ []
hole_from text e = encodes_same text (95 ∷ []) ((bytes_eq-Decides (encodes text) (95 ∷ [])).0 e ∙ sym hole_encoded)

pub no_hole_from : (text : List ℕ) → bytes_eq (encodes text) (95 ∷ []) ≡ false → text ≢ 95 ∷ []
no_hole_from text e same = false≢true (sym e ∙ (bytes_eq-Decides (encodes text) (95 ∷ [])).1 (ap encodes same ∙ hole_encoded))

pub word_from : (text : List ℕ) (k : Keyword) → keyword_of (encodes text) ≡ Some k → text ≡ keyword_text k
word_from text k e = encodes_same text (keyword_text k) (keyword_of-text (encodes text) k e ∙ sym (keyword_encoded k))

pub no_word_from : (text : List ℕ) → keyword_of (encodes text) ≡ None → ¬ (IsWord text)
no_word_from text e word = keyword_of-none (encodes text) e (word.0, ap encodes word.1 ∙ keyword_encoded word.0)

-- which token an identifier is
pub record IsRead (text : List ℕ) : Type 0 where
  pub lexeme : Lexeme
  pub text_is : text_of lexeme ≡ text
  pub fits : IsLexeme lexeme
  pub ends : (more : List ℕ) → begins is_xid_continue more ≡ false → Ends lexeme more
  pub alone : (more : List ℕ) → IsAlone lexeme more
  pub kind : (power : Bool) → kind_of power lexeme ≡ Some (letters_kind (encodes text))

identifier_word : (text : List ℕ) (k : Keyword) → keyword_of (encodes text) ≡ Some k → IsRead text
identifier_word text k e =
    let w = word_from text k e in
    record {
      lexeme = Word k;
      text_is = sym w;
      fits = tt;
      ends = λ more h. h;
      alone = λ more. tt;
      kind = λ power. ap (λ o. Some (word_kind (encodes text) o)) (sym e);
    }

identifier_hole : (text : List ℕ) → keyword_of (encodes text) ≡ None → bytes_eq (encodes text) (95 ∷ []) ≡ true → IsRead text
identifier_hole text e hole = record {
  lexeme = Hole;
  text_is = sym (hole_from text hole);
  fits = tt;
  ends = λ more h. h;
  alone = λ more. tt;
  kind = λ power. ap (λ b. Some (cond b kind.Hole (kind.Name (encodes text)))) (sym hole) ∙ ap (λ o. Some (word_kind (encodes text) o)) (sym e);
}

identifier_name : (text : List ℕ) → IsIdentifier text → keyword_of (encodes text) ≡ None → bytes_eq (encodes text) (95 ∷ []) ≡ false → IsRead text
identifier_name text is e hole = record {
  lexeme = Name text;
  text_is = refl;
  fits = (is, no_hole_from text hole, no_word_from text e);
  ends = λ more h. h;
  alone = λ more. tt;
  kind = λ power. ap (λ b. Some (cond b kind.Hole (kind.Name (encodes text)))) (sym hole) ∙ ap (λ o. Some (word_kind (encodes text) o)) (sym e);
}

pub identifier_read : (text : List ℕ) → IsIdentifier text → IsRead text
identifier_read text is = by_number (keyword_of (encodes text)) refl
  where
    by_hole : keyword_of (encodes text) ≡ None → (b : Bool) → bytes_eq (encodes text) (95 ∷ []) ≡ b → IsRead text
    by_hole e true hole = identifier_hole text e hole
    by_hole e false hole = identifier_name text is e hole

    by_number : (o : Option Keyword) → keyword_of (encodes text) ≡ o → IsRead text
    by_number (Some k) e = identifier_word text k e
    by_number None e = by_hole e (bytes_eq (encodes text) (95 ∷ [])) refl
