-- The texts of tokens, by the kinds of the language's table (this project's own; names by Unicode Standard Annex 31).
use Rattle.std.specs.Prelude.{◌≡◌, ◌≢◌, ℕ, Bool, true, false, ◌==◌, ◌||◌, ◌&&◌, ◌⊎◌, List, [], ◌∷◌, ◌++◌, Option, Some}
use Rattle.std.specs.Prelude.{option_map}
use Rattle.std.specs.Char.{is_ascii_digit}
use Rattle.std.specs.Str.{encode_utf8_all, bytes_eq}
use Rattle.unicode_ident.specs.Ident.{is_xid_start, is_xid_continue}
use Rattle.um_syntax.specs.declared.token.Kind.{Kind}
use Rattle.um_syntax.specs.declared.token.Kind.TheVariants as kind
use Rattle.um_vocabulary.specs.declared.vocabulary.Keyword.{Keyword}
use Rattle.um_vocabulary.specs.declared.vocabulary.Symbol.{Symbol}
use Rattle.um_vocabulary.specs.Vocabulary.{keyword_text, symbol_text}
use Rattle.um_syntax.specs.Numeral.{Numeral, Whole, Decimal, Ratio, numeral_text, IsNumeral, number_value}

-- `_` or a character that may start an identifier, and then characters that may continue one
abbrev pub starts_name : ℕ → Bool
starts_name c = c == 95 || is_xid_start c

abbrev pub AllContinue : List ℕ → Type 0
AllContinue [] = Unit {0}
AllContinue (c ∷ cs) = (is_xid_continue c ≡ true) × AllContinue cs

abbrev pub IsIdentifier : List ℕ → Type 0
IsIdentifier [] = ⊥
IsIdentifier (c ∷ cs) = (starts_name c ≡ true) × AllContinue cs

-- the text is that of a reserved word
abbrev pub IsWord : List ℕ → Type 0
IsWord text = (k : Keyword) × (text ≡ keyword_text k)

-- an identifier that is neither a reserved word nor `_` alone
abbrev pub IsName : List ℕ → Type 0
IsName text = IsIdentifier text × (text ≢ 95 ∷ []) × ¬ (IsWord text)

-- A token's text by its parts: a name; a quote and a name; a number; a reserved word; `_`; a symbol.
pub data Lexeme : Type 0 where
  Name : (text : List ℕ) → Lexeme
  Var : (name : List ℕ) → Lexeme
  Number : (numeral : Numeral) → Lexeme
  Word : (k : Keyword) → Lexeme
  Hole : Lexeme
  Sign : (k : Symbol) → Lexeme

abbrev pub text_of : Lexeme → List ℕ
text_of (Name text) = text
text_of (Var name) = 39 ∷ name
text_of (Number numeral) = numeral_text numeral
text_of (Word k) = keyword_text k
text_of Hole = 95 ∷ []
text_of (Sign k) = symbol_text k

abbrev pub IsLexeme : Lexeme → Type 0
IsLexeme (Name text) = IsName text
IsLexeme (Var name) = IsName name
IsLexeme (Number numeral) = IsNumeral numeral
IsLexeme (Word k) = Unit {0}
IsLexeme Hole = Unit {0}
IsLexeme (Sign k) = Unit {0}

-- whether the first of the characters passes a test
abbrev pub begins : (ℕ → Bool) → List ℕ → Bool
begins test [] = false
begins test (c ∷ cs) = test c

-- whether the characters begin with a point or an r and then a digit
abbrev pub begins_part : List ℕ → Bool
begins_part [] = false
begins_part (c ∷ cs) = (c == 46 || c == 114) && begins is_ascii_digit cs

-- A number's text goes on by a digit, and one of digits alone by a point or an r with a digit.
abbrev pub NumeralEnds : Numeral → List ℕ → Type 0
NumeralEnds (Whole digits) more = (begins is_ascii_digit more ≡ false) × (begins_part more ≡ false)
NumeralEnds (Decimal whole part) more = begins is_ascii_digit more ≡ false
NumeralEnds (Ratio above below) more = begins is_ascii_digit more ≡ false

-- A variable goes on while letters follow. Only if the longest one would be a reserved word, its last letter is
-- left out.
abbrev pub LeavesLetter : List ℕ → List ℕ → Type 0
LeavesLetter name [] = ⊥
LeavesLetter name (c ∷ more) =
    (is_xid_continue c ≡ true) × IsWord (name ++ c ∷ []) × (begins is_xid_continue more ≡ false)

-- No longer symbol stands there, and no comment.
abbrev pub SignEnds : List ℕ → List ℕ → Type 0
SignEnds text [] = Unit {0}
SignEnds text (c ∷ more) = ((k : Symbol) → symbol_text k ≢ text ++ c ∷ []) × (text ++ c ∷ [] ≢ 47 ∷ 47 ∷ [])

-- what may follow a token's text: nothing by which a longer token or a comment stands at its place
abbrev pub Ends : Lexeme → List ℕ → Type 0
Ends (Name text) more = begins is_xid_continue more ≡ false
Ends (Var name) more = (begins is_xid_continue more ≡ false) ⊎ LeavesLetter name more
Ends (Number numeral) more = NumeralEnds numeral more
Ends (Word k) more = begins is_xid_continue more ≡ false
Ends Hole more = begins is_xid_continue more ≡ false
Ends (Sign k) more = SignEnds (symbol_text k) more

-- no character that may continue an identifier directly follows a number
abbrev pub IsAlone : Lexeme → List ℕ → Type 0
IsAlone (Number numeral) more = begins is_xid_continue more ≡ false
IsAlone _ more = Unit {0}

abbrev pub is_whole : Numeral → Bool
is_whole (Whole digits) = true
is_whole (Decimal whole part) = false
is_whole (Ratio above below) = false

-- The kind of a token. `power` says that a number stands there as a power. There is none for a number that
-- breaks its rule.
abbrev pub kind_of : Bool → Lexeme → Option Kind
kind_of power (Name text) = Some (kind.Name (encode_utf8_all text))
kind_of power (Var name) = Some (kind.Var (encode_utf8_all name))
kind_of power (Number numeral) =
    option_map (λ v. kind.Number v (is_whole numeral) (bytes_eq (numeral_text numeral) (49 ∷ [])))
    (number_value power numeral)
kind_of power (Word k) = Some (kind.Word k)
kind_of power Hole = Some kind.Hole
kind_of power (Sign k) = Some (kind.Sign k)
