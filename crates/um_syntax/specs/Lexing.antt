-- The tokens of a text, or its leftmost refusal (this project's own).
-- A text is its list of characters. Places are byte offsets in UTF-8.
use Rattle.std.specs.Prelude.{◌≡◌, ◌≢◌, ℕ, ◌+◌, ◌-◌, Bool, true, false, cond, ◌==◌, ◌||◌, ◌&&◌, ◌⊎◌, List, [], ◌∷◌}
use Rattle.std.specs.Prelude.{◌++◌, length, slice_get, Option, None, Some}
use Rattle.std.specs.Char.{len_utf8}
use Rattle.unicode_ident.specs.Ident.{is_xid_continue}
use Rattle.um_syntax.specs.declared.token.Kind.{Kind}
use Rattle.um_syntax.specs.declared.token.Kind.TheVariants as kind
use Rattle.um_syntax.specs.declared.token.Token.{Token}
use Rattle.um_syntax.specs.declared.token.LexStop.{LexStop}
use Rattle.um_syntax.specs.declared.token.LexStop.TheVariants.{BadChar, NumberRange, PowerText, NoMemory}
use Rattle.um_vocabulary.specs.declared.vocabulary.Symbol.TheVariants as symbol
use Rattle.um_syntax.specs.Gap.{is_space, IsGap, IsLastGap}
use Rattle.um_syntax.specs.Numeral.{Numeral, numeral_text, IsNumeral}
use Rattle.um_syntax.specs.Lexeme.{Lexeme, Number, text_of, IsLexeme, begins, NumeralEnds, Ends, IsAlone, kind_of}

-- how many bytes the characters take
abbrev pub size_of : List ℕ → ℕ
size_of [] = 0
size_of (c ∷ cs) = len_utf8 c + size_of cs

-- a token follows the one before it with nothing between; the first token doesn't
abbrev pub ends_at : ℕ → Option Token → Bool
ends_at start None = false
ends_at start (Some token) = token.end == start

abbrev pub is_glued : List Token → ℕ → Bool
is_glued before start = ends_at start (slice_get before (length before - 1))

abbrev pub is_caret_kind : Kind → Bool
is_caret_kind (kind.Sign symbol.Caret) = true
is_caret_kind _ = false

abbrev pub is_minus_kind : Kind → Bool
is_minus_kind (kind.Sign symbol.Minus) = true
is_minus_kind _ = false

-- the token is `^`
abbrev pub is_caret : Option Token → Bool
is_caret None = false
is_caret (Some token) = is_caret_kind token.kind

-- the token is `-`
abbrev pub is_minus : Option Token → Bool
is_minus None = false
is_minus (Some token) = is_minus_kind token.kind

-- A number after these tokens is a power: the last is `^`, or the last two are `^` and `-`.
abbrev pub is_power_place : List Token → Bool
is_power_place before =
    is_caret (slice_get before (length before - 1))
    || (is_minus (slice_get before (length before - 1)) && is_caret (slice_get before (length before - 2)))

-- After the tokens before, which end at `at`, the next token of the characters is this one, and `more` follows it.
pub record IsNext (before : List Token) (at : ℕ) (chars : List ℕ) (token : Token) (more : List ℕ) : Type 0 where
  pub gap : List ℕ
  pub lexeme : Lexeme
  pub cut : chars ≡ gap ++ (text_of lexeme ++ more)
  pub skipped : IsGap gap
  pub fits : IsLexeme lexeme
  pub longest : Ends lexeme more
  pub alone : IsAlone lexeme more
  pub kind : kind_of (is_power_place before) lexeme ≡ Some token.kind
  pub start : token.start ≡ at + size_of gap
  pub end : token.end ≡ token.start + size_of (text_of lexeme)
  pub glued : token.glued ≡ is_glued before token.start

-- After the tokens before, which end at `at`, the tokens of the characters are these.
abbrev pub Lexes : List Token → ℕ → List ℕ → List Token → Type 0
Lexes before at chars [] = IsLastGap chars
Lexes before at chars (token ∷ tokens) =
    (more : List ℕ) × IsNext before at chars token more × Lexes (before ++ token ∷ []) token.end more tokens

-- neither white space nor a token stands first (a comment begins with a symbol)
pub record NothingStands (chars : List ℕ) : Type 0 where
  pub some : chars ≢ []
  pub no_space : begins is_space chars ≡ false
  pub no_token : (lexeme : Lexeme) (more : List ℕ) → IsLexeme lexeme → chars ≢ text_of lexeme ++ more

-- the longest number text at the front of the characters, and what follows it
pub record IsNumberAt (chars : List ℕ) (numeral : Numeral) (more : List ℕ) : Type 0 where
  pub cut : chars ≡ numeral_text numeral ++ more
  pub fits : IsNumeral numeral
  pub longest : NumeralEnds numeral more

-- The fault of the characters at a place: no token stands there, or a number breaks its rule, or a letter follows a
-- number that keeps it.
abbrev pub Faulty : List Token → ℕ → List ℕ → LexStop → Type 0
Faulty before at chars (BadChar place) =
    ((place ≡ at) × NothingStands chars)
    ⊎ ((numeral : Numeral) × (more : List ℕ) × IsNumberAt chars numeral more
    × (kind_of (is_power_place before) (Number numeral) ≢ None)
    × (begins is_xid_continue more ≡ true) × (place ≡ at + size_of (numeral_text numeral)))
Faulty before at chars (NumberRange place) =
    (place ≡ at) × (is_power_place before ≡ false)
    × ((numeral : Numeral) × (more : List ℕ) × IsNumberAt chars numeral more × (kind_of false (Number numeral) ≡ None))
Faulty before at chars (PowerText place) =
    (place ≡ at) × (is_power_place before ≡ true)
    × ((numeral : Numeral) × (more : List ℕ) × IsNumberAt chars numeral more × (kind_of true (Number numeral) ≡ None))
Faulty before at chars NoMemory = ⊥

-- After the tokens before, these tokens stand, and then the characters have a fault.
abbrev pub Refuses : List Token → ℕ → List ℕ → List Token → LexStop → Type 0
Refuses before at chars [] stop =
    (gap rest : List ℕ) × (chars ≡ gap ++ rest) × IsGap gap × Faulty before (at + size_of gap) rest stop
Refuses before at chars (token ∷ tokens) stop =
    (more : List ℕ) × IsNext before at chars token more × Refuses (before ++ token ∷ []) token.end more tokens stop

-- The characters after a byte order mark, U+FEFF, that a text may begin with, and the place where they begin.
abbrev pub body : List ℕ → List ℕ
body [] = []
body (c ∷ cs) = cond (c == 65279) cs (c ∷ cs)

abbrev pub body_place : List ℕ → ℕ
body_place [] = 0
body_place (c ∷ cs) = cond (c == 65279) 3 0

-- the tokens of a text
abbrev pub HasTokens : List ℕ → List Token → Type 0
HasTokens chars tokens = Lexes [] (body_place chars) (body chars) tokens

-- the leftmost refusal of a text
abbrev pub HasFault : List ℕ → LexStop → Type 0
HasFault chars stop = (tokens : List Token) × Refuses [] (body_place chars) (body chars) tokens stop

-- A refusal of a text: its leftmost fault, or want of memory, which may come with any text.
abbrev pub IsRefusal : List ℕ → LexStop → Type 0
IsRefusal chars (BadChar at) = HasFault chars (BadChar at)
IsRefusal chars (NumberRange at) = HasFault chars (NumberRange at)
IsRefusal chars (PowerText at) = HasFault chars (PowerText at)
IsRefusal chars NoMemory = Unit {0}
