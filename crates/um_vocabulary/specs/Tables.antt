-- Mirrors the code: the tables of reserved words and symbols, and how an entry is found.
-- Source: this project's own.
use Rattle.std.specs.Prelude.{ℕ, Bool, true, false, cond, ◌==◌, ◌&&◌, List, [], ◌∷◌, length, Option, None, Some}
use Rattle.std.specs.Str.{bytes_eq}
use Rattle.um_vocabulary.specs.declared.vocabulary.Keyword.{Keyword}
use Rattle.um_vocabulary.specs.declared.vocabulary.Keyword.TheVariants as keyword
use Rattle.um_vocabulary.specs.declared.vocabulary.Symbol.{Symbol}
use Rattle.um_vocabulary.specs.declared.vocabulary.Symbol.TheVariants as symbol
use Rattle.um_vocabulary.specs.Vocabulary.{keyword_text}

-- the reserved word with these letters
abbrev pub keywords : List Keyword
keywords =
    keyword.Let ∷ keyword.Rec ∷ keyword.In ∷ keyword.If ∷ keyword.Then ∷ keyword.Else ∷ keyword.Match ∷ keyword.With
    ∷ keyword.Type ∷ keyword.True ∷ keyword.False ∷ keyword.Not ∷ keyword.Num ∷ keyword.Bool ∷ keyword.List
    ∷ keyword.Measure ∷ keyword.Pown ∷ []

abbrev pub found_keyword : List ℕ → List Keyword → Option Keyword
found_keyword letters [] = None
found_keyword letters (k ∷ ks) = cond (bytes_eq letters (keyword_text k)) (Some k) (found_keyword letters ks)

abbrev pub keyword_of : List ℕ → Option Keyword
keyword_of letters = found_keyword letters keywords

-- the reserved words with so many letters
abbrev pub of_len : ℕ → List Keyword → List Keyword
of_len n [] = []
of_len n (k ∷ ks) = cond (length (keyword_text k) == n) (k ∷ of_len n ks) (of_len n ks)

-- a symbol of one character, and one of two
abbrev pub found : ℕ → List (ℕ × Symbol) → Option Symbol
found c [] = None
found c (x ∷ xs) = cond (c == x.0) (Some x.1) (found c xs)

abbrev pub single_symbols : List (ℕ × Symbol)
single_symbols =
    (40, symbol.LeftParen) ∷ (41, symbol.RightParen) ∷ (91, symbol.LeftBracket) ∷ (93, symbol.RightBracket)
    ∷ (123, symbol.LeftBrace) ∷ (125, symbol.RightBrace) ∷ (60, symbol.Less) ∷ (62, symbol.Greater)
    ∷ (61, symbol.Equal) ∷ (43, symbol.Plus) ∷ (45, symbol.Minus) ∷ (42, symbol.Star) ∷ (47, symbol.Slash)
    ∷ (94, symbol.Caret) ∷ (59, symbol.Semicolon) ∷ (58, symbol.Colon) ∷ (44, symbol.Comma) ∷ (46, symbol.Dot)
    ∷ (124, symbol.Bar) ∷ []

abbrev pub single_symbol : ℕ → Option Symbol
single_symbol c = found c single_symbols

abbrev pub found_pair : ℕ → ℕ → List (ℕ × ℕ × Symbol) → Option Symbol
found_pair a b [] = None
found_pair a b (x ∷ xs) = cond (a == x.0 && b == x.1) (Some x.2) (found_pair a b xs)

abbrev pub double_symbols : List (ℕ × ℕ × Symbol)
double_symbols =
    (91, 60, symbol.AttributeOpen) ∷ (60, 61, symbol.LessEqual) ∷ (60, 62, symbol.NotEqual)
    ∷ (58, 58, symbol.ColonColon) ∷ (124, 124, symbol.BarBar) ∷ (38, 38, symbol.AndAnd) ∷ (45, 62, symbol.Arrow)
    ∷ []

abbrev pub double_symbol : ℕ → ℕ → Option Symbol
double_symbol a b = found_pair a b double_symbols

-- the symbol that two characters begin with, and how many characters it has; none if they begin a comment
abbrev pub chosen_symbol : Option Symbol → Bool → Option Symbol → Option (Symbol × ℕ)
chosen_symbol (Some k) slashes one = Some (k, 2)
chosen_symbol None true one = None
chosen_symbol None false (Some k) = Some (k, 1)
chosen_symbol None false None = None

abbrev pub front_symbol : ℕ → ℕ → Option (Symbol × ℕ)
front_symbol a b = chosen_symbol (double_symbol a b) (a == 47 && b == 47) (single_symbol a)
