-- The words that may be told as expected, in their order, and the text of each.
-- Source: this project's own.
use Rattle.std.specs.Prelude.{ℕ, Bool, true, false, List, [], ◌∷◌, ◌++◌, codes, filter, map}
use Rattle.um_vocabulary.specs.declared.vocabulary.Keyword.{Keyword}
use Rattle.um_vocabulary.specs.declared.vocabulary.Keyword.TheVariants as keyword
use Rattle.um_vocabulary.specs.declared.vocabulary.Symbol.{Symbol}
use Rattle.um_vocabulary.specs.declared.vocabulary.Symbol.TheVariants as symbol
use Rattle.um_vocabulary.specs.Vocabulary.{keyword_text, symbol_text}
use Rattle.um_text_details.specs.declared.word.Word.{Word}
use Rattle.um_text_details.specs.declared.word.Word.TheVariants as word

abbrev pub keywords : List Keyword
keywords =
    keyword.Let ∷ keyword.Rec ∷ keyword.In ∷ keyword.If ∷ keyword.Then ∷ keyword.Else ∷ keyword.Match ∷ keyword.With
    ∷ keyword.Type ∷ keyword.True ∷ keyword.False ∷ keyword.Not ∷ keyword.Num ∷ keyword.Bool ∷ keyword.List
    ∷ keyword.Measure ∷ keyword.Pown ∷ []

abbrev pub signs : List Symbol
signs =
    symbol.LeftParen ∷ symbol.RightParen ∷ symbol.LeftBracket ∷ symbol.RightBracket ∷ symbol.LeftBrace
    ∷ symbol.RightBrace ∷ symbol.AttributeOpen ∷ symbol.Less ∷ symbol.Greater ∷ symbol.Equal ∷ symbol.LessEqual
    ∷ symbol.NotEqual ∷ symbol.Plus ∷ symbol.Minus ∷ symbol.Star ∷ symbol.Slash ∷ symbol.Caret ∷ symbol.Semicolon
    ∷ symbol.Colon ∷ symbol.ColonColon ∷ symbol.Comma ∷ symbol.Dot ∷ symbol.Bar ∷ symbol.BarBar ∷ symbol.AndAnd
    ∷ symbol.Arrow ∷ []

-- the signs that one word tells if all of them could stand
abbrev pub is_operator : Symbol → Bool
is_operator symbol.Less = true
is_operator symbol.Greater = true
is_operator symbol.Equal = true
is_operator symbol.LessEqual = true
is_operator symbol.NotEqual = true
is_operator symbol.Plus = true
is_operator symbol.Minus = true
is_operator symbol.Star = true
is_operator symbol.Slash = true
is_operator symbol.ColonColon = true
is_operator symbol.BarBar = true
is_operator symbol.AndAnd = true
is_operator _ = false

abbrev pub operators : List Symbol
operators = filter is_operator signs

-- all words, in the order in which they are told
abbrev pub words : List Word
words =
    (word.Name ∷ word.Variable ∷ word.Hole ∷ word.Number ∷ word.Whole ∷ word.One ∷ []) ++ map word.Keyword keywords
    ++ word.Operator ∷ map word.Sign signs ++ word.End ∷ []

abbrev pub word_text : Word → List ℕ
word_text word.Name = codes "NAME"
word_text word.Variable = codes "VARIABLE"
word_text word.Hole = codes "_"
word_text word.Number = codes "NUMBER"
word_text word.Whole = codes "WHOLE"
word_text word.One = codes "1"
word_text (word.Keyword k) = keyword_text k
word_text word.Operator = codes "OPERATOR"
word_text (word.Sign s) = symbol_text s
word_text word.End = codes "end"
