-- The reserved words and the symbols of the language, and the text of each (this project's own).
use Rattle.std.specs.Prelude.{ℕ, List, codes}
use Rattle.um_vocabulary.specs.declared.vocabulary.Keyword.{Keyword}
use Rattle.um_vocabulary.specs.declared.vocabulary.Keyword.TheVariants as keyword
use Rattle.um_vocabulary.specs.declared.vocabulary.Symbol.{Symbol}
use Rattle.um_vocabulary.specs.declared.vocabulary.Symbol.TheVariants as symbol

abbrev pub keyword_text : Keyword → List ℕ
keyword_text keyword.Let = codes "let"
keyword_text keyword.Rec = codes "rec"
keyword_text keyword.In = codes "in"
keyword_text keyword.If = codes "if"
keyword_text keyword.Then = codes "then"
keyword_text keyword.Else = codes "else"
keyword_text keyword.Match = codes "match"
keyword_text keyword.With = codes "with"
keyword_text keyword.Type = codes "type"
keyword_text keyword.True = codes "true"
keyword_text keyword.False = codes "false"
keyword_text keyword.Not = codes "not"
keyword_text keyword.Num = codes "num"
keyword_text keyword.Bool = codes "bool"
keyword_text keyword.List = codes "list"
keyword_text keyword.Measure = codes "Measure"
keyword_text keyword.Pown = codes "pown"

abbrev pub symbol_text : Symbol → List ℕ
symbol_text symbol.LeftParen = codes "("
symbol_text symbol.RightParen = codes ")"
symbol_text symbol.LeftBracket = codes "["
symbol_text symbol.RightBracket = codes "]"
symbol_text symbol.LeftBrace = codes "{"
symbol_text symbol.RightBrace = codes "}"
symbol_text symbol.AttributeOpen = codes "[<"
symbol_text symbol.Less = codes "<"
symbol_text symbol.Greater = codes ">"
symbol_text symbol.Equal = codes "="
symbol_text symbol.LessEqual = codes "<="
symbol_text symbol.NotEqual = codes "<>"
symbol_text symbol.Plus = codes "+"
symbol_text symbol.Minus = codes "-"
symbol_text symbol.Star = codes "*"
symbol_text symbol.Slash = codes "/"
symbol_text symbol.Caret = codes "^"
symbol_text symbol.Semicolon = codes ";"
symbol_text symbol.Colon = codes ":"
symbol_text symbol.ColonColon = codes "::"
symbol_text symbol.Comma = codes ","
symbol_text symbol.Dot = codes "."
symbol_text symbol.Bar = codes "|"
symbol_text symbol.BarBar = codes "||"
symbol_text symbol.AndAnd = codes "&&"
symbol_text symbol.Arrow = codes "->"
