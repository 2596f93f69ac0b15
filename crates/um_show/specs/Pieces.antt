-- What a laid-out text is made of, and the bytes of each.
-- Source: this project's own.
use Rattle.std.specs.Prelude.{ℕ, List, ◌∷◌, codes}
use Rattle.std.specs.List.{flat_map}
use Rattle.std.specs.Fmt.{decimal}
use Rattle.um_frac.specs.declared.number.Frac.{Frac}
use Rattle.um_vocabulary.specs.declared.vocabulary.Keyword.{Keyword}
use Rattle.um_vocabulary.specs.declared.vocabulary.Keyword.TheVariants as keyword
use Rattle.um_vocabulary.specs.declared.vocabulary.Symbol.{Symbol}
use Rattle.um_vocabulary.specs.declared.vocabulary.Symbol.TheVariants as symbol
use Rattle.um_vocabulary.specs.Vocabulary.{keyword_text, symbol_text}
use Rattle.um_show.specs.NumberText.{number_text}

-- A name; a variable without its quote; a number; the digits of a power or of the unit 1; a reserved word; a sign; `_`;
-- one space; the end of a line.
pub data Piece : Type 0 where
  name : List ℕ → Piece
  variable : List ℕ → Piece
  number : Frac → Piece
  digits : ℕ → Piece
  word : Keyword → Piece
  sign : Symbol → Piece
  hole : Piece
  space : Piece
  line_end : Piece

abbrev pub piece_text : Piece → List ℕ
piece_text (name x) = x
piece_text (variable x) = 39 ∷ x
piece_text (number c) = number_text c
piece_text (digits n) = decimal n
piece_text (word k) = keyword_text k
piece_text (sign k) = symbol_text k
piece_text hole = codes "_"
piece_text space = codes " "
piece_text line_end = codes "\n"

-- the bytes of pieces that stand one after the other
abbrev pub text_of : List Piece → List ℕ
text_of pieces = flat_map piece_text pieces

-- the reserved words
abbrev pub let_word : Piece
let_word = word keyword.Let

abbrev pub rec_word : Piece
rec_word = word keyword.Rec

abbrev pub in_word : Piece
in_word = word keyword.In

abbrev pub if_word : Piece
if_word = word keyword.If

abbrev pub then_word : Piece
then_word = word keyword.Then

abbrev pub else_word : Piece
else_word = word keyword.Else

abbrev pub match_word : Piece
match_word = word keyword.Match

abbrev pub with_word : Piece
with_word = word keyword.With

abbrev pub type_word : Piece
type_word = word keyword.Type

abbrev pub true_word : Piece
true_word = word keyword.True

abbrev pub false_word : Piece
false_word = word keyword.False

abbrev pub not_word : Piece
not_word = word keyword.Not

abbrev pub pown_word : Piece
pown_word = word keyword.Pown

abbrev pub num_word : Piece
num_word = word keyword.Num

abbrev pub bool_word : Piece
bool_word = word keyword.Bool

abbrev pub list_word : Piece
list_word = word keyword.List

abbrev pub measure_word : Piece
measure_word = word keyword.Measure

-- the signs
abbrev pub bracket_open : Piece
bracket_open = sign symbol.LeftParen

abbrev pub bracket_close : Piece
bracket_close = sign symbol.RightParen

abbrev pub list_open : Piece
list_open = sign symbol.LeftBracket

abbrev pub list_close : Piece
list_close = sign symbol.RightBracket

abbrev pub record_open : Piece
record_open = sign symbol.LeftBrace

abbrev pub record_close : Piece
record_close = sign symbol.RightBrace

abbrev pub attribute_open : Piece
attribute_open = sign symbol.AttributeOpen

abbrev pub less : Piece
less = sign symbol.Less

abbrev pub greater : Piece
greater = sign symbol.Greater

abbrev pub equal : Piece
equal = sign symbol.Equal

abbrev pub at_most : Piece
at_most = sign symbol.LessEqual

abbrev pub unequal : Piece
unequal = sign symbol.NotEqual

abbrev pub plus : Piece
plus = sign symbol.Plus

abbrev pub minus : Piece
minus = sign symbol.Minus

abbrev pub times : Piece
times = sign symbol.Star

abbrev pub over : Piece
over = sign symbol.Slash

abbrev pub caret : Piece
caret = sign symbol.Caret

abbrev pub semi : Piece
semi = sign symbol.Semicolon

abbrev pub colon : Piece
colon = sign symbol.Colon

abbrev pub double_colon : Piece
double_colon = sign symbol.ColonColon

abbrev pub comma : Piece
comma = sign symbol.Comma

abbrev pub dot : Piece
dot = sign symbol.Dot

abbrev pub bar : Piece
bar = sign symbol.Bar

abbrev pub double_bar : Piece
double_bar = sign symbol.BarBar

abbrev pub double_and : Piece
double_and = sign symbol.AndAnd

abbrev pub arrow : Piece
arrow = sign symbol.Arrow
