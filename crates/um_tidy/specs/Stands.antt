-- What a token is to the tokens beside it: whether it stands directly after the token before it, and directly before
-- the token after it; whether it begins a declaration; and what it lets the next token be.
-- Source: this project's own; the forms are those of the layout of `um_show`.
use Rattle.std.specs.Prelude.{Bool, true, false, cond}
use Rattle.um_syntax.specs.declared.token.Kind.{Kind}
use Rattle.um_syntax.specs.declared.token.Kind.TheVariants as kind
use Rattle.um_syntax.specs.declared.token.Token.{Token}
use Rattle.um_vocabulary.specs.declared.vocabulary.Keyword.{Keyword}
use Rattle.um_vocabulary.specs.declared.vocabulary.Keyword.TheVariants as keyword
use Rattle.um_vocabulary.specs.declared.vocabulary.Symbol.{Symbol}
use Rattle.um_vocabulary.specs.declared.vocabulary.Symbol.TheVariants as symbol
use Rattle.um_tidy.specs.declared.stand.Next.{Next}
use Rattle.um_tidy.specs.declared.stand.Next.TheVariants as next
use Rattle.um_tidy.specs.declared.stand.Within.{Within}
use Rattle.um_tidy.specs.declared.stand.Within.TheVariants as within
use Rattle.um_tidy.specs.declared.stand.Stand.{Stand}

-- neither directly after the token before it nor directly before the next
abbrev pub apart : Next → Within → Stand
apart n w = record { after = false; before = false; begins = false; next = n; within = w }

-- directly after the token before it
abbrev pub after : Next → Within → Stand
after n w = record { after = true; before = false; begins = false; next = n; within = w }

-- directly before the next token
abbrev pub before : Next → Within → Stand
before n w = record { after = false; before = true; begins = false; next = n; within = w }

-- both
abbrev pub between : Next → Within → Stand
between n w = record { after = true; before = true; begins = false; next = n; within = w }

-- where no token stands before
abbrev pub start : Stand
start = apart next.First within.Plain

-- an operand or a declaration may have ended
abbrev pub has_ended : Next → Bool
has_ended next.Ended = true
has_ended next.Number = true
has_ended next.Head = true
has_ended next.Measure = true
has_ended next.Bound = true
has_ended _ = false

-- a declaration may begin
abbrev pub may_begin : Next → Bool
may_begin next.First = true
may_begin n = has_ended n

-- inside `<` and `>`, or after the `=` of an abbreviation
abbrev pub in_unit : Within → Bool
in_unit within.Angle = true
in_unit within.Unit = true
in_unit _ = false

abbrev pub in_attribute : Within → Bool
in_attribute within.Attribute = true
in_attribute _ = false

abbrev pub in_angle : Within → Bool
in_angle within.Angle = true
in_angle _ = false

abbrev pub after_measure_word : Next → Bool
after_measure_word next.MeasureWord = true
after_measure_word _ = false

abbrev pub after_bound : Next → Bool
after_bound next.Bound = true
after_bound _ = false

-- a `<` opens units: after a name that may have some, and directly after a number
abbrev pub opens_units : Next → Bool → Bool
opens_units next.Head glued = true
opens_units next.Number glued = glued
opens_units _ glued = false

-- ---- the table

abbrev pub name_stand : Next → Within → Stand
name_stand next.Heads w = apart next.Head w
name_stand next.Measures w = apart next.Measure w
name_stand next.Binds w = apart next.Bound w
name_stand _ w = apart next.Ended w

abbrev pub hole_stand : Next → Within → Stand
hole_stand next.Binds w = apart next.Bound w
hole_stand _ w = apart next.Ended w

-- `let` inside an expression begins no declaration
abbrev pub let_stand : Next → Stand
let_stand n = record { after = false; before = false; begins = may_begin n; next = next.Heads; within = within.Plain }

-- after an attribute it declares a measure
abbrev pub type_stand : Within → Stand
type_stand w = record {
  after = false;
  before = false;
  begins = true;
  next = cond (in_attribute w) next.Measures next.Heads;
  within = within.Plain;
}

abbrev pub keyword_stand : Next → Within → Keyword → Stand
keyword_stand n w keyword.Let = let_stand n
keyword_stand n w keyword.Rec = apart next.Heads w
keyword_stand n w keyword.Type = type_stand w
keyword_stand n w keyword.Num = apart next.Head w
keyword_stand n w keyword.Bool = apart next.Ended w
keyword_stand n w keyword.List = apart next.Ended w
keyword_stand n w keyword.True = apart next.Ended w
keyword_stand n w keyword.False = apart next.Ended w
keyword_stand n w keyword.Measure = apart next.MeasureWord w
keyword_stand n w k = apart next.Operand w

-- in a type another type begins, and elsewhere a name may be bound
abbrev pub bracket_stand : Next → Within → Stand
bracket_stand next.Heads w = before next.Heads w
bracket_stand _ w = before next.Binds w

-- `[<` of a declaration, or of a unit parameter
abbrev pub attribute_stand : Next → Within → Stand
attribute_stand n w = record {
  after = false;
  before = true;
  begins = may_begin n;
  next = next.Operand;
  within = cond (may_begin n) within.Attribute w;
}

abbrev pub less_stand : Bool → Within → Stand
less_stand opens w = cond opens (between next.Operand within.Angle) (apart next.Operand w)

-- `>` of an attribute, of units, or a comparison
abbrev pub greater_stand : Next → Within → Stand
greater_stand n w =
    cond (after_measure_word n) (after next.Ended w)
    (cond (in_angle w) (after next.Ended within.Plain) (apart next.Greater w))

-- `=` directly after a comparison's `>`; of an abbreviation; or another
abbrev pub equal_stand : Next → Within → Stand
equal_stand next.Greater w = after next.Operand w
equal_stand next.Measure w = apart next.Operand within.Unit
equal_stand _ w = apart next.Operand w

-- `-` between two operands, or of one
abbrev pub minus_stand : Next → Within → Stand
minus_stand n w = cond (has_ended n) (apart next.Operand w) (before next.Operand w)

abbrev pub star_stand : Within → Stand
star_stand w = cond (in_unit w) (between next.Operand w) (apart next.Operand w)

-- `/` in front of a unit, between two, or between two operands
abbrev pub slash_stand : Next → Within → Stand
slash_stand n w =
    cond (in_unit w) (cond (has_ended n) (between next.Operand w) (before next.Operand w)) (apart next.Operand w)

-- `:` of a parameter or a field, or another
abbrev pub colon_stand : Next → Within → Stand
colon_stand n w = cond (after_bound n) (after next.Heads w) (apart next.Heads w)

abbrev pub symbol_stand : Next → Within → Bool → Symbol → Stand
symbol_stand n w glued symbol.LeftParen = bracket_stand n w
symbol_stand n w glued symbol.RightParen = after next.Ended w
symbol_stand n w glued symbol.LeftBracket = before next.Operand w
symbol_stand n w glued symbol.RightBracket = after next.Ended w
symbol_stand n w glued symbol.LeftBrace = apart next.Binds w
symbol_stand n w glued symbol.RightBrace = apart next.Ended w
symbol_stand n w glued symbol.AttributeOpen = attribute_stand n w
symbol_stand n w glued symbol.Less = less_stand (opens_units n glued) w
symbol_stand n w glued symbol.Greater = greater_stand n w
symbol_stand n w glued symbol.Equal = equal_stand n w
symbol_stand n w glued symbol.Minus = minus_stand n w
symbol_stand n w glued symbol.Star = star_stand w
symbol_stand n w glued symbol.Slash = slash_stand n w
symbol_stand n w glued symbol.Caret = between next.Operand w
symbol_stand n w glued symbol.Dot = between next.Operand w
symbol_stand n w glued symbol.Semicolon = after next.Binds w
symbol_stand n w glued symbol.Comma = after next.Operand w
symbol_stand n w glued symbol.Colon = colon_stand n w
symbol_stand n w glued s = apart next.Operand w

abbrev pub kind_stand : Next → Within → Bool → Kind → Stand
kind_stand n w glued (kind.Name x) = name_stand n w
kind_stand n w glued (kind.Var x) = apart next.Ended w
kind_stand n w glued (kind.Number value digits one) = apart next.Number w
kind_stand n w glued (kind.Word k) = keyword_stand n w k
kind_stand n w glued kind.Hole = hole_stand n w
kind_stand n w glued (kind.Sign s) = symbol_stand n w glued s

-- what a token is after what stands before it
abbrev pub stand_of : Stand → Token → Stand
stand_of s token = kind_stand s.next s.within token.glued token.kind
