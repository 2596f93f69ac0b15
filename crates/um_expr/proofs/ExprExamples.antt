-- A few texts as the machine reads them.
use Rattle.std.proofs.Common.{◌≡◌, ℕ, pos, List, [], ◌∷◌, Bool, true, false, Some, None, refl}
use Rattle.um_syntax.specs.declared.token.Token.{Token}
use Rattle.um_syntax.specs.declared.token.Kind.{Kind}
use Rattle.um_syntax.specs.declared.token.Kind.TheVariants as kind
use Rattle.um_vocabulary.specs.declared.vocabulary.Keyword.{Keyword}
use Rattle.um_vocabulary.specs.declared.vocabulary.Keyword.TheVariants as keyword
use Rattle.um_vocabulary.specs.declared.vocabulary.Symbol.{Symbol}
use Rattle.um_vocabulary.specs.declared.vocabulary.Symbol.TheVariants as symbol
use Rattle.um_tree.specs.declared.expression.Arith.TheVariants as arith_of
use Rattle.um_tree.specs.declared.expression.Sign.TheVariants as compare
use Rattle.um_tree.specs.RawTree.{num_syntax, name_syntax, call_syntax, negate_syntax, not_syntax, pown_syntax, arith_syntax, compare_syntax, let_syntax, match_syntax, nil_syntax, cons_syntax, field_syntax, no_exprs, more_exprs}
use Rattle.um_reader.specs.Machine.{runs}
use Rattle.um_unit_texts.proofs.UnitLaws.{zero_number}
use Rattle.um_operands.specs.ExprBegun.{State, Need, Refused, finish}
use Rattle.um_expr.specs.ExprMachine.{step}

abbrev token : Kind → ℕ → Bool → Token
token k at glued = record { kind = k; start = at; end = at; glued = glued }

-- the names a, b and c
abbrev a : List ℕ
a = 97 ∷ []

abbrev b : List ℕ
b = 98 ∷ []

abbrev c : List ℕ
c = 99 ∷ []

abbrev letter : List ℕ → ℕ → Token
letter x at = token (kind.Name x) at false

abbrev sign : Symbol → ℕ → Token
sign k at = token (kind.Sign k) at false

abbrev word : Keyword → ℕ → Token
word k at = token (kind.Word k) at false

abbrev read : List Token → State
read tokens = runs step (Need []) tokens

-- a - b - c associates to the left
left_minus : finish (read (letter a 0 ∷ sign symbol.Minus 2 ∷ letter b 4 ∷ sign symbol.Minus 6 ∷ letter c 8 ∷ [])) ≡ Some (arith_syntax 6 arith_of.Sub (arith_syntax 2 arith_of.Sub (name_syntax 0 a) (name_syntax 4 b)) (name_syntax 8 c))
left_minus = refl

-- a :: b :: c associates to the right
right_cons : finish (read (letter a 0 ∷ sign symbol.ColonColon 2 ∷ letter b 5 ∷ sign symbol.ColonColon 7 ∷ letter c 10 ∷ [])) ≡ Some (cons_syntax 2 (name_syntax 0 a) (cons_syntax 7 (name_syntax 5 b) (name_syntax 10 c)))
right_cons = refl

-- a < b < c is refused at the second sign
no_chain : read (letter a 0 ∷ sign symbol.Less 2 ∷ letter b 4 ∷ sign symbol.Less 6 ∷ []) ≡ Refused
no_chain = refl

-- a >= b is one sign where the = is glued, and refused where it isn't
at_least : finish (read (letter a 0 ∷ sign symbol.Greater 2 ∷ token (kind.Sign symbol.Equal) 3 true ∷ letter b 5 ∷ [])) ≡ Some (compare_syntax 2 compare.Ge (name_syntax 0 a) (name_syntax 5 b))
at_least = refl

greater_equal : read (letter a 0 ∷ sign symbol.Greater 2 ∷ token (kind.Sign symbol.Equal) 4 false ∷ []) ≡ Refused
greater_equal = refl

-- not a + b is (not a) + b, and not a b is refused
not_sum : finish (read (word keyword.Not 0 ∷ letter a 4 ∷ sign symbol.Plus 6 ∷ letter b 8 ∷ [])) ≡ Some (arith_syntax 6 arith_of.Add (not_syntax 0 (name_syntax 4 a)) (name_syntax 8 b))
not_sum = refl

not_two : read (word keyword.Not 0 ∷ letter a 4 ∷ letter b 6 ∷ []) ≡ Refused
not_two = refl

-- a -b is a difference; a (-b) would be a call
minus_behind : finish (read (letter a 0 ∷ sign symbol.Minus 2 ∷ letter b 3 ∷ [])) ≡ Some (arith_syntax 2 arith_of.Sub (name_syntax 0 a) (name_syntax 3 b))
minus_behind = refl

-- -a * b is (-a) * b
minus_before : finish (read (sign symbol.Minus 0 ∷ letter a 1 ∷ sign symbol.Star 3 ∷ letter b 5 ∷ [])) ≡ Some (arith_syntax 3 arith_of.Mul (negate_syntax 0 (name_syntax 1 a)) (name_syntax 5 b))
minus_before = refl

-- a b.c is a call of a on the field c of b
call_of_field : finish (read (letter a 0 ∷ letter b 2 ∷ token (kind.Sign symbol.Dot) 3 true ∷ token (kind.Name c) 4 true ∷ [])) ≡ Some (call_syntax 0 a (more_exprs (field_syntax 3 4 c (name_syntax 2 b)) no_exprs))
call_of_field = refl

-- a.b begins an atom: no argument follows it
field_no_call : read (letter a 0 ∷ token (kind.Sign symbol.Dot) 1 true ∷ token (kind.Name b) 2 true ∷ letter c 4 ∷ []) ≡ Refused
field_no_call = refl

-- ([] : num)
empty_list : finish (read (sign symbol.LeftParen 0 ∷ sign symbol.LeftBracket 1 ∷ sign symbol.RightBracket 2 ∷ sign symbol.Colon 4 ∷ word keyword.Num 6 ∷ sign symbol.RightParen 9 ∷ [])) ≡ Some (nil_syntax 0 (num_syntax None))
empty_list = refl

-- [] alone is refused at its closing bracket
no_empty_list : read (sign symbol.LeftBracket 0 ∷ sign symbol.RightBracket 1 ∷ []) ≡ Refused
no_empty_list = refl

-- match a with [] -> b | _ :: c -> c, without the first bar
short_match
    : finish (read (word keyword.Match 0 ∷ letter a 6 ∷ word keyword.With 8 ∷ sign symbol.LeftBracket 13 ∷ sign symbol.RightBracket 14 ∷ sign symbol.Arrow 16 ∷ letter b 19 ∷ sign symbol.Bar 21 ∷ token kind.Hole 23 false ∷ sign symbol.ColonColon 25 ∷ letter c 28 ∷ sign symbol.Arrow 30 ∷ letter c 33 ∷ []))
    ≡ Some (match_syntax 0 (name_syntax 6 a) (name_syntax 19 b) (record { at = 23; name = None }) (record { at = 28; name = Some c }) (name_syntax 33 c))
short_match = refl

-- let a = b in a + c reaches as far right as possible
long_let : finish (read (word keyword.Let 0 ∷ letter a 4 ∷ sign symbol.Equal 6 ∷ letter b 8 ∷ word keyword.In 10 ∷ letter a 13 ∷ sign symbol.Plus 15 ∷ letter c 17 ∷ []))
    ≡ Some (let_syntax 0 (record { at = 4; name = Some a }) (name_syntax 8 b) (arith_syntax 15 arith_of.Add (name_syntax 13 a) (name_syntax 17 c)))
long_let = refl

-- a + let is refused: no form that reaches to the right stands after a sign
no_let_behind : read (letter a 0 ∷ sign symbol.Plus 2 ∷ word keyword.Let 4 ∷ []) ≡ Refused
no_let_behind = refl

abbrev zero : ℕ → Bool → Token
zero at glued = token (kind.Number zero_number true false) at glued

-- pown a 0, where the number is digits alone
power : finish (read (word keyword.Pown 0 ∷ letter a 5 ∷ zero 7 false ∷ [])) ≡ Some (pown_syntax 0 (name_syntax 5 a) (pos 0))
power = refl

no_power : read (word keyword.Pown 0 ∷ letter a 5 ∷ token (kind.Number zero_number false false) 7 false ∷ []) ≡ Refused
no_power = refl

-- pown a (-0) is the same, and pown a (0) is refused
power_in_brackets : finish (read (word keyword.Pown 0 ∷ letter a 5 ∷ sign symbol.LeftParen 7 ∷ sign symbol.Minus 8 ∷ zero 9 true ∷ sign symbol.RightParen 10 ∷ [])) ≡ Some (pown_syntax 0 (name_syntax 5 a) (pos 0))
power_in_brackets = refl

no_sign : read (word keyword.Pown 0 ∷ letter a 5 ∷ sign symbol.LeftParen 7 ∷ zero 8 true ∷ []) ≡ Refused
no_sign = refl

-- a `<` directly after the number is refused; after a blank or the bracket it compares
no_unit : read (word keyword.Pown 0 ∷ letter a 5 ∷ zero 7 false ∷ token (kind.Sign symbol.Less) 8 true ∷ []) ≡ Refused
no_unit = refl

compares : finish (read (word keyword.Pown 0 ∷ letter a 5 ∷ zero 7 false ∷ sign symbol.Less 9 ∷ letter b 11 ∷ [])) ≡ Some (compare_syntax 9 compare.Lt (pown_syntax 0 (name_syntax 5 a) (pos 0)) (name_syntax 11 b))
compares = refl

compares_behind_bracket : finish (read (word keyword.Pown 0 ∷ letter a 5 ∷ sign symbol.LeftParen 7 ∷ sign symbol.Minus 8 ∷ zero 9 true ∷ sign symbol.RightParen 10 ∷ token (kind.Sign symbol.Less) 11 true ∷ letter b 12 ∷ []))
    ≡ Some (compare_syntax 11 compare.Lt (pown_syntax 0 (name_syntax 5 a) (pos 0)) (name_syntax 12 b))
compares_behind_bracket = refl
