-- Reading an expression token by token: what each token makes of an expression that has begun. The machines of notes
-- and types run inside; a token that they refuse ends them and is looked at again.
-- Source: operator precedence with a stack, as in Knuth, Fundamental Algorithms, 2.2.1; this project's own states.
use Rattle.std.specs.Prelude.{ℕ, Bool, true, cond, List, [], Option, Some}
use Rattle.um_frac.specs.declared.number.Frac.{Frac}
use Rattle.um_syntax.specs.declared.token.Token.{Token}
use Rattle.um_syntax.specs.declared.token.Kind.{Kind}
use Rattle.um_vocabulary.specs.declared.vocabulary.Symbol.{Symbol}
use Rattle.um_vocabulary.specs.declared.vocabulary.Symbol.TheVariants as symbol
use Rattle.um_tree.specs.declared.expression.Sign.TheVariants as compare
use Rattle.um_tree.specs.RawTree.{NoteSyntax, TypeSyntax, ExprSyntax, number_syntax, nil_syntax}
use Rattle.um_reader.specs.Machine.{Machine}
use Rattle.um_unit_texts.specs.UnitTokens.{unit_token}
use Rattle.um_unit_texts.specs.UnitMachine.{power_in}
use Rattle.um_types.specs.NoteMachine.{NoteState, NoNote, note_act, note_finish}
use Rattle.um_types.specs.TypeMachine.{TypeState, NoType, type_act, type_finish}
use Rattle.um_operands.specs.declared.infix.Infix.TheVariants as between
use Rattle.um_operands.specs.ExprBegun.{Frame, DotName, State, Need, Have, HavePower, Greater, Inside, InNote, InType}
use Rattle.um_operands.specs.ExprBegun.{Refused, reduce, finish}
use Rattle.um_operands.specs.ExprLeast.{whole_least}
use Rattle.um_operands.specs.ExprKinds.{is_power}
use Rattle.um_forms.specs.declared.token.ExprToken.{ExprToken}
use Rattle.um_forms.specs.declared.token.ExprToken.TheVariants.{Name as name, Number as number, Truth as truth}
use Rattle.um_forms.specs.declared.token.ExprToken.TheVariants.{Operator as operator, Word as word, Mark as mark}
use Rattle.um_forms.specs.ExprTokens.{expr_token}
use Rattle.um_forms.specs.ExprForms.{begin, after_greater, argument, begin_in, number_after, bracket_after, mark_ends}
use Rattle.um_forms.specs.ExprForms.{word_ends, operator_after, inside}

-- a sign that isn't an operator after an atom
abbrev pub mark_after : List Frame → ExprSyntax → Symbol → ℕ → State
mark_after frames t symbol.LeftParen at = bracket_after frames t at
mark_after frames t symbol.LeftBracket at = begin_in (argument frames t) (mark symbol.LeftBracket) at
mark_after frames t symbol.LeftBrace at = begin_in (argument frames t) (mark symbol.LeftBrace) at
mark_after frames t symbol.Dot at = cond (is_power t) Refused (Inside frames (DotName at t))
mark_after frames t s at = mark_ends s (reduce 9 frames t)

-- after an atom; the last is what the token is as a power
abbrev pub after : List Frame → ExprSyntax → ExprToken → ℕ → Bool → Option ℕ → State
after frames t (name x) at glued power = begin_in (argument frames t) (name x) at
after frames t (number c) at glued power = number_after frames t c at power
after frames t (truth b) at glued power = begin_in (argument frames t) (truth b) at
after frames t (mark s) at glued power = mark_after frames t s at
after frames t (word k) at glued power = word_ends k (reduce 9 frames t)
after frames t (operator sign) at glued power = operator_after frames t sign at glued
after frames t _ at glued power = Refused

-- after the number of a whole power
abbrev pub power_after : List Frame → ExprSyntax → ExprToken → ℕ → Bool → Option ℕ → State
power_after frames t (operator (between.Compare compare.Lt)) at true power = Refused
power_after frames t token at glued power = after frames t token at glued power

-- a token that the note of a number refuses; that the type of an empty list refuses
abbrev pub note_ends : List Frame → ℕ → Frac → Option NoteSyntax → ExprToken → State
note_ends frames at c (Some n) (operator (between.Compare compare.Gt)) = Have frames (number_syntax at c (Some n))
note_ends frames at c _ token = Refused

abbrev pub type_ends : List Frame → ℕ → Option TypeSyntax → ExprToken → State
type_ends frames at (Some t) (mark symbol.RightParen) = Have frames (nil_syntax at t)
type_ends frames at _ token = Refused

-- the note goes on, or ends; the type
abbrev pub note_goes : List Frame → ℕ → Frac → NoteState → State → State
note_goes frames at c NoNote ended = ended
note_goes frames at c n ended = InNote frames at c n

abbrev pub type_goes : List Frame → ℕ → TypeState → State → State
type_goes frames at NoType ended = ended
type_goes frames at s ended = InType frames at s

-- one token more
abbrev pub act : State → ExprToken → ℕ → Bool → Kind → State
act (Need frames) token at glued k = begin frames token at
act (Have frames t) token at glued k = after frames t token at glued (power_in (unit_token k))
act (HavePower frames t) token at glued k = power_after frames t token at glued (power_in (unit_token k))
act (Greater frames place left) token at glued k = after_greater frames place left token at glued
act (Inside frames expected) token at glued k = inside frames expected token at (power_in (unit_token k))
act (InNote frames place c n) token at glued k =
    note_goes frames place c (note_act n k at) (note_ends frames place c (note_finish n) token)
act (InType frames place s) token at glued k =
    type_goes frames place (type_act s k at) (type_ends frames place (type_finish s) token)
act Refused token at glued k = Refused

abbrev pub step : State → Token → State
step state token = act state (expr_token token.kind) token.start token.glued token.kind

-- one token more, which the note or the type has refused, if one has begun
abbrev pub own_step : State → Token → State
own_step (InNote frames place c n) token = note_ends frames place c (note_finish n) (expr_token token.kind)
own_step (InType frames place s) token = type_ends frames place (type_finish s) (expr_token token.kind)
own_step st token = step st token

-- the machine of expressions
abbrev pub machine_of_expressions : Machine State Token ExprSyntax
machine_of_expressions =
    record { start = Need []; refused = Refused; step = step; finish = finish; least = whole_least }
