-- What a token makes of an expression that has begun, form by form. `um_expr`'s machine takes these steps.
-- Source: operator precedence with a stack, as in Knuth, Fundamental Algorithms, 2.2.1; this project's own states.
use Rattle.std.specs.Prelude.{ℕ, pos, neg_ℤ, Bool, true, false, cond, nat_lt, List, [], ◌∷◌, ◌++◌, Option, Some, None}
use Rattle.um_frac.specs.declared.number.Frac.{Frac}
use Rattle.um_syntax.specs.declared.token.Token.{Token}
use Rattle.um_vocabulary.specs.declared.vocabulary.Keyword.{Keyword}
use Rattle.um_vocabulary.specs.declared.vocabulary.Keyword.TheVariants as keyword
use Rattle.um_vocabulary.specs.declared.vocabulary.Symbol.{Symbol}
use Rattle.um_vocabulary.specs.declared.vocabulary.Symbol.TheVariants as symbol
use Rattle.um_tree.specs.declared.expression.Sign.TheVariants as compare
use Rattle.um_tree.specs.declared.expression.Arith.TheVariants as arith
use Rattle.um_tree.specs.RawTree.{ExprSyntax, truth_syntax, number_syntax, name_syntax, pown_syntax, list_syntax}
use Rattle.um_tree.specs.RawTree.{fields_syntax, field_syntax, bracket_expr_syntax, exprs_in_order, fields_in_order}
use Rattle.um_unit_texts.specs.UnitTokens.{unit_token}
use Rattle.um_unit_texts.specs.UnitMachine.{power_in}
use Rattle.um_types.specs.NoteMachine.{NeedNote}
use Rattle.um_types.specs.TypeMachine.{NeedType}
use Rattle.um_operands.specs.declared.infix.Infix.{Infix}
use Rattle.um_operands.specs.declared.infix.Infix.TheVariants as between
use Rattle.um_operands.specs.Ranks.{infix_rank, left_limit}
use Rattle.um_operands.specs.ExprBegun.{Frame, InBracket, InItem, InField, InValue, InBody, InTest, InThen, InElse}
use Rattle.um_operands.specs.ExprBegun.{InMatched, InEmptyArm, InFullArm, InNegate, InNot, InPown, InRight, InArgument}
use Rattle.um_operands.specs.ExprBegun.{top_bound, is_pown, with_field, Expected, LetBinder, LetEqual, FieldName}
use Rattle.um_operands.specs.ExprBegun.{FieldEqual, DotName, ArmBegin, ArmOpen, ArmClose, ArmArrow, HeadBinder}
use Rattle.um_operands.specs.ExprBegun.{HeadCons, TailBinder, TailArrow, NilColon, PownMinus, PownDigits, PownClose}
use Rattle.um_operands.specs.ExprBegun.{State, Need, Have, HavePower, Greater, Inside, InNote, InType, Refused, reduce}
use Rattle.um_forms.specs.declared.token.ExprToken.{ExprToken}
use Rattle.um_forms.specs.declared.token.ExprToken.TheVariants.{Name as name, Number as number, Truth as truth}
use Rattle.um_forms.specs.declared.token.ExprToken.TheVariants.{Hole as hole, Operator as operator, Word as word}
use Rattle.um_forms.specs.declared.token.ExprToken.TheVariants.{Mark as mark}

-- what a token is as a power: a number of digits alone
abbrev pub power_of : Token → Option ℕ
power_of token = power_in (unit_token token.kind)

-- a form of this rank begins, if it may
abbrev pub if_may : List Frame → ℕ → State → State
if_may frames rank state = cond (nat_lt rank (top_bound frames)) state Refused

-- `]` where an operand is wanted: only after `(` `[`
abbrev pub empty_list : List Frame → State
empty_list (InItem m [] ∷ InBracket at ∷ frames) = Inside frames (NilColon at)
empty_list _ = Refused

-- an operand begins
abbrev pub begin : List Frame → ExprToken → ℕ → State
begin frames (name x) at = Have frames (name_syntax at x)
begin frames (number c) at = Have frames (number_syntax at c None)
begin frames (truth b) at = Have frames (truth_syntax at b)
begin frames (mark symbol.LeftParen) at = Need (InBracket at ∷ frames)
begin frames (mark symbol.LeftBracket) at = Need (InItem at [] ∷ frames)
begin frames (mark symbol.RightBracket) at = empty_list frames
begin frames (mark symbol.LeftBrace) at = Inside frames (FieldName at [])
begin frames (word keyword.Let) at = if_may frames 9 (Inside frames (LetBinder at))
begin frames (word keyword.If) at = if_may frames 9 (Need (InTest at ∷ frames))
begin frames (word keyword.Match) at = if_may frames 9 (Need (InMatched at ∷ frames))
begin frames (word keyword.Not) at = if_may frames 1 (Need (InNot at ∷ frames))
begin frames (word keyword.Pown) at = if_may frames 1 (Need (InPown at ∷ frames))
begin frames (operator (between.Arith arith.Sub)) at = if_may frames 2 (Need (InNegate at ∷ frames))
begin frames _ at = Refused

-- after `>`
abbrev pub after_greater : List Frame → ℕ → ExprSyntax → ExprToken → ℕ → Bool → State
after_greater frames place left (operator (between.Compare compare.Eq)) at glued =
    cond glued (Need (InRight place (between.Compare compare.Ge) left ∷ frames)) Refused
after_greater frames place left token at glued =
    begin (InRight place (between.Compare compare.Gt) left ∷ frames) token at

-- which tokens begin an argument
abbrev pub begins_atom : ExprToken → Bool
begins_atom (name x) = true
begins_atom (number c) = true
begins_atom (truth b) = true
begins_atom (mark symbol.LeftParen) = true
begins_atom (mark symbol.LeftBracket) = true
begins_atom (mark symbol.LeftBrace) = true
begins_atom _ = false

-- an atom follows an atom: it is an argument
abbrev pub argument : List Frame → ExprSyntax → Option (List Frame)
argument (InArgument at f before ∷ frames) t = Some (InArgument at f (before ++ t ∷ []) ∷ frames)
argument frames (name_syntax at f) = cond (nat_lt 1 (top_bound frames)) (Some (InArgument at f [] ∷ frames)) None
argument frames t = None

abbrev pub begin_in : Option (List Frame) → ExprToken → ℕ → State
begin_in (Some frames) token at = begin frames token at
begin_in None token at = Refused

abbrev pub in_pown : List Frame → Bool
in_pown [] = false
in_pown (frame ∷ frames) = is_pown frame

-- a number after an atom: it is an argument, or the power, if it is digits alone
abbrev pub pown_after : List Frame → ExprSyntax → Option ℕ → State
pown_after (InPown at ∷ frames) t (Some n) = HavePower frames (pown_syntax at t (pos n))
pown_after _ t power = Refused

abbrev pub number_after : List Frame → ExprSyntax → Frac → ℕ → Option ℕ → State
number_after frames t c at power =
    cond (in_pown frames) (pown_after frames t power) (begin_in (argument frames t) (number c) at)

-- `(` after an atom
abbrev pub pown_bracket : List Frame → ExprSyntax → State
pown_bracket (InPown at ∷ frames) t = Inside frames (PownMinus at t)
pown_bracket _ t = Refused

abbrev pub bracket_after : List Frame → ExprSyntax → ℕ → State
bracket_after frames t at =
    cond (in_pown frames) (pown_bracket frames t) (begin_in (argument frames t) (mark symbol.LeftParen) at)

-- a sign between two operands
abbrev pub infix_after : Infix → ℕ → State → State
infix_after sign at (Have frames t) = if_may frames (infix_rank sign) (Need (InRight at sign t ∷ frames))
infix_after sign at _ = Refused

abbrev pub greater_after : ℕ → State → State
greater_after at (Have frames t) = if_may frames 6 (Greater frames at t)
greater_after at _ = Refused

-- `<` directly after a number opens its note
abbrev pub less_after : List Frame → ExprSyntax → Bool → ℕ → State
less_after frames t false at = infix_after (between.Compare compare.Lt) at (reduce 5 frames t)
less_after frames (number_syntax n c None) true at = InNote frames n c NeedNote
less_after frames t true at = infix_after (between.Compare compare.Lt) at (reduce 5 frames t)

abbrev pub close_after : State → State
close_after (Have (InBracket at ∷ frames) t) = Have frames (bracket_expr_syntax at t)
close_after _ = Refused

abbrev pub list_after : State → State
list_after (Have (InItem at before ∷ frames) t) = Have frames (list_syntax at (exprs_in_order (before ++ t ∷ [])))
list_after _ = Refused

abbrev pub record_after : State → State
record_after (Have (InField at before place x ∷ frames) t) =
    Have frames (fields_syntax at (fields_in_order (with_field before place x t)))
record_after _ = Refused

abbrev pub semi_after : State → State
semi_after (Have (InItem at before ∷ frames) t) = Need (InItem at (before ++ t ∷ []) ∷ frames)
semi_after (Have (InField at before place x ∷ frames) t) = Inside frames (FieldName at (with_field before place x t))
semi_after _ = Refused

abbrev pub in_after : State → State
in_after (Have (InValue at x ∷ frames) t) = Need (InBody at x t ∷ frames)
in_after _ = Refused

abbrev pub then_after : State → State
then_after (Have (InTest at ∷ frames) t) = Need (InThen at t ∷ frames)
then_after _ = Refused

abbrev pub else_after : State → State
else_after (Have (InThen at test ∷ frames) t) = Need (InElse at test t ∷ frames)
else_after _ = Refused

abbrev pub with_after : State → State
with_after (Have (InMatched at ∷ frames) t) = Inside frames (ArmBegin at t)
with_after _ = Refused

abbrev pub bar_after : State → State
bar_after (Have (InEmptyArm at list ∷ frames) t) = Inside frames (HeadBinder at list t)
bar_after _ = Refused

-- a sign that may end or go on the form around an operand; a reserved word
abbrev pub mark_ends : Symbol → State → State
mark_ends symbol.RightParen st = close_after st
mark_ends symbol.RightBracket st = list_after st
mark_ends symbol.RightBrace st = record_after st
mark_ends symbol.Semicolon st = semi_after st
mark_ends symbol.Bar st = bar_after st
mark_ends _ st = Refused

abbrev pub word_ends : Keyword → State → State
word_ends keyword.In st = in_after st
word_ends keyword.Then st = then_after st
word_ends keyword.Else st = else_after st
word_ends keyword.With st = with_after st
word_ends _ st = Refused

-- an operator after an atom
abbrev pub operator_after : List Frame → ExprSyntax → Infix → ℕ → Bool → State
operator_after frames t (between.Compare compare.Lt) at glued = less_after frames t glued at
operator_after frames t (between.Compare compare.Gt) at glued = greater_after at (reduce 5 frames t)
operator_after frames t (between.Compare compare.Ge) at glued = Refused
operator_after frames t sign at glued = infix_after sign at (reduce (left_limit sign) frames t)

-- inside a run of tokens that is fixed; the last is what the token is as a power
abbrev pub inside : List Frame → Expected → ExprToken → ℕ → Option ℕ → State
inside frames (LetBinder at) (name x) p power = Inside frames (LetEqual at (record { at = p; name = Some x }))
inside frames (LetBinder at) hole p power = Inside frames (LetEqual at (record { at = p; name = None }))
inside frames (LetEqual at x) (operator (between.Compare compare.Eq)) p power = Need (InValue at x ∷ frames)
inside frames (FieldName at before) (name x) p power = Inside frames (FieldEqual at before p x)
inside frames (FieldEqual at before place x) (operator (between.Compare compare.Eq)) p power =
    Need (InField at before place x ∷ frames)
inside frames (DotName at e) (name x) p power = Have frames (field_syntax at p x e)
inside frames (ArmBegin at list) (mark symbol.Bar) p power = Inside frames (ArmOpen at list)
inside frames (ArmBegin at list) (mark symbol.LeftBracket) p power = Inside frames (ArmClose at list)
inside frames (ArmOpen at list) (mark symbol.LeftBracket) p power = Inside frames (ArmClose at list)
inside frames (ArmClose at list) (mark symbol.RightBracket) p power = Inside frames (ArmArrow at list)
inside frames (ArmArrow at list) (mark symbol.Arrow) p power = Need (InEmptyArm at list ∷ frames)
inside frames (HeadBinder at list empty) (name x) p power =
    Inside frames (HeadCons at list empty (record { at = p; name = Some x }))
inside frames (HeadBinder at list empty) hole p power =
    Inside frames (HeadCons at list empty (record { at = p; name = None }))
inside frames (HeadCons at list empty head) (operator between.Cons) p power =
    Inside frames (TailBinder at list empty head)
inside frames (TailBinder at list empty head) (name x) p power =
    Inside frames (TailArrow at list empty head (record { at = p; name = Some x }))
inside frames (TailBinder at list empty head) hole p power =
    Inside frames (TailArrow at list empty head (record { at = p; name = None }))
inside frames (TailArrow at list empty head tail) (mark symbol.Arrow) p power =
    Need (InFullArm at list empty head tail ∷ frames)
inside frames (NilColon at) (mark symbol.Colon) p power = InType frames at (NeedType 0)
inside frames (PownMinus at e) (operator (between.Arith arith.Sub)) p power = Inside frames (PownDigits at e)
inside frames (PownDigits at e) token p (Some n) = Inside frames (PownClose at e (neg_ℤ (pos n)))
inside frames (PownClose at e k) (mark symbol.RightParen) p power = Have frames (pown_syntax at e k)
inside frames _ _ p power = Refused
