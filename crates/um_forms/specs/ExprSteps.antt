-- What a step of the code gives, and the tests that it makes.
-- Source: this project's own.
use Rattle.std.specs.Prelude.{◌≡◌, ℕ, Bool, true, false, List, [], ◌∷◌, Option, Some, None, option_map}
use Rattle.um_vocabulary.specs.declared.vocabulary.Symbol.{Symbol}
use Rattle.um_vocabulary.specs.declared.vocabulary.Symbol.TheVariants as symbol
use Rattle.um_tree.specs.RawTree.{ExprSyntax}
use Rattle.um_types.specs.NoteMachine.{NeedNote}
use Rattle.um_types.specs.TypeMachine.{NeedType}
use Rattle.um_operands.specs.declared.infix.Infix.{Infix}
use Rattle.um_operands.specs.declared.operand.Operand.{Operand}
use Rattle.um_operands.specs.declared.begun.Begun.{Begun}
use Rattle.um_operands.specs.declared.focus.Step.{Step}
use Rattle.um_operands.specs.declared.focus.Step.TheVariants as step
use Rattle.um_operands.specs.Ranks.{left_limit}
use Rattle.um_operands.specs.ExprBegun.{Frame, InBracket, InItem, Expected, NilColon, PownDigits, State, Have, Inside}
use Rattle.um_operands.specs.ExprBegun.{InNote, InType, Refused, reduce, finish}
use Rattle.um_operands.specs.ExprOperands.{operand_expr}
use Rattle.um_operands.specs.ExprFrames.{is_call}
use Rattle.um_operands.specs.ExprFocus.{open_in, begun_state}
use Rattle.um_forms.specs.declared.token.ExprToken.TheVariants.{Operator as operator, Mark as mark}
use Rattle.um_forms.specs.declared.argument.Before.{Before}
use Rattle.um_forms.specs.declared.argument.Before.TheVariants as before
use Rattle.um_forms.specs.ExprTokens.{symbol_token}
use Rattle.um_forms.specs.ExprForms.{argument, infix_after, operator_after}

-- What a step gives: the next state, by the expression that has begun; or, if the token is refused, the expression
-- before it, if one is whole there.
abbrev pub Simulates : Option ExprSyntax → Begun → Step → State → Type 0
Simulates found b step.Goes new = new ≡ begun_state b
Simulates found b (step.Note at c) new = new ≡ InNote (open_in b) at c NeedNote
Simulates found b (step.Type at) new = new ≡ InType (open_in b) at (NeedType 0)
Simulates found b (step.Stops t) new = (new ≡ Refused) × (option_map operand_expr t ≡ found)

-- the same for a token after an operand, in frames that were open
abbrev pub SimulatesAfter : Begun → Operand → Begun → Step → State → Type 0
SimulatesAfter old operand b given new =
    Simulates (finish (Have (open_in old) (operand_expr operand))) b given new

-- whether the innermost frame is a call
abbrev pub in_call : List Frame → Bool
in_call [] = false
in_call (frame ∷ frames) = is_call frame

-- an argument begins, or the operand is handed back
abbrev pub Argued : List Frame → ExprSyntax → Before → List Frame → Type 0
Argued old t (before.Called room) new = argument old t ≡ Some new
Argued old t (before.Back same) new = (argument old t ≡ None) × (new ≡ old) × (operand_expr same ≡ t)

-- after `[` `]`, whose list is the first thing in brackets
abbrev pub bracket_empty : List Frame → State
bracket_empty (InBracket at ∷ frames) = Inside frames (NilColon at)
bracket_empty _ = Refused

-- a sign is this operator, whatever stands directly beside it
abbrev pub PlainOperator : Symbol → Infix → Type 0
PlainOperator symbol sign =
    (symbol_token symbol ≡ operator sign)
    × ((frames : List Frame) (t : ExprSyntax) (at : ℕ) (glued : Bool)
    → operator_after frames t sign at glued ≡ infix_after sign at (reduce (left_limit sign) frames t))

-- a sign is `<` or `>`, whose meaning depends on what stands directly beside it, or it stands between no operands
abbrev pub NoPlainOperator : Symbol → Type 0
NoPlainOperator symbol.Less = Unit {0}
NoPlainOperator symbol.Greater = Unit {0}
NoPlainOperator s = symbol_token s ≡ mark s

-- `[` without items; `(`
abbrev pub is_empty_item : Frame → Bool
is_empty_item (InItem at []) = true
is_empty_item _ = false

abbrev pub is_bracket : Frame → Bool
is_bracket (InBracket at) = true
is_bracket _ = false

-- inside a fixed run of tokens the power of `pown` is expected, in brackets after its sign
abbrev pub expects_digits : Expected → Bool
expects_digits (PownDigits at e) = true
expects_digits _ = false
