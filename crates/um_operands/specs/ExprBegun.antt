-- An expression that has begun: what is open around the next operand, what is in focus, and what is left once the
-- frames that need no token end.
-- Source: operator precedence with a stack, as in Knuth, Fundamental Algorithms, 2.2.1; this project's own states.
use Rattle.std.specs.Prelude.{ℕ, ℤ, Bool, true, false, cond, nat_lt, List, [], ◌∷◌, ◌++◌, Option, Some, None}
use Rattle.um_frac.specs.declared.number.Frac.{Frac}
use Rattle.um_tree.specs.RawTree.{BinderSyntax, ExprSyntax, FieldPart, call_syntax, negate_syntax, not_syntax}
use Rattle.um_tree.specs.RawTree.{if_syntax, let_syntax, match_syntax, exprs_in_order}
use Rattle.um_types.specs.NoteMachine.{NoteState}
use Rattle.um_types.specs.TypeMachine.{TypeState}
use Rattle.um_operands.specs.declared.infix.Infix.{Infix}
use Rattle.um_operands.specs.Ranks.{infix_rank, right_bound, infix_text}

-- what is open around the next operand
pub data Frame : Type 0 where
  InBracket : (at : ℕ) → Frame
  -- `[` and these items
  InItem : (at : ℕ) (before : List ExprSyntax) → Frame
  -- `{`, these fields, and a field's name with its `=`
  InField : (at : ℕ) (before : List FieldPart) (place : ℕ) (name : List ℕ) → Frame
  -- after `=`; after `in`
  InValue : (at : ℕ) (x : BinderSyntax) → Frame
  InBody : (at : ℕ) (x : BinderSyntax) (value : ExprSyntax) → Frame
  -- after `if`; `then`; `else`
  InTest : (at : ℕ) → Frame
  InThen : (at : ℕ) (test : ExprSyntax) → Frame
  InElse : (at : ℕ) (test one : ExprSyntax) → Frame
  -- after `match`; the first `->`; the second
  InMatched : (at : ℕ) → Frame
  InEmptyArm : (at : ℕ) (list : ExprSyntax) → Frame
  InFullArm : (at : ℕ) (list empty : ExprSyntax) (head tail : BinderSyntax) → Frame
  InNegate : (at : ℕ) → Frame
  InNot : (at : ℕ) → Frame
  -- after `pown`: its power ends it
  InPown : (at : ℕ) → Frame
  InRight : (at : ℕ) (sign : Infix) (left : ExprSyntax) → Frame
  -- after a name and these arguments
  InArgument : (at : ℕ) (function : List ℕ) (before : List ExprSyntax) → Frame

-- the rank of what stands in the frame lies below this
abbrev pub bound_of : Frame → ℕ
bound_of (InNegate at) = 3
bound_of (InNot at) = 1
bound_of (InPown at) = 1
bound_of (InRight at sign left) = right_bound sign
bound_of (InArgument at f before) = 1
bound_of _ = 10

-- the rank of what a frame that needs no token to end becomes; the others have 10
abbrev pub own_rank : Frame → ℕ
own_rank (InBody at x value) = 9
own_rank (InElse at test one) = 9
own_rank (InFullArm at list empty head tail) = 9
own_rank (InNegate at) = 2
own_rank (InNot at) = 1
own_rank (InRight at sign left) = infix_rank sign
own_rank (InArgument at f before) = 1
own_rank _ = 10

abbrev pub top_bound : List Frame → ℕ
top_bound [] = 10
top_bound (frame ∷ frames) = bound_of frame

abbrev pub top_rank : List Frame → ℕ
top_rank [] = 10
top_rank (frame ∷ frames) = own_rank frame

-- a frame that needs no token to end, with its last part
abbrev pub plug : Frame → ExprSyntax → ExprSyntax
plug (InBody at x value) last = let_syntax at x value last
plug (InElse at test one) last = if_syntax at test one last
plug (InFullArm at list empty head tail) last = match_syntax at list empty head tail last
plug (InNegate at) last = negate_syntax at last
plug (InNot at) last = not_syntax at last
plug (InRight at sign left) last = infix_text at sign left last
plug (InArgument at f before) last = call_syntax at f (exprs_in_order (before ++ last ∷ []))
plug _ last = last

-- whether the power of `pown` is wanted
abbrev pub is_pown : Frame → Bool
is_pown (InPown at) = true
is_pown _ = false

abbrev pub named_part : ℕ → List ℕ → ExprSyntax → FieldPart
named_part place x t = record { at = place; name = x; part = t }

-- the fields with one more
abbrev pub with_field : List FieldPart → ℕ → List ℕ → ExprSyntax → List FieldPart
with_field before place x t = before ++ named_part place x t ∷ []

-- a place inside a run of tokens that is fixed
pub data Expected : Type 0 where
  -- after `let`; after its binder
  LetBinder : (at : ℕ) → Expected
  LetEqual : (at : ℕ) (x : BinderSyntax) → Expected
  -- after `{` or `;` and these fields; after the name
  FieldName : (at : ℕ) (before : List FieldPart) → Expected
  FieldEqual : (at : ℕ) (before : List FieldPart) (place : ℕ) (name : List ℕ) → Expected
  -- after `.`
  DotName : (at : ℕ) (e : ExprSyntax) → Expected
  -- after `with`; its bar; `[`; `]`
  ArmBegin : (at : ℕ) (list : ExprSyntax) → Expected
  ArmOpen : (at : ℕ) (list : ExprSyntax) → Expected
  ArmClose : (at : ℕ) (list : ExprSyntax) → Expected
  ArmArrow : (at : ℕ) (list : ExprSyntax) → Expected
  -- after the bar of the full arm; the head; `::`; the tail
  HeadBinder : (at : ℕ) (list empty : ExprSyntax) → Expected
  HeadCons : (at : ℕ) (list empty : ExprSyntax) (head : BinderSyntax) → Expected
  TailBinder : (at : ℕ) (list empty : ExprSyntax) (head : BinderSyntax) → Expected
  TailArrow : (at : ℕ) (list empty : ExprSyntax) (head tail : BinderSyntax) → Expected
  -- after `(` `[` `]`
  NilColon : (at : ℕ) → Expected
  -- after `pown`, its part and `(`; `-`; the power, which is this
  PownMinus : (at : ℕ) (e : ExprSyntax) → Expected
  PownDigits : (at : ℕ) (e : ExprSyntax) → Expected
  PownClose : (at : ℕ) (e : ExprSyntax) (k : ℤ) → Expected

pub data State : Type 0 where
  -- an operand is wanted
  Need : (frames : List Frame) → State
  -- an atom is in focus, or a whole power in brackets
  Have : (frames : List Frame) (operand : ExprSyntax) → State
  -- a whole power is in focus: a `<` directly after its number would open a unit, and it has none
  HavePower : (frames : List Frame) (operand : ExprSyntax) → State
  -- after `>`: a `=` directly after it belongs to the sign
  Greater : (frames : List Frame) (at : ℕ) (left : ExprSyntax) → State
  Inside : (frames : List Frame) (expected : Expected) → State
  -- in the note of a number; in the type of an empty list
  InNote : (frames : List Frame) (at : ℕ) (value : Frac) (note : NoteState) → State
  InType : (frames : List Frame) (at : ℕ) (type_state : TypeState) → State
  Refused : State

-- what is left open once all frames up to this rank end
abbrev pub reduce : ℕ → List Frame → ExprSyntax → State
reduce limit [] t = Have [] t
reduce limit (frame ∷ frames) t =
    cond (nat_lt limit (own_rank frame)) (Have (frame ∷ frames) t) (reduce limit frames (plug frame t))

-- the expression, if all is read
abbrev pub whole : State → Option ExprSyntax
whole (Have [] t) = Some t
whole _ = None

abbrev pub finish : State → Option ExprSyntax
finish (Have frames t) = whole (reduce 9 frames t)
finish (HavePower frames t) = whole (reduce 9 frames t)
finish _ = None
