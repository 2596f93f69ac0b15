-- Reading a unit text token by token: what is open, and the unit that was read inside it.
-- Source: operator precedence with a stack, as in Knuth, Fundamental Algorithms, 2.2.1; this project's own states.
use Rattle.std.specs.Prelude.{ℕ, pos, neg_ℤ, Bool, true, false, cond, List, [], ◌∷◌, ◌++◌, Option, Some, None}
use Rattle.um_syntax.specs.declared.token.Token.{Token}
use Rattle.um_reader.specs.Machine.{runs}
use Rattle.um_tree.specs.RawTree.{UnitSyntax, one_syntax, measure_syntax, variable_syntax, power_syntax, side_syntax}
use Rattle.um_tree.specs.RawTree.{times_syntax, over_syntax, inverse_syntax, bracket_syntax, units_in_order}
use Rattle.um_unit_texts.specs.UnitTokens.{UnitToken, sign, measure, variable, number, other, unit_token}
use Rattle.um_vocabulary.specs.declared.vocabulary.Symbol.TheVariants as symbol

-- what is open around the next atom
pub data Frame : Type 0 where
  InBracket : (at : ℕ) → Frame
  InInverse : (at : ℕ) → Frame
  InTimes : (left : UnitSyntax) → Frame
  InOver : (left : UnitSyntax) → Frame
  -- after these of a juxtaposition
  InSide : (earlier : List UnitSyntax) → Frame

pub data State : Type 0 where
  -- an atom is wanted, or a leading `/`
  Need : (frames : List Frame) → State
  -- an atom or a power was read
  Have : (frames : List Frame) (operand : UnitSyntax) → State
  -- after `^`; after `^` and `-`
  Raised : (frames : List Frame) (base : UnitSyntax) → State
  Lowered : (frames : List Frame) (base : UnitSyntax) → State
  Refused : State

-- the greatest rank of what may stand in the innermost frame
abbrev pub top_limit : List Frame → ℕ
top_limit [] = 4
top_limit (InBracket at ∷ frames) = 4
top_limit (InInverse at ∷ frames) = 2
top_limit (InTimes left ∷ frames) = 2
top_limit (InOver left ∷ frames) = 2
top_limit (InSide earlier ∷ frames) = 1

-- a unit text begins here
abbrev pub opens : List Frame → Bool
opens [] = true
opens (InBracket at ∷ frames) = true
opens (InInverse at ∷ frames) = false
opens (InTimes left ∷ frames) = false
opens (InOver left ∷ frames) = false
opens (InSide earlier ∷ frames) = false

-- what a frame is with its last part; brackets need a token more
abbrev pub plug : Frame → UnitSyntax → UnitSyntax
plug (InBracket at) t = t
plug (InInverse at) t = inverse_syntax at t
plug (InTimes left) t = times_syntax left t
plug (InOver left) t = over_syntax left t
plug (InSide earlier) t = side_syntax (units_in_order (earlier ++ t ∷ []))

-- what is left open once all ends up to the innermost brackets
abbrev pub reduce : List Frame → UnitSyntax → State
reduce [] t = Have [] t
reduce (InBracket at ∷ frames) t = Have (InBracket at ∷ frames) t
reduce (InInverse at ∷ frames) t = reduce frames (inverse_syntax at t)
reduce (InTimes left ∷ frames) t = reduce frames (times_syntax left t)
reduce (InOver left ∷ frames) t = reduce frames (over_syntax left t)
reduce (InSide earlier ∷ frames) t = reduce frames (side_syntax (units_in_order (earlier ++ t ∷ [])))

-- another power follows: the one that was read belongs to a juxtaposition
abbrev pub juxtapose : List Frame → UnitSyntax → List Frame
juxtapose [] t = InSide (t ∷ []) ∷ []
juxtapose (InBracket at ∷ frames) t = InSide (t ∷ []) ∷ InBracket at ∷ frames
juxtapose (InInverse at ∷ frames) t = InSide (t ∷ []) ∷ InInverse at ∷ frames
juxtapose (InTimes left ∷ frames) t = InSide (t ∷ []) ∷ InTimes left ∷ frames
juxtapose (InOver left ∷ frames) t = InSide (t ∷ []) ∷ InOver left ∷ frames
juxtapose (InSide earlier ∷ frames) t = InSide (earlier ++ t ∷ []) ∷ frames

-- an atom begins, or a leading `/`
abbrev pub begin : List Frame → UnitToken → ℕ → State
begin frames (measure x) at = Have frames (measure_syntax at x)
begin frames (variable x) at = Have frames (variable_syntax at x)
begin frames (number true power) at = Have frames (one_syntax at)
begin frames (number false power) at = Refused
begin frames (sign symbol.LeftParen) at = Need (InBracket at ∷ frames)
begin frames (sign symbol.Slash) at = cond (opens frames) (Need (InInverse at ∷ frames)) Refused
begin frames _ at = Refused

abbrev pub times_after : State → State
times_after (Have frames t) = Need (InTimes t ∷ frames)
times_after _ = Refused

abbrev pub over_after : State → State
over_after (Have frames t) = Need (InOver t ∷ frames)
over_after _ = Refused

abbrev pub close_after : State → State
close_after (Have (InBracket at ∷ frames) t) = Have frames (bracket_syntax at t)
close_after _ = Refused

-- an atom: a name, a variable, 1, brackets
abbrev pub is_atom : UnitSyntax → Bool
is_atom (one_syntax at) = true
is_atom (measure_syntax at x) = true
is_atom (variable_syntax at x) = true
is_atom (bracket_syntax at u) = true
is_atom (power_syntax u k) = false
is_atom (side_syntax us) = false
is_atom (times_syntax u v) = false
is_atom (over_syntax u v) = false
is_atom (inverse_syntax at u) = false

-- only an atom has a power
abbrev pub raise : List Frame → UnitSyntax → State
raise frames t = cond (is_atom t) (Raised frames t) Refused

abbrev pub after : List Frame → UnitSyntax → UnitToken → ℕ → State
after frames t (measure x) at = begin (juxtapose frames t) (measure x) at
after frames t (variable x) at = begin (juxtapose frames t) (variable x) at
after frames t (number one power) at = begin (juxtapose frames t) (number one power) at
after frames t (sign symbol.LeftParen) at = begin (juxtapose frames t) (sign symbol.LeftParen) at
after frames t (sign symbol.RightParen) at = close_after (reduce frames t)
after frames t (sign symbol.Star) at = times_after (reduce frames t)
after frames t (sign symbol.Slash) at = over_after (reduce frames t)
after frames t (sign symbol.Caret) at = raise frames t
after frames t _ at = Refused

abbrev pub raised : List Frame → UnitSyntax → UnitToken → State
raised frames base (number one (Some n)) = Have frames (power_syntax base (pos n))
raised frames base (sign symbol.Minus) = Lowered frames base
raised frames base _ = Refused

abbrev pub lowered : List Frame → UnitSyntax → UnitToken → State
lowered frames base (number one (Some n)) = Have frames (power_syntax base (neg_ℤ (pos n)))
lowered frames base _ = Refused

-- one token more
abbrev pub act : State → UnitToken → ℕ → State
act (Need frames) token at = begin frames token at
act (Have frames t) token at = after frames t token at
act (Raised frames base) token at = raised frames base token
act (Lowered frames base) token at = lowered frames base token
act Refused token at = Refused

abbrev pub unit_step : State → Token → State
unit_step state token = act state (unit_token token.kind) token.start

abbrev pub run : State → List Token → State
run state tokens = runs unit_step state tokens

-- the unit text, if all is read
abbrev pub whole : State → Option UnitSyntax
whole (Have [] t) = Some t
whole _ = None

abbrev pub finish : State → Option UnitSyntax
finish (Have frames t) = whole (reduce frames t)
finish _ = None

-- the atom that a token is, if it is one, brackets aside
abbrev pub atom_of : UnitToken → ℕ → Option UnitSyntax
atom_of (measure x) at = Some (measure_syntax at x)
atom_of (variable x) at = Some (variable_syntax at x)
atom_of (number true power) at = Some (one_syntax at)
atom_of (number false power) at = None
atom_of (sign s) at = None
atom_of other at = None

-- the power that a token writes
abbrev pub power_in : UnitToken → Option ℕ
power_in (number one power) = power
power_in _ = None

-- whether no unit text has the token
abbrev pub is_foreign : UnitToken → Bool
is_foreign (measure x) = false
is_foreign (variable x) = false
is_foreign (number one power) = false
is_foreign (sign symbol.LeftParen) = false
is_foreign (sign symbol.RightParen) = false
is_foreign (sign symbol.Star) = false
is_foreign (sign symbol.Slash) = false
is_foreign (sign symbol.Caret) = false
is_foreign (sign symbol.Minus) = false
is_foreign _ = true

-- `/` or `*` after what was read
abbrev pub sign_after : Bool → State → State
sign_after true st = over_after st
sign_after false st = times_after st
