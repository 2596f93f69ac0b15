-- A token that stands in no unit text is refused in one.
use Rattle.std.proofs.Common.{◌≡◌, ℕ, true, List, refl}
use Rattle.std.proofs.lemmas.Bool.{false≢true}
use Rattle.um_vocabulary.specs.declared.vocabulary.Symbol.TheVariants as symbol
use Rattle.um_tree.specs.RawTree.{UnitSyntax}
use Rattle.um_unit_texts.specs.UnitTokens.{UnitToken, sign, measure, variable, number}
use Rattle.um_unit_texts.specs.UnitMachine.{Frame, State, Need, Have, Raised, Lowered, Refused, act, is_foreign}

in_need : (frames : List Frame) (what : UnitToken) (at : ℕ) → is_foreign what ≡ true → act (Need frames) what at ≡ Refused
in_need frames (measure x) at e = absurd (false≢true e)
in_need frames (variable x) at e = absurd (false≢true e)
in_need frames (number one power) at e = absurd (false≢true e)
in_need frames (sign symbol.LeftParen) at e = absurd (false≢true e)
in_need frames (sign symbol.Slash) at e = absurd (false≢true e)
in_need frames _ at e = refl

in_have : (frames : List Frame) (t : UnitSyntax) (what : UnitToken) (at : ℕ) → is_foreign what ≡ true → act (Have frames t) what at ≡ Refused
in_have frames t (measure x) at e = absurd (false≢true e)
in_have frames t (variable x) at e = absurd (false≢true e)
in_have frames t (number one power) at e = absurd (false≢true e)
in_have frames t (sign symbol.LeftParen) at e = absurd (false≢true e)
in_have frames t (sign symbol.RightParen) at e = absurd (false≢true e)
in_have frames t (sign symbol.Star) at e = absurd (false≢true e)
in_have frames t (sign symbol.Slash) at e = absurd (false≢true e)
in_have frames t (sign symbol.Caret) at e = absurd (false≢true e)
in_have frames t _ at e = refl

in_raised : (frames : List Frame) (t : UnitSyntax) (what : UnitToken) (at : ℕ) → is_foreign what ≡ true → act (Raised frames t) what at ≡ Refused
in_raised frames t (number one power) at e = absurd (false≢true e)
in_raised frames t (sign symbol.Minus) at e = absurd (false≢true e)
in_raised frames t _ at e = refl

in_lowered : (frames : List Frame) (t : UnitSyntax) (what : UnitToken) (at : ℕ) → is_foreign what ≡ true → act (Lowered frames t) what at ≡ Refused
in_lowered frames t (number one power) at e = absurd (false≢true e)
in_lowered frames t _ at e = refl

pub foreign_refused : (st : State) (what : UnitToken) (at : ℕ) → is_foreign what ≡ true → act st what at ≡ Refused
foreign_refused (Need frames) what at e = in_need frames what at e
foreign_refused (Have frames t) what at e = in_have frames t what at e
foreign_refused (Raised frames t) what at e = in_raised frames t what at e
foreign_refused (Lowered frames t) what at e = in_lowered frames t what at e
foreign_refused Refused what at e = refl
