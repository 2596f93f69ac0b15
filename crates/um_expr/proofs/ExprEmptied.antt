-- A token whose letters were taken: what no note and no type reads of it is as it was.
use Rattle.std.proofs.Common.{◌≡◌, ◌⊎◌, inr, ℕ, Bool, List, Result, OnOk, IfOk, refl, ap}
use Rattle.std.proofs.lemmas.Result.{IfOk-weaker}
use Rattle.um_syntax.specs.declared.token.Kind.{Kind}
use Rattle.um_syntax.specs.declared.token.Kind.TheVariants as kind
use Rattle.um_syntax.specs.declared.token.Token.{Token}
use Rattle.um_syntax.specs.Emptied.{emptied_kind, emptied}
use Rattle.um_reader.specs.declared.taken.Taken.{Taken}
use Rattle.um_reader.specs.declared.taken.Taken.TheVariants as taken
use Rattle.um_unit_texts.specs.UnitTokens.{unit_token}
use Rattle.um_unit_texts.specs.UnitMachine.{power_in}
use Rattle.um_operands.specs.declared.focus.Focus.{Focus}
use Rattle.um_operands.specs.declared.focus.Focus.TheVariants as focus
use Rattle.um_operands.specs.ExprBegun.{Frame}
use Rattle.um_operands.specs.ExprOperands.{operand_expr}
use Rattle.um_operands.specs.ExprFocus.{state_of, view_expected}
use Rattle.um_forms.specs.declared.token.ExprToken.{ExprToken}
use Rattle.um_forms.specs.ExprForms.{inside}
use Rattle.um_expr.specs.ExprMachine.{act, after, power_after}

power_kept : (k : Kind) → power_in (unit_token (emptied_kind k)) ≡ power_in (unit_token k)
power_kept (kind.Name x) = refl
power_kept (kind.Var x) = refl
power_kept (kind.Number value digits one) = refl
power_kept (kind.Word k) = refl
power_kept kind.Hole = refl
power_kept (kind.Sign s) = refl

pub act_kept : (frames : List Frame) (now : Focus) (token : ExprToken) (at : ℕ) (glued : Bool) (k : Kind)
    → act (state_of frames now) token at glued (emptied_kind k) ≡ act (state_of frames now) token at glued k
act_kept frames focus.Wanted token at glued k = refl
act_kept frames (focus.Read t) token at glued k = ap (λ p. after frames (operand_expr t) token at glued p) (power_kept k)
act_kept frames (focus.Power t) token at glued k = ap (λ p. power_after frames (operand_expr t) token at glued p) (power_kept k)
act_kept frames (focus.Greater place left) token at glued k = refl
act_kept frames (focus.Inside e) token at glued k = ap (λ p. inside frames (view_expected e) token at p) (power_kept k)

-- a token that is refused is as it was but for its letters
pub kept_of : {E : Type 0} (r : Result Taken E) (old new : Token) → OnOk r (new ≡ emptied old)
    → IfOk r (λ t. t ≡ taken.Stops → (new ≡ old) ⊎ (new ≡ emptied old))
kept_of r old new rest = IfOk-weaker r (λ _. new ≡ emptied old) (λ t. t ≡ taken.Stops → (new ≡ old) ⊎ (new ≡ emptied old)) (λ t e _. inr e) rest
