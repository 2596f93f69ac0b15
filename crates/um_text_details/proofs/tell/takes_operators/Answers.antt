use Rattle.std.proofs.Common.{refl, subst, ◌∙◌, arith}
use Rattle.std.specs.List.{All}
use Rattle.std.proofs.lemmas.List.{take_all}
use Rattle.um_syntax.specs.declared.token.Kind.TheVariants as kind
use Rattle.um_text_details.specs.Expected.{CanStand}
use Rattle.um_text_details.proofs.Told.{clash}
use Rattle.um_text_details.proofs.Tries.{sign_refused, signs_more}
use Rattle.um_text_details.proofs.tell.takes_operators.Goals as goal

pub returns-then-not-takes : goal.returns-then-not-takes
returns-then-not-takes c = (
  (λ e. absurd (clash e)),
  (λ all. sign_refused c.args.trial.now c.operators-operator-items.result.now c.loop-operator.operator-index _
      c.takes.result c.operators-operator-items.ensures (omega (arith, c.loop-operator-test.true))
      c.if-not-takes.true c.takes.ensures all),
)

pub loop-operator-preserved : goal.loop-operator-preserved
loop-operator-preserved c =
    signs_more c.args.trial.now c.operators-operator-items.result.now c.loop-operator.operator-index _
    (omega (arith, c.loop-operator-test.true)) c.loop-operator.invariant (c.takes.ensures.0 c.if-not-takes.false)

pub returns : goal.returns
returns c =
    let items = c.operators-operator-items.result.now in (
      (λ e. subst (λ l. All (λ s. CanStand c.args.trial.now (kind.Sign s)) l)
          (take_all c.loop-operator.operator-index items (omega (arith, c.loop-operator-test.false)) ∙ c.operators-operator-items.ensures)
          c.loop-operator.invariant),
      (λ x. refl),
    )
