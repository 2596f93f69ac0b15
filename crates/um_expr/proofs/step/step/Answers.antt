use Rattle.std.proofs.Common.{◌≡◌, ap, subst, ◌∙◌}
use Rattle.std.proofs.lemmas.Result.{IfOk-weaker}
use Rattle.um_operands.specs.ExprBegun.{finish}
use Rattle.um_operands.specs.ExprFocus.{open_in, begun_state}
use Rattle.um_expr.specs.ExprMachine.{act, step}
use Rattle.um_forms.specs.ExprSteps.{Simulates}
use Rattle.um_expr.proofs.ExprEmptied.{act_kept}
use Rattle.um_expr.proofs.step.step.Goals as goal

pub returns-clause-state : goal.returns-clause-state
returns-clause-state c =
    let begun = c.args.begun.now in
    let old = c.args.token.now in
    let given = c.of_kind-kind.result in
    let st = begun_state begun in
    let same : act st given old.start old.glued c.of_kind-kind.new.kind ≡ step st old =
    ap (λ k. act st given old.start old.glued k) c.of_kind-kind.ensures.emptied
    ∙ (act_kept (open_in begun) begun.focus given old.start old.glued old.kind ∙ ap (λ t. act st t old.start old.glued old.kind) c.of_kind-kind.ensures.token) in
    IfOk-weaker c.act.result (λ s. Simulates (finish st) c.act.new.begun s (act st given old.start old.glued c.of_kind-kind.new.kind)) (λ s. Simulates (finish st) c.act.new.begun s (step st old))
    (λ s. subst (λ next. Simulates (finish st) c.act.new.begun s next) same) c.act.ensures
