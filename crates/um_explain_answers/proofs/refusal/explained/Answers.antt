use Rattle.std.proofs.lemmas.Result.{IfOk-at_ok}
use Rattle.um_explain_answers.specs.Added.{Adds}
use Rattle.um_explain_answers.specs.Stages.{FollowsLine}
use Rattle.um_explain_answers.proofs.Refusals.{explained_refusal}
use Rattle.um_explain_answers.proofs.refusal.explained.Goals as goal

pub returns-in-Ok : goal.returns-in-Ok
returns-in-Ok c =
    let text = c.args.refusal.text.items in
    λ bytes line refused adds. explained_refusal bytes line text c.args.refusal.status refused (IfOk-at_ok (λ _. Adds (FollowsLine bytes) line text) c.in-Ok.is adds)
