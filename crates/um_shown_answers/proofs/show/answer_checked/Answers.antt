use Rattle.std.proofs.Common.{sym, subst, Result}
use Rattle.std.specs.Prelude.{List}
use Rattle.std.proofs.lemmas.Result.{IfOk-weaker}
use Rattle.um_display.specs.declared.unit.DisplayUnit.{DisplayUnit}
use Rattle.um_display.specs.declared.unit.UnitsStop.{UnitsStop}
use Rattle.um_front.specs.Parts.{checked_tree}
use Rattle.um_call_answers.specs.Calling.{asked_call}
use Rattle.um_call_answers.specs.OfCall.{OfCall}
use Rattle.um_shown_answers.specs.ShowAnswer.{DisplayedRun, ByUnits, IsShowAnswer}
use Rattle.um_shown_answers.proofs.show.answer_checked.Goals as goal

pub returns-in-Ok : goal.returns-in-Ok
unfolding IsShowAnswer
returns-in-Ok c =
    let asked = asked_call c.args.call.now in let checked = checked_tree c.args.checked.now in let digits = c.args.digits in
    let units = c.in-Ok.units.items.items in
    let (parts, stated, found) = c.in-Ok.ensures in
    IfOk-weaker c.answer_in-answer.result (λ reply. OfCall (DisplayedRun digits units asked.budget) asked checked reply.text.items reply.status)
    (λ reply. IsShowAnswer digits c.args.word.now asked checked reply.text.items reply.status)
    (λ reply says. (parts, stated, subst (λ (r : Result (List DisplayUnit) UnitsStop). ByUnits digits asked checked r reply.text.items reply.status) (sym found) says))
    c.answer_in-answer.ensures
