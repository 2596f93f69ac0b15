use Rattle.std.proofs.Common.{ℕ, List, Some, ap, subst, ◌∙◌}
use Rattle.std.proofs.lemmas.Result.{IfOk-weaker}
use Rattle.um_front.specs.Refused.{IsUnchecked}
use Rattle.um_answers.specs.TypesAnswer.{TypesAnswer}
use Rattle.um_embed.specs.Embedded.{Answered, HeldAnswer, types_words}
use Rattle.um_embed.proofs.RunWords.{types_answer}
use Rattle.um_embed.proofs.Handed.{answered, typed_is_done, refused_not_done, refused_types}
use Rattle.um_embed.proofs.host.umc_embed_open.Goals as goal

pub returns-in-Ok-clause-answered : goal.returns-in-Ok-clause-answered
returns-in-Ok-clause-answered c =
    subst (λ (t : List ℕ). Answered (Some t) types_words c.hold.result c.hold.new.size c.args.answer.now c.hold.new.answer) c.in-Ok.ensures.opened c.hold.ensures.answered

pub returns-in-Ok-clause-opened : goal.returns-in-Ok-clause-opened
returns-in-Ok-clause-opened c = λ done. c.hold.ensures.opened done ∙ ap Some c.in-Ok.ensures.opened

pub returns-in-Ok-clause-refused : goal.returns-in-Ok-clause-refused
returns-in-Ok-clause-refused c = c.hold.ensures.refused

pub returns-in-Ok-clause-complete : goal.returns-in-Ok-clause-complete
returns-in-Ok-clause-complete c = λ typed. c.hold.ensures.accepted

pub returns-in-Err-clause-answered : goal.returns-in-Err-clause-answered
returns-in-Err-clause-answered c =
    let text = c.args.text.now in let refused = c.in-Err.refused in
    let says =
    IfOk-weaker refused (λ r. IsUnchecked text r.text.items r.status) (λ r. HeldAnswer (Some text) types_words r.text.items r.status)
    (λ r is. types_answer text r.text.items r.status (refused_types text r.text.items r.status is)) c.in-Err.ensures.refused in
    answered c.hand.result c.hand.new.size c.args.answer.now c.hand.new.into (Some text) types_words refused says c.hand.ensures

pub returns-in-Err-clause-opened : goal.returns-in-Err-clause-opened
returns-in-Err-clause-opened c = λ done. absurd (refused_not_done c.hand.result c.hand.new.size c.args.answer.now c.hand.new.into c.args.text.now c.in-Err.refused c.in-Err.ensures.refused c.hand.ensures done)

pub returns-in-Err-clause-refused : goal.returns-in-Err-clause-refused
returns-in-Err-clause-refused c = λ other. c.exchange.ensures.now ∙ c.none.ensures

pub returns-in-Err-clause-complete : goal.returns-in-Err-clause-complete
returns-in-Err-clause-complete c =
    let text = c.args.text.now in let refused = c.in-Err.refused in
    let says =
    IfOk-weaker refused (λ r. IsUnchecked text r.text.items r.status) (λ r. TypesAnswer text r.text.items r.status)
    (λ r is. refused_types text r.text.items r.status is) c.in-Err.ensures.refused in
    λ typed other. typed_is_done c.hand.result c.hand.new.size c.args.answer.now c.hand.new.into text typed refused says c.hand.ensures other
