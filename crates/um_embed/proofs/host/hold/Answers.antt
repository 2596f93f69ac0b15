use Rattle.std.proofs.Common.{◌≡◌, ℕ, List, Some, Ok, Err, ap, sym, subst, ◌∙◌}
use Rattle.um_reports.specs.declared.status.Status.TheVariants.{Done, NoMemory}
use Rattle.um_reports.specs.Numbers.{number_of}
use Rattle.um_answers.specs.TypesAnswer.{TypesAnswer}
use Rattle.um_embed.specs.Embedded.{types_words}
use Rattle.um_embed.proofs.RunWords.{types_answer}
use Rattle.um_embed.proofs.Handed.{answered}
use Rattle.um_embed.proofs.host.hold.Goals as goal

pub returns-in-Ok-clause-answered : goal.returns-in-Ok-clause-answered
returns-in-Ok-clause-answered c =
    let text = c.args.opened.value in let reply = c.in-Ok.reply in
    let says : TypesAnswer text reply.text.items reply.status = subst (λ (t : List ℕ). TypesAnswer t reply.text.items reply.status) c.deref.ensures c.in-Ok.ensures.types in
    answered c.hand.result c.hand.new.size c.args.answer.now c.hand.new.into (Some text) types_words (Ok reply) (types_answer text reply.text.items reply.status says) c.hand.ensures

pub returns-in-Ok-clause-opened : goal.returns-in-Ok-clause-opened
returns-in-Ok-clause-opened c = λ done. c.exchange.ensures.now ∙ c.keeping.ensures

pub returns-in-Ok-clause-refused : goal.returns-in-Ok-clause-refused
returns-in-Ok-clause-refused c = λ other. absurd (other (c.hand.ensures.0 ∙ ap number_of c.in-Ok.ensures.done))

pub returns-in-Ok-clause-accepted : goal.returns-in-Ok-clause-accepted
returns-in-Ok-clause-accepted c = λ other. c.hand.ensures.0 ∙ ap number_of c.in-Ok.ensures.done

pub returns-in-Err-clause-answered : goal.returns-in-Err-clause-answered
returns-in-Err-clause-answered c =
    answered c.hand-in-Err.result c.hand-in-Err.new.size c.args.answer.now c.hand-in-Err.new.into (Some c.args.opened.value) types_words (Err c.in-Err.error) tt c.hand-in-Err.ensures

pub returns-in-Err-clause-opened : goal.returns-in-Err-clause-opened
returns-in-Err-clause-opened c = λ done. absurd (let wrong : number_of NoMemory ≡ number_of Done = sym c.hand-in-Err.ensures.0 ∙ done in cc wrong)

pub returns-in-Err-clause-refused : goal.returns-in-Err-clause-refused
returns-in-Err-clause-refused c = λ other. c.exchange-in-Err.ensures.now ∙ c.none.ensures

pub returns-in-Err-clause-accepted : goal.returns-in-Err-clause-accepted
returns-in-Err-clause-accepted c = λ other. absurd (other c.hand-in-Err.ensures.0)
