use Rattle.std.proofs.Common.{ℕ, List, Some, None, ap, sym, subst, ◌∙◌}
use Rattle.std.specs.Prelude.{Option}
use Rattle.um_embed.specs.Embedded.{Answered, run_words}
use Rattle.um_embed.proofs.Handed.{answered}
use Rattle.um_embed.proofs.host.umc_embed_call.Goals as goal

pub returns-in-Some-clause-answered : goal.returns-in-Some-clause-answered
returns-in-Some-clause-answered c =
    let text = c.deref.result.now in let words = run_words c.args.budget c.args.words.now in
    let number = c.hand.result in let size = c.hand.new.size in let old = c.args.answer.now in let new = c.hand.new.into in
    subst (λ (h : Option (List ℕ)). Answered h words number size old new) (ap (λ (t : List ℕ). Some t) c.deref.ensures ∙ sym c.in-Some.ensures.before)
    (answered number size old new (Some text) words c.answer_bytes-reply.result c.answer_bytes-reply.ensures c.hand.ensures)

pub returns-in-Some-clause-kept : goal.returns-in-Some-clause-kept
returns-in-Some-clause-kept c = c.exchange-in-Some.ensures.now ∙ c.keeping.ensures ∙ sym c.in-Some.ensures.before

pub returns-in-None-clause-answered : goal.returns-in-None-clause-answered
returns-in-None-clause-answered c =
    let words = run_words c.args.budget c.args.words.now in
    let number = c.hand-in-None.result in let size = c.hand-in-None.new.size in let old = c.args.answer.now in let new = c.hand-in-None.new.into in
    subst (λ (h : Option (List ℕ)). Answered h words number size old new) (sym c.in-None.ensures.before)
    (answered number size old new None words c.answer_usage.result c.answer_usage.ensures c.hand-in-None.ensures)

pub returns-in-None-clause-kept : goal.returns-in-None-clause-kept
returns-in-None-clause-kept c = c.exchange.ensures.now ∙ c.none.ensures ∙ sym c.in-None.ensures.before
