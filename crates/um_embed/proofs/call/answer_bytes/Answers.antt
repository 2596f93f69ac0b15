use Rattle.std.proofs.Common.{◌∷◌, List, ℕ, codes, ap, subst, ◌∙◌}
use Rattle.std.specs.Prelude.{decimal}
use Rattle.std.proofs.lemmas.Result.{IfOk-weaker}
use Rattle.um_tool.specs.Answer.{Answer, IsUsageReply}
use Rattle.um_embed.specs.Embedded.{run_words, words_between}
use Rattle.um_embed.proofs.RunWords.{unreadable_answer, readable, unreadable}
use Rattle.um_embed.proofs.call.answer_bytes.Goals as goal

pub returns-in-Ok : goal.returns-in-Ok
returns-in-Ok c =
    let bytes = c.args.bytes.now in let budget = c.args.budget in let text = c.args.opened.now in
    let same = ap (λ (b : List ℕ). codes "run" ∷ decimal budget ∷ words_between b) c.in-Ok.ensures.cases.0 ∙ readable budget bytes c.in-Ok.ensures.cases.1 in
    IfOk-weaker c.answer_text.result (λ reply. Answer (codes "run" ∷ decimal budget ∷ words_between c.in-Ok.text.now) text reply.text.items reply.status)
    (λ reply. Answer (run_words budget bytes) text reply.text.items reply.status)
    (λ reply says. subst (λ (words : List (List ℕ)). Answer words text reply.text.items reply.status) same says)
    c.answer_text.ensures

pub returns-in-Err : goal.returns-in-Err
returns-in-Err c =
    let bytes = c.args.bytes.now in let budget = c.args.budget in let text = c.args.opened.now in
    IfOk-weaker c.answer_usage.result (λ reply. IsUsageReply reply.text.items reply.status)
    (λ reply. Answer (run_words budget bytes) text reply.text.items reply.status)
    (λ reply says. subst (λ (words : List (List ℕ)). Answer words text reply.text.items reply.status) (unreadable budget bytes c.in-Err.ensures.cases.0) (unreadable_answer text reply.text.items reply.status says))
    c.answer_usage.ensures
