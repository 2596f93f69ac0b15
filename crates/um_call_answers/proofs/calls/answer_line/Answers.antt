use Rattle.std.proofs.Common.{◌≡◌, List, [], ℕ, IsTrue, codes, sym, subst, ◌∙◌}
use Rattle.std.proofs.lemmas.Result.{IfOk-weaker}
use Rattle.um_lines.specs.Sources.{words_in}
use Rattle.um_reports.specs.declared.status.Status.TheVariants.{Done, Usage}
use Rattle.um_reports.specs.Steps.{line, IsReply, Cases}
use Rattle.um_front.specs.Parts.{checked_tree}
use Rattle.um_call_answers.specs.CallsAnswer.{are_short, IsRunText, IsLineAnswer}
use Rattle.um_call_answers.proofs.CallsAnswers.{none_of, some_of, empty_line, unreadable_line, line_of_words}
use Rattle.um_call_answers.proofs.calls.answer_line.Goals as goal

pub returns-then-is_empty : goal.returns-then-is_empty
returns-then-is_empty c =
    let checked = checked_tree c.args.prepared.now.program.now in let budget = c.args.prepared.now.budget in let bytes = c.args.line.now in
    let none = none_of bytes (sym c.is_empty.ensures ∙ c.if-is_empty.true) in
    IfOk-weaker c.reply_line.result (λ reply. IsReply reply.text.items reply.status (line []) Done)
    (λ reply. IsLineAnswer budget checked bytes reply.text.items)
    (λ reply is. empty_line budget checked bytes reply.text.items none is.0)
    c.reply_line.ensures

pub returns-in-Ok : goal.returns-in-Ok
returns-in-Ok c =
    let checked = checked_tree c.args.prepared.now.program.now in let budget = c.args.prepared.now.budget in let bytes = c.args.line.now in
    let some = some_of bytes (sym c.is_empty.ensures ∙ c.if-is_empty.false) in
    IfOk-weaker c.answer_words.result
    (λ reply. Cases (IsTrue (are_short (words_in c.in-Ok.line.now))) (IsRunText budget checked (words_in c.in-Ok.line.now) reply.text.items) (reply.text.items ≡ line (codes "error 1: usage")))
    (λ reply. IsLineAnswer budget checked bytes reply.text.items)
    (λ reply says. line_of_words budget checked bytes reply.text.items some c.in-Ok.ensures.cases.1 (subst (λ (s : List ℕ). Cases (IsTrue (are_short (words_in s))) (IsRunText budget checked (words_in s) reply.text.items) (reply.text.items ≡ line (codes "error 1: usage"))) c.in-Ok.ensures.cases.0 says))
    c.answer_words.ensures

pub returns-in-Err : goal.returns-in-Err
returns-in-Err c =
    let checked = checked_tree c.args.prepared.now.program.now in let budget = c.args.prepared.now.budget in let bytes = c.args.line.now in
    let some = some_of bytes (sym c.is_empty.ensures ∙ c.if-is_empty.false) in
    IfOk-weaker c.reply_line-in-Err.result (λ reply. IsReply reply.text.items reply.status (line (codes "error 1: usage")) Usage)
    (λ reply. IsLineAnswer budget checked bytes reply.text.items)
    (λ reply is. unreadable_line budget checked bytes reply.text.items some c.in-Err.ensures.cases.0 is.0)
    c.reply_line-in-Err.ensures
