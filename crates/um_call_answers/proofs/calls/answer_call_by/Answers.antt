use Rattle.std.proofs.Common.{◌≡◌, ◌-◌, IsTrue, codes, drop, length, map, string_bytes, take, inl, sym, subst, ◌∙◌, arith}
use Rattle.std.proofs.lemmas.List.{take_all, length-drop}
use Rattle.std.proofs.lemmas.Result.{IfOk-weaker}
use Rattle.um_reports.specs.Steps.{line, Cases}
use Rattle.um_front.specs.Parts.{checked_tree}
use Rattle.um_call_answers.specs.declared.way.Way.TheVariants as way
use Rattle.um_call_answers.specs.AskedCall.{AskedCall}
use Rattle.um_call_answers.specs.CallAnswer.{IsCallAnswer}
use Rattle.um_call_answers.specs.CallsAnswer.{are_short, IsRunText}
use Rattle.um_call_answers.proofs.CallsAnswers.{call_by_first}
use Rattle.um_call_answers.proofs.calls.answer_call_by.Goals as goal

pub returns : goal.returns
returns c =
    let words = c.args.words.now in let budget = c.args.prepared.now.budget in let checked = checked_tree c.args.prepared.now.program.now in
    let short = sym c.are_short.ensures ∙ c.if-not-are_short.false in
    let left = length-drop 1 words in
    let rest = take (length words - 1) (drop 1 words) in
    let asked : AskedCall = record { budget = budget; name = c.as_str.result.now; texts = map string_bytes rest } in
    let same = call_by_first string_bytes budget words rest c.index-words-0.result c.as_str.result.now c.requires.some c.index-words-0.is c.as_str.ensures.value (take_all (length words - 1) (drop 1 words) (omega (arith, left))) in
    IfOk-weaker c.answer_call_of.result (λ reply. IsCallAnswer way.Code asked checked reply.text.items reply.status)
    (λ reply. Cases (IsTrue (are_short (map string_bytes words))) (IsRunText budget checked (map string_bytes words) reply.text.items) (reply.text.items ≡ line (codes "error 1: usage")))
    (λ reply says. inl (short, (reply.status, subst (λ (a : AskedCall). IsCallAnswer way.Code a checked reply.text.items reply.status) same says)))
    c.answer_call_of.ensures
