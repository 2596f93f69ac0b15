use Rattle.std.proofs.Common.{◌<◌, ◌-◌, ◌∷◌, codes, drop, length, map, string_bytes, take, sym, subst, ◌∙◌, rules, arith}
use Rattle.std.specs.Prelude.{decimal}
use Rattle.std.proofs.lemmas.List.{take_all, length-drop, length-map}
use Rattle.std.proofs.lemmas.Result.{IfOk-weaker}
use Rattle.um_call_answers.specs.declared.way.Way.TheVariants as way
use Rattle.um_call_answers.specs.AskedCall.{AskedCall}
use Rattle.um_call_answers.specs.CallAnswer.{CallAnswer}
use Rattle.um_call_answers.proofs.CallsAnswers.{call_by_first}
use Rattle.um_tool.specs.Answer.{Answer, IsUsageReply}
use Rattle.um_embed.proofs.RunWords.{run_answer, great_answer, long_answer}
use Rattle.um_embed.proofs.call.answer_words.Goals as goal

pub returns-then-budget-gt-GREATEST_BUDGET : goal.returns-then-budget-gt-GREATEST_BUDGET
returns-then-budget-gt-GREATEST_BUDGET c =
    let words = map string_bytes c.args.words.now in let budget = c.args.budget in let bytes = c.args.opened.now in
    let fits : budget < 18446744073709551616 = search rules in
    let many = length-map c.args.words.now string_bytes in let given = c.requires.some in
    let some : 0 < length words = omega (arith, many, given) in
    IfOk-weaker c.answer_usage.result (λ reply. IsUsageReply reply.text.items reply.status)
    (λ reply. Answer (codes "run" ∷ decimal budget ∷ words) bytes reply.text.items reply.status)
    (λ reply says. great_answer budget fits words bytes reply.text.items reply.status some c.if-budget-gt-GREATEST_BUDGET.true says)
    c.answer_usage.ensures

pub returns-then-not-are_short : goal.returns-then-not-are_short
returns-then-not-are_short c =
    let words = map string_bytes c.args.words.now in let budget = c.args.budget in let bytes = c.args.opened.now in
    let fits : budget < 18446744073709551616 = search rules in
    let long = sym c.are_short.ensures ∙ c.if-not-are_short.true in
    IfOk-weaker c.answer_usage-then-not-are_short.result (λ reply. IsUsageReply reply.text.items reply.status)
    (λ reply. Answer (codes "run" ∷ decimal budget ∷ words) bytes reply.text.items reply.status)
    (λ reply says. long_answer budget fits words bytes reply.text.items reply.status long says)
    c.answer_usage-then-not-are_short.ensures

pub returns : goal.returns
returns c =
    let texts = c.args.words.now in let words = map string_bytes texts in let budget = c.args.budget in let bytes = c.args.opened.now in
    let fits : budget < 18446744073709551616 = search rules in
    let many = length-map texts string_bytes in let given = c.requires.some in
    let some : 0 < length words = omega (arith, many, given) in
    let small = c.if-budget-gt-GREATEST_BUDGET.false in
    let short = sym c.are_short.ensures ∙ c.if-not-are_short.false in
    let left = length-drop 1 texts in
    let rest = take (length texts - 1) (drop 1 texts) in
    let asked : AskedCall = record { budget = budget; name = c.as_str.result.now; texts = map string_bytes rest } in
    let same = call_by_first string_bytes budget texts rest c.index-words-0.result c.as_str.result.now given c.index-words-0.is c.as_str.ensures.value (take_all (length texts - 1) (drop 1 texts) (omega (arith, left))) in
    IfOk-weaker c.call.result (λ reply. CallAnswer way.Code asked bytes reply.text.items reply.status)
    (λ reply. Answer (codes "run" ∷ decimal budget ∷ words) bytes reply.text.items reply.status)
    (λ reply says. run_answer budget fits words bytes reply.text.items reply.status some small short (subst (λ (a : AskedCall). CallAnswer way.Code a bytes reply.text.items reply.status) same says))
    c.call.ensures
