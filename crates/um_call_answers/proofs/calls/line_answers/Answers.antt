use Rattle.std.proofs.Common.{◌++◌, List, ℕ, ap, sym, subst, ◌∙◌}
use Rattle.um_lines.specs.Sources.{call_lines}
use Rattle.um_front.specs.Parts.{checked_tree}
use Rattle.um_call_answers.proofs.CallsAnswers.{AreAnswered, next_answered, all_answered}
use Rattle.um_call_answers.proofs.calls.line_answers.Goals as goal

pub lines-preserved : goal.lines-preserved
lines-preserved c =
    let checked = checked_tree c.args.prepared.now.program.now in let budget = c.args.prepared.now.budget in
    let all = call_lines c.args.calls.now in let more = call_lines c.in-Some.after.now in
    let text = c.lines.text.items in let reply = c.in_ok-reply.reply.text.items in
    let added = c.in_ok-extend_from_slice.ensures.items ∙ ap (λ (t : List ℕ). text ++ t) c.deref.ensures.value in
    record {
      answered =
          subst (λ (t : List ℕ). AreAnswered budget checked all more t) (sym added)
          (next_answered budget checked all (call_lines c.lines.rest.now) more c.in-Some.line.now text reply c.lines.invariant.answered c.in-Some.ensures.lines c.in_ok-reply.ensures);
    }

pub returns : goal.returns
returns c =
    all_answered c.args.prepared.now.budget (checked_tree c.args.prepared.now.program.now) (call_lines c.args.calls.now) (call_lines c.lines.rest.now) c.lines.text.items c.lines.invariant.answered
    (rw c.in_default.is at c.next_line.ensures.lines)
