use Rattle.std.proofs.Common.{◌≡◌, ◌∙◌, ◌++◌, List, ℕ, get_or, eqb-true, arith}
use Rattle.std.specs.Prelude.{slice_range}
use Rattle.std.proofs.lemmas.Result.{IfOk-weaker}
use Rattle.um_tidy.specs.declared.gap.Above.{Above}
use Rattle.um_tidy.specs.Placed.{front, lines_from}
use Rattle.um_tidy.proofs.PlacedComments.{begins_here, front_is}
use Rattle.um_tidy.proofs.Margins.{front_laid}
use Rattle.um_tidy.proofs.comments.push_comments_below.Goals as goal

pub push_comments_from-requires-clause-order : goal.push_comments_from-requires-clause-order
push_comments_from-requires-clause-order c =
    let (after, here) = c.in-Some.ensures in
    (begins_here c.args.gap.now 0 c.margin_at-margin.result.end c.in-Some.last c.margin_at-margin.ensures.end (omega arith) after.high (eqb-true (get_or c.args.gap.now c.in-Some.last 0) 10 here)).sooner

pub push_comments_from-requires-clause-begins : goal.push_comments_from-requires-clause-begins
push_comments_from-requires-clause-begins c =
    let (after, here) = c.in-Some.ensures in
    (begins_here c.args.gap.now 0 c.margin_at-margin.result.end c.in-Some.last c.margin_at-margin.ensures.end (omega arith) after.high (eqb-true (get_or c.args.gap.now c.in-Some.last 0) 10 here)).other

pub returns-clause-added : goal.returns-clause-added
returns-clause-added c =
    let (after, here) = c.in-Some.ensures in
    let gap = c.args.gap.now in
    let text = c.args.text.now.items in
    let m = c.margin_at-margin.result in
    let is = c.margin_at-margin.ensures.margin in
    let kept = c.push_front.new.text.items ++ slice_range gap c.in_ok-from.from m.end in
    let begins = begins_here gap 0 m.end c.in-Some.last c.margin_at-margin.ensures.end (omega arith) after.high (eqb-true (get_or gap c.in-Some.last 0) 10 here) in
    IfOk-weaker c.push_comments_from.result
    (λ len. (last : Above → List ℕ → List ℕ) → c.push_comments_from.new.text.items ++ lines_from last gap len ≡ kept ++ lines_from last gap m.end)
    (λ len. (last : Above → List ℕ → List ℕ) → c.push_comments_from.new.text.items ++ lines_from last gap len ≡ text ++ lines_from last gap 0)
    (λ len added last.
    added last
    ∙ front_laid text kept (lines_from last gap m.end) (lines_from last gap 0) (front gap 0 m.line m.end) (c.in_ok-from.ensures.added gap is)
    (front_is last gap 0 m.line m.end is.order.0 is.order.1 c.margin_at-margin.ensures.end begins.ended is.line is.feed))
    c.push_comments_from.ensures.added
