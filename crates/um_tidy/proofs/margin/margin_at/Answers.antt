use Rattle.std.proofs.Common.{◌≡◌, ◌∙◌, ◌+◌, true, ap, sym, refl, get_or, arith}
use Rattle.um_tidy.specs.Placed.{is_line_space}
use Rattle.um_tidy.proofs.Margins.{margin_ends, margin_here, next_after, next_starts}
use Rattle.um_tidy.proofs.margin.margin_at.Goals as goal

pub lines-preserved-then-gap-line-eq10 : goal.lines-preserved-then-gap-line-eq10
lines-preserved-then-gap-line-eq10 c =
    next_starts c.args.gap.now c.args.from c.lines.line c.lines.line c.past_feeds-line.result c.lines.invariant (omega arith) (c.past_feeds-line.ensures.within).0 (c.past_feeds-line.ensures.within).1 (λ k low high. absurd (omega (arith, low, high))) c.past_feeds-line.ensures.feeds

pub returns-then-not-has_feed-clause-margin : goal.returns-then-not-has_feed-clause-margin
returns-then-not-has_feed-clause-margin c = margin_here c.args.gap.now c.args.from c.lines.line c.last_margin-margin.result (c.last_margin-margin.ensures.line ∙ c.no_margin.ensures.line) c.lines.invariant c.last_margin-margin.ensures.margin

pub returns-then-not-has_feed-clause-end : goal.returns-then-not-has_feed-clause-end
returns-then-not-has_feed-clause-end c = margin_ends c.args.gap.now c.args.from c.lines.line c.last_margin-margin.result (c.last_margin-margin.ensures.line ∙ c.no_margin.ensures.line) c.lines.invariant c.last_margin-margin.ensures.margin c.last_margin-margin.ensures.ended (c.if-not-has_feed.ensures.none refl)

pub lines-preserved-then-line-gap : goal.lines-preserved-then-line-gap
lines-preserved-then-line-gap c = next_after c.args.gap.now c.args.from c.lines.line c.last_margin-margin.result (c.last_margin-margin.ensures.line ∙ c.no_margin.ensures.line) c.lines.invariant c.last_margin-margin.ensures.margin c.past_feeds-line-then-line-gap.result (c.past_feeds-line-then-line-gap.ensures.within).0 (c.past_feeds-line-then-line-gap.ensures.within).1 c.past_feeds-line-then-line-gap.ensures.feeds

pub returns-then-gap-line-gt32-clause-margin : goal.returns-then-gap-line-gt32-clause-margin
returns-then-gap-line-gt32-clause-margin c = margin_here c.args.gap.now c.args.from c.lines.line c.single_margin.result c.single_margin.ensures.line c.lines.invariant c.single_margin.ensures.margin

pub lines-preserved-then-gap-line-eq10-2 : goal.lines-preserved-then-gap-line-eq10-2
lines-preserved-then-gap-line-eq10-2 c =
    let gap = c.args.gap.now in
    let line = c.lines.line in
    let here : is_line_space (get_or gap line 0) ≡ true = sym c.has_line_space.ensures.here ∙ c.if-not-has_line_space.false in
    next_starts c.args.gap.now c.args.from c.lines.line (line + 1) c.past_feeds-line-then-gap-line-eq10-2.result c.lines.invariant (omega arith) (c.past_feeds-line-then-gap-line-eq10-2.ensures.within).0 (c.past_feeds-line-then-gap-line-eq10-2.ensures.within).1
    (λ k low high. let same : line ≡ k = omega (arith, low, high) in ap (λ j. is_line_space (get_or gap j 0)) (sym same) ∙ here) c.past_feeds-line-then-gap-line-eq10-2.ensures.feeds

pub returns-then-not-has_feed-2-clause-margin : goal.returns-then-not-has_feed-2-clause-margin
returns-then-not-has_feed-2-clause-margin c = margin_here c.args.gap.now c.args.from c.lines.line c.near_margin-margin.result c.near_margin-margin.ensures.line c.lines.invariant c.near_margin-margin.ensures.margin

pub returns-then-not-has_feed-2-clause-end : goal.returns-then-not-has_feed-2-clause-end
returns-then-not-has_feed-2-clause-end c = margin_ends c.args.gap.now c.args.from c.lines.line c.near_margin-margin.result c.near_margin-margin.ensures.line c.lines.invariant c.near_margin-margin.ensures.margin c.near_margin-margin.ensures.ended (c.if-not-has_feed-2.ensures.none refl)

pub lines-preserved : goal.lines-preserved
lines-preserved c = next_after c.args.gap.now c.args.from c.lines.line c.near_margin-margin.result c.near_margin-margin.ensures.line c.lines.invariant c.near_margin-margin.ensures.margin c.past_feeds-line-else-gap-line-eq10-2.result (c.past_feeds-line-else-gap-line-eq10-2.ensures.within).0 (c.past_feeds-line-else-gap-line-eq10-2.ensures.within).1 c.past_feeds-line-else-gap-line-eq10-2.ensures.feeds
