use Rattle.std.proofs.Common.{ap, ◌+◌, arith}
use Rattle.um_tidy.proofs.Lines.{no_feed_after, feed_after, feed_within}
use Rattle.um_tidy.proofs.feed.later_line_feed.Goals as goal

pub overflow_add-result : goal.overflow_add-result
overflow_add-result c = let within = feed_within c.args.bytes.now c.args.from c.in-Some.len c.in-Some.ensures in omega (arith, within)

pub returns-in-Some-clause-within : goal.returns-in-Some-clause-within
returns-in-Some-clause-within c = (omega arith, feed_within c.args.bytes.now c.args.from c.in-Some.len c.in-Some.ensures)

pub returns-in-Some-clause-first : goal.returns-in-Some-clause-first
returns-in-Some-clause-first c = ap (λ n. c.args.from + n) (feed_after c.args.bytes.now c.args.from c.in-Some.len c.in-Some.ensures)

pub returns-in-None-clause-first : goal.returns-in-None-clause-first
returns-in-None-clause-first c = no_feed_after c.args.bytes.now c.args.from c.in-None.ensures
