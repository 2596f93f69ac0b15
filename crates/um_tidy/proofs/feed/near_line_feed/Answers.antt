use Rattle.std.proofs.Common.{◌≡◌, ◌+◌, ◌-◌, ap, length, drop, arith}
use Rattle.std.specs.List.{prefix_len}
use Rattle.um_tidy.specs.Gaps.{in_line}
use Rattle.um_tidy.proofs.NearFeeds.{later_feed, later_within}
use Rattle.um_tidy.proofs.feed.near_line_feed.Goals as goal

pub returns-clause-within : goal.returns-clause-within
returns-clause-within c =
    later_within c.args.from (c.args.from + 32) (length c.args.bytes.now) (omega arith) c.later_line_feed.result c.later_line_feed.ensures.within

pub returns-clause-first : goal.returns-clause-first
returns-clause-first c =
    let bytes = c.args.bytes.now in
    let from = c.args.from in
    let near = c.near_len-near.result in
    let next = c.near_len-next.result in
    let first = c.near_len-near.ensures in
    let second = c.near_len-next.ensures in
    let all : near ≡ 16 = omega (arith, c.if-near-lt16.false, first.within) in
    let others : next ≡ 16 = omega (arith, c.if-next-lt16.false, second.within) in
    let middle : prefix_len in_line (drop (from + near) bytes) ≡ prefix_len in_line (drop (from + 16) bytes) = ap (λ n. prefix_len in_line (drop (from + n) bytes)) all in
    let place : from + 16 + next ≡ from + 32 = omega (arith, others) in
    let end : prefix_len in_line (drop (from + 16 + next) bytes) ≡ prefix_len in_line (drop (from + 32) bytes) = ap (λ n. prefix_len in_line (drop n bytes)) place in
    let passed : prefix_len in_line (drop from bytes) ≡ (from + 32 - from) + prefix_len in_line (drop (from + 32) bytes) = omega (arith, first.passed, second.passed, all, others, middle, end) in
    later_feed bytes from (from + 32) (omega arith) c.requires passed c.later_line_feed.result c.later_line_feed.ensures.first
