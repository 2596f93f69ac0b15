use Rattle.std.proofs.Common.{◌-◌, ◌<◌, subst, arith}
use Rattle.std.proofs.lemmas.Nat.{and_le_l}
use Rattle.um_tidy.proofs.LineMargins.{part_ended, part_few, part_marked, part_tabs, part_tabs_mask, part_tabs_size, part_unmarked}
use Rattle.um_tidy.proofs.TabColumns.{mask_few}
use Rattle.um_tidy.proofs.margin.past_part.Goals as goal

pub returns-then-marks-eq0-clause-margin : goal.returns-then-marks-eq0-clause-margin
returns-then-marks-eq0-clause-margin c =
    let gap = c.args.gap.now in
    let m = c.args.margin in
    let n = c.lowest-len.result in
    part_unmarked gap m c.args.ends n c.requires.margin c.requires.within c.requires.ends c.requires.some c.lowest-len.ensures c.near_marks.result c.near_marks.ensures.mask c.if-marks-eq0.true

pub returns-then-marks-eq0-clause-ended : goal.returns-then-marks-eq0-clause-ended
returns-then-marks-eq0-clause-ended c =
    let gap = c.args.gap.now in
    let m = c.args.margin in
    let n = c.lowest-len.result in
    part_ended gap m c.args.ends n c.requires.margin c.requires.within c.requires.ends c.requires.some c.lowest-len.ensures

pub past_near-requires-clause-few : goal.past_near-requires-clause-few
past_near-requires-clause-few c =
    let gap = c.args.gap.now in
    let m = c.args.margin in
    let n = c.lowest-len.result in
    let few = part_few gap m c.args.ends n c.requires.margin c.requires.within c.requires.ends c.requires.some c.lowest-len.ensures in
    omega (arith, few)

pub past_near-requires-clause-near : goal.past_near-requires-clause-near
past_near-requires-clause-near c =
    let gap = c.args.gap.now in
    let m = c.args.margin in
    let n = c.lowest-len.result in
    let tabs = part_tabs gap m c.args.ends n c.requires.margin c.requires.within c.requires.ends c.requires.some c.lowest-len.ensures in
    let size = part_tabs_size gap m c.args.ends n c.requires.margin c.requires.within c.requires.ends c.requires.some c.lowest-len.ensures in
    λ few. subst (λ t. t < 256) (part_tabs_mask gap m c.args.ends n c.requires.margin c.requires.within c.requires.ends c.requires.some c.lowest-len.ensures c.near_tabs.result c.near_tabs.ensures.mask) (mask_few tabs (omega (arith, size, few)))

pub past_near-requires-clause-tabs : goal.past_near-requires-clause-tabs
past_near-requires-clause-tabs c =
    let least = and_le_l c.near_tabs.result (c.args.ends - 1) in
    omega (arith, least, c.near_tabs.ensures.few)

pub returns-clause-margin : goal.returns-clause-margin
returns-clause-margin c =
    let gap = c.args.gap.now in
    let m = c.args.margin in
    let n = c.lowest-len.result in
    let tabs = part_tabs gap m c.args.ends n c.requires.margin c.requires.within c.requires.ends c.requires.some c.lowest-len.ensures in
    let size = part_tabs_size gap m c.args.ends n c.requires.margin c.requires.within c.requires.ends c.requires.some c.lowest-len.ensures in
    let mask = part_tabs_mask gap m c.args.ends n c.requires.margin c.requires.within c.requires.ends c.requires.some c.lowest-len.ensures c.near_tabs.result c.near_tabs.ensures.mask in
    part_marked gap m c.args.ends n c.requires.margin c.requires.within c.requires.ends c.requires.some c.lowest-len.ensures c.near_marks.result c.past_near.result c.near_marks.ensures.mask (c.past_near.ensures tabs size mask)

pub returns-clause-ended : goal.returns-clause-ended
returns-clause-ended c =
    let gap = c.args.gap.now in
    let m = c.args.margin in
    let n = c.lowest-len.result in
    part_ended gap m c.args.ends n c.requires.margin c.requires.within c.requires.ends c.requires.some c.lowest-len.ensures
