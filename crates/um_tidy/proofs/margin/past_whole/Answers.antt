use Rattle.std.proofs.Common.{◌==◌, map, sym, arith}
use lib.Lanes.{chunk}
use Rattle.um_tidy.proofs.LineMargins.{whole_more, whole_narrow, whole_tabs_size}
use Rattle.um_tidy.proofs.margin.past_whole.Goals as goal

pub returns-clause-narrow : goal.returns-clause-narrow
returns-clause-narrow c =
    let gap = c.args.gap.now in
    let m = c.args.margin in
    let width = c.past_near.ensures (map (λ b. b == 9) (chunk m.end 16 gap)) (whole_tabs_size gap m c.requires.margin c.requires.within c.requires.whole) (sym c.near_tabs.ensures.mask) in
    let narrow = whole_narrow gap m c.requires.margin c.requires.within c.requires.whole c.past_near.result width in
    (narrow, omega (arith, c.near_marks.ensures.few))

pub returns-clause-margin : goal.returns-clause-margin
returns-clause-margin c =
    let gap = c.args.gap.now in
    let m = c.args.margin in
    let width = c.past_near.ensures (map (λ b. b == 9) (chunk m.end 16 gap)) (whole_tabs_size gap m c.requires.margin c.requires.within c.requires.whole) (sym c.near_tabs.ensures.mask) in
    whole_more gap m c.requires.margin c.requires.within c.requires.whole c.near_marks.result c.past_near.result c.near_marks.ensures.mask width
