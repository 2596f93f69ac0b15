use Rattle.std.proofs.Common.{◌+◌, ap, ◌∙◌}
use Rattle.um_unit_texts.specs.UnitCount.{counted}
use Rattle.um_unit_texts.proofs.UnitCounts.{low_same}
use Rattle.um_unit_texts.proofs.unit_least.is_low.Goals as goal

pub returns : goal.returns
returns c =
    low_same c.args.frames.now c.args.focus.now c.focus_height.result c.counted_sum-height.result c.least.result c.higher.result c.focus_height.ensures c.least.ensures
    (c.counted_sum-height.ensures ∙ ap (λ n. counted (c.focus_height.result + n)) c.count.ensures) c.higher.ensures
