use Rattle.std.proofs.Common.{◌+◌, ap, ◌∙◌}
use Rattle.um_unit_texts.specs.UnitCount.{counted}
use Rattle.um_operands.proofs.ExprLow.{low_same}
use Rattle.um_operands.proofs.least_height.is_low.Goals as goal

pub returns : goal.returns
returns c =
    low_same c.args.frames.now.entries.items c.args.focus.now c.focus_height.result c.counted_sum-height.result c.least.result c.higher.result c.focus_height.ensures c.least.ensures
    (c.counted_sum-height.ensures ∙ ap (λ n. counted (c.focus_height.result + n)) c.count.ensures) c.higher.ensures
