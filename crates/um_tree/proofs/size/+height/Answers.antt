use Rattle.std.proofs.Common.{◌<◌, ◌-◌, length, ap, arith}
use denote.Param.Weighed.{at_most}
use Rattle.um_tree.specs.RawTree.{expr_syntax, field_part}
use Rattle.um_tree.proofs.RawSizes.{expr_is_low, field_is_low}
use Rattle.um_tree.proofs.raw.RawExpr.TheLaws.{the_size}
use Rattle.um_tree.proofs.raw.RawField.TheLaws.{the_size as the_field_size}
use Rattle.um_tree.proofs.size.+height.Goals as goal

pub tallest-height-requires : goal.tallest-height-requires
tallest-height-requires t c =
    let es = c.args.items.now in
    let i = c.loop-i.i - 1 in
    let below : i < length es = omega arith in
    let falls = at_most the_size es i c.index-items-i.result below in
    let same = ap the_size c.index-items-i.is in
    let low = expr_is_low expr_syntax es i c.index-items-i.result below c.index-items-i.is in
    (omega (arith, falls, same), omega (arith, low))

pub tallest_part-part_height-requires : goal.tallest_part-part_height-requires
tallest_part-part_height-requires t c =
    let fs = c.args.fields.now in
    let i = c.loop-i.i - 1 in
    let below : i < length fs = omega arith in
    let falls = at_most the_field_size fs i c.index-fields-i.result below in
    let same = ap the_field_size c.index-fields-i.is in
    let low = field_is_low field_part fs i c.index-fields-i.result below c.index-fields-i.is in
    (omega (arith, falls, same), omega (arith, low))
