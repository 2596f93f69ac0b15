use Rattle.std.proofs.Common.{◌≡◌, ◌<◌, ◌-◌, suc, length, ap, arith}
use denote.Param.Weighed.{at_most}
use Rattle.um_tree.specs.RawTree.{expr_syntax, field_part}
use Rattle.um_tree.proofs.RawSizes.{expr_tail, expr_tail-at, expr_tail-le, field_tail, field_tail-at, field_tail-le}
use Rattle.um_tree.proofs.raw.RawExpr.TheLaws.{the_size}
use Rattle.um_tree.proofs.raw.RawField.TheLaws.{the_size as the_field_size}
use Rattle.um_tree.proofs.size.+nodes.Goals as goal

pub all_nodes-nodes-total-requires : goal.all_nodes-nodes-total-requires
all_nodes-nodes-total-requires t c =
    let es = c.args.items.now in
    let i = c.loop-i.i - 1 in
    let below : i < length es = omega arith in
    let falls = at_most the_size es i c.index-items-i.result below in
    let same = ap the_size c.index-items-i.is in
    let here = expr_tail-at expr_syntax es i c.index-items-i.result below c.index-items-i.is in
    let all = expr_tail-le expr_syntax es i in
    (omega (arith, falls, same), omega (arith, here, all))

pub all_nodes-overflow_add-total : goal.all_nodes-overflow_add-total
all_nodes-overflow_add-total t c =
    let es = c.args.items.now in
    let i = c.loop-i.i - 1 in
    let next : suc i ≡ c.loop-i.i = omega arith in
    let here = expr_tail-at expr_syntax es i c.index-items-i.result (omega arith) c.index-items-i.is in
    let all = expr_tail-le expr_syntax es i in
    let same = ap (expr_tail expr_syntax es) next in
    omega (arith, here, all, same)

pub all_part_nodes-part_nodes-total-requires : goal.all_part_nodes-part_nodes-total-requires
all_part_nodes-part_nodes-total-requires t c =
    let fs = c.args.fields.now in
    let i = c.loop-i.i - 1 in
    let below : i < length fs = omega arith in
    let falls = at_most the_field_size fs i c.index-fields-i.result below in
    let same = ap the_field_size c.index-fields-i.is in
    let here = field_tail-at field_part fs i c.index-fields-i.result below c.index-fields-i.is in
    let all = field_tail-le field_part fs i in
    (omega (arith, falls, same), omega (arith, here, all))

pub all_part_nodes-overflow_add-total : goal.all_part_nodes-overflow_add-total
all_part_nodes-overflow_add-total t c =
    let fs = c.args.fields.now in
    let i = c.loop-i.i - 1 in
    let next : suc i ≡ c.loop-i.i = omega arith in
    let here = field_tail-at field_part fs i c.index-fields-i.result (omega arith) c.index-fields-i.is in
    let all = field_tail-le field_part fs i in
    let same = ap (field_tail field_part fs) next in
    omega (arith, here, all, same)
