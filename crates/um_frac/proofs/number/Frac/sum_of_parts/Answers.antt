use Rattle.std.proofs.Common.{w64, ◌∙◌}
use Rattle.std.specs.Int.{w128}
use Rattle.std.proofs.lemmas.Int.{to_z-of_z}
use Rattle.um_frac.proofs.SumTerms.{sum_at, plain_sum_at}
use Rattle.um_frac.proofs.number.Frac.sum_of_parts.Goals as goal

pub in_range-requires : goal.in_range-requires
in_range-requires c =
    let all = plain_sum_at c.args.a c.args.b _ _ c.args.m c.args.n _ _ _ _ c.requires.first_den c.requires.second_den c.requires.first c.requires.second (to_z-of_z w64 c.args.a c.ranges.a) (to_z-of_z w64 c.args.b c.ranges.b) c.common_divisor-common.ensures.value c.cross_sum-above.ensures (to_z-of_z w128 c.cross_sum-above.result (record { sfits = c.cross_sum-above.type_inv })) c.unsigned_abs-size.ensures.value c.if-common-eq1.true in
    record { positive = all.positive; lowest = all.lowest }

pub returns-then-common-eq1 : goal.returns-then-common-eq1
returns-then-common-eq1 c =
    let all = plain_sum_at c.args.a c.args.b _ _ c.args.m c.args.n _ _ _ _ c.requires.first_den c.requires.second_den c.requires.first c.requires.second (to_z-of_z w64 c.args.a c.ranges.a) (to_z-of_z w64 c.args.b c.ranges.b) c.common_divisor-common.ensures.value c.cross_sum-above.ensures (to_z-of_z w128 c.cross_sum-above.result (record { sfits = c.cross_sum-above.type_inv })) c.unsigned_abs-size.ensures.value c.if-common-eq1.true in
    c.in_range.ensures ∙ all.value

pub in_range-requires-2 : goal.in_range-requires-2
in_range-requires-2 c =
    let all = sum_at c.args.a c.args.b _ _ c.args.m c.args.n _ _ _ _ _ c.requires.first_den c.requires.second_den c.requires.first c.requires.second (to_z-of_z w64 c.args.a c.ranges.a) (to_z-of_z w64 c.args.b c.ranges.b) c.common_divisor-common.ensures.value c.cross_sum-above.ensures (to_z-of_z w128 c.cross_sum-above.result (record { sfits = c.cross_sum-above.type_inv })) c.unsigned_abs-size.ensures.value c.common_divisor-rest.ensures.value in
    record { positive = all.positive; lowest = all.lowest }

pub returns : goal.returns
returns c =
    let all = sum_at c.args.a c.args.b _ _ c.args.m c.args.n _ _ _ _ _ c.requires.first_den c.requires.second_den c.requires.first c.requires.second (to_z-of_z w64 c.args.a c.ranges.a) (to_z-of_z w64 c.args.b c.ranges.b) c.common_divisor-common.ensures.value c.cross_sum-above.ensures (to_z-of_z w128 c.cross_sum-above.result (record { sfits = c.cross_sum-above.type_inv })) c.unsigned_abs-size.ensures.value c.common_divisor-rest.ensures.value in
    c.in_range-2.ensures ∙ all.value
