use Rattle.std.proofs.Common.{w64, ◌∙◌}
use Rattle.std.proofs.lemmas.Int.{to_z-of_z}
use Rattle.um_frac.proofs.ProductTerms.{product_at}
use Rattle.um_frac.proofs.number.Frac.product_of_parts.Goals as goal

pub in_range-requires : goal.in_range-requires
in_range-requires c =
    let all = product_at c.args.a c.args.b _ _ c.args.m c.args.n _ _ _ _ c.requires.first_den c.requires.second_den c.requires.first c.requires.second (to_z-of_z w64 c.args.a c.ranges.a) (to_z-of_z w64 c.args.b c.ranges.b) c.unsigned_abs-own.ensures.value c.unsigned_abs-others.ensures.value c.common_divisor-left.ensures.value c.common_divisor-right.ensures.value in
    record { positive = all.positive; lowest = all.lowest }

pub returns : goal.returns
returns c =
    let all = product_at c.args.a c.args.b _ _ c.args.m c.args.n _ _ _ _ c.requires.first_den c.requires.second_den c.requires.first c.requires.second (to_z-of_z w64 c.args.a c.ranges.a) (to_z-of_z w64 c.args.b c.ranges.b) c.unsigned_abs-own.ensures.value c.unsigned_abs-others.ensures.value c.common_divisor-left.ensures.value c.common_divisor-right.ensures.value in
    c.in_range.ensures ∙ all.value
