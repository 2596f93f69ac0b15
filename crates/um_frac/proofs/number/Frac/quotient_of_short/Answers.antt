use Rattle.std.proofs.Common.{◌/◌, pos, ap, sym, ◌∙◌}
use Rattle.um_frac.specs.Fraction.{signed, fraction}
use Rattle.um_frac.proofs.Gcd.{gcd_up, gcd-div, quotient_up}
use Rattle.um_frac.proofs.LowestTerms.{reduced-signed}
use Rattle.um_frac.proofs.number.Frac.quotient_of_short.Goals as goal

pub in_range-requires-clause-positive : goal.in_range-requires-clause-positive
in_range-requires-clause-positive c = rw c.common_divisor-common.ensures.value (quotient_up c.args.above c.args.below c.requires)

pub in_range-requires-clause-lowest : goal.in_range-requires-clause-lowest
in_range-requires-clause-lowest c = rw c.common_divisor-common.ensures.value (gcd-div c.args.above c.args.below (gcd_up c.args.above c.args.below c.requires))

pub returns : goal.returns
returns c =
    c.in_range.ensures ∙ ap (λ g. fraction (signed c.args.negative (c.args.above / g)) (pos (c.args.below / g))) c.common_divisor-common.ensures.value ∙ sym (reduced-signed c.args.negative c.args.above c.args.below c.requires)
