use Rattle.std.proofs.Common.{◌≡◌, sym, ap, ◌∙◌, rules, ℤ, FitsSigned, w64, to_z, of_z, to_z-of_z}
use Rattle.std.specs.Int.{w128}
use Rattle.std.proofs.Math.Facts.{sfits_widen}
use Rattle.um_frac.specs.Fraction.{numerator, denominator, reduced}
use Rattle.um_frac.proofs.LowestTerms.{some_is, fraction_from}
use Rattle.um_image.proofs.FractionParts.{no_fraction}
use Rattle.um_image.proofs.item.fraction_of.Goals as goal

-- a number of 64 bits as it stands in 128
wide : (z : ℤ) → FitsSigned w64 z → to_z w128 (of_z w128 (to_z w64 (of_z w64 z))) ≡ z
wide z f = ap (λ (y : ℤ). to_z w128 (of_z w128 y)) (to_z-of_z f) ∙ to_z-of_z {w = w128} (sfits_widen {w = w64} {w' = w128} (tt {0}) f)

pub returns-then-has_parts : goal.returns-then-has_parts
returns-then-has_parts c =
    let parts : (numerator c.in-Some.c ≡ c.args.num) × (denominator c.in-Some.c ≡ c.args.den) = search rules in
    fraction_from c.args.num c.args.den c.in-Some.c parts.0 parts.1

pub returns-else-has_parts : goal.returns-else-has_parts
returns-else-has_parts c =
    no_fraction c.of_parts.result c.args.num c.args.den (c.of_parts.ensures.value ∙ (λ i. reduced (wide c.args.num c.ranges.num i) (wide c.args.den c.ranges.den i)))
    (λ r e a b.
    let same : c.in-Some.c ≡ r = some_is c.in-Some.c r (sym c.in-Some.is ∙ e) in
    let num : numerator c.in-Some.c ≡ c.args.num = ap numerator same ∙ a in
    let den : denominator c.in-Some.c ≡ c.args.den = ap denominator same ∙ b in
    search rules)

pub returns-in-None : goal.returns-in-None
returns-in-None c = no_fraction c.of_parts.result c.args.num c.args.den (c.of_parts.ensures.value ∙ (λ i. reduced (wide c.args.num c.ranges.num i) (wide c.args.den c.ranges.den i))) (λ r e a b. let none = c.in-None.is in cc)
