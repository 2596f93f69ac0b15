use Rattle.std.proofs.Common.{ap, ◌∙◌, Option, rules, FitsSigned, w64, to_z-of_z}
use Rattle.um_frac.specs.declared.number.Frac.{Frac}
use Rattle.um_frac.specs.Fraction.{fraction}
use Rattle.um_image.specs.Reading.{found_one}
use Rattle.um_image.proofs.FractionParts.{fraction_read}
use Rattle.um_image.proofs.item.read_fraction.Goals as goal

pub returns-in-Some : goal.returns-in-Some
returns-in-Some c =
    let num : FitsSigned w64 c.long_of.result = search rules in
    let den : FitsSigned w64 c.long_of-2.result = search rules in
    fraction_read c.args.bytes.now c.split_at.result.0.now c.split_at-2.result.0.now c.split_at-2.result.1.now c.split_at.result.1.now c.fraction_of.result c.if-bytes-lt16.false c.split_at.ensures.front c.split_at.ensures.back c.split_at-2.ensures.front c.split_at-2.ensures.back (c.fraction_of.ensures ∙ (λ i. fraction ((to_z-of_z num ∙ c.long_of.ensures) i) ((to_z-of_z den ∙ c.long_of-2.ensures) i)))
    ∙ ap (λ (o : Option Frac). found_one o c.args.bytes.now c.split_at.result.1.now) c.in-Some.is

pub returns-in-None : goal.returns-in-None
returns-in-None c =
    let num : FitsSigned w64 c.long_of.result = search rules in
    let den : FitsSigned w64 c.long_of-2.result = search rules in
    fraction_read c.args.bytes.now c.split_at.result.0.now c.split_at-2.result.0.now c.split_at-2.result.1.now c.split_at.result.1.now c.fraction_of.result c.if-bytes-lt16.false c.split_at.ensures.front c.split_at.ensures.back c.split_at-2.ensures.front c.split_at-2.ensures.back (c.fraction_of.ensures ∙ (λ i. fraction ((to_z-of_z num ∙ c.long_of.ensures) i) ((to_z-of_z den ∙ c.long_of-2.ensures) i)))
    ∙ ap (λ (o : Option Frac). found_one o c.args.bytes.now c.split_at.result.1.now) c.in-None.is
