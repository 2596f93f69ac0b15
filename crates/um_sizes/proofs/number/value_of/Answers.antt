use Rattle.std.proofs.Common.{◌≡◌, ◌<◌, ◌^◌, length, sym, subst, ◌∙◌, arith}
use Rattle.um_syntax.specs.Numeral.{value_of}
use Rattle.um_sizes.proofs.DigitTexts.{value_below, value_parsed}
use Rattle.um_sizes.proofs.number.value_of.Goals as goal

pub unreachable-requires : goal.unreachable-requires
unreachable-requires c =
    cc (sym (value_parsed c.args.digits.now c.from_str_radix.result c.requires.digits c.requires.few c.from_str_radix.ensures.value) ∙ c.in-Err.is)

pub returns-clause-value : goal.returns-clause-value
returns-clause-value c =
    cc (sym c.in-Ok.is ∙ value_parsed c.args.digits.now c.from_str_radix.result c.requires.digits c.requires.few c.from_str_radix.ensures.value)

pub returns-clause-fits : goal.returns-clause-fits
returns-clause-fits c =
    let same : c.in-Ok.value ≡ value_of c.args.digits.now = cc (sym c.in-Ok.is ∙ value_parsed c.args.digits.now c.from_str_radix.result c.requires.digits c.requires.few c.from_str_radix.ensures.value) in
    subst (λ n. n < 10 ^ length c.args.digits.now) (sym same) (value_below c.args.digits.now (length c.args.digits.now) c.requires.digits (omega arith))
