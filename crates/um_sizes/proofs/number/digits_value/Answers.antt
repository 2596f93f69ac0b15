use Rattle.std.proofs.Common.{◌<◌, ◌^◌, sym, subst, ◌∙◌}
use Rattle.um_sizes.proofs.DigitTexts.{value_below}
use Rattle.um_sizes.proofs.number.digits_value.Goals as goal

pub returns-then-are_digits-clause-fits : goal.returns-then-are_digits-clause-fits
returns-then-are_digits-clause-fits c =
    subst (λ n. n < 10 ^ 38) (sym c.value_of.ensures.value)
    (value_below c.args.digits.now 38 (sym c.are_digits.ensures ∙ c.if-are_digits.true) c.requires)
