use Rattle.std.proofs.Common.{◌≡◌, ◌^◌, unsigned_abs, ap, ◌∙◌, arith}
use Rattle.std.specs.Int.{int_pow}
use Rattle.std.proofs.lemmas.Int.{ints}
use Rattle.um_frac.specs.Fraction.{numerator, denominator, signed}
use Rattle.um_frac.proofs.LowestTerms.{num_read, den_read}
use Rattle.um_frac.proofs.Powers.{pow_not_below, pow_below}
use Rattle.um_frac.proofs.WholePowers.{wide_numerator_power, wide_denominator_power, powers_of}
use Rattle.um_frac.proofs.number.Frac.natural_power.Goals as goal
use Rattle.um_frac.proofs.number.Frac.natural_power.Goals.{then-self-lt0, else-self-lt0}

pub returns-in_err-size : goal.returns-in_err-size
returns-in_err-size c =
    let a = c.args.self in
    let read : c.unsigned_abs.result ≡ unsigned_abs (numerator a) = c.unsigned_abs.ensures.value ∙ ap unsigned_abs (num_read a) in
    c.from_residual.ensures ∙ wide_numerator_power a c.args.n (λ low. c.in_err-size.ensures (rw read low))

pub returns-in_err-den : goal.returns-in_err-den
returns-in_err-den c =
    let a = c.args.self in
    let read : c.unsigned_abs-2.result ≡ unsigned_abs (denominator a) = c.unsigned_abs-2.ensures.value ∙ ap unsigned_abs (den_read a) in
    c.from_residual-in_err-den.ensures ∙ wide_denominator_power a c.args.n (λ low. c.in_err-den.ensures (rw read low))

pub in_range-requires : goal.in_range-requires
in_range-requires c =
    let a = c.args.self in
    let n = c.args.n in
    let size = c.in_ok-size.ensures.1 ∙ ap (λ m. m ^ n) (c.unsigned_abs.ensures.value ∙ ap unsigned_abs (num_read a)) in
    let den = c.in_ok-den.ensures.1 ∙ ap (λ m. m ^ n) (c.unsigned_abs-2.ensures.value ∙ ap unsigned_abs (den_read a)) in
    let all = powers_of a n c.in_ok-size.size c.in_ok-den.den size den in
    record { positive = all.positive; lowest = all.lowest }

pub returns : goal.returns
returns c =
    let a = c.args.self in
    let n = c.args.n in
    let size = c.in_ok-size.ensures.1 ∙ ap (λ m. m ^ n) (c.unsigned_abs.ensures.value ∙ ap unsigned_abs (num_read a)) in
    let den = c.in_ok-den.ensures.1 ∙ ap (λ m. m ^ n) (c.unsigned_abs-2.ensures.value ∙ ap unsigned_abs (den_read a)) in
    let sign : signed c.if-self-lt0.in_range c.in_ok-size.size ≡ int_pow (numerator a) n = elim c.if-self-lt0.branch [
      | then-self-lt0 w ↦ (λ i. signed (w.in_range-is i) (size i)) ∙ pow_below (numerator a) n (omega (arith, ints))
      | else-self-lt0 w ↦ (λ i. signed ((w.in_range-is ∙ w.if-self-lt0.false) i) (size i)) ∙ pow_not_below (numerator a) n (omega (arith, ints))
    ] in
    c.in_range.ensures ∙ (powers_of a n c.in_ok-size.size c.in_ok-den.den size den).value c.if-self-lt0.in_range sign
