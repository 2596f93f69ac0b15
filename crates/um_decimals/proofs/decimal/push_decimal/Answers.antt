use Rattle.std.proofs.Common.{◌≡◌, ◌++◌, ◌*◌, ◌<◌, ◌≤◌, ◌^◌, append_assoc, sym, subst, ap, ◌∙◌, arith, unsigned_abs, pos, not, eqb, ◌&&◌, to_z, of_z, w64}
use Rattle.std.specs.Prelude.{int_lt}
use Rattle.std.proofs.lemmas.Result.{on_ok_weaker}
use Rattle.um_frac.specs.Fraction.{denominator}
use Rattle.um_frac.proofs.LowestTerms.{num_read, den_read}
use Rattle.um_decimals.specs.Decimals.{nearest, scaled_size, marks_text, digits_text}
use Rattle.um_decimals.proofs.DecimalNumbers.{den_positive, tens_small, tens_positive, scaled_fits, units_fit, decimal_told}
use Rattle.um_decimals.proofs.decimal.push_decimal.Goals as goal

pub nearest-units-requires-clause-small : goal.nearest-units-requires-clause-small
nearest-units-requires-clause-small c =
    let tens : c.pow-tens.result ≤ 10 ^ 18 = subst (λ t. t ≤ 10 ^ 18) (sym c.pow-tens.ensures) (tens_small c.args.digits c.requires.few) in
    scaled_fits c.unsigned_abs.result c.pow-tens.result (omega (arith, c.unsigned_abs.ensures.bound)) tens

pub push_digits-requires-clause-fits : goal.push_digits-requires-clause-fits
push_digits-requires-clause-fits c =
    let t = c.pow-tens.result in
    let d : c.unsigned_abs-den.result ≡ unsigned_abs (denominator c.args.x) = c.unsigned_abs-den.ensures.value ∙ ap (λ z. unsigned_abs (to_z w64 (of_z w64 z))) c.den.ensures.value ∙ ap unsigned_abs (den_read c.args.x) in
    let positive : 0 < t = subst (λ u. 0 < u) (sym c.pow-tens.ensures) (tens_positive c.args.digits) in
    let above : 0 < c.unsigned_abs-den.result = subst (λ u. 0 < u) (sym d) (den_positive c.args.x) in
    let fit = units_fit c.unsigned_abs.result t c.unsigned_abs-den.result (omega (arith, c.unsigned_abs.ensures.bound)) positive above in
    subst (λ u. u < 2 ^ 64 * 10 ^ c.args.digits) (sym c.nearest-units.ensures)
    (subst (λ u. nearest (c.unsigned_abs.result * t) c.unsigned_abs-den.result < 2 ^ 64 * u) c.pow-tens.ensures fit)

pub returns : goal.returns
returns c =
    let n = c.unsigned_abs.result * c.pow-tens.result in
    let size : n ≡ scaled_size c.args.digits c.args.x = λ i. (c.unsigned_abs.ensures.value ∙ ap (λ z. unsigned_abs (to_z w64 (of_z w64 z))) c.num.ensures.value ∙ ap unsigned_abs (num_read c.args.x)) i * c.pow-tens.ensures i in
    let den : c.unsigned_abs-den.result ≡ unsigned_abs (denominator c.args.x) = c.unsigned_abs-den.ensures.value ∙ ap (λ z. unsigned_abs (to_z w64 (of_z w64 z))) c.den.ensures.value ∙ ap unsigned_abs (den_read c.args.x) in
    let told = decimal_told c.args.digits c.args.x n c.unsigned_abs-den.result c.nearest-units.result c.has_no_rest.result c.is_below_zero-negative.result
    size den c.nearest-units.ensures c.has_no_rest.ensures
    (c.is_below_zero-negative.ensures ∙ ap (λ z. int_lt (to_z w64 (of_z w64 z)) (pos 0) && not (eqb c.nearest-units.result 0)) c.num-2.ensures.value
    ∙ ap (λ z. int_lt z (pos 0) && not (eqb c.nearest-units.result 0)) (num_read c.args.x)) in
    on_ok_weaker c.push_digits.result
    (λ e. e ∙ ap (λ s. s ++ digits_text c.args.digits c.nearest-units.result) c.in_ok-push_marks.ensures
    ∙ append_assoc c.args.text.now.items (marks_text c.has_no_rest.result c.is_below_zero-negative.result) (digits_text c.args.digits c.nearest-units.result)
    ∙ ap (λ s. c.args.text.now.items ++ s) told)
    c.push_digits.ensures
