use Rattle.std.proofs.Common.{◌≡◌, pos, ap, sym, ◌∙◌, arith}
use Rattle.std.proofs.lemmas.Int.{ints}
use Rattle.um_frac.specs.Fraction.{numerator, denominator}
use Rattle.um_frac.specs.Arithmetic.{exactly}
use Rattle.um_frac.proofs.WideProducts.{read_product}
use Rattle.um_frac.proofs.LowestTerms.{num_read, den_read, num_wide}
use Rattle.um_frac.proofs.Outcomes.{product_clauses, whole_product, product_from}
use Rattle.um_frac.proofs.number.Frac.mul.Goals as goal

pub returns-then-other-eq1 : goal.returns-then-other-eq1
returns-then-other-eq1 c =
    let a = c.args.self in
    let b = c.args.other in
    let e : denominator a ≡ pos 1 = omega (arith, ints) in
    let f : denominator b ≡ pos 1 = omega (arith, ints) in
    let read = read_product (numerator a) (numerator b) (num_wide a) (num_wide b) in
    let all = product_clauses a b c.whole.result (c.whole.ensures ∙ ap (λ n. exactly n (pos 1)) read ∙ sym (whole_product a b e f)) in
    record { value = all.value; exact = all.exact; overflow = all.overflow; never_div_zero = all.never_div_zero }

pub returns : goal.returns
returns c =
    let a = c.args.self in
    let b = c.args.other in
    let value = c.ok_or.ensures.value ∙ product_from a b _ _ _ _ c.product_of_parts.result (num_read a) (num_read b) (den_read a) (den_read b) c.product_of_parts.ensures in
    let all = product_clauses a b c.ok_or.result value in
    record { value = all.value; exact = all.exact; overflow = all.overflow; never_div_zero = all.never_div_zero }
