use Rattle.std.proofs.Common.{◌≡◌, pos, ◌+ℤ◌, to_z, of_z, w64, ap, sym, ◌∙◌, arith}
use Rattle.std.specs.Int.{w128}
use Rattle.std.proofs.lemmas.Int.{ints}
use Rattle.um_frac.specs.Fraction.{numerator, denominator}
use Rattle.um_frac.specs.Arithmetic.{exactly}
use Rattle.um_frac.proofs.LowestTerms.{num_read, den_read}
use Rattle.um_frac.proofs.Outcomes.{sum_clauses, whole_sum, sum_from}
use Rattle.um_frac.proofs.number.Frac.add.Goals as goal

pub returns-then-other-eq1 : goal.returns-then-other-eq1
returns-then-other-eq1 c =
    let a = c.args.self in
    let b = c.args.other in
    let e : denominator a ≡ pos 1 = omega (arith, ints) in
    let f : denominator b ≡ pos 1 = omega (arith, ints) in
    let read : to_z w128 (of_z w128 (to_z w128 (of_z w128 (to_z w64 (of_z w64 (numerator a)))) +ℤ to_z w128 (of_z w128 (to_z w64 (of_z w64 (numerator b)))))) ≡ numerator a +ℤ numerator b = omega (arith, ints) in
    let all = sum_clauses a b c.whole.result (c.whole.ensures ∙ ap (λ n. exactly n (pos 1)) read ∙ sym (whole_sum a b e f)) in
    record { value = all.value; exact = all.exact; overflow = all.overflow; never_div_zero = all.never_div_zero }

pub returns : goal.returns
returns c =
    let a = c.args.self in
    let b = c.args.other in
    let value = c.ok_or.ensures.value ∙ sum_from a b _ _ _ _ c.sum_of_parts.result (num_read a) (num_read b) (den_read a) (den_read b) c.sum_of_parts.ensures in
    let all = sum_clauses a b c.ok_or.result value in
    record { value = all.value; exact = all.exact; overflow = all.overflow; never_div_zero = all.never_div_zero }
