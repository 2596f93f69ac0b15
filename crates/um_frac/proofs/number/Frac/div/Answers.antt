use Rattle.std.proofs.Common.{◌≡◌, ◌≢◌, pos, ◌∙◌, arith}
use Rattle.std.proofs.lemmas.Int.{ints}
use Rattle.um_frac.specs.Fraction.{numerator}
use Rattle.um_frac.proofs.Outcomes.{quotient_clauses, quotient_zero_clauses, quotient_from}
use Rattle.um_frac.proofs.number.Frac.div.Goals as goal

pub returns-then-other-eq0 : goal.returns-then-other-eq0
returns-then-other-eq0 c =
    let e : numerator c.args.other ≡ pos 0 = omega (arith, ints) in
    let all = quotient_zero_clauses c.args.self c.args.other e in
    record { value = all.value; exact = all.exact; zero = all.zero; overflow = all.overflow }

pub returns : goal.returns
returns c =
    let a = c.args.self in
    let b = c.args.other in
    let other : numerator b ≢ pos 0 = λ e. c.if-other-eq0.false (omega (arith, ints)) in
    let value = c.mul.ensures.value ∙ quotient_from a b c.reciprocal.result other c.reciprocal.ensures in
    let all = quotient_clauses a b c.mul.result other value in
    record { value = all.value; exact = all.exact; zero = all.zero; overflow = all.overflow }
