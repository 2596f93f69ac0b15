use Rattle.std.proofs.Common.{◌≡◌, ◌<◌, pos, neg_ℤ, ◌<ℤ◌, ◌∙◌, arith}
use Rattle.std.proofs.lemmas.Int.{ints}
use Rattle.um_frac.specs.Fraction.{numerator}
use Rattle.um_frac.proofs.WholePowers.{natural_power, negative_power, power_of_zero, whole_power_clauses}
use Rattle.um_frac.proofs.number.Frac.pow.Goals as goal

pub returns-then-k-ge0 : goal.returns-then-k-ge0
returns-then-k-ge0 c =
    let a = c.args.self in
    let size : c.args.k ≡ pos c.unsigned_abs.result = omega (arith, ints) in
    let value = c.ok_or.ensures.value ∙ natural_power a c.args.k _ c.natural_power.result size c.natural_power.ensures in
    let all = whole_power_clauses a c.args.k c.ok_or.result value in
    record { value = all.value; exact = all.exact; zero = all.zero; overflow = all.overflow }

pub returns-then-self-eq0-clause-value : goal.returns-then-self-eq0-clause-value
returns-then-self-eq0-clause-value c =
    let none : numerator c.args.self ≡ pos 0 = omega (arith, ints) in
    let low : c.args.k <ℤ pos 0 = omega (arith, ints) in
    power_of_zero c.args.self c.args.k none low

pub returns : goal.returns
returns c =
    let a = c.args.self in
    let size : c.args.k ≡ neg_ℤ (pos c.unsigned_abs-2.result) = omega (arith, ints) in
    let up : 0 < c.unsigned_abs-2.result = omega (arith, ints) in
    let value = c.ok_or-2.ensures.value ∙ negative_power a c.reciprocal.result c.args.k _ c.natural_power-2.result size up c.reciprocal.ensures.0 c.reciprocal.ensures c.natural_power-2.ensures in
    let all = whole_power_clauses a c.args.k c.ok_or-2.result value in
    record { value = all.value; exact = all.exact; zero = all.zero; overflow = all.overflow }
