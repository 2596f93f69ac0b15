use Rattle.std.proofs.Common.{◌≡◌, to_z, of_z, w64, pos, ◌-ℤ◌, neg_ℤ, arith}
use Rattle.std.proofs.lemmas.Int.{ints}
use Rattle.um_frac.specs.Fraction.{numerator}
use Rattle.um_frac.proofs.LowestTerms.{den_read}
use Rattle.um_frac.proofs.FractionLaws.{negation_from}
use Rattle.um_frac.proofs.number.Frac.neg.Goals as goal

pub returns : goal.returns
returns c =
    let a = c.args.self in
    let above : to_z w64 (of_z w64 (pos 0 -ℤ to_z w64 (of_z w64 (numerator a)))) ≡ neg_ℤ (numerator a) = omega (arith, ints) in
    record { value = negation_from a _ (above, den_read a); parts = (above, den_read a) }
