use Rattle.std.proofs.Common.{◌≡◌, to_z, of_z, w64, pos, neg_ℤ, unsigned_abs, ap, ◌∙◌, arith}
use Rattle.std.proofs.lemmas.Int.{ints, to_z-of_z}
use Rattle.um_frac.specs.Fraction.{numerator, denominator}
use Rattle.um_frac.proofs.LowestTerms.{neg_abs, num_wide}
use Rattle.um_frac.proofs.Outcomes.{reciprocal_at}
use Rattle.um_frac.proofs.number.Frac.reciprocal.Goals as goal
use Rattle.um_frac.proofs.number.Frac.reciprocal.Goals.{then-self-lt0, else-self-lt0}

pub invariant_of-result : goal.invariant_of-result
invariant_of-result c =
    let size : unsigned_abs (to_z w64 c.if-self-lt0.num-bits) ≡ unsigned_abs (denominator c.args.self) = elim c.if-self-lt0.branch [
      | then-self-lt0 w ↦ let e : to_z w64 c.if-self-lt0.num-bits ≡ neg_ℤ (denominator c.args.self) = omega (arith, ints) in ap unsigned_abs e ∙ neg_abs (denominator c.args.self)
      | else-self-lt0 w ↦ let e : to_z w64 c.if-self-lt0.num-bits ≡ denominator c.args.self = omega (arith, ints) in ap unsigned_abs e
    ] in
    let read : to_z w64 (of_z w64 c.abs.result) ≡ pos (unsigned_abs (numerator c.args.self)) = to_z-of_z w64 c.abs.result (record { sfits = c.abs.type_inv }) ∙ c.abs.ensures.value ∙ ap (λ z. pos (unsigned_abs z)) (to_z-of_z w64 (numerator c.args.self) (num_wide c.args.self)) in
    let all = reciprocal_at c.args.self _ _ c.requires size read in record { positive = all.positive; den_fits = all.den_fits; above = all.above; num_fits = all.num_fits; lowest = all.lowest }
