use Rattle.std.proofs.Common.{sym, arith}
use Rattle.std.proofs.lemmas.Int.{ints}
use Rattle.um_frac.proofs.LowestTerms.{fraction_none, fraction_from, wide_numerator, wide_denominator, signed_from}
use Rattle.um_frac.proofs.number.Frac.in_range.Goals as goal
use Rattle.um_frac.proofs.number.Frac.in_range.Goals.{then-size-gt-GREATEST-via-then-size-gt-GREATEST, then-size-gt-GREATEST-via-else-size-gt-GREATEST+then-den-gt-GREATEST, then-negative, else-negative}

pub returns-then-size-gt-GREATEST : goal.returns-then-size-gt-GREATEST
returns-then-size-gt-GREATEST c =
    sym (fraction_none _ _ (λ r e f.
    elim c.then-size-gt-GREATEST.branch [
      | then-size-gt-GREATEST-via-then-size-gt-GREATEST w ↦ wide_numerator c.args.negative c.args.size r w.if-size-gt-GREATEST.true e
      | then-size-gt-GREATEST-via-else-size-gt-GREATEST+then-den-gt-GREATEST w ↦ wide_denominator c.args.den r w.if-den-gt-GREATEST.true f
    ]))

pub returns : goal.returns
returns c =
    fraction_from _ _ _
    (elim c.if-negative.branch [
      | then-negative w ↦ signed_from c.args.negative c.args.size _ (λ t. omega (arith, ints)) (λ t. absurd (let u = w.if-negative.true in cc))
      | else-negative w ↦ signed_from c.args.negative c.args.size _ (λ t. absurd (let u = w.if-negative.false in cc)) (λ t. omega (arith, ints))
    ])
    (omega (arith, ints))
