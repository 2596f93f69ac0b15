use Rattle.std.proofs.Common.{ap, of_z, w64, eq-eqb}
use Rattle.um_frac.specs.Fraction.{numerator, denominator}
use Rattle.um_frac.proofs.LowestTerms.{num_wide, den_wide, same_parts}
use Rattle.um_frac.proofs.Outcomes.{is_same_from, same_bits}
use borrow.Author.Tests.{eqb-true}
use Rattle.um_frac.proofs.number.Frac.same.Goals as goal

pub returns-then-self-other-clause-value : goal.returns-then-self-other-clause-value
returns-then-self-other-clause-value c =
    let a = c.args.self in
    let b = c.args.other in
    is_same_from a b _
    (λ e. same_parts a b (same_bits (numerator a) (numerator b) (num_wide a) (num_wide b) c.if-self-other.true) (same_bits (denominator a) (denominator b) (den_wide a) (den_wide b) (eqb-true _ _ e)))
    (λ e. eq-eqb _ _ (ap (λ r. of_z w64 (denominator r)) e))

pub returns-else-self-other-clause-value : goal.returns-else-self-other-clause-value
returns-else-self-other-clause-value c =
    let a = c.args.self in
    let b = c.args.other in
    is_same_from a b _
    (λ e. absurd (c.if-self-other.false (eqb-true _ _ e)))
    (λ e. eq-eqb _ _ (ap (λ r. of_z w64 (numerator r)) e))
