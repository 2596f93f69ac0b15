use Rattle.std.proofs.Common.{◌≡◌, pos, ap, sym, ◌∙◌, arith}
use Rattle.std.proofs.lemmas.Int.{ints, to_z-of_z}
use Rattle.um_frac.specs.Fraction.{reduced}
use Rattle.um_frac.proofs.LowestTerms.{reduced_sizes, reduced-zero, some_quotient, none_fits}
use Rattle.um_frac.proofs.number.Frac.of_parts.Goals as goal

pub returns-then-d-eq0-clause-value : goal.returns-then-d-eq0-clause-value
returns-then-d-eq0-clause-value c = let none : c.args.d ≡ pos 0 = omega (arith, ints) in sym (ap (reduced c.args.n) none ∙ reduced-zero c.args.n)

pub returns : goal.returns
returns c =
    let value = reduced_sizes c.args.n c.args.d _ _ _ _ c.quotient_of_sizes.result (to_z-of_z _ c.args.n c.ranges.n) (to_z-of_z _ c.args.d c.ranges.d) c.unsigned_abs.ensures.value c.unsigned_abs-2.ensures.value c.quotient_of_sizes.ensures in
    record { value = value; exact = some_quotient c.args.n c.args.d _ value; none = none_fits c.args.n c.args.d _ value }
