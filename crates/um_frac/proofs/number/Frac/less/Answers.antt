use Rattle.std.specs.Prelude.{int_lt}
use Rattle.um_frac.specs.Fraction.{numerator, denominator}
use Rattle.um_frac.proofs.WideProducts.{read_product}
use Rattle.um_frac.proofs.LowestTerms.{num_wide, den_wide}
use Rattle.um_frac.proofs.Outcomes.{less_at}
use Rattle.um_frac.proofs.number.Frac.less.Goals as goal

pub returns : goal.returns
returns c =
    let a = c.args.self in
    let b = c.args.other in
    let left = read_product (numerator a) (denominator b) (num_wide a) (den_wide b) in
    let right = read_product (numerator b) (denominator a) (num_wide b) (den_wide a) in
    record { value = λ i. int_lt (left i) (right i); order = less_at _ _ _ _ left right }
