use Rattle.std.proofs.Common.{◌∙◌, sym, ap, subst}
use Rattle.std.proofs.lemmas.Result.{err_from_is_err_and}
use Rattle.um_units.specs.Range.{all_in_range, IsStopUnless}
use Rattle.um_units.specs.Wide.{as_terms}
use Rattle.um_units.proofs.Equality.{product-normal}
use Rattle.um_units.proofs.Unit.of_sum.Goals as goal

pub returns-in_err-terms-clause-range : goal.returns-in_err-terms-clause-range
returns-in_err-terms-clause-range c =
    let p = err_from_is_err_and c.from_residual.result c.from_residual.ensures.1 in
    let e = ap all_in_range (product-normal (as_terms c.args.sum.now) c.requires) in
    rw (p.1, p.2) (subst (λ b. IsStopUnless b c.in_err-terms.field-0.0) (sym e) c.in_err-terms.ensures.range)

pub returns-clause-range : goal.returns-clause-range
returns-clause-range c = ap all_in_range (product-normal (as_terms c.args.sum.now) c.requires) ∙ c.in_ok-terms.ensures.range
