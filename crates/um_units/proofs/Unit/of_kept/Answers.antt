use Rattle.std.proofs.Common.{◌∙◌, ap}
use Rattle.um_units.specs.Range.{all_in_range}
use Rattle.um_units.proofs.Equality.{product-normal}
use Rattle.um_units.proofs.Unit.of_kept.Goals as goal

pub returns-in_err-terms-clause-fits : goal.returns-in_err-terms-clause-fits
returns-in_err-terms-clause-fits c = ap all_in_range (product-normal c.args.terms.now c.requires.normal) ∙ c.requires.fit

pub returns-clause-fits : goal.returns-clause-fits
returns-clause-fits c = ap all_in_range (product-normal c.args.terms.now c.requires.normal) ∙ c.requires.fit
