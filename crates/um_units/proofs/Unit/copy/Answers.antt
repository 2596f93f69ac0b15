use Rattle.um_units.proofs.InRange.{fits-kept}
use Rattle.um_units.proofs.Unit.copy.Goals as goal

pub returns-in_err-terms-clause-fits : goal.returns-in_err-terms-clause-fits
returns-in_err-terms-clause-fits c = fits-kept c.self.inside.terms c.args.self.now c.self.invariant c.self.view_is

pub returns-clause-fits : goal.returns-clause-fits
returns-clause-fits c = fits-kept c.self.inside.terms c.args.self.now c.self.invariant c.self.view_is
