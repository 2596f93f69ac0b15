use Rattle.std.proofs.Common.{◌∙◌}
use Rattle.um_units.proofs.InRange.{fits-kept, terms-kept}
use Rattle.um_units.proofs.Unit.terms.Goals as goal

pub returns-clause-terms : goal.returns-clause-terms
returns-clause-terms c = c.as_slice.ensures ∙ terms-kept c.self.inside.terms c.args.self.now c.self.invariant c.self.view_is

pub returns-clause-fits : goal.returns-clause-fits
returns-clause-fits c = fits-kept c.self.inside.terms c.args.self.now c.self.invariant c.self.view_is
