use Rattle.std.proofs.Common.{◌∙◌, ap}
use Rattle.um_units.specs.Wide.{as_terms}
use Rattle.um_wide.proofs.Terms.{terms_of}
use Rattle.um_wide.proofs.WideUnit.terms.Goals as goal

pub returns : goal.returns
returns c = record { terms = ap as_terms c.deref.ensures.value ∙ terms_of c.self.inside.terms.items c.args.self.now c.self.invariant c.self.view_is }
