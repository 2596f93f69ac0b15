use Rattle.std.proofs.Common.{◌∙◌, ap, subst, sym, map, negsuc}
use Rattle.um_units.specs.PowerMap.{product, scale}
use Rattle.um_units.specs.Range.{IsKept}
use Rattle.um_units.proofs.InRange.{fits-inv, fits-kept, terms-kept}
use Rattle.um_units.proofs.ComputedTerms.{kept-inverted}
use Rattle.um_units.proofs.Unit.inv.Goals as goal

pub returns-in_err-terms-clause-fits : goal.returns-in_err-terms-clause-fits
returns-in_err-terms-clause-fits c = fits-inv c.args.self.now (fits-kept c.self.inside.terms c.args.self.now c.self.invariant c.self.view_is)

pub invariant_of-result : goal.invariant_of-result
invariant_of-result c = subst IsKept (sym (c.in_ok-terms.ensures ∙ ap (map (scale (negsuc 0))) c.as_slice.ensures)) (kept-inverted c.self.inside.terms c.self.invariant)

pub returns-clause-exact : goal.returns-clause-exact
returns-clause-exact c =
    let u = terms-kept c.self.inside.terms c.args.self.now c.self.invariant c.self.view_is in
    ap product (c.in_ok-terms.ensures ∙ ap (map (scale (negsuc 0))) (c.as_slice.ensures ∙ u))

pub returns-clause-fits : goal.returns-clause-fits
returns-clause-fits c = fits-inv c.args.self.now (fits-kept c.self.inside.terms c.args.self.now c.self.invariant c.self.view_is)
