use Rattle.std.proofs.Common.{◌∙◌, ap, sym}
use Rattle.um_units.specs.Wide.{as_terms}
use Rattle.um_wide.proofs.NarrowTerms.{narrow_unit}
use Rattle.um_wide.proofs.Terms.{terms_of}
use Rattle.um_wide.proofs.WideUnit.is_narrow.Goals as goal

pub returns : goal.returns
returns c =
    let n = narrow_unit c.deref.result.now c.args.self.now (ap as_terms c.deref.ensures.value ∙ terms_of c.self.inside.terms.items c.args.self.now c.self.invariant c.self.view_is) in
    record { narrow = ((λ h. n.0 (sym c.are_narrow.ensures ∙ h)), (λ g. c.are_narrow.ensures ∙ n.1 g)) }
