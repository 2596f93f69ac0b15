use Rattle.std.proofs.Common.{◌∙◌, ap, map, to_z, of_z, w64}
use Rattle.std.proofs.lemmas.Int.{to_z-of_z}
use Rattle.um_units.specs.PowerMap.{product, scale}
use Rattle.um_units.specs.Terms.{is_normal}
use Rattle.um_units.specs.Wide.{as_terms}
use Rattle.um_wide.proofs.NarrowTerms.{narrow_unit}
use Rattle.um_wide.proofs.Terms.{terms_of, normal_terms, product_terms}
use Rattle.um_wide.proofs.WideUnit.pow.Goals as goal

pub scaled-requires-clause-normal : goal.scaled-requires-clause-normal
scaled-requires-clause-normal c = ap (λ ws. is_normal (as_terms ws)) c.deref.ensures.value ∙ c.self.invariant

pub scaled-requires-clause-narrow : goal.scaled-requires-clause-narrow
scaled-requires-clause-narrow c =
    (narrow_unit c.deref.result.now c.args.self.now (ap as_terms c.deref.ensures.value ∙ terms_of c.self.inside.terms.items c.args.self.now c.self.invariant c.self.view_is)).1 c.requires.narrow

pub invariant_of-result : goal.invariant_of-result
invariant_of-result c = normal_terms c.in_ok-terms.terms.items (product (map (scale (to_z w64 (of_z w64 c.args.k))) (as_terms c.deref.result.now))) c.in_ok-terms.ensures

pub returns : goal.returns
returns c =
    let k = to_z w64 (of_z w64 c.args.k) in
    record {
      exact = product_terms c.in_ok-terms.terms.items (product (map (scale k) (as_terms c.deref.result.now))) c.in_ok-terms.ensures
          ∙ ap (λ z. product (map (scale z) (as_terms c.deref.result.now))) (to_z-of_z w64 c.args.k c.ranges.k)
          ∙ ap (λ ts. product (map (scale c.args.k) ts)) (ap as_terms c.deref.ensures.value ∙ terms_of c.self.inside.terms.items c.args.self.now c.self.invariant c.self.view_is);
    }
