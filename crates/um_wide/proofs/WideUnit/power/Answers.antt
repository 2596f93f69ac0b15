use Rattle.std.proofs.Common.{◌*◌, ap, ◌∙◌, sym, subst, map, nat_abs, arith, to_z, of_z, w64}
use Rattle.std.proofs.lemmas.Int.{to_z-of_z}
use Rattle.um_units.specs.PowerMap.{product, scale}
use Rattle.um_units.specs.Range.{all_in_range}
use Rattle.um_wide.specs.Room.{IsWithin}
use Rattle.um_units.specs.Wide.{as_terms}
use Rattle.um_wide.proofs.NarrowTerms.{narrow-in_range}
use Rattle.um_wide.proofs.Rooms.{within-pow, within-fits}
use Rattle.um_wide.proofs.Terms.{normal_terms, product_terms}
use Rattle.um_wide.proofs.WideUnit.power.Goals as goal

pub scaled-requires-clause-normal : goal.scaled-requires-clause-normal
scaled-requires-clause-normal c = normal_terms c.deref.result.now c.args.unit.now (ap as_terms c.deref.ensures.value ∙ c.in_ok-wide.ensures ∙ c.terms.ensures.terms)

pub scaled-requires-clause-narrow : goal.scaled-requires-clause-narrow
scaled-requires-clause-narrow c = narrow-in_range c.deref.result.now (ap (λ ws. all_in_range (as_terms ws)) c.deref.ensures.value ∙ ap all_in_range (c.in_ok-wide.ensures ∙ c.terms.ensures.terms) ∙ c.terms.ensures.fits)

pub invariant_of-result : goal.invariant_of-result
invariant_of-result c = normal_terms c.in_ok-terms.terms.items (product (map (scale (to_z w64 (of_z w64 c.args.k))) (as_terms c.deref.result.now))) c.in_ok-terms.ensures

pub returns-clause-exact : goal.returns-clause-exact
returns-clause-exact c =
    let k = to_z w64 (of_z w64 c.args.k) in
    product_terms c.in_ok-terms.terms.items (product (map (scale k) (as_terms c.deref.result.now))) c.in_ok-terms.ensures
    ∙ ap (λ z. product (map (scale z) (as_terms c.deref.result.now))) (to_z-of_z w64 c.args.k c.ranges.k)
    ∙ ap (λ ts. product (map (scale c.args.k) ts)) (ap as_terms c.deref.ensures.value ∙ c.in_ok-wide.ensures ∙ c.terms.ensures.terms)

pub returns-clause-room : goal.returns-clause-room
returns-clause-room c =
    subst (IsWithin (nat_abs c.args.k * 2147483647)) (sym (returns-clause-exact c)) (within-pow (nat_abs c.args.k) 2147483647 c.args.unit.now c.args.k (omega arith) (within-fits c.args.unit.now c.terms.ensures.fits))
