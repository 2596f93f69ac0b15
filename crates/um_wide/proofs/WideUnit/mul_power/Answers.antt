use Rattle.std.proofs.Common.{◌++◌, ◌∙◌, ap, sym, subst, map, to_z, of_z, w64}
use Rattle.std.proofs.lemmas.Int.{to_z-of_z}
use Rattle.um_units.specs.PowerMap.{product, scale}
use Rattle.um_units.specs.Terms.{is_normal}
use Rattle.um_units.specs.Wide.{as_terms, TermsHaveRoom}
use Rattle.um_wide.proofs.NarrowTerms.{narrow_unit}
use Rattle.um_wide.proofs.Terms.{terms_of, normal_terms, product_terms}
use Rattle.um_wide.proofs.WideUnit.mul_power.Goals as goal

pub scaled-requires-clause-normal : goal.scaled-requires-clause-normal
scaled-requires-clause-normal c = ap (λ ws. is_normal (as_terms ws)) c.deref.ensures.value ∙ c.other.invariant

pub scaled-requires-clause-narrow : goal.scaled-requires-clause-narrow
scaled-requires-clause-narrow c =
    (narrow_unit c.deref.result.now c.args.other.now (ap as_terms c.deref.ensures.value ∙ terms_of c.other.inside.terms.items c.args.other.now c.other.invariant c.other.view_is)).1 c.requires.narrow

pub multiply-requires-clause-left : goal.multiply-requires-clause-left
multiply-requires-clause-left c = c.self.invariant

pub multiply-requires-clause-right : goal.multiply-requires-clause-right
multiply-requires-clause-right c =
    let k = to_z w64 (of_z w64 c.args.k) in
    normal_terms c.deref-2.result.now (product (map (scale k) (as_terms c.deref.result.now))) (ap as_terms c.deref-2.ensures.value ∙ c.in_ok-power.ensures)

pub multiply-requires-clause-room : goal.multiply-requires-clause-room
multiply-requires-clause-room c =
    let other = ap as_terms c.deref.ensures.value ∙ terms_of c.other.inside.terms.items c.args.other.now c.other.invariant c.other.view_is in
    let left = terms_of c.self.inside.terms.items c.args.self.now c.self.invariant c.self.view_is in
    let right = ap as_terms c.deref-2.ensures.value ∙ c.in_ok-power.ensures
    ∙ ap (λ z. (product (map (scale z) (as_terms c.deref.result.now))).terms) (to_z-of_z w64 c.args.k c.ranges.k) ∙ ap (λ ts. (product (map (scale c.args.k) ts)).terms) other in
    subst (λ ts. TermsHaveRoom ts (as_terms c.deref-2.result.now)) (sym left) (subst (λ ts. TermsHaveRoom c.args.self.now.terms ts) (sym right) c.requires.room)

pub returns-clause-exact : goal.returns-clause-exact
returns-clause-exact c =
    let other = ap as_terms c.deref.ensures.value ∙ terms_of c.other.inside.terms.items c.args.other.now c.other.invariant c.other.view_is in
    let left = terms_of c.self.inside.terms.items c.args.self.now c.self.invariant c.self.view_is in
    let right = ap as_terms c.deref-2.ensures.value ∙ c.in_ok-power.ensures
    ∙ ap (λ z. (product (map (scale z) (as_terms c.deref.result.now))).terms) (to_z-of_z w64 c.args.k c.ranges.k) ∙ ap (λ ts. (product (map (scale c.args.k) ts)).terms) other in
    product_terms c.multiply.new.out.items (product (as_terms c.self.inside.terms.items ++ as_terms c.deref-2.result.now)) c.in_ok-multiply.ensures.product
    ∙ ap (λ ts. product (ts ++ as_terms c.deref-2.result.now)) left ∙ ap (λ ts. product (c.args.self.now.terms ++ ts)) right
