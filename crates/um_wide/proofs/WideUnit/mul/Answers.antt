use Rattle.std.proofs.Common.{◌++◌, ◌∙◌, ap, sym, subst}
use Rattle.um_units.specs.PowerMap.{product}
use Rattle.um_units.specs.Terms.{is_normal}
use Rattle.um_units.specs.Wide.{as_terms, TermsHaveRoom}
use Rattle.um_wide.proofs.Terms.{terms_of, normal_terms, product_terms}
use Rattle.um_wide.proofs.WideUnit.mul.Goals as goal

pub merged-requires-clause-left : goal.merged-requires-clause-left
merged-requires-clause-left c = ap (λ ws. is_normal (as_terms ws)) c.deref.ensures.value ∙ c.self.invariant

pub merged-requires-clause-right : goal.merged-requires-clause-right
merged-requires-clause-right c = ap (λ ws. is_normal (as_terms ws)) c.deref-2.ensures.value ∙ c.other.invariant

pub merged-requires-clause-room : goal.merged-requires-clause-room
merged-requires-clause-room c =
    let e = ap as_terms c.deref.ensures.value ∙ terms_of c.self.inside.terms.items c.args.self.now c.self.invariant c.self.view_is in
    let f = ap as_terms c.deref-2.ensures.value ∙ terms_of c.other.inside.terms.items c.args.other.now c.other.invariant c.other.view_is in
    subst (λ ts. TermsHaveRoom ts (as_terms c.deref-2.result.now)) (sym e) (subst (λ ts. TermsHaveRoom c.args.self.now.terms ts) (sym f) c.requires.room)

pub invariant_of-result : goal.invariant_of-result
invariant_of-result c = normal_terms c.in_ok-terms.terms.items (product (as_terms c.deref.result.now ++ as_terms c.deref-2.result.now)) c.in_ok-terms.ensures.product

pub returns : goal.returns
returns c =
    let e = ap as_terms c.deref.ensures.value ∙ terms_of c.self.inside.terms.items c.args.self.now c.self.invariant c.self.view_is in
    let f = ap as_terms c.deref-2.ensures.value ∙ terms_of c.other.inside.terms.items c.args.other.now c.other.invariant c.other.view_is in
    record {
      exact = product_terms c.in_ok-terms.terms.items (product (as_terms c.deref.result.now ++ as_terms c.deref-2.result.now)) c.in_ok-terms.ensures.product
          ∙ ap (λ ts. product (ts ++ as_terms c.deref-2.result.now)) e ∙ ap (λ ts. product (c.args.self.now.terms ++ ts)) f;
    }
