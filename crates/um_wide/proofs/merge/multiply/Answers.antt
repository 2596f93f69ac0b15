use Rattle.std.proofs.Common.{◌++◌, ◌∙◌, sym, ap, subst}
use Rattle.std.specs.Prelude.{IsTrue}
use Rattle.std.proofs.lemmas.List.{map-append}
use Rattle.um_units.specs.Terms.{is_normal}
use Rattle.um_units.specs.PowerMap.{product}
use Rattle.um_units.specs.Wide.{as_term, as_terms, TermsHaveRoom}
use Rattle.um_units.proofs.Equality.{product-normal}
use Rattle.um_wide.proofs.merge.multiply.Goals as goal

pub can_follow-requires-clause-front : goal.can_follow-requires-clause-front
can_follow-requires-clause-front c = ap (λ ws. is_normal (as_terms ws)) c.deref.ensures.value ∙ c.requires.left

pub merged-requires-clause-left : goal.merged-requires-clause-left
merged-requires-clause-left c = ap (λ ws. is_normal (as_terms ws)) c.deref-2.ensures.value ∙ c.requires.left

pub merged-requires-clause-room : goal.merged-requires-clause-room
merged-requires-clause-room c = subst (λ ws. TermsHaveRoom (as_terms ws) (as_terms c.args.by.now)) (sym c.deref-2.ensures.value) c.requires.room

pub returns-then-can_follow-clause-product : goal.returns-then-can_follow-clause-product
returns-then-can_follow-clause-product c =
    let old = c.args.out.now.items in
    let by = c.args.by.now in
    let normal : IsTrue (is_normal (as_terms old ++ as_terms by)) =
    ap (λ ws. is_normal (as_terms ws ++ as_terms by)) (sym c.deref.ensures.value) ∙ c.can_follow.ensures c.if-can_follow.true in
    ap as_terms c.in_ok-extend_from_slice.ensures.items ∙ map-append as_term old by ∙ sym (product-normal (as_terms old ++ as_terms by) normal)

pub returns-clause-product : goal.returns-clause-product
returns-clause-product c = c.in_ok-out.ensures.product ∙ ap (λ ws. (product (as_terms ws ++ as_terms c.args.by.now)).terms) c.deref-2.ensures.value
