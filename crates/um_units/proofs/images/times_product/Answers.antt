use Rattle.std.proofs.Common.{◌≡◌, ◌+◌, ◌<◌, ◌^◌, ◌∙◌, ap, subst, rules}
use Rattle.std.specs.Prelude.{IfOk}
use Rattle.um_units.specs.PowerMap.{PowerMap, images, nth}
use Rattle.um_units.specs.Wide.{as_terms, greatest}
use Rattle.um_units.proofs.ComputedTerms.{product-parts}
use Rattle.um_units.proofs.WideMerge.{sums_have_room}
use Rattle.um_units.proofs.images.times_product.Goals as goal

pub merged-requires-clause-room : goal.merged-requires-clause-room
merged-requires-clause-room c =
    let h : greatest c.deref.result.now + greatest c.deref-2.result.now < 2 ^ 127 = search rules in
    sums_have_room c.deref.result.now c.deref-2.result.now _ (images (nth c.args.by.now) c.args.others.now)
    (ap as_terms c.deref.ensures.value ∙ c.in_ok-kept.ensures.power)
    (ap as_terms c.deref-2.ensures.value ∙ c.in_ok-put.ensures.product) h

pub returns : goal.returns
returns c =
    let e = product-parts (nth c.args.by.now) c.args.base_units.now c.args.others.now (as_terms c.deref.result.now) (as_terms c.deref-2.result.now) c.requires.closed
    (ap as_terms c.deref.ensures.value ∙ c.in_ok-kept.ensures.power) (ap as_terms c.deref-2.ensures.value ∙ c.in_ok-put.ensures.product) in
    subst (λ (u : PowerMap). IfOk c.merged.result (λ v. as_terms v.items ≡ u.terms)) e c.merged.ensures.product
