use Rattle.std.proofs.Common.{◌≡◌, ◌/◌, ◌+◌, ◌<◌, ◌^◌, ap, ◌∙◌, subst, length, rules}
use Rattle.std.specs.Prelude.{IfOk}
use Rattle.um_units.specs.PowerMap.{PowerMap, images, nth}
use Rattle.um_units.specs.Wide.{as_terms, greatest}
use Rattle.um_units.proofs.ComputedTerms.{images-none, product-halves}
use Rattle.um_units.proofs.WideMerge.{sums_have_room}
use Rattle.um_units.proofs.images.+product.Goals as goal

pub merged-requires-clause-room : goal.merged-requires-clause-room
merged-requires-clause-room t c =
    let h : greatest c.deref.result.now + greatest c.deref-in_default.result.now < 2 ^ 127 = search rules in
    sums_have_room c.deref.result.now c.deref-in_default.result.now (images (nth c.args.by.now) c.split_at.result.0.now) (images (nth c.args.by.now) c.split_at.result.1.now)
    (ap as_terms c.deref.ensures.value ∙ c.in_ok-left-in_default.ensures.product)
    (ap as_terms c.deref-in_default.ensures.value ∙ c.in_ok-right-in_default.ensures.product) h

pub returns-in-empty-clause-product : goal.returns-in-empty-clause-product
returns-in-empty-clause-product t c = ap as_terms c.new.ensures.items ∙ images-none (nth c.args.by.now) c.args.terms.now c.in-empty.len_below

pub returns-in_ok-right-in_default-clause-product : goal.returns-in_ok-right-in_default-clause-product
returns-in_ok-right-in_default-clause-product t c =
    let e = product-halves (nth c.args.by.now) c.args.terms.now c.split_at.result.0.now c.split_at.result.1.now (as_terms c.deref.result.now) (as_terms c.deref-in_default.result.now) (length c.args.terms.now / 2)
    c.split_at.ensures.front c.split_at.ensures.back
    (ap as_terms c.deref.ensures.value ∙ c.in_ok-left-in_default.ensures.product) (ap as_terms c.deref-in_default.ensures.value ∙ c.in_ok-right-in_default.ensures.product) in
    subst (λ (u : PowerMap). IfOk c.merged.result (λ v. as_terms v.items ≡ u.terms)) e c.merged.ensures.product
