use Rattle.std.proofs.Common.{rules, ◌≡◌, ◌++◌, ◌∙◌, ap, sym, subst}
use Rattle.std.specs.Prelude.{IfOk}
use Rattle.um_units.specs.PowerMap.{product, images, replace, nth}
use Rattle.um_units.specs.Range.{fits, RangeUnless}
use Rattle.um_units.specs.Terms.{is_normal}
use Rattle.um_units.specs.Wide.{as_terms}
use Rattle.um_units.proofs.ComputedTerms.{normal_front, replace-base_units}
use Rattle.um_units.proofs.Equality.{product-of_terms}
use Rattle.um_units.proofs.InRange.{terms-kept}
use Rattle.um_units.proofs.MergeLemmas.{empty}
use Rattle.um_units.proofs.Unit.replace_terms.Goals as goal

same : (c : goal.In_ok-copy) → replace (nth c.args.by.now) c.args.self.now ≡ c.args.self.now
same c =
    let u = terms-kept c.self.inside.terms c.args.self.now c.self.invariant c.self.view_is in
    replace-base_units (nth c.args.by.now) c.args.self.now c.parted.result.0.now c.parted.result.1.now (c.parted.ensures.parts ∙ c.as_slice.ensures ∙ u) c.parted.ensures.closed (empty _ (search rules))

pub returns-then-is_empty-clause-exact : goal.returns-then-is_empty-clause-exact
returns-then-is_empty-clause-exact c = c.in_ok-copy.ensures.same ∙ sym (same c)

pub returns-then-is_empty-clause-range : goal.returns-then-is_empty-clause-range
returns-then-is_empty-clause-range c = ap fits (same c) ∙ c.in_ok-copy.ensures.fits

pub times_product-requires-clause-normal : goal.times_product-requires-clause-normal
times_product-requires-clause-normal c = normal_front c.parted.result.0.now c.parted.result.1.now (ap is_normal (c.parted.ensures.parts ∙ c.as_slice.ensures) ∙ c.self.invariant.normal)

pub returns-clause-exact : goal.returns-clause-exact
returns-clause-exact c =
    let u = terms-kept c.self.inside.terms c.args.self.now c.self.invariant c.self.view_is in
    let e =
    ap product (ap as_terms c.deref.ensures.value ∙ c.in_ok-sum.ensures)
    ∙ product-of_terms (product (images (nth c.args.by.now) (c.parted.result.0.now ++ c.parted.result.1.now)))
    ∙ ap (λ ts. product (images (nth c.args.by.now) ts)) (c.parted.ensures.parts ∙ c.as_slice.ensures ∙ u)
    in
    subst (λ w. IfOk c.of_sum.result (λ unit. unit ≡ w)) e c.of_sum.ensures.exact

pub returns-clause-range : goal.returns-clause-range
returns-clause-range c =
    let u = terms-kept c.self.inside.terms c.args.self.now c.self.invariant c.self.view_is in
    let e =
    ap product (ap as_terms c.deref.ensures.value ∙ c.in_ok-sum.ensures)
    ∙ product-of_terms (product (images (nth c.args.by.now) (c.parted.result.0.now ++ c.parted.result.1.now)))
    ∙ ap (λ ts. product (images (nth c.args.by.now) ts)) (c.parted.ensures.parts ∙ c.as_slice.ensures ∙ u)
    in
    subst (λ w. RangeUnless c.of_sum.result (fits w)) e c.of_sum.ensures.range
