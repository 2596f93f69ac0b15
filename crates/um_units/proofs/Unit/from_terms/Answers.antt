use Rattle.std.proofs.Common.{◌≡◌, [], ◌∙◌, ap, subst}
use Rattle.std.specs.Prelude.{IfOk}
use Rattle.um_units.specs.PowerMap.{product, images, nth}
use Rattle.um_units.specs.Range.{fits, RangeUnless}
use Rattle.um_units.specs.Wide.{as_terms}
use Rattle.um_units.proofs.Equality.{product-of_terms}
use Rattle.um_units.proofs.Replacement.{images-same}
use Rattle.um_units.proofs.Unit.from_terms.Goals as goal

exact : (c : goal.After-drop-sum) → product (as_terms c.deref.result.now) ≡ product c.args.terms.now
exact c =
    ap product (ap as_terms c.deref.ensures.value ∙ c.in_ok-sum.ensures.product) ∙ product-of_terms (product (images (nth []) c.args.terms.now)) ∙ images-same c.args.terms.now

pub returns-clause-exact : goal.returns-clause-exact
returns-clause-exact c = subst (λ u. IfOk c.of_sum.result (λ unit. unit ≡ u)) (exact c) c.of_sum.ensures.exact

pub returns-clause-range : goal.returns-clause-range
returns-clause-range c = subst (λ u. RangeUnless c.of_sum.result (fits u)) (exact c) c.of_sum.ensures.range
