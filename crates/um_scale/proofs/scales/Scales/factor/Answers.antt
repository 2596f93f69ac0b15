use Rattle.std.proofs.Common.{◌≡◌, sym, ap, subst, ◌∙◌, ◌≤◌, length, Some, arith}
use Rattle.std.proofs.lemmas.List.{drop_all}
use Rattle.um_scale.specs.Sizes.{AreSizes, product_from, factor_within}
use Rattle.um_scale.proofs.SizeFactors.{starts_at_one, factor_exact}
use Rattle.um_scale.proofs.scales.Scales.factor.Goals as goal

pub loop-term-init : goal.loop-term-init
loop-term-init c =
    let terms = c.terms-term-items.ensures.terms in
    let one = c.one-product in
    record {
      items = terms;
      left = starts_at_one c.args.self.now c.args.unit.now one.result one.ensures.num one.ensures.den ∙ ap (product_from c.args.self.now one.result) (sym terms);
    }

pub returns-clause-exact : goal.returns-clause-exact
returns-clause-exact c =
    let items = c.terms-term-items.result.now in
    let l = c.loop-term in
    let past : length items ≤ l.term-index = omega (arith, c.loop-term-test.false) in
    let whole : factor_within c.args.self.now c.args.unit.now ≡ Some l.product = l.invariant.left ∙ ap (product_from c.args.self.now l.product) (drop_all l.term-index items past) in
    factor_exact c.args.self.now (subst AreSizes c.self.view_is c.self.invariant) c.args.unit.now l.product whole
