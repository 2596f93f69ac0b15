use Rattle.std.proofs.Common.{◌++◌, ◌∙◌, ap, sym, map, to_z, of_z, w32}
use Rattle.std.proofs.lemmas.Int.{to_z-of_z}
use Rattle.std.proofs.lemmas.Result.{err_from_is_err_and}
use Rattle.um_units.specs.PowerMap.{mul, pow, scale}
use Rattle.um_units.specs.Range.{all_in_range}
use Rattle.um_units.proofs.ComputedTerms.{terms-mul_pow, product-terms_of}
use Rattle.um_units.proofs.InRange.{terms-kept, stop_further}
use Rattle.um_units.proofs.PowerMerge.{kept_normal_form}
use Rattle.um_units.proofs.Unit.mul_pow.Goals as goal

pub returns-in_err-terms-clause-range : goal.returns-in_err-terms-clause-range
returns-in_err-terms-clause-range c =
    let u = terms-kept c.self.inside.terms c.args.self.now c.self.invariant c.self.view_is in
    let v = terms-kept c.other.inside.terms c.args.other.now c.other.invariant c.other.view_is in
    let whole = terms-mul_pow c.args.self.now c.args.other.now c.args.k _ _ _ (c.as_slice.ensures ∙ u) (c.as_slice-2.ensures ∙ v) (to_z-of_z w32 c.args.k c.ranges.k) in
    let p = err_from_is_err_and c.from_residual.result c.from_residual.ensures.1 in
    rw (p.1, p.2) (stop_further _ _ c.in_err-terms.field-0.0 (λ h. ap all_in_range (sym whole) ∙ h) c.in_err-terms.ensures.range)

pub invariant_of-result : goal.invariant_of-result
invariant_of-result c = kept_normal_form (c.as_slice.result.now ++ map (scale (to_z w32 (of_z w32 c.args.k))) c.as_slice-2.result.now) c.in_ok-terms.terms c.in_ok-terms.ensures.product c.in_ok-terms.ensures.range

pub returns-clause-exact : goal.returns-clause-exact
returns-clause-exact c =
    let u = terms-kept c.self.inside.terms c.args.self.now c.self.invariant c.self.view_is in
    let v = terms-kept c.other.inside.terms c.args.other.now c.other.invariant c.other.view_is in
    product-terms_of (mul c.args.self.now (pow c.args.other.now c.args.k)) c.in_ok-terms.terms
    (c.in_ok-terms.ensures.product ∙ terms-mul_pow c.args.self.now c.args.other.now c.args.k _ _ _ (c.as_slice.ensures ∙ u) (c.as_slice-2.ensures ∙ v) (to_z-of_z w32 c.args.k c.ranges.k))

pub returns-clause-range : goal.returns-clause-range
returns-clause-range c =
    let u = terms-kept c.self.inside.terms c.args.self.now c.self.invariant c.self.view_is in
    let v = terms-kept c.other.inside.terms c.args.other.now c.other.invariant c.other.view_is in
    ap all_in_range (sym (terms-mul_pow c.args.self.now c.args.other.now c.args.k _ _ _ (c.as_slice.ensures ∙ u) (c.as_slice-2.ensures ∙ v) (to_z-of_z w32 c.args.k c.ranges.k))) ∙ c.in_ok-terms.ensures.range
