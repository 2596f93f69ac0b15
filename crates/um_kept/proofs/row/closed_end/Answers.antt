use Rattle.std.proofs.Common.{◌≡◌, ◌≤◌, ◌+◌, ◌∙◌, Some, ℤ, pos, ◌*ℤ◌, sym, ap, subst, arith}
use Rattle.std.specs.Prelude.{slice_index_or}
use Rattle.std.proofs.lemmas.Int.{ints}
use Rattle.std.proofs.lemmas.Result.{err_from_is_err_and}
use Rattle.um_units.specs.declared.Atom.TheVariants.{Base}
use Rattle.um_units.specs.PowerMap.{PowerMap, one}
use Rattle.um_units.proofs.InRange.{fits-power_of}
use Rattle.um_elim.specs.ElimStep.{signed}
use Rattle.um_check.specs.Existence.{total}
use Rattle.um_kept.specs.Steps.{CarriesRefusal, first_size}
use Rattle.um_kept.proofs.StepEnds.{FirstBase, first_base, no_terms_one}
use Rattle.um_kept.proofs.RowStops.{total_is_row, closed_made, closed_stops, closed_refused}
use Rattle.um_kept.proofs.row.closed_end.Goals as goal

pub row_refusal-requires-clause-factor : goal.row_refusal-requires-clause-factor
row_refusal-requires-clause-factor c =
    let r = c.args.row.now.left.now in
    let size = c.in-Some.size in
    let found : first_size r.terms ≡ Some size = ap first_size (sym c.terms.ensures.terms) ∙ sym c.first_size.ensures ∙ c.in-Some.is in
    let base : FirstBase r size = first_base r size c.requires.closed found in
    let low : size ≤ 2147483647 = subst (λ n. n ≤ 2147483647) base.size_is (fits-power_of r c.terms.ensures.fits (Base base.n)) in
    let e = c.from-factor.ensures in
    (omega (arith, ints, e, low), omega (arith, ints, e, low))

pub returns-in-None-clause-treated : goal.returns-in-None-clause-treated
returns-in-None-clause-treated c = λ h rows kept e w.
    closed_made rows kept c.args.row.now.number h c.args.partial.now c.args.row.now.left.now c.args.row.now.inverted w
    (no_terms_one c.args.row.now.left.now (ap first_size (sym c.terms.ensures.terms) ∙ sym c.first_size.ensures ∙ c.in-None.is))

pub returns-in_err-refused-in-Some-clause-range : goal.returns-in_err-refused-in-Some-clause-range
returns-in_err-refused-in-Some-clause-range c = λ h rows kept e w.
    let p = err_from_is_err_and c.from_residual.result c.from_residual.ensures.1 in
    let r = c.args.row.now.left.now in
    let m = c.args.partial.now in
    let row = c.args.row.now.unit.now in
    let k = c.args.row.now.number in
    let b = c.args.row.now.inverted in
    let size = c.in-Some.size in
    let found : first_size r.terms ≡ Some size = ap first_size (sym c.terms.ensures.terms) ∙ sym c.first_size.ensures ∙ c.in-Some.is in
    let base : FirstBase r size = first_base r size c.requires.closed found in
    let low : size ≤ 2147483647 = subst (λ n. n ≤ 2147483647) base.size_is (fits-power_of r c.terms.ensures.fits (Base base.n)) in
    let f = c.from-factor.ensures in
    let s = c.in_err-refused-in-Some.field-0.0 in
    let t = signed b (total (λ j. slice_index_or m.parts.items j one) row k m.divisor) in
    rw (p.1, p.2) (closed_stops rows kept k h m r b w row e c.requires.ready.below size base s
    (subst (λ (u : PowerMap). CarriesRefusal u (kept.divisor *ℤ pos (size + 1)) s) (total_is_row rows kept k h m r b w row e c.requires.ready.below)
    (subst (λ (d : ℤ). CarriesRefusal t (d *ℤ pos (size + 1)) s) w.agrees.divisor
    (subst (λ (z : ℤ). CarriesRefusal t (m.divisor *ℤ z) s) (omega (arith, ints, f, low)) c.in_err-refused-in-Some.ensures.range))))

pub returns-in_ok-refused-in-Some-clause-treated : goal.returns-in_ok-refused-in-Some-clause-treated
returns-in_ok-refused-in-Some-clause-treated c = λ h rows kept e w.
    let r = c.args.row.now.left.now in
    let m = c.args.partial.now in
    let row = c.args.row.now.unit.now in
    let k = c.args.row.now.number in
    let b = c.args.row.now.inverted in
    let size = c.in-Some.size in
    let found : first_size r.terms ≡ Some size = ap first_size (sym c.terms.ensures.terms) ∙ sym c.first_size.ensures ∙ c.in-Some.is in
    let base : FirstBase r size = first_base r size c.requires.closed found in
    let low : size ≤ 2147483647 = subst (λ n. n ≤ 2147483647) base.size_is (fits-power_of r c.terms.ensures.fits (Base base.n)) in
    let f = c.from-factor.ensures in
    let refused = c.in_ok-refused-in-Some.refused in
    closed_refused rows kept k h m r b w row e c.requires.ready.below size base refused
    (c.in_ok-refused-in-Some.ensures.total ∙ total_is_row rows kept k h m r b w row e c.requires.ready.below)
    (subst (λ (d : ℤ). refused.modulus ≡ d *ℤ pos (size + 1)) w.agrees.divisor
    (subst (λ (z : ℤ). refused.modulus ≡ m.divisor *ℤ z) (omega (arith, ints, f, low)) c.in_ok-refused-in-Some.ensures.modulus))
    c.in_ok-refused-in-Some.ensures.narrow
