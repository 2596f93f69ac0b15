use Rattle.std.proofs.Common.{◌≡◌, ◌∙◌, inl, inr, ℤ, ◌*ℤ◌, ap, subst, to_z, of_z, w64, FitsSigned, rules}
use Rattle.std.specs.Prelude.{slice_index_or}
use Rattle.std.proofs.lemmas.Int.{to_z-of_z}
use Rattle.std.proofs.lemmas.Result.{err_from_is_err_and}
use Rattle.um_units.specs.PowerMap.{PowerMap, one}
use Rattle.um_elim.specs.ElimStep.{signed}
use Rattle.um_check.specs.Existence.{total}
use Rattle.um_kept.specs.declared.stop.CertStop.{CertStop}
use Rattle.um_kept.specs.declared.stop.CertStop.TheVariants as stop
use Rattle.um_kept.specs.Answers.{CarriesPower}
use Rattle.um_kept.specs.Steps.{CarriesNumber, CarriesRefusal}
use Rattle.um_kept.proofs.row.row_refusal.Goals as goal

total_stops : (u : PowerMap) (n : ℤ) (s : CertStop) → CarriesPower 9223372036854775807 u s → CarriesRefusal u n s
total_stops u n (stop.CertRange z) c = (inl c.0, c.1)
total_stops u n stop.NoMemory c = tt

number_stops : (u : PowerMap) (n : ℤ) (s : CertStop) → CarriesNumber n s → CarriesRefusal u n s
number_stops u n (stop.CertRange z) c = (inr c.0, c.1)
number_stops u n stop.NoMemory c = tt

pub returns-in_err-total-clause-range : goal.returns-in_err-total-clause-range
returns-in_err-total-clause-range c =
    let p = err_from_is_err_and c.from_residual.result c.from_residual.ensures.1 in
    let m = c.args.partial.now in
    rw (p.1, p.2) (total_stops (signed c.args.row.now.inverted (total (λ j. slice_index_or m.parts.items j one) c.args.row.now.unit.now c.args.row.now.number m.divisor)) (m.divisor *ℤ c.args.factor) c.in_err-total.field-0.0 c.in_err-total.ensures.narrow)

pub returns-in-Ok-clause-modulus : goal.returns-in-Ok-clause-modulus
returns-in-Ok-clause-modulus c =
    let d = c.args.partial.now.divisor in
    let f : FitsSigned w64 d = search rules in
    let e : to_z w64 (of_z w64 d) *ℤ to_z w64 (of_z w64 c.args.factor) ≡ d *ℤ c.args.factor =
    ap (λ z. z *ℤ to_z w64 (of_z w64 c.args.factor)) (to_z-of_z w64 d f) ∙ ap (λ z. d *ℤ z) (to_z-of_z w64 c.args.factor c.ranges.factor) in
    to_z-of_z w64 c.in-Ok.modulus (search rules) ∙ c.in-Ok.ensures ∙ e

pub returns-in-Err-clause-range : goal.returns-in-Err-clause-range
returns-in-Err-clause-range c =
    let m = c.args.partial.now in
    let d = m.divisor in
    let f : FitsSigned w64 d = search rules in
    let e : to_z w64 (of_z w64 d) *ℤ to_z w64 (of_z w64 c.args.factor) ≡ d *ℤ c.args.factor =
    ap (λ z. z *ℤ to_z w64 (of_z w64 c.args.factor)) (to_z-of_z w64 d f) ∙ ap (λ z. d *ℤ z) (to_z-of_z w64 c.args.factor c.ranges.factor) in
    number_stops (signed c.args.row.now.inverted (total (λ j. slice_index_or m.parts.items j one) c.args.row.now.unit.now c.args.row.now.number d)) (d *ℤ c.args.factor) c.in-Err.stop (subst (λ (n : ℤ). CarriesNumber n c.in-Err.stop) e c.in-Err.ensures)
