use Rattle.std.proofs.Common.{◌≡◌, ◌≤◌, ◌∙◌, true, false, ℤ, pos, nat_abs, ◌*ℤ◌, refl, sym, ap, subst, w32, w64, rules, arith}
use Rattle.std.specs.Prelude.{slice_index_or}
use Rattle.std.specs.Int.Signed.{◌<ℤ◌}
use Rattle.std.specs.List.{list_any}
use Rattle.std.proofs.lemmas.Int.{ints, to_z-of_z}
use Rattle.std.proofs.lemmas.Result.{err_from_is_err_and}
use Rattle.um_units.specs.declared.Atom.TheVariants.{Var}
use Rattle.um_units.specs.declared.Term.{Term}
use Rattle.um_units.specs.PowerMap.{PowerMap, one}
use Rattle.um_units.proofs.InRange.{fits-power_of}
use Rattle.um_pivots.specs.Pivot.{is_base, has_base}
use Rattle.um_elim.specs.ElimStep.{signed}
use Rattle.um_check.specs.Existence.{total}
use Rattle.um_kept.specs.Steps.{ArePartsAfter, CarriesOneOfParts, CarriesRefusal}
use Rattle.um_kept.proofs.RowStops.{total_is_row, power_stops, end_stops, power_refused, power_made}
use Rattle.um_kept.proofs.row.power_end.Goals as goal

pub row_refusal-requires-clause-factor : goal.row_refusal-requires-clause-factor
row_refusal-requires-clause-factor c =
    let is = c.power_of-p.ensures.power ∙ c.requires.alone.is in
    let h = c.requires.alone.positive in
    let low : c.requires.alone.p ≤ 2147483647 = subst (λ z. nat_abs z ≤ 2147483647) c.requires.alone.is (fits-power_of c.args.row.now.left.now c.power_of-p.ensures.fits (Var c.args.m)) in
    let f = c.from.ensures in
    (omega (arith, ints, is, h, low, f), omega (arith, ints, is, h, low, f))

pub returns-in_err-refused-clause-range : goal.returns-in_err-refused-clause-range
returns-in_err-refused-clause-range c = λ h rows kept e w.
    let x = err_from_is_err_and c.from_residual.result c.from_residual.ensures.1 in
    let r = c.args.row.now.left.now in
    let m = c.args.partial.now in
    let row = c.args.row.now.unit.now in
    let k = c.args.row.now.number in
    let b = c.args.row.now.inverted in
    let alone = c.requires.alone in
    let is = c.power_of-p.ensures.power ∙ alone.is in
    let low : alone.p ≤ 2147483647 = subst (λ z. nat_abs z ≤ 2147483647) alone.is (fits-power_of r c.power_of-p.ensures.fits (Var c.args.m)) in
    let f = c.from.ensures in
    let s = c.in_err-refused.field-0.0 in
    let t = signed b (total (λ j. slice_index_or m.parts.items j one) row k m.divisor) in
    rw (x.1, x.2) (power_stops rows kept k h m r b w row e c.requires.ready.below c.args.m alone s
    (subst (λ (u : PowerMap). CarriesRefusal u (kept.divisor *ℤ pos alone.p) s) (total_is_row rows kept k h m r b w row e c.requires.ready.below)
    (subst (λ (d : ℤ). CarriesRefusal t (d *ℤ pos alone.p) s) w.agrees.divisor
    (subst (λ (z : ℤ). CarriesRefusal t (m.divisor *ℤ z) s) (omega (arith, ints, is, low, f)) c.in_err-refused.ensures.range))))

pub returns-then-has_base_unit-clause-treated : goal.returns-then-has_base_unit-clause-treated
returns-then-has_base_unit-clause-treated c = λ h rows kept e w.
    let r = c.args.row.now.left.now in
    let m = c.args.partial.now in
    let row = c.args.row.now.unit.now in
    let k = c.args.row.now.number in
    let b = c.args.row.now.inverted in
    let alone = c.requires.alone in
    let is = c.power_of-p.ensures.power ∙ alone.is in
    let low : alone.p ≤ 2147483647 = subst (λ z. nat_abs z ≤ 2147483647) alone.is (fits-power_of r c.power_of-p.ensures.fits (Var c.args.m)) in
    let f = c.from.ensures in
    let base : has_base r ≡ true = sym (c.has_base_unit.ensures ∙ ap (list_any (λ (t : Term). is_base t.atom)) c.terms.ensures.terms) ∙ c.if-has_base_unit.true in
    let refused = c.in_ok-refused.refused in
    power_refused rows kept k h m r b w row e c.requires.ready.below c.args.m alone base refused
    (c.in_ok-refused.ensures.total ∙ total_is_row rows kept k h m r b w row e c.requires.ready.below)
    (subst (λ (d : ℤ). refused.modulus ≡ d *ℤ pos alone.p) w.agrees.divisor
    (subst (λ (z : ℤ). refused.modulus ≡ m.divisor *ℤ z) (omega (arith, ints, is, low, f)) c.in_ok-refused.ensures.modulus))
    c.in_ok-refused.ensures.narrow

pub end_variable-requires-clause-p : goal.end_variable-requires-clause-p
end_variable-requires-clause-p c =
    let is = to_z-of_z w32 c.power_of-p.result (record { sfits = c.power_of-p.type_inv }) ∙ c.power_of-p.ensures.power ∙ c.requires.alone.is in
    let h = c.requires.alone.positive in
    subst (λ z. pos 0 <ℤ z) (sym is) (omega (arith, ints, h))

pub returns-in_err-end_variable-clause-range : goal.returns-in_err-end_variable-clause-range
returns-in_err-end_variable-clause-range c = λ h rows kept e w.
    let x = err_from_is_err_and c.from_residual-in_err-end_variable.result c.from_residual-in_err-end_variable.ensures.1 in
    let r = c.args.row.now.left.now in
    let m = c.args.partial.now in
    let row = c.args.row.now.unit.now in
    let k = c.args.row.now.number in
    let b = c.args.row.now.inverted in
    let alone = c.requires.alone in
    let is = to_z-of_z w32 c.power_of-p.result (record { sfits = c.power_of-p.type_inv }) ∙ c.power_of-p.ensures.power ∙ alone.is in
    let base : has_base r ≡ false = sym (c.has_base_unit.ensures ∙ ap (list_any (λ (t : Term). is_base t.atom)) c.terms.ensures.terms) ∙ c.if-has_base_unit.false in
    let s = c.in_err-end_variable.field-0.0 in
    rw (x.1, x.2) (end_stops rows kept k h m r b w row e c.requires.ready.below c.args.m alone base c.in_ok-refused.refused.total
    (c.in_ok-refused.ensures.total ∙ total_is_row rows kept k h m r b w row e c.requires.ready.below) s
    (subst (λ (z : ℤ). CarriesOneOfParts c.args.m (nat_abs z) c.in_ok-refused.refused.total m.solution.items m.parts.items s) is c.in_err-end_variable.ensures.range))

pub returns-clause-treated : goal.returns-clause-treated
returns-clause-treated c = λ h rows kept e w.
    let r = c.args.row.now.left.now in
    let m = c.args.partial.now in
    let row = c.args.row.now.unit.now in
    let k = c.args.row.now.number in
    let b = c.args.row.now.inverted in
    let alone = c.requires.alone in
    let exact = to_z-of_z w32 c.power_of-p.result (record { sfits = c.power_of-p.type_inv }) ∙ c.power_of-p.ensures.power ∙ alone.is in
    let is = c.power_of-p.ensures.power ∙ alone.is in
    let low : alone.p ≤ 2147483647 = subst (λ z. nat_abs z ≤ 2147483647) alone.is (fits-power_of r c.power_of-p.ensures.fits (Var c.args.m)) in
    let f = c.from.ensures in
    let base : has_base r ≡ false = sym (c.has_base_unit.ensures ∙ ap (list_any (λ (t : Term). is_base t.atom)) c.terms.ensures.terms) ∙ c.if-has_base_unit.false in
    let refused = c.in_ok-refused.refused in
    power_made rows kept k h m r b w row e c.requires.ready.below c.args.m alone base _ refused.total
    (c.in_ok-refused.ensures.total ∙ total_is_row rows kept k h m r b w row e c.requires.ready.below)
    c.in_ok-end_variable.ensures.solution
    refl
    (to_z-of_z w64 refused.modulus (search rules) ∙ subst (λ (z : ℤ). refused.modulus ≡ m.divisor *ℤ z) (omega (arith, ints, is, low, f)) c.in_ok-refused.ensures.modulus)
    (subst (λ (z : ℤ). ArePartsAfter c.args.m (nat_abs z) refused.total m.solution.items m.parts.items c.end_variable.new.parts.items) exact c.in_ok-end_variable.ensures.parts)
    c.in_ok-end_variable.ensures.narrow
