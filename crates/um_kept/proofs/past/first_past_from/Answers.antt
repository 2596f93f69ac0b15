use Rattle.std.proofs.Common.{◌≡◌, ◌-◌, ◌<◌, suc, ℤ, pos, nat_abs, nat_lt, length, take, drop, get_or, to_z, of_z, refl, sym, ap, ◌∙◌, subst, rules, arith}
use Rattle.std.specs.Int.{w128}
use Rattle.std.specs.Prelude.{IsTrue, None, Some}
use Rattle.std.specs.List.{list_all}
use Rattle.std.proofs.lemmas.Bool.{ltb-true}
use Rattle.std.proofs.lemmas.Int.{to_z-of_z}
use Rattle.std.proofs.lemmas.List.{drop_all}
use Rattle.um_units.specs.Atoms.{is_before}
use Rattle.um_units.specs.declared.Atom.TheVariants.{Base}
use Rattle.um_units.specs.declared.wide.WideTerm.{WideTerm}
use Rattle.um_kept.specs.Formed.{IsPowerIn}
use Rattle.um_kept.proofs.Limits.{is_low, low_more, before_up_to, within_from, power_held}
use Rattle.um_kept.proofs.past.first_past_from.Goals as goal

abbrev none : WideTerm
none = record { atom = Base 0; power = pos 0 }

nothing : (z : ℤ) → None ≡ Some z → ⊥
nothing z e = cc

pub loop-i-init : goal.loop-i-init
loop-i-init c =
    let ws = c.terms-terms.result.now in
    record {
      none = λ e. subst (λ vs. IsTrue (list_all (is_low 9223372036854775807) vs)) (sym (drop_all (length ws) ws (omega arith))) refl;
      some = λ z e. absurd (nothing z e);
    }

pub loop-i-preserved : goal.loop-i-preserved
loop-i-preserved c =
    let ws = c.terms-terms.result.now in
    let k = c.loop-i.i in
    let w = get_or ws (k - 1) none in
    let same : to_z w128 (of_z w128 w.power) ≡ w.power = to_z-of_z w128 w.power (search rules) in
    let low = ap (λ z. nat_lt 9223372036854775807 (nat_abs z)) (sym same) ∙ sym c.is_past.ensures ∙ c.if-is_past.false in
    record {
      none = λ e. low_more 9223372036854775807 ws k none (omega arith) (omega arith) low (c.loop-i.invariant.none e);
      some = c.loop-i.invariant.some;
    }

pub loop-i-preserved-then-is_past : goal.loop-i-preserved-then-is_past
loop-i-preserved-then-is_past c =
    let ws = c.terms-terms.result.now in
    let k = c.loop-i.i in
    let w = get_or ws (k - 1) none in
    let same : to_z w128 (of_z w128 w.power) ≡ w.power = to_z-of_z w128 w.power (search rules) in
    let past = ap (λ z. nat_lt 9223372036854775807 (nat_abs z)) (sym same) ∙ sym c.is_past.ensures ∙ c.if-is_past.true in
    let at : IsPowerIn w.power c.args.unit.now = power_held ws c.args.unit.now (k - 1) none c.terms-terms.ensures.terms (omega arith) in
    record {
      none = λ e. absurd (nothing _ (sym e));
      some = λ z e. let is : w.power ≡ z = cc (same, e) in subst (λ (n : ℤ). IsPowerIn n c.args.unit.now × (9223372036854775807 < nat_abs n)) is (at, ltb-true 9223372036854775807 (nat_abs w.power) past);
    }

pub returns-then-comes_before-clause-none : goal.returns-then-comes_before-clause-none
returns-then-comes_before-clause-none c e x after =
    let ws = c.terms-terms.result.now in
    let k = c.loop-i.i in
    let w = get_or ws (k - 1) none in
    let next : suc (k - 1) ≡ k = omega arith in
    let before : IsTrue (is_before w.atom c.args.first) = sym c.comes_before.ensures ∙ c.if-comes_before.true in
    within_from 9223372036854775807 c.args.first ws c.args.unit.now k c.terms-terms.ensures.terms
    (subst (λ j. IsTrue (list_all (λ (v : WideTerm). is_before v.atom c.args.first) (take j ws))) next
    (before_up_to c.args.first ws c.args.unit.now (k - 1) none c.terms-terms.ensures.terms (omega arith) before))
    (c.loop-i.invariant.none e) x after

pub returns-clause-none : goal.returns-clause-none
returns-clause-none c e x after =
    let ws = c.terms-terms.result.now in
    let end : c.loop-i.i ≡ 0 = omega arith in
    within_from 9223372036854775807 c.args.first ws c.args.unit.now 0 c.terms-terms.ensures.terms refl
    (subst (λ j. IsTrue (list_all (is_low 9223372036854775807) (drop j ws))) end (c.loop-i.invariant.none e)) x after
