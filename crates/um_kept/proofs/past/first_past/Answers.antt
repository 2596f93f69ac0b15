use Rattle.std.proofs.Common.{◌≡◌, ◌<◌, ℤ, pos, nat_abs, nat_lt, true, slice_index_or, length, to_z, of_z, w64, sym, ap, ◌∙◌, subst, rules, arith}
use Rattle.std.proofs.lemmas.Int.{to_z-of_z}
use Rattle.std.proofs.lemmas.Bool.{ltb-true}
use Rattle.std.proofs.lemmas.List.{take_all}
use Rattle.std.specs.Int.{w128}
use Rattle.std.specs.Prelude.{IsTrue, take}
use Rattle.std.specs.List.{list_all}
use Rattle.um_units.specs.declared.Atom.TheVariants.{Base}
use Rattle.um_units.specs.declared.wide.WideTerm.{WideTerm}
use Rattle.um_kept.specs.Formed.{IsPowerIn}
use Rattle.um_kept.proofs.Limits.{is_low, within_low, power_held}
use Rattle.um_kept.proofs.past.first_past.Goals as goal

pub returns-then-is_past-clause-some : goal.returns-then-is_past-clause-some
returns-then-is_past-clause-some c z e =
    let ws = c.terms-term-items.result.now in
    let d : WideTerm = record { atom = Base 0; power = pos 0 } in
    let w = slice_index_or ws c.loop-term.term-index d in
    let k : ℤ = to_z w128 (of_z w128 w.power) in
    let same : k ≡ w.power = to_z-of_z w128 w.power (search rules) in
    let is : k ≡ z = cc e in
    let inside : c.loop-term.term-index < length ws = search rules in
    let at : IsPowerIn w.power c.args.unit.now = power_held ws c.args.unit.now c.loop-term.term-index d c.terms-term-items.ensures.terms inside in
    let past : nat_lt (nat_abs c.args.limit) (nat_abs k) ≡ true = ap (λ n. nat_lt (nat_abs n) (nat_abs k)) (sym (to_z-of_z w64 c.args.limit c.ranges.limit)) ∙ sym c.is_past.ensures ∙ c.if-is_past.true in
    (subst (λ n. IsPowerIn n c.args.unit.now) (sym same ∙ is) at, subst (λ n. nat_abs c.args.limit < nat_abs n) is (ltb-true (nat_abs c.args.limit) (nat_abs k) past))

pub returns-clause-none : goal.returns-clause-none
returns-clause-none c e =
    let ws = c.terms-term-items.result.now in
    let n = nat_abs c.args.limit in
    let past = c.loop-term-test.false in
    let all : take c.loop-term.term-index ws ≡ ws = take_all c.loop-term.term-index ws (omega (arith, past)) in
    let low : IsTrue (list_all (is_low n) (take c.loop-term.term-index ws)) = subst (λ (z : ℤ). IsTrue (list_all (is_low (nat_abs z)) (take c.loop-term.term-index ws))) (to_z-of_z w64 c.args.limit c.ranges.limit) c.loop-term.invariant in
    within_low n ws c.args.unit.now c.terms-term-items.ensures.terms (subst (λ vs. IsTrue (list_all (is_low n) vs)) all low)
