use Rattle.std.proofs.Common.{◌≡◌, ◌<◌, ◌≤◌, ◌∙◌, false, pos, sym, ap, subst, length, to_z, of_z, w32, refl}
use Rattle.std.proofs.lemmas.Int.{to_z-of_z}
use Rattle.std.proofs.lemmas.List.{get_or_read, length-set}
use Rattle.std.proofs.lemmas.Result.{err_from_is_err_and}
use Rattle.um_units.specs.declared.Atom.TheVariants.{Var}
use Rattle.um_units.specs.PowerMap.{atom, mul, pow, power_of, replace, nth}
use Rattle.um_elim.specs.ElimStep.{multiply}
use Rattle.um_elim.proofs.Shear.{multiply_nothing}
use Rattle.um_kept.specs.Answers.{CarriesPower}
use Rattle.um_kept.proofs.Loops.{next_is, next_set, next_left, all_set}
use Rattle.um_kept.proofs.RowStops.{one_stops}
use Rattle.um_kept.proofs.Times.{times_is}
use Rattle.um_kept.proofs.kept.multiply_all.Goals as goal

pub loop-j-init : goal.loop-j-init
loop-j-init c = record { count = refl; done = refl }

pub returns-in_err-unit-clause-range : goal.returns-in_err-unit-clause-range
returns-in_err-unit-clause-range c =
    let p = err_from_is_err_and c.from_residual.result c.from_residual.ensures.1 in
    let old = c.args.units.now.items in
    let now = c.loop-j.units.items in
    let m = c.args.m in
    let w = c.args.w.now in
    let f = replace (multiply m w) in
    let j = c.loop-j.j in
    let l : j < length old = subst (λ n. j < n) (c.len-j-end.ensures ∙ c.args.units.now.ok.0) c.loop-j-test.true in
    let here : j < length now = subst (λ n. j < n) (sym c.loop-j.invariant.count) l in
    let at = next_is f old now j c.loop-j.invariant.done (atom (Var j)) l in
    let first : c.index.result.now ≡ nth old j = get_or_read now j _ here c.index.ensures (atom (Var j)) ∙ at (atom (Var j)) in
    let second : c.index-in-loop-j.result.now ≡ nth old j = get_or_read now j _ here c.index-in-loop-j.ensures (atom (Var j)) ∙ at (atom (Var j)) in
    let k = to_z w32 (of_z w32 c.power_of-power.result) in
    let power : k ≡ power_of (nth old j) (Var m) = to_z-of_z w32 c.power_of-power.result (record { sfits = c.power_of-power.type_inv }) ∙ c.power_of-power.ensures.power ∙ ap (λ u. power_of u (Var m)) first in
    let made = ap (λ u. mul (pow u (pos 1)) (pow w k)) second ∙ times_is false m w (nth old j) k power in
    rw (p.1, p.2) (one_stops 2147483647 f old j c.in_err-unit.field-0.0 l (subst (λ u. CarriesPower 2147483647 u c.in_err-unit.field-0.0) made c.in_err-unit.ensures))

pub loop-j-preserved : goal.loop-j-preserved
loop-j-preserved c =
    let old = c.args.units.now.items in
    let now = c.loop-j.units.items in
    let m = c.args.m in
    let w = c.args.w.now in
    let f = replace (multiply m w) in
    let j = c.loop-j.j in
    let l : j < length old = subst (λ n. j < n) (c.len-j-end.ensures ∙ c.args.units.now.ok.0) c.loop-j-test.true in
    let here : j < length now = subst (λ n. j < n) (sym c.loop-j.invariant.count) l in
    let at = next_is f old now j c.loop-j.invariant.done (atom (Var j)) l in
    let first : c.index.result.now ≡ nth old j = get_or_read now j _ here c.index.ensures (atom (Var j)) ∙ at (atom (Var j)) in
    let second : c.index-in-loop-j.result.now ≡ nth old j = get_or_read now j _ here c.index-in-loop-j.ensures (atom (Var j)) ∙ at (atom (Var j)) in
    let k = to_z w32 (of_z w32 c.power_of-power.result) in
    let power : k ≡ power_of (nth old j) (Var m) = to_z-of_z w32 c.power_of-power.result (record { sfits = c.power_of-power.type_inv }) ∙ c.power_of-power.ensures.power ∙ ap (λ u. power_of u (Var m)) first in
    let made : c.in_ok-unit.unit ≡ f (nth old j) = c.in_ok-unit.ensures ∙ ap (λ u. mul (pow u (pos 1)) (pow w k)) second ∙ times_is false m w (nth old j) k power in
    record {
      count = length-set now j c.in_ok-unit.unit ∙ c.loop-j.invariant.count;
      done = next_set f old now j c.loop-j.invariant.done (atom (Var j)) l c.in_ok-unit.unit made;
    }

pub loop-j-preserved-then-power-eq0 : goal.loop-j-preserved-then-power-eq0
loop-j-preserved-then-power-eq0 c =
    let old = c.args.units.now.items in
    let now = c.loop-j.units.items in
    let m = c.args.m in
    let w = c.args.w.now in
    let f = replace (multiply m w) in
    let j = c.loop-j.j in
    let l : j < length old = subst (λ n. j < n) (c.len-j-end.ensures ∙ c.args.units.now.ok.0) c.loop-j-test.true in
    let here : j < length now = subst (λ n. j < n) (sym c.loop-j.invariant.count) l in
    let at = next_is f old now j c.loop-j.invariant.done (atom (Var j)) l in
    let first : c.index.result.now ≡ nth old j = get_or_read now j _ here c.index.ensures (atom (Var j)) ∙ at (atom (Var j)) in
    let none = ap (λ u. power_of u (Var m)) (sym first) ∙ sym c.power_of-power.ensures.power
    ∙ sym (to_z-of_z w32 c.power_of-power.result (record { sfits = c.power_of-power.type_inv })) ∙ ap (to_z w32) c.if-power-eq0.true in
    record {
      count = c.loop-j.invariant.count;
      done = next_left f old now j c.loop-j.invariant.done (atom (Var j)) l (multiply_nothing m w (nth old j) none);
    }

pub returns-clause-exact : goal.returns-clause-exact
returns-clause-exact c =
    all_set (replace (multiply c.args.m c.args.w.now)) c.args.units.now.items c.loop-j.units.items c.loop-j.j c.loop-j.invariant.done (subst (λ n. n ≤ c.loop-j.j) (c.len-j-end.ensures ∙ c.args.units.now.ok.0) c.loop-j-test.false)
