use Rattle.std.proofs.Common.{◌≡◌, ◌<◌, ◌≤◌, ◌∙◌, sym, ap, subst, length, to_z, w32, refl}
use Rattle.std.proofs.lemmas.Int.{to_z-of_z}
use Rattle.std.proofs.lemmas.List.{get_or_read, length-set}
use Rattle.um_units.specs.declared.Atom.TheVariants.{Var}
use Rattle.um_units.specs.PowerMap.{one, atom, power_of, replace, nth}
use Rattle.um_elim.specs.ElimStep.{substitute}
use Rattle.um_kept.proofs.Loops.{next_is, next_set, next_left, all_set}
use Rattle.um_kept.proofs.Times.{absent_without}
use Rattle.um_kept.proofs.kept.end_units.Goals as goal

pub loop-j-init : goal.loop-j-init
loop-j-init c = record { count = refl; done = refl }

pub loop-j-preserved : goal.loop-j-preserved
loop-j-preserved c =
    let old = c.args.units.now.items in
    let now = c.loop-j.units.items in
    let f = replace (substitute c.args.m one) in
    let j = c.loop-j.j in
    let l : j < length old = subst (λ n. j < n) (c.len-j-end.ensures ∙ c.args.units.now.ok.0) c.loop-j-test.true in
    let here : j < length now = subst (λ n. j < n) (sym c.loop-j.invariant.count) l in
    let second : c.index-in-loop-j.result.now ≡ nth old j = get_or_read now j _ here c.index-in-loop-j.ensures (atom (Var j)) ∙ next_is f old now j c.loop-j.invariant.done (atom (Var j)) l (atom (Var j)) in
    record {
      count = length-set now j c.in_ok-unit.unit ∙ c.loop-j.invariant.count;
      done = next_set f old now j c.loop-j.invariant.done (atom (Var j)) l c.in_ok-unit.unit (c.in_ok-unit.ensures ∙ ap f second);
    }

pub loop-j-preserved-then-power-eq0 : goal.loop-j-preserved-then-power-eq0
loop-j-preserved-then-power-eq0 c =
    let old = c.args.units.now.items in
    let now = c.loop-j.units.items in
    let m = c.args.m in
    let f = replace (substitute m one) in
    let j = c.loop-j.j in
    let l : j < length old = subst (λ n. j < n) (c.len-j-end.ensures ∙ c.args.units.now.ok.0) c.loop-j-test.true in
    let here : j < length now = subst (λ n. j < n) (sym c.loop-j.invariant.count) l in
    let first : c.index.result.now ≡ nth old j = get_or_read now j _ here c.index.ensures (atom (Var j)) ∙ next_is f old now j c.loop-j.invariant.done (atom (Var j)) l (atom (Var j)) in
    let none = ap (λ u. power_of u (Var m)) (sym first) ∙ sym c.power_of-power.ensures.power
    ∙ sym (to_z-of_z w32 c.power_of-power.result (record { sfits = c.power_of-power.type_inv })) ∙ ap (to_z w32) c.if-power-eq0.true in
    record {
      count = c.loop-j.invariant.count;
      done = next_left f old now j c.loop-j.invariant.done (atom (Var j)) l (absent_without m (nth old j) none);
    }

pub returns : goal.returns
returns c = all_set (replace (substitute c.args.m one)) c.args.units.now.items c.loop-j.units.items c.loop-j.j c.loop-j.invariant.done (subst (λ n. n ≤ c.loop-j.j) (c.len-j-end.ensures ∙ c.args.units.now.ok.0) c.loop-j-test.false)
