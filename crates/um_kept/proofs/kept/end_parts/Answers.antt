use Rattle.std.proofs.Common.{◌≡◌, ◌<◌, ◌∙◌, ℕ, List, ℤ, pos, negsuc, neg_ℤ, nat_abs, below_more, sym, ap, subst, length, to_z, of_z, w32, refl, arith}
use Rattle.std.specs.Prelude.{slice_index_or}
use Rattle.std.specs.Int.Signed.{◌<ℤ◌}
use Rattle.std.proofs.lemmas.Int.{ints, to_z-of_z}
use Rattle.std.proofs.lemmas.List.{get_or_read, get_or_default, length-set}
use Rattle.std.proofs.lemmas.List.Elements.{All-get_or, All-set}
use Rattle.std.proofs.lemmas.Result.{err_from_is_err_and}
use Rattle.um_units.specs.declared.Atom.TheVariants.{Var}
use Rattle.um_units.specs.PowerMap.{PowerMap, one, atom, mul, pow, power_of, nth}
use Rattle.um_units.proofs.Group.{pow-one, pow-zero, mul-one}
use Rattle.um_wide.specs.Room.{IsNarrow}
use Rattle.um_kept.specs.Answers.{CarriesPower}
use Rattle.um_kept.specs.Steps.{parts_at}
use Rattle.um_kept.proofs.Loops.{set_done, set_rest}
use Rattle.um_kept.proofs.RowStops.{part_stops}
use Rattle.um_kept.proofs.kept.end_parts.Goals as goal

size_is : (z : ℤ) → pos 0 <ℤ z → z ≡ pos (nat_abs z)
size_is (pos n) h = refl
size_is (negsuc n) h = absurd (omega (arith, ints, h))

-- what is made of a slot's powers
made_at : (solution old : List PowerMap) (m j : ℕ) (p k e q : ℤ) (total now unit : PowerMap) → pos 0 <ℤ p → k ≡ p → now ≡ slice_index_or old j one → unit ≡ nth solution j → q ≡ e → e ≡ power_of unit (Var m) →
    mul (pow now k) (pow total (neg_ℤ q)) ≡ parts_at m (nat_abs p) total solution old j
made_at solution old m j p k e q total now unit h f g u r v =
    ap (λ z. mul (pow now z) (pow total (neg_ℤ q))) (f ∙ size_is p h)
    ∙ ap (λ w. mul (pow w (pos (nat_abs p))) (pow total (neg_ℤ q))) g
    ∙ ap (λ z. mul (pow (slice_index_or old j one) (pos (nat_abs p))) (pow total (neg_ℤ z))) (r ∙ v ∙ ap (λ w. power_of w (Var m)) u)

-- they stay where p is 1 and the variable doesn't stand in the slot's unit
stays_at : (solution old : List PowerMap) (m j : ℕ) (p : ℤ) (total : PowerMap) → p ≡ pos 1 → power_of (nth solution j) (Var m) ≡ pos 0 → slice_index_or old j one ≡ parts_at m (nat_abs p) total solution old j
stays_at solution old m j p total f e =
    sym (ap (λ z. mul (pow (slice_index_or old j one) (pos (nat_abs z))) (pow total (neg_ℤ (power_of (nth solution j) (Var m))))) f
    ∙ ap (λ z. mul (pow (slice_index_or old j one) (pos 1)) (pow total (neg_ℤ z))) e
    ∙ ap (λ w. mul w (pow total (pos 0))) (pow-one (slice_index_or old j one))
    ∙ ap (mul (slice_index_or old j one)) (pow-zero total)
    ∙ mul-one (slice_index_or old j one))

pub loop-j-init : goal.loop-j-init
loop-j-init c = record { count = refl; done = λ i l. absurd (omega (arith, l)); rest = λ i l. refl; narrow = c.requires.narrow }

pub slot_parts-requires-clause-parts : goal.slot_parts-requires-clause-parts
slot_parts-requires-clause-parts c =
    let now = c.loop-j.parts.items in
    let j = c.loop-j.j in
    let here : j < length now = (let n = c.loop-j.invariant.count in let k = c.requires.count in let l = c.loop-j-test.true in omega (arith, n, k, l)) in
    subst IsNarrow (sym (get_or_read now j _ here c.index_mut.ensures.value one)) (All-get_or IsNarrow now j one here c.loop-j.invariant.narrow)

pub returns-in_err-slot_parts-clause-range : goal.returns-in_err-slot_parts-clause-range
returns-in_err-slot_parts-clause-range c =
    let x = err_from_is_err_and c.from_residual.result c.from_residual.ensures.1 in
    let solution = c.args.solution.now in
    let old = c.args.parts.now.items in
    let now = c.loop-j.parts.items in
    let m = c.args.m in
    let p = c.args.p in
    let j = c.loop-j.j in
    let l : j < length solution = c.loop-j-test.true in
    let inside : j < length old = (let k = c.requires.count in omega (arith, k, l)) in
    let here : j < length now = (let n = c.loop-j.invariant.count in omega (arith, n, inside)) in
    let unit : c.index-solution-j.result ≡ nth solution j = c.index-solution-j.is ∙ get_or_default solution j c.index-solution-j.result (atom (Var j)) l in
    let part : c.index_mut.result.now ≡ slice_index_or old j one = get_or_read now j _ here c.index_mut.ensures.value one ∙ c.loop-j.invariant.rest j (omega arith) in
    let e = c.power_of-e.result in
    let made = made_at solution old m j p (to_z w32 (of_z w32 p)) e (to_z w32 (of_z w32 e)) c.args.total.now c.index_mut.result.now c.index-solution-j.result c.requires.p (to_z-of_z w32 p c.ranges.p) part unit
    (to_z-of_z w32 e (record { sfits = c.power_of-e.type_inv })) c.power_of-e.ensures.power in
    rw (x.1, x.2) (part_stops m (nat_abs p) c.args.total.now solution old j c.in_err-slot_parts.field-0.0 inside (subst (λ u. CarriesPower 9223372036854775807 u c.in_err-slot_parts.field-0.0) made c.in_err-slot_parts.ensures.narrow))

pub loop-j-preserved : goal.loop-j-preserved
loop-j-preserved c =
    let solution = c.args.solution.now in
    let old = c.args.parts.now.items in
    let now = c.loop-j.parts.items in
    let m = c.args.m in
    let p = to_z w32 (of_z w32 c.args.p) in
    let exact = to_z-of_z w32 c.args.p c.ranges.p in
    let j = c.loop-j.j in
    let l : j < length solution = c.loop-j-test.true in
    let inside : j < length old = (let k = c.requires.count in omega (arith, k, l)) in
    let here : j < length now = (let n = c.loop-j.invariant.count in omega (arith, n, inside)) in
    let unit : c.index-solution-j.result ≡ nth solution j = c.index-solution-j.is ∙ get_or_default solution j c.index-solution-j.result (atom (Var j)) l in
    let part : c.index_mut.result.now ≡ slice_index_or old j one = get_or_read now j _ here c.index_mut.ensures.value one ∙ c.loop-j.invariant.rest j (omega arith) in
    let e = c.power_of-e.result in
    let made = made_at solution old m j p p e (to_z w32 (of_z w32 e)) c.args.total.now c.index_mut.result.now c.index-solution-j.result (subst (λ z. pos 0 <ℤ z) (sym exact) c.requires.p) refl part unit
    (to_z-of_z w32 e (record { sfits = c.power_of-e.type_inv })) c.power_of-e.ensures.power in
    record {
      count = length-set now j c.slot_parts.new.parts ∙ c.loop-j.invariant.count;
      done = set_done now old j c.slot_parts.new.parts one (parts_at m (nat_abs p) c.args.total.now solution old) here (c.in_ok-slot_parts.ensures.exact ∙ made) c.loop-j.invariant.done;
      rest = set_rest now old j c.slot_parts.new.parts one c.loop-j.invariant.rest;
      narrow = All-set IsNarrow now j c.slot_parts.new.parts c.in_ok-slot_parts.ensures.narrow c.loop-j.invariant.narrow;
    }

pub loop-j-preserved-then-stays : goal.loop-j-preserved-then-stays
loop-j-preserved-then-stays c =
    let solution = c.args.solution.now in
    let old = c.args.parts.now.items in
    let m = c.args.m in
    let p = to_z w32 (of_z w32 c.args.p) in
    let j = c.loop-j.j in
    let l : j < length solution = c.loop-j-test.true in
    let unit : c.index-solution-j.result ≡ nth solution j = c.index-solution-j.is ∙ get_or_default solution j c.index-solution-j.result (atom (Var j)) l in
    let e = c.power_of-e.result in
    let no = c.stays.ensures c.if-stays.true in
    let none : power_of (nth solution j) (Var m) ≡ pos 0 =
    ap (λ u. power_of u (Var m)) (sym unit) ∙ sym c.power_of-e.ensures.power ∙ sym (to_z-of_z w32 e (record { sfits = c.power_of-e.type_inv })) ∙ no.1 in
    record {
      count = c.loop-j.invariant.count;
      done = below_more _ _ c.loop-j.invariant.done (c.loop-j.invariant.rest j (omega arith) ∙ stays_at solution old m j p c.args.total.now no.0 none);
      rest = λ i k. c.loop-j.invariant.rest i (omega (arith, k));
      narrow = c.loop-j.invariant.narrow;
    }

pub returns-clause-parts : goal.returns-clause-parts
returns-clause-parts c = record {
  count = c.loop-j.invariant.count;
  parts = λ i l. c.loop-j.invariant.done i (let n = c.requires.count in let g = c.loop-j-test.false in omega (arith, l, n, g))
      ∙ ap (λ z. parts_at c.args.m (nat_abs z) c.args.total.now c.args.solution.now c.args.parts.now.items i) (to_z-of_z w32 c.args.p c.ranges.p);
}
