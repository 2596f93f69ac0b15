-- What the code keeps against what is kept: before any row, after a step and after the end of a variable.
use Rattle.std.proofs.Common.{◌≡◌, ◌≢◌, ℕ, zero, suc, ◌+◌, ◌-◌, ◌*◌, ◌<◌, ◌≤◌, true, List, ◌++◌, map, length, get_or, set, replicate, ℤ, pos, negsuc, neg_ℤ, ◌*ℤ◌, refl, sym, ap, ◌∙◌, subst, arith}
use Rattle.std.specs.Prelude.{◌==◌, IsTrue, All, nat_le, nat_lt, slice_index_or}
use Rattle.std.specs.Int.Signed.{◌<ℤ◌}
use Rattle.std.proofs.lemmas.Bool.{and_parts, leb-true, ltb-true, eqb-true, eqb-false, lt-ltb}
use Rattle.std.proofs.lemmas.Int.{ints}
use Rattle.std.proofs.lemmas.List.{length-map, length-append, length-set, length-replicate, get_or-replicate, get_or-append_right, get_or_append_left, get_or-set_same, get_or-set_other, get_or_default}
use Rattle.std.proofs.lemmas.List.Elements.{All-replicate}
use Rattle.std.proofs.lemmas.List.FromFn.{get_or-map-range_with_len}
use Rattle.um_units.specs.declared.Atom.{Atom}
use Rattle.um_units.specs.declared.Atom.TheVariants.{Base, Var}
use Rattle.um_units.specs.Terms.{indicator}
use Rattle.um_units.specs.PowerMap.{PowerMap, weight, power_of, one, atom, mul, inv, pow, image, replace, nth, extension}
use Rattle.um_units.specs.Variables.{VariablesBelow, atom_below}
use Rattle.um_units.proofs.Equality.{same_unit}
use Rattle.um_units.proofs.Group.{weight-atom}
use Rattle.um_units.proofs.Replacement.{weight-replace, weight_held}
use Rattle.um_units.proofs.Variables.{VariablesBelow-closed, IsClosed-one}
use Rattle.um_wide.specs.Room.{IsNarrow}
use Rattle.um_wide.proofs.Rooms.{within-one}
use Rattle.um_elim.specs.declared.elim_step.ElimStep.{ElimStep}
use Rattle.um_elim.specs.ElimStep.{multiply, substitute}
use Rattle.um_elim.specs.Solution.{own_variables, rigid_units}
use Rattle.um_elim.proofs.Cases.{on_test}
use Rattle.um_elim.proofs.IndexStep.{multiply_stays}
use Rattle.um_elim.proofs.Slots.{length-own, length-rigid}
use Rattle.um_elim.proofs.VariablesKept.{Stays, own_below, all_rigid_below}
use Rattle.um_rows.specs.Generalised.{is_parameter, generalised_atom, generalised_unit}
use Rattle.um_check.specs.Existence.{divided_inverse, parts_after}
use Rattle.um_check.proofs.Extensions.{weight-extension}
use Rattle.um_kept.specs.declared.kept.PartialCertificate.{PartialCertificate}
use Rattle.um_kept.specs.declared.kept.Head.{Head}
use Rattle.um_kept.specs.Kept.{Kept, first, first_back}
use Rattle.um_kept.specs.Answers.{Agrees, back_at}
use Rattle.um_kept.specs.Steps.{ArePartsAfter, IsAfterStep, divided_at}
use Rattle.um_kept.proofs.AfterSteps.{all_replaced}

-- ---- numbers
pub parameter_range : (b p n : ℕ) → is_parameter b p 0 n ≡ true → (b ≤ n) × (n < b + p)
parameter_range b p n e = let q = and_parts (nat_le b n) (nat_lt n (b + p)) e in (leb-true b n q.0, ltb-true n (b + p) q.1)

pub positive_times : (d : ℤ) (p : ℕ) → pos 0 <ℤ d → 0 < p → pos 0 <ℤ (d *ℤ pos p)
positive_times (pos n) p h k = whole (n * p) (product n p (omega (arith, ints, h)) k)
  where
    whole : (m : ℕ) → 0 < m → pos 0 <ℤ pos m
    whole m l = omega (arith, ints, l)

    product : (a b : ℕ) → 0 < a → 0 < b → 0 < a * b
    product zero b l m = absurd (omega (arith, l))
    product (suc a) zero l m = absurd (omega (arith, m))
    product (suc a) (suc b) l m = omega arith
positive_times (negsuc n) p h k = absurd (omega (arith, ints, h))

-- ---- the list of units that the code keeps as the way back
pub back_at_is : (h : Head) (bs : List PowerMap) → length bs ≡ h.slots + h.parameters → (y : Atom) → back_at h bs y ≡ image (nth bs) (generalised_atom h.bases h.parameters h.slots y)
back_at_is h bs l (Var k) = refl
back_at_is h bs l (Base n) =
    on_test (is_parameter h.bases h.parameters h.slots n)
    (λ e. rw e (let r = parameter_range h.bases h.parameters n e in
    let low = r.0 in
    let high = r.1 in
    get_or_default bs (h.slots + (n - h.bases)) one (atom (Var (h.slots + (n - h.bases)))) (omega (arith, low, high, l))))
    (λ e. rw e refl)

pub back_is : (h : Head) (bs : List PowerMap) (back : Atom → PowerMap) (u : PowerMap) → length bs ≡ h.slots + h.parameters → ((y : Atom) → IsTrue (atom_below h.slots y) → back y ≡ back_at h bs y) → VariablesBelow h.slots u →
    extension back u ≡ replace (nth bs) (generalised_unit h.bases h.parameters h.slots u)
back_is h bs back u l is below =
    same_unit _ _ (λ x. weight-extension (indicator x) back u
    ∙ weight_held _ _ u (at x)
    ∙ sym (weight-extension (λ z. power_of (image (nth bs) z) x) (λ y. atom (generalised_atom h.bases h.parameters h.slots y)) u)
    ∙ sym (weight-replace (indicator x) (nth bs) (generalised_unit h.bases h.parameters h.slots u)))
  where
    general : Atom → Atom
    general = generalised_atom h.bases h.parameters h.slots

    low : (y : Atom) → power_of u y ≢ pos 0 → IsTrue (atom_below h.slots y)
    low (Base n) held = refl
    low (Var k) held = lt-ltb k h.slots (below k held)

    at : (x y : Atom) → power_of u y ≢ pos 0 → power_of (back y) x ≡ weight (λ z. power_of (image (nth bs) z) x) (atom (general y))
    at x y held = ap (λ v. power_of v x) (is y (low y held) ∙ back_at_is h bs l y) ∙ sym (weight-atom (λ z. power_of (image (nth bs) z) x) (general y))

-- ---- before any row
module _ (h : Head) (m : PartialCertificate) (few : h.parameters ≤ h.slots) (solution : m.solution.items ≡ rigid_units h.bases h.parameters h.slots) (bs : m.back.items ≡ own_variables h.slots ++ own_variables h.parameters)
    (divisor : m.divisor ≡ pos 1) (parts : m.parts.items ≡ replicate h.slots one) where
  own_at : (n k : ℕ) (d : PowerMap) → k < n → get_or (own_variables n) k d ≡ atom (Var k)
  own_at n k d l = get_or-map-range_with_len (λ i. atom (Var i)) 0 n k k d l (omega arith)

  first_back_is : (y : Atom) → IsTrue (atom_below h.slots y) → first_back h.bases h.parameters y ≡ back_at h m.back.items y
  first_back_is (Var k) low =
      let l = ltb-true k h.slots low in
      sym (ap (λ l. get_or l k (atom (Var k))) bs
      ∙ get_or_append_left (own_variables h.slots) (own_variables h.parameters) (atom (Var k)) k (let n = length-own h.slots in omega (arith, n, l))
      ∙ own_at h.slots k (atom (Var k)) l)
  first_back_is (Base n) low =
      on_test (is_parameter h.bases h.parameters h.slots n)
      (λ e. rw e (let r = parameter_range h.bases h.parameters n e in
      let least = r.0 in
      let most = r.1 in
      let i = h.slots + (n - h.bases) in
      let less : i - h.slots ≡ n - h.bases = omega arith in
      sym (ap (λ l. get_or l i one) bs
      ∙ get_or-append_right (own_variables h.slots) (own_variables h.parameters) h.slots i one (length-own h.slots) (omega arith)
      ∙ ap (λ k. get_or (own_variables h.parameters) k one) less
      ∙ own_at h.parameters (n - h.bases) one (omega (arith, least, most)))))
      (λ e. rw e refl)

  pub agrees_first : Agrees h m (first h.bases h.parameters h.slots)
  agrees_first = record {
    solution = solution;
    count = ap length solution ∙ length-rigid h.bases h.parameters h.slots;
    below = subst (All (VariablesBelow h.slots)) (sym solution) (all_rigid_below h.bases h.parameters h.slots);
    back_count = ap length bs ∙ length-append (own_variables h.slots) (own_variables h.parameters) ∙ ap (λ n. n + length (own_variables h.parameters)) (length-own h.slots) ∙ ap (λ n. h.slots + n) (length-own h.parameters);
    back = first_back_is;
    divisor = divisor;
    positive = subst (λ d. pos 0 <ℤ d) (sym divisor) (omega (arith, ints));
    parts_count = ap length parts ∙ length-replicate h.slots one;
    parts = λ j l. sym (ap (λ ps. get_or ps j one) parts ∙ get_or-replicate h.slots j one one l);
    narrow = subst (All IsNarrow) (sym parts) (All-replicate IsNarrow h.slots one (within-one 9223372036854775807));
  }

-- ---- after a step
abbrev pub after_step : Kept → ElimStep → Kept
after_step kept t = record {
  solution = map (replace (multiply t.variable t.by)) kept.solution;
  back = divided_inverse t.variable t.by kept.back;
  divisor = kept.divisor;
  parts = kept.parts;
}

-- what the step's variable goes back to
pub divided_is : (h : Head) (m : PartialCertificate) (kept : Kept) (t : ElimStep) → Agrees h m kept → t.variable < h.slots → VariablesBelow h.slots t.by →
    mul (kept.back (Var t.variable)) (inv (extension kept.back t.by)) ≡ divided_at h m.back.items t.variable t.by
divided_is h m kept t a low below =
    ap (λ u. mul u (inv (extension kept.back t.by))) (a.back (Var t.variable) (lt-ltb t.variable h.slots low))
    ∙ ap (λ u. mul (nth m.back.items t.variable) (inv u)) (back_is h m.back.items kept.back t.by a.back_count a.back below)

module _ (h : Head) (old new : PartialCertificate) (kept : Kept) (t : ElimStep) (a : Agrees h old kept) (low : t.variable < h.slots) (below : VariablesBelow h.slots t.by) (kept_after_steps : IsAfterStep h old new t.variable t.by) where
  inside : t.variable < length old.back.items
  inside = let n = a.back_count in omega (arith, n, low)

  after_step_back_is : (y : Atom) → IsTrue (atom_below h.slots y) → divided_inverse t.variable t.by kept.back y ≡ back_at h new.back.items y
  after_step_back_is (Base n) l = a.back (Base n) refl ∙ on_test (is_parameter h.bases h.parameters h.slots n)
      (λ e. rw e (sym (ap (λ bs. get_or bs (h.slots + (n - h.bases)) one) kept_after_steps.back
      ∙ get_or-set_other old.back.items t.variable (h.slots + (n - h.bases)) (divided_at h old.back.items t.variable t.by) one (λ q. omega (arith, low, q)))))
      (λ e. rw e refl)
  after_step_back_is (Var k) l =
      on_test (t.variable == k)
      (λ e. let q : t.variable ≡ k = eqb-true t.variable k e in
      rw e (ap (λ i. mul (kept.back (Var i)) (inv (extension kept.back t.by))) (sym q) ∙ divided_is h old kept t a low below
      ∙ sym (ap (λ bs. get_or bs k (atom (Var k))) kept_after_steps.back
      ∙ ap (λ i. get_or (set old.back.items t.variable (divided_at h old.back.items t.variable t.by)) i (atom (Var k))) (sym q)
      ∙ get_or-set_same old.back.items t.variable (divided_at h old.back.items t.variable t.by) (atom (Var k)) inside)))
      (λ e. rw e (a.back (Var k) l
      ∙ sym (ap (λ bs. get_or bs k (atom (Var k))) kept_after_steps.back
      ∙ get_or-set_other old.back.items t.variable k (divided_at h old.back.items t.variable t.by) (atom (Var k)) (λ q. eqb-false t.variable k e (sym q)))))

  pub agrees_after_step : Agrees h new (after_step kept t)
  agrees_after_step = record {
    solution = kept_after_steps.solution ∙ ap (map (replace (multiply t.variable t.by))) a.solution;
    count = ap length kept_after_steps.solution ∙ length-map old.solution.items (replace (multiply t.variable t.by)) ∙ a.count;
    below = subst (All (VariablesBelow h.slots)) (sym kept_after_steps.solution) (all_replaced h.slots (multiply t.variable t.by) (multiply_stays h.slots t.variable t.by below) old.solution.items a.below);
    back_count = ap length kept_after_steps.back ∙ length-set old.back.items t.variable (divided_at h old.back.items t.variable t.by) ∙ a.back_count;
    back = after_step_back_is;
    divisor = kept_after_steps.divisor ∙ a.divisor;
    positive = subst (λ d. pos 0 <ℤ d) (sym kept_after_steps.divisor) a.positive;
    parts_count = ap (λ v. length v.items) kept_after_steps.parts ∙ a.parts_count;
    parts = λ j l. a.parts j l ∙ ap (λ v. slice_index_or v.items j one) (sym kept_after_steps.parts);
    narrow = subst (λ v. All IsNarrow v.items) (sym kept_after_steps.parts) a.narrow;
  }

-- ---- after the end of a variable
abbrev pub after_end : Kept → ℕ → ℕ → PowerMap → Kept
after_end kept m p t = record {
  solution = map (replace (substitute m one)) kept.solution;
  back = kept.back;
  divisor = kept.divisor *ℤ pos p;
  parts = parts_after m p t kept.solution kept.parts;
}

pub ends_stay : (n m : ℕ) → Stays n (substitute m one)
ends_stay n m k l = on_test (m == k) (λ e. rw e (VariablesBelow-closed n one IsClosed-one)) (λ e. rw e (own_below n k l))

module _ (h : Head) (old new : PartialCertificate) (kept : Kept) (m p : ℕ) (t : PowerMap) (a : Agrees h old kept) (positive : 0 < p) (solution : new.solution.items ≡ map (replace (substitute m one)) old.solution.items) (back : new.back ≡ old.back)
    (divisor : new.divisor ≡ old.divisor *ℤ pos p) (parts : ArePartsAfter m p t old.solution.items old.parts.items new.parts.items) (narrow : All IsNarrow new.parts.items) where
  parts_are : (j : ℕ) → j < h.slots → parts_after m p t kept.solution kept.parts j ≡ slice_index_or new.parts.items j one
  parts_are j l =
      ap (λ u. mul (pow u (pos p)) (pow t (neg_ℤ (power_of (nth kept.solution j) (Var m))))) (a.parts j l)
      ∙ ap (λ us. mul (pow (slice_index_or old.parts.items j one) (pos p)) (pow t (neg_ℤ (power_of (nth us j) (Var m))))) (sym a.solution)
      ∙ sym (parts.parts j (let n = a.parts_count in omega (arith, n, l)))

  pub agrees_ended : Agrees h new (after_end kept m p t)
  agrees_ended = record {
    solution = solution ∙ ap (map (replace (substitute m one))) a.solution;
    count = ap length solution ∙ length-map old.solution.items (replace (substitute m one)) ∙ a.count;
    below = subst (All (VariablesBelow h.slots)) (sym solution) (all_replaced h.slots (substitute m one) (ends_stay h.slots m) old.solution.items a.below);
    back_count = ap (λ v. length v.items) back ∙ a.back_count;
    back = λ y l. a.back y l ∙ ap (λ v. back_at h v.items y) (sym back);
    divisor = divisor ∙ ap (λ d. d *ℤ pos p) a.divisor;
    positive = subst (λ d. pos 0 <ℤ d) (sym divisor) (positive_times old.divisor p a.positive positive);
    parts_count = parts.count ∙ a.parts_count;
    parts = parts_are;
    narrow = narrow;
  }
