-- What is kept after some rows is a way back from the solution, but for products of these rows.
use Rattle.std.proofs.Common.{◌≡◌, ◌≢◌, inl, inr, ℕ, zero, suc, ◌+◌, ◌-◌, ◌<◌, ◌≤◌, Bool, true, false, List, [], ◌∷◌, map, length, ℤ, pos, negsuc, neg_ℤ, ◌+ℤ◌, ◌*ℤ◌, refl, sym, ap, ◌∙◌, subst, arith}
use Rattle.std.specs.Prelude.{All, nat_lt, if◌then◌else◌}
use Rattle.std.specs.Int.Signed.{◌<ℤ◌}
use Rattle.std.proofs.lemmas.Bool.{cases_lt, and_from, le-leb, lt-ltb, ltb-true, ne_eqb}
use Rattle.std.proofs.lemmas.Int.{ints}
use Rattle.std.proofs.lemmas.List.{length-map}
use Rattle.std.proofs.lemmas.List.Elements.{All-get_or}
use Rattle.std.proofs.lemmas.List.FromFn.{get_or-map-range_with_len}
use Rattle.std.proofs.Math.IntN.{*ℤ-zero}
use Rattle.um_units.specs.declared.Atom.{Atom}
use Rattle.um_units.specs.declared.Atom.TheVariants.{Base, Var}
use Rattle.um_units.specs.declared.Term.{Term}
use Rattle.um_units.specs.Terms.{indicator, weigh}
use Rattle.um_units.specs.PowerMap.{PowerMap, power_of, one, atom, mul, inv, pow, replace, nth, extension}
use Rattle.um_units.specs.Variables.{VariablesBelow}
use Rattle.um_units.proofs.Integers.{zero_cases}
use Rattle.um_units.proofs.Weights.{weigh_alike}
use Rattle.um_units.proofs.Group.{power_of-one, power_of-other_atom, power_of-mul, power_of-pow, mul-inv, one-pow}
use Rattle.um_units.proofs.Replacement.{nth-map, replace-base, replace-one, extension-atom}
use Rattle.um_units.proofs.Variables.{VariablesBelow-replace_nth}
use Rattle.um_elim.specs.declared.elim_step.ElimStep.{ElimStep}
use Rattle.um_elim.specs.ElimStep.{substitute, multiply, signed}
use Rattle.um_elim.specs.Solution.{rigid_unit, rigid_units}
use Rattle.um_elim.proofs.Cases.{on_test}
use Rattle.um_elim.proofs.Slots.{length-rigid}
use Rattle.um_elim.proofs.VariablesKept.{all_rigid_below}
use Rattle.um_rows.specs.Generalised.{is_parameter}
use Rattle.um_elim.specs.EliminationSteps.{units_after, AreStepsOf}
use Rattle.um_check.specs.Existence.{signed_by, at_slot, total, parts_after, IsInverse}
use Rattle.um_check.proofs.Extensions.{weight-extension}
use Rattle.um_check.proofs.InverseSteps.{length-units_after, inverse_after-base, kept_after, kept_row}
use Rattle.um_kept.specs.Kept.{Kept, row_unit, row_total, kept_after_steps, ended, LeavePower, IsRowMade, IsReached, first, first_back}
use Rattle.um_kept.specs.Answers.{HoldsNoParameter}
use Rattle.um_kept.proofs.AfterSteps.{steps_are_shears, all_replaced, all_after_step_below}
use Rattle.um_kept.proofs.WayBack.{parameter_range, positive_times, ends_stay}

pub record ReachedState (bases parameters slots : ℕ) (rows : List PowerMap) (k : ℕ) (state : Kept) : Type 0 where
  pub kept : IsInverse rows state.solution state.back state.divisor state.parts
  pub count : length state.solution ≡ slots
  pub below : All (VariablesBelow slots) state.solution
  pub rigid : (i : ℕ) → i < parameters → nth state.solution i ≡ atom (Base (bases + i))
  pub base : (n : ℕ) → state.back (Base n) ≡ first_back bases parameters (Base n)
  pub positive : pos 0 <ℤ state.divisor
  pub parts_below : (j : ℕ) → VariablesBelow k (state.parts j)
  pub parts_closed : (j n : ℕ) → power_of (state.parts j) (Base n) ≡ pos 0

-- ---- the base units of a row come back as themselves
pub back_leaves : (bases parameters : ℕ) (row : PowerMap) → HoldsNoParameter bases parameters row → (n : ℕ) → power_of row (Base n) ≢ pos 0 → first_back bases parameters (Base n) ≡ atom (Base n)
back_leaves bases parameters row none n held =
    on_test (is_parameter bases parameters 0 n)
    (λ e. let r = parameter_range bases parameters n e in
    let least = r.0 in
    let most = r.1 in
    let same : bases + (n - bases) ≡ n = omega (arith, least) in
    absurd (held (ap (λ i. power_of row (Base i)) (sym same) ∙ none (n - bases) (omega (arith, least, most)))))
    (λ e. rw e refl)

-- ---- what doesn't stand in units doesn't in what is made of them
weigh-zero : (ts : List Term) → weigh (λ _. pos 0) ts ≡ pos 0
weigh-zero [] = refl
weigh-zero (t ∷ ts) = ap (λ z. t.power *ℤ pos 0 +ℤ z) (weigh-zero ts) ∙ ap (λ z. z +ℤ pos 0) (*ℤ-zero t.power)

absent-mul : (u v : PowerMap) (x : Atom) → power_of u x ≡ pos 0 → power_of v x ≡ pos 0 → power_of (mul u v) x ≡ pos 0
absent-mul u v x e f = power_of-mul u v x ∙ ap (λ z. z +ℤ power_of v x) e ∙ ap (λ z. pos 0 +ℤ z) f

absent-pow : (u : PowerMap) (n : ℤ) (x : Atom) → power_of u x ≡ pos 0 → power_of (pow u n) x ≡ pos 0
absent-pow u n x e = power_of-pow u n x ∙ ap (λ z. n *ℤ z) e ∙ *ℤ-zero n

absent-signed_by : (ts : List ElimStep) (u : PowerMap) (x : Atom) → power_of u x ≡ pos 0 → power_of (signed_by ts u) x ≡ pos 0
absent-signed_by [] u x e = e
absent-signed_by (t ∷ ts) u x e = absent-signed_by ts (signed t.inverted u) x (at t.inverted)
  where
    at : (b : Bool) → power_of (signed b u) x ≡ pos 0
    at true = absent-pow u (negsuc 0) x e
    at false = e

absent-extension : (f : Atom → PowerMap) (u : PowerMap) (x : Atom) → ((y : Atom) → power_of (f y) x ≡ pos 0) → power_of (extension f u) x ≡ pos 0
absent-extension f u x none = weight-extension (indicator x) f u ∙ weigh_alike (λ y. power_of (f y) x) (λ _. pos 0) none u.terms ∙ weigh-zero u.terms

-- the atom is a base unit or the variable of a row from k on
abbrev IsBehind : ℕ → Atom → Type 0
IsBehind k (Base n) = Unit {0}
IsBehind k (Var j) = k ≤ j

other_atom : (k : ℕ) (x : Atom) → IsBehind (suc k) x → power_of (atom (Var k)) x ≡ pos 0
other_atom k (Base n) h = power_of-other_atom (Base n) (Var k) refl
other_atom k (Var j) h = power_of-other_atom (Var j) (Var k) (ne_eqb j k (λ e. omega (arith, e, h)))

further : (k : ℕ) (x : Atom) → IsBehind (suc k) x → IsBehind k x
further k (Base n) h = tt
further k (Var j) h = omega (arith, h)

-- of the rows before row k alone
abbrev IsOfRows : ℕ → (ℕ → PowerMap) → Type 0
IsOfRows k parts = (j : ℕ) (x : Atom) → IsBehind k x → power_of (parts j) x ≡ pos 0

pub absent-total : (rows : List PowerMap) (kept : Kept) (k : ℕ) (ts : List ElimStep) → IsOfRows k kept.parts → (x : Atom) → IsBehind (suc k) x → power_of (row_total rows kept k ts) x ≡ pos 0
absent-total rows kept k ts none x h =
    absent-signed_by ts (total kept.parts (nth rows k) k kept.divisor) x
    (absent-mul (extension (at_slot kept.parts) (nth rows k)) (pow (atom (Var k)) kept.divisor) x (absent-extension (at_slot kept.parts) (nth rows k) x at) (absent-pow (atom (Var k)) kept.divisor x (other_atom k x h)))
  where
    at : (y : Atom) → power_of (at_slot kept.parts y) x ≡ pos 0
    at (Base n) = power_of-one x
    at (Var j) = none j x (further k x h)

below_rows : (k : ℕ) (u : PowerMap) → ((x : Atom) → IsBehind k x → power_of u x ≡ pos 0) → VariablesBelow k u
below_rows k u none j held = elim (cases_lt j k) [ inl l ↦ l | inr l ↦ absurd (held (none (Var j) l)) ]

-- the powers of rows are of rows before row k, as a state says and back
of_rows : (k : ℕ) (parts : ℕ → PowerMap) → ((j : ℕ) → VariablesBelow k (parts j)) → ((j n : ℕ) → power_of (parts j) (Base n) ≡ pos 0) → IsOfRows k parts
of_rows k parts below closed j (Base n) h = closed j n
of_rows k parts below closed j (Var i) h = elim (zero_cases (power_of (parts j) (Var i))) [ inl e ↦ e | inr held ↦ absurd (let l = below j i held in omega (arith, l, h)) ]

pub total_of_rows : (bases parameters slots : ℕ) (rows : List PowerMap) (k : ℕ) (kept : Kept) (ts : List ElimStep) → ReachedState bases parameters slots rows k kept → VariablesBelow (suc k) (row_total rows kept k ts) × ((n : ℕ) → power_of (row_total rows kept k ts) (Base n) ≡ pos 0)
total_of_rows bases parameters slots rows k kept ts s =
    let none = of_rows k kept.parts s.parts_below s.parts_closed in
    (below_rows (suc k) (row_total rows kept k ts) (absent-total rows kept k ts none), (λ n. absent-total rows kept k ts none (Base n) tt))

-- ---- before any row
module _ (bases parameters slots : ℕ) where
  starts : Kept
  starts = first bases parameters slots

  rigid_at : (j : ℕ) → j < slots → nth (rigid_units bases parameters slots) j ≡ rigid_unit bases parameters j
  rigid_at j l = get_or-map-range_with_len (rigid_unit bases parameters) 0 slots j j (atom (Var j)) l (omega arith)

  comes_back_first : (j : ℕ) → extension (first_back bases parameters) (rigid_unit bases parameters j) ≡ atom (Var j)
  comes_back_first j =
      on_test (nat_lt j parameters)
      (λ e. ap (λ b. extension (first_back bases parameters) (if b then atom (Base (bases + j)) else atom (Var j))) e
      ∙ extension-atom (first_back bases parameters) (Base (bases + j))
      ∙ ap (λ b. if b then atom (Var (bases + j - bases)) else atom (Base (bases + j))) (and_from _ _ (le-leb bases (bases + j) (omega arith)) (lt-ltb (bases + j) (bases + parameters) (let l = ltb-true j parameters e in omega (arith, l))))
      ∙ ap (λ i. atom (Var i)) (omega arith))
      (λ e. ap (λ b. extension (first_back bases parameters) (if b then atom (Base (bases + j)) else atom (Var j))) e ∙ extension-atom (first_back bases parameters) (Var j))

  first_state : (rows : List PowerMap) → parameters ≤ slots → ReachedState bases parameters slots rows 0 (first bases parameters slots)
  first_state rows few = record {
    kept = record {
      by_rows = λ j l.
          ap (λ u. pow (mul (extension (first_back bases parameters) u) (inv (atom (Var j)))) (pos 1)) (rigid_at j (let n = length-rigid bases parameters slots in omega (arith, n, l)))
          ∙ ap (λ u. pow (mul u (inv (atom (Var j)))) (pos 1)) (comes_back_first j)
          ∙ ap (λ u. pow u (pos 1)) (mul-inv (atom (Var j))) ∙ one-pow (pos 1) ∙ sym (replace-one (nth rows));
    };
    count = length-rigid bases parameters slots;
    below = all_rigid_below bases parameters slots;
    rigid = λ i l. rigid_at i (omega (arith, l, few)) ∙ ap (λ b. if b then atom (Base (bases + i)) else atom (Var i)) (lt-ltb i parameters l);
    base = λ n. refl;
    positive = omega (arith, ints);
    parts_below = λ j i held. absurd (held (power_of-one (Var i)));
    parts_closed = λ j n. power_of-one (Base n);
  }

-- ---- a row
-- closed units stay as they are
rigid_stays : (s : ℕ → PowerMap) (us : List PowerMap) (i b : ℕ) → i < length us → nth us i ≡ atom (Base b) → nth (map (replace s) us) i ≡ atom (Base b)
rigid_stays s us i b l e = nth-map (replace s) us i l ∙ ap (replace s) e ∙ replace-base s b

rigid_after : (ts : List ElimStep) (us : List PowerMap) (i b : ℕ) → i < length us → nth us i ≡ atom (Base b) → nth (units_after ts us) i ≡ atom (Base b)
rigid_after [] us i b l e = e
rigid_after (t ∷ ts) us i b l e =
    rigid_after ts (map (replace (multiply t.variable t.by)) us) i b (subst (λ n. i < n) (sym (length-map us (replace (multiply t.variable t.by)))) l) (rigid_stays (multiply t.variable t.by) us i b l e)

module _ (bases parameters slots : ℕ) (rows : List PowerMap) (few : parameters ≤ slots) (low : All (VariablesBelow slots) rows) (none : All (HoldsNoParameter bases parameters) rows) where
  module _ (k : ℕ) (kept : Kept) (inside : k < length rows) (s : ReachedState bases parameters slots rows k kept) where
    row_low : VariablesBelow slots (nth rows k)
    row_low = All-get_or (VariablesBelow slots) rows k (atom (Var k)) inside low

    pub row_within : VariablesBelow (length kept.solution) (nth rows k)
    row_within = subst (λ n. VariablesBelow n (nth rows k)) (sym s.count) row_low

    pub row_bases : (n : ℕ) → power_of (nth rows k) (Base n) ≢ pos 0 → kept.back (Base n) ≡ atom (Base n)
    row_bases n held = s.base n ∙ back_leaves bases parameters (nth rows k) (All-get_or (HoldsNoParameter bases parameters) rows k (atom (Var k)) inside none) n held

    unit_low : VariablesBelow slots (row_unit rows kept k)
    unit_low = VariablesBelow-replace_nth slots kept.solution (nth rows k) s.below row_within

    old_rows : IsOfRows k kept.parts
    old_rows = of_rows k kept.parts s.parts_below s.parts_closed

    in_solution : (i : ℕ) → i < parameters → i < length kept.solution
    in_solution i l = let n = s.count in omega (arith, n, l, few)

    module _ (ts : List ElimStep) (are : AreStepsOf (row_unit rows kept k) ts) where
      after_step_state : ReachedState bases parameters slots rows (suc k) (kept_after_steps rows kept k ts)
      after_step_state = record {
        kept = kept_after rows kept.solution kept.back kept.divisor kept.parts ts (steps_are_shears ts (row_unit rows kept k) are) s.kept;
        count = length-units_after ts kept.solution ∙ s.count;
        below = all_after_step_below slots ts (row_unit rows kept k) kept.solution unit_low are s.below;
        rigid = λ i l. rigid_after ts kept.solution i (bases + i) (in_solution i l) (s.rigid i l);
        base = λ n. inverse_after-base ts kept.back n ∙ s.base n;
        positive = s.positive;
        parts_below = λ j i held. (let l = s.parts_below j i held in omega (arith, l));
        parts_closed = s.parts_closed;
      }

      module _ (m p : ℕ) (leave : LeavePower rows kept k ts m p) where
        new_rows : IsOfRows (suc k) (parts_after m p (row_total rows kept k ts) (units_after ts kept.solution) kept.parts)
        new_rows j x h =
            absent-mul (pow (kept.parts j) (pos p)) (pow (row_total rows kept k ts) (neg_ℤ (power_of (nth (units_after ts kept.solution) j) (Var m)))) x
            (absent-pow (kept.parts j) (pos p) x (old_rows j x (further k x h)))
            (absent-pow (row_total rows kept k ts) (neg_ℤ (power_of (nth (units_after ts kept.solution) j) (Var m))) x (absent-total rows kept k ts old_rows x h))

        ended_state : ReachedState bases parameters slots rows (suc k) (ended rows kept k ts m p)
        ended_state = record {
          kept = kept_row rows kept.solution kept.back kept.divisor kept.parts k m p ts s.kept row_within row_bases (steps_are_shears ts (row_unit rows kept k) are) leave.1;
          count = length-map (units_after ts kept.solution) (replace (substitute m one)) ∙ after_step_state.count;
          below = all_replaced slots (substitute m one) (ends_stay slots m) (units_after ts kept.solution) after_step_state.below;
          rigid = λ i l. rigid_stays (substitute m one) (units_after ts kept.solution) i (bases + i) (let n = after_step_state.count in omega (arith, n, l, few)) (after_step_state.rigid i l);
          base = after_step_state.base;
          positive = positive_times kept.divisor p s.positive leave.0;
          parts_below = λ j. below_rows (suc k) (parts_after m p (row_total rows kept k ts) (units_after ts kept.solution) kept.parts j) (new_rows j);
          parts_closed = λ j n. new_rows j (Base n) tt;
        }

    row_state : (next : Kept) → IsRowMade rows kept k next → ReachedState bases parameters slots rows (suc k) next
    row_state next made =
        elim made.2 [
          | inl h ↦ subst (ReachedState bases parameters slots rows (suc k)) (sym h.1) (after_step_state made.0 made.1)
          | inr h ↦ subst (ReachedState bases parameters slots rows (suc k)) (sym h.3) (ended_state made.0 made.1 h.0 h.1 h.2)
        ]

pub reached_state : (bases parameters slots : ℕ) (rows : List PowerMap) → parameters ≤ slots → All (VariablesBelow slots) rows → All (HoldsNoParameter bases parameters) rows →
    (k : ℕ) (kept : Kept) → k ≤ length rows → IsReached rows (first bases parameters slots) k kept → ReachedState bases parameters slots rows k kept
reached_state bases parameters slots rows few low none zero kept le h = subst (ReachedState bases parameters slots rows 0) (sym h) (first_state bases parameters slots rows few)
reached_state bases parameters slots rows few low none (suc k) kept le h =
    row_state bases parameters slots rows few low none k h.0 (omega (arith, le)) (reached_state bases parameters slots rows few low none k h.0 (omega (arith, le)) h.1) kept h.2
