-- The elimination of a unit follows its steps.
use Rattle.std.proofs.Common.{◌≡◌, ◌≢◌, inl, inr, ℕ, zero, suc, ◌<◌, ◌≤◌, true, false, cond, ◌&&◌, Option, Some, None, List, [], ◌∷◌, map, pos, nat_abs, refl, sym, ap, ◌∙◌, subst, arith}
use Rattle.std.specs.Prelude.{IsTrue}
use Rattle.std.specs.List.{list_all}
use Rattle.std.proofs.lemmas.List.Elements.{All-nil, All-cons}
use Rattle.um_units.specs.declared.Atom.{Atom}
use Rattle.um_units.specs.declared.Atom.TheVariants.{Base, Var}
use Rattle.um_units.specs.declared.Term.{Term}
use Rattle.um_units.specs.Terms.{indicator, power_in, is_zero, is_normal}
use Rattle.um_units.specs.Atoms.{same_atom}
use Rattle.um_units.specs.NormalForm.{head_nonzero, head_before_all}
use Rattle.um_units.specs.PowerMap.{PowerMap, power_of, one, replace, nth}
use Rattle.um_units.specs.Range.{fits}
use Rattle.um_units.proofs.Equality.{same_unit, power_in-head}
use Rattle.um_units.proofs.Group.{weight-one}
use Rattle.um_pivots.specs.declared.pivot.Pivot.{Pivot}
use Rattle.um_pivots.specs.Pivot.{pivot, size, least_power, has_other, has_base}
use Rattle.um_elim.specs.ElimStep.{substitute, step, inverted_if_negative, signed, is_negative, step_of}
use Rattle.um_elim.specs.Elimination.{Solved, NoSolution, Range, is_empty, ended, after_step, step_at, steps}
use Rattle.um_elim.proofs.PivotLaws.{is_pivot, no_pivot, some_base, no_other}
use Rattle.um_elim.proofs.SingleAtoms.{only_power}
use Rattle.um_elim.proofs.StepLaws.{IsRemainder, power_of-quotients_pivot, power_of-step_pivot, power_of-step_other, least_power-falls, positive_pivot, positive_size, signed_inverted}
use Rattle.um_elim.specs.declared.elim_step.ElimStep.{ElimStep}
use Rattle.um_elim.specs.EliminationSteps.{IsShear, unit_after, AreStepsOf, IsSolvedBySteps, IsRefusedBySteps}
use Rattle.um_elim.specs.Laws.{SolvedRowsFollowSteps, RefusedRowsFollowSteps}

empty_one : (r : PowerMap) → is_empty r.terms ≡ true → r ≡ one
empty_one r f = same_unit _ _ (λ x. ap (λ ts. power_in ts x) (no_terms r.terms f) ∙ sym (weight-one (indicator x)))
  where
    no_terms : (ts : List Term) → is_empty ts ≡ true → ts ≡ []
    no_terms [] f = refl
    no_terms (t ∷ ts) f = cc

-- what is treated after the first step is treated before it
before : (q : Pivot) (us : List PowerMap) (r : PowerMap) (vs : List PowerMap) → pivot r ≡ Some q →
    IsSolvedBySteps (map (replace (step q.variable (nat_abs q.power) (inverted_if_negative q.power r))) us) (replace (step q.variable (nat_abs q.power) (inverted_if_negative q.power r)) (inverted_if_negative q.power r)) vs → IsSolvedBySteps us r vs
before q us r vs e treated = record {
  steps = step_of q r ∷ treated.steps;
  are = ((q, e, refl), subst (λ u. AreStepsOf (replace (step q.variable (nat_abs q.power) (inverted_if_negative q.power r)) u) treated.steps) (sym (signed_inverted q.power r)) treated.are);
  shears = All-cons IsShear (step_of q r) treated.steps (power_of-quotients_pivot q.variable (nat_abs q.power) (inverted_if_negative q.power r)) treated.shears;
  ends = elim treated.ends [
    | inl h ↦ inl (record { left = same treated.steps ∙ h.left; units = h.units })
    | inr h ↦ inr (record { m = h.m; p = h.p; positive = h.positive; left = same treated.steps ∙ h.left; units = h.units })
  ];
}
  where
    same : (ts : List ElimStep) → unit_after ts (replace (step q.variable (nat_abs q.power) (inverted_if_negative q.power r)) (signed (is_negative q.power) r)) ≡ unit_after ts (replace (step q.variable (nat_abs q.power) (inverted_if_negative q.power r)) (inverted_if_negative q.power r))
    same ts = ap (λ u. unit_after ts (replace (step q.variable (nat_abs q.power) (inverted_if_negative q.power r)) u)) (signed_inverted q.power r)

ended_treated : (m p : ℕ) (us : List PowerMap) (r : PowerMap) (vs : List PowerMap) → 0 < p → power_of r (Var m) ≡ pos p → has_other m r ≡ false → ended m us r ≡ Solved vs → IsSolvedBySteps us r vs
ended_treated m p us r vs h e o is =
    elim (has_base r) as (λ b. has_base r ≡ b → cond b NoSolution (Solved (map (replace (substitute m one)) us)) ≡ Solved vs → IsSolvedBySteps us r vs) [
      | true ↦ λ f g. cc
      | false ↦ λ f g. let same : map (replace (substitute m one)) us ≡ vs = cc g in record {
        steps = [];
        are = tt;
        shears = All-nil IsShear;
        ends = inr (record { m = m; p = p; positive = h; left = only_power m p r e o f; units = sym same });
      }
    ] refl is

pub steps_treated : (n : ℕ) (us : List PowerMap) (r : PowerMap) (vs : List PowerMap) → steps n us r ≡ Solved vs → IsSolvedBySteps us r vs
steps_treated zero us r vs is = cc
steps_treated (suc n) us r vs is = at (λ ws u k. steps_treated n ws u vs k) (pivot r) refl is
  where
    at : ((ws : List PowerMap) (u : PowerMap) → steps n ws u ≡ Solved vs → IsSolvedBySteps ws u vs) → (o : Option Pivot) → pivot r ≡ o → step_at (steps n) us r o ≡ Solved vs → IsSolvedBySteps us r vs
    at rest None e g =
        elim (is_empty r.terms) as (λ b. is_empty r.terms ≡ b → cond b (Solved us) NoSolution ≡ Solved vs → IsSolvedBySteps us r vs) [
          | true ↦ λ f k. let same : us ≡ vs = cc k in record { steps = []; are = tt; shears = All-nil IsShear; ends = inl (record { left = empty_one r f; units = sym same }) }
          | false ↦ λ f k. cc
        ] refl g
    at rest (Some q) e g = before q us r vs e (after (map (replace (step q.variable (nat_abs q.power) (inverted_if_negative q.power r))) us) (replace (step q.variable (nat_abs q.power) (inverted_if_negative q.power r)) (inverted_if_negative q.power r)) power g)
      where
        power : power_of (replace (step q.variable (nat_abs q.power) (inverted_if_negative q.power r)) (inverted_if_negative q.power r)) (Var q.variable) ≡ pos (nat_abs q.power)
        power = power_of-step_pivot q.variable (nat_abs q.power) (inverted_if_negative q.power r) ∙ positive_pivot q.power q.variable r (is_pivot r q e).is

        after : (ws : List PowerMap) (u : PowerMap) → power_of u (Var q.variable) ≡ pos (nat_abs q.power) → after_step (steps n) q.variable ws u ≡ Solved vs → IsSolvedBySteps ws u vs
        after ws u p k =
            elim (fits u && list_all fits ws) as (λ b. cond b (cond (has_other q.variable u) (steps n ws u) (ended q.variable ws u)) Range ≡ Solved vs → IsSolvedBySteps ws u vs) [
              | false ↦ λ j. cc
              | true ↦ λ j. elim (has_other q.variable u) as (λ b. has_other q.variable u ≡ b → cond b (steps n ws u) (ended q.variable ws u) ≡ Solved vs → IsSolvedBySteps ws u vs) [
                | true ↦ λ f i. rest ws u i
                | false ↦ λ f i. ended_treated q.variable (nat_abs q.power) ws u vs (positive_size q.power (is_pivot r q e).nonzero) p f i
              ] refl j
            ] k

pub eliminate_treated : SolvedRowsFollowSteps
eliminate_treated us row vs is =
    elim (fits (replace (nth us) row)) as (λ b. cond b (steps (suc (least_power (replace (nth us) row))) us (replace (nth us) row)) Range ≡ Solved vs → IsSolvedBySteps us (replace (nth us) row) vs) [
      | true ↦ λ g. steps_treated (suc (least_power (replace (nth us) row))) us (replace (nth us) row) vs g
      | false ↦ λ g. cc
    ] is

-- ---- refusals
refused_before : (q : Pivot) (r : PowerMap) → pivot r ≡ Some q → IsRefusedBySteps (replace (step q.variable (nat_abs q.power) (inverted_if_negative q.power r)) (inverted_if_negative q.power r)) → IsRefusedBySteps r
refused_before q r e refused = record {
  steps = step_of q r ∷ refused.steps;
  are = ((q, e, refl), subst (λ u. AreStepsOf (replace (step q.variable (nat_abs q.power) (inverted_if_negative q.power r)) u) refused.steps) (sym (signed_inverted q.power r)) refused.are);
  shears = All-cons IsShear (step_of q r) refused.steps (power_of-quotients_pivot q.variable (nat_abs q.power) (inverted_if_negative q.power r)) refused.shears;
  ends = elim refused.ends [
    | inl h ↦ inl (record { closed = λ k. ap (λ u. power_of u (Var k)) (same refused.steps) ∙ h.closed k; n = h.n; nonzero = λ z. h.nonzero (sym (ap (λ u. power_of u (Base h.n)) (same refused.steps)) ∙ z) })
    | inr h ↦ inr (record {
      m = h.m;
      p = h.p;
      positive = h.positive;
      is = ap (λ u. power_of u (Var h.m)) (same refused.steps) ∙ h.is;
      alone = λ k f. ap (λ u. power_of u (Var k)) (same refused.steps) ∙ h.alone k f;
      n = h.n;
      e = h.e;
      e_positive = h.e_positive;
      below = h.below;
      base = ap (λ u. power_of u (Base h.n)) (same refused.steps) ∙ h.base;
    })
  ];
}
  where
    same : (ts : List ElimStep) → unit_after ts (replace (step q.variable (nat_abs q.power) (inverted_if_negative q.power r)) (signed (is_negative q.power) r)) ≡ unit_after ts (replace (step q.variable (nat_abs q.power) (inverted_if_negative q.power r)) (inverted_if_negative q.power r))
    same ts = ap (λ u. unit_after ts (replace (step q.variable (nat_abs q.power) (inverted_if_negative q.power r)) u)) (signed_inverted q.power r)

ended_refused : (m p : ℕ) (us : List PowerMap) (r : PowerMap) → 0 < p → power_of r (Var m) ≡ pos p → ((b : ℕ) → IsRemainder p (power_of r (Base b))) → has_other m r ≡ false → ended m us r ≡ NoSolution → IsRefusedBySteps r
ended_refused m p us r h e small o is =
    elim (has_base r) as (λ b. has_base r ≡ b → cond b NoSolution (Solved (map (replace (substitute m one)) us)) ≡ NoSolution → IsRefusedBySteps r) [
      | false ↦ λ f g. cc
      | true ↦ λ f g.
          let w = some_base r f in
          let c = small w.0 in
          record {
            steps = [];
            are = tt;
            shears = All-nil IsShear;
            ends = inr (record {
              m = m;
              p = p;
              positive = h;
              is = e;
              alone = λ k f. no_other m r o k f;
              n = w.0;
              e = c.0;
              e_positive = positive c.0 (λ z. w.1 (c.1 ∙ ap pos z));
              below = c.2;
              base = c.1;
            });
          }
    ] refl is
  where
    positive : (c : ℕ) → (c ≡ 0 → ⊥) → 0 < c
    positive c n = omega arith

closed_refused : (r : PowerMap) → pivot r ≡ None → is_empty r.terms ≡ false → IsRefusedBySteps r
closed_refused r e f = let w = held r.terms r.normal f (no_pivot r e) in
    record { steps = []; are = tt; shears = All-nil IsShear; ends = inl (record { closed = no_pivot r e; n = w.0; nonzero = w.1 }) }
  where
    held : (ts : List Term) → IsTrue (is_normal ts) → is_empty ts ≡ false → ((k : ℕ) → power_in ts (Var k) ≡ pos 0) → (n : ℕ) × (power_in ts (Base n) ≢ pos 0)
    held [] n f none = cc
    held (t ∷ ts) n f none = at t.atom refl
      where
        nonzero : (x : Atom) → t.atom ≡ x → power_in (t ∷ ts) x ≡ pos 0 → ⊥
        nonzero x q z = let y : is_zero t.power ≡ true = ap is_zero (sym (power_in-head t ts (head_before_all t ts n)) ∙ ap (power_in (t ∷ ts)) q ∙ z) in let g = head_nonzero t ts n in cc

        at : (x : Atom) → t.atom ≡ x → (n : ℕ) × (power_in (t ∷ ts) (Base n) ≢ pos 0)
        at (Base b) q = (b, nonzero (Base b) q)
        at (Var k) q = absurd (nonzero (Var k) q (none k))

pub steps_refused : (n : ℕ) (us : List PowerMap) (r : PowerMap) → least_power r < n → steps n us r ≡ NoSolution → IsRefusedBySteps r
steps_refused zero us r l is = absurd (omega (arith, l))
steps_refused (suc n) us r l is = at (λ ws u i k. steps_refused n ws u i k) (pivot r) refl (omega (arith, l)) is
  where
    at : ((ws : List PowerMap) (u : PowerMap) → least_power u < n → steps n ws u ≡ NoSolution → IsRefusedBySteps u) → (o : Option Pivot) → pivot r ≡ o → size o ≤ n → step_at (steps n) us r o ≡ NoSolution → IsRefusedBySteps r
    at rest None e i g =
        elim (is_empty r.terms) as (λ b. is_empty r.terms ≡ b → cond b (Solved us) NoSolution ≡ NoSolution → IsRefusedBySteps r) [
          | true ↦ λ f k. cc
          | false ↦ λ f k. closed_refused r e f
        ] refl g
    at rest (Some q) e i g = refused_before q r e (after (map (replace (step q.variable (nat_abs q.power) (inverted_if_negative q.power r))) us) (replace (step q.variable (nat_abs q.power) (inverted_if_negative q.power r)) (inverted_if_negative q.power r)) power (power_of-step_other q.variable (nat_abs q.power) (inverted_if_negative q.power r) (positive_size q.power (is_pivot r q e).nonzero) first) g)
      where
        first : power_of (inverted_if_negative q.power r) (Var q.variable) ≡ pos (nat_abs q.power)
        first = positive_pivot q.power q.variable r (is_pivot r q e).is

        power : power_of (replace (step q.variable (nat_abs q.power) (inverted_if_negative q.power r)) (inverted_if_negative q.power r)) (Var q.variable) ≡ pos (nat_abs q.power)
        power = power_of-step_pivot q.variable (nat_abs q.power) (inverted_if_negative q.power r) ∙ positive_pivot q.power q.variable r (is_pivot r q e).is

        after : (ws : List PowerMap) (u : PowerMap) → power_of u (Var q.variable) ≡ pos (nat_abs q.power) → ((y : Atom) → same_atom (Var q.variable) y ≡ false → IsRemainder (nat_abs q.power) (power_of u y)) → after_step (steps n) q.variable ws u ≡ NoSolution → IsRefusedBySteps u
        after ws u p small k =
            elim (fits u && list_all fits ws) as (λ b. cond b (cond (has_other q.variable u) (steps n ws u) (ended q.variable ws u)) Range ≡ NoSolution → IsRefusedBySteps u) [
              | false ↦ λ j. cc
              | true ↦ λ j. elim (has_other q.variable u) as (λ b. has_other q.variable u ≡ b → cond b (steps n ws u) (ended q.variable ws u) ≡ NoSolution → IsRefusedBySteps u) [
                | true ↦ λ f v. rest ws u (let w = least_power-falls q.variable (nat_abs q.power) u small f in omega (arith, w, i)) v
                | false ↦ λ f v. ended_refused q.variable (nat_abs q.power) ws u (positive_size q.power (is_pivot r q e).nonzero) p (λ b. small (Base b) refl) f v
              ] refl j
            ] k

pub eliminate_refused : RefusedRowsFollowSteps
eliminate_refused us row is =
    elim (fits (replace (nth us) row)) as (λ b. cond b (steps (suc (least_power (replace (nth us) row))) us (replace (nth us) row)) Range ≡ NoSolution → IsRefusedBySteps (replace (nth us) row)) [
      | true ↦ λ g. steps_refused (suc (least_power (replace (nth us) row))) us (replace (nth us) row) (omega arith) g
      | false ↦ λ g. cc
    ] is
