-- The numbers that a row's treatment carries where they pass what holds them.
use Rattle.std.proofs.Common.{◌≡◌, ◌⊎◌, inl, inr, ℕ, ◌+◌, ◌<◌, Bool, false, true, not, None, List, [], ◌∷◌, ◌++◌, map, length, pos, neg_ℤ, nat_abs, ◌*ℤ◌, refl, sym, ap, ◌∙◌, subst, arith}
use Rattle.std.specs.Prelude.{All, if◌then◌else◌, slice_index_or}
use Rattle.std.proofs.lemmas.List.{length-map}
use Rattle.um_units.specs.declared.Atom.{Atom}
use Rattle.um_units.specs.declared.Atom.TheVariants.{Base, Var}
use Rattle.um_units.specs.NormalForm.{same_atom_refl}
use Rattle.um_units.specs.PowerMap.{PowerMap, power_of, one, mul, inv, pow, replace, nth, extension}
use Rattle.um_units.specs.Variables.{VariablesBelow}
use Rattle.um_units.proofs.Replacement.{nth-map}
use Rattle.um_elim.specs.declared.elim_step.ElimStep.{ElimStep}
use Rattle.um_pivots.specs.Pivot.{has_base}
use Rattle.um_elim.specs.ElimStep.{substitute, multiply, signed, IsStepOf}
use Rattle.um_elim.proofs.Cases.{on_test}
use Rattle.um_wide.specs.Room.{IsNarrow}
use Rattle.um_elim.specs.EliminationSteps.{unit_after, units_after, AreStepsOf, IsStuck}
use Rattle.um_check.specs.Existence.{signed_by, inverse_after, divided_inverse, total, parts_after}
use Rattle.um_check.proofs.InverseSteps.{length-units_after}
use Rattle.um_kept.specs.declared.kept.PartialCertificate.{PartialCertificate}
use Rattle.um_kept.specs.declared.kept.Head.{Head}
use Rattle.um_kept.specs.declared.row.Refused.{Refused}
use Rattle.um_kept.specs.declared.stop.CertStop.{CertStop}
use Rattle.um_kept.specs.declared.stop.CertStop.TheVariants as stop
use Rattle.um_kept.specs.Kept.{Kept, row_unit, row_total, kept_after_steps, ended, LeavePower}
use Rattle.um_kept.specs.Formed.{IsPowerIn, IsModulus, IsNumberOfEnd, IsNumberOfRefusal, HasLeastBase}
use Rattle.um_kept.specs.Answers.{Agrees, CarriesPower, IsRefusedAs}
use Rattle.um_kept.specs.Steps.{ArePartsAfter, CarriesNumber, CarriesRefusal, CarriesOneOf, CarriesOneOfParts, CarriesInRow, CarriesInStep, IsRowUnderWay, IsAfterStep, IsRowTreated, IsLeftAlone, divided_at, parts_at}
use Rattle.um_kept.proofs.Parts.{total_alike}
use Rattle.um_kept.proofs.AfterSteps.{unit_after-push, units_after-push, inverse_after-push, steps-push, signed_by-inverted, is_inverted-push}
use Rattle.um_kept.proofs.StepEnds.{power_left, stuck_left, FirstBase, closed_left}
use Rattle.um_kept.proofs.WayBack.{divided_is, after_step, agrees_after_step, after_end, agrees_ended}

-- one of the units of a list
pub one_stops : (limit : ℕ) (f : PowerMap → PowerMap) (us : List PowerMap) (j : ℕ) (s : CertStop) → j < length us → CarriesPower limit (f (nth us j)) s → CarriesOneOf limit (map f us) s
one_stops limit f us j (stop.CertRange z) l c = (j, subst (λ n. j < n) (sym (length-map us f)) l, subst (IsPowerIn z) (sym (nth-map f us j l)) c.0, c.1)
one_stops limit f us j stop.NoMemory l c = tt

-- a slot's powers of rows
pub part_stops : (m p : ℕ) (t : PowerMap) (solution old : List PowerMap) (j : ℕ) (s : CertStop) → j < length old → CarriesPower 9223372036854775807 (parts_at m p t solution old j) s → CarriesOneOfParts m p t solution old s
part_stops m p t solution old j (stop.CertRange z) l c = (j, l, c.0, c.1)
part_stops m p t solution old j stop.NoMemory l c = tt

-- what a row becomes
pub row_stops : (rows us : List PowerMap) (row : PowerMap) (kept : Kept) (k : ℕ) (s : CertStop) → row ≡ nth rows k → us ≡ kept.solution → CarriesPower 2147483647 (replace (nth us) row) s → CarriesInRow rows kept k s
row_stops rows us row kept k (stop.CertRange z) e f c =
    inl (([], tt, inl (subst (IsPowerIn z) (ap (replace (nth us)) e ∙ ap (λ vs. replace (nth vs) (nth rows k)) f) c.0)), c.1)
row_stops rows us row kept k stop.NoMemory e f c = tt

-- ---- a step
abbrev back_is_after_step : ElimStep → Kept → PowerMap
back_is_after_step t kept = mul (kept.back (Var t.variable)) (inv (extension kept.back t.by))

own_divided : (t : ElimStep) (kept : Kept) → divided_inverse t.variable t.by kept.back (Var t.variable) ≡ back_is_after_step t kept
own_divided t kept = rw (same_atom_refl (Var t.variable)) refl

module _ (rows : List PowerMap) (kept : Kept) (k : ℕ) (h : Head) (m : PartialCertificate) (r : PowerMap) (inverted : Bool) (w : IsRowUnderWay rows kept k h m r inverted) where
  slot_inside : (j : ℕ) → j < length m.solution.items → j < length kept.solution
  slot_inside j l = let n = ap length w.agrees.solution ∙ length-units_after w.steps kept.solution in omega (arith, n, l)

  -- ---- a step
  module _ (t : ElimStep) (is : IsStepOf r t) where
    pub next_left : (left : PowerMap) → left ≡ replace (multiply t.variable t.by) (signed t.inverted r) → left ≡ unit_after (w.steps ++ t ∷ []) (row_unit rows kept k)
    next_left left e =
        e ∙ ap (λ u. replace (multiply t.variable t.by) (signed t.inverted u)) w.left ∙ sym (unit_after-push w.steps t (row_unit rows kept k))

    pub next_steps : AreStepsOf (row_unit rows kept k) (w.steps ++ t ∷ [])
    next_steps = steps-push w.steps t (row_unit rows kept k) w.are (subst (λ u. IsStepOf u t) w.left is)

    pub next_kept : after_step (kept_after_steps rows kept k w.steps) t ≡ kept_after_steps rows kept k (w.steps ++ t ∷ [])
    next_kept = λ i. record {
      solution = sym (units_after-push w.steps t kept.solution) i;
      back = sym (inverse_after-push w.steps t kept.back) i;
      divisor = kept.divisor;
      parts = kept.parts;
    }

    pub next_under_way : (new : PartialCertificate) (left : PowerMap) (flipped : Bool) → t.variable < h.slots → VariablesBelow h.slots t.by → left ≡ replace (multiply t.variable t.by) (signed t.inverted r) → IsAfterStep h m new t.variable t.by →
        flipped ≡ (if t.inverted then not inverted else inverted) → IsRowUnderWay rows kept k h new left flipped
    next_under_way new left flipped low below e made f = record {
      steps = w.steps ++ t ∷ [];
      are = next_steps;
      left = next_left left e;
      agrees = subst (Agrees h new) next_kept (agrees_after_step h m new (kept_after_steps rows kept k w.steps) t w.agrees low below made);
      sign = f ∙ ap (λ b. if t.inverted then not b else b) w.sign ∙ sym (is_inverted-push w.steps t);
    }

    pub step_stops : t.variable < h.slots → VariablesBelow h.slots t.by → (s : CertStop) → CarriesInStep h m.solution.items m.back.items r t.variable t.inverted t.by s → CarriesInRow rows kept k s
    step_stops low below (stop.CertRange z) c = inl ((w.steps ++ t ∷ [], next_steps, power c.1), c.0)
      where
        power : (IsPowerIn z (replace (multiply t.variable t.by) (signed t.inverted r))
            ⊎ ((j : ℕ) × (j < length m.solution.items) × IsPowerIn z (replace (multiply t.variable t.by) (nth m.solution.items j))) ⊎ IsPowerIn z (divided_at h m.back.items t.variable t.by)) →
            (IsPowerIn z (unit_after (w.steps ++ t ∷ []) (row_unit rows kept k))
            ⊎ ((j : ℕ) × (j < length kept.solution) × IsPowerIn z (nth (units_after (w.steps ++ t ∷ []) kept.solution) j))
            ⊎ ((v : ℕ) × IsPowerIn z (inverse_after (w.steps ++ t ∷ []) kept.back (Var v))))
        power (inl a) = inl (subst (IsPowerIn z) (next_left _ refl) a)
        power (inr (inl b)) =
            inr (inl (
              b.0,
              slot_inside b.0 b.1,
              subst (IsPowerIn z)
                  (sym (nth-map (replace (multiply t.variable t.by)) m.solution.items b.0 b.1)
                  ∙ ap (λ us. nth (map (replace (multiply t.variable t.by)) us) b.0) w.agrees.solution
                  ∙ ap (λ us. nth us b.0) (sym (units_after-push w.steps t kept.solution)))
                  b.2,
            ))
        power (inr (inr d)) =
            inr (inr (
              t.variable,
              subst (IsPowerIn z)
                  (sym (divided_is h m (kept_after_steps rows kept k w.steps) t w.agrees low below)
                  ∙ sym (own_divided t (kept_after_steps rows kept k w.steps))
                  ∙ ap (λ (back : Atom → PowerMap). back (Var t.variable)) (sym (inverse_after-push w.steps t kept.back)))
                  d,
            ))
    step_stops low below stop.NoMemory c = tt

  -- ---- the ends
  module _ (row : PowerMap) (is_row : row ≡ nth rows k) (below : VariablesBelow (length m.parts.items) row) where
    pub total_is_row : signed inverted (total (λ j. slice_index_or m.parts.items j one) row k m.divisor) ≡ row_total rows kept k w.steps
    total_is_row =
        ap (λ b. signed b (total (λ j. slice_index_or m.parts.items j one) row k m.divisor)) w.sign
        ∙ sym (signed_by-inverted w.steps (total (λ j. slice_index_or m.parts.items j one) row k m.divisor))
        ∙ ap (signed_by w.steps)
        (ap (λ u. total (λ j. slice_index_or m.parts.items j one) u k m.divisor) is_row
        ∙ ap (total (λ j. slice_index_or m.parts.items j one) (nth rows k) k) w.agrees.divisor
        ∙ total_alike (λ j. slice_index_or m.parts.items j one) kept.parts (nth rows k) k kept.divisor h.slots
        (subst (VariablesBelow h.slots) is_row (subst (λ n. VariablesBelow n row) w.agrees.parts_count below))
        (λ j l. sym (w.agrees.parts j l)))

    -- one variable is left
    module _ (v : ℕ) (alone : IsLeftAlone v r) where
      leaves : has_base r ≡ false → LeavePower rows kept k w.steps v alone.p
      leaves b = (alone.positive, power_left w.steps (row_unit rows kept k) v r w.left alone b)

      stuck : has_base r ≡ true → (s : IsStuck w.steps (row_unit rows kept k)) × (s.p ≡ alone.p)
      stuck b = stuck_left w.steps (row_unit rows kept k) v r w.left alone b

      power_total_stops : (s : CertStop) → CarriesPower 9223372036854775807 (row_total rows kept k w.steps) s → CarriesInRow rows kept k s
      power_total_stops (stop.CertRange z) c =
          inr (
            (
              w.steps,
              w.are,
              on_test (has_base r) {P = IsNumberOfEnd rows kept k w.steps z ⊎ IsNumberOfRefusal rows kept k w.steps z}
                  (λ b. let q = stuck b in inr (kept.divisor *ℤ pos q.0.p, inl (q.0, refl), inr c.0))
                  (λ b. inl (v, alone.p, leaves b, inl c.0)),
            ),
            c.1,
          )
      power_total_stops stop.NoMemory c = tt

      power_number_stops : (s : CertStop) → CarriesNumber (kept.divisor *ℤ pos alone.p) s → CarriesInRow rows kept k s
      power_number_stops (stop.CertRange z) c =
          inr (
            (
              w.steps,
              w.are,
              on_test (has_base r) {P = IsNumberOfEnd rows kept k w.steps z ⊎ IsNumberOfRefusal rows kept k w.steps z}
                  (λ b. let q = stuck b in inr (kept.divisor *ℤ pos q.0.p, inl (q.0, refl), inl (c.0 ∙ ap (λ n. kept.divisor *ℤ pos n) (sym q.1))))
                  (λ b. inl (v, alone.p, leaves b, inr (inr c.0))),
            ),
            c.1,
          )
      power_number_stops stop.NoMemory c = tt

      pub power_stops : (s : CertStop) → CarriesRefusal (row_total rows kept k w.steps) (kept.divisor *ℤ pos alone.p) s → CarriesInRow rows kept k s
      power_stops (stop.CertRange z) c = elim c.0 [ inl a ↦ power_total_stops (stop.CertRange z) (a, c.1) | inr b ↦ power_number_stops (stop.CertRange z) (b, c.1) ]
      power_stops stop.NoMemory c = tt

      pub end_stops : has_base r ≡ false → (t : PowerMap) → t ≡ row_total rows kept k w.steps → (s : CertStop) → CarriesOneOfParts v alone.p t m.solution.items m.parts.items s → CarriesInRow rows kept k s
      end_stops b t e (stop.CertRange z) c =
          let j = c.0 in
          let l = c.1 in
          let slot : j < h.slots = (let n = w.agrees.parts_count in omega (arith, n, l)) in
          let here : j < length m.solution.items = (let n = w.agrees.count in omega (arith, n, slot)) in
          inr (
            (
              w.steps,
              w.are,
              inl (
                v,
                alone.p,
                leaves b,
                inr (inl (
                  j,
                  slot_inside j here,
                  subst (IsPowerIn z)
                      (ap (λ u. mul (pow u (pos alone.p)) (pow t (neg_ℤ (power_of (nth m.solution.items j) (Var v))))) (sym (w.agrees.parts j slot))
                      ∙ ap (λ us. mul (pow (kept.parts j) (pos alone.p)) (pow t (neg_ℤ (power_of (nth us j) (Var v))))) w.agrees.solution
                      ∙ ap (λ u. parts_after v alone.p u (units_after w.steps kept.solution) kept.parts j) e)
                      c.2,
                )),
              ),
            ),
            c.3,
          )
      end_stops b t e stop.NoMemory c = tt

      pub power_refused : has_base r ≡ true → (refused : Refused) → refused.total ≡ row_total rows kept k w.steps → refused.modulus ≡ kept.divisor *ℤ pos alone.p → IsNarrow refused.total → IsRefusedAs rows kept k refused
      power_refused b refused e f narrow =
          let q = stuck b in
          record {
            steps = w.steps;
            are = w.are;
            modulus = inl (q.0, f ∙ ap (λ n. kept.divisor *ℤ pos n) (sym q.1));
            total = e;
            ends = inr q.0;
            narrow = narrow;
          }

      pub power_made : has_base r ≡ false → (new : PartialCertificate) (t : PowerMap) → t ≡ row_total rows kept k w.steps → new.solution.items ≡ map (replace (substitute v one)) m.solution.items → new.back ≡ m.back →
          new.divisor ≡ m.divisor *ℤ pos alone.p → ArePartsAfter v alone.p t m.solution.items m.parts.items new.parts.items → All IsNarrow new.parts.items → IsRowTreated rows kept k h new None
      power_made b new t e solution back divisor parts narrow = (
        ended rows kept k w.steps v alone.p,
        (w.steps, w.are, inr (v, alone.p, leaves b, refl)),
        subst (λ u. Agrees h new (after_end (kept_after_steps rows kept k w.steps) v alone.p u)) e
            (agrees_ended h m new (kept_after_steps rows kept k w.steps) v alone.p t w.agrees alone.positive solution back divisor parts narrow),
      )

    -- none is left
    module _ (size : ℕ) (base : FirstBase r size) where
      closed_modulus : IsModulus rows kept k w.steps (kept.divisor *ℤ pos (size + 1))
      closed_modulus =
          inr (
            base.n,
            subst (λ u. HasLeastBase u base.n) w.left base.least,
            ap (λ n. kept.divisor *ℤ pos (n + 1)) (sym base.size_is ∙ ap (λ u. nat_abs (power_of u (Base base.n))) w.left),
          )

      closed_total_stops : (s : CertStop) → CarriesPower 9223372036854775807 (row_total rows kept k w.steps) s → CarriesInRow rows kept k s
      closed_total_stops (stop.CertRange z) c = inr ((w.steps, w.are, inr (kept.divisor *ℤ pos (size + 1), closed_modulus, inr c.0)), c.1)
      closed_total_stops stop.NoMemory c = tt

      closed_number_stops : (s : CertStop) → CarriesNumber (kept.divisor *ℤ pos (size + 1)) s → CarriesInRow rows kept k s
      closed_number_stops (stop.CertRange z) c = inr ((w.steps, w.are, inr (kept.divisor *ℤ pos (size + 1), closed_modulus, inl c.0)), c.1)
      closed_number_stops stop.NoMemory c = tt

      pub closed_stops : (s : CertStop) → CarriesRefusal (row_total rows kept k w.steps) (kept.divisor *ℤ pos (size + 1)) s → CarriesInRow rows kept k s
      closed_stops (stop.CertRange z) c = elim c.0 [ inl a ↦ closed_total_stops (stop.CertRange z) (a, c.1) | inr b ↦ closed_number_stops (stop.CertRange z) (b, c.1) ]
      closed_stops stop.NoMemory c = tt

      pub closed_refused : (refused : Refused) → refused.total ≡ row_total rows kept k w.steps → refused.modulus ≡ kept.divisor *ℤ pos (size + 1) → IsNarrow refused.total → IsRefusedAs rows kept k refused
      closed_refused refused e f narrow = record {
        steps = w.steps;
        are = w.are;
        modulus = subst (IsModulus rows kept k w.steps) (sym f) closed_modulus;
        total = e;
        ends = inl (closed_left w.steps (row_unit rows kept k) r base.n w.left base.least);
        narrow = narrow;
      }

  pub closed_made : r ≡ one → IsRowTreated rows kept k h m None
  closed_made e = (kept_after_steps rows kept k w.steps, (w.steps, w.are, inl (sym w.left ∙ e, refl)), w.agrees)

-- ---- at the start of a row
pub before_steps : (rows : List PowerMap) (kept : Kept) (k : ℕ) (h : Head) (m : PartialCertificate) (row r : PowerMap) → row ≡ nth rows k → r ≡ replace (nth m.solution.items) row → Agrees h m kept → IsRowUnderWay rows kept k h m r false
before_steps rows kept k h m row r e f a = record {
  steps = [];
  are = tt;
  left = f ∙ ap (replace (nth m.solution.items)) e ∙ ap (λ us. replace (nth us) (nth rows k)) a.solution;
  agrees = a;
  sign = refl;
}
