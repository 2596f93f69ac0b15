-- Rows that are judged to be refused have a valid and tidy certificate of it, unless a number passes.
use Rattle.std.proofs.Common.{◌≡◌, ◌≢◌, ◌⊎◌, inl, inr, ℕ, zero, suc, ◌+◌, ◌<◌, true, false, List, length, ℤ, pos, ◌*ℤ◌, nat_abs, Result, Ok, Err, refl, ap, ◌∙◌, subst, arith}
use Rattle.std.specs.Prelude.{All, IfOk}
use Rattle.std.proofs.lemmas.Bool.{cases_lt}
use Rattle.std.proofs.lemmas.List.{length-map}
use Rattle.um_units.specs.declared.Atom.TheVariants.{Base}
use Rattle.um_units.specs.PowerMap.{PowerMap, power_of}
use Rattle.um_units.specs.Variables.{VariablesBelow}
use Rattle.um_units.proofs.Integers.{zero_cases}
use Rattle.um_elim.specs.declared.elim_step.ElimStep.{ElimStep}
use Rattle.um_elim.specs.EliminationSteps.{unit_after, IsClosedLeft, IsStuck}
use Rattle.um_elim.specs.Solution.{own_variables, rigid_units}
use Rattle.um_elim.proofs.Slots.{rigid-own}
use Rattle.um_equal_types.specs.declared.row.Rows.{Rows}
use Rattle.um_equal_types.specs.declared.row.Row.{Row}
use Rattle.um_equal_types.specs.Steps.{units_of}
use Rattle.um_rows.specs.Answers.{rows_signature}
use Rattle.um_rows.specs.FirstUnsolvable.{solved, unsolved, solve, rows_up_to}
use Rattle.um_rows.specs.Judgement.{Judgement}
use Rattle.um_check.specs.declared.certificate.No.{No}
use Rattle.um_check.specs.Tidy.{IsTidyNo}
use Rattle.um_kept.specs.declared.kept.Head.{Head}
use Rattle.um_kept.specs.declared.row.Refused.{Refused}
use Rattle.um_kept.specs.declared.stop.CertStop.{CertStop}
use Rattle.um_kept.specs.declared.stop.CertStop.TheVariants as stop
use Rattle.um_kept.specs.Kept.{Kept, row_unit, row_total, first}
use Rattle.um_kept.specs.Formed.{HasLeastBase, IsModulus, IsNumber, PassesInRow}
use Rattle.um_kept.specs.Answers.{IsRefusedAs, AreRefused}
use Rattle.um_proof.specs.Answers.{AreFunctionRows, judged, IsRefused, IsNoMade}
use Rattle.um_proof.proofs.Judged.{judged_refused, front_inside, front_unsolved, rows_low}
use Rattle.um_proof.proofs.ValidNo.{refuted, general_no, loose_refuted, loose_valid, loose_answers}
use Rattle.um_all_answers.proofs.Narrow.{IsPast, narrow_or_past}
use Rattle.um_all_answers.proofs.Rows.{IsRefusedAfter, Passes, Ends, rows_end}
use Rattle.um_all_answers.proofs.Certificates.{parts_of, exponents_are, parts_named, parts_tidy}

-- ---- the least base unit of a unit without variables

module _ (u : PowerMap) where
  -- none stands in it below m
  abbrev NoneBelow : ℕ → Type 0
  NoneBelow m = (k : ℕ) → k < m → power_of u (Base k) ≡ pos 0

  record HasFirst : Type 0 where
    index : ℕ
    held : power_of u (Base index) ≢ pos 0
    none : NoneBelow index

  one_more : (m : ℕ) → NoneBelow m → power_of u (Base m) ≡ pos 0 → NoneBelow (suc m)
  one_more m none zero_power k less =
      elim (cases_lt k m) [
        | inl l ↦ none k l
        | inr l ↦ let same : m ≡ k = omega (arith, less, l) in subst (λ i. power_of u (Base i) ≡ pos 0) same zero_power
      ]

  first_below : (m : ℕ) → HasFirst ⊎ NoneBelow m
  first_below zero = inr (λ k less. absurd (omega (arith, less)))
  first_below (suc m) =
      elim (first_below m) [
        | inl found ↦ inl found
        | inr none ↦
            elim (zero_cases (power_of u (Base m))) [
              | inl zero_power ↦ inr (one_more m none zero_power)
              | inr held ↦ inl (record { index = m; held = held; none = none })
            ]
      ]

  first_base : (n : ℕ) → power_of u (Base n) ≢ pos 0 → HasFirst
  first_base n held =
      elim (first_below (suc n)) [
        | inl found ↦ found
        | inr none ↦ absurd (held (none n (omega arith)))
      ]

-- ---- what refuses a row

module _ (rows : List PowerMap) (start : Kept) (k : ℕ) (h : IsRefusedAfter rows start k) where
  abbrev kept : Kept
  kept = h.kept

  abbrev ts : List ElimStep
  ts = h.refused.steps

  abbrev r : PowerMap
  r = row_unit rows kept k

  record HasModulus : Type 0 where
    modulus : ℤ
    is : IsModulus rows kept k ts modulus

  of_closed : IsClosedLeft ts r → HasModulus
  of_closed left =
      let u = unit_after ts r in
      let found = first_base u left.n left.nonzero in
      let least : HasLeastBase u found.index = record { closed = left.closed; held = found.held; least = found.none } in
      record { modulus = kept.divisor *ℤ pos (nat_abs (power_of u (Base found.index)) + 1); is = inr (found.index, least, refl) }

  of_stuck : IsStuck ts r → HasModulus
  of_stuck stuck = record { modulus = kept.divisor *ℤ pos stuck.p; is = inl (stuck, refl) }

  has_modulus : HasModulus
  has_modulus =
      elim h.refused.ends [
        | inl left ↦ of_closed left
        | inr stuck ↦ of_stuck stuck
      ]

  -- it is refused so, or a number passes
  pub record IsKnown : Type 0 where
    pub refused : Refused
    pub is : IsRefusedAs rows kept k refused

  passes : IsPast (row_total rows kept k ts) → Passes rows start
  passes w =
      let m = has_modulus in
      let number : IsNumber rows kept k w.number = (ts, h.refused.are, inr (m.modulus, m.is, inr w.stands)) in
      let past : PassesInRow rows kept k w.number = inr (number, w.passes) in
      record { number = w.number; passes = (k, h.within, kept, h.reached, past) }

  pub known_or_passes : IsKnown ⊎ Passes rows start
  known_or_passes =
      elim (narrow_or_past (row_total rows kept k ts)) [
        | inl narrow ↦
            let m = has_modulus in
            let refused : Refused = record { total = row_total rows kept k ts; modulus = m.modulus } in
            inl (record { refused = refused; is = record { steps = ts; are = h.refused.are; modulus = m.is; total = refl; ends = h.refused.ends; narrow = narrow } })
        | inr past ↦ inr (passes past)
      ]

-- ---- the rows of a function

module _ (bases parameters : ℕ) (r : Rows) (asked : AreFunctionRows bases parameters r) (so : IsRefused (judged bases parameters 0 r)) where
  abbrev list : List Row
  list = r.list.items.items

  abbrev rows : List PowerMap
  rows = units_of r.list.items.items

  abbrev judgement : Judgement
  judgement = judged bases parameters 0 r

  long : length rows ≡ length list
  long = length-map r.list.items.items (λ (row : Row). row.unit)

  -- some answer other than want of memory
  pub record IsRefuted : Type 0 where
    pub result : Result No CertStop
    pub some : result ≢ Err stop.NoMemory
    pub made : IsNoMade bases parameters r judgement result
    pub tidy : IfOk result IsTidyNo

  abbrev head_of : ℕ → Head
  head_of n = record { slots = r.slots; parameters = n; bases = bases }

  refused_rows : (n row : ℕ) (h : IsRefusedAfter rows (first bases n r.slots) row) (refused : Refused) → IsRefusedAs rows h.kept row refused → AreRefused (head_of n) list row refused
  refused_rows n row h refused is = let l = long in let within = h.within in (h.kept, omega (arith, l, within), h.reached, is)

  of_passes : Passes rows (first bases parameters r.slots) → IsRefuted
  of_passes w = record { result = Err (stop.CertRange w.number); some = λ e. cc e; made = inl w.passes; tidy = tt }

  module _ (row : ℕ) (refused : Refused) (made : AreRefused (head_of parameters) list row refused) where
    -- no units satisfy the rows, but some do with the unit parameters as slots like the others
    general : (units : List PowerMap) → solve 0 (rows_up_to row list) (own_variables r.slots) ≡ solved units → IsRefuted
    general units end =
        let by = refuted bases parameters r asked row refused made so in
        let c : No = record { loose = false; last = row; modulus = refused.modulus; parts = parts_of refused.total } in
        record {
          result = Ok c;
          some = λ e. cc e;
          made = general_no bases parameters r asked row refused made so units end c refl refl refl (exponents_are refused.total by.closed) (parts_named (suc row) refused.total by.closed by.below);
          tidy = parts_tidy (suc row) refused.total (let number = asked.number in let within = made.1 in omega (arith, number, within)) by.closed by.below;
        }

    -- none do
    module _ (within : row < length list) (j place : ℕ) (end : solve 0 (rows_up_to row list) (own_variables r.slots) ≡ unsolved j place) where
      abbrev low : All (λ (one : Row). VariablesBelow r.slots one.unit) list
      low = rows_low r.slots list asked.rows

      whole : solve 0 list (rigid_units bases 0 r.slots) ≡ unsolved j place
      whole = ap (solve 0 list) (rigid-own bases r.slots) ∙ front_unsolved list (own_variables r.slots) row j place end

      loosely : (other : Refused) → AreRefused (head_of 0) list j other → IsRefuted
      loosely other is =
          let by = loose_refuted bases r.slots list low row within (j, place, end) j other is in
          let c : No = record { loose = true; last = row; modulus = other.modulus; parts = parts_of other.total } in
          let named = parts_named (suc j) other.total by.closed by.below in
          let valid = loose_valid bases r.slots list low row within (j, place, end) j other is parameters (Ok c) refl refl refl (exponents_are other.total by.closed) (λ n below. parts_named n other.total by.closed below) in
          record {
            result = Ok c;
            some = λ e. cc e;
            made = loose_answers bases parameters r asked row refused made so j place end (Ok c) valid refl refl tt;
            tidy = parts_tidy (suc j) other.total (let number = asked.number in let before = front_inside list (own_variables r.slots) row j place end in omega (arith, number, within, before)) by.closed by.below;
          }

      loosely_passes : Passes rows (first bases 0 r.slots) → IsRefuted
      loosely_passes w =
          record {
            result = Err (stop.CertRange w.number);
            some = λ e. cc e;
            made = loose_answers bases parameters r asked row refused made so j place end (Err (stop.CertRange w.number)) tt tt tt w.passes;
            tidy = tt;
          }

      by_loose_rows : Ends rows (first bases 0 r.slots) (unsolved j place) ⊎ Passes rows (first bases 0 r.slots) → IsRefuted
      by_loose_rows (inr w) = loosely_passes w
      by_loose_rows (inl h) =
          elim (known_or_passes rows (first bases 0 r.slots) j h) [
            | inl known ↦ loosely known.refused (refused_rows 0 j h known.refused known.is)
            | inr w ↦ loosely_passes w
          ]

      loose : IsRefuted
      loose = by_loose_rows (subst (λ end. Ends rows (first bases 0 r.slots) end ⊎ Passes rows (first bases 0 r.slots)) whole (rows_end bases 0 r.slots list))

  by_rows : (h : IsRefusedAfter rows (first bases parameters r.slots) (judged_refused bases parameters r.slots 0 (rows_signature r) list so).row) → IsRefuted
  by_rows h =
      let w = judged_refused bases parameters r.slots 0 (rows_signature r) list so in
      elim (known_or_passes rows (first bases parameters r.slots) w.row h) [
        | inr past ↦ of_passes past
        | inl known ↦
            let made = refused_rows parameters w.row h known.refused known.is in
            elim w.loosely [
              | inl units ↦ general w.row known.refused made units.0 units.1
              | inr other ↦ loose w.row known.refused made (let l = long in let within = h.within in omega (arith, l, within)) other.0 other.1 other.2
            ]
      ]

  pub refuted_or_passes : IsRefuted
  refuted_or_passes =
      let w = judged_refused bases parameters r.slots 0 (rows_signature r) list so in
      elim (subst (λ end. Ends rows (first bases parameters r.slots) end ⊎ Passes rows (first bases parameters r.slots)) w.unsolvable (rows_end bases parameters r.slots list)) [
        | inl h ↦ by_rows h
        | inr passes ↦ of_passes passes
      ]
