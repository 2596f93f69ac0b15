-- A number at an open unit is 0: where one variable alone is rescaled, no closed unit's numbers change, so neither the program
-- nor its arguments, and the value is its own rescaling.
use Rattle.std.proofs.Common.{◌≡◌, ◌≢◌, refl, sym, ap, subst, ◌∙◌, inl, inr, ℕ, zero, suc, ◌*◌, ◌^◌, ◌<◌, true, false, cond, List, [], ◌∷◌, length, map, Some, slice_get, ℤ, pos, negsuc, ◌+ℤ◌, ◌*ℤ◌, arith}
use Rattle.std.proofs.Math.IntN.{*ℤ_comm, *ℤ-zero}
use Rattle.std.proofs.Math.Nat.{pow-zero, pow-suc}
use Rattle.um_frac.specs.declared.number.Frac.{Frac}
use Rattle.um_frac.specs.Fraction.{numerator, denominator}
use Rattle.um_frac.proofs.Integers.{*ℤ-pos_one, *ℤ_assoc, times_swap, cancel}
use Rattle.um_frac.proofs.Outcomes.{den_apart}
use Rattle.um_units.specs.declared.Atom.TheVariants.{Var}
use Rattle.um_units.specs.declared.Term.{Term}
use Rattle.um_units.specs.Atoms.{same_atom}
use Rattle.um_units.specs.Terms.{indicator, power_in}
use Rattle.um_units.specs.PowerMap.{PowerMap, power_of, atom, replace}
use Rattle.um_units.specs.Variables.{IsClosed}
use Rattle.um_units.proofs.Integers.{zero_cases}
use Rattle.um_units.proofs.Replacement.{replace-same}
use Rattle.um_tree.specs.declared.note.UnitNote.{UnitNote}
use Rattle.um_tree.specs.declared.note.UnitNote.TheVariants.{Hole, Written}
use Rattle.um_tree.specs.TypeTree.{TypeTree, bool_type, num_type, list_type, record_type}
use Rattle.um_tree.specs.ValueTree.{ValueTree, ValueTrees, truth_value, number_value, list_value, record_value, no_values, more_values, InputTree, InputTrees, truth_input, number_input, list_input, record_input, no_inputs, more_inputs, value_outcome}
use Rattle.um_tree.specs.ExprTree.{ExprTree, ExprTrees, truth, number, local, call, negate, not_expr, pown, arith as arith_tree, compare, both, either, if, bind, split, nil, list_expr, cons, record_expr, field, none, more}
use Rattle.um_tree.specs.ProgramTree.{RecordTree, FunctionTree, ProgramTree}
use Rattle.um_tree.specs.Typing.{put, unit_at, field_types, IsRecordAt}
use Rattle.um_tree.specs.Formed.{IsLiteral, IsFormed, IsFormedInput, AreFormedInputs}
use Rattle.um_tree.specs.Laws.{UnitNoteHas, LiteralsAreClosed, ExprsHave}
use Rattle.um_tree.proofs.WrittenUnits.{formed_literals_are_closed}
use Rattle.um_scaling.specs.Rescaling.{Factor, IsPositive, SameFactor, no_change, times, to_power, Rescaling, ArePositive, factor_of_terms, factor, IsScaled}
use Rattle.um_scaling.specs.ScaledValues.{Scaled, EachScaled, FieldsScaled}
use Rattle.um_scaling.specs.RescaledProgram.{RescaledNumber, RescaledExpr, RescaledExprs, RescaledFunctions, IsRescaled}
use Rattle.um_scaling.specs.RescaledInput.{RescaledInput, RescaledInputs}
use Rattle.um_scaling.specs.FreeNumbers.{IsFreeZero, EachFreeZero, FieldsFreeZero}
use Rattle.um_scaling.specs.Laws.{FreeZeros, FreeZerosOfCalls}
use Rattle.um_scaling.proofs.Factors.{one_power, same_factor_trans, times_same, to_power-+ℤ, to_power_positive, times_positive, factor_positive}
use Rattle.um_scaling.proofs.Numbers.{by_same_factor, unchanged, one_positive}
use Rattle.um_scaling.proofs.Inputs.{inputs_scaled}
use Rattle.um_scaling.proofs.ScalingLaw.{scaling_law}

-- ---- one variable is doubled
abbrev two : Factor
two = record { top = 2; bottom = 1 }

two_positive : IsPositive two
two_positive = (omega arith, omega arith)

abbrev pub doubled : ℕ → Rescaling
doubled k x = cond (same_atom (Var k) x) two no_change

pub doubled_positive : (k : ℕ) → ArePositive (doubled k)
doubled_positive k x = elim (same_atom (Var k) x) as (λ b. IsPositive (cond b two no_change)) [ true ↦ two_positive | false ↦ one_positive ]

-- a power of 1 is 1, and the power 0 of each factor
one_to_power : (n : ℤ) → SameFactor (to_power no_change n) (to_power two (pos 0))
one_to_power (pos n) = (λ i. one_power n i * pow-zero 1 i) ∙ (λ i. sym (pow-zero 2) i * sym (one_power n) i)
one_to_power (negsuc n) = (λ i. one_power (suc n) i * pow-zero 1 i) ∙ (λ i. sym (pow-zero 2) i * sym (one_power (suc n)) i)

-- the factor of a term is 2 to its part of the power
term_factor : (k : ℕ) (t : Term) → SameFactor (to_power (doubled k t.atom) t.power) (to_power two (t.power *ℤ indicator (Var k) t.atom))
term_factor k t =
    elim (same_atom (Var k) t.atom) as (λ b. SameFactor (to_power (cond b two no_change) t.power) (to_power two (t.power *ℤ cond b (pos 1) (pos 0)))) [
      | true ↦ subst (λ n. SameFactor (to_power two t.power) (to_power two n)) (sym (*ℤ-pos_one t.power)) refl
      | false ↦ subst (λ n. SameFactor (to_power no_change t.power) (to_power two n)) (sym (*ℤ-zero t.power)) (one_to_power t.power)
    ]

-- the factor of a unit is 2 to the power of the variable
terms_factor : (k : ℕ) (ts : List Term) → SameFactor (factor_of_terms (doubled k) ts) (to_power two (power_in ts (Var k)))
terms_factor k [] = ap (λ n. 1 * n) (pow-zero 1) ∙ ap (λ n. n * 1) (sym (pow-zero 2))
terms_factor k (t ∷ ts) =
    let part = t.power *ℤ indicator (Var k) t.atom in
    let rest = power_in ts (Var k) in
    same_factor_trans (times (to_power (doubled k t.atom) t.power) (factor_of_terms (doubled k) ts)) (times (to_power two part) (to_power two rest)) (to_power two (part +ℤ rest))
    (times_positive (to_power two part) (to_power two rest) (to_power_positive two part two_positive) (to_power_positive two rest two_positive)).1
    (times_same (to_power (doubled k t.atom) t.power) (to_power two part) (factor_of_terms (doubled k) ts) (to_power two rest) (term_factor k t) (terms_factor k ts))
    (sym (to_power-+ℤ part rest two two_positive))

unit_factor : (k : ℕ) (u : PowerMap) → SameFactor (factor (doubled k) u) (to_power two (power_of u (Var k)))
unit_factor k u = terms_factor k u.terms

-- ---- numbers
-- a number at a closed unit is left
pub closed_left : (k : ℕ) (u : PowerMap) (c : Frac) → IsClosed u → IsScaled (factor (doubled k) u) c c
closed_left k u c closed =
    let none : SameFactor (factor (doubled k) u) (to_power two (pos 0)) = subst (λ n. SameFactor (factor (doubled k) u) (to_power two n)) (closed k) (unit_factor k u) in
    let zero_power : SameFactor no_change (to_power two (pos 0)) = terms_factor k [] in
    by_same_factor no_change (factor (doubled k) u) one_positive (same_factor_trans no_change (to_power two (pos 0)) (factor (doubled k) u) (to_power_positive two (pos 0) two_positive).1 zero_power (sym none)) c c (unchanged c)

more_than_one : (n : ℕ) → 1 < 2 ^ suc n
more_than_one zero = omega (arith, pow-suc 2 0, pow-zero 2)
more_than_one (suc n) = let below = more_than_one n in omega (arith, pow-suc 2 (suc n), below)

power_apart : (n : ℤ) → n ≢ pos 0 → (to_power two n).bottom ≡ (to_power two n).top → ⊥
power_apart (pos zero) other e = other refl
power_apart (pos (suc n)) other e = omega (arith, one_power (suc n), more_than_one n, e)
power_apart (negsuc n) other e = omega (arith, one_power (suc n), more_than_one n, e)

-- a number that a factor other than 1 leaves is 0
only_zero : (f : Factor) (c : Frac) → (f.bottom ≡ f.top → ⊥) → IsScaled f c c → numerator c ≡ pos 0
only_zero f c other h =
    elim (zero_cases (numerator c)) [
      | inl e ↦ e
      | inr held ↦
          let sides : (numerator c *ℤ pos f.bottom) *ℤ denominator c ≡ (numerator c *ℤ pos f.top) *ℤ denominator c = times_swap (numerator c) (pos f.bottom) (denominator c) ∙ *ℤ_assoc (numerator c) (denominator c) (pos f.bottom) ∙ h in
          let without : numerator c *ℤ pos f.bottom ≡ numerator c *ℤ pos f.top = cancel (numerator c *ℤ pos f.bottom) (numerator c *ℤ pos f.top) (denominator c) (den_apart c) sides in
          let same : pos f.bottom ≡ pos f.top = cancel (pos f.bottom) (pos f.top) (numerator c) held (*ℤ_comm (pos f.bottom) (numerator c) ∙ without ∙ *ℤ_comm (numerator c) (pos f.top)) in
          absurd (other (cc same))
    ]

held_zero : (k : ℕ) (u : PowerMap) (c : Frac) → power_of u (Var k) ≢ pos 0 → IsScaled (factor (doubled k) u) c c → numerator c ≡ pos 0
held_zero k u c held h =
    let n = power_of u (Var k) in
    only_zero (to_power two n) c (power_apart n held) (by_same_factor (factor (doubled k) u) (to_power two n) (factor_positive (doubled k) (doubled_positive k) u) (unit_factor k u) c c h)

open_zero : (u : PowerMap) (c : Frac) → ((k : ℕ) → IsScaled (factor (doubled k) u) c c) → (¬ IsClosed u) → numerator c ≡ pos 0
open_zero u c scaled is_open =
    elim (zero_cases (numerator c)) [
      | inl e ↦ e
      | inr other ↦ absurd (is_open (λ k. elim (zero_cases (power_of u (Var k))) [ inl e ↦ e | inr held ↦ absurd (other (held_zero k u c held (scaled k))) ]))
    ]

-- ---- the program is left
number_left : (k : ℕ) (c : Frac) (n : UnitNote) → UnitNoteHas IsClosed n → RescaledNumber (doubled k) c n c
number_left k c Hole w = refl
number_left k c (Written u) w = closed_left k u c w

module _ (k : ℕ) where
  abbrev Left : ExprTree → Type 0
  Left e = RescaledExpr (doubled k) e e

  mutual
    left : (e : ExprTree) → LiteralsAreClosed e → Left e
    left (truth at b) w = refl
    left (number at c n) w = (c, number_left k c n w, refl)
    left (local at i) w = refl
    left (call at j es) w = (es, all_left es w, refl)
    left (negate at a) w = (a, left a w, refl)
    left (not_expr at a) w = (a, left a w, refl)
    left (pown at a i) w = (a, left a w, refl)
    left (arith_tree at op a b) w = (a, b, left a w.0, left b w.1, refl)
    left (compare at sign a b) w = (a, b, left a w.0, left b w.1, refl)
    left (both at a b) w = (a, b, left a w.0, left b w.1, refl)
    left (either at a b) w = (a, b, left a w.0, left b w.1, refl)
    left (if at c a b) w = (c, a, b, left c w.0, left a w.1, left b w.2, refl)
    left (bind at a b) w = (a, b, left a w.0, left b w.1, refl)
    left (split at l a b) w = (l, a, b, left l w.0, left a w.1, left b w.2, refl)
    left (nil at n) w = refl
    left (list_expr at es) w = (es, all_left es w, refl)
    left (cons at a b) w = (a, b, left a w.0, left b w.1, refl)
    left (record_expr at m es) w = (es, all_left es w, refl)
    left (field at m i a) w = (a, left a w, refl)

    all_left : (es : ExprTrees) → ExprsHave (λ u. Unit {0}) IsClosed es → RescaledExprs (doubled k) es es
    all_left none w = refl
    all_left (more e es) w = (e, es, left e w.0, all_left es w.1, refl)

  functions_left : (fs : List FunctionTree) → ((j : ℕ) (f : FunctionTree) → slice_get fs j ≡ Some f → LiteralsAreClosed f.body) → RescaledFunctions (doubled k) fs fs
  functions_left [] closed = refl
  functions_left (f ∷ fs) closed = (f, fs, (f.body, left f.body (closed 0 f refl), refl), functions_left fs (λ j g e. closed (suc j) g e), refl)

  program_left : (p : ProgramTree) → IsFormed p → IsRescaled (doubled k) p p
  program_left p formed = record {
    bases = refl;
    records = refl;
    functions = functions_left p.functions (λ j f e. formed_literals_are_closed p j formed j f (omega arith) e);
  }

  -- ---- and so are inputs
  input_number_left : (bases : ℕ) (c : Frac) (n : UnitNote) → IsLiteral bases c n → RescaledNumber (doubled k) c n c
  input_number_left bases c Hole w = refl
  input_number_left bases c (Written u) w = closed_left k u c w.0

  mutual
    input_left : (bases : ℕ) (i : InputTree) → IsFormedInput bases i → RescaledInput (doubled k) i i
    input_left bases (truth_input b) w = refl
    input_left bases (number_input c n) w = (c, input_number_left bases c n w, refl)
    input_left bases (list_input is) w = (is, inputs_left bases is w, refl)
    input_left bases (record_input m is) w = (is, inputs_left bases is w, refl)

    inputs_left : (bases : ℕ) (is : InputTrees) → AreFormedInputs bases is → RescaledInputs (doubled k) is is
    inputs_left bases no_inputs w = refl
    inputs_left bases (more_inputs i is) w = (i, is, input_left bases i w.0, inputs_left bases is w.1, refl)

-- ---- a value that is its own rescaling by each variable
module _ (records : List RecordTree) where
  one_record : (j : ℕ) (us : List PowerMap) (x y : RecordTree) → IsRecordAt records j us x → IsRecordAt records j us y → x ≡ y
  one_record j us x y e f = let g : Some x ≡ Some y = sym e.declared ∙ f.declared in cc

  mutual
    free_zero : (v : ValueTree) (t : TypeTree) → ((k : ℕ) → Scaled records (doubled k) v t v) → IsFreeZero records v t
    free_zero (truth_value b) bool_type h = tt
    free_zero (number_value c) (num_type u) h = open_zero u c h
    free_zero (list_value vs) (list_type t) h = each_free_zero vs t h
    free_zero (record_value m vs) (record_type j us) h =
        let here = h 0 in (
          here.0,
          here.1,
          here.2,
          fields_free_zero vs (map (put (unit_at us)) (field_types here.0))
              (λ k. subst (λ (d : RecordTree). FieldsScaled records (doubled k) vs (map (put (unit_at us)) (field_types d)) vs) (one_record j us (h k).0 here.0 (h k).1 here.1) (h k).4),
        )
    free_zero v t h = absurd (h 0)

    each_free_zero : (vs : ValueTrees) (t : TypeTree) → ((k : ℕ) → EachScaled records (doubled k) vs t vs) → EachFreeZero records vs t
    each_free_zero no_values t h = tt
    each_free_zero (more_values v vs) t h = (free_zero v t (λ k. (h k).0), each_free_zero vs t (λ k. (h k).1))

    fields_free_zero : (vs : ValueTrees) (ts : List TypeTree) → ((k : ℕ) → FieldsScaled records (doubled k) vs ts vs) → FieldsFreeZero records vs ts
    fields_free_zero no_values [] h = tt
    fields_free_zero (more_values v vs) (t ∷ ts) h = (free_zero v t (λ k. (h k).0), fields_free_zero vs ts (λ k. (h k).1))
    fields_free_zero vs ts h = absurd (h 0)

pub free_zeros : FreeZeros
free_zeros p f inputs vs t b v formed inputs_formed e result at =
    free_zero p.records v t (λ k. scaling_law p p (doubled k) f (record { params = result.0; result = t }) vs vs b (value_outcome v) (value_outcome v) formed (doubled_positive k) (program_left k p formed) result.2
    (inputs_scaled p.records (doubled k) inputs inputs result.0 vs vs (inputs_left k (length p.bases) inputs inputs_formed) result.1 e e) at at)

units_same : (us : List PowerMap) → map (λ u. replace (λ k. atom (Var k)) u) us ≡ us
units_same [] = refl
units_same (u ∷ us) = λ i. replace-same u i ∷ units_same us i

put_same : (t : TypeTree) → put (λ k. atom (Var k)) t ≡ t
put_same bool_type = refl
put_same (num_type u) = ap num_type (replace-same u)
put_same (list_type t) = ap list_type (put_same t)
put_same (record_type m us) = ap (record_type m) (units_same us)

pub free_zeros_of_calls : FreeZerosOfCalls
free_zeros_of_calls p f inputs vs t b v formed inputs_formed e typed at =
    let units : ℕ → PowerMap = λ k. atom (Var k) in
    free_zeros p f inputs vs t b v formed inputs_formed e ((typed.instances t).1 (units, sym (put_same t))) at
