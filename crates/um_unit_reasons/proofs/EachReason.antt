-- What is told of a function that is refused for units.
use Rattle.std.proofs.Common.{◌≡◌, inl, inr, ℕ, zero, suc, ◌-◌, ◌≤◌, ◌&&◌, ◌||◌, nat_eq, Bool, true, false, List, [], ◌∷◌, ◌++◌, map, length, refl, sym, ap, ◌∙◌, subst, arith}
use Rattle.std.specs.Prelude.{All, Contains, if◌then◌else◌}
use Rattle.std.specs.List.{list_any, list_all}
use Rattle.std.proofs.lemmas.Bool.Decides.{nat_tests}
use Rattle.std.proofs.lemmas.List.{take-map, length-map}
use Rattle.std.proofs.lemmas.List.Elements.{All-nil, All-head, All-tail, All-push}
use Rattle.um_units.specs.Variables.{VariablesBelow}
use Rattle.um_tree.specs.RawTree.{DeclSyntax}
use Rattle.um_tree.specs.ProgramTree.{FunctionTree, ProgramTree, SchemeTree}
use Rattle.um_tree.specs.Shapes.{IsShaped}
use Rattle.um_tree.specs.Typing.{typings_below}
use Rattle.um_tree.specs.Formed.{IsFormed}
use Rattle.um_tree.specs.Laws.{LiteralsAreClosed}
use Rattle.um_tree.proofs.WrittenUnits.{formed_literals_are_closed}
use Rattle.um_elim.specs.Solution.{parameter_rows}
use Rattle.um_elim.proofs.Cases.{on_test}
use Rattle.um_slots.specs.Slots.{slot_count}
use Rattle.um_equal_types.specs.declared.row.Row.{Row}
use Rattle.um_equal_types.specs.Steps.{rows_of, units_of}
use Rattle.um_rows.specs.Equations.{slot_equations}
use Rattle.um_rows.specs.Solutions.{HaveSchemes}
use Rattle.um_rows.specs.FirstUnsolvable.{rows_up_to}
use Rattle.um_rows.specs.Judgement.{judge}
use Rattle.um_rows.proofs.JudgementLaws.{judged_untyped_have_none, judged_not_general_have_none}
use Rattle.um_rows.proofs.Solved.{parameters_in_slots, all_fit, rows_hold_slots}
use Rattle.um_reasons.specs.CoreLaws.{EndsUnsolvable}
use Rattle.um_reasons.proofs.FirstRows.{first_unsolvable_ends, first_unsolvable_ends_alone}
use Rattle.um_agree.specs.Agreements.{Agreement}
use Rattle.um_agree.specs.RowAgreements.{agreement_of}
use Rattle.um_agree.specs.Answers.{agreement_fits}
use Rattle.um_unit_reasons.specs.UnitReasons.{UnitReason, out_of_range, nth_agreement, is_news, others_before, IsPastIn, Refusal, last_row, others, core_reason, fit, IsOfCore, IsUnitReason, refusal, unsolvable, rigid_parameters}
use Rattle.um_unit_reasons.specs.VariableNames.{function_variables}
use Rattle.um_unit_reasons.specs.Answers.{IsRefused}
use Rattle.um_unit_reasons.proofs.FunctionFacts.{refused_by, have}
use Rattle.um_unit_reasons.specs.Laws.{RefusalsHaveReasons}
use Rattle.um_unit_reasons.proofs.EachCore.{front_below, has_core}

-- ---- an agreement of the core that is out of range

same_number : (n m : ℕ) → nat_eq n m ≡ true → n ≡ m
same_number n m t = grind (arith, nat_tests)

both_true : (a b : Bool) → (a && b) ≡ true → (a ≡ true) × (b ≡ true)
both_true true true e = (refl, refl)
both_true true false e = absurd (cc e)
both_true false b e = absurd (cc e)

among : (core : List ℕ) (j : ℕ) → list_any (nat_eq j) core ≡ true → Contains core j
among [] j e = absurd (cc e)
among (k ∷ core) j e = by (among core j) (nat_eq j k) refl e where
  by : (list_any (nat_eq j) core ≡ true → Contains core j) → (b : Bool) → nat_eq j k ≡ b → (b || list_any (nat_eq j) core) ≡ true → Contains (k ∷ core) j
  by later true same e = (0, omega arith, sym (same_number j k same))
  by later false other e = let (n, less, is) = later e in (suc n, omega (arith, less), is)

module _ (agreed : List Agreement) (core : List ℕ) (last : ℕ) where
  abbrev Past : ℕ → Type 0
  Past a = (j : ℕ) × Contains core j × (agreement_of agreed j ≡ a)

  -- each of the others has a row of the core
  others_have_rows : (n : ℕ) → All Past (others_before agreed core last n)
  others_have_rows zero = All-nil Past
  others_have_rows (suc j) =
      let before = others_before agreed core last j in
      on_test (is_news agreed core last before j)
      (λ news. subst (λ (b : Bool). All Past (if b then before ++ agreement_of agreed j ∷ [] else before)) (sym news)
      (All-push Past before (agreement_of agreed j) (others_have_rows j) (j, among core j (both_true (list_any (nat_eq j) core) _ news).0, refl)))
      (λ old. subst (λ (b : Bool). All Past (if b then before ++ agreement_of agreed j ∷ [] else before)) (sym old) (others_have_rows j))

  past_among : (ks : List ℕ) → All Past ks → list_all agreement_fits (map (nth_agreement agreed) ks) ≡ false → IsPastIn agreed core
  past_among [] all e = absurd (cc e)
  past_among (k ∷ ks) all e = by (past_among ks (All-tail Past k ks all)) (agreement_fits (nth_agreement agreed k)) refl e where
    by : (list_all agreement_fits (map (nth_agreement agreed) ks) ≡ false → IsPastIn agreed core) → (b : Bool) → agreement_fits (nth_agreement agreed k) ≡ b → (b && list_all agreement_fits (map (nth_agreement agreed) ks)) ≡ false → IsPastIn agreed core
    by later false past e =
        let (j, held, same) = All-head Past k ks all in
        (j, held, ap (λ a. agreement_fits (nth_agreement agreed a)) same ∙ past)
    by later true fits e = later e

module _ (x : Refusal) (core : List ℕ) (cut_off : Bool) (begins : Contains core (last_row x)) where
  abbrev last : ℕ
  last = agreement_of x.agreed (last_row x)

  past : fit x core ≡ false → IsPastIn x.agreed core
  past e = by (agreement_fits (nth_agreement x.agreed last)) refl e where
    by : (b : Bool) → agreement_fits (nth_agreement x.agreed last) ≡ b → (b && list_all agreement_fits (others x core)) ≡ false → IsPastIn x.agreed core
    by false e rest = (last_row x, begins, e)
    by true e rest = past_among x.agreed core last (others_before x.agreed core last (last_row x)) (others_have_rows x.agreed core last (last_row x)) rest

  told : (r : UnitReason) × IsOfCore x core cut_off r
  told =
      on_test (fit x core)
      (λ fits. (core_reason x core cut_off, inl (fits, refl)))
      (λ unfit. (out_of_range, inr (past unfit, refl)))

first_of : (core further : List ℕ) (k : ℕ) → core ≡ k ∷ further → Contains core k
first_of core further k e = subst (λ l. Contains l k) (sym e) (0, omega arith, refl)

-- ---- the function
module _ (p : ProgramTree) (formed : IsFormed p) (shaped : IsShaped p) (schemes : List SchemeTree) (i : ℕ) (rigid : Bool) (h : IsRefused p schemes i rigid) where
  abbrev f : FunctionTree
  f = h.function

  abbrev own_rows : List Row
  own_rows = rows_of (slot_equations p.records schemes i f).steps

  abbrev slots : ℕ
  slots = slot_count p.records schemes i f

  closed : LiteralsAreClosed f.body
  closed = formed_literals_are_closed p i formed i f (omega arith) h.declared

  held : HaveSchemes p schemes i
  held = have p formed shaped schemes i rigid h

  judged_as : (r : Bool) → rigid ≡ r → judge (length p.bases) p.records schemes i f ≡ unsolvable r h.row h.at
  judged_as r e = h.judged ∙ ap (λ b. unsolvable b h.row h.at) e

  ends_by : (r : Bool) → rigid ≡ r → EndsUnsolvable slots (parameter_rows (length p.bases) (rigid_parameters r f.units)) (units_of (rows_up_to h.row own_rows))
  ends_by false e =
      let laws = judged_untyped_have_none p schemes i f h.declared closed held h.row h.at (judged_as false e) in
      first_unsolvable_ends_alone slots (parameter_rows (length p.bases) f.units) own_rows h.row h.at laws.0 laws.1
  ends_by true e =
      let laws = judged_not_general_have_none p schemes i f h.declared closed held h.row h.at (judged_as true e) in
      first_unsolvable_ends slots (parameter_rows (length p.bases) f.units) own_rows h.row h.at laws.0

  few_by : (r : Bool) → rigid_parameters r f.units ≤ slots
  few_by false = omega arith
  few_by true = parameters_in_slots (typings_below p i) schemes i (all_fit p schemes i held) p.records f

  below : All (VariablesBelow slots) (units_of (rows_up_to h.row own_rows))
  below = subst (All (VariablesBelow slots)) (take-map (λ (r : Row). r.unit) (suc h.row) own_rows) (front_below slots (suc h.row) (units_of own_rows) (rows_hold_slots p schemes i f held))

  module _ (declared : List DeclSyntax) where
    abbrev x : Refusal
    x = refusal p schemes i f (function_variables declared i) (rigid_parameters rigid f.units) h.row

    reason : (r : UnitReason) × IsUnitReason x r
    reason =
        let (core, cut_off, is) = has_core slots (length p.bases) (rigid_parameters rigid f.units) (rows_up_to h.row own_rows) (few_by rigid) below (ends_by rigid refl) in
        let many : length (units_of (rows_up_to h.row own_rows)) ≡ length (rows_up_to h.row own_rows) = length-map (rows_up_to h.row own_rows) (λ (r : Row). r.unit) in
        let first = first_of core is.begun.further (last_row x) (is.begun.begins ∙ ap (λ n. (n - 1) ∷ is.begun.further) many) in
        let (r, of_core) = told x core cut_off first in
        (r, (core, cut_off, is, of_core))

pub refusals_have_reasons : RefusalsHaveReasons
refusals_have_reasons declared p i rigid row at formed shaped j =
    let h = refused_by p j.schemes i rigid (row, at, j) j.before in
    let (r, is) = reason p formed shaped j.schemes i rigid h declared in
    (r, (h.row, h.at, record { function = h.function; declared = h.declared; schemes = j.schemes; before = h.before; judged = h.judged }, is))
