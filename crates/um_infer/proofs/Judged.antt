-- The equations of a function, solved, are its judgement.
-- Source: this project's own, on Kennedy (1996).
use Rattle.std.proofs.Common.{◌≡◌, ℕ, ◌<◌, ◌≤◌, true, cond, leb, List, [], ◌∷◌, map, Some, Result, Err, sym, ap, ◌∙◌, subst, arith}
use Rattle.std.specs.Prelude.{All}
use Rattle.std.proofs.lemmas.Bool.Decides.{nat_tests}
use Rattle.std.proofs.lemmas.List.Elements.{All-nil, All-cons, All-head, All-tail}
use Rattle.um_units.specs.Variables.{VariablesBelow}
use Rattle.um_tree.specs.declared.program.Scheme.{Scheme}
use Rattle.um_tree.specs.ProgramTree.{RecordTree, FunctionTree, ProgramTree, SchemeTree}
use Rattle.um_tree.specs.Scheme.{signature_types, variables}
use Rattle.um_equal_types.specs.declared.row.Row.{Row}
use Rattle.um_equal_types.specs.declared.row.Rows.{Rows}
use Rattle.um_equal_types.specs.declared.row.RowStop.{RowStop}
use Rattle.um_equal_types.specs.declared.row.RowStop.TheVariants as rows_stop
use Rattle.um_equal_types.specs.Steps.{rows_of, first_past}
use Rattle.um_slots.specs.Slots.{slot_count}
use Rattle.um_rows.specs.Equations.{slot_equations}
use Rattle.um_rows.specs.Solutions.{function_rows, slot_signature, HaveSchemes}
use Rattle.um_slots.specs.Keys.{text_keys}
use Rattle.um_rows.specs.Judgement.{Judgement, too_many_slots, by_rows, by_range, judge}
use Rattle.um_rows.specs.Answers.{rows_signature, AreEquations, StopsFor, HaveVariablesBelow}
use Rattle.um_slots.proofs.ParameterSlots.{parameters_have_slots}
use Rattle.um_solving.specs.declared.refusal.Refusal.{Refusal}
use Rattle.um_infer.specs.Forming.{IsAnswer}
use Rattle.um_solving.specs.Refusals.{refusal_of}
use Rattle.um_infer.proofs.ManySlots.{many_slots_are_counted}

all_before_map : {X Y : Type 0} (P : X → Type 0) (f : Y → X) (ys : List Y) → All P (map f ys) → All (λ y. P (f y)) ys
all_before_map P f [] h = All-nil (λ y. P (f y))
all_before_map P f (y ∷ ys) h = All-cons (λ y. P (f y)) y ys (All-head P (f y) (map f ys) h) (all_before_map P f ys (All-tail P (f y) (map f ys) h))

module _ (bases : ℕ) (records : List RecordTree) (schemes : List SchemeTree) (i : ℕ) (f : FunctionTree) where
  abbrev by_own_rows : Judgement
  by_own_rows = by_rows bases f.units (slot_count records schemes i f) f.at (slot_signature records schemes i f) (rows_of (slot_equations records schemes i f).steps)

  within : slot_count records schemes i f ≤ 2000 → judge bases records schemes i f ≡ by_range (first_past (slot_equations records schemes i f).steps) by_own_rows
  within few =
      let test : leb (slot_count records schemes i f) 2000 ≡ true = grind (arith, nat_tests, few) in
      ap (λ b. cond b (by_range (first_past (slot_equations records schemes i f).steps) by_own_rows) too_many_slots) test

  -- the rows' refusal
  pub stopped : (stop : RowStop) → StopsFor records schemes i f stop → IsAnswer (judge bases records schemes i f) (Err (refusal_of stop))
  stopped rows_stop.Slots h = (many_slots_are_counted bases records schemes i f).1 h
  stopped (rows_stop.Range at) h = within h.0 ∙ ap (λ o. by_range o by_own_rows) h.1
  stopped rows_stop.NoMemory h = tt

  module _ (r : Rows) (h : AreEquations records schemes i f r) where
    pub few_slots : r.slots ≤ 2000
    few_slots = subst (λ n. n ≤ 2000) (sym h.slots) h.few

    pub rows_below : All (VariablesBelow (slot_count records schemes i f)) (function_rows records schemes i f) → All (λ (row : Row). VariablesBelow r.slots row.unit) r.list.items.items
    rows_below low =
        let own : All (λ (row : Row). VariablesBelow (slot_count records schemes i f) row.unit) (rows_of (slot_equations records schemes i f).steps) = all_before_map (VariablesBelow (slot_count records schemes i f)) (λ (row : Row). row.unit) (rows_of (slot_equations records schemes i f).steps) low in
        subst (λ n. All (λ (row : Row). VariablesBelow n row.unit) r.list.items.items) (sym h.slots)
        (subst (All (λ (row : Row). VariablesBelow (slot_count records schemes i f) row.unit)) (sym h.list) own)

    same_signature : rows_signature r ≡ slot_signature records schemes i f
    same_signature = λ i. record { params = h.params i; result = h.result i }

    pub types_below : All (λ k. k < slot_count records schemes i f) (variables (signature_types (slot_signature records schemes i f))) → All (λ k. k < r.slots) (variables (signature_types (rows_signature r)))
    types_below low =
        subst (λ n. All (λ k. k < n) (variables (signature_types (rows_signature r)))) (sym h.slots)
        (subst (λ g. All (λ k. k < slot_count records schemes i f) (variables (signature_types g))) (sym same_signature) low)

    -- the unit parameters have slots
    pub parameters_within : (parameters : ℕ) → parameters ≡ f.units → parameters ≤ r.slots
    parameters_within parameters is =
        let own = parameters_have_slots f.units (text_keys records schemes i f) in
        let slots : r.slots ≡ slot_count records schemes i f = h.slots in
        omega (arith, own, slots, is)

    judged_by_rows : judge bases records schemes i f ≡ by_rows bases f.units r.slots f.at (rows_signature r) r.list.items.items
    judged_by_rows =
        within h.few ∙ ap (λ o. by_range o by_own_rows) h.in_range
        ∙ ap (λ g. by_rows bases f.units (slot_count records schemes i f) f.at g (rows_of (slot_equations records schemes i f).steps)) (sym same_signature)
        ∙ ap (λ rs. by_rows bases f.units (slot_count records schemes i f) f.at (rows_signature r) rs) (sym h.list)
        ∙ ap (λ n. by_rows bases f.units n f.at (rows_signature r) r.list.items.items) (sym h.slots)

    pub solved_is_judged : (b parameters at : ℕ) (answer : Result Scheme Refusal) → b ≡ bases → parameters ≡ f.units → at ≡ f.at →
        IsAnswer (by_rows b parameters r.slots at (rows_signature r) r.list.items.items) answer → IsAnswer (judge bases records schemes i f) answer
    solved_is_judged b parameters at answer base_units count place is =
        subst (λ j. IsAnswer j answer) (sym judged_by_rows)
        (subst (λ n. IsAnswer (by_rows n f.units r.slots f.at (rows_signature r) r.list.items.items) answer) base_units
        (subst (λ n. IsAnswer (by_rows b n r.slots f.at (rows_signature r) r.list.items.items) answer) count
        (subst (λ k. IsAnswer (by_rows b parameters r.slots k (rows_signature r) r.list.items.items) answer) place is)))

-- the schemes before hold their own variables alone
pub own_variables_alone : (p : ProgramTree) (schemes : List SchemeTree) (i : ℕ) → HaveSchemes p schemes i → HaveVariablesBelow i schemes
own_variables_alone p schemes i have j s l e =
    let h = have j l in
    let same : h.scheme ≡ s = (let both : Some h.scheme ≡ Some s = sym h.stands ∙ e in cc both) in
    subst (λ (t : SchemeTree). All (λ k. k < t.vars) (variables (signature_types t.signature))) same h.principal.below
