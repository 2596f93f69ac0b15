-- What is known of a function that is refused for units.
use Rattle.std.proofs.Common.{◌≡◌, ℕ, ◌<◌, ◌≤◌, Bool, true, false, cond, List, ◌∷◌, length, get_or, slice_get, Some, None, Err, refl, sym, ap, ◌∙◌, subst, arith}
use Rattle.std.specs.Prelude.{All}
use Rattle.std.proofs.lemmas.List.{length-append}
use Rattle.std.proofs.lemmas.Option.{slice_get_within}
use Rattle.um_units.specs.PowerMap.{PowerMap, nth}
use Rattle.um_units.specs.Variables.{VariablesBelow}
use Rattle.um_tree.specs.RawTree.{DeclSyntax}
use Rattle.um_tree.specs.ProgramTree.{FunctionTree, ProgramTree, Signature, SchemeTree, program_tree}
use Rattle.um_tree.specs.Typing.{put_signature}
use Rattle.um_tree.specs.Formed.{IsFormed}
use Rattle.um_tree.specs.Laws.{LiteralsAreClosed}
use Rattle.um_tree.specs.Shapes.{IsShaped}
use Rattle.um_tree.proofs.WrittenUnits.{formed_literals_are_closed}
use Rattle.um_elim.specs.Solution.{own_variables, rigid_units, parameter_rows}
use Rattle.um_elim.proofs.Cases.{on_test}
use Rattle.um_slots.specs.Keys.{name}
use Rattle.um_slots.specs.Slots.{function_slots, slot_count, has_slot, place}
use Rattle.um_slots.proofs.KeyOrder.{place-low}
use Rattle.um_equal_types.specs.declared.row.Row.{Row}
use Rattle.um_equal_types.specs.declared.row.Rows.{Rows}
use Rattle.um_equal_types.specs.declared.row.RowStop.{RowStop}
use Rattle.um_equal_types.specs.declared.row.RowStop.TheVariants as rows_stop
use Rattle.um_equal_types.specs.Steps.{rows_of, units_of}
use Rattle.um_rows.specs.Equations.{slot_equations}
use Rattle.um_rows.specs.Solutions.{slot_signature, HaveSchemes}
use Rattle.um_rows.specs.FirstUnsolvable.{Solving, solved, unsolved, out_of_range, solve, rows_up_to}
use Rattle.um_rows.specs.RightShapes.{HaveRightShapes}
use Rattle.um_rows.specs.Generalised.{generalised}
use Rattle.um_rows.specs.Judgement.{has_scheme, passes_range, numbered_scheme, by_slots, by_solution, by_solving, signature_fits, judge}
use Rattle.um_rows.specs.Answers.{AreEquations, StopsFor, HaveVariablesBelow}
use Rattle.um_rows.specs.Laws.{IsFirstRow}
use Rattle.um_rows.proofs.JudgementLaws.{judged_untyped_have_none, judged_not_general_have_none}
use Rattle.um_rows.proofs.Solved.{rows_hold_slots}
use Rattle.um_rows.proofs.TypedShapes.{shaped_functions_form_no_wrong_shape}
use Rattle.um_reasons.specs.CoreLaws.{EndsUnsolvable}
use Rattle.um_reasons.proofs.FirstRows.{first_unsolvable_ends, first_unsolvable_ends_alone}
use Rattle.um_agree.specs.Answers.{AreKept}
use Rattle.um_agree.specs.Laws.{HoldsSlots}
use Rattle.um_agree.specs.FunctionAgreements.{function_agreements}
use Rattle.um_agree.proofs.SlotsHeld.{agreements_hold_slots}
use Rattle.um_infer.specs.declared.stop.InferStop.{InferStop}
use Rattle.um_infer.specs.declared.stop.InferStop.TheVariants as infer_stop
use Rattle.um_infer.specs.Inference.{all_schemes, infer_first}
use Rattle.um_infer.specs.Schemes.{IsJudged}
use Rattle.um_infer.specs.Answers.{IsFirstInferred}
use Rattle.um_infer.proofs.SchemeJudgements.{IsUnlimited, HasJudgement, judged_rows, schemes_before}
use Rattle.um_infer.proofs.Judged.{few_slots, rows_below, parameters_within, own_variables_alone}
use Rattle.um_unit_reasons.specs.declared.failing.Failing.{Failing}
use Rattle.um_unit_reasons.specs.UnitReasons.{UnitReason, IsUnitReason, refusal, slot_in, unsolvable, rigid_parameters, IsReasonOf}
use Rattle.um_unit_reasons.specs.VariableNames.{function_variables}
use Rattle.um_unit_reasons.specs.Answers.{IsRefused, IsSound, refusal_of}

-- ---- the row with which it is refused
unlimited : (rigid : Bool) (row at : ℕ) → IsUnlimited (unsolvable rigid row at)
unlimited false row at = tt
unlimited true row at = tt

scheme_apart : (rigid : Bool) (s : SchemeTree) (row at : ℕ) → has_scheme s ≡ unsolvable rigid row at → ⊥
scheme_apart false s row at e = absurd (cc e)
scheme_apart true s row at e = absurd (cc e)

range_apart : (rigid : Bool) (place row at : ℕ) → passes_range place ≡ unsolvable rigid row at → ⊥
range_apart false place row at e = absurd (cc e)
range_apart true place row at e = absurd (cc e)

same_row : (rigid : Bool) (row at k place : ℕ) (s : Solving) → by_slots k place s ≡ unsolvable rigid row at → k ≡ row
same_row false row at k place (solved units) e = absurd (cc e)
same_row false row at k place (unsolved j p) e = cc e
same_row false row at k place (out_of_range p) e = absurd (cc e)
same_row true row at k place (solved units) e = cc e
same_row true row at k place (unsolved j p) e = absurd (cc e)
same_row true row at k place (out_of_range p) e = absurd (cc e)

module _ (bases parameters slots at : ℕ) (g : Signature) (rows : List Row) (rigid : Bool) (row place : ℕ) where
  no_solution : (h : Signature) → by_solution bases parameters slots at h ≡ unsolvable rigid row place → ⊥
  no_solution h e =
      let scheme = numbered_scheme (generalised bases parameters slots h) in
      on_test (signature_fits h)
      (λ t. scheme_apart rigid scheme row place (subst (λ b. cond b (has_scheme scheme) (passes_range at) ≡ unsolvable rigid row place) t e))
      (λ t. range_apart rigid at row place (subst (λ b. cond b (has_scheme scheme) (passes_range at) ≡ unsolvable rigid row place) t e))

  stops_there : (s : Solving) → by_solving bases parameters slots at g rows s ≡ unsolvable rigid row place → (p : ℕ) × (s ≡ unsolved row p)
  stops_there (solved units) e = absurd (no_solution (put_signature (nth units) g) e)
  stops_there (unsolved k p) e = (p, ap (λ n. unsolved n p) (same_row rigid row place k p (solve 0 (rows_up_to k rows) (own_variables slots)) e))
  stops_there (out_of_range p) e = absurd (range_apart rigid p row place e)

ends_as : (s t b c n m : ℕ) (us vs : List PowerMap) → s ≡ t → b ≡ c → n ≡ m → us ≡ vs → EndsUnsolvable s (parameter_rows b n) us → EndsUnsolvable t (parameter_rows c m) vs
ends_as s t b c n m us vs slots bases parameters units ends =
    subst (λ k. EndsUnsolvable k (parameter_rows c m) vs) slots
    (subst (λ k. EndsUnsolvable s (parameter_rows k m) vs) bases
    (subst (λ k. EndsUnsolvable s (parameter_rows b k) vs) parameters (subst (EndsUnsolvable s (parameter_rows b n)) units ends)))

-- ---- from what the inference says to what the code has of it, and back
pub refused_by : (p : ProgramTree) (schemes : List SchemeTree) (i : ℕ) (rigid : Bool) → (row : ℕ) × (at : ℕ) × IsJudged p i (unsolvable rigid row at) → infer_first p i ≡ all_schemes schemes → IsRefused p schemes i rigid
refused_by p schemes i rigid (row, at, j) before =
    let same : j.schemes ≡ schemes = (let both : all_schemes j.schemes ≡ all_schemes schemes = sym j.before ∙ before in cc both) in
    record {
      function = j.function;
      declared = j.declared;
      before = before;
      row = row;
      at = at;
      judged = subst (λ ss. judge (length p.bases) p.records ss i j.function ≡ unsolvable rigid row at) same j.judged;
    }

pub reason_by : (declared : List DeclSyntax) (p : ProgramTree) (schemes : List SchemeTree) (i : ℕ) (rigid : Bool) (names : List (List ℕ)) (h : IsRefused p schemes i rigid) (r : UnitReason) → names ≡ function_variables declared i →
    IsUnitReason (refusal p schemes i h.function names (rigid_parameters rigid h.function.units) h.row) r → IsReasonOf declared p i rigid r
reason_by declared p schemes i rigid names h r is told = (
  h.row,
  h.at,
  record { function = h.function; declared = h.declared; schemes = schemes; before = h.before; judged = h.judged },
  subst (λ ns. IsUnitReason (refusal p schemes i h.function ns (rigid_parameters rigid h.function.units) h.row) r) is told,
)

pub none_before : (p : ProgramTree) (n : ℕ) (schemes : List SchemeTree) → infer_first p n ≡ all_schemes schemes → (e : InferStop) → IsFirstInferred p n (Err e) → e ≡ infer_stop.NoMemory
none_before p n schemes before (infer_stop.Units i at) h = let both = sym before ∙ h.1 in absurd (cc both)
none_before p n schemes before (infer_stop.NotGeneral i at) h = let both = sym before ∙ h.1 in absurd (cc both)
none_before p n schemes before (infer_stop.PowerRange i at) h = let both = sym before ∙ h in absurd (cc both)
none_before p n schemes before (infer_stop.Slots i) h = let both = sym before ∙ h in absurd (cc both)
none_before p n schemes before infer_stop.NoMemory h = refl

-- ---- the function
module _ (p : ProgramTree) (formed : IsFormed p) (shaped : IsShaped p) (schemes : List SchemeTree) (i : ℕ) (rigid : Bool) (h : IsRefused p schemes i rigid) where
  abbrev pub f : FunctionTree
  f = h.function

  pub inside : i < length p.functions
  inside = slice_get_within p.functions i f h.declared

  pub have : HaveSchemes p schemes i
  have = schemes_before p formed i schemes (omega (arith, inside)) h.before

  pub below : HaveVariablesBelow i schemes
  below = own_variables_alone p schemes i have

  pub right : HaveRightShapes (slot_equations p.records schemes i f).steps
  right = let g = shaped i f h.declared in shaped_functions_form_no_wrong_shape p schemes i f g.0 formed h.declared g.1 have

  pub same_function : (g : FunctionTree) → slice_get p.functions i ≡ Some g → f ≡ g
  same_function g e = let both : Some f ≡ Some g = sym h.declared ∙ e in cc both

  pub right_for : (g : FunctionTree) → slice_get p.functions i ≡ Some g → HaveRightShapes (slot_equations p.records schemes i g).steps
  right_for g e = subst (λ k. HaveRightShapes (slot_equations p.records schemes i k).steps) (same_function g e) right

  has : HasJudgement (length p.bases) p.records schemes i f (unsolvable rigid h.row h.at)
  has = judged_rows (length p.bases) p.records schemes i f (unsolvable rigid h.row h.at) (unlimited rigid h.row h.at) h.judged

  -- the rows are within the limits
  pub no_stop : (stop : RowStop) → StopsFor p.records schemes i f stop → stop ≡ rows_stop.NoMemory
  no_stop rows_stop.Slots many = let few = has.few in absurd (omega (arith, few, many))
  no_stop (rows_stop.Range at) past = let both = sym has.in_range ∙ past.1 in absurd (cc both)
  no_stop rows_stop.NoMemory past = refl

  abbrev pub slots : ℕ
  slots = slot_count p.records schemes i f

  abbrev pub own_rows : List Row
  own_rows = rows_of (slot_equations p.records schemes i f).steps

  stop : (at : ℕ) × (solve 0 own_rows (rigid_units (length p.bases) f.units slots) ≡ unsolved h.row at)
  stop = stops_there (length p.bases) f.units slots f.at (slot_signature p.records schemes i f) own_rows rigid h.row h.at (solve 0 own_rows (rigid_units (length p.bases) f.units slots)) has.by

  judged_as : (r : Bool) → rigid ≡ r → judge (length p.bases) p.records schemes i f ≡ unsolvable r h.row h.at
  judged_as r e = h.judged ∙ ap (λ b. unsolvable b h.row h.at) e

  closed : LiteralsAreClosed f.body
  closed = formed_literals_are_closed p i formed i f (omega arith) h.declared

  first_by : (r : Bool) → rigid ≡ r → IsFirstRow p schemes i f h.row h.at
  first_by false e = let laws = judged_untyped_have_none p schemes i f h.declared closed have h.row h.at (judged_as false e) in laws.0
  first_by true e = let laws = judged_not_general_have_none p schemes i f h.declared closed have h.row h.at (judged_as true e) in laws.0

  ends_by : (r : Bool) → rigid ≡ r → EndsUnsolvable slots (parameter_rows (length p.bases) (rigid_parameters r f.units)) (units_of (rows_up_to h.row own_rows))
  ends_by false e =
      let laws = judged_untyped_have_none p schemes i f h.declared closed have h.row h.at (judged_as false e) in
      first_unsolvable_ends_alone slots (parameter_rows (length p.bases) f.units) own_rows h.row h.at laws.0 laws.1
  ends_by true e = first_unsolvable_ends slots (parameter_rows (length p.bases) f.units) own_rows h.row h.at (first_by true e)

  row_within : h.row < length own_rows
  row_within =
      let first = first_by rigid refl in
      let all = ap (λ (rs : List Row). length rs) first.splits in
      let parts = length-append first.before (first.row ∷ first.behind) in
      let index = first.index in
      omega (arith, all, parts, index)

  low_slot : (v s : ℕ) → slot_in (function_slots p.records schemes i f) v ≡ Some s → s < slots
  low_slot v s e =
      let order = function_slots p.records schemes i f in
      on_test (has_slot order (name v))
      (λ t.
      let there = subst (λ b. cond b (Some (place order (name v))) None ≡ Some s) t e in
      let same : place order (name v) ≡ s = cc there in
      subst (λ k. k < slots) same (place-low order (name v) t))
      (λ t. let none = subst (λ b. cond b (Some (place order (name v))) None ≡ Some s) t e in absurd (cc none))

  -- ---- by the equations that the code has
  module _ (r : Rows) (e : AreEquations p.records schemes i f r) where
    pub few : r.slots ≤ 2000
    few = few_slots (length p.bases) p.records schemes i f r e

    pub rows_low : All (λ (row : Row). VariablesBelow r.slots row.unit) r.list.items.items
    rows_low = rows_below (length p.bases) p.records schemes i f r e (rows_hold_slots p schemes i f have)

    pub units_within : (n : ℕ) → n ≡ f.units → n ≤ r.slots
    units_within n is = parameters_within (length p.bases) p.records schemes i f r e n is

    -- they stop at the row
    pub stops : (bases units : ℕ) → bases ≡ length p.bases → units ≡ f.units → (at : ℕ) × (solve 0 r.list.items.items (rigid_units bases units r.slots) ≡ unsolved h.row at)
    stops bases units b u = (
      stop.0,
      (λ k. solve 0 (e.list k) (rigid_units (b k) (u k) (e.slots k))) ∙ stop.1,
    )

    -- what the code has is the refusal of the function
    module _ (x : Failing) (agreed : AreKept (function_agreements p.records schemes i f) x.found.now) (found : x.found.now.rows ≡ r) (program : program_tree x.program.now ≡ p) (parameters : x.parameters ≡ rigid_parameters rigid f.units) (row : x.row ≡ h.row)
        (variables : (v : ℕ) → get_or x.variables.now v None ≡ slot_in (function_slots p.records schemes i f) v) where
      same_slots : x.found.now.rows.slots ≡ slots
      same_slots = ap (λ (s : Rows). s.slots) found ∙ e.slots

      same_list : x.found.now.rows.list.items.items ≡ own_rows
      same_list = ap (λ (s : Rows). s.list.items.items) found ∙ e.list

      pub is_refusal : refusal_of x (function_agreements p.records schemes i f) ≡ refusal p schemes i f x.names.now (rigid_parameters rigid f.units) h.row
      is_refusal = λ k. record {
        program = program k;
        names = x.names.now;
        slot_of = λ v. variables v k;
        slots = same_slots k;
        agreed = function_agreements p.records schemes i f;
        rows = rows_up_to (row k) (same_list k);
        parameters = parameters k;
      }

      few_parameters : (b : Bool) → rigid_parameters b f.units ≤ f.units
      few_parameters false = omega arith
      few_parameters true = omega arith

      pub is_sound : IsSound x (function_agreements p.records schemes i f)
      is_sound = record {
        low = record {
          few = subst (λ (s : Rows). s.slots ≤ 2000) (sym found) few;
          parameters = subst (λ (s : Rows). x.parameters ≤ s.slots) (sym found) (let within = units_within f.units refl in let low = few_parameters rigid in omega (arith, within, low, parameters));
          bases = subst (λ (q : ProgramTree). length q.bases ≤ 16777216) (sym program) formed.few_bases;
          slots_low = λ v s is. subst (λ n. s < n) (sym same_slots) (low_slot v s (sym (variables v) ∙ is));
        };
        within = subst (λ (rs : List Row). x.row < length rs) (sym same_list) (subst (λ n. n < length own_rows) (sym row) row_within);
        rows = subst (λ (s : Rows). All (λ (row : Row). VariablesBelow s.slots row.unit) s.list.items.items) (sym found) rows_low;
        ends =
            ends_as slots x.found.now.rows.slots (length p.bases) (length (program_tree x.program.now).bases) (rigid_parameters rigid f.units) x.parameters (units_of (rows_up_to h.row own_rows)) (units_of (rows_up_to x.row x.found.now.rows.list.items.items))
            (sym same_slots) (ap (λ (q : ProgramTree). length q.bases) (sym program)) (sym parameters) (λ k. units_of (rows_up_to (sym row k) (sym same_list k))) (ends_by rigid refl);
        kept = agreed;
        held = subst (λ n. All (HoldsSlots n) (function_agreements p.records schemes i f)) (sym same_slots) (agreements_hold_slots p schemes i f have right);
      }
