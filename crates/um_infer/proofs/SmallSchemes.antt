-- The schemes that are given have few variables and few parameters.
use Rattle.std.proofs.Common.{◌≡◌, ℕ, zero, suc, ◌+◌, ◌-◌, ◌<◌, ◌≤◌, false, not, ◌||◌, cond, eqb, leb, inl, inr, Option, Some, None, List, [], ◌∷◌, length, map, slice_get, refl, sym, ap, ◌∙◌, subst, arith}
use Rattle.std.specs.Prelude.{IsTrue, All}
use Rattle.std.specs.List.{flat_map, AllByRecursion, IsDistinct}
use Rattle.std.proofs.lemmas.Bool.{cases_lt, and_parts, eq-eqb, ne_eqb}
use Rattle.std.proofs.lemmas.Bool.Decides.{nat_tests}
use Rattle.std.proofs.lemmas.List.{length-map}
use Rattle.std.proofs.lemmas.List.Elements.{All-nil, All-cons, All-head, All-tail, All-append}
use Rattle.um_units.specs.PowerMap.{PowerMap, replace, nth}
use Rattle.um_units.specs.Variables.{VariablesBelow}
use Rattle.um_units.proofs.Solutions.{IsSubstitutionInstance_refl}
use Rattle.um_tree.specs.TypeTree.{TypeTree, NoteTree, bool_type, num_type, list_type, record_type}
use Rattle.um_tree.specs.ProgramTree.{FunctionTree, ProgramTree, Signature, SchemeTree}
use Rattle.um_tree.specs.Typing.{put, put_signature, moved}
use Rattle.um_tree.specs.Scheme.{unit_variables, type_variables, variables, signature_types}
use Rattle.um_tree.specs.Formed.{IsFormed}
use Rattle.um_elim.specs.Numbering.{variable_order, by_place}
use Rattle.um_elim.specs.Solution.{own_variables, rigid_units, parameter_rows}
use Rattle.um_elim.proofs.Cases.{on_test}
use Rattle.um_elim.proofs.Slots.{length-rigid}
use Rattle.um_elim.proofs.FirstOccurrences.{member, distinct, member-back, member-first, distinct-first}
use Rattle.um_elim.proofs.RenamedUnits.{member-held}
use Rattle.um_elim.proofs.GrowingOrder.{All-front, All-back, All-member, at_most}
use Rattle.um_elim.proofs.VariablesKept.{unit_below}
use Rattle.um_equal_types.specs.declared.row.Row.{Row}
use Rattle.um_equal_types.specs.Steps.{rows_of, units_of, first_past}
use Rattle.um_slots.specs.Slots.{slot_count}
use Rattle.um_rows.specs.Equations.{slot_equations}
use Rattle.um_rows.specs.Solutions.{slot_signature}
use Rattle.um_slots.specs.Noted.{noted_types}
use Rattle.um_slots.specs.Holes.{note_holes}
use Rattle.um_slots.specs.Keys.{text_keys}
use Rattle.um_rows.specs.FirstUnsolvable.{Solving, solved, unsolved, out_of_range, solve, rows_up_to}
use Rattle.um_rows.specs.Generalised.{generalised_unit, generalised}
use Rattle.um_rows.specs.Judgement.{numbered_scheme, signature_fits, Judgement, has_scheme, too_many_slots, passes_range, has_no_typing, not_general, by_slots, by_solution, by_solving, by_rows, by_range, judge}
use Rattle.um_slots.proofs.ParameterSlots.{parameters_have_slots}
use Rattle.um_rows.proofs.SolvingLaws.{IsRightFor, solve_rigidly}
use Rattle.um_rows.proofs.Solved.{rows_hold_slots, types_hold_slots}
use Rattle.um_infer.specs.Inference.{Inference, all_schemes, stops_at_slots, stops_at_range, stops_at_units, stops_at_not_general, with_judgement, with_function, and_then, infer_first}
use Rattle.um_infer.specs.Schemes.{ArePrincipal}
use Rattle.um_infer.specs.Laws.{IsSmallScheme, GivenSchemesAreSmall}
use Rattle.um_infer.proofs.SchemeLists.{item_at, item_or_last}
use Rattle.um_infer.proofs.PrincipalSchemes.{have_schemes}
use Rattle.um_infer.proofs.InferenceLaws.{first_are_principal}
use Rattle.um_infer.proofs.FormingSteps.{puts_below, types-put, types-moved}
use Rattle.um_infer.proofs.GeneralSteps.{types_stay}
use Rattle.um_infer.proofs.AbsentVariables.{Lacks, put_lacks, solved_lack, rigid_lack, general_lacks}

-- ---- numbers that stand once in a list, from p on and n above it at most, are at most n
all_members : (P : ℕ → Type 0) (xs : List ℕ) → ((j : ℕ) → IsTrue (member j xs) → P j) → All P xs
all_members P [] h = All-nil P
all_members P (x ∷ xs) h =
    All-cons P x xs (h x (ap (λ b. b || member x xs) (eq-eqb x x refl))) (all_members P xs (λ j m. h j (member-back j (x ∷ []) xs m)))

module _ (p : ℕ) where
  abbrev shift : ℕ → ℕ
  shift j = j - p

  abbrev Past : List ℕ → Type 0
  Past xs = All (λ j. p ≤ j) xs

  apart : (x : ℕ) (xs : List ℕ) → p ≤ x → Past xs → IsTrue (not (member x xs)) → AllByRecursion (λ y. eqb (shift x) y ≡ false) (map shift xs)
  apart x [] l past h = tt
  apart x (y ∷ ys) l past h =
      on_test (eqb x y)
      (λ e. let f : not (eqb x y || member x ys) ≡ false = ap (λ b. not (b || member x ys)) e in absurd (cc (sym f ∙ h)))
      (λ e.
      let g : p ≤ y = All-head (λ j. p ≤ j) y ys past in
      let rest : IsTrue (not (member x ys)) = sym (ap (λ b. not (b || member x ys)) e) ∙ h in
      (ne_eqb (x - p) (y - p) (λ q. let same : x ≡ y = omega (arith, q, l, g) in let t = eq-eqb x y same in absurd (cc (sym t ∙ e))), apart x ys l (All-tail (λ j. p ≤ j) y ys past) rest))

  distinct_shifted : (xs : List ℕ) → Past xs → IsTrue (distinct xs) → IsDistinct eqb (map shift xs)
  unfolding IsDistinct
  distinct_shifted [] past h = tt
  distinct_shifted (x ∷ xs) past h =
      let parts = and_parts (not (member x xs)) (distinct xs) h in
      let rest = All-tail (λ j. p ≤ j) x xs past in
      (apart x xs (All-head (λ j. p ≤ j) x xs past) rest parts.0, distinct_shifted xs rest parts.1)

  below_shifted : (n : ℕ) (xs : List ℕ) → Past xs → All (λ j. j < n + p) xs → All (λ j. j < n) (map shift xs)
  below_shifted n [] past low = All-nil (λ j. j < n)
  below_shifted n (x ∷ xs) past low =
      let a : p ≤ x = All-head (λ j. p ≤ j) x xs past in
      let b : x < n + p = All-head (λ j. j < n + p) x xs low in
      All-cons (λ j. j < n) (x - p) (map shift xs) (omega (arith, a, b)) (below_shifted n xs (All-tail (λ j. p ≤ j) x xs past) (All-tail (λ j. j < n + p) x xs low))

  few_between : (n : ℕ) (xs : List ℕ) → IsTrue (distinct xs) → Past xs → All (λ j. j < n + p) xs → length xs ≤ n
  few_between n xs once past low = subst (λ m. m ≤ n) (length-map xs shift) (at_most (map shift xs) n (distinct_shifted xs past once) (below_shifted n xs past low))

  -- so few variables have types whose variables are so
  few_variables : (n : ℕ) (ts : List TypeTree) → Past (variables ts) → All (λ j. j < n + p) (variables ts) → length (variable_order ts) ≤ n
  few_variables n ts past low =
      few_between n (variable_order ts) (distinct-first (variables ts))
      (all_members (λ j. p ≤ j) (variable_order ts) (λ j m. All-member (λ i. p ≤ i) (variables ts) j past (sym (member-first j (variables ts)) ∙ m)))
      (all_members (λ j. j < n + p) (variable_order ts) (λ j m. All-member (λ i. i < n + p) (variables ts) j low (sym (member-first j (variables ts)) ∙ m)))

-- ---- the types of a solution, with the unit parameters as variables
module _ (bases parameters slots : ℕ) (within : parameters ≤ slots) (us : List PowerMap) (long : length us ≡ slots) (lacking : (k : ℕ) → k < parameters → All (Lacks k) us) where
  abbrev general : PowerMap → PowerMap
  general = generalised_unit bases parameters slots

  unit_past : (u : PowerMap) → All (λ k. k < slots) (unit_variables u) → Past parameters (unit_variables (general (replace (nth us) u)))
  unit_past u low =
      all_members (λ j. parameters ≤ j) (unit_variables (general (replace (nth us) u))) (λ j m. elim (cases_lt j parameters) [
        | inl l ↦
            let below : VariablesBelow (length us) u = subst (λ n. VariablesBelow n u) (sym long) (unit_below slots u low) in
            let none = general_lacks j bases parameters slots (omega (arith, l, within)) (replace (nth us) u) (put_lacks j us u below (lacking j l)) in
            absurd (member-held (general (replace (nth us) u)) j m none)
        | inr le ↦ le
      ])

  units_past : (vs : List PowerMap) → All (λ k. k < slots) (flat_map unit_variables vs) → Past parameters (flat_map unit_variables (map general (map (replace (nth us)) vs)))
  units_past [] low = All-nil (λ j. parameters ≤ j)
  units_past (v ∷ vs) low =
      All-append (λ j. parameters ≤ j) (unit_variables (general (replace (nth us) v))) (flat_map unit_variables (map general (map (replace (nth us)) vs)))
      (unit_past v (All-front (λ k. k < slots) (unit_variables v) (flat_map unit_variables vs) low))
      (units_past vs (All-back (λ k. k < slots) (unit_variables v) (flat_map unit_variables vs) low))

  type_past : (t : TypeTree) → All (λ k. k < slots) (type_variables t) → Past parameters (type_variables (moved general (put (nth us) t)))
  type_past bool_type low = All-nil (λ j. parameters ≤ j)
  type_past (num_type u) low = unit_past u low
  type_past (list_type t) low = type_past t low
  type_past (record_type r vs) low = units_past vs low

  types_past : (ts : List TypeTree) → All (λ k. k < slots) (variables ts) → Past parameters (variables (map (moved general) (map (put (nth us)) ts)))
  types_past [] low = All-nil (λ j. parameters ≤ j)
  types_past (t ∷ ts) low =
      All-append (λ j. parameters ≤ j) (type_variables (moved general (put (nth us) t))) (variables (map (moved general) (map (put (nth us)) ts)))
      (type_past t (All-front (λ k. k < slots) (type_variables t) (variables ts) low))
      (types_past ts (All-back (λ k. k < slots) (type_variables t) (variables ts) low))

  -- no more variables than slots
  solution_small : All (VariablesBelow slots) us → (g : Signature) → All (λ k. k < slots) (variables (signature_types g)) → length (variable_order (signature_types (generalised bases parameters slots (put_signature (nth us) g)))) ≤ slots
  solution_small below g low =
      let solution = put_signature (nth us) g in
      let same : signature_types (generalised bases parameters slots solution) ≡ map (moved general) (map (put (nth us)) (signature_types g)) =
      types-moved general solution ∙ ap (map (moved general)) (types-put (nth us) g) in
      let kept = puts_below slots us below (signature_types g) (subst (λ n. All (λ k. k < n) (variables (signature_types g))) (sym long) low) in
      subst (λ ts. length (variable_order ts) ≤ slots) (sym same)
      (few_variables parameters slots (map (moved general) (map (put (nth us)) (signature_types g))) (types_past (signature_types g) low)
      (types_stay bases parameters slots (map (put (nth us)) (signature_types g)) kept))

-- ---- a judgement
module _ (most params : ℕ) where
  abbrev IsSmall : Judgement → Type 0
  IsSmall (has_scheme s) = (s.vars ≤ most) × (length s.signature.params ≡ params)
  IsSmall too_many_slots = Unit {0}
  IsSmall (passes_range at) = Unit {0}
  IsSmall (has_no_typing k at) = Unit {0}
  IsSmall (not_general k at) = Unit {0}

  slots_small : (k at : ℕ) (r : Solving) → IsSmall (by_slots k at r)
  slots_small k at (solved us) = tt
  slots_small k at (unsolved j row) = tt
  slots_small k at (out_of_range row) = tt

  range_small : (o : Option ℕ) (j : Judgement) → IsSmall j → IsSmall (by_range o j)
  range_small None j h = h
  range_small (Some at) j h = tt

module _ (bases parameters slots at : ℕ) (within : parameters ≤ slots) (g : Signature) (rows : List Row) (low : All (VariablesBelow slots) (units_of rows)) (own : All (λ k. k < slots) (variables (signature_types g))) where
  as_many : (us : List PowerMap) → length (numbered_scheme (generalised bases parameters slots (put_signature (nth us) g))).signature.params ≡ length g.params
  as_many us =
      let solution = put_signature (nth us) g in
      let general = generalised bases parameters slots solution in
      length-map general.params (put (by_place (variable_order (signature_types general)))) ∙ length-map solution.params (moved (generalised_unit bases parameters slots)) ∙ length-map g.params (put (nth us))

  solution_judged : (us : List PowerMap) → solve 0 rows (rigid_units bases parameters slots) ≡ solved us → IsRightFor slots (parameter_rows bases parameters) rows (solved us) → IsSmall slots (length g.params) (by_solution bases parameters slots at (put_signature (nth us) g))
  solution_judged us is right =
      let solution = put_signature (nth us) g in
      let scheme = numbered_scheme (generalised bases parameters slots solution) in
      let long : length us ≡ slots = ((right.0 us).0 (IsSubstitutionInstance_refl us)).per_slot in
      let lacking : (k : ℕ) → k < parameters → All (Lacks k) us = λ k l. solved_lack k slots rows (rigid_units bases parameters slots) us (length-rigid bases parameters slots) low (rigid_lack k bases parameters slots l) is in
      let few = solution_small bases parameters slots within us long lacking right.1 g own in
      on_test (signature_fits solution)
      (λ e. subst (λ b. IsSmall slots (length g.params) (cond b (has_scheme scheme) (passes_range at))) (sym e) (few, as_many us))
      (λ e. subst (λ b. IsSmall slots (length g.params) (cond b (has_scheme scheme) (passes_range at))) (sym e) tt)

  solving_judged : (r : Solving) → solve 0 rows (rigid_units bases parameters slots) ≡ r → IsRightFor slots (parameter_rows bases parameters) rows r → IsSmall slots (length g.params) (by_solving bases parameters slots at g rows r)
  solving_judged (solved us) is right = solution_judged us is right
  solving_judged (unsolved k row) is right = slots_small slots (length g.params) k row (solve 0 (rows_up_to k rows) (own_variables slots))
  solving_judged (out_of_range row) is right = tt

  rows_judged : IsSmall slots (length g.params) (by_rows bases parameters slots at g rows)
  rows_judged = solving_judged (solve 0 rows (rigid_units bases parameters slots)) refl (solve_rigidly bases parameters slots rows within low)

noted_count : (holes names : ℕ → PowerMap) (n : ℕ) (ms : List NoteTree) → length (noted_types holes names n ms) ≡ length ms
noted_count holes names n [] = refl
noted_count holes names n (m ∷ ms) = ap suc (noted_count holes names (n + note_holes m) ms)

at_most_more : (j : Judgement) (most more params : ℕ) → most ≤ more → IsSmall most params j → IsSmall more params j
at_most_more (has_scheme s) most more params l h = let few = h.0 in (omega (arith, few, l), h.1)
at_most_more too_many_slots most more params l h = tt
at_most_more (passes_range at) most more params l h = tt
at_most_more (has_no_typing k at) most more params l h = tt
at_most_more (not_general k at) most more params l h = tt

module _ (p : ProgramTree) (schemes : List SchemeTree) (i : ℕ) (f : FunctionTree) (before : ArePrincipal p i schemes) where
  judged_small : IsSmall 2000 (length f.params) (judge (length p.bases) p.records schemes i f)
  judged_small =
      let n = slot_count p.records schemes i f in
      let steps = (slot_equations p.records schemes i f).steps in
      let g = slot_signature p.records schemes i f in
      let j = by_range (first_past steps) (by_rows (length p.bases) f.units n f.at g (rows_of steps)) in
      let have = have_schemes p i schemes before in
      let within = parameters_have_slots f.units (text_keys p.records schemes i f) in
      let count : length g.params ≡ length f.params = noted_count _ _ 0 f.params in
      let small = rows_judged (length p.bases) f.units n f.at within g (rows_of steps) (rows_hold_slots p schemes i f have) (types_hold_slots p schemes i f have) in
      let own : IsSmall n (length f.params) j =
      subst (λ m. IsSmall n m j) count (range_small n (length g.params) (first_past steps) (by_rows (length p.bases) f.units n f.at g (rows_of steps)) small) in
      on_test (leb n 2000)
      (λ e.
      let few : n ≤ 2000 = grind (arith, nat_tests) in
      subst (λ b. IsSmall 2000 (length f.params) (cond b j too_many_slots)) (sym e) (at_most_more j n 2000 (length f.params) few own))
      (λ e. subst (λ b. IsSmall 2000 (length f.params) (cond b j too_many_slots)) (sym e) tt)

-- ---- all functions
abbrev AreSmall : List SchemeTree → Type 0
AreSmall schemes = (i : ℕ) (s : SchemeTree) → slice_get schemes i ≡ Some s → IsSmallScheme s

abbrev HaveSmall : Inference → Type 0
HaveSmall (all_schemes schemes) = AreSmall schemes
HaveSmall (stops_at_slots i) = Unit {0}
HaveSmall (stops_at_range i at) = Unit {0}
HaveSmall (stops_at_units i row at) = Unit {0}
HaveSmall (stops_at_not_general i row at) = Unit {0}

module _ (p : ProgramTree) (formed : IsFormed p) where
  one_more_small : (n : ℕ) (schemes : List SchemeTree) (params : ℕ) (j : Judgement) → params ≤ 16 → AreSmall schemes → IsSmall 2000 params j → HaveSmall (with_judgement schemes n j)
  one_more_small n schemes params (has_scheme s) few h small = λ i t e. elim (item_or_last schemes s i t e) [
    | inl there ↦ h i t there
    | inr last ↦ subst IsSmallScheme last.1 (let count = small.1 in (small.0, omega (arith, count, few)))
  ]
  one_more_small n schemes params too_many_slots few h small = tt
  one_more_small n schemes params (passes_range at) few h small = tt
  one_more_small n schemes params (has_no_typing k at) few h small = tt
  one_more_small n schemes params (not_general k at) few h small = tt

  next_small : (n : ℕ) → n < length p.functions → (r : Inference) → infer_first p n ≡ r → HaveSmall r → HaveSmall (and_then r (λ schemes. with_function (length p.bases) p.records schemes n (slice_get p.functions n)))
  next_small n l (all_schemes schemes) is h =
      let w = item_at p.functions n l in
      let few = (formed.functions n w.0 w.1).few_params in
      let before = first_are_principal p formed n schemes (omega (arith, l)) is in
      subst (λ o. HaveSmall (with_function (length p.bases) p.records schemes n o)) (sym w.1)
      (one_more_small n schemes (length (w.0).params) (judge (length p.bases) p.records schemes n w.0) few h (judged_small p schemes n w.0 before))
  next_small n l (stops_at_slots i) is h = tt
  next_small n l (stops_at_range i at) is h = tt
  next_small n l (stops_at_units i row at) is h = tt
  next_small n l (stops_at_not_general i row at) is h = tt

  first_small : (n : ℕ) → n ≤ length p.functions → HaveSmall (infer_first p n)
  first_small zero l = λ i s e. absurd (cc e)
  first_small (suc n) l = next_small n (omega arith) (infer_first p n) refl (first_small n (omega arith))

pub given_schemes_are_small : GivenSchemesAreSmall
given_schemes_are_small p formed schemes is = subst HaveSmall is (first_small p formed (length p.functions) (omega arith))
