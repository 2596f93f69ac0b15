-- What a function with other places and numbers is judged: the same, at another place.
use Rattle.std.proofs.Common.{◌≡◌, ℕ, suc, nat_le, Bool, true, false, cond, List, [], ◌∷◌, ◌++◌, map, length, Option, Some, None, refl, ◌∙◌}
use Rattle.std.specs.Option.{option_map}
use Rattle.std.proofs.lemmas.List.{take-map}
use Rattle.um_frac.specs.declared.number.Frac.{Frac}
use Rattle.um_units.specs.PowerMap.{PowerMap, atom, nth}
use Rattle.um_units.specs.declared.Atom.TheVariants.{Base}
use Rattle.um_units.specs.Range.{fits}
use Rattle.um_tree.specs.declared.note.UnitNote.{UnitNote}
use Rattle.um_tree.specs.declared.note.UnitNote.TheVariants.{Hole}
use Rattle.um_tree.specs.TypeTree.{TypeTree, NoteTree}
use Rattle.um_tree.specs.ProgramTree.{RecordTree, FunctionTree, Signature, SchemeTree}
use Rattle.um_tree.specs.Typing.{put_signature}
use Rattle.um_elim.specs.Application.{type_fits}
use Rattle.um_elim.specs.Elimination.{Elimination, Solved, NoSolution, Range, eliminate}
use Rattle.um_elim.specs.Solution.{own_variables, rigid_units}
use Rattle.um_slots.specs.Holes.{notes_holes}
use Rattle.um_slots.specs.Callees.{callee, head_holes}
use Rattle.um_slots.specs.Keys.{hole, name}
use Rattle.um_slots.specs.Slots.{slot_order, slot_unit, function_slots, slot_count}
use Rattle.um_slots.specs.Noted.{noted_type, noted_types, noted_result}
use Rattle.um_equal_types.specs.declared.row.Row.{Row}
use Rattle.um_equal_types.specs.Steps.{Step, row_at, wrong_shape_at, type_at, rows_of, first_past}
use Rattle.um_rows.specs.Derivation.{derive}
use Rattle.um_rows.specs.Equations.{Equations, result_rows, own_signature, head_steps, equations, slot_equations}
use Rattle.um_rows.specs.FirstUnsolvable.{Solving, solved, unsolved, out_of_range, after_row, solve, rows_up_to}
use Rattle.um_rows.specs.Generalised.{generalised}
use Rattle.um_rows.specs.Judgement.{numbered_scheme, signature_fits, Judgement, has_scheme, too_many_slots, passes_range, has_no_typing, not_general, by_slots, by_solving, by_rows, by_range, judge}
use Rattle.um_rescaled.proofs.Changed.{changed_function}
use Rattle.um_rescaled.proofs.ChangedSlots.{others, same_function_keys}
use Rattle.um_rescaled.proofs.ChangedSteps.{placed, moved, joined, head_placed, against_placed}
use Rattle.um_rescaled.proofs.ChangedDerivations.{same_derived}

abbrev pub placed_judgement : (ℕ → ℕ) → Judgement → Judgement
placed_judgement place (has_scheme s) = has_scheme s
placed_judgement place too_many_slots = too_many_slots
placed_judgement place (passes_range at) = passes_range (place at)
placed_judgement place (has_no_typing k at) = has_no_typing k (place at)
placed_judgement place (not_general k at) = not_general k (place at)

abbrev placed_solving : (ℕ → ℕ) → Solving → Solving
placed_solving place (solved us) = solved us
placed_solving place (unsolved k at) = unsolved k (place at)
placed_solving place (out_of_range at) = out_of_range (place at)

abbrev placed_row : (ℕ → ℕ) → Row → Row
placed_row place r = record { at = place r.at; unit = r.unit }

abbrev moved_equations : (ℕ → ℕ) → Equations → Equations
moved_equations place e = record { params = e.params; result = e.result; steps = placed place e.steps }

module _ (place : ℕ → ℕ) where
  -- ---- rows and their solving

  abbrev all_placed : List Row → List Row
  all_placed rows = map (placed_row place) rows

  rows_placed : (ss : List Step) → rows_of (placed place ss) ≡ all_placed (rows_of ss)
  rows_placed [] = refl
  rows_placed (row_at at u ∷ ss) = λ i. record { at = place at; unit = u } ∷ rows_placed ss i
  rows_placed (wrong_shape_at at ∷ ss) = λ i. record { at = place at; unit = atom (Base 0) } ∷ rows_placed ss i
  rows_placed (type_at at t ∷ ss) = rows_placed ss

  range_placed : (b : Bool) (at : ℕ) (o p : Option ℕ) → p ≡ option_map place o → cond b p (Some (place at)) ≡ option_map place (cond b o (Some at))
  range_placed true at o p e = e
  range_placed false at o p e = refl

  past_placed : (ss : List Step) → first_past (placed place ss) ≡ option_map place (first_past ss)
  past_placed [] = refl
  past_placed (row_at at u ∷ ss) = range_placed (fits u) at (first_past ss) (first_past (placed place ss)) (past_placed ss)
  past_placed (wrong_shape_at at ∷ ss) = past_placed ss
  past_placed (type_at at t ∷ ss) = range_placed (type_fits t) at (first_past ss) (first_past (placed place ss)) (past_placed ss)

  row_placed : (k at : ℕ) (e : Elimination) (next other : List PowerMap → Solving) → ((us : List PowerMap) → other us ≡ placed_solving place (next us)) → after_row k (place at) e other ≡ placed_solving place (after_row k at e next)
  row_placed k at (Solved us) next other h = h us
  row_placed k at NoSolution next other h = refl
  row_placed k at Range next other h = refl

  solve_placed : (k : ℕ) (rows : List Row) (us : List PowerMap) → solve k (all_placed rows) us ≡ placed_solving place (solve k rows us)
  solve_placed k [] us = refl
  solve_placed k (r ∷ rows) us = row_placed k r.at (eliminate us r.unit) (solve (suc k) rows) (solve (suc k) (all_placed rows)) (λ vs. solve_placed (suc k) rows vs)

  -- ---- what solving comes to

  slots_placed : (k at : ℕ) (s : Solving) → by_slots k (place at) (placed_solving place s) ≡ placed_judgement place (by_slots k at s)
  slots_placed k at (solved us) = refl
  slots_placed k at (unsolved j row) = refl
  slots_placed k at (out_of_range row) = refl

  scheme_or_range : (b : Bool) (s : SchemeTree) (at : ℕ) → cond b (has_scheme s) (passes_range (place at)) ≡ placed_judgement place (cond b (has_scheme s) (passes_range at))
  scheme_or_range true s at = refl
  scheme_or_range false s at = refl

  limited : (b : Bool) (j k : Judgement) → k ≡ placed_judgement place j → cond b k too_many_slots ≡ placed_judgement place (cond b j too_many_slots)
  limited true j k e = e
  limited false j k e = refl

  in_range : (o : Option ℕ) (j k : Judgement) → k ≡ placed_judgement place j → by_range (option_map place o) k ≡ placed_judgement place (by_range o j)
  in_range None j k e = e
  in_range (Some at) j k e = refl

  module _ (bases parameters slots : ℕ) where
    solving_placed : (at : ℕ) (g : Signature) (rows : List Row) (s : Solving) → by_solving bases parameters slots (place at) g (all_placed rows) (placed_solving place s) ≡ placed_judgement place (by_solving bases parameters slots at g rows s)
    solving_placed at g rows (solved us) =
        let h = put_signature (nth us) g in
        scheme_or_range (signature_fits h) (numbered_scheme (generalised bases parameters slots h)) at
    solving_placed at g rows (unsolved k row) =
        let own = own_variables slots in
        (λ i. by_slots k (place row) (solve 0 (take-map (placed_row place) (suc k) rows i) own)) ∙ (λ i. by_slots k (place row) (solve_placed 0 (rows_up_to k rows) own i)) ∙ slots_placed k row (solve 0 (rows_up_to k rows) own)
    solving_placed at g rows (out_of_range row) = refl

    rows_judged : (at : ℕ) (g : Signature) (rows : List Row) → by_rows bases parameters slots (place at) g (all_placed rows) ≡ placed_judgement place (by_rows bases parameters slots at g rows)
    rows_judged at g rows = (λ i. by_solving bases parameters slots (place at) g (all_placed rows) (solve_placed 0 rows (rigid_units bases parameters slots) i)) ∙ solving_placed at g rows (solve 0 rows (rigid_units bases parameters slots))

    -- the equations of a function, over so many slots, and what they come to
    abbrev judged : ℕ → Equations → Judgement
    judged at e =
        cond (nat_le slots 2000) (by_range (first_past e.steps) (by_rows bases parameters slots at (record { params = e.params; result = e.result }) (rows_of e.steps))) too_many_slots

    judged_placed : (at : ℕ) (e : Equations) → judged (place at) (moved_equations place e) ≡ placed_judgement place (judged at e)
    judged_placed at e =
        let g : Signature = record { params = e.params; result = e.result } in
        let one : by_rows bases parameters slots (place at) g (rows_of (placed place e.steps)) ≡ placed_judgement place (by_rows bases parameters slots at g (rows_of e.steps)) =
        (λ i. by_rows bases parameters slots (place at) g (rows_placed e.steps i)) ∙ rows_judged at g (rows_of e.steps) in
        let both : by_range (first_past (placed place e.steps)) (by_rows bases parameters slots (place at) g (rows_of (placed place e.steps))) ≡ placed_judgement place (by_range (first_past e.steps) (by_rows bases parameters slots at g (rows_of e.steps))) =
        (λ i. by_range (past_placed e.steps i) (by_rows bases parameters slots (place at) g (rows_of (placed place e.steps))))
        ∙ in_range (first_past e.steps) (by_rows bases parameters slots at g (rows_of e.steps)) (by_rows bases parameters slots (place at) g (rows_of (placed place e.steps))) one in
        limited (nat_le slots 2000) (by_range (first_past e.steps) (by_rows bases parameters slots at g (rows_of e.steps))) (by_range (first_past (placed place e.steps)) (by_rows bases parameters slots (place at) g (rows_of (placed place e.steps)))) both

-- ---- the equations of a function

module _ (place : ℕ → ℕ) (number_of : Frac → UnitNote → Frac) (stays : (c : Frac) → number_of c Hole ≡ c) (records : List RecordTree) (schemes : List SchemeTree) (k : ℕ) (f : FunctionTree) where
  abbrev elsewhere : List RecordTree
  elsewhere = others place number_of records

  abbrev other : FunctionTree
  other = changed_function place number_of f

  module _ (holes names : ℕ → PowerMap) where
    result_placed : (t : TypeTree) (n : ℕ) (o : Option NoteTree) → result_rows holes names (place f.at) t n o ≡ placed place (result_rows holes names f.at t n o)
    result_placed t n (Some m) = against_placed place f.at t (noted_type holes names n m)
    result_placed t n None = refl

    equations_placed : equations holes names elsewhere schemes k other ≡ moved_equations place (equations holes names records schemes k f)
    equations_placed =
        let params = noted_types holes names 0 f.params in
        let n = notes_holes f.params in
        let head = params ++ noted_result holes names n f.result ∷ [] in
        let x = derive holes names records (own_signature holes names f) (callee schemes k f) (head_holes f) params f.body in
        let y = derive holes names elsewhere (own_signature holes names f) (callee schemes k f) (head_holes f) params other.body in
        let body : y ≡ moved place x = same_derived place number_of stays holes names records (own_signature holes names f) (callee schemes k f) (head_holes f) params f.body in
        let last : result_rows holes names (place f.at) y.type n f.result ≡ placed place (result_rows holes names f.at x.type n f.result) =
        (λ i. result_rows holes names (place f.at) (body i).type n f.result) ∙ result_placed x.type n f.result in
        let rest : y.steps ++ result_rows holes names (place f.at) y.type n f.result ≡ placed place (x.steps ++ result_rows holes names f.at x.type n f.result) =
        joined place x.steps (result_rows holes names f.at x.type n f.result) y.steps (result_rows holes names (place f.at) y.type n f.result) (λ i. (body i).steps) last in
        let steps : head_steps holes names other ++ (y.steps ++ result_rows holes names (place f.at) y.type n f.result) ≡ placed place (head_steps holes names f ++ (x.steps ++ result_rows holes names f.at x.type n f.result)) =
        joined place (head_steps holes names f) (x.steps ++ result_rows holes names f.at x.type n f.result) (head_steps holes names other) (y.steps ++ result_rows holes names (place f.at) y.type n f.result) (head_placed place f.at head) rest in
        λ i. record { params = params; result = (body i).type; steps = steps i }

  same_slots : function_slots elsewhere schemes k other ≡ function_slots records schemes k f
  same_slots = λ i. slot_order (same_function_keys place number_of records schemes k f i)

  same_count : slot_count elsewhere schemes k other ≡ slot_count records schemes k f
  same_count = λ i. length (same_slots i)

  slot_equations_placed : slot_equations elsewhere schemes k other ≡ moved_equations place (slot_equations records schemes k f)
  slot_equations_placed =
      let order = function_slots records schemes k f in
      (λ i. equations (λ m. slot_unit (same_slots i) (hole m)) (λ m. slot_unit (same_slots i) (name m)) elsewhere schemes k other)
      ∙ equations_placed (λ m. slot_unit order (hole m)) (λ m. slot_unit order (name m))

  pub same_judgement : (bases : ℕ) → judge bases elsewhere schemes k other ≡ placed_judgement place (judge bases records schemes k f)
  same_judgement bases =
      (λ i. judged place bases f.units (same_count i) (place f.at) (slot_equations_placed i))
      ∙ judged_placed place bases f.units (slot_count records schemes k f) f.at (slot_equations records schemes k f)
