-- What holds of the places in a function holds of the place of each equation, and of the one at which its inference
-- stops.
use Rattle.std.proofs.Common.{◌≡◌, ℕ, zero, suc, ◌+◌, Bool, true, false, cond, List, [], ◌∷◌, ◌++◌, map, length, All, Option, Some, None, refl, subst}
use Rattle.std.specs.Prelude.{slice_get, nat_le, ◌==◌, take, ℤ}
use Rattle.std.proofs.lemmas.List.Elements.{All-head, All-tail}
use Rattle.um_frac.specs.declared.number.Frac.{Frac}
use Rattle.um_frac.specs.Fraction.{numerator}
use Rattle.um_units.specs.Terms.{is_zero}
use Rattle.um_units.specs.PowerMap.{PowerMap, nth}
use Rattle.um_units.specs.Range.{fits}
use Rattle.um_tree.specs.declared.note.UnitNote.{UnitNote}
use Rattle.um_tree.specs.declared.note.UnitNote.TheVariants.{Hole, Written}
use Rattle.um_tree.specs.declared.expression.Arith.{Arith}
use Rattle.um_tree.specs.declared.expression.Arith.TheVariants.{Add, Sub, Mul, Div}
use Rattle.um_tree.specs.TypeTree.{TypeTree, bool_type, num_type, list_type, record_type, NoteTree}
use Rattle.um_tree.specs.ExprTree.{ExprTree, ExprTrees, truth, number, local, call, negate, not_expr, pown, arith, compare, both, either, if, bind, split, nil, list_expr, cons, record_expr, field, none, more}
use Rattle.um_tree.specs.ProgramTree.{RecordTree, FunctionTree, ProgramTree, Signature, SchemeTree}
use Rattle.um_tree.specs.Typing.{put, put_signature, unit_at, field_types}
use Rattle.um_elim.specs.Application.{type_fits}
use Rattle.um_elim.specs.Elimination.{Elimination, Solved, NoSolution, Range, eliminate}
use Rattle.um_elim.specs.Solution.{own_variables, rigid_units}
use Rattle.um_slots.specs.Holes.{Callee, callee_holes, record_holes, expr_holes, notes_holes}
use Rattle.um_slots.specs.Callees.{callee, head_holes}
use Rattle.um_slots.specs.Keys.{hole, name}
use Rattle.um_slots.specs.Slots.{function_slots, slot_unit, slot_count}
use Rattle.um_slots.specs.Noted.{noted_unit, noted_type, noted_types, noted_result}
use Rattle.um_equal_types.specs.declared.row.Row.{Row}
use Rattle.um_equal_types.specs.Steps.{Step, row_at, wrong_shape_at, type_at, types_at, rows_of, first_past}
use Rattle.um_equal_types.specs.Against.{never, units_against, against, types_against, against_each}
use Rattle.um_rows.specs.Rules.{Derived, after, formed, item, mismatch, asks_bool, asks_list, asks_zero, local_rule, call_rule, negate_rule, not_rule, pown_rule, truths_rule, units_rule, arith_rule, compare_rule, if_rule, split_rule, list_rule, cons_rule, record_rule, declared_rule, found_rule, field_rule}
use Rattle.um_rows.specs.Derivation.{first_units, offered, derive, derive_all}
use Rattle.um_rows.specs.Equations.{result_rows, own_signature, head_steps, equations, slot_equations}
use Rattle.um_rows.specs.Solutions.{slot_signature}
use Rattle.um_rows.specs.FirstUnsolvable.{Solving, solved, unsolved, out_of_range, after_row, solve, rows_up_to}
use Rattle.um_rows.specs.Judgement.{numbered_scheme, signature_fits, Judgement, has_scheme, too_many_slots, passes_range, has_no_typing, not_general, by_slots, by_solving, by_rows, by_range, judge}
use Rattle.um_rows.specs.Generalised.{generalised}
use Rattle.um_infer.specs.Inference.{Inference, all_schemes, stops_at_slots, stops_at_range, stops_at_units, stops_at_not_general, with_judgement, with_function, and_then, infer_first, infer}
use Rattle.um_front.specs.Places.{EachPlace, EachPlaceOf, EachProgramPlace}

-- Q holds of both, so of the one that is taken
pick : {A : Type 0} (Q : A → Type 0) (b : Bool) (x y : A) → Q x → Q y → Q (cond b x y)
pick Q true x y h k = h
pick Q false x y h k = k

module _ (P : ℕ → Type 0) where
  -- P holds of the place of each step
  abbrev StepsHold : List Step → Type 0
  StepsHold [] = Unit {0}
  StepsHold (row_at at u ∷ ss) = P at × StepsHold ss
  StepsHold (wrong_shape_at at ∷ ss) = P at × StepsHold ss
  StepsHold (type_at at t ∷ ss) = P at × StepsHold ss

  append_holds : (a b : List Step) → StepsHold a → StepsHold b → StepsHold (a ++ b)
  append_holds [] b h k = k
  append_holds (row_at at u ∷ a) b h k = (h.0, append_holds a b h.1 k)
  append_holds (wrong_shape_at at ∷ a) b h k = (h.0, append_holds a b h.1 k)
  append_holds (type_at at t ∷ a) b h k = (h.0, append_holds a b h.1 k)

  -- ---- the steps of one node, at its place
  module _ (at : ℕ) (here : P at) where
    types_hold : (ts : List TypeTree) → StepsHold (types_at at ts)
    types_hold [] = tt
    types_hold (t ∷ ts) = (here, types_hold ts)

    never_holds : StepsHold (never at)
    never_holds = (here, tt)

    units_hold : (us vs : List PowerMap) → StepsHold (units_against at us vs)
    units_hold [] [] = tt
    units_hold (u ∷ us) (v ∷ vs) = (here, units_hold us vs)
    units_hold us vs = never_holds

    against_holds : (s t : TypeTree) → StepsHold (against at s t)
    against_holds bool_type bool_type = tt
    against_holds (num_type u) (num_type v) = (here, tt)
    against_holds (list_type s) (list_type t) = against_holds s t
    against_holds (record_type r us) (record_type q vs) = pick StepsHold (r == q) (units_against at us vs) (never at) (units_hold us vs) never_holds
    against_holds s t = never_holds

    types_against_hold : (ss ts : List TypeTree) → StepsHold (types_against at ss ts)
    types_against_hold [] [] = tt
    types_against_hold (s ∷ ss) (t ∷ ts) = append_holds (against at s t) (types_against at ss ts) (against_holds s t) (types_against_hold ss ts)
    types_against_hold ss ts = never_holds

    each_holds : (s : TypeTree) (ts : List TypeTree) → StepsHold (against_each at s ts)
    each_holds s [] = tt
    each_holds s (t ∷ ts) = append_holds (against at s t) (against_each at s ts) (against_holds s t) (each_holds s ts)

    formed_holds : (rows : List Step) (t : TypeTree) → StepsHold rows → StepsHold (formed at rows t).steps
    formed_holds rows t h = append_holds rows (type_at at t ∷ []) h (here, tt)

    mismatch_holds : StepsHold (mismatch at).steps
    mismatch_holds = (here, (here, tt))

    bool_holds : (t : TypeTree) → StepsHold (asks_bool at t)
    bool_holds bool_type = tt
    bool_holds t = never_holds

    list_holds : (t : TypeTree) → StepsHold (asks_list at t)
    list_holds (list_type t) = tt
    list_holds t = never_holds

    zero_holds : (c : Frac) (m : UnitNote) → StepsHold (asks_zero at c m)
    zero_holds c Hole = pick StepsHold (is_zero (numerator c)) [] (never at) tt never_holds
    zero_holds c (Written u) = tt

    local_holds : (o : Option TypeTree) → StepsHold (local_rule at o).steps
    local_holds (Some t) = (here, tt)
    local_holds None = mismatch_holds

    call_holds : (o : Option Signature) (ts : List TypeTree) → StepsHold (call_rule at o ts).steps
    call_holds (Some g) ts = formed_holds (types_against at g.params ts) g.result (types_against_hold g.params ts)
    call_holds None ts = mismatch_holds

    negate_holds : (t : TypeTree) → StepsHold (negate_rule at t).steps
    negate_holds (num_type u) = (here, tt)
    negate_holds t = mismatch_holds

    pown_holds : (k : ℤ) (t : TypeTree) → StepsHold (pown_rule at k t).steps
    pown_holds k (num_type u) = (here, tt)
    pown_holds k t = mismatch_holds

    truths_hold : (s t : TypeTree) → StepsHold (truths_rule at s t).steps
    truths_hold s t = formed_holds (asks_bool at s ++ asks_bool at t) bool_type (append_holds (asks_bool at s) (asks_bool at t) (bool_holds s) (bool_holds t))

    arith_units_hold : (op : Arith) (u v : PowerMap) → StepsHold (units_rule at op u v).steps
    arith_units_hold Add u v = (here, (here, tt))
    arith_units_hold Sub u v = (here, (here, tt))
    arith_units_hold Mul u v = (here, tt)
    arith_units_hold Div u v = (here, tt)

    arith_holds : (op : Arith) (s t : TypeTree) → StepsHold (arith_rule at op s t).steps
    arith_holds op (num_type u) (num_type v) = arith_units_hold op u v
    arith_holds op s t = mismatch_holds

    compare_holds : (s t : TypeTree) → StepsHold (compare_rule at s t).steps
    compare_holds (num_type u) (num_type v) = (here, (here, tt))
    compare_holds s t = mismatch_holds

    items_hold : (ts : List TypeTree) → StepsHold (list_rule at ts).steps
    items_hold [] = mismatch_holds
    items_hold (t ∷ ts) = formed_holds (against_each at t ts) (list_type t) (each_holds t ts)

    cons_holds : (s t : TypeTree) → StepsHold (cons_rule at s t).steps
    cons_holds s (list_type t) = formed_holds (against at s t) (list_type t) (against_holds s t)
    cons_holds s t = mismatch_holds

    record_holds : (r : ℕ) (us : List PowerMap) (o : Option RecordTree) (ts : List TypeTree) → StepsHold (record_rule at r us o ts).steps
    record_holds r us (Some d) ts =
        let declared = map (put (unit_at us)) (field_types d) in
        formed_holds (types_against at declared ts) (record_type r us) (types_against_hold declared ts)
    record_holds r us None ts = mismatch_holds

    declared_holds : (us : List PowerMap) (b : Bool) (o : Option TypeTree) → StepsHold (declared_rule at us b o).steps
    declared_holds us true (Some t) = (here, tt)
    declared_holds us b o = mismatch_holds

    found_holds : (k : ℕ) (us : List PowerMap) (b : Bool) (o : Option RecordTree) → StepsHold (found_rule at k us b o).steps
    found_holds k us true (Some d) = declared_holds us (length us == d.units) (slice_get (field_types d) k)
    found_holds k us b o = mismatch_holds

    field_holds : (r k : ℕ) (o : Option RecordTree) (t : TypeTree) → StepsHold (field_rule at r k o t).steps
    field_holds r k o (record_type q us) = found_holds k us (q == r) o
    field_holds r k o t = mismatch_holds

  -- ---- an expression

  module _ (holes names : ℕ → PowerMap) (records : List RecordTree) (self : Signature) (callees : ℕ → Callee) where
    abbrev at_number : ℕ → List TypeTree → ExprTree → Derived
    at_number n vars e = derive holes names records self callees n vars e

    abbrev ExprHolds : ℕ → List TypeTree → ExprTree → Type 0
    ExprHolds n vars e = StepsHold (at_number n vars e).steps

    -- a node behind two parts
    two_parts : (x y d : Derived) → StepsHold x.steps → StepsHold y.steps → StepsHold d.steps → StepsHold (after (x.steps ++ y.steps) d).steps
    two_parts x y d h k l = append_holds (x.steps ++ y.steps) d.steps (append_holds x.steps y.steps h k) l

    three_parts : (z x y d : Derived) → StepsHold z.steps → StepsHold x.steps → StepsHold y.steps → StepsHold d.steps → StepsHold (after (z.steps ++ (x.steps ++ y.steps)) d).steps
    three_parts z x y d g h k l = append_holds (z.steps ++ (x.steps ++ y.steps)) d.steps (append_holds z.steps (x.steps ++ y.steps) g (append_holds x.steps y.steps h k)) l

    mutual
      derived_holds : (n : ℕ) (vars : List TypeTree) (e : ExprTree) → EachPlace P e → StepsHold (derive holes names records self callees n vars e).steps
      derived_holds n vars (truth at b) h = (h, tt)
      derived_holds n vars (number at c m) h = formed_holds at h (asks_zero at c m) (num_type (noted_unit holes names n m)) (zero_holds at h c m)
      derived_holds n vars (local at k) h = local_holds at h (slice_get vars k)
      derived_holds n vars (call at j es) h =
          let ds = derive_all holes names records self callees (n + callee_holes (callees j)) vars es in
          let g = offered holes names records self callees n (callees j) in
          append_holds ds.steps (call_rule at g ds.types).steps (all_derived_hold (n + callee_holes (callees j)) vars es h.1) (call_holds at h.0 g ds.types)
      derived_holds n vars (negate at a) h =
          let x = at_number n vars a in
          append_holds x.steps (negate_rule at x.type).steps (derived_holds n vars a h.1) (negate_holds at h.0 x.type)
      derived_holds n vars (not_expr at a) h =
          let x = at_number n vars a in
          append_holds x.steps (not_rule at x.type).steps (derived_holds n vars a h.1) (formed_holds at h.0 (asks_bool at x.type) bool_type (bool_holds at h.0 x.type))
      derived_holds n vars (pown at a k) h =
          let x = at_number n vars a in
          append_holds x.steps (pown_rule at k x.type).steps (derived_holds n vars a h.1) (pown_holds at h.0 k x.type)
      derived_holds n vars (arith at op a b) h =
          let m = n + expr_holes records callees a in
          let x = at_number n vars a in
          let y = at_number m vars b in
          two_parts x y (arith_rule at op x.type y.type) (derived_holds n vars a h.1) (derived_holds m vars b h.2) (arith_holds at h.0 op x.type y.type)
      derived_holds n vars (compare at sign a b) h =
          let m = n + expr_holes records callees a in
          let x = at_number n vars a in
          let y = at_number m vars b in
          two_parts x y (compare_rule at x.type y.type) (derived_holds n vars a h.1) (derived_holds m vars b h.2) (compare_holds at h.0 x.type y.type)
      derived_holds n vars (both at a b) h =
          let m = n + expr_holes records callees a in
          let x = at_number n vars a in
          let y = at_number m vars b in
          two_parts x y (truths_rule at x.type y.type) (derived_holds n vars a h.1) (derived_holds m vars b h.2) (truths_hold at h.0 x.type y.type)
      derived_holds n vars (either at a b) h =
          let m = n + expr_holes records callees a in
          let x = at_number n vars a in
          let y = at_number m vars b in
          two_parts x y (truths_rule at x.type y.type) (derived_holds n vars a h.1) (derived_holds m vars b h.2) (truths_hold at h.0 x.type y.type)
      derived_holds n vars (if at c a b) h =
          let m = n + expr_holes records callees c in
          let l = n + expr_holes records callees c + expr_holes records callees a in
          let z = at_number n vars c in
          let x = at_number m vars a in
          let y = at_number l vars b in
          three_parts z x y (if_rule at z.type x.type y.type) (derived_holds n vars c h.1) (derived_holds m vars a h.2) (derived_holds l vars b h.3)
          (formed_holds at h.0 (asks_bool at z.type ++ against at x.type y.type) x.type (append_holds (asks_bool at z.type) (against at x.type y.type) (bool_holds at h.0 z.type) (against_holds at h.0 x.type y.type)))
      derived_holds n vars (bind at a b) h =
          let m = n + expr_holes records callees a in
          let x = at_number n vars a in
          let y = at_number m (vars ++ x.type ∷ []) b in
          two_parts x y (formed at [] y.type) (derived_holds n vars a h.1) (derived_holds m (vars ++ x.type ∷ []) b h.2) (h.0, tt)
      derived_holds n vars (split at e a b) h =
          let m = n + expr_holes records callees e in
          let l = n + expr_holes records callees e + expr_holes records callees a in
          let z = at_number n vars e in
          let x = at_number m vars a in
          let scope = vars ++ item z.type ∷ z.type ∷ [] in
          let y = at_number l scope b in
          three_parts z x y (split_rule at z.type x.type y.type) (derived_holds n vars e h.1) (derived_holds m vars a h.2) (derived_holds l scope b h.3)
          (formed_holds at h.0 (asks_list at z.type ++ against at x.type y.type) x.type (append_holds (asks_list at z.type) (against at x.type y.type) (list_holds at h.0 z.type) (against_holds at h.0 x.type y.type)))
      derived_holds n vars (nil at m) h =
          let t = noted_type holes names n m in
          formed_holds at h (asks_list at t) t (list_holds at h t)
      derived_holds n vars (list_expr at es) h =
          let ds = derive_all holes names records self callees n vars es in
          append_holds ds.steps (list_rule at ds.types).steps (all_derived_hold n vars es h.1) (items_hold at h.0 ds.types)
      derived_holds n vars (cons at a b) h =
          let m = n + expr_holes records callees a in
          let x = at_number n vars a in
          let y = at_number m vars b in
          two_parts x y (cons_rule at x.type y.type) (derived_holds n vars a h.1) (derived_holds m vars b h.2) (cons_holds at h.0 x.type y.type)
      derived_holds n vars (record_expr at r es) h =
          let m = record_holes (slice_get records r) in
          let us = first_units m (λ j. holes (n + j)) in
          let ds = derive_all holes names records self callees (n + m) vars es in
          append_holds ds.steps (record_rule at r us (slice_get records r) ds.types).steps (all_derived_hold (n + m) vars es h.1) (record_holds at h.0 r us (slice_get records r) ds.types)
      derived_holds n vars (field at r k a) h =
          let x = at_number n vars a in
          append_holds x.steps (field_rule at r k (slice_get records r) x.type).steps (derived_holds n vars a h.1) (field_holds at h.0 r k (slice_get records r) x.type)

      all_derived_hold : (n : ℕ) (vars : List TypeTree) (es : ExprTrees) → EachPlaceOf P es → StepsHold (derive_all holes names records self callees n vars es).steps
      all_derived_hold n vars none h = tt
      all_derived_hold n vars (more e es) h =
          let m = n + expr_holes records callees e in
          let x = at_number n vars e in
          let ds = derive_all holes names records self callees m vars es in
          append_holds x.steps ds.steps (derived_holds n vars e h.0) (all_derived_hold m vars es h.1)

  -- ---- a function

  abbrev Declared : FunctionTree → Type 0
  Declared f = P f.at × EachPlace P f.body

  module _ (holes names : ℕ → PowerMap) where
    result_holds : (at : ℕ) (t : TypeTree) (n : ℕ) (r : Option NoteTree) → P at → StepsHold (result_rows holes names at t n r)
    result_holds at t n None h = tt
    result_holds at t n (Some m) h = against_holds at h t (noted_type holes names n m)

    equations_hold : (records : List RecordTree) (schemes : List SchemeTree) (i : ℕ) (f : FunctionTree) → Declared f → StepsHold (equations holes names records schemes i f).steps
    equations_hold records schemes i f h =
        let params = noted_types holes names 0 f.params in
        let self = own_signature holes names f in
        let body = derive holes names records self (callee schemes i f) (head_holes f) params f.body in
        let last = result_rows holes names f.at body.type (notes_holes f.params) f.result in
        append_holds (head_steps holes names f) (body.steps ++ last) (types_hold f.at h.0 (params ++ noted_result holes names (notes_holes f.params) f.result ∷ []))
        (append_holds body.steps last (derived_holds holes names records self (callee schemes i f) (head_holes f) params f.body h.1) (result_holds f.at body.type (notes_holes f.params) f.result h.0))

  -- ---- what solving them comes to

  abbrev RowsHold : List Row → Type 0
  RowsHold [] = Unit {0}
  RowsHold (r ∷ rs) = P r.at × RowsHold rs

  rows_hold : (ss : List Step) → StepsHold ss → RowsHold (rows_of ss)
  rows_hold [] h = tt
  rows_hold (row_at at u ∷ ss) h = (h.0, rows_hold ss h.1)
  rows_hold (wrong_shape_at at ∷ ss) h = (h.0, rows_hold ss h.1)
  rows_hold (type_at at t ∷ ss) h = rows_hold ss h.1

  taken_hold : (k : ℕ) (rows : List Row) → RowsHold rows → RowsHold (take k rows)
  taken_hold zero [] h = tt
  taken_hold zero (r ∷ rs) h = tt
  taken_hold (suc k) [] h = tt
  taken_hold (suc k) (r ∷ rs) h = (h.0, taken_hold k rs h.1)

  abbrev PastHolds : Option ℕ → Type 0
  PastHolds None = Unit {0}
  PastHolds (Some at) = P at

  past_holds : (ss : List Step) → StepsHold ss → PastHolds (first_past ss)
  past_holds [] h = tt
  past_holds (row_at at u ∷ ss) h = pick PastHolds (fits u) (first_past ss) (Some at) (past_holds ss h.1) h.0
  past_holds (wrong_shape_at at ∷ ss) h = past_holds ss h.1
  past_holds (type_at at t ∷ ss) h = pick PastHolds (type_fits t) (first_past ss) (Some at) (past_holds ss h.1) h.0

  abbrev SolvingHolds : Solving → Type 0
  SolvingHolds (solved us) = Unit {0}
  SolvingHolds (unsolved k at) = P at
  SolvingHolds (out_of_range at) = P at

  solving_holds : (k : ℕ) (rows : List Row) (us : List PowerMap) → RowsHold rows → SolvingHolds (solve k rows us)
  solving_holds k [] us h = tt
  solving_holds k (r ∷ rows) us h = by (eliminate us r.unit) (λ vs. solving_holds (suc k) rows vs h.1)
    where
      by : (e : Elimination) → ((vs : List PowerMap) → SolvingHolds (solve (suc k) rows vs)) → SolvingHolds (after_row k r.at e (solve (suc k) rows))
      by (Solved vs) others = others vs
      by NoSolution others = h.0
      by Range others = h.0

  abbrev JudgementHolds : Judgement → Type 0
  JudgementHolds (has_scheme s) = Unit {0}
  JudgementHolds too_many_slots = Unit {0}
  JudgementHolds (passes_range at) = P at
  JudgementHolds (has_no_typing k at) = P at
  JudgementHolds (not_general k at) = P at

  slots_hold : (k at : ℕ) (s : Solving) → P at → SolvingHolds s → JudgementHolds (by_slots k at s)
  slots_hold k at (solved us) h l = h
  slots_hold k at (unsolved j row) h l = h
  slots_hold k at (out_of_range row) h l = l

  module _ (bases parameters slots : ℕ) where
    by_solving_holds : (at : ℕ) (g : Signature) (rows : List Row) (s : Solving) → P at → RowsHold rows → SolvingHolds s → JudgementHolds (by_solving bases parameters slots at g rows s)
    by_solving_holds at g rows (solved us) h rs l =
        let whole = put_signature (nth us) g in
        pick JudgementHolds (signature_fits whole) (has_scheme (numbered_scheme (generalised bases parameters slots whole))) (passes_range at) tt h
    by_solving_holds at g rows (unsolved k row) h rs l =
        slots_hold k row (solve 0 (rows_up_to k rows) (own_variables slots)) l (solving_holds 0 (rows_up_to k rows) (own_variables slots) (taken_hold (suc k) rows rs))
    by_solving_holds at g rows (out_of_range row) h rs l = l

    by_rows_holds : (at : ℕ) (g : Signature) (rows : List Row) → P at → RowsHold rows → JudgementHolds (by_rows bases parameters slots at g rows)
    by_rows_holds at g rows h rs =
        by_solving_holds at g rows (solve 0 rows (rigid_units bases parameters slots)) h rs (solving_holds 0 rows (rigid_units bases parameters slots) rs)

  by_range_holds : (o : Option ℕ) (j : Judgement) → PastHolds o → JudgementHolds j → JudgementHolds (by_range o j)
  by_range_holds None j h k = k
  by_range_holds (Some at) j h k = h

  judge_holds : (bases : ℕ) (records : List RecordTree) (schemes : List SchemeTree) (i : ℕ) (f : FunctionTree) → Declared f → JudgementHolds (judge bases records schemes i f)
  judge_holds bases records schemes i f h =
      let n = slot_count records schemes i f in
      let order = function_slots records schemes i f in
      let steps = (slot_equations records schemes i f).steps in
      let held : StepsHold steps = equations_hold (λ k. slot_unit order (hole k)) (λ k. slot_unit order (name k)) records schemes i f h in
      let g = slot_signature records schemes i f in
      let solved_rows = by_rows bases f.units n f.at g (rows_of steps) in
      pick JudgementHolds (nat_le n 2000) (by_range (first_past steps) solved_rows) too_many_slots
      (by_range_holds (first_past steps) solved_rows (past_holds steps held) (by_rows_holds bases f.units n f.at g (rows_of steps) h.0 (rows_hold steps held)))
      tt

  -- ---- a program

  abbrev pub InferenceHolds : Inference → Type 0
  InferenceHolds (all_schemes schemes) = Unit {0}
  InferenceHolds (stops_at_slots i) = Unit {0}
  InferenceHolds (stops_at_range i at) = P at
  InferenceHolds (stops_at_units i row at) = P at
  InferenceHolds (stops_at_not_general i row at) = P at

  judged_holds : (schemes : List SchemeTree) (i : ℕ) (j : Judgement) → JudgementHolds j → InferenceHolds (with_judgement schemes i j)
  judged_holds schemes i (has_scheme s) h = tt
  judged_holds schemes i too_many_slots h = tt
  judged_holds schemes i (passes_range at) h = h
  judged_holds schemes i (has_no_typing k at) h = h
  judged_holds schemes i (not_general k at) h = h

  pub function_at : (fs : List FunctionTree) (i : ℕ) (f : FunctionTree) → All Declared fs → slice_get fs i ≡ Some f → Declared f
  function_at [] zero f h is = absurd cc
  function_at [] (suc i) f h is = absurd cc
  function_at (g ∷ gs) zero f h is = let same : g ≡ f = cc is in subst Declared same (All-head Declared g gs h)
  function_at (g ∷ gs) (suc i) f h is = function_at gs i f (All-tail Declared g gs h) is

  module _ (p : ProgramTree) (h : EachProgramPlace P p) where
    after_holds : (r : Inference) (next : List SchemeTree → Inference) → InferenceHolds r → ((ss : List SchemeTree) → InferenceHolds (next ss)) → InferenceHolds (and_then r next)
    after_holds (all_schemes ss) next k l = l ss
    after_holds (stops_at_slots i) next k l = k
    after_holds (stops_at_range i at) next k l = k
    after_holds (stops_at_units i row at) next k l = k
    after_holds (stops_at_not_general i row at) next k l = k

    function_holds : (schemes : List SchemeTree) (i : ℕ) (o : Option FunctionTree) → slice_get p.functions i ≡ o → InferenceHolds (with_function (length p.bases) p.records schemes i o)
    function_holds schemes i None is = tt
    function_holds schemes i (Some f) is =
        judged_holds schemes i (judge (length p.bases) p.records schemes i f) (judge_holds (length p.bases) p.records schemes i f (function_at p.functions i f h.functions is))

    first_hold : (n : ℕ) → InferenceHolds (infer_first p n)
    first_hold zero = tt
    first_hold (suc n) =
        after_holds (infer_first p n) (λ ss. with_function (length p.bases) p.records ss n (slice_get p.functions n)) (first_hold n) (λ ss. function_holds ss n (slice_get p.functions n) refl)

    pub inference_holds : InferenceHolds (infer p)
    inference_holds = first_hold (length p.functions)
