-- From what the code finds of a function to its equations over slots.
use Rattle.std.proofs.Common.{◌≡◌, ℕ, zero, suc, ◌+◌, ◌<◌, ◌≤◌, Bool, true, false, cond, ltb, eqb, ◌&&◌, List, [], ◌∷◌, ◌++◌, map, length, get_or, Option, Some, None, Ok, Err, slice_get, refl, sym, ap, ◌∙◌, subst, arith}
use Rattle.std.specs.Prelude.{IsTrue, IsFalse, Result, MatchResult}
use Rattle.std.specs.List.{list_all}
use Rattle.std.proofs.lemmas.Bool.Decides.{nat_tests}
use Rattle.um_units.specs.declared.Atom.TheVariants.{Var}
use Rattle.um_units.specs.PowerMap.{PowerMap, atom, nth}
use Rattle.um_tree.specs.declared.program.Record.{Record}
use Rattle.um_tree.specs.declared.program.Scheme.{Scheme}
use Rattle.um_tree.specs.TypeTree.{TypeTree, type_tree, NoteTree}
use Rattle.um_tree.specs.ExprTree.{ExprTree}
use Rattle.um_tree.specs.ProgramTree.{FunctionTree, record_tree, scheme_tree}
use Rattle.um_elim.specs.Application.{type_fits}
use Rattle.um_elim.proofs.Cases.{on_test}
use Rattle.um_slots.specs.declared.context.Context.{Context}
use Rattle.um_slots.specs.declared.stop.SlotStop.{SlotStop}
use Rattle.um_slots.specs.declared.stop.SlotStop.TheVariants as slot_stop
use Rattle.um_equal_types.specs.declared.row.Rows.{Rows}
use Rattle.um_rows.specs.declared.nodes.TypedRows.{TypedRows}
use Rattle.um_equal_types.specs.declared.row.RowStop.{RowStop}
use Rattle.um_equal_types.specs.declared.row.RowStop.TheVariants as stop
use Rattle.um_slots.specs.declared.slots.Slots.{Slots}
use Rattle.um_equal_types.specs.Steps.{Step, types_at, rows_of, first_past}
use Rattle.um_slots.specs.Holes.{itself, nobody, notes_holes}
use Rattle.um_equal_types.specs.Against.{against}
use Rattle.um_rows.specs.Rules.{Derived}
use Rattle.um_slots.specs.Noted.{noted_types, noted_result}
use Rattle.um_rows.specs.Derivation.{derive}
use Rattle.um_slots.specs.Callees.{known_function, callee_of, callee, may_recur, head_holes}
use Rattle.um_rows.specs.Equations.{own_signature, result_rows, Equations, equations, slot_equations}
use Rattle.um_slots.specs.Keys.{Key, hole, name, function_keys}
use Rattle.um_slots.specs.Slots.{has_slot, place, own_number, slot_unit, slot_order, slot_count}
use Rattle.um_slots.specs.Slotting.{with_keys, IsTable, StopsSlots, name_unit}
use Rattle.um_slots.specs.SlotUnits.{AreNumbered, AreVariables}
use Rattle.um_equal_types.specs.SlotStops.{row_stop}
use Rattle.um_equal_types.specs.Pushed.{StopsPast}
use Rattle.um_rows.specs.Closed.{IsClosedScheme, AreClosedBefore}
use Rattle.um_rows.specs.Body.{noted_rows, body_derived, body_steps, AreBodyRows}
use Rattle.um_slots.specs.Contexts.{IsContextOf}
use Rattle.um_rows.specs.Answers.{described, AreEquations, StopsFor}
use Rattle.um_slots.proofs.KeyOrder.{has-order, with_none, at-place}
use Rattle.um_rows.proofs.SlotLaws.{here, behind}
use Rattle.um_rows.proofs.Variables.{CalleeBelow}
use Rattle.um_rows.proofs.OfferLaws.{all_below}
use Rattle.um_equal_types.proofs.PushLaws.{first_of, first_past-append, rows_of-append}
use Rattle.um_rows.specs.NodeTypes.{derived_nodes, function_nodes}
use Rattle.um_rows.proofs.SameDerivation.{KeysAlike, same_body, same_equations}

-- ---- what the table says of the keys
hole_of : Key → ℕ
hole_of (hole k) = k
hole_of (name k) = 0

module _ (order : List Key) (t : Slots) (is : IsTable order t) where
  holes_are_numbered : AreNumbered t.holes.items
  unfolding hole_of
  holes_are_numbered = record {
    number = λ k. place order (hole k);
    place = λ j. hole_of (get_or order j (hole 0));
    variable = λ k l. (is.holes k l).1;
    apart = λ k l. ap hole_of (at-place order (hole k) (hole 0) (is.holes k l).0);
  }

  pub holes_are_variables : AreVariables t.holes.items
  holes_are_variables = ∣ holes_are_numbered ∣₁

  unit_of_hole : (k : ℕ) → IsTrue (has_slot order (hole k)) → nth t.holes.items k ≡ slot_unit order (hole k)
  unit_of_hole k h =
      on_test (ltb k (length t.holes.items))
      (λ e. let low : k < length t.holes.items = grind (arith, nat_tests) in (is.holes k low).1 ∙ sym (ap (λ b. atom (Var (cond b (place order (hole k)) (length order + own_number (hole k))))) h))
      (λ e. let past : length t.holes.items ≤ k = grind (arith, nat_tests) in absurd (cc (sym h ∙ is.later k past)))

  unit_at_name : (ns : List (Option ℕ)) (k s : ℕ) (d : PowerMap) → get_or ns k None ≡ Some s → get_or (map name_unit ns) k d ≡ atom (Var s)
  unit_at_name [] k s d e = absurd (cc e)
  unit_at_name (n ∷ ns) zero s d e = ap name_unit e
  unit_at_name (n ∷ ns) (suc k) s d e = unit_at_name ns k s d e

  unit_of_name : (k : ℕ) → IsTrue (has_slot order (name k)) → nth (map name_unit t.names.items) k ≡ slot_unit order (name k)
  unit_of_name k h =
      unit_at_name t.names.items k (place order (name k)) (atom (Var k)) (is.names k ∙ ap (λ b. cond b (Some (place order (name k))) None) h)
      ∙ sym (ap (λ b. atom (Var (cond b (place order (name k)) (length order + own_number (name k))))) h)

  table_alike : (ks : List Key) → ((k : Key) → IsTrue (has_slot ks k) → IsTrue (has_slot order k)) → KeysAlike (nth t.holes.items) (λ k. slot_unit order (hole k)) (nth (map name_unit t.names.items)) (λ k. slot_unit order (name k)) ks
  table_alike [] h = tt
  table_alike (hole k ∷ ks) h = (unit_of_hole k (h (hole k) (here (hole k) ks)), table_alike ks (λ j m. h j (behind j (hole k) ks m)))
  table_alike (name k ∷ ks) h = (unit_of_name k (h (name k) (here (name k) ks)), table_alike ks (λ j m. h j (behind j (name k) ks m)))

-- ---- what a call goes to is closed
closed_known : (schemes : List Scheme) (i j : ℕ) → ((k : ℕ) (d : Scheme) → k ≡ j → k < length schemes → IsClosedScheme (get_or schemes k d)) → CalleeBelow (known_function (slice_get (map scheme_tree schemes) j))
closed_known [] i j h = tt
closed_known (s ∷ ss) i zero h = let closed = h 0 s refl (omega arith) in (all_below s.vars s.params.items.items closed.params, closed.result)
closed_known (s ∷ ss) i (suc j) h = closed_known ss i j (λ k d e l. h (suc k) d (ap suc e) (omega (arith, l)))

pub closed_callee : (schemes : List Scheme) (i : ℕ) (r : Bool) → AreClosedBefore i schemes → (j : ℕ) → CalleeBelow (callee_of (map scheme_tree schemes) i r j)
closed_callee schemes i r closed j =
    on_test (ltb j i)
    (λ e. let low : j < i = grind (arith, nat_tests) in
    subst (λ b. CalleeBelow (cond b (known_function (slice_get (map scheme_tree schemes) j)) (cond (eqb j i && r) itself nobody))) (sym e)
    (closed_known schemes i j (λ k d q l. closed k d (subst (λ (m : ℕ). m < i) (sym q) low) l)))
    (λ e. subst (λ b. CalleeBelow (cond b (known_function (slice_get (map scheme_tree schemes) j)) (cond (eqb j i && r) itself nobody))) (sym e)
    (on_test (eqb j i && r) (λ q. subst (λ b. CalleeBelow (cond b itself nobody)) (sym q) tt) (λ q. subst (λ b. CalleeBelow (cond b itself nobody)) (sym q) tt)))

-- ---- the head's types
first_past-types : (at : ℕ) (ts : List TypeTree) → first_past (types_at at ts) ≡ cond (list_all type_fits ts) None (Some at)
first_past-types at [] = refl
first_past-types at (t ∷ ts) = ap (λ o. cond (type_fits t) o (Some at)) (first_past-types at ts) ∙ both (type_fits t) (list_all type_fits ts)
  where
    both : (a b : Bool) → cond a (cond b None (Some at)) (Some at) ≡ cond (a && b) None (Some at)
    both true b = refl
    both false b = refl

past_head : (at : ℕ) (ts : List TypeTree) (b : List Step) → IsFalse (list_all type_fits ts) → first_past (types_at at ts ++ b) ≡ Some at
past_head at ts b f = first_past-append (types_at at ts) b ∙ ap (λ o. first_of o (first_past b)) (first_past-types at ts ∙ ap (λ c. cond c None (Some at)) f)

rows_of-types : (at : ℕ) (ts : List TypeTree) → rows_of (types_at at ts) ≡ []
rows_of-types at [] = refl
rows_of-types at (t ∷ ts) = rows_of-types at ts

-- ---- all together
module _ (records : List Record) (schemes : List Scheme) (number at : ℕ) (recursive : Bool) (units : ℕ) (params : List NoteTree) (note : Option NoteTree) (body : ExprTree) (closed : AreClosedBefore number schemes) where
  abbrev pub fn : FunctionTree
  fn = described at recursive units params note body

  abbrev keys : List Key
  keys = function_keys (map record_tree records) (map scheme_tree schemes) number fn

  module _ (t : Slots) (is : IsTable (with_keys [] keys) t) where
    order_is : with_keys [] keys ≡ slot_order keys
    order_is = with_none keys

    table : IsTable (slot_order keys) t
    table = subst (λ o. IsTable o t) order_is is

    alike : KeysAlike (nth t.holes.items) (λ k. slot_unit (slot_order keys) (hole k)) (nth (map name_unit t.names.items)) (λ k. slot_unit (slot_order keys) (name k)) keys
    alike = table_alike (slot_order keys) t table keys (λ k m. has-order k keys ∙ m)

    pub few : slot_count (map record_tree records) (map scheme_tree schemes) number fn ≤ 2000
    few = table.few

    abbrev own : Equations
    own = equations (nth t.holes.items) (nth (map name_unit t.names.items)) (map record_tree records) (map scheme_tree schemes) number fn

    same : own ≡ slot_equations (map record_tree records) (map scheme_tree schemes) number fn
    same = same_equations (nth t.holes.items) (λ k. slot_unit (slot_order keys) (hole k)) (nth (map name_unit t.names.items)) (λ k. slot_unit (slot_order keys) (name k)) (map record_tree records) (map scheme_tree schemes) number fn (closed_callee schemes number (may_recur fn) closed) alike

    abbrev heads : List TypeTree
    heads = noted_types (nth t.holes.items) (nth (map name_unit t.names.items)) 0 params ++ noted_result (nth t.holes.items) (nth (map name_unit t.names.items)) (notes_holes params) note ∷ []

    -- a type of the head is out of range
    pub head_past : IsFalse (list_all type_fits heads) → StopsFor (map record_tree records) (map scheme_tree schemes) number fn (stop.Range at)
    head_past f = (few, ap (λ (e : Equations). first_past e.steps) (sym same) ∙ past_head at heads _ f)

    module _ (c : Context) (fit : IsTrue (list_all type_fits heads)) (exact : IsContextOf number (may_recur fn) t.holes.items (map name_unit t.names.items) params note c) where
      abbrev steps : List Step
      steps = body_steps records schemes c (head_holes fn) at note body

      abbrev found : Derived
      found = body_derived records schemes c (head_holes fn) body

      -- the body's derivation in the function's equations
      abbrev there : Derived
      there = derive (nth t.holes.items) (nth (map name_unit t.names.items)) (map record_tree records) (own_signature (nth t.holes.items) (nth (map name_unit t.names.items)) fn) (callee (map scheme_tree schemes) number fn) (head_holes fn)
          (noted_types (nth t.holes.items) (nth (map name_unit t.names.items)) 0 params) body

      abbrev behind_head : List Step
      behind_head = there.steps ++ result_rows (nth t.holes.items) (nth (map name_unit t.names.items)) at there.type (notes_holes params) note

      derived_is : found ≡ there
      derived_is = λ i. derive (nth (exact.holes_are i)) (nth (exact.names_are i)) (map record_tree records) (record { params = exact.params_are i; result = exact.result_is i }) (callee_of (map scheme_tree schemes) (exact.number_is i) (exact.recurs_is i)) (head_holes fn) (exact.params_are i) body

      rows_same : (o : Option NoteTree) (d s : TypeTree) (n : ℕ) → s ≡ noted_result (nth t.holes.items) (nth (map name_unit t.names.items)) n o → noted_rows at d s o ≡ result_rows (nth t.holes.items) (nth (map name_unit t.names.items)) at d n o
      rows_same None d s n e = refl
      rows_same (Some m) d s n e = ap (against at d) e

      steps_are : steps ≡ behind_head
      steps_are = (λ i. (derived_is i).steps ++ noted_rows at (derived_is i).type (type_tree c.result) note) ∙ ap (λ rs. there.steps ++ rs) (rows_same note there.type (type_tree c.result) (notes_holes params) exact.result_is)

      first_is : first_past (slot_equations (map record_tree records) (map scheme_tree schemes) number fn).steps ≡ first_past steps
      first_is =
          ap (λ (e : Equations). first_past e.steps) (sym same) ∙ first_past-append (types_at at heads) behind_head
          ∙ ap (λ o. first_of o (first_past behind_head)) (first_past-types at heads ∙ ap (λ b. cond b None (Some at)) fit) ∙ ap first_past (sym steps_are)

      rows_are : rows_of (slot_equations (map record_tree records) (map scheme_tree schemes) number fn).steps ≡ rows_of steps
      rows_are =
          ap (λ (e : Equations). rows_of e.steps) (sym same) ∙ rows_of-append (types_at at heads) behind_head ∙ ap (λ rs. rs ++ rows_of behind_head) (rows_of-types at heads) ∙ ap rows_of (sym steps_are)

      pub rows_right : (r : Rows) → AreBodyRows steps found (map type_tree c.params.items) t.count r → AreEquations (map record_tree records) (map scheme_tree schemes) number fn r
      rows_right r h = record {
        few = few;
        in_range = first_is ∙ h.in_range;
        slots = h.slots_are ∙ table.count;
        list = h.list_is ∙ sym rows_are;
        params = h.params_are ∙ exact.params_are ∙ ap (λ (e : Equations). e.params) same;
        result = h.result_is ∙ ap (λ (d : Derived). d.type) derived_is ∙ ap (λ (e : Equations). e.result) same;
      }

      pub stops_right : (e : RowStop) → StopsPast (first_past steps) e → StopsFor (map record_tree records) (map scheme_tree schemes) number fn e
      stops_right stop.Slots h = absurd h
      stops_right (stop.Range k) h = (few, first_is ∙ h)
      stops_right stop.NoMemory h = tt

      pub body_right : (r : Result TypedRows RowStop) → MatchResult r (λ (typed : TypedRows). AreBodyRows steps found (map type_tree c.params.items) t.count typed.rows) (StopsPast (first_past steps)) →
          MatchResult r (λ (typed : TypedRows). AreEquations (map record_tree records) (map scheme_tree schemes) number fn typed.rows) (StopsFor (map record_tree records) (map scheme_tree schemes) number fn)
      body_right (Ok typed) h = rows_right typed.rows h
      body_right (Err e) h = stops_right e h

      -- the nodes of the body
      pub nodes_right : derived_nodes found ≡ function_nodes (map record_tree records) (map scheme_tree schemes) number fn
      nodes_right =
          ap derived_nodes (derived_is ∙ same_body (nth t.holes.items) (λ k. slot_unit (slot_order keys) (hole k)) (nth (map name_unit t.names.items)) (λ k. slot_unit (slot_order keys) (name k)) (map record_tree records) (map scheme_tree schemes) number fn (closed_callee schemes number (may_recur fn) closed) alike)

  pub too_many : (e : SlotStop) → StopsSlots (with_keys [] keys) e → StopsFor (map record_tree records) (map scheme_tree schemes) number fn (row_stop e)
  too_many slot_stop.TooMany h = subst (λ o. 2000 < length o) (with_none keys) h
  too_many slot_stop.NoMemory h = tt
