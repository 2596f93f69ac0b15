-- Each row and each type of a derivation holds only slots that the keys ask for.
use Rattle.std.proofs.Common.{◌≡◌, ℕ, zero, suc, ◌+◌, ◌<◌, ◌||◌, eqb, List, [], ◌∷◌, ◌++◌, map, Option, Some, None, slice_get, sym, ap, ◌∙◌, subst, arith}
use Rattle.std.specs.Prelude.{All, IsTrue}
use Rattle.std.proofs.lemmas.Bool.{eqb-true}
use Rattle.std.proofs.lemmas.List.Elements.{All-nil, All-cons}
use Rattle.um_units.specs.PowerMap.{PowerMap}
use Rattle.um_units.specs.Variables.{VariablesBelow}
use Rattle.um_units.proofs.Variables.{VariablesBelow-replace}
use Rattle.um_tree.specs.declared.note.UnitNote.{UnitNote}
use Rattle.um_tree.specs.declared.note.UnitNote.TheVariants.{Hole, Written}
use Rattle.um_tree.specs.TypeTree.{TypeTree, NoteTree, bool_note, num_note, list_note, record_note}
use Rattle.um_tree.specs.ExprTree.{ExprTree, ExprTrees, truth, number, local, call, negate, not_expr, pown, arith as arith_tree, compare, both, either, if, bind, split, nil, list_expr, cons, record_expr, field, none, more}
use Rattle.um_tree.specs.ProgramTree.{RecordTree, FunctionTree, SchemeTree, Signature}
use Rattle.um_tree.specs.Scheme.{unit_variables}
use Rattle.um_elim.proofs.Cases.{on_test}
use Rattle.um_elim.proofs.FirstOccurrences.{member}
use Rattle.um_elim.proofs.RenamedUnits.{held-member}
use Rattle.um_equal_types.specs.Steps.{types_at}
use Rattle.um_slots.specs.Holes.{unit_holes, note_holes, notes_holes, Callee, known_by, itself, nobody, callee_holes, record_holes, expr_holes}
use Rattle.um_rows.specs.Rules.{Derived, item, call_rule, negate_rule, not_rule, pown_rule, truths_rule, arith_rule, compare_rule, if_rule, split_rule, list_rule, cons_rule, record_rule, field_rule, formed}
use Rattle.um_rows.specs.Derivation.{first_units, offered, derive, derive_all}
use Rattle.um_slots.specs.Noted.{noted_unit, noted_units, noted_type, noted_types, noted_result}
use Rattle.um_slots.specs.Callees.{callee, head_holes}
use Rattle.um_rows.specs.Equations.{result_rows, own_signature, head_steps, equations}
use Rattle.um_slots.specs.Keys.{Key, hole, name, hole_keys, unit_keys, units_keys, name_keys, note_keys, notes_keys, result_keys, expr_keys, exprs_keys, function_keys}
use Rattle.um_rows.proofs.Variables.{TypeBelow, TypesBelow, SignatureBelow, StepsBelow, CalleeBelow}
use Rattle.um_rows.proofs.BelowRules.{put_below, types_put_below, first_units_below, types_below-append, steps_below-append, against_below, DerivedBelow, after_below, formed_below, item_below, number_below, local_below, OfferBelow, call_below, negate_below, not_below, pown_below, truths_below, arith_below, compare_below, if_below, split_below, nil_below, list_below, cons_below, record_below, field_rule_below}

module _ (limit : ℕ) (holes names : ℕ → PowerMap) where
  -- the units of the keys hold only variables below the limit
  abbrev pub KeysBelow : List Key → Type 0
  KeysBelow [] = Unit {0}
  KeysBelow (hole k ∷ ks) = VariablesBelow limit (holes k) × KeysBelow ks
  KeysBelow (name k ∷ ks) = VariablesBelow limit (names k) × KeysBelow ks

  keys_front : (a b : List Key) → KeysBelow (a ++ b) → KeysBelow a
  keys_front [] b h = tt
  keys_front (hole k ∷ a) b h = (h.0, keys_front a b h.1)
  keys_front (name k ∷ a) b h = (h.0, keys_front a b h.1)

  keys_back : (a b : List Key) → KeysBelow (a ++ b) → KeysBelow b
  keys_back [] b h = h
  keys_back (hole k ∷ a) b h = keys_back a b h.1
  keys_back (name k ∷ a) b h = keys_back a b h.1

  -- ---- notes
  named_below : (ks : List ℕ) → KeysBelow (map name ks) → (k : ℕ) → IsTrue (member k ks) → VariablesBelow limit (names k)
  named_below [] h k m = cc
  named_below (j ∷ ks) h k m =
      on_test (eqb k j)
      (λ e. let same : j ≡ k = sym (eqb-true k j e) in subst (λ (i : ℕ). VariablesBelow limit (names i)) same h.0)
      (λ e. named_below ks h.1 k (sym (ap (λ b. b || member k ks) e) ∙ m))

  unit_below : (n : ℕ) (m : UnitNote) → KeysBelow (unit_keys n m) → VariablesBelow limit (noted_unit holes names n m)
  unit_below n Hole h = h.0
  unit_below n (Written u) h = VariablesBelow-replace limit names u (λ k held. named_below (unit_variables u) h k (held-member u k held))

  units_below : (n : ℕ) (ms : List UnitNote) → KeysBelow (units_keys n ms) → All (VariablesBelow limit) (noted_units holes names n ms)
  units_below n [] h = All-nil (VariablesBelow limit)
  units_below n (m ∷ ms) h =
      let k = n + unit_holes m in
      All-cons (VariablesBelow limit) (noted_unit holes names n m) (noted_units holes names k ms)
      (unit_below n m (keys_front (unit_keys n m) (units_keys k ms) h))
      (units_below k ms (keys_back (unit_keys n m) (units_keys k ms) h))

  pub note_below : (n : ℕ) (m : NoteTree) → KeysBelow (note_keys n m) → TypeBelow limit (noted_type holes names n m)
  note_below n bool_note h = tt
  note_below n (num_note m) h = unit_below n m h
  note_below n (list_note m) h = note_below n m h
  note_below n (record_note r ms) h = units_below n ms h

  notes_below : (n : ℕ) (ms : List NoteTree) → KeysBelow (notes_keys n ms) → TypesBelow limit (noted_types holes names n ms)
  notes_below n [] h = tt
  notes_below n (m ∷ ms) h =
      let k = n + note_holes m in
      (note_below n m (keys_front (note_keys n m) (notes_keys k ms) h), notes_below k ms (keys_back (note_keys n m) (notes_keys k ms) h))

  -- ---- expressions
  holes_below : (n m : ℕ) → KeysBelow (hole_keys n m) → (k : ℕ) → k < m → VariablesBelow limit (holes (n + k))
  holes_below n zero h k l = absurd (omega arith)
  holes_below n (suc m) h zero l = let same : n ≡ n + 0 = omega arith in subst (λ (j : ℕ). VariablesBelow limit (holes j)) same h.0
  holes_below n (suc m) h (suc k) l = let same : suc n + k ≡ n + suc k = omega arith in subst (λ (j : ℕ). VariablesBelow limit (holes j)) same (holes_below (suc n) m h.1 k (omega arith))

  module _ (records : List RecordTree) (self : Signature) (self_below : SignatureBelow limit self) (callee : ℕ → Callee) (low : (j : ℕ) → CalleeBelow (callee j)) where
    offered_below : (n : ℕ) (c : Callee) → CalleeBelow c → KeysBelow (hole_keys n (callee_holes c)) → OfferBelow limit (offered holes names records self callee n c)
    offered_below n (known_by s) l h =
        let own = λ (k : ℕ) (i : k < s.vars). holes_below n s.vars h k i in
        (types_put_below limit s.vars (λ k. holes (n + k)) own s.signature.params l.0, put_below limit s.vars (λ k. holes (n + k)) own s.signature.result l.1)
    offered_below n itself l h = self_below
    offered_below n nobody l h = tt

    abbrev keys_in : ℕ → ExprTree → List Key
    keys_in n e = expr_keys records callee n e

    abbrev at_number : ℕ → List TypeTree → ExprTree → Derived
    at_number n vars e = derive holes names records self callee n vars e

    mutual
      pub derived_below : (n : ℕ) (vars : List TypeTree) (e : ExprTree) → TypesBelow limit vars → KeysBelow (keys_in n e) → DerivedBelow limit (at_number n vars e)
      derived_below n vars (truth at b) h k = (tt, (tt, tt))
      derived_below n vars (number at c m) h k = number_below limit at c m (noted_unit holes names n m) (unit_below n m k)
      derived_below n vars (local at j) h k = local_below limit at j vars h
      derived_below n vars (call at j es) h k =
          let c = callee_holes (callee j) in
          let ds = derive_all holes names records self callee (n + c) vars es in
          let p = all_derived_below (n + c) vars es h (keys_back (hole_keys n c) (exprs_keys records callee (n + c) es) k) in
          let o = offered_below n (callee j) (low j) (keys_front (hole_keys n c) (exprs_keys records callee (n + c) es) k) in
          let g = offered holes names records self callee n (callee j) in
          after_below limit ds.steps (call_rule at g ds.types) p.1 (call_below limit at g ds.types o p.0)
      derived_below n vars (negate at a) h k =
          let x = at_number n vars a in
          let p = derived_below n vars a h k in
          after_below limit x.steps (negate_rule at x.type) p.1 (negate_below limit at x.type p.0)
      derived_below n vars (not_expr at a) h k =
          let x = at_number n vars a in
          let p = derived_below n vars a h k in
          after_below limit x.steps (not_rule at x.type) p.1 (not_below limit at x.type)
      derived_below n vars (pown at a i) h k =
          let x = at_number n vars a in
          let p = derived_below n vars a h k in
          after_below limit x.steps (pown_rule at i x.type) p.1 (pown_below limit at i x.type p.0)
      derived_below n vars (arith_tree at op a b) h k =
          let m = n + expr_holes records callee a in
          let x = at_number n vars a in
          let y = at_number m vars b in
          let p = derived_below n vars a h (keys_front (keys_in n a) (keys_in m b) k) in
          let q = derived_below m vars b h (keys_back (keys_in n a) (keys_in m b) k) in
          after_below limit (x.steps ++ y.steps) (arith_rule at op x.type y.type) (steps_below-append limit x.steps y.steps p.1 q.1) (arith_below limit at op x.type y.type p.0 q.0)
      derived_below n vars (compare at sign a b) h k =
          let m = n + expr_holes records callee a in
          let x = at_number n vars a in
          let y = at_number m vars b in
          let p = derived_below n vars a h (keys_front (keys_in n a) (keys_in m b) k) in
          let q = derived_below m vars b h (keys_back (keys_in n a) (keys_in m b) k) in
          after_below limit (x.steps ++ y.steps) (compare_rule at x.type y.type) (steps_below-append limit x.steps y.steps p.1 q.1) (compare_below limit at x.type y.type p.0 q.0)
      derived_below n vars (both at a b) h k =
          let m = n + expr_holes records callee a in
          let x = at_number n vars a in
          let y = at_number m vars b in
          let p = derived_below n vars a h (keys_front (keys_in n a) (keys_in m b) k) in
          let q = derived_below m vars b h (keys_back (keys_in n a) (keys_in m b) k) in
          after_below limit (x.steps ++ y.steps) (truths_rule at x.type y.type) (steps_below-append limit x.steps y.steps p.1 q.1) (truths_below limit at x.type y.type)
      derived_below n vars (either at a b) h k =
          let m = n + expr_holes records callee a in
          let x = at_number n vars a in
          let y = at_number m vars b in
          let p = derived_below n vars a h (keys_front (keys_in n a) (keys_in m b) k) in
          let q = derived_below m vars b h (keys_back (keys_in n a) (keys_in m b) k) in
          after_below limit (x.steps ++ y.steps) (truths_rule at x.type y.type) (steps_below-append limit x.steps y.steps p.1 q.1) (truths_below limit at x.type y.type)
      derived_below n vars (if at c a b) h k =
          let m = n + expr_holes records callee c in
          let l = n + expr_holes records callee c + expr_holes records callee a in
          let z = at_number n vars c in
          let x = at_number m vars a in
          let y = at_number l vars b in
          let arms = keys_back (keys_in n c) (keys_in m a ++ keys_in l b) k in
          let o = derived_below n vars c h (keys_front (keys_in n c) (keys_in m a ++ keys_in l b) k) in
          let p = derived_below m vars a h (keys_front (keys_in m a) (keys_in l b) arms) in
          let q = derived_below l vars b h (keys_back (keys_in m a) (keys_in l b) arms) in
          after_below limit (z.steps ++ (x.steps ++ y.steps)) (if_rule at z.type x.type y.type)
          (steps_below-append limit z.steps (x.steps ++ y.steps) o.1 (steps_below-append limit x.steps y.steps p.1 q.1))
          (if_below limit at z.type x.type y.type p.0 q.0)
      derived_below n vars (bind at a b) h k =
          let m = n + expr_holes records callee a in
          let x = at_number n vars a in
          let y = at_number m (vars ++ x.type ∷ []) b in
          let p = derived_below n vars a h (keys_front (keys_in n a) (keys_in m b) k) in
          let q = derived_below m (vars ++ x.type ∷ []) b (types_below-append limit vars (x.type ∷ []) h (p.0, tt)) (keys_back (keys_in n a) (keys_in m b) k) in
          after_below limit (x.steps ++ y.steps) (formed at [] y.type) (steps_below-append limit x.steps y.steps p.1 q.1) (formed_below limit at [] y.type tt q.0)
      derived_below n vars (split at e a b) h k =
          let m = n + expr_holes records callee e in
          let l = n + expr_holes records callee e + expr_holes records callee a in
          let z = at_number n vars e in
          let x = at_number m vars a in
          let scope = vars ++ item z.type ∷ z.type ∷ [] in
          let y = at_number l scope b in
          let arms = keys_back (keys_in n e) (keys_in m a ++ keys_in l b) k in
          let o = derived_below n vars e h (keys_front (keys_in n e) (keys_in m a ++ keys_in l b) k) in
          let p = derived_below m vars a h (keys_front (keys_in m a) (keys_in l b) arms) in
          let q = derived_below l scope b (types_below-append limit vars (item z.type ∷ z.type ∷ []) h (item_below limit z.type o.0, (o.0, tt))) (keys_back (keys_in m a) (keys_in l b) arms) in
          after_below limit (z.steps ++ (x.steps ++ y.steps)) (split_rule at z.type x.type y.type)
          (steps_below-append limit z.steps (x.steps ++ y.steps) o.1 (steps_below-append limit x.steps y.steps p.1 q.1))
          (split_below limit at z.type x.type y.type p.0 q.0)
      derived_below n vars (nil at m) h k = nil_below limit at (noted_type holes names n m) (note_below n m k)
      derived_below n vars (list_expr at es) h k =
          let ds = derive_all holes names records self callee n vars es in
          let p = all_derived_below n vars es h k in
          after_below limit ds.steps (list_rule at ds.types) p.1 (list_below limit at ds.types p.0)
      derived_below n vars (cons at a b) h k =
          let m = n + expr_holes records callee a in
          let x = at_number n vars a in
          let y = at_number m vars b in
          let p = derived_below n vars a h (keys_front (keys_in n a) (keys_in m b) k) in
          let q = derived_below m vars b h (keys_back (keys_in n a) (keys_in m b) k) in
          after_below limit (x.steps ++ y.steps) (cons_rule at x.type y.type) (steps_below-append limit x.steps y.steps p.1 q.1) (cons_below limit at x.type y.type p.0 q.0)
      derived_below n vars (record_expr at r es) h k =
          let m = record_holes (slice_get records r) in
          let us = first_units m (λ j. holes (n + j)) in
          let own = holes_below n m (keys_front (hole_keys n m) (exprs_keys records callee (n + m) es) k) in
          let units = first_units_below limit m (λ j. holes (n + j)) own in
          let ds = derive_all holes names records self callee (n + m) vars es in
          let p = all_derived_below (n + m) vars es h (keys_back (hole_keys n m) (exprs_keys records callee (n + m) es) k) in
          after_below limit ds.steps (record_rule at r us (slice_get records r) ds.types) p.1 (record_below limit at r us (slice_get records r) ds.types units p.0)
      derived_below n vars (field at r j a) h k =
          let x = at_number n vars a in
          let p = derived_below n vars a h k in
          after_below limit x.steps (field_rule at r j (slice_get records r) x.type) p.1 (field_rule_below limit at r j (slice_get records r) x.type p.0)

      pub all_derived_below : (n : ℕ) (vars : List TypeTree) (es : ExprTrees) → TypesBelow limit vars → KeysBelow (exprs_keys records callee n es) →
          TypesBelow limit (derive_all holes names records self callee n vars es).types × StepsBelow limit (derive_all holes names records self callee n vars es).steps
      all_derived_below n vars none h k = (tt, tt)
      all_derived_below n vars (more e es) h k =
          let m = n + expr_holes records callee e in
          let x = at_number n vars e in
          let ds = derive_all holes names records self callee m vars es in
          let p = derived_below n vars e h (keys_front (keys_in n e) (exprs_keys records callee m es) k) in
          let q = all_derived_below m vars es h (keys_back (keys_in n e) (exprs_keys records callee m es) k) in
          ((p.0, q.0), steps_below-append limit x.steps ds.steps p.1 q.1)

  -- ---- functions
  result_below : (n : ℕ) (r : Option NoteTree) → KeysBelow (result_keys n r) → TypeBelow limit (noted_result holes names n r)
  result_below n None h = tt
  result_below n (Some m) h = note_below n m h

  result_rows_below : (at : ℕ) (t : TypeTree) (n : ℕ) (r : Option NoteTree) → TypeBelow limit t → KeysBelow (result_keys n r) → StepsBelow limit (result_rows holes names at t n r)
  result_rows_below at t n None h k = tt
  result_rows_below at t n (Some m) h k = against_below limit at t (noted_type holes names n m) h (note_below n m k)

  types_at_below : (at : ℕ) (ts : List TypeTree) → TypesBelow limit ts → StepsBelow limit (types_at at ts)
  types_at_below at [] h = tt
  types_at_below at (t ∷ ts) h = (h.0, types_at_below at ts h.1)

  pub equations_below : (records : List RecordTree) (schemes : List SchemeTree) (i : ℕ) (f : FunctionTree) → ((j : ℕ) → CalleeBelow (callee schemes i f j)) → KeysBelow (function_keys records schemes i f) →
      SignatureBelow limit (record { params = (equations holes names records schemes i f).params; result = (equations holes names records schemes i f).result }) × StepsBelow limit (equations holes names records schemes i f).steps
  equations_below records schemes i f low h =
      let n = notes_holes f.params in
      let params = noted_types holes names 0 f.params in
      let head = notes_keys 0 f.params in
      let last = result_keys n f.result in
      let own = expr_keys records (callee schemes i f) (head_holes f) f.body in
      let text = keys_back (name_keys 0 f.units) (head ++ (last ++ own)) h in
      let rest = keys_back head (last ++ own) text in
      let ps = notes_below 0 f.params (keys_front head (last ++ own) text) in
      let r = result_below n f.result (keys_front last own rest) in
      let body = derive holes names records (own_signature holes names f) (callee schemes i f) (head_holes f) params f.body in
      let b = derived_below records (own_signature holes names f) (ps, r) (callee schemes i f) low (head_holes f) params f.body ps (keys_back last own rest) in (
        (ps, b.0),
        steps_below-append limit (head_steps holes names f) (body.steps ++ result_rows holes names f.at body.type n f.result) (types_at_below f.at (params ++ noted_result holes names n f.result ∷ []) (types_below-append limit params (noted_result holes names n f.result ∷ []) ps (r, tt)))
            (steps_below-append limit body.steps (result_rows holes names f.at body.type n f.result) b.1 (result_rows_below f.at body.type n f.result b.0 (keys_front last own rest))),
      )
