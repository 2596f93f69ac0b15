-- A derivation depends on the units of its keys alone.
use Rattle.std.proofs.Common.{◌≡◌, ℕ, zero, suc, ◌+◌, ◌<◌, ◌||◌, eqb, List, [], ◌∷◌, ◌++◌, map, Option, Some, None, slice_get, refl, sym, ap, ◌∙◌, subst, arith}
use Rattle.std.specs.Prelude.{IsTrue}
use Rattle.std.proofs.lemmas.Bool.{eqb-true}
use Rattle.um_units.specs.PowerMap.{PowerMap}
use Rattle.um_tree.specs.declared.note.UnitNote.{UnitNote}
use Rattle.um_tree.specs.declared.note.UnitNote.TheVariants.{Hole, Written}
use Rattle.um_tree.specs.TypeTree.{TypeTree, num_type, list_type, record_type, NoteTree, bool_note, num_note, list_note, record_note}
use Rattle.um_tree.specs.ExprTree.{ExprTree, ExprTrees, truth, number, local, call, negate, not_expr, pown, arith as arith_tree, compare, both, either, if, bind, split, nil, list_expr, cons, record_expr, field, none, more}
use Rattle.um_tree.specs.ProgramTree.{RecordTree, FunctionTree, SchemeTree, Signature}
use Rattle.um_tree.specs.Scheme.{unit_variables}
use Rattle.um_elim.proofs.Cases.{on_test}
use Rattle.um_elim.proofs.FirstOccurrences.{member}
use Rattle.um_elim.proofs.RenamedUnits.{unit_alike}
use Rattle.um_equal_types.specs.Against.{against}
use Rattle.um_equal_types.specs.Steps.{types_at}
use Rattle.um_slots.specs.Holes.{unit_holes, note_holes, notes_holes, Callee, known_by, itself, nobody, callee_holes, record_holes, expr_holes}
use Rattle.um_rows.specs.Rules.{Derived, after, formed, item, number_rule, call_rule, negate_rule, not_rule, pown_rule, truths_rule, arith_rule, compare_rule, if_rule, split_rule, nil_rule, list_rule, cons_rule, record_rule, field_rule}
use Rattle.um_rows.specs.Derivation.{first_units, offered, derive, derive_all}
use Rattle.um_slots.specs.Noted.{noted_unit, noted_units, noted_type, noted_types, noted_result}
use Rattle.um_slots.specs.Callees.{callee, head_holes}
use Rattle.um_rows.specs.Equations.{result_rows, own_signature, equations}
use Rattle.um_rows.specs.NodeTypes.{derived_body}
use Rattle.um_slots.specs.Keys.{Key, hole, name, hole_keys, unit_keys, units_keys, name_keys, note_keys, notes_keys, result_keys, expr_keys, exprs_keys, function_keys}
use Rattle.um_rows.proofs.Variables.{CalleeBelow, signature_put_alike_below}

module _ (f g m q : ℕ → PowerMap) where
  -- both give each key the same unit
  abbrev pub KeysAlike : List Key → Type 0
  KeysAlike [] = Unit {0}
  KeysAlike (hole k ∷ ks) = (f k ≡ g k) × KeysAlike ks
  KeysAlike (name k ∷ ks) = (m k ≡ q k) × KeysAlike ks

  alike_front : (a b : List Key) → KeysAlike (a ++ b) → KeysAlike a
  alike_front [] b h = tt
  alike_front (hole k ∷ a) b h = (h.0, alike_front a b h.1)
  alike_front (name k ∷ a) b h = (h.0, alike_front a b h.1)

  alike_back : (a b : List Key) → KeysAlike (a ++ b) → KeysAlike b
  alike_back [] b h = h
  alike_back (hole k ∷ a) b h = alike_back a b h.1
  alike_back (name k ∷ a) b h = alike_back a b h.1

  -- ---- notes
  named_alike : (ks : List ℕ) → KeysAlike (map name ks) → (k : ℕ) → IsTrue (member k ks) → m k ≡ q k
  named_alike [] h k t = cc
  named_alike (j ∷ ks) h k t =
      on_test (eqb k j)
      (λ e. let same : j ≡ k = sym (eqb-true k j e) in subst (λ (i : ℕ). m i ≡ q i) same h.0)
      (λ e. named_alike ks h.1 k (sym (ap (λ b. b || member k ks) e) ∙ t))

  pub same_unit : (n : ℕ) (x : UnitNote) → KeysAlike (unit_keys n x) → noted_unit f m n x ≡ noted_unit g q n x
  same_unit n Hole h = h.0
  same_unit n (Written u) h = unit_alike m q u (λ k t. named_alike (unit_variables u) h k t)

  pub same_units : (n : ℕ) (xs : List UnitNote) → KeysAlike (units_keys n xs) → noted_units f m n xs ≡ noted_units g q n xs
  same_units n [] h = refl
  same_units n (x ∷ xs) h =
      let k = n + unit_holes x in
      let first = same_unit n x (alike_front (unit_keys n x) (units_keys k xs) h) in
      let rest = same_units k xs (alike_back (unit_keys n x) (units_keys k xs) h) in λ i. first i ∷ rest i

  pub same_type : (n : ℕ) (x : NoteTree) → KeysAlike (note_keys n x) → noted_type f m n x ≡ noted_type g q n x
  same_type n bool_note h = refl
  same_type n (num_note x) h = ap num_type (same_unit n x h)
  same_type n (list_note x) h = ap list_type (same_type n x h)
  same_type n (record_note r xs) h = ap (record_type r) (same_units n xs h)

  pub same_types : (n : ℕ) (xs : List NoteTree) → KeysAlike (notes_keys n xs) → noted_types f m n xs ≡ noted_types g q n xs
  same_types n [] h = refl
  same_types n (x ∷ xs) h =
      let k = n + note_holes x in
      let first = same_type n x (alike_front (note_keys n x) (notes_keys k xs) h) in
      let rest = same_types k xs (alike_back (note_keys n x) (notes_keys k xs) h) in λ i. first i ∷ rest i

  -- ---- expressions
  same_holes : (n many : ℕ) → KeysAlike (hole_keys n many) → (k : ℕ) → k < many → f (n + k) ≡ g (n + k)
  same_holes n zero h k l = absurd (omega arith)
  same_holes n (suc many) h zero l = let same : n ≡ n + 0 = omega arith in subst (λ (j : ℕ). f j ≡ g j) same h.0
  same_holes n (suc many) h (suc k) l = let same : suc n + k ≡ n + suc k = omega arith in subst (λ (j : ℕ). f j ≡ g j) same (same_holes (suc n) many h.1 k (omega arith))

  same_first : (many : ℕ) (s t : ℕ → PowerMap) → ((k : ℕ) → k < many → s k ≡ t k) → first_units many s ≡ first_units many t
  same_first zero s t h = refl
  same_first (suc many) s t h =
      let first = h 0 (omega arith) in
      let rest = same_first many (λ k. s (suc k)) (λ k. t (suc k)) (λ k l. h (suc k) (omega arith)) in λ i. first i ∷ rest i

  module _ (records : List RecordTree) (self : Signature) (callee : ℕ → Callee) (low : (j : ℕ) → CalleeBelow (callee j)) where
    same_offer : (n : ℕ) (c : Callee) → CalleeBelow c → KeysAlike (hole_keys n (callee_holes c)) → offered f m records self callee n c ≡ offered g q records self callee n c
    same_offer n (known_by s) l h = ap Some (signature_put_alike_below s.vars (λ k. f (n + k)) (λ k. g (n + k)) (same_holes n s.vars h) s.signature l)
    same_offer n itself l h = refl
    same_offer n nobody l h = refl

    abbrev keys_in : ℕ → ExprTree → List Key
    keys_in n e = expr_keys records callee n e

    abbrev holes_in : ExprTree → ℕ
    holes_in e = expr_holes records callee e

    abbrev one : ℕ → List TypeTree → ExprTree → Derived
    one n vars e = derive f m records self callee n vars e

    abbrev other : ℕ → List TypeTree → ExprTree → Derived
    other n vars e = derive g q records self callee n vars e

    -- two parts, the second of which sees variables that the first gives
    same_two : (n : ℕ) (vars : List TypeTree) (scope : TypeTree → List TypeTree) (a b : ExprTree) (d : TypeTree → TypeTree → Derived) → one n vars a ≡ other n vars a →
        ((vs : List TypeTree) → one (n + holes_in a) vs b ≡ other (n + holes_in a) vs b) →
        (let x = one n vars a in let y = one (n + holes_in a) (scope x.type) b in after (x.steps ++ y.steps) (d x.type y.type))
        ≡ (let x = other n vars a in let y = other (n + holes_in a) (scope x.type) b in after (x.steps ++ y.steps) (d x.type y.type))
    same_two n vars scope a b d x y =
        λ i. after ((x i).steps ++ (y (scope (x i).type) i).steps) (d (x i).type (y (scope (x i).type) i).type)

    same_three : (n : ℕ) (vars : List TypeTree) (scope : TypeTree → List TypeTree) (c a b : ExprTree) (d : TypeTree → TypeTree → TypeTree → Derived) → one n vars c ≡ other n vars c →
        one (n + holes_in c) vars a ≡ other (n + holes_in c) vars a →
        ((vs : List TypeTree) → one (n + holes_in c + holes_in a) vs b ≡ other (n + holes_in c + holes_in a) vs b) →
        (let z = one n vars c in let x = one (n + holes_in c) vars a in let y = one (n + holes_in c + holes_in a) (scope z.type) b in after (z.steps ++ (x.steps ++ y.steps)) (d z.type x.type y.type))
        ≡ (let z = other n vars c in let x = other (n + holes_in c) vars a in let y = other (n + holes_in c + holes_in a) (scope z.type) b in after (z.steps ++ (x.steps ++ y.steps)) (d z.type x.type y.type))
    same_three n vars scope c a b d z x y =
        λ i. after ((z i).steps ++ ((x i).steps ++ (y (scope (z i).type) i).steps)) (d (z i).type (x i).type (y (scope (z i).type) i).type)

    mutual
      pub same_derived : (n : ℕ) (vars : List TypeTree) (e : ExprTree) → KeysAlike (keys_in n e) → one n vars e ≡ other n vars e
      same_derived n vars (truth at b) k = refl
      same_derived n vars (number at c x) k = ap (number_rule at c x) (same_unit n x k)
      same_derived n vars (local at j) k = refl
      same_derived n vars (call at j es) k =
          let c = callee_holes (callee j) in
          let o = same_offer n (callee j) (low j) (alike_front (hole_keys n c) (exprs_keys records callee (n + c) es) k) in
          let ds = same_all (n + c) vars es (alike_back (hole_keys n c) (exprs_keys records callee (n + c) es) k) in
          λ i. after (ds i).steps (call_rule at (o i) (ds i).types)
      same_derived n vars (negate at a) k = let x = same_derived n vars a k in λ i. after (x i).steps (negate_rule at (x i).type)
      same_derived n vars (not_expr at a) k = let x = same_derived n vars a k in λ i. after (x i).steps (not_rule at (x i).type)
      same_derived n vars (pown at a j) k = let x = same_derived n vars a k in λ i. after (x i).steps (pown_rule at j (x i).type)
      same_derived n vars (arith_tree at op a b) k =
          let l = n + holes_in a in
          same_two n vars (λ t. vars) a b (λ s t. arith_rule at op s t) (same_derived n vars a (alike_front (keys_in n a) (keys_in l b) k)) (λ vs. same_derived l vs b (alike_back (keys_in n a) (keys_in l b) k))
      same_derived n vars (compare at sign a b) k =
          let l = n + holes_in a in
          same_two n vars (λ t. vars) a b (λ s t. compare_rule at s t) (same_derived n vars a (alike_front (keys_in n a) (keys_in l b) k)) (λ vs. same_derived l vs b (alike_back (keys_in n a) (keys_in l b) k))
      same_derived n vars (both at a b) k =
          let l = n + holes_in a in
          same_two n vars (λ t. vars) a b (λ s t. truths_rule at s t) (same_derived n vars a (alike_front (keys_in n a) (keys_in l b) k)) (λ vs. same_derived l vs b (alike_back (keys_in n a) (keys_in l b) k))
      same_derived n vars (either at a b) k =
          let l = n + holes_in a in
          same_two n vars (λ t. vars) a b (λ s t. truths_rule at s t) (same_derived n vars a (alike_front (keys_in n a) (keys_in l b) k)) (λ vs. same_derived l vs b (alike_back (keys_in n a) (keys_in l b) k))
      same_derived n vars (if at c a b) k =
          let l = n + holes_in c in
          let r = n + holes_in c + holes_in a in
          let arms = alike_back (keys_in n c) (keys_in l a ++ keys_in r b) k in
          same_three n vars (λ t. vars) c a b (λ u s t. if_rule at u s t) (same_derived n vars c (alike_front (keys_in n c) (keys_in l a ++ keys_in r b) k)) (same_derived l vars a (alike_front (keys_in l a) (keys_in r b) arms)) (λ vs. same_derived r vs b (alike_back (keys_in l a) (keys_in r b) arms))
      same_derived n vars (bind at a b) k =
          let l = n + holes_in a in
          same_two n vars (λ t. vars ++ t ∷ []) a b (λ s t. formed at [] t) (same_derived n vars a (alike_front (keys_in n a) (keys_in l b) k)) (λ vs. same_derived l vs b (alike_back (keys_in n a) (keys_in l b) k))
      same_derived n vars (split at c a b) k =
          let l = n + holes_in c in
          let r = n + holes_in c + holes_in a in
          let arms = alike_back (keys_in n c) (keys_in l a ++ keys_in r b) k in
          same_three n vars (λ t. vars ++ item t ∷ t ∷ []) c a b (λ u s t. split_rule at u s t) (same_derived n vars c (alike_front (keys_in n c) (keys_in l a ++ keys_in r b) k)) (same_derived l vars a (alike_front (keys_in l a) (keys_in r b) arms)) (λ vs. same_derived r vs b (alike_back (keys_in l a) (keys_in r b) arms))
      same_derived n vars (nil at x) k = ap (nil_rule at) (same_type n x k)
      same_derived n vars (list_expr at es) k = let ds = same_all n vars es k in λ i. after (ds i).steps (list_rule at (ds i).types)
      same_derived n vars (cons at a b) k =
          let l = n + holes_in a in
          same_two n vars (λ t. vars) a b (λ s t. cons_rule at s t) (same_derived n vars a (alike_front (keys_in n a) (keys_in l b) k)) (λ vs. same_derived l vs b (alike_back (keys_in n a) (keys_in l b) k))
      same_derived n vars (record_expr at r es) k =
          let c = record_holes (slice_get records r) in
          let us = same_first c (λ j. f (n + j)) (λ j. g (n + j)) (same_holes n c (alike_front (hole_keys n c) (exprs_keys records callee (n + c) es) k)) in
          let ds = same_all (n + c) vars es (alike_back (hole_keys n c) (exprs_keys records callee (n + c) es) k) in
          λ i. after (ds i).steps (record_rule at r (us i) (slice_get records r) (ds i).types)
      same_derived n vars (field at r j a) k = let x = same_derived n vars a k in λ i. after (x i).steps (field_rule at r j (slice_get records r) (x i).type)

      pub same_all : (n : ℕ) (vars : List TypeTree) (es : ExprTrees) → KeysAlike (exprs_keys records callee n es) → derive_all f m records self callee n vars es ≡ derive_all g q records self callee n vars es
      same_all n vars none k = refl
      same_all n vars (more e es) k =
          let l = n + holes_in e in
          let x = same_derived n vars e (alike_front (keys_in n e) (exprs_keys records callee l es) k) in
          let ds = same_all l vars es (alike_back (keys_in n e) (exprs_keys records callee l es) k) in
          λ i. record { types = (x i).type ∷ (ds i).types; steps = (x i).steps ++ (ds i).steps }

  -- ---- the equations of a function
  same_result : (n : ℕ) (o : Option NoteTree) → KeysAlike (result_keys n o) → noted_result f m n o ≡ noted_result g q n o
  same_result n None h = refl
  same_result n (Some x) h = same_type n x h

  same_rows : (at : ℕ) (t : TypeTree) (n : ℕ) (o : Option NoteTree) → KeysAlike (result_keys n o) → result_rows f m at t n o ≡ result_rows g q at t n o
  same_rows at t n None h = refl
  same_rows at t n (Some x) h = ap (λ s. against at t s) (same_type n x h)

  module _ (records : List RecordTree) (schemes : List SchemeTree) (i : ℕ) (fn : FunctionTree) (low : (j : ℕ) → CalleeBelow (callee schemes i fn j)) (k : KeysAlike (function_keys records schemes i fn)) where
    abbrev head : List Key
    head = notes_keys 0 fn.params

    abbrev noted_keys : List Key
    noted_keys = result_keys (notes_holes fn.params) fn.result

    abbrev body_keys : List Key
    body_keys = expr_keys records (callee schemes i fn) (head_holes fn) fn.body

    behind : KeysAlike (noted_keys ++ body_keys)
    behind = alike_back head (noted_keys ++ body_keys) (alike_back (name_keys 0 fn.units) (head ++ (noted_keys ++ body_keys)) k)

    noted : KeysAlike noted_keys
    noted = alike_front noted_keys body_keys behind

    same_params : noted_types f m 0 fn.params ≡ noted_types g q 0 fn.params
    same_params = same_types 0 fn.params (alike_front head (noted_keys ++ body_keys) (alike_back (name_keys 0 fn.units) (head ++ (noted_keys ++ body_keys)) k))

    same_own : own_signature f m fn ≡ own_signature g q fn
    same_own = λ j. record { params = same_params j; result = same_result (notes_holes fn.params) fn.result noted j }

    pub same_body : derived_body f m records schemes i fn ≡ derived_body g q records schemes i fn
    same_body =
        same_derived records (own_signature f m fn) (callee schemes i fn) low (head_holes fn) (noted_types f m 0 fn.params) fn.body (alike_back noted_keys body_keys behind)
        ∙ (λ j. derive g q records (same_own j) (callee schemes i fn) (head_holes fn) (same_params j) fn.body)

    pub same_equations : equations f m records schemes i fn ≡ equations g q records schemes i fn
    same_equations = λ j. record {
      params = same_params j;
      result = (same_body j).type;
      steps = types_at fn.at (same_params j ++ same_result (notes_holes fn.params) fn.result noted j ∷ []) ++ ((same_body j).steps ++ same_rows fn.at (same_body j).type (notes_holes fn.params) fn.result noted j);
    }
