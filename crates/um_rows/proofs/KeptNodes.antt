-- The nodes that a walk keeps are those of the derivation.
use Rattle.std.proofs.Common.{◌≡◌, ℕ, ◌+◌, true, List, [], ◌∷◌, ◌++◌, map, Option, Some, None, Result, Ok, Err, slice_get, refl, sym, ap, ◌∙◌}
use Rattle.std.specs.Prelude.{Bool, IsTrue}
use Rattle.std.proofs.lemmas.List.{append_assoc}
use Rattle.um_units.specs.PowerMap.{PowerMap, nth}
use Rattle.um_tree.specs.declared.program.Record.{Record}
use Rattle.um_tree.specs.declared.program.Scheme.{Scheme}
use Rattle.um_tree.specs.TypeTree.{TypeTree, bool_type, type_tree}
use Rattle.um_tree.specs.ExprTree.{ExprTree, ExprTrees, truth, number, local, call, negate, not_expr, pown, arith as arith_tree, compare, both, either, if, bind, split, nil, list_expr, cons, record_expr, field, none, more}
use Rattle.um_tree.specs.ProgramTree.{RecordTree, Signature, record_tree}
use Rattle.um_slots.specs.declared.context.Context.{Context}
use Rattle.um_equal_types.specs.declared.row.Row.{Row}
use Rattle.um_equal_types.specs.Steps.{Step, first_past, rows_of}
use Rattle.um_rows.specs.NodeTypes.{TypedNode, nodes_of, derived_nodes}
use Rattle.um_slots.specs.Holes.{Callee, callee_holes, record_holes, expr_holes}
use Rattle.um_slots.specs.Noted.{noted_unit, noted_type}
use Rattle.um_rows.specs.Rules.{Derived, AllDerived, after, formed, item, number_rule, local_rule, call_rule, negate_rule, not_rule, pown_rule, truths_rule, arith_rule, compare_rule, if_rule, split_rule, nil_rule, list_rule, cons_rule, record_rule, field_rule}
use Rattle.um_rows.specs.Derivation.{first_units, offered, derive, derive_all}
use Rattle.um_rows.specs.Walk.{Walked, AllWalked, PairWalked, then, unless_past, node, pair, pair_node, walk, walk_all}
use Rattle.um_rows.specs.Body.{noted_signature, called, body_walk, body_derived}
use Rattle.um_rows.specs.Kept.{place, kept_then, last_kept, parts_kept, all_kept, node_kept, pair_kept, body_kept}
use Rattle.um_rows.proofs.WalkLaws.{all_unless_past, walk-is}
use Rattle.um_rows.proofs.NodeSteps.{nodes_of-append, FormsOne, whole_one, number_one, local_one, call_one, negate_one, not_one, pown_one, truths_one, arith_one, compare_one, if_one, split_one, nil_one, list_one, cons_one, record_one, field_one, after_one}

-- ---- what a walk that doesn't stop says of its parts
record Goes {A B : Type 0} (m : Result A ℕ) (go : A → Result B ℕ) (w : B) : Type 0 where
  first : A
  first_is : m ≡ Ok first
  second_is : go first ≡ Ok w

goes : {A B : Type 0} (m : Result A ℕ) (go : A → Result B ℕ) (w : B) → then m go ≡ Ok w → Goes m go w
goes (Ok x) go w h = record { first = x; first_is = refl; second_is = h }
goes (Err at) go w h = absurd (cc h)

-- a node has the type of its rule, and counts so many holes
node_is : (o : Option ℕ) (v w : Walked) → unless_past o v ≡ Ok w → v ≡ w
node_is None v w h = cc h
node_is (Some at) v w h = absurd (cc h)

all_is : (o : Option ℕ) (v w : AllWalked) → all_unless_past o v ≡ Ok w → v ≡ w
all_is None v w h = cc h
all_is (Some at) v w h = absurd (cc h)

module _ (holes names : ℕ → PowerMap) (records : List RecordTree) (self : Signature) (callee : ℕ → Callee) where
  abbrev der : ℕ → List TypeTree → ExprTree → Derived
  der n vars e = derive holes names records self callee n vars e

  abbrev der_all : ℕ → List TypeTree → ExprTrees → AllDerived
  der_all n vars es = derive_all holes names records self callee n vars es

  abbrev wa : List Row → ℕ → List TypeTree → ExprTree → Result Walked ℕ
  wa rows n vars e = walk holes names records self callee rows n vars e

  abbrev hs : ExprTree → ℕ
  hs e = expr_holes records callee e

  -- the nodes of the parts and of the expression, all asked for
  abbrev parts_of : List Row → ℕ → List TypeTree → ExprTree → List TypedNode
  parts_of rows n vars e = parts_kept true holes names records self callee rows n vars e

  abbrev nodes_in : List Row → ℕ → List TypeTree → ExprTree → List TypedNode
  nodes_in rows n vars e = node_kept true holes names records self callee rows n vars e

  abbrev all_in : List Row → ℕ → List TypeTree → ExprTrees → List TypedNode
  all_in rows n vars es = all_kept true holes names records self callee rows n vars es

  -- ---- what the walk says
  type_is : (rows : List Row) (n : ℕ) (vars : List TypeTree) (e : ExprTree) (w : Walked) → wa rows n vars e ≡ Ok w → w.type ≡ (der n vars e).type
  type_is rows n vars e w h =
      let d = der n vars e in
      ap (λ (v : Walked). v.type) (sym (node_is (first_past d.steps) (record { type = d.type; rows = rows ++ rows_of d.steps; holes = n + hs e }) w (sym (walk-is holes names records self callee e rows n vars) ∙ h)))

  holes_are : (rows : List Row) (n : ℕ) (vars : List TypeTree) (e : ExprTree) (w : Walked) → wa rows n vars e ≡ Ok w → w.holes ≡ n + hs e
  holes_are rows n vars e w h =
      let d = der n vars e in
      ap (λ (v : Walked). v.holes) (sym (node_is (first_past d.steps) (record { type = d.type; rows = rows ++ rows_of d.steps; holes = n + hs e }) w (sym (walk-is holes names records self callee e rows n vars) ∙ h)))

  -- ---- a node: the nodes of its parts, and then its own
  own : (rows : List Row) (n : ℕ) (vars : List TypeTree) (e : ExprTree) (w : Walked) (ss : List Step) (d : Derived) → wa rows n vars e ≡ Ok w → der n vars e ≡ after ss d → FormsOne (place e) d → parts_of rows n vars e ≡ nodes_of ss → nodes_in rows n vars e ≡ derived_nodes (der n vars e)
  own rows n vars e w ss d h is one parts =
      let typed : w.type ≡ d.type = type_is rows n vars e w h ∙ ap (λ (x : Derived). x.type) is in
      ap (λ m. parts_of rows n vars e ++ last_kept true (place e) m) h
      ∙ (λ i. parts i ++ record { at = place e; type = typed i } ∷ [])
      ∙ sym (ap derived_nodes is ∙ after_one (place e) ss d one)

  -- ---- all nodes of an expression that is walked without a stop
  abbrev Same : ExprTree → Type 0
  Same e = (rows : List Row) (n : ℕ) (vars : List TypeTree) (w : Walked) → wa rows n vars e ≡ Ok w → nodes_in rows n vars e ≡ derived_nodes (der n vars e)

  -- the second part is walked from where the first ends
  next : (a b : ExprTree) → Same b → (rows : List Row) (n : ℕ) (vars vs : List TypeTree) (x y : Walked) → wa rows n vars a ≡ Ok x → wa x.rows x.holes vs b ≡ Ok y → nodes_in x.rows x.holes vs b ≡ derived_nodes (der (n + hs a) vs b)
  next a b also rows n vars vs x y first second =
      also x.rows x.holes vs y second ∙ ap (λ m. derived_nodes (der m vs b)) (holes_are rows n vars a x first)

  two_nodes : (a b : ExprTree) → Same a → Same b → (rows : List Row) (n : ℕ) (vars : List TypeTree) (scope : TypeTree → List TypeTree) (x y : Walked) → wa rows n vars a ≡ Ok x → wa x.rows x.holes (scope x.type) b ≡ Ok y →
      nodes_in rows n vars a ++ kept_then (wa rows n vars a) (λ v. nodes_in v.rows v.holes (scope v.type) b)
      ≡ nodes_of ((der n vars a).steps ++ (der (n + hs a) (scope (der n vars a).type) b).steps)
  two_nodes a b same also rows n vars scope x y first second =
      let dx = der n vars a in
      let dy = der (n + hs a) (scope dx.type) b in
      ap (λ m. nodes_in rows n vars a ++ kept_then m (λ v. nodes_in v.rows v.holes (scope v.type) b)) first
      ∙ (λ i. same rows n vars x first i ++ next a b also rows n vars (scope x.type) x y first second i)
      ∙ ap (λ t. nodes_of dx.steps ++ nodes_of (der (n + hs a) (scope t) b).steps) (type_is rows n vars a x first)
      ∙ sym (nodes_of-append dx.steps dy.steps)

  three_nodes : (c a b : ExprTree) → Same c → Same a → Same b → (rows : List Row) (n : ℕ) (vars : List TypeTree) (scope : TypeTree → List TypeTree) (z x y : Walked) → wa rows n vars c ≡ Ok z → wa z.rows z.holes vars a ≡ Ok x → wa x.rows x.holes (scope z.type) b ≡ Ok y →
      nodes_in rows n vars c ++ (nodes_in z.rows z.holes vars a ++ nodes_in x.rows x.holes (scope z.type) b)
      ≡ nodes_of ((der n vars c).steps ++ ((der (n + hs c) vars a).steps ++ (der (n + hs c + hs a) (scope (der n vars c).type) b).steps))
  three_nodes c a b one same also rows n vars scope z x y first second third =
      let dz = der n vars c in
      let dx = der (n + hs c) vars a in
      let dy = der (n + hs c + hs a) (scope dz.type) b in
      let arm = next c a same rows n vars vars z x first second in
      let last = next a b also z.rows z.holes vars (scope z.type) x y second third ∙ ap (λ m. derived_nodes (der (m + hs a) (scope z.type) b)) (holes_are rows n vars c z first) in
      (λ i. one rows n vars z first i ++ (arm i ++ last i))
      ∙ ap (λ t. nodes_of dz.steps ++ (nodes_of dx.steps ++ nodes_of (der (n + hs c + hs a) (scope t) b).steps)) (type_is rows n vars c z first)
      ∙ ap (λ ns. nodes_of dz.steps ++ ns) (sym (nodes_of-append dx.steps dy.steps))
      ∙ sym (nodes_of-append dz.steps (dx.steps ++ dy.steps))

  -- ---- the walks of the parts of a node of two parts
  record BothGo (rows : List Row) (n : ℕ) (vars : List TypeTree) (a b : ExprTree) : Type 0 where
    one : Walked
    two : Walked
    one_is : wa rows n vars a ≡ Ok one
    two_is : wa one.rows one.holes vars b ≡ Ok two

  both_go : (rows : List Row) (n : ℕ) (vars : List TypeTree) (a b : ExprTree) (p : PairWalked) → pair (wa rows n vars a) (λ x. wa x.rows x.holes vars b) ≡ Ok p → BothGo rows n vars a b
  both_go rows n vars a b p h =
      let x = goes _ _ p h in
      let y = goes _ _ p x.second_is in
      record { one = x.first; two = y.first; one_is = x.first_is; two_is = y.first_is }

  pair_nodes : (a b : ExprTree) → Same a → Same b → (rows : List Row) (n : ℕ) (vars : List TypeTree) (d : TypeTree → TypeTree → Derived) (w : Walked) → pair_node (pair (wa rows n vars a) (λ x. wa x.rows x.holes vars b)) d ≡ Ok w →
      pair_kept true holes names records self callee rows n vars a b ≡ nodes_of ((der n vars a).steps ++ (der (n + hs a) vars b).steps)
  pair_nodes a b same also rows n vars d w h =
      let p = goes _ _ w h in
      let g = both_go rows n vars a b p.first p.first_is in
      two_nodes a b same also rows n vars (λ t. vars) g.one g.two g.one_is g.two_is

  abbrev AllSame : ExprTrees → Type 0
  AllSame es = (rows : List Row) (n : ℕ) (vars : List TypeTree) (w : AllWalked) → walk_all holes names records self callee rows n vars es ≡ Ok w → all_in rows n vars es ≡ nodes_of (der_all n vars es).steps

  mutual
    pub nodes_are : (e : ExprTree) → Same e
    nodes_are (truth at b) rows n vars w h = own rows n vars (truth at b) w [] (formed at [] bool_type) h refl refl refl
    nodes_are (number at c m) rows n vars w h = own rows n vars (number at c m) w [] (number_rule at c m (noted_unit holes names n m)) h refl (number_one at c m (noted_unit holes names n m)) refl
    nodes_are (local at k) rows n vars w h = own rows n vars (local at k) w [] (local_rule at (slice_get vars k)) h refl (local_one at (slice_get vars k)) refl
    nodes_are (call at j es) rows n vars w h =
        let m = n + callee_holes (callee j) in
        let ds = der_all m vars es in
        let g = goes _ _ w h in
        own rows n vars (call at j es) w ds.steps (call_rule at (offered holes names records self callee n (callee j)) ds.types) h refl (call_one at (offered holes names records self callee n (callee j)) ds.types) (all_nodes_are es rows m vars g.first g.first_is)
    nodes_are (negate at a) rows n vars w h =
        let g = goes _ _ w h in
        own rows n vars (negate at a) w (der n vars a).steps (negate_rule at (der n vars a).type) h refl (negate_one at (der n vars a).type) (nodes_are a rows n vars g.first g.first_is)
    nodes_are (not_expr at a) rows n vars w h =
        let g = goes _ _ w h in
        own rows n vars (not_expr at a) w (der n vars a).steps (not_rule at (der n vars a).type) h refl (not_one at (der n vars a).type) (nodes_are a rows n vars g.first g.first_is)
    nodes_are (pown at a k) rows n vars w h =
        let g = goes _ _ w h in
        own rows n vars (pown at a k) w (der n vars a).steps (pown_rule at k (der n vars a).type) h refl (pown_one at k (der n vars a).type) (nodes_are a rows n vars g.first g.first_is)
    nodes_are (arith_tree at op a b) rows n vars w h =
        own rows n vars (arith_tree at op a b) w ((der n vars a).steps ++ (der (n + hs a) vars b).steps) (arith_rule at op (der n vars a).type (der (n + hs a) vars b).type) h refl (arith_one at op (der n vars a).type (der (n + hs a) vars b).type)
        (pair_nodes a b (nodes_are a) (nodes_are b) rows n vars (λ s t. arith_rule at op s t) w h)
    nodes_are (compare at sign a b) rows n vars w h =
        own rows n vars (compare at sign a b) w ((der n vars a).steps ++ (der (n + hs a) vars b).steps) (compare_rule at (der n vars a).type (der (n + hs a) vars b).type) h refl (compare_one at (der n vars a).type (der (n + hs a) vars b).type)
        (pair_nodes a b (nodes_are a) (nodes_are b) rows n vars (λ s t. compare_rule at s t) w h)
    nodes_are (both at a b) rows n vars w h =
        own rows n vars (both at a b) w ((der n vars a).steps ++ (der (n + hs a) vars b).steps) (truths_rule at (der n vars a).type (der (n + hs a) vars b).type) h refl (truths_one at (der n vars a).type (der (n + hs a) vars b).type)
        (pair_nodes a b (nodes_are a) (nodes_are b) rows n vars (λ s t. truths_rule at s t) w h)
    nodes_are (either at a b) rows n vars w h =
        own rows n vars (either at a b) w ((der n vars a).steps ++ (der (n + hs a) vars b).steps) (truths_rule at (der n vars a).type (der (n + hs a) vars b).type) h refl (truths_one at (der n vars a).type (der (n + hs a) vars b).type)
        (pair_nodes a b (nodes_are a) (nodes_are b) rows n vars (λ s t. truths_rule at s t) w h)
    nodes_are (if at c a b) rows n vars w h =
        let z = goes _ _ w h in
        let p = goes _ _ w z.second_is in
        let g = both_go z.first.rows z.first.holes vars a b p.first p.first_is in
        let l = n + hs c in
        let parts = three_nodes c a b (nodes_are c) (nodes_are a) (nodes_are b) rows n vars (λ t. vars) z.first g.one g.two z.first_is g.one_is g.two_is in
        let here : parts_of rows n vars (if at c a b) ≡ nodes_in rows n vars c ++ (nodes_in z.first.rows z.first.holes vars a ++ nodes_in g.one.rows g.one.holes vars b) =
        ap (λ m. nodes_in rows n vars c ++ kept_then m (λ v. nodes_in v.rows v.holes vars a ++ kept_then (wa v.rows v.holes vars a) (λ x. nodes_in x.rows x.holes vars b))) z.first_is
        ∙ ap (λ m. nodes_in rows n vars c ++ (nodes_in z.first.rows z.first.holes vars a ++ kept_then m (λ x. nodes_in x.rows x.holes vars b))) g.one_is in
        own rows n vars (if at c a b) w ((der n vars c).steps ++ ((der l vars a).steps ++ (der (l + hs a) vars b).steps)) (if_rule at (der n vars c).type (der l vars a).type (der (l + hs a) vars b).type) h refl (if_one at (der n vars c).type (der l vars a).type (der (l + hs a) vars b).type) (here ∙ parts)
    nodes_are (bind at a b) rows n vars w h =
        let x = goes _ _ w h in
        let y = goes _ _ w x.second_is in
        let dx = der n vars a in
        own rows n vars (bind at a b) w (dx.steps ++ (der (n + hs a) (vars ++ dx.type ∷ []) b).steps) (formed at [] (der (n + hs a) (vars ++ dx.type ∷ []) b).type) h refl (whole_one at (der (n + hs a) (vars ++ dx.type ∷ []) b).type)
        (two_nodes a b (nodes_are a) (nodes_are b) rows n vars (λ t. vars ++ t ∷ []) x.first y.first x.first_is y.first_is)
    nodes_are (split at l a b) rows n vars w h =
        let p = goes _ _ w h in
        let z = goes _ _ p.first p.first_is in
        let x = goes _ _ p.first z.second_is in
        let made : PairWalked = record { first = z.first.type; second = x.first.type; rows = x.first.rows; holes = x.first.holes } in
        let pair_is : made ≡ p.first = cc x.second_is in
        let pair_goes : pair (wa rows n vars l) (λ v. wa v.rows v.holes vars a) ≡ Ok made = p.first_is ∙ ap Ok (sym pair_is) in
        let go = λ (q : PairWalked). then (wa q.rows q.holes (vars ++ item q.first ∷ q.first ∷ []) b) (λ y. node y.rows y.holes (split_rule at q.first q.second y.type)) in
        let y = goes (wa made.rows made.holes (vars ++ item made.first ∷ made.first ∷ []) b) (λ y. node y.rows y.holes (split_rule at made.first made.second y.type)) w (ap go pair_is ∙ p.second_is) in
        let k = n + hs l in
        let scope = λ (t : TypeTree). vars ++ item t ∷ t ∷ [] in
        let dz = der n vars l in
        let parts = three_nodes l a b (nodes_are l) (nodes_are a) (nodes_are b) rows n vars scope z.first x.first y.first z.first_is x.first_is y.first_is in
        let here : parts_of rows n vars (split at l a b) ≡ nodes_in rows n vars l ++ (nodes_in z.first.rows z.first.holes vars a ++ nodes_in x.first.rows x.first.holes (scope z.first.type) b) =
        ap (λ m. (nodes_in rows n vars l ++ kept_then m (λ v. nodes_in v.rows v.holes vars a)) ++ kept_then (pair (wa rows n vars l) (λ v. wa v.rows v.holes vars a)) (λ q. nodes_in q.rows q.holes (scope q.first) b)) z.first_is
        ∙ ap (λ m. (nodes_in rows n vars l ++ nodes_in z.first.rows z.first.holes vars a) ++ kept_then m (λ (q : PairWalked). nodes_in q.rows q.holes (scope q.first) b)) pair_goes
        ∙ append_assoc (nodes_in rows n vars l) (nodes_in z.first.rows z.first.holes vars a) (nodes_in x.first.rows x.first.holes (scope z.first.type) b) in
        own rows n vars (split at l a b) w (dz.steps ++ ((der k vars a).steps ++ (der (k + hs a) (scope dz.type) b).steps)) (split_rule at dz.type (der k vars a).type (der (k + hs a) (scope dz.type) b).type) h refl (split_one at dz.type (der k vars a).type (der (k + hs a) (scope dz.type) b).type) (here ∙ parts)
    nodes_are (nil at m) rows n vars w h = own rows n vars (nil at m) w [] (nil_rule at (noted_type holes names n m)) h refl (nil_one at (noted_type holes names n m)) refl
    nodes_are (list_expr at es) rows n vars w h =
        let g = goes _ _ w h in
        own rows n vars (list_expr at es) w (der_all n vars es).steps (list_rule at (der_all n vars es).types) h refl (list_one at (der_all n vars es).types) (all_nodes_are es rows n vars g.first g.first_is)
    nodes_are (cons at a b) rows n vars w h =
        own rows n vars (cons at a b) w ((der n vars a).steps ++ (der (n + hs a) vars b).steps) (cons_rule at (der n vars a).type (der (n + hs a) vars b).type) h refl (cons_one at (der n vars a).type (der (n + hs a) vars b).type)
        (pair_nodes a b (nodes_are a) (nodes_are b) rows n vars (λ s t. cons_rule at s t) w h)
    nodes_are (record_expr at r es) rows n vars w h =
        let m = record_holes (slice_get records r) in
        let us = first_units m (λ k. holes (n + k)) in
        let ds = der_all (n + m) vars es in
        let g = goes _ _ w h in
        own rows n vars (record_expr at r es) w ds.steps (record_rule at r us (slice_get records r) ds.types) h refl (record_one at r us (slice_get records r) ds.types) (all_nodes_are es rows (n + m) vars g.first g.first_is)
    nodes_are (field at r k a) rows n vars w h =
        let g = goes _ _ w h in
        own rows n vars (field at r k a) w (der n vars a).steps (field_rule at r k (slice_get records r) (der n vars a).type) h refl (field_one at r k (slice_get records r) (der n vars a).type) (nodes_are a rows n vars g.first g.first_is)

    pub all_nodes_are : (es : ExprTrees) → AllSame es
    all_nodes_are none rows n vars w h = refl
    all_nodes_are (more e es) rows n vars w h =
        let x = goes _ _ w h in
        let y = goes _ _ w x.second_is in
        let d = der n vars e in
        let ds = der_all (n + hs e) vars es in
        ap (λ m. nodes_in rows n vars e ++ kept_then m (λ v. all_in v.rows v.holes vars es)) x.first_is
        ∙ (λ i. nodes_are e rows n vars x.first x.first_is i ++ all_nodes_are es x.first.rows x.first.holes vars y.first y.first_is i)
        ∙ ap (λ m. nodes_of d.steps ++ nodes_of (der_all m vars es).steps) (holes_are rows n vars e x.first x.first_is)
        ∙ sym (nodes_of-append d.steps ds.steps)

-- ---- the nodes that the code keeps of a body
module _ (records : List Record) (schemes : List Scheme) (c : Context) (n : ℕ) (e : ExprTree) (rs : List Row) (vars : List TypeTree) (same : vars ≡ map type_tree c.params.items) where
  pub kept_derived : (asked : Bool) → IsTrue asked → (w : Walked) → body_walk records schemes c rs n vars e ≡ Ok w → (old new : List TypedNode) → old ≡ [] → new ≡ old ++ body_kept asked records schemes c rs n vars e → new ≡ derived_nodes (body_derived records schemes c n e)
  kept_derived asked wanted w is old new begins h =
      h ∙ ap (λ ns. ns ++ body_kept asked records schemes c rs n vars e) begins ∙ ap (λ b. body_kept b records schemes c rs n vars e) wanted
      ∙ nodes_are (nth c.holes.items) (nth c.names.items) (map record_tree records) (noted_signature c) (called schemes c) e rs n vars w is
      ∙ ap (λ vs. derived_nodes (derive (nth c.holes.items) (nth c.names.items) (map record_tree records) (noted_signature c) (called schemes c) n vs e)) same
