-- The agreements by the numbers of nodes are those of the derivation: at each node stands one of the two types.
use Rattle.std.proofs.Common.{◌≡◌, ℕ, suc, ◌+◌, List, [], ◌∷◌, ◌++◌, map, length, Option, Some, None, slice_get, refl, sym, ap, ◌∙◌, subst, arith}
use Rattle.std.proofs.lemmas.List.{append-nil, append_assoc, map-append, length-append}
use Rattle.um_units.specs.PowerMap.{PowerMap}
use Rattle.um_tree.specs.declared.expression.Arith.{Arith}
use Rattle.um_tree.specs.declared.expression.Arith.TheVariants.{Add, Sub, Mul, Div}
use Rattle.um_tree.specs.TypeTree.{TypeTree, list_type, record_type}
use Rattle.um_tree.specs.ExprTree.{ExprTree, ExprTrees, truth, number, local, call, negate, not_expr, pown, arith as arith_tree, compare, both, either, if, bind, split, nil, list_expr, cons, record_expr, field, none, more}
use Rattle.um_tree.specs.ProgramTree.{RecordTree, Signature}
use Rattle.um_tree.specs.Typing.{put, unit_at, field_types}
use Rattle.um_slots.specs.Holes.{Callee, callee_holes, record_holes, expr_holes}
use Rattle.um_slots.specs.Noted.{noted_unit, noted_type}
use Rattle.um_equal_types.specs.Steps.{Step, type_at}
use Rattle.um_equal_types.specs.Against.{against, types_against}
use Rattle.um_rows.specs.NodeTypes.{TypedNode, nodes_of}
use Rattle.um_rows.specs.Rules.{Derived, AllDerived, after, formed, item, call_rule, negate_rule, not_rule, pown_rule, truths_rule, arith_rule, compare_rule, if_rule, split_rule, list_rule, cons_rule, record_rule, field_rule}
use Rattle.um_rows.specs.Derivation.{first_units, offered, derive, derive_all}
use Rattle.um_rows.specs.RightShapes.{HaveRightShapes}
use Rattle.um_rows.proofs.NodeSteps.{nodes_of-append, FormsOne, whole_one, number_one, local_one, call_one, negate_one, not_one, pown_one, truths_one, arith_one, compare_one, if_one, split_one, nil_one, list_one, cons_one, record_one, field_one, after_one}
use Rattle.um_agree.specs.declared.rule.Rule.{Rule}
use Rattle.um_agree.specs.declared.rule.Rule.TheVariants as asks
use Rattle.um_agree.specs.declared.found.Asked.{Asked}
use Rattle.um_agree.specs.declared.found.Each.TheVariants as each
use Rattle.um_agree.specs.Agreements.{Agreement}
use Rattle.um_agree.specs.NodeAgreements.{agree, agree_each, agree_with, arith_agreements, call_agreements, list_agreements, cons_agreements, record_agreements}
use Rattle.um_agree.specs.FunctionAgreements.{agreements, all_agreements}
use Rattle.um_agree.specs.Asked.{asked_by, asked_each, asked_parts, parts_count, all_count, count, ends_of, sides, asked_in, all_asked}
use Rattle.um_agree.specs.Made.{node_type, inner, known_of, known_type, Known, known, seen}
use Rattle.um_agree.proofs.RuleRows.{right_front, right_back}

module _ (nodes : List TypedNode) where
  abbrev view : Asked → Known
  view x = seen nodes x

  abbrev AreKnown : List Asked → List Agreement → Type 0
  AreKnown xs ones = map view xs ≡ map known ones

  pub known_both : (xs ys : List Asked) (ones bs : List Agreement) → AreKnown xs ones → AreKnown ys bs → AreKnown (xs ++ ys) (ones ++ bs)
  known_both xs ys ones bs h k = map-append view xs ys ∙ (λ i. h i ++ k i) ∙ sym (map-append known ones bs)

  -- ---- where some nodes stand
  pub record Stand (c : ℕ) (ns : List TypedNode) : Type 0 where
    pub front : List TypedNode
    pub back : List TypedNode
    pub before : length front ≡ c
    pub whole : nodes ≡ front ++ (ns ++ back)

  stand_front : (c : ℕ) (a b : List TypedNode) → Stand c (a ++ b) → Stand c a
  stand_front c a b h = record { front = h.front; back = b ++ h.back; before = h.before; whole = h.whole ∙ ap (λ ns. h.front ++ ns) (append_assoc a b h.back) }

  stand_back : (c : ℕ) (a b : List TypedNode) → Stand c (a ++ b) → Stand (c + length a) b
  stand_back c a b h = record {
    front = h.front ++ a;
    back = h.back;
    before = (let l = length-append h.front a in let m = h.before in omega (arith, l, m));
    whole = h.whole ∙ ap (λ ns. h.front ++ ns) (append_assoc a b h.back) ∙ sym (append_assoc h.front a (b ++ h.back));
  }

  stands_at : (c at : ℕ) (t : TypeTree) (inner : List TypedNode) → Stand c (inner ++ record { at = at; type = t } ∷ []) → node_type nodes (c + length inner) ≡ t
  stands_at c at t inner h =
      let w = stand_back c inner (record { at = at; type = t } ∷ []) h in
      ap (λ ns. node_type ns (c + length inner)) w.whole
      ∙ ap (λ k. node_type (w.front ++ (record { at = at; type = t } ∷ w.back)) k) (sym w.before)
      ∙ here w.front w.back
    where
      here : (front back : List TypedNode) → node_type (front ++ (record { at = at; type = t } ∷ back)) (length front) ≡ t
      here [] back = refl
      here (n ∷ front) back = here front back

  -- ---- each part of a node
  shifted : (rules : ℕ → Rule) (k at : ℕ) (ns : List ℕ) → asked_each (λ m. rules (m + 1)) k at ns ≡ asked_each rules (k + 1) at ns
  shifted rules k at [] = refl
  shifted rules k at (n ∷ ns) =
      ap (λ xs. record { rule = rules (k + 1); at = at; node = n } ∷ xs) (shifted rules (suc k) at ns ∙ ap (λ m. asked_each rules m at ns) (let e : suc k + 1 ≡ suc (k + 1) = omega arith in e))

  -- no rule among these asks for anything but the types themselves
  abbrev ArePlain : (ℕ → Rule) → Type 0
  ArePlain rules = (k : ℕ) (s t : TypeTree) → (known_type (rules k) t ≡ t) × (known_of (rules k) s t ≡ t)

  one_known : (r : Rule) (at n : ℕ) (s t : TypeTree) → known_type r t ≡ t → known_of r s t ≡ t → node_type nodes n ≡ t →
      view (record { rule = r; at = at; node = n }) ≡ known (agree r at s t)
  one_known r at n s t h k e = ap (λ x. record { rule = r; at = at; type = x }) (ap (known_type r) e ∙ h ∙ sym k)

  each_known : (rules : ℕ → Rule) → ArePlain rules → (k at : ℕ) (ns : List ℕ) (ss ts : List TypeTree) → map (node_type nodes) ns ≡ ts → HaveRightShapes (types_against at ss ts) →
      AreKnown (asked_each rules k at ns) (agree_each rules k at ss ts)
  each_known rules plain k at [] [] [] e h = refl
  each_known rules plain k at (n ∷ ns) (s ∷ ss) (t ∷ ts) e h =
      let here : node_type nodes n ≡ t = cc e in
      let rest : map (node_type nodes) ns ≡ ts = cc e in
      let p = plain k s t in
      λ i. one_known (rules k) at n s t p.0 p.1 here i ∷ each_known rules plain (suc k) at ns ss ts rest (right_back (against at s t) (types_against at ss ts) h) i
  each_known rules plain k at [] ss (t ∷ ts) e h = absurd (cc e)
  each_known rules plain k at (n ∷ ns) ss [] e h = absurd (cc e)
  each_known rules plain k at [] (s ∷ ss) [] e h = absurd h
  each_known rules plain k at (n ∷ ns) [] (t ∷ ts) e h = absurd h

  with_known : (rules : ℕ → Rule) → ArePlain rules → (k at : ℕ) (s : TypeTree) (ns : List ℕ) (ts : List TypeTree) → map (node_type nodes) ns ≡ ts →
      AreKnown (asked_each rules k at ns) (agree_with rules k at s ts)
  with_known rules plain k at s [] [] e = refl
  with_known rules plain k at s (n ∷ ns) (t ∷ ts) e =
      let here : node_type nodes n ≡ t = cc e in
      let rest : map (node_type nodes) ns ≡ ts = cc e in
      let p = plain k s t in
      λ i. one_known (rules k) at n s t p.0 p.1 here i ∷ with_known rules plain (suc k) at s ns ts rest i
  with_known rules plain k at s [] (t ∷ ts) e = absurd (cc e)
  with_known rules plain k at s (n ∷ ns) [] e = absurd (cc e)

  arguments_plain : (j : ℕ) → ArePlain (asks.Argument j)
  arguments_plain j k s t = (refl, refl)

  items_plain : ArePlain asks.Item
  items_plain k s t = (refl, refl)

  fields_plain : (r : ℕ) → ArePlain (asks.Part r)
  fields_plain r k s t = (refl, refl)

  call_known : (j at : ℕ) (ns : List ℕ) (o : Option Signature) (ts : List TypeTree) → map (node_type nodes) ns ≡ ts → HaveRightShapes (call_rule at o ts).steps →
      AreKnown (asked_parts (each.Argument j) at ns) (call_agreements at j o ts)
  call_known j at ns (Some g) ts e h =
      ap (map view) (shifted (asks.Argument j) 0 at ns) ∙ each_known (asks.Argument j) (arguments_plain j) 1 at ns g.params ts e (right_front (types_against at g.params ts) (type_at at g.result ∷ []) h)
  call_known j at ns None ts e h = absurd h

  list_known : (at : ℕ) (ns : List ℕ) (ts : List TypeTree) → map (node_type nodes) ns ≡ ts → HaveRightShapes (list_rule at ts).steps → AreKnown (asked_parts each.Item at ns) (list_agreements at ts)
  list_known at (n ∷ ns) (t ∷ ts) e h =
      let rest : map (node_type nodes) ns ≡ ts = cc e in
      ap (map view) (shifted asks.Item 1 at ns) ∙ with_known asks.Item items_plain 2 at t ns ts rest
  list_known at ns [] e h = absurd h
  list_known at [] (t ∷ ts) e h = absurd (cc e)

  record_known : (at r : ℕ) (us : List PowerMap) (ns : List ℕ) (o : Option RecordTree) (ts : List TypeTree) → map (node_type nodes) ns ≡ ts → HaveRightShapes (record_rule at r us o ts).steps →
      AreKnown (asked_parts (each.Part r) at ns) (record_agreements at r us o ts)
  record_known at r us ns (Some d) ts e h =
      let fields = map (put (unit_at us)) (field_types d) in
      each_known (asks.Part r) (fields_plain r) 0 at ns fields ts e (right_front (types_against at fields ts) (type_at at (record_type r us) ∷ []) h)
  record_known at r us ns None ts e h = absurd h

  sides_known : (op : Arith) (at n : ℕ) (s t : TypeTree) → node_type nodes n ≡ t → AreKnown (asked_by (sides op) at n) (arith_agreements at op s t)
  sides_known Add at n s t e = ap (λ x. x ∷ []) (one_known asks.Sum at n s t refl refl e)
  sides_known Sub at n s t e = ap (λ x. x ∷ []) (one_known asks.Difference at n s t refl refl e)
  sides_known Mul at n s t e = refl
  sides_known Div at n s t e = refl

  head_known : (at n : ℕ) (s t : TypeTree) → node_type nodes n ≡ t → HaveRightShapes (cons_rule at s t).steps → AreKnown (asked_by (Some asks.Head) at n) (cons_agreements at s t)
  head_known at n s (list_type t) e h = ap (λ x. record { rule = asks.Head; at = at; type = inner x } ∷ []) e
  head_known at n s t e h = absurd h

  -- ---- the derivation
  module _ (holes names : ℕ → PowerMap) (records : List RecordTree) (self : Signature) (callee : ℕ → Callee) where
    abbrev der : ℕ → List TypeTree → ExprTree → Derived
    der n vars e = derive holes names records self callee n vars e

    abbrev der_all : ℕ → List TypeTree → ExprTrees → AllDerived
    der_all n vars es = derive_all holes names records self callee n vars es

    abbrev hs : ExprTree → ℕ
    hs e = expr_holes records callee e

    abbrev told : ℕ → List TypeTree → ExprTree → List Agreement
    told n vars e = agreements holes names records self callee n vars e

    abbrev all_told : ℕ → List TypeTree → ExprTrees → List Agreement
    all_told n vars es = all_agreements holes names records self callee n vars es

    -- the nodes of an expression: those of its parts, and its own at the end
    record Ends (e : ExprTree) (d : Derived) : Type 0 where
      inner : List TypedNode
      at : ℕ
      is : nodes_of d.steps ≡ inner ++ record { at = at; type = d.type } ∷ []
      many : length inner ≡ parts_count e

    many_nodes : (e : ExprTree) (d : Derived) → Ends e d → length (nodes_of d.steps) ≡ count e
    many_nodes e d h = let l = length-append h.inner (record { at = h.at; type = d.type } ∷ []) in let m = h.many in ap length h.is ∙ omega (arith, l, m)

    after_parts : (e : ExprTree) (at : ℕ) (ss : List Step) (d : Derived) → FormsOne at d → length (nodes_of ss) ≡ parts_count e → Ends e (after ss d)
    after_parts e at ss d h many = record { inner = nodes_of ss; at = at; is = after_one at ss d h; many = many }

    two_many : (a b : List Step) (m n : ℕ) → length (nodes_of a) ≡ m → length (nodes_of b) ≡ n → length (nodes_of (a ++ b)) ≡ m + n
    two_many a b m n h k = ap length (nodes_of-append a b) ∙ length-append (nodes_of a) (nodes_of b) ∙ (λ i. h i + k i)

    mutual
      ends : (e : ExprTree) (n : ℕ) (vars : List TypeTree) → Ends e (der n vars e)
      ends (truth at b) n vars = record { inner = []; at = at; is = refl; many = refl }
      ends (number at c m) n vars = record { inner = []; at = at; is = number_one at c m (noted_unit holes names n m); many = refl }
      ends (local at k) n vars = record { inner = []; at = at; is = local_one at (slice_get vars k); many = refl }
      ends (call at j es) n vars =
          let m = n + callee_holes (callee j) in
          let ds = der_all m vars es in
          let o = offered holes names records self callee n (callee j) in
          after_parts (call at j es) at ds.steps (call_rule at o ds.types) (call_one at o ds.types) (all_many es m vars)
      ends (negate at a) n vars =
          let x = der n vars a in
          after_parts (negate at a) at x.steps (negate_rule at x.type) (negate_one at x.type) (many_nodes a x (ends a n vars))
      ends (not_expr at a) n vars =
          let x = der n vars a in
          after_parts (not_expr at a) at x.steps (not_rule at x.type) (not_one at x.type) (many_nodes a x (ends a n vars))
      ends (pown at a k) n vars =
          let x = der n vars a in
          after_parts (pown at a k) at x.steps (pown_rule at k x.type) (pown_one at k x.type) (many_nodes a x (ends a n vars))
      ends (arith_tree at op a b) n vars =
          let x = der n vars a in
          let y = der (n + hs a) vars b in
          after_parts (arith_tree at op a b) at (x.steps ++ y.steps) (arith_rule at op x.type y.type) (arith_one at op x.type y.type)
          (two_many x.steps y.steps (count a) (count b) (many_nodes a x (ends a n vars)) (many_nodes b y (ends b (n + hs a) vars)))
      ends (compare at sign a b) n vars =
          let x = der n vars a in
          let y = der (n + hs a) vars b in
          after_parts (compare at sign a b) at (x.steps ++ y.steps) (compare_rule at x.type y.type) (compare_one at x.type y.type)
          (two_many x.steps y.steps (count a) (count b) (many_nodes a x (ends a n vars)) (many_nodes b y (ends b (n + hs a) vars)))
      ends (both at a b) n vars =
          let x = der n vars a in
          let y = der (n + hs a) vars b in
          after_parts (both at a b) at (x.steps ++ y.steps) (truths_rule at x.type y.type) (truths_one at x.type y.type)
          (two_many x.steps y.steps (count a) (count b) (many_nodes a x (ends a n vars)) (many_nodes b y (ends b (n + hs a) vars)))
      ends (either at a b) n vars =
          let x = der n vars a in
          let y = der (n + hs a) vars b in
          after_parts (either at a b) at (x.steps ++ y.steps) (truths_rule at x.type y.type) (truths_one at x.type y.type)
          (two_many x.steps y.steps (count a) (count b) (many_nodes a x (ends a n vars)) (many_nodes b y (ends b (n + hs a) vars)))
      ends (if at c a b) n vars =
          let l = n + hs c in
          let z = der n vars c in
          let x = der l vars a in
          let y = der (l + hs a) vars b in
          after_parts (if at c a b) at (z.steps ++ (x.steps ++ y.steps)) (if_rule at z.type x.type y.type) (if_one at z.type x.type y.type)
          (two_many z.steps (x.steps ++ y.steps) (count c) (count a + count b) (many_nodes c z (ends c n vars))
          (two_many x.steps y.steps (count a) (count b) (many_nodes a x (ends a l vars)) (many_nodes b y (ends b (l + hs a) vars))))
      ends (bind at a b) n vars =
          let x = der n vars a in
          let scope = vars ++ x.type ∷ [] in
          let y = der (n + hs a) scope b in
          after_parts (bind at a b) at (x.steps ++ y.steps) (formed at [] y.type) (whole_one at y.type)
          (two_many x.steps y.steps (count a) (count b) (many_nodes a x (ends a n vars)) (many_nodes b y (ends b (n + hs a) scope)))
      ends (split at l a b) n vars =
          let k = n + hs l in
          let z = der n vars l in
          let x = der k vars a in
          let scope = vars ++ item z.type ∷ z.type ∷ [] in
          let y = der (k + hs a) scope b in
          after_parts (split at l a b) at (z.steps ++ (x.steps ++ y.steps)) (split_rule at z.type x.type y.type) (split_one at z.type x.type y.type)
          (two_many z.steps (x.steps ++ y.steps) (count l) (count a + count b) (many_nodes l z (ends l n vars))
          (two_many x.steps y.steps (count a) (count b) (many_nodes a x (ends a k vars)) (many_nodes b y (ends b (k + hs a) scope))))
      ends (nil at m) n vars = record { inner = []; at = at; is = nil_one at (noted_type holes names n m); many = refl }
      ends (list_expr at es) n vars =
          let ds = der_all n vars es in
          after_parts (list_expr at es) at ds.steps (list_rule at ds.types) (list_one at ds.types) (all_many es n vars)
      ends (cons at a b) n vars =
          let x = der n vars a in
          let y = der (n + hs a) vars b in
          after_parts (cons at a b) at (x.steps ++ y.steps) (cons_rule at x.type y.type) (cons_one at x.type y.type)
          (two_many x.steps y.steps (count a) (count b) (many_nodes a x (ends a n vars)) (many_nodes b y (ends b (n + hs a) vars)))
      ends (record_expr at r es) n vars =
          let m = record_holes (slice_get records r) in
          let us = first_units m (λ k. holes (n + k)) in
          let ds = der_all (n + m) vars es in
          after_parts (record_expr at r es) at ds.steps (record_rule at r us (slice_get records r) ds.types) (record_one at r us (slice_get records r) ds.types) (all_many es (n + m) vars)
      ends (field at r k a) n vars =
          let x = der n vars a in
          after_parts (field at r k a) at x.steps (field_rule at r k (slice_get records r) x.type) (field_one at r k (slice_get records r) x.type) (many_nodes a x (ends a n vars))

      all_many : (es : ExprTrees) (n : ℕ) (vars : List TypeTree) → length (nodes_of (der_all n vars es).steps) ≡ all_count es
      all_many none n vars = refl
      all_many (more e es) n vars =
          two_many (der n vars e).steps (der_all (n + hs e) vars es).steps (count e) (all_count es) (many_nodes e (der n vars e) (ends e n vars)) (all_many es (n + hs e) vars)

    pub node_many : (e : ExprTree) (n : ℕ) (vars : List TypeTree) → length (nodes_of (der n vars e).steps) ≡ count e
    node_many e n vars = many_nodes e (der n vars e) (ends e n vars)

    -- the type of an expression stands at its own node
    pub own_type : (e : ExprTree) (n : ℕ) (vars : List TypeTree) (c : ℕ) → Stand c (nodes_of (der n vars e).steps) → node_type nodes (c + parts_count e) ≡ (der n vars e).type
    own_type e n vars c h =
        let w = ends e n vars in
        ap (λ k. node_type nodes (c + k)) (sym w.many) ∙ stands_at c w.at (der n vars e).type w.inner (subst (Stand c) w.is h)

    -- where the parts of a node stand
    first_stands : (c : ℕ) (a b : List Step) → Stand c (nodes_of (a ++ b)) → Stand c (nodes_of a)
    first_stands c a b h = stand_front c (nodes_of a) (nodes_of b) (subst (Stand c) (nodes_of-append a b) h)

    second_stands : (c m : ℕ) (a b : List Step) → length (nodes_of a) ≡ m → Stand c (nodes_of (a ++ b)) → Stand (c + m) (nodes_of b)
    second_stands c m a b l h = subst (λ k. Stand (c + k) (nodes_of b)) l (stand_back c (nodes_of a) (nodes_of b) (subst (Stand c) (nodes_of-append a b) h))

    abbrev Found : ExprTree → Type 0
    Found e = (n : ℕ) (vars : List TypeTree) (c : ℕ) → Stand c (nodes_of (der n vars e).steps) → HaveRightShapes (der n vars e).steps → AreKnown (asked_in c e) (told n vars e)

    -- one part, and no agreement of the node's own
    part_found : (a : ExprTree) → Found a → (n : ℕ) (vars : List TypeTree) (c : ℕ) (own : List Step) → Stand c (nodes_of ((der n vars a).steps ++ own)) → HaveRightShapes ((der n vars a).steps ++ own) → AreKnown (asked_in c a) (told n vars a)
    part_found a found n vars c own h r = found n vars c (first_stands c (der n vars a).steps own h) (right_front (der n vars a).steps own r)

    -- two parts, the second in a scope of its own, and the agreements of the node
    pair_found : (a b : ExprTree) → Found a → Found b → (n : ℕ) (vars scope : List TypeTree) (c : ℕ) (own : List Step) (xs : ℕ → List Asked) (ones : List Agreement) →
        ((k : ℕ) → node_type nodes k ≡ (der (n + hs a) scope b).type → HaveRightShapes own → AreKnown (xs k) ones) →
        Stand c (nodes_of (((der n vars a).steps ++ (der (n + hs a) scope b).steps) ++ own)) → HaveRightShapes (((der n vars a).steps ++ (der (n + hs a) scope b).steps) ++ own) →
        AreKnown ((asked_in c a ++ asked_in (c + count a) b) ++ xs (c + count a + parts_count b)) ((told n vars a ++ told (n + hs a) scope b) ++ ones)
    pair_found a b found also n vars scope c own xs ones last h r =
        let x = der n vars a in
        let y = der (n + hs a) scope b in
        let parts = first_stands c (x.steps ++ y.steps) own h in
        let right = right_front (x.steps ++ y.steps) own r in
        let second = second_stands c (count a) x.steps y.steps (node_many a n vars) parts in
        known_both (asked_in c a ++ asked_in (c + count a) b) (xs (c + count a + parts_count b)) (told n vars a ++ told (n + hs a) scope b) ones
        (known_both (asked_in c a) (asked_in (c + count a) b) (told n vars a) (told (n + hs a) scope b)
        (found n vars c (first_stands c x.steps y.steps parts) (right_front x.steps y.steps right))
        (also (n + hs a) scope (c + count a) second (right_back x.steps y.steps right)))
        (last (c + count a + parts_count b) (own_type b (n + hs a) scope (c + count a) second) (right_back (x.steps ++ y.steps) own r))

    -- a part before two others
    third_found : (d a b : ExprTree) → Found d → Found a → Found b → (n : ℕ) (vars : List TypeTree) (scope : List TypeTree) (c : ℕ) (own : List Step) (xs : ℕ → List Asked) (ones : List Agreement) →
        ((k : ℕ) → node_type nodes k ≡ (der (n + hs d + hs a) scope b).type → HaveRightShapes own → AreKnown (xs k) ones) →
        Stand c (nodes_of (((der n vars d).steps ++ ((der (n + hs d) vars a).steps ++ (der (n + hs d + hs a) scope b).steps)) ++ own)) →
        HaveRightShapes (((der n vars d).steps ++ ((der (n + hs d) vars a).steps ++ (der (n + hs d + hs a) scope b).steps)) ++ own) →
        AreKnown (asked_in c d ++ ((asked_in (c + count d) a ++ asked_in (c + count d + count a) b) ++ xs (c + count d + count a + parts_count b)))
        (told n vars d ++ told (n + hs d) vars a ++ told (n + hs d + hs a) scope b ++ ones)
    third_found d a b before found also n vars scope c own xs ones last h r =
        let l = n + hs d in
        let z = der n vars d in
        let x = der l vars a in
        let y = der (l + hs a) scope b in
        let split_nodes : nodes_of ((z.steps ++ (x.steps ++ y.steps)) ++ own) ≡ nodes_of (z.steps ++ ((x.steps ++ y.steps) ++ own)) = ap nodes_of (append_assoc z.steps (x.steps ++ y.steps) own) in
        let here = subst (Stand c) split_nodes h in
        let right = subst HaveRightShapes (append_assoc z.steps (x.steps ++ y.steps) own) r in
        let rest = (x.steps ++ y.steps) ++ own in
        known_both (asked_in c d) ((asked_in (c + count d) a ++ asked_in (c + count d + count a) b) ++ xs (c + count d + count a + parts_count b)) (told n vars d) ((told l vars a ++ told (l + hs a) scope b) ++ ones)
        (before n vars c (first_stands c z.steps rest here) (right_front z.steps rest right))
        (pair_found a b found also l vars scope (c + count d) own xs ones last (second_stands c (count d) z.steps rest (node_many d n vars) here) (right_back z.steps rest right))
        ∙ ap (map known) (sym (append_assoc (told n vars d) (told l vars a ++ told (l + hs a) scope b) ones) ∙ ap (λ bs. bs ++ ones) (sym (append_assoc (told n vars d) (told l vars a) (told (l + hs a) scope b))))

    no_more : (ones : List Agreement) (xs : List Asked) → AreKnown (xs ++ []) (ones ++ []) → AreKnown (xs ++ []) ones
    no_more ones xs h = h ∙ ap (map known) (append-nil ones)

    mutual
      pub are_found : (e : ExprTree) → Found e
      are_found (truth at b) n vars c h r = refl
      are_found (number at k m) n vars c h r = refl
      are_found (local at k) n vars c h r = refl
      are_found (call at j es) n vars c h r =
          let m = n + callee_holes (callee j) in
          let ds = der_all m vars es in
          let o = offered holes names records self callee n (callee j) in
          let own = (call_rule at o ds.types).steps in
          let parts = first_stands c ds.steps own h in
          known_both (all_asked c es) (asked_parts (each.Argument j) at (ends_of c es)) (all_told m vars es) (call_agreements at j o ds.types)
          (all_are_found es m vars c parts (right_front ds.steps own r)) (call_known j at (ends_of c es) o ds.types (all_types es m vars c parts) (right_back ds.steps own r))
      are_found (negate at a) n vars c h r = part_found a (are_found a) n vars c (negate_rule at (der n vars a).type).steps h r
      are_found (not_expr at a) n vars c h r = part_found a (are_found a) n vars c (not_rule at (der n vars a).type).steps h r
      are_found (pown at a k) n vars c h r = part_found a (are_found a) n vars c (pown_rule at k (der n vars a).type).steps h r
      are_found (arith_tree at op a b) n vars c h r =
          let s = (der n vars a).type in
          let t = (der (n + hs a) vars b).type in
          pair_found a b (are_found a) (are_found b) n vars vars c (arith_rule at op s t).steps (λ k. asked_by (sides op) at k) (arith_agreements at op s t) (λ k e w. sides_known op at k s t e) h r
      are_found (compare at sign a b) n vars c h r =
          let s = (der n vars a).type in
          let t = (der (n + hs a) vars b).type in
          pair_found a b (are_found a) (are_found b) n vars vars c (compare_rule at s t).steps (λ k. asked_by (Some asks.Comparison) at k) (agree asks.Comparison at s t ∷ [])
          (λ k e w. ap (λ x. x ∷ []) (one_known asks.Comparison at k s t refl refl e)) h r
      are_found (both at a b) n vars c h r =
          no_more (told n vars a ++ told (n + hs a) vars b) (asked_in c a ++ asked_in (c + count a) b)
          (pair_found a b (are_found a) (are_found b) n vars vars c (truths_rule at (der n vars a).type (der (n + hs a) vars b).type).steps (λ k. []) [] (λ k e w. refl) h r)
      are_found (either at a b) n vars c h r =
          no_more (told n vars a ++ told (n + hs a) vars b) (asked_in c a ++ asked_in (c + count a) b)
          (pair_found a b (are_found a) (are_found b) n vars vars c (truths_rule at (der n vars a).type (der (n + hs a) vars b).type).steps (λ k. []) [] (λ k e w. refl) h r)
      are_found (if at d a b) n vars c h r =
          let l = n + hs d in
          let s = (der l vars a).type in
          let t = (der (l + hs a) vars b).type in
          third_found d a b (are_found d) (are_found a) (are_found b) n vars vars c (if_rule at (der n vars d).type s t).steps (λ k. asked_by (Some asks.Branches) at k) (agree asks.Branches at s t ∷ [])
          (λ k e w. ap (λ x. x ∷ []) (one_known asks.Branches at k s t refl refl e)) h r
      are_found (bind at a b) n vars c h r =
          let scope = vars ++ (der n vars a).type ∷ [] in
          no_more (told n vars a ++ told (n + hs a) scope b) (asked_in c a ++ asked_in (c + count a) b)
          (pair_found a b (are_found a) (are_found b) n vars scope c (formed at [] (der (n + hs a) scope b).type).steps (λ k. []) [] (λ k e w. refl) h r)
      are_found (split at d a b) n vars c h r =
          let l = n + hs d in
          let z = (der n vars d).type in
          let scope = vars ++ item z ∷ z ∷ [] in
          let s = (der l vars a).type in
          let t = (der (l + hs a) scope b).type in
          third_found d a b (are_found d) (are_found a) (are_found b) n vars scope c (split_rule at z s t).steps (λ k. asked_by (Some asks.Arms) at k) (agree asks.Arms at s t ∷ [])
          (λ k e w. ap (λ x. x ∷ []) (one_known asks.Arms at k s t refl refl e)) h r
      are_found (nil at m) n vars c h r = refl
      are_found (list_expr at es) n vars c h r =
          let ds = der_all n vars es in
          let own = (list_rule at ds.types).steps in
          let parts = first_stands c ds.steps own h in
          known_both (all_asked c es) (asked_parts each.Item at (ends_of c es)) (all_told n vars es) (list_agreements at ds.types)
          (all_are_found es n vars c parts (right_front ds.steps own r)) (list_known at (ends_of c es) ds.types (all_types es n vars c parts) (right_back ds.steps own r))
      are_found (cons at a b) n vars c h r =
          let s = (der n vars a).type in
          let t = (der (n + hs a) vars b).type in
          pair_found a b (are_found a) (are_found b) n vars vars c (cons_rule at s t).steps (λ k. asked_by (Some asks.Head) at k) (cons_agreements at s t) (λ k e w. head_known at k s t e w) h r
      are_found (record_expr at q es) n vars c h r =
          let m = record_holes (slice_get records q) in
          let us = first_units m (λ k. holes (n + k)) in
          let ds = der_all (n + m) vars es in
          let own = (record_rule at q us (slice_get records q) ds.types).steps in
          let parts = first_stands c ds.steps own h in
          known_both (all_asked c es) (asked_parts (each.Part q) at (ends_of c es)) (all_told (n + m) vars es) (record_agreements at q us (slice_get records q) ds.types)
          (all_are_found es (n + m) vars c parts (right_front ds.steps own r)) (record_known at q us (ends_of c es) (slice_get records q) ds.types (all_types es (n + m) vars c parts) (right_back ds.steps own r))
      are_found (field at q k a) n vars c h r = part_found a (are_found a) n vars c (field_rule at q k (slice_get records q) (der n vars a).type).steps h r

      all_are_found : (es : ExprTrees) (n : ℕ) (vars : List TypeTree) (c : ℕ) → Stand c (nodes_of (der_all n vars es).steps) → HaveRightShapes (der_all n vars es).steps → AreKnown (all_asked c es) (all_told n vars es)
      all_are_found none n vars c h r = refl
      all_are_found (more e es) n vars c h r =
          let x = (der n vars e).steps in
          let ys = (der_all (n + hs e) vars es).steps in
          known_both (asked_in c e) (all_asked (c + count e) es) (told n vars e) (all_told (n + hs e) vars es)
          (are_found e n vars c (first_stands c x ys h) (right_front x ys r))
          (all_are_found es (n + hs e) vars (c + count e) (second_stands c (count e) x ys (node_many e n vars) h) (right_back x ys r))

      all_types : (es : ExprTrees) (n : ℕ) (vars : List TypeTree) (c : ℕ) → Stand c (nodes_of (der_all n vars es).steps) → map (node_type nodes) (ends_of c es) ≡ (der_all n vars es).types
      all_types none n vars c h = refl
      all_types (more e es) n vars c h =
          let x = (der n vars e).steps in
          let ys = (der_all (n + hs e) vars es).steps in
          let first = own_type e n vars c (first_stands c x ys h) in
          let rest = all_types es (n + hs e) vars (c + count e) (second_stands c (count e) x ys (node_many e n vars) h) in
          λ i. first i ∷ rest i
