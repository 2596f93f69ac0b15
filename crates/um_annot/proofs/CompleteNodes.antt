-- The nodes of a derivation have the derived types, with the units that the derivation uses.
use Rattle.std.proofs.Common.{◌≡◌, ℕ, ◌+◌, List, [], ◌∷◌, ◌++◌, map, slice_get, refl, sym, ◌∙◌}
use Rattle.std.proofs.lemmas.List.{map-append}
use Rattle.um_units.specs.PowerMap.{PowerMap, replace}
use Rattle.um_tree.specs.TypeTree.{TypeTree, bool_type, num_type, list_type, record_type}
use Rattle.um_tree.specs.ExprTree.{ExprTree, ExprTrees, truth, number, local, call, negate, not_expr, pown, arith as arith_tree, compare, both, either, if, bind, split, nil, list_expr, cons, record_expr, field, none, more}
use Rattle.um_tree.specs.ProgramTree.{RecordTree, Signature}
use Rattle.um_tree.specs.Typing.{put, put_signature, unit_at, field_types, Typed, AllTyped}
use Rattle.um_slots.specs.Holes.{Callee, callee_holes, record_holes, expr_holes, exprs_holes}
use Rattle.um_slots.specs.Noted.{noted_unit, noted_type}
use Rattle.um_rows.specs.NodeTypes.{TypedNode, nodes_of, derived_nodes}
use Rattle.um_rows.specs.Rules.{Derived, AllDerived, formed, item, number_rule, local_rule, call_rule, negate_rule, not_rule, pown_rule, truths_rule, arith_rule, compare_rule, if_rule, split_rule, nil_rule, list_rule, cons_rule, record_rule, field_rule}
use Rattle.um_rows.specs.Derivation.{first_units, offered, derive, derive_all}
use Rattle.um_rows.proofs.PutLiterals.{put_literals, all_put_literals}
use Rattle.um_rows.proofs.CompleteRules.{item_complete}
use Rattle.um_rows.proofs.Variables.{CalleeBelow}
use Rattle.um_rows.proofs.Callees.{Offers}
use Rattle.um_rows.proofs.Used.{then_units, agrees_first, agrees_second, offer_used, used, all_used}
use Rattle.um_rows.proofs.Complete.{HolesAre, complete}
use Rattle.um_rows.proofs.NodeSteps.{whole_one, number_one, local_one, call_one, negate_one, not_one, pown_one, truths_one, arith_one, compare_one, if_one, split_one, nil_one, list_one, cons_one, record_one, field_one}
use Rattle.um_annot.specs.TypingNodes.{one, typing_nodes, all_nodes}
use Rattle.um_annot.proofs.SoundNodes.{with_units, units_both, own_last, own_alone, two_last, three_last}

module _ (v holes names choice : ℕ → PowerMap) (same : (k : ℕ) → replace v (names k) ≡ choice k) where
  abbrev Hs : ℕ → ℕ → (ℕ → PowerMap) → Type 0
  Hs n m f = HolesAre v holes names choice same n m f

  first : (n m p : ℕ) (f g : ℕ → PowerMap) → Hs n (m + p) (then_units m f g) → Hs n m f
  first n m p f g a = agrees_first (λ k. replace v (holes k)) n m p f g a

  second : (n m p : ℕ) (f g : ℕ → PowerMap) → Hs n (m + p) (then_units m f g) → Hs (n + m) p g
  second n m p f g a = agrees_second (λ k. replace v (holes k)) n m p f g a

  module _ (records : List RecordTree) (self own : Signature) (is_own : own ≡ put_signature v self) (callee : ℕ → Callee) (below : (j : ℕ) → CalleeBelow (callee j))
      (calls : ℕ → Signature → Type 0) (opens : (j : ℕ) (g : Signature) → calls j g → Offers own (callee j) g) where
    abbrev from : (vs : List TypeTree) (e : ExprTree) (t : TypeTree) → Typed records calls choice vs (put_literals choice e) t → ℕ → PowerMap
    from vs e t h = used choice records own callee calls opens vs e t h

    abbrev all_from : (vs : List TypeTree) (es : ExprTrees) (ts : List TypeTree) → AllTyped records calls choice vs (all_put_literals choice es) ts → ℕ → PowerMap
    all_from vs es ts h = all_used choice records own callee calls opens vs es ts h

    abbrev holes_in : ExprTree → ℕ
    holes_in e = expr_holes records callee e

    abbrev at_number : ℕ → List TypeTree → ExprTree → Derived
    at_number n vars e = derive holes names records self callee n vars e

    abbrev all_at : ℕ → List TypeTree → ExprTrees → AllDerived
    all_at n vars es = derive_all holes names records self callee n vars es

    -- the derived type is the type
    typed : (n : ℕ) (vars vs : List TypeTree) → map (put v) vars ≡ vs → (e : ExprTree) (t : TypeTree) (h : Typed records calls choice vs (put_literals choice e) t) → Hs n (holes_in e) (from vs e t h) → put v (at_number n vars e).type ≡ t
    typed n vars vs ev e t h ag = (complete v holes names choice same records self own is_own callee below calls opens n vars vs ev e t h ag).0

    wider : (vars vs others ts : List TypeTree) → map (put v) vars ≡ vs → map (put v) others ≡ ts → map (put v) (vars ++ others) ≡ vs ++ ts
    wider vars vs others ts e f = map-append (put v) vars others ∙ (λ i. e i ++ f i)

    abbrev nodes_at : (vs : List TypeTree) (e : ExprTree) (t : TypeTree) → Typed records calls choice vs (put_literals choice e) t → List TypedNode
    nodes_at vs e t h = typing_nodes records calls choice vs (put_literals choice e) t h

    abbrev IsComplete : ℕ → List TypeTree → ExprTree → List TypedNode → Type 0
    IsComplete n vars e ns = ns ≡ with_units v (derived_nodes (at_number n vars e))

    -- the node's own type is what was derived
    own_is : (at : ℕ) (t s : TypeTree) (ns : List TypedNode) → s ≡ t → ns ++ one at t ≡ ns ++ one at s
    own_is at t s ns e = λ i. ns ++ one at (sym e i)

    mutual
      pub complete_nodes : (n : ℕ) (vars vs : List TypeTree) (ev : map (put v) vars ≡ vs) (e : ExprTree) (t : TypeTree) (h : Typed records calls choice vs (put_literals choice e) t) → Hs n (holes_in e) (from vs e t h) → IsComplete n vars e (nodes_at vs e t h)
      complete_nodes n vars vs ev (truth at b) t h a =
          let d = formed at [] bool_type in
          own_is at t (put v d.type) [] (typed n vars vs ev (truth at b) t h a) ∙ own_alone v at d refl
      complete_nodes n vars vs ev (number at c m) t h a =
          let d = number_rule at c m (noted_unit holes names n m) in
          own_is at t (put v d.type) [] (typed n vars vs ev (number at c m) t h a) ∙ own_alone v at d (number_one at c m (noted_unit holes names n m))
      complete_nodes n vars vs ev (local at k) t h a =
          let d = local_rule at (slice_get vars k) in
          own_is at t (put v d.type) [] (typed n vars vs ev (local at k) t h a) ∙ own_alone v at d (local_one at (slice_get vars k))
      complete_nodes n vars vs ev (call at j es) t h a =
          let c = callee_holes (callee j) in
          let g : Signature = record { params = h.0; result = t } in
          let f = offer_used choice records own callee calls opens (callee j) g (opens j g h.2) in
          let fs = all_from vs es h.0 h.1 in
          let ds = all_at (n + c) vars es in
          let o = offered holes names records self callee n (callee j) in
          let d = call_rule at o ds.types in
          let parts = all_complete_nodes (n + c) vars vs ev es h.0 h.1 (second n c (exprs_holes records callee es) f fs a) in
          own_is at t (put v d.type) _ (typed n vars vs ev (call at j es) t h a) ∙ own_last v at ds.steps d _ (call_one at o ds.types) parts
      complete_nodes n vars vs ev (negate at a) t h ag =
          let x = at_number n vars a in
          let d = negate_rule at x.type in
          own_is at t (put v d.type) _ (typed n vars vs ev (negate at a) t h ag) ∙ own_last v at x.steps d _ (negate_one at x.type) (complete_nodes n vars vs ev a (num_type h.0) h.1 ag)
      complete_nodes n vars vs ev (not_expr at a) t h ag =
          let x = at_number n vars a in
          let d = not_rule at x.type in
          own_is at t (put v d.type) _ (typed n vars vs ev (not_expr at a) t h ag) ∙ own_last v at x.steps d _ (not_one at x.type) (complete_nodes n vars vs ev a bool_type h.0 ag)
      complete_nodes n vars vs ev (pown at a i) t h ag =
          let x = at_number n vars a in
          let d = pown_rule at i x.type in
          own_is at t (put v d.type) _ (typed n vars vs ev (pown at a i) t h ag) ∙ own_last v at x.steps d _ (pown_one at i x.type) (complete_nodes n vars vs ev a (num_type h.0) h.1 ag)
      complete_nodes n vars vs ev (arith_tree at op a b) t h ag =
          let m = holes_in a in
          let fa = from vs a (num_type h.0) h.3 in
          let fb = from vs b (num_type h.1) h.4 in
          let p = complete_nodes n vars vs ev a (num_type h.0) h.3 (first n m (holes_in b) fa fb ag) in
          let q = complete_nodes (n + m) vars vs ev b (num_type h.1) h.4 (second n m (holes_in b) fa fb ag) in
          let dx = at_number n vars a in
          let dy = at_number (n + m) vars b in
          let d = arith_rule at op dx.type dy.type in
          own_is at t (put v d.type) _ (typed n vars vs ev (arith_tree at op a b) t h ag) ∙ two_last v at dx.steps dy.steps d _ _ (arith_one at op dx.type dy.type) p q
      complete_nodes n vars vs ev (compare at sign a b) t h ag =
          let m = holes_in a in
          let fa = from vs a (num_type h.0) h.1 in
          let fb = from vs b (num_type h.0) h.2 in
          let p = complete_nodes n vars vs ev a (num_type h.0) h.1 (first n m (holes_in b) fa fb ag) in
          let q = complete_nodes (n + m) vars vs ev b (num_type h.0) h.2 (second n m (holes_in b) fa fb ag) in
          let dx = at_number n vars a in
          let dy = at_number (n + m) vars b in
          let d = compare_rule at dx.type dy.type in
          own_is at t (put v d.type) _ (typed n vars vs ev (compare at sign a b) t h ag) ∙ two_last v at dx.steps dy.steps d _ _ (compare_one at dx.type dy.type) p q
      complete_nodes n vars vs ev (both at a b) t h ag =
          let m = holes_in a in
          let fa = from vs a bool_type h.0 in
          let fb = from vs b bool_type h.1 in
          let p = complete_nodes n vars vs ev a bool_type h.0 (first n m (holes_in b) fa fb ag) in
          let q = complete_nodes (n + m) vars vs ev b bool_type h.1 (second n m (holes_in b) fa fb ag) in
          let dx = at_number n vars a in
          let dy = at_number (n + m) vars b in
          let d = truths_rule at dx.type dy.type in
          own_is at t (put v d.type) _ (typed n vars vs ev (both at a b) t h ag) ∙ two_last v at dx.steps dy.steps d _ _ (truths_one at dx.type dy.type) p q
      complete_nodes n vars vs ev (either at a b) t h ag =
          let m = holes_in a in
          let fa = from vs a bool_type h.0 in
          let fb = from vs b bool_type h.1 in
          let p = complete_nodes n vars vs ev a bool_type h.0 (first n m (holes_in b) fa fb ag) in
          let q = complete_nodes (n + m) vars vs ev b bool_type h.1 (second n m (holes_in b) fa fb ag) in
          let dx = at_number n vars a in
          let dy = at_number (n + m) vars b in
          let d = truths_rule at dx.type dy.type in
          own_is at t (put v d.type) _ (typed n vars vs ev (either at a b) t h ag) ∙ two_last v at dx.steps dy.steps d _ _ (truths_one at dx.type dy.type) p q
      complete_nodes n vars vs ev (if at c a b) t h ag =
          let m = holes_in c in
          let k = holes_in a in
          let fc = from vs c bool_type h.0 in
          let fa = from vs a t h.1 in
          let fb = from vs b t h.2 in
          let rest = second n m (k + holes_in b) fc (then_units k fa fb) ag in
          let o = complete_nodes n vars vs ev c bool_type h.0 (first n m (k + holes_in b) fc (then_units k fa fb) ag) in
          let p = complete_nodes (n + m) vars vs ev a t h.1 (first (n + m) k (holes_in b) fa fb rest) in
          let q = complete_nodes (n + m + k) vars vs ev b t h.2 (second (n + m) k (holes_in b) fa fb rest) in
          let dz = at_number n vars c in
          let dx = at_number (n + m) vars a in
          let dy = at_number (n + m + k) vars b in
          let d = if_rule at dz.type dx.type dy.type in
          own_is at t (put v d.type) _ (typed n vars vs ev (if at c a b) t h ag) ∙ three_last v at dz.steps dx.steps dy.steps d _ _ _ (if_one at dz.type dx.type dy.type) o p q
      complete_nodes n vars vs ev (bind at a b) t h ag =
          let m = holes_in a in
          let fa = from vs a h.0 h.1 in
          let fb = from (vs ++ h.0 ∷ []) b t h.2 in
          let begins = first n m (holes_in b) fa fb ag in
          let p = complete_nodes n vars vs ev a h.0 h.1 begins in
          let dx = at_number n vars a in
          let x = typed n vars vs ev a h.0 h.1 begins in
          let scope = wider vars vs (dx.type ∷ []) (h.0 ∷ []) ev (λ i. x i ∷ []) in
          let q = complete_nodes (n + m) (vars ++ dx.type ∷ []) (vs ++ h.0 ∷ []) scope b t h.2 (second n m (holes_in b) fa fb ag) in
          let dy = at_number (n + m) (vars ++ dx.type ∷ []) b in
          let d = formed at [] dy.type in
          own_is at t (put v d.type) _ (typed n vars vs ev (bind at a b) t h ag) ∙ two_last v at dx.steps dy.steps d _ _ (whole_one at dy.type) p q
      complete_nodes n vars vs ev (split at l a b) t h ag =
          let m = holes_in l in
          let k = holes_in a in
          let fl = from vs l (list_type h.0) h.1 in
          let fa = from vs a t h.2 in
          let fb = from (vs ++ h.0 ∷ list_type h.0 ∷ []) b t h.3 in
          let rest = second n m (k + holes_in b) fl (then_units k fa fb) ag in
          let begins = first n m (k + holes_in b) fl (then_units k fa fb) ag in
          let o = complete_nodes n vars vs ev l (list_type h.0) h.1 begins in
          let p = complete_nodes (n + m) vars vs ev a t h.2 (first (n + m) k (holes_in b) fa fb rest) in
          let z = typed n vars vs ev l (list_type h.0) h.1 begins in
          let dz = at_number n vars l in
          let dx = at_number (n + m) vars a in
          let it = item_complete v at dz.type h.0 z in
          let scope = wider vars vs (item dz.type ∷ dz.type ∷ []) (h.0 ∷ list_type h.0 ∷ []) ev (λ i. it.0 i ∷ z i ∷ []) in
          let q = complete_nodes (n + m + k) (vars ++ item dz.type ∷ dz.type ∷ []) (vs ++ h.0 ∷ list_type h.0 ∷ []) scope b t h.3 (second (n + m) k (holes_in b) fa fb rest) in
          let dy = at_number (n + m + k) (vars ++ item dz.type ∷ dz.type ∷ []) b in
          let d = split_rule at dz.type dx.type dy.type in
          own_is at t (put v d.type) _ (typed n vars vs ev (split at l a b) t h ag) ∙ three_last v at dz.steps dx.steps dy.steps d _ _ _ (split_one at dz.type dx.type dy.type) o p q
      complete_nodes n vars vs ev (nil at m) t h a =
          let d = nil_rule at (noted_type holes names n m) in
          own_is at t (put v d.type) [] (typed n vars vs ev (nil at m) t h a) ∙ own_alone v at d (nil_one at (noted_type holes names n m))
      complete_nodes n vars vs ev (list_expr at es) t h a =
          let ds = all_at n vars es in
          let d = list_rule at ds.types in
          own_is at t (put v d.type) _ (typed n vars vs ev (list_expr at es) t h a) ∙ own_last v at ds.steps d _ (list_one at ds.types) (all_complete_nodes n vars vs ev es (h.0 ∷ h.1) h.2 a)
      complete_nodes n vars vs ev (cons at a b) t h ag =
          let m = holes_in a in
          let fa = from vs a h.0 h.1 in
          let fb = from vs b (list_type h.0) h.2 in
          let p = complete_nodes n vars vs ev a h.0 h.1 (first n m (holes_in b) fa fb ag) in
          let q = complete_nodes (n + m) vars vs ev b (list_type h.0) h.2 (second n m (holes_in b) fa fb ag) in
          let dx = at_number n vars a in
          let dy = at_number (n + m) vars b in
          let d = cons_rule at dx.type dy.type in
          own_is at t (put v d.type) _ (typed n vars vs ev (cons at a b) t h ag) ∙ two_last v at dx.steps dy.steps d _ _ (cons_one at dx.type dy.type) p q
      complete_nodes n vars vs ev (record_expr at r es) t h ag =
          let m = record_holes (slice_get records r) in
          let us = first_units m (λ k. holes (n + k)) in
          let ts = map (put (unit_at h.0)) (field_types h.1) in
          let fs = all_from vs es ts h.3 in
          let ds = all_at (n + m) vars es in
          let d = record_rule at r us (slice_get records r) ds.types in
          let parts = all_complete_nodes (n + m) vars vs ev es ts h.3 (second n m (exprs_holes records callee es) (unit_at h.0) fs ag) in
          own_is at t (put v d.type) _ (typed n vars vs ev (record_expr at r es) t h ag) ∙ own_last v at ds.steps d _ (record_one at r us (slice_get records r) ds.types) parts
      complete_nodes n vars vs ev (field at r k a) t h ag =
          let x = at_number n vars a in
          let d = field_rule at r k (slice_get records r) x.type in
          own_is at t (put v d.type) _ (typed n vars vs ev (field at r k a) t h ag) ∙ own_last v at x.steps d _ (field_one at r k (slice_get records r) x.type) (complete_nodes n vars vs ev a (record_type r h.0) h.5 ag)

      pub all_complete_nodes : (n : ℕ) (vars vs : List TypeTree) (ev : map (put v) vars ≡ vs) (es : ExprTrees) (ts : List TypeTree) (h : AllTyped records calls choice vs (all_put_literals choice es) ts) → Hs n (exprs_holes records callee es) (all_from vs es ts h) →
          all_nodes records calls choice vs (all_put_literals choice es) ts h ≡ with_units v (nodes_of (all_at n vars es).steps)
      all_complete_nodes n vars vs ev none ts h a = refl
      all_complete_nodes n vars vs ev (more e es) ts h ag =
          let m = holes_in e in
          let fe = from vs e h.0 h.2 in
          let fs = all_from vs es h.1 h.3 in
          let p = complete_nodes n vars vs ev e h.0 h.2 (first n m (exprs_holes records callee es) fe fs ag) in
          let q = all_complete_nodes (n + m) vars vs ev es h.1 h.3 (second n m (exprs_holes records callee es) fe fs ag) in
          (λ i. p i ++ q i) ∙ sym (units_both v (at_number n vars e).steps (all_at (n + m) vars es).steps)
