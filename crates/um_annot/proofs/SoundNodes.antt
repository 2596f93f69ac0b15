-- Units that make each row 1 give a derivation whose nodes have the derived types with these units.
use Rattle.std.proofs.Common.{◌≡◌, ℕ, ◌+◌, List, [], ◌∷◌, ◌++◌, map, slice_get, refl, sym, ap, ◌∙◌, subst}
use Rattle.std.proofs.lemmas.List.{map-append}
use Rattle.um_units.specs.PowerMap.{PowerMap, replace}
use Rattle.um_tree.specs.TypeTree.{TypeTree, bool_type, num_type, list_type, record_type}
use Rattle.um_tree.specs.ExprTree.{ExprTree, ExprTrees, truth, number, local, call, negate, not_expr, pown, arith as arith_tree, compare, both, either, if, bind, split, nil, list_expr, cons, record_expr, field, none, more}
use Rattle.um_tree.specs.ProgramTree.{RecordTree, Signature}
use Rattle.um_tree.specs.Typing.{put, put_signature, Typed, AllTyped}
use Rattle.um_slots.specs.Holes.{Callee, callee_holes, record_holes, expr_holes}
use Rattle.um_slots.specs.Noted.{noted_unit, noted_type}
use Rattle.um_equal_types.specs.Steps.{Step}
use Rattle.um_rows.specs.NodeTypes.{TypedNode, nodes_of, derived_nodes}
use Rattle.um_rows.specs.Rules.{Derived, AllDerived, after, formed, item, number_rule, local_rule, call_rule, negate_rule, not_rule, pown_rule, truths_rule, arith_rule, compare_rule, if_rule, split_rule, nil_rule, list_rule, cons_rule, record_rule, field_rule}
use Rattle.um_rows.specs.Derivation.{first_units, offered, derive, derive_all}
use Rattle.um_equal_types.proofs.HeldSteps.{Holds, Holds-front, Holds-back}
use Rattle.um_rows.proofs.PutTypes.{length-first_units}
use Rattle.um_rows.proofs.PutLiterals.{put_literals, all_put_literals}
use Rattle.um_rows.proofs.SoundRules.{negate_sound, not_sound, pown_sound, truths_sound, arith_sound, compare_sound, if_sound, split_sound, list_sound, cons_sound, record_sound, field_sound}
use Rattle.um_rows.proofs.Callees.{Offers}
use Rattle.um_rows.proofs.Sound.{call_sound, sound}
use Rattle.um_rows.proofs.NodeSteps.{nodes_of-append, FormsOne, whole_one, number_one, local_one, call_one, negate_one, not_one, pown_one, truths_one, arith_one, compare_one, if_one, split_one, nil_one, list_one, cons_one, record_one, field_one, after_one}
use Rattle.um_annot.specs.TypingNodes.{one, typing_nodes, all_nodes}
use Rattle.um_annot.specs.TextOrder.{node_with}

module _ (v : ℕ → PowerMap) where
  -- the nodes with the units put in
  abbrev pub with_units : List TypedNode → List TypedNode
  with_units ns = map (node_with (put v)) ns

  pub units_both : (a b : List Step) → with_units (nodes_of (a ++ b)) ≡ with_units (nodes_of a) ++ with_units (nodes_of b)
  units_both a b = ap with_units (nodes_of-append a b) ∙ map-append (node_with (put v)) (nodes_of a) (nodes_of b)

  -- a node after its parts
  pub own_last : (at : ℕ) (ss : List Step) (d : Derived) (ns : List TypedNode) → FormsOne at d → ns ≡ with_units (nodes_of ss) → ns ++ one at (put v d.type) ≡ with_units (derived_nodes (after ss d))
  own_last at ss d ns forms parts =
      ap (λ xs. xs ++ one at (put v d.type)) parts
      ∙ sym (ap with_units (after_one at ss d forms) ∙ map-append (node_with (put v)) (nodes_of ss) (record { at = at; type = d.type } ∷ []))

  pub own_alone : (at : ℕ) (d : Derived) → FormsOne at d → one at (put v d.type) ≡ with_units (derived_nodes d)
  own_alone at d forms = sym (ap with_units forms)

  pub two_last : (at : ℕ) (a b : List Step) (d : Derived) (xs ys : List TypedNode) → FormsOne at d → xs ≡ with_units (nodes_of a) → ys ≡ with_units (nodes_of b) → (xs ++ ys) ++ one at (put v d.type) ≡ with_units (derived_nodes (after (a ++ b) d))
  two_last at a b d xs ys forms x y = own_last at (a ++ b) d (xs ++ ys) forms ((λ i. x i ++ y i) ∙ sym (units_both a b))

  pub three_last : (at : ℕ) (a b c : List Step) (d : Derived) (xs ys zs : List TypedNode) → FormsOne at d → xs ≡ with_units (nodes_of a) → ys ≡ with_units (nodes_of b) → zs ≡ with_units (nodes_of c) →
      (xs ++ (ys ++ zs)) ++ one at (put v d.type) ≡ with_units (derived_nodes (after (a ++ (b ++ c)) d))
  three_last at a b c d xs ys zs forms x y z =
      own_last at (a ++ (b ++ c)) d (xs ++ (ys ++ zs)) forms ((λ i. x i ++ (y i ++ z i)) ∙ ap (λ ns. with_units (nodes_of a) ++ ns) (sym (units_both b c)) ∙ sym (units_both a (b ++ c)))

module _ (v holes names : ℕ → PowerMap) (records : List RecordTree) (self : Signature) (callee : ℕ → Callee) (calls : ℕ → Signature → Type 0) (closes : (j : ℕ) (g : Signature) → Offers (put_signature v self) (callee j) g → calls j g) where
  abbrev choice : ℕ → PowerMap
  choice k = replace v (names k)

  abbrev at_number : ℕ → List TypeTree → ExprTree → Derived
  at_number n vars e = derive holes names records self callee n vars e

  abbrev all_at : ℕ → List TypeTree → ExprTrees → AllDerived
  all_at n vars es = derive_all holes names records self callee n vars es

  abbrev holes_in : ExprTree → ℕ
  holes_in e = expr_holes records callee e

  -- a derivation with these nodes
  abbrev pub Is : List TypeTree → ExprTree → TypeTree → List TypedNode → Type 0
  Is vars e t ns = (h : Typed records calls choice vars (put_literals choice e) t) × (typing_nodes records calls choice vars (put_literals choice e) t h ≡ ns)

  abbrev AllAre : List TypeTree → ExprTrees → List TypeTree → List TypedNode → Type 0
  AllAre vars es ts ns = (h : AllTyped records calls choice vars (all_put_literals choice es) ts) × (all_nodes records calls choice vars (all_put_literals choice es) ts h ≡ ns)

  as_type : (vars : List TypeTree) (e : ExprTree) (s t : TypeTree) (ns : List TypedNode) → s ≡ t → Is vars e s ns → Is vars e t ns
  as_type vars e s t ns same h = subst (λ u. Is vars e u ns) same h

  as_types : (vars : List TypeTree) (es : ExprTrees) (ss ts : List TypeTree) (ns : List TypedNode) → ss ≡ ts → AllAre vars es ss ns → AllAre vars es ts ns
  as_types vars es ss ts ns same h = subst (λ us. AllAre vars es us ns) same h

  wider : (vars others : List TypeTree) (e : ExprTree) (t : TypeTree) (ns : List TypedNode) → Is (map (put v) (vars ++ others)) e t ns → Is (map (put v) vars ++ map (put v) others) e t ns
  wider vars others e t ns h = subst (λ vs. Is vs e t ns) (map-append (put v) vars others) h

  -- the nodes of an expression's derivation over slots, with the units put in
  abbrev pub given : ℕ → List TypeTree → ExprTree → List TypedNode
  given n vars e = with_units v (derived_nodes (at_number n vars e))

  abbrev IsSound : ℕ → List TypeTree → ExprTree → Type 0
  IsSound n vars e = Is (map (put v) vars) e (put v (at_number n vars e).type) (given n vars e)

  -- `&&` and `||`
  abbrev TruthsAre : List TypeTree → ℕ → ExprTree → ExprTree → Derived → Derived → Type 0
  TruthsAre vars at a b x y =
      (g : Typed records calls choice vars (put_literals choice a) bool_type) × (h : Typed records calls choice vars (put_literals choice b) bool_type)
      × ((typing_nodes records calls choice vars (put_literals choice a) bool_type g ++ typing_nodes records calls choice vars (put_literals choice b) bool_type h) ++ one at bool_type ≡ with_units v (derived_nodes (after (x.steps ++ y.steps) (truths_rule at x.type y.type))))

  truths : (vars : List TypeTree) (at : ℕ) (a b : ExprTree) (x y : Derived) → (Holds v x.steps → Is vars a (put v x.type) (with_units v (derived_nodes x))) → (Holds v y.steps → Is vars b (put v y.type) (with_units v (derived_nodes y))) →
      Holds v (after (x.steps ++ y.steps) (truths_rule at x.type y.type)).steps → TruthsAre vars at a b x y
  truths vars at a b x y f g h =
      let d = truths_rule at x.type y.type in
      let parts = Holds-front v (x.steps ++ y.steps) d.steps h in
      let s = truths_sound v at x.type y.type (Holds-back v (x.steps ++ y.steps) d.steps h) in
      let p = as_type vars a (put v x.type) bool_type (with_units v (derived_nodes x)) s.0 (f (Holds-front v x.steps y.steps parts)) in
      let q = as_type vars b (put v y.type) bool_type (with_units v (derived_nodes y)) s.1 (g (Holds-back v x.steps y.steps parts)) in
      (p.0, q.0, two_last v at x.steps y.steps d _ _ (truths_one at x.type y.type) p.1 q.1)

  mutual
    pub sound_nodes : (n : ℕ) (vars : List TypeTree) (e : ExprTree) → Holds v (at_number n vars e).steps → IsSound n vars e
    sound_nodes n vars (truth at b) h = (refl, refl)
    sound_nodes n vars (number at c m) h = (sound v holes names records self callee calls closes n vars (number at c m) h, own_alone v at (number_rule at c m (noted_unit holes names n m)) (number_one at c m (noted_unit holes names n m)))
    sound_nodes n vars (local at k) h = (sound v holes names records self callee calls closes n vars (local at k) h, own_alone v at (local_rule at (slice_get vars k)) (local_one at (slice_get vars k)))
    sound_nodes n vars (call at j es) h =
        let m = n + callee_holes (callee j) in
        let ds = all_at m vars es in
        let o = offered holes names records self callee n (callee j) in
        let d = call_rule at o ds.types in
        let parts = all_sound_nodes m vars es (Holds-front v ds.steps d.steps h) in
        ((map (put v) ds.types, parts.0, closes j _ (call_sound v holes names records self at n (callee j) ds.types (Holds-back v ds.steps d.steps h))), own_last v at ds.steps d _ (call_one at o ds.types) parts.1)
    sound_nodes n vars (negate at a) h =
        let x = at_number n vars a in
        let d = negate_rule at x.type in
        let s = negate_sound v at x.type (Holds-back v x.steps d.steps h) in
        let p = as_type (map (put v) vars) a (put v x.type) (num_type s.0) (given n vars a) s.1 (sound_nodes n vars a (Holds-front v x.steps d.steps h)) in
        ((s.0, p.0, s.2), own_last v at x.steps d _ (negate_one at x.type) p.1)
    sound_nodes n vars (not_expr at a) h =
        let x = at_number n vars a in
        let d = not_rule at x.type in
        let p = as_type (map (put v) vars) a (put v x.type) bool_type (given n vars a) (not_sound v at x.type (Holds-back v x.steps d.steps h)) (sound_nodes n vars a (Holds-front v x.steps d.steps h)) in
        ((p.0, refl), own_last v at x.steps d _ (not_one at x.type) p.1)
    sound_nodes n vars (pown at a i) h =
        let x = at_number n vars a in
        let d = pown_rule at i x.type in
        let s = pown_sound v at i x.type (Holds-back v x.steps d.steps h) in
        let p = as_type (map (put v) vars) a (put v x.type) (num_type s.0) (given n vars a) s.1 (sound_nodes n vars a (Holds-front v x.steps d.steps h)) in
        ((s.0, p.0, s.2), own_last v at x.steps d _ (pown_one at i x.type) p.1)
    sound_nodes n vars (arith_tree at op a b) h =
        let m = n + holes_in a in
        let x = at_number n vars a in
        let y = at_number m vars b in
        let d = arith_rule at op x.type y.type in
        let parts = Holds-front v (x.steps ++ y.steps) d.steps h in
        let s = arith_sound v at op x.type y.type (Holds-back v (x.steps ++ y.steps) d.steps h) in
        let p = as_type (map (put v) vars) a (put v x.type) (num_type s.0) (given n vars a) s.3 (sound_nodes n vars a (Holds-front v x.steps y.steps parts)) in
        let q = as_type (map (put v) vars) b (put v y.type) (num_type s.1) (given m vars b) s.4 (sound_nodes m vars b (Holds-back v x.steps y.steps parts)) in
        ((s.0, s.1, s.2, p.0, q.0, s.5, s.6), two_last v at x.steps y.steps d _ _ (arith_one at op x.type y.type) p.1 q.1)
    sound_nodes n vars (compare at sign a b) h =
        let m = n + holes_in a in
        let x = at_number n vars a in
        let y = at_number m vars b in
        let d = compare_rule at x.type y.type in
        let parts = Holds-front v (x.steps ++ y.steps) d.steps h in
        let s = compare_sound v at x.type y.type (Holds-back v (x.steps ++ y.steps) d.steps h) in
        let p = as_type (map (put v) vars) a (put v x.type) (num_type s.0) (given n vars a) s.1 (sound_nodes n vars a (Holds-front v x.steps y.steps parts)) in
        let q = as_type (map (put v) vars) b (put v y.type) (num_type s.0) (given m vars b) s.2 (sound_nodes m vars b (Holds-back v x.steps y.steps parts)) in
        ((s.0, p.0, q.0, s.3), two_last v at x.steps y.steps d _ _ (compare_one at x.type y.type) p.1 q.1)
    sound_nodes n vars (both at a b) h =
        let m = n + holes_in a in
        let t = truths (map (put v) vars) at a b (at_number n vars a) (at_number m vars b) (λ k. sound_nodes n vars a k) (λ k. sound_nodes m vars b k) h in
        ((t.0, t.1, refl), t.2)
    sound_nodes n vars (either at a b) h =
        let m = n + holes_in a in
        let t = truths (map (put v) vars) at a b (at_number n vars a) (at_number m vars b) (λ k. sound_nodes n vars a k) (λ k. sound_nodes m vars b k) h in
        ((t.0, t.1, refl), t.2)
    sound_nodes n vars (if at c a b) h =
        let m = n + holes_in c in
        let l = n + holes_in c + holes_in a in
        let z = at_number n vars c in
        let x = at_number m vars a in
        let y = at_number l vars b in
        let d = if_rule at z.type x.type y.type in
        let parts = Holds-front v (z.steps ++ (x.steps ++ y.steps)) d.steps h in
        let arms = Holds-back v z.steps (x.steps ++ y.steps) parts in
        let s = if_sound v at z.type x.type y.type (Holds-back v (z.steps ++ (x.steps ++ y.steps)) d.steps h) in
        let p = as_type (map (put v) vars) c (put v z.type) bool_type (given n vars c) s.0 (sound_nodes n vars c (Holds-front v z.steps (x.steps ++ y.steps) parts)) in
        let q = sound_nodes m vars a (Holds-front v x.steps y.steps arms) in
        let r = as_type (map (put v) vars) b (put v y.type) (put v x.type) (given l vars b) (sym s.1) (sound_nodes l vars b (Holds-back v x.steps y.steps arms)) in
        ((p.0, q.0, r.0), three_last v at z.steps x.steps y.steps d _ _ _ (if_one at z.type x.type y.type) p.1 q.1 r.1)
    sound_nodes n vars (bind at a b) h =
        let m = n + holes_in a in
        let x = at_number n vars a in
        let y = at_number m (vars ++ x.type ∷ []) b in
        let parts = Holds-front v (x.steps ++ y.steps) _ h in
        let p = sound_nodes n vars a (Holds-front v x.steps y.steps parts) in
        let q = wider vars (x.type ∷ []) b (put v y.type) (given m (vars ++ x.type ∷ []) b) (sound_nodes m (vars ++ x.type ∷ []) b (Holds-back v x.steps y.steps parts)) in
        ((put v x.type, p.0, q.0), two_last v at x.steps y.steps (formed at [] y.type) _ _ (whole_one at y.type) p.1 q.1)
    sound_nodes n vars (split at l a b) h =
        let m = n + holes_in l in
        let k = n + holes_in l + holes_in a in
        let z = at_number n vars l in
        let x = at_number m vars a in
        let y = at_number k (vars ++ item z.type ∷ z.type ∷ []) b in
        let d = split_rule at z.type x.type y.type in
        let parts = Holds-front v (z.steps ++ (x.steps ++ y.steps)) d.steps h in
        let arms = Holds-back v z.steps (x.steps ++ y.steps) parts in
        let s = split_sound v at z.type x.type y.type (Holds-back v (z.steps ++ (x.steps ++ y.steps)) d.steps h) in
        let t = put v (item z.type) in
        let ys = given k (vars ++ item z.type ∷ z.type ∷ []) b in
        let full = wider vars (item z.type ∷ z.type ∷ []) b (put v y.type) ys (sound_nodes k (vars ++ item z.type ∷ z.type ∷ []) b (Holds-back v x.steps y.steps arms)) in
        let p = as_type (map (put v) vars) l (put v z.type) (list_type t) (given n vars l) s.0 (sound_nodes n vars l (Holds-front v z.steps (x.steps ++ y.steps) parts)) in
        let q = sound_nodes m vars a (Holds-front v x.steps y.steps arms) in
        let r = subst (λ u. Is (map (put v) vars ++ t ∷ u ∷ []) b (put v x.type) ys) s.0 (as_type (map (put v) vars ++ t ∷ put v z.type ∷ []) b (put v y.type) (put v x.type) ys (sym s.1) full) in
        ((t, p.0, q.0, r.0), three_last v at z.steps x.steps y.steps d _ _ _ (split_one at z.type x.type y.type) p.1 q.1 r.1)
    sound_nodes n vars (nil at m) h = (sound v holes names records self callee calls closes n vars (nil at m) h, own_alone v at (nil_rule at (noted_type holes names n m)) (nil_one at (noted_type holes names n m)))
    sound_nodes n vars (list_expr at es) h =
        let ds = all_at n vars es in
        let d = list_rule at ds.types in
        let s = list_sound v at ds.types (Holds-back v ds.steps d.steps h) in
        let p = as_types (map (put v) vars) es (map (put v) ds.types) (s.0 ∷ s.1) (with_units v (nodes_of ds.steps)) s.2 (all_sound_nodes n vars es (Holds-front v ds.steps d.steps h)) in
        ((s.0, s.1, p.0, s.3, s.4), own_last v at ds.steps d _ (list_one at ds.types) p.1)
    sound_nodes n vars (cons at a b) h =
        let m = n + holes_in a in
        let x = at_number n vars a in
        let y = at_number m vars b in
        let d = cons_rule at x.type y.type in
        let parts = Holds-front v (x.steps ++ y.steps) d.steps h in
        let s = cons_sound v at x.type y.type (Holds-back v (x.steps ++ y.steps) d.steps h) in
        let p = sound_nodes n vars a (Holds-front v x.steps y.steps parts) in
        let q = as_type (map (put v) vars) b (put v y.type) (list_type (put v x.type)) (given m vars b) s.0 (sound_nodes m vars b (Holds-back v x.steps y.steps parts)) in
        ((put v x.type, p.0, q.0, s.1), two_last v at x.steps y.steps d _ _ (cons_one at x.type y.type) p.1 q.1)
    sound_nodes n vars (record_expr at r es) h =
        let m = record_holes (slice_get records r) in
        let us = first_units m (λ k. holes (n + k)) in
        let ds = all_at (n + m) vars es in
        let d = record_rule at r us (slice_get records r) ds.types in
        let s = record_sound v at records r us (slice_get records r) ds.types refl (Holds-back v ds.steps d.steps h) in
        let p = subst (λ ts. AllAre (map (put v) vars) es ts (with_units v (nodes_of ds.steps))) s.2 (all_sound_nodes (n + m) vars es (Holds-front v ds.steps d.steps h)) in
        ((map (replace v) us, s.0, record { declared = s.1; units = length-first_units v m (λ k. holes (n + k)) ∙ ap record_holes s.1 }, p.0, s.3), own_last v at ds.steps d _ (record_one at r us (slice_get records r) ds.types) p.1)
    sound_nodes n vars (field at r k a) h =
        let x = at_number n vars a in
        let d = field_rule at r k (slice_get records r) x.type in
        let s = field_sound v at records r k x.type (Holds-back v x.steps d.steps h) in
        let p = as_type (map (put v) vars) a (put v x.type) (record_type r s.0) (given n vars a) s.5 (sound_nodes n vars a (Holds-front v x.steps d.steps h)) in
        ((s.0, s.1, s.2, s.3, s.4, p.0, s.6), own_last v at x.steps d _ (field_one at r k (slice_get records r) x.type) p.1)

    pub all_sound_nodes : (n : ℕ) (vars : List TypeTree) (es : ExprTrees) → Holds v (all_at n vars es).steps → AllAre (map (put v) vars) es (map (put v) (all_at n vars es).types) (with_units v (nodes_of (all_at n vars es).steps))
    all_sound_nodes n vars none h = (refl, refl)
    all_sound_nodes n vars (more e es) h =
        let m = n + holes_in e in
        let x = at_number n vars e in
        let ds = all_at m vars es in
        let p = sound_nodes n vars e (Holds-front v x.steps ds.steps h) in
        let q = all_sound_nodes m vars es (Holds-back v x.steps ds.steps h) in
        ((put v x.type, map (put v) ds.types, p.0, q.0, refl), (λ i. p.1 i ++ q.1 i) ∙ sym (units_both v x.steps ds.steps))
