-- The derivation of an expression with other places and numbers has the same type, and the same steps at other places.
use Rattle.std.proofs.Common.{◌≡◌, ℕ, ◌+◌, List, [], ◌∷◌, ◌++◌, slice_get, refl, sym, ◌∙◌}
use Rattle.std.proofs.lemmas.List.{map-append}
use Rattle.std.proofs.lemmas.Option.{slice_get-map}
use Rattle.um_frac.specs.declared.number.Frac.{Frac}
use Rattle.um_units.specs.PowerMap.{PowerMap}
use Rattle.um_tree.specs.declared.note.UnitNote.{UnitNote}
use Rattle.um_tree.specs.declared.note.UnitNote.TheVariants.{Hole}
use Rattle.um_tree.specs.TypeTree.{TypeTree}
use Rattle.um_tree.specs.ExprTree.{ExprTree, ExprTrees, truth, number, local, call, negate, not_expr, pown, arith, compare, both, either, if, bind, split, nil, list_expr, cons, record_expr, field, none, more}
use Rattle.um_tree.specs.ProgramTree.{RecordTree, Signature}
use Rattle.um_slots.specs.Holes.{Callee, callee_holes, record_holes, expr_holes}
use Rattle.um_slots.specs.Noted.{noted_unit, noted_type}
use Rattle.um_rows.specs.Rules.{Derived, AllDerived, after, formed, item, call_rule, negate_rule, not_rule, pown_rule, truths_rule, arith_rule, compare_rule, if_rule, split_rule, list_rule, cons_rule, record_rule, field_rule}
use Rattle.um_rows.specs.Derivation.{first_units, offered, derive, derive_all}
use Rattle.um_rescaled.proofs.Changed.{changed_record, changed, all_changed}
use Rattle.um_rescaled.proofs.ChangedSlots.{others, same_record_holes, same_holes}
use Rattle.um_rescaled.proofs.ChangedSteps.{placed_step, placed, moved, all_moved, joined, after_placed}
use Rattle.um_rescaled.proofs.ChangedRules.{number_placed, local_placed, call_placed, negate_placed, not_placed, pown_placed, truths_placed, arith_placed, compare_placed, if_placed, split_placed, nil_placed, list_rule_placed, cons_placed, record_placed, field_placed}

-- ---- a node over its parts
module _ (place : ℕ → ℕ) where
  one_part : (x y : Derived) (rule other : TypeTree → Derived) → y ≡ moved place x → ((t : TypeTree) → other t ≡ moved place (rule t)) → after y.steps (other y.type) ≡ moved place (after x.steps (rule x.type))
  one_part x y rule other p r = (λ i. after (p i).steps (other (p i).type)) ∙ after_placed place x.steps (placed place x.steps) (rule x.type) (other x.type) refl (r x.type)

  two_parts : (x y v w : Derived) (rule other : TypeTree → TypeTree → Derived) → y ≡ moved place x → w ≡ moved place v → ((s t : TypeTree) → other s t ≡ moved place (rule s t))
      → after (y.steps ++ w.steps) (other y.type w.type) ≡ moved place (after (x.steps ++ v.steps) (rule x.type v.type))
  two_parts x y v w rule other p q r =
      (λ i. after ((p i).steps ++ (q i).steps) (other (p i).type (q i).type))
      ∙ after_placed place (x.steps ++ v.steps) (placed place x.steps ++ placed place v.steps) (rule x.type v.type) (other x.type v.type) (sym (map-append (placed_step place) x.steps v.steps)) (r x.type v.type)

  three_parts : (c d x y v w : Derived) (rule other : TypeTree → TypeTree → TypeTree → Derived) → d ≡ moved place c → y ≡ moved place x → w ≡ moved place v → ((q s t : TypeTree) → other q s t ≡ moved place (rule q s t))
      → after (d.steps ++ (y.steps ++ w.steps)) (other d.type y.type w.type) ≡ moved place (after (c.steps ++ (x.steps ++ v.steps)) (rule c.type x.type v.type))
  three_parts c d x y v w rule other o p q r =
      (λ i. after ((o i).steps ++ ((p i).steps ++ (q i).steps)) (other (o i).type (p i).type (q i).type))
      ∙ after_placed place (c.steps ++ (x.steps ++ v.steps)) (placed place c.steps ++ (placed place x.steps ++ placed place v.steps)) (rule c.type x.type v.type) (other c.type x.type v.type)
      (joined place c.steps (x.steps ++ v.steps) (placed place c.steps) (placed place x.steps ++ placed place v.steps) refl (sym (map-append (placed_step place) x.steps v.steps))) (r c.type x.type v.type)

  all_parts : (xs ys : AllDerived) (rule other : List TypeTree → Derived) → ys ≡ all_moved place xs → ((ts : List TypeTree) → other ts ≡ moved place (rule ts)) → after ys.steps (other ys.types) ≡ moved place (after xs.steps (rule xs.types))
  all_parts xs ys rule other p r = (λ i. after (p i).steps (other (p i).types)) ∙ after_placed place xs.steps (placed place xs.steps) (rule xs.types) (other xs.types) refl (r xs.types)

module _ (place : ℕ → ℕ) (number_of : Frac → UnitNote → Frac) (stays : (c : Frac) → number_of c Hole ≡ c) (holes names : ℕ → PowerMap) (records : List RecordTree) (self : Signature) (goes : ℕ → Callee) where
  abbrev elsewhere : List RecordTree
  elsewhere = others place number_of records

  -- with other places and numbers, and as it is
  abbrev new : ℕ → List TypeTree → ExprTree → Derived
  new n vars e = derive holes names elsewhere self goes n vars (changed place number_of e)

  abbrev old : ℕ → List TypeTree → ExprTree → Derived
  old n vars e = derive holes names records self goes n vars e

  abbrev all_new : ℕ → List TypeTree → ExprTrees → AllDerived
  all_new n vars es = derive_all holes names elsewhere self goes n vars (all_changed place number_of es)

  abbrev all_old : ℕ → List TypeTree → ExprTrees → AllDerived
  all_old n vars es = derive_all holes names records self goes n vars es

  abbrev new_holes : ExprTree → ℕ
  new_holes e = expr_holes elsewhere goes (changed place number_of e)

  abbrev old_holes : ExprTree → ℕ
  old_holes e = expr_holes records goes e

  holes_stay : (e : ExprTree) → new_holes e ≡ old_holes e
  holes_stay e = same_holes place number_of records goes e

  -- a part that comes after another, or after two
  second : (n : ℕ) (vars : List TypeTree) (a b : ExprTree) → new (n + old_holes a) vars b ≡ moved place (old (n + old_holes a) vars b) → new (n + new_holes a) vars b ≡ moved place (old (n + old_holes a) vars b)
  second n vars a b h = (λ i. new (n + holes_stay a i) vars b) ∙ h

  third : (n : ℕ) (vars : List TypeTree) (c a b : ExprTree) → new (n + old_holes c + old_holes a) vars b ≡ moved place (old (n + old_holes c + old_holes a) vars b) → new (n + new_holes c + new_holes a) vars b ≡ moved place (old (n + old_holes c + old_holes a) vars b)
  third n vars c a b h = (λ i. new (n + holes_stay c i + holes_stay a i) vars b) ∙ h

  mutual
    pub same_derived : (n : ℕ) (vars : List TypeTree) (e : ExprTree) → derive holes names elsewhere self goes n vars (changed place number_of e) ≡ moved place (derive holes names records self goes n vars e)
    same_derived n vars (truth at b) = refl
    same_derived n vars (number at c m) = number_placed place number_of stays at c m (noted_unit holes names n m)
    same_derived n vars (local at k) = local_placed place at (slice_get vars k)
    same_derived n vars (call at j es) =
        let m = n + callee_holes (goes j) in
        let g = offered holes names records self goes n (goes j) in
        all_parts place (all_old m vars es) (all_new m vars es) (λ ts. call_rule at g ts) (λ ts. call_rule (place at) g ts) (all_same_derived m vars es) (λ ts. call_placed place at g ts)
    same_derived n vars (negate at a) = one_part place (old n vars a) (new n vars a) (λ t. negate_rule at t) (λ t. negate_rule (place at) t) (same_derived n vars a) (λ t. negate_placed place at t)
    same_derived n vars (not_expr at a) = one_part place (old n vars a) (new n vars a) (λ t. not_rule at t) (λ t. not_rule (place at) t) (same_derived n vars a) (λ t. not_placed place at t)
    same_derived n vars (pown at a k) = one_part place (old n vars a) (new n vars a) (λ t. pown_rule at k t) (λ t. pown_rule (place at) k t) (same_derived n vars a) (λ t. pown_placed place at k t)
    same_derived n vars (arith at op a b) =
        two_parts place (old n vars a) (new n vars a) (old (n + old_holes a) vars b) (new (n + new_holes a) vars b) (λ s t. arith_rule at op s t) (λ s t. arith_rule (place at) op s t)
        (same_derived n vars a) (second n vars a b (same_derived (n + old_holes a) vars b)) (λ s t. arith_placed place at op s t)
    same_derived n vars (compare at sign a b) =
        two_parts place (old n vars a) (new n vars a) (old (n + old_holes a) vars b) (new (n + new_holes a) vars b) (λ s t. compare_rule at s t) (λ s t. compare_rule (place at) s t)
        (same_derived n vars a) (second n vars a b (same_derived (n + old_holes a) vars b)) (λ s t. compare_placed place at s t)
    same_derived n vars (both at a b) =
        two_parts place (old n vars a) (new n vars a) (old (n + old_holes a) vars b) (new (n + new_holes a) vars b) (λ s t. truths_rule at s t) (λ s t. truths_rule (place at) s t)
        (same_derived n vars a) (second n vars a b (same_derived (n + old_holes a) vars b)) (λ s t. truths_placed place at s t)
    same_derived n vars (either at a b) =
        two_parts place (old n vars a) (new n vars a) (old (n + old_holes a) vars b) (new (n + new_holes a) vars b) (λ s t. truths_rule at s t) (λ s t. truths_rule (place at) s t)
        (same_derived n vars a) (second n vars a b (same_derived (n + old_holes a) vars b)) (λ s t. truths_placed place at s t)
    same_derived n vars (if at c a b) =
        three_parts place (old n vars c) (new n vars c) (old (n + old_holes c) vars a) (new (n + new_holes c) vars a) (old (n + old_holes c + old_holes a) vars b) (new (n + new_holes c + new_holes a) vars b) (λ q s t. if_rule at q s t) (λ q s t. if_rule (place at) q s t)
        (same_derived n vars c) (second n vars c a (same_derived (n + old_holes c) vars a)) (third n vars c a b (same_derived (n + old_holes c + old_holes a) vars b)) (λ q s t. if_placed place at q s t)
    same_derived n vars (bind at a b) =
        let x = old n vars a in
        let y = new n vars a in
        let first : y ≡ moved place x = same_derived n vars a in
        let inner = vars ++ x.type ∷ [] in
        let rest : new (n + new_holes a) (vars ++ y.type ∷ []) b ≡ moved place (old (n + old_holes a) inner b) =
        (λ i. new (n + new_holes a) (vars ++ (first i).type ∷ []) b) ∙ second n inner a b (same_derived (n + old_holes a) inner b) in
        two_parts place x y (old (n + old_holes a) inner b) (new (n + new_holes a) (vars ++ y.type ∷ []) b) (λ s t. formed at [] t) (λ s t. formed (place at) [] t) first rest (λ s t. refl)
    same_derived n vars (split at l a b) =
        let x = old n vars l in
        let y = new n vars l in
        let first : y ≡ moved place x = same_derived n vars l in
        let inner = vars ++ item x.type ∷ x.type ∷ [] in
        let rest : new (n + new_holes l + new_holes a) (vars ++ item y.type ∷ y.type ∷ []) b ≡ moved place (old (n + old_holes l + old_holes a) inner b) =
        (λ i. new (n + new_holes l + new_holes a) (vars ++ item (first i).type ∷ (first i).type ∷ []) b) ∙ third n inner l a b (same_derived (n + old_holes l + old_holes a) inner b) in
        three_parts place x y (old (n + old_holes l) vars a) (new (n + new_holes l) vars a) (old (n + old_holes l + old_holes a) inner b) (new (n + new_holes l + new_holes a) (vars ++ item y.type ∷ y.type ∷ []) b) (λ q s t. split_rule at q s t) (λ q s t. split_rule (place at) q s t)
        first (second n vars l a (same_derived (n + old_holes l) vars a)) rest (λ q s t. split_placed place at q s t)
    same_derived n vars (nil at m) = nil_placed place at (noted_type holes names n m)
    same_derived n vars (list_expr at es) =
        all_parts place (all_old n vars es) (all_new n vars es) (λ ts. list_rule at ts) (λ ts. list_rule (place at) ts) (all_same_derived n vars es) (λ ts. list_rule_placed place at ts)
    same_derived n vars (cons at a b) =
        two_parts place (old n vars a) (new n vars a) (old (n + old_holes a) vars b) (new (n + new_holes a) vars b) (λ s t. cons_rule at s t) (λ s t. cons_rule (place at) s t)
        (same_derived n vars a) (second n vars a b (same_derived (n + old_holes a) vars b)) (λ s t. cons_placed place at s t)
    same_derived n vars (record_expr at r es) =
        let wide = record_holes (slice_get elsewhere r) in
        let m = record_holes (slice_get records r) in
        let count : wide ≡ m = same_record_holes place number_of records r in
        let us = first_units m (λ k. holes (n + k)) in
        let parts : all_new (n + wide) vars es ≡ all_moved place (all_old (n + m) vars es) = (λ i. all_new (n + count i) vars es) ∙ all_same_derived (n + m) vars es in
        let rule : (ts : List TypeTree) → record_rule (place at) r (first_units wide (λ k. holes (n + k))) (slice_get elsewhere r) ts ≡ moved place (record_rule at r us (slice_get records r) ts) =
        λ ts. (λ i. record_rule (place at) r (first_units (count i) (λ k. holes (n + k))) (slice_get-map (changed_record place) records r i) ts) ∙ record_placed place at r us (slice_get records r) ts in
        all_parts place (all_old (n + m) vars es) (all_new (n + wide) vars es) (λ ts. record_rule at r us (slice_get records r) ts) (λ ts. record_rule (place at) r (first_units wide (λ k. holes (n + k))) (slice_get elsewhere r) ts) parts rule
    same_derived n vars (field at r k a) =
        one_part place (old n vars a) (new n vars a) (λ t. field_rule at r k (slice_get records r) t) (λ t. field_rule (place at) r k (slice_get elsewhere r) t) (same_derived n vars a)
        (λ t. (λ i. field_rule (place at) r k (slice_get-map (changed_record place) records r i) t) ∙ field_placed place at r k (slice_get records r) t)

    pub all_same_derived : (n : ℕ) (vars : List TypeTree) (es : ExprTrees) → derive_all holes names elsewhere self goes n vars (all_changed place number_of es) ≡ all_moved place (derive_all holes names records self goes n vars es)
    all_same_derived n vars none = refl
    all_same_derived n vars (more e es) =
        let x = old n vars e in
        let xs = all_old (n + old_holes e) vars es in
        let one : new n vars e ≡ moved place x = same_derived n vars e in
        let rest : all_new (n + new_holes e) vars es ≡ all_moved place xs = (λ i. all_new (n + holes_stay e i) vars es) ∙ all_same_derived (n + old_holes e) vars es in
        let steps : (new n vars e).steps ++ (all_new (n + new_holes e) vars es).steps ≡ placed place (x.steps ++ xs.steps) =
        joined place x.steps xs.steps (new n vars e).steps (all_new (n + new_holes e) vars es).steps (λ i. (one i).steps) (λ i. (rest i).steps) in
        λ i. record { types = (one i).type ∷ (rest i).types; steps = steps i }
