-- Units that make each row 1 give a typing: the derivation is sound.
use Rattle.std.proofs.Common.{◌≡◌, ℕ, ◌+◌, List, [], ◌∷◌, ◌++◌, map, slice_get, refl, sym, ap, ◌∙◌, subst}
use Rattle.std.proofs.lemmas.List.{map-append}
use Rattle.um_frac.specs.declared.number.Frac.{Frac}
use Rattle.um_units.specs.PowerMap.{PowerMap, replace}
use Rattle.um_units.proofs.Replacement.{replace-replace}
use Rattle.um_tree.specs.declared.note.UnitNote.{UnitNote}
use Rattle.um_tree.specs.declared.note.UnitNote.TheVariants.{Hole, Written}
use Rattle.um_tree.specs.TypeTree.{TypeTree, bool_type, NoteTree, bool_note, num_note, list_note, record_note}
use Rattle.um_tree.specs.ExprTree.{ExprTree, ExprTrees, truth, number, local, call, negate, not_expr, pown, arith as arith_tree, compare, both, either, if, bind, split, nil, list_expr, cons, record_expr, field, none, more}
use Rattle.um_tree.specs.ProgramTree.{RecordTree, Signature}
use Rattle.um_tree.specs.Typing.{put, put_signature, UnitMatches, UnitsMatch, Matches, LiteralUnit, Typed, AllTyped}
use Rattle.um_rows.proofs.PutLiterals.{put_literal, put_literals, all_put_literals}
use Rattle.um_equal_types.specs.Against.{types_against}
use Rattle.um_slots.specs.Holes.{unit_holes, Callee, known_by, itself, nobody, callee_holes, record_holes, expr_holes}
use Rattle.um_rows.specs.Rules.{Derived, after, item, number_rule, call_rule, negate_rule, not_rule, pown_rule, truths_rule, arith_rule, compare_rule, if_rule, split_rule, list_rule, cons_rule, record_rule, field_rule}
use Rattle.um_rows.specs.Derivation.{first_units, offered, derive, derive_all}
use Rattle.um_slots.specs.Noted.{noted_unit, noted_units, noted_type}
use Rattle.um_equal_types.proofs.HeldSteps.{Holds, Holds-front, Holds-back}
use Rattle.um_rows.proofs.HeldNodes.{Holds-formed, mismatch_fails}
use Rattle.um_equal_types.proofs.TypesAgainst.{types_same_from_rows}
use Rattle.um_elim.proofs.RenamedUnits.{put-put, puts-put}
use Rattle.um_rows.proofs.PutTypes.{length-first_units}
use Rattle.um_rows.proofs.SoundRules.{zero_sound, local_sound, negate_sound, not_sound, pown_sound, truths_sound, arith_sound, compare_sound, if_sound, split_sound, nil_sound, list_sound, cons_sound, record_sound, field_sound}
use Rattle.um_rows.proofs.Callees.{Offers}

module _ (v holes names : ℕ → PowerMap) where
  -- ---- notes
  unit_sound : (n : ℕ) (m : UnitNote) → UnitMatches (λ k. replace v (names k)) m (replace v (noted_unit holes names n m))
  unit_sound n Hole = tt
  unit_sound n (Written u) = replace-replace names v u

  units_sound : (n : ℕ) (ms : List UnitNote) → UnitsMatch (λ k. replace v (names k)) ms (map (replace v) (noted_units holes names n ms))
  units_sound n [] = refl
  units_sound n (m ∷ ms) =
      (replace v (noted_unit holes names n m), map (replace v) (noted_units holes names (n + unit_holes m) ms), unit_sound n m, units_sound (n + unit_holes m) ms, refl)

  pub note_sound : (n : ℕ) (m : NoteTree) → Matches (λ k. replace v (names k)) m (put v (noted_type holes names n m))
  note_sound n bool_note = refl
  note_sound n (num_note m) = (replace v (noted_unit holes names n m), unit_sound n m, refl)
  note_sound n (list_note m) = (put v (noted_type holes names n m), note_sound n m, refl)
  note_sound n (record_note r ms) = (map (replace v) (noted_units holes names n ms), units_sound n ms, refl)

  literal_sound : (at n : ℕ) (c : Frac) (m : UnitNote) → Holds v (number_rule at c m (noted_unit holes names n m)).steps → LiteralUnit c (put_literal (λ k. replace v (names k)) m) (replace v (noted_unit holes names n m))
  literal_sound at n c Hole h = zero_sound v at c (holes n) h
  literal_sound at n c (Written u) h = replace-replace names v u

  module _ (records : List RecordTree) (self : Signature) where
    -- ---- calls
    pub call_sound : (at n : ℕ) (c : Callee) (ts : List TypeTree) → Holds v (call_rule at (offered holes names records self (λ j. c) n c) ts).steps →
        Offers (put_signature v self) c (record { params = map (put v) ts; result = put v (call_rule at (offered holes names records self (λ j. c) n c) ts).type })
    call_sound at n (known_by s) ts h =
        let params = map (put (λ k. holes (n + k))) s.signature.params in
        let result = put (λ k. holes (n + k)) s.signature.result in
        let ps = sym (types_same_from_rows v at params ts (Holds-formed v at (types_against at params ts) result h)) ∙ puts-put (λ k. holes (n + k)) v s.signature.params in
        let r = put-put (λ k. holes (n + k)) v s.signature.result in
        ((λ k. replace v (holes (n + k))), λ i. record { params = ps i; result = r i })
    call_sound at n itself ts h =
        let ps = sym (types_same_from_rows v at self.params ts (Holds-formed v at (types_against at self.params ts) self.result h)) in
        λ i. record { params = ps i; result = put v self.result }
    call_sound at n nobody ts h = mismatch_fails v at h

    module _ (callee : ℕ → Callee) (calls : ℕ → Signature → Type 0) (closes : (j : ℕ) (g : Signature) → Offers (put_signature v self) (callee j) g → calls j g) where
      abbrev Is : List TypeTree → ExprTree → TypeTree → Type 0
      Is vars e t = Typed records calls (λ k. replace v (names k)) vars (put_literals (λ k. replace v (names k)) e) t

      abbrev AllAre : List TypeTree → ExprTrees → List TypeTree → Type 0
      AllAre vars es ts = AllTyped records calls (λ k. replace v (names k)) vars (all_put_literals (λ k. replace v (names k)) es) ts

      wider : (vars others : List TypeTree) (e : ExprTree) (t : TypeTree) → Is (map (put v) (vars ++ others)) e t → Is (map (put v) vars ++ map (put v) others) e t
      wider vars others e t h = subst (λ vs. Is vs e t) (map-append (put v) vars others) h

      -- `&&` and `||`
      truths : (vars : List TypeTree) (at : ℕ) (a b : ExprTree) (x y : Derived) → (Holds v x.steps → Is vars a (put v x.type)) → (Holds v y.steps → Is vars b (put v y.type)) →
          Holds v (after (x.steps ++ y.steps) (truths_rule at x.type y.type)).steps → Is vars a bool_type × Is vars b bool_type × (bool_type ≡ bool_type)
      truths vars at a b x y f g h =
          let d = truths_rule at x.type y.type in
          let parts = Holds-front v (x.steps ++ y.steps) d.steps h in
          let s = truths_sound v at x.type y.type (Holds-back v (x.steps ++ y.steps) d.steps h) in
          (subst (Is vars a) s.0 (f (Holds-front v x.steps y.steps parts)), subst (Is vars b) s.1 (g (Holds-back v x.steps y.steps parts)), refl)

      mutual
        pub sound : (n : ℕ) (vars : List TypeTree) (e : ExprTree) → Holds v (derive holes names records self callee n vars e).steps → Is (map (put v) vars) e (put v (derive holes names records self callee n vars e).type)
        sound n vars (truth at b) h = refl
        sound n vars (number at c m) h = (replace v (noted_unit holes names n m), literal_sound at n c m h, refl)
        sound n vars (local at k) h = local_sound v at k vars h
        sound n vars (call at j es) h =
            let m = n + callee_holes (callee j) in
            let ds = derive_all holes names records self callee m vars es in
            let d = call_rule at (offered holes names records self callee n (callee j)) ds.types in
            (map (put v) ds.types, all_sound m vars es (Holds-front v ds.steps d.steps h), closes j _ (call_sound at n (callee j) ds.types (Holds-back v ds.steps d.steps h)))
        sound n vars (negate at a) h =
            let x = derive holes names records self callee n vars a in
            let d = negate_rule at x.type in
            let s = negate_sound v at x.type (Holds-back v x.steps d.steps h) in
            (s.0, subst (Is (map (put v) vars) a) s.1 (sound n vars a (Holds-front v x.steps d.steps h)), s.2)
        sound n vars (not_expr at a) h =
            let x = derive holes names records self callee n vars a in
            let d = not_rule at x.type in
            (subst (Is (map (put v) vars) a) (not_sound v at x.type (Holds-back v x.steps d.steps h)) (sound n vars a (Holds-front v x.steps d.steps h)), refl)
        sound n vars (pown at a i) h =
            let x = derive holes names records self callee n vars a in
            let d = pown_rule at i x.type in
            let s = pown_sound v at i x.type (Holds-back v x.steps d.steps h) in
            (s.0, subst (Is (map (put v) vars) a) s.1 (sound n vars a (Holds-front v x.steps d.steps h)), s.2)
        sound n vars (arith_tree at op a b) h =
            let m = n + expr_holes records callee a in
            let x = derive holes names records self callee n vars a in
            let y = derive holes names records self callee m vars b in
            let d = arith_rule at op x.type y.type in
            let parts = Holds-front v (x.steps ++ y.steps) d.steps h in
            let s = arith_sound v at op x.type y.type (Holds-back v (x.steps ++ y.steps) d.steps h) in
            (s.0, s.1, s.2, subst (Is (map (put v) vars) a) s.3 (sound n vars a (Holds-front v x.steps y.steps parts)), subst (Is (map (put v) vars) b) s.4 (sound m vars b (Holds-back v x.steps y.steps parts)), s.5, s.6)
        sound n vars (compare at sign a b) h =
            let m = n + expr_holes records callee a in
            let x = derive holes names records self callee n vars a in
            let y = derive holes names records self callee m vars b in
            let d = compare_rule at x.type y.type in
            let parts = Holds-front v (x.steps ++ y.steps) d.steps h in
            let s = compare_sound v at x.type y.type (Holds-back v (x.steps ++ y.steps) d.steps h) in
            (s.0, subst (Is (map (put v) vars) a) s.1 (sound n vars a (Holds-front v x.steps y.steps parts)), subst (Is (map (put v) vars) b) s.2 (sound m vars b (Holds-back v x.steps y.steps parts)), s.3)
        sound n vars (both at a b) h =
            let m = n + expr_holes records callee a in
            truths (map (put v) vars) at a b (derive holes names records self callee n vars a) (derive holes names records self callee m vars b) (λ k. sound n vars a k) (λ k. sound m vars b k) h
        sound n vars (either at a b) h =
            let m = n + expr_holes records callee a in
            truths (map (put v) vars) at a b (derive holes names records self callee n vars a) (derive holes names records self callee m vars b) (λ k. sound n vars a k) (λ k. sound m vars b k) h
        sound n vars (if at c a b) h =
            let m = n + expr_holes records callee c in
            let l = n + expr_holes records callee c + expr_holes records callee a in
            let z = derive holes names records self callee n vars c in
            let x = derive holes names records self callee m vars a in
            let y = derive holes names records self callee l vars b in
            let d = if_rule at z.type x.type y.type in
            let parts = Holds-front v (z.steps ++ (x.steps ++ y.steps)) d.steps h in
            let arms = Holds-back v z.steps (x.steps ++ y.steps) parts in
            let s = if_sound v at z.type x.type y.type (Holds-back v (z.steps ++ (x.steps ++ y.steps)) d.steps h) in (
              subst (Is (map (put v) vars) c) s.0 (sound n vars c (Holds-front v z.steps (x.steps ++ y.steps) parts)),
              sound m vars a (Holds-front v x.steps y.steps arms),
              subst (Is (map (put v) vars) b) (sym s.1) (sound l vars b (Holds-back v x.steps y.steps arms)),
            )
        sound n vars (bind at a b) h =
            let m = n + expr_holes records callee a in
            let x = derive holes names records self callee n vars a in
            let y = derive holes names records self callee m (vars ++ x.type ∷ []) b in
            let parts = Holds-front v (x.steps ++ y.steps) _ h in
            (put v x.type, sound n vars a (Holds-front v x.steps y.steps parts), wider vars (x.type ∷ []) b _ (sound m (vars ++ x.type ∷ []) b (Holds-back v x.steps y.steps parts)))
        sound n vars (split at l a b) h =
            let m = n + expr_holes records callee l in
            let k = n + expr_holes records callee l + expr_holes records callee a in
            let z = derive holes names records self callee n vars l in
            let x = derive holes names records self callee m vars a in
            let y = derive holes names records self callee k (vars ++ item z.type ∷ z.type ∷ []) b in
            let d = split_rule at z.type x.type y.type in
            let parts = Holds-front v (z.steps ++ (x.steps ++ y.steps)) d.steps h in
            let arms = Holds-back v z.steps (x.steps ++ y.steps) parts in
            let s = split_sound v at z.type x.type y.type (Holds-back v (z.steps ++ (x.steps ++ y.steps)) d.steps h) in
            let t = put v (item z.type) in
            let full = wider vars (item z.type ∷ z.type ∷ []) b _ (sound k (vars ++ item z.type ∷ z.type ∷ []) b (Holds-back v x.steps y.steps arms)) in (
              t,
              subst (Is (map (put v) vars) l) s.0 (sound n vars l (Holds-front v z.steps (x.steps ++ y.steps) parts)),
              sound m vars a (Holds-front v x.steps y.steps arms),
              subst (λ u. Is (map (put v) vars ++ t ∷ u ∷ []) b (put v x.type)) s.0 (subst (Is (map (put v) vars ++ t ∷ put v z.type ∷ []) b) (sym s.1) full),
            )
        sound n vars (nil at m) h =
            let t = noted_type holes names n m in
            let is = nil_sound v at t h in
            (put v (item t), subst (Matches (λ k. replace v (names k)) m) is (note_sound n m), is)
        sound n vars (list_expr at es) h =
            let ds = derive_all holes names records self callee n vars es in
            let d = list_rule at ds.types in
            let s = list_sound v at ds.types (Holds-back v ds.steps d.steps h) in
            (s.0, s.1, subst (AllAre (map (put v) vars) es) s.2 (all_sound n vars es (Holds-front v ds.steps d.steps h)), s.3, s.4)
        sound n vars (cons at a b) h =
            let m = n + expr_holes records callee a in
            let x = derive holes names records self callee n vars a in
            let y = derive holes names records self callee m vars b in
            let d = cons_rule at x.type y.type in
            let parts = Holds-front v (x.steps ++ y.steps) d.steps h in
            let s = cons_sound v at x.type y.type (Holds-back v (x.steps ++ y.steps) d.steps h) in
            (put v x.type, sound n vars a (Holds-front v x.steps y.steps parts), subst (Is (map (put v) vars) b) s.0 (sound m vars b (Holds-back v x.steps y.steps parts)), s.1)
        sound n vars (record_expr at r es) h =
            let m = record_holes (slice_get records r) in
            let us = first_units m (λ k. holes (n + k)) in
            let ds = derive_all holes names records self callee (n + m) vars es in
            let d = record_rule at r us (slice_get records r) ds.types in
            let s = record_sound v at records r us (slice_get records r) ds.types refl (Holds-back v ds.steps d.steps h) in (
              map (replace v) us,
              s.0,
              record { declared = s.1; units = length-first_units v m (λ k. holes (n + k)) ∙ ap record_holes s.1 },
              subst (AllAre (map (put v) vars) es) s.2 (all_sound (n + m) vars es (Holds-front v ds.steps d.steps h)),
              s.3,
            )
        sound n vars (field at r k a) h =
            let x = derive holes names records self callee n vars a in
            let d = field_rule at r k (slice_get records r) x.type in
            let s = field_sound v at records r k x.type (Holds-back v x.steps d.steps h) in
            (s.0, s.1, s.2, s.3, s.4, subst (Is (map (put v) vars) a) s.5 (sound n vars a (Holds-front v x.steps d.steps h)), s.6)

        pub all_sound : (n : ℕ) (vars : List TypeTree) (es : ExprTrees) → Holds v (derive_all holes names records self callee n vars es).steps → AllAre (map (put v) vars) es (map (put v) (derive_all holes names records self callee n vars es).types)
        all_sound n vars none h = refl
        all_sound n vars (more e es) h =
            let m = n + expr_holes records callee e in
            let x = derive holes names records self callee n vars e in
            let ds = derive_all holes names records self callee m vars es in
            (put v x.type, map (put v) ds.types, sound n vars e (Holds-front v x.steps ds.steps h), all_sound m vars es (Holds-back v x.steps ds.steps h), refl)
