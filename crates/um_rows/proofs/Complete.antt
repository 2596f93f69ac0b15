-- A typing comes from the units that it uses: they make each row 1, and the derived type is the type.
use Rattle.std.proofs.Common.{◌≡◌, ℕ, ◌+◌, ◌<◌, List, [], ◌∷◌, ◌++◌, map, slice_get, sym, ap, ◌∙◌}
use Rattle.std.proofs.lemmas.List.{map-append}
use Rattle.um_frac.specs.declared.number.Frac.{Frac}
use Rattle.um_units.specs.PowerMap.{PowerMap, replace}
use Rattle.um_units.proofs.Replacement.{replace-replace}
use Rattle.um_tree.specs.declared.note.UnitNote.{UnitNote}
use Rattle.um_tree.specs.declared.note.UnitNote.TheVariants.{Hole, Written}
use Rattle.um_tree.specs.TypeTree.{TypeTree, bool_type, num_type, list_type, record_type, NoteTree, bool_note, num_note, list_note, record_note}
use Rattle.um_tree.specs.ExprTree.{ExprTree, ExprTrees, truth, number, local, call, negate, not_expr, pown, arith as arith_tree, compare, both, either, if, bind, split, nil, list_expr, cons, record_expr, field, none, more}
use Rattle.um_tree.specs.ProgramTree.{RecordTree, Signature}
use Rattle.um_tree.specs.Typing.{put, put_signature, unit_at, field_types, UnitMatches, UnitsMatch, Matches, LiteralUnit, Typed, AllTyped}
use Rattle.um_rows.proofs.PutLiterals.{put_literal, put_literals, all_put_literals}
use Rattle.um_equal_types.specs.Against.{types_against}
use Rattle.um_slots.specs.Holes.{unit_holes, units_holes, note_holes, Callee, known_by, itself, nobody, callee_holes, record_holes, expr_holes, exprs_holes}
use Rattle.um_rows.specs.Rules.{Derived, item, asks_zero, number_rule, call_rule, negate_rule, not_rule, pown_rule, truths_rule, arith_rule, compare_rule, if_rule, split_rule, list_rule, cons_rule, record_rule, field_rule}
use Rattle.um_rows.specs.Derivation.{first_units, offered, derive, derive_all}
use Rattle.um_slots.specs.Noted.{noted_unit, noted_units, noted_type}
use Rattle.um_equal_types.proofs.HeldSteps.{Holds, Holds-append}
use Rattle.um_equal_types.proofs.TypesAgainst.{rows-types_same}
use Rattle.um_elim.proofs.RenamedUnits.{put-put, puts-put}
use Rattle.um_rows.proofs.PutTypes.{first_units-are}
use Rattle.um_rows.proofs.Variables.{CalleeBelow, put_alike_below, types_put_alike_below}
use Rattle.um_rows.proofs.CompleteRules.{HasTypeAt, after_gives, formed_gives, item_complete, zero_complete, local_complete, negate_complete, not_complete, pown_complete, truths_complete, arith_complete, compare_complete, if_complete, split_complete, nil_complete, list_complete, cons_complete, record_complete, field_complete}
use Rattle.um_rows.proofs.Callees.{Offers}
use Rattle.um_rows.proofs.Used.{then_units, Agrees, agrees_first, agrees_second, agrees_at, units_used, note_used, offer_used, used, all_used}

module _ (v holes names choice : ℕ → PowerMap) (same : (k : ℕ) → replace v (names k) ≡ choice k) where
  -- the units of the holes from n on
  abbrev pub HolesAre : ℕ → ℕ → (ℕ → PowerMap) → Type 0
  HolesAre n m f = Agrees (λ k. replace v (holes k)) n m f

  first : (n m p : ℕ) (f g : ℕ → PowerMap) → HolesAre n (m + p) (then_units m f g) → HolesAre n m f
  first n m p f g a = agrees_first (λ k. replace v (holes k)) n m p f g a

  second : (n m p : ℕ) (f g : ℕ → PowerMap) → HolesAre n (m + p) (then_units m f g) → HolesAre (n + m) p g
  second n m p f g a = agrees_second (λ k. replace v (holes k)) n m p f g a

  -- ---- notes
  written_complete : (w : PowerMap) → replace v (replace names w) ≡ replace choice w
  written_complete w = replace-replace names v w ∙ ap (λ f. replace f w) (λ i k. same k i)

  unit_complete : (n : ℕ) (m : UnitNote) (u : PowerMap) → UnitMatches choice m u → HolesAre n (unit_holes m) (λ _. u) → replace v (noted_unit holes names n m) ≡ u
  unit_complete n Hole u h a = agrees_at (λ k. replace v (holes k)) n u a
  unit_complete n (Written w) u h a = written_complete w ∙ sym h

  units_complete : (n : ℕ) (ms : List UnitNote) (us : List PowerMap) (h : UnitsMatch choice ms us) → HolesAre n (units_holes ms) (units_used choice ms us h) → map (replace v) (noted_units holes names n ms) ≡ us
  units_complete n [] us h a = sym h
  units_complete n (m ∷ ms) us h a =
      let f = units_used choice ms h.1 h.3 in
      let head = unit_complete n m h.0 h.2 (first n (unit_holes m) (units_holes ms) (λ _. h.0) f a) in
      let rest = units_complete (n + unit_holes m) ms h.1 h.3 (second n (unit_holes m) (units_holes ms) (λ _. h.0) f a) in
      (λ i. head i ∷ rest i) ∙ sym h.4

  pub note_complete : (n : ℕ) (m : NoteTree) (t : TypeTree) (h : Matches choice m t) → HolesAre n (note_holes m) (note_used choice m t h) → put v (noted_type holes names n m) ≡ t
  note_complete n bool_note t h a = sym h
  note_complete n (num_note m) t h a = ap num_type (unit_complete n m h.0 h.1 a) ∙ sym h.2
  note_complete n (list_note m) t h a = ap list_type (note_complete n m h.0 h.1 a) ∙ sym h.2
  note_complete n (record_note r ms) t h a = ap (record_type r) (units_complete n ms h.0 h.1 a) ∙ sym h.2

  literal_complete : (at n : ℕ) (c : Frac) (m : UnitNote) (u : PowerMap) → LiteralUnit c (put_literal choice m) u → HolesAre n (unit_holes m) (λ _. u) → HasTypeAt v (number_rule at c m (noted_unit holes names n m)) (num_type u)
  literal_complete at n c Hole u h a = formed_gives v at (asks_zero at c Hole) (num_type (holes n)) (num_type u) (ap num_type (agrees_at (λ k. replace v (holes k)) n u a)) (zero_complete v at c h)
  literal_complete at n c (Written w) u h a = formed_gives v at [] (num_type (replace names w)) (num_type u) (ap num_type (written_complete w ∙ sym h)) tt

  module _ (records : List RecordTree) (self own : Signature) (is_own : own ≡ put_signature v self) (callee : ℕ → Callee) (below : (j : ℕ) → CalleeBelow (callee j))
      (calls : ℕ → Signature → Type 0) (opens : (j : ℕ) (g : Signature) → calls j g → Offers own (callee j) g) where
    -- ---- calls
    call_complete : (at n : ℕ) (c : Callee) (types ts : List TypeTree) (t : TypeTree) → CalleeBelow c → map (put v) types ≡ ts → (h : Offers own c (record { params = ts; result = t })) →
        HolesAre n (callee_holes c) (offer_used choice records own callee calls opens c (record { params = ts; result = t }) h) → HasTypeAt v (call_rule at (offered holes names records self callee n c) types) t
    call_complete at n (known_by s) types ts t low e h a =
        let agree = λ (k : ℕ) (l : k < s.vars). a k l in
        let ps = puts-put (λ k. holes (n + k)) v s.signature.params ∙ types_put_alike_below s.vars (λ k. replace v (holes (n + k))) h.0 agree s.signature.params low.0 in
        let r = put-put (λ k. holes (n + k)) v s.signature.result ∙ put_alike_below s.vars (λ k. replace v (holes (n + k))) h.0 agree s.signature.result low.1 in
        let params : ts ≡ map (put h.0) s.signature.params = ap (λ (g : Signature). g.params) h.1 in
        let result : t ≡ put h.0 s.signature.result = ap (λ (g : Signature). g.result) h.1 in
        formed_gives v at (types_against at (map (put (λ k. holes (n + k))) s.signature.params) types) _ t (r ∙ sym result) (rows-types_same v at (map (put (λ k. holes (n + k))) s.signature.params) types (ps ∙ sym params ∙ sym e))
    call_complete at n itself types ts t low e h a =
        let params : ts ≡ map (put v) self.params = ap (λ (g : Signature). g.params) (h ∙ is_own) in
        let result : t ≡ put v self.result = ap (λ (g : Signature). g.result) (h ∙ is_own) in
        formed_gives v at (types_against at self.params types) self.result t (sym result) (rows-types_same v at self.params types (sym params ∙ sym e))
    call_complete at n nobody types ts t low e h a = absurd h

    abbrev from : (vs : List TypeTree) (e : ExprTree) (t : TypeTree) → Typed records calls choice vs (put_literals choice e) t → ℕ → PowerMap
    from vs e t h = used choice records own callee calls opens vs e t h

    abbrev all_from : (vs : List TypeTree) (es : ExprTrees) (ts : List TypeTree) → AllTyped records calls choice vs (all_put_literals choice es) ts → ℕ → PowerMap
    all_from vs es ts h = all_used choice records own callee calls opens vs es ts h

    abbrev holes_in : ExprTree → ℕ
    holes_in e = expr_holes records callee e

    abbrev at_number : ℕ → List TypeTree → ExprTree → Derived
    at_number n vars e = derive holes names records self callee n vars e

    wider : (vars vs others ts : List TypeTree) → map (put v) vars ≡ vs → map (put v) others ≡ ts → map (put v) (vars ++ others) ≡ vs ++ ts
    wider vars vs others ts e f = map-append (put v) vars others ∙ (λ i. e i ++ f i)

    mutual
      pub complete : (n : ℕ) (vars vs : List TypeTree) → map (put v) vars ≡ vs → (e : ExprTree) (t : TypeTree) (h : Typed records calls choice vs (put_literals choice e) t) → HolesAre n (holes_in e) (from vs e t h) → HasTypeAt v (at_number n vars e) t
      complete n vars vs ev (truth at b) t h a = (sym h, tt)
      complete n vars vs ev (number at c m) t h a = let x = literal_complete at n c m h.0 h.1 a in (x.0 ∙ sym h.2, x.1)
      complete n vars vs ev (local at k) t h a = local_complete v at k vars t (ap (λ us. slice_get us k) ev ∙ h)
      complete n vars vs ev (call at j es) t h a =
          let c = callee_holes (callee j) in
          let g : Signature = record { params = h.0; result = t } in
          let f = offer_used choice records own callee calls opens (callee j) g (opens j g h.2) in
          let fs = all_from vs es h.0 h.1 in
          let ds = derive_all holes names records self callee (n + c) vars es in
          let parts = all_complete (n + c) vars vs ev es h.0 h.1 (second n c (exprs_holes records callee es) f fs a) in
          after_gives v ds.steps (call_rule at (offered holes names records self callee n (callee j)) ds.types) t parts.1
          (call_complete at n (callee j) ds.types h.0 t (below j) parts.0 (opens j g h.2) (first n c (exprs_holes records callee es) f fs a))
      complete n vars vs ev (negate at a) t h ag =
          let x = complete n vars vs ev a (num_type h.0) h.1 ag in
          let d = at_number n vars a in
          let z = negate_complete v at d.type h.0 x.0 in
          after_gives v d.steps (negate_rule at d.type) t x.1 (z.0 ∙ sym h.2, z.1)
      complete n vars vs ev (not_expr at a) t h ag =
          let x = complete n vars vs ev a bool_type h.0 ag in
          let d = at_number n vars a in
          let z = not_complete v at d.type x.0 in
          after_gives v d.steps (not_rule at d.type) t x.1 (z.0 ∙ sym h.1, z.1)
      complete n vars vs ev (pown at a i) t h ag =
          let x = complete n vars vs ev a (num_type h.0) h.1 ag in
          let d = at_number n vars a in
          let z = pown_complete v at i d.type h.0 x.0 in
          after_gives v d.steps (pown_rule at i d.type) t x.1 (z.0 ∙ sym h.2, z.1)
      complete n vars vs ev (arith_tree at op a b) t h ag =
          let m = holes_in a in
          let fa = from vs a (num_type h.0) h.3 in
          let fb = from vs b (num_type h.1) h.4 in
          let x = complete n vars vs ev a (num_type h.0) h.3 (first n m (holes_in b) fa fb ag) in
          let y = complete (n + m) vars vs ev b (num_type h.1) h.4 (second n m (holes_in b) fa fb ag) in
          let dx = at_number n vars a in
          let dy = at_number (n + m) vars b in
          let z = arith_complete v at op dx.type dy.type h.0 h.1 h.2 x.0 y.0 h.5 in
          after_gives v (dx.steps ++ dy.steps) (arith_rule at op dx.type dy.type) t (Holds-append v dx.steps dy.steps x.1 y.1) (z.0 ∙ sym h.6, z.1)
      complete n vars vs ev (compare at sign a b) t h ag =
          let m = holes_in a in
          let fa = from vs a (num_type h.0) h.1 in
          let fb = from vs b (num_type h.0) h.2 in
          let x = complete n vars vs ev a (num_type h.0) h.1 (first n m (holes_in b) fa fb ag) in
          let y = complete (n + m) vars vs ev b (num_type h.0) h.2 (second n m (holes_in b) fa fb ag) in
          let dx = at_number n vars a in
          let dy = at_number (n + m) vars b in
          let z = compare_complete v at dx.type dy.type h.0 x.0 y.0 in
          after_gives v (dx.steps ++ dy.steps) (compare_rule at dx.type dy.type) t (Holds-append v dx.steps dy.steps x.1 y.1) (z.0 ∙ sym h.3, z.1)
      complete n vars vs ev (both at a b) t h ag =
          let m = holes_in a in
          let fa = from vs a bool_type h.0 in
          let fb = from vs b bool_type h.1 in
          let x = complete n vars vs ev a bool_type h.0 (first n m (holes_in b) fa fb ag) in
          let y = complete (n + m) vars vs ev b bool_type h.1 (second n m (holes_in b) fa fb ag) in
          let dx = at_number n vars a in
          let dy = at_number (n + m) vars b in
          let z = truths_complete v at dx.type dy.type x.0 y.0 in
          after_gives v (dx.steps ++ dy.steps) (truths_rule at dx.type dy.type) t (Holds-append v dx.steps dy.steps x.1 y.1) (z.0 ∙ sym h.2, z.1)
      complete n vars vs ev (either at a b) t h ag =
          let m = holes_in a in
          let fa = from vs a bool_type h.0 in
          let fb = from vs b bool_type h.1 in
          let x = complete n vars vs ev a bool_type h.0 (first n m (holes_in b) fa fb ag) in
          let y = complete (n + m) vars vs ev b bool_type h.1 (second n m (holes_in b) fa fb ag) in
          let dx = at_number n vars a in
          let dy = at_number (n + m) vars b in
          let z = truths_complete v at dx.type dy.type x.0 y.0 in
          after_gives v (dx.steps ++ dy.steps) (truths_rule at dx.type dy.type) t (Holds-append v dx.steps dy.steps x.1 y.1) (z.0 ∙ sym h.2, z.1)
      complete n vars vs ev (if at c a b) t h ag =
          let m = holes_in c in
          let k = holes_in a in
          let fc = from vs c bool_type h.0 in
          let fa = from vs a t h.1 in
          let fb = from vs b t h.2 in
          let rest = second n m (k + holes_in b) fc (then_units k fa fb) ag in
          let z = complete n vars vs ev c bool_type h.0 (first n m (k + holes_in b) fc (then_units k fa fb) ag) in
          let x = complete (n + m) vars vs ev a t h.1 (first (n + m) k (holes_in b) fa fb rest) in
          let y = complete (n + m + k) vars vs ev b t h.2 (second (n + m) k (holes_in b) fa fb rest) in
          let dz = at_number n vars c in
          let dx = at_number (n + m) vars a in
          let dy = at_number (n + m + k) vars b in
          after_gives v (dz.steps ++ (dx.steps ++ dy.steps)) (if_rule at dz.type dx.type dy.type) t
          (Holds-append v dz.steps (dx.steps ++ dy.steps) z.1 (Holds-append v dx.steps dy.steps x.1 y.1))
          (if_complete v at dz.type dx.type dy.type t z.0 x.0 y.0)
      complete n vars vs ev (bind at a b) t h ag =
          let m = holes_in a in
          let fa = from vs a h.0 h.1 in
          let fb = from (vs ++ h.0 ∷ []) b t h.2 in
          let x = complete n vars vs ev a h.0 h.1 (first n m (holes_in b) fa fb ag) in
          let dx = at_number n vars a in
          let scope = wider vars vs (dx.type ∷ []) (h.0 ∷ []) ev (λ i. x.0 i ∷ []) in
          let y = complete (n + m) (vars ++ dx.type ∷ []) (vs ++ h.0 ∷ []) scope b t h.2 (second n m (holes_in b) fa fb ag) in
          let dy = at_number (n + m) (vars ++ dx.type ∷ []) b in
          after_gives v (dx.steps ++ dy.steps) _ t (Holds-append v dx.steps dy.steps x.1 y.1) (formed_gives v at [] dy.type t y.0 tt)
      complete n vars vs ev (split at l a b) t h ag =
          let m = holes_in l in
          let k = holes_in a in
          let fl = from vs l (list_type h.0) h.1 in
          let fa = from vs a t h.2 in
          let fb = from (vs ++ h.0 ∷ list_type h.0 ∷ []) b t h.3 in
          let rest = second n m (k + holes_in b) fl (then_units k fa fb) ag in
          let z = complete n vars vs ev l (list_type h.0) h.1 (first n m (k + holes_in b) fl (then_units k fa fb) ag) in
          let x = complete (n + m) vars vs ev a t h.2 (first (n + m) k (holes_in b) fa fb rest) in
          let dz = at_number n vars l in
          let dx = at_number (n + m) vars a in
          let it = item_complete v at dz.type h.0 z.0 in
          let scope = wider vars vs (item dz.type ∷ dz.type ∷ []) (h.0 ∷ list_type h.0 ∷ []) ev (λ i. it.0 i ∷ z.0 i ∷ []) in
          let y = complete (n + m + k) (vars ++ item dz.type ∷ dz.type ∷ []) (vs ++ h.0 ∷ list_type h.0 ∷ []) scope b t h.3 (second (n + m) k (holes_in b) fa fb rest) in
          let dy = at_number (n + m + k) (vars ++ item dz.type ∷ dz.type ∷ []) b in
          after_gives v (dz.steps ++ (dx.steps ++ dy.steps)) (split_rule at dz.type dx.type dy.type) t
          (Holds-append v dz.steps (dx.steps ++ dy.steps) z.1 (Holds-append v dx.steps dy.steps x.1 y.1))
          (split_complete v at dz.type dx.type dy.type t it.1 x.0 y.0)
      complete n vars vs ev (nil at m) t h a =
          let z = nil_complete v at (noted_type holes names n m) h.0 (note_complete n m (list_type h.0) h.1 a) in
          (z.0 ∙ sym h.2, z.1)
      complete n vars vs ev (list_expr at es) t h a =
          let ds = derive_all holes names records self callee n vars es in
          let parts = all_complete n vars vs ev es (h.0 ∷ h.1) h.2 a in
          let z = list_complete v at ds.types h.0 h.1 parts.0 h.3 in
          after_gives v ds.steps (list_rule at ds.types) t parts.1 (z.0 ∙ sym h.4, z.1)
      complete n vars vs ev (cons at a b) t h ag =
          let m = holes_in a in
          let fa = from vs a h.0 h.1 in
          let fb = from vs b (list_type h.0) h.2 in
          let x = complete n vars vs ev a h.0 h.1 (first n m (holes_in b) fa fb ag) in
          let y = complete (n + m) vars vs ev b (list_type h.0) h.2 (second n m (holes_in b) fa fb ag) in
          let dx = at_number n vars a in
          let dy = at_number (n + m) vars b in
          let z = cons_complete v at dx.type dy.type h.0 x.0 y.0 in
          after_gives v (dx.steps ++ dy.steps) (cons_rule at dx.type dy.type) t (Holds-append v dx.steps dy.steps x.1 y.1) (z.0 ∙ sym h.3, z.1)
      complete n vars vs ev (record_expr at r es) t h ag =
          let m = record_holes (slice_get records r) in
          let us = first_units m (λ k. holes (n + k)) in
          let ts = map (put (unit_at h.0)) (field_types h.1) in
          let fs = all_from vs es ts h.3 in
          let units = first_units-are v m (λ k. holes (n + k)) h.0 (h.2.units ∙ sym (ap record_holes h.2.declared)) (first n m (exprs_holes records callee es) (unit_at h.0) fs ag) in
          let parts = all_complete (n + m) vars vs ev es ts h.3 (second n m (exprs_holes records callee es) (unit_at h.0) fs ag) in
          let ds = derive_all holes names records self callee (n + m) vars es in
          let z = record_complete v at r us h.0 h.1 (slice_get records r) ds.types h.2.declared units parts.0 in
          after_gives v ds.steps (record_rule at r us (slice_get records r) ds.types) t parts.1 (z.0 ∙ sym h.4, z.1)
      complete n vars vs ev (field at r k a) t h ag =
          let x = complete n vars vs ev a (record_type r h.0) h.5 ag in
          let d = at_number n vars a in
          let z = field_complete v at records r k d.type h.0 h.1 h.2 h.3 h.4 x.0 in
          after_gives v d.steps (field_rule at r k (slice_get records r) d.type) t x.1 (z.0 ∙ sym h.6, z.1)

      pub all_complete : (n : ℕ) (vars vs : List TypeTree) → map (put v) vars ≡ vs → (es : ExprTrees) (ts : List TypeTree) (h : AllTyped records calls choice vs (all_put_literals choice es) ts) → HolesAre n (exprs_holes records callee es) (all_from vs es ts h) →
          (map (put v) (derive_all holes names records self callee n vars es).types ≡ ts) × Holds v (derive_all holes names records self callee n vars es).steps
      all_complete n vars vs ev none ts h a = (sym h, tt)
      all_complete n vars vs ev (more e es) ts h ag =
          let m = holes_in e in
          let fe = from vs e h.0 h.2 in
          let fs = all_from vs es h.1 h.3 in
          let x = complete n vars vs ev e h.0 h.2 (first n m (exprs_holes records callee es) fe fs ag) in
          let y = all_complete (n + m) vars vs ev es h.1 h.3 (second n m (exprs_holes records callee es) fe fs ag) in
          let d = at_number n vars e in
          let ds = derive_all holes names records self callee (n + m) vars es in
          ((λ i. x.0 i ∷ y.0 i) ∙ sym h.4, Holds-append v d.steps ds.steps x.1 y.1)
