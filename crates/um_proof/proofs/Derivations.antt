-- The equations of a function of a formed program hold no base unit that the program doesn't declare, and are few.
use Rattle.std.proofs.Common.{◌≡◌, ℕ, zero, suc, ◌+◌, ◌*◌, ◌≤◌, List, [], ◌∷◌, ◌++◌, map, length, Option, Some, None, slice_get, get_or, refl, ap, arith}
use Rattle.std.specs.Prelude.{All}
use Rattle.std.proofs.lemmas.List.Elements.{All-nil, All-cons, All-head, All-tail}
use Rattle.um_units.specs.PowerMap.{PowerMap}
use Rattle.um_tree.specs.declared.note.UnitNote.{UnitNote}
use Rattle.um_tree.specs.declared.note.UnitNote.TheVariants.{Hole, Written}
use Rattle.um_tree.specs.TypeTree.{TypeTree, bool_type, num_type, list_type, record_type, NoteTree, bool_note, num_note, list_note, record_note}
use Rattle.um_tree.specs.ExprTree.{ExprTree, ExprTrees, truth, number, local, call, negate, not_expr, pown, arith as arith_tree, compare, both, either, if, bind, split, nil, list_expr, cons, record_expr, field, none, more}
use Rattle.um_tree.specs.ProgramTree.{FieldTree, RecordTree, FunctionTree, ProgramTree, SchemeTree, Signature}
use Rattle.um_tree.specs.TreeHeights.{tree_nodes, all_tree_nodes}
use Rattle.um_tree.specs.Formed.{IsNoteIn, IsNoteTreeIn, IsTypeIn, IsLiteral, IsFormedIn, AllFormedIn, IsFieldType, IsFormedNote, ResultFormed, IsFormedFunction, IsFormed}
use Rattle.um_frac.specs.declared.number.Frac.{Frac}
use Rattle.um_equal_types.specs.Steps.{Step, types_at, rows_of}
use Rattle.um_slots.specs.Holes.{unit_holes, note_holes, notes_holes, Callee, known_by, itself, nobody, callee_holes, record_holes, expr_holes}
use Rattle.um_rows.specs.Rules.{Derived, AllDerived, after, formed, item, number_rule, local_rule, call_rule, negate_rule, not_rule, pown_rule, truths_rule, arith_rule, compare_rule, if_rule, split_rule, nil_rule, list_rule, cons_rule, record_rule, field_rule}
use Rattle.um_rows.specs.Derivation.{first_units, offered, derive, derive_all}
use Rattle.um_slots.specs.Noted.{noted_unit, noted_units, noted_type, noted_types, noted_result}
use Rattle.um_rows.specs.Equations.{Equations, result_rows, own_signature, head_steps, equations}
use Rattle.um_slots.specs.Callees.{callee, head_holes}
use Rattle.um_rows.proofs.SlotLaws.{length-first}
use Rattle.um_proof.proofs.Lacks.{Lacks, replace_lacks, below_lacks, TypeLacks, TypesLack, SignatureLacks, put_lacks, types_put_lack, types_lack-append}
use Rattle.um_proof.proofs.NodeRules.{StepsLack, RowsLack, rows_more, rows_append, no_rows, DerivedLacks, formed_lacks, against_lacks, list_item_lacks, number_lacks, local_lacks, OfferLacks, call_lacks, negate_lacks, not_lacks, pown_lacks, truths_lack, arith_lacks, compare_lacks, if_lacks, split_lacks, nil_lacks, list_lacks, cons_lacks, FieldsLack, record_lacks, field_lacks}

-- ---- expressions: at most eleven rows a node
module _ (m : ℕ) where
  pub record ExprLacks (e : ExprTree) (d : Derived) : Type 0 where
    pub type : TypeLacks m d.type
    pub lack : StepsLack m d.steps
    pub few : length (rows_of d.steps) + 5 ≤ 11 * tree_nodes e

  pub record ExprsLack (es : ExprTrees) (ds : AllDerived) : Type 0 where
    pub types : TypesLack m ds.types
    pub lack : StepsLack m ds.steps
    pub few : length (rows_of ds.steps) + 5 * length ds.types ≤ 11 * all_tree_nodes es

  abbrev rows_in : List Step → ℕ
  rows_in ss = length (rows_of ss)

  own_rows : (ss : List Step) → StepsLack m ss → RowsLack m (rows_in ss) ss
  own_rows ss h = record { lack = h; few = omega arith }

  -- a node behind the steps of its parts
  node_lacks : (e : ExprTree) (ss : List Step) (d : Derived) (n k : ℕ) → RowsLack m n ss → DerivedLacks m k d → n + k + 5 ≤ 11 * tree_nodes e → ExprLacks e (after ss d)
  node_lacks e ss d n k h j l =
      let whole = rows_append m n k ss d.steps h j.rows in
      let f = whole.few in
      record { type = j.type; lack = whole.lack; few = omega (arith, f, l) }

  no_parts : (e : ExprTree) (d : Derived) → tree_nodes e ≡ 1 → DerivedLacks m 6 d → ExprLacks e d
  no_parts e d one j = let f = j.rows.few in record { type = j.type; lack = j.rows.lack; few = omega (arith, f, one) }

  one_part : (e a : ExprTree) (x d : Derived) → tree_nodes e ≡ tree_nodes a + 1 → ExprLacks a x → DerivedLacks m 6 d → ExprLacks e (after x.steps d)
  one_part e a x d nodes h j = let f = h.few in node_lacks e x.steps d (rows_in x.steps) 6 (own_rows x.steps h.lack) j (omega (arith, f, nodes))

  two_parts : (e a b : ExprTree) (x y d : Derived) → tree_nodes e ≡ tree_nodes a + tree_nodes b + 1 → ExprLacks a x → ExprLacks b y → DerivedLacks m 6 d → ExprLacks e (after (x.steps ++ y.steps) d)
  two_parts e a b x y d nodes h g j =
      let f = h.few in
      let k = g.few in
      node_lacks e (x.steps ++ y.steps) d (rows_in x.steps + rows_in y.steps) 6
      (rows_append m (rows_in x.steps) (rows_in y.steps) x.steps y.steps (own_rows x.steps h.lack) (own_rows y.steps g.lack)) j (omega (arith, f, k, nodes))

  three_parts : (e c a b : ExprTree) (z x y d : Derived) → tree_nodes e ≡ tree_nodes c + tree_nodes a + tree_nodes b + 1 → ExprLacks c z → ExprLacks a x → ExprLacks b y → DerivedLacks m 6 d → ExprLacks e (after (z.steps ++ (x.steps ++ y.steps)) d)
  three_parts e c a b z x y d nodes o h g j =
      let f = h.few in
      let k = g.few in
      let l = o.few in
      node_lacks e (z.steps ++ (x.steps ++ y.steps)) d (rows_in z.steps + (rows_in x.steps + rows_in y.steps)) 6
      (rows_append m (rows_in z.steps) (rows_in x.steps + rows_in y.steps) z.steps (x.steps ++ y.steps) (own_rows z.steps o.lack)
      (rows_append m (rows_in x.steps) (rows_in y.steps) x.steps y.steps (own_rows x.steps h.lack) (own_rows y.steps g.lack)))
      j (omega (arith, f, k, l, nodes))

  all_parts : (e : ExprTree) (es : ExprTrees) (ds : AllDerived) (d : Derived) → tree_nodes e ≡ all_tree_nodes es + 1 → ExprsLack es ds → DerivedLacks m (5 * length ds.types + 1) d → ExprLacks e (after ds.steps d)
  all_parts e es ds d nodes h j =
      let f = h.few in
      node_lacks e ds.steps d (rows_in ds.steps) (5 * length ds.types + 1) (own_rows ds.steps h.lack) j (omega (arith, f, nodes))

  no_exprs : ExprsLack none (record { types = []; steps = [] })
  no_exprs = record { types = tt; lack = tt; few = omega arith }

  more_exprs : (e : ExprTree) (es : ExprTrees) (x : Derived) (ds : AllDerived) → ExprLacks e x → ExprsLack es ds → ExprsLack (more e es) (record { types = x.type ∷ ds.types; steps = x.steps ++ ds.steps })
  more_exprs e es x ds h g =
      let whole = rows_append m (rows_in x.steps) (rows_in ds.steps) x.steps ds.steps (own_rows x.steps h.lack) (own_rows ds.steps g.lack) in
      let l = whole.few in
      let f = h.few in
      let k = g.few in
      record { types = (h.type, g.types); lack = whole.lack; few = omega (arith, l, f, k) }

  -- what a call may go to
  abbrev pub CalleeLacks : Callee → Type 0
  CalleeLacks (known_by s) = SignatureLacks m s.signature
  CalleeLacks itself = Unit {0}
  CalleeLacks nobody = Unit {0}

  -- ---- equations: at most eleven rows a node of the body
  pub record EquationsLack (f : FunctionTree) (e : Equations) : Type 0 where
    pub params : TypesLack m e.params
    pub result : TypeLacks m e.result
    pub lack : StepsLack m e.steps
    pub few : length (rows_of e.steps) ≤ 11 * tree_nodes f.body

-- ---- over units that lack an undeclared base unit
module _ (m : ℕ) (holes names : ℕ → PowerMap) (open_lack : (k : ℕ) → Lacks m (holes k)) (named_lack : (k : ℕ) → Lacks m (names k)) (p : ProgramTree) (formed_program : IsFormed p) (undeclared : length p.bases ≤ m) where
  -- ---- notes
  unit_lacks : (n vars : ℕ) (note : UnitNote) → IsNoteIn (length p.bases) vars note → Lacks m (noted_unit holes names n note)
  unit_lacks n vars Hole w = open_lack n
  unit_lacks n vars (Written u) w = replace_lacks m names named_lack u (below_lacks m (length p.bases) undeclared u w.0)

  units_lack : (n vars : ℕ) (notes : List UnitNote) → All (IsNoteIn (length p.bases) vars) notes → All (Lacks m) (noted_units holes names n notes)
  units_lack n vars [] w = All-nil (Lacks m)
  units_lack n vars (note ∷ notes) w =
      let k = n + unit_holes note in
      All-cons (Lacks m) (noted_unit holes names n note) (noted_units holes names k notes)
      (unit_lacks n vars note (All-head (IsNoteIn (length p.bases) vars) note notes w))
      (units_lack k vars notes (All-tail (IsNoteIn (length p.bases) vars) note notes w))

  length-noted : (n : ℕ) (notes : List UnitNote) → length (noted_units holes names n notes) ≡ length notes
  length-noted n [] = refl
  length-noted n (note ∷ notes) = ap suc (length-noted (n + unit_holes note) notes)

  note_lacks : (n vars : ℕ) (note : NoteTree) → IsNoteTreeIn (length p.bases) vars p.records note → TypeLacks m (noted_type holes names n note)
  note_lacks n vars bool_note w = tt
  note_lacks n vars (num_note note) w = unit_lacks n vars note w
  note_lacks n vars (list_note note) w = note_lacks n vars note w
  note_lacks n vars (record_note r notes) w =
      let few = (formed_program.records r w.0.0 w.0.1).few_units in
      let is = w.0.2 in
      let long = length-noted n notes in
      (units_lack n vars notes w.1, omega (arith, few, is, long))

  notes_lack : (f : FunctionTree) (n : ℕ) (notes : List NoteTree) → All (IsFormedNote p f) notes → TypesLack m (noted_types holes names n notes)
  notes_lack f n [] w = tt
  notes_lack f n (note ∷ notes) w =
      (note_lacks n f.named note (All-head (IsFormedNote p f) note notes w).0, notes_lack f (n + note_holes note) notes (All-tail (IsFormedNote p f) note notes w))

  literal_lacks : (n : ℕ) (c : Frac) (note : UnitNote) → IsLiteral (length p.bases) c note → Lacks m (noted_unit holes names n note)
  literal_lacks n c Hole w = open_lack n
  literal_lacks n c (Written u) w = replace_lacks m names named_lack u (below_lacks m (length p.bases) undeclared u w.1)

  -- ---- records
  field_type_lacks : (vars : ℕ) (t : TypeTree) → IsTypeIn (length p.bases) vars p.records t → TypeLacks m t
  field_type_lacks vars bool_type w = tt
  field_type_lacks vars (num_type u) w = below_lacks m (length p.bases) undeclared u w.0
  field_type_lacks vars (list_type t) w = field_type_lacks vars t w
  field_type_lacks vars (record_type r us) w =
      let few = (formed_program.records r w.0.0 w.0.1).few_units in
      let is = w.0.2 in
      ((λ k d low. below_lacks m (length p.bases) undeclared (get_or us k d) (w.1 k d low).0), omega (arith, few, is))

  field_types_lack : (r units : ℕ) (fs : List FieldTree) → All (λ (f : FieldTree). IsFieldType p r units f.type) fs → TypesLack m (map (λ (f : FieldTree). f.type) fs)
  field_types_lack r units [] w = tt
  field_types_lack r units (f ∷ fs) w =
      (field_type_lacks units f.type (All-head (λ (f : FieldTree). IsFieldType p r units f.type) f fs w).0, field_types_lack r units fs (All-tail (λ (f : FieldTree). IsFieldType p r units f.type) f fs w))

  fields_lack : (r : ℕ) → FieldsLack m (slice_get p.records r)
  fields_lack r = at (slice_get p.records r) refl
    where
      at : (o : Option RecordTree) → slice_get p.records r ≡ o → FieldsLack m o
      at None e = tt
      at (Some d) e = let w = formed_program.records r d e in (field_types_lack r d.units d.fields w.fields, w.few_units)

  record_few : (o : Option RecordTree) → FieldsLack m o → record_holes o ≤ 4
  record_few None h = omega arith
  record_few (Some d) h = h.1

  all_first : (n : ℕ) (s : ℕ → PowerMap) → ((k : ℕ) → Lacks m (s k)) → All (Lacks m) (first_units n s)
  all_first zero s each = All-nil (Lacks m)
  all_first (suc n) s each = All-cons (Lacks m) (s 0) (first_units n (λ k. s (suc k))) (each 0) (all_first n (λ k. s (suc k)) (λ k. each (suc k)))

  -- ---- expressions of function i
  module _ (i : ℕ) (f : FunctionTree) (self : Signature) (self_lacks : SignatureLacks m self) (callee : ℕ → Callee) (callees_lack : (j : ℕ) → CalleeLacks m (callee j)) where
    offer_lacks : (n : ℕ) (c : Callee) → CalleeLacks m c → OfferLacks m (offered holes names p.records self callee n c)
    offer_lacks n (known_by s) h =
        (types_put_lack m (λ k. holes (n + k)) (λ k. open_lack (n + k)) s.signature.params h.0, put_lacks m (λ k. holes (n + k)) (λ k. open_lack (n + k)) s.signature.result h.1)
    offer_lacks n itself h = self_lacks
    offer_lacks n nobody h = tt

    abbrev at_number : ℕ → List TypeTree → ExprTree → Derived
    at_number n vars e = derive holes names p.records self callee n vars e

    abbrev all_at_number : ℕ → List TypeTree → ExprTrees → AllDerived
    all_at_number n vars es = derive_all holes names p.records self callee n vars es

    abbrev behind : ℕ → ExprTree → ℕ
    behind n e = n + expr_holes p.records callee e

    mutual
      pub derived_lacks : (n scope : ℕ) (vars : List TypeTree) (e : ExprTree) → TypesLack m vars → IsFormedIn p i f scope e → ExprLacks m e (at_number n vars e)
      derived_lacks n scope vars (truth at b) h w = no_parts m (truth at b) (formed at [] bool_type) refl (formed_lacks m 0 6 at [] bool_type (omega arith) (no_rows m) tt)
      derived_lacks n scope vars (number at c note) h w =
          no_parts m (number at c note) (number_rule at c note (noted_unit holes names n note)) refl (number_lacks m at c note (noted_unit holes names n note) (literal_lacks n c note w))
      derived_lacks n scope vars (local at j) h w = no_parts m (local at j) (local_rule at (slice_get vars j)) refl (local_lacks m at j vars h)
      derived_lacks n scope vars (call at j es) h w =
          let ds = all_at_number (n + callee_holes (callee j)) vars es in
          let v = all_derived_lack (n + callee_holes (callee j)) scope vars es h w.1 in
          let g = offered holes names p.records self callee n (callee j) in
          all_parts m (call at j es) es ds (call_rule at g ds.types) refl v (call_lacks m at g ds.types (offer_lacks n (callee j) (callees_lack j)) v.types)
      derived_lacks n scope vars (negate at a) h w =
          let x = at_number n vars a in
          let v = derived_lacks n scope vars a h w in
          one_part m (negate at a) a x (negate_rule at x.type) refl v (negate_lacks m at x.type v.type)
      derived_lacks n scope vars (not_expr at a) h w =
          let x = at_number n vars a in
          one_part m (not_expr at a) a x (not_rule at x.type) refl (derived_lacks n scope vars a h w) (not_lacks m at x.type)
      derived_lacks n scope vars (pown at a i) h w =
          let x = at_number n vars a in
          let v = derived_lacks n scope vars a h w in
          one_part m (pown at a i) a x (pown_rule at i x.type) refl v (pown_lacks m at i x.type v.type)
      derived_lacks n scope vars (arith_tree at op a b) h w =
          let x = at_number n vars a in
          let y = at_number (behind n a) vars b in
          let v = derived_lacks n scope vars a h w.0 in
          let q = derived_lacks (behind n a) scope vars b h w.1 in
          two_parts m (arith_tree at op a b) a b x y (arith_rule at op x.type y.type) refl v q (arith_lacks m at op x.type y.type v.type q.type)
      derived_lacks n scope vars (compare at sign a b) h w =
          let x = at_number n vars a in
          let y = at_number (behind n a) vars b in
          let v = derived_lacks n scope vars a h w.0 in
          let q = derived_lacks (behind n a) scope vars b h w.1 in
          two_parts m (compare at sign a b) a b x y (compare_rule at x.type y.type) refl v q (compare_lacks m at x.type y.type v.type q.type)
      derived_lacks n scope vars (both at a b) h w =
          let x = at_number n vars a in
          let y = at_number (behind n a) vars b in
          two_parts m (both at a b) a b x y (truths_rule at x.type y.type) refl (derived_lacks n scope vars a h w.0) (derived_lacks (behind n a) scope vars b h w.1) (truths_lack m at x.type y.type)
      derived_lacks n scope vars (either at a b) h w =
          let x = at_number n vars a in
          let y = at_number (behind n a) vars b in
          two_parts m (either at a b) a b x y (truths_rule at x.type y.type) refl (derived_lacks n scope vars a h w.0) (derived_lacks (behind n a) scope vars b h w.1) (truths_lack m at x.type y.type)
      derived_lacks n scope vars (if at c a b) h w =
          let z = at_number n vars c in
          let x = at_number (behind n c) vars a in
          let y = at_number (behind (behind n c) a) vars b in
          let v = derived_lacks (behind n c) scope vars a h w.1 in
          let q = derived_lacks (behind (behind n c) a) scope vars b h w.2 in
          three_parts m (if at c a b) c a b z x y (if_rule at z.type x.type y.type) refl (derived_lacks n scope vars c h w.0) v q (if_lacks m at z.type x.type y.type v.type q.type)
      derived_lacks n scope vars (bind at a b) h w =
          let x = at_number n vars a in
          let v = derived_lacks n scope vars a h w.0 in
          let y = at_number (behind n a) (vars ++ x.type ∷ []) b in
          let q = derived_lacks (behind n a) (scope + 1) (vars ++ x.type ∷ []) b (types_lack-append m vars (x.type ∷ []) h (v.type, tt)) w.1 in
          two_parts m (bind at a b) a b x y (formed at [] y.type) refl v q (formed_lacks m 0 6 at [] y.type (omega arith) (no_rows m) q.type)
      derived_lacks n scope vars (split at l a b) h w =
          let z = at_number n vars l in
          let o = derived_lacks n scope vars l h w.0 in
          let x = at_number (behind n l) vars a in
          let v = derived_lacks (behind n l) scope vars a h w.1 in
          let inner = vars ++ item z.type ∷ z.type ∷ [] in
          let y = at_number (behind (behind n l) a) inner b in
          let q = derived_lacks (behind (behind n l) a) (scope + 2) inner b (types_lack-append m vars (item z.type ∷ z.type ∷ []) h (list_item_lacks m z.type o.type, (o.type, tt))) w.2 in
          three_parts m (split at l a b) l a b z x y (split_rule at z.type x.type y.type) refl o v q (split_lacks m at z.type x.type y.type v.type q.type)
      derived_lacks n scope vars (nil at note) h w =
          no_parts m (nil at note) (nil_rule at (noted_type holes names n note)) refl (nil_lacks m at (noted_type holes names n note) (note_lacks n f.named note w.0))
      derived_lacks n scope vars (list_expr at es) h w =
          let ds = all_at_number n vars es in
          let v = all_derived_lack n scope vars es h w.1 in
          all_parts m (list_expr at es) es ds (list_rule at ds.types) refl v (list_lacks m at ds.types v.types)
      derived_lacks n scope vars (cons at a b) h w =
          let x = at_number n vars a in
          let y = at_number (behind n a) vars b in
          let v = derived_lacks n scope vars a h w.0 in
          let q = derived_lacks (behind n a) scope vars b h w.1 in
          two_parts m (cons at a b) a b x y (cons_rule at x.type y.type) refl v q (cons_lacks m at x.type y.type v.type q.type)
      derived_lacks n scope vars (record_expr at r es) h w =
          let k = record_holes (slice_get p.records r) in
          let us = first_units k (λ j. holes (n + j)) in
          let few = record_few (slice_get p.records r) (fields_lack r) in
          let long = length-first k (λ j. holes (n + j)) in
          let ds = all_at_number (n + k) vars es in
          let q = all_derived_lack (n + k) scope vars es h w.1 in
          all_parts m (record_expr at r es) es ds (record_rule at r us (slice_get p.records r) ds.types) refl q
          (record_lacks m at r us (slice_get p.records r) ds.types (all_first k (λ j. holes (n + j)) (λ j. open_lack (n + j))) (omega (arith, few, long)) (fields_lack r) q.types)
      derived_lacks n scope vars (field at r j a) h w =
          let x = at_number n vars a in
          let q = derived_lacks n scope vars a h w.1 in
          one_part m (field at r j a) a x (field_rule at r j (slice_get p.records r) x.type) refl q (field_lacks m at r j (slice_get p.records r) x.type q.type (fields_lack r))

      all_derived_lack : (n scope : ℕ) (vars : List TypeTree) (es : ExprTrees) → TypesLack m vars → AllFormedIn p i f scope es → ExprsLack m es (all_at_number n vars es)
      all_derived_lack n scope vars none h w = no_exprs m
      all_derived_lack n scope vars (more e es) h w =
          let x = at_number n vars e in
          let ds = all_at_number (behind n e) vars es in
          more_exprs m e es x ds (derived_lacks n scope vars e h w.0) (all_derived_lack (behind n e) scope vars es h w.1)

  -- ---- functions
  result_lacks : (f : FunctionTree) (n : ℕ) (r : Option NoteTree) → ResultFormed p f r → TypeLacks m (noted_result holes names n r)
  result_lacks f n None w = tt
  result_lacks f n (Some note) w = note_lacks n f.named note w.0

  result_rows_lack : (f : FunctionTree) (at : ℕ) (t : TypeTree) (n : ℕ) (r : Option NoteTree) → TypeLacks m t → ResultFormed p f r → RowsLack m 5 (result_rows holes names at t n r)
  result_rows_lack f at t n None h w = rows_more m 0 5 [] (omega arith) (no_rows m)
  result_rows_lack f at t n (Some note) h w = against_lacks m at t (noted_type holes names n note) h (note_lacks n f.named note w.0)

  types_at_lack : (at : ℕ) (ts : List TypeTree) → RowsLack m 0 (types_at at ts)
  types_at_lack at [] = no_rows m
  types_at_lack at (t ∷ ts) = let rest = types_at_lack at ts in record { lack = rest.lack; few = rest.few }

  pub equations_lack : (schemes : List SchemeTree) (i : ℕ) (f : FunctionTree) → IsFormedFunction p i f → ((j : ℕ) → CalleeLacks m (callee schemes i f j)) → EquationsLack m f (equations holes names p.records schemes i f)
  equations_lack schemes i f w callees =
      let n = notes_holes f.params in
      let params = noted_types holes names 0 f.params in
      let ps = notes_lack f 0 f.params w.params in
      let r = result_lacks f n f.result w.result in
      let self = own_signature holes names f in
      let body = derive holes names p.records self (callee schemes i f) (head_holes f) params f.body in
      let b = derived_lacks i f self (ps, r) (callee schemes i f) callees (head_holes f) (length f.params) params f.body ps w.body in
      let last = result_rows holes names f.at body.type n f.result in
      let k = length (rows_of body.steps) in
      let tail = rows_append m k 5 body.steps last (own_rows m body.steps b.lack) (result_rows_lack f f.at body.type n f.result b.type w.result) in
      let whole = rows_append m 0 (k + 5) (head_steps holes names f) (body.steps ++ last) (types_at_lack f.at (params ++ noted_result holes names n f.result ∷ [])) tail in
      let few = whole.few in
      let nodes = b.few in
      record { params = ps; result = b.type; lack = whole.lack; few = omega (arith, few, nodes) }
