-- The shape that is found of an expression names records of the program.
use Rattle.std.proofs.Common.{◌≡◌, subst, ap, ◌∙◌, ℕ, ◌+◌, ◌<◌, ◌⊎◌, inl, inr, List, [], ◌∷◌, ◌++◌, length, Some, Ok, slice_get, arith}
use Rattle.std.proofs.lemmas.Option.{slice_get_within}
use Rattle.um_tree.specs.TypeTree.{TypeTree, bool_type, num_type, list_type, record_type, NoteTree, bool_note, num_note, list_note, record_note, ShapeTree, bool_shape, num_shape, list_shape, record_shape}
use Rattle.um_tree.specs.ExprTree.{ExprTree, ExprTrees, truth, number, local, call, negate, not_expr, pown, arith as arith_tree, compare, both, either, if, bind, split, nil, list_expr, cons, record_expr, field, none, more}
use Rattle.um_tree.specs.ProgramTree.{FunctionTree, ProgramTree}
use Rattle.um_tree.specs.Formed.{IsNoteTreeIn, IsTypeIn, IsFormedIn, AllFormedIn}
use Rattle.um_tree.specs.Shapes.{type_shape, note_shape, ShapeSignature}
use Rattle.um_shape.specs.RecordShapes.{RecordShape}
use Rattle.um_shape.specs.FirstFault.{same_shape, of_list, of_items, of_call, of_record, of_field, item_of, found, all_found}
use Rattle.um_shape.proofs.Sound.{then_ok, node_ok, where_true_is, asked}
use Rattle.um_shape.proofs.SoundProgram.{in_either, only_one}
use Rattle.um_verify.specs.Heads.{NamesBelow}
use Rattle.um_image.proofs.NodeShapes.{items_found, call_found, record_found, field_found}

-- the note of an expression or of a function
pub note_names : (p : ProgramTree) (bases vars : ℕ) (n : NoteTree) → IsNoteTreeIn bases vars p.records n → NamesBelow (length p.records) (note_shape n)
note_names p bases vars bool_note h = tt
note_names p bases vars (num_note n) h = tt
note_names p bases vars (list_note n) h = note_names p bases vars n h
note_names p bases vars (record_note r ns) h = slice_get_within p.records r h.0.0 h.0.1

pub type_names : (p : ProgramTree) (bases vars : ℕ) (t : TypeTree) → IsTypeIn bases vars p.records t → NamesBelow (length p.records) (type_shape t)
type_names p bases vars bool_type h = tt
type_names p bases vars (num_type u) h = tt
type_names p bases vars (list_type t) h = type_names p bases vars t h
type_names p bases vars (record_type r us) h = slice_get_within p.records r h.0.0 h.0.1

-- each of these shapes names records below n
abbrev pub AllBelow : ℕ → List ShapeTree → Type 0
AllBelow n ss = (k : ℕ) (s : ShapeTree) → slice_get ss k ≡ Some s → NamesBelow n s

below_more : (n : ℕ) (ss : List ShapeTree) (t : ShapeTree) → AllBelow n ss → NamesBelow n t → AllBelow n (ss ++ t ∷ [])
below_more n ss t h k i s e = which (in_either ss (t ∷ []) i s e) where
  which : ((i < length ss) × (slice_get ss i ≡ Some s)) ⊎ ((m : ℕ) × (i ≡ length ss + m) × (slice_get (t ∷ []) m ≡ Some s)) → NamesBelow n s
  which (inl w) = h i s w.1
  which (inr w) = subst (NamesBelow n) (only_one t w.0 s w.2).1 k

some_is : (s t : ShapeTree) → Some s ≡ Some t → s ≡ t
some_is s t h = cc

module _ (p : ProgramTree) (i : ℕ) (f : FunctionTree) (records : List RecordShape) (same : length records ≡ length p.records) (fields : (r : ℕ) (d : RecordShape) → slice_get records r ≡ Some d → AllBelow (length p.records) d.fields) (callees : List ShapeSignature) (called : (j : ℕ) (g : ShapeSignature) → slice_get callees j ≡ Some g → NamesBelow (length p.records) g.result) where
  abbrev Below : ShapeTree → Type 0
  Below s = NamesBelow (length p.records) s

  below_as : (s t : ShapeTree) → s ≡ t → Below s → Below t
  below_as s t e h = subst Below e h

  mutual
    pub names_found : (x : ExprTree) (n : ℕ) (vars : List ShapeTree) (s : ShapeTree) → IsFormedIn p i f n x → AllBelow (length p.records) vars → found records callees vars x ≡ Ok s → Below s
    names_found (truth at b) n vars s w v e = below_as bool_shape s (some_is bool_shape s (node_ok records at (Some bool_shape) s e)) tt
    names_found (number at c u) n vars s w v e = below_as num_shape s (some_is num_shape s (node_ok records at (Some num_shape) s e)) tt
    names_found (local at k) n vars s w v e = v k s (node_ok records at (slice_get vars k) s e)
    names_found (call at j es) n vars s w v e =
        let h = then_ok (all_found records callees vars es) _ s e in
        let g = call_found (slice_get callees j) h.0 s (node_ok records at (of_call (slice_get callees j) h.0) s h.2) in
        below_as g.0.result s g.3 (called j g.0 g.1)
    names_found (negate at a) n vars s w v e =
        let h = then_ok (found records callees vars a) _ s e in
        below_as num_shape s (where_true_is (same_shape h.0 num_shape) num_shape s (node_ok records at _ s h.2)).1 tt
    names_found (not_expr at a) n vars s w v e =
        let h = then_ok (found records callees vars a) _ s e in
        below_as bool_shape s (where_true_is (same_shape h.0 bool_shape) bool_shape s (node_ok records at _ s h.2)).1 tt
    names_found (pown at a k) n vars s w v e =
        let h = then_ok (found records callees vars a) _ s e in
        below_as num_shape s (where_true_is (same_shape h.0 num_shape) num_shape s (node_ok records at _ s h.2)).1 tt
    names_found (arith_tree at op a b) n vars s w v e =
        let h = then_ok (found records callees vars a) _ s e in
        let k = then_ok (found records callees vars b) _ s h.2 in
        below_as num_shape s (asked (same_shape h.0 num_shape) (same_shape k.0 num_shape) num_shape s (node_ok records at _ s k.2)).2 tt
    names_found (compare at g a b) n vars s w v e =
        let h = then_ok (found records callees vars a) _ s e in
        let k = then_ok (found records callees vars b) _ s h.2 in
        below_as bool_shape s (asked (same_shape h.0 num_shape) (same_shape k.0 num_shape) bool_shape s (node_ok records at _ s k.2)).2 tt
    names_found (both at a b) n vars s w v e =
        let h = then_ok (found records callees vars a) _ s e in
        let k = then_ok (found records callees vars b) _ s h.2 in
        below_as bool_shape s (asked (same_shape h.0 bool_shape) (same_shape k.0 bool_shape) bool_shape s (node_ok records at _ s k.2)).2 tt
    names_found (either at a b) n vars s w v e =
        let h = then_ok (found records callees vars a) _ s e in
        let k = then_ok (found records callees vars b) _ s h.2 in
        below_as bool_shape s (asked (same_shape h.0 bool_shape) (same_shape k.0 bool_shape) bool_shape s (node_ok records at _ s k.2)).2 tt
    names_found (if at c a b) n vars s w v e =
        let h = then_ok (found records callees vars c) _ s e in
        let k = then_ok (found records callees vars a) _ s h.2 in
        let l = then_ok (found records callees vars b) _ s k.2 in
        below_as k.0 s (asked (same_shape h.0 bool_shape) (same_shape l.0 k.0) k.0 s (node_ok records at _ s l.2)).2 (names_found a n vars k.0 w.1 v k.1)
    names_found (bind at a b) n vars s w v e =
        let h = then_ok (found records callees vars a) _ s e in
        let k = then_ok (found records callees (vars ++ h.0 ∷ []) b) _ s h.2 in
        below_as k.0 s (some_is k.0 s (node_ok records at (Some k.0) s k.2)) (names_found b (n + 1) (vars ++ h.0 ∷ []) k.0 w.1 (below_more (length p.records) vars h.0 v (names_found a n vars h.0 w.0 v h.1)) k.1)
    names_found (split at l a b) n vars s w v e =
        let h = then_ok (found records callees vars l) _ s e in
        let g = then_ok (item_of at h.0) _ s h.2 in
        let k = then_ok (found records callees vars a) _ s g.2 in
        let m = then_ok (found records callees (vars ++ g.0 ∷ list_shape g.0 ∷ []) b) _ s k.2 in
        below_as k.0 s (where_true_is (same_shape m.0 k.0) k.0 s (node_ok records at _ s m.2)).1 (names_found a n vars k.0 w.1 v k.1)
    names_found (nil at note) n vars s w v e = listed (note_shape note) s (note_names p (length p.bases) f.named note w.0) (node_ok records at (of_list (note_shape note)) s e)
      where
        listed : (s t : ShapeTree) → Below s → of_list s ≡ Some t → Below t
        listed (list_shape u) t h e = below_as (list_shape u) t (some_is (list_shape u) t e) h
        listed bool_shape t h e = absurd cc
        listed num_shape t h e = absurd cc
        listed (record_shape r) t h e = absurd cc
    names_found (list_expr at es) n vars s w v e =
        let h = then_ok (all_found records callees vars es) _ s e in
        let g = items_found h.0 s (node_ok records at (of_items h.0) s h.2) in
        below_as (list_shape g.0) s g.4 (first_names es n vars g.0 g.1 w.1 v (h.1 ∙ ap Ok g.2))
    names_found (cons at a b) n vars s w v e =
        let h = then_ok (found records callees vars a) _ s e in
        let k = then_ok (found records callees vars b) _ s h.2 in
        below_as k.0 s (where_true_is (same_shape k.0 (list_shape h.0)) k.0 s (node_ok records at _ s k.2)).1 (names_found b n vars k.0 w.1 v k.1)
    names_found (record_expr at r es) n vars s w v e =
        let h = then_ok (all_found records callees vars es) _ s e in
        let g = record_found (slice_get records r) r h.0 s (node_ok records at (of_record (slice_get records r) r h.0) s h.2) in
        let b = slice_get_within records r g.0 g.1 in
        below_as (record_shape r) s g.3 (omega arith)
    names_found (field at r k a) n vars s w v e =
        let h = then_ok (found records callees vars a) _ s e in
        let g = field_found (slice_get records r) r k h.0 s (node_ok records at (of_field (slice_get records r) r k h.0) s h.2) in
        fields r g.0 g.1 k s g.3

    first_names : (es : ExprTrees) (n : ℕ) (vars : List ShapeTree) (t : ShapeTree) (rest : List ShapeTree) → AllFormedIn p i f n es → AllBelow (length p.records) vars → all_found records callees vars es ≡ Ok (t ∷ rest) → Below t
    first_names none n vars t rest w v e = absurd cc
    first_names (more x es) n vars t rest w v e =
        let h = then_ok (found records callees vars x) _ (t ∷ rest) e in
        let k = then_ok (all_found records callees vars es) _ (t ∷ rest) h.2 in
        let last : Ok (h.0 ∷ k.0) ≡ Ok (t ∷ rest) = k.2 in
        let same : h.0 ≡ t = cc in
        below_as h.0 t same (names_found x n vars h.0 w.0 v h.1)
