-- The shapes of an expression's parts, where one is found of it.
use Rattle.std.proofs.Common.{◌≡◌, refl, ℕ, Bool, true, false, cond, List, [], ◌∷◌, Option, Some, None, slice_get}
use Rattle.um_tree.specs.TypeTree.{ShapeTree, bool_shape, num_shape, list_shape, record_shape}
use Rattle.um_tree.specs.Shapes.{ShapeSignature, EachShapeIs}
use Rattle.um_shape.specs.RecordShapes.{RecordShape}
use Rattle.um_shape.specs.FirstFault.{same_shape, same_shapes, all_same, of_list, of_items, of_call, of_record, of_field}
use Rattle.um_shape.proofs.SameShape.{same_shape-is}
use Rattle.um_shape.proofs.Sound.{where_true_is, same_shapes-is, all_same-each}

pub list_found : (s t : ShapeTree) → of_list s ≡ Some t → (u : ShapeTree) × (t ≡ list_shape u)
list_found (list_shape u) t e = (u, cc)
list_found bool_shape t e = absurd cc
list_found num_shape t e = absurd cc
list_found (record_shape r) t e = absurd cc

pub items_found : (ss : List ShapeTree) (s : ShapeTree) → of_items ss ≡ Some s → (t : ShapeTree) × (rest : List ShapeTree) × (ss ≡ t ∷ rest) × EachShapeIs t rest × (list_shape t ≡ s)
items_found [] s e = absurd cc
items_found (t ∷ ts) s e = let h = where_true_is (all_same t ts) (list_shape t) s e in (t, ts, refl, all_same-each t ts h.0, h.1)

pub call_found : (o : Option ShapeSignature) (ss : List ShapeTree) (s : ShapeTree) → of_call o ss ≡ Some s → (g : ShapeSignature) × (o ≡ Some g) × (ss ≡ g.params) × (g.result ≡ s)
call_found None ss s e = absurd cc
call_found (Some g) ss s e = let h = where_true_is (same_shapes ss g.params) g.result s e in (g, refl, same_shapes-is ss g.params h.0, h.1)

pub record_found : (o : Option RecordShape) (r : ℕ) (ss : List ShapeTree) (s : ShapeTree) → of_record o r ss ≡ Some s → (d : RecordShape) × (o ≡ Some d) × (ss ≡ d.fields) × (record_shape r ≡ s)
record_found None r ss s e = absurd cc
record_found (Some d) r ss s e = let h = where_true_is (same_shapes ss d.fields) (record_shape r) s e in (d, refl, same_shapes-is ss d.fields h.0, h.1)

pub field_found : (o : Option RecordShape) (r k : ℕ) (s t : ShapeTree) → of_field o r k s ≡ Some t → (d : RecordShape) × (o ≡ Some d) × (s ≡ record_shape r) × (slice_get d.fields k ≡ Some t)
field_found None r k s t e = absurd cc
field_found (Some d) r k s t e = by_test (same_shape s (record_shape r)) refl e where
  by_test : (b : Bool) → same_shape s (record_shape r) ≡ b → cond b (slice_get d.fields k) None ≡ Some t → (x : RecordShape) × (Some d ≡ Some x) × (s ≡ record_shape r) × (slice_get x.fields k ≡ Some t)
  by_test true h e = (d, refl, same_shape-is s (record_shape r) h, e)
  by_test false h e = absurd cc
