-- The test of shapes decides their equality, and on flat shapes it compares lists and items.
use Rattle.std.proofs.Common.{◌≡◌, refl, sym, ap, ◌∙◌, ℕ, zero, suc, ◌+◌, Bool, true, false, ◌&&◌, nat_eq, List, [], ◌∷◌, length, arith}
use Rattle.std.specs.List.{list_all}
use Rattle.std.proofs.lemmas.Bool.Decides.{nat_tests}
use Rattle.um_tree.specs.TypeTree.{ShapeTree, bool_shape, num_shape, list_shape, record_shape}
use Rattle.um_shape.specs.declared.flat.Item.{Item}
use Rattle.um_shape.specs.declared.flat.FlatShape.{FlatShape}
use Rattle.um_shape.specs.declared.flat.Item.TheVariants as item
use Rattle.um_shape.specs.RecordShapes.{RecordShape, shape_height}
use Rattle.um_shape.specs.FirstFault.{same_shape, same_shapes, all_same}
use Rattle.um_shape.specs.FlatShapes.{item_shape, in_lists, flat_shape, flat_shapes}

and_false : (b : Bool) → (b && false) ≡ false
and_false true = refl
and_false false = refl

pub same_shape-refl : (s : ShapeTree) → same_shape s s ≡ true
same_shape-refl bool_shape = refl
same_shape-refl num_shape = refl
same_shape-refl (list_shape s) = same_shape-refl s
same_shape-refl (record_shape r) = grind (arith, nat_tests)

pub same_shape-is : (s t : ShapeTree) → same_shape s t ≡ true → s ≡ t
same_shape-is bool_shape bool_shape e = refl
same_shape-is num_shape num_shape e = refl
same_shape-is (list_shape s) (list_shape t) e = ap list_shape (same_shape-is s t e)
same_shape-is (record_shape r) (record_shape q) e = ap record_shape (grind (arith, nat_tests))
same_shape-is s t e = absurd cc

-- items in equally many lists
pub same_in_lists : (n : ℕ) (s t : ShapeTree) → same_shape (in_lists n s) (in_lists n t) ≡ same_shape s t
same_in_lists zero s t = refl
same_in_lists (suc n) s t = same_in_lists n s t

pub same_flat : (m n : ℕ) (s t : ShapeTree) → m ≡ n → same_shape (in_lists m s) (in_lists n t) ≡ same_shape s t
same_flat m n s t e = ap (λ k. same_shape (in_lists m s) (in_lists k t)) (sym e) ∙ same_in_lists m s t

-- an item is no list
item_is_no_list : (a : Item) (s : ShapeTree) → same_shape (item_shape a) (list_shape s) ≡ false
item_is_no_list item.Bool s = refl
item_is_no_list item.Num s = refl
item_is_no_list (item.Rec r) s = refl

list_is_no_item : (a : Item) (s : ShapeTree) → same_shape (list_shape s) (item_shape a) ≡ false
list_is_no_item item.Bool s = refl
list_is_no_item item.Num s = refl
list_is_no_item (item.Rec r) s = refl

pub other_lists : (m n : ℕ) (a b : Item) → nat_eq m n ≡ false → same_shape (in_lists m (item_shape a)) (in_lists n (item_shape b)) ≡ false
other_lists zero zero a b e = absurd cc
other_lists zero (suc n) a b e = item_is_no_list a _
other_lists (suc m) zero a b e = list_is_no_item b _
other_lists (suc m) (suc n) a b e = other_lists m n a b (grind (arith, nat_tests))

-- a list of the items of equally many lists and one more
pub same_tail : (m n : ℕ) (s t : ShapeTree) → m ≡ n + 1 → same_shape (in_lists m s) (list_shape (in_lists n t)) ≡ same_shape s t
same_tail m n s t e = same_flat m (suc n) s t (omega (arith, e))

pub other_tail : (m n : ℕ) (a b : Item) → (m ≡ n + 1 → ⊥) → same_shape (in_lists m (item_shape a)) (list_shape (in_lists n (item_shape b))) ≡ false
other_tail m n a b e = other_lists m (suc n) a b (grind (arith, nat_tests))

-- the height of a shape in lists
pub height_in_lists : (records : List RecordShape) (n : ℕ) (s : ShapeTree) → shape_height records (in_lists n s) ≡ n + shape_height records s
height_in_lists records zero s = omega arith
height_in_lists records (suc n) s = let e = height_in_lists records n s in omega (arith, e)

pub all_same-is : (s : ShapeTree) (fs : List FlatShape) → list_all (λ f. same_shape (flat_shape f) s) fs ≡ all_same s (flat_shapes fs)
all_same-is s [] = refl
all_same-is s (f ∷ fs) = ap (λ b. same_shape (flat_shape f) s && b) (all_same-is s fs)

-- lists of shapes that differ in their lengths
pub other_lengths : (ss ts : List ShapeTree) → (length ss ≡ length ts → ⊥) → same_shapes ss ts ≡ false
other_lengths [] [] h = absurd (h refl)
other_lengths [] (t ∷ ts) h = refl
other_lengths (s ∷ ss) [] h = refl
other_lengths (s ∷ ss) (t ∷ ts) h = ap (λ b. same_shape s t && b) (other_lengths ss ts (λ e. h (ap suc e))) ∙ and_false (same_shape s t)
