-- The test of shapes compares lists and items of flat shapes.
use Rattle.std.proofs.Common.{◌≡◌, refl, sym, ap, ◌∙◌, ℕ, zero, suc, false, nat_eq, arith}
use Rattle.std.proofs.lemmas.Bool.Decides.{nat_tests}
use Rattle.um_tree.specs.TypeTree.{ShapeTree, list_shape}
use Rattle.um_shape.specs.FirstFault.{same_shape}
use Rattle.um_shape.specs.FlatShapes.{in_lists}
use Rattle.um_mismatch.specs.declared.flat.Item.{Item}
use Rattle.um_mismatch.specs.declared.flat.Item.TheVariants as item
use Rattle.um_mismatch.specs.FlatShapes.{item_shape}

-- items in equally many lists
same_in_lists : (n : ℕ) (s t : ShapeTree) → same_shape (in_lists n s) (in_lists n t) ≡ same_shape s t
same_in_lists zero s t = refl
same_in_lists (suc n) s t = same_in_lists n s t

pub same_flat : (m n : ℕ) (s t : ShapeTree) → m ≡ n → same_shape (in_lists m s) (in_lists n t) ≡ same_shape s t
same_flat m n s t e = ap (λ k. same_shape (in_lists m s) (in_lists k t)) (sym e) ∙ same_in_lists m s t

-- an item is no list
item_is_no_list : (a : Item) (s : ShapeTree) → same_shape (item_shape a) (list_shape s) ≡ false
item_is_no_list item.Bool s = refl
item_is_no_list item.Num s = refl
item_is_no_list (item.Rec r) s = refl

list_is_no_item : (a : Item) (s : ShapeTree) → same_shape (list_shape s) (item_shape a) ≡ false
list_is_no_item item.Bool s = refl
list_is_no_item item.Num s = refl
list_is_no_item (item.Rec r) s = refl

pub other_lists : (m n : ℕ) (a b : Item) → nat_eq m n ≡ false → same_shape (in_lists m (item_shape a)) (in_lists n (item_shape b)) ≡ false
other_lists zero zero a b e = absurd cc
other_lists zero (suc n) a b e = item_is_no_list a _
other_lists (suc m) zero a b e = list_is_no_item b _
other_lists (suc m) (suc n) a b e = other_lists m n a b (grind (arith, nat_tests))
