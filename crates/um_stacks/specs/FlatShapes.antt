-- The shapes that the code keeps: so many lists round an item. This mirrors the code; the shapes that they stand for
-- are those of the rules.
-- Source: this project's own.
use Rattle.std.specs.Prelude.{ℕ, zero, suc, Bool as Truth, true, nat_lt, List, map}
use Rattle.um_verify.specs.StackShape.{StackShape, void, bool, num, list, made}
use Rattle.um_stacks.specs.declared.flat.Item.{Item}
use Rattle.um_stacks.specs.declared.flat.Item.TheVariants.{Void, Bool, Num, Record}
use Rattle.um_stacks.specs.declared.flat.FlatShape.{FlatShape}

abbrev pub item_shape : Item → StackShape
item_shape Void = void
item_shape Bool = bool
item_shape Num = num
item_shape (Record r) = made r

abbrev pub in_lists : ℕ → StackShape → StackShape
in_lists zero s = s
in_lists (suc n) s = list (in_lists n s)

-- the shape that it stands for
abbrev pub flat_shape : FlatShape → StackShape
flat_shape f = in_lists f.lists (item_shape f.item)

abbrev pub flat_shapes : List FlatShape → List StackShape
flat_shapes fs = map flat_shape fs

-- the record that it names, if it names one, is below n
abbrev pub names_below : ℕ → StackShape → Truth
names_below n void = true
names_below n bool = true
names_below n num = true
names_below n (list s) = names_below n s
names_below n (made r) = nat_lt r n
