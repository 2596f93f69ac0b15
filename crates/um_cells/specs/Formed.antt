-- When cells are well formed: each names only cells before it, of the kind that it says.
-- Source: this project's own.
use Rattle.std.specs.Prelude.{◌≡◌, ℕ, zero, suc, ◌+◌, List, length, Option, Some, None, Bool, true, false, ◌&&◌, nat_lt}
use Rattle.std.specs.Prelude.{slice_get, IsTrue}
use Rattle.um_cells.specs.declared.word.Word.{Word}
use Rattle.um_cells.specs.declared.word.Word.TheVariants.{Bool as Truth, Num as Number, Nil}
use Rattle.um_cells.specs.declared.word.Word.TheVariants.{List as ListAt, Rec as RecordAt}
use Rattle.um_cells.specs.declared.cell.Cell.{Cell}
use Rattle.um_cells.specs.declared.cell.Cell.TheVariants.{Item, Record, Part}
use Rattle.um_cells.specs.Denotes.{list_from}

abbrev pub is_item : Option Cell → Bool
is_item None = false
is_item (Some (Item w next)) = true
is_item (Some (Record k)) = false
is_item (Some (Part w)) = false

abbrev pub is_record : Option Cell → Bool
is_record None = false
is_record (Some (Item w next)) = false
is_record (Some (Record k)) = true
is_record (Some (Part w)) = false

abbrev pub is_part : Option Cell → Bool
is_part None = false
is_part (Some (Item w next)) = false
is_part (Some (Record k)) = false
is_part (Some (Part w)) = true

-- whether the cell that a word names is one of the first n, and of the word's kind
abbrev pub names_among : List Cell → ℕ → Word → Bool
names_among s n (Truth b) = true
names_among s n (Number c) = true
names_among s n Nil = true
names_among s n (ListAt m) = nat_lt m n && is_item (slice_get s m)
names_among s n (RecordAt r m) = nat_lt m n && is_record (slice_get s m)

abbrev pub part_formed : List Cell → ℕ → Option Cell → Bool
part_formed s n None = false
part_formed s n (Some (Item w next)) = false
part_formed s n (Some (Record k)) = false
part_formed s n (Some (Part w)) = names_among s n w

-- whether the k cells from this one on are parts that name cells among the first n
abbrev pub parts_formed : List Cell → ℕ → ℕ → ℕ → Bool
parts_formed s n at zero = true
parts_formed s n at (suc k) = part_formed s n (slice_get s at) && parts_formed s n (at + 1) k

-- of the cell of number n; a part is looked at with the first cell of its record
abbrev pub cell_formed : List Cell → ℕ → Cell → Bool
cell_formed s n (Item w next) = names_among s n w && names_among s n (list_from next)
cell_formed s n (Record k) = parts_formed s n (n + 1) k
cell_formed s n (Part w) = true

abbrev pub Formed : List Cell → Type 0
Formed s = (n : ℕ) (c : Cell) → slice_get s n ≡ Some c → IsTrue (cell_formed s n c)

-- whether the word denotes a value
abbrev pub holds : List Cell → Word → Bool
holds s w = names_among s (length s) w
