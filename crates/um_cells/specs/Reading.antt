-- What is read of a word and of a cell.
-- Source: this project's own.
use Rattle.std.specs.Prelude.{ℕ, Option, Some, None}
use Rattle.um_cells.specs.declared.word.Word.{Word}
use Rattle.um_cells.specs.declared.word.Word.TheVariants.{Bool as Truth, Num as Number, Nil}
use Rattle.um_cells.specs.declared.word.Word.TheVariants.{List as ListAt, Rec as RecordAt}
use Rattle.um_cells.specs.declared.cell.Cell.{Cell}
use Rattle.um_cells.specs.declared.cell.Cell.TheVariants.{Item, Record, Part}

-- if the word is a list: the cell of its first item, if it has one
abbrev pub first_cell : Word → Option (Option ℕ)
first_cell (Truth b) = None
first_cell (Number c) = None
first_cell Nil = Some None
first_cell (ListAt n) = Some (Some n)
first_cell (RecordAt r n) = None

-- the number of parts that the first cell of a record counts
abbrev pub part_count : Option Cell → Option ℕ
part_count None = None
part_count (Some (Item w next)) = None
part_count (Some (Record k)) = Some k
part_count (Some (Part w)) = None

-- the word of a part
abbrev pub part_word : Option Cell → Option Word
part_word None = None
part_word (Some (Item w next)) = None
part_word (Some (Record k)) = None
part_word (Some (Part w)) = Some w
