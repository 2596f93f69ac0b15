-- Tests joined by and, and what a test on a cell says of it.
use Rattle.std.proofs.Common.{rules, ◌≡◌, refl, ℕ, ◌<◌, List, Option, Some, None}
use Rattle.std.specs.Prelude.{Bool, true, false, ◌&&◌, nat_lt, IsTrue}
use Rattle.um_cells.specs.declared.word.Word.{Word}
use Rattle.um_cells.specs.declared.cell.Cell.{Cell}
use Rattle.um_cells.specs.declared.cell.Cell.TheVariants.{Item, Record, Part}
use Rattle.um_cells.specs.Formed.{is_item, is_record, names_among, part_formed}

pub both_true : (a b : Bool) → IsTrue (a && b) → IsTrue a × IsTrue b
both_true true true h = (h, h)
both_true true false h = absurd (search rules)
both_true false b h = absurd (search rules)

pub and_true : (a b : Bool) → IsTrue a → IsTrue b → IsTrue (a && b)
and_true true b h k = k
and_true false b h k = absurd (search rules)

pub less_from_test : (m n : ℕ) → IsTrue (nat_lt m n) → m < n
less_from_test m n h = search rules

pub test_from_less : (m n : ℕ) → m < n → IsTrue (nat_lt m n)
test_from_less m n h = search rules

not_true : IsTrue false → ⊥
not_true h = search rules

pub item_there : (o : Option Cell) → IsTrue (is_item o) → (w : Word) × (next : Option ℕ) × (o ≡ Some (Item w next))
item_there None h = absurd (not_true h)
item_there (Some (Item w next)) h = (w, next, refl)
item_there (Some (Record k)) h = absurd (not_true h)
item_there (Some (Part w)) h = absurd (not_true h)

pub record_there : (o : Option Cell) → IsTrue (is_record o) → (k : ℕ) × (o ≡ Some (Record k))
record_there None h = absurd (not_true h)
record_there (Some (Item w next)) h = absurd (not_true h)
record_there (Some (Record k)) h = (k, refl)
record_there (Some (Part w)) h = absurd (not_true h)

pub part_there : (s : List Cell) (n : ℕ) (o : Option Cell) → IsTrue (part_formed s n o) → (w : Word) × (o ≡ Some (Part w)) × IsTrue (names_among s n w)
part_there s n None h = absurd (not_true h)
part_there s n (Some (Item w next)) h = absurd (not_true h)
part_there s n (Some (Record k)) h = absurd (not_true h)
part_there s n (Some (Part w)) h = (w, refl, h)
