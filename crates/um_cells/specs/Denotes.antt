-- Which value a word denotes, given some cells.
-- Source: D. Knuth, Fundamental Algorithms, 2.2.3 (linked lists) and 2.3.5 (lists that share their tails).
-- A value is finite, and the definition is a recursion on it: so what a word names can't go round in a circle.
use Rattle.std.specs.Prelude.{◌≡◌, ℕ, suc, ◌+◌, List, [], ◌∷◌, Option, Some, None, slice_get}
use Rattle.um_tree.specs.ValueTree.{ValueTree, ValueTrees, truth_value, number_value, list_value, record_value}
use Rattle.um_tree.specs.ValueTree.{no_values, more_values}
use Rattle.um_cells.specs.declared.word.Word.{Word}
use Rattle.um_cells.specs.declared.word.Word.TheVariants.{Bool as Truth, Num as Number, Nil}
use Rattle.um_cells.specs.declared.word.Word.TheVariants.{List as ListAt, Rec as RecordAt}
use Rattle.um_cells.specs.declared.cell.Cell.{Cell}
use Rattle.um_cells.specs.declared.cell.Cell.TheVariants.{Item, Record, Part}

-- the word of the list whose first item stands in this cell, or of the empty list
abbrev pub list_from : Option ℕ → Word
list_from None = Nil
list_from (Some n) = ListAt n

abbrev pub value_count : ValueTrees → ℕ
value_count no_values = 0
value_count (more_values v vs) = suc (value_count vs)

abbrev mutual
  pub Denotes : List Cell → Word → ValueTree → Type 0
  Denotes s w (truth_value b) = w ≡ Truth b
  Denotes s w (number_value c) = w ≡ Number c
  Denotes s w (list_value vs) = (first : Option ℕ) × (w ≡ list_from first) × ListFrom s first vs
  Denotes s w (record_value r vs) =
      (n : ℕ) × (w ≡ RecordAt r n) × (slice_get s n ≡ Some (Record (value_count vs))) × PartsFrom s (n + 1) vs

  -- these are the items of the list whose first item stands in this cell; without a cell there are none
  pub ListFrom : List Cell → Option ℕ → ValueTrees → Type 0
  ListFrom s first no_values = first ≡ None
  ListFrom s first (more_values v vs) =
      (n : ℕ) × (w : Word) × (next : Option ℕ) ×
      (first ≡ Some n) × (slice_get s n ≡ Some (Item w next)) × Denotes s w v × ListFrom s next vs

  -- from this cell on these parts stand in the cells, in order
  pub PartsFrom : List Cell → ℕ → ValueTrees → Type 0
  PartsFrom s n no_values = Unit {0}
  PartsFrom s n (more_values v vs) =
      (w : Word) × (slice_get s n ≡ Some (Part w)) × Denotes s w v × PartsFrom s (n + 1) vs

-- these words denote these values, one by one
abbrev pub DenoteEach : List Cell → List Word → List ValueTree → Type 0
DenoteEach s [] [] = Unit {0}
DenoteEach s [] (v ∷ vs) = ⊥
DenoteEach s (w ∷ ws) [] = ⊥
DenoteEach s (w ∷ ws) (v ∷ vs) = Denotes s w v × DenoteEach s ws vs

-- what a word denotes in the first cells, it denotes in the second
abbrev pub Retains : List Cell → List Cell → Type 0
Retains s t = (w : Word) (v : ValueTree) → Denotes s w v → Denotes t w v
