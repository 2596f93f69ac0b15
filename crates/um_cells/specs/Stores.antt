-- What words denote in a store.
-- Source: this project's own.
use Rattle.std.specs.Prelude.{ℕ, List, length}
use Rattle.um_tree.specs.ValueTree.{ValueTree}
use Rattle.um_cells.specs.declared.store.Store.{Store}
use Rattle.um_cells.specs.declared.word.Word.{Word}
use Rattle.um_cells.specs.Denotes.{Denotes, DenoteEach, Retains}

-- the word denotes the value
abbrev pub DenotesIn : Store → Word → ValueTree → Type 0
DenotesIn store w v = Denotes store.cells.items w v

-- the words denote the values, one by one
abbrev pub AllDenote : Store → List Word → List ValueTree → Type 0
AllDenote store ws vs = DenoteEach store.cells.items ws vs

-- the word denotes some value
abbrev pub HasValue : Store → Word → Type 0
HasValue store w = (v : ValueTree) × DenotesIn store w v

-- each of the words does
abbrev pub HaveValues : Store → List Word → Type 0
HaveValues store ws = (vs : List ValueTree) × AllDenote store ws vs

-- what a word denotes in the first store, it denotes in the second
abbrev pub Keeps : Store → Store → Type 0
Keeps old new = Retains old.cells.items new.cells.items

abbrev pub cell_count : Store → ℕ
cell_count store = length store.cells.items
