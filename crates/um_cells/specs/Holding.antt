-- The test whether words denote values, as a fact with one proof at most: a type's ghost field can keep it.
-- Source: this project's own.
use Rattle.std.specs.Prelude.{List, IsTrue}
use Rattle.std.specs.List.{list_all}
use Rattle.um_cells.specs.declared.store.Store.{Store}
use Rattle.um_cells.specs.declared.word.Word.{Word}
use Rattle.um_cells.specs.Formed.{holds}

abbrev pub HoldsIn : Store → Word → Type 0
HoldsIn store w = IsTrue (holds store.cells.items w)

abbrev pub AllHold : Store → List Word → Type 0
AllHold store ws = IsTrue (list_all (holds store.cells.items) ws)
