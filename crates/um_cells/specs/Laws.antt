-- What words and stores come to, for the crates above.
-- Source: this project's own.
use Rattle.std.specs.Prelude.{◌≡◌, ◌↔◌, ℕ, List, Option, Some, None}
use Rattle.um_tree.specs.ValueTree.{ValueTree}
use Rattle.um_tree.specs.Meaning.{Out, stops, wrong, on_list}
use Rattle.um_cells.specs.declared.store.Store.{Store}
use Rattle.um_cells.specs.declared.word.Word.{Word}
use Rattle.um_cells.specs.declared.word.ListCase.{ListCase}
use Rattle.um_cells.specs.declared.word.ListCase.TheVariants.{Empty, Items}
use Rattle.um_cells.specs.Stores.{DenotesIn, AllDenote, HasValue, HaveValues, Keeps}
use Rattle.um_cells.specs.Operations.{TakenApart}
use Rattle.um_cells.specs.Holding.{HoldsIn, AllHold}

-- a word denotes one value at most
abbrev pub WordsHaveOneValue : Type 0
WordsHaveOneValue = (s : Store) (w : Word) (v u : ValueTree) → DenotesIn s w v → DenotesIn s w u → v ≡ u

-- and some words one list of values at most
abbrev pub ListsHaveOneValue : Type 0
ListsHaveOneValue =
    (s : Store) (ws : List Word) (vs us : List ValueTree) → AllDenote s ws vs → AllDenote s ws us → vs ≡ us

-- a word passes the test exactly if it denotes a value
abbrev pub HoldingWordsDenote : Type 0
HoldingWordsDenote = (s : Store) (w : Word) → HoldsIn s w ↔ HasValue s w

-- and some words pass it exactly if each denotes one
abbrev pub HoldingListsDenote : Type 0
HoldingListsDenote = (s : Store) (ws : List Word) → AllHold s ws ↔ HaveValues s ws

-- what is kept of single words is kept of lists of them
abbrev pub ListsAreKept : Type 0
ListsAreKept =
    (s t : Store) → Keeps s t → (ws : List Word) (vs : List ValueTree) → AllDenote s ws vs → AllDenote t ws vs

-- words that pass the test still pass it if what words denote is kept
abbrev pub HoldingIsKept : Type 0
HoldingIsKept = (s t : Store) → Keeps s t → (ws : List Word) → AllHold s ws → AllHold t ws

-- two steps that each keep what words denote keep it together
abbrev pub KeepingIsTransitive : Type 0
KeepingIsTransitive = (s t u : Store) → Keeps s t → Keeps t u → Keeps s u

-- the arm of a match by how its list is taken apart: `x` if it is empty, `y` if it has items
abbrev pub TakesArm :
    Store → Option ListCase →
    (ℕ → Out ValueTree) → (ValueTree → ValueTree → ℕ → Out ValueTree) → ℕ → Out ValueTree → Type 0
TakesArm store None x y b out = out ≡ stops wrong
TakesArm store (Some Empty) x y b out = out ≡ x b
TakesArm store (Some (Items first others)) x y b out =
    (v : ValueTree) × (u : ValueTree) × DenotesIn store first v × DenotesIn store others u × (out ≡ y v u b)

-- it is the arm that the meaning of a match takes
abbrev pub ListsTakeTheirArm : Type 0
ListsTakeTheirArm =
    (s : Store) (v : ValueTree) (given : Option ListCase) →
    (x : ℕ → Out ValueTree) (y : ValueTree → ValueTree → ℕ → Out ValueTree) (b : ℕ) →
    TakenApart s v given → TakesArm s given x y b (on_list v x y b)
