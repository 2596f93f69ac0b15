-- What the walk over a body answers, against the derivation node by node.
-- Source: this project's own; want of memory may come in place of every answer.
use Rattle.std.specs.Prelude.{◌≡◌, ℕ, List, Result, Ok, Err, MatchResult}
use Rattle.um_tree.specs.declared.types.Ty.{Ty}
use Rattle.um_tree.specs.TypeTree.{TypeTree, type_tree}
use Rattle.um_equal_types.specs.declared.row.RowStop.{RowStop}
use Rattle.um_equal_types.specs.declared.row.RowStop.TheVariants as stop
use Rattle.um_rows.specs.declared.progress.Progress.{Progress}
use Rattle.um_rows.specs.declared.progress.Pair.{Pair}
use Rattle.um_rows.specs.Walk.{Walked, AllWalked, PairWalked}

-- the stop is at the step that ends the walk
abbrev pub StopsAs : {A : Type 0} → Result A ℕ → RowStop → Type 0
StopsAs m stop.Slots = ⊥
StopsAs m (stop.Range at) = m ≡ Err at
StopsAs m stop.NoMemory = Unit {0}

-- the type and the progress are those of the walk, or its end is named
abbrev pub IsReached : Result Walked ℕ → Progress → Result Ty RowStop → Type 0
IsReached m new r =
    MatchResult r (λ ty. m ≡ Ok (record { type = type_tree ty; rows = new.rows.items; holes = new.holes })) (StopsAs m)

-- the same of expressions one after another
abbrev pub AreReached : {A : Type 0} → (A → List TypeTree) → Result AllWalked ℕ → Progress → Result A RowStop → Type 0
AreReached view m new r =
    MatchResult r (λ ts. m ≡ Ok (record { types = view ts; rows = new.rows.items; holes = new.holes })) (StopsAs m)

-- the same of two parts
abbrev pub ArePairReached : Result PairWalked ℕ → Progress → Result Pair RowStop → Type 0
ArePairReached m new r =
    MatchResult r (λ ts. m ≡ Ok (record {
      first = type_tree ts.first;
      second = type_tree ts.second;
      rows = new.rows.items;
      holes = new.holes;
    })) (StopsAs m)
