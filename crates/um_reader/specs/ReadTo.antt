-- What reading tokens answers, by the grammar alone. Trees of the code are compared by their view.
-- Source: this project's own.
use Rattle.std.specs.Prelude.{ℕ, ◌≤◌, List, Result, Ok, Err}
use Rattle.um_reader.specs.declared.reading.ReadStop.{ReadStop}
use Rattle.um_reader.specs.declared.reading.ReadStop.TheVariants as stop
use Rattle.um_reader.specs.Stops.{Reads, Misread, Fails, HighAt}

-- up to the stop: the tree and the stop's number; or that none stands there; or the first token that makes it too high
abbrev pub ReadTo : {T A R : Type 0} → (List T → A → Type 0) → (A → ℕ) → ℕ → (R → A) → List T
    → Result (R × ℕ) ReadStop → Type 0
ReadTo Is height limit view tokens (Ok (tree, k)) = Reads Is height limit tokens k (view tree)
ReadTo Is height limit view tokens (Err (stop.Syntax k)) = Misread Is height limit tokens k
ReadTo Is height limit view tokens (Err (stop.High k)) = HighAt Is height limit tokens k
ReadTo Is height limit view tokens (Err stop.NoMemory) = Unit {0}

-- all tokens: the tree; or where they fail to be one; or the first token that makes them too high
abbrev pub ReadAll : {T A R : Type 0} → (List T → A → Type 0) → (A → ℕ) → ℕ → (R → A) → List T
    → Result R ReadStop → Type 0
ReadAll Is height limit view tokens (Ok tree) = Is tokens (view tree) × (height (view tree) ≤ limit)
ReadAll Is height limit view tokens (Err (stop.Syntax k)) = Fails Is height limit tokens k
ReadAll Is height limit view tokens (Err (stop.High k)) = HighAt Is height limit tokens k
ReadAll Is height limit view tokens (Err stop.NoMemory) = Unit {0}
