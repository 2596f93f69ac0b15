-- What the loop over the tokens gives, by the states of the machine.
-- Source: this project's own.
use Rattle.std.specs.Prelude.{◌≡◌, ◌≢◌, ℕ, ◌+◌, ◌≤◌, ◌<◌, List, length, take, Option, Some, None, Result, Ok, Err}
use Rattle.um_reader.specs.Machine.{Machine, reached}
use Rattle.um_reader.specs.declared.reading.ReadStop.{ReadStop}
use Rattle.um_reader.specs.declared.reading.ReadStop.TheVariants as stop

-- the first tokens are read within the limit
abbrev pub IsRead : {S T A : Type 0} → Machine S T A → ℕ → List T → ℕ → Type 0
IsRead m limit tokens k =
    (k ≤ length tokens) × (reached m (take k tokens) ≢ m.refused) × (m.least (reached m (take k tokens)) ≤ limit)

-- and the next one is refused, if there is one
abbrev pub IsRefused : {S T A : Type 0} → Machine S T A → List T → ℕ → Type 0
IsRefused m tokens k = k < length tokens → reached m (take (k + 1) tokens) ≡ m.refused

-- or it is too high
abbrev pub IsHigh : {S T A : Type 0} → Machine S T A → ℕ → List T → ℕ → Type 0
IsHigh m limit tokens k =
    (k < length tokens) × (reached m (take (k + 1) tokens) ≢ m.refused)
    × (limit < m.least (reached m (take (k + 1) tokens)))

-- up to a token that is refused or the end
abbrev pub RunTo : {S T A R : Type 0} → Machine S T A → ℕ → (R → A) → List T → Result (R × ℕ) ReadStop → Type 0
RunTo m limit view tokens (Ok (tree, k)) =
    IsRead m limit tokens k × IsRefused m tokens k × (m.finish (reached m (take k tokens)) ≡ Some (view tree))
RunTo m limit view tokens (Err (stop.Syntax k)) =
    IsRead m limit tokens k × IsRefused m tokens k × (m.finish (reached m (take k tokens)) ≡ None)
RunTo m limit view tokens (Err (stop.High k)) = IsRead m limit tokens k × IsHigh m limit tokens k
RunTo m limit view tokens (Err stop.NoMemory) = Unit {0}

-- through all tokens
abbrev pub RunAll : {S T A R : Type 0} → Machine S T A → ℕ → (R → A) → List T → Result R ReadStop → Type 0
RunAll m limit view tokens (Ok tree) =
    IsRead m limit tokens (length tokens) × (m.finish (reached m (take (length tokens) tokens)) ≡ Some (view tree))
RunAll m limit view tokens (Err (stop.Syntax k)) =
    IsRead m limit tokens k × IsRefused m tokens k
    × (k ≡ length tokens → m.finish (reached m (take k tokens)) ≡ None)
RunAll m limit view tokens (Err (stop.High k)) = IsRead m limit tokens k × IsHigh m limit tokens k
RunAll m limit view tokens (Err stop.NoMemory) = Unit {0}

-- the tree up to this token, or that there is none
abbrev pub ended_at : {R : Type 0} → Option R → ℕ → Result (R × ℕ) ReadStop
ended_at None k = Err (stop.Syntax k)
ended_at (Some tree) k = Ok (tree, k)
