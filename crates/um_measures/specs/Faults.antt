-- Why names are refused, with the place, and how the first refusal is that of the whole.
-- Source: this project's own.
use Rattle.std.specs.Prelude.{ℕ, Bool, true, false, List, [], ◌∷◌, Result, Ok, Err}

-- a name that isn't known; one that is declared twice; another number of parts than declared;
-- a hole where none may stand; a unit text with a power past the range
pub data Fault : Type 0 where
  unknown : ℕ → Fault
  twice : ℕ → Fault
  wrong_count : ℕ → Fault
  hole : ℕ → Fault
  range : ℕ → Fault

-- what a text stands for, or its first fault
abbrev pub Found : Type 0 → Type 0
Found A = Result A Fault

-- what comes next in the text is looked at only where nothing before it is refused
abbrev pub and_then : {A B : Type 0} → Found A → (A → Found B) → Found B
and_then (Ok x) next = next x
and_then (Err f) next = Err f

-- what the texts of a list stand for, one after another
abbrev pub each : {A B : Type 0} → (A → Found B) → List A → Found (List B)
each f [] = Ok []
each f (x ∷ xs) = and_then (f x) (λ y. and_then (each f xs) (λ ys. Ok (y ∷ ys)))

-- the name is new
abbrev pub unless_taken : Bool → ℕ → Found (Unit {0})
unless_taken true at = Err (twice at)
unless_taken false at = Ok tt
