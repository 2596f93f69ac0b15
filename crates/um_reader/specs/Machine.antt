-- Machines that take one token at a time, and what it is that one reads a grammar.
-- Source: finite automata and their extended transition function, as in Hopcroft and Ullman, Introduction to Automata
-- Theory.
use Rattle.std.specs.Prelude.{◌≡◌, ◌≢◌, ℕ, ◌≤◌, List, [], ◌∷◌, ◌++◌, Option, Some, None}

-- A refusal is a state. `finish` is the tree that the tokens so far are, and `least` the least height of a text that
-- begins with them.
pub record Machine (S T A : Type 0) : Type 0 where
  pub start : S
  pub refused : S
  pub step : S → T → S
  pub finish : S → Option A
  pub least : S → ℕ

-- the state after these tokens
abbrev pub runs : {S T : Type 0} → (S → T → S) → S → List T → S
runs step state [] = state
runs step state (token ∷ tokens) = runs step (step state token) tokens

-- the same, from the start
abbrev pub reached : {S T A : Type 0} → Machine S T A → List T → S
reached m tokens = runs m.step m.start tokens

module _ {S T A : Type 0} (m : Machine S T A) (Is : List T → A → Type 0) (height : A → ℕ) where
  -- the machine reads the trees of the grammar
  pub record IsReaderOf : Type 0 where
    pub stays : (token : T) → m.step m.refused token ≡ m.refused
    pub nothing : m.finish m.refused ≡ None
    -- the tree that the tokens are is found, and what is found has the tokens
    pub finds : (tokens : List T) (t : A) → Is tokens t → m.finish (reached m tokens) ≡ Some t
    pub found : (tokens : List T) (t : A) → m.finish (reached m tokens) ≡ Some t → Is tokens t
    -- what isn't refused can be completed within the least height, which no token lowers
    pub completed : (tokens : List T) → reached m tokens ≢ m.refused
        → (more : List T) × (t : A) × Is (tokens ++ more) t × (height t ≡ m.least (reached m tokens))
    pub up : (state : S) (token : T) → m.step state token ≢ m.refused → m.least state ≤ m.least (m.step state token)
    pub same_height : (state : S) (t : A) → m.finish state ≡ Some t → height t ≡ m.least state

-- from this state and tokens the machine comes, in some moves, to that state with the rest
abbrev pub Yields : {S T : Type 0} → (S → T → S) → S → List T → S → List T → Type 0
Yields {S} {T} step old tokens new rest = (read : List T) × (tokens ≡ read ++ rest) × (runs step old read ≡ new)

-- from this state the machine reads the tokens up to the rest, is in that state then, and hasn't refused
abbrev pub Reaches : {S T : Type 0} → (S → T → S) → S → S → List T → S → List T → Type 0
Reaches {S} {T} step refused old tokens new rest =
    (read : List T) × (tokens ≡ read ++ rest) × (runs step old read ≡ new) × (new ≢ refused)
