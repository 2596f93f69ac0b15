-- What a list of tokens is by a grammar, a relation between lists of tokens and trees, and what it begins.
-- Source: viable prefixes, as in Knuth, On the Translation of Languages from Left to Right.
use Rattle.std.specs.Prelude.{◌≡◌, ℕ, ◌≤◌, List, ◌++◌, Option, Some, None}

-- the tokens begin a text
abbrev pub BeginsText : {T A : Type 0} → (List T → A → Type 0) → List T → Type 0
BeginsText {T} {A} Is tokens = (more : List T) × (t : A) × Is (tokens ++ more) t

-- the tokens begin a text of at most this height
abbrev pub BeginsTextWithin : {T A : Type 0} → (List T → A → Type 0) → (A → ℕ) → ℕ → List T → Type 0
BeginsTextWithin {T} {A} Is height limit tokens =
    (more : List T) × (t : A) × Is (tokens ++ more) t × (height t ≤ limit)

-- no two trees have the same tokens
abbrev pub IsUnambiguous : {T A : Type 0} → (List T → A → Type 0) → Type 0
IsUnambiguous {T} {A} Is = (tokens : List T) (t u : A) → Is tokens t → Is tokens u → t ≡ u

-- the tree that has the tokens, or none if no tree has them
abbrev pub IsTreeOf : {T A : Type 0} → (List T → A → Type 0) → List T → Option A → Type 0
IsTreeOf {T} {A} Is tokens (Some t) = Is tokens t
IsTreeOf {T} {A} Is tokens None = (t : A) → Is tokens t → ⊥
