-- The instances of a signature: when a scheme has them all, and when they all are typings of a function.
-- Source: Kennedy (1996): a scheme is at least as general as another if it has all its instances.
use Rattle.std.specs.Prelude.{◌≡◌, ◌+◌, ℕ, All, List, map, take}
use Rattle.um_tree.specs.TypeTree.{TypeTree}
use Rattle.um_tree.specs.ProgramTree.{ProgramTree, Signature, SchemeTree}
use Rattle.um_tree.specs.Typing.{Typing}
use Rattle.um_tree.specs.Scheme.{signature_types}
use Rattle.um_tree.specs.Formed.{BasesBelow}
use Rattle.um_tree.specs.Laws.{TypeHas}
use Rattle.um_elim.specs.Numbering.{IsInstanceOf}
use Rattle.um_sig.specs.Matching.{fixed_type}

-- the types of a scheme, the result last
abbrev pub scheme_types : SchemeTree → List TypeTree
scheme_types s = signature_types s.signature

-- each instance of the second types is one of the first
abbrev pub HasAllInstances : List TypeTree → List TypeTree → Type 0
HasAllInstances own types = (ts : List TypeTree) → IsInstanceOf types ts → IsInstanceOf own ts

-- the types are the parameters' and the result's of a typing of function i
abbrev pub AreTypesOfTyping : ProgramTree → ℕ → List TypeTree → Type 0
AreTypesOfTyping p i ts = (g : Signature) × (signature_types g ≡ ts) × Typing p i g

-- each instance of the types is a typing of function i
abbrev pub AreAllTypings : ProgramTree → ℕ → List TypeTree → Type 0
AreAllTypings p i types = (ts : List TypeTree) → IsInstanceOf types ts → AreTypesOfTyping p i ts

-- each base unit of the types is below n
abbrev pub AreOverBases : ℕ → List TypeTree → Type 0
AreOverBases n ts = All (TypeHas (BasesBelow n)) ts

-- ---- up to a type

-- some units in place of the first types' variables make the first n of them those of the second list, whose variables
-- are units of their own
abbrev pub AreMatched : ℕ → ℕ → List TypeTree → List TypeTree → Type 0
AreMatched bases n own types = IsInstanceOf (take n own) (map (fixed_type bases) (take n types))

-- the types before index i are matched by some units, and those through it by none
pub record IsFirstUnmatched (bases : ℕ) (own types : List TypeTree) (i : ℕ) : Type 0 where
  pub before : AreMatched bases i own types
  pub through : AreMatched bases (i + 1) own types → ⊥
