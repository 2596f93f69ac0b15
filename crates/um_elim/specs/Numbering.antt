-- Types whose variables are renamed one for one, in the order of their first occurrence.
-- Source: this project's own; a scheme's variables may be renamed one for one (Kennedy 1996). No list of what was met
-- so far and no number to come is in it.
use Rattle.std.specs.Prelude.{◌≡◌, ◌↔◌, ℕ, not, ◌==◌, nat_eq, List, [], ◌∷◌, map, filter, Contains}
use Rattle.std.specs.List.{position_or_len}
use Rattle.um_units.specs.declared.Atom.TheVariants.{Var}
use Rattle.um_units.specs.PowerMap.{PowerMap, atom}
use Rattle.um_tree.specs.TypeTree.{TypeTree}
use Rattle.um_tree.specs.Typing.{put}
use Rattle.um_tree.specs.Scheme.{variables}

-- the numbers of the list, each once: the first, and then those of the rest but the first
abbrev pub first_occurrences : List ℕ → List ℕ
first_occurrences [] = []
first_occurrences (k ∷ ks) = k ∷ filter (λ j. not (j == k)) (first_occurrences ks)

-- the variables of the types in the order of their first occurrence, in which the units are read from left to right,
-- and the variables of one unit by their numbers
abbrev pub variable_order : List TypeTree → List ℕ
variable_order ts = first_occurrences (variables ts)

-- the place of a number in the order, counted from 0
abbrev pub place : List ℕ → ℕ → ℕ
place order k = position_or_len (nat_eq k) order

-- for each variable the variable whose number is its place in the order
abbrev pub by_place : List ℕ → ℕ → PowerMap
by_place order k = atom (Var (place order k))

-- the types with their variables renamed
abbrev pub renumbered : List TypeTree → List TypeTree
renumbered ts = map (put (by_place (variable_order ts))) ts

-- two variables of the types have two numbers
abbrev pub AreRenamedOneForOne : List TypeTree → Type 0
AreRenamedOneForOne ts =
    (j k : ℕ) → Contains (variables ts) j → Contains (variables ts) k →
    place (variable_order ts) j ≡ place (variable_order ts) k → j ≡ k

-- the types that some units, put for the variables, give
abbrev pub IsInstanceOf : List TypeTree → List TypeTree → Type 0
IsInstanceOf ts vs = (units : ℕ → PowerMap) × (vs ≡ map (put units) ts)

abbrev pub HaveSameInstances : List TypeTree → List TypeTree → Type 0
HaveSameInstances ts us = (vs : List TypeTree) → IsInstanceOf ts vs ↔ IsInstanceOf us vs
