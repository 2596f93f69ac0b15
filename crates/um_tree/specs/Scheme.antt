-- Schemes, when one is principal, and how variables are numbered.
-- Source: Kennedy 1996: a function has a scheme whose instances are its typings. The numbering is this project's own.
-- The instances are all replacements of the variables by units.
use Rattle.std.specs.Prelude.{◌≡◌, ◌↔◌, ◌<◌, ◌⊎◌, ℕ, suc, All, List, [], ◌∷◌, ◌++◌}
use Rattle.std.specs.List.{flat_map}
use Rattle.um_units.specs.declared.Atom.{Atom}
use Rattle.um_units.specs.declared.Atom.TheVariants.{Base, Var}
use Rattle.um_units.specs.PowerMap.{PowerMap}
use Rattle.um_tree.specs.TypeTree.{TypeTree, bool_type, num_type, list_type, record_type}
use Rattle.um_tree.specs.ProgramTree.{ProgramTree, Signature, SchemeTree}
use Rattle.um_tree.specs.Typing.{put_signature, Typing}

-- ---- the variables of types

-- the variable of an atom, if it is one
abbrev pub atom_variables : Atom → List ℕ
atom_variables (Base k) = []
atom_variables (Var k) = k ∷ []

-- the variables of a unit, in the order of their numbers
abbrev pub unit_variables : PowerMap → List ℕ
unit_variables u = flat_map (λ t. atom_variables t.atom) u.terms

-- the variables of a type, unit by unit from left to right
abbrev pub type_variables : TypeTree → List ℕ
type_variables bool_type = []
type_variables (num_type u) = unit_variables u
type_variables (list_type t) = type_variables t
type_variables (record_type r us) = flat_map unit_variables us

abbrev pub variables : List TypeTree → List ℕ
variables ts = flat_map type_variables ts

-- the types of a signature, the result last
abbrev pub signature_types : Signature → List TypeTree
signature_types g = g.params ++ g.result ∷ []

-- ---- instances

-- the signature is the scheme's with some units in place of its variables
abbrev pub IsInstance : SchemeTree → Signature → Type 0
IsInstance s g = (units : ℕ → PowerMap) × (g ≡ put_signature units s.signature)

-- the scheme is over its own variables alone, and its instances are exactly the typings of function i
pub record IsPrincipal (p : ProgramTree) (i : ℕ) (s : SchemeTree) : Type 0 where
  pub below : All (λ k. k < s.vars) (variables (signature_types s.signature))
  pub instances : (g : Signature) → Typing p i g ↔ IsInstance s g

-- ---- numbering

-- the numbers are new in their order: from k on, if those below k came before, up to n
abbrev pub FirstComeInOrder : ℕ → List ℕ → ℕ → Type 0
FirstComeInOrder k [] n = k ≡ n
FirstComeInOrder k (x ∷ xs) n = ((x < k) × FirstComeInOrder k xs n) ⊎ ((x ≡ k) × FirstComeInOrder (suc k) xs n)

-- the variables of the types, in order of first occurrence, have the numbers from 0 on, and there are n of them
abbrev pub IsNumberedBy : ℕ → List TypeTree → Type 0
IsNumberedBy n ts = FirstComeInOrder 0 (variables ts) n

abbrev pub IsNumbered : List TypeTree → Type 0
IsNumbered ts = (n : ℕ) × IsNumberedBy n ts

-- a scheme is numbered if its types are, and each variable below `vars` occurs
abbrev pub IsNumberedScheme : SchemeTree → Type 0
IsNumberedScheme s = IsNumberedBy s.vars (signature_types s.signature)
