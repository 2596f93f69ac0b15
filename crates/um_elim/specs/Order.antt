-- The code's: the order of first occurrence as it grows while types are read.
-- Source: this project's own; no public clause rests on it.
use Rattle.std.specs.Prelude.{ℕ, ◌++◌, nat_eq, if◌then◌else◌, List, [], ◌∷◌}
use Rattle.std.specs.List.{list_any}
use Rattle.um_units.specs.declared.Atom.{Atom}
use Rattle.um_units.specs.declared.Atom.TheVariants.{Base, Var}
use Rattle.um_units.specs.declared.Term.{Term}
use Rattle.um_elim.specs.Numbering.{place}

-- the order with the variable at its end, unless it is there
abbrev pub with_variable : List ℕ → ℕ → List ℕ
with_variable order k = if list_any (nat_eq k) order then order else order ++ k ∷ []

abbrev pub with_variables : List ℕ → List ℕ → List ℕ
with_variables order [] = order
with_variables order (k ∷ ks) = with_variables (with_variable order k) ks

-- a variable becomes the one whose number is its place
abbrev pub placed_atom : List ℕ → Atom → Atom
placed_atom order (Base n) = Base n
placed_atom order (Var k) = Var (place order k)

abbrev pub placed_term : List ℕ → Term → Term
placed_term order t = record { atom = placed_atom order t.atom; power = t.power }
