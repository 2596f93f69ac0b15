-- Mirrors the code: the powers of a product that grows by one term after another, kept by atom.
-- Source: this project's own.
use Rattle.std.specs.Prelude.{◌≡◌, ◌≤◌, cond, List, Option, Some, None, ℤ, pos, ◌+ℤ◌, nat_abs}
use Rattle.std.specs.HashMap.{HashMap, get}
use Rattle.um_units.specs.declared.Atom.{Atom}
use Rattle.um_units.specs.declared.Term.{Term}
use Rattle.um_units.specs.Atoms.{same_atom}
use Rattle.um_units.specs.Terms.{power_in}

abbrev pub or_zero : Option ℤ → ℤ
or_zero None = pos 0
or_zero (Some z) = z

-- the power that the map has for an atom, and 0 for one that it lacks
abbrev pub power_at : {S : Type 0} → HashMap Atom ℤ S → Atom → ℤ
power_at powers x = or_zero (get same_atom powers x)

-- the term's power is added to that of its atom, and each other atom keeps its own
abbrev pub Raises : {S : Type 0} → HashMap Atom ℤ S → HashMap Atom ℤ S → Term → Type 0
Raises old new t =
    (x : Atom) → power_at new x ≡ cond (same_atom t.atom x) (power_at old t.atom +ℤ t.power) (power_at old x)

-- the map has the power of each atom in the product of the terms, and all of them are in range
pub record ArePowersOf {S : Type 0} (powers : HashMap Atom ℤ S) (ts : List Term) : Type 0 where
  pub same : (x : Atom) → power_at powers x ≡ power_in ts x
  pub low : (x : Atom) → nat_abs (power_in ts x) ≤ 2147483647
