-- The order of atoms: base units come before variables, each kind by its number.
-- Source: this project's own; the order of a unit's factors means nothing in Kennedy (1996).
use Rattle.std.specs.Prelude.{Bool, true, false, nat_lt, ◌==◌}
use Rattle.um_units.specs.declared.Atom.{Atom}
use Rattle.um_units.specs.declared.Atom.TheVariants.{Base, Var}

-- the first atom comes before the second
abbrev pub is_before : Atom → Atom → Bool
is_before (Base m) (Base n) = nat_lt m n
is_before (Base m) (Var n) = true
is_before (Var m) (Base n) = false
is_before (Var m) (Var n) = nat_lt m n

-- both are one atom
abbrev pub same_atom : Atom → Atom → Bool
same_atom (Base m) (Base n) = m == n
same_atom (Base m) (Var n) = false
same_atom (Var m) (Base n) = false
same_atom (Var m) (Var n) = m == n
