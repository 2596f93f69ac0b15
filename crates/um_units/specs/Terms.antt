-- Lists of terms, whose powers are integers without bound.
-- Source: Kennedy (1996): a unit is a product of powers of base units and unit variables. The normal form, in which
-- atoms rise and no power is 0, is this project's own.
use Rattle.std.specs.Prelude.{Bool, true, false, not, ◌&&◌, if◌then◌else◌, ◌==◌, List}
use Rattle.std.specs.Prelude.{[], ◌∷◌, ℤ, pos, negsuc, ◌+ℤ◌, ◌*ℤ◌}
use Rattle.std.specs.List.{list_all}
use Rattle.um_units.specs.declared.Atom.{Atom}
use Rattle.um_units.specs.declared.Term.{Term}
use Rattle.um_units.specs.Atoms.{is_before, same_atom}

-- the value at the product of the terms of the linear functional that is f at the atoms: each power times what f gives
-- at its atom, all added up
abbrev pub weigh : (Atom → ℤ) → List Term → ℤ
weigh f [] = pos 0
weigh f (t ∷ ts) = t.power *ℤ f t.atom +ℤ weigh f ts

-- the functional that is 1 at the atom x and 0 at the others
abbrev pub indicator : Atom → Atom → ℤ
indicator x y = if same_atom x y then pos 1 else pos 0

-- the power of the atom x in the product of the terms
abbrev pub power_in : List Term → Atom → ℤ
power_in ts x = weigh (indicator x) ts

abbrev pub is_zero : ℤ → Bool
is_zero (pos n) = n == 0
is_zero (negsuc n) = false

-- each atom of the list comes after x
abbrev pub is_before_all : Atom → List Term → Bool
is_before_all x = list_all (λ t. is_before x t.atom)

-- the atoms rise, and no power is 0
abbrev pub is_normal : List Term → Bool
is_normal [] = true
is_normal (t ∷ ts) = not (is_zero t.power) && (is_before_all t.atom ts && is_normal ts)

-- the term and the terms after it, if its power isn't 0
abbrev pub unless_zero : Term → List Term → List Term
unless_zero t ts = if is_zero t.power then ts else t ∷ ts

-- the normal form of the product of a term and a list in normal form
abbrev pub times_term : Term → List Term → List Term
times_term t [] = unless_zero t []
times_term t (s ∷ ts) =
    if is_before t.atom s.atom then unless_zero t (s ∷ ts)
    else if same_atom t.atom s.atom then unless_zero (record { atom = s.atom; power = t.power +ℤ s.power }) ts
    else s ∷ times_term t ts

-- the normal form of the product of the terms
abbrev pub normal_form : List Term → List Term
normal_form [] = []
normal_form (t ∷ ts) = times_term t (normal_form ts)
