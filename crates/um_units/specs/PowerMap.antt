-- The exact units of the theory: the free abelian group on the atoms, whose powers have no bound.
-- Source: Kennedy (1996) and Kennedy (1997): units form the free abelian group on the base units and the unit
-- variables, and a substitution puts a unit for each variable; so do the F# specification's measures, which are equal
-- by the laws of an abelian group. That an element is a list of terms in normal form is this project's own.
use Rattle.std.specs.Prelude.{ℕ, IsTrue, List, [], ◌∷◌, ◌++◌, map, slice_index_or, ℤ, pos, negsuc, ◌*ℤ◌}
use Rattle.std.specs.List.{flat_map}
use Rattle.um_units.specs.declared.Atom.{Atom}
use Rattle.um_units.specs.declared.Atom.TheVariants.{Base, Var}
use Rattle.um_units.specs.declared.Term.{Term}
use Rattle.um_units.specs.Terms.{power_in, weigh, is_normal, normal_form}
use Rattle.um_units.specs.NormalForm.{normal-normal_form}

-- a finite map from atoms to integers other than 0: its pairs, in the order of their atoms
pub record PowerMap : Type 0 where
  pub terms : List Term
  pub normal : IsTrue (is_normal terms)

-- the product of a list of terms, in which an atom may stand more than once and with power 0
unfoldable pub product : List Term → PowerMap
product ts = record { terms = normal_form ts; normal = normal-normal_form ts }

-- what the map gives for an atom, and 0 for one that it lacks
abbrev pub power_of : PowerMap → Atom → ℤ
power_of u x = power_in u.terms x

-- the value at a unit of the linear functional that is f at the atoms; with an indicator for f it is a power
abbrev pub weight : (Atom → ℤ) → PowerMap → ℤ
weight f u = weigh f u.terms

-- the dimensionless unit
abbrev pub one : PowerMap
one = product []

-- the unit that is the atom itself
abbrev pub atom : Atom → PowerMap
atom x = product (record { atom = x; power = pos 1 } ∷ [])

-- the product: powers add up
abbrev pub mul : PowerMap → PowerMap → PowerMap
mul u v = product (u.terms ++ v.terms)

-- the term to the k-th power
abbrev pub scale : ℤ → Term → Term
scale k t = record { atom = t.atom; power = k *ℤ t.power }

-- the k-th power: powers are multiplied by k
abbrev pub pow : PowerMap → ℤ → PowerMap
pow u k = product (map (scale k) u.terms)

-- the inverse: powers are negated
abbrev pub inv : PowerMap → PowerMap
inv u = pow u (negsuc 0)

-- what a replacement s puts for an atom: s k for variable k, and each base unit for itself
abbrev pub image : (ℕ → PowerMap) → Atom → PowerMap
image s (Base n) = atom (Base n)
image s (Var k) = s k

-- what is put for each term, to the term's power, one after another, if f x is put for the atom x
abbrev pub images_of : (Atom → PowerMap) → List Term → List Term
images_of f = flat_map (λ t. map (scale t.power) (f t.atom).terms)

abbrev pub images : (ℕ → PowerMap) → List Term → List Term
images s = images_of (image s)

-- the unit in which f x is put for each atom x
abbrev pub extension : (Atom → PowerMap) → PowerMap → PowerMap
extension f u = product (images_of f u.terms)

-- the unit in which s k is put for each variable k
abbrev pub replace : (ℕ → PowerMap) → PowerMap → PowerMap
replace s u = product (images s u.terms)

-- the replacement by a list: its k-th unit for variable k, and each other variable for itself
abbrev pub nth : List PowerMap → ℕ → PowerMap
nth us k = slice_index_or us k (atom (Var k))
