-- Small schemes and signatures, by computation of the definitions.
use Rattle.std.proofs.Common.{◌≡◌, ℕ, List, [], ◌∷◌, ℤ, pos, negsuc, refl}
use Rattle.um_units.specs.declared.Atom.{Atom}
use Rattle.um_units.specs.declared.Atom.TheVariants.{Base, Var}
use Rattle.um_units.specs.declared.Term.{Term}
use Rattle.um_units.specs.PowerMap.{PowerMap, product}
use Rattle.um_tree.specs.TypeTree.{TypeTree, bool_type, num_type, list_type, record_type}
use Rattle.um_sig.specs.Form.{form}
use Rattle.um_sig.specs.Matching.{Matching, matched, unmatched, out_of_range, match_types}

-- two variables, and two of three base units
abbrev power : Atom → ℤ → Term
power x k = record { atom = x; power = k }

abbrev a : ℤ → Term
a k = power (Var 0) k

abbrev b : ℤ → Term
b k = power (Var 1) k

abbrev metre : ℤ → Term
metre k = power (Base 0) k

abbrev second : ℤ → Term
second k = power (Base 1) k

abbrev num : List Term → TypeTree
num ts = num_type (product ts)

data Shown : Type 0 where
  conforms : Shown
  units : ℕ → Shown
  range : ℕ → Shown

abbrev shown : Matching → Shown
shown (matched us) = conforms
shown (unmatched i) = units i
shown (out_of_range i) = range i

-- num<'a> -> num<'b> -> num<'a 'b>
abbrev area : List TypeTree
area = num (a (pos 1) ∷ []) ∷ num (b (pos 1) ∷ []) ∷ num (a (pos 1) ∷ b (pos 1) ∷ []) ∷ []

-- num<m> -> num<s> -> num<m s>
closed_conforms : shown (match_types 3 2 area (num (metre (pos 1) ∷ []) ∷ num (second (pos 1) ∷ []) ∷ num (metre (pos 1) ∷ second (pos 1) ∷ []) ∷ [])) ≡ conforms
unfolding product
closed_conforms = refl

-- num<'x> -> num<'x> -> num<'x^2>
less_general_conforms : shown (match_types 3 2 area (num (a (pos 1) ∷ []) ∷ num (a (pos 1) ∷ []) ∷ num (a (pos 2) ∷ []) ∷ [])) ≡ conforms
unfolding product
less_general_conforms = refl

-- num<'x> -> num<'y> -> num<m>: the variables of a signature aren't solved
variables_are_fixed : shown (match_types 3 2 area (num (a (pos 1) ∷ []) ∷ num (b (pos 1) ∷ []) ∷ num (metre (pos 1) ∷ []) ∷ [])) ≡ units 2
unfolding product
variables_are_fixed = refl

-- num<m^2147483647> -> num<m> -> num<s>: the range is met before the units differ
range_before_units : shown (match_types 3 2 area (num (metre (pos 2147483647) ∷ []) ∷ num (metre (pos 1) ∷ []) ∷ num (second (pos 1) ∷ []) ∷ [])) ≡ range 2
unfolding product
range_before_units = refl

-- num<m^2147483647> against num<m^-1>: the row itself passes the range
row_past_range : shown (match_types 3 0 (num (metre (pos 2147483647) ∷ []) ∷ []) (num (metre (negsuc 0) ∷ []) ∷ [])) ≡ range 0
unfolding product
row_past_range = refl

-- num</'a^3> -> num</'a^2> -> bool
abbrev cubes : List TypeTree
cubes = num (a (negsuc 2) ∷ []) ∷ num (a (negsuc 1) ∷ []) ∷ bool_type ∷ []

-- num<m> -> num<'b> -> bool: no unit has the power m^-1 as its third
third_of_metre : shown (match_types 3 1 cubes (num (metre (pos 1) ∷ []) ∷ num (a (pos 1) ∷ []) ∷ bool_type ∷ [])) ≡ units 0
unfolding product
third_of_metre = refl

-- num<m^3> -> num<m^2> -> bool
powers_of_metre : shown (match_types 3 1 cubes (num (metre (pos 3) ∷ []) ∷ num (metre (pos 2) ∷ []) ∷ bool_type ∷ [])) ≡ conforms
unfolding product
powers_of_metre = refl

-- ---- forms
records_of_two_counts : (u : PowerMap) → form (record_type 0 (u ∷ [])) ≡ form (record_type 0 []) → ⊥
records_of_two_counts u e = cc e

same_but_units : (u v : PowerMap) → form (list_type (num_type u)) ≡ form (list_type (num_type v))
same_but_units u v = refl
