-- Small eliminations and numberings, by computation of the definitions.
use Rattle.std.proofs.Common.{◌≡◌, List, [], ◌∷◌, map, ℤ, pos, negsuc, refl}
use Rattle.um_units.specs.declared.Atom.TheVariants.{Base, Var}
use Rattle.um_units.specs.declared.Term.{Term}
use Rattle.um_units.specs.PowerMap.{PowerMap, product, one, atom}
use Rattle.um_tree.specs.TypeTree.{TypeTree, bool_type, num_type, list_type, record_type}
use Rattle.um_elim.specs.Elimination.{Elimination, Solved, NoSolution, Range, eliminate, eliminate_rows}
use Rattle.um_elim.specs.Numbering.{renumbered}

-- two slots, and a base unit
abbrev a : ℤ → Term
a k = record { atom = Var 0; power = k }

abbrev b : ℤ → Term
b k = record { atom = Var 1; power = k }

abbrev metre : ℤ → Term
metre k = record { atom = Base 0; power = k }

abbrev own : List PowerMap
own = atom (Var 0) ∷ atom (Var 1) ∷ []

abbrev units_of : Elimination → List PowerMap
units_of (Solved us) = us
units_of NoSolution = []
units_of Range = []

abbrev terms_of : Elimination → List (List Term)
terms_of e = map (λ (u : PowerMap). u.terms) (units_of e)

-- a^2 b^-3: the slots' units are b^-3 and b^-2 over a new variable, which is the first slot's
quotients_rounded_down : terms_of (eliminate own (product (a (pos 2) ∷ b (negsuc 2) ∷ []))) ≡ (a (negsuc 2) ∷ []) ∷ (a (negsuc 1) ∷ []) ∷ []
unfolding product
quotients_rounded_down = refl

-- a^2 b m^-1: b is the pivot, and base units are divided too
base_units_divided : terms_of (eliminate own (product (metre (negsuc 0) ∷ a (pos 2) ∷ b (pos 1) ∷ []))) ≡ (a (pos 1) ∷ []) ∷ (metre (pos 1) ∷ a (negsuc 1) ∷ []) ∷ []
unfolding product
base_units_divided = refl

-- a b: of equal powers the greatest number is the pivot
greatest_of_equals : terms_of (eliminate own (product (a (pos 1) ∷ b (pos 1) ∷ []))) ≡ (a (pos 1) ∷ []) ∷ (a (negsuc 0) ∷ []) ∷ []
unfolding product
greatest_of_equals = refl

-- the row 1 is solved as it stands, and the row m is not solvable
solved_row : terms_of (eliminate own one) ≡ (a (pos 1) ∷ []) ∷ (b (pos 1) ∷ []) ∷ []
unfolding product
solved_row = refl

closed_row : eliminate own (product (metre (pos 1) ∷ [])) ≡ NoSolution
unfolding product
closed_row = refl

-- a^2 m^-3 has no solution
half_powers : eliminate own (product (a (pos 2) ∷ metre (negsuc 2) ∷ [])) ≡ NoSolution
unfolding product
half_powers = refl

-- a b^2147483647, and then a^2: the power of b passes the range
passes_range : eliminate_rows own (product (a (pos 1) ∷ b (pos 2147483647) ∷ []) ∷ product (a (pos 2) ∷ []) ∷ []) ≡ Range
unfolding product
passes_range = refl

-- a m^-2147483647, and then a^2: the second row is closed once the slots' units are put in, and past the range
closed_past_range : eliminate_rows own (product (metre (negsuc 2147483646) ∷ a (pos 1) ∷ []) ∷ product (a (pos 2) ∷ []) ∷ []) ≡ Range
unfolding product
closed_past_range = refl

-- ---- numberings
abbrev unit_terms : TypeTree → List Term
unit_terms bool_type = []
unit_terms (num_type u) = u.terms
unit_terms (list_type t) = unit_terms t
unit_terms (record_type r us) = []

-- b, and then a b^3: the first that is met has the number 0
first_met : map unit_terms (renumbered (num_type (product (b (pos 1) ∷ [])) ∷ list_type (num_type (product (a (pos 1) ∷ b (pos 3) ∷ []))) ∷ [])) ≡ (a (pos 1) ∷ []) ∷ (a (pos 3) ∷ b (pos 1) ∷ []) ∷ []
unfolding product
first_met = refl
