-- Steps of small units, by computation of the definitions.
use Rattle.std.proofs.Common.{◌≡◌, true, false, [], ◌∷◌, map, ℤ, pos, negsuc, refl}
use Rattle.um_units.specs.declared.Atom.{Atom}
use Rattle.um_units.specs.declared.Atom.TheVariants.{Var}
use Rattle.um_units.specs.declared.Term.{Term}
use Rattle.um_units.specs.PowerMap.{PowerMap, product, atom}
use Rattle.um_elim.specs.declared.elim_step.ElimStep.{ElimStep}
use Rattle.um_elim.specs.ElimStep.{step_of}
use Rattle.um_elim.specs.EliminationSteps.{unit_after, units_after}

abbrev power : Atom → ℤ → Term
power x k = record { atom = x; power = k }

abbrev a : ℤ → Term
a k = power (Var 0) k

abbrev b : ℤ → Term
b k = power (Var 1) k

-- a^2 / b^3: a has the least power, and a times b^2 is put for a, since -3 over 2 is -2, rounded down. That leaves a^2 b
abbrev first : ElimStep
first = step_of (record { variable = 0; power = pos 2 }) (product (a (pos 2) ∷ b (negsuc 2) ∷ []))

first_by : (first.by).terms ≡ b (pos 2) ∷ []
unfolding product
first_by = refl

first_leaves : (unit_after (first ∷ []) (product (a (pos 2) ∷ b (negsuc 2) ∷ []))).terms ≡ a (pos 2) ∷ b (pos 1) ∷ []
unfolding product
first_leaves = refl

first_makes : map (λ (u : PowerMap). u.terms) (units_after (first ∷ []) (atom (Var 0) ∷ atom (Var 1) ∷ [])) ≡ (a (pos 1) ∷ b (pos 2) ∷ []) ∷ (b (pos 1) ∷ []) ∷ []
unfolding product
first_makes = refl

-- where the pivot's power is negative the unit is inverted first: 1 / a^2 b^3 becomes a^2 b^3, and b over 2 is 1
abbrev inverted : ElimStep
inverted = step_of (record { variable = 0; power = negsuc 1 }) (product (a (negsuc 1) ∷ b (negsuc 2) ∷ []))

inverted_is : inverted.inverted ≡ true
inverted_is = refl

inverted_leaves : (unit_after (inverted ∷ []) (product (a (negsuc 1) ∷ b (negsuc 2) ∷ []))).terms ≡ a (pos 2) ∷ b (pos 1) ∷ []
unfolding product
inverted_leaves = refl

first_is_not : first.inverted ≡ false
first_is_not = refl
