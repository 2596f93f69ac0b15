-- One step of the elimination: the substitution that brings each other power of a unit below the pivot's.
-- Source: Kennedy (1996), on unification in the free abelian group: x is replaced by x times the product over the
-- other atoms y of y to the power of the negated quotient, rounded down, of y's power and x's.
use Rattle.std.specs.Prelude.{◌≡◌, ℕ, ◌==◌, if◌then◌else◌, Bool, true, false, Option, Some, None, map, ℤ, pos, negsuc}
use Rattle.std.specs.Prelude.{nat_abs}
use Rattle.um_units.specs.declared.Atom.TheVariants.{Var}
use Rattle.um_units.specs.PowerMap.{PowerMap, product, atom, mul, inv}
use Rattle.um_pivots.specs.declared.pivot.Pivot.{Pivot}
use Rattle.um_pivots.specs.Pivot.{pivot}
use Rattle.um_pivots.specs.Quotients.{less_quotient}
use Rattle.um_elim.specs.declared.elim_step.ElimStep.{ElimStep}

-- w for variable m, and each other variable for itself
abbrev pub substitute : ℕ → PowerMap → ℕ → PowerMap
substitute m w k = if m == k then w else atom (Var k)

-- variable m times w for variable m
abbrev pub multiply : ℕ → PowerMap → ℕ → PowerMap
multiply m w = substitute m (mul (atom (Var m)) w)

-- the product over the atoms y of r other than variable m of y^(-floor(a/p)), where a is the power of y in r
abbrev pub quotients : ℕ → ℕ → PowerMap → PowerMap
quotients m p r = product (map (less_quotient m p) r.terms)

-- the step at variable m, whose power in r is p
abbrev pub step : ℕ → ℕ → PowerMap → ℕ → PowerMap
step m p r = multiply m (quotients m p r)

-- inverted if the power is negative
abbrev pub inverted_if_negative : ℤ → PowerMap → PowerMap
inverted_if_negative (pos n) r = r
inverted_if_negative (negsuc n) r = inv r

-- ---- a step as data

abbrev pub is_negative : ℤ → Bool
is_negative (pos n) = false
is_negative (negsuc n) = true

-- inverted, or as it is
abbrev pub signed : Bool → PowerMap → PowerMap
signed true r = inv r
signed false r = r

-- the step of r at a pivot
abbrev pub step_of : Pivot → PowerMap → ElimStep
step_of p r = record {
  variable = p.variable;
  inverted = is_negative p.power;
  by = quotients p.variable (nat_abs p.power) (inverted_if_negative p.power r);
}

-- at the pivot of r
abbrev pub IsStepOf : PowerMap → ElimStep → Type 0
IsStepOf r t = (p : Pivot) × (pivot r ≡ Some p) × (t ≡ step_of p r)

-- it is the next one, or there is none if r holds no variable
abbrev pub IsNextStep : PowerMap → Option ElimStep → Type 0
IsNextStep r None = pivot r ≡ None
IsNextStep r (Some t) = IsStepOf r t
