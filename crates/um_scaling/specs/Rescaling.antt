-- A rescaling gives each base unit and each unit variable a positive factor; the factor of a unit is the product of
-- these to the unit's powers.
-- Source: Kennedy (1997). That a factor is a pair of whole numbers is this project's own.
use Rattle.std.specs.Prelude.{◌≡◌, ℕ, suc, ◌*◌, ◌^◌, ◌<◌, List, [], ◌∷◌, ℤ, pos, negsuc, ◌*ℤ◌}
use Rattle.um_frac.specs.declared.number.Frac.{Frac}
use Rattle.um_frac.specs.Fraction.{numerator, denominator}
use Rattle.um_units.specs.declared.Atom.{Atom}
use Rattle.um_units.specs.declared.Term.{Term}
use Rattle.um_units.specs.PowerMap.{PowerMap}

-- the rational number top / bottom
pub record Factor : Type 0 where
  pub top : ℕ
  pub bottom : ℕ

abbrev pub IsPositive : Factor → Type 0
IsPositive f = (0 < f.top) × (0 < f.bottom)

-- two pairs are the same rational number, by cross multiplication
abbrev pub SameFactor : Factor → Factor → Type 0
SameFactor f g = f.top * g.bottom ≡ g.top * f.bottom

abbrev pub no_change : Factor
no_change = record { top = 1; bottom = 1 }

abbrev pub times : Factor → Factor → Factor
times f g = record { top = f.top * g.top; bottom = f.bottom * g.bottom }

-- the factor to a power; a negative power swaps the pair
abbrev pub to_power : Factor → ℤ → Factor
to_power f (pos n) = record { top = f.top ^ n; bottom = f.bottom ^ n }
to_power f (negsuc n) = record { top = f.bottom ^ suc n; bottom = f.top ^ suc n }

-- a factor for each atom
abbrev pub Rescaling : Type 0
Rescaling = Atom → Factor

abbrev pub ArePositive : Rescaling → Type 0
ArePositive r = (x : Atom) → IsPositive (r x)

-- the product over the terms, each atom's factor to the term's power
abbrev pub factor_of_terms : Rescaling → List Term → Factor
factor_of_terms r [] = no_change
factor_of_terms r (t ∷ ts) = times (to_power (r t.atom) t.power) (factor_of_terms r ts)

abbrev pub factor : Rescaling → PowerMap → Factor
factor r u = factor_of_terms r u.terms

-- the number d is c times the factor, by cross multiplication
abbrev pub IsScaled : Factor → Frac → Frac → Type 0
IsScaled f c d =
    numerator d *ℤ (denominator c *ℤ pos f.bottom) ≡ (numerator c *ℤ pos f.top) *ℤ denominator d
