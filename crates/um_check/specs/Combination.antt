-- Products of rows to integer powers, which a certificate names by its parts.
-- Source: Kennedy (1996): what follows from equations in the free abelian group are the products of them to integer
-- powers, and what has such a product as a power. That parts are a list is this project's own.
use Rattle.std.specs.Prelude.{◌≡◌, ℕ, ◌<◌, List, [], ◌∷◌, All, ℤ, ◌*ℤ◌}
use Rattle.um_units.specs.PowerMap.{PowerMap, one, mul, pow, nth}
use Rattle.um_check.specs.declared.certificate.Part.{Part}

-- the product of the rows to the powers that the parts name
abbrev pub combined : List PowerMap → List Part → PowerMap
combined rows [] = one
combined rows (p ∷ ps) = mul (pow (nth rows p.row) p.times) (combined rows ps)

-- each part names a row before row n
abbrev pub NamesRowsBelow : ℕ → List Part → Type 0
NamesRowsBelow n parts = All (λ p. p.row < n) parts

-- z is m times an integer
abbrev pub IsMultiple : ℤ → ℤ → Type 0
IsMultiple m z = (q : ℤ) × (z ≡ m *ℤ q)
