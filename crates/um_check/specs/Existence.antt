-- That certificates exist: the inverse substitution of a most general solution, how it follows the elimination steps,
-- and the product of rows that refutes.
-- Source: this project's own, after Kennedy (1996): a most general unifier is kept with an inverse of it.
use Rattle.std.specs.Prelude.{◌≡◌, ℕ, ◌<◌, if◌then◌else◌, List, [], ◌∷◌, map, length, ℤ, pos}
use Rattle.std.proofs.Common.{neg_ℤ}
use Rattle.um_units.specs.declared.Atom.{Atom}
use Rattle.um_units.specs.declared.Atom.TheVariants.{Base, Var}
use Rattle.um_units.specs.Atoms.{same_atom}
use Rattle.um_units.specs.PowerMap.{PowerMap, product, power_of, one, atom, mul, inv, pow, replace, nth, extension}
use Rattle.um_check.specs.declared.certificate.Part.{Part}
use Rattle.um_check.specs.Refutation.{IsApart}
use Rattle.um_elim.specs.declared.elim_step.ElimStep.{ElimStep}
use Rattle.um_elim.specs.ElimStep.{signed}

-- ---- the inverse substitution: a unit for each atom. Powers of rows are units over the variables that are the rows'
-- numbers

-- up to the divisor each slot goes to its unit and back, but for the rows to the powers in its parts
pub record IsInverse
    (rows solution : List PowerMap) (back : Atom → PowerMap) (divisor : ℤ) (parts : ℕ → PowerMap) : Type 0 where
  pub by_rows : (j : ℕ) → j < length solution →
      pow (mul (extension back (nth solution j)) (inv (atom (Var j)))) divisor ≡ replace (nth rows) (parts j)

-- ---- elimination steps

-- inverted as often as the steps invert
abbrev pub signed_by : List ElimStep → PowerMap → PowerMap
signed_by [] u = u
signed_by (t ∷ ts) u = signed_by ts (signed t.inverted u)

-- if x times w is put for x, what x goes back to is divided by what w goes back to
abbrev pub divided_inverse : ℕ → PowerMap → (Atom → PowerMap) → Atom → PowerMap
divided_inverse m w back y = if same_atom (Var m) y then mul (back y) (inv (extension back w)) else back y

abbrev pub inverse_after : List ElimStep → (Atom → PowerMap) → Atom → PowerMap
inverse_after [] back = back
inverse_after (t ∷ ts) back = inverse_after ts (divided_inverse t.variable t.by back)

-- ---- the end of row k

abbrev pub at_slot : (ℕ → PowerMap) → Atom → PowerMap
at_slot parts (Base n) = one
at_slot parts (Var j) = parts j

-- the rows' powers that the row itself goes back to: over its slots its powers times their parts, and the divisor at k
abbrev pub total : (ℕ → PowerMap) → PowerMap → ℕ → ℤ → PowerMap
total parts row k divisor = mul (extension (at_slot parts) row) (pow (atom (Var k)) divisor)

-- the parts if the steps left x^p and x becomes 1: p times those before, less e times t, where e is x's power in the
-- slot's unit
abbrev pub parts_after : ℕ → ℕ → PowerMap → List PowerMap → (ℕ → PowerMap) → ℕ → PowerMap
parts_after m p t solution parts j = mul (pow (parts j) (pos p)) (pow t (neg_ℤ (power_of (nth solution j) (Var m))))

-- ---- what there is for all rows

-- an inverse substitution from the units, which leaves base units
pub record HasInverse (rows solution : List PowerMap) : Type 0 where
  pub back : Atom → PowerMap
  pub divisor : ℕ
  pub positive : 0 < divisor
  pub bases : (n : ℕ) → back (Base n) ≡ atom (Base n)
  pub parts : ℕ → PowerMap
  pub kept : IsInverse rows solution back (pos divisor) parts

-- a product of rows that can't become 1
pub record HasRefutation (rows : List PowerMap) : Type 0 where
  pub last : ℕ
  pub inside : last < length rows
  pub modulus : ℤ
  pub row_powers : PowerMap
  pub apart : IsApart modulus (replace (nth rows) row_powers)

-- a certificate's parts as a unit over the rows' numbers
abbrev pub exponents : List Part → PowerMap
exponents ps = product (map (λ p. record { atom = Var p.row; power = p.times }) ps)
