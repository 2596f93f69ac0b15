-- The code's: what the checkers look at, piece by piece.
-- Source: this project's own; no public clause rests on it.
use Rattle.std.specs.Prelude.{◌≡◌, ℕ, ◌+◌, ◌-◌, ◌<◌, nat_lt, nat_le, Bool, true, false, not, ◌&&◌, ◌||◌, if◌then◌else◌}
use Rattle.std.specs.Prelude.{List, [], map, length, All, slice_index_or, ℤ, pos, ◌+ℤ◌}
use Rattle.std.specs.List.{list_all}
use Rattle.std.specs.Int.{int_rem_euclid}
use Rattle.std.specs.Int.Signed.{◌<ℤ◌}
use Rattle.um_units.specs.declared.Atom.{Atom}
use Rattle.um_units.specs.declared.Atom.TheVariants.{Base, Var}
use Rattle.um_units.specs.Terms.{is_zero}
use Rattle.um_units.specs.PowerMap.{PowerMap, power_of, atom, mul, inv, pow, replace, nth}
use Rattle.um_units.specs.Variables.{VariablesBelow, variables_below}
use Rattle.um_units.specs.declared.wide.WideTerm.{WideTerm}
use Rattle.um_wide.specs.Room.{IsNarrow}
use Rattle.um_tree.specs.TypeTree.{TypeTree, bool_type, num_type, list_type, record_type}
use Rattle.um_tree.specs.ProgramTree.{SchemeTree}
use Rattle.um_tree.specs.Scheme.{variables, signature_types}
use Rattle.um_check.specs.declared.certificate.Part.{Part}
use Rattle.um_check.specs.declared.certificate.Yes.{Yes}
use Rattle.um_check.specs.Combination.{combined, NamesRowsBelow}

-- ---- of a No

-- the variable of a slot that no unit parameter has
abbrev pub is_free : ℕ → Atom → Bool
is_free parameters (Base n) = false
is_free parameters (Var k) = nat_le parameters k

-- the remainder is 0
abbrev pub divides : ℤ → ℤ → Bool
divides m z = is_zero (int_rem_euclid z m)

-- the power of unit parameter k, which is a variable and a base unit at once
abbrev pub total : ℕ → PowerMap → ℕ → ℤ
total bases u k = power_of u (Var k) +ℤ power_of u (Base (bases + k))

-- the power z of an atom, or where it is a parameter's that of the parameter
abbrev pub rigid_power : ℕ → ℕ → PowerMap → Atom → ℤ → ℤ
rigid_power bases parameters u (Var k) z = if nat_lt k parameters then total bases u k else z
rigid_power bases parameters u (Base n) z =
    if nat_le bases n && nat_lt (n - bases) parameters then total bases u (n - bases) else z

abbrev pub slots_divided : ℤ → ℕ → List WideTerm → Bool
slots_divided m parameters = list_all (λ w. not (is_free parameters w.atom) || divides m w.power)

abbrev pub is_left : ℤ → ℕ → ℕ → PowerMap → WideTerm → Bool
is_left m bases parameters u w =
    not (is_free parameters w.atom) && not (divides m (rigid_power bases parameters u w.atom w.power))

-- ---- of a Yes

-- the type with units put in is the other, form by form
abbrev pub Becomes : (ℕ → PowerMap) → TypeTree → TypeTree → Type 0
Becomes s bool_type bool_type = Unit {0}
Becomes s (num_type u) (num_type v) = replace s u ≡ v
Becomes s (list_type t) (list_type w) = Becomes s t w
Becomes s (record_type r us) (record_type q vs) = (r ≡ q) × (map (replace s) us ≡ vs)
Becomes s t w = ⊥

abbrev pub units_below : ℕ → List PowerMap → Bool
units_below n = list_all (λ u. variables_below n u.terms)

abbrev pub type_below : ℕ → TypeTree → Bool
type_below n bool_type = true
type_below n (num_type u) = variables_below n u.terms
type_below n (list_type t) = type_below n t
type_below n (record_type r us) = units_below n us

-- there is a unit and a list of parts for each slot and a way back for each variable, the divisor is positive, and
-- variables are below their numbers
pub record IsSized (slots : ℕ) (s : SchemeTree) (c : Yes) : Type 0 where
  pub units : length c.solution ≡ slots
  pub parts : length c.parts ≡ length c.solution
  pub back : length c.back ≡ c.vars
  pub positive : pos 0 <ℤ c.divisor
  pub below : All (VariablesBelow c.vars) c.solution
  pub own : All (λ k. k < s.vars) (variables (signature_types s.signature))

-- one slot comes back
pub record SlotComesBack
    (rows back : List PowerMap) (unit : PowerMap) (j : ℕ) (divisor : ℤ) (parts : List Part) : Type 0 where
  pub by_rows : pow (mul (replace (nth back) unit) (inv (atom (Var j)))) divisor ≡ combined rows parts
  pub narrow : IsNarrow (mul (replace (nth back) unit) (inv (atom (Var j))))

-- each slot comes back by parts that name rows of the list
abbrev pub AllComeBack : List PowerMap → List PowerMap → List PowerMap → ℤ → List (List Part) → Type 0
AllComeBack rows solution back divisor parts =
    (j : ℕ) → j < length solution →
    NamesRowsBelow (length rows) (slice_index_or parts j [])
    × SlotComesBack rows back (nth solution j) j divisor (slice_index_or parts j [])
