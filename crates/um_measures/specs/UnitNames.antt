-- The unit of a unit text, or its first fault.
-- Source: the F# specification, chapter Units Of Measure; that abbreviations are replaced, and the range of powers, are
-- this project's own.
use Rattle.std.specs.Prelude.{ℕ, Bool, true, false, ◌&&◌, cond, is_some, List, Option, Some, None, Ok, Err}
use Rattle.um_units.specs.declared.Atom.TheVariants.{Var}
use Rattle.um_units.specs.PowerMap.{PowerMap, one, atom, mul, inv, pow}
use Rattle.um_units.specs.Range.{fits}
use Rattle.um_tree.specs.RawTree.{UnitSyntax, UnitSyntaxes, one_syntax, measure_syntax, variable_syntax, power_syntax}
use Rattle.um_tree.specs.RawTree.{side_syntax, times_syntax, over_syntax, inverse_syntax, bracket_syntax, no_units}
use Rattle.um_tree.specs.RawTree.{more_units}
use Rattle.um_measures.specs.Faults.{unknown, range, Found}
use Rattle.um_measures.specs.Known.{number_of, is_among}

-- the place of the first token
abbrev mutual
  pub first_place : UnitSyntax → ℕ
  first_place (one_syntax at) = at
  first_place (measure_syntax at x) = at
  first_place (variable_syntax at x) = at
  first_place (power_syntax u k) = first_place u
  first_place (side_syntax us) = first_of us
  first_place (times_syntax u v) = first_place u
  first_place (over_syntax u v) = first_place u
  first_place (inverse_syntax at u) = at
  first_place (bracket_syntax at u) = at

  pub first_of : UnitSyntaxes → ℕ
  first_of no_units = 0
  first_of (more_units u us) = first_place u

-- the earlier of two places in the order of the text
abbrev pub or_else : Option ℕ → Option ℕ → Option ℕ
or_else None other = other
or_else (Some at) other = Some at

-- the place, where the name isn't known
abbrev pub unless : Bool → ℕ → Option ℕ
unless true at = None
unless false at = Some at

abbrev pub or_one : Option PowerMap → PowerMap
or_one None = one
or_one (Some u) = u

abbrev pub numbered_variable : Option ℕ → Option PowerMap
numbered_variable None = None
numbered_variable (Some k) = Some (atom (Var k))

-- the unit of a variable, of which these are the names in the order of their numbers
abbrev pub variable_unit : List (List ℕ) → List ℕ → Option PowerMap
variable_unit variables x = numbered_variable (number_of variables x)

-- what measures stand for, and the names of the unit variables that are known, in the order of their numbers
module _ (measures : List ℕ → Option PowerMap) (variables : List (List ℕ)) where
  -- the place of the first name or variable that isn't known
  abbrev mutual
    pub unknown_in : UnitSyntax → Option ℕ
    unknown_in (one_syntax at) = None
    unknown_in (measure_syntax at x) = unless (is_some (measures x)) at
    unknown_in (variable_syntax at x) = unless (is_among variables x) at
    unknown_in (power_syntax u k) = unknown_in u
    unknown_in (side_syntax us) = unknown_among us
    unknown_in (times_syntax u v) = or_else (unknown_in u) (unknown_in v)
    unknown_in (over_syntax u v) = or_else (unknown_in u) (unknown_in v)
    unknown_in (inverse_syntax at u) = unknown_in u
    unknown_in (bracket_syntax at u) = unknown_in u

    pub unknown_among : UnitSyntaxes → Option ℕ
    unknown_among no_units = None
    unknown_among (more_units u us) = or_else (unknown_in u) (unknown_among us)

  -- the unit, with powers without bound, where each name is known
  abbrev mutual
    pub unit_of : UnitSyntax → PowerMap
    unit_of (one_syntax at) = one
    unit_of (measure_syntax at x) = or_one (measures x)
    unit_of (variable_syntax at x) = or_one (variable_unit variables x)
    unit_of (power_syntax u k) = pow (unit_of u) k
    unit_of (side_syntax us) = product_of one us
    unit_of (times_syntax u v) = mul (unit_of u) (unit_of v)
    unit_of (over_syntax u v) = mul (unit_of u) (inv (unit_of v))
    unit_of (inverse_syntax at u) = inv (unit_of u)
    unit_of (bracket_syntax at u) = unit_of u

    -- the product of a unit and these, from left to right
    pub product_of : PowerMap → UnitSyntaxes → PowerMap
    product_of before no_units = before
    product_of before (more_units u us) = product_of (mul before (unit_of u)) us

  -- each part has its powers in range, and so has each prefix of a juxtaposition
  abbrev mutual
    pub parts_fit : UnitSyntax → Bool
    parts_fit (one_syntax at) = true
    parts_fit (measure_syntax at x) = true
    parts_fit (variable_syntax at x) = true
    parts_fit (power_syntax u k) = parts_fit u && fits (pow (unit_of u) k)
    parts_fit (side_syntax us) = products_fit one us
    parts_fit (times_syntax u v) = parts_fit u && (parts_fit v && fits (mul (unit_of u) (unit_of v)))
    parts_fit (over_syntax u v) = parts_fit u && (parts_fit v && fits (mul (unit_of u) (inv (unit_of v))))
    parts_fit (inverse_syntax at u) = parts_fit u
    parts_fit (bracket_syntax at u) = parts_fit u

    pub products_fit : PowerMap → UnitSyntaxes → Bool
    products_fit before no_units = true
    products_fit before (more_units u us) =
        parts_fit u && (fits (mul before (unit_of u)) && products_fit (mul before (unit_of u)) us)

  -- the names come first, and then the range
  abbrev pub ranged : UnitSyntax → Option ℕ → Found PowerMap
  ranged u (Some at) = Err (unknown at)
  ranged u None = cond (parts_fit u) (Ok (unit_of u)) (Err (range (first_place u)))

  -- the unit of the text, or its first fault
  abbrev pub resolved_unit : UnitSyntax → Found PowerMap
  resolved_unit u = ranged u (unknown_in u)
