-- How a value is printed with decimals and in chosen units: as it always is, but for its numbers.
-- Source: this project's own texts.
use Rattle.std.specs.Prelude.{ℕ, Bool, true, false, List, [], ◌∷◌, ◌++◌, codes, cond, Option, Some, None}
use Rattle.std.specs.Prelude.{Result, Ok, Err}
use Rattle.um_frac.specs.declared.number.Frac.{Frac}
use Rattle.um_frac.specs.declared.number.Trap.{Trap}
use Rattle.um_frac.specs.Arithmetic.{quotient_of}
use Rattle.um_units.specs.declared.Term.{Term}
use Rattle.um_units.specs.PowerMap.{PowerMap, mul, inv}
use Rattle.um_units.specs.Variables.{variables_below}
use Rattle.um_tree.specs.TypeTree.{TypeTree, bool_type, num_type, list_type, record_type}
use Rattle.um_tree.specs.ProgramTree.{ProgramTree}
use Rattle.um_tree.specs.ValueTree.{ValueTree}
use Rattle.um_decimals.specs.Decimals.{decimal_text}
use Rattle.um_show.specs.UnitText.{unit_text}
use Rattle.um_show.specs.ValueText.{suffix_text, text_by}
use Rattle.um_show.specs.ValueText.{number_at as plain_number_at}
use Rattle.um_display.specs.declared.unit.DisplayUnit.{DisplayUnit}

-- ---- the unit of a number

-- two units are the same if their quotient is the unit 1
abbrev pub is_one : List Term → Bool
is_one [] = true
is_one (t ∷ ts) = false

abbrev pub same_unit : PowerMap → PowerMap → Bool
same_unit u v = is_one (mul u (inv v)).terms

-- the first of these units that is this one
abbrev pub first_at : PowerMap → List DisplayUnit → Option DisplayUnit
first_at u [] = None
first_at u (d ∷ ds) = cond (same_unit u d.unit) (Some d) (first_at u ds)

-- the number divided by a size, if there is one
abbrev pub divided : Frac → Option Frac → Result Frac Trap
divided c None = Ok c
divided c (Some d) = quotient_of c d

-- ---- its text, with as many digits after the point as are asked for

module _ (bases : List (List ℕ)) (digits : ℕ) where
  -- with the unit's own text
  abbrev pub own_text : Frac → PowerMap → List ℕ
  own_text c u = decimal_text digits c ++ suffix_text (unit_text bases u) (variables_below 0 u.terms) u.terms

  -- with the label of a unit; with the unit's own text if there is none, or if the quotient overflows
  abbrev pub labelled : List ℕ → Result Frac Trap → List ℕ → List ℕ
  labelled label (Ok w) other = decimal_text digits w ++ codes "<" ++ label ++ codes ">"
  labelled label (Err why) other = other

  abbrev pub in_unit : Frac → PowerMap → Option DisplayUnit → List ℕ
  in_unit c u None = own_text c u
  in_unit c u (Some d) = labelled d.label (divided c d.size) (own_text c u)

  -- a number at a unit with a variable is 0, and is printed as it always is
  abbrev pub number_at : List DisplayUnit → Frac → PowerMap → List ℕ
  number_at units c u =
      cond (variables_below 0 u.terms) (in_unit c u (first_at u units)) (plain_number_at bases c (num_type u))

  -- a number at a type, which is that of a number
  abbrev pub number_display : List DisplayUnit → Frac → TypeTree → List ℕ
  number_display units c (num_type u) = number_at units c u
  number_display units c bool_type = decimal_text digits c
  number_display units c (list_type t) = decimal_text digits c
  number_display units c (record_type r us) = decimal_text digits c

-- ---- the text of a value

abbrev pub display_text : ProgramTree → ℕ → List DisplayUnit → ValueTree → TypeTree → List ℕ
display_text p digits units v t = text_by (number_display p.bases digits units) p v t
