-- How a unit is printed.
-- Source: this project's own texts, in the notation of the F# specification, Units Of Measure.
use Rattle.std.specs.Prelude.{ℕ, ◌+◌, ◌/◌, ◌%◌, Bool, List, [], ◌∷◌, ◌++◌, codes, nat_lt, nat_eq, if◌then◌else◌}
use Rattle.std.specs.Prelude.{filter, get_or, pos, nat_abs, int_lt}
use Rattle.std.specs.List.{join_by}
use Rattle.std.specs.Cmp.Lexicographic.{slice_cmp}
use Rattle.std.specs.Ordering.{nat_cmp, is_lt, on, then_cmp}
use Rattle.std.specs.declared.cmp.Ordering.{Ordering}
use Rattle.std.specs.Fmt.{decimal}
use Rattle.um_units.specs.declared.Atom.{Atom}
use Rattle.um_units.specs.declared.Atom.TheVariants.{Base, Var}
use Rattle.um_units.specs.declared.Term.{Term}
use Rattle.um_units.specs.PowerMap.{PowerMap}
use Rattle.um_show.specs.declared.printed_unit.Variables.{Variables}
use Rattle.um_show.specs.declared.printed_unit.Variables.TheVariants.{Letters, Named}

-- ---- the order of atoms

-- the name of a base unit
abbrev pub base_name : List (List ℕ) → ℕ → List ℕ
base_name bases k = get_or bases k []

-- base units stand before variables
abbrev pub order_key : List (List ℕ) → Atom → List ℕ
order_key bases (Base k) = 0 ∷ base_name bases k
order_key bases (Var k) = 1 ∷ []

abbrev pub atom_number : Atom → ℕ
atom_number (Base k) = k
atom_number (Var k) = k

-- base units in the byte order of their names, and then variables; where these are the same, by number
abbrev pub atom_order : List (List ℕ) → Atom → Atom → Ordering
atom_order bases = then_cmp (on (order_key bases) (slice_cmp nat_cmp)) (on atom_number nat_cmp)

abbrev pub stands_before : List (List ℕ) → Term → Term → Bool
stands_before bases s t = is_lt (atom_order bases s.atom t.atom)

-- the term at its place among terms that stand in the order of printing
abbrev pub with_term : List (List ℕ) → Term → List Term → List Term
with_term bases t [] = t ∷ []
with_term bases t (s ∷ ss) = if stands_before bases t s then t ∷ s ∷ ss else s ∷ with_term bases t ss

-- the terms in the order of printing
abbrev pub ordered_terms : List (List ℕ) → List Term → List Term
ordered_terms bases [] = []
ordered_terms bases (t ∷ ts) = with_term bases t (ordered_terms bases ts)

-- ---- the text

-- variable k is a letter, and after 26 of them a letter with a number
abbrev pub variable_text : ℕ → List ℕ
variable_text k = codes "'" ++ (97 + k % 26) ∷ (if nat_lt k 26 then [] else decimal (k / 26))

-- the power, where it isn't 1
abbrev pub exponent_text : ℕ → List ℕ
exponent_text n = if nat_eq n 1 then [] else codes "^" ++ decimal n

-- a factor has a power above 0, and a divisor one below it
abbrev pub is_factor : Term → Bool
is_factor t = int_lt (pos 0) t.power

abbrev pub is_divisor : Term → Bool
is_divisor t = int_lt t.power (pos 0)

-- ---- if each variable has this text
module _ (variable : ℕ → List ℕ) (bases : List (List ℕ)) where
  abbrev pub atom_text : Atom → List ℕ
  atom_text (Base k) = base_name bases k
  atom_text (Var k) = variable k

  -- an atom with its power, the sign dropped
  abbrev pub factor_text : Term → List ℕ
  factor_text t = atom_text t.atom ++ exponent_text (nat_abs t.power)

  abbrev pub factors_text : List Term → List ℕ
  factors_text ts = join_by factor_text (codes " ") ts

  -- the divisors stand after one `/`
  abbrev pub divisors_text : List Term → List ℕ
  divisors_text [] = []
  divisors_text (t ∷ ts) = codes "/" ++ factors_text (t ∷ ts)

  -- terms in the order of printing; `1` where there are none
  abbrev pub terms_text : List Term → List ℕ
  terms_text [] = codes "1"
  terms_text (t ∷ ts) =
      factors_text (filter is_factor (t ∷ ts)) ++ divisors_text (filter is_divisor (t ∷ ts))

  abbrev pub named_unit_text : PowerMap → List ℕ
  named_unit_text u = terms_text (ordered_terms bases u.terms)

-- with letters for variables
abbrev pub unit_text : List (List ℕ) → PowerMap → List ℕ
unit_text bases u = named_unit_text variable_text bases u

-- how the code is told to print variables: by letters, or by these texts, in the order of their numbers
abbrev pub variable_by : Variables → ℕ → List ℕ
variable_by Letters k = variable_text k
variable_by (Named texts) k = get_or texts.now k []
