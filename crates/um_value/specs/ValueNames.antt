-- The input that a value text stands for, and its first faults: of names, and after them of ranges.
-- Source: the F# specification, chapter Units Of Measure; that names are looked at before ranges, and that `<_>` stands
-- at 0 alone, are this project's own.
use Rattle.std.specs.Prelude.{ℕ, Bool, cond, List, [], pos, Option, Some, None, Ok, Err}
use Rattle.std.specs.Ordering.{int_eq}
use Rattle.um_units.specs.PowerMap.{PowerMap, one}
use Rattle.um_frac.specs.declared.number.Frac.{Frac}
use Rattle.um_frac.specs.Fraction.{numerator}
use Rattle.um_frac.specs.Arithmetic.{negation_of}
use Rattle.um_tree.specs.declared.note.UnitNote.{UnitNote}
use Rattle.um_tree.specs.declared.note.UnitNote.TheVariants.{Hole, Written}
use Rattle.um_tree.specs.RawTree.{NoteSyntax, hole_syntax, unit_note_syntax}
use Rattle.um_tree.specs.ValueTree.{InputTree, InputTrees, truth_input, number_input, list_input, record_input}
use Rattle.um_tree.specs.ValueTree.{no_inputs, more_inputs}
use Rattle.um_measures.specs.Faults.{Fault, unknown, twice, wrong_count, hole, range, Found}
use Rattle.um_measures.specs.UnitNames.{or_else, unless, unknown_in, unit_of, resolved_unit}
use Rattle.um_value.specs.ValueSyntax.{ValueSyntax, ValueSyntaxes, raw_truth, raw_number, raw_list, raw_record}
use Rattle.um_value.specs.ValueSyntax.{raw_none, raw_more}

abbrev pub is_zero : Frac → Bool
is_zero c = int_eq (numerator c) (pos 0)

-- where a fault stands
abbrev pub place_of_fault : Fault → ℕ
place_of_fault (unknown at) = at
place_of_fault (twice at) = at
place_of_fault (wrong_count at) = at
place_of_fault (hole at) = at
place_of_fault (range at) = at

abbrev pub fault_in : {A : Type 0} → Found A → Option ℕ
fault_in (Ok x) = None
fault_in (Err f) = Some (place_of_fault f)

-- the number with its sign
abbrev pub signed_number : Bool → Frac → Frac
signed_number negative value = cond negative (negation_of value) value

-- what measures stand for; no unit variable is known
module _ (measures : List ℕ → Option PowerMap) where
  -- the place of the first measure or variable that isn't known, or of a number other than 0 with `<_>`
  abbrev pub note_fault : ℕ → Frac → Option NoteSyntax → Option ℕ
  note_fault at c None = None
  note_fault at c (Some (hole_syntax place)) = unless (is_zero c) at
  note_fault at c (Some (unit_note_syntax place u)) = unknown_in measures [] u

  abbrev mutual
    pub name_fault : ValueSyntax → Option ℕ
    name_fault (raw_truth b) = None
    name_fault (raw_number at negative value n) = note_fault at value n
    name_fault (raw_list vs) = name_fault_among vs
    name_fault (raw_record r vs) = name_fault_among vs

    pub name_fault_among : ValueSyntaxes → Option ℕ
    name_fault_among raw_none = None
    name_fault_among (raw_more v vs) = or_else (name_fault v) (name_fault_among vs)

  -- the place of the first unit text that stands for no unit; where its names are known, that is one with a part out
  -- of range
  abbrev pub note_range_fault : Option NoteSyntax → Option ℕ
  note_range_fault None = None
  note_range_fault (Some (hole_syntax place)) = None
  note_range_fault (Some (unit_note_syntax place u)) = fault_in (resolved_unit measures [] u)

  abbrev mutual
    pub range_fault : ValueSyntax → Option ℕ
    range_fault (raw_truth b) = None
    range_fault (raw_number at negative value n) = note_range_fault n
    range_fault (raw_list vs) = range_fault_among vs
    range_fault (raw_record r vs) = range_fault_among vs

    pub range_fault_among : ValueSyntaxes → Option ℕ
    range_fault_among raw_none = None
    range_fault_among (raw_more v vs) = or_else (range_fault v) (range_fault_among vs)

  -- a number without a note has the unit 1
  abbrev pub unit_note_of : Option NoteSyntax → UnitNote
  unit_note_of None = Written one
  unit_note_of (Some (hole_syntax place)) = Hole
  unit_note_of (Some (unit_note_syntax place u)) = Written (unit_of measures [] u)

  abbrev mutual
    pub input_of : ValueSyntax → InputTree
    input_of (raw_truth b) = truth_input b
    input_of (raw_number at negative value n) = number_input (signed_number negative value) (unit_note_of n)
    input_of (raw_list vs) = list_input (inputs_of vs)
    input_of (raw_record r vs) = record_input r (inputs_of vs)

    pub inputs_of : ValueSyntaxes → InputTrees
    inputs_of raw_none = no_inputs
    inputs_of (raw_more v vs) = more_inputs (input_of v) (inputs_of vs)
