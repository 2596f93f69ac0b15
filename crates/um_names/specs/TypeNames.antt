-- The note of a type text, or its first fault.
-- Source: the F# specification, chapter Units Of Measure; the order of the checks is this project's own.
use Rattle.std.specs.Prelude.{ℕ, Bool, cond, ◌==◌, List, map, length, slice_get, Option, Some, None, Ok, Err}
use Rattle.um_units.specs.PowerMap.{PowerMap, one}
use Rattle.um_tree.specs.declared.note.UnitNote.{UnitNote}
use Rattle.um_tree.specs.declared.note.UnitNote.TheVariants as note
use Rattle.um_tree.specs.TypeTree.{TypeTree, bool_type, num_type, list_type, record_type, NoteTree, bool_note}
use Rattle.um_tree.specs.TypeTree.{num_note, list_note, record_note}
use Rattle.um_tree.specs.ProgramTree.{RecordTree}
use Rattle.um_tree.specs.RawTree.{NoteSyntax, hole_syntax, unit_note_syntax, TypeSyntax, bool_syntax, num_syntax}
use Rattle.um_tree.specs.RawTree.{record_syntax, list_type_syntax, bracket_type_syntax}
use Rattle.um_measures.specs.Faults.{unknown, wrong_count, hole, Found, and_then, each}
use Rattle.um_measures.specs.Known.{Known, number_of, record_names, measure_unit}
use Rattle.um_measures.specs.UnitNames.{resolved_unit}

-- a record has as many units as are declared
abbrev pub counted : Option RecordTree → ℕ → ℕ → ℕ → Found ℕ
counted None r n at = Err (unknown at)
counted (Some d) r n at = cond (n == d.units) (Ok r) (Err (wrong_count at))

abbrev pub declared_record : List RecordTree → Option ℕ → ℕ → ℕ → Found ℕ
declared_record records None n at = Err (unknown at)
declared_record records (Some r) n at = counted (slice_get records r) r n at

-- the number of the record of this name, with so many units
abbrev pub resolved_record : Known → List ℕ → ℕ → ℕ → Found ℕ
resolved_record known x n at =
    declared_record known.program.records (number_of (record_names known.program.records) x) n at

-- `_`, where a hole may stand
abbrev pub hole_note : Bool → ℕ → Found UnitNote
hole_note holes at = cond holes (Ok note.Hole) (Err (hole at))

-- what is known, the unit variables that are known, and whether a hole may stand
module _ (known : Known) (variables : List (List ℕ)) (holes : Bool) where
  abbrev pub resolved_note : NoteSyntax → Found UnitNote
  resolved_note (hole_syntax at) = hole_note holes at
  resolved_note (unit_note_syntax at u) =
      and_then (resolved_unit (measure_unit known) variables u) (λ v. Ok (note.Written v))

  abbrev pub resolved_notes : List NoteSyntax → Found (List UnitNote)
  resolved_notes ns = each resolved_note ns

  -- no note is the unit 1
  abbrev pub resolved_number : Option NoteSyntax → Found UnitNote
  resolved_number None = Ok (note.Written one)
  resolved_number (Some n) = resolved_note n

  -- brackets leave nothing
  abbrev pub resolved_type : TypeSyntax → Found NoteTree
  resolved_type bool_syntax = Ok bool_note
  resolved_type (num_syntax n) = and_then (resolved_number n) (λ m. Ok (num_note m))
  resolved_type (record_syntax at x ns) =
      and_then (resolved_record known x (length ns) at) (λ r.
      and_then (resolved_notes ns) (λ ms. Ok (record_note r ms)))
  resolved_type (list_type_syntax t) = and_then (resolved_type t) (λ n. Ok (list_note n))
  resolved_type (bracket_type_syntax t) = resolved_type t

-- the unit of a note without a hole
abbrev pub written_unit : UnitNote → PowerMap
written_unit note.Hole = one
written_unit (note.Written u) = u

abbrev pub written_units : List UnitNote → List PowerMap
written_units ns = map written_unit ns

-- the type of a note without holes
abbrev pub written_type : NoteTree → TypeTree
written_type bool_note = bool_type
written_type (num_note n) = num_type (written_unit n)
written_type (list_note n) = list_type (written_type n)
written_type (record_note r ns) = record_type r (written_units ns)
