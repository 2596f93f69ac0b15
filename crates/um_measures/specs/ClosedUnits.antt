-- Closed unit texts, where a program and its abbreviations are given.
-- Source: the F# specification, chapter Units Of Measure; that abbreviations are replaced is this project's own.
use Rattle.std.specs.Prelude.{ℕ, List, [], Option, Some, None, Ok}
use Rattle.um_units.specs.declared.Atom.TheVariants.{Base}
use Rattle.um_units.specs.PowerMap.{PowerMap, atom}
use Rattle.um_tree.specs.declared.note.UnitNote.{UnitNote}
use Rattle.um_tree.specs.declared.note.UnitNote.TheVariants as note
use Rattle.um_tree.specs.ProgramTree.{ProgramTree}
use Rattle.um_tree.specs.RawTree.{UnitSyntax}
use Rattle.um_measures.specs.declared.abbreviation.Abbreviation.{Abbreviation}
use Rattle.um_measures.specs.Faults.{Found, and_then}
use Rattle.um_measures.specs.Known.{Known, measure_unit}
use Rattle.um_measures.specs.UnitNames.{resolved_unit}

abbrev pub base_unit : Option ℕ → Option PowerMap
base_unit None = None
base_unit (Some k) = Some (atom (Base k))

abbrev pub first_of_both : Option PowerMap → Option PowerMap → Option PowerMap
first_of_both None other = other
first_of_both (Some u) other = Some u

-- a program with its abbreviations
abbrev pub given : ProgramTree → List Abbreviation → Known
given p shorts = record { program = p; shorts = shorts }

-- the text's unit as a note: no unit variable is known
abbrev pub closed_note : ProgramTree → List Abbreviation → UnitSyntax → Found UnitNote
closed_note p shorts u = and_then (resolved_unit (measure_unit (given p shorts)) [] u) (λ v. Ok (note.Written v))
