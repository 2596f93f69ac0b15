use Rattle.std.proofs.Common.{◌≡◌, take, map}
use Rattle.um_names.specs.TypeNames.{written_unit}
use Rattle.um_names.proofs.types.written_units.Given as goal

abbrev pub invariant-loop-note : goal.invariant-loop-note
invariant-loop-note l = l.items.items ≡ map written_unit (take l.note-index l.notes)
