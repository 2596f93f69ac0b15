use Rattle.std.proofs.Common.{◌≡◌, ◌≤◌, ◌+◌, take, count_by}
use Rattle.um_reports.specs.Places.{begins_character}
use Rattle.um_reports.proofs.place.position_of.Given as goal

abbrev pub invariant-loop-byte : goal.invariant-loop-byte
invariant-loop-byte l = (l.position ≡ count_by begins_character (take l.byte-index l.before) + 1) × (l.position ≤ l.byte-index + 1)
