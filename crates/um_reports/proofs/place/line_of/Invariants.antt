use Rattle.std.proofs.Common.{◌≡◌, ◌≤◌, ◌+◌, take, count_by}
use Rattle.um_reports.specs.Places.{is_line_feed}
use Rattle.um_reports.proofs.place.line_of.Given as goal

abbrev pub invariant-loop-byte : goal.invariant-loop-byte
invariant-loop-byte l = (l.line ≡ count_by is_line_feed (take l.byte-index l.before) + 1) × (l.line ≤ l.byte-index + 1)
