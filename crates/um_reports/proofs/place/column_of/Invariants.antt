use Rattle.std.proofs.Common.{◌≡◌, ◌≤◌, ◌+◌, take, not, filter}
use Rattle.std.specs.List.{suffix_len}
use Rattle.um_reports.specs.Places.{is_line_feed, begins_character}
use Rattle.um_reports.proofs.place.column_of.Given as goal

abbrev pub invariant-loop-byte : goal.invariant-loop-byte
invariant-loop-byte l = (l.column ≡ suffix_len (λ b. not (is_line_feed b)) (filter begins_character (take l.byte-index l.before)) + 1) × (l.column ≤ l.byte-index + 1)
