use Rattle.std.proofs.Common.{◌≡◌, ◌≤◌, ◌+◌, take, not, filter, count_by}
use Rattle.std.specs.List.{suffix_len}
use Rattle.um_reports.specs.Places.{is_line_feed, begins_character}
use Rattle.um_reports.proofs.cursor.moved.Given as goal

abbrev pub invariant-loop-k : goal.invariant-loop-k
invariant-loop-k l =
    (l.line ≡ count_by is_line_feed (take l.k l.bytes) + 1) × (l.line ≤ l.k + 1)
    × (l.column ≡ suffix_len (λ b. not (is_line_feed b)) (filter begins_character (take l.k l.bytes)) + 1) × (l.column ≤ l.k + 1)
