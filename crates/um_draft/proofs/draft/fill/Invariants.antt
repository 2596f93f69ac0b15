use Rattle.std.proofs.Common.{◌≡◌, ◌≤◌, ◌+◌, length, take}
use Rattle.um_draft.proofs.draft.fill.Given as goal

abbrev pub invariant-loop-left : goal.invariant-loop-left
invariant-loop-left l = record {
  grows : length l.fn.bytes.items ≤ length l.bytes.items;
  front : take (length l.fn.bytes.items) l.bytes.items ≡ l.fn.bytes.items;
  room : length l.fn.bytes.items + l.missing ≤ length l.bytes.items + l.left;
}

abbrev pub decreases-loop-left : goal.decreases-loop-left
decreases-loop-left l = l.left
