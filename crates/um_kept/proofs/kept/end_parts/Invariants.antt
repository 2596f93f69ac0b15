use Rattle.std.proofs.Common.{◌≡◌, ◌<◌, ◌≤◌, ℕ, length, nat_abs}
use Rattle.std.specs.Prelude.{All, slice_index_or}
use Rattle.um_units.specs.PowerMap.{one}
use Rattle.um_wide.specs.Room.{IsNarrow}
use Rattle.um_kept.specs.Steps.{parts_at}
use Rattle.um_kept.proofs.kept.end_parts.Given as goal

abbrev pub invariant-loop-j : goal.invariant-loop-j
invariant-loop-j l = record {
  count : length l.parts.items ≡ length l.initial.parts.items;
  done : (i : ℕ) → i < l.j → slice_index_or l.parts.items i one ≡ parts_at l.m (nat_abs l.p) l.total l.solution l.initial.parts.items i;
  rest : (i : ℕ) → l.j ≤ i → slice_index_or l.parts.items i one ≡ slice_index_or l.initial.parts.items i one;
  narrow : All IsNarrow l.parts.items;
}
