use Rattle.std.proofs.Common.{◌≡◌, ℕ, ◌+◌, ◌-◌, length, get_or, None}
use Rattle.um_slots.proofs.slots.grow.Given as goal

abbrev pub invariant-loop-names : goal.invariant-loop-names
invariant-loop-names l = (j : ℕ) → get_or l.names.items j None ≡ get_or l.initial.names.items j None

abbrev pub decreases-loop-names : goal.decreases-loop-names
decreases-loop-names l = (l.k + 1) - length l.names.items
