use Rattle.std.proofs.Common.{◌≡◌, ◌<◌, ◌≤◌, ℕ, length, get_or}
use Rattle.um_verifier.specs.declared.table.Met.TheVariants.{Nobody, Arrived}
use Rattle.um_verifier.proofs.body.first_table.Given as goal

abbrev pub invariant-loop : goal.invariant-loop
invariant-loop l =
    (length l.table.items ≡ l.counter) × (1 ≤ l.counter) × (get_or l.table.items 0 Nobody ≡ Arrived l.stack) × ((t : ℕ) → 0 < t → get_or l.table.items t Nobody ≡ Nobody)
