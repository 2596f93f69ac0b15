-- Counts of faults. This project's own.
use Rattle.std.specs.Prelude.{◌≡◌, ℕ, ◌+◌, ◌-◌, ◌^◌, ◌<◌, min, ◌⊎◌, Result, is_err, if◌then◌else◌}

-- a count, one higher; at the greatest number of 64 bits it stands still
abbrev pub next_count : ℕ → ℕ
next_count count = min (count + 1) (2 ^ 64 - 1)

-- a count of faults after a call: one higher if the call failed
abbrev pub fault_count : {T E : Type 0} → Result T E → ℕ → ℕ
fault_count result before = if is_err result then next_count before else before

-- a count rose between two moments: it is greater now than before, or it stands at the greatest number of 64 bits
unfoldable pub Rose : ℕ → ℕ → Type 0
Rose before now = (before < now) ⊎ (now ≡ 2 ^ 64 - 1)
