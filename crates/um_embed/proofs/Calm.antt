-- A source that meets no fault, and a sink that met none.
use Rattle.std.proofs.Common.{◌≡◌, ap, ℕ, ◌≤◌, List, Some, inl, inr, arith}
use Rattle.um_wire.specs.Faults.{Rose}
use Rattle.um_tool.specs.Served.{IsComplete, IsUndisturbed}

pub calm : (before now : ℕ) → now ≤ 0 → Rose before now → ⊥
unfolding Rose
calm before now none (inl more) = omega (arith, none, more)
calm before now none (inr is) = omega (arith, none, is)

pub undisturbed : (words : List (List ℕ)) (text left : List ℕ) → left ≡ text → IsComplete words text
    → IsUndisturbed words (Some left) 0 0
undisturbed words text left same complete =
    record { bytes = text; told = ap Some same; complete = complete; calm = calm 0 0 (omega arith) }
