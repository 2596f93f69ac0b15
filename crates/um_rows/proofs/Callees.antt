-- The signatures at which a callee may be used.
use Rattle.std.proofs.Common.{◌≡◌}
use Rattle.um_tree.specs.ProgramTree.{Signature}
use Rattle.um_tree.specs.Scheme.{IsInstance}
use Rattle.um_slots.specs.Holes.{Callee, known_by, itself, nobody}

-- an earlier function at each instance of its scheme, the function itself at its own signature
abbrev pub Offers : Signature → Callee → Signature → Type 0
Offers self (known_by s) g = IsInstance s g
Offers self itself g = g ≡ self
Offers self nobody g = ⊥
