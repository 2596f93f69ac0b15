-- When units make each row of a node equal to 1.
use Rattle.std.proofs.Common.{ℕ, List, [], ◌∷◌}
use Rattle.um_units.specs.PowerMap.{PowerMap}
use Rattle.um_tree.specs.TypeTree.{TypeTree}
use Rattle.um_equal_types.specs.Steps.{Step, type_at}
use Rattle.um_equal_types.proofs.HeldSteps.{Holds, Holds-front, Holds-append, never_solved}
use Rattle.um_rows.specs.Rules.{formed, mismatch}

pub Holds-formed : (v : ℕ → PowerMap) (at : ℕ) (rows : List Step) (t : TypeTree) → Holds v (formed at rows t).steps → Holds v rows
Holds-formed v at rows t h = Holds-front v rows (type_at at t ∷ []) h

pub formed-holds : (v : ℕ → PowerMap) (at : ℕ) (rows : List Step) (t : TypeTree) → Holds v rows → Holds v (formed at rows t).steps
formed-holds v at rows t h = Holds-append v rows (type_at at t ∷ []) h tt

pub mismatch_fails : {A : Type 0} (v : ℕ → PowerMap) (at : ℕ) → Holds v (mismatch at).steps → A
mismatch_fails v at h = never_solved v h.0
