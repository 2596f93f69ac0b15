-- What the validity of certificates comes to, however they were made. The definitions do not rest on this.
-- Source: Kennedy (1996): the group of units is free, so that no unit but 1 has a power that is 1.
use Rattle.std.specs.Prelude.{◌≡◌, ◌↔◌, ℕ, ◌<◌, All, List}
use Rattle.um_units.specs.PowerMap.{PowerMap, nth}
use Rattle.um_units.specs.Variables.{VariablesBelow}
use Rattle.um_units.specs.Solutions.{IsJointSolution}
use Rattle.um_tree.specs.ProgramTree.{Signature, SchemeTree}
use Rattle.um_tree.specs.Typing.{put_signature}
use Rattle.um_tree.specs.Scheme.{variables, signature_types, IsInstance}
use Rattle.um_rows.specs.Solutions.{IsRigid}
use Rattle.um_elim.specs.Elimination.{Solved, NoSolution, eliminate_rows}
use Rattle.um_elim.specs.Solution.{own_variables}
use Rattle.um_check.specs.declared.certificate.Yes.{Yes}
use Rattle.um_check.specs.declared.certificate.No.{No}
use Rattle.um_check.specs.Validity.{IsValidYes}
use Rattle.um_check.specs.Refutation.{IsValidNo, HasNone}
use Rattle.um_check.specs.Existence.{HasInverse, HasRefutation}

-- some joint solution of the rows gives the signature h for the types g over slots
abbrev pub Gives : ℕ → List PowerMap → Signature → Signature → Type 0
Gives slots rows g h = (units : List PowerMap) × IsJointSolution slots rows units × (h ≡ put_signature (nth units) g)

-- the instances of the scheme of a valid Yes are exactly what the joint solutions give, where rows and types hold slots
-- alone
abbrev pub ValidYesIsExact : Type 0
ValidYesIsExact =
    (bases parameters slots : ℕ) (rows : List PowerMap) (g : Signature) (s : SchemeTree) (c : Yes) →
    All (VariablesBelow slots) rows → All (λ k. k < slots) (variables (signature_types g)) →
    IsValidYes bases parameters slots rows g s c → (h : Signature) → IsInstance s h ↔ Gives slots rows g h

-- and with unit parameters some joint solution has a unit of its own for each
abbrev pub ValidYesIsGeneral : Type 0
ValidYesIsGeneral =
    (bases parameters slots : ℕ) (rows : List PowerMap) (g : Signature) (s : SchemeTree) (c : Yes) →
    0 < parameters → IsValidYes bases parameters slots rows g s c →
    (units : List PowerMap) × IsJointSolution slots rows units × IsRigid bases parameters units

-- the rows of a valid No up to its last have no joint solution, or where it isn't loose none in which each unit
-- parameter is a unit of its own
abbrev pub ValidNoRefutes : Type 0
ValidNoRefutes =
    (bases parameters : ℕ) (rows : List PowerMap) (c : No) →
    IsValidNo bases parameters rows c → HasNone c.loose bases parameters rows c.last

-- ---- certificates exist

-- what the elimination solves has an inverse substitution
abbrev pub SolvedRowsHaveInverses : Type 0
SolvedRowsHaveInverses =
    (rows : List PowerMap) (slots : ℕ) (vs : List PowerMap) → All (VariablesBelow slots) rows →
    eliminate_rows (own_variables slots) rows ≡ Solved vs → HasInverse rows vs

-- and what it refuses has a product of rows that can't become 1
abbrev pub RefusedRowsHaveRefutations : Type 0
RefusedRowsHaveRefutations =
    (rows : List PowerMap) (slots : ℕ) → All (VariablesBelow slots) rows →
    eliminate_rows (own_variables slots) rows ≡ NoSolution → HasRefutation rows
