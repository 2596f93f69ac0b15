-- What makes a Yes valid, and what it is to show.
-- Source: Kennedy (1996) on most general unifiers in the free abelian group. The form of a Yes is this project's own.
use Rattle.std.specs.Prelude.{◌≡◌, ◌↔◌, ℕ, zero, suc, ◌<◌, List, [], length, All, slice_index_or, ℤ, pos}
use Rattle.std.specs.Int.Signed.{◌<ℤ◌}
use Rattle.um_units.specs.declared.Atom.TheVariants.{Var}
use Rattle.um_units.specs.PowerMap.{PowerMap, atom, mul, inv, pow, replace, nth}
use Rattle.um_units.specs.Variables.{VariablesBelow}
use Rattle.um_units.specs.Solutions.{IsJointSolution}
use Rattle.um_wide.specs.Room.{IsNarrow}
use Rattle.um_tree.specs.ProgramTree.{Signature, SchemeTree}
use Rattle.um_tree.specs.Typing.{put_signature}
use Rattle.um_tree.specs.Scheme.{variables, signature_types, IsInstance}
use Rattle.um_equal_types.specs.declared.row.Rows.{Rows}
use Rattle.um_equal_types.specs.Steps.{units_of}
use Rattle.um_rows.specs.Solutions.{IsRigid}
use Rattle.um_rows.specs.Answers.{rows_signature, IsGivenBy}
use Rattle.um_check.specs.declared.certificate.Part.{Part}
use Rattle.um_check.specs.declared.certificate.Yes.{Yes}
use Rattle.um_check.specs.Combination.{combined, NamesRowsBelow}

-- the solution's unit for slot j with `back` put for its variables, over slot j
abbrev pub returned : List PowerMap → List PowerMap → ℕ → PowerMap
returned solution back j = mul (replace (nth back) (nth solution j)) (inv (atom (Var j)))

-- up to a positive power each slot goes to its unit of the solution and back, but for a product of rows. Before that
-- power is taken its powers lie in 64 bits
pub record ComesBack
    (slots : ℕ) (rows solution back : List PowerMap) (divisor : ℤ) (parts : List (List Part)) : Type 0 where
  pub positive : pos 0 <ℤ divisor
  pub per_slot : length parts ≡ slots
  pub named : All (NamesRowsBelow (length rows)) parts
  pub by_rows : (j : ℕ) → j < slots →
      pow (returned solution back j) divisor ≡ combined rows (slice_index_or parts j [])
  pub narrow : (j : ℕ) → j < slots → IsNarrow (returned solution back j)

-- with unit parameters the units are a joint solution in which each parameter is a unit of its own, and without them
-- there are none
abbrev pub ShowsGeneral : ℕ → ℕ → ℕ → List PowerMap → List PowerMap → Type 0
ShowsGeneral bases slots zero rows units = units ≡ []
ShowsGeneral bases slots (suc n) rows units = IsJointSolution slots rows units × IsRigid bases (suc n) units

-- the certificate is valid for the scheme s of rows over so many slots, with types g over the slots. It has a way back
-- for each of its variables
pub record IsValidYes
    (bases parameters slots : ℕ) (rows : List PowerMap) (g : Signature) (s : SchemeTree) (c : Yes) : Type 0 where
  pub solves : IsJointSolution slots rows c.solution
  pub below : All (VariablesBelow c.vars) c.solution
  pub back_count : length c.back ≡ c.vars
  pub gives : put_signature (nth c.solution) g ≡ s.signature
  pub own : All (λ k. k < s.vars) (variables (signature_types s.signature))
  pub comes_back : ComesBack slots rows c.solution c.back c.divisor c.parts
  pub general : ShowsGeneral bases slots parameters rows c.rigid

-- ---- what it is to show

-- the rows and the types hold slots alone
pub record HoldSlots (r : Rows) : Type 0 where
  pub rows : All (VariablesBelow r.slots) (units_of r.list.items.items)
  pub types : All (λ k. k < r.slots) (variables (signature_types (rows_signature r)))

-- the scheme's instances are exactly what the joint solutions of the rows give
abbrev pub IsExactScheme : Rows → SchemeTree → Type 0
IsExactScheme r s = (h : Signature) → IsInstance s h ↔ IsGivenBy r h
