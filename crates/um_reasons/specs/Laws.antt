-- What the two types of a reason come to. The definitions do not rest on this.
-- Source: Kennedy (1996): a most general unifier.
use Rattle.std.specs.Prelude.{◌≡◌, ℕ, ◌-◌, ◌<◌, ◌≤◌, All, List, ◌++◌, length, slice_index_or, false, Option, Contains}
use Rattle.um_units.specs.PowerMap.{PowerMap, one, nth}
use Rattle.um_units.specs.Variables.{VariablesBelow}
use Rattle.um_units.specs.Solutions.{IsJointSolution}
use Rattle.um_tree.specs.TypeTree.{TypeTree}
use Rattle.um_tree.specs.Typing.{put}
use Rattle.um_tree.specs.Scheme.{type_variables}
use Rattle.um_elim.specs.Solution.{parameter_rows}
use Rattle.um_equal_types.specs.Steps.{units_of}
use Rattle.um_agree.specs.Agreements.{Agreement, agreement_rows}
use Rattle.um_reasons.specs.Core.{IsCore}
use Rattle.um_reasons.specs.CoreLaws.{EndsUnsolvable}
use Rattle.um_reasons.specs.Reasons.{disagree, numbered, other_rows, reason}

-- the rows and the two types hold slots alone, of which the first are those of the unit parameters
pub record HoldSlots (slots parameters : ℕ) (rows : List PowerMap) (a : Agreement) : Type 0 where
  pub few : parameters ≤ slots
  pub rows_below : All (VariablesBelow slots) rows
  pub first_below : All (λ k. k < slots) (type_variables a.first)
  pub second_below : All (λ k. k < slots) (type_variables a.second)

-- the rows end with the first unsolvable one, which is of the agreement, and they have this core, which isn't cut off
pub record IsExplained (slots bases parameters : ℕ) (rows : List PowerMap) (core : List ℕ) (a : Agreement)
    : Type 0 where
  pub ends : EndsUnsolvable slots (parameter_rows bases parameters) rows
  pub whole : IsCore slots (parameter_rows bases parameters) rows core false
  pub asked : Contains (units_of (agreement_rows a)) (slice_index_or rows (length rows - 1) one)

-- what any joint solution of the core's other rows gives for the two types is an instance of those that are told
abbrev pub ToldTypesAreMostGeneral : Type 0
ToldTypesAreMostGeneral =
    (slots bases parameters : ℕ) (rows : List PowerMap) (core : List ℕ) (a : Agreement) →
    HoldSlots slots parameters rows a → (first second : TypeTree) (factor : Option PowerMap) →
    reason bases parameters slots rows core a.first a.second ≡ disagree first second factor → (units : List PowerMap) →
    IsJointSolution slots (parameter_rows bases parameters ++ numbered rows (other_rows (length rows) core)) units →
    (s : ℕ → PowerMap) × (put (nth units) a.first ≡ put s first) × (put (nth units) a.second ≡ put s second)

-- these hold slots alone
abbrev pub ToldTypesHoldSlots : Type 0
ToldTypesHoldSlots =
    (slots bases parameters : ℕ) (rows : List PowerMap) (core : List ℕ) (a : Agreement) →
    HoldSlots slots parameters rows a → (first second : TypeTree) (factor : Option PowerMap) →
    reason bases parameters slots rows core a.first a.second ≡ disagree first second factor →
    All (λ k. k < slots) (type_variables first) × All (λ k. k < slots) (type_variables second)

-- and no instance makes them equal
abbrev pub ToldTypesNeverAgree : Type 0
ToldTypesNeverAgree =
    (slots bases parameters : ℕ) (rows : List PowerMap) (core : List ℕ) (a : Agreement) →
    HoldSlots slots parameters rows a → IsExplained slots bases parameters rows core a →
    (first second : TypeTree) (factor : Option PowerMap) →
    reason bases parameters slots rows core a.first a.second ≡ disagree first second factor → (s : ℕ → PowerMap) →
    put s first ≡ put s second → ⊥
