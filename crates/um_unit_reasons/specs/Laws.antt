-- Whether rows have a joint solution is decided, so each function that is refused for units has a reason. Powers are
-- without bound here.
-- Source: Kennedy (1996), unification in the free abelian group; Tamiz, Mardle and Jones (1996), the additive method.
use Rattle.std.specs.Prelude.{ℕ, ◌≤◌, ◌⊎◌, Bool, All, List, ◌++◌}
use Rattle.um_units.specs.PowerMap.{PowerMap}
use Rattle.um_units.specs.Variables.{VariablesBelow}
use Rattle.um_units.specs.Solutions.{IsSolvable}
use Rattle.um_tree.specs.RawTree.{DeclSyntax}
use Rattle.um_tree.specs.ProgramTree.{ProgramTree}
use Rattle.um_tree.specs.Shapes.{IsShaped}
use Rattle.um_tree.specs.Formed.{IsFormed}
use Rattle.um_elim.specs.Solution.{parameter_rows}
use Rattle.um_infer.specs.Schemes.{IsJudged}
use Rattle.um_unit_reasons.specs.UnitReasons.{UnitReason, unsolvable, IsReasonOf}

-- rows over slots, with the equations of unit parameters, have a joint solution, or they have none
abbrev pub RowsAreDecided : Type 0
RowsAreDecided =
    (slots bases parameters : ℕ) (rows : List PowerMap) → parameters ≤ slots → All (VariablesBelow slots) rows →
    IsSolvable slots (parameter_rows bases parameters ++ rows)
    ⊎ (IsSolvable slots (parameter_rows bases parameters ++ rows) → ⊥)

-- a function of a formed program with its shapes that is refused for units has a reason
abbrev pub RefusalsHaveReasons : Type 0
RefusalsHaveReasons =
    (declared : List DeclSyntax) (p : ProgramTree) (i : ℕ) (rigid : Bool) (row at : ℕ) → IsFormed p → IsShaped p →
    IsJudged p i (unsolvable rigid row at) → (r : UnitReason) × IsReasonOf declared p i rigid r
