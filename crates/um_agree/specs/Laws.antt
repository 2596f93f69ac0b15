-- What agreements come to. The definitions do not rest on this.
-- Source: Kennedy (1996): two types unify if their units do.
use Rattle.std.specs.Prelude.{◌≡◌, ◌↔◌, ℕ, ◌<◌, All, List}
use Rattle.std.specs.List.{flat_map}
use Rattle.um_units.specs.PowerMap.{PowerMap}
use Rattle.um_tree.specs.ProgramTree.{RecordTree, FunctionTree, ProgramTree, SchemeTree}
use Rattle.um_tree.specs.Scheme.{type_variables}
use Rattle.um_slots.specs.Slots.{slot_count}
use Rattle.um_tree.specs.Typing.{put}
use Rattle.um_equal_types.specs.Steps.{rows_of, units_of}
use Rattle.um_rows.specs.Equations.{slot_equations}
use Rattle.um_rows.specs.RightShapes.{HaveRightShapes}
use Rattle.um_rows.specs.Solutions.{HaveSchemes}
use Rattle.um_units.specs.Solutions.{Solves}
use Rattle.um_agree.specs.Agreements.{Agreement, agreement_rows}
use Rattle.um_agree.specs.FunctionAgreements.{function_agreements}

-- the rows of a function whose parts have the right shapes are those of its agreements, in order
abbrev pub RowsAreAgreements : Type 0
RowsAreAgreements =
    (records : List RecordTree) (schemes : List SchemeTree) (i : ℕ) (f : FunctionTree) →
    HaveRightShapes (slot_equations records schemes i f).steps →
    rows_of (slot_equations records schemes i f).steps
    ≡ flat_map agreement_rows (function_agreements records schemes i f)

-- units make the rows of an agreement equal to 1 exactly if they make its two types equal
abbrev pub AgreementsAreEqualities : Type 0
AgreementsAreEqualities =
    (a : Agreement) (s : ℕ → PowerMap) →
    Solves s (units_of (agreement_rows a)) ↔ (put s a.first ≡ put s a.second)

-- each variable of the agreement's types is below n
abbrev pub HoldsSlots : ℕ → Agreement → Type 0
HoldsSlots n a = All (λ k. k < n) (type_variables a.first) × All (λ k. k < n) (type_variables a.second)

-- the types of a function's agreements hold its slots alone
abbrev pub AgreementsHoldSlots : Type 0
AgreementsHoldSlots =
    (p : ProgramTree) (schemes : List SchemeTree) (i : ℕ) (f : FunctionTree) → HaveSchemes p schemes i →
    HaveRightShapes (slot_equations p.records schemes i f).steps →
    All (HoldsSlots (slot_count p.records schemes i f)) (function_agreements p.records schemes i f)
