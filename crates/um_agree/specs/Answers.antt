-- What the calls of this crate answer.
-- Source: this project's own.
use Rattle.std.specs.Prelude.{◌≡◌, ℕ, Bool, ◌&&◌, IsTrue, IsFalse, List, Some, slice_get, Result, Ok, Err}
use Rattle.um_units.specs.declared.UnitStop.{UnitStop}
use Rattle.um_units.specs.declared.UnitStop.TheVariants as stop
use Rattle.um_tree.specs.TypeTree.{type_tree}
use Rattle.um_tree.specs.ProgramTree.{FunctionTree, ProgramTree, SchemeTree}
use Rattle.um_elim.specs.Application.{type_fits}
use Rattle.um_rows.specs.NodeTypes.{typed_nodes}
use Rattle.um_agree.specs.declared.agreement.Agreement.{Agreement as Made}
use Rattle.um_agree.specs.declared.agreements.Agreements.{Agreements}
use Rattle.um_agree.specs.declared.agreements.Told.{Told}
use Rattle.um_agree.specs.Agreements.{Agreement}
use Rattle.um_agree.specs.FunctionAgreements.{function_agreements}
use Rattle.um_agree.specs.RowAgreements.{agreement_of}
use Rattle.um_agree.specs.Made.{AreAgreed}

-- the agreement that the code keeps
abbrev pub agreement_tree : Made → Agreement
agreement_tree a = record { rule = a.rule; at = a.at; first = type_tree a.first; second = type_tree a.second }

-- the powers of both types are in range
abbrev pub agreement_fits : Agreement → Bool
agreement_fits a = type_fits a.first && type_fits a.second

-- what is kept is of these agreements
abbrev pub AreKept : List Agreement → Agreements → Type 0
AreKept agreed g = AreAgreed agreed (typed_nodes g.nodes) g.rows.list.items.items g.asked.items

-- those of function i of the program
abbrev pub AreAgreementsOf : ProgramTree → List SchemeTree → ℕ → Agreements → Type 0
AreAgreementsOf p schemes i g =
    (f : FunctionTree) → slice_get p.functions i ≡ Some f → AreKept (function_agreements p.records schemes i f) g

-- the agreement of this number, or a power of its types is out of range
abbrev pub IsTold : List Agreement → ℕ → Result Told UnitStop → Type 0
IsTold agreed k (Ok told) =
    (told.number ≡ agreement_of agreed k)
    × (slice_get agreed (agreement_of agreed k) ≡ Some (agreement_tree told.agreement))
    × IsTrue (agreement_fits (agreement_tree told.agreement))
IsTold agreed k (Err stop.Range) =
    (a : Agreement) → slice_get agreed (agreement_of agreed k) ≡ Some a → IsFalse (agreement_fits a)
IsTold agreed k (Err stop.NoMemory) = Unit {0}
