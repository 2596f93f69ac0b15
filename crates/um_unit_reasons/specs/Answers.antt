-- What is found on the way to a reason.
-- Source: this project's own; want of memory may come in place of every answer, and no public clause rests on it.
use Rattle.std.specs.Prelude.{◌≡◌, ◌≤◌, ◌<◌, ℕ, ◌||◌, nat_eq, if◌then◌else◌, Bool, IsTrue, All}
use Rattle.std.specs.Prelude.{List, [], ◌∷◌, ◌++◌, map, length, slice_index_or, slice_get, Some, None, Result, Ok, Err}
use Rattle.std.specs.List.{list_any, list_all}
use Rattle.um_units.specs.declared.UnitStop.{UnitStop}
use Rattle.um_units.specs.declared.UnitStop.TheVariants as units
use Rattle.um_units.specs.Variables.{VariablesBelow}
use Rattle.um_tree.specs.TypeTree.{TypeTree, type_trees}
use Rattle.um_tree.specs.Scheme.{variables}
use Rattle.um_tree.specs.ProgramTree.{FunctionTree, ProgramTree, SchemeTree, program_tree}
use Rattle.um_elim.specs.Numbering.{renumbered}
use Rattle.um_elim.specs.Solution.{parameter_rows}
use Rattle.um_equal_types.specs.declared.row.Row.{Row}
use Rattle.um_equal_types.specs.Steps.{units_of}
use Rattle.um_rows.specs.FirstUnsolvable.{rows_up_to}
use Rattle.um_rows.specs.Judgement.{judge}
use Rattle.um_reasons.specs.CoreLaws.{EndsUnsolvable}
use Rattle.um_agree.specs.declared.agreements.Told.{Told as Agreed}
use Rattle.um_agree.specs.Agreements.{Agreement}
use Rattle.um_agree.specs.RowAgreements.{agreement_of}
use Rattle.um_agree.specs.Answers.{AreKept, agreement_tree, agreement_fits}
use Rattle.um_agree.specs.Laws.{HoldsSlots}
use Rattle.um_infer.specs.Inference.{all_schemes, infer_first}
use Rattle.um_unit_reasons.specs.declared.failing.Failing.{Failing}
use Rattle.um_unit_reasons.specs.declared.function.Function.{Function}
use Rattle.um_unit_reasons.specs.declared.named.Named.{Named}
use Rattle.um_unit_reasons.specs.declared.others.CoreAgreements.{CoreAgreements}
use Rattle.um_unit_reasons.specs.declared.reason.UnitReason.{UnitReason as Kept}
use Rattle.um_unit_reasons.specs.declared.reason.UnitReason.TheVariants as kept
use Rattle.um_unit_reasons.specs.declared.texts.Numbering.{Numbering}
use Rattle.um_unit_reasons.specs.TypeTexts.{named_types, variable_count}
use Rattle.um_unit_reasons.specs.UnitReasons.{UnitReason, told_of, out_of_range, nth_agreement, is_news, others_before}
use Rattle.um_unit_reasons.specs.UnitReasons.{IsPastIn, Refusal, refusal, IsUnitReason, unsolvable, rigid_parameters}

-- what the code keeps
abbrev pub reason_tree : Kept → UnitReason
reason_tree (kept.Told told factor cut_off) = told_of told.items factor cut_off
reason_tree kept.OutOfRange = out_of_range

abbrev pub told_trees : List Agreed → List Agreement
told_trees told = map (λ (t : Agreed). agreement_tree t.agreement) told

-- ---- types with their variables numbered

pub record IsNumberingOf (named : List Named) (types : List TypeTree) (n : Numbering) : Type 0 where
  pub named_are : n.named.items ≡ named
  pub types_are : type_trees n.types ≡ renumbered (named_types named ++ types)
  pub counted : n.count ≡ variable_count named types

-- ---- the agreements of a core

-- these have these numbers, and their types are in range
pub record AreFound (agreed : List Agreement) (numbers : List ℕ) (found : List Agreed) : Type 0 where
  pub numbers_are : map (λ (t : Agreed). t.number) found ≡ numbers
  pub trees_are : told_trees found ≡ map (nth_agreement agreed) numbers
  pub fit : IsTrue (list_all agreement_fits (told_trees found))

-- none is found since a power of one of the core's agreements is out of range
abbrev pub StopsPast : List Agreement → List ℕ → UnitStop → Type 0
StopsPast agreed core units.Range = IsPastIn agreed core
StopsPast agreed core units.NoMemory = Unit {0}

abbrev pub IsPushed :
    List Agreement → List ℕ → ℕ → List ℕ → ℕ → List Agreed → Result (Unit {0}) UnitStop → Type 0
IsPushed agreed core last before j new (Ok _) =
    AreFound agreed
    (if is_news agreed core last before j then before ++ agreement_of agreed j ∷ [] else before) new
IsPushed agreed core last before j new (Err stop) = StopsPast agreed core stop

-- the agreement is at the end, unless it is the last row's or there already
abbrev pub IsAdded : ℕ → Agreed → List Agreed → List Agreed → Type 0
IsAdded last one old new =
    new
    ≡ (if nat_eq one.number last || list_any (λ (t : Agreed). nat_eq one.number t.number) old then old
    else old ++ one ∷ [])

pub record AreAllOf (agreed : List Agreement) (core : List ℕ) (row : ℕ) (c : CoreAgreements) : Type 0 where
  pub last_is : told_trees c.last.items ≡ nth_agreement agreed (agreement_of agreed row) ∷ []
  pub others_are : told_trees c.others.items
      ≡ map (nth_agreement agreed) (others_before agreed core (agreement_of agreed row) row)
  pub last_fits : IsTrue (agreement_fits (nth_agreement agreed (agreement_of agreed row)))
  pub others_fit : IsTrue (list_all agreement_fits (told_trees c.others.items))

abbrev pub AreOfCore : List Agreement → List ℕ → ℕ → Result CoreAgreements UnitStop → Type 0
AreOfCore agreed core row (Ok c) = AreAllOf agreed core row c
AreOfCore agreed core row (Err stop) = StopsPast agreed core stop

-- ---- a function that is refused, as the code has it

abbrev pub refusal_of : Failing → List Agreement → Refusal
refusal_of x agreed = record {
  program = program_tree x.program.now;
  names = x.names.now;
  slot_of = λ v. slice_index_or x.variables.now v None;
  slots = x.found.now.rows.slots;
  agreed = agreed;
  rows = rows_up_to x.row x.found.now.rows.list.items.items;
  parameters = x.parameters;
}

-- its numbers are small
pub record IsLow (x : Failing) : Type 0 where
  pub few : x.found.now.rows.slots ≤ 2000
  pub parameters : x.parameters ≤ x.found.now.rows.slots
  pub bases : length (program_tree x.program.now).bases ≤ 16777216
  pub slots_low : (v s : ℕ) → slice_index_or x.variables.now v None ≡ Some s → s < x.found.now.rows.slots

-- the types hold slots alone
abbrev pub HaveSlots : Failing → List TypeTree → Type 0
HaveSlots x types = All (λ k. k < x.found.now.rows.slots) (variables types)

-- the rows end with the first unsolvable one, and they and the agreements hold slots alone
pub record IsSound (x : Failing) (agreed : List Agreement) : Type 0 where
  pub low : IsLow x
  pub within : x.row < length x.found.now.rows.list.items.items
  pub rows : All (λ (row : Row). VariablesBelow x.found.now.rows.slots row.unit) x.found.now.rows.list.items.items
  pub ends : EndsUnsolvable x.found.now.rows.slots
      (parameter_rows (length (program_tree x.program.now).bases) x.parameters)
      (units_of (rows_up_to x.row x.found.now.rows.list.items.items))
  pub kept : AreKept agreed x.found.now
  pub held : All (HoldsSlots x.found.now.rows.slots) agreed

-- ---- the function of a program

-- given these schemes of the functions before it, function i is judged to have no solution
pub record IsRefused (p : ProgramTree) (schemes : List SchemeTree) (i : ℕ) (rigid : Bool) : Type 0 where
  pub function : FunctionTree
  pub declared : slice_get p.functions i ≡ Some function
  pub before : infer_first p i ≡ all_schemes schemes
  pub row : ℕ
  pub at : ℕ
  pub judged : judge (length p.bases) p.records schemes i function ≡ unsolvable rigid row at

-- what is told of it
abbrev pub IsToldOf : Function → List SchemeTree → UnitReason → Type 0
IsToldOf x schemes r =
    (h : IsRefused (program_tree x.shaped.now) schemes x.number x.rigid)
    × IsUnitReason
    (refusal (program_tree x.shaped.now) schemes x.number h.function x.names.now
    (rigid_parameters x.rigid h.function.units) h.row) r
