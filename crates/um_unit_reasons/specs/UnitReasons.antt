-- Why the units of a function disagree: the agreement that fails, the factor between its two types, and the agreements
-- that force it to fail.
-- Source: Kennedy (1996); Tamiz, Mardle and Jones (1996). What is told is this project's own.
use Rattle.std.specs.Prelude.{◌≡◌, ◌⊎◌, ℕ, zero, suc, ◌+◌, ◌-◌, ◌&&◌, ◌||◌, not, nat_eq, nat_lt, if◌then◌else◌, Bool}
use Rattle.std.specs.Prelude.{true, false}
use Rattle.std.specs.Prelude.{IsTrue, IsFalse, List, [], ◌∷◌, ◌++◌, map, length, get_or, drop, Option, Some, None}
use Rattle.std.specs.Prelude.{Contains}
use Rattle.std.specs.List.{flat_map, list_any, list_all}
use Rattle.um_units.specs.PowerMap.{PowerMap}
use Rattle.um_tree.specs.RawTree.{DeclSyntax}
use Rattle.um_tree.specs.TypeTree.{TypeTree, bool_type}
use Rattle.um_tree.specs.ProgramTree.{FunctionTree, ProgramTree, SchemeTree}
use Rattle.um_tree.specs.Typing.{moved}
use Rattle.um_elim.specs.Solution.{parameter_rows}
use Rattle.um_slots.specs.Keys.{Key, name}
use Rattle.um_slots.specs.Slots.{function_slots, slot_count, has_slot, place}
use Rattle.um_equal_types.specs.declared.row.Row.{Row}
use Rattle.um_equal_types.specs.Steps.{rows_of, units_of}
use Rattle.um_rows.specs.Equations.{slot_equations}
use Rattle.um_rows.specs.FirstUnsolvable.{rows_up_to}
use Rattle.um_rows.specs.Judgement.{Judgement, has_no_typing, not_general}
use Rattle.um_rows.specs.Generalised.{generalised_unit}
use Rattle.um_reasons.specs.Core.{IsCore}
use Rattle.um_agree.specs.declared.rule.Rule.TheVariants as asks
use Rattle.um_agree.specs.Agreements.{Agreement}
use Rattle.um_agree.specs.FunctionAgreements.{function_agreements}
use Rattle.um_agree.specs.RowAgreements.{agreement_of}
use Rattle.um_agree.specs.Answers.{agreement_fits}
use Rattle.um_reasons.specs.Reasons.{Reason, disagree, units_pass, reason}
use Rattle.um_infer.specs.Schemes.{IsJudged}
use Rattle.um_unit_reasons.specs.declared.named.Named.{Named}
use Rattle.um_unit_reasons.specs.VariableNames.{named_from, letters, function_variables}
use Rattle.um_unit_reasons.specs.declared.reason.Told.{Told}
use Rattle.um_unit_reasons.specs.TypeTexts.{told, numbered, variable_count, variable_texts}

-- the agreement that fails and the others of the core, the factor, and whether the core was cut off; or a power is out
-- of range
pub data UnitReason : Type 0 where
  told_of : List Told → Option PowerMap → Bool → UnitReason
  out_of_range : UnitReason

-- the k-th, counted from 0
abbrev pub nth_agreement : List Agreement → ℕ → Agreement
nth_agreement agreed k = get_or agreed k (record { rule = asks.Sum; at = 0; first = bool_type; second = bool_type })

-- ---- the other agreements of a core
module _ (agreed : List Agreement) (core : List ℕ) (last : ℕ) where
  -- row j asks for an agreement to be told that isn't: it is one of the core, and of another agreement than the last's
  abbrev pub is_news : List ℕ → ℕ → Bool
  is_news before j =
      list_any (nat_eq j) core
      && not (nat_eq (agreement_of agreed j) last || list_any (nat_eq (agreement_of agreed j)) before)

  -- the numbers of the others that have one of the first n rows, in order, each once
  abbrev pub others_before : ℕ → List ℕ
  others_before zero = []
  others_before (suc j) =
      let before = others_before j in if is_news before j then before ++ agreement_of agreed j ∷ [] else before

-- the two types of each, in order
abbrev pub types_of : List Agreement → List TypeTree
types_of agreed = flat_map (λ (a : Agreement). a.first ∷ a.second ∷ []) agreed

-- a row of the core is of an agreement whose types are out of range
abbrev pub IsPastIn : List Agreement → List ℕ → Type 0
IsPastIn agreed core =
    (j : ℕ) × Contains core j × IsFalse (agreement_fits (nth_agreement agreed (agreement_of agreed j)))

-- ---- a function of which the rows up to one have no joint solution
pub record Refusal : Type 0 where
  pub program : ProgramTree
  -- the names of its named variables in the order of their numbers, and their slots, if they have some
  pub names : List (List ℕ)
  pub slot_of : ℕ → Option ℕ
  pub slots : ℕ
  -- the agreements of the function, and its rows up to the first unsolvable one
  pub agreed : List Agreement
  pub rows : List Row
  -- 0 if no units satisfy the rows, and otherwise the number of its unit parameters, which are then units of their own
  pub parameters : ℕ

module _ (x : Refusal) where
  abbrev pub bases : ℕ
  bases = length x.program.bases

  abbrev pub last_row : ℕ
  last_row = length x.rows - 1

  abbrev pub last : Agreement
  last = nth_agreement x.agreed (agreement_of x.agreed last_row)

  abbrev pub others : List ℕ → List Agreement
  others core =
      map (nth_agreement x.agreed) (others_before x.agreed core (agreement_of x.agreed last_row) last_row)

  -- ---- variables

  -- in the agreement that fails a unit parameter alone has its name. It is a variable past the slots
  abbrev pub own_variable : ℕ → Option ℕ
  own_variable v = if nat_lt v x.parameters then Some (x.slots + v) else None

  abbrev pub own_named : List Named
  own_named = named_from own_variable 0 x.names

  -- in the others each named variable has its name
  abbrev pub other_named : List Named
  other_named = named_from x.slot_of 0 x.names

  -- ---- types

  abbrev pub own_types : TypeTree → TypeTree → List TypeTree
  own_types first second = map (moved (generalised_unit bases x.parameters x.slots)) (first ∷ second ∷ [])

  -- the letters of the agreement that fails come before those of the others
  abbrev pub free_of : List TypeTree → List TypeTree → List (List ℕ)
  free_of own types = letters x.names (variable_count own_named own + variable_count other_named types)

  -- own: the types of the agreement that fails
  abbrev pub told_types : List TypeTree → List Agreement → List Agreement → List Told
  told_types own failed agreed =
      let free = free_of own (types_of agreed) in
      told x.program (variable_texts own_named free) failed (numbered own_named own)
      ++ told x.program (variable_texts other_named (drop (variable_count own_named own - length own_named) free))
      agreed (numbered other_named (types_of agreed))

  -- ---- of a core

  abbrev pub by_reason : List ℕ → Bool → Reason → UnitReason
  by_reason core cut_off units_pass = out_of_range
  by_reason core cut_off (disagree first second factor) =
      told_of (told_types (own_types first second) (last ∷ []) (others core)) factor cut_off

  abbrev pub core_reason : List ℕ → Bool → UnitReason
  core_reason core cut_off =
      by_reason core cut_off
      (reason bases x.parameters x.slots (units_of x.rows) core last.first last.second)

  -- the types as they were formed are in range
  abbrev pub fit : List ℕ → Bool
  fit core = list_all agreement_fits (last ∷ others core)

  abbrev pub IsOfCore : List ℕ → Bool → UnitReason → Type 0
  IsOfCore core cut_off r =
      (IsTrue (fit core) × (r ≡ core_reason core cut_off)) ⊎ (IsPastIn x.agreed core × (r ≡ out_of_range))

  -- what is told of the function's core
  abbrev pub IsUnitReason : UnitReason → Type 0
  IsUnitReason r =
      (core : List ℕ) × (cut_off : Bool)
      × IsCore x.slots (parameter_rows bases x.parameters) (units_of x.rows) core cut_off
      × IsOfCore core cut_off r

-- ---- function i, of which row k is the first unsolvable one, given the schemes of the functions before it

abbrev pub slot_in : List Key → ℕ → Option ℕ
slot_in order v = if has_slot order (name v) then Some (place order (name v)) else None

abbrev pub refusal : ProgramTree → List SchemeTree → ℕ → FunctionTree → List (List ℕ) → ℕ → ℕ → Refusal
refusal p schemes i f names parameters k = record {
  program = p;
  names = names;
  slot_of = slot_in (function_slots p.records schemes i f);
  slots = slot_count p.records schemes i f;
  agreed = function_agreements p.records schemes i f;
  rows = rows_up_to k (rows_of (slot_equations p.records schemes i f).steps);
  parameters = parameters;
}

-- ---- the first function of a program that is refused for units

-- either no units satisfy its rows, or some do, but none in which each unit parameter is a unit of its own
abbrev pub unsolvable : Bool → ℕ → ℕ → Judgement
unsolvable false row at = has_no_typing row at
unsolvable true row at = not_general row at

abbrev pub rigid_parameters : Bool → ℕ → ℕ
rigid_parameters false n = 0
rigid_parameters true n = n

-- function i is refused so, and this is told of it. declared: the program as it is written
abbrev pub IsReasonOf : List DeclSyntax → ProgramTree → ℕ → Bool → UnitReason → Type 0
IsReasonOf declared p i rigid r =
    (row : ℕ) × (at : ℕ) × (j : IsJudged p i (unsolvable rigid row at))
    × IsUnitReason
    (refusal p j.schemes i j.function (function_variables declared i) (rigid_parameters rigid j.function.units) row) r
