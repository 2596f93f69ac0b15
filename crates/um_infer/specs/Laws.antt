-- What the inference of a program comes to. The definitions do not rest on this.
-- Source: Kennedy (1996): a typable function has a principal scheme, and the inference finds it. It has many, which are
-- equal but for a change of their variables.
use Rattle.std.specs.Prelude.{◌≡◌, ◌↔◌, ◌⊎◌, ℕ, ◌<◌, ◌≤◌, List, length, Some, slice_get}
use Rattle.um_tree.specs.TypeTree.{TypeTree}
use Rattle.um_tree.specs.ProgramTree.{RecordTree, FunctionTree, ProgramTree, SchemeTree}
use Rattle.um_tree.specs.ValueTree.{InputTrees}
use Rattle.um_tree.specs.InputType.{IsResultOfCall, IsTypeOfCall}
use Rattle.um_tree.specs.Formed.{IsFormed, AreFormedInputs}
use Rattle.um_slots.specs.Slots.{slot_count}
use Rattle.um_rows.specs.Solutions.{HaveSchemes}
use Rattle.um_rows.specs.Laws.{IsFirstRow, AreSolvableUpTo}
use Rattle.um_rows.specs.Judgement.{has_scheme, too_many_slots, passes_range, has_no_typing, not_general, judge}
use Rattle.um_infer.specs.Inference.{Inference, all_schemes, stops_at_slots, stops_at_range, stops_at_units}
use Rattle.um_infer.specs.Inference.{stops_at_not_general, infer}
use Rattle.um_infer.specs.Schemes.{ArePrincipal, AreTyped, IsJudged}
use Rattle.um_infer.specs.Schemes.{IsFirstUntyped, IsFirstWithoutUnits, IsFirstNotGeneral}
use Rattle.um_infer.specs.CallJudgement.{judge_call}

-- ---- schemes

-- the schemes that a formed program is given are as many as its functions, principal and numbered
abbrev pub GivenSchemesArePrincipal : Type 0
GivenSchemesArePrincipal =
    (p : ProgramTree) → IsFormed p → (schemes : List SchemeTree) →
    infer p ≡ all_schemes schemes → ArePrincipal p (length p.functions) schemes

-- a scheme of at most 2,000 variables and 16 parameters
abbrev pub IsSmallScheme : SchemeTree → Type 0
IsSmallScheme s = (s.vars ≤ 2000) × (length s.signature.params ≤ 16)

-- each scheme that a formed program is given is so small
abbrev pub GivenSchemesAreSmall : Type 0
GivenSchemesAreSmall =
    (p : ProgramTree) → IsFormed p → (schemes : List SchemeTree) → infer p ≡ all_schemes schemes →
    (i : ℕ) (s : SchemeTree) → slice_get schemes i ≡ Some s → IsSmallScheme s

-- a function has too many slots or passes the range, where those before have their schemes
abbrev pub IsLimited : Inference → Type 0
IsLimited (all_schemes schemes) = ⊥
IsLimited (stops_at_slots i) = Unit {0}
IsLimited (stops_at_range i at) = Unit {0}
IsLimited (stops_at_units i row at) = ⊥
IsLimited (stops_at_not_general i row at) = ⊥

abbrev pub GivesSchemes : Inference → Type 0
GivesSchemes r = (schemes : List SchemeTree) × (r ≡ all_schemes schemes)

-- schemes are given exactly where every function has a typing and no limit is passed
abbrev pub SchemesAreGivenToTyped : Type 0
SchemesAreGivenToTyped =
    (p : ProgramTree) → IsFormed p →
    GivesSchemes (infer p) ↔ (AreTyped p (length p.functions) × (IsLimited (infer p) → ⊥))

-- ---- stops

-- a stop for units is at the first function without a typing, at its first unsolvable row, and no units satisfy the
-- rows up to it
abbrev pub UnitsStopAtFirstUntyped : Type 0
UnitsStopAtFirstUntyped =
    (p : ProgramTree) → IsFormed p → (i row at : ℕ) →
    infer p ≡ stops_at_units i row at → IsFirstWithoutUnits p i row at

-- a stop for want of generality is there too, but some units satisfy these rows
abbrev pub NotGeneralStopsAtFirstUntyped : Type 0
NotGeneralStopsAtFirstUntyped =
    (p : ProgramTree) → IsFormed p → (i row at : ℕ) →
    infer p ≡ stops_at_not_general i row at → IsFirstNotGeneral p i row at

-- so a program whose every function has a typing stops for slots or range alone
abbrev pub TypedStopForLimits : Type 0
TypedStopForLimits =
    (p : ProgramTree) → IsFormed p → AreTyped p (length p.functions) →
    (i row at : ℕ) → (infer p ≡ stops_at_units i row at) ⊎ (infer p ≡ stops_at_not_general i row at) → ⊥

-- each stop comes exactly where a function is judged so, and all before it have their schemes
abbrev pub SlotStopsAreExact : Type 0
SlotStopsAreExact = (p : ProgramTree) (i : ℕ) → infer p ≡ stops_at_slots i ↔ IsJudged p i too_many_slots

abbrev pub RangeStopsAreExact : Type 0
RangeStopsAreExact =
    (p : ProgramTree) (i at : ℕ) → infer p ≡ stops_at_range i at ↔ IsJudged p i (passes_range at)

abbrev pub UnitStopsAreExact : Type 0
UnitStopsAreExact =
    (p : ProgramTree) (i row at : ℕ) → infer p ≡ stops_at_units i row at ↔ IsJudged p i (has_no_typing row at)

abbrev pub NotGeneralStopsAreExact : Type 0
NotGeneralStopsAreExact =
    (p : ProgramTree) (i row at : ℕ) → infer p ≡ stops_at_not_general i row at ↔ IsJudged p i (not_general row at)

-- too many slots are more than 2,000
abbrev pub ManySlotsAreCounted : Type 0
ManySlotsAreCounted =
    (bases : ℕ) (records : List RecordTree) (schemes : List SchemeTree) (i : ℕ) (f : FunctionTree) →
    judge bases records schemes i f ≡ too_many_slots ↔ (2000 < slot_count records schemes i f)

-- ---- the first unsolvable row of a function, and which principal schemes the functions before it have

-- by each list of schemes of the functions before it, the function has the same first unsolvable row
abbrev pub FirstRowIsOne : Type 0
FirstRowIsOne =
    (p : ProgramTree) (schemes others : List SchemeTree) (i : ℕ) (f : FunctionTree) →
    HaveSchemes p schemes i → HaveSchemes p others i →
    (k at : ℕ) → IsFirstRow p schemes i f k at ↔ IsFirstRow p others i f k at

-- and the rows up to row k have a joint solution by one list exactly if they have one by another
abbrev pub SolvableRowsAreOne : Type 0
SolvableRowsAreOne =
    (p : ProgramTree) (schemes others : List SchemeTree) (i : ℕ) (f : FunctionTree) →
    HaveSchemes p schemes i → HaveSchemes p others i →
    (k : ℕ) → AreSolvableUpTo p schemes i f k ↔ AreSolvableUpTo p others i f k

-- so the row at which the first function without a typing is named is its first unsolvable one by all principal schemes
-- of the functions before
abbrev pub FirstUntypedByAllSchemes : Type 0
FirstUntypedByAllSchemes =
    (p : ProgramTree) (i row at : ℕ) (h : IsFirstUntyped p i row at) (others : List SchemeTree) →
    ArePrincipal p i others → IsFirstRow p others i h.function row at

-- ---- calls, where the schemes of all functions are given

-- the type that a call is judged to have is a type of the call
abbrev pub JudgedCallTypes : Type 0
JudgedCallTypes =
    (p : ProgramTree) (schemes : List SchemeTree) (k : ℕ) (f : FunctionTree) (inputs : InputTrees) →
    IsFormed p → infer p ≡ all_schemes schemes → slice_get p.functions k ≡ Some f →
    AreFormedInputs (length p.bases) inputs →
    (s : SchemeTree) → judge_call p schemes k f inputs ≡ has_scheme s → IsTypeOfCall p k inputs s.signature.result

-- a call that is judged to have no typing has no result
abbrev pub JudgedCallRefusals : Type 0
JudgedCallRefusals =
    (p : ProgramTree) (schemes : List SchemeTree) (k : ℕ) (f : FunctionTree) (inputs : InputTrees) →
    IsFormed p → infer p ≡ all_schemes schemes → slice_get p.functions k ≡ Some f →
    AreFormedInputs (length p.bases) inputs →
    (row at : ℕ) → judge_call p schemes k f inputs ≡ has_no_typing row at →
    (t : TypeTree) → IsResultOfCall p k inputs t → ⊥
