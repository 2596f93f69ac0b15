-- What the equations come to: how they say which typings a function has. The definitions do not rest on this.
-- Source: Kennedy (1996): the inference of units is sound and complete.
use Rattle.std.specs.Prelude.{◌≡◌, ◌↔◌, ℕ, ◌<◌, All, List, [], length, map, Some, slice_get}
use Rattle.um_units.specs.Variables.{VariablesBelow}
use Rattle.um_units.specs.Solutions.{IsSolvable}
use Rattle.um_tree.specs.ProgramTree.{RecordTree, FunctionTree, ProgramTree, Signature, SchemeTree}
use Rattle.um_tree.specs.TypeTree.{TypeTree}
use Rattle.um_tree.specs.ValueTree.{InputTrees}
use Rattle.um_tree.specs.Typing.{IsLooseTypingOf, IsRigidTypingOf, typings_below, Typing}
use Rattle.um_tree.specs.InputType.{IsResultOfCall, IsTypeOfCall}
use Rattle.um_tree.specs.Formed.{IsFormed, AreFormedInputs}
use Rattle.um_tree.specs.Laws.{LiteralsAreClosed}
use Rattle.um_tree.specs.Shapes.{ShapeSignature, FunctionShape}
use Rattle.um_tree.specs.Scheme.{IsPrincipal, IsNumberedScheme, variables, signature_types}
use Rattle.um_elim.specs.Solution.{parameter_rows}
use Rattle.um_equal_types.specs.Steps.{rows_of, units_of}
use Rattle.um_slots.specs.Slots.{slot_count}
use Rattle.um_rows.specs.Equations.{slot_equations}
use Rattle.um_rows.specs.Solutions.{function_rows, slot_signature, IsSolved, IsRigidlySolved, HaveSchemes}
use Rattle.um_rows.specs.FirstUnsolvable.{IsFirstUnsolvable, rows_up_to}
use Rattle.um_slots.specs.CallFunction.{call_function}
use Rattle.um_rows.specs.Judgement.{has_scheme, has_no_typing, not_general, judge}
use Rattle.um_rows.specs.NodeTypes.{TypedNode, function_nodes}
use Rattle.um_rows.specs.RightShapes.{HaveRightShapes}

-- a signature is a loose typing of function i, whose literals are closed, exactly if some joint solution of the
-- function's rows gives it
abbrev pub LooseTypingsAreSolutions : Type 0
LooseTypingsAreSolutions =
    (p : ProgramTree) (schemes : List SchemeTree) (i : ℕ) (f : FunctionTree) → LiteralsAreClosed f.body →
    HaveSchemes p schemes i → (g : Signature) →
    IsLooseTypingOf p.records (typings_below p i) i f g ↔ IsSolved p.records schemes i f g

-- and a rigid typing exactly if some rigid joint solution does
abbrev pub RigidTypingsAreSolutions : Type 0
RigidTypingsAreSolutions =
    (p : ProgramTree) (schemes : List SchemeTree) (i : ℕ) (f : FunctionTree) → LiteralsAreClosed f.body →
    HaveSchemes p schemes i → (g : Signature) →
    IsRigidTypingOf (length p.bases) p.records (typings_below p i) i f g
    ↔ IsRigidlySolved (length p.bases) p.records schemes i f g

-- the rows hold slots alone, and so do the types
abbrev pub RowsHoldSlots : Type 0
RowsHoldSlots =
    (p : ProgramTree) (schemes : List SchemeTree) (i : ℕ) (f : FunctionTree) → HaveSchemes p schemes i →
    All (VariablesBelow (slot_count p.records schemes i f)) (function_rows p.records schemes i f)

abbrev pub TypesHoldSlots : Type 0
TypesHoldSlots =
    (p : ProgramTree) (schemes : List SchemeTree) (i : ℕ) (f : FunctionTree) → HaveSchemes p schemes i →
    All (λ k. k < slot_count p.records schemes i f) (variables (signature_types (slot_signature p.records schemes i f)))

-- and so do the types of the nodes
abbrev pub NodesHoldSlots : Type 0
NodesHoldSlots =
    (p : ProgramTree) (schemes : List SchemeTree) (i : ℕ) (f : FunctionTree) → HaveSchemes p schemes i →
    All (λ k. k < slot_count p.records schemes i f)
    (variables (map (λ (n : TypedNode). n.type) (function_nodes p.records schemes i f)))

-- ---- judgements

-- the scheme that a function is judged to have is numbered, and its instances are exactly the function's typings
abbrev pub JudgedSchemesArePrincipal : Type 0
JudgedSchemesArePrincipal =
    (p : ProgramTree) (schemes : List SchemeTree) (i : ℕ) (f : FunctionTree) → slice_get p.functions i ≡ Some f
    → LiteralsAreClosed f.body → HaveSchemes p schemes i →
    (s : SchemeTree) → judge (length p.bases) p.records schemes i f ≡ has_scheme s →
    IsPrincipal p i s × IsNumberedScheme s

-- row k of the function's equations is the first with which they have no rigid joint solution
abbrev pub IsFirstRow : ProgramTree → List SchemeTree → ℕ → FunctionTree → ℕ → ℕ → Type 0
IsFirstRow p schemes i f k at =
    IsFirstUnsolvable (slot_count p.records schemes i f) (parameter_rows (length p.bases) f.units)
    (rows_of (slot_equations p.records schemes i f).steps) k at

-- the rows up to row k have a joint solution, in which a unit parameter may be any unit
abbrev pub AreSolvableUpTo : ProgramTree → List SchemeTree → ℕ → FunctionTree → ℕ → Type 0
AreSolvableUpTo p schemes i f k =
    IsSolvable (slot_count p.records schemes i f)
    (units_of (rows_up_to k (rows_of (slot_equations p.records schemes i f).steps)))

-- if a function is judged to have no typing, the row is the first unsolvable one, no units at all satisfy the rows up
-- to it, and the function has no typing
abbrev pub JudgedUntypedHaveNone : Type 0
JudgedUntypedHaveNone =
    (p : ProgramTree) (schemes : List SchemeTree) (i : ℕ) (f : FunctionTree) → slice_get p.functions i ≡ Some f
    → LiteralsAreClosed f.body → HaveSchemes p schemes i →
    (k at : ℕ) → judge (length p.bases) p.records schemes i f ≡ has_no_typing k at →
    IsFirstRow p schemes i f k at × (AreSolvableUpTo p schemes i f k → ⊥) × ((g : Signature) → Typing p i g → ⊥)

-- if it is judged to be not general, the row is the first unsolvable one, some units satisfy the rows up to it, and the
-- function has no typing
abbrev pub JudgedNotGeneralHaveNone : Type 0
JudgedNotGeneralHaveNone =
    (p : ProgramTree) (schemes : List SchemeTree) (i : ℕ) (f : FunctionTree) → slice_get p.functions i ≡ Some f →
    LiteralsAreClosed f.body → HaveSchemes p schemes i →
    (k at : ℕ) → judge (length p.bases) p.records schemes i f ≡ not_general k at →
    IsFirstRow p schemes i f k at × AreSolvableUpTo p schemes i f k × ((g : Signature) → Typing p i g → ⊥)

-- a function without unit parameters, as a call is one, is never judged to be not general
abbrev pub GeneralWithoutParameters : Type 0
GeneralWithoutParameters =
    (bases : ℕ) (records : List RecordTree) (schemes : List SchemeTree) (i : ℕ) (f : FunctionTree) → f.units ≡ 0 →
    (k at : ℕ) → judge bases records schemes i f ≡ not_general k at → ⊥

-- ---- calls

-- a type is a result of the call of function k on the inputs exactly if some joint solution of the call's rows gives it
abbrev pub CallResultsAreSolutions : Type 0
CallResultsAreSolutions =
    (p : ProgramTree) (schemes : List SchemeTree) (k : ℕ) (f : FunctionTree) (inputs : InputTrees) → IsFormed p
    → HaveSchemes p schemes (length p.functions) → slice_get p.functions k ≡ Some f
    → AreFormedInputs (length p.bases) inputs →
    (t : TypeTree) → IsResultOfCall p k inputs t
    ↔ IsSolved p.records schemes (length p.functions) (call_function p.records k f inputs)
    (record { params = []; result = t })

-- the type that a call is judged to have is a type of the call
abbrev pub JudgedCallsHaveTheirType : Type 0
JudgedCallsHaveTheirType =
    (p : ProgramTree) (schemes : List SchemeTree) (k : ℕ) (f : FunctionTree) (inputs : InputTrees) → IsFormed p
    → HaveSchemes p schemes (length p.functions) → slice_get p.functions k ≡ Some f
    → AreFormedInputs (length p.bases) inputs →
    (s : SchemeTree) →
    judge (length p.bases) p.records schemes (length p.functions) (call_function p.records k f inputs) ≡ has_scheme s →
    IsTypeOfCall p k inputs s.signature.result

-- and a call that is judged to have none has no result
abbrev pub JudgedUntypedCallsHaveNone : Type 0
JudgedUntypedCallsHaveNone =
    (p : ProgramTree) (schemes : List SchemeTree) (k : ℕ) (f : FunctionTree) (inputs : InputTrees) → IsFormed p
    → HaveSchemes p schemes (length p.functions) → slice_get p.functions k ≡ Some f
    → AreFormedInputs (length p.bases) inputs →
    (row at : ℕ) →
    judge (length p.bases) p.records schemes (length p.functions) (call_function p.records k f inputs)
    ≡ has_no_typing row at → (t : TypeTree) → IsResultOfCall p k inputs t → ⊥

-- ---- shapes

-- a function of a formed program that has its shapes forms no step for a wrong shape
abbrev pub ShapedFunctionsFormNoWrongShape : Type 0
ShapedFunctionsFormNoWrongShape =
    (p : ProgramTree) (schemes : List SchemeTree) (i : ℕ) (f : FunctionTree) (g : ShapeSignature) →
    IsFormed p → slice_get p.functions i ≡ Some f → FunctionShape p i g → HaveSchemes p schemes i →
    HaveRightShapes (slot_equations p.records schemes i f).steps
