-- What the calls that give equations answer: all of the equations, or why there are none.
-- Source: this project's own; want of memory may come in place of every answer.
use Rattle.std.specs.Prelude.{◌≡◌, ◌↔◌, ◌<◌, ◌≤◌, ℕ, Bool, All, List, [], length, map, slice_get, Option, Some, None}
use Rattle.um_units.specs.PowerMap.{PowerMap, nth}
use Rattle.um_units.specs.Solutions.{IsJointSolution}
use Rattle.um_tree.specs.TypeTree.{TypeTree, NoteTree, type_tree, note_tree, type_trees}
use Rattle.um_tree.specs.ExprTree.{ExprTree, expr_tree}
use Rattle.um_tree.specs.ValueTree.{InputTrees}
use Rattle.um_tree.specs.ProgramTree.{RecordTree, FunctionTree, ProgramTree, Signature, SchemeTree, result_tree}
use Rattle.um_tree.specs.Typing.{put_signature, IsLooseTypingOf, IsRigidTypingOf, typings_below}
use Rattle.um_tree.specs.InputType.{IsResultOfCall}
use Rattle.um_tree.specs.Scheme.{variables, signature_types}
use Rattle.um_slots.specs.declared.definition.Definition.{Definition}
use Rattle.um_equal_types.specs.declared.row.Rows.{Rows}
use Rattle.um_equal_types.specs.declared.row.RowStop.{RowStop}
use Rattle.um_equal_types.specs.declared.row.RowStop.TheVariants as stop
use Rattle.um_equal_types.specs.Steps.{rows_of, units_of, first_past}
use Rattle.um_slots.specs.Slots.{slot_count}
use Rattle.um_rows.specs.Equations.{slot_equations}
use Rattle.um_rows.specs.Solutions.{IsRigid, HaveSchemes}
use Rattle.um_slots.specs.CallFunction.{call_function}

-- these are the equations: there are no more than 2,000 slots, and no power is out of range
pub record AreEquations (records : List RecordTree) (schemes : List SchemeTree) (i : ℕ) (f : FunctionTree) (r : Rows)
    : Type 0 where
  pub few : slot_count records schemes i f ≤ 2000
  pub in_range : first_past (slot_equations records schemes i f).steps ≡ None
  pub slots : r.slots ≡ slot_count records schemes i f
  pub list : r.list.items.items ≡ rows_of (slot_equations records schemes i f).steps
  pub params : type_trees r.params ≡ (slot_equations records schemes i f).params
  pub result : type_tree r.result ≡ (slot_equations records schemes i f).result

-- there are none, for this cause. The number of slots is looked at first
abbrev pub StopsFor : List RecordTree → List SchemeTree → ℕ → FunctionTree → RowStop → Type 0
StopsFor records schemes i f stop.Slots = 2000 < slot_count records schemes i f
StopsFor records schemes i f (stop.Range at) =
    (slot_count records schemes i f ≤ 2000) × (first_past (slot_equations records schemes i f).steps ≡ Some at)
StopsFor records schemes i f stop.NoMemory = Unit {0}

-- ---- of function i
abbrev pub AreRowsOf : ProgramTree → List SchemeTree → ℕ → Rows → Type 0
AreRowsOf p schemes i r = (f : FunctionTree) → slice_get p.functions i ≡ Some f → AreEquations p.records schemes i f r

abbrev pub RowsStopFor : ProgramTree → List SchemeTree → ℕ → RowStop → Type 0
RowsStopFor p schemes i e = (f : FunctionTree) → slice_get p.functions i ≡ Some f → StopsFor p.records schemes i f e

-- ---- of a call of function k
abbrev pub AreCallRowsOf : ProgramTree → List SchemeTree → ℕ → InputTrees → Rows → Type 0
AreCallRowsOf p schemes k inputs r =
    (f : FunctionTree) → slice_get p.functions k ≡ Some f
    → AreEquations p.records schemes (length p.functions) (call_function p.records k f inputs) r

abbrev pub CallRowsStopFor : ProgramTree → List SchemeTree → ℕ → InputTrees → RowStop → Type 0
CallRowsStopFor p schemes k inputs e =
    (f : FunctionTree) → slice_get p.functions k ≡ Some f
    → StopsFor p.records schemes (length p.functions) (call_function p.records k f inputs) e

-- ---- what is asked of the schemes of the functions before function i: each is over its own variables
abbrev pub HaveVariablesBelow : ℕ → List SchemeTree → Type 0
HaveVariablesBelow i schemes =
    (j : ℕ) (s : SchemeTree) → j < i → slice_get schemes j ≡ Some s
    → All (λ k. k < s.vars) (variables (signature_types s.signature))

-- ---- if the instances of each scheme before are exactly the function's typings

-- the types of the parameters and of the body, over slots
abbrev pub rows_signature : Rows → Signature
rows_signature r = record { params = type_trees r.params; result = type_tree r.result }

-- some joint solution of the rows gives the signature
abbrev pub IsGivenBy : Rows → Signature → Type 0
IsGivenBy r g =
    (units : List PowerMap) × IsJointSolution r.slots (units_of r.list.items.items) units
    × (g ≡ put_signature (nth units) (rows_signature r))

-- and so does some rigid one
abbrev pub IsRigidlyGivenBy : ℕ → ℕ → Rows → Signature → Type 0
IsRigidlyGivenBy bases parameters r g =
    (units : List PowerMap) × IsJointSolution r.slots (units_of r.list.items.items) units
    × IsRigid bases parameters units
    × (g ≡ put_signature (nth units) (rows_signature r))

-- a signature is a loose typing of function i exactly if some joint solution gives it, and a rigid typing exactly if
-- some rigid one does
abbrev pub TypingsAreSolutionsOf : ProgramTree → List SchemeTree → ℕ → Rows → Type 0
TypingsAreSolutionsOf p schemes i r =
    (f : FunctionTree) → slice_get p.functions i ≡ Some f → HaveSchemes p schemes i → (g : Signature) →
    (IsLooseTypingOf p.records (typings_below p i) i f g ↔ IsGivenBy r g)
    × (IsRigidTypingOf (length p.bases) p.records (typings_below p i) i f g
    ↔ IsRigidlyGivenBy (length p.bases) f.units r g)

-- so it is of the results of a call
abbrev pub ResultsAreSolutionsOf : ProgramTree → List SchemeTree → ℕ → InputTrees → Rows → Type 0
ResultsAreSolutionsOf p schemes k inputs r =
    HaveSchemes p schemes (length p.functions) → (t : TypeTree) → IsResultOfCall p k inputs t
    ↔ IsGivenBy r (record { params = []; result = t })

-- ---- a function without its names
abbrev pub described : ℕ → Bool → ℕ → List NoteTree → Option NoteTree → ExprTree → FunctionTree
described at recursive units params note body = record {
  name = [];
  at = at;
  recursive = recursive;
  units = units;
  params = params;
  named = 0;
  result = note;
  body = body;
}

abbrev pub defined : Definition → FunctionTree
defined d =
    described d.at d.recursive d.units (map note_tree d.params.now) (result_tree d.result.now) (expr_tree d.body.now)
