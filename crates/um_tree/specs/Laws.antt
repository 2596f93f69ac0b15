-- What the definitions come to: how typings, literals, budgets and shapes behave. The definitions do not rest on this.
-- Source: Kennedy 1996: typings are closed under replacements of units for variables; Kennedy 1997: a homomorphism of
-- units moves them, and only 0 has every unit. The laws of budgets and shapes are this project's own.
use Rattle.std.specs.Prelude.{◌≡◌, ◌≢◌, ◌↔◌, ◌<◌, ◌≤◌, ◌+◌, ℕ, All, List, length, map, pos, slice_get, Option, Some}
use Rattle.std.specs.Prelude.{None}
use Rattle.um_units.specs.declared.Atom.TheVariants.{Base}
use Rattle.um_units.specs.PowerMap.{PowerMap, atom, power_of}
use Rattle.um_units.specs.Variables.{IsClosed}
use Rattle.um_frac.specs.declared.number.Frac.{Frac}
use Rattle.um_frac.specs.declared.number.Trap.{Trap}
use Rattle.um_frac.specs.Fraction.{numerator}
use Rattle.um_tree.specs.declared.note.UnitNote.{UnitNote}
use Rattle.um_tree.specs.declared.note.UnitNote.TheVariants.{Hole, Written}
use Rattle.um_tree.specs.declared.expression.Arith.{Arith}
use Rattle.um_tree.specs.declared.expression.Arith.TheVariants.{Add, Sub}
use Rattle.um_tree.specs.declared.expression.Sign.{Sign}
use Rattle.um_tree.specs.TypeTree.{TypeTree, bool_type, num_type, list_type, record_type, NoteTree, bool_note}
use Rattle.um_tree.specs.TypeTree.{num_note, list_note, record_note}
use Rattle.um_tree.specs.ExprTree.{ExprTree, ExprTrees, truth, number, local, call, negate, not_expr, pown, arith}
use Rattle.um_tree.specs.ExprTree.{compare}
use Rattle.um_tree.specs.ExprTree.{both, either, if, bind, split, nil, list_expr, cons, record_expr, field, none}
use Rattle.um_tree.specs.ExprTree.{more}
use Rattle.um_tree.specs.ValueTree.{ValueTree}
use Rattle.um_tree.specs.ProgramTree.{FunctionTree, ProgramTree, Signature, SchemeTree}
use Rattle.um_tree.specs.Typing.{put_signature, moved_signature, IsHomomorphism, field_types, Typed, Calls}
use Rattle.um_tree.specs.Typing.{IsLooseTypingOf}
use Rattle.um_tree.specs.Typing.{typings_below, Typing}
use Rattle.um_tree.specs.Meaning.{gives, stops, trap, Means, Outcome}
use Rattle.um_tree.specs.Shapes.{type_shape, ShapeSignature, HasShape, CallShapes, shapes_below, FunctionShape}
use Rattle.um_tree.specs.Formed.{BasesBelow, IsFormed}
use Rattle.um_tree.specs.Scheme.{variables, signature_types, IsNumberedScheme}

-- ---- the units that a program writes

module _ (Has : PowerMap → Type 0) where
  -- the written unit of the note has the property
  abbrev pub UnitNoteHas : UnitNote → Type 0
  UnitNoteHas Hole = Unit {0}
  UnitNoteHas (Written u) = Has u

  abbrev pub NoteHas : NoteTree → Type 0
  NoteHas bool_note = Unit {0}
  NoteHas (num_note n) = UnitNoteHas n
  NoteHas (list_note n) = NoteHas n
  NoteHas (record_note r ns) = All UnitNoteHas ns

  abbrev pub ResultHas : Option NoteTree → Type 0
  ResultHas None = Unit {0}
  ResultHas (Some n) = NoteHas n

  abbrev pub TypeHas : TypeTree → Type 0
  TypeHas bool_type = Unit {0}
  TypeHas (num_type u) = Has u
  TypeHas (list_type t) = TypeHas t
  TypeHas (record_type r us) = All Has us

module _ (InNote InLiteral : PowerMap → Type 0) where
  abbrev mutual
    -- each unit that a note of the expression writes has the first property, and each literal's unit the second
    pub ExprHas : ExprTree → Type 0
    ExprHas (truth at b) = Unit {0}
    ExprHas (number at c n) = UnitNoteHas InLiteral n
    ExprHas (local at k) = Unit {0}
    ExprHas (call at j es) = ExprsHave es
    ExprHas (negate at a) = ExprHas a
    ExprHas (not_expr at a) = ExprHas a
    ExprHas (pown at a k) = ExprHas a
    ExprHas (arith at op a b) = ExprHas a × ExprHas b
    ExprHas (compare at sign a b) = ExprHas a × ExprHas b
    ExprHas (both at a b) = ExprHas a × ExprHas b
    ExprHas (either at a b) = ExprHas a × ExprHas b
    ExprHas (if at c a b) = ExprHas c × ExprHas a × ExprHas b
    ExprHas (bind at a b) = ExprHas a × ExprHas b
    ExprHas (split at l a b) = ExprHas l × ExprHas a × ExprHas b
    ExprHas (nil at n) = NoteHas InNote n
    ExprHas (list_expr at es) = ExprsHave es
    ExprHas (cons at a b) = ExprHas a × ExprHas b
    ExprHas (record_expr at r es) = ExprsHave es
    ExprHas (field at r k a) = ExprHas a

    pub ExprsHave : ExprTrees → Type 0
    ExprsHave none = Unit {0}
    ExprsHave (more e es) = ExprHas e × ExprsHave es

  pub record FunctionHas (f : FunctionTree) : Type 0 where
    pub params : All (NoteHas InNote) f.params
    pub result : ResultHas InNote f.result
    pub body : ExprHas f.body

  -- each unit that the program writes up to function i has it: in the fields of records, in notes and in literals
  pub record ProgramHas (p : ProgramTree) (i : ℕ) : Type 0 where
    pub records : All (λ d. All (TypeHas InNote) (field_types d)) p.records
    pub functions : (j : ℕ) (f : FunctionTree) → j ≤ i → slice_get p.functions j ≡ Some f → FunctionHas f

-- each literal of the expression has a closed unit, or a hole
abbrev pub LiteralsAreClosed : ExprTree → Type 0
LiteralsAreClosed e = ExprHas (λ u. Unit {0}) IsClosed e

-- each unit that the program writes up to function i is over declared base units, and that of a literal is closed
abbrev pub WritesDeclaredUnits : ProgramTree → ℕ → Type 0
WritesDeclaredUnits p i =
    ProgramHas (BasesBelow (length p.bases)) (λ u. IsClosed u × BasesBelow (length p.bases) u) p i

-- a formed program's units are such
abbrev pub FormedUnitsAreDeclared : Type 0
FormedUnitsAreDeclared = (p : ProgramTree) (i : ℕ) → IsFormed p → WritesDeclaredUnits p i

-- so it is in each function up to i
abbrev pub LiteralsAreClosedUpTo : ProgramTree → ℕ → Type 0
LiteralsAreClosedUpTo p i =
    (j : ℕ) (f : FunctionTree) → j ≤ i → slice_get p.functions j ≡ Some f → LiteralsAreClosed f.body

-- a formed program's literals are such
abbrev pub FormedLiteralsAreClosed : Type 0
FormedLiteralsAreClosed = (p : ProgramTree) (i : ℕ) → IsFormed p → LiteralsAreClosedUpTo p i

-- ---- earlier functions

-- what a function may use of an earlier one are its typings
abbrev pub EarlierTypings : Type 0
EarlierTypings = (p : ProgramTree) (n j : ℕ) (g : Signature) → j < n → typings_below p n j g ↔ Typing p j g

-- and its shapes
abbrev pub EarlierShapesAre : Type 0
EarlierShapesAre = (p : ProgramTree) (n j : ℕ) (g : ShapeSignature) → j < n → shapes_below p n j g ↔ FunctionShape p j g

-- ---- schemes

-- the types of a numbered scheme are over its own variables
abbrev pub NumberedSchemesAreOverTheirVariables : Type 0
NumberedSchemesAreOverTheirVariables =
    (s : SchemeTree) → IsNumberedScheme s → All (λ k. k < s.vars) (variables (signature_types s.signature))

-- ---- typings under a change of units

-- it leaves each base unit that the unit holds
abbrev pub Leaves : (PowerMap → PowerMap) → PowerMap → Type 0
Leaves h u = (k : ℕ) → power_of u (Base k) ≢ pos 0 → h (atom (Base k)) ≡ atom (Base k)

-- it leaves the unit itself
abbrev pub Fixes : (PowerMap → PowerMap) → PowerMap → Type 0
Fixes h u = h u ≡ u

-- a homomorphism leaves a closed unit whose base units it leaves
abbrev pub ClosedUnitsAreFixed : Type 0
ClosedUnitsAreFixed =
    (h : PowerMap → PowerMap) (u : PowerMap) → IsHomomorphism h → Leaves h u → IsClosed u → Fixes h u

-- a typing stays one with any units in place of its variables
abbrev pub ReplacementsKeepTypings : Type 0
ReplacementsKeepTypings =
    (p : ProgramTree) (i : ℕ) (g : Signature) (units : ℕ → PowerMap) →
    Typing p i g → Typing p i (put_signature units g)

-- and under each homomorphism that leaves the base units of the notes and fields up to the function, and the units of
-- its literals, whose written units are over declared base units
abbrev pub HomomorphismsKeepTypings : Type 0
HomomorphismsKeepTypings =
    (p : ProgramTree) (i : ℕ) (g : Signature) (h : PowerMap → PowerMap) →
    WritesDeclaredUnits p i → IsHomomorphism h → ProgramHas (Leaves h) (Fixes h) p i →
    Typing p i g → Typing p i (moved_signature h g)

-- the typings of a function without unit parameters, whose literals are closed as those before it, are those that some
-- choice of units gives
abbrev pub TypingsWithoutParameters : Type 0
TypingsWithoutParameters =
    (p : ProgramTree) (i : ℕ) (f : FunctionTree) (g : Signature) → slice_get p.functions i ≡ Some f → f.units ≡ 0 →
    LiteralsAreClosed f.body → Typing p i g ↔ IsLooseTypingOf p.records (typings_below p i) i f g

-- ---- sums, comparisons and literals

-- the expression has the type in the body of function f, of number i, whose typing under derivation is self
abbrev pub TypedIn :
    ProgramTree → ℕ → FunctionTree → Signature → (ℕ → PowerMap) → List TypeTree → ExprTree → TypeTree → Type 0
TypedIn p i f self choice vars e t = Typed p.records (Calls (typings_below p i) i f self) choice vars e t

-- in a body, a sum or a difference is typed only if both sides have one unit, and it has this unit
abbrev pub HasOneUnit : Arith → Type 0
HasOneUnit op =
    (p : ProgramTree) (i : ℕ) (f : FunctionTree) (self : Signature) (choice : ℕ → PowerMap) (vars : List TypeTree) →
    (at : ℕ) (a b : ExprTree) (t : TypeTree) →
    TypedIn p i f self choice vars (arith at op a b) t ↔
    ((u : PowerMap) × TypedIn p i f self choice vars a (num_type u) × TypedIn p i f self choice vars b (num_type u)
    × (t ≡ num_type u))

abbrev pub SumHasOneUnit : Type 0
SumHasOneUnit = HasOneUnit Add

abbrev pub DifferenceHasOneUnit : Type 0
DifferenceHasOneUnit = HasOneUnit Sub

-- nor a comparison
abbrev pub ComparisonHasOneUnit : Type 0
ComparisonHasOneUnit =
    (p : ProgramTree) (i : ℕ) (f : FunctionTree) (self : Signature) (choice : ℕ → PowerMap) (vars : List TypeTree) →
    (at : ℕ) (sign : Sign) (a b : ExprTree) (t : TypeTree) →
    TypedIn p i f self choice vars (compare at sign a b) t ↔
    ((u : PowerMap) × TypedIn p i f self choice vars a (num_type u) × TypedIn p i f self choice vars b (num_type u)
    × (t ≡ bool_type))

-- a number with a hole is 0, and has every unit
abbrev pub ZeroHasEveryUnit : Type 0
ZeroHasEveryUnit =
    (p : ProgramTree) (i : ℕ) (f : FunctionTree) (self : Signature) (choice : ℕ → PowerMap) (vars : List TypeTree) →
    (at : ℕ) (c : Frac) (t : TypeTree) →
    TypedIn p i f self choice vars (number at c Hole) t ↔ ((numerator c ≡ pos 0) × ((u : PowerMap) × (t ≡ num_type u)))

-- a number with a written unit has this unit alone
abbrev pub NumberHasItsUnit : Type 0
NumberHasItsUnit =
    (p : ProgramTree) (i : ℕ) (f : FunctionTree) (self : Signature) (choice : ℕ → PowerMap) (vars : List TypeTree) →
    (at : ℕ) (c : Frac) (u : PowerMap) (t : TypeTree) →
    TypedIn p i f self choice vars (number at c (Written u)) t ↔ (t ≡ num_type u)

-- ---- budgets

-- the rest is at most the budget
abbrev pub RestIsWithin : Type 0
RestIsWithin =
    (fs : List FunctionTree) (vars : List ValueTree) (e : ExprTree) (b : ℕ) (v : ValueTree) (rest : ℕ) →
    Means fs vars e b ≡ gives v rest → rest ≤ b

-- a budget that sufficed suffices when it grows: the value stays, and the rest grows by as much
abbrev pub LargerBudgetSuffices : Type 0
LargerBudgetSuffices =
    (fs : List FunctionTree) (vars : List ValueTree) (e : ExprTree) (b : ℕ) (v : ValueTree) (rest extra : ℕ) →
    Means fs vars e b ≡ gives v rest → Means fs vars e (b + extra) ≡ gives v (rest + extra)

-- a trap stays too
abbrev pub TrapStays : Type 0
TrapStays =
    (fs : List FunctionTree) (vars : List ValueTree) (e : ExprTree) (b : ℕ) (t : Trap) (extra : ℕ) →
    Means fs vars e b ≡ stops (trap t) → Means fs vars e (b + extra) ≡ stops (trap t)

-- and the same of calls
abbrev pub CallRestIsWithin : Type 0
CallRestIsWithin =
    (fs : List FunctionTree) (j : ℕ) (vs : List ValueTree) (b : ℕ) (v : ValueTree) (rest : ℕ) →
    Outcome fs j vs b ≡ gives v rest → rest ≤ b

abbrev pub CallLargerBudgetSuffices : Type 0
CallLargerBudgetSuffices =
    (fs : List FunctionTree) (j : ℕ) (vs : List ValueTree) (b : ℕ) (v : ValueTree) (rest extra : ℕ) →
    Outcome fs j vs b ≡ gives v rest → Outcome fs j vs (b + extra) ≡ gives v (rest + extra)

abbrev pub CallTrapStays : Type 0
CallTrapStays =
    (fs : List FunctionTree) (j : ℕ) (vs : List ValueTree) (b : ℕ) (t : Trap) (extra : ℕ) →
    Outcome fs j vs b ≡ stops (trap t) → Outcome fs j vs (b + extra) ≡ stops (trap t)

-- ---- shapes

-- the shapes of a signature
abbrev pub signature_shape : Signature → ShapeSignature
signature_shape g = record { params = map type_shape g.params; result = type_shape g.result }

-- a typed expression has the shape of its type
abbrev pub TypedExpressionHasShape : Type 0
TypedExpressionHasShape =
    (p : ProgramTree) (i : ℕ) (f : FunctionTree) (self : Signature) (choice : ℕ → PowerMap) (vars : List TypeTree) →
    (e : ExprTree) (t : TypeTree) → TypedIn p i f self choice vars e t →
    HasShape p.records (CallShapes (shapes_below p i) i f (signature_shape self)) (map type_shape vars) e (type_shape t)

-- a typed function has the shapes of its types
abbrev pub TypedHasShape : Type 0
TypedHasShape = (p : ProgramTree) (i : ℕ) (g : Signature) → Typing p i g → FunctionShape p i (signature_shape g)
