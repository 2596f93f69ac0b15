-- When an expression has a type, and the typings of a function.
-- Source: the declarative typing rules of Kennedy 1996, with ML's rule for recursion (a recursive use has one type,
-- an earlier function is used at any instance); the notation of measures is that of the F# specification.
-- There are no equations, slots, substitutions or schemes here, and no order in which anything is found.
use Rattle.std.specs.Prelude.{◌≡◌, ℕ, zero, suc, ◌+◌, ◌<◌, ◌≤◌, ◌⊎◌, IsTrue, IsSome, cond, nat_eq, List, [], ◌∷◌, ◌++◌}
use Rattle.std.specs.Prelude.{map}
use Rattle.std.specs.Prelude.{length, get_or, slice_get, pos, Option, Some, None}
use Rattle.um_units.specs.declared.Atom.TheVariants.{Base}
use Rattle.um_units.specs.PowerMap.{PowerMap, one, atom, mul, inv, pow, replace}
use Rattle.um_frac.specs.declared.number.Frac.{Frac}
use Rattle.um_frac.specs.Fraction.{numerator}
use Rattle.um_tree.specs.TypeTree.{TypeTree, bool_type, num_type, list_type, record_type, NoteTree, bool_note}
use Rattle.um_tree.specs.TypeTree.{num_note, list_note, record_note}
use Rattle.um_tree.specs.ExprTree.{ExprTree, ExprTrees, truth, number, local, call, negate, not_expr, pown, arith}
use Rattle.um_tree.specs.ExprTree.{compare, both, either, if, bind, split, nil, list_expr, cons, record_expr, field}
use Rattle.um_tree.specs.ExprTree.{none, more}
use Rattle.um_tree.specs.ProgramTree.{RecordTree, FunctionTree, ProgramTree, Signature}
use Rattle.um_tree.specs.declared.note.UnitNote.{UnitNote}
use Rattle.um_tree.specs.declared.note.UnitNote.TheVariants.{Hole, Written}
use Rattle.um_tree.specs.declared.expression.Arith.{Arith}
use Rattle.um_tree.specs.declared.expression.Arith.TheVariants.{Add, Sub, Mul, Div}

-- the type with the unit s k put for each variable k
abbrev pub put : (ℕ → PowerMap) → TypeTree → TypeTree
put s bool_type = bool_type
put s (num_type u) = num_type (replace s u)
put s (list_type t) = list_type (put s t)
put s (record_type r us) = record_type r (map (replace s) us)

abbrev pub put_signature : (ℕ → PowerMap) → Signature → Signature
put_signature s g = record { params = map (put s) g.params; result = put s g.result }

-- the type with each unit changed
abbrev pub moved : (PowerMap → PowerMap) → TypeTree → TypeTree
moved h bool_type = bool_type
moved h (num_type u) = num_type (h u)
moved h (list_type t) = list_type (moved h t)
moved h (record_type r us) = record_type r (map h us)

abbrev pub moved_signature : (PowerMap → PowerMap) → Signature → Signature
moved_signature h g = record { params = map (moved h) g.params; result = moved h g.result }

-- the change respects products
abbrev pub IsHomomorphism : (PowerMap → PowerMap) → Type 0
IsHomomorphism h = (u v : PowerMap) → h (mul u v) ≡ mul (h u) (h v)

-- the k-th of some units
abbrev pub unit_at : List PowerMap → ℕ → PowerMap
unit_at us k = get_or us k one

-- a hole stands for any unit, a written unit for itself with the choice put for the named variables
abbrev pub UnitMatches : (ℕ → PowerMap) → UnitNote → PowerMap → Type 0
UnitMatches choice Hole u = Unit {0}
UnitMatches choice (Written w) u = u ≡ replace choice w

-- unit by unit
abbrev pub UnitsMatch : (ℕ → PowerMap) → List UnitNote → List PowerMap → Type 0
UnitsMatch choice [] us = us ≡ []
UnitsMatch choice (n ∷ ns) us =
    (v : PowerMap) × (vs : List PowerMap) × UnitMatches choice n v × UnitsMatch choice ns vs × (us ≡ v ∷ vs)

-- the type has the note's form, and its units match
abbrev pub Matches : (ℕ → PowerMap) → NoteTree → TypeTree → Type 0
Matches choice bool_note t = t ≡ bool_type
Matches choice (num_note n) t = (u : PowerMap) × UnitMatches choice n u × (t ≡ num_type u)
Matches choice (list_note n) t = (s : TypeTree) × Matches choice n s × (t ≡ list_type s)
Matches choice (record_note r ns) t = (us : List PowerMap) × UnitsMatch choice ns us × (t ≡ record_type r us)

-- type by type
abbrev pub TypesMatch : (ℕ → PowerMap) → List NoteTree → List TypeTree → Type 0
TypesMatch choice [] ts = ts ≡ []
TypesMatch choice (n ∷ ns) ts =
    (s : TypeTree) × (rest : List TypeTree) × Matches choice n s × TypesMatch choice ns rest × (ts ≡ s ∷ rest)

-- no note leaves the result open
abbrev pub ResultMatches : (ℕ → PowerMap) → Option NoteTree → TypeTree → Type 0
ResultMatches choice None t = Unit {0}
ResultMatches choice (Some n) t = Matches choice n t

-- the unit of an operation's result: a sum and a difference need equal units
abbrev pub ArithUnit : Arith → PowerMap → PowerMap → PowerMap → Type 0
ArithUnit Add u v w = (u ≡ v) × (w ≡ u)
ArithUnit Sub u v w = (u ≡ v) × (w ≡ u)
ArithUnit Mul u v w = w ≡ mul u v
ArithUnit Div u v w = w ≡ mul u (inv v)

-- a literal has its written unit as it stands, which is closed in a formed program; only 0 has every unit
abbrev pub LiteralUnit : Frac → UnitNote → PowerMap → Type 0
LiteralUnit c Hole u = numerator c ≡ pos 0
LiteralUnit c (Written w) u = u ≡ w

abbrev pub EachIs : TypeTree → List TypeTree → Type 0
EachIs s [] = Unit {0}
EachIs s (t ∷ ts) = (t ≡ s) × EachIs s ts

-- the declared types of a record's fields
abbrev pub field_types : RecordTree → List TypeTree
field_types d = map (λ f. f.type) d.fields

-- the record of this number has this declaration, and takes these units
pub record IsRecordAt (records : List RecordTree) (r : ℕ) (us : List PowerMap) (d : RecordTree) : Type 0 where
  pub declared : slice_get records r ≡ Some d
  pub units : length us ≡ d.units

-- `calls j g`: a call of function j may be used at the signature g
module _ (records : List RecordTree) (calls : ℕ → Signature → Type 0) (choice : ℕ → PowerMap) where
  abbrev mutual
    -- the expression has the type, where the variables of the scope have these types
    pub Typed : List TypeTree → ExprTree → TypeTree → Type 0
    Typed vars (truth at b) t = t ≡ bool_type
    Typed vars (number at c n) t = (u : PowerMap) × LiteralUnit c n u × (t ≡ num_type u)
    Typed vars (local at k) t = slice_get vars k ≡ Some t
    Typed vars (call at j es) t =
        (ts : List TypeTree) × AllTyped vars es ts × calls j (record { params = ts; result = t })
    Typed vars (negate at a) t = (u : PowerMap) × Typed vars a (num_type u) × (t ≡ num_type u)
    Typed vars (not_expr at a) t = Typed vars a bool_type × (t ≡ bool_type)
    Typed vars (pown at a k) t = (u : PowerMap) × Typed vars a (num_type u) × (t ≡ num_type (pow u k))
    Typed vars (arith at op a b) t =
        (u v w : PowerMap) × Typed vars a (num_type u) × Typed vars b (num_type v)
        × ArithUnit op u v w × (t ≡ num_type w)
    Typed vars (compare at sign a b) t =
        (u : PowerMap) × Typed vars a (num_type u) × Typed vars b (num_type u) × (t ≡ bool_type)
    Typed vars (both at a b) t = Typed vars a bool_type × Typed vars b bool_type × (t ≡ bool_type)
    Typed vars (either at a b) t = Typed vars a bool_type × Typed vars b bool_type × (t ≡ bool_type)
    Typed vars (if at c a b) t = Typed vars c bool_type × Typed vars a t × Typed vars b t
    Typed vars (bind at a b) t = (s : TypeTree) × Typed vars a s × Typed (vars ++ s ∷ []) b t
    Typed vars (split at l a b) t =
        (s : TypeTree) × Typed vars l (list_type s) × Typed vars a t × Typed (vars ++ s ∷ list_type s ∷ []) b t
    Typed vars (nil at n) t = (s : TypeTree) × Matches choice n (list_type s) × (t ≡ list_type s)
    Typed vars (list_expr at es) t =
        (s : TypeTree) × (rest : List TypeTree) × AllTyped vars es (s ∷ rest) × EachIs s rest × (t ≡ list_type s)
    Typed vars (cons at a b) t = (s : TypeTree) × Typed vars a s × Typed vars b (list_type s) × (t ≡ list_type s)
    Typed vars (record_expr at r es) t =
        (us : List PowerMap) × (d : RecordTree) × IsRecordAt records r us d
        × AllTyped vars es (map (put (unit_at us)) (field_types d)) × (t ≡ record_type r us)
    Typed vars (field at r k a) t =
        (us : List PowerMap) × (d : RecordTree) × (declared : TypeTree)
        × IsRecordAt records r us d × (slice_get (field_types d) k ≡ Some declared)
        × Typed vars a (record_type r us) × (t ≡ put (unit_at us) declared)

    -- expression by expression
    pub AllTyped : List TypeTree → ExprTrees → List TypeTree → Type 0
    AllTyped vars none ts = ts ≡ []
    AllTyped vars (more e es) ts =
        (s : TypeTree) × (rest : List TypeTree) × Typed vars e s × AllTyped vars es rest × (ts ≡ s ∷ rest)

-- the signatures at which each function before may be used
abbrev pub Earlier : Type 1
Earlier = ℕ → Signature → Type 0

-- the function may call itself: it is written `let rec`, and then its result has a note
pub record MayRecur (f : FunctionTree) : Type 0 where
  pub recursive : IsTrue f.recursive
  pub noted : IsSome f.result

-- what a call in the body of function f, of number i, may be used at: a typing of an earlier function,
-- or, in a recursive function, the signature under derivation itself
abbrev pub Calls : Earlier → ℕ → FunctionTree → Signature → ℕ → Signature → Type 0
Calls earlier i f self j g = ((j < i) × earlier j g) ⊎ ((j ≡ i) × MayRecur f × (g ≡ self))

-- some choice of units for the named variables, the unit parameters among them, gives the notes their types and the
-- body the result's
pub record IsLooseTypingOf (records : List RecordTree) (earlier : Earlier) (i : ℕ) (f : FunctionTree) (g : Signature)
    : Type 0 where
  pub choice : ℕ → PowerMap
  pub params : TypesMatch choice f.params g.params
  pub result : ResultMatches choice f.result g.result
  pub body : Typed records (Calls earlier i f g) choice g.params f.body g.result

-- the base unit after the declared ones that stands for unit parameter k in the function's own typing
abbrev pub parameter_unit : ℕ → ℕ → PowerMap
parameter_unit bases k = atom (Base (bases + k))

-- each unit parameter is a unit of its own, which no other unit is equal to
pub record IsRigidTypingOf
    (bases : ℕ) (records : List RecordTree) (earlier : Earlier) (i : ℕ) (f : FunctionTree) (g : Signature)
    : Type 0 where
  pub loose : IsLooseTypingOf records earlier i f g
  pub rigid : (k : ℕ) → k < f.units → loose.choice k ≡ parameter_unit bases k

-- the change of units puts any units for the variables and for the units of so many unit parameters, all at once: it
-- leaves each other base unit
pub record IsInstantiation (bases parameters : ℕ) (h : PowerMap → PowerMap) : Type 0 where
  pub homomorphism : IsHomomorphism h
  pub others : (k : ℕ) → ((k < bases) ⊎ (bases + parameters ≤ k)) → h (atom (Base k)) ≡ atom (Base k)

-- a typing is what a rigid typing gives when any units are put for its variables and its unit parameters
pub record IsTypingOf
    (bases : ℕ) (records : List RecordTree) (earlier : Earlier) (i : ℕ) (f : FunctionTree) (g : Signature)
    : Type 0 where
  pub signature : Signature
  pub typing : IsRigidTypingOf bases records earlier i f signature
  pub change : PowerMap → PowerMap
  pub instantiates : IsInstantiation bases f.units change
  pub given : g ≡ moved_signature change signature

abbrev pub TypingAt : ℕ → List RecordTree → Earlier → ℕ → Option FunctionTree → Signature → Type 0
TypingAt bases records earlier i None g = ⊥
TypingAt bases records earlier i (Some f) g = IsTypingOf bases records earlier i f g

-- the typings of the functions below a number
abbrev pub typings_below : ProgramTree → ℕ → Earlier
typings_below p zero j g = ⊥
typings_below p (suc n) j g =
    cond (nat_eq j n)
    (TypingAt (length p.bases) p.records (typings_below p n) n (slice_get p.functions n) g)
    (typings_below p n j g)

-- the signature is a typing of function i of the program
abbrev pub Typing : ProgramTree → ℕ → Signature → Type 0
Typing p i g = TypingAt (length p.bases) p.records (typings_below p i) i (slice_get p.functions i) g
