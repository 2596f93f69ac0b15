-- When an expression has a shape: types without their units.
-- Source: this project's own.
-- Nothing is found or computed here; an expression has at most one shape.
use Rattle.std.specs.Prelude.{◌≡◌, ℕ, zero, suc, ◌<◌, ◌⊎◌, cond, nat_eq, List, [], ◌∷◌, ◌++◌, map, slice_get, Option}
use Rattle.std.specs.Prelude.{Some, None}
use Rattle.um_tree.specs.TypeTree.{TypeTree, bool_type, num_type, list_type, record_type, NoteTree, bool_note}
use Rattle.um_tree.specs.TypeTree.{num_note, list_note, record_note, ShapeTree, bool_shape, num_shape, list_shape}
use Rattle.um_tree.specs.TypeTree.{record_shape}
use Rattle.um_tree.specs.ExprTree.{ExprTree, ExprTrees, truth, number, local, call, negate, not_expr, pown, arith}
use Rattle.um_tree.specs.ExprTree.{compare, both, either, if, bind, split, nil, list_expr, cons, record_expr, field}
use Rattle.um_tree.specs.ExprTree.{none, more}
use Rattle.um_tree.specs.ProgramTree.{RecordTree, FunctionTree, ProgramTree}
use Rattle.um_tree.specs.Typing.{field_types, MayRecur}

-- the shape of a type, and of a note
abbrev pub type_shape : TypeTree → ShapeTree
type_shape bool_type = bool_shape
type_shape (num_type u) = num_shape
type_shape (list_type t) = list_shape (type_shape t)
type_shape (record_type r us) = record_shape r

abbrev pub note_shape : NoteTree → ShapeTree
note_shape bool_note = bool_shape
note_shape (num_note n) = num_shape
note_shape (list_note n) = list_shape (note_shape n)
note_shape (record_note r ns) = record_shape r

-- the shapes of a function's parameters and of its result
pub record ShapeSignature : Type 0 where
  pub params : List ShapeTree
  pub result : ShapeTree

abbrev pub EachShapeIs : ShapeTree → List ShapeTree → Type 0
EachShapeIs s [] = Unit {0}
EachShapeIs s (t ∷ ts) = (t ≡ s) × EachShapeIs s ts

-- `calls j g`: a call of function j has these shapes
module _ (records : List RecordTree) (calls : ℕ → ShapeSignature → Type 0) where
  abbrev mutual
    -- the expression has the shape, where the variables of the scope have these shapes
    pub HasShape : List ShapeTree → ExprTree → ShapeTree → Type 0
    HasShape vars (truth at b) s = s ≡ bool_shape
    HasShape vars (number at c n) s = s ≡ num_shape
    HasShape vars (local at k) s = slice_get vars k ≡ Some s
    HasShape vars (call at j es) s =
        (ss : List ShapeTree) × AllHaveShapes vars es ss × calls j (record { params = ss; result = s })
    HasShape vars (negate at a) s = HasShape vars a num_shape × (s ≡ num_shape)
    HasShape vars (not_expr at a) s = HasShape vars a bool_shape × (s ≡ bool_shape)
    HasShape vars (pown at a k) s = HasShape vars a num_shape × (s ≡ num_shape)
    HasShape vars (arith at op a b) s = HasShape vars a num_shape × HasShape vars b num_shape × (s ≡ num_shape)
    HasShape vars (compare at sign a b) s =
        HasShape vars a num_shape × HasShape vars b num_shape × (s ≡ bool_shape)
    HasShape vars (both at a b) s = HasShape vars a bool_shape × HasShape vars b bool_shape × (s ≡ bool_shape)
    HasShape vars (either at a b) s = HasShape vars a bool_shape × HasShape vars b bool_shape × (s ≡ bool_shape)
    HasShape vars (if at c a b) s = HasShape vars c bool_shape × HasShape vars a s × HasShape vars b s
    HasShape vars (bind at a b) s = (t : ShapeTree) × HasShape vars a t × HasShape (vars ++ t ∷ []) b s
    HasShape vars (split at l a b) s =
        (t : ShapeTree) × HasShape vars l (list_shape t) × HasShape vars a s
        × HasShape (vars ++ t ∷ list_shape t ∷ []) b s
    HasShape vars (nil at n) s = (t : ShapeTree) × (note_shape n ≡ list_shape t) × (s ≡ list_shape t)
    HasShape vars (list_expr at es) s =
        (t : ShapeTree) × (rest : List ShapeTree) × AllHaveShapes vars es (t ∷ rest)
        × EachShapeIs t rest × (s ≡ list_shape t)
    HasShape vars (cons at a b) s =
        (t : ShapeTree) × HasShape vars a t × HasShape vars b (list_shape t) × (s ≡ list_shape t)
    HasShape vars (record_expr at r es) s =
        (d : RecordTree) × (slice_get records r ≡ Some d)
        × AllHaveShapes vars es (map type_shape (field_types d)) × (s ≡ record_shape r)
    HasShape vars (field at r k a) s =
        (d : RecordTree) × (declared : TypeTree) × (slice_get records r ≡ Some d)
        × (slice_get (field_types d) k ≡ Some declared) × HasShape vars a (record_shape r) × (s ≡ type_shape declared)

    -- expression by expression
    pub AllHaveShapes : List ShapeTree → ExprTrees → List ShapeTree → Type 0
    AllHaveShapes vars none ss = ss ≡ []
    AllHaveShapes vars (more e es) ss =
        (t : ShapeTree) × (rest : List ShapeTree) × HasShape vars e t × AllHaveShapes vars es rest × (ss ≡ t ∷ rest)

-- the shapes of the functions before
abbrev pub EarlierShapes : Type 1
EarlierShapes = ℕ → ShapeSignature → Type 0

abbrev pub CallShapes : EarlierShapes → ℕ → FunctionTree → ShapeSignature → ℕ → ShapeSignature → Type 0
CallShapes earlier i f self j g = ((j < i) × earlier j g) ⊎ ((j ≡ i) × MayRecur f × (g ≡ self))

abbrev pub ResultShape : Option NoteTree → ShapeTree → Type 0
ResultShape None s = Unit {0}
ResultShape (Some n) s = s ≡ note_shape n

-- the parameters have their notes' shapes, the result its note's, and the body the result's
pub record IsShapeOf
    (records : List RecordTree) (earlier : EarlierShapes) (i : ℕ) (f : FunctionTree) (g : ShapeSignature) : Type 0 where
  pub params : g.params ≡ map note_shape f.params
  pub result : ResultShape f.result g.result
  pub body : HasShape records (CallShapes earlier i f g) g.params f.body g.result

abbrev pub ShapeAt : List RecordTree → EarlierShapes → ℕ → Option FunctionTree → ShapeSignature → Type 0
ShapeAt records earlier i None g = ⊥
ShapeAt records earlier i (Some f) g = IsShapeOf records earlier i f g

-- the shapes of the functions below a number
abbrev pub shapes_below : ProgramTree → ℕ → EarlierShapes
shapes_below p zero j g = ⊥
shapes_below p (suc n) j g =
    cond (nat_eq j n)
    (ShapeAt p.records (shapes_below p n) n (slice_get p.functions n) g)
    (shapes_below p n j g)

-- function i of the program has these shapes
abbrev pub FunctionShape : ProgramTree → ℕ → ShapeSignature → Type 0
FunctionShape p i g = ShapeAt p.records (shapes_below p i) i (slice_get p.functions i) g

-- each function of the program has its shapes
abbrev pub IsShaped : ProgramTree → Type 0
IsShaped p = (i : ℕ) (f : FunctionTree) → slice_get p.functions i ≡ Some f → (g : ShapeSignature) × FunctionShape p i g
