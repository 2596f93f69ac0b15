-- The first shape fault of a program: the records in order, then the functions in order, each node after its parts.
-- Source: this project's own; the shapes are those of um_tree's Shapes.
-- A recursion on trees: no list of work, and nothing looked up that was found before but the shapes of variables and
-- functions.
use Rattle.std.specs.Prelude.{ℕ, Bool, true, false, cond, ◌&&◌, nat_eq, nat_le, List, [], ◌∷◌, ◌++◌, map, slice_get}
use Rattle.std.specs.Prelude.{Option, Some, None, Result, Ok, Err}
use Rattle.um_tree.specs.TypeTree.{ShapeTree, bool_shape, num_shape, list_shape, record_shape, NoteTree}
use Rattle.um_tree.specs.ExprTree.{ExprTree, ExprTrees, truth, number, local, call, negate, not_expr, pown, arith}
use Rattle.um_tree.specs.ExprTree.{compare, both, either, if, bind, split, nil, list_expr, cons, record_expr, field}
use Rattle.um_tree.specs.ExprTree.{none, more}
use Rattle.um_tree.specs.ProgramTree.{RecordTree, FunctionTree, ProgramTree}
use Rattle.um_tree.specs.Shapes.{note_shape, ShapeSignature}
use Rattle.um_tree.specs.Heights.{greatest_height}
use Rattle.um_shape.specs.RecordShapes.{RecordShape, shape_height, tallest, declared_shape}

-- a fault at its place: no rule gives a shape, or the shape is taller than 400
pub data ShapeFault : Type 0 where
  wrong_shape : ℕ → ShapeFault
  too_deep : ℕ → ShapeFault

-- the first part that has a fault gives the whole its fault
abbrev pub then : {A B : Type 0} → Result A ShapeFault → (A → Result B ShapeFault) → Result B ShapeFault
then (Ok x) go = go x
then (Err e) go = Err e

-- ---- the shape of a node, from those of its parts, if its rule gives one

abbrev pub same_shape : ShapeTree → ShapeTree → Bool
same_shape bool_shape bool_shape = true
same_shape num_shape num_shape = true
same_shape (list_shape s) (list_shape t) = same_shape s t
same_shape (record_shape r) (record_shape q) = nat_eq r q
same_shape s t = false

-- shape by shape
abbrev pub same_shapes : List ShapeTree → List ShapeTree → Bool
same_shapes [] [] = true
same_shapes (s ∷ ss) (t ∷ ts) = same_shape s t && same_shapes ss ts
same_shapes ss ts = false

abbrev pub all_same : ShapeTree → List ShapeTree → Bool
all_same s [] = true
all_same s (t ∷ ts) = same_shape t s && all_same s ts

abbrev pub where_true : Bool → ShapeTree → Option ShapeTree
where_true b s = cond b (Some s) None

-- both parts are numbers
abbrev pub of_numbers : ShapeTree → ShapeTree → ShapeTree → Option ShapeTree
of_numbers s t whole = where_true (same_shape s num_shape && same_shape t num_shape) whole

-- both parts are truth values
abbrev pub of_truths : ShapeTree → ShapeTree → Option ShapeTree
of_truths s t = where_true (same_shape s bool_shape && same_shape t bool_shape) bool_shape

-- both arms have one shape
abbrev pub of_arms : ShapeTree → ShapeTree → Option ShapeTree
of_arms s t = where_true (same_shape t s) s

-- the condition is a truth value, and both arms have one shape
abbrev pub of_condition : ShapeTree → ShapeTree → ShapeTree → Option ShapeTree
of_condition c s t = where_true (same_shape c bool_shape && same_shape t s) s

-- a list itself
abbrev pub of_list : ShapeTree → Option ShapeTree
of_list (list_shape s) = Some (list_shape s)
of_list s = None

-- the items have the shape of the first
abbrev pub of_items : List ShapeTree → Option ShapeTree
of_items [] = None
of_items (s ∷ ss) = where_true (all_same s ss) (list_shape s)

-- the tail is a list of such heads
abbrev pub of_head : ShapeTree → ShapeTree → Option ShapeTree
of_head s t = where_true (same_shape t (list_shape s)) t

-- the arguments have the parameters' shapes
abbrev pub of_call : Option ShapeSignature → List ShapeTree → Option ShapeTree
of_call None ss = None
of_call (Some g) ss = where_true (same_shapes ss g.params) g.result

-- the parts have the fields' shapes
abbrev pub of_record : Option RecordShape → ℕ → List ShapeTree → Option ShapeTree
of_record None r ss = None
of_record (Some d) r ss = where_true (same_shapes ss d.fields) (record_shape r)

-- the field, of a part that is of the record
abbrev pub of_field : Option RecordShape → ℕ → ℕ → ShapeTree → Option ShapeTree
of_field None r k s = None
of_field (Some d) r k s = cond (same_shape s (record_shape r)) (slice_get d.fields k) None

-- ---- the first fault of an expression

-- the item's shape, if a list is asked for
abbrev pub item_of : ℕ → ShapeTree → Result ShapeTree ShapeFault
item_of at (list_shape s) = Ok s
item_of at s = Err (wrong_shape at)

-- at one node the rule is looked at first, and then the height
abbrev pub at_node : List RecordShape → ℕ → Option ShapeTree → Result ShapeTree ShapeFault
at_node records at None = Err (wrong_shape at)
at_node records at (Some s) = cond (nat_le (shape_height records s) greatest_height) (Ok s) (Err (too_deep at))

-- the records, and the functions that may be called
module _ (records : List RecordShape) (callees : List ShapeSignature) where
  abbrev mutual
    -- the shape of the expression, or its first fault, if the variables of the scope have these shapes
    pub found : List ShapeTree → ExprTree → Result ShapeTree ShapeFault
    found vars (truth at b) = at_node records at (Some bool_shape)
    found vars (number at c n) = at_node records at (Some num_shape)
    found vars (local at k) = at_node records at (slice_get vars k)
    found vars (call at j es) = then (all_found vars es) (λ ss. at_node records at (of_call (slice_get callees j) ss))
    found vars (negate at a) =
        then (found vars a) (λ s. at_node records at (where_true (same_shape s num_shape) num_shape))
    found vars (not_expr at a) =
        then (found vars a) (λ s. at_node records at (where_true (same_shape s bool_shape) bool_shape))
    found vars (pown at a k) =
        then (found vars a) (λ s. at_node records at (where_true (same_shape s num_shape) num_shape))
    found vars (arith at op a b) =
        then (found vars a) (λ s. then (found vars b) (λ t. at_node records at (of_numbers s t num_shape)))
    found vars (compare at sign a b) =
        then (found vars a) (λ s. then (found vars b) (λ t. at_node records at (of_numbers s t bool_shape)))
    found vars (both at a b) =
        then (found vars a) (λ s. then (found vars b) (λ t. at_node records at (of_truths s t)))
    found vars (either at a b) =
        then (found vars a) (λ s. then (found vars b) (λ t. at_node records at (of_truths s t)))
    found vars (if at c a b) =
        then (found vars c) (λ r. then (found vars a) (λ s. then (found vars b)
        (λ t. at_node records at (of_condition r s t))))
    found vars (bind at a b) =
        then (found vars a) (λ s. then (found (vars ++ s ∷ []) b) (λ t. at_node records at (Some t)))
    -- a part that is no list is a fault before the arms are looked at
    found vars (split at l a b) =
        then (found vars l) (λ r. then (item_of at r) (λ item. then (found vars a) (λ s.
        then (found (vars ++ item ∷ list_shape item ∷ []) b) (λ t. at_node records at (of_arms s t)))))
    found vars (nil at n) = at_node records at (of_list (note_shape n))
    found vars (list_expr at es) = then (all_found vars es) (λ ss. at_node records at (of_items ss))
    found vars (cons at a b) = then (found vars a) (λ s. then (found vars b) (λ t. at_node records at (of_head s t)))
    found vars (record_expr at r es) =
        then (all_found vars es) (λ ss. at_node records at (of_record (slice_get records r) r ss))
    found vars (field at r k a) = then (found vars a) (λ s. at_node records at (of_field (slice_get records r) r k s))

    -- expression by expression
    pub all_found : List ShapeTree → ExprTrees → Result (List ShapeTree) ShapeFault
    all_found vars none = Ok []
    all_found vars (more e es) = then (found vars e) (λ s. then (all_found vars es) (λ ss. Ok (s ∷ ss)))

-- ---- the first fault of a program

-- a `rec` function may be called in its own body, at the shapes of its notes
abbrev pub noted_shapes : List NoteTree → Option NoteTree → List ShapeSignature
noted_shapes params None = []
noted_shapes params (Some n) = record { params = map note_shape params; result = note_shape n } ∷ []

abbrev pub own_shapes : FunctionTree → List ShapeSignature
own_shapes f = cond f.recursive (noted_shapes f.params f.result) []

-- the shape is that of the result's note, if one is written
abbrev pub fits_result : Option NoteTree → ShapeTree → Bool
fits_result None s = true
fits_result (Some n) s = same_shape s (note_shape n)

-- the parameters, the body, and then the result, if the functions before have these shapes
abbrev pub function_found : List RecordShape → List ShapeSignature → FunctionTree → Result ShapeSignature ShapeFault
function_found records known f =
    cond
    (nat_le (tallest records (map note_shape f.params)) greatest_height)
    (then (found records (known ++ own_shapes f) (map note_shape f.params) f.body) (λ s.
    cond (fits_result f.result s)
    (Ok (record { params = map note_shape f.params; result = s }))
    (Err (wrong_shape f.at))))
    (Err (too_deep f.at))

abbrev pub functions_found :
    List RecordShape → List ShapeSignature → List FunctionTree → Result (List ShapeSignature) ShapeFault
functions_found records known [] = Ok known
functions_found records known (f ∷ fs) =
    then (function_found records known f) (λ g. functions_found records (known ++ g ∷ []) fs)

-- a record is no taller than 400
abbrev pub record_found : List RecordShape → RecordTree → Result RecordShape ShapeFault
record_found earlier d =
    cond (nat_le (declared_shape earlier d).height greatest_height) (Ok (declared_shape earlier d))
    (Err (too_deep d.at))

abbrev pub records_found : List RecordShape → List RecordTree → Result (List RecordShape) ShapeFault
records_found earlier [] = Ok earlier
records_found earlier (d ∷ ds) = then (record_found earlier d) (λ s. records_found (earlier ++ s ∷ []) ds)

-- the shapes of the program's functions, or its first fault: the records come first
abbrev pub program_found : ProgramTree → Result (List ShapeSignature) ShapeFault
program_found p = then (records_found [] p.records) (λ records. functions_found records [] p.functions)

abbrev pub fault_of : {A : Type 0} → Result A ShapeFault → Option ShapeFault
fault_of (Ok x) = None
fault_of (Err e) = Some e

abbrev pub first_fault : ProgramTree → Option ShapeFault
first_fault p = fault_of (program_found p)
