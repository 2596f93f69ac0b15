-- The shapes of what stands on a stack, when one fits another, and what several have in common.
-- Source: X. Leroy, Java bytecode verification: algorithms and formalizations, 2003 (states of types that meet where
-- ways of a code join). The shapes are this project's own.
use Rattle.std.specs.Prelude.{ℕ, Bool, true, false, cond, nat_eq, ◌+◌, List, [], ◌∷◌, Option, Some, None, option_map}
use Rattle.std.specs.Prelude.{slice_get}
use Rattle.um_tree.specs.TypeTree.{ShapeTree, bool_shape, num_shape, list_shape, record_shape}
use Rattle.um_shape.specs.RecordShapes.{RecordShape, declared_height}

-- No value has the shape `void`: it is that of the items of a list into which nothing was put. `made r` is the shape of
-- the values of record r.
pub data StackShape : Type 0 where
  void bool num : StackShape
  list : StackShape → StackShape
  made : ℕ → StackShape

abbrev pub on_stack : ShapeTree → StackShape
on_stack bool_shape = bool
on_stack num_shape = num
on_stack (list_shape s) = list (on_stack s)
on_stack (record_shape r) = made r

-- each value of the first shape is one of the second
abbrev pub fits : StackShape → StackShape → Bool
fits void t = true
fits bool bool = true
fits num num = true
fits (list s) (list t) = fits s t
fits (made q) (made r) = nat_eq q r
fits s t = false

-- the least shape that both fit
abbrev pub join : StackShape → StackShape → Option StackShape
join void t = Some t
join bool void = Some bool
join bool bool = Some bool
join num void = Some num
join num num = Some num
join (list s) void = Some (list s)
join (list s) (list t) = option_map list (join s t)
join (made q) void = Some (made q)
join (made q) (made r) = cond (nat_eq q r) (Some (made q)) None
join s t = None

-- ---- lists of shapes

-- place by place; the lists are as long
abbrev pub fit_all : List StackShape → List StackShape → Bool
fit_all [] [] = true
fit_all (s ∷ ss) (t ∷ ts) = cond (fits s t) (fit_all ss ts) false
fit_all ss ts = false

abbrev pub join_cons : Option StackShape → Option (List StackShape) → Option (List StackShape)
join_cons None o = None
join_cons (Some u) None = None
join_cons (Some u) (Some us) = Some (u ∷ us)

abbrev pub join_all : List StackShape → List StackShape → Option (List StackShape)
join_all [] [] = Some []
join_all (s ∷ ss) (t ∷ ts) = join_cons (join s t) (join_all ss ts)
join_all ss ts = None

abbrev pub join_with : StackShape → Option StackShape → Option StackShape
join_with s None = None
join_with s (Some t) = join s t

-- the shape of the items of a list of these
abbrev pub join_items : List StackShape → Option StackShape
join_items [] = Some void
join_items (s ∷ ss) = join_with s (join_items ss)

-- ---- heights

-- the height through the fields of these records
abbrev pub stack_height : List RecordShape → StackShape → ℕ
stack_height records void = 1
stack_height records bool = 1
stack_height records num = 1
stack_height records (list s) = stack_height records s + 1
stack_height records (made r) = declared_height (slice_get records r)
