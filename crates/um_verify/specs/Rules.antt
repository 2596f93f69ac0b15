-- The rules of instructions over shapes: what each needs of the state that arrives at it, and what it passes on.
-- Source: X. Leroy, Java bytecode verification: algorithms and formalizations, 2003. The instructions and the limit of
-- heights are this project's own.
use Rattle.std.specs.Prelude.{ℕ, ◌+◌, Bool, true, false, cond, nat_eq, nat_lt, nat_le, List, [], ◌∷◌, ◌++◌, length, map}
use Rattle.std.specs.Prelude.{Option, Some, None, slice_get}
use Rattle.um_tree.specs.ProgramTree.{RecordTree}
use Rattle.um_tree.specs.Typing.{field_types}
use Rattle.um_tree.specs.Shapes.{type_shape}
use Rattle.um_tree.specs.Heights.{greatest_height}
use Rattle.um_shape.specs.RecordShapes.{RecordShape}
use Rattle.um_machine.specs.declared.op.Op.{Op}
use Rattle.um_machine.specs.declared.op.Op.TheVariants.{PushNum, PushBool, Load, Add, Sub, Mul, Div, Neg, Not, Lt, Le}
use Rattle.um_machine.specs.declared.op.Op.TheVariants.{Eq, Jump, JumpIfNot, MakeList, Cons, Split, MakeRec, Field}
use Rattle.um_machine.specs.declared.op.Op.TheVariants.{Slide, Call, Ret, Pow}
use Rattle.um_machine.specs.declared.code.Entry.{Entry}
use Rattle.um_machine.specs.Stack.{takes, on_one, on_two, on_found}
use Rattle.um_verify.specs.StackShape.{StackShape, void, bool, num, list, made, on_stack, fits, join, fit_all}
use Rattle.um_verify.specs.StackShape.{join_items, stack_height}
use Rattle.um_verify.specs.ImageTree.{HeadTree, ImageTree}
use Rattle.um_verify.specs.Heads.{record_shapes}

-- ---- what the rules look at

-- a function: the address of its first instruction and the one after its last, and its shapes
pub record Body : Type 0 where
  pub start : ℕ
  pub end : ℕ
  pub params : List StackShape
  pub result : StackShape

-- an image: its instructions, its functions, and of each record the shapes of the fields and the height
pub record View : Type 0 where
  pub ops : List Op
  pub bodies : List Body
  pub fields : List (List StackShape)
  pub heights : List RecordShape

abbrev pub body_of : Entry → HeadTree → Body
body_of e h = record {
  start = e.start;
  end = e.end;
  params = map on_stack h.params;
  result = on_stack h.result;
}

abbrev pub bodies_of : List Entry → List HeadTree → List Body
bodies_of (e ∷ es) (h ∷ hs) = body_of e h ∷ bodies_of es hs
bodies_of es hs = []

abbrev pub fields_on_stack : RecordTree → List StackShape
fields_on_stack d = map on_stack (map type_shape (field_types d))

abbrev pub view_of : ImageTree → View
view_of image = record {
  ops = image.code.ops;
  bodies = bodies_of image.code.entries image.heads;
  fields = map fields_on_stack image.records;
  heights = record_shapes image.records;
}

-- ---- what is passed on

-- a state that is passed on to an address: the shapes of the running function's own values, the deepest first
pub record Sent : Type 0 where
  pub to : ℕ
  pub state : List StackShape

-- what an instruction passes on, or that its rule fails
pub data Flow : Type 0 where
  fails : Flow
  passes : List Sent → Flow

abbrev pub need : Bool → Flow → Flow
need b flow = cond b flow fails

-- one state is passed on
abbrev pub to : ℕ → List StackShape → Flow
to a st = passes (record { to = a; state = st } ∷ [])

-- the item and the list, if the shape is a list's or void
abbrev pub on_list_shape : StackShape → (StackShape → StackShape → Flow) → Flow
on_list_shape void go = go void void
on_list_shape bool go = fails
on_list_shape num go = fails
on_list_shape (list s) go = go s (list s)
on_list_shape (made r) go = fails

-- the record, if the shape is a record's; `none` is the answer at void
abbrev pub on_record_shape : StackShape → Flow → (ℕ → Flow) → Flow
on_record_shape void none go = none
on_record_shape bool none go = fails
on_record_shape num none go = fails
on_record_shape (list s) none go = fails
on_record_shape (made r) none go = go r

abbrev pub fields_of : Option (List StackShape) → List StackShape
fields_of None = []
fields_of (Some ss) = ss

-- y is taken, which fits the first shape, and the second is pushed
abbrev pub fit_one : ℕ → List StackShape → StackShape → StackShape → Flow
fit_one a st asked given =
    takes 0 1 st fails (λ low taken. on_one taken fails (λ y. need (fits y asked) (to (a + 1) (low ++ given ∷ []))))

-- the same of x and y
abbrev pub fit_two : ℕ → List StackShape → StackShape → StackShape → Flow
fit_two a st asked given =
    takes 0 2 st fails (λ low taken.
    on_two taken fails (λ x y. need (fits x asked) (need (fits y asked) (to (a + 1) (low ++ given ∷ [])))))

-- the rule of the instruction at address a of a function, if this state arrives
abbrev pub rule : View → Body → ℕ → List StackShape → Op → Flow
rule view body a st (PushNum c) = to (a + 1) (st ++ num ∷ [])
rule view body a st (PushBool b) = to (a + 1) (st ++ bool ∷ [])
rule view body a st (Load k) = on_found (slice_get st k) fails (λ s. to (a + 1) (st ++ s ∷ []))
rule view body a st Add = fit_two a st num num
rule view body a st Sub = fit_two a st num num
rule view body a st Mul = fit_two a st num num
rule view body a st Div = fit_two a st num num
rule view body a st Neg = fit_one a st num num
rule view body a st Not = fit_one a st bool bool
rule view body a st Lt = fit_two a st num bool
rule view body a st Le = fit_two a st num bool
rule view body a st Eq = fit_two a st num bool
rule view body a st (Jump t) = to t st
rule view body a st (JumpIfNot t) =
    takes 0 1 st fails (λ low taken.
    on_one taken fails (λ y. need (fits y bool)
    (passes (record { to = a + 1; state = low } ∷ record { to = t; state = low } ∷ []))))
rule view body a st (MakeList n) =
    takes 0 n st fails (λ low taken. on_found (join_items taken) fails (λ s. to (a + 1) (low ++ list s ∷ [])))
rule view body a st Cons =
    takes 0 2 st fails (λ low taken.
    on_two taken fails (λ x y. on_list_shape y (λ item tail.
    on_found (join x item) fails (λ s. to (a + 1) (low ++ list s ∷ [])))))
rule view body a st (Split t) =
    takes 0 1 st fails (λ low taken.
    on_one taken fails (λ y. on_list_shape y (λ item tail.
    passes (record { to = t; state = low } ∷ record { to = a + 1; state = low ++ item ∷ tail ∷ [] } ∷ []))))
rule view body a st (MakeRec r n) =
    on_found (slice_get view.fields r) fails (λ ss. need (nat_eq (length ss) n)
    (takes 0 n st fails (λ low taken. need (fit_all taken ss) (to (a + 1) (low ++ made r ∷ [])))))
rule view body a st (Field k) =
    takes 0 1 st fails (λ low taken.
    on_one taken fails (λ y. on_record_shape y (to (a + 1) (low ++ void ∷ [])) (λ r.
    on_found (slice_get (fields_of (slice_get view.fields r)) k) fails (λ s. to (a + 1) (low ++ s ∷ [])))))
rule view body a st (Slide k) =
    takes 0 1 st fails (λ low taken.
    on_one taken fails (λ y. takes 0 k low fails (λ lower dropped. to (a + 1) (lower ++ y ∷ []))))
rule view body a st (Call f) =
    on_found (slice_get view.bodies f) fails (λ g.
    takes 0 (length g.params) st fails (λ low taken. need (fit_all taken g.params) (to (a + 1) (low ++ g.result ∷ []))))
rule view body a st Ret =
    takes 0 1 st fails (λ low taken. on_one taken fails (λ y. need (fits y body.result) (passes [])))
rule view body a st (Pow k) = fit_one a st num num

-- each of these is passed on to a later address of the function
abbrev pub inside : ℕ → ℕ → List Sent → Bool
inside a end [] = true
inside a end (p ∷ ps) = cond (nat_lt a p.to) (cond (nat_lt p.to end) (inside a end ps) false) false

-- each shape is no higher than 400 through the fields of these records
abbrev pub low_state : List RecordShape → List StackShape → Bool
low_state heights [] = true
low_state heights (s ∷ st) = cond (nat_le (stack_height heights s) greatest_height) (low_state heights st) false

abbrev pub low_states : List RecordShape → List Sent → Bool
low_states heights [] = true
low_states heights (p ∷ ps) = cond (low_state heights p.state) (low_states heights ps) false

-- what is passed on stays within the function and within the limit of heights
abbrev pub forwards : View → Body → ℕ → Flow → Flow
forwards view body a fails = fails
forwards view body a (passes ps) = need (inside a body.end ps) (need (low_states view.heights ps) (passes ps))
