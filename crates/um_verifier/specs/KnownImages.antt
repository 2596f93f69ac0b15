-- What the code keeps of an image: the shapes of its records and functions. This mirrors the code.
-- Source: this project's own.
use Rattle.std.specs.Prelude.{ℕ, ◌+◌, ◌&&◌, Bool, nat_le, max, List, [], ◌∷◌, ◌++◌, length, map}
use Rattle.std.specs.Prelude.{slice_get, vec_len}
use Rattle.um_tree.specs.TypeTree.{ShapeTree, bool_shape, num_shape, list_shape, record_shape}
use Rattle.um_tree.specs.Heights.{greatest_height}
use Rattle.um_shape.specs.RecordShapes.{RecordShape}
use Rattle.um_machine.specs.declared.code.Entry.{Entry}
use Rattle.um_machine.specs.declared.code.Code.{Code}
use Rattle.um_machine.specs.Stack.{takes, on_found}
use Rattle.um_verify.specs.StackShape.{StackShape, void, bool, num, list, made, fit_all, stack_height}
use Rattle.um_verify.specs.Rules.{Body, View, Flow, fails, passes, need, to, on_record_shape, fields_of}
use Rattle.um_verify.specs.Rules.{inside, low_states}
use Rattle.um_stacks.specs.FlatShapes.{flat_shape, flat_shapes, names_below}
use Rattle.um_verifier.specs.declared.known.KnownRecord.{KnownRecord}
use Rattle.um_verifier.specs.declared.known.KnownHead.{KnownHead}
use Rattle.um_verifier.specs.declared.known.Known.{Known}

abbrev pub known_fields : Known → List (List StackShape)
known_fields known = map (λ r. flat_shapes r.fields.items) known.records.items

-- the shape of the values that have this one on the stack; of no value anything may be said
abbrev pub off_stack : StackShape → ShapeTree
off_stack void = bool_shape
off_stack bool = bool_shape
off_stack num = num_shape
off_stack (list s) = list_shape (off_stack s)
off_stack (made r) = record_shape r

abbrev pub known_shape : KnownRecord → RecordShape
known_shape r = record { fields = map off_stack (flat_shapes r.fields.items); height = r.height }

abbrev pub known_heights : Known → List RecordShape
known_heights known = map known_shape known.records.items

abbrev pub known_body : Entry → KnownHead → Body
known_body e h = record {
  start = e.start;
  end = e.end;
  params = flat_shapes h.params.items;
  result = flat_shape h.result;
}

abbrev pub known_bodies : List Entry → List KnownHead → List Body
known_bodies (e ∷ es) (h ∷ hs) = known_body e h ∷ known_bodies es hs
known_bodies es hs = []

abbrev pub known_view : Known → Code → View
known_view known code = record {
  ops = code.ops;
  bodies = known_bodies code.entries known.heads.items;
  fields = known_fields known;
  heights = known_heights known;
}

-- what is passed on stays within the limit of heights
abbrev pub lowered : List RecordShape → Flow → Flow
lowered heights fails = fails
lowered heights (passes ps) = need (low_states heights ps) (passes ps)

-- and within the function
abbrev pub stays : ℕ → ℕ → Flow → Flow
stays a end fails = fails
stays a end (passes ps) = need (inside a end ps) (passes ps)

-- as many shapes as are asked for are taken, which fit them, and one is pushed
abbrev pub fit_many : ℕ → List StackShape → List StackShape → StackShape → Flow
fit_many a st asked given =
    takes 0 (length asked) st fails (λ low taken. need (fit_all taken asked) (to (a + 1) (low ++ given ∷ [])))

-- the shape of a part of a value of a shape
abbrev pub part_flow : List (List StackShape) → StackShape → ℕ → (StackShape → Flow) → Flow
part_flow fields s k go =
    on_record_shape s (go void) (λ r. on_found (slice_get (fields_of (slice_get fields r)) k) fails go)

-- ---- shapes over what is known

-- a shape over n records of these heights, and at most 400 high
abbrev pub over : ℕ → List RecordShape → StackShape → Bool
over n heights s = names_below n s && nat_le (stack_height heights s) greatest_height

abbrev pub admits : Known → StackShape → Bool
admits known s = over (vec_len known.records) (known_heights known) s

abbrev pub highest : List RecordShape → List StackShape → ℕ
highest heights [] = 0
highest heights (s ∷ ss) = max (stack_height heights s) (highest heights ss)
