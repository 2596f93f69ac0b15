-- Shapes over the records that are known.
use Rattle.std.proofs.Common.{◌≡◌, ℕ, ◌+◌, ◌≤◌, Bool, true, false, cond, max, List, [], ◌∷◌, ◌++◌, map, All, refl, sym, ap, ◌∙◌, nat_le, lt-ltb, le-leb, leb-true, arith}
use Rattle.std.specs.List.{list_all}
use Rattle.std.proofs.lemmas.Bool.{ltb-true, and_from, and_parts}
use Rattle.std.proofs.lemmas.List.Elements.{All-nil, All-cons, All-head, All-tail}
use Rattle.um_tree.specs.TypeTree.{TypeTree, bool_type, num_type, list_type, record_type, ShapeTree, bool_shape, num_shape, list_shape, record_shape}
use Rattle.um_tree.specs.ProgramTree.{FieldTree, RecordTree}
use Rattle.um_tree.specs.Shapes.{type_shape}
use Rattle.um_tree.specs.Heights.{greatest_height}
use Rattle.um_tree.specs.Formed.{NamesEarlier}
use Rattle.um_shape.specs.RecordShapes.{RecordShape, shape_height, tallest, declared_shape}
use Rattle.um_verify.specs.StackShape.{StackShape, on_stack, stack_height}
use Rattle.um_verify.specs.Heads.{and_shapes, NamesBelow}
use Rattle.um_verify.specs.Rules.{low_state}
use Rattle.um_verifier.specs.KnownImages.{off_stack, over, highest}
use Rattle.um_stacks.specs.FlatShapes.{names_below}

-- ---- heights

pub on_stack_height : (heights : List RecordShape) (s : ShapeTree) → stack_height heights (on_stack s) ≡ shape_height heights s
on_stack_height heights bool_shape = refl
on_stack_height heights num_shape = refl
on_stack_height heights (list_shape s) = ap (λ (n : ℕ). n + 1) (on_stack_height heights s)
on_stack_height heights (record_shape r) = refl

pub highest_tallest : (heights : List RecordShape) (ss : List ShapeTree) → highest heights (map on_stack ss) ≡ tallest heights ss
highest_tallest heights [] = refl
highest_tallest heights (s ∷ ss) = (λ i. max (on_stack_height heights s i) (highest_tallest heights ss i))

pub off_on : (s : ShapeTree) → off_stack (on_stack s) ≡ s
off_on bool_shape = refl
off_on num_shape = refl
off_on (list_shape s) = ap list_shape (off_on s)
off_on (record_shape r) = refl

pub all_off_on : (ss : List ShapeTree) → map off_stack (map on_stack ss) ≡ ss
all_off_on [] = refl
all_off_on (s ∷ ss) = (λ i. off_on s i ∷ all_off_on ss i)

-- shapes that are over these records are at most as high
pub highest_low : (n : ℕ) (heights : List RecordShape) (ss : List StackShape) → list_all (over n heights) ss ≡ true → highest heights ss ≤ greatest_height
highest_low n heights [] h = omega arith
highest_low n heights (s ∷ ss) h =
    let both = and_parts (over n heights s) (list_all (over n heights) ss) h in
    let one = and_parts (names_below n s) (nat_le (stack_height heights s) greatest_height) both.0 in
    let first = leb-true (stack_height heights s) greatest_height one.1 in
    let rest = highest_low n heights ss both.1 in
    omega arith

pub over_low : (n : ℕ) (heights : List RecordShape) (ss : List StackShape) → list_all (over n heights) ss ≡ true → low_state heights ss ≡ true
over_low n heights [] h = refl
over_low n heights (s ∷ ss) h =
    let both = and_parts (over n heights s) (list_all (over n heights) ss) h in
    let one = and_parts (names_below n s) (nat_le (stack_height heights s) greatest_height) both.0 in
    both_low (nat_le (stack_height heights s) greatest_height) (low_state heights ss) one.1 (over_low n heights ss both.1)
  where
    both_low : (b c : Bool) → b ≡ true → c ≡ true → cond b c false ≡ true
    both_low true c h k = k
    both_low false c h k = absurd cc

-- ---- the records that are named

below_is : (n : ℕ) (s : ShapeTree) → NamesBelow n s → names_below n (on_stack s) ≡ true
below_is n bool_shape h = refl
below_is n num_shape h = refl
below_is n (list_shape s) h = below_is n s h
below_is n (record_shape r) h = lt-ltb r n h

is_below : (n : ℕ) (s : ShapeTree) → names_below n (on_stack s) ≡ true → NamesBelow n s
is_below n bool_shape h = tt
is_below n num_shape h = tt
is_below n (list_shape s) h = is_below n s h
is_below n (record_shape r) h = ltb-true r n h

earlier_below : (n : ℕ) (t : TypeTree) → NamesEarlier n t → NamesBelow n (type_shape t)
earlier_below n bool_type h = tt
earlier_below n (num_type u) h = tt
earlier_below n (list_type t) h = earlier_below n t h
earlier_below n (record_type r us) h = h

below_earlier : (n : ℕ) (t : TypeTree) → NamesBelow n (type_shape t) → NamesEarlier n t
below_earlier n bool_type h = tt
below_earlier n (num_type u) h = tt
below_earlier n (list_type t) h = below_earlier n t h
below_earlier n (record_type r us) h = h

-- ---- both

module _ (n : ℕ) (heights : List RecordShape) where
  -- it names records below n, and is at most 400 high
  abbrev pub Over : ShapeTree → Type 0
  Over s = NamesBelow n s × (shape_height heights s ≤ greatest_height)

  pub over_is : (s : ShapeTree) → Over s → over n heights (on_stack s) ≡ true
  over_is s h =
      let high = on_stack_height heights s in
      and_from (names_below n (on_stack s)) (nat_le (stack_height heights (on_stack s)) greatest_height) (below_is n s h.0)
      (ap (λ (k : ℕ). nat_le k greatest_height) high ∙ le-leb (shape_height heights s) greatest_height h.1)

  pub is_over : (s : ShapeTree) → over n heights (on_stack s) ≡ true → Over s
  is_over s h =
      let both = and_parts (names_below n (on_stack s)) (nat_le (stack_height heights (on_stack s)) greatest_height) h in
      let high = on_stack_height heights s in
      (is_below n s both.0, leb-true (shape_height heights s) greatest_height (sym (ap (λ (k : ℕ). nat_le k greatest_height) high) ∙ both.1))

  pub all_over : (ss : List ShapeTree) → All Over ss → list_all (over n heights) (map on_stack ss) ≡ true
  all_over [] h = refl
  all_over (s ∷ ss) h = and_from (over n heights (on_stack s)) (list_all (over n heights) (map on_stack ss)) (over_is s (All-head Over s ss h)) (all_over ss (All-tail Over s ss h))

  pub over_all : (ss : List ShapeTree) → list_all (over n heights) (map on_stack ss) ≡ true → All Over ss
  over_all [] h = All-nil Over
  over_all (s ∷ ss) h =
      let both = and_parts (over n heights (on_stack s)) (list_all (over n heights) (map on_stack ss)) h in
      All-cons Over s ss (is_over s both.0) (over_all ss both.1)

  abbrev IsEarlier : FieldTree → Type 0
  IsEarlier f = NamesEarlier n f.type

  abbrev IsLow : FieldTree → Type 0
  IsLow f = shape_height heights (type_shape f.type) ≤ greatest_height

  abbrev shapes_of : List FieldTree → List StackShape
  shapes_of fs = map on_stack (map type_shape (map (λ (f : FieldTree). f.type) fs))

  pub fields_over : (fs : List FieldTree) → All IsEarlier fs → All IsLow fs → list_all (over n heights) (shapes_of fs) ≡ true
  fields_over [] e l = refl
  fields_over (f ∷ fs) e l =
      and_from (over n heights (on_stack (type_shape f.type))) (list_all (over n heights) (shapes_of fs))
      (over_is (type_shape f.type) (earlier_below n f.type (All-head IsEarlier f fs e), All-head IsLow f fs l)) (fields_over fs (All-tail IsEarlier f fs e) (All-tail IsLow f fs l))

  pub over_fields : (fs : List FieldTree) → list_all (over n heights) (shapes_of fs) ≡ true → All IsEarlier fs × All IsLow fs
  over_fields [] h = (All-nil IsEarlier, All-nil IsLow)
  over_fields (f ∷ fs) h =
      let both = and_parts (over n heights (on_stack (type_shape f.type))) (list_all (over n heights) (shapes_of fs)) h in
      let one = is_over (type_shape f.type) both.0 in
      let rest = over_fields fs both.1 in
      (All-cons IsEarlier f fs (below_earlier n f.type one.0) rest.0, All-cons IsLow f fs one.1 rest.1)

-- ---- the shapes of records

pub and_shapes_push : (ds : List RecordTree) (earlier : List RecordShape) (d : RecordTree) → and_shapes earlier (ds ++ d ∷ []) ≡ and_shapes earlier ds ++ declared_shape (and_shapes earlier ds) d ∷ []
and_shapes_push [] earlier d = refl
and_shapes_push (x ∷ ds) earlier d = and_shapes_push ds (earlier ++ declared_shape earlier x ∷ []) d
