-- The joins of the shapes that steps down a stack pass.
use Rattle.std.proofs.Common.{◌≡◌, refl, sym, ap, ◌∙◌, ℕ, Bool, true, false, cond, List, [], ◌∷◌, ◌++◌, Option, Some, None, option_map, append_assoc}
use Rattle.std.specs.Prelude.{nat_eq}
use Rattle.std.proofs.lemmas.List.{map-append}
use Rattle.um_verify.specs.StackShape.{StackShape, void, bool, num, list, made, join, join_with, join_items}
use Rattle.um_verify.proofs.Fits.{same_number}
use Rattle.um_stacks.specs.FlatShapes.{flat_shape, flat_shapes}
use Rattle.um_stacks.specs.Stacks.{join_both, IsPassed}
use Rattle.um_stacks.specs.declared.flat.FlatShape.{FlatShape}

-- ---- joins of three shapes

void_first : (o : Option StackShape) → join_with void o ≡ o
void_first None = refl
void_first (Some s) = refl

void_last : (s : StackShape) → join s void ≡ Some s
void_last void = refl
void_last bool = refl
void_last num = refl
void_last (list s) = refl
void_last (made r) = refl

none_last : (o : Option StackShape) → None ≡ join_both o None
none_last None = refl
none_last (Some s) = refl

bool_lists : (o : Option StackShape) → join_with bool (option_map list o) ≡ None
bool_lists None = refl
bool_lists (Some s) = refl

num_lists : (o : Option StackShape) → join_with num (option_map list o) ≡ None
num_lists None = refl
num_lists (Some s) = refl

made_lists : (q : ℕ) (o : Option StackShape) → join_with (made q) (option_map list o) ≡ None
made_lists q None = refl
made_lists q (Some s) = refl

bool_made : (q : ℕ) (b : Bool) → join_with bool (cond b (Some (made q)) None) ≡ None
bool_made q true = refl
bool_made q false = refl

num_made : (q : ℕ) (b : Bool) → join_with num (cond b (Some (made q)) None) ≡ None
num_made q true = refl
num_made q false = refl

list_made : (x : StackShape) (q : ℕ) (b : Bool) → join_with (list x) (cond b (Some (made q)) None) ≡ None
list_made x q true = refl
list_made x q false = refl

lists_void : (o : Option StackShape) → option_map list o ≡ join_both (option_map list o) (Some void)
lists_void None = refl
lists_void (Some s) = refl

lists_bool : (o : Option StackShape) → None ≡ join_both (option_map list o) (Some bool)
lists_bool None = refl
lists_bool (Some s) = refl

lists_num : (o : Option StackShape) → None ≡ join_both (option_map list o) (Some num)
lists_num None = refl
lists_num (Some s) = refl

lists_made : (o : Option StackShape) (r : ℕ) → None ≡ join_both (option_map list o) (Some (made r))
lists_made None r = refl
lists_made (Some s) r = refl

lists_first : (x : StackShape) (o : Option StackShape) → join_with (list x) (option_map list o) ≡ option_map list (join_with x o)
lists_first x None = refl
lists_first x (Some s) = refl

lists_last : (o : Option StackShape) (t : StackShape) → option_map list (join_both o (Some t)) ≡ join_both (option_map list o) (Some (list t))
lists_last None t = refl
lists_last (Some s) t = refl

records_void : (q : ℕ) (b : Bool) → cond b (Some (made q)) None ≡ join_both (cond b (Some (made q)) None) (Some void)
records_void q true = refl
records_void q false = refl

records_bool : (q : ℕ) (b : Bool) → None ≡ join_both (cond b (Some (made q)) None) (Some bool)
records_bool q true = refl
records_bool q false = refl

records_num : (q : ℕ) (b : Bool) → None ≡ join_both (cond b (Some (made q)) None) (Some num)
records_num q true = refl
records_num q false = refl

records_list : (q : ℕ) (b : Bool) (t : StackShape) → None ≡ join_both (cond b (Some (made q)) None) (Some (list t))
records_list q true t = refl
records_list q false t = refl

three_records : (q r p : ℕ) (b d : Bool) → nat_eq r p ≡ b → nat_eq q r ≡ d → join_with (made q) (cond b (Some (made r)) None) ≡ join_both (cond d (Some (made q)) None) (Some (made p))
three_records q r p true true e f = ap (λ (n : ℕ). cond (nat_eq q n) (Some (made q)) None) (same_number r p e)
three_records q r p true false e f = ap (λ (b : Bool). cond b (Some (made q)) None) f
three_records q r p false true e f =
    sym (ap (λ (n : ℕ). cond (nat_eq n p) (Some (made q)) None) (same_number q r f) ∙ ap (λ (b : Bool). cond b (Some (made q)) None) e)
three_records q r p false false e f = refl

associative : (x s t : StackShape) → join_with x (join s t) ≡ join_both (join x s) (Some t)
associative void s t = void_first (join s t)
associative bool void t = refl
associative bool bool void = refl
associative bool num void = refl
associative bool (list s) void = refl
associative bool (made q) void = refl
associative bool (list s) (list t) = bool_lists (join s t)
associative bool (made q) (made r) = bool_made q (nat_eq q r)
associative num void t = refl
associative num bool void = refl
associative num num void = refl
associative num (list s) void = refl
associative num (made q) void = refl
associative num (list s) (list t) = num_lists (join s t)
associative num (made q) (made r) = num_made q (nat_eq q r)
associative (list x) void t = refl
associative (list x) bool void = refl
associative (list x) num void = refl
associative (list x) (made q) void = refl
associative (list x) (list s) void = lists_void (join x s)
associative (list x) (list s) bool = lists_bool (join x s)
associative (list x) (list s) num = lists_num (join x s)
associative (list x) (list s) (list t) = lists_first x (join s t) ∙ ap (option_map list) (associative x s t) ∙ lists_last (join x s) t
associative (list x) (list s) (made r) = lists_made (join x s) r
associative (list x) (made q) (made r) = list_made x q (nat_eq q r)
associative (made q) void t = refl
associative (made q) bool void = refl
associative (made q) num void = refl
associative (made q) (list s) void = refl
associative (made q) (list s) (list t) = made_lists q (join s t)
associative (made q) (made r) void = records_void q (nat_eq q r)
associative (made q) (made r) bool = records_bool q (nat_eq q r)
associative (made q) (made r) num = records_num q (nat_eq q r)
associative (made q) (made r) (list t) = records_list q (nat_eq q r) t
associative (made q) (made r) (made p) = three_records q r p (nat_eq r p) (nat_eq q r) refl refl
associative x s t = refl

-- ---- joins of lists one after another

before : (x : StackShape) (a b : Option StackShape) → join_with x (join_both a b) ≡ join_both (join_with x a) b
before x None b = refl
before x (Some s) None = none_last (join x s)
before x (Some s) (Some t) = associative x s t

items_append : (xs ys : List StackShape) → join_items (xs ++ ys) ≡ join_both (join_items xs) (join_items ys)
items_append [] ys = sym (void_first (join_items ys))
items_append (x ∷ xs) ys = ap (join_with x) (items_append xs ys) ∙ before x (join_items xs) (join_items ys)

-- ---- steps

pub passed_top : (low whole : List FlatShape) (top : FlatShape) → whole ≡ low ++ top ∷ [] → IsPassed low whole (Some top)
passed_top low whole top e = (top ∷ [], e, sym (void_last (flat_shape top)))

pub passed_both : (low middle whole : List FlatShape) (p q r : Option FlatShape) → IsPassed low middle p → IsPassed middle whole q → option_map flat_shape r ≡ join_both (option_map flat_shape p) (option_map flat_shape q) → IsPassed low whole r
passed_both low middle whole p q r h k e = (
  h.0 ++ k.0,
  k.1 ∙ ap (λ (s : List FlatShape). s ++ k.0) h.1 ∙ append_assoc low h.0 k.0,
  e ∙ (λ i. join_both (h.2 i) (k.2 i)) ∙ sym (items_append (flat_shapes h.0) (flat_shapes k.0)) ∙ ap join_items (sym (map-append flat_shape h.0 k.0)),
)
