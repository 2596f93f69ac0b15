-- Formed and not formed programs: one that uses every node is formed, and each condition is broken once.
use Rattle.std.proofs.Common.{◌≡◌, ◌≢◌, refl, sym, ap, subst, ◌∙◌, inl, inr, ℕ, zero, suc, Bool, true, false, not, nat_eq, List, [], ◌∷◌, pos, negsuc, Some, None, length, slice_get, get_or, codes, nat_lt, lit<, lit≤, encode_utf8_all, arith}
use Rattle.std.specs.Prelude.{All, ◌==◌}
use Rattle.std.specs.List.{list_all}
use Rattle.std.proofs.lemmas.Int.{ints}
use Rattle.std.proofs.lemmas.Bool.{and_parts}
use Rattle.std.proofs.lemmas.Str.{encodes_same}
use Rattle.std.proofs.Math.Utf8.{encode}
use Rattle.std.proofs.lemmas.Bool.Decides.{nat_tests}
use Rattle.std.proofs.lemmas.List.Elements.{All-nil, All-cons}
use Rattle.unicode_ident.specs.Ident.{is_xid_start, is_xid_continue}
use Rattle.unicode_ident.proofs.IdentLemmas.{is_xid_start-ascii, is_xid_continue-ascii}
use Rattle.um_units.specs.declared.Atom.TheVariants.{Base, Var}
use Rattle.um_units.specs.PowerMap.{one, atom}
use Rattle.um_units.specs.Variables.{IsClosed, VariablesBelow}
use Rattle.um_units.proofs.Group.{power_of-one, power_of-atom, power_of-other_atom}
use Rattle.um_units.proofs.Variables.{IsClosed-one, IsClosed-base, VariablesBelow-closed, VariablesBelow-variable}
use Rattle.um_tree.specs.declared.note.UnitNote.TheVariants.{Hole, Written}
use Rattle.um_tree.specs.declared.expression.Arith.TheVariants.{Add}
use Rattle.um_tree.specs.declared.expression.Sign.TheVariants.{Lt}
use Rattle.um_tree.specs.TypeTree.{TypeTree, num_type, list_type, record_type, NoteTree, num_note, list_note, record_note}
use Rattle.um_tree.specs.ExprTree.{ExprTree, truth, number, local, call, negate, not_expr, pown, arith as arith_tree, compare, both, either, if, bind, split, nil, list_expr, cons, record_expr, field, none, more}
use Rattle.um_tree.specs.ValueTree.{number_input, list_input, no_inputs, more_inputs}
use Rattle.um_tree.specs.ProgramTree.{FieldTree, RecordTree, FunctionTree, ProgramTree}
use Rattle.um_tree.specs.TreeHeights.{type_tree_height, note_tree_height, tree_height, tree_nodes}
use Rattle.um_tree.specs.Formed.{reserved_words, IsIdentifier, IsNameBytes, AreDistinct, AreNames, BasesBelow, IsUnitIn, IsNoteIn, IsFieldType, IsFormedNote, IsFormedIn, IsFormedRecord, IsFormedFunction, IsFormed, AreFormedInputs}
use Rattle.um_tree.proofs.Moved.{All_at}
use Rattle.um_tree.proofs.ExamplePrograms.{zero_number, one_number, metre, plain, rec_function, with_functions}

-- ---- names

-- what each of some words passes
each_word : (p : List ℕ → Bool) (words : List (List ℕ)) (k : ℕ) (x : List ℕ) → list_all p words ≡ true → slice_get words k ≡ Some x → p x ≡ true
each_word p [] k x all e = absurd (cc e)
each_word p (w ∷ ws) zero x all e = let same : w ≡ x = cc e in subst (λ y. p y ≡ true) same (and_parts (p w) (list_all p ws) all).0
each_word p (w ∷ ws) (suc k) x all e = each_word p ws k x (and_parts (p w) (list_all p ws) all).1 e

-- no word is one letter, and none begins with a low line
no_letter : (c : ℕ) (k : ℕ) → slice_get reserved_words k ≡ Some (c ∷ []) → ⊥
no_letter c k e = let long : false ≡ true = each_word (λ w. nat_lt 1 (length w)) reserved_words k (c ∷ []) refl e in absurd (cc long)

no_low_line : (rest : List ℕ) (k : ℕ) → slice_get reserved_words k ≡ Some (95 ∷ rest) → ⊥
no_low_line rest k e = let letter : false ≡ true = each_word (λ w. not (nat_eq (get_or w 0 0) 95)) reserved_words k (95 ∷ rest) refl e in absurd (cc letter)

other_letter : (c d : ℕ) → c ≢ d → c ∷ [] ≢ d ∷ []
other_letter c d other e = other (ap (λ xs. get_or xs 0 0) e)

name_m : IsNameBytes (codes "m")
unfolding encode
name_m = record { text = codes "m"; is = refl; identifier = (is_xid_start-ascii 109 (lit< tt), tt); no_hole = other_letter 109 95 (λ e. absurd (omega (arith, e))); no_word = no_letter 109 }

name_s : IsNameBytes (codes "s")
unfolding encode
name_s = record { text = codes "s"; is = refl; identifier = (is_xid_start-ascii 115 (lit< tt), tt); no_hole = other_letter 115 95 (λ e. absurd (omega (arith, e))); no_word = no_letter 115 }

name_P : IsNameBytes (codes "P")
unfolding encode
name_P = record { text = codes "P"; is = refl; identifier = (is_xid_start-ascii 80 (lit< tt), tt); no_hole = other_letter 80 95 (λ e. absurd (omega (arith, e))); no_word = no_letter 80 }

name_x : IsNameBytes (codes "x")
unfolding encode
name_x = record { text = codes "x"; is = refl; identifier = (is_xid_start-ascii 120 (lit< tt), tt); no_hole = other_letter 120 95 (λ e. absurd (omega (arith, e))); no_word = no_letter 120 }

name_y : IsNameBytes (codes "y")
unfolding encode
name_y = record { text = codes "y"; is = refl; identifier = (is_xid_start-ascii 121 (lit< tt), tt); no_hole = other_letter 121 95 (λ e. absurd (omega (arith, e))); no_word = no_letter 121 }

name_f : IsNameBytes (codes "f")
unfolding encode
name_f = record { text = codes "f"; is = refl; identifier = (is_xid_start-ascii 102 (lit< tt), tt); no_hole = other_letter 102 95 (λ e. absurd (omega (arith, e))); no_word = no_letter 102 }

name_g : IsNameBytes (codes "g")
unfolding encode
name_g = record { text = codes "g"; is = refl; identifier = (is_xid_start-ascii 103 (lit< tt), tt); no_hole = other_letter 103 95 (λ e. absurd (omega (arith, e))); no_word = no_letter 103 }

-- `_1` is a name, since a name may start with a low line
name_low_line : IsNameBytes (codes "_1")
unfolding encode
name_low_line = record {
  text = codes "_1";
  is = refl;
  identifier = (refl, (is_xid_continue-ascii 49 (lit< tt), tt));
  no_hole = λ e. absurd (cc e);
  no_word = no_low_line (49 ∷ []);
}

-- the text of ASCII bytes is settled
one_text : (text bytes : List ℕ) → encode_utf8_all bytes ≡ bytes → bytes ≡ encode_utf8_all text → text ≡ bytes
one_text text bytes same is = encodes_same text bytes (sym is ∙ sym same)

-- no name: nothing, `_`, a word, what starts with a digit, and what has a space
no_empty_name : IsNameBytes [] → ⊥
no_empty_name w = subst IsIdentifier (one_text w.text [] refl w.is) w.identifier

no_hole_name : IsNameBytes (codes "_") → ⊥
unfolding encode
no_hole_name w = w.no_hole (one_text w.text (codes "_") refl w.is)

no_word_name : IsNameBytes (codes "let") → ⊥
unfolding encode
no_word_name w = w.no_word 0 (ap Some (sym (one_text w.text (codes "let") refl w.is)))

no_last_word_name : IsNameBytes (codes "pown") → ⊥
unfolding encode
no_last_word_name w = w.no_word 16 (ap Some (sym (one_text w.text (codes "pown") refl w.is)))

no_digit_name : IsNameBytes (codes "1m") → ⊥
unfolding encode
no_digit_name w =
    let starts : is_xid_start 49 ≡ true = (subst IsIdentifier (one_text w.text (codes "1m") refl w.is) w.identifier).0 in
    let other : false ≡ true = sym (is_xid_start-ascii 49 (lit< tt)) ∙ starts in
    absurd (cc other)

no_spaced_name : IsNameBytes (codes "m s") → ⊥
unfolding encode
no_spaced_name w =
    let goes_on : is_xid_continue 32 ≡ true = (subst IsIdentifier (one_text w.text (codes "m s") refl w.is) w.identifier).1.0 in
    let other : false ≡ true = sym (is_xid_continue-ascii 32 (lit< tt)) ∙ goes_on in
    absurd (cc other)

-- ---- units and literals
one_is_not_zero : pos 1 ≡ pos 0 → ⊥
one_is_not_zero e = absurd (omega (arith, ints, e))

one_in : (bases vars : ℕ) → IsUnitIn bases vars one
one_in bases vars = (λ k h. absurd (h (power_of-one (Base k))), VariablesBelow-closed vars one IsClosed-one)

variable_in : (bases : ℕ) → IsUnitIn bases 1 (atom (Var 0))
variable_in bases = (λ k h. absurd (h (power_of-other_atom (Base k) (Var 0) refl)), VariablesBelow-variable 0)

-- a base unit needs its declaration, and a variable its own
base_needed : (bases : ℕ) → bases ≡ 0 → BasesBelow bases metre → ⊥
base_needed bases e h = let low = h 0 (λ z. one_is_not_zero (sym (power_of-atom (Base 0)) ∙ z)) in absurd (omega (arith, low, e))

variable_needed : VariablesBelow 0 (atom (Var 0)) → ⊥
variable_needed h = let low = h 0 (λ z. one_is_not_zero (sym (power_of-atom (Var 0)) ∙ z)) in absurd (omega (arith, low))

not_closed : IsClosed (atom (Var 0)) → ⊥
not_closed h = one_is_not_zero (sym (power_of-atom (Var 0)) ∙ h 0)

-- ---- a formed program

-- measure m, measure s, type P<'u> = { x: num<'u>; y: num<'u> }, let f (a: P<'u>) = a.x + a.y, and
-- let rec g (l: num list) (n: num) : bool = .. with the other nodes
abbrev point : RecordTree
point = record {
  name = codes "P";
  at = 0;
  units = 1;
  fields = record { name = codes "x"; type = num_type (atom (Var 0)) } ∷ record { name = codes "y"; type = num_type (atom (Var 0)) } ∷ [];
}

abbrev sum_of_fields : FunctionTree
sum_of_fields = record {
  name = codes "f";
  at = 0;
  recursive = false;
  units = 0;
  params = record_note 0 (Written (atom (Var 0)) ∷ []) ∷ [];
  named = 1;
  result = None;
  body = arith_tree 0 Add (field 0 0 0 (local 0 0)) (field 0 0 1 (local 0 0));
}

abbrev unit_one : ExprTree
unit_one = number 0 one_number (Written one)

abbrev other_nodes : FunctionTree
other_nodes = record {
  name = codes "g";
  at = 0;
  recursive = true;
  units = 0;
  params = list_note (num_note (Written one)) ∷ num_note Hole ∷ [];
  named = 0;
  result = Some (num_note Hole);
  body =
      if 0 (both 0 (truth 0 true) (either 0 (compare 0 Lt (local 0 1) unit_one) (not_expr 0 (truth 0 false))))
      (bind 0 (negate 0 (pown 0 unit_one (negsuc 1))) (split 0 (list_expr 0 (more (local 0 2) none)) (local 0 2) (cons 0 (local 0 3) (nil 0 (list_note (num_note Hole))))))
      (call 0 1 (more (call 0 0 (more (record_expr 0 0 (more unit_one (more (number 0 zero_number Hole) none))) none)) (more (number 0 one_number (Written metre)) none)));
}

abbrev formed : ProgramTree
formed = record { bases = codes "m" ∷ codes "s" ∷ []; records = point ∷ []; functions = sum_of_fields ∷ other_nodes ∷ [] }

one_item : {A : Type 0} (P : A → Type 0) (x : A) → P x → All P (x ∷ [])
one_item P x p = All-cons P x [] p (All-nil P)

two_items : {A : Type 0} (P : A → Type 0) (x y : A) → P x → P y → All P (x ∷ y ∷ [])
two_items P x y p q = All-cons P x (y ∷ []) p (one_item P y q)

point_formed : IsFormedRecord formed 0 point
point_formed = record {
  some_field = lit< tt;
  few_fields = lit≤ tt;
  few_units = lit≤ tt;
  fields = two_items (λ f. IsFieldType formed 0 1 f.type) _ _ (variable_in 2, tt, lit≤ tt) (variable_in 2, tt, lit≤ tt);
}

sum_formed : IsFormedFunction formed 0 sum_of_fields
sum_formed = record {
  few_params = lit≤ tt;
  few_units = lit≤ tt;
  units = lit≤ tt;
  params = one_item (IsFormedNote formed sum_of_fields) _ (((point, refl, refl), one_item (IsNoteIn 2 1) _ (variable_in 2)), lit≤ tt);
  result = tt;
  noted = λ e. absurd (cc e);
  body = (((point, refl, lit< tt), lit< tt), ((point, refl, lit< tt), lit< tt));
  height = lit≤ tt;
  nodes = lit≤ tt;
}

abbrev closed_one : IsClosed one × BasesBelow 2 one
closed_one = (IsClosed-one, (one_in 2 0).0)

metre_below : BasesBelow 2 metre
metre_below zero h = lit< tt
metre_below (suc k) h = let other : (suc k == 0) ≡ false = grind (arith, nat_tests) in absurd (h (power_of-other_atom (Base (suc k)) (Base 0) other))

others_formed : IsFormedFunction formed 1 other_nodes
others_formed = record {
  few_params = lit≤ tt;
  few_units = lit≤ tt;
  units = lit≤ tt;
  params = two_items (IsFormedNote formed other_nodes) _ _ (one_in 2 0, lit≤ tt) (tt, lit≤ tt);
  result = (tt, lit≤ tt);
  noted = λ e. refl;
  body = (
    (tt, ((lit< tt, closed_one), tt)),
    (closed_one, ((lit< tt, (lit< tt, tt)), lit< tt, (lit< tt, (tt, lit≤ tt)))),
    (
      record { function = other_nodes; known = inr (refl, refl); declared = refl; arguments = refl },
      (
        (record { function = sum_of_fields; known = inl (lit< tt); declared = refl; arguments = refl }, (((point, refl, refl), (closed_one, (refl, tt))), tt)),
        ((IsClosed-base 0, metre_below), tt),
      ),
    ),
  );
  height = lit≤ tt;
  nodes = lit≤ tt;
}

-- ---- each name is taken once

names_of : (xs : List (List ℕ)) → All IsNameBytes xs → AreNames xs
names_of xs names k x e = All_at IsNameBytes xs k x e names

-- no two names are equal where the first is none of the others
distinct_more : (x : List ℕ) (xs : List (List ℕ)) → ((k : ℕ) → slice_get xs k ≡ Some x → ⊥) → AreDistinct xs → AreDistinct (x ∷ xs)
distinct_more x xs new once zero zero y e f = refl
distinct_more x xs new once zero (suc j) y e f = let same : x ≡ y = cc e in absurd (new j (f ∙ ap Some (sym same)))
distinct_more x xs new once (suc i) zero y e f = let same : x ≡ y = cc f in absurd (new i (e ∙ ap Some (sym same)))
distinct_more x xs new once (suc i) (suc j) y e f = ap suc (once i j y e f)

distinct_none : AreDistinct []
distinct_none i j y e f = absurd (cc e)

absent_none : (x : List ℕ) (k : ℕ) → slice_get [] k ≡ Some x → ⊥
absent_none x k e = absurd (cc e)

absent_more : (x y : List ℕ) (ys : List (List ℕ)) → y ≢ x → ((k : ℕ) → slice_get ys k ≡ Some x → ⊥) → (k : ℕ) → slice_get (y ∷ ys) k ≡ Some x → ⊥
absent_more x y ys other new zero e = other (cc e)
absent_more x y ys other new (suc k) e = new k e

two_distinct : (x y : List ℕ) → y ≢ x → AreDistinct (x ∷ y ∷ [])
two_distinct x y other = distinct_more x (y ∷ []) (absent_more x y [] other (absent_none x)) (distinct_more y [] (absent_none y) distinct_none)

records_formed : (r : ℕ) (d : RecordTree) → slice_get formed.records r ≡ Some d → IsFormedRecord formed r d
records_formed zero d e = let same : point ≡ d = cc e in subst (IsFormedRecord formed 0) same point_formed
records_formed (suc r) d e = absurd (cc e)

functions_formed : (i : ℕ) (f : FunctionTree) → slice_get formed.functions i ≡ Some f → IsFormedFunction formed i f
functions_formed zero f e = let same : sum_of_fields ≡ f = cc e in subst (IsFormedFunction formed 0) same sum_formed
functions_formed (suc zero) f e = let same : other_nodes ≡ f = cc e in subst (IsFormedFunction formed 1) same others_formed
functions_formed (suc (suc i)) f e = absurd (cc e)

-- two letters
apart : (c d : ℕ) → nat_eq d c ≡ false → d ∷ [] ≢ c ∷ []
apart c d other = other_letter d c (grind (arith, nat_tests))

space_names : AreNames (codes "m" ∷ codes "s" ∷ codes "P" ∷ [])
space_names =
    names_of (codes "m" ∷ codes "s" ∷ codes "P" ∷ [])
    (All-cons IsNameBytes (codes "m") (codes "s" ∷ codes "P" ∷ []) name_m (two_items IsNameBytes (codes "s") (codes "P") name_s name_P))

space_once : AreDistinct (codes "m" ∷ codes "s" ∷ codes "P" ∷ [])
space_once =
    distinct_more (codes "m") (codes "s" ∷ codes "P" ∷ [])
    (absent_more (codes "m") (codes "s") (codes "P" ∷ []) (apart 109 115 refl) (absent_more (codes "m") (codes "P") [] (apart 109 80 refl) (absent_none (codes "m"))))
    (two_distinct (codes "s") (codes "P") (apart 115 80 refl))

formed_program : IsFormed formed
formed_program = record {
  few_bases = lit≤ tt;
  few_records = lit≤ tt;
  few_functions = lit≤ tt;
  names = space_names;
  once = space_once;
  names_of_fields = names_of (codes "x" ∷ codes "y" ∷ []) (two_items IsNameBytes (codes "x") (codes "y") name_x name_y);
  fields_once = two_distinct (codes "x") (codes "y") (apart 120 121 refl);
  names_of_functions = names_of (codes "f" ∷ codes "g" ∷ []) (two_items IsNameBytes (codes "f") (codes "g") name_f name_g);
  functions_once = two_distinct (codes "f") (codes "g") (apart 102 103 refl);
  records = records_formed;
  functions = functions_formed;
}

-- ---- programs that are not formed: numbers of declarations
too_many_bases : (p : ProgramTree) → length p.bases ≡ 16777217 → IsFormed p → ⊥
too_many_bases p e w = let low = w.few_bases in absurd (omega (arith, e, low))

too_many_records : (p : ProgramTree) → length p.records ≡ 16777217 → IsFormed p → ⊥
too_many_records p e w = let low = w.few_records in absurd (omega (arith, e, low))

too_many_functions : (p : ProgramTree) → length p.functions ≡ 2001 → IsFormed p → ⊥
too_many_functions p e w = let low = w.few_functions in absurd (omega (arith, e, low))

-- ---- names that are none, and names taken twice
abbrev with_records : List (List ℕ) → List RecordTree → ProgramTree
with_records bases records = record { bases = bases; records = records; functions = [] }

abbrev named_record : List ℕ → List FieldTree → RecordTree
named_record name fields = record { name = name; at = 0; units = 0; fields = fields }

abbrev number_field : List ℕ → FieldTree
number_field name = record { name = name; type = num_type one }

abbrev named_function : List ℕ → FunctionTree
named_function name = record { name = name; at = 0; recursive = false; units = 0; params = []; named = 0; result = None; body = unit_one }

word_as_base : IsFormed (with_records (codes "let" ∷ []) []) → ⊥
word_as_base w = no_word_name (w.names 0 _ refl)

word_as_record : IsFormed (with_records [] (named_record (codes "let") (number_field (codes "x") ∷ []) ∷ [])) → ⊥
word_as_record w = no_word_name (w.names 0 _ refl)

hole_as_field : IsFormed (with_records [] (named_record (codes "P") (number_field (codes "_") ∷ []) ∷ [])) → ⊥
hole_as_field w = no_hole_name (w.names_of_fields 0 _ refl)

word_as_function : IsFormed (with_functions (named_function (codes "let") ∷ [])) → ⊥
word_as_function w = no_word_name (w.names_of_functions 0 _ refl)

base_twice : IsFormed (with_records (codes "m" ∷ codes "m" ∷ []) []) → ⊥
base_twice w = let same = w.once 0 1 (codes "m") refl refl in absurd (omega (arith, same))

-- base units and records share one space
base_and_record : IsFormed (with_records (codes "m" ∷ []) (named_record (codes "m") (number_field (codes "x") ∷ []) ∷ [])) → ⊥
base_and_record w = let same = w.once 0 1 (codes "m") refl refl in absurd (omega (arith, same))

-- so do the fields of all records
field_twice : IsFormed (with_records [] (named_record (codes "P") (number_field (codes "x") ∷ []) ∷ named_record (codes "s") (number_field (codes "x") ∷ []) ∷ [])) → ⊥
field_twice w = let same = w.fields_once 0 1 (codes "x") refl refl in absurd (omega (arith, same))

function_twice : IsFormed (with_functions (named_function (codes "f") ∷ named_function (codes "f") ∷ [])) → ⊥
function_twice w = let same = w.functions_once 0 1 (codes "f") refl refl in absurd (omega (arith, same))

-- ---- records
no_field : (p : ProgramTree) (r : ℕ) → IsFormedRecord p r (named_record (codes "P") []) → ⊥
no_field p r w = let some = w.some_field in absurd (omega (arith, some))

too_many_fields : (p : ProgramTree) (r : ℕ) (d : RecordTree) → length d.fields ≡ 33 → IsFormedRecord p r d → ⊥
too_many_fields p r d e w = let low = w.few_fields in absurd (omega (arith, e, low))

too_many_units : (p : ProgramTree) (r : ℕ) (d : RecordTree) → d.units ≡ 5 → IsFormedRecord p r d → ⊥
too_many_units p r d e w = let low = w.few_units in absurd (omega (arith, e, low))

too_high_field : (p : ProgramTree) (r units : ℕ) (t : TypeTree) → type_tree_height t ≡ 401 → IsFieldType p r units t → ⊥
too_high_field p r units t e w = let low = w.2 in absurd (omega (arith, e, low))

-- a base unit, a variable and a record that are not declared, a record in its own field, and one with too few units
unknown_base_in_field : IsFieldType (with_records [] []) 0 0 (num_type metre) → ⊥
unknown_base_in_field w = base_needed 0 refl w.0.0

unknown_variable_in_field : IsFieldType (with_records [] []) 0 0 (list_type (num_type (atom (Var 0)))) → ⊥
unknown_variable_in_field w = variable_needed w.0.1

unknown_record_in_field : IsFieldType (with_records [] []) 1 0 (record_type 0 []) → ⊥
unknown_record_in_field w = absurd (cc w.0.0.1)

record_in_itself : IsFieldType formed 0 1 (record_type 0 (atom (Var 0) ∷ [])) → ⊥
record_in_itself w = let below = w.1 in absurd (omega (arith, below))

too_few_units : IsFieldType formed 1 1 (record_type 0 []) → ⊥
too_few_units w =
    let declared : point ≡ w.0.0.0 = cc w.0.0.1 in
    let same = w.0.0.2 in
    absurd (omega (arith, same, ap (λ d. d.units) declared))

-- ---- functions
too_many_params : (p : ProgramTree) (i : ℕ) (f : FunctionTree) → length f.params ≡ 17 → IsFormedFunction p i f → ⊥
too_many_params p i f e w = let low = w.few_params in absurd (omega (arith, e, low))

too_high_note : (p : ProgramTree) (f : FunctionTree) (n : NoteTree) → note_tree_height n ≡ 401 → IsFormedNote p f n → ⊥
too_high_note p f n e w = let low = w.1 in absurd (omega (arith, e, low))

too_high_body : (p : ProgramTree) (i : ℕ) (f : FunctionTree) → tree_height f.body ≡ 401 → IsFormedFunction p i f → ⊥
too_high_body p i f e w = let low = w.height in absurd (omega (arith, e, low))

too_many_nodes : (p : ProgramTree) (i : ℕ) (f : FunctionTree) → tree_nodes f.body ≡ 20001 → IsFormedFunction p i f → ⊥
too_many_nodes p i f e w = let low = w.nodes in absurd (omega (arith, e, low))

-- the heights at the limit: `([] : T)` counts 3, and each other node one more than its highest part
heights : tree_height unit_one ∷ tree_height (nil 0 (list_note (num_note Hole))) ∷ tree_height other_nodes.body ∷ tree_nodes other_nodes.body ∷ [] ≡ 1 ∷ 3 ∷ 7 ∷ 26 ∷ []
heights = refl

unknown_variable_in_param : IsFormedFunction (with_functions []) 0 (plain (num_note (Written (atom (Var 0))) ∷ []) unit_one) → ⊥
unknown_variable_in_param w =
    let note = num_note (Written (atom (Var 0))) in
    let first = All_at (IsFormedNote (with_functions []) (plain (note ∷ []) unit_one)) (note ∷ []) 0 note refl w.params in
    variable_needed first.0.1

unknown_base_in_result : IsFormedFunction (with_functions []) 0 (rec_function [] (num_note (Written metre)) unit_one) → ⊥
unknown_base_in_result w = base_needed 0 refl w.result.0.0

-- a `rec` function has a note of its result
no_result_note : IsFormedFunction (with_functions []) 0 (record { name = []; at = 0; recursive = true; units = 0; params = []; named = 0; result = None; body = unit_one }) → ⊥
no_result_note w = absurd (cc (w.noted refl))

-- ---- bodies, in function i = 1 of the formed program, which has one parameter and doesn't call itself
abbrev one_param : FunctionTree
one_param = plain (num_note Hole ∷ []) (local 0 0)

abbrev Broken : ExprTree → Type 0
Broken e = IsFormedIn formed 1 one_param 1 e → ⊥

unknown_variable : Broken (local 0 1)
unknown_variable w = absurd (omega (arith, w))

-- the variable of `let` is none in its own part, and head and tail are none in the first arm
variable_before_let : Broken (bind 0 (local 0 1) unit_one)
variable_before_let w = let low = w.0 in absurd (omega (arith, low))

variable_after_let : Broken (arith_tree 0 Add (bind 0 unit_one (local 0 1)) (local 0 1))
variable_after_let w = let low = w.1 in absurd (omega (arith, low))

head_in_first_arm : Broken (split 0 (nil 0 (list_note (num_note Hole))) (local 0 1) unit_one)
head_in_first_arm w = let low = w.1 in absurd (omega (arith, low))

third_variable_of_match : Broken (split 0 (nil 0 (list_note (num_note Hole))) unit_one (local 0 3))
third_variable_of_match w = let low = w.2 in absurd (omega (arith, low))

-- a function calls earlier ones, and itself where it is `rec`, with the declared number of arguments
call_of_later : Broken (call 0 2 (more unit_one none))
call_of_later w = elim w.0.known as (λ x. ⊥) [ inl a ↦ absurd (omega (arith, a)) | inr a ↦ let same = a.0 in absurd (omega (arith, same)) ]

call_of_itself : Broken (call 0 1 (more unit_one none))
call_of_itself w = elim w.0.known as (λ x. ⊥) [ inl a ↦ absurd (omega (arith, a)) | inr a ↦ absurd (cc a.1) ]

call_without_arguments : Broken (call 0 0 none)
call_without_arguments w =
    let declared : sum_of_fields ≡ w.0.function = cc w.0.declared in
    let same = w.0.arguments in
    absurd (omega (arith, same, ap (λ f. length f.params) declared))

-- a number with a hole is 0, and a written unit is closed, of declared base units
one_with_a_hole : Broken (number 0 one_number Hole)
one_with_a_hole w = one_is_not_zero w

open_literal : Broken (number 0 one_number (Written (atom (Var 0))))
open_literal w = not_closed w.0

unknown_base_in_literal : IsFormedIn (with_functions []) 0 one_param 1 (number 0 one_number (Written metre)) → ⊥
unknown_base_in_literal w = base_needed 0 refl w.1

unknown_variable_in_nil : Broken (nil 0 (list_note (num_note (Written (atom (Var 0))))))
unknown_variable_in_nil w = variable_needed w.0.1

-- a list text has an item, a record text has all fields, and a field is one of the record's
no_items : Broken (list_expr 0 none)
no_items w = let some = w.0 in absurd (omega (arith, some))

too_few_parts : Broken (record_expr 0 0 (more unit_one none))
too_few_parts w =
    let declared : point ≡ w.0.0 = cc w.0.1 in
    let same = w.0.2 in
    absurd (omega (arith, same, ap (λ d. length d.fields) declared))

unknown_record : Broken (record_expr 0 1 none)
unknown_record w = absurd (cc w.0.1)

unknown_field : Broken (field 0 0 2 (local 0 0))
unknown_field w =
    let declared : point ≡ w.0.0 = cc w.0.1 in
    let low = w.0.2 in
    absurd (omega (arith, low, ap (λ d. length d.fields) declared))

-- each part of a node is looked at
broken_parts :
    Broken (negate 0 (local 0 1)) × Broken (not_expr 0 (local 0 1)) × Broken (pown 0 (local 0 1) (pos 2)) × Broken (compare 0 Lt (local 0 0) (local 0 1)) × Broken (both 0 (local 0 1) (local 0 0))
    × Broken (either 0 (local 0 0) (local 0 1)) × Broken (if 0 (local 0 0) (local 0 1) (local 0 0)) × Broken (cons 0 (local 0 0) (local 0 1)) × Broken (list_expr 0 (more (local 0 0) (more (local 0 1) none)))
broken_parts = (
  unknown_variable,
  unknown_variable,
  unknown_variable,
  λ w. unknown_variable w.1,
  λ w. unknown_variable w.0,
  λ w. unknown_variable w.1,
  λ w. unknown_variable w.1,
  λ w. unknown_variable w.1,
  λ w. unknown_variable w.1.1.0,
)

-- ---- inputs
inputs_formed : AreFormedInputs 2 (more_inputs (number_input zero_number Hole) (more_inputs (list_input (more_inputs (number_input one_number (Written metre)) no_inputs)) no_inputs))
inputs_formed = (refl, ((((IsClosed-base 0, metre_below), tt)), tt))

input_with_a_hole : AreFormedInputs 2 (more_inputs (number_input one_number Hole) no_inputs) → ⊥
input_with_a_hole w = one_is_not_zero w.0

open_input : AreFormedInputs 2 (more_inputs (list_input (more_inputs (number_input one_number (Written (atom (Var 0)))) no_inputs)) no_inputs) → ⊥
open_input w = not_closed w.0.0.0

unknown_base_in_input : AreFormedInputs 0 (more_inputs (number_input one_number (Written metre)) no_inputs) → ⊥
unknown_base_in_input w = base_needed 0 refl w.0.1
