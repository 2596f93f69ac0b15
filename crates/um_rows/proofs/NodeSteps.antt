-- The nodes among steps: each rule forms the type of its own node alone, at the end.
use Rattle.std.proofs.Common.{◌≡◌, ℕ, Bool, true, false, cond, List, [], ◌∷◌, ◌++◌, map, length, Option, Some, None, ℤ, nat_eq, slice_get, refl, ap, ◌∙◌}
use Rattle.um_frac.specs.declared.number.Frac.{Frac}
use Rattle.um_frac.specs.Fraction.{numerator}
use Rattle.um_units.specs.Terms.{is_zero}
use Rattle.um_units.specs.PowerMap.{PowerMap}
use Rattle.um_tree.specs.declared.note.UnitNote.{UnitNote}
use Rattle.um_tree.specs.declared.note.UnitNote.TheVariants.{Hole, Written}
use Rattle.um_tree.specs.declared.expression.Arith.{Arith}
use Rattle.um_tree.specs.declared.expression.Arith.TheVariants.{Add, Sub, Mul, Div}
use Rattle.um_tree.specs.TypeTree.{TypeTree, bool_type, num_type, list_type, record_type}
use Rattle.um_tree.specs.ProgramTree.{RecordTree, Signature}
use Rattle.um_tree.specs.Typing.{put, unit_at, field_types}
use Rattle.um_rows.specs.NodeTypes.{nodes_of, derived_nodes}
use Rattle.um_equal_types.specs.Steps.{Step, row_at, wrong_shape_at, type_at}
use Rattle.um_equal_types.specs.Against.{never, units_against, against, types_against, against_each}
use Rattle.um_rows.specs.Rules.{Derived, after, formed, asks_bool, asks_list, number_rule, local_rule, call_rule, negate_rule, not_rule, pown_rule, truths_rule, units_rule, arith_rule, compare_rule, if_rule, split_rule, nil_rule, list_rule, cons_rule, record_rule, declared_rule, found_rule, field_rule}

pub nodes_of-append : (a b : List Step) → nodes_of (a ++ b) ≡ nodes_of a ++ nodes_of b
nodes_of-append [] b = refl
nodes_of-append (row_at at u ∷ a) b = nodes_of-append a b
nodes_of-append (wrong_shape_at at ∷ a) b = nodes_of-append a b
nodes_of-append (type_at at t ∷ a) b = ap (λ ns. record { at = at; type = t } ∷ ns) (nodes_of-append a b)

-- ---- steps without a node
abbrev HasNone : List Step → Type 0
HasNone ss = nodes_of ss ≡ []

none_both : (a b : List Step) → HasNone a → HasNone b → HasNone (a ++ b)
none_both a b h k = nodes_of-append a b ∙ (λ i. h i ++ k i)

units_none : (at : ℕ) (us vs : List PowerMap) → HasNone (units_against at us vs)
units_none at [] [] = refl
units_none at [] (v ∷ vs) = refl
units_none at (u ∷ us) [] = refl
units_none at (u ∷ us) (v ∷ vs) = units_none at us vs

records_none : (at : ℕ) (b : Bool) (us vs : List PowerMap) → HasNone (cond b (units_against at us vs) (never at))
records_none at true us vs = units_none at us vs
records_none at false us vs = refl

against_none : (at : ℕ) (s t : TypeTree) → HasNone (against at s t)
against_none at bool_type bool_type = refl
against_none at bool_type (num_type v) = refl
against_none at bool_type (list_type t) = refl
against_none at bool_type (record_type q vs) = refl
against_none at (num_type u) bool_type = refl
against_none at (num_type u) (num_type v) = refl
against_none at (num_type u) (list_type t) = refl
against_none at (num_type u) (record_type q vs) = refl
against_none at (list_type s) bool_type = refl
against_none at (list_type s) (num_type v) = refl
against_none at (list_type s) (list_type t) = against_none at s t
against_none at (list_type s) (record_type q vs) = refl
against_none at (record_type r us) bool_type = refl
against_none at (record_type r us) (num_type v) = refl
against_none at (record_type r us) (list_type t) = refl
against_none at (record_type r us) (record_type q vs) = records_none at (nat_eq r q) us vs

types_none : (at : ℕ) (ss ts : List TypeTree) → HasNone (types_against at ss ts)
types_none at [] [] = refl
types_none at [] (t ∷ ts) = refl
types_none at (s ∷ ss) [] = refl
types_none at (s ∷ ss) (t ∷ ts) = none_both (against at s t) (types_against at ss ts) (against_none at s t) (types_none at ss ts)

each_none : (at : ℕ) (s : TypeTree) (ts : List TypeTree) → HasNone (against_each at s ts)
each_none at s [] = refl
each_none at s (t ∷ ts) = none_both (against at s t) (against_each at s ts) (against_none at s t) (each_none at s ts)

bool_none : (at : ℕ) (t : TypeTree) → HasNone (asks_bool at t)
bool_none at bool_type = refl
bool_none at (num_type u) = refl
bool_none at (list_type t) = refl
bool_none at (record_type r us) = refl

list_none : (at : ℕ) (t : TypeTree) → HasNone (asks_list at t)
list_none at bool_type = refl
list_none at (num_type u) = refl
list_none at (list_type t) = refl
list_none at (record_type r us) = refl

-- ---- each rule forms its own node alone
abbrev pub FormsOne : ℕ → Derived → Type 0
FormsOne at d = derived_nodes d ≡ record { at = at; type = d.type } ∷ []

formed_one : (at : ℕ) (rows : List Step) (t : TypeTree) → HasNone rows → FormsOne at (formed at rows t)
formed_one at rows t h = nodes_of-append rows (type_at at t ∷ []) ∙ ap (λ ns. ns ++ record { at = at; type = t } ∷ []) h

pub whole_one : (at : ℕ) (t : TypeTree) → FormsOne at (formed at [] t)
whole_one at t = refl

pub number_one : (at : ℕ) (c : Frac) (m : UnitNote) (u : PowerMap) → FormsOne at (number_rule at c m u)
number_one at c (Written w) u = refl
number_one at c Hole u = zero (is_zero (numerator c))
  where
    zero : (b : Bool) → derived_nodes (formed at (cond b [] (never at)) (num_type u)) ≡ record { at = at; type = num_type u } ∷ []
    zero true = refl
    zero false = refl

pub local_one : (at : ℕ) (o : Option TypeTree) → FormsOne at (local_rule at o)
local_one at (Some t) = refl
local_one at None = refl

pub call_one : (at : ℕ) (o : Option Signature) (ts : List TypeTree) → FormsOne at (call_rule at o ts)
call_one at (Some g) ts = formed_one at (types_against at g.params ts) g.result (types_none at g.params ts)
call_one at None ts = refl

pub negate_one : (at : ℕ) (t : TypeTree) → FormsOne at (negate_rule at t)
negate_one at bool_type = refl
negate_one at (num_type u) = refl
negate_one at (list_type t) = refl
negate_one at (record_type r us) = refl

pub not_one : (at : ℕ) (t : TypeTree) → FormsOne at (not_rule at t)
not_one at t = formed_one at (asks_bool at t) bool_type (bool_none at t)

pub pown_one : (at : ℕ) (k : ℤ) (t : TypeTree) → FormsOne at (pown_rule at k t)
pown_one at k bool_type = refl
pown_one at k (num_type u) = refl
pown_one at k (list_type t) = refl
pown_one at k (record_type r us) = refl

pub truths_one : (at : ℕ) (s t : TypeTree) → FormsOne at (truths_rule at s t)
truths_one at s t = formed_one at (asks_bool at s ++ asks_bool at t) bool_type (none_both (asks_bool at s) (asks_bool at t) (bool_none at s) (bool_none at t))

units_one : (at : ℕ) (op : Arith) (u v : PowerMap) → FormsOne at (units_rule at op u v)
units_one at Add u v = refl
units_one at Sub u v = refl
units_one at Mul u v = refl
units_one at Div u v = refl

pub arith_one : (at : ℕ) (op : Arith) (s t : TypeTree) → FormsOne at (arith_rule at op s t)
arith_one at op bool_type t = refl
arith_one at op (num_type u) bool_type = refl
arith_one at op (num_type u) (num_type v) = units_one at op u v
arith_one at op (num_type u) (list_type t) = refl
arith_one at op (num_type u) (record_type r us) = refl
arith_one at op (list_type s) t = refl
arith_one at op (record_type r us) t = refl

pub compare_one : (at : ℕ) (s t : TypeTree) → FormsOne at (compare_rule at s t)
compare_one at bool_type t = refl
compare_one at (num_type u) bool_type = refl
compare_one at (num_type u) (num_type v) = refl
compare_one at (num_type u) (list_type t) = refl
compare_one at (num_type u) (record_type r us) = refl
compare_one at (list_type s) t = refl
compare_one at (record_type r us) t = refl

pub if_one : (at : ℕ) (c s t : TypeTree) → FormsOne at (if_rule at c s t)
if_one at c s t = formed_one at (asks_bool at c ++ against at s t) s (none_both (asks_bool at c) (against at s t) (bool_none at c) (against_none at s t))

pub split_one : (at : ℕ) (l s t : TypeTree) → FormsOne at (split_rule at l s t)
split_one at l s t = formed_one at (asks_list at l ++ against at s t) s (none_both (asks_list at l) (against at s t) (list_none at l) (against_none at s t))

pub nil_one : (at : ℕ) (t : TypeTree) → FormsOne at (nil_rule at t)
nil_one at t = formed_one at (asks_list at t) t (list_none at t)

pub list_one : (at : ℕ) (ts : List TypeTree) → FormsOne at (list_rule at ts)
list_one at [] = refl
list_one at (t ∷ ts) = formed_one at (against_each at t ts) (list_type t) (each_none at t ts)

pub cons_one : (at : ℕ) (s t : TypeTree) → FormsOne at (cons_rule at s t)
cons_one at s bool_type = refl
cons_one at s (num_type u) = refl
cons_one at s (list_type t) = formed_one at (against at s t) (list_type t) (against_none at s t)
cons_one at s (record_type r us) = refl

pub record_one : (at r : ℕ) (us : List PowerMap) (o : Option RecordTree) (ts : List TypeTree) → FormsOne at (record_rule at r us o ts)
record_one at r us (Some d) ts =
    let declared = map (put (unit_at us)) (field_types d) in
    formed_one at (types_against at declared ts) (record_type r us) (types_none at declared ts)
record_one at r us None ts = refl

declared_one : (at : ℕ) (us : List PowerMap) (b : Bool) (o : Option TypeTree) → FormsOne at (declared_rule at us b o)
declared_one at us true (Some t) = refl
declared_one at us true None = refl
declared_one at us false o = refl

found_one : (at k : ℕ) (us : List PowerMap) (b : Bool) (o : Option RecordTree) → FormsOne at (found_rule at k us b o)
found_one at k us true (Some d) = declared_one at us (nat_eq (length us) d.units) (slice_get (field_types d) k)
found_one at k us true None = refl
found_one at k us false o = refl

pub field_one : (at r k : ℕ) (o : Option RecordTree) (t : TypeTree) → FormsOne at (field_rule at r k o t)
field_one at r k o bool_type = refl
field_one at r k o (num_type u) = refl
field_one at r k o (list_type t) = refl
field_one at r k o (record_type q us) = found_one at k us (nat_eq q r) o

-- ---- a node after its parts
pub after_one : (at : ℕ) (ss : List Step) (d : Derived) → FormsOne at d → derived_nodes (after ss d) ≡ nodes_of ss ++ record { at = at; type = d.type } ∷ []
after_one at ss d h = nodes_of-append ss d.steps ∙ ap (λ ns. nodes_of ss ++ ns) h
