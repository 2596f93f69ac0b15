-- What each node gives over the types of its parts, at another place and with other numbers.
use Rattle.std.proofs.Common.{◌≡◌, ℕ, ◌==◌, Bool, true, false, cond, List, [], ◌∷◌, ◌++◌, map, length, slice_get, Option, Some, None, ℤ, refl, ◌∙◌}
use Rattle.std.specs.Option.{option_map}
use Rattle.um_frac.specs.declared.number.Frac.{Frac}
use Rattle.um_frac.specs.Fraction.{numerator}
use Rattle.um_units.specs.Terms.{is_zero}
use Rattle.um_units.specs.PowerMap.{PowerMap}
use Rattle.um_tree.specs.declared.note.UnitNote.{UnitNote}
use Rattle.um_tree.specs.declared.note.UnitNote.TheVariants.{Hole, Written}
use Rattle.um_tree.specs.declared.expression.Arith.{Arith}
use Rattle.um_tree.specs.declared.expression.Arith.TheVariants.{Add, Sub, Mul, Div}
use Rattle.um_tree.specs.TypeTree.{TypeTree, bool_type, num_type, list_type, record_type}
use Rattle.um_tree.specs.ProgramTree.{RecordTree, Signature}
use Rattle.um_tree.specs.Typing.{put, unit_at, field_types}
use Rattle.um_equal_types.specs.Against.{against, types_against, against_each, never}
use Rattle.um_rows.specs.Rules.{asks_bool, asks_list, asks_zero, number_rule, local_rule, call_rule, negate_rule, not_rule, pown_rule, truths_rule, arith_rule, compare_rule, if_rule, split_rule, nil_rule, list_rule, cons_rule, record_rule, declared_rule, found_rule, field_rule}
use Rattle.um_rescaled.proofs.Changed.{changed_record}
use Rattle.um_rescaled.proofs.ChangedSteps.{placed, moved, joined, against_placed, types_placed, each_placed, bool_placed, list_placed, formed_placed}

module _ (place : ℕ → ℕ) where
  -- a zero with a hole stays
  zero_tested : (at : ℕ) (c : Frac) → asks_zero (place at) c Hole ≡ placed place (asks_zero at c Hole)
  zero_tested at c = by (is_zero (numerator c)) where
    by : (b : Bool) → cond b [] (never (place at)) ≡ placed place (cond b [] (never at))
    by true = refl
    by false = refl

  pub number_placed : (number_of : Frac → UnitNote → Frac) → ((c : Frac) → number_of c Hole ≡ c) → (at : ℕ) (c : Frac) (n : UnitNote) (u : PowerMap) → number_rule (place at) (number_of c n) n u ≡ moved place (number_rule at c n u)
  number_placed number_of stays at c Hole u = formed_placed place at (asks_zero at c Hole) (asks_zero (place at) (number_of c Hole) Hole) (num_type u) ((λ i. asks_zero (place at) (stays c i) Hole) ∙ zero_tested at c)
  number_placed number_of stays at c (Written v) u = refl

  pub local_placed : (at : ℕ) (o : Option TypeTree) → local_rule (place at) o ≡ moved place (local_rule at o)
  local_placed at (Some t) = refl
  local_placed at None = refl

  pub call_placed : (at : ℕ) (o : Option Signature) (ts : List TypeTree) → call_rule (place at) o ts ≡ moved place (call_rule at o ts)
  call_placed at (Some g) ts = formed_placed place at (types_against at g.params ts) (types_against (place at) g.params ts) g.result (types_placed place at g.params ts)
  call_placed at None ts = refl

  pub negate_placed : (at : ℕ) (t : TypeTree) → negate_rule (place at) t ≡ moved place (negate_rule at t)
  negate_placed at bool_type = refl
  negate_placed at (num_type u) = refl
  negate_placed at (list_type t) = refl
  negate_placed at (record_type r us) = refl

  pub not_placed : (at : ℕ) (t : TypeTree) → not_rule (place at) t ≡ moved place (not_rule at t)
  not_placed at t = formed_placed place at (asks_bool at t) (asks_bool (place at) t) bool_type (bool_placed place at t)

  pub pown_placed : (at : ℕ) (k : ℤ) (t : TypeTree) → pown_rule (place at) k t ≡ moved place (pown_rule at k t)
  pown_placed at k bool_type = refl
  pown_placed at k (num_type u) = refl
  pown_placed at k (list_type t) = refl
  pown_placed at k (record_type r us) = refl

  pub truths_placed : (at : ℕ) (s t : TypeTree) → truths_rule (place at) s t ≡ moved place (truths_rule at s t)
  truths_placed at s t =
      formed_placed place at (asks_bool at s ++ asks_bool at t) (asks_bool (place at) s ++ asks_bool (place at) t) bool_type
      (joined place (asks_bool at s) (asks_bool at t) (asks_bool (place at) s) (asks_bool (place at) t) (bool_placed place at s) (bool_placed place at t))

  pub arith_placed : (at : ℕ) (op : Arith) (s t : TypeTree) → arith_rule (place at) op s t ≡ moved place (arith_rule at op s t)
  arith_placed at Add (num_type u) (num_type v) = refl
  arith_placed at Sub (num_type u) (num_type v) = refl
  arith_placed at Mul (num_type u) (num_type v) = refl
  arith_placed at Div (num_type u) (num_type v) = refl
  arith_placed at op bool_type t = refl
  arith_placed at op (list_type s) t = refl
  arith_placed at op (record_type r us) t = refl
  arith_placed at op (num_type u) bool_type = refl
  arith_placed at op (num_type u) (list_type t) = refl
  arith_placed at op (num_type u) (record_type r us) = refl

  pub compare_placed : (at : ℕ) (s t : TypeTree) → compare_rule (place at) s t ≡ moved place (compare_rule at s t)
  compare_placed at (num_type u) (num_type v) = refl
  compare_placed at bool_type t = refl
  compare_placed at (list_type s) t = refl
  compare_placed at (record_type r us) t = refl
  compare_placed at (num_type u) bool_type = refl
  compare_placed at (num_type u) (list_type t) = refl
  compare_placed at (num_type u) (record_type r us) = refl

  pub if_placed : (at : ℕ) (c s t : TypeTree) → if_rule (place at) c s t ≡ moved place (if_rule at c s t)
  if_placed at c s t =
      formed_placed place at (asks_bool at c ++ against at s t) (asks_bool (place at) c ++ against (place at) s t) s
      (joined place (asks_bool at c) (against at s t) (asks_bool (place at) c) (against (place at) s t) (bool_placed place at c) (against_placed place at s t))

  pub split_placed : (at : ℕ) (l s t : TypeTree) → split_rule (place at) l s t ≡ moved place (split_rule at l s t)
  split_placed at l s t =
      formed_placed place at (asks_list at l ++ against at s t) (asks_list (place at) l ++ against (place at) s t) s
      (joined place (asks_list at l) (against at s t) (asks_list (place at) l) (against (place at) s t) (list_placed place at l) (against_placed place at s t))

  pub nil_placed : (at : ℕ) (t : TypeTree) → nil_rule (place at) t ≡ moved place (nil_rule at t)
  nil_placed at t = formed_placed place at (asks_list at t) (asks_list (place at) t) t (list_placed place at t)

  pub list_rule_placed : (at : ℕ) (ts : List TypeTree) → list_rule (place at) ts ≡ moved place (list_rule at ts)
  list_rule_placed at [] = refl
  list_rule_placed at (t ∷ ts) = formed_placed place at (against_each at t ts) (against_each (place at) t ts) (list_type t) (each_placed place at t ts)

  pub cons_placed : (at : ℕ) (s t : TypeTree) → cons_rule (place at) s t ≡ moved place (cons_rule at s t)
  cons_placed at s bool_type = refl
  cons_placed at s (num_type u) = refl
  cons_placed at s (list_type t) = formed_placed place at (against at s t) (against (place at) s t) (list_type t) (against_placed place at s t)
  cons_placed at s (record_type r us) = refl

  pub record_placed : (at r : ℕ) (us : List PowerMap) (o : Option RecordTree) (ts : List TypeTree) → record_rule (place at) r us (option_map (changed_record place) o) ts ≡ moved place (record_rule at r us o ts)
  record_placed at r us (Some d) ts =
      let declared = map (put (unit_at us)) (field_types d) in
      formed_placed place at (types_against at declared ts) (types_against (place at) declared ts) (record_type r us) (types_placed place at declared ts)
  record_placed at r us None ts = refl

  declared_placed : (at : ℕ) (us : List PowerMap) (b : Bool) (o : Option TypeTree) → declared_rule (place at) us b o ≡ moved place (declared_rule at us b o)
  declared_placed at us true (Some t) = refl
  declared_placed at us true None = refl
  declared_placed at us false (Some t) = refl
  declared_placed at us false None = refl

  found_placed : (at k : ℕ) (us : List PowerMap) (b : Bool) (o : Option RecordTree) → found_rule (place at) k us b (option_map (changed_record place) o) ≡ moved place (found_rule at k us b o)
  found_placed at k us true (Some d) = declared_placed at us (length us == d.units) (slice_get (field_types d) k)
  found_placed at k us true None = refl
  found_placed at k us false (Some d) = refl
  found_placed at k us false None = refl

  pub field_placed : (at r k : ℕ) (o : Option RecordTree) (t : TypeTree) → field_rule (place at) r k (option_map (changed_record place) o) t ≡ moved place (field_rule at r k o t)
  field_placed at r k o bool_type = refl
  field_placed at r k o (num_type u) = refl
  field_placed at r k o (list_type t) = refl
  field_placed at r k o (record_type q us) = found_placed at k us (q == r) o
