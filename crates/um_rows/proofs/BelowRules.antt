-- The rules bring in no variable: a node's rows and its type hold those of its parts.
use Rattle.std.proofs.Common.{ℕ, ℤ, zero, suc, ◌<◌, Bool, true, cond, List, [], ◌∷◌, ◌++◌, map, length, Option, Some, None, slice_get, sym, subst, arith}
use Rattle.std.specs.Prelude.{All, ◌==◌}
use Rattle.std.proofs.lemmas.List.Elements.{All-nil, All-cons, All-head, All-tail}
use Rattle.um_frac.specs.declared.number.Frac.{Frac}
use Rattle.um_frac.specs.Fraction.{numerator}
use Rattle.um_units.specs.Terms.{is_zero}
use Rattle.um_units.specs.declared.Atom.TheVariants.{Base}
use Rattle.um_units.specs.PowerMap.{PowerMap, one, atom, mul, pow, inv, replace}
use Rattle.um_units.specs.Variables.{VariablesBelow}
use Rattle.um_units.proofs.Variables.{IsClosed-one, IsClosed-base, VariablesBelow-closed, VariablesBelow-mul, VariablesBelow-pow, VariablesBelow-inv, VariablesBelow-replace}
use Rattle.um_tree.specs.declared.note.UnitNote.{UnitNote}
use Rattle.um_tree.specs.declared.note.UnitNote.TheVariants.{Hole, Written}
use Rattle.um_tree.specs.declared.expression.Arith.{Arith}
use Rattle.um_tree.specs.declared.expression.Arith.TheVariants.{Add, Sub, Mul, Div}
use Rattle.um_tree.specs.TypeTree.{TypeTree, bool_type, num_type, list_type, record_type}
use Rattle.um_tree.specs.ProgramTree.{RecordTree, Signature}
use Rattle.um_tree.specs.Typing.{put, unit_at, field_types}
use Rattle.um_tree.specs.Laws.{TypeHas}
use Rattle.um_elim.proofs.Cases.{on_test}
use Rattle.um_equal_types.specs.Steps.{Step, row_at, wrong_shape_at, type_at}
use Rattle.um_equal_types.specs.Against.{never, unit_against, units_against, against, types_against, against_each}
use Rattle.um_rows.specs.Rules.{Derived, after, formed, mismatch, asks_bool, asks_list, item, asks_zero, number_rule, local_rule, call_rule, negate_rule, not_rule, pown_rule, truths_rule, units_rule, arith_rule, compare_rule, if_rule, split_rule, nil_rule, list_rule, cons_rule, record_rule, declared_rule, found_rule, field_rule}
use Rattle.um_rows.specs.Derivation.{first_units}
use Rattle.um_rows.proofs.Variables.{TypeBelow, TypesBelow, SignatureBelow, StepsBelow}

-- ---- types with units put in
module _ (P Q : PowerMap → Type 0) (s : ℕ → PowerMap) (moves : (u : PowerMap) → P u → Q (replace s u)) where
  units_have : (us : List PowerMap) → All P us → All Q (map (replace s) us)
  units_have [] h = All-nil Q
  units_have (u ∷ us) h = All-cons Q (replace s u) (map (replace s) us) (moves u (All-head P u us h)) (units_have us (All-tail P u us h))

  put_has : (t : TypeTree) → TypeHas P t → TypeHas Q (put s t)
  put_has bool_type h = tt
  put_has (num_type u) h = moves u h
  put_has (list_type t) h = put_has t h
  put_has (record_type r us) h = units_have us h

any_has : (t : TypeTree) → TypeHas (λ u. Unit {0}) t
any_has bool_type = tt
any_has (num_type u) = tt
any_has (list_type t) = any_has t
any_has (record_type r us) = λ k d low. tt

module _ (n : ℕ) where
  -- each variable below m is replaced by a unit below n
  pub put_below : (m : ℕ) (s : ℕ → PowerMap) → ((k : ℕ) → k < m → VariablesBelow n (s k)) → (t : TypeTree) → TypeBelow m t → TypeBelow n (put s t)
  put_below m s h t low = put_has (VariablesBelow m) (VariablesBelow n) s (λ u l. VariablesBelow-replace n s u (λ k held. h k (l k held))) t low

  pub types_put_below : (m : ℕ) (s : ℕ → PowerMap) → ((k : ℕ) → k < m → VariablesBelow n (s k)) → (ts : List TypeTree) → TypesBelow m ts → TypesBelow n (map (put s) ts)
  types_put_below m s h [] low = tt
  types_put_below m s h (t ∷ ts) low = (put_below m s h t low.0, types_put_below m s h ts low.1)

  -- ---- the units of a record
  unit_at_below : (us : List PowerMap) → All (VariablesBelow n) us → (k : ℕ) → VariablesBelow n (unit_at us k)
  unit_at_below [] low k = VariablesBelow-closed n one IsClosed-one
  unit_at_below (u ∷ us) low zero = All-head (VariablesBelow n) u us low
  unit_at_below (u ∷ us) low (suc k) = unit_at_below us (All-tail (VariablesBelow n) u us low) k

  field_below : (us : List PowerMap) → All (VariablesBelow n) us → (t : TypeTree) → TypeBelow n (put (unit_at us) t)
  field_below us low t = put_has (λ u. Unit {0}) (VariablesBelow n) (unit_at us) (λ u _. VariablesBelow-replace n (unit_at us) u (λ k held. unit_at_below us low k)) t (any_has t)

  fields_below : (us : List PowerMap) → All (VariablesBelow n) us → (ts : List TypeTree) → TypesBelow n (map (put (unit_at us)) ts)
  fields_below us low [] = tt
  fields_below us low (t ∷ ts) = (field_below us low t, fields_below us low ts)

  pub first_units_below : (m : ℕ) (f : ℕ → PowerMap) → ((k : ℕ) → k < m → VariablesBelow n (f k)) → All (VariablesBelow n) (first_units m f)
  first_units_below zero f h = All-nil (VariablesBelow n)
  first_units_below (suc m) f h = All-cons (VariablesBelow n) (f 0) (first_units m (λ k. f (suc k))) (h 0 (omega arith)) (first_units_below m (λ k. f (suc k)) (λ k l. h (suc k) (omega arith)))

  pub types_below-append : (ss ts : List TypeTree) → TypesBelow n ss → TypesBelow n ts → TypesBelow n (ss ++ ts)
  types_below-append [] ts h k = k
  types_below-append (s ∷ ss) ts h k = (h.0, types_below-append ss ts h.1 k)

  -- ---- steps
  pub steps_below-append : (a b : List Step) → StepsBelow n a → StepsBelow n b → StepsBelow n (a ++ b)
  steps_below-append [] b h k = k
  steps_below-append (row_at at u ∷ a) b h k = (h.0, steps_below-append a b h.1 k)
  steps_below-append (wrong_shape_at at ∷ a) b h k = (h.0, steps_below-append a b h.1 k)
  steps_below-append (type_at at t ∷ a) b h k = (h.0, steps_below-append a b h.1 k)

  never_below : (at : ℕ) → StepsBelow n (never at)
  never_below at = (VariablesBelow-closed n (atom (Base 0)) (IsClosed-base 0), tt)

  quotient_below : (u w : PowerMap) → VariablesBelow n u → VariablesBelow n w → VariablesBelow n (mul u (inv w))
  quotient_below u w h k = VariablesBelow-mul n u (inv w) h (VariablesBelow-inv n w k)

  units_against_below : (at : ℕ) (us ws : List PowerMap) → All (VariablesBelow n) us → All (VariablesBelow n) ws → StepsBelow n (units_against at us ws)
  units_against_below at [] [] h k = tt
  units_against_below at (u ∷ us) (w ∷ ws) h k =
      (quotient_below u w (All-head (VariablesBelow n) u us h) (All-head (VariablesBelow n) w ws k), units_against_below at us ws (All-tail (VariablesBelow n) u us h) (All-tail (VariablesBelow n) w ws k))
  units_against_below at us ws h k = never_below at

  pub against_below : (at : ℕ) (s t : TypeTree) → TypeBelow n s → TypeBelow n t → StepsBelow n (against at s t)
  against_below at bool_type bool_type h k = tt
  against_below at (num_type u) (num_type w) h k = (quotient_below u w h k, tt)
  against_below at (list_type s) (list_type t) h k = against_below at s t h k
  against_below at (record_type r us) (record_type q ws) h k =
      on_test (r == q)
      (λ e. subst (λ b. StepsBelow n (cond b (units_against at us ws) (never at))) (sym e) (units_against_below at us ws h k))
      (λ e. subst (λ b. StepsBelow n (cond b (units_against at us ws) (never at))) (sym e) (never_below at))
  against_below at s t h k = never_below at

  types_against_below : (at : ℕ) (ss ts : List TypeTree) → TypesBelow n ss → TypesBelow n ts → StepsBelow n (types_against at ss ts)
  types_against_below at [] [] h k = tt
  types_against_below at (s ∷ ss) (t ∷ ts) h k = steps_below-append (against at s t) (types_against at ss ts) (against_below at s t h.0 k.0) (types_against_below at ss ts h.1 k.1)
  types_against_below at ss ts h k = never_below at

  each_below : (at : ℕ) (s : TypeTree) (ts : List TypeTree) → TypeBelow n s → TypesBelow n ts → StepsBelow n (against_each at s ts)
  each_below at s [] h k = tt
  each_below at s (t ∷ ts) h k = steps_below-append (against at s t) (against_each at s ts) (against_below at s t h k.0) (each_below at s ts h k.1)

  -- ---- nodes
  abbrev pub DerivedBelow : Derived → Type 0
  DerivedBelow d = TypeBelow n d.type × StepsBelow n d.steps

  pub after_below : (ss : List Step) (d : Derived) → StepsBelow n ss → DerivedBelow d → DerivedBelow (after ss d)
  after_below ss d h k = (k.0, steps_below-append ss d.steps h k.1)

  pub formed_below : (at : ℕ) (rows : List Step) (t : TypeTree) → StepsBelow n rows → TypeBelow n t → DerivedBelow (formed at rows t)
  formed_below at rows t h k = (k, steps_below-append rows (type_at at t ∷ []) h (k, tt))

  mismatch_below : (at : ℕ) → DerivedBelow (mismatch at)
  mismatch_below at = formed_below at (never at) bool_type (never_below at) tt

  asks_bool_below : (at : ℕ) (t : TypeTree) → StepsBelow n (asks_bool at t)
  asks_bool_below at bool_type = tt
  asks_bool_below at t = never_below at

  asks_list_below : (at : ℕ) (t : TypeTree) → StepsBelow n (asks_list at t)
  asks_list_below at (list_type t) = tt
  asks_list_below at t = never_below at

  pub item_below : (t : TypeTree) → TypeBelow n t → TypeBelow n (item t)
  item_below (list_type t) h = h
  item_below t h = tt

  asks_zero_below : (at : ℕ) (c : Frac) (m : UnitNote) → StepsBelow n (asks_zero at c m)
  asks_zero_below at c Hole =
      on_test (is_zero (numerator c))
      (λ e. subst (λ b. StepsBelow n (cond b [] (never at))) (sym e) tt)
      (λ e. subst (λ b. StepsBelow n (cond b [] (never at))) (sym e) (never_below at))
  asks_zero_below at c (Written u) = tt

  pub number_below : (at : ℕ) (c : Frac) (m : UnitNote) (u : PowerMap) → VariablesBelow n u → DerivedBelow (number_rule at c m u)
  number_below at c m u h = formed_below at (asks_zero at c m) (num_type u) (asks_zero_below at c m) h

  pub local_below : (at k : ℕ) (vars : List TypeTree) → TypesBelow n vars → DerivedBelow (local_rule at (slice_get vars k))
  local_below at zero [] h = mismatch_below at
  local_below at (suc k) [] h = mismatch_below at
  local_below at zero (t ∷ vars) h = formed_below at [] t tt h.0
  local_below at (suc k) (t ∷ vars) h = local_below at k vars h.1

  abbrev pub OfferBelow : Option Signature → Type 0
  OfferBelow (Some g) = SignatureBelow n g
  OfferBelow None = Unit {0}

  pub call_below : (at : ℕ) (o : Option Signature) (ts : List TypeTree) → OfferBelow o → TypesBelow n ts → DerivedBelow (call_rule at o ts)
  call_below at (Some g) ts h k = formed_below at (types_against at g.params ts) g.result (types_against_below at g.params ts h.0 k) h.1
  call_below at None ts h k = mismatch_below at

  pub negate_below : (at : ℕ) (t : TypeTree) → TypeBelow n t → DerivedBelow (negate_rule at t)
  negate_below at (num_type u) h = formed_below at [] (num_type u) tt h
  negate_below at t h = mismatch_below at

  pub not_below : (at : ℕ) (t : TypeTree) → DerivedBelow (not_rule at t)
  not_below at t = formed_below at (asks_bool at t) bool_type (asks_bool_below at t) tt

  pub pown_below : (at : ℕ) (i : ℤ) (t : TypeTree) → TypeBelow n t → DerivedBelow (pown_rule at i t)
  pown_below at i (num_type u) h = formed_below at [] (num_type (pow u i)) tt (VariablesBelow-pow n u i h)
  pown_below at i t h = mismatch_below at

  pub truths_below : (at : ℕ) (s t : TypeTree) → DerivedBelow (truths_rule at s t)
  truths_below at s t = formed_below at (asks_bool at s ++ asks_bool at t) bool_type (steps_below-append (asks_bool at s) (asks_bool at t) (asks_bool_below at s) (asks_bool_below at t)) tt

  units_rule_below : (at : ℕ) (op : Arith) (u w : PowerMap) → VariablesBelow n u → VariablesBelow n w → DerivedBelow (units_rule at op u w)
  units_rule_below at Add u w h k = formed_below at (unit_against at u w ∷ []) (num_type u) (quotient_below u w h k, tt) h
  units_rule_below at Sub u w h k = formed_below at (unit_against at u w ∷ []) (num_type u) (quotient_below u w h k, tt) h
  units_rule_below at Mul u w h k = formed_below at [] (num_type (mul u w)) tt (VariablesBelow-mul n u w h k)
  units_rule_below at Div u w h k = formed_below at [] (num_type (mul u (inv w))) tt (quotient_below u w h k)

  pub arith_below : (at : ℕ) (op : Arith) (s t : TypeTree) → TypeBelow n s → TypeBelow n t → DerivedBelow (arith_rule at op s t)
  arith_below at op (num_type u) (num_type w) h k = units_rule_below at op u w h k
  arith_below at op s t h k = mismatch_below at

  pub compare_below : (at : ℕ) (s t : TypeTree) → TypeBelow n s → TypeBelow n t → DerivedBelow (compare_rule at s t)
  compare_below at (num_type u) (num_type w) h k = formed_below at (unit_against at u w ∷ []) bool_type (quotient_below u w h k, tt) tt
  compare_below at s t h k = mismatch_below at

  pub if_below : (at : ℕ) (c s t : TypeTree) → TypeBelow n s → TypeBelow n t → DerivedBelow (if_rule at c s t)
  if_below at c s t h k = formed_below at (asks_bool at c ++ against at s t) s (steps_below-append (asks_bool at c) (against at s t) (asks_bool_below at c) (against_below at s t h k)) h

  pub split_below : (at : ℕ) (l s t : TypeTree) → TypeBelow n s → TypeBelow n t → DerivedBelow (split_rule at l s t)
  split_below at l s t h k = formed_below at (asks_list at l ++ against at s t) s (steps_below-append (asks_list at l) (against at s t) (asks_list_below at l) (against_below at s t h k)) h

  pub nil_below : (at : ℕ) (t : TypeTree) → TypeBelow n t → DerivedBelow (nil_rule at t)
  nil_below at t h = formed_below at (asks_list at t) t (asks_list_below at t) h

  pub list_below : (at : ℕ) (ts : List TypeTree) → TypesBelow n ts → DerivedBelow (list_rule at ts)
  list_below at [] h = mismatch_below at
  list_below at (t ∷ ts) h = formed_below at (against_each at t ts) (list_type t) (each_below at t ts h.0 h.1) h.0

  pub cons_below : (at : ℕ) (s t : TypeTree) → TypeBelow n s → TypeBelow n t → DerivedBelow (cons_rule at s t)
  cons_below at s (list_type t) h k = formed_below at (against at s t) (list_type t) (against_below at s t h k) k
  cons_below at s t h k = mismatch_below at

  pub record_below : (at r : ℕ) (us : List PowerMap) (o : Option RecordTree) (ts : List TypeTree) → All (VariablesBelow n) us → TypesBelow n ts → DerivedBelow (record_rule at r us o ts)
  record_below at r us (Some d) ts h k =
      let declared = map (put (unit_at us)) (field_types d) in
      formed_below at (types_against at declared ts) (record_type r us) (types_against_below at declared ts (fields_below us h (field_types d)) k) h
  record_below at r us None ts h k = mismatch_below at

  declared_below : (at : ℕ) (us : List PowerMap) (b : Bool) (o : Option TypeTree) → All (VariablesBelow n) us → DerivedBelow (declared_rule at us b o)
  declared_below at us true (Some t) h = formed_below at [] (put (unit_at us) t) tt (field_below us h t)
  declared_below at us b o h = mismatch_below at

  found_below : (at k : ℕ) (us : List PowerMap) (b : Bool) (o : Option RecordTree) → All (VariablesBelow n) us → DerivedBelow (found_rule at k us b o)
  found_below at k us true (Some d) h = declared_below at us (length us == d.units) (slice_get (field_types d) k) h
  found_below at k us b o h = mismatch_below at

  pub field_rule_below : (at r k : ℕ) (o : Option RecordTree) (t : TypeTree) → TypeBelow n t → DerivedBelow (field_rule at r k o t)
  field_rule_below at r k o (record_type q us) h = found_below at k us (q == r) o h
  field_rule_below at r k o t h = mismatch_below at
