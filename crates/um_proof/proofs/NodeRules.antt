-- The rules bring in no base unit, and form few rows: a node's rows and its type lack what the types of its parts lack.
use Rattle.std.proofs.Common.{◌≡◌, ℕ, ℤ, zero, suc, ◌+◌, ◌*◌, ◌≤◌, Bool, true, cond, List, [], ◌∷◌, ◌++◌, map, length, Option, Some, None, slice_get, sym, subst, ap, ◌∙◌, arith}
use Rattle.std.specs.Prelude.{All, ◌==◌}
use Rattle.std.proofs.lemmas.List.{length-append}
use Rattle.std.proofs.lemmas.List.Elements.{All-head, All-tail}
use Rattle.um_frac.specs.declared.number.Frac.{Frac}
use Rattle.um_frac.specs.Fraction.{numerator}
use Rattle.um_units.specs.Terms.{is_zero}
use Rattle.um_units.specs.PowerMap.{PowerMap, one, mul, inv, pow}
use Rattle.um_tree.specs.declared.note.UnitNote.{UnitNote}
use Rattle.um_tree.specs.declared.note.UnitNote.TheVariants.{Hole, Written}
use Rattle.um_tree.specs.declared.expression.Arith.{Arith}
use Rattle.um_tree.specs.declared.expression.Arith.TheVariants.{Add, Sub, Mul, Div}
use Rattle.um_tree.specs.TypeTree.{TypeTree, bool_type, num_type, list_type, record_type}
use Rattle.um_tree.specs.ProgramTree.{RecordTree, Signature}
use Rattle.um_tree.specs.Typing.{put, unit_at, field_types}
use Rattle.um_elim.proofs.Cases.{on_test}
use Rattle.um_equal_types.specs.Steps.{Step, row_at, wrong_shape_at, type_at, rows_of}
use Rattle.um_equal_types.specs.Against.{never, unit_against, units_against, against, types_against, against_each}
use Rattle.um_rows.specs.Rules.{Derived, formed, mismatch, asks_bool, asks_list, item, asks_zero, number_rule, local_rule, call_rule, negate_rule, not_rule, pown_rule, truths_rule, units_rule, arith_rule, compare_rule, if_rule, split_rule, nil_rule, list_rule, cons_rule, record_rule, declared_rule, found_rule, field_rule}
use Rattle.um_equal_types.proofs.PushLaws.{rows_of-append}
use Rattle.um_proof.proofs.Lacks.{Lacks, one_lacks, mul_lacks, pow_lacks, quotient_lacks, item_lacks, TypeLacks, TypesLack, SignatureLacks, put_lacks, types_put_lack}

module _ (m : ℕ) where
  -- ---- steps

  -- the unit of each row lacks base unit m, wrong shapes apart
  abbrev pub StepsLack : List Step → Type 0
  StepsLack [] = Unit {0}
  StepsLack (row_at at u ∷ ss) = Lacks m u × StepsLack ss
  StepsLack (wrong_shape_at at ∷ ss) = StepsLack ss
  StepsLack (type_at at t ∷ ss) = StepsLack ss

  -- and there are at most n
  pub record RowsLack (n : ℕ) (ss : List Step) : Type 0 where
    pub lack : StepsLack ss
    pub few : length (rows_of ss) ≤ n

  steps_append : (a b : List Step) → StepsLack a → StepsLack b → StepsLack (a ++ b)
  steps_append [] b h k = k
  steps_append (row_at at u ∷ a) b h k = (h.0, steps_append a b h.1 k)
  steps_append (wrong_shape_at at ∷ a) b h k = steps_append a b h k
  steps_append (type_at at t ∷ a) b h k = steps_append a b h k

  pub rows_more : (n k : ℕ) (ss : List Step) → n ≤ k → RowsLack n ss → RowsLack k ss
  rows_more n k ss l h = record { lack = h.lack; few = (let f = h.few in omega (arith, f, l)) }

  pub rows_append : (n k : ℕ) (a b : List Step) → RowsLack n a → RowsLack k b → RowsLack (n + k) (a ++ b)
  rows_append n k a b h j =
      let e : length (rows_of (a ++ b)) ≡ length (rows_of a) + length (rows_of b) = ap length (rows_of-append a b) ∙ length-append (rows_of a) (rows_of b) in
      let f = h.few in
      let g = j.few in
      record { lack = steps_append a b h.lack j.lack; few = omega (arith, e, f, g) }

  pub no_rows : RowsLack 0 []
  no_rows = record { lack = tt; few = omega arith }

  pub never_lacks : (n at : ℕ) → 1 ≤ n → RowsLack n (never at)
  never_lacks n at l = record { lack = tt; few = l }

  -- ---- types against types
  against_unit : (at : ℕ) (u w : PowerMap) → Lacks m u → Lacks m w → RowsLack 1 (unit_against at u w ∷ [])
  against_unit at u w h k = record { lack = (quotient_lacks m u w h k, tt); few = omega arith }

  units_against_lack : (at : ℕ) (us ws : List PowerMap) → All (Lacks m) us → All (Lacks m) ws → RowsLack (length us + 1) (units_against at us ws)
  units_against_lack at [] [] h k = record { lack = tt; few = omega arith }
  units_against_lack at (u ∷ us) (w ∷ ws) h k =
      let rest = units_against_lack at us ws (All-tail (Lacks m) u us h) (All-tail (Lacks m) w ws k) in
      let f = rest.few in
      record { lack = (quotient_lacks m u w (All-head (Lacks m) u us h) (All-head (Lacks m) w ws k), rest.lack); few = omega (arith, f) }
  units_against_lack at [] (w ∷ ws) h k = never_lacks 1 at (omega arith)
  units_against_lack at (u ∷ us) [] h k = never_lacks (length (u ∷ us) + 1) at (omega arith)

  pub against_lacks : (at : ℕ) (s t : TypeTree) → TypeLacks m s → TypeLacks m t → RowsLack 5 (against at s t)
  against_lacks at bool_type bool_type h k = record { lack = tt; few = omega arith }
  against_lacks at (num_type u) (num_type w) h k = rows_more 1 5 (unit_against at u w ∷ []) (omega arith) (against_unit at u w h k)
  against_lacks at (list_type s) (list_type t) h k = against_lacks at s t h k
  against_lacks at (record_type r us) (record_type q ws) h k =
      let l = h.1 in
      on_test (r == q)
      (λ e. subst (λ b. RowsLack 5 (cond b (units_against at us ws) (never at))) (sym e) (rows_more (length us + 1) 5 (units_against at us ws) (omega (arith, l)) (units_against_lack at us ws h.0 k.0)))
      (λ e. subst (λ b. RowsLack 5 (cond b (units_against at us ws) (never at))) (sym e) (never_lacks 5 at (omega arith)))
  against_lacks at s t h k = never_lacks 5 at (omega arith)

  types_against_lack : (at : ℕ) (ss ts : List TypeTree) → TypesLack m ss → TypesLack m ts → RowsLack (5 * length ts + 1) (types_against at ss ts)
  types_against_lack at [] [] h k = record { lack = tt; few = omega arith }
  types_against_lack at (s ∷ ss) (t ∷ ts) h k =
      rows_more (5 + (5 * length ts + 1)) (5 * length (t ∷ ts) + 1) (against at s t ++ types_against at ss ts) (omega arith)
      (rows_append 5 (5 * length ts + 1) (against at s t) (types_against at ss ts) (against_lacks at s t h.0 k.0) (types_against_lack at ss ts h.1 k.1))
  types_against_lack at [] (t ∷ ts) h k = never_lacks (5 * length (t ∷ ts) + 1) at (omega arith)
  types_against_lack at (s ∷ ss) [] h k = never_lacks 1 at (omega arith)

  each_lacks : (at : ℕ) (s : TypeTree) (ts : List TypeTree) → TypeLacks m s → TypesLack m ts → RowsLack (5 * length ts) (against_each at s ts)
  each_lacks at s [] h k = record { lack = tt; few = omega arith }
  each_lacks at s (t ∷ ts) h k =
      rows_more (5 + 5 * length ts) (5 * length (t ∷ ts)) (against at s t ++ against_each at s ts) (omega arith)
      (rows_append 5 (5 * length ts) (against at s t) (against_each at s ts) (against_lacks at s t h k.0) (each_lacks at s ts h k.1))

  -- ---- nodes: the type and the rows, so many at most
  pub record DerivedLacks (n : ℕ) (d : Derived) : Type 0 where
    pub type : TypeLacks m d.type
    pub rows : RowsLack n d.steps

  pub formed_lacks : (n k at : ℕ) (rows : List Step) (t : TypeTree) → n ≤ k → RowsLack n rows → TypeLacks m t → DerivedLacks k (formed at rows t)
  formed_lacks n k at rows t l h j = record {
    type = j;
    rows = rows_more (n + 0) k (rows ++ type_at at t ∷ []) (omega (arith, l)) (rows_append n 0 rows (type_at at t ∷ []) h (record { lack = tt; few = omega arith }));
  }

  mismatch_lacks : (n at : ℕ) → 1 ≤ n → DerivedLacks n (mismatch at)
  mismatch_lacks n at l = formed_lacks 1 n at (never at) bool_type l (never_lacks 1 at (omega arith)) tt

  asks_bool_lacks : (at : ℕ) (t : TypeTree) → RowsLack 1 (asks_bool at t)
  asks_bool_lacks at bool_type = rows_more 0 1 [] (omega arith) no_rows
  asks_bool_lacks at t = never_lacks 1 at (omega arith)

  asks_list_lacks : (at : ℕ) (t : TypeTree) → RowsLack 1 (asks_list at t)
  asks_list_lacks at (list_type t) = rows_more 0 1 [] (omega arith) no_rows
  asks_list_lacks at t = never_lacks 1 at (omega arith)

  pub list_item_lacks : (t : TypeTree) → TypeLacks m t → TypeLacks m (item t)
  list_item_lacks (list_type t) h = h
  list_item_lacks t h = tt

  asks_zero_lacks : (at : ℕ) (c : Frac) (n : UnitNote) → RowsLack 1 (asks_zero at c n)
  asks_zero_lacks at c Hole =
      on_test (is_zero (numerator c))
      (λ e. subst (λ b. RowsLack 1 (cond b [] (never at))) (sym e) (rows_more 0 1 [] (omega arith) no_rows))
      (λ e. subst (λ b. RowsLack 1 (cond b [] (never at))) (sym e) (never_lacks 1 at (omega arith)))
  asks_zero_lacks at c (Written u) = rows_more 0 1 [] (omega arith) no_rows

  pub number_lacks : (at : ℕ) (c : Frac) (n : UnitNote) (u : PowerMap) → Lacks m u → DerivedLacks 6 (number_rule at c n u)
  number_lacks at c n u h = formed_lacks 1 6 at (asks_zero at c n) (num_type u) (omega arith) (asks_zero_lacks at c n) h

  abbrev SomeLacks : Option TypeTree → Type 0
  SomeLacks (Some t) = TypeLacks m t
  SomeLacks None = Unit {0}

  get_lacks : (ts : List TypeTree) (k : ℕ) → TypesLack m ts → SomeLacks (slice_get ts k)
  get_lacks [] zero h = tt
  get_lacks [] (suc k) h = tt
  get_lacks (t ∷ ts) zero h = h.0
  get_lacks (t ∷ ts) (suc k) h = get_lacks ts k h.1

  some_local_lacks : (at : ℕ) (o : Option TypeTree) → SomeLacks o → DerivedLacks 6 (local_rule at o)
  some_local_lacks at (Some t) h = formed_lacks 0 6 at [] t (omega arith) no_rows h
  some_local_lacks at None h = mismatch_lacks 6 at (omega arith)

  pub local_lacks : (at k : ℕ) (vars : List TypeTree) → TypesLack m vars → DerivedLacks 6 (local_rule at (slice_get vars k))
  local_lacks at k vars h = some_local_lacks at (slice_get vars k) (get_lacks vars k h)

  abbrev pub OfferLacks : Option Signature → Type 0
  OfferLacks (Some g) = SignatureLacks m g
  OfferLacks None = Unit {0}

  pub call_lacks : (at : ℕ) (o : Option Signature) (ts : List TypeTree) → OfferLacks o → TypesLack m ts → DerivedLacks (5 * length ts + 1) (call_rule at o ts)
  call_lacks at (Some g) ts h k = formed_lacks (5 * length ts + 1) (5 * length ts + 1) at (types_against at g.params ts) g.result (omega arith) (types_against_lack at g.params ts h.0 k) h.1
  call_lacks at None ts h k = mismatch_lacks (5 * length ts + 1) at (omega arith)

  pub negate_lacks : (at : ℕ) (t : TypeTree) → TypeLacks m t → DerivedLacks 6 (negate_rule at t)
  negate_lacks at (num_type u) h = formed_lacks 0 6 at [] (num_type u) (omega arith) no_rows h
  negate_lacks at t h = mismatch_lacks 6 at (omega arith)

  pub not_lacks : (at : ℕ) (t : TypeTree) → DerivedLacks 6 (not_rule at t)
  not_lacks at t = formed_lacks 1 6 at (asks_bool at t) bool_type (omega arith) (asks_bool_lacks at t) tt

  pub pown_lacks : (at : ℕ) (i : ℤ) (t : TypeTree) → TypeLacks m t → DerivedLacks 6 (pown_rule at i t)
  pown_lacks at i (num_type u) h = formed_lacks 0 6 at [] (num_type (pow u i)) (omega arith) no_rows (pow_lacks m u i h)
  pown_lacks at i t h = mismatch_lacks 6 at (omega arith)

  pub truths_lack : (at : ℕ) (s t : TypeTree) → DerivedLacks 6 (truths_rule at s t)
  truths_lack at s t = formed_lacks 2 6 at (asks_bool at s ++ asks_bool at t) bool_type (omega arith) (rows_append 1 1 (asks_bool at s) (asks_bool at t) (asks_bool_lacks at s) (asks_bool_lacks at t)) tt

  units_rule_lacks : (at : ℕ) (op : Arith) (u w : PowerMap) → Lacks m u → Lacks m w → DerivedLacks 6 (units_rule at op u w)
  units_rule_lacks at Add u w h k = formed_lacks 1 6 at (unit_against at u w ∷ []) (num_type u) (omega arith) (against_unit at u w h k) h
  units_rule_lacks at Sub u w h k = formed_lacks 1 6 at (unit_against at u w ∷ []) (num_type u) (omega arith) (against_unit at u w h k) h
  units_rule_lacks at Mul u w h k = formed_lacks 0 6 at [] (num_type (mul u w)) (omega arith) no_rows (mul_lacks m u w h k)
  units_rule_lacks at Div u w h k = formed_lacks 0 6 at [] (num_type (mul u (inv w))) (omega arith) no_rows (quotient_lacks m u w h k)

  pub arith_lacks : (at : ℕ) (op : Arith) (s t : TypeTree) → TypeLacks m s → TypeLacks m t → DerivedLacks 6 (arith_rule at op s t)
  arith_lacks at op (num_type u) (num_type w) h k = units_rule_lacks at op u w h k
  arith_lacks at op s t h k = mismatch_lacks 6 at (omega arith)

  pub compare_lacks : (at : ℕ) (s t : TypeTree) → TypeLacks m s → TypeLacks m t → DerivedLacks 6 (compare_rule at s t)
  compare_lacks at (num_type u) (num_type w) h k = formed_lacks 1 6 at (unit_against at u w ∷ []) bool_type (omega arith) (against_unit at u w h k) tt
  compare_lacks at s t h k = mismatch_lacks 6 at (omega arith)

  pub if_lacks : (at : ℕ) (c s t : TypeTree) → TypeLacks m s → TypeLacks m t → DerivedLacks 6 (if_rule at c s t)
  if_lacks at c s t h k = formed_lacks 6 6 at (asks_bool at c ++ against at s t) s (omega arith) (rows_append 1 5 (asks_bool at c) (against at s t) (asks_bool_lacks at c) (against_lacks at s t h k)) h

  pub split_lacks : (at : ℕ) (l s t : TypeTree) → TypeLacks m s → TypeLacks m t → DerivedLacks 6 (split_rule at l s t)
  split_lacks at l s t h k = formed_lacks 6 6 at (asks_list at l ++ against at s t) s (omega arith) (rows_append 1 5 (asks_list at l) (against at s t) (asks_list_lacks at l) (against_lacks at s t h k)) h

  pub nil_lacks : (at : ℕ) (t : TypeTree) → TypeLacks m t → DerivedLacks 6 (nil_rule at t)
  nil_lacks at t h = formed_lacks 1 6 at (asks_list at t) t (omega arith) (asks_list_lacks at t) h

  pub list_lacks : (at : ℕ) (ts : List TypeTree) → TypesLack m ts → DerivedLacks (5 * length ts + 1) (list_rule at ts)
  list_lacks at [] h = mismatch_lacks 1 at (omega arith)
  list_lacks at (t ∷ ts) h = formed_lacks (5 * length ts) (5 * length (t ∷ ts) + 1) at (against_each at t ts) (list_type t) (omega arith) (each_lacks at t ts h.0 h.1) h.0

  pub cons_lacks : (at : ℕ) (s t : TypeTree) → TypeLacks m s → TypeLacks m t → DerivedLacks 6 (cons_rule at s t)
  cons_lacks at s (list_type t) h k = formed_lacks 5 6 at (against at s t) (list_type t) (omega arith) (against_lacks at s t h k) k
  cons_lacks at s t h k = mismatch_lacks 6 at (omega arith)

  -- ---- records

  -- the declared types of a record's fields lack it, and the record takes few units
  abbrev pub FieldsLack : Option RecordTree → Type 0
  FieldsLack (Some d) = TypesLack m (field_types d) × (d.units ≤ 4)
  FieldsLack None = Unit {0}

  unit_at_lacks : (us : List PowerMap) → All (Lacks m) us → (k : ℕ) → Lacks m (unit_at us k)
  unit_at_lacks us all k = item_lacks m us k one all (one_lacks m)

  pub record_lacks : (at r : ℕ) (us : List PowerMap) (o : Option RecordTree) (ts : List TypeTree) → All (Lacks m) us → length us ≤ 4 → FieldsLack o → TypesLack m ts → DerivedLacks (5 * length ts + 1) (record_rule at r us o ts)
  record_lacks at r us (Some d) ts h l fields k =
      let declared = map (put (unit_at us)) (field_types d) in
      formed_lacks (5 * length ts + 1) (5 * length ts + 1) at (types_against at declared ts) (record_type r us) (omega arith)
      (types_against_lack at declared ts (types_put_lack m (unit_at us) (unit_at_lacks us h) (field_types d) fields.0) k) (h, l)
  record_lacks at r us None ts h l fields k = mismatch_lacks (5 * length ts + 1) at (omega arith)

  declared_lacks : (at : ℕ) (us : List PowerMap) (b : Bool) (o : Option TypeTree) → All (Lacks m) us → SomeLacks o → DerivedLacks 6 (declared_rule at us b o)
  declared_lacks at us true (Some t) h k = formed_lacks 0 6 at [] (put (unit_at us) t) (omega arith) no_rows (put_lacks m (unit_at us) (unit_at_lacks us h) t k)
  declared_lacks at us b o h k = mismatch_lacks 6 at (omega arith)

  found_lacks : (at k : ℕ) (us : List PowerMap) (b : Bool) (o : Option RecordTree) → All (Lacks m) us → FieldsLack o → DerivedLacks 6 (found_rule at k us b o)
  found_lacks at k us true (Some d) h fields = declared_lacks at us (length us == d.units) (slice_get (field_types d) k) h (get_lacks (field_types d) k fields.0)
  found_lacks at k us b o h fields = mismatch_lacks 6 at (omega arith)

  pub field_lacks : (at r k : ℕ) (o : Option RecordTree) (t : TypeTree) → TypeLacks m t → FieldsLack o → DerivedLacks 6 (field_rule at r k o t)
  field_lacks at r k o (record_type q us) h fields = found_lacks at k us (q == r) o h.0 fields
  field_lacks at r k o t h fields = mismatch_lacks 6 at (omega arith)
