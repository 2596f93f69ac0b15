-- Types that a typing rule relates make the node's rows 1.
use Rattle.std.proofs.Common.{◌≡◌, ℕ, ℤ, zero, suc, Bool, true, cond, List, [], ◌∷◌, ◌++◌, map, length, pos, Option, Some, slice_get, refl, sym, ap, ◌∙◌, subst}
use Rattle.std.specs.Prelude.{◌==◌}
use Rattle.std.proofs.lemmas.Bool.{eq-eqb}
use Rattle.std.proofs.lemmas.List.{length-map}
use Rattle.um_frac.specs.declared.number.Frac.{Frac}
use Rattle.um_frac.specs.Fraction.{numerator}
use Rattle.um_units.specs.Terms.{is_zero}
use Rattle.um_units.specs.PowerMap.{PowerMap, mul, pow, inv, replace}
use Rattle.um_units.proofs.Replacement.{replace-mul, replace-pow, replace-inv}
use Rattle.um_tree.specs.declared.expression.Arith.{Arith}
use Rattle.um_tree.specs.declared.expression.Arith.TheVariants.{Add, Sub, Mul, Div}
use Rattle.um_tree.specs.declared.note.UnitNote.TheVariants.{Hole}
use Rattle.um_tree.specs.TypeTree.{TypeTree, bool_type, num_type, list_type, record_type}
use Rattle.um_tree.specs.ProgramTree.{RecordTree}
use Rattle.um_tree.specs.Typing.{put, unit_at, ArithUnit, EachIs, field_types, IsRecordAt}
use Rattle.um_equal_types.specs.Steps.{Step}
use Rattle.um_equal_types.specs.Against.{never, against, types_against, against_each}
use Rattle.um_rows.specs.Rules.{Derived, after, formed, asks_bool, asks_list, item, asks_zero, local_rule, negate_rule, not_rule, pown_rule, truths_rule, units_rule, arith_rule, compare_rule, if_rule, split_rule, nil_rule, list_rule, cons_rule, record_rule, declared_rule, found_rule, field_rule}
use Rattle.um_equal_types.proofs.HeldSteps.{Holds, Holds-append, row-same}
use Rattle.um_rows.proofs.HeldNodes.{formed-holds}
use Rattle.um_equal_types.proofs.TypesAgainst.{rows-same, rows-types_same, rows-each_same}
use Rattle.um_rows.proofs.PutTypes.{put-field, put-fields}

-- at the units v the type is t, and each row is 1
abbrev pub HasTypeAt : (ℕ → PowerMap) → Derived → TypeTree → Type 0
HasTypeAt v d t = (put v d.type ≡ t) × Holds v d.steps

pub after_gives : (v : ℕ → PowerMap) (ss : List Step) (d : Derived) (t : TypeTree) → Holds v ss → HasTypeAt v d t → HasTypeAt v (after ss d) t
after_gives v ss d t h g = (g.0, Holds-append v ss d.steps h g.1)

pub formed_gives : (v : ℕ → PowerMap) (at : ℕ) (rows : List Step) (s t : TypeTree) → put v s ≡ t → Holds v rows → HasTypeAt v (formed at rows s) t
formed_gives v at rows s t e h = (e, formed-holds v at rows s h)

module _ (v : ℕ → PowerMap) (at : ℕ) where
  -- ---- shapes of parts
  bool_complete : (t : TypeTree) → put v t ≡ bool_type → Holds v (asks_bool at t)
  bool_complete bool_type e = tt
  bool_complete t e = absurd (cc e)

  pub item_complete : (t s : TypeTree) → put v t ≡ list_type s → (put v (item t) ≡ s) × Holds v (asks_list at t)
  item_complete (list_type t) s e = let same : put v t ≡ s = cc e in (same, tt)
  item_complete t s e = absurd (cc e)

  -- ---- numbers
  pub zero_complete : (c : Frac) → numerator c ≡ pos 0 → Holds v (asks_zero at c Hole)
  zero_complete c e = subst (λ b. Holds v (cond b [] (never at))) (sym (ap is_zero e)) tt

  pub local_complete : (k : ℕ) (vars : List TypeTree) (t : TypeTree) → slice_get (map (put v) vars) k ≡ Some t → HasTypeAt v (local_rule at (slice_get vars k)) t
  local_complete zero [] t e = absurd (cc e)
  local_complete (suc k) [] t e = absurd (cc e)
  local_complete zero (s ∷ vars) t e = let same : put v s ≡ t = cc e in (same, tt)
  local_complete (suc k) (s ∷ vars) t e = local_complete k vars t e

  pub negate_complete : (t : TypeTree) (u : PowerMap) → put v t ≡ num_type u → HasTypeAt v (negate_rule at t) (num_type u)
  negate_complete (num_type a) u e = (e, tt)
  negate_complete t u e = absurd (cc e)

  pub pown_complete : (i : ℤ) (t : TypeTree) (u : PowerMap) → put v t ≡ num_type u → HasTypeAt v (pown_rule at i t) (num_type (pow u i))
  pown_complete i (num_type a) u e = let same : replace v a ≡ u = cc e in (ap num_type (replace-pow v a i ∙ ap (λ x. pow x i) same), tt)
  pown_complete i t u e = absurd (cc e)

  units_complete : (op : Arith) (a b u w r : PowerMap) → replace v a ≡ u → replace v b ≡ w → ArithUnit op u w r → HasTypeAt v (units_rule at op a b) (num_type r)
  units_complete Add a b u w r e f h = (ap num_type (e ∙ sym h.1), (row-same v a b (e ∙ h.0 ∙ sym f), tt))
  units_complete Sub a b u w r e f h = (ap num_type (e ∙ sym h.1), (row-same v a b (e ∙ h.0 ∙ sym f), tt))
  units_complete Mul a b u w r e f h = (ap num_type (replace-mul v a b ∙ ap (λ x. mul x (replace v b)) e ∙ ap (mul u) f ∙ sym h), tt)
  units_complete Div a b u w r e f h =
      (ap num_type (replace-mul v a (inv b) ∙ ap (λ x. mul x (replace v (inv b))) e ∙ ap (mul u) (replace-inv v b ∙ ap inv f) ∙ sym h), tt)

  pub arith_complete : (op : Arith) (s t : TypeTree) (u w r : PowerMap) → put v s ≡ num_type u → put v t ≡ num_type w → ArithUnit op u w r → HasTypeAt v (arith_rule at op s t) (num_type r)
  arith_complete op (num_type a) (num_type b) u w r e f h =
      let first : replace v a ≡ u = cc e in
      let second : replace v b ≡ w = cc f in
      units_complete op a b u w r first second h
  arith_complete op s t u w r e f h = absurd (cc)

  pub compare_complete : (s t : TypeTree) (u : PowerMap) → put v s ≡ num_type u → put v t ≡ num_type u → HasTypeAt v (compare_rule at s t) bool_type
  compare_complete (num_type a) (num_type b) u e f =
      let first : replace v a ≡ u = cc e in
      let second : replace v b ≡ u = cc f in
      (refl, (row-same v a b (first ∙ sym second), tt))
  compare_complete s t u e f = absurd (cc)

  -- ---- truth values and arms
  pub not_complete : (t : TypeTree) → put v t ≡ bool_type → HasTypeAt v (not_rule at t) bool_type
  not_complete t e = formed_gives v at (asks_bool at t) bool_type bool_type refl (bool_complete t e)

  pub truths_complete : (s t : TypeTree) → put v s ≡ bool_type → put v t ≡ bool_type → HasTypeAt v (truths_rule at s t) bool_type
  truths_complete s t e f = formed_gives v at (asks_bool at s ++ asks_bool at t) bool_type bool_type refl (Holds-append v (asks_bool at s) (asks_bool at t) (bool_complete s e) (bool_complete t f))

  pub if_complete : (c s t type : TypeTree) → put v c ≡ bool_type → put v s ≡ type → put v t ≡ type → HasTypeAt v (if_rule at c s t) type
  if_complete c s t type e f g = formed_gives v at (asks_bool at c ++ against at s t) s type f (Holds-append v (asks_bool at c) (against at s t) (bool_complete c e) (rows-same v at s t (f ∙ sym g)))

  pub split_complete : (l s t type : TypeTree) → Holds v (asks_list at l) → put v s ≡ type → put v t ≡ type → HasTypeAt v (split_rule at l s t) type
  split_complete l s t type h f g = formed_gives v at (asks_list at l ++ against at s t) s type f (Holds-append v (asks_list at l) (against at s t) h (rows-same v at s t (f ∙ sym g)))

  -- ---- lists
  pub nil_complete : (t s : TypeTree) → put v t ≡ list_type s → HasTypeAt v (nil_rule at t) (list_type s)
  nil_complete t s e = formed_gives v at (asks_list at t) t (list_type s) e (item_complete t s e).1

  pub list_complete : (ts : List TypeTree) (s : TypeTree) (rest : List TypeTree) → map (put v) ts ≡ s ∷ rest → EachIs s rest → HasTypeAt v (list_rule at ts) (list_type s)
  list_complete [] s rest e h = absurd (cc e)
  list_complete (t ∷ ts) s rest e h =
      let first : s ≡ put v t = cc e in
      let others : rest ≡ map (put v) ts = cc e in
      let each = subst (λ r. EachIs (put v t) r) others (subst (λ k. EachIs k rest) first h) in
      formed_gives v at (against_each at t ts) (list_type t) (list_type s) (ap list_type (sym first)) (rows-each_same v at t ts each)

  pub cons_complete : (s t type : TypeTree) → put v s ≡ type → put v t ≡ list_type type → HasTypeAt v (cons_rule at s t) (list_type type)
  cons_complete s (list_type t) type e f =
      let same : put v t ≡ type = cc f in
      formed_gives v at (against at s t) (list_type t) (list_type type) f (rows-same v at s t (e ∙ sym same))
  cons_complete s t type e f = absurd (cc f)

  -- ---- records
  pub record_complete : (r : ℕ) (us ws : List PowerMap) (d : RecordTree) (o : Option RecordTree) (ts : List TypeTree) → o ≡ Some d → map (replace v) us ≡ ws → map (put v) ts ≡ map (put (unit_at ws)) (field_types d) →
      HasTypeAt v (record_rule at r us o ts) (record_type r ws)
  record_complete r us ws d o ts found units parts =
      let declared = map (put (unit_at us)) (field_types d) in
      let same = put-fields v us (field_types d) ∙ ap (λ z. map (put (unit_at z)) (field_types d)) units ∙ sym parts in
      subst (λ o. HasTypeAt v (record_rule at r us o ts) (record_type r ws)) (sym found)
      (formed_gives v at (types_against at declared ts) (record_type r us) (record_type r ws) (ap (record_type r) units) (rows-types_same v at declared ts same))

  declared_complete : (us ws : List PowerMap) (t : TypeTree) (b : Bool) (o : Option TypeTree) → map (replace v) us ≡ ws → b ≡ true → o ≡ Some t → HasTypeAt v (declared_rule at us b o) (put (unit_at ws) t)
  declared_complete us ws t b o units count stands =
      subst (λ b. HasTypeAt v (declared_rule at us b o) (put (unit_at ws) t)) (sym count)
      (subst (λ o. HasTypeAt v (declared_rule at us true o) (put (unit_at ws) t)) (sym stands) (formed_gives v at [] (put (unit_at us) t) _ (put-field v us t ∙ ap (λ z. put (unit_at z) t) units) tt))

  pub field_complete : (records : List RecordTree) (r k : ℕ) (s : TypeTree) (ws : List PowerMap) (d : RecordTree) (t : TypeTree) → IsRecordAt records r ws d → slice_get (field_types d) k ≡ Some t → put v s ≡ record_type r ws →
      HasTypeAt v (field_rule at r k (slice_get records r) s) (put (unit_at ws) t)
  field_complete records r k (record_type q us) ws d t is stands e =
      let same : q ≡ r = cc e in
      let units : map (replace v) us ≡ ws = cc e in
      let count : length us ≡ d.units = sym (length-map us (replace v)) ∙ ap length units ∙ is.units in
      subst (λ b. HasTypeAt v (found_rule at k us b (slice_get records r)) (put (unit_at ws) t)) (sym (eq-eqb q r same))
      (subst (λ o. HasTypeAt v (found_rule at k us true o) (put (unit_at ws) t)) (sym is.declared)
      (declared_complete us ws t (length us == d.units) (slice_get (field_types d) k) units (eq-eqb (length us) d.units count) stands))
  field_complete records r k s ws d t is stands e = absurd (cc e)
