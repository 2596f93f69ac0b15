-- Units that make a node's rows 1 give its types the rule that the typing asks for.
use Rattle.std.proofs.Common.{◌≡◌, ℕ, ℤ, zero, suc, Bool, true, cond, List, [], ◌∷◌, ◌++◌, map, length, pos, Option, Some, None, slice_get, refl, sym, ap, ◌∙◌, subst}
use Rattle.std.specs.Prelude.{◌==◌}
use Rattle.std.proofs.lemmas.Bool.{eqb-true}
use Rattle.std.proofs.lemmas.List.{length-map}
use Rattle.um_frac.specs.declared.number.Frac.{Frac}
use Rattle.um_frac.specs.Fraction.{numerator}
use Rattle.um_units.specs.Terms.{is_zero}
use Rattle.um_units.specs.PowerMap.{PowerMap, mul, pow, inv, replace}
use Rattle.um_units.proofs.Weights.{zero_is}
use Rattle.um_units.proofs.Replacement.{replace-mul, replace-pow, replace-inv}
use Rattle.um_tree.specs.declared.note.UnitNote.TheVariants.{Hole}
use Rattle.um_tree.specs.declared.expression.Arith.{Arith}
use Rattle.um_tree.specs.declared.expression.Arith.TheVariants.{Add, Sub, Mul, Div}
use Rattle.um_tree.specs.TypeTree.{TypeTree, bool_type, num_type, list_type, record_type}
use Rattle.um_tree.specs.ProgramTree.{RecordTree}
use Rattle.um_tree.specs.Typing.{put, unit_at, ArithUnit, EachIs, field_types, IsRecordAt}
use Rattle.um_elim.proofs.Cases.{on_test}
use Rattle.um_equal_types.specs.Against.{never, against, types_against, against_each}
use Rattle.um_rows.specs.Rules.{asks_bool, asks_list, item, asks_zero, number_rule, local_rule, negate_rule, not_rule, pown_rule, truths_rule, units_rule, arith_rule, compare_rule, if_rule, split_rule, nil_rule, list_rule, cons_rule, record_rule, declared_rule, found_rule, field_rule}
use Rattle.um_equal_types.proofs.HeldSteps.{Holds, Holds-front, Holds-back, never_solved, same_from_row}
use Rattle.um_rows.proofs.HeldNodes.{Holds-formed, mismatch_fails}
use Rattle.um_equal_types.proofs.TypesAgainst.{same_from_rows, types_same_from_rows, each_same_from_rows}
use Rattle.um_rows.proofs.PutTypes.{put-field, put-fields}

module _ (v : ℕ → PowerMap) (at : ℕ) where
  -- ---- shapes of parts
  pub bool_sound : (t : TypeTree) → Holds v (asks_bool at t) → put v t ≡ bool_type
  bool_sound bool_type h = refl
  bool_sound t h = never_solved v h.0

  pub item_sound : (t : TypeTree) → Holds v (asks_list at t) → put v t ≡ list_type (put v (item t))
  item_sound (list_type t) h = refl
  item_sound t h = never_solved v h.0

  -- ---- numbers
  pub zero_sound : (c : Frac) (u : PowerMap) → Holds v (number_rule at c Hole u).steps → numerator c ≡ pos 0
  zero_sound c u h =
      on_test (is_zero (numerator c))
      (λ e. zero_is (numerator c) e)
      (λ e. let rows = Holds-formed v at (asks_zero at c Hole) (num_type u) h in let none : Holds v (never at) = subst (λ b. Holds v (cond b [] (never at))) e rows in never_solved v none.0)

  pub local_sound : (k : ℕ) (vars : List TypeTree) → Holds v (local_rule at (slice_get vars k)).steps → slice_get (map (put v) vars) k ≡ Some (put v (local_rule at (slice_get vars k)).type)
  local_sound zero [] h = mismatch_fails v at h
  local_sound (suc k) [] h = mismatch_fails v at h
  local_sound zero (t ∷ vars) h = refl
  local_sound (suc k) (t ∷ vars) h = local_sound k vars h

  pub negate_sound : (t : TypeTree) → Holds v (negate_rule at t).steps → (u : PowerMap) × (put v t ≡ num_type u) × (put v (negate_rule at t).type ≡ num_type u)
  negate_sound (num_type u) h = (replace v u, refl, refl)
  negate_sound t h = mismatch_fails v at h

  pub pown_sound : (i : ℤ) (t : TypeTree) → Holds v (pown_rule at i t).steps → (u : PowerMap) × (put v t ≡ num_type u) × (put v (pown_rule at i t).type ≡ num_type (pow u i))
  pown_sound i (num_type u) h = (replace v u, refl, ap num_type (replace-pow v u i))
  pown_sound i t h = mismatch_fails v at h

  units_sound : (op : Arith) (u w : PowerMap) → Holds v (units_rule at op u w).steps → (r : PowerMap) × ArithUnit op (replace v u) (replace v w) r × (put v (units_rule at op u w).type ≡ num_type r)
  units_sound Add u w h = (replace v u, (same_from_row v u w h.0, refl), refl)
  units_sound Sub u w h = (replace v u, (same_from_row v u w h.0, refl), refl)
  units_sound Mul u w h = (replace v (mul u w), replace-mul v u w, refl)
  units_sound Div u w h = (replace v (mul u (inv w)), replace-mul v u (inv w) ∙ ap (mul (replace v u)) (replace-inv v w), refl)

  pub arith_sound : (op : Arith) (s t : TypeTree) → Holds v (arith_rule at op s t).steps →
      (u w r : PowerMap) × (put v s ≡ num_type u) × (put v t ≡ num_type w) × ArithUnit op u w r × (put v (arith_rule at op s t).type ≡ num_type r)
  arith_sound op (num_type u) (num_type w) h = let x = units_sound op u w h in (replace v u, replace v w, x.0, refl, refl, x.1, x.2)
  arith_sound op s t h = mismatch_fails v at h

  pub compare_sound : (s t : TypeTree) → Holds v (compare_rule at s t).steps → (u : PowerMap) × (put v s ≡ num_type u) × (put v t ≡ num_type u) × (put v (compare_rule at s t).type ≡ bool_type)
  compare_sound (num_type u) (num_type w) h = (replace v u, refl, ap num_type (sym (same_from_row v u w h.0)), refl)
  compare_sound s t h = mismatch_fails v at h

  -- ---- truth values and arms
  pub not_sound : (t : TypeTree) → Holds v (not_rule at t).steps → put v t ≡ bool_type
  not_sound t h = bool_sound t (Holds-formed v at (asks_bool at t) bool_type h)

  pub truths_sound : (s t : TypeTree) → Holds v (truths_rule at s t).steps → (put v s ≡ bool_type) × (put v t ≡ bool_type)
  truths_sound s t h =
      let rows = Holds-formed v at (asks_bool at s ++ asks_bool at t) bool_type h in
      (bool_sound s (Holds-front v (asks_bool at s) (asks_bool at t) rows), bool_sound t (Holds-back v (asks_bool at s) (asks_bool at t) rows))

  pub if_sound : (c s t : TypeTree) → Holds v (if_rule at c s t).steps → (put v c ≡ bool_type) × (put v s ≡ put v t)
  if_sound c s t h =
      let rows = Holds-formed v at (asks_bool at c ++ against at s t) s h in
      (bool_sound c (Holds-front v (asks_bool at c) (against at s t) rows), same_from_rows v at s t (Holds-back v (asks_bool at c) (against at s t) rows))

  pub split_sound : (l s t : TypeTree) → Holds v (split_rule at l s t).steps → (put v l ≡ list_type (put v (item l))) × (put v s ≡ put v t)
  split_sound l s t h =
      let rows = Holds-formed v at (asks_list at l ++ against at s t) s h in
      (item_sound l (Holds-front v (asks_list at l) (against at s t) rows), same_from_rows v at s t (Holds-back v (asks_list at l) (against at s t) rows))

  -- ---- lists
  pub nil_sound : (t : TypeTree) → Holds v (nil_rule at t).steps → put v t ≡ list_type (put v (item t))
  nil_sound t h = item_sound t (Holds-formed v at (asks_list at t) t h)

  pub list_sound : (ts : List TypeTree) → Holds v (list_rule at ts).steps →
      (s : TypeTree) × (rest : List TypeTree) × (map (put v) ts ≡ s ∷ rest) × EachIs s rest × (put v (list_rule at ts).type ≡ list_type s)
  list_sound [] h = mismatch_fails v at h
  list_sound (t ∷ ts) h = (put v t, map (put v) ts, refl, each_same_from_rows v at t ts (Holds-formed v at (against_each at t ts) (list_type t) h), refl)

  pub cons_sound : (s t : TypeTree) → Holds v (cons_rule at s t).steps → (put v t ≡ list_type (put v s)) × (put v (cons_rule at s t).type ≡ list_type (put v s))
  cons_sound s (list_type t) h =
      let same = ap list_type (sym (same_from_rows v at s t (Holds-formed v at (against at s t) (list_type t) h))) in
      (same, same)
  cons_sound s t h = mismatch_fails v at h

  -- ---- records
  module _ (records : List RecordTree) (r : ℕ) where
    -- the declaration is there, and the parts have its fields' types
    pub record_sound : (us : List PowerMap) (o : Option RecordTree) (ts : List TypeTree) → slice_get records r ≡ o → Holds v (record_rule at r us o ts).steps →
        (d : RecordTree) × (o ≡ Some d) × (map (put v) ts ≡ map (put (unit_at (map (replace v) us))) (field_types d)) × (put v (record_rule at r us o ts).type ≡ record_type r (map (replace v) us))
    record_sound us (Some d) ts e h =
        let declared = map (put (unit_at us)) (field_types d) in
        (d, refl, sym (types_same_from_rows v at declared ts (Holds-formed v at (types_against at declared ts) (record_type r us) h)) ∙ put-fields v us (field_types d), refl)
    record_sound us None ts e h = mismatch_fails v at h

    -- the value is of the record, at units of which it has as many as declared, and the field is declared
    abbrev pub FieldGives : ℕ → TypeTree → TypeTree → Type 0
    FieldGives k s t =
        (us : List PowerMap) × (d : RecordTree) × (declared : TypeTree) × IsRecordAt records r us d × (slice_get (field_types d) k ≡ Some declared)
        × (put v s ≡ record_type r us)
        × (put v t ≡ put (unit_at us) declared)

    declared_sound : (k q : ℕ) (us : List PowerMap) (d : RecordTree) (b : Bool) (o : Option TypeTree) → slice_get records r ≡ Some d → q ≡ r → (length us == d.units) ≡ b → slice_get (field_types d) k ≡ o →
        Holds v (declared_rule at us b o).steps → FieldGives k (record_type q us) (declared_rule at us b o).type
    declared_sound k q us d true (Some t) found same count stands h =
        (map (replace v) us, d, t, record { declared = found; units = length-map us (replace v) ∙ eqb-true (length us) d.units count }, stands, ap (λ n. record_type n (map (replace v) us)) same, put-field v us t)
    declared_sound k q us d b o found same count stands h = mismatch_fails v at h

    found_sound : (k q : ℕ) (us : List PowerMap) (b : Bool) (o : Option RecordTree) → slice_get records r ≡ o → (q == r) ≡ b →
        Holds v (found_rule at k us b o).steps → FieldGives k (record_type q us) (found_rule at k us b o).type
    found_sound k q us true (Some d) found same h = declared_sound k q us d (length us == d.units) (slice_get (field_types d) k) found (eqb-true q r same) refl refl h
    found_sound k q us b o found same h = mismatch_fails v at h

    pub field_sound : (k : ℕ) (t : TypeTree) → Holds v (field_rule at r k (slice_get records r) t).steps → FieldGives k t (field_rule at r k (slice_get records r) t).type
    field_sound k (record_type q us) h = found_sound k q us (q == r) (slice_get records r) refl refl h
    field_sound k t h = mismatch_fails v at h
