-- The two types of an agreement, each from the other and the rows.
use Rattle.std.proofs.Common.{◌≡◌, ℕ, suc, Bool, true, false, cond, nat_eq, List, [], ◌∷◌, ◌++◌, length, refl, sym, ap, arith}
use Rattle.std.proofs.lemmas.Bool.{eqb-true}
use Rattle.std.proofs.lemmas.Int.{ints}
use Rattle.um_units.specs.PowerMap.{PowerMap, mul, inv}
use Rattle.um_units.specs.Terms.{indicator}
use Rattle.um_units.proofs.Equality.{same_unit}
use Rattle.um_units.proofs.Group.{weight-mul, weight-inv}
use Rattle.um_tree.specs.TypeTree.{TypeTree, bool_type, num_type, list_type, record_type}
use Rattle.um_equal_types.specs.Steps.{row_units}
use Rattle.um_equal_types.specs.Against.{never, units_against, against}
use Rattle.um_rows.specs.RightShapes.{HaveRightShapes}
use Rattle.um_agree.specs.declared.agreement.By.TheVariants.{Times, Over}
use Rattle.um_agree.specs.Made.{units_in, units_by, type_by}

-- ---- one unit
first_back : (u v : PowerMap) → mul v (mul u (inv v)) ≡ u
first_back u v =
    same_unit _ _ (λ x. omega (arith, ints, weight-mul (indicator x) v (mul u (inv v)), weight-mul (indicator x) u (inv v), weight-inv (indicator x) v))

second_back : (u v : PowerMap) → mul u (inv (mul u (inv v))) ≡ v
second_back u v =
    same_unit _ _ (λ x. omega (
      arith,
      ints,
      weight-mul (indicator x) u (inv (mul u (inv v))),
      weight-inv (indicator x) (mul u (inv v)),
      weight-mul (indicator x) u (inv v),
      weight-inv (indicator x) v,
    ))

-- ---- units and types: the rows of the two, with others behind
module _ (at : ℕ) (more : List PowerMap) where
  units_first : (us vs : List PowerMap) → HaveRightShapes (units_against at us vs) → units_by Times vs (row_units (units_against at us vs) ++ more) ≡ us
  units_first [] [] h = refl
  units_first (u ∷ us) (v ∷ vs) h = λ i. first_back u v i ∷ units_first us vs h i
  units_first [] (v ∷ vs) h = absurd h
  units_first (u ∷ us) [] h = absurd h

  units_second : (us vs : List PowerMap) → HaveRightShapes (units_against at us vs) → units_by Over us (row_units (units_against at us vs) ++ more) ≡ vs
  units_second [] [] h = refl
  units_second (u ∷ us) (v ∷ vs) h = λ i. second_back u v i ∷ units_second us vs h i
  units_second [] (v ∷ vs) h = absurd h
  units_second (u ∷ us) [] h = absurd h

  pub first_made : (s t : TypeTree) → HaveRightShapes (against at s t) → type_by Times t (row_units (against at s t) ++ more) ≡ s
  first_made bool_type bool_type h = refl
  first_made (num_type u) (num_type v) h = ap num_type (first_back u v)
  first_made (list_type s) (list_type t) h = ap list_type (first_made s t h)
  first_made (record_type r us) (record_type q vs) h = by (nat_eq r q) refl h where
    by : (b : Bool) → nat_eq r q ≡ b → HaveRightShapes (cond b (units_against at us vs) (never at)) → record_type q (units_by Times vs (row_units (cond b (units_against at us vs) (never at)) ++ more)) ≡ record_type r us
    by true e k = let same = eqb-true r q e in λ i. record_type (sym same i) (units_first us vs k i)
    by false e k = absurd k
  first_made s t h = absurd h

  pub second_made : (s t : TypeTree) → HaveRightShapes (against at s t) → type_by Over s (row_units (against at s t) ++ more) ≡ t
  second_made bool_type bool_type h = refl
  second_made (num_type u) (num_type v) h = ap num_type (second_back u v)
  second_made (list_type s) (list_type t) h = ap list_type (second_made s t h)
  second_made (record_type r us) (record_type q vs) h = by (nat_eq r q) refl h where
    by : (b : Bool) → nat_eq r q ≡ b → HaveRightShapes (cond b (units_against at us vs) (never at)) → record_type r (units_by Over us (row_units (cond b (units_against at us vs) (never at)) ++ more)) ≡ record_type q vs
    by true e k = let same = eqb-true r q e in λ i. record_type (same i) (units_second us vs k i)
    by false e k = absurd k
  second_made s t h = absurd h

-- ---- how many rows
module _ (at : ℕ) where
  count_units : (us vs : List PowerMap) → HaveRightShapes (units_against at us vs) → (length (row_units (units_against at us vs)) ≡ length us) × (length (row_units (units_against at us vs)) ≡ length vs)
  count_units [] [] h = (refl, refl)
  count_units (u ∷ us) (v ∷ vs) h = let rest = count_units us vs h in (ap suc rest.0, ap suc rest.1)
  count_units [] (v ∷ vs) h = absurd h
  count_units (u ∷ us) [] h = absurd h

  pub count_rows : (s t : TypeTree) → HaveRightShapes (against at s t) → (length (row_units (against at s t)) ≡ units_in s) × (length (row_units (against at s t)) ≡ units_in t)
  count_rows bool_type bool_type h = (refl, refl)
  count_rows (num_type u) (num_type v) h = (refl, refl)
  count_rows (list_type s) (list_type t) h = count_rows s t h
  count_rows (record_type r us) (record_type q vs) h = by (nat_eq r q) h where
    by : (b : Bool) → HaveRightShapes (cond b (units_against at us vs) (never at)) → (length (row_units (cond b (units_against at us vs) (never at))) ≡ length us) × (length (row_units (cond b (units_against at us vs) (never at))) ≡ length vs)
    by true k = count_units us vs k
    by false k = absurd k
  count_rows s t h = absurd h
