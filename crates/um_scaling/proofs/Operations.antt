-- What each operation gives at values that are scaled.
use Rattle.std.proofs.Common.{◌≡◌, refl, sym, ap, subst, ◌∙◌, ℕ, zero, suc, true, false, not, cond, nat_eq, List, [], ◌∷◌, ◌++◌, length, map, Some, Result, Ok, Err, slice_get, ℤ, arith}
use Rattle.std.proofs.lemmas.Bool.Decides.{nat_tests}
use Rattle.um_frac.specs.declared.number.Frac.{Frac}
use Rattle.um_frac.specs.declared.number.Trap.{Trap}
use Rattle.um_frac.specs.declared.number.Trap.TheVariants.{Overflow, DivZero}
use Rattle.um_frac.specs.Arithmetic.{sum_of, difference_of, product_of, quotient_of, whole_power_of, negation_of}
use Rattle.um_frac.proofs.FractionLaws.{sum_is_exact, sum_never_div_zero, difference_is_exact, difference_never_div_zero, product_is_exact, product_never_div_zero, quotient_is_exact, quotient_by_zero, whole_power_is_exact, whole_power_of_zero, negation_is_exact}
use Rattle.um_units.specs.PowerMap.{PowerMap, mul, pow, inv}
use Rattle.um_tree.specs.declared.expression.Arith.{Arith}
use Rattle.um_tree.specs.declared.expression.Arith.TheVariants.{Add, Sub, Mul, Div}
use Rattle.um_tree.specs.declared.expression.Sign.{Sign}
use Rattle.um_tree.specs.declared.expression.Sign.TheVariants.{Lt, Le, Eq, Gt, Ge, Ne}
use Rattle.um_tree.specs.TypeTree.{TypeTree, bool_type, num_type, list_type, record_type}
use Rattle.um_tree.specs.ValueTree.{ValueTree, ValueTrees, truth_value, number_value, list_value, record_value, no_values, more_values, values_in_order}
use Rattle.um_tree.specs.ProgramTree.{RecordTree}
use Rattle.um_tree.specs.Typing.{put, unit_at, ArithUnit, EachIs, field_types, IsRecordAt}
use Rattle.um_tree.specs.Meaning.{wrong, Out, found, with_budget, number_result, calculated, compared, comparison, negated, raised, not_of, longer, value_at, field_of, choose, on_list}
use Rattle.um_tree.proofs.Moved.{slice_get_moved}
use Rattle.um_scaling.specs.Rescaling.{Factor, IsPositive, SameFactor, times, to_power, Rescaling, ArePositive, factor, IsScaled}
use Rattle.um_scaling.specs.ScaledValues.{Scaled, EachScaled, FieldsScaled, AllScaled}
use Rattle.um_scaling.proofs.Factors.{same_factor_trans, times_same, times_positive, to_power_positive, swapped, factor_positive, factor-mul, factor-inv, factor-pow}
use Rattle.um_scaling.proofs.Numbers.{by_same_factor, negation_scaled, sums_scaled, differences_scaled, products_scaled, quotients_scaled, powers_scaled, zero_after, zero_before, less_alike, same_alike}
use Rattle.um_scaling.proofs.Alike.{Alike}

module _ (records : List RecordTree) (r : Rescaling) (positive : ArePositive r) where
  abbrev pub Related : TypeTree → ValueTree → ValueTree → Type 0
  Related t v w = Scaled records r v t w

  abbrev pub AllRelated : List TypeTree → List ValueTree → List ValueTree → Type 0
  AllRelated ts vs ws = AllScaled records r vs ts ws

  -- ---- numbers
  -- the two answers are alike where two results are scaled, and no result stands beside a division by 0
  result_alike :
      (u : PowerMap) (x y : Result Frac Trap) (b : ℕ) →
      ((c d : Frac) → x ≡ Ok c → y ≡ Ok d → IsScaled (factor r u) c d) →
      ((d : Frac) → x ≡ Err DivZero → y ≡ Ok d → ⊥) →
      ((c : Frac) → x ≡ Ok c → y ≡ Err DivZero → ⊥) →
      Alike (Related (num_type u)) (with_budget (number_result x) b) (with_budget (number_result y) b)
  result_alike u (Ok c) (Ok d) b scaled first second = (scaled c d refl refl, refl)
  result_alike u (Ok c) (Err Overflow) b scaled first second = tt
  result_alike u (Ok c) (Err DivZero) b scaled first second = absurd (second c refl refl)
  result_alike u (Err Overflow) y b scaled first second = tt
  result_alike u (Err DivZero) (Ok d) b scaled first second = absurd (first d refl refl)
  result_alike u (Err DivZero) (Err Overflow) b scaled first second = tt
  result_alike u (Err DivZero) (Err DivZero) b scaled first second = refl

  -- the answers of one operation on scaled numbers are not one number and one division by 0
  apart : (x : Result Frac Trap) (c : Frac) → x ≡ Ok c → x ≡ Err DivZero → ⊥
  apart x c e f = let g : Ok c ≡ Err DivZero = sym e ∙ f in absurd cc

  module _ (a b a' b' : Frac) (n : ℕ) where
    adds_alike : (u : PowerMap) → IsScaled (factor r u) a a' → IsScaled (factor r u) b b' → Alike (Related (num_type u)) (with_budget (number_result (sum_of a b)) n) (with_budget (number_result (sum_of a' b')) n)
    adds_alike u h k =
        result_alike u (sum_of a b) (sum_of a' b') n
        (λ c d e e'. sums_scaled a b c a' b' d (factor r u) (factor_positive r positive u) h k ((sum_is_exact a b c).0 e) ((sum_is_exact a' b' d).0 e'))
        (λ d e e'. sum_never_div_zero a b e)
        (λ c e e'. sum_never_div_zero a' b' e')

    subs_alike : (u : PowerMap) → IsScaled (factor r u) a a' → IsScaled (factor r u) b b' → Alike (Related (num_type u)) (with_budget (number_result (difference_of a b)) n) (with_budget (number_result (difference_of a' b')) n)
    subs_alike u h k =
        result_alike u (difference_of a b) (difference_of a' b') n
        (λ c d e e'. differences_scaled a b c a' b' d (factor r u) (factor_positive r positive u) h k ((difference_is_exact a b c).0 e) ((difference_is_exact a' b' d).0 e'))
        (λ d e e'. difference_never_div_zero a b e)
        (λ c e e'. difference_never_div_zero a' b' e')

    module _ (u v : PowerMap) (h : IsScaled (factor r u) a a') (k : IsScaled (factor r v) b b') where
      both_positive : (f : Factor) → IsPositive f → IsPositive (times (factor r u) f)
      both_positive f above = times_positive (factor r u) f (factor_positive r positive u) above

      muls_alike : Alike (Related (num_type (mul u v))) (with_budget (number_result (product_of a b)) n) (with_budget (number_result (product_of a' b')) n)
      muls_alike =
          result_alike (mul u v) (product_of a b) (product_of a' b') n
          (λ c d e e'. by_same_factor (times (factor r u) (factor r v)) (factor r (mul u v)) (both_positive (factor r v) (factor_positive r positive v)) (sym (factor-mul r positive u v)) c d
          (products_scaled a b c a' b' d (factor r u) (factor r v) (factor_positive r positive u) (factor_positive r positive v) h k ((product_is_exact a b c).0 e) ((product_is_exact a' b' d).0 e')))
          (λ d e e'. product_never_div_zero a b e)
          (λ c e e'. product_never_div_zero a' b' e')

      quotient_factor : SameFactor (factor r (mul u (inv v))) (times (factor r u) (swapped (factor r v)))
      quotient_factor =
          same_factor_trans (factor r (mul u (inv v))) (times (factor r u) (factor r (inv v))) (times (factor r u) (swapped (factor r v)))
          (both_positive (factor r (inv v)) (factor_positive r positive (inv v))).1
          (factor-mul r positive u (inv v))
          (times_same (factor r u) (factor r u) (factor r (inv v)) (swapped (factor r v)) refl (factor-inv r positive v))

      divs_alike : Alike (Related (num_type (mul u (inv v)))) (with_budget (number_result (quotient_of a b)) n) (with_budget (number_result (quotient_of a' b')) n)
      divs_alike =
          result_alike (mul u (inv v)) (quotient_of a b) (quotient_of a' b') n
          (λ c d e e'. by_same_factor (times (factor r u) (swapped (factor r v))) (factor r (mul u (inv v))) (both_positive (swapped (factor r v)) ((factor_positive r positive v).1, (factor_positive r positive v).0)) (sym quotient_factor) c d
          (quotients_scaled a b c a' b' d (factor r u) (factor r v) (factor_positive r positive u) (factor_positive r positive v) h k ((quotient_is_exact a b c).0 e) ((quotient_is_exact a' b' d).0 e')))
          (λ d e e'. apart (quotient_of a' b') d e' ((quotient_by_zero a' b').1 (zero_after (factor r v) (factor_positive r positive v) b b' k ((quotient_by_zero a b).0 e))))
          (λ c e e'. apart (quotient_of a b) c e ((quotient_by_zero a b).1 (zero_before (factor r v) (factor_positive r positive v) b b' k ((quotient_by_zero a' b').0 e'))))

  powers_alike : (u : PowerMap) (i : ℤ) (a a' : Frac) (n : ℕ) → IsScaled (factor r u) a a' → Alike (Related (num_type (pow u i))) (with_budget (number_result (whole_power_of a i)) n) (with_budget (number_result (whole_power_of a' i)) n)
  powers_alike u i a a' n h =
      let above = factor_positive r positive u in
      result_alike (pow u i) (whole_power_of a i) (whole_power_of a' i) n
      (λ c d e e'. by_same_factor (to_power (factor r u) i) (factor r (pow u i)) (to_power_positive (factor r u) i above) (sym (factor-pow r positive u i)) c d
      (powers_scaled (factor r u) a c a' d i above h ((whole_power_is_exact a c i).0 e) ((whole_power_is_exact a' d i).0 e')))
      (λ d e e'. let w = (whole_power_of_zero a i).0 e in apart (whole_power_of a' i) d e' ((whole_power_of_zero a' i).1 (zero_after (factor r u) above a a' h w.0, w.1)))
      (λ c e e'. let w = (whole_power_of_zero a' i).0 e' in apart (whole_power_of a i) c e ((whole_power_of_zero a i).1 (zero_before (factor r u) above a a' h w.0, w.1)))

  numbers_alike : (op : Arith) (u v w : PowerMap) (a b a' b' : Frac) (n : ℕ) → IsScaled (factor r u) a a' → IsScaled (factor r v) b b' → ArithUnit op u v w → Alike (Related (num_type w)) (with_budget (calculated op (number_value a) (number_value b)) n) (with_budget (calculated op (number_value a') (number_value b')) n)
  numbers_alike Add u v w a b a' b' n h k t =
      subst (λ (s : PowerMap). Alike (Related (num_type s)) (with_budget (number_result (sum_of a b)) n) (with_budget (number_result (sum_of a' b')) n)) (sym t.1)
      (adds_alike a b a' b' n u h (subst (λ (s : PowerMap). IsScaled (factor r s) b b') (sym t.0) k))
  numbers_alike Sub u v w a b a' b' n h k t =
      subst (λ (s : PowerMap). Alike (Related (num_type s)) (with_budget (number_result (difference_of a b)) n) (with_budget (number_result (difference_of a' b')) n)) (sym t.1)
      (subs_alike a b a' b' n u h (subst (λ (s : PowerMap). IsScaled (factor r s) b b') (sym t.0) k))
  numbers_alike Mul u v w a b a' b' n h k t =
      subst (λ (s : PowerMap). Alike (Related (num_type s)) (with_budget (number_result (product_of a b)) n) (with_budget (number_result (product_of a' b')) n)) (sym t) (muls_alike a b a' b' n u v h k)
  numbers_alike Div u v w a b a' b' n h k t =
      subst (λ (s : PowerMap). Alike (Related (num_type s)) (with_budget (number_result (quotient_of a b)) n) (with_budget (number_result (quotient_of a' b')) n)) (sym t) (divs_alike a b a' b' n u v h k)

  second_calculated : (op : Arith) (u v w : PowerMap) (a a' : Frac) (y y' : ValueTree) (n : ℕ) → IsScaled (factor r u) a a' → Related (num_type v) y y' → ArithUnit op u v w → Alike (Related (num_type w)) (with_budget (calculated op (number_value a) y) n) (with_budget (calculated op (number_value a') y') n)
  second_calculated op u v w a a' (number_value b) (number_value b') n h k t = numbers_alike op u v w a b a' b' n h k t
  second_calculated op u v w a a' y y' n h k t = absurd k

  pub calculated_alike : (op : Arith) (u v w : PowerMap) (x y x' y' : ValueTree) (n : ℕ) → Related (num_type u) x x' → Related (num_type v) y y' → ArithUnit op u v w → Alike (Related (num_type w)) (with_budget (calculated op x y) n) (with_budget (calculated op x' y') n)
  calculated_alike op u v w (number_value a) y (number_value a') y' n h k t = second_calculated op u v w a a' y y' n h k t
  calculated_alike op u v w x y x' y' n h k t = absurd h

  comparison_alike : (sign : Sign) (u : PowerMap) (a b a' b' : Frac) → IsScaled (factor r u) a a' → IsScaled (factor r u) b b' → comparison sign a' b' ≡ comparison sign a b
  comparison_alike Lt u a b a' b' h k = less_alike (factor r u) (factor_positive r positive u) a b a' b' h k
  comparison_alike Le u a b a' b' h k = ap not (less_alike (factor r u) (factor_positive r positive u) b a b' a' k h)
  comparison_alike Eq u a b a' b' h k = same_alike (factor r u) (factor_positive r positive u) a b a' b' h k
  comparison_alike Gt u a b a' b' h k = less_alike (factor r u) (factor_positive r positive u) b a b' a' k h
  comparison_alike Ge u a b a' b' h k = ap not (less_alike (factor r u) (factor_positive r positive u) a b a' b' h k)
  comparison_alike Ne u a b a' b' h k = ap not (same_alike (factor r u) (factor_positive r positive u) a b a' b' h k)

  second_compared : (sign : Sign) (u : PowerMap) (a a' : Frac) (y y' : ValueTree) (n : ℕ) → IsScaled (factor r u) a a' → Related (num_type u) y y' → Alike (Related bool_type) (with_budget (compared sign (number_value a) y) n) (with_budget (compared sign (number_value a') y') n)
  second_compared sign u a a' (number_value b) (number_value b') n h k = (comparison_alike sign u a b a' b' h k, refl)
  second_compared sign u a a' y y' n h k = absurd k

  pub compared_alike : (sign : Sign) (u : PowerMap) (x y x' y' : ValueTree) (n : ℕ) → Related (num_type u) x x' → Related (num_type u) y y' → Alike (Related bool_type) (with_budget (compared sign x y) n) (with_budget (compared sign x' y') n)
  compared_alike sign u (number_value a) y (number_value a') y' n h k = second_compared sign u a a' y y' n h k
  compared_alike sign u x y x' y' n h k = absurd h

  pub negated_alike : (u : PowerMap) (x x' : ValueTree) (n : ℕ) → Related (num_type u) x x' → Alike (Related (num_type u)) (with_budget (negated x) n) (with_budget (negated x') n)
  negated_alike u (number_value c) (number_value d) n h =
      (negation_scaled (factor r u) c d (negation_of c) (negation_of d) ((negation_is_exact c (negation_of c)).0 refl) ((negation_is_exact d (negation_of d)).0 refl) h, refl)
  negated_alike u x x' n h = absurd h

  pub raised_alike : (u : PowerMap) (i : ℤ) (x x' : ValueTree) (n : ℕ) → Related (num_type u) x x' → Alike (Related (num_type (pow u i))) (with_budget (raised i x) n) (with_budget (raised i x') n)
  raised_alike u i (number_value c) (number_value d) n h = powers_alike u i c d n h
  raised_alike u i x x' n h = absurd h

  -- ---- truth values
  pub not_alike : (x x' : ValueTree) (n : ℕ) → Related bool_type x x' → Alike (Related bool_type) (with_budget (not_of x) n) (with_budget (not_of x') n)
  not_alike (truth_value b) (truth_value c) n h = (ap not h, refl)
  not_alike x x' n h = absurd h

  pub choose_alike : (t : TypeTree) (v w : ValueTree) (x y x' y' : ℕ → Out ValueTree) (n : ℕ) → Related bool_type v w → Alike (Related t) (x n) (x' n) → Alike (Related t) (y n) (y' n) → Alike (Related t) (choose v x y n) (choose w x' y' n)
  choose_alike t (truth_value true) (truth_value true) x y x' y' n h p q = p
  choose_alike t (truth_value false) (truth_value false) x y x' y' n h p q = q
  choose_alike t (truth_value true) (truth_value false) x y x' y' n h p q = absurd cc
  choose_alike t (truth_value false) (truth_value true) x y x' y' n h p q = absurd cc
  choose_alike t v w x y x' y' n h p q = absurd h

  -- ---- lists
  pub list_alike : (s t : TypeTree) (v w : ValueTree) (x x' : ℕ → Out ValueTree) (y y' : ValueTree → ValueTree → ℕ → Out ValueTree) (n : ℕ) → Related (list_type s) v w → Alike (Related t) (x n) (x' n) → ((h k h' k' : ValueTree) → Related s h h' → Related (list_type s) k k' → Alike (Related t) (y h k n) (y' h' k' n)) → Alike (Related t) (on_list v x y n) (on_list w x' y' n)
  list_alike s t (list_value no_values) (list_value no_values) x x' y y' n h p q = p
  list_alike s t (list_value (more_values v vs)) (list_value (more_values w ws)) x x' y y' n h p q = q v (list_value vs) w (list_value ws) h.0 h.1
  list_alike s t v w x x' y y' n h p q = absurd h

  pub longer_alike : (s : TypeTree) (v v' w w' : ValueTree) (n : ℕ) → Related s v v' → Related (list_type s) w w' → Alike (Related (list_type s)) (with_budget (longer v w) n) (with_budget (longer v' w') n)
  longer_alike s v v' (list_value ws) (list_value ws') n h k = ((h, k), refl)
  longer_alike s v v' w w' n h k = absurd k

  -- items whose types are all one
  items_of : (s : TypeTree) (ts : List TypeTree) (vs ws : List ValueTree) → EachIs s ts → AllRelated ts vs ws → EachScaled records r (values_in_order vs) s (values_in_order ws)
  items_of s [] [] [] e h = tt
  items_of s (t ∷ ts) (v ∷ vs) (w ∷ ws) e h = (subst (λ (x : TypeTree). Related x v w) e.0 h.0, items_of s ts vs ws e.1 h.1)
  items_of s ts vs ws e h = absurd h

  pub items_alike : (s : TypeTree) (ts : List TypeTree) (vs ws : List ValueTree) → EachIs s ts → AllRelated (s ∷ ts) vs ws → EachScaled records r (values_in_order vs) s (values_in_order ws)
  items_alike s ts (v ∷ vs) (w ∷ ws) e h = (h.0, items_of s ts vs ws e h.1)
  items_alike s ts vs ws e h = absurd h

  -- ---- records
  pub fields_alike : (ts : List TypeTree) (vs ws : List ValueTree) → AllRelated ts vs ws → FieldsScaled records r (values_in_order vs) ts (values_in_order ws)
  fields_alike [] [] [] h = tt
  fields_alike (t ∷ ts) (v ∷ vs) (w ∷ ws) h = (h.0, fields_alike ts vs ws h.1)
  fields_alike ts vs ws h = absurd h

  value_at_alike : (vs : ValueTrees) (ts : List TypeTree) (ws : ValueTrees) (k : ℕ) (t : TypeTree) (n : ℕ) → FieldsScaled records r vs ts ws → slice_get ts k ≡ Some t → Alike (Related t) (with_budget (value_at vs k) n) (with_budget (value_at ws k) n)
  value_at_alike no_values [] no_values zero t n h e = absurd cc
  value_at_alike no_values [] no_values (suc k) t n h e = absurd cc
  value_at_alike (more_values v vs) (s ∷ ts) (more_values w ws) zero t n h e = let same : s ≡ t = cc in (subst (λ (x : TypeTree). Related x v w) same h.0, refl)
  value_at_alike (more_values v vs) (s ∷ ts) (more_values w ws) (suc k) t n h e = value_at_alike vs ts ws k t n h.1 e
  value_at_alike vs ts ws k t n h e = absurd h

  pub field_alike : (m k : ℕ) (us : List PowerMap) (d : RecordTree) (t : TypeTree) (v w : ValueTree) (n : ℕ) → IsRecordAt records m us d → slice_get (field_types d) k ≡ Some t → Related (record_type m us) v w → Alike (Related (put (unit_at us) t)) (with_budget (field_of m k v) n) (with_budget (field_of m k w) n)
  field_alike m k us d t (record_value i vs) (record_value j ws) n there here h =
      let first : nat_eq i m ≡ true = same_test i m h.2 in
      let second : nat_eq j m ≡ true = same_test j m h.3 in
      let same : h.0 ≡ d = one_record h.0 d h.1.declared there.declared in
      let fields = subst (λ (x : RecordTree). FieldsScaled records r vs (map (put (unit_at us)) (field_types x)) ws) same h.4 in
      subst (λ x. Alike (Related (put (unit_at us) t)) (with_budget (cond x (value_at vs k) (Err wrong)) n) (with_budget (cond (nat_eq j m) (value_at ws k) (Err wrong)) n)) (sym first)
      (subst (λ x. Alike (Related (put (unit_at us) t)) (with_budget (value_at vs k) n) (with_budget (cond x (value_at ws k) (Err wrong)) n)) (sym second)
      (value_at_alike vs (map (put (unit_at us)) (field_types d)) ws k (put (unit_at us) t) n fields (slice_get_moved (put (unit_at us)) (field_types d) k t here)))
    where
      same_test : (i m : ℕ) → i ≡ m → nat_eq i m ≡ true
      same_test i m e = grind (arith, nat_tests, e)

      one_record : (x y : RecordTree) → slice_get records m ≡ Some x → slice_get records m ≡ Some y → x ≡ y
      one_record x y e f = let g : Some x ≡ Some y = sym e ∙ f in cc
  field_alike m k us d t v w n there here h = absurd h

  -- ---- the variables of the scope
  pub local_alike : (vs : List ValueTree) (ts : List TypeTree) (ws : List ValueTree) (k : ℕ) (t : TypeTree) (n : ℕ) → AllRelated ts vs ws → slice_get ts k ≡ Some t → Alike (Related t) (found (slice_get vs k) n) (found (slice_get ws k) n)
  local_alike [] [] [] zero t n h e = absurd cc
  local_alike [] [] [] (suc k) t n h e = absurd cc
  local_alike (v ∷ vs) (s ∷ ts) (w ∷ ws) zero t n h e = let same : s ≡ t = cc in (subst (λ (x : TypeTree). Related x v w) same h.0, refl)
  local_alike (v ∷ vs) (s ∷ ts) (w ∷ ws) (suc k) t n h e = local_alike vs ts ws k t n h.1 e
  local_alike vs ts ws k t n h e = absurd h

  pub both_related : (vs : List ValueTree) (ts : List TypeTree) (ws xs : List ValueTree) (ss : List TypeTree) (ys : List ValueTree) → AllRelated ts vs ws → AllRelated ss xs ys → AllRelated (ts ++ ss) (vs ++ xs) (ws ++ ys)
  both_related [] [] [] xs ss ys h k = k
  both_related (v ∷ vs) (t ∷ ts) (w ∷ ws) xs ss ys h k = (h.0, both_related vs ts ws xs ss ys h.1 k)
  both_related vs ts ws xs ss ys h k = absurd h

  pub same_length : (vs : List ValueTree) (ts : List TypeTree) (ws : List ValueTree) → AllRelated ts vs ws → length ws ≡ length vs
  same_length [] [] [] h = refl
  same_length (v ∷ vs) (t ∷ ts) (w ∷ ws) h = ap suc (same_length vs ts ws h.1)
  same_length vs ts ws h = absurd h
