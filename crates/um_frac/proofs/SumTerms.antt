-- The sum of two fractions comes to lowest terms by a greatest common divisor of the denominators, and one that the sum may
-- still have with it (Knuth, Seminumerical Algorithms, 4.5.1).
use Rattle.std.proofs.Common.{◌≡◌, inl, inr, ℕ, ◌*◌, ◌/◌, ◌%◌, ◌<◌, ℤ, pos, ◌+ℤ◌, ◌*ℤ◌, unsigned_abs, sym, ap, subst, ◌∙◌, arith}
use Rattle.std.specs.Int.{◌∣◌}
use Rattle.std.specs.Prelude.{int_lt}
use Rattle.std.proofs.lemmas.Int.{ints, unsigned_abs-mul}
use Rattle.std.proofs.lemmas.Nat.Gcd.{dvd_trans}
use Rattle.std.proofs.Math.Nat.{mul-div_cancel', div-mul_cancel, mul-div_assoc, mul-pos, div-one, dvd-add, dvd-sub, dvd-mul_left, dvd-mul_right, eq-one_of_dvd-one}
use lib.IntN.{+ℤ_comm}
use Rattle.um_frac.specs.Gcd.{gcd}
use Rattle.um_frac.specs.Fraction.{signed, fraction, reduced}
use Rattle.um_frac.proofs.Gcd.{gcd-is, gcd-mod, gcd-one, gcd-div, gcd_up, gcd_comm, coprime_left, coprime_right, coprime_times, factor_up}
use Rattle.um_frac.proofs.Integers.{*ℤ_assoc, +ℤ-*ℤ}
use Rattle.um_frac.proofs.WideProducts.{sizes}
use Rattle.um_frac.proofs.LowestTerms.{AreTerms, signed_abs, reduced_is, signed_size, signed_times}

-- what divides a sum and one summand divides the other
divides_rest : (d : ℕ) (x y : ℤ) → d ∣ unsigned_abs (x +ℤ y) → d ∣ unsigned_abs y → d ∣ unsigned_abs x
divides_rest d x y h k =
    elim (sizes x y) [
      | inl e ↦ subst (λ n. d ∣ n) (sym e) (dvd-add d h k)
      | inr (inl e) ↦ subst (λ n. d ∣ n) (sym e) (dvd-sub d h k)
      | inr (inr e) ↦ subst (λ n. d ∣ n) (sym e) (dvd-sub d k h)
    ]

-- a multiple of m added changes no common divisor with m
coprime_sum : (x y : ℤ) (m : ℕ) → gcd (unsigned_abs x) m ≡ 1 → m ∣ unsigned_abs y → gcd (unsigned_abs (x +ℤ y)) m ≡ 1
coprime_sum x y m e h =
    let is = gcd-is (unsigned_abs (x +ℤ y)) m in
    let g = gcd (unsigned_abs (x +ℤ y)) m in
    eq-one_of_dvd-one (subst (λ n. g ∣ n) e ((gcd-is (unsigned_abs x) m).2 g (divides_rest g x y is.0 (dvd_trans g is.1 h)) is.1))

-- u * others + v * own has no common divisor with own
apart : (u v : ℤ) (own others g : ℕ) → gcd (unsigned_abs u) (own * g) ≡ 1 → gcd own others ≡ 1 → gcd (unsigned_abs (u *ℤ pos others +ℤ v *ℤ pos own)) own ≡ 1
apart u v own others g lowest e =
    coprime_sum (u *ℤ pos others) (v *ℤ pos own) own
    (ap (λ n. gcd n own) (unsigned_abs-mul u (pos others)) ∙ gcd_comm (unsigned_abs u * others) own ∙ coprime_times own (unsigned_abs u) others (gcd_comm own (unsigned_abs u) ∙ coprime_right (unsigned_abs u) (own * g) own lowest (dvd-mul_right own g)) e)
    (subst (λ n. own ∣ n) (sym (unsigned_abs-mul v (pos own))) (dvd-mul_left own (unsigned_abs v)))

-- The terms of u / (own * g) + v / (others * g), where own and others have no common divisor, g = k * rest, p * rest is
-- u * others + v * own, and p has no common divisor with k
module _ (u v p : ℤ) (own others g k rest : ℕ) (split : g ≡ k * rest) (taken : p *ℤ pos rest ≡ u *ℤ pos others +ℤ v *ℤ pos own) where
  sum_lowest : gcd (unsigned_abs u) (own * g) ≡ 1 → gcd (unsigned_abs v) (others * g) ≡ 1 → gcd own others ≡ 1 → gcd (unsigned_abs p) k ≡ 1 → gcd (unsigned_abs p) (own * (others * k)) ≡ 1
  sum_lowest first second e last =
      let above = u *ℤ pos others +ℤ v *ℤ pos own in
      let into : unsigned_abs p ∣ unsigned_abs above = subst (λ n. unsigned_abs p ∣ n) (sym (unsigned_abs-mul p (pos rest)) ∙ ap unsigned_abs taken) (dvd-mul_right (unsigned_abs p) rest) in
      let turned : gcd (unsigned_abs above) others ≡ 1 = ap (λ z. gcd (unsigned_abs z) others) (+ℤ_comm (u *ℤ pos others) (v *ℤ pos own)) ∙ apart v u others own g second (gcd_comm others own ∙ e) in
      coprime_times (unsigned_abs p) own (others * k)
      (coprime_left (unsigned_abs above) own (unsigned_abs p) (apart u v own others g first e) into)
      (coprime_times (unsigned_abs p) others k (coprime_left (unsigned_abs above) others (unsigned_abs p) turned into) last)

  sum_equal : p *ℤ (pos (own * g) *ℤ pos (others * g)) ≡ (u *ℤ pos (others * g) +ℤ v *ℤ pos (own * g)) *ℤ pos (own * (others * k))
  sum_equal =
      let above = u *ℤ pos others +ℤ v *ℤ pos own in
      let sizes : own * g * (others * g) ≡ rest * (g * (own * (others * k))) = ap (λ n. own * g * (others * n)) split ∙ omega arith in
      let scaled : above *ℤ pos g ≡ u *ℤ pos (others * g) +ℤ v *ℤ pos (own * g) = +ℤ-*ℤ (u *ℤ pos others) (v *ℤ pos own) (pos g) ∙ (λ i. *ℤ_assoc u (pos others) (pos g) i +ℤ *ℤ_assoc v (pos own) (pos g) i) in
      ap (λ n. p *ℤ pos n) sizes ∙ sym (*ℤ_assoc p (pos rest) (pos (g * (own * (others * k))))) ∙ ap (λ z. z *ℤ pos (g * (own * (others * k)))) taken ∙ sym (*ℤ_assoc above (pos g) (pos (own * (others * k)))) ∙ ap (λ z. z *ℤ pos (own * (others * k))) scaled

-- what the code comes to
module _ (u v : ℤ) (du dv : ℕ) where
  abbrev pub common : ℕ
  common = gcd du dv

  abbrev pub above : ℤ
  above = u *ℤ pos (dv / common) +ℤ v *ℤ pos (du / common)

  abbrev pub rest : ℕ
  rest = gcd (unsigned_abs above) common

  pub sum_terms : 0 < du → 0 < dv → gcd (unsigned_abs u) du ≡ 1 → gcd (unsigned_abs v) dv ≡ 1 → AreTerms (u *ℤ pos dv +ℤ v *ℤ pos du) (pos du *ℤ pos dv) (signed (int_lt above (pos 0)) (unsigned_abs above / rest)) (du / common * (dv / rest))
  sum_terms up more first second =
      let g = common in
      let g_up : 0 < g = gcd_up du dv more in
      let u_is : du / g * g ≡ du = div-mul_cancel g (gcd-is du dv).0 in
      let v_is : dv / g * g ≡ dv = div-mul_cancel g (gcd-is du dv).1 in
      let r_up : 0 < rest = gcd_up (unsigned_abs above) g g_up in
      let k = g / rest in
      let split : g ≡ k * rest = sym (div-mul_cancel rest (gcd-is (unsigned_abs above) g).1) in
      let p = signed (int_lt above (pos 0)) (unsigned_abs above / rest) in
      let taken : p *ℤ pos rest ≡ above = signed_times (int_lt above (pos 0)) (unsigned_abs above / rest) rest ∙ ap (signed (int_lt above (pos 0))) (div-mul_cancel rest (gcd-is (unsigned_abs above) g).0) ∙ signed_size above in
      let part : gcd (unsigned_abs p) k ≡ 1 = ap (λ n. gcd n k) (signed_abs (int_lt above (pos 0)) (unsigned_abs above / rest)) ∙ gcd-div (unsigned_abs above) g r_up in
      let small : dv / rest ≡ dv / g * k = ap (λ n. n / rest) (sym v_is) ∙ mul-div_assoc rest (dv / g) (gcd-is (unsigned_abs above) g).1 in
      let whole : rest * (dv / rest) ≡ dv = mul-div_cancel' rest (dvd_trans rest (gcd-is (unsigned_abs above) g).1 (gcd-is du dv).1) in
      let lowest = sum_lowest u v p (du / g) (dv / g) g k rest split taken (ap (gcd (unsigned_abs u)) u_is ∙ first) (ap (gcd (unsigned_abs v)) v_is ∙ second) (gcd-div du dv g_up) part in
      let equal = sum_equal u v p (du / g) (dv / g) g k rest split taken in
      record {
        above = mul-pos (factor_up g (du / g) du (mul-div_cancel' g (gcd-is du dv).0) up) (factor_up rest (dv / rest) dv whole more);
        lowest = ap (λ n. gcd (unsigned_abs p) (du / g * n)) small ∙ lowest;
        equal = (λ i. p *ℤ (pos (sym u_is i) *ℤ pos (sym v_is i))) ∙ equal ∙ (λ i. (u *ℤ pos (v_is i) +ℤ v *ℤ pos (u_is i)) *ℤ pos (du / g * sym small i));
      }

-- what the code has to show, and what it then gives, at the values that it computed
pub record IsSumAt (a b : ℤ) (m n g rest size : ℕ) (above : ℤ) : Type 0 where
  pub positive : 0 < m / g * (n / rest)
  pub lowest : gcd (size / rest) (m / g * (n / rest)) ≡ 1
  pub value : fraction (signed (int_lt above (pos 0)) (size / rest)) (pos (m / g * (n / rest))) ≡ reduced (a *ℤ pos n +ℤ b *ℤ pos m) (pos (m * n))

pub sum_at : (a b a' b' : ℤ) (m n g r size : ℕ) (z z' : ℤ) → 0 < m → 0 < n → gcd (unsigned_abs a) m ≡ 1 → gcd (unsigned_abs b) n ≡ 1 → a' ≡ a → b' ≡ b → g ≡ gcd m n → z ≡ a' *ℤ pos (n / g) +ℤ b' *ℤ pos (m / g) → z' ≡ z → size ≡ unsigned_abs z' → r ≡ gcd g (size % g) → IsSumAt a b m n g r size z'
sum_at a b a' b' m n g r size z z' up more first second a_is b_is g_is z_is same size_is r_is =
    let zs : above a b m n ≡ z' = (λ i. sym a_is i *ℤ pos (n / sym g_is i) +ℤ sym b_is i *ℤ pos (m / sym g_is i)) ∙ sym z_is ∙ sym same in
    let sizes_are : unsigned_abs (above a b m n) ≡ size = ap unsigned_abs zs ∙ sym size_is in
    let rs : rest a b m n ≡ r = (λ i. gcd (sizes_are i) (sym g_is i)) ∙ sym (gcd-mod size g) ∙ sym r_is in
    let terms = sum_terms a b m n up more first second in
    let base : IsSumAt a b m n (common a b m n) (rest a b m n) (unsigned_abs (above a b m n)) (above a b m n) = record {
      positive = terms.above;
      lowest = ap (λ k. gcd k (m / common a b m n * (n / rest a b m n))) (sym (signed_abs (int_lt (above a b m n) (pos 0)) (unsigned_abs (above a b m n) / rest a b m n))) ∙ terms.lowest;
      value = sym (reduced_is (a *ℤ pos n +ℤ b *ℤ pos m) (pos (m * n)) _ _ (λ e. let big : 0 < m * n = mul-pos up more in omega (arith, ints)) terms);
    } in
    subst (λ (t : ℕ × ℕ × ℕ × ℤ). IsSumAt a b m n t.0 t.1 t.2 t.3) (λ i. (sym g_is i, rs i, sizes_are i, zs i)) base

-- where the denominators have no common divisor, the sum is in lowest terms as it stands
pub record IsPlainSum (a b : ℤ) (m n size : ℕ) (above : ℤ) : Type 0 where
  pub positive : 0 < m * n
  pub lowest : gcd size (m * n) ≡ 1
  pub value : fraction (signed (int_lt above (pos 0)) size) (pos (m * n)) ≡ reduced (a *ℤ pos n +ℤ b *ℤ pos m) (pos (m * n))

pub plain_sum_at : (a b a' b' : ℤ) (m n g size : ℕ) (z z' : ℤ) → 0 < m → 0 < n → gcd (unsigned_abs a) m ≡ 1 → gcd (unsigned_abs b) n ≡ 1 → a' ≡ a → b' ≡ b → g ≡ gcd m n → z ≡ a' *ℤ pos (n / g) +ℤ b' *ℤ pos (m / g) → z' ≡ z → size ≡ unsigned_abs z' → g ≡ 1 → IsPlainSum a b m n size z'
plain_sum_at a b a' b' m n g size z z' up more first second a_is b_is g_is z_is same size_is plain =
    let all = sum_at a b a' b' m n g 1 size z z' up more first second a_is b_is g_is z_is same size_is (sym (gcd_comm g (size % g) ∙ ap (gcd (size % g)) plain ∙ gcd-one (size % g))) in
    let below : m / g * (n / 1) ≡ m * n = (λ i. m / plain i * (n / 1)) ∙ (λ i. div-one m i * div-one n i) in
    record {
      positive = subst (λ d. 0 < d) below all.positive;
      lowest = (λ i. gcd (sym (div-one size) i) (sym below i)) ∙ all.lowest;
      value = (λ i. fraction (signed (int_lt z' (pos 0)) (sym (div-one size) i)) (pos (sym below i))) ∙ all.value;
    }
