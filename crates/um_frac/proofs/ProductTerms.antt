-- The product of two fractions in lowest terms is in lowest terms once the greatest common divisors are taken out crosswise
-- (Knuth, Seminumerical Algorithms, 4.5.1).
use Rattle.std.proofs.Common.{◌≡◌, ℕ, ◌*◌, ◌/◌, ◌<◌, Bool, ℤ, pos, ◌*ℤ◌, unsigned_abs, sym, ap, subst, ◌∙◌, arith}
use Rattle.std.specs.Prelude.{int_lt, not}
use mathlib.Core.Bool.{beq}
use Rattle.std.proofs.lemmas.Int.{ints}
use Rattle.std.proofs.Math.Nat.{mul-div_cancel', div-mul_cancel, mul-pos}
use Rattle.um_frac.specs.Gcd.{gcd}
use Rattle.um_frac.specs.Fraction.{signed, fraction, reduced}
use Rattle.um_frac.proofs.Gcd.{gcd-is, gcd-div, gcd_up, coprime_left, coprime_right, coprime_products, part_divides, factor_up}
use Rattle.um_frac.proofs.LowestTerms.{AreTerms, reduced_is, signed_abs, signed_size, signed_times, signed_mul}

-- a / m times b / n, where left is the greatest common divisor of a and n, and right that of b and m
module _ (a b : ℤ) (m n : ℕ) where
  abbrev pub left : ℕ
  left = gcd (unsigned_abs a) n

  abbrev pub right : ℕ
  right = gcd (unsigned_abs b) m

  abbrev pub size : ℕ
  size = unsigned_abs a / left * (unsigned_abs b / right)

  abbrev pub below : ℕ
  below = m / right * (n / left)

  abbrev pub sign : Bool
  sign = not (beq (int_lt a (pos 0)) (int_lt b (pos 0)))

  pub product_terms : 0 < m → 0 < n → gcd (unsigned_abs a) m ≡ 1 → gcd (unsigned_abs b) n ≡ 1 → AreTerms (a *ℤ b) (pos m *ℤ pos n) (signed sign size) below
  product_terms up more first second =
      let l_is = gcd-is (unsigned_abs a) n in
      let r_is = gcd-is (unsigned_abs b) m in
      let apart_first : gcd (unsigned_abs a / left) (m / right) ≡ 1 = coprime_left (unsigned_abs a) (m / right) (unsigned_abs a / left) (coprime_right (unsigned_abs a) m (m / right) first (part_divides right m r_is.1)) (part_divides left (unsigned_abs a) l_is.0) in
      let apart_second : gcd (unsigned_abs b / right) (n / left) ≡ 1 = coprime_left (unsigned_abs b) (n / left) (unsigned_abs b / right) (coprime_right (unsigned_abs b) n (n / left) second (part_divides left n l_is.1)) (part_divides right (unsigned_abs b) r_is.0) in
      let a_is : unsigned_abs a / left * left ≡ unsigned_abs a = div-mul_cancel left l_is.0 in
      let b_is : unsigned_abs b / right * right ≡ unsigned_abs b = div-mul_cancel right r_is.0 in
      let m_is : m / right * right ≡ m = div-mul_cancel right r_is.1 in
      let n_is : n / left * left ≡ n = div-mul_cancel left l_is.1 in
      let sizes : size * (m * n) ≡ unsigned_abs a * unsigned_abs b * below = (λ i. size * (sym m_is i * sym n_is i)) ∙ rearranged (unsigned_abs a / left) (unsigned_abs b / right) (m / right) (n / left) left right ∙ (λ i. a_is i * b_is i * below) in
      let signs : signed sign (unsigned_abs a * unsigned_abs b) ≡ a *ℤ b = sym (signed_mul (int_lt a (pos 0)) (int_lt b (pos 0)) (unsigned_abs a) (unsigned_abs b)) ∙ (λ i. signed_size a i *ℤ signed_size b i) in
      record {
        above = mul-pos (factor_up right (m / right) m (mul-div_cancel' right r_is.1) up) (factor_up left (n / left) n (mul-div_cancel' left l_is.1) more);
        lowest = ap (λ k. gcd k below) (signed_abs sign size) ∙ coprime_products (unsigned_abs a / left) (unsigned_abs b / right) (m / right) (n / left) apart_first (gcd-div (unsigned_abs a) n (gcd_up (unsigned_abs a) n more)) (gcd-div (unsigned_abs b) m (gcd_up (unsigned_abs b) m up)) apart_second;
        equal = signed_times sign size (m * n) ∙ ap (signed sign) sizes ∙ sym (signed_times sign (unsigned_abs a * unsigned_abs b) below) ∙ ap (λ z. z *ℤ pos below) signs;
      }
    where
      rearranged : (x y z w l r : ℕ) → x * y * (z * r * (w * l)) ≡ x * l * (y * r) * (z * w)
      rearranged x y z w l r = omega arith

-- what the code has to show, and what it then gives, at the values that it computed
pub record IsProductAt (a b a' b' : ℤ) (m n own others l r : ℕ) : Type 0 where
  pub positive : 0 < m / r * (n / l)
  pub lowest : gcd (own / l * (others / r)) (m / r * (n / l)) ≡ 1
  pub value : fraction (signed (not (beq (int_lt a' (pos 0)) (int_lt b' (pos 0)))) (own / l * (others / r))) (pos (m / r * (n / l))) ≡ reduced (a *ℤ b) (pos (m * n))

pub product_at : (a b a' b' : ℤ) (m n own others l r : ℕ) → 0 < m → 0 < n → gcd (unsigned_abs a) m ≡ 1 → gcd (unsigned_abs b) n ≡ 1 → a' ≡ a → b' ≡ b → own ≡ unsigned_abs a' → others ≡ unsigned_abs b' → l ≡ gcd own n → r ≡ gcd others m → IsProductAt a b a' b' m n own others l r
product_at a b a' b' m n own others l r up more first second e f own_is others_is l_is r_is =
    let owns : unsigned_abs a ≡ own = ap unsigned_abs (sym e) ∙ sym own_is in
    let theirs : unsigned_abs b ≡ others = ap unsigned_abs (sym f) ∙ sym others_is in
    let terms = product_terms a b m n up more first second in
    let base : IsProductAt a b a b m n (unsigned_abs a) (unsigned_abs b) (left a b m n) (right a b m n) = record {
      positive = terms.above;
      lowest = ap (λ k. gcd k (below a b m n)) (sym (signed_abs (sign a b m n) (size a b m n))) ∙ terms.lowest;
      value = sym (reduced_is (a *ℤ b) (pos (m * n)) _ _ (λ e. let big : 0 < m * n = mul-pos up more in omega (arith, ints)) terms);
    } in
    subst (λ (t : (ℤ × ℤ) × (ℕ × ℕ × ℕ × ℕ)). IsProductAt a b t.0.0 t.0.1 m n t.1.0 t.1.1 t.1.2 t.1.3)
    (λ i. ((sym e i, sym f i), (owns i, theirs i, (ap (λ k. gcd k n) owns ∙ sym l_is) i, (ap (λ k. gcd k m) theirs ∙ sym r_is) i)))
    base
