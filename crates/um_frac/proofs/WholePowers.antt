-- Whole powers of fractions: what their definition says by cross products, and what the code forms.
use Rattle.std.proofs.Common.{◌≡◌, ◌≢◌, ◌↔◌, ℕ, zero, suc, ◌^◌, ◌<◌, Bool, ℤ, pos, negsuc, neg_ℤ, ◌*ℤ◌, ◌<ℤ◌, unsigned_abs, Option, None, Result, Ok, Err, IfOk, refl, sym, ap, subst, ◌∙◌, arith}
use Rattle.std.specs.Int.{int_pow}
use Rattle.std.specs.Option.{ok_or}
use Rattle.std.proofs.lemmas.Int.{ints}
use Rattle.std.proofs.Math.Nat.{one-le-pow}
use lib.IntN.{*ℤ_comm, ℤ_discrete}
use Rattle.um_frac.specs.declared.number.Frac.{Frac}
use Rattle.um_frac.specs.declared.number.Trap.{Trap}
use Rattle.um_frac.specs.declared.number.Trap.TheVariants.{Overflow, DivZero}
use Rattle.um_frac.specs.Gcd.{gcd}
use Rattle.um_frac.specs.Fraction.{numerator, denominator, IsQuotient, signed, reduced, fraction}
use Rattle.um_frac.specs.Arithmetic.{exactly, divided_by, whole_power_of, IsProduct, IsWholePower}
use Rattle.um_frac.specs.Laws.{PowersOfProducts}
use Rattle.um_frac.proofs.Integers.{*ℤ-ne-zero, times_four, cross}
use Rattle.um_frac.proofs.Powers.{int_pow-mul, int_pow-ne-zero, zero_pow, pow_size, pow_above, coprime_powers}
use Rattle.um_frac.proofs.LowestTerms.{AreTerms, reduced_is, reduced_same, fraction_none, num_size, den_size}
use Rattle.um_frac.proofs.Outcomes.{exact_ok, exact_overflow, exact_never_div_zero, den_apart, dens_apart, divided_exactly, size_up}

-- ---- the powers of the parts are in lowest terms
pub den_power_apart : (a : Frac) (n : ℕ) → int_pow (denominator a) n ≢ pos 0
den_power_apart a n = int_pow-ne-zero (denominator a) n (den_apart a)

power_terms : (a : Frac) (n : ℕ) → AreTerms (int_pow (numerator a) n) (int_pow (denominator a) n) (int_pow (numerator a) n) (unsigned_abs (denominator a) ^ n)
power_terms a n =
    record {
      above = one-le-pow n (unsigned_abs (denominator a)) (size_up (denominator a) (den_apart a));
      lowest = ap (λ k. gcd k (unsigned_abs (denominator a) ^ n)) (pow_size (numerator a) n) ∙ coprime_powers (unsigned_abs (numerator a)) (unsigned_abs (denominator a)) n a.lowest;
      equal = ap (λ z. int_pow (numerator a) n *ℤ z) (pow_above (denominator a) n a.positive);
    }

pub power_is : (a : Frac) (n : ℕ) → reduced (int_pow (numerator a) n) (int_pow (denominator a) n) ≡ fraction (int_pow (numerator a) n) (pos (unsigned_abs (denominator a) ^ n))
power_is a n = reduced_is _ _ _ _ (den_power_apart a n) (power_terms a n)

-- a power of a part that is too wide for 64 bits
pub wide_numerator_power : (a : Frac) (n : ℕ) → ¬ (unsigned_abs (numerator a) ^ n < 2 ^ 64) → None ≡ reduced (int_pow (numerator a) n) (int_pow (denominator a) n)
wide_numerator_power a n wide =
    sym (power_is a n ∙ fraction_none _ _ (λ r e f.
    let size : unsigned_abs (numerator r) ≡ unsigned_abs (numerator a) ^ n = ap unsigned_abs e ∙ pow_size (numerator a) n in
    let low = num_size r in
    wide (omega arith)))

pub wide_denominator_power : (a : Frac) (n : ℕ) → ¬ (unsigned_abs (denominator a) ^ n < 2 ^ 64) → None ≡ reduced (int_pow (numerator a) n) (int_pow (denominator a) n)
wide_denominator_power a n wide =
    sym (power_is a n ∙ fraction_none _ _ (λ r e f.
    let size : unsigned_abs (denominator r) ≡ unsigned_abs (denominator a) ^ n = ap unsigned_abs f in
    let low = den_size r in
    wide (omega arith)))

-- the facts of the powers of the parts, as the code has them
pub record ArePowersOf (a : Frac) (n size den : ℕ) : Type 0 where
  pub positive : 0 < den
  pub lowest : gcd size den ≡ 1
  pub value : (negative : Bool) → signed negative size ≡ int_pow (numerator a) n → fraction (signed negative size) (pos den) ≡ reduced (int_pow (numerator a) n) (int_pow (denominator a) n)

pub powers_of : (a : Frac) (n size den : ℕ) → size ≡ unsigned_abs (numerator a) ^ n → den ≡ unsigned_abs (denominator a) ^ n → ArePowersOf a n size den
powers_of a n size den e f =
    let terms = power_terms a n in
    record {
      positive = subst (λ k. 0 < k) (sym f) terms.above;
      lowest = (λ i. gcd (e i) (f i)) ∙ ap (λ k. gcd k (unsigned_abs (denominator a) ^ n)) (sym (pow_size (numerator a) n)) ∙ terms.lowest;
      value = λ negative sign. (λ i. fraction (sign i) (pos (f i))) ∙ sym (power_is a n);
    }

-- ---- what the two ways of the code come to
pub natural_power : (a : Frac) (k : ℤ) (n : ℕ) (o : Option Frac) → k ≡ pos n → o ≡ reduced (int_pow (numerator a) n) (int_pow (denominator a) n) → ok_or o Overflow ≡ whole_power_of a k
unfolding whole_power_of
natural_power a k n o e is = ap (λ x. ok_or x Overflow) is ∙ ap (whole_power_of a) (sym e)

pub negative_exactly : (a : Frac) (n : ℕ) → numerator a ≢ pos 0 → whole_power_of a (negsuc n) ≡ exactly (int_pow (denominator a) (suc n)) (int_pow (numerator a) (suc n))
unfolding whole_power_of
negative_exactly a n other = divided_exactly _ _ (int_pow-ne-zero (numerator a) (suc n) other)

-- a negative power is a power of the reciprocal c
pub negative_power : (a c : Frac) (k : ℤ) (n : ℕ) (o : Option Frac) → k ≡ neg_ℤ (pos n) → 0 < n → numerator a ≢ pos 0 → IsQuotient c (denominator a) (numerator a) → o ≡ reduced (int_pow (numerator c) n) (int_pow (denominator c) n) → ok_or o Overflow ≡ whole_power_of a k
negative_power a c k zero o e up other of_a is = absurd (omega arith)
negative_power a c k (suc n) o e up other of_a is =
    let crossed = sym (int_pow-mul (numerator c) (numerator a) (suc n)) ∙ ap (λ z. int_pow z (suc n)) of_a.1 ∙ int_pow-mul (denominator a) (denominator c) (suc n) in
    let same = reduced_same _ _ _ _ (den_power_apart c (suc n)) (int_pow-ne-zero (numerator a) (suc n) other) crossed in
    ap (λ x. ok_or x Overflow) (is ∙ same) ∙ sym (negative_exactly a n other) ∙ ap (whole_power_of a) (sym e)

-- ---- the clauses of a power
abbrev pub IsNegativePowerOfZero : Frac → ℤ → Type 0
IsNegativePowerOfZero a k = (numerator a ≡ pos 0) × (k <ℤ pos 0)

pub record WholePowerClauses (a : Frac) (k : ℤ) (o : Result Frac Trap) : Type 0 where
  pub value : o ≡ whole_power_of a k
  pub exact : IfOk o (λ r. IsWholePower r a k)
  pub zero : (o ≡ Err DivZero) ↔ IsNegativePowerOfZero a k
  pub overflow : (o ≡ Err Overflow) ↔ ((¬ IsNegativePowerOfZero a k) × ((r : Frac) → ¬ IsWholePower r a k))

negative_zero : (a : Frac) (n : ℕ) → numerator a ≡ pos 0 → whole_power_of a (negsuc n) ≡ Err DivZero
unfolding whole_power_of
negative_zero a n e = ap (divided_by (int_pow (denominator a) (suc n))) (ap (λ z. int_pow z (suc n)) e ∙ zero_pow n)

negative_clauses : (a : Frac) (n : ℕ) (o : Result Frac Trap) → Dec (numerator a ≡ pos 0) → o ≡ whole_power_of a (negsuc n) → WholePowerClauses a (negsuc n) o
negative_clauses a n o (yes none) e =
    let same : o ≡ Err DivZero = e ∙ negative_zero a n none in
    let below : negsuc n <ℤ pos 0 = omega (arith, ints) in
    record {
      value = e;
      exact = subst (λ x. IfOk x (λ r. IsWholePower r a (negsuc n))) (sym same) tt;
      zero = ((λ f. (none, below)), (λ f. same));
      overflow = ((λ f. let g = sym same ∙ f in cc), (λ h. absurd (h.0 (none, below))));
    }
negative_clauses a n o (no other) e =
    let above = int_pow (denominator a) (suc n) in
    let below = int_pow (numerator a) (suc n) in
    let e' = e ∙ negative_exactly a n other in
    let over = exact_overflow above below o (int_pow-ne-zero (numerator a) (suc n) other) e' in
    record {
      value = e;
      exact = with_base o (exact_ok above below o e');
      zero = ((λ f. absurd (exact_never_div_zero above below o e' f)), (λ f. absurd (other f.0)));
      overflow = ((λ f. ((λ g. other g.0), (λ r is. over.0 f r is.1))), (λ none. over.1 (λ r is. none.1 r (other, is))));
    }
  where
    with_base : (o : Result Frac Trap) → IfOk o (λ r. numerator r *ℤ int_pow (numerator a) (suc n) ≡ int_pow (denominator a) (suc n) *ℤ denominator r) → IfOk o (λ r. IsWholePower r a (negsuc n))
    with_base (Ok r) is = (other, is)
    with_base (Err t) is = tt

pub whole_power_clauses : (a : Frac) (k : ℤ) (o : Result Frac Trap) → o ≡ whole_power_of a k → WholePowerClauses a k o
unfolding whole_power_of
whole_power_clauses a (pos n) o e =
    let above = int_pow (numerator a) n in
    let below = int_pow (denominator a) n in
    let over = exact_overflow above below o (den_power_apart a n) e in
    record {
      value = e;
      exact = exact_ok above below o e;
      zero = ((λ f. absurd (exact_never_div_zero above below o e f)), (λ f. let low = f.1 in absurd (omega (arith, ints))));
      overflow = ((λ f. ((λ g. let low = g.1 in omega (arith, ints)), over.0 f)), (λ none. over.1 none.1));
    }
whole_power_clauses a (negsuc n) o e = negative_clauses a n o (ℤ_discrete (numerator a) (pos 0)) e

pub power_of_zero : (a : Frac) (k : ℤ) → numerator a ≡ pos 0 → k <ℤ pos 0 → Err DivZero ≡ whole_power_of a k
power_of_zero a k e low = sym ((whole_power_clauses a k (whole_power_of a k) refl).zero.1 (e, low))

-- ---- a power of a product
-- the product of numbers that are p / q and m / n is their product
product_quotient : (r s v : Frac) (p q m n : ℤ) → numerator r *ℤ q ≡ p *ℤ denominator r → numerator s *ℤ n ≡ m *ℤ denominator s → IsProduct v r s → numerator v *ℤ (q *ℤ n) ≡ p *ℤ m *ℤ denominator v
product_quotient r s v p q m n e f is =
    let both = times_four p m (denominator r) (denominator s) ∙ (λ i. sym e i *ℤ sym f i) ∙ times_four (numerator r) q (numerator s) n in
    cross (numerator r *ℤ numerator s) (denominator r *ℤ denominator s) (numerator v) (denominator v) (p *ℤ m) (q *ℤ n) (dens_apart r s) is both

-- a number t that is a * b has the power n that the powers of a and b have
product_power : (a b t : Frac) (n : ℕ) → IsProduct t a b → int_pow (numerator t) n *ℤ (int_pow (denominator a) n *ℤ int_pow (denominator b) n) ≡ int_pow (numerator a) n *ℤ int_pow (numerator b) n *ℤ int_pow (denominator t) n
product_power a b t n is =
    ap (λ z. int_pow (numerator t) n *ℤ z) (sym (int_pow-mul (denominator a) (denominator b) n)) ∙ sym (int_pow-mul (numerator t) (denominator a *ℤ denominator b) n) ∙ ap (λ z. int_pow z n) is ∙ int_pow-mul (numerator a *ℤ numerator b) (denominator t) n ∙ ap (λ z. z *ℤ int_pow (denominator t) n) (int_pow-mul (numerator a) (numerator b) n)

-- a product of numbers that are not 0 isn't 0
product_apart : (a b t : Frac) → IsProduct t a b → numerator a ≢ pos 0 → numerator b ≢ pos 0 → numerator t ≢ pos 0
product_apart a b t is f g e =
    *ℤ-ne-zero (numerator a *ℤ numerator b) (denominator t) (*ℤ-ne-zero (numerator a) (numerator b) f g) (den_apart t) (sym is ∙ ap (λ z. z *ℤ (denominator a *ℤ denominator b)) e ∙ omega (arith, ints))

pub powers_of_products : PowersOfProducts
powers_of_products a b r s t v (pos n) e f is of_powers =
    let above = int_pow (numerator a) n *ℤ int_pow (numerator b) n in
    let below = int_pow (denominator a) n *ℤ int_pow (denominator b) n in
    let both = product_quotient r s v (int_pow (numerator a) n) (int_pow (denominator a) n) (int_pow (numerator b) n) (int_pow (denominator b) n) e f of_powers in
    cross above below (numerator v) (denominator v) (int_pow (numerator t) n) (int_pow (denominator t) n) (*ℤ-ne-zero _ _ (den_power_apart a n) (den_power_apart b n)) both (product_power a b t n is)
powers_of_products a b r s t v (negsuc n) e f is of_powers =
    let above = int_pow (denominator a) (suc n) *ℤ int_pow (denominator b) (suc n) in
    let below = int_pow (numerator a) (suc n) *ℤ int_pow (numerator b) (suc n) in
    let both = product_quotient r s v (int_pow (denominator a) (suc n)) (int_pow (numerator a) (suc n)) (int_pow (denominator b) (suc n)) (int_pow (numerator b) (suc n)) e.1 f.1 of_powers in
    let turned = *ℤ_comm (int_pow (denominator t) (suc n)) below ∙ sym (product_power a b t (suc n) is) ∙ *ℤ_comm (int_pow (numerator t) (suc n)) above in
    let apart = *ℤ-ne-zero _ _ (int_pow-ne-zero (numerator a) (suc n) e.0) (int_pow-ne-zero (numerator b) (suc n) f.0) in
    (product_apart a b t is e.0 f.0, cross above below (numerator v) (denominator v) (int_pow (denominator t) (suc n)) (int_pow (numerator t) (suc n)) apart both turned)
