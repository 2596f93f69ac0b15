-- Powers of integers: their step, those of a product, their sign and size, and those of numbers with no common divisor.
use Rattle.std.proofs.Common.{◌≡◌, ◌≢◌, ◌⊎◌, ℕ, zero, suc, ◌*◌, ◌^◌, ◌%◌, ◌==◌, Bool, true, false, cond, ℤ, pos, negsuc, ◌*ℤ◌, ◌≤ℤ◌, ◌<ℤ◌, neg_ℤ, unsigned_abs, refl, sym, ap, subst, ◌∙◌, inl, inr, arith}
use Rattle.std.specs.Int.{int_pow}
use Rattle.std.proofs.lemmas.Int.{ints}
use Rattle.std.proofs.Math.Nat.{pow-zero, pow-succ'}
use Rattle.um_frac.specs.Gcd.{gcd}
use Rattle.um_frac.specs.Fraction.{signed}
use Rattle.um_frac.proofs.Gcd.{gcd-one, gcd_comm, coprime_times}
use Rattle.um_frac.proofs.Integers.{*ℤ-ne-zero, times_four}
use Rattle.um_frac.proofs.LowestTerms.{neg_abs}

-- ---- the step
pub int_pow-zero : (z : ℤ) → int_pow z 0 ≡ pos 1
int_pow-zero (pos a) = ap pos (pow-zero a)
int_pow-zero (negsuc a) = ap pos (pow-zero (suc a))

-- what is left of n and of n + 1 divided by 2
abbrev Turns : ℕ → ℕ → Type 0
Turns r s = ((r ≡ 0) × (s ≡ 1)) ⊎ ((r ≡ 1) × (s ≡ 0))

turns : (n : ℕ) → Turns (n % 2) (suc n % 2)
turns zero = inl (refl, refl)
turns (suc n) =
    let again : suc (suc n) % 2 ≡ n % 2 = omega arith in
    elim (turns n) [
      | inl even ↦ inr (even.1, again ∙ even.0)
      | inr odd ↦ inl (odd.1, again ∙ odd.0)
    ]

-- a power of size x of a number below 0, where r is what is left of the exponent divided by 2
abbrev turned : ℕ → ℕ → ℤ
turned r x = cond (r == 0) (pos x) (neg_ℤ (pos x))

turned_step : (a x r s : ℕ) → Turns r s → turned s (suc a * x) ≡ negsuc a *ℤ turned r x
turned_step a x r s (inl even) = (λ i. turned (even.1 i) (suc a * x)) ∙ below ∙ (λ i. negsuc a *ℤ turned (sym even.0 i) x)
  where
    below : neg_ℤ (pos (suc a * x)) ≡ negsuc a *ℤ pos x
    below = omega (arith, ints)
turned_step a x r s (inr odd) = (λ i. turned (odd.1 i) (suc a * x)) ∙ above x ∙ (λ i. negsuc a *ℤ turned (sym odd.0 i) x)
  where
    above : (x : ℕ) → pos (suc a * x) ≡ negsuc a *ℤ neg_ℤ (pos x)
    above zero = omega (arith, ints)
    above (suc x) = omega (arith, ints)

pub int_pow-suc : (z : ℤ) (n : ℕ) → int_pow z (suc n) ≡ z *ℤ int_pow z n
int_pow-suc (pos a) n = ap pos (pow-succ' a n)
int_pow-suc (negsuc a) n = ap (turned (suc n % 2)) (pow-succ' (suc a) n) ∙ turned_step a (suc a ^ n) (n % 2) (suc n % 2) (turns n)

-- ---- products
pub int_pow-mul : (a b : ℤ) (n : ℕ) → int_pow (a *ℤ b) n ≡ int_pow a n *ℤ int_pow b n
int_pow-mul a b zero = int_pow-zero (a *ℤ b) ∙ (λ i. sym (int_pow-zero a) i *ℤ sym (int_pow-zero b) i)
int_pow-mul a b (suc n) =
    int_pow-suc (a *ℤ b) n ∙ ap (λ z. a *ℤ b *ℤ z) (int_pow-mul a b n) ∙ times_four a b (int_pow a n) (int_pow b n) ∙ (λ i. sym (int_pow-suc a n) i *ℤ sym (int_pow-suc b n) i)

pub int_pow-ne-zero : (z : ℤ) (n : ℕ) → z ≢ pos 0 → int_pow z n ≢ pos 0
int_pow-ne-zero z zero other e = let one = int_pow-zero z in omega (arith, ints, e, one)
int_pow-ne-zero z (suc n) other e = *ℤ-ne-zero z (int_pow z n) other (int_pow-ne-zero z n other) (sym (int_pow-suc z n) ∙ e)

pub zero_pow : (n : ℕ) → int_pow (pos 0) (suc n) ≡ pos 0
zero_pow n = int_pow-suc (pos 0) n ∙ omega (arith, ints)

-- ---- the sign and the size
pub pow_size : (z : ℤ) (n : ℕ) → unsigned_abs (int_pow z n) ≡ unsigned_abs z ^ n
pow_size (pos a) n = refl
pow_size (negsuc a) n = by_sign (n % 2 == 0) (suc a ^ n)
  where
    by_sign : (b : Bool) (x : ℕ) → unsigned_abs (cond b (pos x) (neg_ℤ (pos x))) ≡ x
    by_sign true x = refl
    by_sign false x = neg_abs (pos x)

pub pow_above : (z : ℤ) (n : ℕ) → pos 1 ≤ℤ z → int_pow z n ≡ pos (unsigned_abs z ^ n)
pow_above (pos a) n h = refl
pow_above (negsuc a) n h = absurd (omega (arith, ints))

pub pow_not_below : (z : ℤ) (n : ℕ) → pos 0 ≤ℤ z → pos (unsigned_abs z ^ n) ≡ int_pow z n
pow_not_below (pos a) n h = refl
pow_not_below (negsuc a) n h = absurd (omega (arith, ints))

-- a power of a number below 0 is below 0 exactly where the exponent is odd
pub pow_below : (z : ℤ) (n : ℕ) → z <ℤ pos 0 → signed (n % 2 == 1) (unsigned_abs z ^ n) ≡ int_pow z n
pow_below (pos a) n h = absurd (omega (arith, ints))
pow_below (negsuc a) n h = by_rest (n % 2) (suc n % 2) (suc a ^ n) (turns n)
  where
    by_rest : (r s x : ℕ) → Turns r s → signed (r == 1) x ≡ turned r x
    by_rest r s x (inl even) = subst (λ k. signed (k == 1) x ≡ turned k x) (sym even.0) refl
    by_rest r s x (inr odd) = subst (λ k. signed (k == 1) x ≡ turned k x) (sym odd.0) refl

-- ---- no common divisor
coprime_power : (a b n : ℕ) → gcd a b ≡ 1 → gcd a (b ^ n) ≡ 1
coprime_power a b zero e = ap (gcd a) (pow-zero b) ∙ gcd-one a
coprime_power a b (suc n) e = ap (gcd a) (pow-succ' b n) ∙ coprime_times a b (b ^ n) e (coprime_power a b n e)

pub coprime_powers : (a b n : ℕ) → gcd a b ≡ 1 → gcd (a ^ n) (b ^ n) ≡ 1
coprime_powers a b n e = gcd_comm (a ^ n) (b ^ n) ∙ coprime_power (b ^ n) a n (gcd_comm (b ^ n) a ∙ coprime_power a b n e)
