-- Laws of the integers that the standard library lacks: the product distributes over the sum, is associative, has no
-- divisors of 0 and keeps the order. The crates above cite them too.
use Rattle.std.proofs.Common.{◌≡◌, ◌≢◌, ◌⊎◌, ℕ, zero, suc, ◌*◌, ◌<◌, ℤ, pos, negsuc, ◌+ℤ◌, ◌*ℤ◌, neg_ℤ, ◌<ℤ◌, refl, sym, ap, ◌∙◌, inl, inr, arith}
use Rattle.std.proofs.lemmas.Int.{ints, by_lt_z}
use Rattle.std.proofs.Math.Nat.{eq_of_mul-eq-mul_right, mul-pos, mul-lt-mul_of_pos_right}
use Rattle.std.proofs.Math.IntN.{*ℤ_comm, *ℤ-negsuc, neg_ℤ-neg_ℤ}
use borrow.Author.Differences.{up, down, sum_is_lem, product_is, neg_is}

-- ---- sums and products
pub *ℤ-+ℤ : (a b c : ℤ) → a *ℤ (b +ℤ c) ≡ a *ℤ b +ℤ a *ℤ c
*ℤ-+ℤ a b c = omega (arith, ints, ap (λ n. up a * n) (sum_is_lem b c), ap (λ n. down a * n) (sum_is_lem b c))

pub +ℤ-*ℤ : (a b c : ℤ) → (a +ℤ b) *ℤ c ≡ a *ℤ c +ℤ b *ℤ c
+ℤ-*ℤ a b c = omega (arith, ints, ap (λ n. up c * n) (sum_is_lem a b), ap (λ n. down c * n) (sum_is_lem a b))

pub *ℤ_assoc : (a b c : ℤ) → (a *ℤ b) *ℤ c ≡ a *ℤ (b *ℤ c)
*ℤ_assoc a b c =
    let p = product_is a b in
    let q = product_is b c in
    omega (
      arith,
      ints,
      ap (λ n. n * up c) p.0,
      ap (λ n. n * down c) p.0,
      ap (λ n. n * up c) p.1,
      ap (λ n. n * down c) p.1,
      ap (λ n. up a * n) q.0,
      ap (λ n. down a * n) q.0,
      ap (λ n. up a * n) q.1,
      ap (λ n. down a * n) q.1,
    )

pub times_swap : (a b c : ℤ) → (a *ℤ b) *ℤ c ≡ (a *ℤ c) *ℤ b
times_swap a b c = *ℤ_assoc a b c ∙ ap (λ x. a *ℤ x) (*ℤ_comm b c) ∙ sym (*ℤ_assoc a c b)

pub times_four : (a b c d : ℤ) → (a *ℤ b) *ℤ (c *ℤ d) ≡ (a *ℤ c) *ℤ (b *ℤ d)
times_four a b c d =
    *ℤ_assoc a b (c *ℤ d) ∙ ap (λ x. a *ℤ x) (sym (*ℤ_assoc b c d) ∙ ap (λ x. x *ℤ d) (*ℤ_comm b c) ∙ *ℤ_assoc c b d) ∙ sym (*ℤ_assoc a c (b *ℤ d))

pub *ℤ-pos_one : (a : ℤ) → a *ℤ pos 1 ≡ a
*ℤ-pos_one a = omega (arith, ints)

pub neg_ℤ-*ℤ : (a b : ℤ) → neg_ℤ a *ℤ b ≡ neg_ℤ (a *ℤ b)
neg_ℤ-*ℤ a b = let p = neg_is a in omega (arith, ints, ap (λ n. n * up b) p.0, ap (λ n. n * down b) p.0, ap (λ n. n * up b) p.1, ap (λ n. n * down b) p.1)

pub *ℤ-neg_ℤ : (a b : ℤ) → a *ℤ neg_ℤ b ≡ neg_ℤ (a *ℤ b)
*ℤ-neg_ℤ a b = *ℤ_comm a (neg_ℤ b) ∙ neg_ℤ-*ℤ b a ∙ ap neg_ℤ (*ℤ_comm b a)

-- ---- no divisors of 0
pub pos-*ℤ-zero : (p : ℕ) (z : ℤ) → 0 < p → pos p *ℤ z ≡ pos 0 → z ≡ pos 0
pos-*ℤ-zero p (pos zero) h e = refl
pos-*ℤ-zero p (pos (suc k)) h e = absurd (omega (arith, ints, e, h))
pos-*ℤ-zero p (negsuc k) h e = absurd (omega (arith, ints, e, h))

pub *ℤ-eq-zero : (a b : ℤ) → a *ℤ b ≡ pos 0 → (a ≡ pos 0) ⊎ (b ≡ pos 0)
*ℤ-eq-zero (pos zero) b e = inl refl
*ℤ-eq-zero (pos (suc k)) b e = inr (pos-*ℤ-zero (suc k) b (omega arith) e)
*ℤ-eq-zero (negsuc k) b e = inr (pos-*ℤ-zero (suc k) b (omega arith) (omega (arith, ints, e)))

pub *ℤ-ne-zero : (a b : ℤ) → a ≢ pos 0 → b ≢ pos 0 → a *ℤ b ≢ pos 0
*ℤ-ne-zero a b f g e = elim (*ℤ-eq-zero a b e) [ inl h ↦ f h | inr h ↦ g h ]

-- ---- a factor that cancels
cancel_above : (a b : ℤ) (n : ℕ) → a *ℤ pos (suc n) ≡ b *ℤ pos (suc n) → a ≡ b
cancel_above (pos a) (pos b) n e = ap pos (eq_of_mul-eq-mul_right (suc n) (omega arith) a b (omega (arith, ints)))
cancel_above (pos a) (negsuc b) n e = absurd (let up : 0 < suc b * suc n = mul-pos (omega arith) (omega arith) in omega (arith, ints))
cancel_above (negsuc a) (pos b) n e = absurd (let up : 0 < suc a * suc n = mul-pos (omega arith) (omega arith) in omega (arith, ints))
cancel_above (negsuc a) (negsuc b) n e =
    let same : suc a ≡ suc b = eq_of_mul-eq-mul_right (suc n) (omega arith) (suc a) (suc b) (omega (arith, ints)) in ap negsuc (omega arith)

-- a factor that is not 0 cancels
pub cancel : (a b c : ℤ) → c ≢ pos 0 → a *ℤ c ≡ b *ℤ c → a ≡ b
cancel a b (pos zero) other e = absurd (other refl)
cancel a b (pos (suc n)) other e = cancel_above a b n e
cancel a b (negsuc n) other e =
    cancel_above a b n (sym (neg_ℤ-neg_ℤ (a *ℤ pos (suc n))) ∙ ap neg_ℤ (sym (*ℤ-negsuc a n) ∙ e ∙ *ℤ-negsuc b n) ∙ neg_ℤ-neg_ℤ (b *ℤ pos (suc n)))

-- two quotients that are one number n / d have equal cross products
pub cross : (n d p q r s : ℤ) → d ≢ pos 0 → p *ℤ d ≡ n *ℤ q → r *ℤ d ≡ n *ℤ s → p *ℤ s ≡ r *ℤ q
cross n d p q r s other e f =
    cancel (p *ℤ s) (r *ℤ q) d other
    (times_swap p s d ∙ ap (λ x. x *ℤ s) e ∙ times_swap n q s ∙ ap (λ x. x *ℤ q) (sym f) ∙ times_swap r d q)

-- ---- order and products
pub less_times : (x y : ℤ) (n : ℕ) → 0 < n → x <ℤ y → (x *ℤ pos n) <ℤ (y *ℤ pos n)
less_times (pos a) (pos b) n some h = let low : a < b = omega (arith, ints) in let more : a * n < b * n = mul-lt-mul_of_pos_right low some in omega (arith, ints)
less_times (pos a) (negsuc b) n some h = absurd (omega (arith, ints))
less_times (negsuc a) (pos b) n some h = let more : 0 < suc a * n = mul-pos (omega arith) some in omega (arith, ints)
less_times (negsuc a) (negsuc b) n some h = let low : suc b < suc a = omega (arith, ints) in let more : suc b * n < suc a * n = mul-lt-mul_of_pos_right low some in omega (arith, ints)

pub less_cancel : (x y : ℤ) (n : ℕ) → 0 < n → (x *ℤ pos n) <ℤ (y *ℤ pos n) → x <ℤ y
less_cancel x y n some h =
    by_lt_z x y (λ less. less) (λ most.
    absurd (by_lt_z y x (λ more. let scaled = less_times y x n some more in omega (arith, ints)) (λ least. let same : x ≡ y = omega (arith, ints) in let scaled = ap (λ z. z *ℤ pos n) same in omega (arith, ints))))

pub less_trans : (x y z : ℤ) → x <ℤ y → y <ℤ z → x <ℤ z
less_trans x y z h k = omega (arith, ints)
