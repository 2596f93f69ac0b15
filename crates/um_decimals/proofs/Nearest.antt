-- The nearest whole number: that the one taken is nearest, that there is one, and how large it is.
use Rattle.std.proofs.Common.{◌≡◌, ℕ, zero, suc, ◌+◌, ◌-◌, ◌*◌, ◌/◌, ◌%◌, ◌<◌, ◌≤◌, Bool, true, false, cond, eqb, ltb, inl, inr, refl, sym, ap, ◌∙◌, subst, arith, eqb-true}
use Rattle.std.specs.Prelude.{◌⊎◌}
use Rattle.std.proofs.Math.Nat.{mod-lt, mul-mod_left}
use Rattle.std.proofs.lemmas.Nat.{div-add-mod'}
use Rattle.std.proofs.lemmas.Bool.{ltb-true, ltb-false, eq-eqb}
use Rattle.um_decimals.specs.Decimals.{nearest}
use Rattle.um_decimals.specs.Laws.{IsNearest, NearestIsNearest, OneIsNearest}

one_more : (q d : ℕ) → (q + 1) * d ≡ q * d + d
one_more q d = grind arith

-- a quotient with its rest below a half, above it, and at it
below_half : (n d q r : ℕ) → q * d + r ≡ n → 2 * r < d → IsNearest n d q
below_half n d q r split less = record {
  above = omega (arith, split, less);
  below = omega (arith, split, less);
  even = λ tie. absurd (by tie);
} where
  by : (2 * (q * d) ≡ 2 * n + d) ⊎ (2 * n ≡ 2 * (q * d) + d) → ⊥
  by (inl e) = omega (arith, split, less, e)
  by (inr e) = omega (arith, split, less, e)

above_half : (n d q r : ℕ) → q * d + r ≡ n → d < 2 * r → r < d → IsNearest n d (q + 1)
above_half n d q r split more rest =
    let m = one_more q d in
    record { above = omega (arith, split, more, rest, m); below = omega (arith, split, more, rest, m); even = λ tie. absurd (by m tie) }
  where
    by : (q + 1) * d ≡ q * d + d → (2 * ((q + 1) * d) ≡ 2 * n + d) ⊎ (2 * n ≡ 2 * ((q + 1) * d) + d) → ⊥
    by m (inl e) = omega (arith, split, more, rest, m, e)
    by m (inr e) = omega (arith, split, more, rest, m, e)

at_half : (n d q r k : ℕ) → q * d + r ≡ n → 2 * r ≡ d → q % 2 ≡ k → k < 2 → IsNearest n d (q + k)
at_half n d q r zero split half parity less =
    let same : q + 0 ≡ q = omega arith in
    subst (IsNearest n d) (sym same) (record { above = omega (arith, split, half); below = omega (arith, split, half); even = λ tie. parity })
at_half n d q r (suc zero) split half parity less =
    let m = one_more q d in
    record { above = omega (arith, split, half, m); below = omega (arith, split, half, m); even = λ tie. omega (arith, parity) }
at_half n d q r (suc (suc k)) split half parity less = absurd (omega (arith, less))

by_tests : (n d : ℕ) (b c : Bool) → 0 < d → ltb (2 * (n % d)) d ≡ b → ltb d (2 * (n % d)) ≡ c
    → IsNearest n d (cond b (n / d) (cond c (n / d + 1) (n / d + n / d % 2)))
by_tests n d true c positive e f = below_half n d (n / d) (n % d) (div-add-mod' n d) (ltb-true (2 * (n % d)) d e)
by_tests n d false true positive e f = above_half n d (n / d) (n % d) (div-add-mod' n d) (ltb-true d (2 * (n % d)) f) (mod-lt n positive)
by_tests n d false false positive e f =
    let least = ltb-false (2 * (n % d)) d e in
    let most = ltb-false d (2 * (n % d)) f in
    at_half n d (n / d) (n % d) (n / d % 2) (div-add-mod' n d) (omega (arith, least, most)) refl (omega arith)

pub nearest_is_nearest : NearestIsNearest
nearest_is_nearest n d positive = by_tests n d _ _ positive refl refl

-- ---- there is one

tie_apart : (d m k j : ℕ) → 0 < d → j * d ≡ 0 → k ≡ m + 1 + j → m % 2 ≡ 0 → k % 2 ≡ 0 → ⊥
tie_apart d m k zero positive none e parity other = omega (arith, e, parity, other)
tie_apart d m k (suc j) positive none e parity other =
    let more : suc j * d ≡ j * d + d = grind arith in
    omega (arith, none, more, positive)

-- of two nearest numbers none is smaller
apart : (n d m k : ℕ) → 0 < d → IsNearest n d m → IsNearest n d k → m < k → ⊥
apart n d m k positive first second less =
    let e : k ≡ m + 1 + (k - (m + 1)) = omega (arith, less) in
    let whole : k * d ≡ m * d + d + (k - (m + 1)) * d = ap (λ x. x * d) e ∙ products m (k - (m + 1)) d in
    let most = second.above in
    let least = first.below in
    let none : (k - (m + 1)) * d ≡ 0 = omega (arith, whole, most, least) in
    tie_apart d m k (k - (m + 1)) positive none e
    (first.even (inr (omega (arith, whole, most, least)))) (second.even (inl (omega (arith, whole, most, least))))
  where
    products : (m j d : ℕ) → (m + 1 + j) * d ≡ m * d + d + j * d
    products m j d = grind arith

pub one_is_nearest : OneIsNearest
one_is_nearest n d m k positive first second = by (ltb m k) (ltb k m) refl refl where
  by : (b c : Bool) → ltb m k ≡ b → ltb k m ≡ c → m ≡ k
  by true c e f = absurd (apart n d m k positive first second (ltb-true m k e))
  by false true e f = absurd (apart n d k m positive second first (ltb-true k m f))
  by false false e f =
      let least = ltb-false m k e in
      let most = ltb-false k m f in
      omega (arith, least, most)

-- ---- how large it is, and when it is the quotient itself

pub nearest_small : (n d : ℕ) → 0 < d → nearest n d ≤ n + 1
nearest_small n d positive =
    let close = (nearest_is_nearest n d positive).above in
    let more : nearest n d ≤ nearest n d * d = at_least (nearest n d) d positive in
    bound (nearest n d) close positive
  where
    at_least : (m d : ℕ) → 0 < d → m ≤ m * d
    at_least m zero positive = absurd (omega (arith, positive))
    at_least m (suc d) positive = let e : m * suc d ≡ m + m * d = grind arith in omega (arith, e)

    bound : (m : ℕ) → 2 * (m * d) ≤ 2 * n + d → 0 < d → m ≤ n + 1
    bound zero close positive = omega arith
    bound (suc m) close positive =
        let e : suc m * d ≡ m * d + d = grind arith in
        let more = at_least m d positive in
        omega (arith, close, e, more)

-- the quotient has no rest exactly if the nearest number is the quotient
pub exact_by_rest : (n d : ℕ) → 0 < d → eqb (nearest n d * d) n ≡ eqb (n % d) 0
exact_by_rest n d positive = by (eqb (n % d) 0) (eqb (nearest n d * d) n) refl refl where
  whole : n % d ≡ 0 → nearest n d * d ≡ n
  whole none =
      let split = div-add-mod' n d in
      let near : IsNearest n d (n / d) = below_half n d (n / d) (n % d) split (omega (arith, none, positive)) in
      let same : nearest n d ≡ n / d = one_is_nearest n d (nearest n d) (n / d) positive (nearest_is_nearest n d positive) near in
      ap (λ m. m * d) same ∙ omega (arith, split, none)

  none_left : nearest n d * d ≡ n → n % d ≡ 0
  none_left e = ap (λ m. m % d) (sym e) ∙ mul-mod_left (nearest n d) d

  by : (b c : Bool) → eqb (n % d) 0 ≡ b → eqb (nearest n d * d) n ≡ c → eqb (nearest n d * d) n ≡ eqb (n % d) 0
  by true true e f = f ∙ sym e
  by false false e f = f ∙ sym e
  by true false e f = absurd (cc (sym f ∙ eq-eqb (nearest n d * d) n (whole (eqb-true (n % d) 0 e))))
  by false true e f = absurd (cc (sym e ∙ eq-eqb (n % d) 0 (none_left (eqb-true (nearest n d * d) n f))))
