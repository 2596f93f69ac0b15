-- The greatest number that divides two numbers is divided by each number that divides both. Euclid's step, and Gauss's lemma.
use Rattle.std.proofs.Common.{◌≡◌, ℕ, zero, suc, ◌+◌, ◌*◌, ◌/◌, ◌%◌, ◌<◌, ◌≤◌, ◌==◌, ◌&&◌, Bool, true, false, cond, refl, sym, ap, subst, ◌∙◌, arith, eq-eqb, inl, inr}
use Rattle.std.specs.Int.{IsGcd, ◌∣◌}
use Rattle.std.proofs.lemmas.Nat.Gcd.{IsGcd-from_zero, IsGcd-from_mod, IsGcd-swap, same_from_IsGcd, dvd-zero, dvd_trans, dvd_antisymm, le_of_dvd, dvd_of_mod-eq-zero, mod-eq-zero_of_dvd}
use Rattle.std.proofs.Math.Nat.{mod-lt, dvd-mul_left, dvd-mul_right, dvd_of_mul-dvd-mul_left, mul-dvd-mul_left, pos_of_dvd_of_pos, mul_comm, eq-or-lt_of_le, mul-div_cancel', div-mul_cancel, eq_of_mul-eq-mul_left, eq_of_mul-eq-mul_right, eq-zero_of_zero-dvd, eq-one_of_dvd-one}
use borrow.Author.Tests.{eqb-true}
use Rattle.um_frac.specs.Gcd.{gcd, greatest_divisor, divides_both}

-- Euclid's steps lead to a greatest common divisor
euclid : (n a b : ℕ) → b ≤ n → (g : ℕ) × IsGcd a b g
euclid zero a b h = (a, IsGcd-from_zero a b (omega arith))
euclid (suc n) a zero h = (a, IsGcd-from_zero a zero refl)
euclid (suc n) a (suc b) h =
    let below : a % suc b < suc b = mod-lt a (omega arith) in
    let rest = euclid n (suc b) (a % suc b) (omega arith) in (rest.0, IsGcd-from_mod a (suc b) rest.0 rest.1)

both_true : (x y : Bool) → (x && y) ≡ true → (x ≡ true) × (y ≡ true)
both_true true y e = (refl, e)
both_true false y e = cc

divides : (d a b : ℕ) → divides_both d a b ≡ true → (d ∣ a) × (d ∣ b)
divides d a b e =
    let both = both_true (a % d == 0) (b % d == 0) e in
    (dvd_of_mod-eq-zero d (eqb-true (a % d) 0 both.0), dvd_of_mod-eq-zero d (eqb-true (b % d) 0 both.1))

is_tested : (d a b : ℕ) → d ∣ a → d ∣ b → divides_both d a b ≡ true
is_tested d a b h k =
    let e : (a % d == 0) ≡ true = eq-eqb (a % d) 0 (mod-eq-zero_of_dvd d h) in
    let f : (b % d == 0) ≡ true = eq-eqb (b % d) 0 (mod-eq-zero_of_dvd d k) in
    (λ i. e i && f i)

-- a greatest common divisor that is not n + 1 is below it
lower : (n a b g : ℕ) → IsGcd a b g → g ≤ suc n → divides_both (suc n) a b ≡ false → g ≤ n
lower n a b g is low e =
    elim (eq-or-lt_of_le low) [
      | inl same ↦ absurd (let found : divides_both (suc n) a b ≡ true = subst (λ d. divides_both d a b ≡ true) same (is_tested g a b is.0 is.1) in cc)
      | inr less ↦ omega arith
    ]

greatest : (n a b g : ℕ) → IsGcd a b g → 0 < g → g ≤ n → greatest_divisor n a b ≡ g
greatest zero a b g is up low = absurd (omega arith)
greatest (suc n) a b g is up low =
    elim (divides_both (suc n) a b) as (λ t. divides_both (suc n) a b ≡ t → cond t (suc n) (greatest_divisor n a b) ≡ g) [
      | true ↦ λ e. let both = divides (suc n) a b e in let most : suc n ≤ g = le_of_dvd up (is.2 (suc n) both.0 both.1) in omega arith
      | false ↦ λ e. greatest n a b g is up (lower n a b g is low e)
    ] refl

pub gcd-is : (a b : ℕ) → IsGcd a b (gcd a b)
unfolding gcd
gcd-is a zero = IsGcd-from_zero a zero refl
gcd-is a (suc b) =
    let some = euclid (suc b) a (suc b) (omega arith) in
    let up : 0 < some.0 = pos_of_dvd_of_pos some.1.1 (omega arith) in
    let low : some.0 ≤ suc b = le_of_dvd (omega arith) some.1.1 in
    subst (λ g. IsGcd a (suc b) g) (sym (greatest (suc b) a (suc b) some.0 some.1 up low)) some.1

pub gcd_from : (a b g : ℕ) → IsGcd a b g → gcd a b ≡ g
gcd_from a b g is = same_from_IsGcd a b (gcd a b) g (gcd-is a b) is

pub gcd_comm : (a b : ℕ) → gcd a b ≡ gcd b a
gcd_comm a b = gcd_from a b (gcd b a) (IsGcd-swap b a (gcd b a) (gcd-is b a))

pub gcd-zero : (a : ℕ) → gcd a 0 ≡ a
gcd-zero a = gcd_from a 0 a (IsGcd-from_zero a 0 refl)

pub gcd-none : (a b : ℕ) → b ≡ 0 → a ≡ gcd a b
gcd-none a b e = sym (gcd_from a b a (IsGcd-from_zero a b e))

pub gcd-one : (a : ℕ) → gcd a 1 ≡ 1
gcd-one a = let is = gcd-is a 1 in let low : gcd a 1 ≤ 1 = le_of_dvd (omega arith) is.1 in let up : 0 < gcd a 1 = pos_of_dvd_of_pos is.1 (omega arith) in omega arith

-- Euclid's step
pub gcd-mod : (a b : ℕ) → gcd b (a % b) ≡ gcd a b
gcd-mod a b = sym (gcd_from a b (gcd b (a % b)) (IsGcd-from_mod a b (gcd b (a % b)) (gcd-is b (a % b))))

-- ---- multiples
pub gcd-mul : (k a b : ℕ) → 0 < k → gcd (k * a) (k * b) ≡ k * gcd a b
gcd-mul k a b up =
    let is = gcd-is (k * a) (k * b) in
    let some = gcd-is a b in
    let whole : k * (gcd (k * a) (k * b) / k) ≡ gcd (k * a) (k * b) = mul-div_cancel' k (is.2 k (dvd-mul_right k a) (dvd-mul_right k b)) in
    let in_a : (gcd (k * a) (k * b) / k) ∣ a = dvd_of_mul-dvd-mul_left _ up (subst (λ g. g ∣ (k * a)) (sym whole) is.0) in
    let in_b : (gcd (k * a) (k * b) / k) ∣ b = dvd_of_mul-dvd-mul_left _ up (subst (λ g. g ∣ (k * b)) (sym whole) is.1) in
    dvd_antisymm
    (subst (λ g. g ∣ (k * gcd a b)) whole (mul-dvd-mul_left _ k (some.2 _ in_a in_b)))
    (is.2 (k * gcd a b) (mul-dvd-mul_left _ k some.0) (mul-dvd-mul_left _ k some.1))

-- Gauss's lemma
pub gauss : (a b c : ℕ) → gcd a b ≡ 1 → a ∣ (b * c) → a ∣ c
gauss a b zero e h = dvd-zero a
gauss a b (suc c) e h =
    let times : gcd (suc c * a) (suc c * b) ≡ suc c = gcd-mul (suc c) a b (omega arith) ∙ ap (λ g. suc c * g) e ∙ omega arith in
    subst (λ n. a ∣ n) times ((gcd-is (suc c * a) (suc c * b)).2 a (dvd-mul_left a (suc c)) (subst (λ n. a ∣ n) (mul_comm b (suc c)) h))

-- divided by their greatest common divisor, two numbers are in lowest terms
pub gcd-div : (a b : ℕ) → 0 < gcd a b → gcd (a / gcd a b) (b / gcd a b) ≡ 1
gcd-div a b up =
    let is = gcd-is a b in
    let first : gcd a b * (a / gcd a b) ≡ a = mul-div_cancel' (gcd a b) is.0 in
    let second : gcd a b * (b / gcd a b) ≡ b = mul-div_cancel' (gcd a b) is.1 in
    eq_of_mul-eq-mul_left (gcd a b) up (gcd (a / gcd a b) (b / gcd a b)) 1
    (sym (gcd-mul (gcd a b) (a / gcd a b) (b / gcd a b) up) ∙ (λ i. gcd (first i) (second i)) ∙ omega arith)

-- the greatest common divisor of two numbers that are not both 0 isn't 0
pub gcd_above : (a b g : ℕ) → g ≡ gcd a b → 0 < a + b → 0 < g
gcd_above a b zero e h = absurd (let is = gcd-is a b in let first : a ≡ 0 = eq-zero_of_zero-dvd (subst (λ g. g ∣ a) (sym e) is.0) in let second : b ≡ 0 = eq-zero_of_zero-dvd (subst (λ g. g ∣ b) (sym e) is.1) in omega arith)
gcd_above a b (suc g) e h = omega arith

pub gcd_up : (a b : ℕ) → 0 < b → 0 < gcd a b
gcd_up a b h = pos_of_dvd_of_pos (gcd-is a b).1 h

-- two fractions in lowest terms with equal cross products have equal parts
pub same_terms : (p q r s : ℕ) → gcd p q ≡ 1 → gcd r s ≡ 1 → 0 < q → p * s ≡ r * q → (p ≡ r) × (q ≡ s)
same_terms p q r s e f up cross =
    let into : q ∣ s = gauss q p s (gcd_comm q p ∙ e) (subst (λ n. q ∣ n) (sym cross) (dvd-mul_left q r)) in
    let back : s ∣ q = gauss s r q (gcd_comm s r ∙ f) (subst (λ n. s ∣ n) cross (dvd-mul_left s p)) in
    let same : q ≡ s = dvd_antisymm into back in
    (eq_of_mul-eq-mul_right q up p r (ap (λ n. p * n) same ∙ cross), same)

-- a divisor's quotient divides
pub part_divides : (g n : ℕ) → g ∣ n → (n / g) ∣ n
part_divides g n h = subst (λ k. (n / g) ∣ k) (div-mul_cancel g h) (dvd-mul_right (n / g) g)

pub factor_up : (g e d : ℕ) → g * e ≡ d → 0 < d → 0 < e
factor_up g zero d e h = absurd (omega arith)
factor_up g (suc e) d f h = omega arith

-- the greatest common divisor is in a number above 0 at least once
pub quotient_up : (a b : ℕ) → 0 < b → 0 < b / gcd a b
quotient_up a b h = factor_up (gcd a b) (b / gcd a b) b (mul-div_cancel' (gcd a b) (gcd-is a b).1) h

-- ---- numbers with no common divisor
pub coprime_left : (a b c : ℕ) → gcd a b ≡ 1 → c ∣ a → gcd c b ≡ 1
coprime_left a b c e h =
    let is = gcd-is c b in
    eq-one_of_dvd-one (subst (λ n. gcd c b ∣ n) e ((gcd-is a b).2 (gcd c b) (dvd_trans (gcd c b) is.0 h) is.1))

pub coprime_right : (a b c : ℕ) → gcd a b ≡ 1 → c ∣ b → gcd a c ≡ 1
coprime_right a b c e h = gcd_comm a c ∙ coprime_left b a c (gcd_comm b a ∙ e) h

pub coprime_times : (a b c : ℕ) → gcd a b ≡ 1 → gcd a c ≡ 1 → gcd a (b * c) ≡ 1
coprime_times a b c e f =
    let is = gcd-is a (b * c) in
    let apart : gcd (gcd a (b * c)) b ≡ 1 = coprime_left a b (gcd a (b * c)) e is.0 in
    let into : gcd a (b * c) ∣ c = gauss (gcd a (b * c)) b c apart is.1 in
    eq-one_of_dvd-one (subst (λ n. gcd a (b * c) ∣ n) f ((gcd-is a c).2 (gcd a (b * c)) is.0 into))

pub coprime_products : (a b c d : ℕ) → gcd a c ≡ 1 → gcd a d ≡ 1 → gcd b c ≡ 1 → gcd b d ≡ 1 → gcd (a * b) (c * d) ≡ 1
coprime_products a b c d e f g h =
    gcd_comm (a * b) (c * d) ∙ coprime_times (c * d) a b (gcd_comm (c * d) a ∙ coprime_times a c d e f) (gcd_comm (c * d) b ∙ coprime_times b c d g h)
