-- What `reduced` gives: exactly the fraction that is the quotient, where there is one.
use Rattle.std.proofs.Common.{◌≡◌, ◌≢◌, ℕ, zero, suc, ◌*◌, ◌/◌, ◌<◌, ◌≤◌, ◌==◌, Bool, true, false, T, ℤ, pos, negsuc, ◌*ℤ◌, neg_ℤ, ◌≤ℤ◌, unsigned_abs, FitsSigned, w64, to_z, of_z, Option, None, Some, refl, sym, ap, subst, ◌∙◌, arith}
use Rattle.std.specs.Int.{◌∣◌}
use Rattle.std.specs.Prelude.{int_le, int_lt, int_div, int_rem, not, nat_lt, IfSome, IsNone, ◌↔◌}
use Rattle.std.proofs.lemmas.Bool.Decides.{nat_tests}
use mathlib.Core.Bool.{beq}
use Rattle.std.proofs.lemmas.Int.{ints, quot-rem, unsigned_abs-mul, fits_signed_from_abs, to_z-of_z}
use Rattle.std.proofs.lemmas.Nat.Gcd.{mod-eq-zero_of_dvd}
use Rattle.std.proofs.Math.Nat.{mul-div_cancel', zero-div, mul_comm}
use mathlib.Core.HLevel.{Σ_prop_path}
use lib.Dec.{T_prop, eqb_refl}
use lib.IntN.{*ℤ_comm, *ℤ-negsuc, neg_ℤ-neg_ℤ}
use Rattle.std.specs.Coded.{Coded-set, coded_ℕ}
use Rattle.um_frac.specs.Range.{greatest}
use Rattle.um_frac.specs.declared.number.Frac.{Frac}
use Rattle.um_frac.specs.Gcd.{gcd}
use Rattle.um_frac.specs.Fraction.{numerator, denominator, IsQuotient, Fits, where_true, signed, fraction, divided, reduced}
use Rattle.um_frac.proofs.Gcd.{gcd-is, gcd-div, gcd_up, quotient_up, same_terms}
use Rattle.um_frac.proofs.Integers.{*ℤ_assoc, neg_ℤ-*ℤ, cancel, cross}

abbrev Facts : ℤ × ℤ → Type 0
Facts p = (pos 1 ≤ℤ p.1) × (p.1 ≤ℤ pos greatest) × (neg_ℤ (pos greatest) ≤ℤ p.0) × (p.0 ≤ℤ pos greatest) × (gcd (unsigned_abs p.0) (unsigned_abs p.1) ≡ 1)

facts_prop : (p : ℤ × ℤ) → IsProp (Facts p)
facts_prop p = hlevel (T_prop, Coded-set coded_ℕ)

-- fractions with equal parts are equal
pub same_parts : (a b : Frac) → numerator a ≡ numerator b → denominator a ≡ denominator b → a ≡ b
same_parts a b e f =
    let both : ◌≡◌ {A = (p : ℤ × ℤ) × Facts p} ((a.num, a.den), (a.positive, a.den_fits, a.above, a.num_fits, a.lowest)) ((b.num, b.den), (b.positive, b.den_fits, b.above, b.num_fits, b.lowest)) = Σ_prop_path facts_prop (λ i. (e i, f i)) in
    λ i. record { num = (both i).0.0; den = (both i).0.1; positive = (both i).1.0; den_fits = (both i).1.1; above = (both i).1.2; num_fits = (both i).1.3; lowest = (both i).1.4 }

-- ---- `where_true`
true_case : {A : Type 0} (test : Bool) (f : T test → Option A) (r : A) → where_true test f ≡ Some r → (h : T test) × (f h ≡ Some r)
true_case true f r e = (tt, e)
true_case false f r e = cc

holds_case : {A : Type 0} (test : Bool) (f : T test → Option A) (h : T test) → where_true test f ≡ f h
holds_case true f h = refl
holds_case false f h = absurd h

pub some_is : (a b : Frac) → Some a ≡ Some b → a ≡ b
some_is a b e = cc

-- ---- `fraction`
-- the fraction with these parts has these parts
pub fraction-parts : (p q : ℤ) (r : Frac) → fraction p q ≡ Some r → (numerator r ≡ p) × (denominator r ≡ q)
unfolding fraction
fraction-parts p q r e =
    let e1 = true_case (int_le (pos 1) q) _ r e in
    let e2 = true_case (int_le q (pos greatest)) _ r e1.1 in
    let e3 = true_case (int_le (neg_ℤ (pos greatest)) p) _ r e2.1 in
    let e4 = true_case (int_le p (pos greatest)) _ r e3.1 in
    let e5 = true_case (gcd (unsigned_abs p) (unsigned_abs q) == 1) _ r e4.1 in
    let same = some_is _ r e5.1 in (sym (ap numerator same), sym (ap denominator same))

-- each fraction is the one with its parts
pub fraction-is : (r : Frac) → fraction (numerator r) (denominator r) ≡ Some r
unfolding fraction
fraction-is r =
    holds_case (int_le (pos 1) r.den) _ r.positive.le ∙ holds_case (int_le r.den (pos greatest)) _ r.den_fits.le ∙ holds_case (int_le (neg_ℤ (pos greatest)) r.num) _ r.above.le ∙ holds_case (int_le r.num (pos greatest)) _ r.num_fits.le ∙ holds_case (gcd (unsigned_abs r.num) (unsigned_abs r.den) == 1) _ (subst (λ g. T (gcd (unsigned_abs r.num) (unsigned_abs r.den) == g)) r.lowest (eqb_refl (gcd (unsigned_abs r.num) (unsigned_abs r.den)))) ∙ ap Some (same_parts _ r refl refl)

-- ---- `reduced`
pub neg_abs : (z : ℤ) → unsigned_abs (neg_ℤ z) ≡ unsigned_abs z
neg_abs (pos zero) = refl
neg_abs (pos (suc n)) = refl
neg_abs (negsuc n) = refl

div_abs : (n : ℤ) (g : ℕ) → unsigned_abs (int_div n (pos g)) ≡ unsigned_abs n / g
div_abs (pos n) g = refl
div_abs (negsuc n) g = neg_abs (pos (suc n / g))

rem_none : (n : ℤ) (g : ℕ) → g ∣ unsigned_abs n → int_rem n (pos g) ≡ pos 0
rem_none (pos n) g h = ap pos (mod-eq-zero_of_dvd g h)
rem_none (negsuc n) g h = ap (λ m. neg_ℤ (pos m)) (mod-eq-zero_of_dvd g h)

div_whole : (n : ℤ) (g : ℕ) → g ∣ unsigned_abs n → int_div n (pos g) *ℤ pos g ≡ n
div_whole n g h = let e = quot-rem n (pos g) in let none = rem_none n g h in omega (arith, ints)

-- p and q are n / d in lowest terms
pub record AreTerms (n d p : ℤ) (q : ℕ) : Type 0 where
  pub above : 0 < q
  pub lowest : gcd (unsigned_abs p) q ≡ 1
  pub equal : p *ℤ d ≡ n *ℤ pos q

-- both divided by their greatest common divisor are in lowest terms
pub divided_terms : (n : ℤ) (d : ℕ) → 0 < d → AreTerms n (pos d) (int_div n (pos (gcd (unsigned_abs n) d))) (d / gcd (unsigned_abs n) d)
divided_terms n d h =
    let g = gcd (unsigned_abs n) d in
    let up : 0 < g = gcd_up (unsigned_abs n) d h in
    let is = gcd-is (unsigned_abs n) d in
    let whole : g * (d / g) ≡ d = mul-div_cancel' g is.1 in
    record {
      above = quotient_up (unsigned_abs n) d h;
      lowest = ap (λ m. gcd m (d / g)) (div_abs n g) ∙ gcd-div (unsigned_abs n) d up;
      equal = ap (λ m. int_div n (pos g) *ℤ pos m) (sym whole) ∙ sym (*ℤ_assoc (int_div n (pos g)) (pos g) (pos (d / g))) ∙ ap (λ m. m *ℤ pos (d / g)) (div_whole n g is.0);
    }

-- the terms of n / d, with which `reduced` begins
pub reduced_terms : (n d : ℤ) → d ≢ pos 0 → (p : ℤ) × (q : ℕ) × AreTerms n d p q × (reduced n d ≡ fraction p (pos q))
unfolding reduced divided
reduced_terms n (pos zero) other = absurd (other refl)
reduced_terms n (pos (suc d)) other = (int_div n (pos (gcd (unsigned_abs n) (suc d))), suc d / gcd (unsigned_abs n) (suc d), divided_terms n (suc d) (omega arith), refl)
reduced_terms n (negsuc d) other =
    let terms = divided_terms (neg_ℤ n) (suc d) (omega arith) in
    let p = int_div (neg_ℤ n) (pos (gcd (unsigned_abs (neg_ℤ n)) (suc d))) in
    let q = suc d / gcd (unsigned_abs (neg_ℤ n)) (suc d) in
    (p, q, record { above = terms.above; lowest = terms.lowest; equal = *ℤ-negsuc p d ∙ ap neg_ℤ (terms.equal ∙ neg_ℤ-*ℤ n (pos q)) ∙ neg_ℤ-neg_ℤ (n *ℤ pos q) }, refl)

-- an integer above 0 is a number above 0
pub above_zero : (z : ℤ) → pos 1 ≤ℤ z → (n : ℕ) × (z ≡ pos n) × (0 < n)
above_zero (pos n) h = (n, refl, omega (arith, ints))
above_zero (negsuc n) h = absurd (omega (arith, ints))

cancel_size : (p r : ℤ) (q : ℕ) → 0 < q → p *ℤ pos q ≡ r *ℤ pos q → p ≡ r
cancel_size p r zero up e = absurd (omega arith)
cancel_size p r (suc q) up e = cancel p r (pos (suc q)) (λ f. cc) e

-- the terms of a quotient are one pair
pub same_fraction : (n d p r : ℤ) (q s : ℕ) → d ≢ pos 0 → AreTerms n d p q → AreTerms n d r s → (p ≡ r) × (q ≡ s)
same_fraction n d p r q s other one two =
    let crossed : p *ℤ pos s ≡ r *ℤ pos q = cross n d p (pos q) r (pos s) other one.equal two.equal in
    let sizes : unsigned_abs p * s ≡ unsigned_abs r * q = sym (unsigned_abs-mul p (pos s)) ∙ ap unsigned_abs crossed ∙ unsigned_abs-mul r (pos q) in
    let same : q ≡ s = (same_terms (unsigned_abs p) q (unsigned_abs r) s one.lowest two.lowest one.above sizes).1 in
    (cancel_size p r q one.above (ap (λ m. p *ℤ pos m) same ∙ crossed), same)

-- the parts of a fraction are the terms of each quotient that it is
pub fraction_terms : (r : Frac) (n d : ℤ) → IsQuotient r n d → (s : ℕ) × (denominator r ≡ pos s) × AreTerms n d (numerator r) s
fraction_terms r n d is =
    let den = above_zero r.den r.positive in (
      den.0,
      den.1,
      record {
        above = den.2;
        lowest = ap (λ z. gcd (unsigned_abs r.num) (unsigned_abs z)) (sym den.1) ∙ r.lowest;
        equal = is.1 ∙ ap (λ z. n *ℤ z) den.1;
      },
    )

-- a fraction that is the quotient is what `reduced` gives
pub reduced_from : (r : Frac) (n d : ℤ) → IsQuotient r n d → reduced n d ≡ Some r
reduced_from r n d is =
    let given = reduced_terms n d is.0 in
    let own = fraction_terms r n d is in
    let same = same_fraction n d given.0 (numerator r) given.1 own.0 is.0 given.2 own.2 in
    given.3 ∙ (λ i. fraction (same.0 i) (((ap pos same.1) ∙ sym own.1) i)) ∙ fraction-is r

-- there is no quotient by 0
pub reduced-zero : (n : ℤ) → reduced n (pos 0) ≡ None
unfolding reduced
reduced-zero n = refl

exact_apart : (n d : ℤ) (r : Frac) → d ≢ pos 0 → reduced n d ≡ Some r → IsQuotient r n d
exact_apart n d r other e =
    let given = reduced_terms n d other in
    let parts = fraction-parts given.0 (pos given.1) r (sym given.3 ∙ e) in
    (other, (λ i. parts.0 i *ℤ d) ∙ given.2.equal ∙ (λ i. n *ℤ sym parts.1 i))

-- what `reduced` gives is the quotient
pub reduced_exact : (n d : ℤ) (r : Frac) → reduced n d ≡ Some r → IsQuotient r n d
reduced_exact n (pos zero) r e = absurd (let none = reduced-zero n in cc)
reduced_exact n (pos (suc d)) r e = exact_apart n (pos (suc d)) r (λ f. cc) e
reduced_exact n (negsuc d) r e = exact_apart n (negsuc d) r (λ f. cc) e

pub reduced_none : (n d : ℤ) → ¬ Fits n d → reduced n d ≡ None
reduced_none n d none = by_cases (reduced n d) refl
  where
    by_cases : (o : Option Frac) → reduced n d ≡ o → reduced n d ≡ None
    by_cases None e = e
    by_cases (Some r) e = absurd (none (r, reduced_exact n d r e))

-- a quotient whose terms are no fraction of the range isn't a number
pub not_fits : (n d p : ℤ) (q : ℕ) → d ≢ pos 0 → AreTerms n d p q → ((r : Frac) → numerator r ≡ p → denominator r ≡ pos q → ⊥) → ¬ Fits n d
not_fits n d p q other terms none fit =
    let own = fraction_terms fit.0 n d fit.1 in
    let same = same_fraction n d p (numerator fit.0) q own.0 other terms own.2 in
    none fit.0 (sym same.0) (own.1 ∙ ap pos (sym same.1))

-- terms of the quotient give what `reduced` gives
pub reduced_is : (n d p : ℤ) (q : ℕ) → d ≢ pos 0 → AreTerms n d p q → reduced n d ≡ fraction p (pos q)
reduced_is n d p q other terms =
    let given = reduced_terms n d other in
    let same = same_fraction n d given.0 p given.1 q other given.2 terms in given.3 ∙ (λ i. fraction (same.0 i) (pos (same.1 i)))

-- quotients with equal cross products are one number
pub reduced_same : (n d m e : ℤ) → d ≢ pos 0 → e ≢ pos 0 → n *ℤ e ≡ m *ℤ d → reduced n d ≡ reduced m e
reduced_same n d m e other more same =
    let given = reduced_terms m e more in
    reduced_is n d given.0 given.1 other (record { above = given.2.above; lowest = given.2.lowest; equal = cross m e given.0 (pos given.1) n d more given.2.equal same }) ∙ sym given.3

-- parts that no fraction of the range has make no fraction
pub fraction_none : (p q : ℤ) → ((r : Frac) → numerator r ≡ p → denominator r ≡ q → ⊥) → fraction p q ≡ None
fraction_none p q none = by_cases (fraction p q) refl
  where
    by_cases : (o : Option Frac) → fraction p q ≡ o → fraction p q ≡ None
    by_cases None e = e
    by_cases (Some r) e = let parts = fraction-parts p q r e in absurd (none r parts.0 parts.1)

-- a fraction with these parts is the one that they make
pub fraction_from : (p q : ℤ) (r : Frac) → numerator r ≡ p → denominator r ≡ q → Some r ≡ fraction p q
fraction_from p q r e f = sym (fraction-is r) ∙ (λ i. fraction (e i) (f i))

-- `reduced` answers nothing exactly where the quotient is no number of the range
pub reduced_fits : (n d : ℤ) → (reduced n d ≡ None → ¬ Fits n d) × (¬ Fits n d → reduced n d ≡ None)
reduced_fits n d = ((λ e fit. let same = reduced_from fit.0 n d fit.1 in cc), reduced_none n d)

-- ---- a numerator by its sign and its size
pub signed_abs : (b : Bool) (n : ℕ) → unsigned_abs (signed b n) ≡ n
signed_abs false n = refl
signed_abs true n = neg_abs (pos n)

signed_div : (b : Bool) (n g : ℕ) → int_div (signed b n) (pos g) ≡ signed b (n / g)
signed_div false n g = refl
signed_div true zero g = ap pos (zero-div g) ∙ ap (λ m. neg_ℤ (pos m)) (sym (zero-div g))
signed_div true (suc n) g = refl

pub reduced-signed : (b : Bool) (n d : ℕ) → 0 < d → reduced (signed b n) (pos d) ≡ fraction (signed b (n / gcd n d)) (pos (d / gcd n d))
unfolding reduced divided
reduced-signed b n zero h = absurd (omega arith)
reduced-signed b n (suc d) h =
    ap (λ m. fraction (int_div (signed b n) (pos (gcd m (suc d)))) (pos (suc d / gcd m (suc d)))) (signed_abs b n) ∙ ap (λ p. fraction p (pos (suc d / gcd n (suc d)))) (signed_div b n (gcd n (suc d)))

pub below_none : (n : ℕ) → nat_lt n 0 ≡ false
below_none n = grind (arith, nat_tests)

-- the sign of a quotient is a minus exactly where the signs of its terms differ
pub reduced_signs : (n d : ℤ) → reduced (signed (not (beq (int_lt n (pos 0)) (int_lt d (pos 0)))) (unsigned_abs n)) (pos (unsigned_abs d)) ≡ reduced n d
unfolding reduced
reduced_signs (pos n) (pos d) = λ i. reduced (signed (not (beq (below_none n i) (below_none d i))) n) (pos d)
reduced_signs (pos n) (negsuc d) = λ i. reduced (signed (not (beq (below_none n i) true)) n) (pos (suc d))
reduced_signs (negsuc n) (pos d) = λ i. reduced (signed (not (beq true (below_none d i))) (suc n)) (pos d)
reduced_signs (negsuc n) (negsuc d) = refl

-- a numerator past the range is none
pub wide_numerator : (b : Bool) (n : ℕ) (r : Frac) → greatest < n → numerator r ≡ signed b n → ⊥
wide_numerator false n r wide e = let high = r.num_fits in omega (arith, ints, e)
wide_numerator true n r wide e = let low = r.above in omega (arith, ints, e)

-- and neither is a denominator
pub wide_denominator : (n : ℕ) (r : Frac) → greatest < n → denominator r ≡ pos n → ⊥
wide_denominator n r wide e = let high = r.den_fits in omega (arith, ints, e)

-- `reduced` of the signs and sizes that the code has
pub reduced_sizes : (n d n' d' : ℤ) (a b : ℕ) (r : Option Frac) → n' ≡ n → d' ≡ d → a ≡ unsigned_abs n' → b ≡ unsigned_abs d' → r ≡ reduced (signed (not (beq (int_lt n' (pos 0)) (int_lt d' (pos 0)))) a) (pos b) → r ≡ reduced n d
reduced_sizes n d n' d' a b r e f g h given =
    given ∙ (λ i. reduced (signed (not (beq (int_lt n' (pos 0)) (int_lt d' (pos 0)))) (g i)) (pos (h i))) ∙ reduced_signs n' d' ∙ (λ i. reduced (e i) (f i))

-- the facts of a value that is what `reduced` gives
pub some_quotient : (n d : ℤ) (r : Option Frac) → r ≡ reduced n d → IfSome r (λ x. IsQuotient x n d)
some_quotient n d None e = tt
some_quotient n d (Some r) e = reduced_exact n d r (sym e)

pub none_fits : (n d : ℤ) (r : Option Frac) → r ≡ reduced n d → IsNone r ↔ (¬ Fits n d)
none_fits n d None e = ((λ h. (reduced_fits n d).0 (sym e)), (λ h. refl))
none_fits n d (Some r) e = ((λ h. cc), (λ h. absurd (let none = reduced_none n d h in cc)))

pub signed_from : (b : Bool) (n : ℕ) (z : ℤ) → (b ≡ true → z ≡ neg_ℤ (pos n)) → (b ≡ false → z ≡ pos n) → z ≡ signed b n
signed_from false n z f g = g refl
signed_from true n z f g = f refl

pub signed_size : (z : ℤ) → signed (int_lt z (pos 0)) (unsigned_abs z) ≡ z
signed_size (pos n) = ap (λ b. signed b n) (below_none n)
signed_size (negsuc n) = refl

pub signed_times : (b : Bool) (m n : ℕ) → signed b m *ℤ pos n ≡ signed b (m * n)
signed_times false m n = refl
signed_times true zero n = omega (arith, ints)
signed_times true (suc m) n = omega (arith, ints)

pub signed_mul : (b c : Bool) (m n : ℕ) → signed b m *ℤ signed c n ≡ signed (not (beq b c)) (m * n)
signed_mul false false m n = refl
signed_mul true false m n = signed_times true m n
signed_mul false true m n = *ℤ_comm (pos m) (neg_ℤ (pos n)) ∙ signed_times true n m ∙ ap (λ k. neg_ℤ (pos k)) (mul_comm n m)
signed_mul true true zero n = omega (arith, ints)
signed_mul true true (suc m) zero = omega (arith, ints)
signed_mul true true (suc m) (suc n) = refl

-- ---- the parts of a fraction as machine numbers
small_size : (z : ℤ) → neg_ℤ (pos greatest) ≤ℤ z → z ≤ℤ pos greatest → unsigned_abs z ≤ greatest
small_size (pos n) low high = omega (arith, ints)
small_size (negsuc n) low high = omega (arith, ints)

pub num_size : (r : Frac) → unsigned_abs (numerator r) ≤ greatest
num_size r = small_size r.num r.above r.num_fits

pub den_size : (r : Frac) → unsigned_abs (denominator r) ≤ greatest
den_size r = small_size r.den (let up = r.positive in omega (arith, ints)) r.den_fits

pub num_wide : (r : Frac) → FitsSigned w64 (numerator r)
num_wide r = let low = num_size r in fits_signed_from_abs w64 r.num (omega arith)

pub den_wide : (r : Frac) → FitsSigned w64 (denominator r)
den_wide r = let low = den_size r in fits_signed_from_abs w64 r.den (omega arith)

pub num_read : (r : Frac) → to_z w64 (of_z w64 (numerator r)) ≡ numerator r
num_read r = to_z-of_z w64 (numerator r) (num_wide r)

pub den_read : (r : Frac) → to_z w64 (of_z w64 (denominator r)) ≡ denominator r
den_read r = to_z-of_z w64 (denominator r) (den_wide r)
