-- What the operations' definitions say, by cross products.
use Rattle.std.proofs.Common.{neg_ℤ, ◌≡◌, ◌≢◌, ◌↔◌, zero, suc, ◌*◌, ◌<◌, ◌≤◌, true, false, ℤ, pos, negsuc, ◌+ℤ◌, ◌-ℤ◌, ◌*ℤ◌, ◌≤ℤ◌, ◌<ℤ◌, unsigned_abs, Option, None, Some, Result, Ok, Err, IfOk, IsTrue, refl, sym, ap, subst, ◌∙◌, arith}
use Rattle.std.specs.Option.{ok_or}
use Rattle.std.proofs.lemmas.Int.{ints}
use Rattle.std.proofs.lemmas.Int.{to_z-of_z}
use Rattle.std.proofs.lemmas.Bool.Decides.{Decides-int_eq}
use Rattle.std.specs.Prelude.{int_lt, Bool, T, FitsSigned}
use Rattle.std.proofs.Common.{neg_ℤ, to_z, of_z, w64}
use Rattle.std.specs.Bool.{one_answer}
use lib.Signed.{lt_z_yes}
use lib.IntN.{*ℤ-zero, ℤ_discrete}
use Rattle.um_frac.specs.Range.{greatest}
use Rattle.um_frac.specs.declared.number.Frac.{Frac}
use Rattle.um_frac.specs.declared.number.Trap.{Trap}
use Rattle.um_frac.specs.declared.number.Trap.TheVariants.{Overflow, DivZero}
use Rattle.um_frac.specs.Gcd.{gcd}
use Rattle.um_frac.specs.Fraction.{numerator, denominator, IsQuotient, reduced, fraction}
use Rattle.um_frac.specs.Arithmetic.{exactly, divided_by, sum_of, difference_of, product_of, quotient_of, is_same, IsSum, IsDifference, IsProduct, IsRatio, IsNegation}
use Rattle.um_frac.proofs.Gcd.{gcd-one, gcd_comm}
use Rattle.um_frac.proofs.Integers.{*ℤ-pos_one, times_four, *ℤ-ne-zero, neg_ℤ-*ℤ}
use Rattle.um_frac.proofs.LowestTerms.{above_zero, reduced_is, reduced_same, reduced_from, reduced_exact, reduced_none, num_size, den_size}

-- ---- an exact outcome n / d
pub exact_ok : (n d : ℤ) (o : Result Frac Trap) → o ≡ exactly n d → IfOk o (λ r. numerator r *ℤ d ≡ n *ℤ denominator r)
exact_ok n d (Ok r) e = (reduced_exact n d r (found n d r (reduced n d) e)).1
  where
    found : (n d : ℤ) (r : Frac) (o : Option Frac) → Ok r ≡ ok_or o Overflow → o ≡ Some r
    found n d r None e = cc
    found n d r (Some s) e = cc
exact_ok n d (Err t) e = tt

pub exact_overflow : (n d : ℤ) (o : Result Frac Trap) → d ≢ pos 0 → o ≡ exactly n d → (o ≡ Err Overflow) ↔ ((r : Frac) → ¬ (numerator r *ℤ d ≡ n *ℤ denominator r))
exact_overflow n d o other e = ((λ f r is. let g = e ∙ ap (λ x. ok_or x Overflow) (reduced_from r n d (other, is)) in cc), (λ none. e ∙ ap (λ x. ok_or x Overflow) (reduced_none n d (λ fit. none fit.0 fit.1.1))))

pub exact_never_div_zero : (n d : ℤ) (o : Result Frac Trap) → o ≡ exactly n d → o ≢ Err DivZero
exact_never_div_zero n d o e f = never (reduced n d) (sym e ∙ f)
  where
    never : (o : Option Frac) → ok_or o Overflow ≡ Err DivZero → ⊥
    never None e = cc
    never (Some r) e = cc

-- ---- denominators
pub den_apart : (a : Frac) → denominator a ≢ pos 0
den_apart a e = let up = a.positive in omega (arith, ints, e)

pub dens_apart : (a b : Frac) → denominator a *ℤ denominator b ≢ pos 0
dens_apart a b = *ℤ-ne-zero (denominator a) (denominator b) (den_apart a) (den_apart b)

-- ---- whole numbers
pub reduced-whole : (n : ℤ) → reduced n (pos 1) ≡ fraction n (pos 1)
reduced-whole n = reduced_is n (pos 1) n 1 (λ e. cc) (record { above = omega arith; lowest = gcd-one (unsigned_abs n); equal = refl })

pub whole_sum : (a b : Frac) → denominator a ≡ pos 1 → denominator b ≡ pos 1 → sum_of a b ≡ exactly (numerator a +ℤ numerator b) (pos 1)
unfolding sum_of
whole_sum a b e f =
    (λ i. exactly (numerator a *ℤ f i +ℤ numerator b *ℤ e i) (e i *ℤ f i)) ∙ (λ i. exactly (*ℤ-pos_one (numerator a) i +ℤ *ℤ-pos_one (numerator b) i) (pos 1))

pub whole_product : (a b : Frac) → denominator a ≡ pos 1 → denominator b ≡ pos 1 → product_of a b ≡ exactly (numerator a *ℤ numerator b) (pos 1)
unfolding product_of
whole_product a b e f = λ i. exactly (numerator a *ℤ numerator b) (e i *ℤ f i)

-- ---- order and equality
test_true : (t : Bool) → T t → t ≡ true
test_true true h = refl
test_true false h = absurd h

pub less_iff : (x y : ℤ) → IsTrue (int_lt x y) ↔ (x <ℤ y)
less_iff x y = ((λ e. lt_z_yes (subst T (sym e) tt)), (λ h. test_true (int_lt x y) h.lt))

-- at values that are known to be x' and y'
pub less_at : (x y x' y' : ℤ) → x ≡ x' → y ≡ y' → IsTrue (int_lt x y) ↔ (x' <ℤ y')
less_at x y x' y' e f = let test : int_lt x y ≡ int_lt x' y' = λ i. int_lt (e i) (f i) in let order = less_iff x' y' in ((λ h. order.0 (sym test ∙ h)), (λ h. test ∙ order.1 h))

-- numbers are equal exactly where their cross products are
pub cross_equal : (a b : Frac) → (a ≡ b) ↔ (numerator a *ℤ denominator b ≡ numerator b *ℤ denominator a)
cross_equal a b =
    ((λ e i. numerator (e i) *ℤ denominator (sym e i)), (λ e. some_same (sym (reduced_from a (numerator a) (denominator a) (den_apart a, refl)) ∙ reduced_from b (numerator a) (denominator a) (den_apart a, sym e))))
  where
    some_same : {a b : Frac} → Some a ≡ Some b → a ≡ b
    some_same e = cc

pub same_iff : (a b : Frac) → IsTrue (is_same a b) ↔ (a ≡ b)
same_iff a b =
    let tests = Decides-int_eq (numerator a *ℤ denominator b) (numerator b *ℤ denominator a) in
    let same = cross_equal a b in ((λ e. same.1 (tests.0 e)), (λ e. tests.1 (same.0 e)))

-- a test that holds exactly of equal numbers is `is_same`
pub is_same_from : (a b : Frac) (t : Bool) → (t ≡ true → a ≡ b) → (a ≡ b → t ≡ true) → t ≡ is_same a b
is_same_from a b t f g = one_answer t (is_same a b) (f, g) (same_iff a b)

-- numbers of 64 bits with equal bits are equal
pub same_bits : (x y : ℤ) → FitsSigned w64 x → FitsSigned w64 y → of_z w64 x ≡ of_z w64 y → x ≡ y
same_bits x y f g e = sym (to_z-of_z w64 x f) ∙ ap (to_z w64) e ∙ to_z-of_z w64 y g

-- ---- 1 / r
pub record IsReciprocal (r : Frac) (num den : ℤ) : Type 0 where
  pub positive : pos 1 ≤ℤ den
  pub den_fits : den ≤ℤ pos greatest
  pub above : neg_ℤ (pos greatest) ≤ℤ num
  pub num_fits : num ≤ℤ pos greatest
  pub lowest : gcd (unsigned_abs num) (unsigned_abs den) ≡ 1

pub size_up : (z : ℤ) → z ≢ pos 0 → 0 < unsigned_abs z
size_up (pos zero) other = absurd (other refl)
size_up (pos (suc n)) other = omega arith
size_up (negsuc n) other = omega arith

pub within : (z : ℤ) → unsigned_abs z ≤ greatest → (neg_ℤ (pos greatest) ≤ℤ z) × (z ≤ℤ pos greatest)
within (pos n) h = (omega (arith, ints), omega (arith, ints))
within (negsuc n) h = (omega (arith, ints), omega (arith, ints))

pub reciprocal_at : (r : Frac) (num den : ℤ) → numerator r ≢ pos 0 → unsigned_abs num ≡ unsigned_abs (denominator r) → den ≡ pos (unsigned_abs (numerator r)) → IsReciprocal r num den
reciprocal_at r num den other e f =
    let low = size_up (numerator r) other in
    let size = num_size r in
    let above : unsigned_abs num ≤ greatest = omega (arith, e, den_size r) in
    record {
      positive = omega (arith, ints, f);
      den_fits = omega (arith, ints, f);
      above = (within num above).0;
      num_fits = (within num above).1;
      lowest = (λ i. gcd (e i) (unsigned_abs (f i))) ∙ gcd_comm (unsigned_abs (denominator r)) (unsigned_abs (numerator r)) ∙ r.lowest;
    }

-- ---- what the general path of each operation comes to, at parts u / x and v / y that are those of a and b
den_is : (r : Frac) (z : ℤ) → z ≡ denominator r → pos (unsigned_abs z) ≡ denominator r
den_is r z e = let n = above_zero r.den r.positive in ap (λ x. pos (unsigned_abs x)) (e ∙ n.1) ∙ sym n.1

pub sum_from : (a b : Frac) (u v x y : ℤ) (o : Option Frac) → u ≡ numerator a → v ≡ numerator b → x ≡ denominator a → y ≡ denominator b → o ≡ reduced (u *ℤ pos (unsigned_abs y) +ℤ v *ℤ pos (unsigned_abs x)) (pos (unsigned_abs x * unsigned_abs y)) → ok_or o Overflow ≡ sum_of a b
unfolding sum_of
sum_from a b u v x y o e f g h is =
    let m = den_is a x g in
    let n = den_is b y h in ap (λ z. ok_or z Overflow) is ∙ (λ i. exactly (e i *ℤ n i +ℤ f i *ℤ m i) (m i *ℤ n i))

pub product_from : (a b : Frac) (u v x y : ℤ) (o : Option Frac) → u ≡ numerator a → v ≡ numerator b → x ≡ denominator a → y ≡ denominator b → o ≡ reduced (u *ℤ v) (pos (unsigned_abs x * unsigned_abs y)) → ok_or o Overflow ≡ product_of a b
unfolding product_of
product_from a b u v x y o e f g h is =
    let m = den_is a x g in
    let n = den_is b y h in ap (λ z. ok_or z Overflow) is ∙ (λ i. exactly (e i *ℤ f i) (m i *ℤ n i))

-- ---- the clauses of each operation
pub record SumClauses (a b : Frac) (o : Result Frac Trap) : Type 0 where
  pub value : o ≡ sum_of a b
  pub exact : IfOk o (λ r. IsSum r a b)
  pub overflow : (o ≡ Err Overflow) ↔ ((r : Frac) → ¬ IsSum r a b)
  pub never_div_zero : o ≢ Err DivZero

pub sum_clauses : (a b : Frac) (o : Result Frac Trap) → o ≡ sum_of a b → SumClauses a b o
unfolding sum_of
sum_clauses a b o e =
    let n = numerator a *ℤ denominator b +ℤ numerator b *ℤ denominator a in
    let d = denominator a *ℤ denominator b in record { value = e; exact = exact_ok n d o e; overflow = exact_overflow n d o (dens_apart a b) e; never_div_zero = exact_never_div_zero n d o e }

pub record DifferenceClauses (a b : Frac) (o : Result Frac Trap) : Type 0 where
  pub value : o ≡ difference_of a b
  pub exact : IfOk o (λ r. IsDifference r a b)
  pub overflow : (o ≡ Err Overflow) ↔ ((r : Frac) → ¬ IsDifference r a b)
  pub never_div_zero : o ≢ Err DivZero

pub difference_clauses : (a b : Frac) (o : Result Frac Trap) → o ≡ difference_of a b → DifferenceClauses a b o
unfolding difference_of
difference_clauses a b o e =
    let n = numerator a *ℤ denominator b -ℤ numerator b *ℤ denominator a in
    let d = denominator a *ℤ denominator b in record { value = e; exact = exact_ok n d o e; overflow = exact_overflow n d o (dens_apart a b) e; never_div_zero = exact_never_div_zero n d o e }

pub record ProductClauses (a b : Frac) (o : Result Frac Trap) : Type 0 where
  pub value : o ≡ product_of a b
  pub exact : IfOk o (λ r. IsProduct r a b)
  pub overflow : (o ≡ Err Overflow) ↔ ((r : Frac) → ¬ IsProduct r a b)
  pub never_div_zero : o ≢ Err DivZero

pub product_clauses : (a b : Frac) (o : Result Frac Trap) → o ≡ product_of a b → ProductClauses a b o
unfolding product_of
product_clauses a b o e =
    let n = numerator a *ℤ numerator b in
    let d = denominator a *ℤ denominator b in record { value = e; exact = exact_ok n d o e; overflow = exact_overflow n d o (dens_apart a b) e; never_div_zero = exact_never_div_zero n d o e }

pub record QuotientClauses (a b : Frac) (o : Result Frac Trap) : Type 0 where
  pub value : o ≡ quotient_of a b
  pub exact : IfOk o (λ r. IsRatio r a b)
  pub zero : (o ≡ Err DivZero) ↔ (numerator b ≡ pos 0)
  pub overflow : (o ≡ Err Overflow) ↔ ((numerator b ≢ pos 0) × ((r : Frac) → ¬ IsRatio r a b))

-- by a divisor that is not 0
pub divided_exactly : (n d : ℤ) → d ≢ pos 0 → divided_by n d ≡ exactly n d
divided_exactly n (pos zero) other = absurd (other refl)
divided_exactly n (pos (suc d)) other = refl
divided_exactly n (negsuc d) other = refl

pub quotient_exactly : (a b : Frac) → numerator b ≢ pos 0 → quotient_of a b ≡ exactly (numerator a *ℤ denominator b) (denominator a *ℤ numerator b)
unfolding quotient_of
quotient_exactly a b other = divided_exactly (numerator a *ℤ denominator b) (denominator a *ℤ numerator b) (*ℤ-ne-zero (denominator a) (numerator b) (den_apart a) other)

pub quotient_zero : (a b : Frac) → numerator b ≡ pos 0 → quotient_of a b ≡ Err DivZero
unfolding quotient_of
quotient_zero a b e = ap (divided_by (numerator a *ℤ denominator b)) (ap (λ z. denominator a *ℤ z) e ∙ *ℤ-zero (denominator a))

pub quotient_clauses : (a b : Frac) (o : Result Frac Trap) → numerator b ≢ pos 0 → o ≡ quotient_of a b → QuotientClauses a b o
quotient_clauses a b o other e =
    let n = numerator a *ℤ denominator b in
    let d = denominator a *ℤ numerator b in
    let e' = e ∙ quotient_exactly a b other in
    let apart = *ℤ-ne-zero (denominator a) (numerator b) (den_apart a) other in
    let over = exact_overflow n d o apart e' in
    record {
      value = e;
      exact = with_divisor o (exact_ok n d o e');
      zero = ((λ f. absurd (exact_never_div_zero n d o e' f)), (λ f. absurd (other f)));
      overflow = ((λ f. (other, (λ r is. over.0 f r is.1))), (λ none. over.1 (λ r is. none.1 r (other, is))));
    }
  where
    with_divisor : (o : Result Frac Trap) → IfOk o (λ r. numerator r *ℤ (denominator a *ℤ numerator b) ≡ numerator a *ℤ denominator b *ℤ denominator r) → IfOk o (λ r. IsRatio r a b)
    with_divisor (Ok r) is = (other, is)
    with_divisor (Err t) is = tt

pub quotient_zero_clauses : (a b : Frac) → numerator b ≡ pos 0 → QuotientClauses a b (Err DivZero)
quotient_zero_clauses a b e = record { value = sym (quotient_zero a b e); exact = tt; zero = ((λ f. e), (λ f. refl)); overflow = ((λ f. cc), (λ none. absurd (none.0 e))) }

-- a difference is the sum with the negation
pub difference_from : (a b c : Frac) → IsNegation c b → sum_of a c ≡ difference_of a b
unfolding sum_of difference_of
difference_from a b c is = λ i. exactly (numerator a *ℤ is.1 i +ℤ (ap (λ z. z *ℤ denominator a) is.0 ∙ neg_ℤ-*ℤ (numerator b) (denominator a)) i) (denominator a *ℤ is.1 i)

-- a quotient is the product with the reciprocal
pub quotient_from : (a b c : Frac) → numerator b ≢ pos 0 → IsQuotient c (denominator b) (numerator b) → product_of a c ≡ quotient_of a b
unfolding product_of
quotient_from a b c other is =
    let crossed = times_four (numerator a) (numerator c) (denominator a) (numerator b) ∙ ap (λ z. numerator a *ℤ denominator a *ℤ z) is.1 ∙ times_four (numerator a) (denominator a) (denominator b) (denominator c) in
    let apart = *ℤ-ne-zero (denominator a) (numerator b) (den_apart a) other in
    ap (λ x. ok_or x Overflow) (reduced_same (numerator a *ℤ numerator c) (denominator a *ℤ denominator c) (numerator a *ℤ denominator b) (denominator a *ℤ numerator b) (dens_apart a c) apart crossed) ∙ sym (quotient_exactly a b other)

-- whichever b is
pub quotient_any : (a b : Frac) → QuotientClauses a b (quotient_of a b)
quotient_any a b = by_test (ℤ_discrete (numerator b) (pos 0))
  where
    by_test : Dec (numerator b ≡ pos 0) → QuotientClauses a b (quotient_of a b)
    by_test (yes e) = subst (QuotientClauses a b) (sym (quotient_zero a b e)) (quotient_zero_clauses a b e)
    by_test (no other) = quotient_clauses a b (quotient_of a b) other refl
