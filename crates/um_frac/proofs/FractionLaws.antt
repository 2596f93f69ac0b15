-- The laws of fractions, proved.
use Rattle.std.proofs.Common.{inl, inr, ◌<ℤ◌, subst, ◌≡◌, ◌≢◌, ◌↔◌, ℕ, ◌*◌, ◌<◌, ◌≤◌, ℤ, pos, ◌*ℤ◌, neg_ℤ, unsigned_abs, Ok, IfOk, suc, negsuc, refl, sym, ap, ◌∙◌, arith}
use Rattle.std.specs.Option.{ok_or, unwrap_or}
use Rattle.std.specs.Int.{◌∣◌}
use Rattle.std.proofs.lemmas.Int.{ints, unsigned_abs-mul, by_lt_z}
use Rattle.std.proofs.Math.Nat.{eq-one_of_dvd-one, le_of_dvd, dvd-mul_left, mul-le-mul_left, le_of_mul-le-mul_right}
use Rattle.um_frac.specs.Range.{greatest}
use Rattle.um_frac.specs.declared.number.Frac.{Frac}
use Rattle.um_frac.specs.declared.number.Trap.TheVariants.{Overflow}
use Rattle.um_frac.specs.Gcd.{gcd}
use Rattle.um_frac.specs.Fraction.{numerator, denominator}
use Rattle.um_frac.specs.Arithmetic.{exactly, sum_of, difference_of, product_of, whole_power_of, negation_of, IsRatio, IsWholePower, IsNegation}
use Rattle.um_frac.specs.Laws.{GreatestIsCommon, PartsInRange, PartsInLowestTerms, EqualParts, EqualCrossProducts, OneForm, ReducedIsQuotient, SumIsExact, SumOverflows, SumNeverDivZero, DifferenceIsExact, DifferenceOverflows, DifferenceNeverDivZero, ProductIsExact, ProductOverflows, ProductNeverDivZero, QuotientIsExact, QuotientByZero, QuotientOverflows, WholePowerIsExact, WholePowerOfZero, WholePowerOverflows, PowerZeroIsOne, NegationIsExact, SameIsEqual, OrderIsIrreflexive, OrderIsTransitive, OrderIsTotal}
use Rattle.um_frac.proofs.Gcd.{gcd-is, gcd_comm, gauss}
use Rattle.um_frac.proofs.Integers.{*ℤ-ne-zero, times_swap, less_times, less_cancel, less_trans}
use Rattle.um_frac.proofs.LowestTerms.{AreTerms, above_zero, reduced_terms, reduced_from, reduced_exact, fraction_from, same_parts, some_is, neg_abs, num_size}
use Rattle.um_frac.proofs.Outcomes.{less_iff, exact_ok, cross_equal, same_iff, sum_clauses, difference_clauses, product_clauses, quotient_any, quotient_exactly, dens_apart, den_apart, size_up, within}
use Rattle.um_frac.proofs.Powers.{int_pow-zero, int_pow-ne-zero}
use Rattle.um_frac.proofs.WholePowers.{whole_power_clauses, negative_exactly, den_power_apart}

pub greatest_is_common : GreatestIsCommon
greatest_is_common = gcd-is

pub parts_in_range : PartsInRange
parts_in_range a = ((a.above, a.num_fits), (a.positive, a.den_fits))

pub parts_in_lowest_terms : PartsInLowestTerms
parts_in_lowest_terms a d h k = eq-one_of_dvd-one (subst (λ g. d ∣ g) a.lowest ((gcd-is (unsigned_abs (numerator a)) (unsigned_abs (denominator a))).2 d h k))

pub equal_parts : EqualParts
equal_parts = same_parts

pub equal_cross_products : EqualCrossProducts
equal_cross_products = cross_equal

pub same_is_equal : SameIsEqual
same_is_equal = same_iff

pub reduced_is_quotient : ReducedIsQuotient
reduced_is_quotient n d r = (reduced_exact n d r, reduced_from r n d)

-- the terms of a quotient within the range are within the range
terms_fit : (n d p : ℤ) (q : ℕ) → d ≢ pos 0 → AreTerms n d p q → (q ≤ unsigned_abs d) × (unsigned_abs p ≤ unsigned_abs n)
terms_fit n d p q other terms =
    let sizes : unsigned_abs p * unsigned_abs d ≡ unsigned_abs n * q = sym (unsigned_abs-mul p d) ∙ ap unsigned_abs terms.equal ∙ unsigned_abs-mul n (pos q) in
    let up : 0 < unsigned_abs d = size_up d other in
    let into : q ∣ unsigned_abs d = gauss q (unsigned_abs p) (unsigned_abs d) (gcd_comm q (unsigned_abs p) ∙ terms.lowest) (subst (λ k. q ∣ k) (sym sizes) (dvd-mul_left q (unsigned_abs n))) in
    let low : q ≤ unsigned_abs d = le_of_dvd up into in
    let less : unsigned_abs p * unsigned_abs d ≤ unsigned_abs n * unsigned_abs d = rw sizes (mul-le-mul_left (unsigned_abs n) low) in
    (low, le_of_mul-le-mul_right less up)

pub one_form : OneForm
one_form n d other above below =
    let given = reduced_terms n d other in
    let p = given.0 in
    let q = given.1 in
    let terms = given.2 in
    let fit = terms_fit n d p q other terms in
    let size : unsigned_abs p ≤ greatest = omega (arith, fit.1) in
    let up = terms.above in
    let low : q ≤ greatest = omega (arith, fit.0) in
    let r : Frac = record { num = p; den = pos q; positive = omega (arith, ints, up); den_fits = omega (arith, ints, low); above = (within p size).0; num_fits = (within p size).1; lowest = terms.lowest } in
    (r, (other, terms.equal), (λ s is. some_is s r (sym (reduced_from s n d is) ∙ reduced_from r n d (other, terms.equal))))

-- an outcome is Ok of the exact result and of nothing else
exactly_ok : (n d : ℤ) (r : Frac) → d ≢ pos 0 → (exactly n d ≡ Ok r) ↔ (numerator r *ℤ d ≡ n *ℤ denominator r)
exactly_ok n d r other =
    ((λ e. subst (λ o. IfOk o (λ s. numerator s *ℤ d ≡ n *ℤ denominator s)) e (exact_ok n d (exactly n d) refl)), (λ is. ap (λ o. ok_or o Overflow) (reduced_from r n d (other, is))))

pub sum_is_exact : SumIsExact
unfolding sum_of
sum_is_exact a b r = exactly_ok _ _ r (dens_apart a b)

pub sum_overflows : SumOverflows
sum_overflows a b = (sum_clauses a b (sum_of a b) refl).overflow

pub sum_never_div_zero : SumNeverDivZero
sum_never_div_zero a b = (sum_clauses a b (sum_of a b) refl).never_div_zero

pub difference_is_exact : DifferenceIsExact
unfolding difference_of
difference_is_exact a b r = exactly_ok _ _ r (dens_apart a b)

pub difference_overflows : DifferenceOverflows
difference_overflows a b = (difference_clauses a b (difference_of a b) refl).overflow

pub difference_never_div_zero : DifferenceNeverDivZero
difference_never_div_zero a b = (difference_clauses a b (difference_of a b) refl).never_div_zero

pub product_is_exact : ProductIsExact
unfolding product_of
product_is_exact a b r = exactly_ok _ _ r (dens_apart a b)

pub product_overflows : ProductOverflows
product_overflows a b = (product_clauses a b (product_of a b) refl).overflow

pub product_never_div_zero : ProductNeverDivZero
product_never_div_zero a b = (product_clauses a b (product_of a b) refl).never_div_zero

pub negation_from : (a r : Frac) → IsNegation r a → r ≡ negation_of a
unfolding negation_of
negation_from a r is = ap (λ o. unwrap_or o a) (fraction_from (neg_ℤ (numerator a)) (denominator a) r is.0 is.1)

-- the negation, which is always within the range
pub negation : (a : Frac) → (n : Frac) × IsNegation n a
negation a =
    let size : unsigned_abs (neg_ℤ (numerator a)) ≤ greatest = rw (neg_abs (numerator a)) (num_size a) in
    let n : Frac = record { num = neg_ℤ a.num; den = a.den; positive = a.positive; den_fits = a.den_fits; above = (within (neg_ℤ (numerator a)) size).0; num_fits = (within (neg_ℤ (numerator a)) size).1; lowest = ap (λ m. gcd m (unsigned_abs a.den)) (neg_abs (numerator a)) ∙ a.lowest } in
    (n, (refl, refl))

pub negation_is_exact : NegationIsExact
negation_is_exact a r =
    let n = negation a in
    let is : n.0 ≡ negation_of a = negation_from a n.0 n.1 in
    ((λ e. let same : r ≡ n.0 = e ∙ sym is in (ap numerator same ∙ n.1.0, ap denominator same ∙ n.1.1)), negation_from a r)

-- ---- quotients
pub quotient_overflows : QuotientOverflows
quotient_overflows a b = (quotient_any a b).overflow

pub quotient_by_zero : QuotientByZero
quotient_by_zero a b = (quotient_any a b).zero

pub quotient_is_exact : QuotientIsExact
quotient_is_exact a b r =
    ((λ e. subst (λ o. IfOk o (λ s. IsRatio s a b)) e (quotient_any a b).exact), (λ is. quotient_exactly a b is.0 ∙ (exactly_ok (numerator a *ℤ denominator b) (denominator a *ℤ numerator b) r (*ℤ-ne-zero (denominator a) (numerator b) (den_apart a) is.0)).1 is.1))

-- ---- whole powers
pub whole_power_from : (a r : Frac) (k : ℤ) → IsWholePower r a k → whole_power_of a k ≡ Ok r
unfolding whole_power_of
whole_power_from a r (pos n) is = (exactly_ok _ _ r (den_power_apart a n)).1 is
whole_power_from a r (negsuc n) is = negative_exactly a n is.0 ∙ (exactly_ok _ _ r (int_pow-ne-zero (numerator a) (suc n) is.0)).1 is.1

pub whole_power_is_exact : WholePowerIsExact
whole_power_is_exact a r k = ((λ e. subst (λ o. IfOk o (λ s. IsWholePower s a k)) e (whole_power_clauses a k _ refl).exact), whole_power_from a r k)

pub whole_power_of_zero : WholePowerOfZero
whole_power_of_zero a k = (whole_power_clauses a k _ refl).zero

pub whole_power_overflows : WholePowerOverflows
whole_power_overflows a k = (whole_power_clauses a k _ refl).overflow

pub power_zero_is_one : PowerZeroIsOne
power_zero_is_one a r e f =
    (whole_power_is_exact a r (pos 0)).1 ((λ i. e i *ℤ int_pow-zero (denominator a) i) ∙ (λ i. sym (int_pow-zero (numerator a)) i *ℤ sym f i))

-- ---- the order
pub order_is_irreflexive : OrderIsIrreflexive
order_is_irreflexive a e = let h = (less_iff (numerator a *ℤ denominator a) (numerator a *ℤ denominator a)).0 e in omega (arith, ints)

-- a product with a denominator keeps the order, and gives it back
times_den : (x y : ℤ) (c : Frac) → x <ℤ y → (x *ℤ denominator c) <ℤ (y *ℤ denominator c)
times_den x y c h = let n = above_zero c.den c.positive in subst (λ d. (x *ℤ d) <ℤ (y *ℤ d)) (sym n.1) (less_times x y n.0 n.2 h)

cancel_den : (x y : ℤ) (c : Frac) → (x *ℤ denominator c) <ℤ (y *ℤ denominator c) → x <ℤ y
cancel_den x y c h = let n = above_zero c.den c.positive in less_cancel x y n.0 n.2 (subst (λ d. (x *ℤ d) <ℤ (y *ℤ d)) n.1 h)

pub order_is_transitive : OrderIsTransitive
order_is_transitive a b c e f =
    let an = numerator a in
    let ad = denominator a in
    let bn = numerator b in
    let bd = denominator b in
    let cn = numerator c in
    let cd = denominator c in
    let first : (an *ℤ cd *ℤ bd) <ℤ (bn *ℤ cd *ℤ ad) = rw (times_swap an cd bd, times_swap bn cd ad) (times_den (an *ℤ bd) (bn *ℤ ad) c ((less_iff (an *ℤ bd) (bn *ℤ ad)).0 e)) in
    let second : (bn *ℤ cd *ℤ ad) <ℤ (cn *ℤ ad *ℤ bd) = rw (times_swap cn ad bd) (times_den (bn *ℤ cd) (cn *ℤ bd) a ((less_iff (bn *ℤ cd) (cn *ℤ bd)).0 f)) in
    (less_iff (an *ℤ cd) (cn *ℤ ad)).1 (cancel_den (an *ℤ cd) (cn *ℤ ad) b (less_trans (an *ℤ cd *ℤ bd) (bn *ℤ cd *ℤ ad) (cn *ℤ ad *ℤ bd) first second))

pub order_is_total : OrderIsTotal
order_is_total a b =
    let x = numerator a *ℤ denominator b in
    let y = numerator b *ℤ denominator a in
    by_lt_z x y (λ less. inl ((less_iff x y).1 less)) (λ most.
    by_lt_z y x (λ more. inr (inr ((less_iff y x).1 more))) (λ least. inr (inl ((cross_equal a b).1 (omega (arith, ints))))))
