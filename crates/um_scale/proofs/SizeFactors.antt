-- The factor that is formed step by step is the unit's factor.
use Rattle.std.proofs.Common.{◌≡◌, refl, sym, ap, subst, ◌∙◌, ℕ, suc, List, [], ◌∷◌, ℤ, pos, negsuc, ◌*ℤ◌, ◌≤ℤ◌, Option, Some, None, Result, Ok, Err, unsigned_abs, ◌<◌, arith}
use Rattle.std.specs.Option.{option_and_then}
use Rattle.std.specs.Result.{result_ok}
use Rattle.std.proofs.lemmas.Int.{ints}
use Rattle.std.proofs.lemmas.Option.{option_and_then_some}
use Rattle.std.proofs.Math.IntN.{*ℤ_comm}
use Rattle.um_frac.specs.declared.number.Frac.{Frac}
use Rattle.um_frac.specs.Fraction.{numerator, denominator, reduced}
use Rattle.um_frac.specs.Arithmetic.{product_of, whole_power_of, IsProduct, IsWholePower}
use Rattle.um_frac.proofs.Integers.{*ℤ-ne-zero, *ℤ-pos_one}
use Rattle.um_frac.proofs.Outcomes.{den_apart}
use Rattle.um_frac.proofs.Powers.{pow_above}
use Rattle.um_frac.proofs.FractionLaws.{product_is_exact, whole_power_is_exact, reduced_is_quotient}
use Rattle.um_units.specs.declared.Atom.{Atom}
use Rattle.um_units.specs.declared.Atom.TheVariants.{Base, Var}
use Rattle.um_units.specs.declared.Term.{Term}
use Rattle.um_units.specs.PowerMap.{PowerMap}
use Rattle.um_tree.proofs.Moved.{All_at}
use Rattle.um_scaling.specs.Rescaling.{Factor, IsPositive, ArePositive, no_change, to_power, factor_of_terms, factor, IsScaled}
use Rattle.um_scaling.proofs.Factors.{no_change_power, terms_positive, factor_positive}
use Rattle.um_scaling.proofs.Ratios.{Ratio, Same, same_trans}
use Rattle.um_scaling.proofs.Ratios.{times as times_ratio, times_same as times_ratio_same}
use Rattle.um_scaling.proofs.Numbers.{ratio, ratio_of, by_same_factor, unchanged, scaled_twice, one_positive}
use Rattle.um_scale.specs.Sizes.{AreSizes, size_of, factor_of, sizes, times_power, product_from, factor_within, IsFactor}

pub ok_is : {A E : Type 0} (r : Result A E) (x : A) → result_ok r ≡ Some x → r ≡ Ok x
ok_is (Ok y) x e = let same : y ≡ x = cc e in ap Ok same
ok_is (Err t) x e = absurd cc

-- d times a number that is the ratio f is d scaled by f
pub by_ratio : (f : Factor) (d e p : Frac) → IsProduct e d p → Same (ratio p) (ratio_of f) → IsScaled f d e
by_ratio f d e p h k =
    same_trans (ratio e) (times_ratio (ratio d) (ratio p)) (times_ratio (ratio d) (ratio_of f)) (*ℤ-ne-zero (denominator d) (denominator p) (den_apart d) (den_apart p)) h
    (times_ratio_same (ratio d) (ratio d) (ratio p) (ratio_of f) refl k)

-- a power of a number above 0 is the power of its factor
power_ratio : (s p : Frac) (k : ℤ) → pos 1 ≤ℤ numerator s → IsWholePower p s k → Same (ratio p) (ratio_of (to_power (factor_of (Some s)) k))
power_ratio s p (pos n) above h =
    ap (λ z. numerator p *ℤ z) (sym (pow_above (denominator s) n s.positive)) ∙ h ∙ ap (λ z. z *ℤ denominator p) (pow_above (numerator s) n above)
power_ratio s p (negsuc n) above h =
    ap (λ z. numerator p *ℤ z) (sym (pow_above (numerator s) (suc n) above)) ∙ h.1 ∙ ap (λ z. z *ℤ denominator p) (pow_above (denominator s) (suc n) s.positive)

-- ---- sizes are positive
above_abs : (z : ℤ) → pos 1 ≤ℤ z → 0 < unsigned_abs z
above_abs (pos n) h = omega (arith, ints)
above_abs (negsuc n) h = absurd (omega (arith, ints))

size_positive : (o : Option Frac) → ((c : Frac) → o ≡ Some c → pos 1 ≤ℤ numerator c) → IsPositive (factor_of o)
size_positive None h = one_positive
size_positive (Some c) h = (above_abs (numerator c) (h c refl), above_abs (denominator c) c.positive)

size_above : (cs : List Frac) → AreSizes cs → (x : Atom) (c : Frac) → size_of cs x ≡ Some c → pos 1 ≤ℤ numerator c
size_above cs above (Base k) c e = All_at (λ c. pos 1 ≤ℤ numerator c) cs k c e above
size_above cs above (Var k) c e = absurd cc

pub sizes_positive : (cs : List Frac) → AreSizes cs → ArePositive (sizes cs)
sizes_positive cs above x = size_positive (size_of cs x) (size_above cs above x)

-- ---- steps
step_exact : (o : Option Frac) (d e : Frac) (k : ℤ) → ((c : Frac) → o ≡ Some c → pos 1 ≤ℤ numerator c) → times_power o d k ≡ Some e → IsScaled (to_power (factor_of o) k) d e
step_exact None d e k above h =
    let same : d ≡ e = cc h in
    subst (λ (x : Frac). IsScaled (to_power no_change k) d x) same (by_same_factor no_change (to_power no_change k) one_positive (no_change_power k) d d (unchanged d))
step_exact (Some s) d e k above h =
    option_and_then_some (λ p. result_ok (product_of d p)) (result_ok (whole_power_of s k)) e h (λ p is_power is_product.
    by_ratio (to_power (factor_of (Some s)) k) d e p ((product_is_exact d p e).0 (ok_is (product_of d p) e is_product)) (power_ratio s p k (above s refl) ((whole_power_is_exact s p k).0 (ok_is (whole_power_of s k) p is_power))))

product_exact : (cs : List Frac) → AreSizes cs → (ts : List Term) (d c : Frac) → product_from cs d ts ≡ Some c → IsScaled (factor_of_terms (sizes cs) ts) d c
product_exact cs above [] d c h = let same : d ≡ c = cc h in subst (λ (x : Frac). IsScaled no_change d x) same (unchanged d)
product_exact cs above (t ∷ ts) d c h =
    option_and_then_some (λ e. product_from cs e ts) (times_power (size_of cs t.atom) d t.power) c h (λ e first rest.
    scaled_twice (to_power (sizes cs t.atom) t.power) (factor_of_terms (sizes cs) ts) (terms_positive (sizes cs) (sizes_positive cs above) ts) d e c
    (step_exact (size_of cs t.atom) d e t.power (size_above cs above t.atom) first) (product_exact cs above ts e c rest))

-- a number that is 1 scaled is the factor
abbrev one_ratio : Ratio
one_ratio = record { top = pos 1; bottom = pos 1 }

factor_from_one : (f : Factor) (one c : Frac) → numerator one *ℤ pos 1 ≡ pos 1 *ℤ denominator one → IsPositive f → IsScaled f one c → IsFactor f c
factor_from_one f one c is positive h =
    let scaled : Same (ratio c) (times_ratio one_ratio (ratio_of f)) = same_trans (ratio c) (times_ratio (ratio one) (ratio_of f)) (times_ratio one_ratio (ratio_of f)) (*ℤ-ne-zero (denominator one) (pos f.bottom) (den_apart one) (bottom_apart f.bottom positive.1)) h (times_ratio_same (ratio one) one_ratio (ratio_of f) (ratio_of f) is refl) in
    ap (λ z. numerator c *ℤ z) (sym (one_times (pos f.bottom))) ∙ scaled ∙ ap (λ z. z *ℤ denominator c) (one_times (pos f.top))
  where
    one_times : (z : ℤ) → pos 1 *ℤ z ≡ z
    one_times z = *ℤ_comm (pos 1) z ∙ *ℤ-pos_one z

    bottom_apart : (n : ℕ) → 0 < n → pos n ≡ pos 0 → ⊥
    bottom_apart n above e = omega (arith, ints, above, e)

pub factor_exact : (cs : List Frac) → AreSizes cs → (u : PowerMap) (c : Frac) → factor_within cs u ≡ Some c → IsFactor (factor (sizes cs) u) c
factor_exact cs above u c h =
    option_and_then_some (λ one. product_from cs one u.terms) (reduced (pos 1) (pos 1)) c h (λ one is rest.
    factor_from_one (factor (sizes cs) u) one c ((reduced_is_quotient (pos 1) (pos 1) one).0 is).1 (factor_positive (sizes cs) (sizes_positive cs above) u) (product_exact cs above u.terms one c rest))

-- the product begins at each number that is 1
pub starts_at_one : (cs : List Frac) (u : PowerMap) (one : Frac) → numerator one ≡ pos 1 → denominator one ≡ pos 1 → factor_within cs u ≡ product_from cs one u.terms
starts_at_one cs u one e f =
    let is : reduced (pos 1) (pos 1) ≡ Some one = (reduced_is_quotient (pos 1) (pos 1) one).1 ((λ h. omega (arith, ints, h)), (λ i. e i *ℤ pos 1) ∙ (λ i. pos 1 *ℤ sym f i)) in
    ap (option_and_then (λ one. product_from cs one u.terms)) is

-- a number times the factor is the number scaled
pub number_exact : (cs : List Frac) → AreSizes cs → (u : PowerMap) (c d : Frac) → option_and_then (λ f. result_ok (product_of c f)) (factor_within cs u) ≡ Some d → IsScaled (factor (sizes cs) u) c d
number_exact cs above u c d h =
    option_and_then_some (λ f. result_ok (product_of c f)) (factor_within cs u) d h (λ f is_factor is_product.
    by_ratio (factor (sizes cs) u) c d f ((product_is_exact c f d).0 (ok_is (product_of c f) d is_product)) (factor_exact cs above u f is_factor))
