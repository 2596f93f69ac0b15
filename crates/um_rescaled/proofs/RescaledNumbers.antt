-- A rescaled number isn't below 0 if the number isn't, and a number without a unit stays.
use Rattle.std.proofs.Common.{◌≡◌, refl, sym, ap, subst, ◌∙◌, ℕ, zero, suc, ◌*◌, ◌<◌, List, ℤ, pos, negsuc, ◌*ℤ◌, neg_ℤ, Option, Some, None, arith}
use Rattle.std.specs.Option.{unwrap_or}
use Rattle.std.proofs.Math.IntN.{pos-ne-negsuc, negsuc-*ℤ-pos, pos-*ℤ-pos}
use Rattle.std.proofs.Math.Nat.{mul-pos}
use Rattle.um_frac.specs.declared.number.Frac.{Frac}
use Rattle.um_frac.specs.Fraction.{numerator, denominator}
use Rattle.um_frac.proofs.Integers.{*ℤ-pos_one}
use Rattle.um_frac.proofs.LowestTerms.{above_zero}
use Rattle.um_frac.proofs.Outcomes.{cross_equal}
use Rattle.um_units.specs.PowerMap.{PowerMap, product, one}
use Rattle.um_tree.specs.declared.note.UnitNote.TheVariants.{Written}
use Rattle.um_scaling.specs.Rescaling.{Factor, IsPositive, no_change, Rescaling, factor, IsScaled}
use Rattle.um_scaling.proofs.Factors.{factor_positive}
use Rattle.um_show.proofs.GoodTokens.{IsNatural}
use Rattle.um_scale.specs.Sizes.{AreSizes, sizes}
use Rattle.um_scale.specs.RescaledLiterals.{rescaled_number}
use Rattle.um_scale.proofs.SizeFactors.{sizes_positive, number_exact}

negative : (x y : ℕ) → 0 < x → neg_ℤ (pos x) ≡ pos y → ⊥
negative zero y h e = omega (arith, h)
negative (suc x) y h e = pos-ne-negsuc y x (sym e)

keeps_sign : (f : Factor) → IsPositive f → (c d : Frac) → IsScaled f c d → IsNatural c → IsNatural d
keeps_sign f positive c d scaled natural = by (numerator d) refl
  where
    by : (z : ℤ) → numerator d ≡ z → IsNatural d
    by (pos n) e = (n, e)
    by (negsuc n) e =
        let a = above_zero c.den c.positive in
        let b = above_zero d.den d.positive in
        let size = a.0 * f.bottom in
        let left : negsuc n *ℤ (pos a.0 *ℤ pos f.bottom) ≡ neg_ℤ (pos (suc n * size)) = ap (λ z. negsuc n *ℤ z) (pos-*ℤ-pos a.0 f.bottom) ∙ negsuc-*ℤ-pos n size in
        let right : (pos natural.0 *ℤ pos f.top) *ℤ pos b.0 ≡ pos (natural.0 * f.top * b.0) =
        ap (λ z. z *ℤ pos b.0) (pos-*ℤ-pos natural.0 f.top) ∙ pos-*ℤ-pos (natural.0 * f.top) b.0 in
        let same : negsuc n *ℤ (pos a.0 *ℤ pos f.bottom) ≡ (pos natural.0 *ℤ pos f.top) *ℤ pos b.0 =
        (λ i. sym e i *ℤ (sym a.1 i *ℤ pos f.bottom)) ∙ scaled ∙ (λ i. (natural.1 i *ℤ pos f.top) *ℤ b.1 i) in
        absurd (negative (suc n * size) (natural.0 * f.top * b.0) (mul-pos (omega arith) (mul-pos a.2 positive.1)) (sym left ∙ same ∙ right))

no_factor : (r : Rescaling) → factor r one ≡ no_change
unfolding product
no_factor r = refl

module _ (cs : List Frac) (above : AreSizes cs) where
  pub natural_stays : (c : Frac) (u : PowerMap) → IsNatural c → IsNatural (unwrap_or (rescaled_number cs c (Written u)) c)
  natural_stays c u natural = by (rescaled_number cs c (Written u)) refl
    where
      by : (o : Option Frac) → rescaled_number cs c (Written u) ≡ o → IsNatural (unwrap_or o c)
      by None e = natural
      by (Some d) e = keeps_sign (factor (sizes cs) u) (factor_positive (sizes cs) (sizes_positive cs above) u) c d (number_exact cs above u c d e) natural

  pub stays_without_unit : (c : Frac) → unwrap_or (rescaled_number cs c (Written one)) c ≡ c
  stays_without_unit c = by (rescaled_number cs c (Written one)) refl
    where
      by : (o : Option Frac) → rescaled_number cs c (Written one) ≡ o → unwrap_or o c ≡ c
      by None e = refl
      by (Some d) e =
          let scaled : IsScaled no_change c d = subst (λ f. IsScaled f c d) (no_factor (sizes cs)) (number_exact cs above one c d e) in
          (cross_equal d c).1 (sym (ap (λ z. numerator d *ℤ z) (*ℤ-pos_one (denominator c))) ∙ scaled ∙ ap (λ z. z *ℤ denominator d) (*ℤ-pos_one (numerator c)))
