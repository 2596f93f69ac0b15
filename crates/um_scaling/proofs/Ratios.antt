-- Ratios of integers, which are compared by cross multiplication, and what a factor does to sums, products and powers.
use Rattle.std.proofs.Common.{◌≡◌, ◌≢◌, refl, sym, ap, subst, ◌∙◌, ℕ, ◌*◌, ◌<◌, ℤ, pos, ◌+ℤ◌, ◌-ℤ◌, ◌*ℤ◌, ◌<ℤ◌, neg_ℤ, arith}
use Rattle.std.proofs.lemmas.Int.{ints}
use Rattle.std.proofs.Math.IntN.{*ℤ_comm, pos-*ℤ-pos}
use Rattle.std.proofs.Math.Nat.{mul-pos}
use Rattle.std.specs.Int.{int_pow}
use Rattle.um_frac.proofs.Integers.{+ℤ-*ℤ, *ℤ_assoc, times_four, neg_ℤ-*ℤ, *ℤ-ne-zero, cancel, cross, less_times, less_cancel}
use Rattle.um_frac.proofs.Powers.{int_pow-mul, int_pow-ne-zero}

pub record Ratio : Type 0 where
  pub top : ℤ
  pub bottom : ℤ

-- the same rational number
abbrev pub Same : Ratio → Ratio → Type 0
Same a b = a.top *ℤ b.bottom ≡ b.top *ℤ a.bottom

abbrev pub IsProper : Ratio → Type 0
IsProper a = a.bottom ≢ pos 0

abbrev pub plus : Ratio → Ratio → Ratio
plus a b = record { top = a.top *ℤ b.bottom +ℤ b.top *ℤ a.bottom; bottom = a.bottom *ℤ b.bottom }

abbrev pub minus : Ratio → Ratio → Ratio
minus a b = record { top = a.top *ℤ b.bottom -ℤ b.top *ℤ a.bottom; bottom = a.bottom *ℤ b.bottom }

abbrev pub times : Ratio → Ratio → Ratio
times a b = record { top = a.top *ℤ b.top; bottom = a.bottom *ℤ b.bottom }

abbrev pub opposite : Ratio → Ratio
opposite a = record { top = neg_ℤ a.top; bottom = a.bottom }

abbrev pub swapped : Ratio → Ratio
swapped a = record { top = a.bottom; bottom = a.top }

abbrev pub power : Ratio → ℕ → Ratio
power a n = record { top = int_pow a.top n; bottom = int_pow a.bottom n }

-- b is a times the factor
abbrev pub Scales : Ratio → Ratio → Ratio → Type 0
Scales f a b = Same b (times a f)

-- ---- the same rational numbers
pub same_trans : (a b c : Ratio) → IsProper b → Same a b → Same b c → Same a c
same_trans a b c proper h k = cross b.top b.bottom a.top a.bottom c.top c.bottom proper h (sym k)

pub times_same : (a a' b b' : Ratio) → Same a a' → Same b b' → Same (times a b) (times a' b')
times_same a a' b b' h k = times_four a.top b.top a'.bottom b'.bottom ∙ (λ i. h i *ℤ k i) ∙ times_four a'.top a.bottom b'.top b.bottom

plus_same : (a a' b b' : Ratio) → Same a a' → Same b b' → Same (plus a b) (plus a' b')
plus_same a a' b b' h k =
    +ℤ-*ℤ (a.top *ℤ b.bottom) (b.top *ℤ a.bottom) (a'.bottom *ℤ b'.bottom)
    ∙ (λ i. first i +ℤ second i)
    ∙ sym (+ℤ-*ℤ (a'.top *ℤ b'.bottom) (b'.top *ℤ a'.bottom) (a.bottom *ℤ b.bottom))
  where
    first : (a.top *ℤ b.bottom) *ℤ (a'.bottom *ℤ b'.bottom) ≡ (a'.top *ℤ b'.bottom) *ℤ (a.bottom *ℤ b.bottom)
    first =
        times_four a.top b.bottom a'.bottom b'.bottom
        ∙ (λ i. h i *ℤ *ℤ_comm b.bottom b'.bottom i)
        ∙ times_four a'.top a.bottom b'.bottom b.bottom

    second : (b.top *ℤ a.bottom) *ℤ (a'.bottom *ℤ b'.bottom) ≡ (b'.top *ℤ a'.bottom) *ℤ (a.bottom *ℤ b.bottom)
    second =
        ap (λ x. (b.top *ℤ a.bottom) *ℤ x) (*ℤ_comm a'.bottom b'.bottom)
        ∙ times_four b.top a.bottom b'.bottom a'.bottom
        ∙ (λ i. k i *ℤ *ℤ_comm a.bottom a'.bottom i)
        ∙ times_four b'.top b.bottom a'.bottom a.bottom
        ∙ ap (λ x. (b'.top *ℤ a'.bottom) *ℤ x) (*ℤ_comm b.bottom a.bottom)

pub swapped_same : (a b : Ratio) → Same a b → Same (swapped a) (swapped b)
swapped_same a b h = *ℤ_comm a.bottom b.top ∙ sym h ∙ *ℤ_comm a.top b.bottom

power_same : (a b : Ratio) (n : ℕ) → Same a b → Same (power a n) (power b n)
power_same a b n h = sym (int_pow-mul a.top b.bottom n) ∙ ap (λ z. int_pow z n) h ∙ int_pow-mul b.top a.bottom n

-- ---- a factor goes into each part
plus_times : (a b f : Ratio) → Same (plus (times a f) (times b f)) (times (plus a b) f)
plus_times a b f =
    let p = f.top in
    let q = f.bottom in
    let s = a.top *ℤ b.bottom +ℤ b.top *ℤ a.bottom in
    let bottoms = a.bottom *ℤ b.bottom in
    let tops : (a.top *ℤ p) *ℤ (b.bottom *ℤ q) +ℤ (b.top *ℤ p) *ℤ (a.bottom *ℤ q) ≡ s *ℤ (p *ℤ q) = (λ i. times_four a.top p b.bottom q i +ℤ times_four b.top p a.bottom q i) ∙ sym (+ℤ-*ℤ (a.top *ℤ b.bottom) (b.top *ℤ a.bottom) (p *ℤ q)) in
    ap (λ x. x *ℤ (bottoms *ℤ q)) (tops ∙ sym (*ℤ_assoc s p q))
    ∙ times_four (s *ℤ p) q bottoms q
    ∙ *ℤ_assoc (s *ℤ p) bottoms (q *ℤ q)
    ∙ ap (λ x. (s *ℤ p) *ℤ x) (sym (times_four a.bottom q b.bottom q))

power_times : (a f : Ratio) (n : ℕ) → Same (power (times a f) n) (times (power a n) (power f n))
power_times a f n = λ i. int_pow-mul a.top f.top n i *ℤ sym (int_pow-mul a.bottom f.bottom n) i

-- ---- operations at numbers that are scaled
pub opposite_scaled : (f a b : Ratio) → Scales f a b → Scales f (opposite a) (opposite b)
opposite_scaled f a b h =
    neg_ℤ-*ℤ b.top (a.bottom *ℤ f.bottom)
    ∙ ap neg_ℤ h
    ∙ sym (neg_ℤ-*ℤ (a.top *ℤ f.top) b.bottom)
    ∙ ap (λ z. z *ℤ b.bottom) (sym (neg_ℤ-*ℤ a.top f.top))

module _ (f : Ratio) (proper : IsProper f) where
  pub sum_scaled : (a b r a' b' r' : Ratio) → IsProper a → IsProper b → IsProper a' → IsProper b' → Scales f a a' → Scales f b b' → Same r (plus a b) → Same r' (plus a' b') → Scales f r r'
  sum_scaled a b r a' b' r' pa pb pa' pb' h k e e' =
      let both : Same (plus a' b') (plus (times a f) (times b f)) = plus_same a' (times a f) b' (times b f) h k in
      let parts : Same r' (plus (times a f) (times b f)) = same_trans r' (plus a' b') (plus (times a f) (times b f)) (*ℤ-ne-zero _ _ pa' pb') e' both in
      let whole : Same r' (times (plus a b) f) = same_trans r' (plus (times a f) (times b f)) (times (plus a b) f) (*ℤ-ne-zero _ _ (*ℤ-ne-zero _ _ pa proper) (*ℤ-ne-zero _ _ pb proper)) parts (plus_times a b f) in
      same_trans r' (times (plus a b) f) (times r f) (*ℤ-ne-zero _ _ (*ℤ-ne-zero _ _ pa pb) proper) whole (times_same (plus a b) r f f (sym e) refl)

  -- a difference is the sum with the opposite
  minus_plus : (a b : Ratio) → (minus a b).top ≡ (plus a (opposite b)).top
  minus_plus a b = taken (a.top *ℤ b.bottom) (b.top *ℤ a.bottom) (neg_ℤ b.top *ℤ a.bottom) (neg_ℤ-*ℤ b.top a.bottom)
    where
      taken : (x y z : ℤ) → z ≡ neg_ℤ y → x -ℤ y ≡ x +ℤ z
      taken x y z e = omega (arith, ints, e)

  pub difference_scaled : (a b r a' b' r' : Ratio) → IsProper a → IsProper b → IsProper a' → IsProper b' → Scales f a a' → Scales f b b' → Same r (minus a b) → Same r' (minus a' b') → Scales f r r'
  difference_scaled a b r a' b' r' pa pb pa' pb' h k e e' =
      sum_scaled a (opposite b) r a' (opposite b') r' pa pb pa' pb' h (opposite_scaled f b b' k)
      (e ∙ ap (λ x. x *ℤ r.bottom) (minus_plus a b))
      (e' ∙ ap (λ x. x *ℤ r'.bottom) (minus_plus a' b'))

pub product_scaled : (f g a b r a' b' r' : Ratio) → IsProper f → IsProper g → IsProper a → IsProper b → IsProper a' → IsProper b' → Scales f a a' → Scales g b b' → Same r (times a b) → Same r' (times a' b') → Scales (times f g) r r'
product_scaled f g a b r a' b' r' pf pg pa pb pa' pb' h k e e' =
    let parts : Same r' (times (times a f) (times b g)) = same_trans r' (times a' b') (times (times a f) (times b g)) (*ℤ-ne-zero _ _ pa' pb') e' (times_same a' (times a f) b' (times b g) h k) in
    let turned : Same (times (times a f) (times b g)) (times (times a b) (times f g)) = (λ i. times_four a.top f.top b.top g.top i *ℤ sym (times_four a.bottom f.bottom b.bottom g.bottom) i) in
    let whole : Same r' (times (times a b) (times f g)) = same_trans r' (times (times a f) (times b g)) (times (times a b) (times f g)) (*ℤ-ne-zero _ _ (*ℤ-ne-zero _ _ pa pf) (*ℤ-ne-zero _ _ pb pg)) parts turned in
    same_trans r' (times (times a b) (times f g)) (times r (times f g)) (*ℤ-ne-zero _ _ (*ℤ-ne-zero _ _ pa pb) (*ℤ-ne-zero _ _ pf pg)) whole (times_same (times a b) r (times f g) (times f g) (sym e) refl)

pub power_scaled : (f a r a' r' : Ratio) (n : ℕ) → IsProper f → IsProper a → IsProper a' → Scales f a a' → Same r (power a n) → Same r' (power a' n) → Scales (power f n) r r'
power_scaled f a r a' r' n pf pa pa' h e e' =
    let of_product : Same r' (power (times a f) n) = same_trans r' (power a' n) (power (times a f) n) (int_pow-ne-zero a'.bottom n pa') e' (power_same a' (times a f) n h) in
    let whole : Same r' (times (power a n) (power f n)) = same_trans r' (power (times a f) n) (times (power a n) (power f n)) (int_pow-ne-zero (a.bottom *ℤ f.bottom) n (*ℤ-ne-zero _ _ pa pf)) of_product (power_times a f n) in
    same_trans r' (times (power a n) (power f n)) (times r (power f n)) (*ℤ-ne-zero _ _ (int_pow-ne-zero a.bottom n pa) (int_pow-ne-zero f.bottom n pf)) whole (times_same (power a n) r (power f n) (power f n) (sym e) refl)

-- ---- the order
abbrev pub IsAbove : ℤ → Type 0
IsAbove z = (n : ℕ) × (z ≡ pos n) × (0 < n)

pub above_apart : (z : ℤ) → IsAbove z → z ≢ pos 0
above_apart z above e = let f : pos above.0 ≡ pos 0 = sym above.1 ∙ e in let up = above.2 in omega (arith, ints, f, up)

pub times_above : (x y : ℤ) → IsAbove x → IsAbove y → IsAbove (x *ℤ y)
times_above x y h k = (h.0 * k.0, (λ i. h.1 i *ℤ k.1 i) ∙ pos-*ℤ-pos h.0 k.0, mul-pos h.2 k.2)

more : (x y d : ℤ) → IsAbove d → x <ℤ y → (x *ℤ d) <ℤ (y *ℤ d)
more x y d above h = subst (λ z. (x *ℤ z) <ℤ (y *ℤ z)) (sym above.1) (less_times x y above.0 above.2 h)

more_back : (x y d : ℤ) → IsAbove d → (x *ℤ d) <ℤ (y *ℤ d) → x <ℤ y
more_back x y d above h = less_cancel x y above.0 above.2 (subst (λ z. (x *ℤ z) <ℤ (y *ℤ z)) above.1 h)

abbrev pub Less : Ratio → Ratio → Type 0
Less a b = (a.top *ℤ b.bottom) <ℤ (b.top *ℤ a.bottom)

-- a cross product of scaled numbers is that of the numbers before, but for factors that are above 0
side : (f a a' : Ratio) (m n : ℤ) → Scales f a a' → (a'.top *ℤ n) *ℤ ((a.bottom *ℤ f.bottom) *ℤ (m *ℤ f.bottom)) ≡ (a.top *ℤ m) *ℤ ((f.top *ℤ f.bottom) *ℤ (a'.bottom *ℤ n))
side f a a' m n h =
    let q = f.bottom in
    times_four a'.top n (a.bottom *ℤ q) (m *ℤ q)
    ∙ (λ i. h i *ℤ *ℤ_comm n (m *ℤ q) i)
    ∙ times_four (a.top *ℤ f.top) a'.bottom (m *ℤ q) n
    ∙ ap (λ x. x *ℤ (a'.bottom *ℤ n)) (times_four a.top f.top m q)
    ∙ *ℤ_assoc (a.top *ℤ m) (f.top *ℤ q) (a'.bottom *ℤ n)

module _ (f a b a' b' : Ratio) (h : Scales f a a') (k : Scales f b b') where
  left_side : (a'.top *ℤ b'.bottom) *ℤ ((a.bottom *ℤ f.bottom) *ℤ (b.bottom *ℤ f.bottom)) ≡ (a.top *ℤ b.bottom) *ℤ ((f.top *ℤ f.bottom) *ℤ (a'.bottom *ℤ b'.bottom))
  left_side = side f a a' b.bottom b'.bottom h

  right_side : (b'.top *ℤ a'.bottom) *ℤ ((a.bottom *ℤ f.bottom) *ℤ (b.bottom *ℤ f.bottom)) ≡ (b.top *ℤ a.bottom) *ℤ ((f.top *ℤ f.bottom) *ℤ (a'.bottom *ℤ b'.bottom))
  right_side =
      ap (λ x. (b'.top *ℤ a'.bottom) *ℤ x) (*ℤ_comm (a.bottom *ℤ f.bottom) (b.bottom *ℤ f.bottom))
      ∙ side f b b' a.bottom a'.bottom k
      ∙ ap (λ x. (b.top *ℤ a.bottom) *ℤ ((f.top *ℤ f.bottom) *ℤ x)) (*ℤ_comm b'.bottom a'.bottom)

  module _ (above_top : IsAbove f.top) (above_bottom : IsAbove f.bottom) (pa : IsAbove a.bottom) (pb : IsAbove b.bottom) (pa' : IsAbove a'.bottom) (pb' : IsAbove b'.bottom) where
    old_above : IsAbove ((a.bottom *ℤ f.bottom) *ℤ (b.bottom *ℤ f.bottom))
    old_above = times_above _ _ (times_above _ _ pa above_bottom) (times_above _ _ pb above_bottom)

    new_above : IsAbove ((f.top *ℤ f.bottom) *ℤ (a'.bottom *ℤ b'.bottom))
    new_above = times_above _ _ (times_above _ _ above_top above_bottom) (times_above _ _ pa' pb')

    pub less_scaled : Less a b → Less a' b'
    less_scaled l =
        more_back _ _ _ old_above
        (subst (λ x. x <ℤ ((b'.top *ℤ a'.bottom) *ℤ ((a.bottom *ℤ f.bottom) *ℤ (b.bottom *ℤ f.bottom)))) (sym left_side)
        (subst (λ x. ((a.top *ℤ b.bottom) *ℤ ((f.top *ℤ f.bottom) *ℤ (a'.bottom *ℤ b'.bottom))) <ℤ x) (sym right_side) (more _ _ _ new_above l)))

    pub less_before : Less a' b' → Less a b
    less_before l =
        more_back _ _ _ new_above
        (subst (λ x. x <ℤ ((b.top *ℤ a.bottom) *ℤ ((f.top *ℤ f.bottom) *ℤ (a'.bottom *ℤ b'.bottom)))) left_side
        (subst (λ x. ((a'.top *ℤ b'.bottom) *ℤ ((a.bottom *ℤ f.bottom) *ℤ (b.bottom *ℤ f.bottom))) <ℤ x) right_side (more _ _ _ old_above l)))

    pub same_scaled : Same a b → Same a' b'
    same_scaled e = cancel _ _ _ (above_apart _ old_above) (left_side ∙ ap (λ x. x *ℤ ((f.top *ℤ f.bottom) *ℤ (a'.bottom *ℤ b'.bottom))) e ∙ sym right_side)

    pub same_before : Same a' b' → Same a b
    same_before e = cancel _ _ _ (above_apart _ new_above) (sym left_side ∙ ap (λ x. x *ℤ ((a.bottom *ℤ f.bottom) *ℤ (b.bottom *ℤ f.bottom))) e ∙ right_side)
