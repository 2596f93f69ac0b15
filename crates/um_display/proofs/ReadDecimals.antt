-- Digits that are printed without a mark are those of a number text, which has the number's value.
use Rattle.std.proofs.Common.{◌≡◌, ℕ, zero, suc, ◌+◌, ◌-◌, ◌*◌, ◌/◌, ◌%◌, ◌^◌, ◌<◌, ◌≤◌, ℤ, pos, ◌*ℤ◌, unsigned_abs, Bool, true, false, cond, eqb, eqb-true, nat_le, List, [], ◌∷◌, ◌++◌, length, length-append, codes, Option, None, refl, sym, ap, ◌∙◌, arith}
use Rattle.std.specs.Prelude.{if◌then◌else◌, replicate}
use Rattle.std.specs.Fmt.{decimal}
use Rattle.std.proofs.lemmas.Bool.{eqb-false, le-leb}
use Rattle.std.proofs.lemmas.Fmt.{length-decimal-le}
use Rattle.std.proofs.lemmas.List.{append-nil, length-replicate}
use Rattle.std.proofs.lemmas.Nat.{div-add-mod'}
use Rattle.std.proofs.Math.IntN.{pos-*ℤ-pos}
use Rattle.std.proofs.Math.Nat.{mul-le-mul, mul-le-mul_right, pow-suc, pow-le-pow_right, div-lt_iff_lt-mul, mod-lt}
use Rattle.um_frac.specs.declared.number.Frac.{Frac}
use Rattle.um_frac.specs.Fraction.{numerator, denominator, reduced}
use Rattle.um_frac.proofs.LowestTerms.{above_zero, num_size, reduced_same}
use Rattle.um_syntax.specs.Numeral.{AreDigits, IsDigits, value_after, value_of, Whole, Decimal}
use Rattle.um_syntax.proofs.Digits.{value_after-append}
use Rattle.um_decimals.specs.Decimals.{scaled_size, last_digits, is_exact, padded}
use Rattle.um_show.proofs.Numbers.{decimal_digits, decimal_value}
use Rattle.um_display.specs.Laws.{IsReadAs, DecimalsAreRead}

-- ---- zeros before digits

zeros_after : (z : ℕ) (ds : List ℕ) → value_of (replicate z 48 ++ ds) ≡ value_of ds
zeros_after zero ds = refl
zeros_after (suc z) ds = zeros_after z ds

to_are : (ds : List ℕ) → IsDigits ds → AreDigits ds
to_are [] h = absurd h
to_are (d ∷ ds) h = h

zeros_are : (z : ℕ) (ds : List ℕ) → AreDigits ds → AreDigits (replicate z 48 ++ ds)
zeros_are zero ds h = h
zeros_are (suc z) ds h = (refl, zeros_are z ds h)

zeros_some : (z : ℕ) (ds : List ℕ) → IsDigits ds → IsDigits (replicate z 48 ++ ds)
zeros_some zero ds h = h
zeros_some (suc z) ds h = (refl, zeros_are z ds (to_are ds h))

padded_length : (k n : ℕ) → 0 < k → n < 10 ^ k → n < 2 ^ 64 → length (padded k n) ≡ k
padded_length k n some below fits =
    let digits = length-decimal-le k n some below fits in
    let both = length-append (replicate (k - length (decimal n)) 48) (decimal n) in
    let zeros = length-replicate {A = ℕ} (k - length (decimal n)) 48 in
    omega (arith, digits, both, zeros)

-- ---- digits after others

shifted_more : (n e p v : ℕ) → (10 * n + e) * p + v ≡ n * (p * 10) + ((10 * 0 + e) * p + v)
shifted_more n e p v = grind arith

shifted : (n : ℕ) (ds : List ℕ) → value_after n ds ≡ n * 10 ^ length ds + value_of ds
shifted n [] = omega arith
shifted n (d ∷ ds) =
    rw (pow-suc 10 (length ds))
    (shifted (10 * n + (d - 48)) ds ∙ shifted_more n (d - 48) (10 ^ length ds) (value_of ds)
    ∙ ap (λ k. n * (10 ^ length ds * 10) + k) (sym (shifted (10 * 0 + (d - 48)) ds)))

joined : (q k r : ℕ) → q < 2 ^ 64 → 0 < k → r < 10 ^ k → r < 2 ^ 64 → value_of (decimal q ++ padded k r) ≡ q * 10 ^ k + r
joined q k r whole some below fits =
    value_after-append 0 (decimal q) (padded k r) ∙ ap (λ n. value_after n (padded k r)) (decimal_value q whole) ∙ shifted q (padded k r)
    ∙ ap (λ n. q * 10 ^ n + value_of (padded k r)) (padded_length k r some below fits)
    ∙ ap (λ n. q * 10 ^ k + n) (zeros_after (k - length (decimal r)) (decimal r) ∙ decimal_value r fits)

-- ---- the value of so many units

-- few digits are in order
allowed : (count : ℕ) (value : Option Frac) → count ≤ 38 → cond (nat_le count 38) value None ≡ value
allowed count value few = ap (λ b. cond b value None) (le-leb count 38 few)

positive : (k : ℕ) → 0 < 10 ^ k
positive zero = omega arith
positive (suc k) = let p = positive k in rw (pow-suc 10 k) (omega (arith, p))

module _ (units N D t : ℕ) (same : units * D ≡ N * t) where
  few_units : 0 < D → N < 2 ^ 64 → 0 < t → units < 2 ^ 64 * t
  few_units some fits above =
      let least : units * 1 ≤ units * D = mul-le-mul {n₁ = units} {m₁ = 1} {n₂ = units} {m₂ = D} (omega arith) (omega (arith, some)) in
      let most : (N + 1) * t ≤ 2 ^ 64 * t = mul-le-mul_right t (omega (arith, fits)) in
      let more : (N + 1) * t ≡ N * t + t = grind arith in
      omega (arith, least, most, more, above, same)

  quotients : (d : ℤ) → 0 < D → 0 < t → d ≡ pos D → reduced (pos units) (pos t) ≡ reduced (pos N) d
  quotients d some above is =
      reduced_same (pos units) (pos t) (pos N) d (λ e. absurd (let z : t ≡ 0 = cc e in omega (arith, z, above))) (λ e. absurd (let z : D ≡ 0 = cc (sym is ∙ e) in omega (arith, z, some)))
      (ap (λ z. pos units *ℤ z) is ∙ pos-*ℤ-pos units D ∙ ap pos same ∙ sym (pos-*ℤ-pos N t))

-- ---- all of them

above_none : (k : ℕ) → (k ≡ 0 → ⊥) → 0 < k
above_none zero h = absurd (h refl)
above_none (suc k) h = omega arith

-- what is known of the digits of an exact decimal number
record Known (k : ℕ) (x : Frac) (u : ℕ) : Type 0 where
  pub whole : u / 10 ^ k < 2 ^ 64
  pub rest : u % 10 ^ k < 10 ^ k
  pub rest_fits : u % 10 ^ k < 2 ^ 64
  pub digits : length (decimal (u / 10 ^ k)) ≤ 20
  pub ratio : reduced (pos u) (pos (10 ^ k)) ≡ reduced (pos (unsigned_abs (numerator x))) (denominator x)

known : (k : ℕ) (x : Frac) → k ≤ 18 → is_exact k x ≡ true → Known k x (last_digits k x)
known k x few exact =
    let u = last_digits k x in let n = unsigned_abs (numerator x) in let d = unsigned_abs (denominator x) in
    let same : u * d ≡ n * 10 ^ k = eqb-true (u * d) (scaled_size k x) exact in
    let den = above_zero (denominator x) x.positive in
    let size : d ≡ den.0 = ap unsigned_abs den.1 in
    let den_above = den.2 in
    let some : 0 < d = omega (arith, size, den_above) in
    let num = num_size x in
    let fits : n < 2 ^ 64 = omega (arith, num) in
    let tens = positive k in
    let most = pow-le-pow_right {n = 10} (omega arith) few in
    let below : u < 2 ^ 64 * 10 ^ k = few_units u n d (10 ^ k) same some fits tens in
    let front : u / 10 ^ k < 2 ^ 64 = (div-lt_iff_lt-mul {k = 10 ^ k} {x = u} {y = 2 ^ 64} tens).1 below in
    let last : u % 10 ^ k < 10 ^ k = mod-lt u {m = 10 ^ k} tens in
    record {
      whole = front;
      rest = last;
      rest_fits = omega (arith, last, most);
      digits = length-decimal-le 20 (u / 10 ^ k) (omega arith) (omega (arith, front)) front;
      ratio = quotients u n d (10 ^ k) same (denominator x) some tens (den.1 ∙ ap pos (sym size));
    }

as_whole : (k : ℕ) (x : Frac) → eqb k 0 ≡ true → Known k x (last_digits k x) → IsReadAs k x (Whole (decimal (last_digits k x / 10 ^ k)))
as_whole k x e h =
    let u = last_digits k x in let q = u / 10 ^ k in
    let one : 10 ^ k ≡ 1 = ap (λ (j : ℕ). 10 ^ j) (eqb-true k 0 e) in
    let product : q * 10 ^ k ≡ q * 1 = ap (λ (t : ℕ). q * t) one in
    let parts = div-add-mod' u (10 ^ k) in
    let rest = h.rest in
    let all : q ≡ u = omega (arith, one, product, parts, rest) in
    let digits = h.digits in
    record {
      printed = sym (ap (λ (b : Bool). decimal q ++ if◌then◌else◌ b [] (codes "." ++ padded k (u % 10 ^ k))) e ∙ append-nil (decimal q));
      is = decimal_digits q h.whole;
      value =
          allowed (length (decimal q)) (reduced (pos (value_of (decimal q))) (pos 1)) (omega (arith, digits))
          ∙ (λ i. reduced (pos ((decimal_value q h.whole ∙ all) i)) (pos (sym one i))) ∙ h.ratio;
    }

as_decimal : (k : ℕ) (x : Frac) → k ≤ 18 → eqb k 0 ≡ false → Known k x (last_digits k x)
    → IsReadAs k x (Decimal (decimal (last_digits k x / 10 ^ k)) (padded k (last_digits k x % 10 ^ k)))
as_decimal k x few e h =
    let u = last_digits k x in let q = u / 10 ^ k in let r = u % 10 ^ k in
    let some = above_none k (eqb-false k 0 e) in
    let long = padded_length k r some h.rest h.rest_fits in
    let all : value_of (decimal q ++ padded k r) ≡ u = joined q k r h.whole some h.rest h.rest_fits ∙ div-add-mod' u (10 ^ k) in
    let digits = h.digits in
    record {
      printed = sym (ap (λ (b : Bool). decimal q ++ if◌then◌else◌ b [] (codes "." ++ padded k r)) e);
      is = (decimal_digits q h.whole, zeros_some (k - length (decimal r)) (decimal r) (decimal_digits r h.rest_fits));
      value =
          allowed (length (decimal q) + length (padded k r)) (reduced (pos (value_of (decimal q ++ padded k r))) (pos (10 ^ length (padded k r)))) (omega (arith, digits, long, few))
          ∙ (λ i. reduced (pos (all i)) (pos (10 ^ long i))) ∙ h.ratio;
    }

pub decimals_are_read : DecimalsAreRead
decimals_are_read k x few exact = by (eqb k 0) refl where
  by : (b : Bool) → eqb k 0 ≡ b → IsReadAs k x (cond b (Whole (decimal (last_digits k x / 10 ^ k))) (Decimal (decimal (last_digits k x / 10 ^ k)) (padded k (last_digits k x % 10 ^ k))))
  by true e = as_whole k x e (known k x few exact)
  by false e = as_decimal k x few e (known k x few exact)
