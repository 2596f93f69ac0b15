use Rattle.std.proofs.Common.{rules, ◌≡◌, ◌*ℤ◌, ◌^◌, ◌≤◌, ℤ, nat_abs, to_z, of_z, w64, FitsSigned, sym, subst, ap, ◌∙◌, arith}
use Rattle.std.specs.Int.{w128}
use Rattle.std.specs.Int.Signed.{nat_abs-le}
use Rattle.std.proofs.lemmas.Int.{to_z-of_z, fits_signed_mul, unsigned_abs-mul}
use Rattle.std.proofs.lemmas.Nat.{mul-le}
use Rattle.um_wide.proofs.merge.times.Goals as goal

product_fits : (k p : ℤ) → FitsSigned w64 k → nat_abs p ≤ 9223372036854775807 → FitsSigned w128 (k *ℤ p)
product_fits k p f h = fits_signed_mul w128 k p 9223372036854775808 9223372036854775807 (nat_abs-le k f.sfits) h (omega arith)

product_room : (k p : ℤ) → FitsSigned w64 k → nat_abs p ≤ 9223372036854775807 → nat_abs (k *ℤ p) ≤ 2 ^ 126
product_room k p f h = omega (arith, unsigned_abs-mul k p, mul-le (nat_abs k) (nat_abs p) 9223372036854775808 9223372036854775807 (nat_abs-le k f.sfits) h)

-- the factors as the code holds them
factors : (k p read : ℤ) → FitsSigned w64 k → FitsSigned w128 k → FitsSigned w128 p → read ≡ to_z w64 (of_z w64 k) → to_z w128 (of_z w128 read) *ℤ to_z w128 (of_z w128 p) ≡ k *ℤ p
factors k p read f g h e =
    ap (λ z. to_z w128 (of_z w128 z) *ℤ to_z w128 (of_z w128 p)) (e ∙ to_z-of_z w64 k f)
    ∙ ap (λ z. z *ℤ to_z w128 (of_z w128 p)) (to_z-of_z w128 k g)
    ∙ ap (λ z. k *ℤ z) (to_z-of_z w128 p h)

widens : (k : ℤ) → FitsSigned w64 k → FitsSigned w128 k
widens k f = search rules

pub overflow_mul-result : goal.overflow_mul-result
overflow_mul-result c =
    let k = c.args.k in
    let p = c.args.power in
    subst (λ z. FitsSigned w128 z) (sym (factors k p c.from.result c.ranges.k (widens k c.ranges.k) c.ranges.power c.from.ensures)) (product_fits k p c.ranges.k c.requires)

pub returns-clause-value : goal.returns-clause-value
returns-clause-value c =
    let k = c.args.k in
    let p = c.args.power in
    ap (λ z. to_z w128 (of_z w128 z)) (factors k p c.from.result c.ranges.k (widens k c.ranges.k) c.ranges.power c.from.ensures) ∙ to_z-of_z w128 (k *ℤ p) (product_fits k p c.ranges.k c.requires)

pub returns-clause-room : goal.returns-clause-room
returns-clause-room c = subst (λ z. nat_abs z ≤ 2 ^ 126) (sym (returns-clause-value c)) (product_room c.args.k c.args.power c.ranges.k c.requires)
