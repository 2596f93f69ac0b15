-- How much room powers of exact units take.
use Rattle.std.proofs.Common.{ℕ, ◌+◌, ◌*◌, ◌<◌, ◌≤◌, ◌^◌, Bool, true, false, cond, ℤ, pos, negsuc, ◌+ℤ◌, ◌*ℤ◌, nat_abs, FitsSigned, w32, w64, ap, ◌∙◌, arith}
use Rattle.std.specs.Prelude.{IsTrue}
use Rattle.std.proofs.lemmas.Int.{ints, unsigned_abs-mul}
use Rattle.std.proofs.lemmas.Nat.{mul-le}
use Rattle.um_units.specs.declared.Atom.{Atom}
use Rattle.um_units.specs.Atoms.{same_atom}
use Rattle.um_units.specs.Terms.{indicator}
use Rattle.um_units.specs.PowerMap.{PowerMap, power_of, one, atom, mul, pow}
use Rattle.um_units.specs.Range.{fits}
use Rattle.um_units.proofs.InRange.{fits-power_of}
use Rattle.um_units.proofs.Group.{power_of-one, power_of-mul, power_of-pow, weight-atom}
use Rattle.um_wide.specs.Room.{IsWithin, HaveRoom}

-- ---- absolute values
pub abs-sum : (a b : ℤ) → nat_abs (a +ℤ b) ≤ nat_abs a + nat_abs b
abs-sum a b = omega (arith, ints)

pub abs-product : (a b : ℤ) (m n : ℕ) → nat_abs a ≤ m → nat_abs b ≤ n → nat_abs (a *ℤ b) ≤ m * n
abs-product a b m n h k = let e = unsigned_abs-mul a b in let l = mul-le (nat_abs a) (nat_abs b) m n h k in omega (arith, e, l)

pub abs_32 : (a : ℤ) → FitsSigned w32 a → nat_abs a ≤ 2147483648
abs_32 (pos n) f = let low = f.sfits in omega arith
abs_32 (negsuc n) f = let low = f.sfits in omega arith

pub abs_64 : (a : ℤ) → FitsSigned w64 a → nat_abs a ≤ 9223372036854775808
abs_64 (pos n) f = let low = f.sfits in omega arith
abs_64 (negsuc n) f = let low = f.sfits in omega arith

-- ---- units
pub within-weaker : (m n : ℕ) (u : PowerMap) → m ≤ n → IsWithin m u → IsWithin n u
within-weaker m n u l h x = let k = h x in omega (arith, k, l)

pub within-one : (n : ℕ) → IsWithin n one
within-one n x = let e = ap nat_abs (power_of-one x) in omega (arith, e)

pub within-mul : (m n : ℕ) (u v : PowerMap) → IsWithin m u → IsWithin n v → IsWithin (m + n) (mul u v)
within-mul m n u v h k x =
    let e = ap nat_abs (power_of-mul u v x) in
    let f = h x in
    let g = k x in
    let s = abs-sum (power_of u x) (power_of v x) in
    omega (arith, e, f, g, s)

pub within-pow : (m n : ℕ) (u : PowerMap) (k : ℤ) → nat_abs k ≤ m → IsWithin n u → IsWithin (m * n) (pow u k)
within-pow m n u k h w x = rw (power_of-pow u k x) (abs-product k _ m n h (w x))

pub within-atom_pow : (x : Atom) (k : ℤ) → IsWithin (nat_abs k) (pow (atom x) k)
within-atom_pow y k x = rw (power_of-pow (atom y) k x ∙ ap (λ n. k *ℤ n) (weight-atom (indicator x) y)) (at (same_atom x y))
  where
    at : (b : Bool) → nat_abs (k *ℤ cond b (pos 1) (pos 0)) ≤ nat_abs k
    at true = omega (arith, ints)
    at false = omega (arith, ints)

pub within-fits : (u : PowerMap) → IsTrue (fits u) → IsWithin 2147483647 u
within-fits u h = fits-power_of u h

pub room-within : (m n : ℕ) (u v : PowerMap) → IsWithin m u → IsWithin n v → m + n < 2 ^ 127 → HaveRoom u v
room-within m n u v h k l x = let f = h x in let g = k x in omega (arith, f, g, l)
