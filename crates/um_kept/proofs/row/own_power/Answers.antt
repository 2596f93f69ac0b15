use Rattle.std.proofs.Common.{◌≡◌, ◌≤◌, ℕ, true, false, ℤ, nat_abs, ◌*ℤ◌, sym, subst, arith}
use Rattle.std.specs.Prelude.{IfOk, Bool}
use Rattle.std.proofs.lemmas.Int.{ints}
use Rattle.std.proofs.lemmas.Result.{IfOk-weaker}
use Rattle.um_units.specs.declared.Atom.TheVariants.{Var}
use Rattle.um_units.specs.PowerMap.{PowerMap, atom, pow}
use Rattle.um_wide.specs.Room.{IsWithin}
use Rattle.um_wide.proofs.Rooms.{abs_64, within-atom_pow, within-weaker}
use Rattle.um_kept.specs.Steps.{sign_of}
use Rattle.um_kept.proofs.row.own_power.Goals as goal

within : (k : ℕ) (b : Bool) (d : ℤ) (u : PowerMap) → nat_abs d ≤ 9223372036854775808 → u ≡ pow (atom (Var k)) (sign_of b *ℤ d) → IsWithin 9223372036854775808 u
within k b d u l e =
    subst (IsWithin 9223372036854775808) (sym e)
    (within-weaker (nat_abs (sign_of b *ℤ d)) 9223372036854775808 (pow (atom (Var k)) (sign_of b *ℤ d)) (low b) (within-atom_pow (Var k) (sign_of b *ℤ d)))
  where
    low : (b : Bool) → nat_abs (sign_of b *ℤ d) ≤ 9223372036854775808
    low true = omega (arith, ints, l)
    low false = omega (arith, ints, l)

pub returns-then-inverted-clause-exact : goal.returns-then-inverted-clause-exact
returns-then-inverted-clause-exact c =
    let e = c.from.ensures in
    let f = c.ranges.divisor in
    subst (λ b. IfOk c.atom_power.result (λ (u : PowerMap). u ≡ pow (atom (Var c.args.k)) (sign_of b *ℤ c.args.divisor))) (sym c.if-inverted.true)
    (subst (λ (z : ℤ). IfOk c.atom_power.result (λ (u : PowerMap). u ≡ pow (atom (Var c.args.k)) z)) (omega (arith, ints, e, f)) c.atom_power.ensures.exact)

pub returns-then-inverted-clause-room : goal.returns-then-inverted-clause-room
returns-then-inverted-clause-room c =
    IfOk-weaker c.atom_power.result _ (IsWithin 9223372036854775808) (λ u e. within c.args.k c.args.inverted c.args.divisor u (abs_64 c.args.divisor c.ranges.divisor) e) (returns-then-inverted-clause-exact c)

pub returns-clause-exact : goal.returns-clause-exact
returns-clause-exact c =
    let e = c.from-2.ensures in
    let f = c.ranges.divisor in
    subst (λ b. IfOk c.atom_power-2.result (λ (u : PowerMap). u ≡ pow (atom (Var c.args.k)) (sign_of b *ℤ c.args.divisor))) (sym c.if-inverted.false)
    (subst (λ (z : ℤ). IfOk c.atom_power-2.result (λ (u : PowerMap). u ≡ pow (atom (Var c.args.k)) z)) (omega (arith, ints, e, f)) c.atom_power-2.ensures.exact)

pub returns-clause-room : goal.returns-clause-room
returns-clause-room c =
    IfOk-weaker c.atom_power-2.result _ (IsWithin 9223372036854775808) (λ u e. within c.args.k c.args.inverted c.args.divisor u (abs_64 c.args.divisor c.ranges.divisor) e) (returns-clause-exact c)
