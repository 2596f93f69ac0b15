-- A slot's powers of rows after a row is taken from them: those that the row doesn't hold stay.
use Rattle.std.proofs.Common.{◌≡◌, ◌≢◌, ◌≤◌, true, ℤ, pos, nat_abs, ◌*◌, ◌+ℤ◌, ◌*ℤ◌, sym, ap, ◌∙◌, subst, arith}
use Rattle.std.proofs.lemmas.Int.{ints}
use Rattle.std.proofs.Math.IntN.{*ℤ-zero}
use Rattle.um_units.specs.declared.Atom.{Atom}
use Rattle.um_units.specs.Terms.{is_zero}
use Rattle.um_units.specs.PowerMap.{PowerMap, power_of, mul, pow}
use Rattle.um_units.proofs.Weights.{zero_is}
use Rattle.um_units.proofs.Group.{power_of-mul, power_of-pow}
use Rattle.um_elim.proofs.Cases.{on_test}
use Rattle.um_wide.specs.Room.{IsNarrow, IsWithin, HaveRoom}
use Rattle.um_wide.proofs.Rooms.{within-pow, room-within}

pub taken_narrow : (u v t : PowerMap) (k : ℤ) → v ≡ mul u (pow t k) → IsNarrow u → ((x : Atom) → power_of t x ≢ pos 0 → nat_abs (power_of v x) ≤ 9223372036854775807) → IsNarrow v
taken_narrow u v t k e narrow held x =
    on_test (is_zero (power_of t x))
    (λ z. subst (λ n. nat_abs n ≤ 9223372036854775807)
    (sym (ap (λ w. power_of w x) e ∙ power_of-mul u (pow t k) x ∙ ap (λ n. power_of u x +ℤ n) (power_of-pow t k x ∙ ap (λ n. k *ℤ n) (zero_is (power_of t x) z) ∙ *ℤ-zero k) ∙ alone (power_of u x)))
    (narrow x))
    (λ z. held x (λ n. let y : is_zero (power_of t x) ≡ true = ap is_zero n in cc))
  where
    alone : (a : ℤ) → a +ℤ pos 0 ≡ a
    alone a = omega (arith, ints)

-- there is room for a row's powers to a power of 32 bits beside such powers
pub room_taken : (u t : PowerMap) (k : ℤ) → nat_abs k ≤ 2147483648 → IsNarrow u → IsNarrow t → HaveRoom u (pow t k)
room_taken u t k few narrow total =
    room-within 9223372036854775807 (2147483648 * 9223372036854775807) u (pow t k) narrow (within-pow 2147483648 9223372036854775807 t k few total) (omega arith)

pub room_raised : (u v t : PowerMap) (p k : ℤ) → v ≡ pow u p → nat_abs p ≤ 2147483648 → nat_abs k ≤ 2147483648 → IsNarrow u → IsNarrow t → HaveRoom v (pow t k)
room_raised u v t p k e small few narrow total =
    room-within (2147483648 * 9223372036854775807) (2147483648 * 9223372036854775807) v (pow t k)
    (subst (IsWithin (2147483648 * 9223372036854775807)) (sym e) (within-pow 2147483648 9223372036854775807 u p small narrow)) (within-pow 2147483648 9223372036854775807 t k few total) (omega arith)
