-- A No of rigid rows: what comes back of r is replaced too, so that each base unit comes back as itself.
use Rattle.std.proofs.Common.{◌≡◌, ◌≢◌, ℕ, ◌+◌, ◌<◌, false, pos, nat_abs, ◌+ℤ◌, ◌*ℤ◌, sym, ap, ◌∙◌}
use Rattle.std.specs.Prelude.{◌==◌}
use Rattle.um_units.specs.declared.Atom.{Atom}
use Rattle.um_units.specs.declared.Atom.TheVariants.{Base, Var}
use Rattle.um_units.specs.Terms.{indicator}
use Rattle.um_units.specs.PowerMap.{PowerMap, power_of, atom, pow, image, replace, extension}
use Rattle.std.proofs.Math.IntN.{*ℤ-zero, zero-*ℤ, +ℤ_idr}
use Rattle.um_frac.proofs.Integers.{*ℤ_assoc}
use Rattle.um_units.proofs.Weights.{weigh_alike}
use Rattle.um_units.proofs.Equality.{same_unit}
use Rattle.um_units.proofs.Group.{weight-pow}
use Rattle.um_units.proofs.Replacement.{weight-replace, replace-pow}
use Rattle.um_check.specs.Refutation.{IsApart}
use Rattle.um_check.proofs.Extensions.{weight-extension}
use Rattle.um_check.proofs.RefutedSteps.{at_slots, at_base, no_part, no_whole}

pub replace-extension : (s : ℕ → PowerMap) (f : Atom → PowerMap) (u : PowerMap) → replace s (extension f u) ≡ extension (λ y. replace s (f y)) u
replace-extension s f u =
    same_unit _ _ (λ x. weight-replace (indicator x) s (extension f u) ∙ weight-extension (λ z. power_of (image s z) x) f u
    ∙ weigh_alike _ _ (λ y. sym (weight-replace (indicator x) s (f y))) u.terms ∙ sym (weight-extension (indicator x) (λ y. replace s (f y)) u))

power_of-replaced_back : (s : ℕ → PowerMap) (back : Atom → PowerMap) (r u : PowerMap) (d : ℕ) → u ≡ pow (extension back r) (pos d) → (x : Atom) →
    power_of (replace s u) x ≡ pos d *ℤ power_of (extension (λ y. replace s (back y)) r) x
power_of-replaced_back s back r u d is x =
    ap (λ v. power_of v x) (ap (replace s) is ∙ replace-pow s (extension back r) (pos d) ∙ ap (λ v. pow v (pos d)) (replace-extension s back r))
    ∙ weight-pow (indicator x) (extension (λ y. replace s (back y)) r) (pos d)

-- u is what comes back of r to the divisor d, and replaced by s each base unit comes back as itself
pub rigid_is_apart : (s : ℕ → PowerMap) (back : Atom → PowerMap) (r u : PowerMap) (d m p n e : ℕ) → 0 < d → ((b : ℕ) → replace s (back (Base b)) ≡ atom (Base b)) → u ≡ pow (extension back r) (pos d) →
    power_of r (Var m) ≡ pos p → ((k : ℕ) → (m == k) ≡ false → power_of r (Var k) ≡ pos 0) → 0 < e → e < p → power_of r (Base n) ≡ pos e → IsApart (pos d *ℤ pos p) (replace s u)
rigid_is_apart s back r u d m p n e h bases is at_m alone i l at_n = record {
  slots = λ j. (
    power_of (replace s (back (Var m))) (Var j),
    power_of-replaced_back s back r u d is (Var j) ∙ ap (λ z. pos d *ℤ z) (at_slots (λ y. replace s (back y)) m r j bases alone ∙ ap (λ z. z *ℤ power_of (replace s (back (Var m))) (Var j)) at_m)
        ∙ sym (*ℤ_assoc (pos d) (pos p) (power_of (replace s (back (Var m))) (Var j))),
  );
  base = (
    n,
    λ q. no_part d p e (power_of (replace s (back (Var m))) (Base n)) q.0 h i l
        (sym (power_of-replaced_back s back r u d is (Base n) ∙ ap (λ z. pos d *ℤ z) (at_base (λ y. replace s (back y)) m r n bases alone
        ∙ ap (λ z. z +ℤ power_of r (Var m) *ℤ power_of (replace s (back (Var m))) (Base n)) at_n
        ∙ ap (λ z. pos e +ℤ z *ℤ power_of (replace s (back (Var m))) (Base n)) at_m)) ∙ q.1),
  );
}

-- no variable is left
pub rigid_closed_is_apart : (s : ℕ → PowerMap) (back : Atom → PowerMap) (r u : PowerMap) (d n : ℕ) → 0 < d → ((b : ℕ) → replace s (back (Base b)) ≡ atom (Base b)) → u ≡ pow (extension back r) (pos d) →
    ((k : ℕ) → power_of r (Var k) ≡ pos 0) → power_of r (Base n) ≢ pos 0 → IsApart (pos d *ℤ pos (nat_abs (power_of r (Base n)) + 1)) (replace s u)
rigid_closed_is_apart s back r u d n h bases is closed held = record {
  slots = λ j. (
    pos 0,
    power_of-replaced_back s back r u d is (Var j) ∙ ap (λ z. pos d *ℤ z) (at_slots (λ y. replace s (back y)) 0 r j bases (λ i _. closed i)
        ∙ ap (λ z. z *ℤ power_of (replace s (back (Var 0))) (Var j)) (closed 0) ∙ zero-*ℤ (power_of (replace s (back (Var 0))) (Var j)))
        ∙ *ℤ-zero (pos d) ∙ sym (*ℤ-zero (pos d *ℤ pos (nat_abs (power_of r (Base n)) + 1))),
  );
  base = (
    n,
    λ q. no_whole d (power_of r (Base n)) q.0 h held
        (sym (power_of-replaced_back s back r u d is (Base n) ∙ ap (λ z. pos d *ℤ z) (at_base (λ y. replace s (back y)) 0 r n bases (λ i _. closed i)
        ∙ ap (λ z. power_of r (Base n) +ℤ z) (ap (λ z. z *ℤ power_of (replace s (back (Var 0))) (Base n)) (closed 0) ∙ zero-*ℤ (power_of (replace s (back (Var 0))) (Base n)))
        ∙ +ℤ_idr (power_of r (Base n)))) ∙ q.1),
  );
}
