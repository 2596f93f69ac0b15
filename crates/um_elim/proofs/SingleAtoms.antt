-- A unit that holds one atom alone is that atom to a power.
use Rattle.std.proofs.Common.{◌≡◌, ℕ, false, ℤ, pos, ◌*ℤ◌, sym, ap, ◌∙◌, arith}
use Rattle.std.specs.Prelude.{◌==◌}
use Rattle.std.proofs.lemmas.Int.{ints}
use Rattle.std.proofs.lemmas.Bool.{eqb-true, ne_eqb, eqb-false}
use Rattle.std.proofs.Math.IntN.{*ℤ-zero}
use Rattle.um_units.specs.declared.Atom.{Atom}
use Rattle.um_units.specs.declared.Atom.TheVariants.{Base, Var}
use Rattle.um_units.specs.Terms.{indicator}
use Rattle.um_units.specs.PowerMap.{PowerMap, power_of, atom, pow}
use Rattle.um_units.proofs.Equality.{same_unit}
use Rattle.um_units.proofs.Group.{weight-atom, power_of-pow}
use Rattle.um_pivots.specs.Pivot.{has_other, has_base}
use Rattle.um_elim.proofs.Cases.{on_test}
use Rattle.um_elim.proofs.PivotLaws.{no_base, no_other}

pub only_power : (m p : ℕ) (r : PowerMap) → power_of r (Var m) ≡ pos p → has_other m r ≡ false → has_base r ≡ false → r ≡ pow (atom (Var m)) (pos p)
only_power m p r e o b = same_unit _ _ (λ x. at x ∙ sym (power_of-pow (atom (Var m)) (pos p) x ∙ ap (λ n. pos p *ℤ n) (weight-atom (indicator x) (Var m))))
  where
    once : (a : ℤ) → a *ℤ pos 1 ≡ a
    once a = omega (arith, ints)

    at : (x : Atom) → power_of r x ≡ pos p *ℤ indicator x (Var m)
    at (Base n) = no_base r b n ∙ sym (*ℤ-zero (pos p))
    at (Var n) =
        on_test (n == m)
        (λ f. let q : n ≡ m = eqb-true n m f in rw f (ap (λ k. power_of r (Var k)) q ∙ e ∙ sym (once (pos p))))
        (λ f. rw f (no_other m r o n (ne_eqb m n (λ q. eqb-false n m f (sym q))) ∙ sym (*ℤ-zero (pos p))))
