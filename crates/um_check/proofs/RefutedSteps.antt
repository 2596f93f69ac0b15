-- Where a row's steps end with a base unit left, the numbers t are a No.
use Rattle.std.proofs.Common.{◌≡◌, ◌≢◌, ℕ, zero, suc, ◌<◌, false, List, [], ◌∷◌, length, ◌+◌, nat_abs, ℤ, pos, negsuc, neg_ℤ, ◌+ℤ◌, ◌*ℤ◌, refl, sym, ap, ◌∙◌, arith}
use Rattle.std.specs.Prelude.{◌==◌, All}
use Rattle.std.proofs.lemmas.Int.{ints}
use Rattle.std.proofs.lemmas.Bool.{eqb-true}
use Rattle.std.proofs.Math.IntN.{*ℤ-zero, zero-*ℤ, +ℤ_idl, +ℤ_idr}
use Rattle.um_units.specs.declared.Atom.{Atom}
use Rattle.um_units.specs.declared.Atom.TheVariants.{Base, Var}
use Rattle.um_units.specs.declared.Term.{Term}
use Rattle.um_units.specs.Terms.{indicator, weigh}
use Rattle.um_units.specs.PowerMap.{PowerMap, power_of, atom, pow, replace, nth, extension}
use Rattle.um_units.specs.Variables.{VariablesBelow}
use Rattle.um_frac.proofs.Integers.{*ℤ-+ℤ, *ℤ_assoc, *ℤ-neg_ℤ, pos-*ℤ-zero}
use Rattle.um_units.proofs.Integers.{no_multiple}
use Rattle.um_units.proofs.Group.{weight-atom, weight-pow}
use Rattle.um_units.proofs.Replacement.{weight_held}
use Rattle.um_elim.proofs.Cases.{on_test}
use Rattle.um_elim.proofs.Shear.{weight-sum}
use Rattle.um_check.specs.Refutation.{IsApart}
use Rattle.um_elim.specs.declared.elim_step.ElimStep.{ElimStep}
use Rattle.um_elim.specs.EliminationSteps.{IsShear, unit_after, IsStuck, IsClosedLeft}
use Rattle.um_check.specs.Existence.{signed_by, inverse_after, IsInverse, total}
use Rattle.um_check.proofs.Extensions.{weight-extension}
use Rattle.um_check.proofs.InverseSteps.{unit_comes_back, pow-signed_by, replace-signed_by, total_is, inverse_after-base}

-- the product of the rows to the powers t is what comes back of r as the steps leave it, to the divisor
pub rows_are : (rows solution : List PowerMap) (back : Atom → PowerMap) (divisor : ℤ) (parts : ℕ → PowerMap) (k : ℕ) (ts : List ElimStep) → IsInverse rows solution back divisor parts →
    VariablesBelow (length solution) (nth rows k) → ((n : ℕ) → power_of (nth rows k) (Base n) ≢ pos 0 → back (Base n) ≡ atom (Base n)) → All IsShear ts →
    replace (nth rows) (signed_by ts (total parts (nth rows k) k divisor)) ≡ pow (extension (inverse_after ts back) (unit_after ts (replace (nth solution) (nth rows k)))) divisor
rows_are rows solution back divisor parts k ts kept below bases shears =
    replace-signed_by (nth rows) ts (total parts (nth rows k) k divisor)
    ∙ ap (signed_by ts) (sym (total_is rows solution back divisor parts k kept below bases))
    ∙ sym (pow-signed_by ts (extension back (replace (nth solution) (nth rows k))) divisor)
    ∙ ap (λ u. pow u divisor) (sym (unit_comes_back ts (replace (nth solution) (nth rows k)) back shears))

weigh-zero : (ts : List Term) → weigh (λ _. pos 0) ts ≡ pos 0
weigh-zero [] = refl
weigh-zero (t ∷ ts) = ap (λ z. t.power *ℤ pos 0 +ℤ z) (weigh-zero ts) ∙ ap (λ z. z +ℤ pos 0) (*ℤ-zero t.power)

alone_is : (z : ℤ) → z ≡ pos 0 +ℤ pos 1 *ℤ z
alone_is z = omega (arith, ints)

nothing_is : (z : ℤ) → pos 0 ≡ pos 0 +ℤ pos 0 *ℤ z
nothing_is z = omega (arith, ints)

itself_is : (a z : ℤ) → a ≡ a +ℤ pos 0 *ℤ z
itself_is a z = omega (arith, ints)

-- a unit whose one variable is x: the powers in what comes back of it
pub at_slots : (back : Atom → PowerMap) (m : ℕ) (r : PowerMap) (k : ℕ) → ((n : ℕ) → back (Base n) ≡ atom (Base n)) → ((j : ℕ) → (m == j) ≡ false → power_of r (Var j) ≡ pos 0) →
    power_of (extension back r) (Var k) ≡ power_of r (Var m) *ℤ power_of (back (Var m)) (Var k)
at_slots back m r k bases alone =
    weight-extension (indicator (Var k)) back r
    ∙ weight_held _ (λ y. pos 0 +ℤ indicator (Var m) y *ℤ power_of (back (Var m)) (Var k)) r at
    ∙ weight-sum (λ _. pos 0) (indicator (Var m)) (power_of (back (Var m)) (Var k)) r
    ∙ ap (λ z. z +ℤ power_of r (Var m) *ℤ power_of (back (Var m)) (Var k)) (weigh-zero r.terms)
    ∙ +ℤ_idl (power_of r (Var m) *ℤ power_of (back (Var m)) (Var k))
  where
    at : (y : Atom) → power_of r y ≢ pos 0 → power_of (back y) (Var k) ≡ pos 0 +ℤ indicator (Var m) y *ℤ power_of (back (Var m)) (Var k)
    at (Base n) h = ap (λ u. power_of u (Var k)) (bases n) ∙ weight-atom (indicator (Var k)) (Base n) ∙ nothing_is (power_of (back (Var m)) (Var k))
    at (Var n) h = on_test (m == n)
        (λ e. let q : n ≡ m = sym (eqb-true m n e) in rw e (ap (λ i. power_of (back (Var i)) (Var k)) q ∙ alone_is (power_of (back (Var m)) (Var k))))
        (λ e. absurd (h (alone n e)))

pub at_base : (back : Atom → PowerMap) (m : ℕ) (r : PowerMap) (b : ℕ) → ((n : ℕ) → back (Base n) ≡ atom (Base n)) → ((j : ℕ) → (m == j) ≡ false → power_of r (Var j) ≡ pos 0) →
    power_of (extension back r) (Base b) ≡ power_of r (Base b) +ℤ power_of r (Var m) *ℤ power_of (back (Var m)) (Base b)
at_base back m r b bases alone =
    weight-extension (indicator (Base b)) back r
    ∙ weight_held _ (λ y. indicator (Base b) y +ℤ indicator (Var m) y *ℤ power_of (back (Var m)) (Base b)) r at
    ∙ weight-sum (indicator (Base b)) (indicator (Var m)) (power_of (back (Var m)) (Base b)) r
  where
    at : (y : Atom) → power_of r y ≢ pos 0 → power_of (back y) (Base b) ≡ indicator (Base b) y +ℤ indicator (Var m) y *ℤ power_of (back (Var m)) (Base b)
    at (Base n) h = ap (λ u. power_of u (Base b)) (bases n) ∙ weight-atom (indicator (Base b)) (Base n) ∙ itself_is (indicator (Base b) (Base n)) (power_of (back (Var m)) (Base b))
    at (Var n) h = on_test (m == n)
        (λ e. let q : n ≡ m = sym (eqb-true m n e) in rw e (ap (λ i. power_of (back (Var i)) (Base b)) q ∙ alone_is (power_of (back (Var m)) (Base b))))
        (λ e. absurd (h (alone n e)))

-- d (e + p b) is no multiple of d p
pub no_part : (d p e : ℕ) (b q : ℤ) → 0 < d → 0 < e → e < p → pos d *ℤ (pos e +ℤ pos p *ℤ b) ≡ (pos d *ℤ pos p) *ℤ q → ⊥
no_part d p e b q h i l same =
    no_multiple p e (b +ℤ neg_ℤ q) i l
    (gathered (pos p *ℤ b) (pos p *ℤ q) (pos p *ℤ (b +ℤ neg_ℤ q)) (pos e)
    (pos-*ℤ-zero d ((pos e +ℤ pos p *ℤ b) +ℤ neg_ℤ (pos p *ℤ q)) h
    (*ℤ-+ℤ (pos d) (pos e +ℤ pos p *ℤ b) (neg_ℤ (pos p *ℤ q)) ∙ taken (pos d *ℤ (pos e +ℤ pos p *ℤ b)) (pos d *ℤ (pos p *ℤ q)) (pos d *ℤ neg_ℤ (pos p *ℤ q)) (same ∙ *ℤ_assoc (pos d) (pos p) q) (*ℤ-neg_ℤ (pos d) (pos p *ℤ q))))
    (*ℤ-+ℤ (pos p) b (neg_ℤ q) ∙ ap (λ z. pos p *ℤ b +ℤ z) (*ℤ-neg_ℤ (pos p) q)))
  where
    taken : (a c n : ℤ) → a ≡ c → n ≡ neg_ℤ c → a +ℤ n ≡ pos 0
    taken a c n f g = omega (arith, ints, f, g)

    gathered : (x y z e : ℤ) → (e +ℤ x) +ℤ neg_ℤ y ≡ pos 0 → z ≡ x +ℤ neg_ℤ y → z +ℤ e ≡ pos 0
    gathered x y z e f g = omega (arith, ints, f, g)

-- the No of a row that is stuck
pub stuck_is_apart : (rows solution : List PowerMap) (back : Atom → PowerMap) (divisor : ℕ) (parts : ℕ → PowerMap) (k : ℕ) (ts : List ElimStep) → 0 < divisor → IsInverse rows solution back (pos divisor) parts →
    VariablesBelow (length solution) (nth rows k) → ((n : ℕ) → back (Base n) ≡ atom (Base n)) → All IsShear ts → (stuck : IsStuck ts (replace (nth solution) (nth rows k))) →
    IsApart (pos divisor *ℤ pos stuck.p) (replace (nth rows) (signed_by ts (total parts (nth rows k) k (pos divisor))))
stuck_is_apart rows solution back divisor parts k ts h kept below bases shears stuck = record {
  slots = λ j. (
    power_of (inverse_after ts back (Var stuck.m)) (Var j),
    power (Var j) ∙ ap (λ z. pos divisor *ℤ z) (at_slots (inverse_after ts back) stuck.m (unit_after ts (replace (nth solution) (nth rows k))) j after_bases stuck.alone ∙ ap (λ z. z *ℤ power_of (inverse_after ts back (Var stuck.m)) (Var j)) stuck.is)
        ∙ sym (*ℤ_assoc (pos divisor) (pos stuck.p) (power_of (inverse_after ts back (Var stuck.m)) (Var j))),
  );
  base = (
    stuck.n,
    λ q. no_part divisor stuck.p stuck.e (power_of (inverse_after ts back (Var stuck.m)) (Base stuck.n)) q.0 h stuck.e_positive stuck.below
        (sym (power (Base stuck.n) ∙ ap (λ z. pos divisor *ℤ z) (at_base (inverse_after ts back) stuck.m (unit_after ts (replace (nth solution) (nth rows k))) stuck.n after_bases stuck.alone
        ∙ ap (λ z. z +ℤ power_of (unit_after ts (replace (nth solution) (nth rows k))) (Var stuck.m) *ℤ power_of (inverse_after ts back (Var stuck.m)) (Base stuck.n)) stuck.base
        ∙ ap (λ z. pos stuck.e +ℤ z *ℤ power_of (inverse_after ts back (Var stuck.m)) (Base stuck.n)) stuck.is)) ∙ q.1),
  );
}
  where
    after_bases : (n : ℕ) → inverse_after ts back (Base n) ≡ atom (Base n)
    after_bases n = inverse_after-base ts back n ∙ bases n

    power : (x : Atom) → power_of (replace (nth rows) (signed_by ts (total parts (nth rows k) k (pos divisor)))) x ≡ pos divisor *ℤ power_of (extension (inverse_after ts back) (unit_after ts (replace (nth solution) (nth rows k)))) x
    power x = ap (λ u. power_of u x) (rows_are rows solution back (pos divisor) parts k ts kept below (λ n _. bases n) shears) ∙ weight-pow (indicator x) (extension (inverse_after ts back) (unit_after ts (replace (nth solution) (nth rows k)))) (pos divisor)

-- ---- no variable is left
pub no_whole : (d : ℕ) (e q : ℤ) → 0 < d → e ≢ pos 0 → pos d *ℤ e ≡ (pos d *ℤ pos (nat_abs e + 1)) *ℤ q → ⊥
no_whole d e q h n same = at e n (pos-*ℤ-zero d (e +ℤ neg_ℤ (pos (nat_abs e + 1) *ℤ q)) h
    (*ℤ-+ℤ (pos d) e (neg_ℤ (pos (nat_abs e + 1) *ℤ q)) ∙ taken (pos d *ℤ e) (pos d *ℤ (pos (nat_abs e + 1) *ℤ q)) (pos d *ℤ neg_ℤ (pos (nat_abs e + 1) *ℤ q)) (same ∙ *ℤ_assoc (pos d) (pos (nat_abs e + 1)) q) (*ℤ-neg_ℤ (pos d) (pos (nat_abs e + 1) *ℤ q))))
  where
    taken : (a c n : ℤ) → a ≡ c → n ≡ neg_ℤ c → a +ℤ n ≡ pos 0
    taken a c n f g = omega (arith, ints, f, g)

    at : (e : ℤ) → e ≢ pos 0 → e +ℤ neg_ℤ (pos (nat_abs e + 1) *ℤ q) ≡ pos 0 → ⊥
    at (pos zero) n z = n refl
    at (pos (suc k)) n z = no_multiple (suc k + 1) (suc k) (neg_ℤ q) (omega arith) (omega arith) (gathered (pos (suc k)) (pos (suc k + 1) *ℤ q) (pos (suc k + 1) *ℤ neg_ℤ q) z (*ℤ-neg_ℤ (pos (suc k + 1)) q))
      where
        gathered : (e x y : ℤ) → e +ℤ neg_ℤ x ≡ pos 0 → y ≡ neg_ℤ x → y +ℤ e ≡ pos 0
        gathered e x y f g = omega (arith, ints, f, g)
    at (negsuc j) n z = no_multiple (suc j + 1) (suc j) q (omega arith) (omega arith) (gathered j (pos (suc j + 1) *ℤ q) z)
      where
        gathered : (j : ℕ) (x : ℤ) → negsuc j +ℤ neg_ℤ x ≡ pos 0 → x +ℤ pos (suc j) ≡ pos 0
        gathered j x f = omega (arith, ints, f)

pub closed_is_apart : (rows solution : List PowerMap) (back : Atom → PowerMap) (divisor : ℕ) (parts : ℕ → PowerMap) (k : ℕ) (ts : List ElimStep) → 0 < divisor → IsInverse rows solution back (pos divisor) parts →
    VariablesBelow (length solution) (nth rows k) → ((n : ℕ) → back (Base n) ≡ atom (Base n)) → All IsShear ts → (left : IsClosedLeft ts (replace (nth solution) (nth rows k))) →
    IsApart (pos divisor *ℤ pos (nat_abs (power_of (unit_after ts (replace (nth solution) (nth rows k))) (Base left.n)) + 1)) (replace (nth rows) (signed_by ts (total parts (nth rows k) k (pos divisor))))
closed_is_apart rows solution back divisor parts k ts h kept below bases shears left = record {
  slots = λ j. (
    pos 0,
    power (Var j) ∙ ap (λ z. pos divisor *ℤ z) (at_slots (inverse_after ts back) 0 (unit_after ts (replace (nth solution) (nth rows k))) j after_bases (λ i _. left.closed i)
        ∙ ap (λ z. z *ℤ power_of (inverse_after ts back (Var 0)) (Var j)) (left.closed 0) ∙ zero-*ℤ (power_of (inverse_after ts back (Var 0)) (Var j)))
        ∙ *ℤ-zero (pos divisor) ∙ sym (*ℤ-zero (pos divisor *ℤ pos (nat_abs (power_of (unit_after ts (replace (nth solution) (nth rows k))) (Base left.n)) + 1))),
  );
  base = (
    left.n,
    λ q. no_whole divisor (power_of (unit_after ts (replace (nth solution) (nth rows k))) (Base left.n)) q.0 h left.nonzero
        (sym (power (Base left.n) ∙ ap (λ z. pos divisor *ℤ z) (at_base (inverse_after ts back) 0 (unit_after ts (replace (nth solution) (nth rows k))) left.n after_bases (λ i _. left.closed i)
        ∙ ap (λ z. power_of (unit_after ts (replace (nth solution) (nth rows k))) (Base left.n) +ℤ z) (ap (λ z. z *ℤ power_of (inverse_after ts back (Var 0)) (Base left.n)) (left.closed 0) ∙ zero-*ℤ (power_of (inverse_after ts back (Var 0)) (Base left.n)))
        ∙ +ℤ_idr (power_of (unit_after ts (replace (nth solution) (nth rows k))) (Base left.n)))) ∙ q.1),
  );
}
  where
    after_bases : (n : ℕ) → inverse_after ts back (Base n) ≡ atom (Base n)
    after_bases n = inverse_after-base ts back n ∙ bases n

    power : (x : Atom) → power_of (replace (nth rows) (signed_by ts (total parts (nth rows k) k (pos divisor)))) x ≡ pos divisor *ℤ power_of (extension (inverse_after ts back) (unit_after ts (replace (nth solution) (nth rows k)))) x
    power x = ap (λ u. power_of u x) (rows_are rows solution back (pos divisor) parts k ts kept below (λ n _. bases n) shears) ∙ weight-pow (indicator x) (extension (inverse_after ts back) (unit_after ts (replace (nth solution) (nth rows k)))) (pos divisor)
