-- The powers of a unit in which each unit parameter is a base unit of its own.
use Rattle.std.proofs.Common.{◌≡◌, ℕ, ◌+◌, ◌-◌, ◌<◌, ◌≤◌, Bool, true, false, cond, ◌&&◌, List, [], ◌∷◌, ℤ, pos, ◌+ℤ◌, ◌*ℤ◌, refl, sym, ap, ◌∙◌, arith}
use Rattle.std.specs.Prelude.{◌==◌, nat_lt, nat_le}
use Rattle.std.proofs.lemmas.Int.{ints}
use Rattle.std.proofs.lemmas.Bool.{and_parts, and_from, eqb-true, eq-eqb, ne_eqb, le-leb, leb-true, lt-ltb, ltb-true, ltb-false}
use Rattle.um_units.specs.declared.Atom.{Atom}
use Rattle.um_units.specs.declared.Atom.TheVariants.{Base, Var}
use Rattle.um_units.specs.declared.Term.{Term}
use Rattle.um_units.specs.Terms.{indicator, weigh}
use Rattle.um_units.specs.PowerMap.{PowerMap, power_of, image, replace}
use Rattle.um_units.proofs.Weights.{weigh_alike}
use Rattle.um_units.proofs.Group.{weight-atom}
use Rattle.um_units.proofs.Replacement.{weight-replace}
use Rattle.um_elim.specs.Solution.{rigid_unit}
use Rattle.um_elim.proofs.Cases.{on_test}
use Rattle.um_elim.proofs.Shear.{weight-sum}
use Rattle.um_check.specs.Tests.{total, rigid_power}

-- 1 where the test holds
abbrev pub one_if : Bool → ℤ
one_if b = cond b (pos 1) (pos 0)

module _ (bases fixed : ℕ) where
  -- base unit n is that of a parameter
  abbrev pub is_fixed : ℕ → Bool
  is_fixed n = nat_le bases n && nat_lt (n - bases) fixed

  pub fixed_number : (n : ℕ) → is_fixed n ≡ true → (bases ≤ n) × (n - bases < fixed)
  fixed_number n h = let p = and_parts (nat_le bases n) (nat_lt (n - bases) fixed) h in (leb-true bases n p.0, ltb-true (n - bases) fixed p.1)

  number_fixed : (n : ℕ) → bases ≤ n → n - bases < fixed → is_fixed n ≡ true
  number_fixed n h l = and_from _ _ (le-leb bases n h) (lt-ltb (n - bases) fixed l)

  -- ---- numbers
  at_parameter : (k n : ℕ) → k < fixed → one_if (n == bases + k) ≡ pos 0 +ℤ one_if ((n - bases) == k) *ℤ one_if (is_fixed n)
  at_parameter k n l =
      on_test (n == bases + k)
      (λ e.
      let q = eqb-true n (bases + k) e in
      rw (e, eq-eqb (n - bases) k (omega (arith, q)), number_fixed n (omega (arith, q)) (omega (arith, q, l))) (omega (arith, ints)))
      (λ e. on_test (is_fixed n)
      (λ h.
      let p = fixed_number n h in
      let low = p.0 in
      let other : ((n - bases) == k) ≡ false = ne_eqb (n - bases) k (λ z. let q : n ≡ bases + k = omega (arith, z, low) in let t = eq-eqb n (bases + k) q in cc) in
      rw (e, other) (omega (arith, ints)))
      (λ h. rw (e, h) (nothing (one_if ((n - bases) == k)))))
    where
      nothing : (a : ℤ) → pos 0 ≡ pos 0 +ℤ a *ℤ pos 0
      nothing a = omega (arith, ints)

  at_variable : (k n : ℕ) → fixed ≤ k → pos 0 ≡ pos 0 +ℤ one_if ((n - bases) == k) *ℤ one_if (is_fixed n)
  at_variable k n l =
      on_test (is_fixed n)
      (λ h.
      let p = fixed_number n h in
      let low = p.1 in
      let other : ((n - bases) == k) ≡ false = ne_eqb (n - bases) k (λ z. omega (arith, z, low, l)) in
      rw other (omega (arith, ints)))
      (λ h. rw h (nothing (one_if ((n - bases) == k))))
    where
      nothing : (a : ℤ) → pos 0 ≡ pos 0 +ℤ a *ℤ pos 0
      nothing a = omega (arith, ints)

  -- ---- a base unit's power: its own, and that of the variable of its parameter
  base_at : (n : ℕ) (y : Atom) → power_of (image (rigid_unit bases fixed) y) (Base n) ≡ indicator (Base n) y +ℤ indicator (Var (n - bases)) y *ℤ one_if (is_fixed n)
  base_at n (Base m) = weight-atom (indicator (Base n)) (Base m) ∙ omega (arith, ints)
  base_at n (Var k) =
      on_test (nat_lt k fixed)
      (λ e. rw e (weight-atom (indicator (Base n)) (Base (bases + k)) ∙ at_parameter k n (ltb-true k fixed e)))
      (λ e. rw e (weight-atom (indicator (Base n)) (Var k) ∙ at_variable k n (ltb-false k fixed e)))

  pub rigid-base : (u : PowerMap) (n : ℕ) → power_of (replace (rigid_unit bases fixed) u) (Base n) ≡ power_of u (Base n) +ℤ power_of u (Var (n - bases)) *ℤ one_if (is_fixed n)
  rigid-base u n =
      weight-replace (indicator (Base n)) (rigid_unit bases fixed) u
      ∙ weigh_alike _ _ (λ y. base_at n y) u.terms
      ∙ weight-sum (indicator (Base n)) (indicator (Var (n - bases))) (one_if (is_fixed n)) u

  -- it is what is looked at
  pub rigid-seen : (u : PowerMap) (n : ℕ) → rigid_power bases fixed u (Base n) (power_of u (Base n)) ≡ power_of (replace (rigid_unit bases fixed) u) (Base n)
  rigid-seen u n =
      on_test (is_fixed n)
      (λ h.
      let p = fixed_number n h in
      let low = p.0 in
      let back : bases + (n - bases) ≡ n = omega (arith, low) in
      let e = rigid-base u n ∙ ap (λ b. power_of u (Base n) +ℤ power_of u (Var (n - bases)) *ℤ one_if b) h in
      rw h (ap (λ m. power_of u (Var (n - bases)) +ℤ power_of u (Base m)) back ∙ both (power_of u (Base n)) (power_of u (Var (n - bases))) ∙ sym e))
      (λ h.
      let e = rigid-base u n ∙ ap (λ b. power_of u (Base n) +ℤ power_of u (Var (n - bases)) *ℤ one_if b) h in
      rw h (alone (power_of u (Base n)) (power_of u (Var (n - bases))) ∙ sym e))
    where
      both : (a b : ℤ) → b +ℤ a ≡ a +ℤ b *ℤ pos 1
      both a b = omega (arith, ints)

      alone : (a b : ℤ) → a ≡ a +ℤ b *ℤ pos 0
      alone a b = omega (arith, ints)

  pub rigid-parameter : (u : PowerMap) (k : ℕ) → k < fixed → total bases u k ≡ power_of (replace (rigid_unit bases fixed) u) (Base (bases + k))
  rigid-parameter u k l =
      let back : bases + k - bases ≡ k = omega arith in
      let h = number_fixed (bases + k) (omega arith) (omega (arith, l)) in
      both (power_of u (Base (bases + k))) (power_of u (Var k))
      ∙ sym (rigid-base u (bases + k) ∙ (λ i. power_of u (Base (bases + k)) +ℤ power_of u (Var (back i)) *ℤ one_if (h i)))
    where
      both : (a b : ℤ) → b +ℤ a ≡ a +ℤ b *ℤ pos 1
      both a b = omega (arith, ints)

  -- ---- a variable's power: its own, or 0 where it is a parameter's
  free_at : (k : ℕ) → fixed ≤ k → (y : Atom) → power_of (image (rigid_unit bases fixed) y) (Var k) ≡ indicator (Var k) y
  free_at k l (Base m) = weight-atom (indicator (Var k)) (Base m)
  free_at k l (Var j) =
      on_test (nat_lt j fixed)
      (λ e.
      let low = ltb-true j fixed e in
      let other = ne_eqb k j (λ z. omega (arith, z, low, l)) in
      rw (e, other) (weight-atom (indicator (Var k)) (Base (bases + j))))
      (λ e. rw e (weight-atom (indicator (Var k)) (Var j)))

  pub rigid-free : (u : PowerMap) (k : ℕ) → fixed ≤ k → power_of (replace (rigid_unit bases fixed) u) (Var k) ≡ power_of u (Var k)
  rigid-free u k l = weight-replace (indicator (Var k)) (rigid_unit bases fixed) u ∙ weigh_alike _ _ (free_at k l) u.terms

  fixed_at : (k : ℕ) → k < fixed → (y : Atom) → power_of (image (rigid_unit bases fixed) y) (Var k) ≡ pos 0
  fixed_at k l (Base m) = weight-atom (indicator (Var k)) (Base m)
  fixed_at k l (Var j) =
      on_test (nat_lt j fixed)
      (λ e. rw e (weight-atom (indicator (Var k)) (Base (bases + j))))
      (λ e.
      let high = ltb-false j fixed e in
      let other = ne_eqb k j (λ z. omega (arith, z, high, l)) in
      rw e (weight-atom (indicator (Var k)) (Var j) ∙ ap one_if other))

  weigh-nothing : (ts : List Term) → weigh (λ y. pos 0) ts ≡ pos 0
  weigh-nothing [] = refl
  weigh-nothing (t ∷ ts) = ap (λ n. t.power *ℤ pos 0 +ℤ n) (weigh-nothing ts) ∙ nothing t.power
    where
      nothing : (a : ℤ) → a *ℤ pos 0 +ℤ pos 0 ≡ pos 0
      nothing a = omega (arith, ints)

  pub rigid-fixed : (u : PowerMap) (k : ℕ) → k < fixed → power_of (replace (rigid_unit bases fixed) u) (Var k) ≡ pos 0
  rigid-fixed u k l = weight-replace (indicator (Var k)) (rigid_unit bases fixed) u ∙ weigh_alike _ _ (fixed_at k l) u.terms ∙ weigh-nothing u.terms
