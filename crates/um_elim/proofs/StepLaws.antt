-- One step: the pivot keeps its power, each other power becomes a remainder below it, so that the least power falls, and
-- the step is an invertible change of variables.
use Rattle.std.proofs.Common.{◌≡◌, ◌≢◌, ℕ, zero, suc, ◌<◌, true, false, cond, Option, Some, None, List, [], ◌∷◌, map, ℤ, pos, negsuc, ◌+ℤ◌, ◌*ℤ◌, neg_ℤ, nat_abs, refl, sym, ap, ◌∙◌, arith}
use Rattle.std.specs.Prelude.{IsTrue}
use Rattle.std.specs.Int.{int_div_euclid}
use Rattle.std.proofs.lemmas.Int.{ints}
use Rattle.um_units.specs.declared.Atom.{Atom}
use Rattle.um_units.specs.declared.Atom.TheVariants.{Var}
use Rattle.um_units.specs.declared.Term.{Term}
use Rattle.um_units.specs.Atoms.{same_atom}
use Rattle.um_units.specs.Terms.{indicator, power_in, is_normal}
use Rattle.um_units.specs.NormalForm.{same_atom-eq, same_atom_refl, head_before_all, tail_normal}
use Rattle.um_units.specs.PowerMap.{PowerMap, power_of, one, inv, replace}
use Rattle.um_units.proofs.Integers.{div_euclid-zero, less_floor_is, rem_euclid-below}
use Rattle.um_units.proofs.Weights.{weigh-product}
use Rattle.um_units.proofs.Equality.{power_in-before_all}
use Rattle.um_units.proofs.Group.{weight-inv, inv-one, inv-inv}
use Rattle.um_units.proofs.Replacement.{replace-inv}
use Rattle.um_pivots.specs.declared.pivot.Pivot.{Pivot}
use Rattle.um_pivots.specs.Pivot.{pivot, size, least_power, has_other}
use Rattle.um_elim.specs.ElimStep.{quotients, multiply, step, inverted_if_negative, is_negative, signed}
use Rattle.um_elim.proofs.Cases.{on_test}
use Rattle.um_elim.proofs.Shear.{power_of-multiply, power_of-multiply_same, multiply_back}
use Rattle.um_elim.proofs.PivotLaws.{no_pivot, is_pivot, some_other}

-- ---- the powers of the quotients
-- each power changed by g, which keeps 0
abbrev change : (Atom → ℤ → ℤ) → Term → Term
change g t = record { atom = t.atom; power = g t.atom t.power }

power_in-change : (g : Atom → ℤ → ℤ) → ((x : Atom) → g x (pos 0) ≡ pos 0) → (ts : List Term) → IsTrue (is_normal ts) → (x : Atom) → power_in (map (change g) ts) x ≡ g x (power_in ts x)
power_in-change g z [] h x = sym (z x)
power_in-change g z (t ∷ ts) h x =
    let more = power_in-change g z ts (tail_normal t ts h) x in
    on_test (same_atom x t.atom)
    (λ e. let q : x ≡ t.atom = same_atom-eq x t.atom e in
    let none : power_in ts x ≡ pos 0 = ap (power_in ts) q ∙ power_in-before_all t.atom ts (head_before_all t ts h) in
    let zeros : power_in (map (change g) ts) x ≡ pos 0 = more ∙ ap (g x) none ∙ z x in
    rw e (head_only (g t.atom t.power) _ zeros ∙ ap (λ y. g y t.power) (sym q) ∙ ap (g x) (sym (head_only t.power _ none))))
    (λ e. rw e (tail_only (g t.atom t.power) _ ∙ more ∙ ap (g x) (sym (tail_only t.power (power_in ts x)))))
  where
    head_only : (a b : ℤ) → b ≡ pos 0 → a *ℤ pos 1 +ℤ b ≡ a
    head_only a b e = omega (arith, ints)

    tail_only : (a b : ℤ) → a *ℤ pos 0 +ℤ b ≡ b
    tail_only a b = omega (arith, ints)

abbrev pub less : ℕ → ℕ → Atom → ℤ → ℤ
less m p y a = cond (same_atom (Var m) y) (pos 0) (neg_ℤ (int_div_euclid a (pos p)))

pub less-zero : (m p : ℕ) (y : Atom) → less m p y (pos 0) ≡ pos 0
less-zero m p y = on_test (same_atom (Var m) y) (λ e. rw e) (λ e. rw e (ap neg_ℤ (div_euclid-zero p)))

pub power_of-quotients : (m p : ℕ) (r : PowerMap) (y : Atom) → power_of (quotients m p r) y ≡ less m p y (power_of r y)
power_of-quotients m p r y = weigh-product (indicator y) _ ∙ power_in-change (less m p) (less-zero m p) r.terms r.normal y

-- the pivot doesn't stand in the quotients
pub power_of-quotients_pivot : (m p : ℕ) (r : PowerMap) → power_of (quotients m p r) (Var m) ≡ pos 0
power_of-quotients_pivot m p r =
    power_of-quotients m p r (Var m) ∙ ap (λ b. cond b (pos 0) (neg_ℤ (int_div_euclid (power_of r (Var m)) (pos p)))) (same_atom_refl (Var m))

pub power_of-quotients_other : (m p : ℕ) (r : PowerMap) (y : Atom) → same_atom (Var m) y ≡ false → power_of (quotients m p r) y ≡ neg_ℤ (int_div_euclid (power_of r y) (pos p))
power_of-quotients_other m p r y other = power_of-quotients m p r y ∙ ap (λ b. cond b (pos 0) (neg_ℤ (int_div_euclid (power_of r y) (pos p)))) other

-- ---- the powers after a step
pub power_of-step_pivot : (m p : ℕ) (r : PowerMap) → power_of (replace (step m p r) r) (Var m) ≡ power_of r (Var m)
power_of-step_pivot m p r = power_of-multiply_same m (quotients m p r) r (power_of-quotients_pivot m p r)

-- each other power is what its division by the pivot's leaves
abbrev pub IsRemainder : ℕ → ℤ → Type 0
IsRemainder p a = (c : ℕ) × (a ≡ pos c) × (c < p)

pub power_of-step_other : (m p : ℕ) (r : PowerMap) → 0 < p → power_of r (Var m) ≡ pos p → (y : Atom) → same_atom (Var m) y ≡ false → IsRemainder p (power_of (replace (step m p r) r) y)
power_of-step_other m p r h e y other =
    let w = rem_euclid-below (power_of r y) p h in (
      w.0,
      power_of-multiply m (quotients m p r) r y
          ∙ ap (λ n. power_of r y +ℤ n *ℤ power_of (quotients m p r) y) e
          ∙ ap (λ n. power_of r y +ℤ pos p *ℤ n) (power_of-quotients_other m p r y other)
          ∙ less_floor_is (power_of r y) p h
          ∙ w.1,
      w.2,
    )

-- the least power falls where another variable stands in r
pub least_power-falls : (m p : ℕ) (r : PowerMap) → ((y : Atom) → same_atom (Var m) y ≡ false → IsRemainder p (power_of r y)) → has_other m r ≡ true → least_power r < p
least_power-falls m p r small o =
    let w = some_other m r o in
    let c = small (Var w.0) w.1 in
    by_pivot (pivot r) refl w.0 c.0 c.1 c.2 w.2
  where
    by_pivot : (q : Option Pivot) → pivot r ≡ q → (k c : ℕ) → power_of r (Var k) ≡ pos c → c < p → power_of r (Var k) ≢ pos 0 → size q < p
    by_pivot None e k c is l n = absurd (n (no_pivot r e k))
    by_pivot (Some t) e k c is l n =
        let a = (is_pivot r t e).least k n in
        let b : nat_abs (power_of r (Var k)) ≡ c = ap nat_abs is in
        omega (arith, a, b, l)

-- ---- the inverse of a step
abbrev pub step_back : ℕ → ℕ → PowerMap → ℕ → PowerMap
step_back m p r = multiply m (inv (quotients m p r))

pub after_step_back : (m p : ℕ) (r u : PowerMap) → replace (step_back m p r) (replace (step m p r) u) ≡ u
after_step_back m p r u = multiply_back m (quotients m p r) u (power_of-quotients_pivot m p r)

-- ---- inverting a unit
pub positive_pivot : (a : ℤ) (m : ℕ) (r : PowerMap) → power_of r (Var m) ≡ a → power_of (inverted_if_negative a r) (Var m) ≡ pos (nat_abs a)
positive_pivot (pos n) m r e = e
positive_pivot (negsuc n) m r e = weight-inv (indicator (Var m)) r ∙ ap neg_ℤ e

pub inverted_solved : (s : ℕ → PowerMap) (a : ℤ) (r : PowerMap) → replace s r ≡ one → replace s (inverted_if_negative a r) ≡ one
inverted_solved s (pos n) r h = h
inverted_solved s (negsuc n) r h = replace-inv s r ∙ ap inv h ∙ inv-one

pub inverted_solves : (s : ℕ → PowerMap) (a : ℤ) (r : PowerMap) → replace s (inverted_if_negative a r) ≡ one → replace s r ≡ one
inverted_solves s (pos n) r h = h
inverted_solves s (negsuc n) r h = sym (inv-inv (replace s r)) ∙ ap inv (sym (replace-inv s r) ∙ h) ∙ inv-one

pub positive_size : (a : ℤ) → a ≢ pos 0 → 0 < nat_abs a
positive_size (pos zero) n = absurd (n refl)
positive_size (pos (suc k)) n = omega arith
positive_size (negsuc k) n = omega arith

-- ---- the sign of a step
pub signed_inverted : (a : ℤ) (r : PowerMap) → signed (is_negative a) r ≡ inverted_if_negative a r
signed_inverted (pos n) r = refl
signed_inverted (negsuc n) r = refl
