-- The tests of a No say that its product of rows can't become 1.
use Rattle.std.proofs.Common.{◌≡◌, ◌≢◌, ◌⊎◌, inl, inr, ℕ, zero, suc, ◌+◌, ◌-◌, ◌<◌, ◌≤◌, Bool, true, false, cond, not, ◌&&◌, ◌||◌, List, [], ◌∷◌, ℤ, pos, negsuc, neg_ℤ, ◌+ℤ◌, ◌*ℤ◌, refl, sym, ap, ◌∙◌, subst, arith}
use Rattle.std.specs.Prelude.{IsTrue, nat_le, nat_lt}
use Rattle.std.specs.List.{list_all, list_any}
use Rattle.std.specs.Int.{int_div_euclid, int_rem_euclid}
use Rattle.std.specs.Int.Signed.{◌≤ℤ◌}
use Rattle.std.proofs.lemmas.Int.{ints}
use Rattle.std.proofs.lemmas.Bool.{and_parts, and_from, true_from_ne_false, false_from_ne_true, ltb-true, ltb-false, lt-ltb, le-leb, leb-true, leb-false}
use Rattle.std.proofs.Math.IntN.{*ℤ_comm}
use Rattle.um_frac.proofs.Integers.{*ℤ-+ℤ, *ℤ-neg_ℤ}
use Rattle.um_units.specs.declared.Atom.{Atom}
use Rattle.um_units.specs.declared.Atom.TheVariants.{Base, Var}
use Rattle.um_units.specs.Atoms.{same_atom}
use Rattle.um_units.specs.NormalForm.{same_atom-eq, head_nonzero, head_before_all, tail_normal}
use Rattle.um_units.specs.Terms.{power_in, is_zero, is_normal}
use Rattle.um_units.specs.PowerMap.{PowerMap, power_of, replace}
use Rattle.um_units.proofs.Integers.{div-rem_euclid, rem_euclid-below, no_multiple}
use Rattle.um_units.proofs.Weights.{zero_is}
use Rattle.um_units.proofs.Equality.{power_in-head, power_in-tail, power_in-before_all}
use Rattle.um_units.specs.declared.wide.WideTerm.{WideTerm}
use Rattle.um_units.specs.Wide.{as_term, as_terms}
use Rattle.um_elim.specs.Solution.{rigid_unit}
use Rattle.um_elim.proofs.Cases.{on_test}
use Rattle.um_check.specs.Combination.{IsMultiple}
use Rattle.um_check.specs.Refutation.{IsApart}
use Rattle.um_check.specs.Tests.{is_free, divides, total, rigid_power, slots_divided, is_left}
use Rattle.um_check.proofs.Refutations.{multiple-zero}
use Rattle.um_check.proofs.RigidPowers.{one_if, is_fixed, fixed_number, rigid-base, rigid-seen, rigid-parameter, rigid-free, rigid-fixed}

-- ---- remainders
natural : (m : ℤ) → pos 2 ≤ℤ m → (p : ℕ) × (m ≡ pos p) × (0 < p)
natural (pos p) h = (p, refl, omega (arith, ints, h))
natural (negsuc p) h = absurd (omega (arith, ints, h))

multiple_by : (p : ℕ) (z : ℤ) → 0 < p → divides (pos p) z ≡ true → IsMultiple (pos p) z
multiple_by p z h e =
    let r = zero_is (int_rem_euclid z (pos p)) e in
    (int_div_euclid z (pos p), whole z (int_div_euclid z (pos p) *ℤ pos p) (int_rem_euclid z (pos p)) (div-rem_euclid z p h) r ∙ *ℤ_comm (int_div_euclid z (pos p)) (pos p))
  where
    whole : (z a b : ℤ) → a +ℤ b ≡ z → b ≡ pos 0 → z ≡ a
    whole z a b e f = omega (arith, ints, e, f)

divides_by : (p : ℕ) (z : ℤ) → 0 < p → IsMultiple (pos p) z → divides (pos p) z ≡ true
divides_by p z h m = let r = rem_euclid-below z p h in at r.0 r.1 r.2
  where
    difference : (z a b c x y : ℤ) → a +ℤ c ≡ z → z ≡ b → x ≡ a +ℤ y → y ≡ neg_ℤ b → x +ℤ c ≡ pos 0
    difference z a b c x y e f g k = omega (arith, ints, e, f, g, k)

    at : (c : ℕ) → int_rem_euclid z (pos p) ≡ pos c → c < p → divides (pos p) z ≡ true
    at zero e l = ap is_zero e
    at (suc c) e l =
        absurd (no_multiple p (suc c) (int_div_euclid z (pos p) +ℤ neg_ℤ m.0) (omega arith) l
        (difference z (pos p *ℤ int_div_euclid z (pos p)) (pos p *ℤ m.0) (pos (suc c)) (pos p *ℤ (int_div_euclid z (pos p) +ℤ neg_ℤ m.0)) (pos p *ℤ neg_ℤ m.0)
        (ap (λ n. n +ℤ pos (suc c)) (*ℤ_comm (pos p) (int_div_euclid z (pos p))) ∙ ap (λ n. int_div_euclid z (pos p) *ℤ pos p +ℤ n) (sym e) ∙ div-rem_euclid z p h)
        m.1 (*ℤ-+ℤ (pos p) (int_div_euclid z (pos p)) (neg_ℤ m.0)) (*ℤ-neg_ℤ (pos p) m.0)))

multiple-divides : (m z : ℤ) → pos 2 ≤ℤ m → divides m z ≡ true → IsMultiple m z
multiple-divides m z h e =
    let p = natural m h in
    subst (λ n. IsMultiple n z) (sym p.1) (multiple_by p.0 z p.2 (ap (λ n. divides n z) (sym p.1) ∙ e))

divides-multiple : (m z : ℤ) → pos 2 ≤ℤ m → IsMultiple m z → divides m z ≡ true
divides-multiple m z h e =
    let p = natural m h in
    ap (λ n. divides n z) p.1 ∙ divides_by p.0 z p.2 (subst (λ n. IsMultiple n z) p.1 e)

-- ---- a test of each term, as one of each power that isn't 0
each_power : (q : Atom → ℤ → Bool) (ws : List WideTerm) → IsTrue (is_normal (as_terms ws)) → list_all (λ w. q w.atom w.power) ws ≡ true → (x : Atom) → (power_in (as_terms ws) x ≡ pos 0) ⊎ (q x (power_in (as_terms ws) x) ≡ true)
each_power q [] n h x = inl refl
each_power q (w ∷ ws) n h x =
    let p = and_parts (q w.atom w.power) (list_all (λ w. q w.atom w.power) ws) h in
    elim (same_atom x w.atom) as (λ b. same_atom x w.atom ≡ b → (power_in (as_terms (w ∷ ws)) x ≡ pos 0) ⊎ (q x (power_in (as_terms (w ∷ ws)) x) ≡ true)) [
      | true ↦ λ s.
          let same = same_atom-eq x w.atom s in
          let here = ap (power_in (as_terms (w ∷ ws))) same ∙ power_in-head (as_term w) (as_terms ws) (head_before_all (as_term w) (as_terms ws) n) in
          inr ((λ i. q (same i) (here i)) ∙ p.0)
      | false ↦ λ s.
          let there = power_in-tail (as_term w) (as_terms ws) x s in
          elim (each_power q ws (tail_normal (as_term w) (as_terms ws) n) p.1 x) [ inl z ↦ inl (there ∙ z) | inr y ↦ inr (ap (q x) there ∙ y) ]
    ] refl

all_powers : (q : Atom → ℤ → Bool) (ws : List WideTerm) → IsTrue (is_normal (as_terms ws)) → ((x : Atom) → power_in (as_terms ws) x ≢ pos 0 → q x (power_in (as_terms ws) x) ≡ true) → list_all (λ w. q w.atom w.power) ws ≡ true
all_powers q [] n h = refl
all_powers q (w ∷ ws) n h = and_from _ _ first (all_powers q ws (tail_normal (as_term w) (as_terms ws) n) rest)
  where
    here : power_in (as_terms (w ∷ ws)) w.atom ≡ w.power
    here = power_in-head (as_term w) (as_terms ws) (head_before_all (as_term w) (as_terms ws) n)

    first : q w.atom w.power ≡ true
    first = ap (q w.atom) (sym here) ∙ h w.atom (λ z. let e : is_zero w.power ≡ true = ap is_zero (sym here ∙ z) in let f = head_nonzero (as_term w) (as_terms ws) n in cc)

    rest : (x : Atom) → power_in (as_terms ws) x ≢ pos 0 → q x (power_in (as_terms ws) x) ≡ true
    rest x held =
        elim (same_atom x w.atom) as (λ b. same_atom x w.atom ≡ b → q x (power_in (as_terms ws) x) ≡ true) [
          | true ↦ λ s. absurd (held (ap (power_in (as_terms ws)) (same_atom-eq x w.atom s) ∙ power_in-before_all w.atom (as_terms ws) (head_before_all (as_term w) (as_terms ws) n)))
          | false ↦ λ s.
              let there = power_in-tail (as_term w) (as_terms ws) x s in
              ap (q x) (sym there) ∙ h x (λ z. held (sym there ∙ z))
        ] refl

-- some term passes: so does the power of its atom
some_power : (q : Atom → ℤ → Bool) (ws : List WideTerm) → IsTrue (is_normal (as_terms ws)) → list_any (λ w. q w.atom w.power) ws ≡ true → (x : Atom) × (q x (power_in (as_terms ws) x) ≡ true) × (power_in (as_terms ws) x ≢ pos 0)
some_power q [] n h = cc
some_power q (w ∷ ws) n h =
    elim (q w.atom w.power) as (λ b. q w.atom w.power ≡ b → (b || list_any (λ w. q w.atom w.power) ws) ≡ true → (x : Atom) × (q x (power_in (as_terms (w ∷ ws)) x) ≡ true) × (power_in (as_terms (w ∷ ws)) x ≢ pos 0)) [
      | true ↦ λ e f. (w.atom, ap (q w.atom) here ∙ e, (λ z. let g : is_zero w.power ≡ true = ap is_zero (sym here ∙ z) in let k = head_nonzero (as_term w) (as_terms ws) n in cc))
      | false ↦ λ e f. further (some_power q ws (tail_normal (as_term w) (as_terms ws) n) f)
    ] refl h
  where
    here : power_in (as_terms (w ∷ ws)) w.atom ≡ w.power
    here = power_in-head (as_term w) (as_terms ws) (head_before_all (as_term w) (as_terms ws) n)

    further : ((x : Atom) × (q x (power_in (as_terms ws) x) ≡ true) × (power_in (as_terms ws) x ≢ pos 0)) → (x : Atom) × (q x (power_in (as_terms (w ∷ ws)) x) ≡ true) × (power_in (as_terms (w ∷ ws)) x ≢ pos 0)
    further (x, e, held) =
        elim (same_atom x w.atom) as (λ b. same_atom x w.atom ≡ b → (x : Atom) × (q x (power_in (as_terms (w ∷ ws)) x) ≡ true) × (power_in (as_terms (w ∷ ws)) x ≢ pos 0)) [
          | true ↦ λ s. absurd (held (ap (power_in (as_terms ws)) (same_atom-eq x w.atom s) ∙ power_in-before_all w.atom (as_terms ws) (head_before_all (as_term w) (as_terms ws) n)))
          | false ↦ λ s.
              let there = power_in-tail (as_term w) (as_terms ws) x s in
              (x, ap (q x) there ∙ e, (λ z. held (sym there ∙ z)))
        ] refl

any_none : (q : WideTerm → Bool) (ws : List WideTerm) → list_any q ws ≡ false → list_all (λ w. not (q w)) ws ≡ true
any_none q [] h = refl
any_none q (w ∷ ws) h =
    elim (q w) as (λ b. q w ≡ b → (b || list_any q ws) ≡ false → (not b && list_all (λ w. not (q w)) ws) ≡ true) [ true ↦ λ e f. cc | false ↦ λ e f. any_none q ws f ] refl h

-- ---- the tests
module _ (m : ℤ) (proper : pos 2 ≤ℤ m) (bases fixed : ℕ) (u : PowerMap) where
  abbrev r : PowerMap
  r = replace (rigid_unit bases fixed) u

  abbrev passes : Atom → ℤ → Bool
  passes x z = not (is_free fixed x) || divides m z

  abbrev stays : Atom → ℤ → Bool
  stays x z = not (is_free fixed x) && not (divides m (rigid_power bases fixed u x z))

  -- ---- variables
  free_multiple : (k : ℕ) → fixed ≤ k → (power_of u (Var k) ≡ pos 0) ⊎ (passes (Var k) (power_of u (Var k)) ≡ true) → IsMultiple m (power_of r (Var k))
  free_multiple k l h =
      subst (IsMultiple m) (sym (rigid-free bases fixed u k l))
      (elim h [
        | inl z ↦ subst (IsMultiple m) (sym z) (multiple-zero m)
        | inr e ↦ multiple-divides m (power_of u (Var k)) proper (ap (λ b. not b || divides m (power_of u (Var k))) (sym (le-leb fixed k l)) ∙ e)
      ])

  slots_from : (ws : List WideTerm) → as_terms ws ≡ u.terms → slots_divided m fixed ws ≡ true → (k : ℕ) → IsMultiple m (power_of r (Var k))
  slots_from ws e h k =
      let n : IsTrue (is_normal (as_terms ws)) = subst (λ ts. IsTrue (is_normal ts)) (sym e) u.normal in
      on_test (nat_lt k fixed)
      (λ l. subst (IsMultiple m) (sym (rigid-fixed bases fixed u k (ltb-true k fixed l))) (multiple-zero m))
      (λ l. free_multiple k (ltb-false k fixed l) (subst (λ ts. (power_in ts (Var k) ≡ pos 0) ⊎ (passes (Var k) (power_in ts (Var k)) ≡ true)) e (each_power passes ws n h (Var k))))

  slots_to : (ws : List WideTerm) → as_terms ws ≡ u.terms → ((k : ℕ) → IsMultiple m (power_of r (Var k))) → slots_divided m fixed ws ≡ true
  slots_to ws e h =
      let n : IsTrue (is_normal (as_terms ws)) = subst (λ ts. IsTrue (is_normal ts)) (sym e) u.normal in
      all_powers passes ws n (λ x held. subst (λ ts. passes x (power_in ts x) ≡ true) (sym e) (at x))
    where
      at : (x : Atom) → passes x (power_of u x) ≡ true
      at (Base n) = refl
      at (Var k) =
          on_test (nat_le fixed k)
          (λ l. ap (λ b. not b || divides m (power_of u (Var k))) l ∙ divides-multiple m (power_of u (Var k)) proper (subst (IsMultiple m) (rigid-free bases fixed u k (leb-true fixed k l)) (h k)))
          (λ l. ap (λ b. not b || divides m (power_of u (Var k))) l)

  -- ---- base units
  not_multiple : (z : ℤ) → not (divides m z) ≡ true → IsMultiple m z → ⊥
  not_multiple z e h = let f = ap not (divides-multiple m z proper h) in cc

  base_from : (ws : List WideTerm) → as_terms ws ≡ u.terms → list_any (is_left m bases fixed u) ws ≡ true → (n : ℕ) × (IsMultiple m (power_of r (Base n)) → ⊥)
  base_from ws e h =
      let n : IsTrue (is_normal (as_terms ws)) = subst (λ ts. IsTrue (is_normal ts)) (sym e) u.normal in
      let w = some_power stays ws n h in
      at w.0 (subst (λ ts. stays w.0 (power_in ts w.0) ≡ true) e w.1)
    where
      at : (x : Atom) → stays x (power_of u x) ≡ true → (n : ℕ) × (IsMultiple m (power_of r (Base n)) → ⊥)
      at (Base n) s = (n, λ h. not_multiple (rigid_power bases fixed u (Base n) (power_of u (Base n))) s (subst (IsMultiple m) (sym (rigid-seen bases fixed u n)) h))
      at (Var k) s =
          let p = and_parts (not (nat_le fixed k)) (not (divides m (rigid_power bases fixed u (Var k) (power_of u (Var k))))) s in
          let low : k < fixed = leb-false fixed k (unnot (nat_le fixed k) p.0) in
          (bases + k, λ h. not_multiple (total bases u k) (ap (λ b. not (divides m (cond b (total bases u k) (power_of u (Var k))))) (sym (lt-ltb k fixed low)) ∙ p.1) (subst (IsMultiple m) (sym (rigid-parameter bases fixed u k low)) h))
        where
          unnot : (b : Bool) → not b ≡ true → b ≡ false
          unnot true f = cc
          unnot false f = refl

  -- a power that doesn't stay, of an atom that no slot has
  gone : (x : Atom) → is_free fixed x ≡ false → not (stays x (power_of u x)) ≡ true → divides m (rigid_power bases fixed u x (power_of u x)) ≡ true
  gone x free e = twice (divides m (rigid_power bases fixed u x (power_of u x))) (ap (λ b. not (not b && not (divides m (rigid_power bases fixed u x (power_of u x))))) (sym free) ∙ e)
    where
      twice : (b : Bool) → not (true && not b) ≡ true → b ≡ true
      twice true e = refl
      twice false e = cc

  -- where none stays
  each_gone : (ws : List WideTerm) → as_terms ws ≡ u.terms → list_any (is_left m bases fixed u) ws ≡ false → (x : Atom) → (power_of u x ≡ pos 0) ⊎ (not (stays x (power_of u x)) ≡ true)
  each_gone ws e f x =
      let normal : IsTrue (is_normal (as_terms ws)) = subst (λ ts. IsTrue (is_normal ts)) (sym e) u.normal in
      subst (λ ts. (power_in ts x ≡ pos 0) ⊎ (not (stays x (power_in ts x)) ≡ true)) e (each_power (λ y z. not (stays y z)) ws normal (any_none (is_left m bases fixed u) ws f) x)

  parameter_gone : (n : ℕ) → bases ≤ n → n - bases < fixed → power_of u (Base n) ≡ pos 0 → (power_of u (Var (n - bases)) ≡ pos 0) ⊎ (not (stays (Var (n - bases)) (power_of u (Var (n - bases)))) ≡ true) → IsMultiple m (power_of r (Base n))
  parameter_gone n h l z (inl y) = subst (IsMultiple m) (sym (rigid-base bases fixed u n ∙ (λ i. z i +ℤ y i *ℤ one_if (is_fixed bases fixed n)) ∙ nothing (one_if (is_fixed bases fixed n)))) (multiple-zero m)
    where
      nothing : (a : ℤ) → pos 0 +ℤ pos 0 *ℤ a ≡ pos 0
      nothing a = omega (arith, ints)
  parameter_gone n h l z (inr e) =
      let free : nat_le fixed (n - bases) ≡ false = false_from_ne_true (nat_le fixed (n - bases)) (λ t. let g = leb-true fixed (n - bases) t in omega (arith, g, l)) in
      let d = gone (Var (n - bases)) free e in
      let back : bases + (n - bases) ≡ n = omega (arith, h) in
      subst (λ k. IsMultiple m (power_of r (Base k))) back
      (subst (IsMultiple m) (rigid-parameter bases fixed u (n - bases) l)
      (multiple-divides m (total bases u (n - bases)) proper (ap (λ b. divides m (cond b (total bases u (n - bases)) (power_of u (Var (n - bases))))) (sym (lt-ltb (n - bases) fixed l)) ∙ d)))

  none_stays : (ws : List WideTerm) → as_terms ws ≡ u.terms → list_any (is_left m bases fixed u) ws ≡ false → (n : ℕ) → IsMultiple m (power_of r (Base n))
  none_stays ws e f n =
      elim (each_gone ws e f (Base n)) [
        | inr g ↦ subst (IsMultiple m) (rigid-seen bases fixed u n) (multiple-divides m (rigid_power bases fixed u (Base n) (power_of u (Base n))) proper (gone (Base n) refl g))
        | inl z ↦ on_test (is_fixed bases fixed n)
            (λ h. let p = fixed_number bases fixed n h in parameter_gone n p.0 p.1 z (each_gone ws e f (Var (n - bases))))
            (λ h. subst (IsMultiple m) (sym (rigid-base bases fixed u n ∙ (λ i. z i +ℤ power_of u (Var (n - bases)) *ℤ one_if (h i)) ∙ nothing (power_of u (Var (n - bases))))) (multiple-zero m))
      ]
    where
      nothing : (a : ℤ) → pos 0 +ℤ a *ℤ pos 0 ≡ pos 0
      nothing a = omega (arith, ints)

  base_to : (ws : List WideTerm) → as_terms ws ≡ u.terms → ((n : ℕ) × (IsMultiple m (power_of r (Base n)) → ⊥)) → list_any (is_left m bases fixed u) ws ≡ true
  base_to ws e apart = true_from_ne_false (list_any (is_left m bases fixed u) ws) (λ f. apart.1 (none_stays ws e f apart.0))

  -- ---- both tests
  pub apart_from : (ws : List WideTerm) → as_terms ws ≡ u.terms → slots_divided m fixed ws ≡ true → list_any (is_left m bases fixed u) ws ≡ true → IsApart m r
  apart_from ws e h k = record { slots = slots_from ws e h; base = base_from ws e k }

  pub slots_by : (ws : List WideTerm) → as_terms ws ≡ u.terms → IsApart m r → slots_divided m fixed ws ≡ true
  slots_by ws e a = slots_to ws e a.slots

  pub base_by : (ws : List WideTerm) → as_terms ws ≡ u.terms → IsApart m r → list_any (is_left m bases fixed u) ws ≡ true
  base_by ws e a = base_to ws e a.base
