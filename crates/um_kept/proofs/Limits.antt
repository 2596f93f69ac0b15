-- Powers of units against a limit.
use Rattle.std.proofs.Common.{◌≡◌, ◌≢◌, ℕ, zero, suc, ◌+◌, ◌-◌, ◌<◌, ◌≤◌, true, false, List, [], ◌∷◌, length, take, drop, get_or, refl, ℤ, pos, negsuc, nat_abs, ◌-ℤ◌, FitsSigned, w32, w64, sym, ap, ◌∙◌, subst, arith}
use Rattle.std.specs.Prelude.{Bool, IsTrue, nat_le, nat_lt}
use Rattle.std.specs.List.{list_all}
use Rattle.std.proofs.lemmas.Bool.{and_parts, and_from, false_from_ne_true, le-leb, leb-true, ltb-false}
use Rattle.std.proofs.lemmas.Int.{ints}
use Rattle.std.proofs.lemmas.List.{drop_more}
use Rattle.um_units.specs.declared.Atom.{Atom}
use Rattle.um_units.specs.Atoms.{is_before, same_atom}
use Rattle.um_units.specs.NormalForm.{before_trans, before_all_trans, same_atom-eq, head_before_all, tail_normal, head_nonzero}
use Rattle.um_units.specs.Terms.{power_in, is_before_all, is_normal, is_zero}
use Rattle.um_units.specs.PowerMap.{PowerMap, power_of}
use Rattle.um_units.proofs.Equality.{power_in-head, power_in-tail, power_in-before_all}
use Rattle.um_elim.proofs.Cases.{on_test}
use Rattle.um_units.specs.declared.wide.WideTerm.{WideTerm}
use Rattle.um_units.specs.Wide.{as_term, as_terms}
use Rattle.um_wide.specs.Room.{IsWithin}
use Rattle.um_kept.specs.Formed.{IsPowerIn}

-- the power's absolute value is at most n
abbrev pub is_low : ℕ → WideTerm → Bool
is_low n w = nat_le (nat_abs w.power) n

-- where no term passes, no power does
low_powers : (n : ℕ) (ws : List WideTerm) → IsTrue (is_normal (as_terms ws)) → IsTrue (list_all (is_low n) ws) → (x : Atom) → nat_abs (power_in (as_terms ws) x) ≤ n
low_powers n [] h l x = omega arith
low_powers n (w ∷ ws) h l x =
    let p = and_parts (is_low n w) (list_all (is_low n) ws) l in
    on_test (same_atom x w.atom)
    (λ s.
    subst (λ z. nat_abs z ≤ n)
    (sym (ap (power_in (as_terms (w ∷ ws))) (same_atom-eq x w.atom s) ∙ power_in-head (as_term w) (as_terms ws) (head_before_all (as_term w) (as_terms ws) h)))
    (leb-true (nat_abs w.power) n p.0))
    (λ s. subst (λ z. nat_abs z ≤ n) (sym (power_in-tail (as_term w) (as_terms ws) x s)) (low_powers n ws (tail_normal (as_term w) (as_terms ws) h) p.1 x))

pub within_low : (n : ℕ) (ws : List WideTerm) (u : PowerMap) → as_terms ws ≡ u.terms → IsTrue (list_all (is_low n) ws) → IsWithin n u
within_low n ws u e l x =
    subst (λ ts. nat_abs (power_in ts x) ≤ n) e (low_powers n ws (subst (λ ts. IsTrue (is_normal ts)) (sym e) u.normal) l x)

-- ---- powers of the atoms from one on
after_at : (x : Atom) (ws : List WideTerm) (i : ℕ) (d : WideTerm) → IsTrue (is_before_all x (as_terms ws)) → i < length ws → IsTrue (is_before x (get_or ws i d).atom)
after_at x [] i d h l = absurd (omega (arith, l))
after_at x (w ∷ ws) zero d h l = (and_parts (is_before x w.atom) (is_before_all x (as_terms ws)) h).0
after_at x (w ∷ ws) (suc i) d h l = after_at x ws i d (and_parts (is_before x w.atom) (is_before_all x (as_terms ws)) h).1 (omega (arith, l))

-- the terms up to one that comes before an atom come before it
up_to : (y : Atom) (ws : List WideTerm) (i : ℕ) (d : WideTerm) → IsTrue (is_normal (as_terms ws)) → i < length ws → IsTrue (is_before (get_or ws i d).atom y) →
    IsTrue (list_all (λ w. is_before w.atom y) (take (suc i) ws))
up_to y [] i d h l b = absurd (omega (arith, l))
up_to y (w ∷ ws) zero d h l b = and_from _ _ b refl
up_to y (w ∷ ws) (suc i) d h l b =
    let k : i < length ws = omega (arith, l) in
    and_from _ _
    (before_trans w.atom (get_or ws i d).atom y (after_at w.atom ws i d (head_before_all (as_term w) (as_terms ws) h) k) b)
    (up_to y ws i d (tail_normal (as_term w) (as_terms ws) h) k b)

pub before_up_to : (y : Atom) (ws : List WideTerm) (u : PowerMap) (i : ℕ) (d : WideTerm) → as_terms ws ≡ u.terms → i < length ws → IsTrue (is_before (get_or ws i d).atom y) →
    IsTrue (list_all (λ w. is_before w.atom y) (take (suc i) ws))
before_up_to y ws u i d e l b = up_to y ws i d (subst (λ ts. IsTrue (is_normal ts)) (sym e) u.normal) l b

low_from : (n : ℕ) (y : Atom) (ws : List WideTerm) (s : ℕ) → IsTrue (is_normal (as_terms ws)) → IsTrue (list_all (λ w. is_before w.atom y) (take s ws)) → IsTrue (list_all (is_low n) (drop s ws)) →
    (x : Atom) → is_before x y ≡ false → nat_abs (power_in (as_terms ws) x) ≤ n
low_from n y ws zero h b l x f = low_powers n ws h l x
low_from n y [] (suc s) h b l x f = omega arith
low_from n y (w ∷ ws) (suc s) h b l x f =
    let p = and_parts (is_before w.atom y) (list_all (λ v. is_before v.atom y) (take s ws)) b in
    on_test (same_atom x w.atom)
    (λ e. let g = ap (λ z. is_before z y) (same_atom-eq x w.atom e) in absurd (clash (sym f ∙ g ∙ p.0)))
    (λ e. subst (λ z. nat_abs z ≤ n) (sym (power_in-tail (as_term w) (as_terms ws) x e)) (low_from n y ws s (tail_normal (as_term w) (as_terms ws) h) p.1 l x f))
  where
    clash : false ≡ true → ⊥
    clash e = cc

-- a term more, from the end
pub low_more : (n : ℕ) (ws : List WideTerm) (k : ℕ) (d : WideTerm) → 0 < k → k ≤ length ws → nat_lt n (nat_abs (get_or ws (k - 1) d).power) ≡ false → IsTrue (list_all (is_low n) (drop k ws)) →
    IsTrue (list_all (is_low n) (drop (k - 1) ws))
low_more n ws k d some within here rest =
    let next : k - 1 + 1 ≡ k = omega (arith, some) in
    subst (λ vs. IsTrue (list_all (is_low n) vs)) (sym (drop_more ws (k - 1) d (omega (arith, some, within))))
    (and_from _ _ (le-leb (nat_abs (get_or ws (k - 1) d).power) n (ltb-false n (nat_abs (get_or ws (k - 1) d).power) here))
    (subst (λ j. IsTrue (list_all (is_low n) (drop j ws))) (sym next) rest))

-- where the terms before the s-th come before an atom, and no other passes, no power from the atom on does
pub within_from : (n : ℕ) (y : Atom) (ws : List WideTerm) (u : PowerMap) (s : ℕ) → as_terms ws ≡ u.terms → IsTrue (list_all (λ w. is_before w.atom y) (take s ws)) → IsTrue (list_all (is_low n) (drop s ws)) →
    (x : Atom) → is_before x y ≡ false → nat_abs (power_of u x) ≤ n
within_from n y ws u s e b l x f =
    subst (λ ts. nat_abs (power_in ts x) ≤ n) e (low_from n y ws s (subst (λ ts. IsTrue (is_normal ts)) (sym e) u.normal) b l x f)

-- a unit that holds an atom has a first one, and the atom doesn't come before it
pub none_held : (ws : List WideTerm) (u : PowerMap) → as_terms ws ≡ u.terms → length ws < 1 → (x : Atom) → power_of u x ≡ pos 0
none_held [] u e h x = ap (λ ts. power_in ts x) (sym e)
none_held (w ∷ ws) u e h x = absurd (omega (arith, h))

pub held_from : (ws : List WideTerm) (u : PowerMap) (d : WideTerm) → as_terms ws ≡ u.terms → 0 < length ws → (x : Atom) → power_of u x ≢ pos 0 → is_before x (get_or ws 0 d).atom ≡ false
held_from [] u d e h x held = absurd (omega (arith, h))
held_from (w ∷ ws) u d e h x held =
    let normal : IsTrue (is_normal (as_terms (w ∷ ws))) = subst (λ ts. IsTrue (is_normal ts)) (sym e) u.normal in
    false_from_ne_true (is_before x w.atom) (λ b.
    held (ap (λ ts. power_in ts x) (sym e)
    ∙ power_in-before_all x (as_terms (w ∷ ws)) (and_from _ _ b (before_all_trans x w.atom (as_terms ws) b (head_before_all (as_term w) (as_terms ws) normal)))))

-- ---- terms
-- a term's power is that of its atom
nonzero_at : (ws : List WideTerm) (i : ℕ) (d : WideTerm) → IsTrue (is_normal (as_terms ws)) → i < length ws → (get_or ws i d).power ≢ pos 0
nonzero_at [] i d h l z = absurd (omega (arith, l))
nonzero_at (w ∷ ws) zero d h l z = let y : is_zero w.power ≡ true = ap is_zero z in let g = head_nonzero (as_term w) (as_terms ws) h in cc
nonzero_at (w ∷ ws) (suc i) d h l z = nonzero_at ws i d (tail_normal (as_term w) (as_terms ws) h) (omega (arith, l)) z

power_at : (ws : List WideTerm) (i : ℕ) (d : WideTerm) → IsTrue (is_normal (as_terms ws)) → i < length ws → power_in (as_terms ws) (get_or ws i d).atom ≡ (get_or ws i d).power
power_at [] i d h l = absurd (omega (arith, l))
power_at (w ∷ ws) zero d h l = power_in-head (as_term w) (as_terms ws) (head_before_all (as_term w) (as_terms ws) h)
power_at (w ∷ ws) (suc i) d h l =
    let k : i < length ws = omega (arith, l) in
    let rest = tail_normal (as_term w) (as_terms ws) h in
    let more = power_at ws i d rest k in
    on_test (same_atom (get_or ws i d).atom w.atom)
    (λ s. absurd (nonzero_at ws i d rest k (sym more ∙ ap (power_in (as_terms ws)) (same_atom-eq (get_or ws i d).atom w.atom s) ∙ power_in-before_all w.atom (as_terms ws) (head_before_all (as_term w) (as_terms ws) h))))
    (λ s. power_in-tail (as_term w) (as_terms ws) (get_or ws i d).atom s ∙ more)

pub power_held : (ws : List WideTerm) (u : PowerMap) (i : ℕ) (d : WideTerm) → as_terms ws ≡ u.terms → i < length ws → IsPowerIn (get_or ws i d).power u
power_held ws u i d e l = ((get_or ws i d).atom, subst (λ ts. power_in ts (get_or ws i d).atom ≡ (get_or ws i d).power) e (power_at ws i d (subst (λ ts. IsTrue (is_normal ts)) (sym e) u.normal) l))

-- such a power fits in 32 bits
pub narrow32 : (z : ℤ) → nat_abs z ≤ 2147483647 → FitsSigned w32 z
narrow32 (pos n) h = record { sfits = omega (arith, ints, h) }
narrow32 (negsuc n) h = record { sfits = omega (arith, ints, h) }

pub negated32 : (z : ℤ) → nat_abs z ≤ 2147483647 → FitsSigned w32 (pos 0 -ℤ z)
negated32 z h = narrow32 (pos 0 -ℤ z) (omega (arith, ints, h))

pub narrow64 : (z : ℤ) → nat_abs z ≤ 9223372036854775807 → FitsSigned w64 z
narrow64 (pos n) h = record { sfits = omega (arith, ints, h) }
narrow64 (negsuc n) h = record { sfits = omega (arith, ints, h) }

-- a term's atom has a power
pub held_at : (ws : List WideTerm) (u : PowerMap) (i : ℕ) (d : WideTerm) → as_terms ws ≡ u.terms → i < length ws → power_of u (get_or ws i d).atom ≢ pos 0
held_at ws u i d e l z =
    let h = subst (λ ts. IsTrue (is_normal ts)) (sym e) u.normal in
    nonzero_at ws i d h l (sym (power_at ws i d h l) ∙ subst (λ ts. power_in ts (get_or ws i d).atom ≡ pos 0) (sym e) z)
