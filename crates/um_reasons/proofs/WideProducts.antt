-- Products that are made term by term, and how much room their powers take.
use Rattle.std.proofs.Common.{◌≡◌, ◌≢◌, ℕ, zero, suc, ◌+◌, ◌*◌, ◌<◌, ◌≤◌, true, Bool, FitsSigned, w64, List, [], ◌∷◌, ◌++◌, map, take, length, get_or, ℤ, pos, negsuc, neg_ℤ, ◌+ℤ◌, ◌*ℤ◌, ◌-ℤ◌, nat_abs, to_z, of_z, refl, sym, ap, ◌∙◌, subst, arith}
use Rattle.std.specs.Prelude.{◌||◌, ◌==◌, IsTrue}
use Rattle.std.specs.Int.{int_div_euclid, w128}
use Rattle.std.specs.List.{list_any}
use Rattle.std.proofs.lemmas.Bool.{ne_eqb}
use Rattle.std.proofs.lemmas.Int.{ints, to_z-of_z}
use Rattle.std.proofs.lemmas.List.{append-nil, take_more, map-append, get_or-map, length-map}
use Rattle.std.proofs.lemmas.List.Concat.{flat_map-append}
use Rattle.um_units.specs.declared.Atom.{Atom}
use Rattle.um_units.specs.declared.Atom.TheVariants.{Var}
use Rattle.um_units.specs.declared.Term.{Term}
use Rattle.um_units.specs.Atoms.{same_atom}
use Rattle.um_units.specs.NormalForm.{same_atom-eq, head_before_all, tail_normal, head_nonzero}
use Rattle.um_units.specs.Terms.{indicator, power_in, is_normal, is_zero}
use Rattle.um_units.specs.PowerMap.{PowerMap, power_of, product, one, atom, mul, inv, pow, scale, image, images, replace}
use Rattle.um_units.proofs.Weights.{weigh-product, weigh-++}
use Rattle.um_units.proofs.Equality.{same_unit, power_in-head, power_in-tail, power_in-before_all}
use Rattle.um_units.proofs.Group.{power_of-mul, power_of-pow, weight-atom, pow-one, pow-pow}
use Rattle.um_elim.specs.Elimination.{is_empty}
use Rattle.um_elim.specs.ElimStep.{substitute, inverted_if_negative}
use Rattle.um_elim.proofs.Cases.{on_test}
use Rattle.um_elim.proofs.Shear.{replace-multiply, substitute-one}
use Rattle.um_units.specs.declared.wide.WideTerm.{WideTerm}
use Rattle.um_wide.specs.Room.{IsNarrow, HaveRoom}
use Rattle.um_units.specs.Wide.{as_term, as_terms}
use Rattle.um_reasons.specs.Wide.{sign_of}
use Rattle.um_wide.proofs.Rooms.{within-one, within-pow, within-atom_pow, within-weaker, room-within}

-- ---- products
pub product-append : (ts us : List Term) → product (ts ++ us) ≡ mul (product ts) (product us)
product-append ts us =
    same_unit (product (ts ++ us)) (mul (product ts) (product us)) (λ x. weigh-product (indicator x) (ts ++ us) ∙ weigh-++ (indicator x) ts us
    ∙ (λ i. sym (weigh-product (indicator x) ts) i +ℤ sym (weigh-product (indicator x) us) i)
    ∙ sym (power_of-mul (product ts) (product us) x))

pub one_term : (t : Term) → product (t ∷ []) ≡ pow (atom t.atom) t.power
one_term t =
    same_unit (product (t ∷ [])) (pow (atom t.atom) t.power) (λ x. weigh-product (indicator x) (t ∷ []) ∙ alone (t.power *ℤ indicator x t.atom)
    ∙ ap (λ n. t.power *ℤ n) (sym (weight-atom (indicator x) t.atom)) ∙ sym (power_of-pow (atom t.atom) t.power x))
  where
    alone : (a : ℤ) → a +ℤ pos 0 ≡ a
    alone a = omega (arith, ints)

-- the images of one more term
pub images_more : (s : ℕ → PowerMap) (ts : List Term) (i : ℕ) (d : Term) → i < length ts →
    mul (product (images s (take i ts))) (pow (image s (get_or ts i d).atom) (get_or ts i d).power) ≡ product (images s (take (i + 1) ts))
images_more s ts i d h =
    let t = get_or ts i d in
    let f : Term → List Term = λ u. map (scale u.power) (image s u.atom).terms in
    sym (ap (λ l. product (images s l)) (take_more ts i d h)
    ∙ ap product (flat_map-append f (take i ts) (t ∷ []) ∙ ap (λ l. images s (take i ts) ++ l) (append-nil (f t)))
    ∙ product-append (images s (take i ts)) (f t))

-- the change of one more term
pub change_more : (f : Term → Term) (ts : List Term) (i : ℕ) (d : Term) → i < length ts →
    mul (product (map f (take i ts))) (pow (atom (f (get_or ts i d)).atom) (f (get_or ts i d)).power) ≡ product (map f (take (i + 1) ts))
change_more f ts i d h =
    let t = get_or ts i d in
    sym (ap (λ l. product (map f l)) (take_more ts i d h) ∙ ap product (map-append f (take i ts) (t ∷ [])) ∙ product-append (map f (take i ts)) (f t ∷ [])
    ∙ ap (mul (product (map f (take i ts)))) (one_term (f t)))

-- ---- 1 for a variable
pub without_is : (m : ℕ) (u : PowerMap) (k : ℤ) → k ≡ neg_ℤ (power_of u (Var m)) → mul u (pow (atom (Var m)) k) ≡ replace (substitute m one) u
without_is m u k e =
    ap (λ z. mul u (pow (atom (Var m)) z)) (e ∙ as_product (power_of u (Var m)))
    ∙ ap (mul u) (sym (pow-pow (atom (Var m)) (negsuc 0) (power_of u (Var m))))
    ∙ sym (replace-multiply m (inv (atom (Var m))) u)
    ∙ ap (λ s. replace s u) (substitute-one m)
  where
    as_product : (z : ℤ) → neg_ℤ z ≡ z *ℤ negsuc 0
    as_product z = omega (arith, ints)

-- ---- room
pub room_times : (u v : PowerMap) (k : ℤ) → IsNarrow u → IsNarrow v → nat_abs k ≤ 9223372036854775807 → HaveRoom u (pow v k)
room_times u v k h g l = room-within 9223372036854775807 (9223372036854775807 * 9223372036854775807) u (pow v k) h (within-pow 9223372036854775807 9223372036854775807 v k l g) (omega arith)

pub room_atom : (u : PowerMap) (x : Atom) (k : ℤ) → IsNarrow u → nat_abs k ≤ 9223372036854775807 → HaveRoom u (pow (atom x) k)
room_atom u x k h l = room-within 9223372036854775807 9223372036854775807 u (pow (atom x) k) h (within-weaker (nat_abs k) 9223372036854775807 (pow (atom x) k) l (within-atom_pow x k)) (omega arith)

pub narrow_one : IsNarrow one
narrow_one = within-one 9223372036854775807

pub narrow_atom : (x : Atom) → IsNarrow (pow (atom x) (pos 1))
narrow_atom x = within-weaker 1 9223372036854775807 (pow (atom x) (pos 1)) (omega arith) (within-atom_pow x (pos 1))

-- a quotient is no greater than what is divided
pub quotient_low : (a : ℤ) (p : ℕ) → 0 < p → nat_abs (neg_ℤ (int_div_euclid a (pos p))) ≤ nat_abs a
quotient_low (pos a) p h = omega (arith, ints, h)
quotient_low (negsuc a) p h = omega (arith, ints, h)

-- ---- terms as the code has them
pub any_wide : (f : Atom → Bool) (ws : List WideTerm) → list_any (λ (w : WideTerm). f w.atom) ws ≡ list_any (λ (t : Term). f t.atom) (as_terms ws)
any_wide f [] = refl
any_wide f (w ∷ ws) = ap (λ b. f w.atom || b) (any_wide f ws)

nonzero_at : (ws : List WideTerm) (i : ℕ) (d : WideTerm) → IsTrue (is_normal (as_terms ws)) → i < length ws → (get_or ws i d).power ≢ pos 0
nonzero_at [] i d h l z = absurd (omega (arith, l))
nonzero_at (w ∷ ws) zero d h l z = let y : is_zero w.power ≡ true = ap is_zero z in let g = head_nonzero (as_term w) (as_terms ws) h in cc
nonzero_at (w ∷ ws) (suc i) d h l z = nonzero_at ws i d (tail_normal (as_term w) (as_terms ws) h) (omega (arith, l)) z

power_at : (ws : List WideTerm) (i : ℕ) (d : WideTerm) → IsTrue (is_normal (as_terms ws)) → i < length ws → power_in (as_terms ws) (get_or ws i d).atom ≡ (get_or ws i d).power
power_at [] i d h l = absurd (omega (arith, l))
power_at (w ∷ ws) zero d h l = power_in-head (as_term w) (as_terms ws) (head_before_all (as_term w) (as_terms ws) h)
power_at (w ∷ ws) (suc i) d h l =
    let k : i < length ws = omega (arith, l) in
    let rest = tail_normal (as_term w) (as_terms ws) h in
    let more = power_at ws i d rest k in
    on_test (same_atom (get_or ws i d).atom w.atom)
    (λ s. absurd (nonzero_at ws i d rest k (sym more ∙ ap (power_in (as_terms ws)) (same_atom-eq (get_or ws i d).atom w.atom s) ∙ power_in-before_all w.atom (as_terms ws) (head_before_all (as_term w) (as_terms ws) h))))
    (λ s. power_in-tail (as_term w) (as_terms ws) (get_or ws i d).atom s ∙ more)

-- each power of a unit's terms has 64 bits if its powers do
pub narrow_at : (ws : List WideTerm) (u : PowerMap) (i : ℕ) (d : WideTerm) → as_terms ws ≡ u.terms → i < length ws → IsNarrow u → nat_abs (get_or ws i d).power ≤ 9223372036854775807
narrow_at ws u i d e l narrow =
    subst (λ z. nat_abs z ≤ 9223372036854775807)
    (subst (λ ts. power_in ts (get_or ws i d).atom ≡ (get_or ws i d).power) e (power_at ws i d (subst (λ ts. IsTrue (is_normal ts)) (sym e) u.normal) l))
    (narrow (get_or ws i d).atom)

pub fits64 : (z : ℤ) → nat_abs z ≤ 9223372036854775807 → FitsSigned w64 z
fits64 (pos n) h = record { sfits = omega (arith, ints, h) }
fits64 (negsuc n) h = record { sfits = omega (arith, ints, h) }

pub fits128 : (z : ℤ) → nat_abs z ≤ 9223372036854775807 → FitsSigned w128 z
fits128 (pos n) h = record { sfits = omega (arith, ints, h) }
fits128 (negsuc n) h = record { sfits = omega (arith, ints, h) }

-- ---- signs
pub signed_is : (z : ℤ) (u : PowerMap) → pow u (sign_of z) ≡ inverted_if_negative z u
signed_is (pos n) u = pow-one u
signed_is (negsuc n) u = refl

-- a negated power, as the code passes it
pub negated_passed : (z : ℤ) → nat_abs z ≤ 9223372036854775807 → to_z w128 (of_z w128 (pos 0 -ℤ to_z w128 (of_z w128 z))) ≡ neg_ℤ z
negated_passed z h =
    ap (λ y. to_z w128 (of_z w128 (pos 0 -ℤ y))) (to_z-of_z w128 z (fits128 z h))
    ∙ to_z-of_z w128 (pos 0 -ℤ z) (fits128 (pos 0 -ℤ z) (omega (arith, ints, h))) ∙ negated z
  where
    negated : (z : ℤ) → pos 0 -ℤ z ≡ neg_ℤ z
    negated z = omega (arith, ints)

pub empty_is : (ws : List WideTerm) → (length ws == 0) ≡ is_empty (as_terms ws)
empty_is [] = refl
empty_is (w ∷ ws) = ne_eqb (length (w ∷ ws)) 0 (λ e. omega (arith, e))

-- a term of the code is that of the unit
pub same_term : (ws : List WideTerm) (us : List Term) (i : ℕ) (d : WideTerm) → as_terms ws ≡ us → i < length ws → as_term (get_or ws i d) ≡ get_or us i (as_term d)
same_term ws us i d e l = sym (ap (λ ts. get_or ts i (as_term d)) (sym e) ∙ get_or-map as_term ws i d (as_term d) l)

pub term_inside : (ws : List WideTerm) (us : List Term) (i : ℕ) → as_terms ws ≡ us → i < length ws → i < length us
term_inside ws us i e l = subst (λ ts. i < length ts) e (subst (λ n. i < n) (sym (length-map ws as_term)) l)
