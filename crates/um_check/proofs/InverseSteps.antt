-- The invariant of making: a step keeps it, and so does the end of a row.
use Rattle.std.proofs.Common.{◌≡◌, ◌≢◌, ℕ, ◌<◌, Bool, true, false, List, [], ◌∷◌, map, length, ℤ, pos, negsuc, neg_ℤ, ◌+ℤ◌, ◌*ℤ◌, refl, sym, ap, ◌∙◌, subst, arith}
use Rattle.std.specs.Prelude.{All}
use Rattle.std.proofs.lemmas.Int.{ints}
use Rattle.std.proofs.lemmas.List.{length-map}
use Rattle.std.proofs.lemmas.List.Elements.{All-head, All-tail}
use Rattle.std.proofs.Math.IntN.{*ℤ-zero, *ℤ_comm, +ℤ_comm}
use Rattle.um_units.specs.declared.Atom.{Atom}
use Rattle.um_units.specs.declared.Atom.TheVariants.{Base, Var}
use Rattle.um_units.specs.declared.Term.{Term}
use Rattle.um_units.specs.Terms.{weigh, indicator}
use Rattle.um_units.specs.PowerMap.{PowerMap, weight, power_of, one, atom, mul, inv, pow, image, replace, nth, extension}
use Rattle.um_units.specs.Variables.{VariablesBelow}
use Rattle.um_frac.proofs.Integers.{*ℤ-+ℤ, *ℤ_assoc, *ℤ-neg_ℤ}
use Rattle.um_units.proofs.Weights.{weigh_alike}
use Rattle.um_units.proofs.Equality.{same_unit}
use Rattle.um_units.proofs.Group.{weight-one, weight-atom, weight-mul, weight-pow, weight-inv, pow-pow}
use Rattle.um_units.proofs.Replacement.{weight-replace, weight_held, replace-one, replace-mul, replace-pow, nth-map}
use Rattle.um_elim.specs.ElimStep.{substitute, multiply}
use Rattle.um_elim.proofs.Shear.{replace-multiply, substitute-one}
use Rattle.um_elim.specs.declared.elim_step.ElimStep.{ElimStep}
use Rattle.um_elim.specs.ElimStep.{signed}
use Rattle.um_elim.specs.EliminationSteps.{IsShear, unit_after, units_after}
use Rattle.um_check.specs.Existence.{signed_by, divided_inverse, inverse_after, IsInverse, at_slot, total, parts_after}
use Rattle.um_units.proofs.Replacement.{extension-mul, extension-atom}
use Rattle.um_check.proofs.Extensions.{weight-extension, extension-pow, extension-step}

-- ---- signs
extension-signed : (f : Atom → PowerMap) (b : Bool) (u : PowerMap) → extension f (signed b u) ≡ signed b (extension f u)
extension-signed f true u = extension-pow f u (negsuc 0)
extension-signed f false u = refl

replace-signed : (s : ℕ → PowerMap) (b : Bool) (u : PowerMap) → replace s (signed b u) ≡ signed b (replace s u)
replace-signed s true u = replace-pow s u (negsuc 0)
replace-signed s false u = refl

pow-signed : (b : Bool) (u : PowerMap) (k : ℤ) → pow (signed b u) k ≡ signed b (pow u k)
pow-signed true u k = pow-pow u (negsuc 0) k ∙ ap (pow u) (*ℤ_comm k (negsuc 0)) ∙ sym (pow-pow u k (negsuc 0))
pow-signed false u k = refl

pub replace-signed_by : (s : ℕ → PowerMap) (ts : List ElimStep) (u : PowerMap) → replace s (signed_by ts u) ≡ signed_by ts (replace s u)
replace-signed_by s [] u = refl
replace-signed_by s (t ∷ ts) u = replace-signed_by s ts (signed t.inverted u) ∙ ap (signed_by ts) (replace-signed s t.inverted u)

pub pow-signed_by : (ts : List ElimStep) (u : PowerMap) (k : ℤ) → pow (signed_by ts u) k ≡ signed_by ts (pow u k)
pow-signed_by [] u k = refl
pow-signed_by (t ∷ ts) u k = pow-signed_by ts (signed t.inverted u) k ∙ ap (signed_by ts) (pow-signed t.inverted u k)

-- ---- what the steps leave of what comes back
pub length-units_after : (ts : List ElimStep) (us : List PowerMap) → length (units_after ts us) ≡ length us
length-units_after [] us = refl
length-units_after (t ∷ ts) us = length-units_after ts (map (replace (multiply t.variable t.by)) us) ∙ length-map us (replace (multiply t.variable t.by))

pub units_come_back : (ts : List ElimStep) (us : List PowerMap) (back : Atom → PowerMap) (j : ℕ) → All IsShear ts → j < length us → extension (inverse_after ts back) (nth (units_after ts us) j) ≡ extension back (nth us j)
units_come_back [] us back j h l = refl
units_come_back (t ∷ ts) us back j h l =
    units_come_back ts (map (replace (multiply t.variable t.by)) us) (divided_inverse t.variable t.by back) j (All-tail IsShear t ts h) (subst (λ n. j < n) (sym (length-map us (replace (multiply t.variable t.by)))) l)
    ∙ ap (extension (divided_inverse t.variable t.by back)) (nth-map (replace (multiply t.variable t.by)) us j l)
    ∙ extension-step t.variable t.by back (nth us j) (All-head IsShear t ts h)

pub unit_comes_back : (ts : List ElimStep) (r : PowerMap) (back : Atom → PowerMap) → All IsShear ts → extension (inverse_after ts back) (unit_after ts r) ≡ signed_by ts (extension back r)
unit_comes_back [] r back h = refl
unit_comes_back (t ∷ ts) r back h =
    unit_comes_back ts (replace (multiply t.variable t.by) (signed t.inverted r)) (divided_inverse t.variable t.by back) (All-tail IsShear t ts h)
    ∙ ap (signed_by ts) (extension-step t.variable t.by back (signed t.inverted r) (All-head IsShear t ts h) ∙ extension-signed back t.inverted r)

-- base units come back as before
pub inverse_after-base : (ts : List ElimStep) (back : Atom → PowerMap) (n : ℕ) → inverse_after ts back (Base n) ≡ back (Base n)
inverse_after-base [] back n = refl
inverse_after-base (t ∷ ts) back n = inverse_after-base ts (divided_inverse t.variable t.by back) n

-- the steps keep the invariant
pub kept_after : (rows solution : List PowerMap) (back : Atom → PowerMap) (divisor : ℤ) (parts : ℕ → PowerMap) (ts : List ElimStep) → All IsShear ts →
    IsInverse rows solution back divisor parts → IsInverse rows (units_after ts solution) (inverse_after ts back) divisor parts
kept_after rows solution back divisor parts ts h kept = record { by_rows = at }
  where
    at : (j : ℕ) → j < length (units_after ts solution) → pow (mul (extension (inverse_after ts back) (nth (units_after ts solution) j)) (inv (atom (Var j)))) divisor ≡ replace (nth rows) (parts j)
    at j l =
        let k : j < length solution = subst (λ n. j < n) (length-units_after ts solution) l in
        ap (λ u. pow (mul u (inv (atom (Var j)))) divisor) (units_come_back ts solution back j h k) ∙ kept.by_rows j k

-- ---- the numbers t: what comes back of the row, to the divisor
weigh-linear : (f g : Atom → ℤ) (d : ℤ) (ts : List Term) → weigh (λ y. d *ℤ f y +ℤ g y) ts ≡ d *ℤ weigh f ts +ℤ weigh g ts
weigh-linear f g d [] = zero_sum (d *ℤ pos 0) (*ℤ-zero d)
  where
    zero_sum : (a : ℤ) → a ≡ pos 0 → pos 0 ≡ a +ℤ pos 0
    zero_sum a e = omega (arith, ints, e)
weigh-linear f g d (t ∷ ts) =
    ap (λ n. t.power *ℤ (d *ℤ f t.atom +ℤ g t.atom) +ℤ n) (weigh-linear f g d ts)
    ∙ sums (t.power *ℤ (d *ℤ f t.atom +ℤ g t.atom)) (t.power *ℤ (d *ℤ f t.atom)) (t.power *ℤ g t.atom) (d *ℤ (t.power *ℤ f t.atom)) (d *ℤ weigh f ts) (weigh g ts) _
    (*ℤ-+ℤ t.power (d *ℤ f t.atom) (g t.atom))
    (sym (*ℤ_assoc t.power d (f t.atom)) ∙ ap (λ n. n *ℤ f t.atom) (*ℤ_comm t.power d) ∙ *ℤ_assoc d t.power (f t.atom))
    (*ℤ-+ℤ d (t.power *ℤ f t.atom) (weigh f ts))
  where
    sums : (a b c x y z w : ℤ) → a ≡ b +ℤ c → b ≡ x → w ≡ x +ℤ y → a +ℤ (y +ℤ z) ≡ w +ℤ (c +ℤ z)
    sums a b c x y z w e f g = omega (arith, ints, e, f, g)

weigh-times : (f : Atom → ℤ) (d : ℤ) (ts : List Term) → weigh (λ y. d *ℤ f y) ts ≡ d *ℤ weigh f ts
weigh-times f d [] = sym (*ℤ-zero d)
weigh-times f d (t ∷ ts) =
    ap (λ n. t.power *ℤ (d *ℤ f t.atom) +ℤ n) (weigh-times f d ts)
    ∙ ap (λ n. n +ℤ d *ℤ weigh f ts) (sym (*ℤ_assoc t.power d (f t.atom)) ∙ ap (λ n. n *ℤ f t.atom) (*ℤ_comm t.power d) ∙ *ℤ_assoc d t.power (f t.atom))
    ∙ sym (*ℤ-+ℤ d (t.power *ℤ f t.atom) (weigh f ts))

pub total_is : (rows solution : List PowerMap) (back : Atom → PowerMap) (divisor : ℤ) (parts : ℕ → PowerMap) (k : ℕ) → IsInverse rows solution back divisor parts →
    VariablesBelow (length solution) (nth rows k) → ((n : ℕ) → power_of (nth rows k) (Base n) ≢ pos 0 → back (Base n) ≡ atom (Base n)) →
    pow (extension back (replace (nth solution) (nth rows k))) divisor ≡ replace (nth rows) (total parts (nth rows k) k divisor)
total_is rows solution back divisor parts k kept below bases = same_unit _ _ (λ z. left z ∙ sym (right z))
  where
    at_atom : (z y : Atom) → power_of (nth rows k) y ≢ pos 0 → divisor *ℤ power_of (extension back (image (nth solution) y)) z ≡ divisor *ℤ indicator z y +ℤ power_of (replace (nth rows) (at_slot parts y)) z
    at_atom z (Base n) held =
        ap (λ u. divisor *ℤ power_of u z) (extension-atom back (Base n) ∙ bases n held)
        ∙ ap (λ a. divisor *ℤ a) (weight-atom (indicator z) (Base n))
        ∙ nothing (divisor *ℤ indicator z (Base n)) (power_of (replace (nth rows) one) z) (ap (λ u. power_of u z) (replace-one (nth rows)) ∙ weight-one (indicator z))
      where
        nothing : (a b : ℤ) → b ≡ pos 0 → a ≡ a +ℤ b
        nothing a b e = omega (arith, ints, e)
    at_atom z (Var j) held =
        let a = extension back (nth solution j) in
        moved divisor (power_of a z) (indicator z (Var j)) (power_of (replace (nth rows) (parts j)) z)
        (ap (λ u. power_of u z) (sym (kept.by_rows j (below j held)))
        ∙ weight-pow (indicator z) (mul a (inv (atom (Var j)))) divisor
        ∙ ap (λ n. divisor *ℤ n) (weight-mul (indicator z) a (inv (atom (Var j))) ∙ ap (λ n. power_of a z +ℤ n) (weight-inv (indicator z) (atom (Var j)) ∙ ap neg_ℤ (weight-atom (indicator z) (Var j)))))
      where
        moved : (d a i c : ℤ) → c ≡ d *ℤ (a +ℤ neg_ℤ i) → d *ℤ a ≡ d *ℤ i +ℤ c
        moved d a i c e = omega (arith, ints, e, *ℤ-+ℤ d a (neg_ℤ i), *ℤ-neg_ℤ d i)

    left : (z : Atom) → power_of (pow (extension back (replace (nth solution) (nth rows k))) divisor) z ≡ divisor *ℤ power_of (nth rows k) z +ℤ weight (λ y. power_of (replace (nth rows) (at_slot parts y)) z) (nth rows k)
    left z =
        weight-pow (indicator z) (extension back (replace (nth solution) (nth rows k))) divisor
        ∙ ap (λ n. divisor *ℤ n)
        (weight-extension (indicator z) back (replace (nth solution) (nth rows k))
        ∙ weight-replace (λ y. power_of (back y) z) (nth solution) (nth rows k)
        ∙ weigh_alike _ _ (λ y. sym (weight-extension (indicator z) back (image (nth solution) y))) (nth rows k).terms)
        ∙ sym (weigh-times (λ y. power_of (extension back (image (nth solution) y)) z) divisor (nth rows k).terms)
        ∙ weight_held _ _ (nth rows k) (at_atom z)
        ∙ weigh-linear (indicator z) (λ y. power_of (replace (nth rows) (at_slot parts y)) z) divisor (nth rows k).terms

    right : (z : Atom) → power_of (replace (nth rows) (total parts (nth rows k) k divisor)) z ≡ divisor *ℤ power_of (nth rows k) z +ℤ weight (λ y. power_of (replace (nth rows) (at_slot parts y)) z) (nth rows k)
    right z =
        let g : Atom → ℤ = λ y. power_of (image (nth rows) y) z in
        weight-replace (indicator z) (nth rows) (total parts (nth rows k) k divisor)
        ∙ weight-mul g (extension (at_slot parts) (nth rows k)) (pow (atom (Var k)) divisor)
        ∙ ap (λ n. n +ℤ weight g (pow (atom (Var k)) divisor))
        (weight-extension g (at_slot parts) (nth rows k) ∙ weigh_alike _ _ (λ y. sym (weight-replace (indicator z) (nth rows) (at_slot parts y))) (nth rows k).terms)
        ∙ ap (λ n. weight (λ y. power_of (replace (nth rows) (at_slot parts y)) z) (nth rows k) +ℤ n) (weight-pow g (atom (Var k)) divisor ∙ ap (λ n. divisor *ℤ n) (weight-atom g (Var k)))
        ∙ +ℤ_comm (weight (λ y. power_of (replace (nth rows) (at_slot parts y)) z) (nth rows k)) (divisor *ℤ power_of (nth rows k) z)

-- ---- x becomes 1
pub extension-ended : (back : Atom → PowerMap) (m : ℕ) (u : PowerMap) → extension back (replace (substitute m one) u) ≡ mul (extension back u) (pow (inv (back (Var m))) (power_of u (Var m)))
extension-ended back m u =
    ap (λ s. extension back (replace s u)) (sym (substitute-one m))
    ∙ ap (extension back) (replace-multiply m (inv (atom (Var m))) u)
    ∙ extension-mul back u (pow (inv (atom (Var m))) (power_of u (Var m)))
    ∙ ap (mul (extension back u)) (extension-pow back (inv (atom (Var m))) (power_of u (Var m)) ∙ ap (λ v. pow v (power_of u (Var m))) (extension-pow back (atom (Var m)) (negsuc 0) ∙ ap inv (extension-atom back (Var m))))

products : (a j b e q : ℤ) → q *ℤ ((a +ℤ e *ℤ neg_ℤ b) +ℤ neg_ℤ j) ≡ q *ℤ (a +ℤ neg_ℤ j) +ℤ neg_ℤ e *ℤ (q *ℤ b)
products a j b e q =
    ap (λ n. q *ℤ n) (swapped a (e *ℤ neg_ℤ b) (neg_ℤ j))
    ∙ *ℤ-+ℤ q (a +ℤ neg_ℤ j) (e *ℤ neg_ℤ b)
    ∙ ap (λ n. q *ℤ (a +ℤ neg_ℤ j) +ℤ n)
    (ap (λ n. q *ℤ n) (*ℤ-neg_ℤ e b) ∙ *ℤ-neg_ℤ q (e *ℤ b) ∙ ap (λ n. neg_ℤ (q *ℤ n)) (*ℤ_comm e b) ∙ ap neg_ℤ (sym (*ℤ_assoc q b e)) ∙ sym (*ℤ-neg_ℤ (q *ℤ b) e) ∙ *ℤ_comm (q *ℤ b) (neg_ℤ e))
  where
    swapped : (a v j : ℤ) → (a +ℤ v) +ℤ j ≡ (a +ℤ j) +ℤ v
    swapped a v j = omega (arith, ints)

pub kept_end : (rows solution : List PowerMap) (back : Atom → PowerMap) (divisor : ℤ) (parts : ℕ → PowerMap) (m p : ℕ) (t : PowerMap) → IsInverse rows solution back divisor parts →
    pow (back (Var m)) (divisor *ℤ pos p) ≡ replace (nth rows) t → IsInverse rows (map (replace (substitute m one)) solution) back (divisor *ℤ pos p) (parts_after m p t solution parts)
kept_end rows solution back divisor parts m p t kept e = record { by_rows = λ j l. same_unit _ _ (λ z. left j l z ∙ sym (right j l z)) }
  where
    -- what both sides are at z
    value : ℕ → Atom → ℤ
    value j z =
        (divisor *ℤ pos p) *ℤ (power_of (extension back (nth solution j)) z +ℤ neg_ℤ (power_of (atom (Var j)) z))
        +ℤ neg_ℤ (power_of (nth solution j) (Var m)) *ℤ ((divisor *ℤ pos p) *ℤ power_of (back (Var m)) z)

    inside : (j : ℕ) → j < length (map (replace (substitute m one)) solution) → j < length solution
    inside j l = subst (λ n. j < n) (length-map solution (replace (substitute m one))) l

    left : (j : ℕ) → j < length (map (replace (substitute m one)) solution) → (z : Atom) → power_of (pow (mul (extension back (nth (map (replace (substitute m one)) solution) j)) (inv (atom (Var j)))) (divisor *ℤ pos p)) z ≡ value j z
    left j l z =
        let u = nth solution j in
        weight-pow (indicator z) (mul (extension back (nth (map (replace (substitute m one)) solution) j)) (inv (atom (Var j)))) (divisor *ℤ pos p)
        ∙ ap (λ n. (divisor *ℤ pos p) *ℤ n)
        (weight-mul (indicator z) (extension back (nth (map (replace (substitute m one)) solution) j)) (inv (atom (Var j)))
        ∙ ap (λ v. power_of v z +ℤ power_of (inv (atom (Var j))) z) (ap (extension back) (nth-map (replace (substitute m one)) solution j (inside j l)) ∙ extension-ended back m u)
        ∙ ap (λ n. n +ℤ power_of (inv (atom (Var j))) z)
        (weight-mul (indicator z) (extension back u) (pow (inv (back (Var m))) (power_of u (Var m)))
        ∙ ap (λ n. power_of (extension back u) z +ℤ n) (weight-pow (indicator z) (inv (back (Var m))) (power_of u (Var m)) ∙ ap (λ n. power_of u (Var m) *ℤ n) (weight-inv (indicator z) (back (Var m)))))
        ∙ ap (λ n. (power_of (extension back u) z +ℤ power_of u (Var m) *ℤ neg_ℤ (power_of (back (Var m)) z)) +ℤ n) (weight-inv (indicator z) (atom (Var j))))
        ∙ products (power_of (extension back u) z) (power_of (atom (Var j)) z) (power_of (back (Var m)) z) (power_of u (Var m)) (divisor *ℤ pos p)

    right : (j : ℕ) → j < length (map (replace (substitute m one)) solution) → (z : Atom) → power_of (replace (nth rows) (parts_after m p t solution parts j)) z ≡ value j z
    right j l z =
        let u = nth solution j in
        let a = mul (extension back u) (inv (atom (Var j))) in
        ap (λ v. power_of v z)
        (replace-mul (nth rows) (pow (parts j) (pos p)) (pow t (neg_ℤ (power_of u (Var m))))
        ∙ ap (λ v. mul v (replace (nth rows) (pow t (neg_ℤ (power_of u (Var m))))))
        (replace-pow (nth rows) (parts j) (pos p) ∙ ap (λ v. pow v (pos p)) (sym (kept.by_rows j (inside j l))) ∙ pow-pow a divisor (pos p) ∙ ap (pow a) (*ℤ_comm (pos p) divisor))
        ∙ ap (mul (pow a (divisor *ℤ pos p))) (replace-pow (nth rows) t (neg_ℤ (power_of u (Var m))) ∙ ap (λ v. pow v (neg_ℤ (power_of u (Var m)))) (sym e)))
        ∙ weight-mul (indicator z) (pow a (divisor *ℤ pos p)) (pow (pow (back (Var m)) (divisor *ℤ pos p)) (neg_ℤ (power_of u (Var m))))
        ∙ ap (λ n. n +ℤ power_of (pow (pow (back (Var m)) (divisor *ℤ pos p)) (neg_ℤ (power_of u (Var m)))) z)
        (weight-pow (indicator z) a (divisor *ℤ pos p) ∙ ap (λ n. (divisor *ℤ pos p) *ℤ n) (weight-mul (indicator z) (extension back u) (inv (atom (Var j))) ∙ ap (λ n. power_of (extension back u) z +ℤ n) (weight-inv (indicator z) (atom (Var j)))))
        ∙ ap (λ n. (divisor *ℤ pos p) *ℤ (power_of (extension back u) z +ℤ neg_ℤ (power_of (atom (Var j)) z)) +ℤ n)
        (weight-pow (indicator z) (pow (back (Var m)) (divisor *ℤ pos p)) (neg_ℤ (power_of u (Var m))) ∙ ap (λ n. neg_ℤ (power_of u (Var m)) *ℤ n) (weight-pow (indicator z) (back (Var m)) (divisor *ℤ pos p)))

-- ---- a whole row: the steps, and then x becomes 1 where r is left as x^p
pub kept_row : (rows solution : List PowerMap) (back : Atom → PowerMap) (divisor : ℤ) (parts : ℕ → PowerMap) (k m p : ℕ) (ts : List ElimStep) → IsInverse rows solution back divisor parts →
    VariablesBelow (length solution) (nth rows k) → ((n : ℕ) → power_of (nth rows k) (Base n) ≢ pos 0 → back (Base n) ≡ atom (Base n)) →
    All IsShear ts → unit_after ts (replace (nth solution) (nth rows k)) ≡ pow (atom (Var m)) (pos p) →
    IsInverse rows (map (replace (substitute m one)) (units_after ts solution)) (inverse_after ts back) (divisor *ℤ pos p)
    (parts_after m p (signed_by ts (total parts (nth rows k) k divisor)) (units_after ts solution) parts)
kept_row rows solution back divisor parts k m p ts kept below bases shears e =
    kept_end rows (units_after ts solution) (inverse_after ts back) divisor parts m p (signed_by ts (total parts (nth rows k) k divisor))
    (kept_after rows solution back divisor parts ts shears kept)
    (sym (pow-pow (inverse_after ts back (Var m)) (pos p) divisor)
    ∙ ap (λ u. pow u divisor) (ap (λ u. pow u (pos p)) (sym (extension-atom (inverse_after ts back) (Var m))) ∙ sym (extension-pow (inverse_after ts back) (atom (Var m)) (pos p)) ∙ ap (extension (inverse_after ts back)) (sym e)
    ∙ unit_comes_back ts (replace (nth solution) (nth rows k)) back shears)
    ∙ pow-signed_by ts (extension back (replace (nth solution) (nth rows k))) divisor
    ∙ ap (signed_by ts) (total_is rows solution back divisor parts k kept below bases)
    ∙ sym (replace-signed_by (nth rows) ts (total parts (nth rows k) k divisor)))
