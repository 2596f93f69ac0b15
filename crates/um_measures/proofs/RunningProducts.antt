-- Products that grow by one term after another.
use Rattle.std.proofs.Common.{◌≡◌, ℕ, zero, suc, ◌<◌, ◌≤◌, Bool, true, false, cond, Option, Some, List, [], ◌∷◌, ◌++◌, take, get_or, length, ℤ, ◌+ℤ◌, nat_abs, ◌+◌, append_assoc, refl, sym, ap, ◌∙◌, subst, arith}
use Rattle.std.specs.Prelude.{IsTrue, IsFalse}
use Rattle.std.specs.Map.{lookup}
use Rattle.std.proofs.lemmas.Int.{ints}
use Rattle.std.proofs.lemmas.Bool.{cond_both, leb-true, leb-false}
use Rattle.std.proofs.lemmas.Bool.Decides.{nat_tests}
use Rattle.std.proofs.lemmas.List.{take_more, take_all}
use Rattle.std.proofs.Math.IntN.{+ℤ_idl, +ℤ_idr}
use Rattle.um_units.specs.declared.UnitStop.{UnitStop}
use Rattle.um_units.specs.declared.UnitStop.TheVariants.{Range, NoMemory}
use Rattle.std.specs.HashMap.{HashMap, get, Updates, IsEmpty}
use Rattle.um_units.specs.declared.Atom.{Atom}
use Rattle.um_units.specs.declared.Atom.TheVariants.{Base, Var}
use Rattle.um_units.specs.declared.Term.{Term}
use Rattle.um_units.specs.contracts.AtomPartialEq.TheImpl as equality
use Rattle.um_units.specs.Atoms.{same_atom}
use Rattle.um_units.specs.Terms.{indicator, power_in, is_normal}
use Rattle.um_units.specs.NormalForm.{same_atom-eq, head_before_all, tail_normal}
use Rattle.um_units.specs.PowerMap.{PowerMap, product, power_of, mul}
use Rattle.um_units.specs.Range.{in_range, fits, IsStopUnless}
use Rattle.um_units.proofs.Weights.{weigh-product, weigh-++}
use Rattle.um_units.proofs.Equality.{same_unit, power_in-head, power_in-tail}
use Rattle.um_units.proofs.Group.{power_of-mul}
use Rattle.um_units.proofs.InRange.{fits_from_powers, not_fits_from_power}
use Rattle.um_measures.specs.RunningPowers.{or_zero, power_at, Raises, ArePowersOf}

-- ---- atoms as keys
pub eq_is : (x y : Atom) → equality.eq-value.it x y ≡ same_atom x y
eq_is (Base m) (Base n) = grind (arith, nat_tests)
eq_is (Base m) (Var n) = refl
eq_is (Var m) (Base n) = refl
eq_is (Var m) (Var n) = grind (arith, nat_tests)

same_atom_comm : (x y : Atom) → same_atom x y ≡ same_atom y x
same_atom_comm (Base m) (Base n) = grind (arith, nat_tests)
same_atom_comm (Base m) (Var n) = refl
same_atom_comm (Var m) (Base n) = refl
same_atom_comm (Var m) (Var n) = grind (arith, nat_tests)

-- the map looks atoms up by a test of its own
pub get_is : {S : Type 0} (powers : HashMap Atom ℤ S) (x : Atom) → get equality.eq-value.it powers x ≡ get same_atom powers x
get_is powers x = ap (λ (test : Atom → Bool). lookup test powers.entries) (λ i y. eq_is x y i)

or_zero-cond : (b : Bool) (z : ℤ) (o : Option ℤ) → or_zero (cond b (Some z) o) ≡ cond b z (or_zero o)
or_zero-cond true z o = refl
or_zero-cond false z o = refl

-- a power that is put is there, and the others stay
pub raised : {S : Type 0} (old new : HashMap Atom ℤ S) (t : Term) (z : ℤ) → Updates equality.eq-value.it old new t.atom (Some z) → z ≡ power_at old t.atom +ℤ t.power → Raises old new t
raised old new t z h e = λ x.
    ap or_zero (sym (get_is new x) ∙ h.0 x) ∙ or_zero-cond (equality.eq-value.it t.atom x) z (get equality.eq-value.it old x) ∙ (λ i. cond (eq_is t.atom x i) (e i) (or_zero (get_is old x i)))

-- ---- terms
-- the powers with one more term
power_in-push : (ts : List Term) (t : Term) (x : Atom) → power_in (ts ++ t ∷ []) x ≡ cond (same_atom t.atom x) (power_in ts t.atom +ℤ t.power) (power_in ts x)
power_in-push ts t x =
    weigh-++ (indicator x) ts (t ∷ [])
    ∙ elim (same_atom t.atom x) as (λ b. same_atom t.atom x ≡ b → power_in ts x +ℤ power_in (t ∷ []) x ≡ cond b (power_in ts t.atom +ℤ t.power) (power_in ts x)) [
      | true ↦ λ e. ap (λ y. power_in ts y +ℤ power_in (t ∷ []) y) (sym (same_atom-eq t.atom x e)) ∙ ap (λ n. power_in ts t.atom +ℤ n) (power_in-head t [] refl)
      | false ↦ λ e. ap (λ n. power_in ts x +ℤ n) (power_in-tail t [] x (same_atom_comm x t.atom ∙ e)) ∙ +ℤ_idr (power_in ts x)
    ] refl

-- the map follows a term that is added
pub powers-push : {S : Type 0} (old new : HashMap Atom ℤ S) (ts : List Term) (t : Term) → ArePowersOf old ts → Raises old new t → IsTrue (in_range (power_at old t.atom +ℤ t.power)) → ArePowersOf new (ts ++ t ∷ [])
powers-push old new ts t h r fit = record {
  same = λ x. r x ∙ (λ i. cond (same_atom t.atom x) (h.same t.atom i +ℤ t.power) (h.same x i)) ∙ sym (power_in-push ts t x);
  low =
      λ x. subst (λ z. nat_abs z ≤ 2147483647) (sym (power_in-push ts t x))
      (cond_both (same_atom t.atom x) (power_in ts t.atom +ℤ t.power) (power_in ts x) (λ z. nat_abs z ≤ 2147483647)
      (λ e. leb-true (nat_abs (power_in ts t.atom +ℤ t.power)) 2147483647 (ap (λ z. in_range (z +ℤ t.power)) (sym (h.same t.atom)) ∙ fit))
      (λ e. h.low x));
}

-- no terms
pub powers-none : {S : Type 0} (powers : HashMap Atom ℤ S) (ts : List Term) → IsEmpty powers → ts ≡ [] → ArePowersOf powers ts
powers-none powers ts none e = subst (ArePowersOf powers) (sym e) (record {
  same = λ x. ap (λ es. or_zero (lookup (same_atom x) es)) none;
  low = λ x. omega arith;
})

pub terms-more : (start now new us : List Term) (i : ℕ) (d : Term) → i < length us → now ≡ start ++ take i us → new ≡ now ++ get_or us i d ∷ [] → new ≡ start ++ take (i + 1) us
terms-more start now new us i d below e f =
    f ∙ ap (λ ts. ts ++ get_or us i d ∷ []) e ∙ append_assoc start (take i us) (get_or us i d ∷ []) ∙ sym (ap (λ ts. start ++ ts) (take_more us i d below))

-- ---- units
-- in normal form an atom's power is that of its one term
power_in-so_far : (ts : List Term) → IsTrue (is_normal ts) → (i : ℕ) (t d : Term) → i < length ts → t ≡ get_or ts i d → power_in (take i ts) t.atom +ℤ t.power ≡ power_in ts t.atom
power_in-so_far [] n i t d h e = absurd (omega arith)
power_in-so_far (s ∷ ts) n zero t d h e =
    subst (λ (r : Term). power_in [] r.atom +ℤ r.power ≡ power_in (s ∷ ts) r.atom) (sym e) (+ℤ_idl s.power ∙ sym (power_in-head s ts (head_before_all s ts n)))
power_in-so_far (s ∷ ts) n (suc i) t d h e = let more = power_in-so_far ts (tail_normal s ts n) i t d (omega arith) e in omega (arith, ints, more)

power_of-product : (ts : List Term) (x : Atom) → power_of (product ts) x ≡ power_in ts x
power_of-product ts x = weigh-product (indicator x) ts

-- the power of a product with the terms of a unit
power_of-times : (ts : List Term) (u : PowerMap) (x : Atom) → power_of (mul (product ts) u) x ≡ power_in ts x +ℤ power_of u x
power_of-times ts u x = power_of-mul (product ts) u x ∙ ap (λ n. n +ℤ power_of u x) (power_of-product ts x)

pub product-times : (ts : List Term) (u : PowerMap) → product (ts ++ u.terms) ≡ mul (product ts) u
product-times ts u = same_unit _ _ (λ x. power_of-product (ts ++ u.terms) x ∙ weigh-++ (indicator x) ts u.terms ∙ sym (power_of-times ts u x))

pub fits-powers : {S : Type 0} (powers : HashMap Atom ℤ S) (ts : List Term) → ArePowersOf powers ts → IsTrue (fits (product ts))
fits-powers powers ts h = fits_from_powers (product ts) (λ x. subst (λ z. nat_abs z ≤ 2147483647) (sym (power_of-product ts x)) (h.low x))

-- a power that leaves the range on the way stays outside
left : {S : Type 0} (powers : HashMap Atom ℤ S) (ts : List Term) (u : PowerMap) (i : ℕ) (t d : Term) → ArePowersOf powers (ts ++ take i u.terms) → i < length u.terms → t ≡ get_or u.terms i d
    → IsFalse (in_range (power_at powers t.atom +ℤ t.power)) → IsFalse (fits (mul (product ts) u))
left powers ts u i t d h below e out =
    let split = h.same t.atom ∙ weigh-++ (indicator t.atom) ts (take i u.terms) in
    let whole = power_in-so_far u.terms u.normal i t d below e in
    let power : power_at powers t.atom +ℤ t.power ≡ power_of (mul (product ts) u) t.atom = omega (arith, ints, split, whole, power_of-times ts u t.atom) in
    not_fits_from_power (mul (product ts) u) t.atom (leb-false (nat_abs (power_of (mul (product ts) u) t.atom)) 2147483647 (ap in_range (sym power) ∙ out))

stops_too : (b c : Bool) (stop : UnitStop) → (IsFalse b → IsFalse c) → IsStopUnless b stop → IsStopUnless c stop
stops_too b c Range more h = more h
stops_too b c NoMemory more h = h

-- where a term of the unit can't be added
pub range-left : {S : Type 0} (powers : HashMap Atom ℤ S) (ts now us : List Term) (v u : PowerMap) (i : ℕ) (d : Term) (stop : UnitStop) → product ts ≡ v → us ≡ u.terms → ArePowersOf powers now → now ≡ ts ++ take i us
    → i < length us → IsStopUnless (in_range (power_at powers (get_or us i d).atom +ℤ (get_or us i d).power)) stop → IsStopUnless (fits (mul v u)) stop
range-left powers ts now us v u i d stop e f h g below out =
    let t = get_or us i d in
    subst (λ w. IsStopUnless (fits (mul w u)) stop) e
    (stops_too (in_range (power_at powers t.atom +ℤ t.power)) (fits (mul (product ts) u)) stop
    (left powers ts u i t d (subst (ArePowersOf powers) (g ∙ ap (λ ws. ts ++ take i ws) f) h) (subst (λ ws. i < length ws) f below) (ap (λ ws. get_or ws i d) f)) out)

-- where each was added
pub product-whole : (ts now us : List Term) (v u : PowerMap) (i : ℕ) → product ts ≡ v → us ≡ u.terms → now ≡ ts ++ take i us → length us ≤ i → product now ≡ mul v u
product-whole ts now us v u i e f g whole = ap product (g ∙ ap (λ ws. ts ++ ws) (take_all i us whole ∙ f)) ∙ product-times ts u ∙ ap (λ w. mul w u) e

pub fits-whole : {S : Type 0} (powers : HashMap Atom ℤ S) (ts now us : List Term) (v u : PowerMap) (i : ℕ) → product ts ≡ v → us ≡ u.terms → ArePowersOf powers now → now ≡ ts ++ take i us → length us ≤ i → IsTrue (fits (mul v u))
fits-whole powers ts now us v u i e f h g whole = subst (λ w. IsTrue (fits w)) (product-whole ts now us v u i e f g whole) (fits-powers powers now h)
