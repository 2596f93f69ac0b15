-- Units whose powers are in range.
use Rattle.std.proofs.Common.{◌≡◌, inl, inr, ◌<◌, ◌≤◌, Bool, true, false, List, [], ◌∷◌, ℤ, pos, neg_ℤ, nat_abs, refl, sym, ap, ◌∙◌, subst, arith}
use Rattle.std.specs.Prelude.{IsTrue, IsFalse}
use Rattle.std.proofs.lemmas.Bool.{and_parts, and_cases, leb-true, leb-false, true_from_ne_false, false_from_ne_true}
use Rattle.std.proofs.lemmas.Int.{ints}
use Rattle.um_units.specs.declared.Atom.{Atom}
use Rattle.um_units.specs.declared.Term.{Term}
use Rattle.um_units.specs.Atoms.{same_atom}
use Rattle.um_units.specs.Terms.{indicator, power_in, is_normal}
use Rattle.um_units.specs.NormalForm.{head_before_all, tail_normal, same_atom-eq}
use Rattle.um_units.specs.PowerMap.{PowerMap, product, power_of, one, atom, inv}
use Rattle.um_units.specs.declared.UnitStop.{UnitStop}
use Rattle.um_units.specs.declared.UnitStop.TheVariants.{Range, NoMemory}
use Rattle.um_units.specs.Range.{in_range, all_in_range, fits, IsKept, IsStopUnless}
use Rattle.um_units.proofs.Equality.{product-normal, power_in-before_all, power_in-head, power_in-tail}
use Rattle.um_units.proofs.Group.{weight-one, weight-inv, terms-atom}

-- ---- a unit fits exactly where each of its powers is in range
in_range-power_in : (ts : List Term) → IsTrue (is_normal ts) → IsTrue (all_in_range ts) → (x : Atom) → IsTrue (in_range (power_in ts x))
in_range-power_in [] n h x = refl
in_range-power_in (t ∷ ts) n h x =
    let parts = and_parts (in_range t.power) (all_in_range ts) h in
    elim (same_atom x t.atom) as (λ b. same_atom x t.atom ≡ b → IsTrue (in_range (power_in (t ∷ ts) x))) [
      | true ↦ λ e. ap in_range (ap (power_in (t ∷ ts)) (same_atom-eq x t.atom e) ∙ power_in-head t ts (head_before_all t ts n)) ∙ parts.0
      | false ↦ λ e. ap in_range (power_in-tail t ts x e) ∙ in_range-power_in ts (tail_normal t ts n) parts.1 x
    ] refl

out_of_range : (ts : List Term) → IsTrue (is_normal ts) → all_in_range ts ≡ false → (x : Atom) × (in_range (power_in ts x) ≡ false)
out_of_range [] n h = absurd (let e : true ≡ false = h in cc)
out_of_range (t ∷ ts) n h = elim (and_cases (in_range t.power) (all_in_range ts) h) [
  | inl e ↦ (t.atom, ap in_range (power_in-head t ts (head_before_all t ts n)) ∙ e)
  | inr e ↦ further (out_of_range ts (tail_normal t ts n) e)
]
  where
    further : ((x : Atom) × (in_range (power_in ts x) ≡ false)) → (x : Atom) × (in_range (power_in (t ∷ ts) x) ≡ false)
    further (x, e) =
        elim (same_atom x t.atom) as (λ b. same_atom x t.atom ≡ b → (x : Atom) × (in_range (power_in (t ∷ ts) x) ≡ false)) [
          | true ↦ λ s. absurd (let z : power_in ts x ≡ pos 0 = ap (power_in ts) (same_atom-eq x t.atom s) ∙ power_in-before_all t.atom ts (head_before_all t ts n) in let f : true ≡ false = sym (ap in_range z) ∙ e in cc)
          | false ↦ λ s. (x, ap in_range (power_in-tail t ts x s) ∙ e)
        ] refl

pub fits-power_of : (u : PowerMap) → IsTrue (fits u) → (x : Atom) → nat_abs (power_of u x) ≤ 2147483647
fits-power_of u h x = leb-true (nat_abs (power_of u x)) 2147483647 (in_range-power_in u.terms u.normal h x)

pub not_fits : (u : PowerMap) → IsFalse (fits u) → (x : Atom) × (2147483647 < nat_abs (power_of u x))
not_fits u h = let w = out_of_range u.terms u.normal h in (w.0, leb-false (nat_abs (power_of u w.0)) 2147483647 w.1)

pub fits_from_powers : (u : PowerMap) → ((x : Atom) → nat_abs (power_of u x) ≤ 2147483647) → IsTrue (fits u)
fits_from_powers u low = true_from_ne_false (fits u) (λ e. let w = not_fits u e in let l = low w.0 in let g = w.1 in omega (arith, l, g))

pub not_fits_from_power : (u : PowerMap) (x : Atom) → 2147483647 < nat_abs (power_of u x) → IsFalse (fits u)
not_fits_from_power u x high = false_from_ne_true (fits u) (λ e. let l = fits-power_of u e x in omega (arith, l, high))

-- ---- results
pub fits-one : IsTrue (fits one)
fits-one = fits_from_powers one (λ x. let e = ap nat_abs (weight-one (indicator x)) in omega (arith, e))

pub fits-atom : (x : Atom) → IsTrue (fits (atom x))
fits-atom x = ap all_in_range (terms-atom x)

pub fits-inv : (u : PowerMap) → IsTrue (fits u) → IsTrue (fits (inv u))
fits-inv u h = fits_from_powers (inv u) (λ x. let e = ap nat_abs (weight-inv (indicator x) u) ∙ same_abs (power_of u x) in let l = fits-power_of u h x in omega (arith, e, l))
  where
    same_abs : (z : ℤ) → nat_abs (neg_ℤ z) ≡ nat_abs z
    same_abs z = omega (arith, ints)

-- ---- what the code keeps of a unit
pub fits-product : (ts : List Term) → IsKept ts → IsTrue (fits (product ts))
fits-product ts kept = subst (λ us. IsTrue (all_in_range us)) (sym (product-normal ts kept.normal)) kept.fit

pub fits-kept : (ts : List Term) (u : PowerMap) → IsKept ts → product ts ≡ u → IsTrue (fits u)
fits-kept ts u kept e = subst (λ v. IsTrue (fits v)) e (fits-product ts kept)

pub terms-kept : (ts : List Term) (u : PowerMap) → IsKept ts → product ts ≡ u → ts ≡ u.terms
terms-kept ts u kept e = sym (product-normal ts kept.normal) ∙ ap (λ (v : PowerMap). v.terms) e

-- ---- stops
-- why a call stopped is why another does, where its test fails with the other's
pub stop_further : (b d : Bool) (stop : UnitStop) → (IsFalse b → IsFalse d) → IsStopUnless b stop → IsStopUnless d stop
stop_further b d Range f h = f h
stop_further b d NoMemory f h = h
