-- Units of one term or two, and what a replacement makes of them.
use Rattle.std.proofs.Common.{◌≡◌, ℕ, ◌<◌, ◌≤◌, List, [], ◌∷◌, get_or, length, ℤ, pos, ◌+ℤ◌, ◌*ℤ◌, sym, ap, ◌∙◌, arith}
use Rattle.std.proofs.Math.IntN.{+ℤ_idr}
use Rattle.um_units.specs.declared.Atom.{Atom}
use Rattle.um_units.specs.declared.Term.{Term}
use Rattle.um_units.specs.Terms.{indicator, weigh}
use Rattle.um_units.specs.PowerMap.{PowerMap, power_of, atom, mul, pow, image, replace}
use Rattle.um_units.proofs.Equality.{same_unit}
use Rattle.um_units.proofs.Group.{mul_comm, pow-one, weight-atom, weight-mul, weight-pow}
use Rattle.um_units.proofs.Replacement.{replace-atom, replace-mul, replace-pow}

-- ---- the term of a slice
pub only_term : (ts : List Term) (u : PowerMap) (d : Term) → ts ≡ u.terms → length ts < 2 → 1 ≤ length ts → u.terms ≡ get_or ts 0 d ∷ []
only_term [] u d e l m = absurd (omega (arith, m))
only_term (t ∷ []) u d e l m = sym e
only_term (t ∷ s ∷ ts) u d e l m = absurd (omega (arith, l))

-- ---- the unit of the terms
power_of-term : (x : Atom) (t : Term) → power_of (pow (atom t.atom) t.power) x ≡ t.power *ℤ indicator x t.atom
power_of-term x t = weight-pow (indicator x) (atom t.atom) t.power ∙ ap (λ n. t.power *ℤ n) (weight-atom (indicator x) t.atom)

pub one_term : (u : PowerMap) (t : Term) → u.terms ≡ t ∷ [] → u ≡ pow (atom t.atom) t.power
one_term u t e = same_unit _ _ (λ x. ap (weigh (indicator x)) e ∙ +ℤ_idr (t.power *ℤ indicator x t.atom) ∙ sym (power_of-term x t))

two_terms : (u : PowerMap) (t s : Term) → u.terms ≡ t ∷ s ∷ [] → u ≡ mul (pow (atom t.atom) t.power) (pow (atom s.atom) s.power)
two_terms u t s e = same_unit _ _ (λ x.
    ap (weigh (indicator x)) e
    ∙ ap (λ n. t.power *ℤ indicator x t.atom +ℤ n) (+ℤ_idr (s.power *ℤ indicator x s.atom))
    ∙ sym (weight-mul (indicator x) (pow (atom t.atom) t.power) (pow (atom s.atom) s.power)
    ∙ ap (λ n. n +ℤ power_of (pow (atom s.atom) s.power) x) (power_of-term x t)
    ∙ ap (λ n. t.power *ℤ indicator x t.atom +ℤ n) (power_of-term x s)))

-- one of the two powers is 1
pub first_single : (u : PowerMap) (t s : Term) → u.terms ≡ t ∷ s ∷ [] → t.power ≡ pos 1 → u ≡ mul (atom t.atom) (pow (atom s.atom) s.power)
first_single u t s e p = two_terms u t s e ∙ ap (λ v. mul v (pow (atom s.atom) s.power)) (ap (pow (atom t.atom)) p ∙ pow-one (atom t.atom))

pub second_single : (u : PowerMap) (t s : Term) → u.terms ≡ t ∷ s ∷ [] → s.power ≡ pos 1 → u ≡ mul (atom s.atom) (pow (atom t.atom) t.power)
second_single u t s e p =
    two_terms u t s e ∙ mul_comm (pow (atom t.atom) t.power) (pow (atom s.atom) s.power)
    ∙ ap (λ v. mul v (pow (atom t.atom) t.power)) (ap (pow (atom s.atom)) p ∙ pow-one (atom s.atom))

-- ---- what is put for the atoms
pub power_put : (s : ℕ → PowerMap) (u : PowerMap) (x : Atom) (k : ℤ) → u ≡ pow (atom x) k → pow (image s x) k ≡ replace s u
power_put s u x k e = sym (ap (replace s) e ∙ replace-pow s (atom x) k ∙ ap (λ v. pow v k) (replace-atom s x))

pub product_put : (s : ℕ → PowerMap) (u : PowerMap) (x y : Atom) (k : ℤ) → u ≡ mul (atom x) (pow (atom y) k) → mul (image s x) (pow (image s y) k) ≡ replace s u
product_put s u x y k e =
    sym (ap (replace s) e ∙ replace-mul s (atom x) (pow (atom y) k)
    ∙ ap (λ v. mul v (replace s (pow (atom y) k))) (replace-atom s x)
    ∙ ap (mul (image s x)) (replace-pow s (atom y) k ∙ ap (λ v. pow v k) (replace-atom s y)))

-- a factor as the code has it: u is the unit, and j its power
pub power_passed : (left u v : PowerMap) (k j : ℤ) → u ≡ v → j ≡ k → mul left (pow u j) ≡ mul left (pow v k)
power_passed left u v k j e f = ap (λ w. mul left (pow w j)) e ∙ ap (λ i. mul left (pow v i)) f
