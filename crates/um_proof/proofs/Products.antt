-- A product of units put for variables.
use Rattle.std.proofs.Common.{◌≡◌, sym, ap, ◌∙◌, ℕ}
use Rattle.um_units.specs.declared.Atom.{Atom}
use Rattle.um_units.specs.declared.Atom.TheVariants.{Base, Var}
use Rattle.um_units.specs.PowerMap.{PowerMap, one, atom, mul, inv, replace, extension}
use Rattle.um_units.proofs.Group.{mul_comm, mul_assoc, mul-one, one-mul, mul-inv}
use Rattle.um_units.proofs.Replacement.{extension-mul, extension-atom, replace-mul, replace-base, replace-variable}
use Rattle.um_tree.specs.Typing.{IsHomomorphism}
use Rattle.um_tree.proofs.Homomorphisms.{h-one}
use Rattle.um_tree.proofs.Instantiations.{alike_at_atoms, after-mul}

exchanged : (a b c d : PowerMap) → mul (mul a b) (mul c d) ≡ mul (mul a c) (mul b d)
exchanged a b c d =
    mul_assoc a b (mul c d)
    ∙ ap (mul a) (sym (mul_assoc b c d) ∙ ap (λ x. mul x d) (mul_comm b c) ∙ mul_assoc c b d)
    ∙ sym (mul_assoc a c (mul b d))

-- a quotient times its divisor
pub quotient_taken : (u v : PowerMap) → mul u (mul v (inv u)) ≡ v
quotient_taken u v = ap (mul u) (mul_comm v (inv u)) ∙ sym (mul_assoc u (inv u) v) ∙ ap (λ x. mul x v) (mul-inv u) ∙ one-mul v

-- the units that are put for variables alone, without the base units
abbrev alone_atom : (ℕ → PowerMap) → Atom → PowerMap
alone_atom s (Base m) = one
alone_atom s (Var k) = s k

abbrev pub alone : (ℕ → PowerMap) → PowerMap → PowerMap
alone s = extension (alone_atom s)

pub product_put : (s t : ℕ → PowerMap) (u : PowerMap) → replace (λ k. mul (s k) (t k)) u ≡ mul (replace s u) (alone t u)
product_put s t = alike_at_atoms (replace (λ k. mul (s k) (t k))) (λ u. mul (replace s u) (alone t u)) (replace-mul (λ k. mul (s k) (t k))) product-mul at where
  product-mul : IsHomomorphism (λ u. mul (replace s u) (alone t u))
  product-mul u v = (λ i. mul (replace-mul s u v i) (extension-mul (alone_atom t) u v i)) ∙ exchanged (replace s u) (replace s v) (alone t u) (alone t v)

  at : (x : Atom) → replace (λ k. mul (s k) (t k)) (atom x) ≡ mul (replace s (atom x)) (alone t (atom x))
  at (Base m) =
      replace-base (λ k. mul (s k) (t k)) m ∙ sym (mul-one (atom (Base m)))
      ∙ sym (λ i. mul (replace-base s m i) (extension-atom (alone_atom t) (Base m) i))
  at (Var k) = replace-variable (λ j. mul (s j) (t j)) k ∙ sym (λ i. mul (replace-variable s k i) (extension-atom (alone_atom t) (Var k) i))

-- a change of units, before and after
pub alone_changed : (h : PowerMap → PowerMap) → IsHomomorphism h → (s : ℕ → PowerMap) (u : PowerMap) → alone (λ k. h (s k)) u ≡ h (alone s u)
alone_changed h h-mul s =
    alike_at_atoms (alone (λ k. h (s k))) (λ u. h (alone s u)) (extension-mul (alone_atom (λ k. h (s k)))) (after-mul (alone s) h (extension-mul (alone_atom s)) h-mul) at
  where
    at : (x : Atom) → alone (λ k. h (s k)) (atom x) ≡ h (alone s (atom x))
    at (Base m) = extension-atom (alone_atom (λ k. h (s k))) (Base m) ∙ sym (ap h (extension-atom (alone_atom s) (Base m)) ∙ h-one h h-mul)
    at (Var k) = extension-atom (alone_atom (λ j. h (s j))) (Var k) ∙ sym (ap h (extension-atom (alone_atom s) (Var k)))
