-- Changes of units one after another, and how a change of a function's units goes through its unit parameters.
use Rattle.std.proofs.Common.{◌≡◌, ◌≢◌, refl, sym, ap, ◌∙◌, inl, inr, ℕ, ◌+◌, ◌-◌, ◌<◌, ◌≤◌, ◌⊎◌, Bool, true, false, nat_lt, nat_le, ◌&&◌, if◌then◌else◌, List, [], ◌∷◌, map, pos, arith}
use Rattle.std.proofs.lemmas.Bool.Decides.{nat_tests}
use Rattle.um_units.specs.declared.Atom.{Atom}
use Rattle.um_units.specs.declared.Atom.TheVariants.{Base, Var}
use Rattle.um_units.specs.PowerMap.{PowerMap, power_of, atom, extension}
use Rattle.um_units.proofs.Equality.{same_unit}
use Rattle.um_units.proofs.Replacement.{weight_held, extension-mul, extension-atom}
use Rattle.um_tree.specs.TypeTree.{TypeTree, bool_type, num_type, list_type, record_type}
use Rattle.um_tree.specs.ProgramTree.{Signature}
use Rattle.um_tree.specs.Typing.{moved, moved_signature, IsHomomorphism, IsInstantiation}
use Rattle.um_tree.proofs.Homomorphisms.{power_of-h}

-- ---- one change after another
units_alike : (f g : PowerMap → PowerMap) → ((u : PowerMap) → f u ≡ g u) → (us : List PowerMap) → map f us ≡ map g us
units_alike f g same [] = refl
units_alike f g same (u ∷ us) = ap (λ v. v ∷ map f us) (same u) ∙ ap (λ vs. g u ∷ vs) (units_alike f g same us)

moved_alike : (f g : PowerMap → PowerMap) → ((u : PowerMap) → f u ≡ g u) → (t : TypeTree) → moved f t ≡ moved g t
moved_alike f g same bool_type = refl
moved_alike f g same (num_type u) = ap num_type (same u)
moved_alike f g same (list_type t) = ap list_type (moved_alike f g same t)
moved_alike f g same (record_type r us) = ap (record_type r) (units_alike f g same us)

types_alike : (f g : PowerMap → PowerMap) → ((u : PowerMap) → f u ≡ g u) → (ts : List TypeTree) → map (moved f) ts ≡ map (moved g) ts
types_alike f g same [] = refl
types_alike f g same (t ∷ ts) = ap (λ s. s ∷ map (moved f) ts) (moved_alike f g same t) ∙ ap (λ ss. moved g t ∷ ss) (types_alike f g same ts)

pub signature_alike : (f g : PowerMap → PowerMap) → ((u : PowerMap) → f u ≡ g u) → (s : Signature) → moved_signature f s ≡ moved_signature g s
signature_alike f g same s =
    ap (λ ts. record { params = ts; result = moved f s.result }) (types_alike f g same s.params)
    ∙ ap (λ t. record { params = map (moved g) s.params; result = t }) (moved_alike f g same s.result)

units_twice : (f g : PowerMap → PowerMap) (us : List PowerMap) → map g (map f us) ≡ map (λ u. g (f u)) us
units_twice f g [] = refl
units_twice f g (u ∷ us) = ap (λ vs. g (f u) ∷ vs) (units_twice f g us)

moved_twice : (f g : PowerMap → PowerMap) (t : TypeTree) → moved g (moved f t) ≡ moved (λ u. g (f u)) t
moved_twice f g bool_type = refl
moved_twice f g (num_type u) = refl
moved_twice f g (list_type t) = ap list_type (moved_twice f g t)
moved_twice f g (record_type r us) = ap (record_type r) (units_twice f g us)

types_twice : (f g : PowerMap → PowerMap) (ts : List TypeTree) → map (moved g) (map (moved f) ts) ≡ map (moved (λ u. g (f u))) ts
types_twice f g [] = refl
types_twice f g (t ∷ ts) = ap (λ s. s ∷ map (moved g) (map (moved f) ts)) (moved_twice f g t) ∙ ap (λ ss. moved (λ u. g (f u)) t ∷ ss) (types_twice f g ts)

pub signature_twice : (f g : PowerMap → PowerMap) (s : Signature) → moved_signature g (moved_signature f s) ≡ moved_signature (λ u. g (f u)) s
signature_twice f g s =
    ap (λ ts. record { params = ts; result = moved g (moved f s.result) }) (types_twice f g s.params)
    ∙ ap (λ t. record { params = map (moved (λ u. g (f u))) s.params; result = t }) (moved_twice f g s.result)

pub signature_left : (s : Signature) → moved_signature (λ u. u) s ≡ s
signature_left s =
    ap (λ ts. record { params = ts; result = moved (λ u. u) s.result }) (types_left s.params)
    ∙ ap (λ t. record { params = s.params; result = t }) (left s.result)
  where
    units_left : (us : List PowerMap) → map (λ u. u) us ≡ us
    units_left [] = refl
    units_left (u ∷ us) = ap (λ vs. u ∷ vs) (units_left us)

    left : (t : TypeTree) → moved (λ u. u) t ≡ t
    left bool_type = refl
    left (num_type u) = refl
    left (list_type t) = ap list_type (left t)
    left (record_type r us) = ap (record_type r) (units_left us)

    types_left : (ts : List TypeTree) → map (moved (λ u. u)) ts ≡ ts
    types_left [] = refl
    types_left (t ∷ ts) = ap (λ x. x ∷ map (moved (λ u. u)) ts) (left t) ∙ ap (λ xs. t ∷ xs) (types_left ts)

-- ---- two homomorphisms that are alike at the atoms of a unit
pub alike_where_held :
    (f g : PowerMap → PowerMap) → IsHomomorphism f → IsHomomorphism g → (u : PowerMap) →
    ((x : Atom) → power_of u x ≢ pos 0 → f (atom x) ≡ g (atom x)) → f u ≡ g u
alike_where_held f g f-mul g-mul u same =
    same_unit _ _ (λ x. power_of-h f f-mul u x
    ∙ weight_held _ _ u (λ y held. ap (λ v. power_of v x) (same y held))
    ∙ sym (power_of-h g g-mul u x))

pub alike_at_atoms :
    (f g : PowerMap → PowerMap) → IsHomomorphism f → IsHomomorphism g → ((x : Atom) → f (atom x) ≡ g (atom x)) →
    (u : PowerMap) → f u ≡ g u
alike_at_atoms f g f-mul g-mul same u = alike_where_held f g f-mul g-mul u (λ x held. same x)

pub after-mul : (f g : PowerMap → PowerMap) → IsHomomorphism f → IsHomomorphism g → IsHomomorphism (λ u. g (f u))
after-mul f g f-mul g-mul u v = ap g (f-mul u v) ∙ g-mul (f u) (f v)

-- ---- a change of units h behind an instantiation of n unit parameters behind b base units. It is an instantiation behind
-- a change that leaves the parameters: between the two, variables stand for the parameters, and the variables go n on
module _ (b n : ℕ) where
  abbrev is_parameter : ℕ → Bool
  is_parameter m = nat_le b m && nat_lt m (b + n)

  -- the parameters become variables
  abbrev pub named : Atom → PowerMap
  named (Base m) = if is_parameter m then atom (Var (m - b)) else atom (Base m)
  named (Var j) = atom (Var (n + j))

  not_parameter : (m : ℕ) → ((m < b) ⊎ (b + n ≤ m)) → is_parameter m ≡ false
  not_parameter m (inl e) = grind (arith, nat_tests)
  not_parameter m (inr e) = grind (arith, nat_tests)

  parameter : (k : ℕ) → k < n → is_parameter (b + k) ≡ true
  parameter k e = grind (arith, nat_tests)

  -- declared base units are left
  pub named-declared : (k : ℕ) → k < b → extension named (atom (Base k)) ≡ atom (Base k)
  named-declared k e = extension-atom named (Base k) ∙ ap (λ t. if t then atom (Var (k - b)) else atom (Base k)) (not_parameter k (inl e))

  module _ (inst h : PowerMap → PowerMap) (is : IsInstantiation b n inst) (h-mul : IsHomomorphism h) where
    -- the change that leaves the parameters
    abbrev rigid_at : Atom → PowerMap
    rigid_at (Base m) = if is_parameter m then atom (Base m) else extension named (h (inst (atom (Base m))))
    rigid_at (Var j) = extension named (h (inst (atom (Var j))))

    abbrev pub rigid_change : PowerMap → PowerMap
    rigid_change = extension rigid_at

    -- the instantiation behind it
    abbrev loose_at : Atom → PowerMap
    loose_at (Base m) = if is_parameter m then h (inst (atom (Base m))) else atom (Base m)
    loose_at (Var j) = if nat_lt j n then atom (Base (b + j)) else atom (Var (j - n))

    abbrev pub instantiation : PowerMap → PowerMap
    instantiation = extension loose_at

    pub rigid_change-mul : IsHomomorphism rigid_change
    rigid_change-mul = extension-mul rigid_at

    pub rigid_change-declared : (k : ℕ) → k < b → rigid_change (atom (Base k)) ≡ extension named (h (atom (Base k)))
    rigid_change-declared k e =
        extension-atom rigid_at (Base k)
        ∙ ap (λ t. if t then atom (Base k) else extension named (h (inst (atom (Base k))))) (not_parameter k (inl e))
        ∙ ap (λ u. extension named (h u)) (is.others k (inl e))

    pub rigid_change-parameter : (k : ℕ) → k < n → rigid_change (atom (Base (b + k))) ≡ atom (Base (b + k))
    rigid_change-parameter k e =
        extension-atom rigid_at (Base (b + k))
        ∙ ap (λ t. if t then atom (Base (b + k)) else extension named (h (inst (atom (Base (b + k)))))) (parameter k e)

    pub instantiation-is : IsInstantiation b n instantiation
    instantiation-is = record {
      homomorphism = extension-mul loose_at;
      others = λ k e. extension-atom loose_at (Base k) ∙ ap (λ t. if t then h (inst (atom (Base k))) else atom (Base k)) (not_parameter k e);
    }

    -- it takes the names back
    back_at : (x : Atom) → extension loose_at (named x) ≡ atom x
    back_at (Base m) =
        elim (is_parameter m) as (λ t. is_parameter m ≡ t → extension loose_at (if t then atom (Var (m - b)) else atom (Base m)) ≡ atom (Base m)) [
          | true ↦ λ e.
              extension-atom loose_at (Var (m - b))
              ∙ ap (λ t. if t then atom (Base (b + (m - b))) else atom (Var (m - b - n))) (parameter_below m e)
              ∙ ap (λ k. atom (Base k)) (parameter_back m e)
          | false ↦ λ e. extension-atom loose_at (Base m) ∙ ap (λ t. if t then h (inst (atom (Base m))) else atom (Base m)) e
        ] refl
      where
        parameter_below : (m : ℕ) → is_parameter m ≡ true → nat_lt (m - b) n ≡ true
        parameter_below m e = grind (arith, nat_tests)

        parameter_back : (m : ℕ) → is_parameter m ≡ true → b + (m - b) ≡ m
        parameter_back m e = grind (arith, nat_tests)
    back_at (Var j) =
        extension-atom loose_at (Var (n + j)) ∙ ap (λ t. if t then atom (Base (b + (n + j))) else atom (Var (n + j - n))) not_below ∙ ap (λ k. atom (Var k)) back
      where
        not_below : nat_lt (n + j) n ≡ false
        not_below = grind (arith, nat_tests)

        back : n + j - n ≡ j
        back = omega arith

    back : (u : PowerMap) → instantiation (extension named u) ≡ u
    back = alike_at_atoms (λ u. instantiation (extension named u)) (λ u. u) (after-mul (extension named) instantiation (extension-mul named) (extension-mul loose_at)) (λ u v. refl) (λ x. ap instantiation (extension-atom named x) ∙ back_at x)

    -- one after the other they are h behind the instantiation
    same_at : (x : Atom) → instantiation (rigid_change (atom x)) ≡ h (inst (atom x))
    same_at (Base m) =
        ap instantiation (extension-atom rigid_at (Base m)) ∙ elim (is_parameter m) as (λ t. is_parameter m ≡ t → instantiation (if t then atom (Base m) else extension named (h (inst (atom (Base m))))) ≡ h (inst (atom (Base m)))) [
          | true ↦ λ e. extension-atom loose_at (Base m) ∙ ap (λ t. if t then h (inst (atom (Base m))) else atom (Base m)) e
          | false ↦ λ e. back (h (inst (atom (Base m))))
        ] refl
    same_at (Var j) = ap instantiation (extension-atom rigid_at (Var j)) ∙ back (h (inst (atom (Var j))))

    pub same_change : (u : PowerMap) → instantiation (rigid_change u) ≡ h (inst u)
    same_change =
        alike_at_atoms (λ u. instantiation (rigid_change u)) (λ u. h (inst u))
        (after-mul rigid_change instantiation (extension-mul rigid_at) (extension-mul loose_at))
        (after-mul inst h is.homomorphism h-mul) same_at
