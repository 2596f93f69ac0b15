-- Each atom as a variable of its own, and back; on the way back each unit parameter becomes a unit that is given.
use Rattle.std.proofs.Common.{◌≡◌, refl, ap, ◌∙◌, inl, inr, ℕ, zero, suc, ◌+◌, ◌-◌, ◌<◌, ◌≤◌, ◌⊎◌, nat_lt, nat_le, ◌&&◌, Bool, true, false, if◌then◌else◌, List, arith}
use Rattle.std.proofs.lemmas.Bool.Decides.{nat_tests}
use Rattle.um_units.specs.declared.Atom.{Atom}
use Rattle.um_units.specs.declared.Atom.TheVariants.{Base, Var}
use Rattle.um_units.specs.PowerMap.{PowerMap, atom, nth, extension}
use Rattle.um_units.proofs.Replacement.{extension-mul, extension-atom}
use Rattle.um_tree.specs.Typing.{parameter_unit, IsHomomorphism, IsInstantiation}
use Rattle.um_tree.proofs.Instantiations.{alike_at_atoms, after-mul}

abbrev double : ℕ → ℕ
double zero = zero
double (suc m) = suc (suc (double m))

abbrev later : Atom → Atom
later (Base m) = Base (suc m)
later (Var m) = Var (suc m)

-- the atom of a variable: base units have the even numbers, variables the odd ones
abbrev atom_of : ℕ → Atom
atom_of zero = Base zero
atom_of (suc zero) = Var zero
atom_of (suc (suc m)) = later (atom_of m)

base_of : (m : ℕ) → atom_of (double m) ≡ Base m
base_of zero = refl
base_of (suc m) = ap later (base_of m)

variable_of : (m : ℕ) → atom_of (suc (double m)) ≡ Var m
variable_of zero = refl
variable_of (suc m) = ap later (variable_of m)

abbrev spread_atom : Atom → PowerMap
spread_atom (Base m) = atom (Var (double m))
spread_atom (Var m) = atom (Var (suc (double m)))

abbrev pub spread : PowerMap → PowerMap
spread = extension spread_atom

pub spread-mul : IsHomomorphism spread
spread-mul = extension-mul spread_atom

-- so many unit parameters after so many base units become the first of the units
module _ (bases parameters : ℕ) (units : List PowerMap) where
  abbrev is_parameter : ℕ → Bool
  is_parameter m = nat_le bases m && nat_lt m (bases + parameters)

  abbrev given_atom : Atom → PowerMap
  given_atom (Base m) = if is_parameter m then nth units (m - bases) else atom (Base m)
  given_atom (Var k) = atom (atom_of k)

  abbrev pub given : PowerMap → PowerMap
  given = extension given_atom

  not_parameter : (m : ℕ) → ((m < bases) ⊎ (bases + parameters ≤ m)) → is_parameter m ≡ false
  not_parameter m (inl e) = grind (arith, nat_tests)
  not_parameter m (inr e) = grind (arith, nat_tests)

  parameter : (k : ℕ) → k < parameters → is_parameter (bases + k) ≡ true
  parameter k e = grind (arith, nat_tests)

  in_place : (k : ℕ) → bases + k - bases ≡ k
  in_place k = omega arith

  pub given_is : IsInstantiation bases parameters given
  given_is = record {
    homomorphism = extension-mul given_atom;
    others = λ m e. extension-atom given_atom (Base m) ∙ ap (λ t. if t then nth units (m - bases) else atom (Base m)) (not_parameter m e);
  }

  pub given_parameter : (k : ℕ) → k < parameters → given (parameter_unit bases k) ≡ nth units k
  given_parameter k e =
      extension-atom given_atom (Base (bases + k))
      ∙ ap (λ t. if t then nth units (bases + k - bases) else atom (Base (bases + k))) (parameter k e)
      ∙ ap (nth units) (in_place k)

  pub given_back : (u : PowerMap) → given (spread u) ≡ u
  given_back = alike_at_atoms (λ u. given (spread u)) (λ u. u) (after-mul spread given spread-mul (extension-mul given_atom)) (λ u v. refl) at where
    at : (x : Atom) → given (spread (atom x)) ≡ atom x
    at (Base m) = ap given (extension-atom spread_atom (Base m)) ∙ extension-atom given_atom (Var (double m)) ∙ ap atom (base_of m)
    at (Var m) = ap given (extension-atom spread_atom (Var m)) ∙ extension-atom given_atom (Var (suc (double m))) ∙ ap atom (variable_of m)
