-- Unit parameters as variables: what instantiations of a rigid signature give are the instances of the generalised one, and
-- each power is kept.
-- Source: Kennedy (1996), on generalisation.
use Rattle.std.proofs.Common.{◌≡◌, ◌≢◌, inl, inr, ℕ, ◌+◌, ◌-◌, ◌<◌, ◌≤◌, ◌⊎◌, true, false, cond, nat_eq, nat_lt, List, [], ◌∷◌, map, ℤ, pos, ◌+ℤ◌, ◌*ℤ◌, nat_abs, refl, sym, ap, ◌∙◌, subst, arith}
use Rattle.std.specs.Prelude.{IsTrue}
use Rattle.std.proofs.lemmas.Bool.Decides.{nat_tests}
use Rattle.um_units.specs.declared.Atom.{Atom}
use Rattle.um_units.specs.declared.Atom.TheVariants.{Base, Var}
use Rattle.um_units.specs.declared.Term.{Term}
use Rattle.um_units.specs.Atoms.{same_atom}
use Rattle.um_units.specs.Terms.{weigh, indicator}
use Rattle.um_units.specs.PowerMap.{PowerMap, product, weight, power_of, atom, extension, replace}
use Rattle.um_units.specs.Variables.{VariablesBelow}
use Rattle.um_units.specs.Range.{fits}
use Rattle.um_units.proofs.Equality.{same_unit}
use Rattle.um_units.proofs.Weights.{weigh-product, weigh_alike}
use Rattle.um_units.proofs.Group.{weight-atom}
use Rattle.um_units.proofs.Replacement.{replace-mul, replace-base, replace-variable, weight_held, extension-mul, extension-atom}
use Rattle.um_units.proofs.InRange.{fits-power_of, fits_from_powers}
use Rattle.um_tree.specs.ProgramTree.{Signature}
use Rattle.um_tree.specs.Typing.{put_signature, moved_signature, IsInstantiation}
use Rattle.um_tree.proofs.Homomorphisms.{power_of-h}
use Rattle.um_tree.proofs.Instantiations.{signature_alike, signature_twice, alike_at_atoms, after-mul}
use Rattle.um_tree.proofs.TypingLaws.{signature-moved}
use Rattle.um_elim.proofs.Cases.{on_test}
use Rattle.um_rows.specs.Generalised.{is_parameter, generalised_atom, generalised_term, generalised_unit, generalised}
use Rattle.um_rows.proofs.Variables.{SignatureBelow, signature_put_alike_below}

module _ (bases parameters slots : ℕ) where
  abbrev in_place : Atom → PowerMap
  in_place x = atom (generalised_atom bases parameters slots x)

  not_parameter : (m : ℕ) → ((m < bases) ⊎ (bases + parameters ≤ m)) → is_parameter bases parameters slots m ≡ false
  not_parameter m (inl e) = grind (arith, nat_tests)
  not_parameter m (inr e) = grind (arith, nat_tests)

  other : (m : ℕ) → is_parameter bases parameters slots m ≡ false → (m < bases) ⊎ (bases + parameters ≤ m)
  other m e =
      on_test (nat_lt m bases)
      (λ t. let low : m < bases = grind (arith, nat_tests) in inl low)
      (λ t. let past : bases + parameters ≤ m = grind (arith, nat_tests) in inr past)

  -- ---- at atoms
  parameter_in_place : (m : ℕ) → is_parameter bases parameters slots m ≡ true → in_place (Base m) ≡ atom (Var (slots + (m - bases)))
  parameter_in_place m e = ap (λ b. atom (cond b (Var (slots + (m - bases))) (Base m))) e

  other_in_place : (m : ℕ) → is_parameter bases parameters slots m ≡ false → in_place (Base m) ≡ atom (Base m)
  other_in_place m e = ap (λ b. atom (cond b (Var (slots + (m - bases))) (Base m))) e

  -- any units in place of the variables
  module _ (t : ℕ → PowerMap) where
    put_at : (x : Atom) → replace t (generalised_unit bases parameters slots (atom x)) ≡ replace t (in_place x)
    put_at x = ap (replace t) (extension-atom in_place x)

    put_at_parameter : (m : ℕ) → is_parameter bases parameters slots m ≡ true → replace t (generalised_unit bases parameters slots (atom (Base m))) ≡ t (slots + (m - bases))
    put_at_parameter m e = put_at (Base m) ∙ ap (replace t) (parameter_in_place m e) ∙ replace-variable t (slots + (m - bases))

    put_at_other : (m : ℕ) → is_parameter bases parameters slots m ≡ false → replace t (generalised_unit bases parameters slots (atom (Base m))) ≡ atom (Base m)
    put_at_other m e = put_at (Base m) ∙ ap (replace t) (other_in_place m e) ∙ replace-base t m

    put_at_variable : (k : ℕ) → replace t (generalised_unit bases parameters slots (atom (Var k))) ≡ t k
    put_at_variable k = put_at (Var k) ∙ replace-variable t k

    -- ---- an instance of the generalised signature is what an instantiation gives
    abbrev instance_at : Atom → PowerMap
    instance_at (Base m) = cond (is_parameter bases parameters slots m) (t (slots + (m - bases))) (atom (Base m))
    instance_at (Var k) = t k

    abbrev pub instantiation : PowerMap → PowerMap
    instantiation = extension instance_at

    pub instantiation_is : IsInstantiation bases parameters instantiation
    instantiation_is = record {
      homomorphism = extension-mul instance_at;
      others = λ k e. extension-atom instance_at (Base k) ∙ ap (λ b. cond b (t (slots + (k - bases))) (atom (Base k))) (not_parameter k e);
    }

    instance_same_at : (x : Atom) → replace t (generalised_unit bases parameters slots (atom x)) ≡ instantiation (atom x)
    instance_same_at (Base m) =
        on_test (is_parameter bases parameters slots m)
        (λ e. put_at_parameter m e ∙ sym (extension-atom instance_at (Base m) ∙ ap (λ b. cond b (t (slots + (m - bases))) (atom (Base m))) e))
        (λ e. put_at_other m e ∙ sym (extension-atom instance_at (Base m) ∙ ap (λ b. cond b (t (slots + (m - bases))) (atom (Base m))) e))
    instance_same_at (Var k) = put_at_variable k ∙ sym (extension-atom instance_at (Var k))

    pub instance_instantiated : (g : Signature) → put_signature t (generalised bases parameters slots g) ≡ moved_signature instantiation g
    instance_instantiated g =
        sym (signature-moved t (generalised bases parameters slots g))
        ∙ signature_twice (generalised_unit bases parameters slots) (replace t) g
        ∙ signature_alike (λ u. replace t (generalised_unit bases parameters slots u)) instantiation
        (alike_at_atoms (λ u. replace t (generalised_unit bases parameters slots u)) instantiation
        (after-mul (generalised_unit bases parameters slots) (replace t) (extension-mul in_place) (replace-mul t)) (extension-mul instance_at) instance_same_at) g

  -- ---- and what an instantiation gives, behind units for the slots, is an instance of the generalised signature
  module _ (change : PowerMap → PowerMap) (is : IsInstantiation bases parameters change) (s : ℕ → PowerMap) where
    -- behind the slots stand the units of the parameters
    abbrev with_parameters : ℕ → PowerMap
    with_parameters k = cond (nat_lt k slots) (s k) (atom (Base (bases + (k - slots))))

    abbrev pub changed : ℕ → PowerMap
    changed k = change (with_parameters k)

    slots_alike : (k : ℕ) → k < slots → s k ≡ with_parameters k
    slots_alike k low = let test : nat_lt k slots ≡ true = grind (arith, nat_tests) in sym (ap (λ b. cond b (s k) (atom (Base (bases + (k - slots))))) test)

    parameter_behind : (m : ℕ) → is_parameter bases parameters slots m ≡ true → with_parameters (slots + (m - bases)) ≡ atom (Base m)
    parameter_behind m e =
        let test : nat_lt (slots + (m - bases)) slots ≡ false = grind (arith, nat_tests) in
        let back : bases + ((slots + (m - bases)) - slots) ≡ m = grind (arith, nat_tests) in
        ap (λ b. cond b (s (slots + (m - bases))) (atom (Base (bases + ((slots + (m - bases)) - slots))))) test ∙ ap (λ k. atom (Base k)) back

    changed_same_at : (x : Atom) → change (replace with_parameters (atom x)) ≡ replace changed (generalised_unit bases parameters slots (atom x))
    changed_same_at (Base m) =
        on_test (is_parameter bases parameters slots m)
        (λ e. ap change (replace-base with_parameters m) ∙ sym (put_at_parameter changed m e ∙ ap change (parameter_behind m e)))
        (λ e. ap change (replace-base with_parameters m) ∙ is.others m (other m e) ∙ sym (put_at_other changed m e))
    changed_same_at (Var k) = ap change (replace-variable with_parameters k) ∙ sym (put_at_variable changed k)

    pub instantiated_instance : (g : Signature) → SignatureBelow slots g → moved_signature change (put_signature s g) ≡ put_signature changed (generalised bases parameters slots g)
    instantiated_instance g low =
        ap (moved_signature change) (signature_put_alike_below slots s with_parameters slots_alike g low ∙ sym (signature-moved with_parameters g))
        ∙ signature_twice (replace with_parameters) change g
        ∙ signature_alike (λ u. change (replace with_parameters u)) (λ u. replace changed (generalised_unit bases parameters slots u))
        (alike_at_atoms (λ u. change (replace with_parameters u)) (λ u. replace changed (generalised_unit bases parameters slots u))
        (after-mul (replace with_parameters) change (replace-mul with_parameters) is.homomorphism)
        (after-mul (generalised_unit bases parameters slots) (replace changed) (extension-mul in_place) (replace-mul changed)) changed_same_at) g
        ∙ sym (signature_twice (generalised_unit bases parameters slots) (replace changed) g)
        ∙ signature-moved changed (generalised bases parameters slots g)

  -- ---- powers
  power_of-generalised : (u : PowerMap) (x : Atom) → power_of (generalised_unit bases parameters slots u) x ≡ weight (λ y. indicator x (generalised_atom bases parameters slots y)) u
  power_of-generalised u x =
      power_of-h (generalised_unit bases parameters slots) (extension-mul in_place) u x
      ∙ weigh_alike _ _ (λ y. ap (λ v. power_of v x) (extension-atom in_place y) ∙ weight-atom (indicator x) (generalised_atom bases parameters slots y)) u.terms

  weigh-generalised : (f : Atom → ℤ) (ts : List Term) → weigh f (map (generalised_term bases parameters slots) ts) ≡ weigh (λ x. f (generalised_atom bases parameters slots x)) ts
  weigh-generalised f [] = refl
  weigh-generalised f (t ∷ ts) = ap (λ n. t.power *ℤ f (generalised_atom bases parameters slots t.atom) +ℤ n) (weigh-generalised f ts)

  -- the product of the terms with their atoms in place
  pub product-generalised : (u : PowerMap) → product (map (generalised_term bases parameters slots) u.terms) ≡ generalised_unit bases parameters slots u
  product-generalised u =
      same_unit _ _ (λ x. weigh-product (indicator x) (map (generalised_term bases parameters slots) u.terms)
      ∙ weigh-generalised (indicator x) u.terms ∙ sym (power_of-generalised u x))

  -- ---- the atom whose power an atom gets, where variables are below the slots' count. The variable `slots` has none
  abbrev from_behind : ℕ → Atom
  from_behind j = cond (nat_lt (j - slots) parameters) (Base (bases + (j - slots))) (Var slots)

  abbrev source : Atom → Atom
  source (Base n) = cond (is_parameter bases parameters slots n) (Var slots) (Base n)
  source (Var j) = cond (nat_lt j slots) (Var j) (from_behind j)

  same_source_bases : (n m : ℕ) → same_atom (Base n) (generalised_atom bases parameters slots (Base m)) ≡ same_atom (source (Base n)) (Base m)
  same_source_bases n m =
      on_test (is_parameter bases parameters slots n)
      (λ e. on_test (is_parameter bases parameters slots m)
      (λ f. ap (λ b. same_atom (Base n) (cond b (Var (slots + (m - bases))) (Base m))) f ∙ sym (ap (λ b. same_atom (cond b (Var slots) (Base n)) (Base m)) e))
      (λ f.
      let apart : nat_eq n m ≡ false = grind (arith, nat_tests) in
      ap (λ b. same_atom (Base n) (cond b (Var (slots + (m - bases))) (Base m))) f ∙ apart ∙ sym (ap (λ b. same_atom (cond b (Var slots) (Base n)) (Base m)) e)))
      (λ e. on_test (is_parameter bases parameters slots m)
      (λ f.
      let apart : nat_eq n m ≡ false = grind (arith, nat_tests) in
      ap (λ b. same_atom (Base n) (cond b (Var (slots + (m - bases))) (Base m))) f ∙ sym (ap (λ b. same_atom (cond b (Var slots) (Base n)) (Base m)) e ∙ apart))
      (λ f. ap (λ b. same_atom (Base n) (cond b (Var (slots + (m - bases))) (Base m))) f ∙ sym (ap (λ b. same_atom (cond b (Var slots) (Base n)) (Base m)) e)))

  same_source_base : (n m : ℕ) → m < slots → same_atom (Base n) (Var m) ≡ same_atom (source (Base n)) (Var m)
  same_source_base n m low =
      let apart : nat_eq slots m ≡ false = grind (arith, nat_tests) in
      on_test (is_parameter bases parameters slots n)
      (λ e. sym (ap (λ b. same_atom (cond b (Var slots) (Base n)) (Var m)) e ∙ apart))
      (λ e. sym (ap (λ b. same_atom (cond b (Var slots) (Base n)) (Var m)) e))

  same_source_variables : (j m : ℕ) → m < slots → same_atom (Var j) (Var m) ≡ same_atom (source (Var j)) (Var m)
  same_source_variables j m low =
      on_test (nat_lt j slots)
      (λ e. sym (ap (λ b. same_atom (cond b (Var j) (from_behind j)) (Var m)) e))
      (λ e.
      let apart : nat_eq j m ≡ false = grind (arith, nat_tests) in
      let none : nat_eq slots m ≡ false = grind (arith, nat_tests) in
      apart ∙ sym (ap (λ b. same_atom (cond b (Var j) (from_behind j)) (Var m)) e ∙ on_test (nat_lt (j - slots) parameters)
      (λ f. ap (λ b. same_atom (cond b (Base (bases + (j - slots))) (Var slots)) (Var m)) f)
      (λ f. ap (λ b. same_atom (cond b (Base (bases + (j - slots))) (Var slots)) (Var m)) f ∙ none)))

  -- a variable and a base unit: they go together exactly where the variable is behind the slots and is the parameter's
  same_behind : (j m : ℕ) → nat_lt j slots ≡ false → same_atom (Var j) (generalised_atom bases parameters slots (Base m)) ≡ same_atom (from_behind j) (Base m)
  same_behind j m past =
      on_test (is_parameter bases parameters slots m)
      (λ e. ap (λ b. same_atom (Var j) (cond b (Var (slots + (m - bases))) (Base m))) e ∙ on_test (nat_lt (j - slots) parameters)
      (λ f. together e f ∙ sym (ap (λ b. same_atom (cond b (Base (bases + (j - slots))) (Var slots)) (Base m)) f))
      (λ f.
      let apart : nat_eq j (slots + (m - bases)) ≡ false = grind (arith, nat_tests) in
      apart ∙ sym (ap (λ b. same_atom (cond b (Base (bases + (j - slots))) (Var slots)) (Base m)) f)))
      (λ e. ap (λ b. same_atom (Var j) (cond b (Var (slots + (m - bases))) (Base m))) e ∙ on_test (nat_lt (j - slots) parameters)
      (λ f.
      let apart : nat_eq (bases + (j - slots)) m ≡ false = grind (arith, nat_tests) in
      sym (ap (λ b. same_atom (cond b (Base (bases + (j - slots))) (Var slots)) (Base m)) f ∙ apart))
      (λ f. sym (ap (λ b. same_atom (cond b (Base (bases + (j - slots))) (Var slots)) (Base m)) f)))
    where
      together : is_parameter bases parameters slots m ≡ true → nat_lt (j - slots) parameters ≡ true → nat_eq j (slots + (m - bases)) ≡ nat_eq (bases + (j - slots)) m
      together e f =
          on_test (nat_eq j (slots + (m - bases)))
          (λ g. let there : nat_eq (bases + (j - slots)) m ≡ true = grind (arith, nat_tests) in g ∙ sym there)
          (λ g. let apart : nat_eq (bases + (j - slots)) m ≡ false = grind (arith, nat_tests) in g ∙ sym apart)

  same_source_variable : (j m : ℕ) → same_atom (Var j) (generalised_atom bases parameters slots (Base m)) ≡ same_atom (source (Var j)) (Base m)
  same_source_variable j m =
      on_test (nat_lt j slots)
      (λ e. on_test (is_parameter bases parameters slots m)
      (λ f.
      let apart : nat_eq j (slots + (m - bases)) ≡ false = grind (arith, nat_tests) in
      ap (λ b. same_atom (Var j) (cond b (Var (slots + (m - bases))) (Base m))) f ∙ apart ∙ sym (ap (λ b. same_atom (cond b (Var j) (from_behind j)) (Base m)) e))
      (λ f. ap (λ b. same_atom (Var j) (cond b (Var (slots + (m - bases))) (Base m))) f ∙ sym (ap (λ b. same_atom (cond b (Var j) (from_behind j)) (Base m)) e)))
      (λ e. same_behind j m e ∙ sym (ap (λ b. same_atom (cond b (Var j) (from_behind j)) (Base m)) e))

  same_source : (x y : Atom) → ((k : ℕ) → y ≡ Var k → k < slots) → same_atom x (generalised_atom bases parameters slots y) ≡ same_atom (source x) y
  same_source (Base n) (Base m) low = same_source_bases n m
  same_source (Base n) (Var m) low = same_source_base n m (low m refl)
  same_source (Var j) (Base m) low = same_source_variable j m
  same_source (Var j) (Var m) low = same_source_variables j m (low m refl)

  module _ (u : PowerMap) (low : VariablesBelow slots u) where
    same_indicator : (x y : Atom) → power_of u y ≢ pos 0 → indicator x (generalised_atom bases parameters slots y) ≡ indicator (source x) y
    same_indicator x y held = ap (λ b. cond b (pos 1) (pos 0)) (same_source x y (λ k e. low k (subst (λ z. power_of u z ≢ pos 0) e held)))

    power_from : (x : Atom) → power_of (generalised_unit bases parameters slots u) x ≡ power_of u (source x)
    power_from x = power_of-generalised u x ∙ weight_held _ _ u (same_indicator x)

    -- so powers stay in range
    pub fits-generalised : IsTrue (fits u) → IsTrue (fits (generalised_unit bases parameters slots u))
    fits-generalised f = fits_from_powers (generalised_unit bases parameters slots u) (λ x. subst (λ z. nat_abs z ≤ 2147483647) (sym (power_from x)) (fits-power_of u f (source x)))

    -- and variables are those of the slots and of the parameters
    pub variables-generalised : VariablesBelow (slots + parameters) (generalised_unit bases parameters slots u)
    variables-generalised k held =
        on_test (nat_lt k (slots + parameters))
        (λ e. let below : k < slots + parameters = grind (arith, nat_tests) in below)
        (λ e.
        let past : nat_lt k slots ≡ false = grind (arith, nat_tests) in
        let behind : nat_lt (k - slots) parameters ≡ false = grind (arith, nat_tests) in
        let none : source (Var k) ≡ Var slots = ap (λ b. cond b (Var k) (from_behind k)) past ∙ ap (λ b. cond b (Base (bases + (k - slots))) (Var slots)) behind in
        let inside = low slots (λ z. held (power_from (Var k) ∙ ap (power_of u) none ∙ z)) in
        absurd (omega (arith, inside)))
