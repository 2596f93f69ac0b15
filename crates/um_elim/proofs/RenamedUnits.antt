-- Units and types whose variables are renamed by their places in an order that holds them: each power is kept.
use Rattle.std.proofs.Common.{◌≡◌, ◌≢◌, inl, inr, ℕ, ◌≤◌, true, false, ◌||◌, cond, eqb, List, [], ◌∷◌, ◌++◌, get_or, map, nat_abs, ℤ, pos, ◌+ℤ◌, ◌*ℤ◌, refl, sym, ap, ◌∙◌, subst, arith}
use Rattle.std.specs.Prelude.{IsTrue}
use Rattle.std.specs.List.{flat_map}
use Rattle.std.proofs.lemmas.Bool.{cases_eq, eq-eqb, ne_eqb}
use Rattle.um_units.specs.declared.Atom.{Atom}
use Rattle.um_units.specs.declared.Atom.TheVariants.{Base, Var}
use Rattle.um_units.specs.declared.Term.{Term}
use Rattle.um_units.specs.Atoms.{same_atom}
use Rattle.um_units.specs.Terms.{weigh, indicator, power_in, is_zero, is_normal}
use Rattle.um_units.specs.NormalForm.{head_nonzero, head_before_all, tail_normal, same_atom-eq}
use Rattle.um_units.specs.PowerMap.{PowerMap, product, weight, power_of, image, replace}
use Rattle.um_units.specs.Range.{fits}
use Rattle.um_units.proofs.Equality.{same_product, power_in-head, power_in-tail, tail_only}
use Rattle.um_units.proofs.Group.{weight-atom}
use Rattle.um_units.proofs.Replacement.{power_of-replace, weigh-images, weight_held, replace-replace, replace_alike}
use Rattle.um_units.proofs.InRange.{fits-power_of, fits_from_powers}
use Rattle.um_tree.specs.TypeTree.{TypeTree, bool_type, num_type, list_type, record_type}
use Rattle.um_tree.specs.Typing.{put}
use Rattle.um_tree.specs.Scheme.{atom_variables, unit_variables, type_variables, variables}
use Rattle.um_elim.specs.Numbering.{place, by_place}
use Rattle.um_elim.specs.Order.{placed_atom, placed_term}
use Rattle.um_elim.proofs.Cases.{on_test}
use Rattle.um_elim.proofs.FirstOccurrences.{member, member-front, member-back, at-place, same_place}

-- ---- a unit holds the variables that stand in it
abbrev pub term_variables : List Term → List ℕ
term_variables ts = flat_map (λ t. atom_variables t.atom) ts

pub member-atom : (x : Atom) (k : ℕ) (ks : List ℕ) → member k (atom_variables x ++ ks) ≡ (same_atom (Var k) x || member k ks)
member-atom (Base n) k ks = refl
member-atom (Var m) k ks = refl

held-member_terms : (ts : List Term) (k : ℕ) → power_in ts (Var k) ≢ pos 0 → IsTrue (member k (term_variables ts))
held-member_terms [] k held = absurd (held refl)
held-member_terms (t ∷ ts) k held =
    member-atom t.atom k (term_variables ts)
    ∙ on_test (same_atom (Var k) t.atom)
    (λ e. ap (λ b. b || member k (term_variables ts)) e)
    (λ e. ap (λ b. b || member k (term_variables ts)) e ∙ held-member_terms ts k (λ z. held (power_in-tail t ts (Var k) e ∙ z)))

member-held_terms : (ts : List Term) (k : ℕ) → IsTrue (is_normal ts) → IsTrue (member k (term_variables ts)) → power_in ts (Var k) ≢ pos 0
member-held_terms [] k n h = cc
member-held_terms (t ∷ ts) k n h =
    on_test (same_atom (Var k) t.atom)
    (λ e z. let w : is_zero t.power ≡ true = ap is_zero (sym (power_in-head t ts (head_before_all t ts n)) ∙ ap (power_in (t ∷ ts)) (sym (same_atom-eq (Var k) t.atom e)) ∙ z) in
    let f : is_zero t.power ≡ false = head_nonzero t ts n in cc)
    (λ e z. member-held_terms ts k (tail_normal t ts n) (sym (ap (λ b. b || member k (term_variables ts)) e) ∙ sym (member-atom t.atom k (term_variables ts)) ∙ h) (sym (power_in-tail t ts (Var k) e) ∙ z))

pub held-member : (u : PowerMap) (k : ℕ) → power_of u (Var k) ≢ pos 0 → IsTrue (member k (unit_variables u))
held-member u k held = held-member_terms u.terms k held

pub member-held : (u : PowerMap) (k : ℕ) → IsTrue (member k (unit_variables u)) → power_of u (Var k) ≢ pos 0
member-held u k h = member-held_terms u.terms k u.normal h

-- ---- the product of the renamed terms
weigh-placed : (f : Atom → ℤ) (o : List ℕ) (ts : List Term) → weigh f (map (placed_term o) ts) ≡ weigh (λ x. weight f (image (by_place o) x)) ts
weigh-placed f o [] = refl
weigh-placed f o (t ∷ ts) = ap (λ n. t.power *ℤ f (placed_atom o t.atom) +ℤ n) (weigh-placed f o ts) ∙ ap (λ n. t.power *ℤ n +ℤ weigh (λ x. weight f (image (by_place o) x)) ts) (at t.atom)
  where
    at : (x : Atom) → f (placed_atom o x) ≡ weight f (image (by_place o) x)
    at (Base n) = sym (weight-atom f (Base n))
    at (Var k) = sym (weight-atom f (Var (place o k)))

pub product-placed : (o : List ℕ) (u : PowerMap) → product (map (placed_term o) u.terms) ≡ replace (by_place o) u
product-placed o u = same_product _ _ (λ x. weigh-placed (indicator x) o u.terms ∙ sym (weigh-images (indicator x) (by_place o) u.terms))

-- ---- powers
weigh-zero : (ts : List Term) → weigh (λ _. pos 0) ts ≡ pos 0
weigh-zero [] = refl
weigh-zero (t ∷ ts) = ap (λ z. t.power *ℤ pos 0 +ℤ z) (weigh-zero ts) ∙ tail_only t.power (pos 0)

module _ (o : List ℕ) (u : PowerMap) (inside : (k : ℕ) → IsTrue (member k (unit_variables u)) → IsTrue (member k o)) where
  abbrev renamed : PowerMap
  renamed = replace (by_place o) u

  pub power_of-renamed_base : (n : ℕ) → power_of (replace (by_place o) u) (Base n) ≡ power_of u (Base n)
  power_of-renamed_base n = power_of-replace (by_place o) u (Base n) ∙ weight_held _ (indicator (Base n)) u at
    where
      at : (x : Atom) → power_of u x ≢ pos 0 → power_of (image (by_place o) x) (Base n) ≡ indicator (Base n) x
      at (Base m) held = weight-atom (indicator (Base n)) (Base m)
      at (Var m) held = weight-atom (indicator (Base n)) (Var (place o m))

  -- a variable's power goes to its place
  pub power_of-renamed : (k : ℕ) → IsTrue (member k o) → power_of (replace (by_place o) u) (Var (place o k)) ≡ power_of u (Var k)
  power_of-renamed k h = power_of-replace (by_place o) u (Var (place o k)) ∙ weight_held _ (indicator (Var k)) u at
    where
      same : (m : ℕ) → IsTrue (member m o) → eqb (place o k) (place o m) ≡ eqb k m
      same m g = elim (cases_eq k m) [
        | inl e ↦ eq-eqb (place o k) (place o m) (ap (place o) e) ∙ sym (eq-eqb k m e)
        | inr ne ↦ ne_eqb (place o k) (place o m) (λ e. ne (same_place o k m h g e)) ∙ sym (ne_eqb k m ne)
      ]

      at : (x : Atom) → power_of u x ≢ pos 0 → power_of (image (by_place o) x) (Var (place o k)) ≡ indicator (Var k) x
      at (Base m) held = weight-atom (indicator (Var (place o k))) (Base m)
      at (Var m) held = weight-atom (indicator (Var (place o k))) (Var (place o m)) ∙ ap (λ b. cond b (pos 1) (pos 0)) (same m (inside m (held-member u m held)))

  -- no other number has a power
  pub power_of-renamed_other : (j : ℕ) → ((m : ℕ) → IsTrue (member m o) → place o m ≢ j) → power_of (replace (by_place o) u) (Var j) ≡ pos 0
  power_of-renamed_other j none = power_of-replace (by_place o) u (Var j) ∙ weight_held _ (λ _. pos 0) u at ∙ weigh-zero u.terms
    where
      at : (x : Atom) → power_of u x ≢ pos 0 → power_of (image (by_place o) x) (Var j) ≡ pos 0
      at (Base m) held = weight-atom (indicator (Var j)) (Base m)
      at (Var m) held = weight-atom (indicator (Var j)) (Var (place o m)) ∙ ap (λ b. cond b (pos 1) (pos 0)) (ne_eqb j (place o m) (λ e. none m (inside m (held-member u m held)) (sym e)))

  -- so powers stay in range
  pub fits-renamed : IsTrue (fits u) → IsTrue (fits (replace (by_place o) u))
  fits-renamed f = fits_from_powers (replace (by_place o) u) low
    where
      low_zero : (j : ℕ) → ((m : ℕ) → IsTrue (member m o) → place o m ≢ j) → nat_abs (power_of (replace (by_place o) u) (Var j)) ≤ 2147483647
      low_zero j none = let z = ap nat_abs (power_of-renamed_other j none) in omega (arith, z)

      low : (x : Atom) → nat_abs (power_of (replace (by_place o) u) x) ≤ 2147483647
      low (Base n) = subst (λ z. nat_abs z ≤ 2147483647) (sym (power_of-renamed_base n)) (fits-power_of u f (Base n))
      low (Var j) =
          let k = get_or o j 0 in
          on_test (member k o)
          (λ h. elim (cases_eq (place o k) j) [
            | inl e ↦
                let same : power_of (replace (by_place o) u) (Var j) ≡ power_of u (Var k) = ap (λ i. power_of (replace (by_place o) u) (Var i)) (sym e) ∙ power_of-renamed k h in
                subst (λ z. nat_abs z ≤ 2147483647) (sym same) (fits-power_of u f (Var k))
            | inr ne ↦ low_zero j (λ m g e. ne (ap (place o) (sym (ap (λ i. get_or o i 0) e) ∙ at-place o m g) ∙ e))
          ])
          (λ h. low_zero j (λ m g e. let t : member k o ≡ true = ap (λ i. member i o) (sym (ap (λ i. get_or o i 0) e) ∙ at-place o m g) ∙ g in cc))

-- ---- types
map_put : (s t : ℕ → PowerMap) (us : List PowerMap) → map (replace t) (map (replace s) us) ≡ map (replace (λ k. replace t (s k))) us
map_put s t [] = refl
map_put s t (u ∷ us) = λ i. replace-replace s t u i ∷ map_put s t us i

pub put-put : (s t : ℕ → PowerMap) (x : TypeTree) → put t (put s x) ≡ put (λ k. replace t (s k)) x
put-put s t bool_type = refl
put-put s t (num_type u) = ap num_type (replace-replace s t u)
put-put s t (list_type x) = ap list_type (put-put s t x)
put-put s t (record_type r us) = ap (record_type r) (map_put s t us)

pub unit_alike : (s t : ℕ → PowerMap) (u : PowerMap) → ((k : ℕ) → IsTrue (member k (unit_variables u)) → s k ≡ t k) → replace s u ≡ replace t u
unit_alike s t u same = replace_alike s t u (λ k held. same k (held-member u k held))

units_alike : (s t : ℕ → PowerMap) (us : List PowerMap) → ((k : ℕ) → IsTrue (member k (flat_map unit_variables us)) → s k ≡ t k) → map (replace s) us ≡ map (replace t) us
units_alike s t [] same = refl
units_alike s t (u ∷ us) same =
    let head = unit_alike s t u (λ k h. same k (member-front k (unit_variables u) (flat_map unit_variables us) h)) in
    let tail = units_alike s t us (λ k h. same k (member-back k (unit_variables u) (flat_map unit_variables us) h)) in λ i. head i ∷ tail i

pub put_alike : (s t : ℕ → PowerMap) (x : TypeTree) → ((k : ℕ) → IsTrue (member k (type_variables x)) → s k ≡ t k) → put s x ≡ put t x
put_alike s t bool_type same = refl
put_alike s t (num_type u) same = ap num_type (unit_alike s t u same)
put_alike s t (list_type x) same = ap list_type (put_alike s t x same)
put_alike s t (record_type r us) same = ap (record_type r) (units_alike s t us same)

pub puts_alike : (s t : ℕ → PowerMap) (xs : List TypeTree) → ((k : ℕ) → IsTrue (member k (variables xs)) → s k ≡ t k) → map (put s) xs ≡ map (put t) xs
puts_alike s t [] same = refl
puts_alike s t (x ∷ xs) same =
    let head = put_alike s t x (λ k h. same k (member-front k (type_variables x) (variables xs) h)) in
    let tail = puts_alike s t xs (λ k h. same k (member-back k (type_variables x) (variables xs) h)) in λ i. head i ∷ tail i

pub puts-put : (s t : ℕ → PowerMap) (xs : List TypeTree) → map (put t) (map (put s) xs) ≡ map (put (λ k. replace t (s k))) xs
puts-put s t [] = refl
puts-put s t (x ∷ xs) = λ i. put-put s t x i ∷ puts-put s t xs i
