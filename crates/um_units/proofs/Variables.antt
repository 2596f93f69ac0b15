-- The variables of the results.
use Rattle.std.proofs.Common.{◌≡◌, ◌≢◌, inl, inr, ℕ, ◌<◌, ◌≤◌, ◌+◌, true, false, List, [], ◌∷◌, length, ℤ, pos, negsuc, ◌+ℤ◌, ◌*ℤ◌, refl, sym, ap, ◌∙◌, arith}
use Rattle.std.specs.Prelude.{IsTrue, All}
use Rattle.std.proofs.lemmas.Bool.{cases_eq, cases_lt, ne_eqb, lt-ltb, ltb-true, and_from, and_parts}
use Rattle.std.proofs.lemmas.List.Elements.{All-get_or}
use Rattle.std.proofs.Math.IntN.{*ℤ-zero}
use Rattle.um_units.specs.declared.Atom.{Atom}
use Rattle.um_units.specs.declared.Atom.TheVariants.{Base, Var}
use Rattle.um_units.specs.Atoms.{same_atom}
use Rattle.um_units.specs.declared.Term.{Term}
use Rattle.um_units.specs.Terms.{weigh, indicator, power_in, is_zero, is_normal}
use Rattle.um_units.specs.NormalForm.{same_atom-eq, head_nonzero, head_before_all, tail_normal}
use Rattle.um_units.proofs.Integers.{zero_cases}
use Rattle.um_units.proofs.Equality.{tail_only, power_in-before_all, power_in-head, power_in-tail}
use Rattle.um_units.specs.PowerMap.{PowerMap, power_of, one, atom, mul, pow, inv, image, replace, nth}
use Rattle.um_units.specs.Variables.{IsClosed, VariablesBelow, atom_below, variables_below}
use Rattle.um_units.proofs.Group.{weight-one, weight-mul, weight-pow, power_of-other_atom}
use Rattle.um_units.proofs.Replacement.{weight-replace, weight_held}

-- ---- closed units
pub IsClosed-one : IsClosed one
IsClosed-one k = weight-one (indicator (Var k))

pub IsClosed-base : (n : ℕ) → IsClosed (atom (Base n))
IsClosed-base n k = power_of-other_atom (Var k) (Base n) refl

pub IsClosed-mul : (u v : PowerMap) → IsClosed u → IsClosed v → IsClosed (mul u v)
IsClosed-mul u v h j k = weight-mul (indicator (Var k)) u v ∙ ap (λ n. n +ℤ power_of v (Var k)) (h k) ∙ ap (λ n. pos 0 +ℤ n) (j k)

pub IsClosed-pow : (u : PowerMap) (n : ℤ) → IsClosed u → IsClosed (pow u n)
IsClosed-pow u n h k = weight-pow (indicator (Var k)) u n ∙ ap (λ z. n *ℤ z) (h k) ∙ *ℤ-zero n

pub IsClosed-inv : (u : PowerMap) → IsClosed u → IsClosed (inv u)
IsClosed-inv u h = IsClosed-pow u (negsuc 0) h

-- ---- variables below a number
pub VariablesBelow-closed : (n : ℕ) (u : PowerMap) → IsClosed u → VariablesBelow n u
VariablesBelow-closed n u closed k h = absurd (h (closed k))

pub IsClosed-below_zero : (u : PowerMap) → VariablesBelow 0 u → IsClosed u
IsClosed-below_zero u h k = elim (zero_cases (power_of u (Var k))) [ inl e ↦ e | inr ne ↦ absurd (let i = h k ne in omega (arith, i)) ]

pub VariablesBelow-more : (m n : ℕ) (u : PowerMap) → m ≤ n → VariablesBelow m u → VariablesBelow n u
VariablesBelow-more m n u l below k h = let i = below k h in omega (arith, i, l)

pub VariablesBelow-variable : (k : ℕ) → VariablesBelow (k + 1) (atom (Var k))
VariablesBelow-variable k j h =
    elim (cases_eq j k) [ inl e ↦ omega (arith, e) | inr ne ↦ absurd (h (power_of-other_atom (Var j) (Var k) (ne_eqb j k ne))) ]

pub VariablesBelow-mul : (n : ℕ) (u v : PowerMap) → VariablesBelow n u → VariablesBelow n v → VariablesBelow n (mul u v)
VariablesBelow-mul n u v h j k ne =
    elim (zero_cases (power_of u (Var k))) [
      | inl e ↦ j k (λ f. ne (weight-mul (indicator (Var k)) u v ∙ ap (λ z. z +ℤ power_of v (Var k)) e ∙ ap (λ z. pos 0 +ℤ z) f))
      | inr held ↦ h k held
    ]

pub VariablesBelow-pow : (n : ℕ) (u : PowerMap) (i : ℤ) → VariablesBelow n u → VariablesBelow n (pow u i)
VariablesBelow-pow n u i h k ne = h k (λ e. ne (weight-pow (indicator (Var k)) u i ∙ ap (λ z. i *ℤ z) e ∙ *ℤ-zero i))

pub VariablesBelow-inv : (n : ℕ) (u : PowerMap) → VariablesBelow n u → VariablesBelow n (inv u)
VariablesBelow-inv n u h = VariablesBelow-pow n u (negsuc 0) h

-- each variable that is put in is below n
pub VariablesBelow-replace : (n : ℕ) (s : ℕ → PowerMap) (u : PowerMap) → ((j : ℕ) → power_of u (Var j) ≢ pos 0 → VariablesBelow n (s j)) → VariablesBelow n (replace s u)
VariablesBelow-replace n s u below k ne =
    elim (cases_lt k n) [
      | inl h ↦ h
      | inr l ↦ absurd (ne (weight-replace (indicator (Var k)) s u ∙ weight_held _ (λ _. pos 0) u (at k l) ∙ weigh-zero u.terms))
    ]
  where
    weigh-zero : (ts : List Term) → weigh (λ _. pos 0) ts ≡ pos 0
    weigh-zero [] = refl
    weigh-zero (t ∷ ts) = ap (λ z. t.power *ℤ pos 0 +ℤ z) (weigh-zero ts) ∙ tail_only t.power (pos 0)

    at : (k : ℕ) → n ≤ k → (x : Atom) → power_of u x ≢ pos 0 → power_of (image s x) (Var k) ≡ pos 0
    at k l (Base m) held = IsClosed-base m k
    at k l (Var j) held = elim (zero_cases (power_of (s j) (Var k))) [ inl e ↦ e | inr h ↦ absurd (let i = below j held k h in omega (arith, i, l)) ]

pub VariablesBelow-replace_nth : (n : ℕ) (us : List PowerMap) (u : PowerMap) → All (VariablesBelow n) us → VariablesBelow (length us) u → VariablesBelow n (replace (nth us) u)
VariablesBelow-replace_nth n us u all below = VariablesBelow-replace n (nth us) u (λ j held. All-get_or (VariablesBelow n) us j (atom (Var j)) (below j held) all)

pub IsClosed-replace : (s : ℕ → PowerMap) (u : PowerMap) → ((j : ℕ) → power_of u (Var j) ≢ pos 0 → IsClosed (s j)) → IsClosed (replace s u)
IsClosed-replace s u closed = IsClosed-below_zero (replace s u) (VariablesBelow-replace 0 s u (λ j h. VariablesBelow-closed 0 (s j) (closed j h)))

-- ---- the variables of the terms
terms_below : (n : ℕ) (ts : List Term) → IsTrue (is_normal ts) → ((k : ℕ) → power_in ts (Var k) ≢ pos 0 → k < n) → IsTrue (variables_below n ts)
terms_below n [] h below = refl
terms_below n (t ∷ ts) h below = and_from _ _ (at t.atom refl) (terms_below n ts (tail_normal t ts h) (λ k ne. below k (λ e. ne (tail_zero k e))))
  where
    held : (x : Atom) → t.atom ≡ x → power_in (t ∷ ts) x ≡ pos 0 → ⊥
    held x q e = let z : is_zero t.power ≡ true = ap is_zero (sym (power_in-head t ts (head_before_all t ts h)) ∙ ap (power_in (t ∷ ts)) q ∙ e) in let f = head_nonzero t ts h in cc

    at : (x : Atom) → t.atom ≡ x → IsTrue (atom_below n x)
    at (Base m) q = refl
    at (Var k) q = lt-ltb k n (below k (held (Var k) q))

    tail_zero : (k : ℕ) → power_in (t ∷ ts) (Var k) ≡ pos 0 → power_in ts (Var k) ≡ pos 0
    tail_zero k e =
        elim (same_atom (Var k) t.atom) as (λ b. same_atom (Var k) t.atom ≡ b → power_in ts (Var k) ≡ pos 0) [
          | true ↦ λ s. ap (power_in ts) (same_atom-eq (Var k) t.atom s) ∙ power_in-before_all t.atom ts (head_before_all t ts h)
          | false ↦ λ s. sym (power_in-tail t ts (Var k) s) ∙ e
        ] refl

pub variables_below-from_VariablesBelow : (n : ℕ) (u : PowerMap) → VariablesBelow n u → IsTrue (variables_below n u.terms)
variables_below-from_VariablesBelow n u below = terms_below n u.terms u.normal below

below_from_terms : (n : ℕ) (ts : List Term) → IsTrue (variables_below n ts) → (k : ℕ) → power_in ts (Var k) ≢ pos 0 → k < n
below_from_terms n [] h k ne = absurd (ne refl)
below_from_terms n (t ∷ ts) h k ne =
    let parts = and_parts (atom_below n t.atom) (variables_below n ts) h in
    elim (same_atom (Var k) t.atom) as (λ b. same_atom (Var k) t.atom ≡ b → k < n) [
      | true ↦ λ s. ltb-true k n (ap (atom_below n) (same_atom-eq (Var k) t.atom s) ∙ parts.0)
      | false ↦ λ s. below_from_terms n ts parts.1 k (λ e. ne (power_in-tail t ts (Var k) s ∙ e))
    ] refl

pub VariablesBelow-from_terms : (n : ℕ) (u : PowerMap) → IsTrue (variables_below n u.terms) → VariablesBelow n u
VariablesBelow-from_terms n u h = below_from_terms n u.terms h
