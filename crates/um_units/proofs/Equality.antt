-- Two units are equal exactly where all their powers are.
use Rattle.std.proofs.Common.{◌≡◌, true, false, cond, Some, None, List, [], ◌∷◌, ℤ, pos, ◌+ℤ◌, ◌*ℤ◌, refl, sym, ap, ◌∙◌, subst, inl, inr, arith}
use Rattle.std.specs.Prelude.{IsTrue}
use Rattle.std.specs.List.{find}
use Rattle.std.proofs.lemmas.Int.{ints}
use Rattle.std.proofs.lemmas.Bool.{and_parts, and_from, cond-true, cond-false, ltb-true, false_from_ne_true}
use Rattle.um_units.specs.declared.Atom.{Atom}
use Rattle.um_units.specs.declared.Atom.TheVariants.{Base, Var}
use Rattle.um_units.specs.declared.Term.{Term}
use Rattle.um_units.specs.Atoms.{is_before, same_atom}
use Rattle.um_units.specs.Terms.{indicator, power_in, is_zero, is_before_all, is_normal, times_term, normal_form}
use Rattle.um_units.specs.NormalForm.{atom_cases, same_atom-eq, same_atom_refl, before_all_trans, head_nonzero, head_before_all, tail_normal}
use Rattle.um_units.specs.PowerMap.{PowerMap, product, power_of}
use Rattle.um_units.specs.PowerMapCode.{same_from_terms}
use Rattle.um_units.proofs.Weights.{weigh-product}

-- ---- atoms
before_irrefl : (x : Atom) → IsTrue (is_before x x) → ⊥
before_irrefl (Base n) h = omega (arith, ltb-true n n h)
before_irrefl (Var n) h = omega (arith, ltb-true n n h)

-- atoms in order are two
pub before-not_same : (x y : Atom) → IsTrue (is_before x y) → same_atom x y ≡ false
before-not_same x y h = false_from_ne_true (same_atom x y) (λ e. before_irrefl x (subst (λ z. IsTrue (is_before x z)) (sym (same_atom-eq x y e)) h))

pub after-not_same : (x y : Atom) → IsTrue (is_before x y) → same_atom y x ≡ false
after-not_same x y h = false_from_ne_true (same_atom y x) (λ e. before_irrefl x (subst (λ z. IsTrue (is_before x z)) (same_atom-eq y x e) h))

pub indicator-same : (x : Atom) → indicator x x ≡ pos 1
indicator-same x = cond-true (same_atom x x) (pos 1) (pos 0) (same_atom_refl x)

pub indicator-other : (x y : Atom) → same_atom x y ≡ false → indicator x y ≡ pos 0
indicator-other x y e = cond-false (same_atom x y) (pos 1) (pos 0) e

-- ---- the powers of a list in normal form
pub head_only : (a b : ℤ) → b ≡ pos 0 → a *ℤ pos 1 +ℤ b ≡ a
head_only a b e = omega (arith, ints)

pub tail_only : (a b : ℤ) → a *ℤ pos 0 +ℤ b ≡ b
tail_only a b = omega (arith, ints)

-- no power below the list
pub power_in-before_all : (x : Atom) (ts : List Term) → IsTrue (is_before_all x ts) → power_in ts x ≡ pos 0
power_in-before_all x [] h = refl
power_in-before_all x (t ∷ ts) h =
    let parts = and_parts (is_before x t.atom) (is_before_all x ts) h in
    ap (λ n. t.power *ℤ n +ℤ power_in ts x) (indicator-other x t.atom (before-not_same x t.atom parts.0)) ∙ tail_only t.power (power_in ts x) ∙ power_in-before_all x ts parts.1

pub power_in-head : (t : Term) (ts : List Term) → IsTrue (is_before_all t.atom ts) → power_in (t ∷ ts) t.atom ≡ t.power
power_in-head t ts h = ap (λ n. t.power *ℤ n +ℤ power_in ts t.atom) (indicator-same t.atom) ∙ head_only t.power (power_in ts t.atom) (power_in-before_all t.atom ts h)

pub power_in-tail : (t : Term) (ts : List Term) (x : Atom) → same_atom x t.atom ≡ false → power_in (t ∷ ts) x ≡ power_in ts x
power_in-tail t ts x e = ap (λ n. t.power *ℤ n +ℤ power_in ts x) (indicator-other x t.atom e) ∙ tail_only t.power (power_in ts x)

-- the power of an atom is that of its term
pub power_in-found : (x : Atom) (ts : List Term) → IsTrue (is_normal ts) → (t : Term) → find (λ s. same_atom x s.atom) ts ≡ Some t → power_in ts x ≡ t.power
power_in-found x [] n t e = cc
power_in-found x (s ∷ ts) n t e =
    elim (same_atom x s.atom) as (λ b. same_atom x s.atom ≡ b → cond b (Some s) (find (λ s. same_atom x s.atom) ts) ≡ Some t → power_in (s ∷ ts) x ≡ t.power) [
      | true ↦ λ h f. ap (power_in (s ∷ ts)) (same_atom-eq x s.atom h) ∙ power_in-head s ts (head_before_all s ts n) ∙ (let g : s ≡ t = cc f in ap (λ (r : Term). r.power) g)
      | false ↦ λ h f. power_in-tail s ts x h ∙ power_in-found x ts (tail_normal s ts n) t f
    ] refl e

pub power_in-none : (x : Atom) (ts : List Term) → find (λ s. same_atom x s.atom) ts ≡ None → power_in ts x ≡ pos 0
power_in-none x [] e = refl
power_in-none x (s ∷ ts) e =
    elim (same_atom x s.atom) as (λ b. same_atom x s.atom ≡ b → cond b (Some s) (find (λ s. same_atom x s.atom) ts) ≡ None → power_in (s ∷ ts) x ≡ pos 0) [
      | true ↦ λ h f. cc
      | false ↦ λ h f. power_in-tail s ts x h ∙ power_in-none x ts f
    ] refl e

-- ---- equal powers, equal lists
apart : (t : Term) (ts us : List Term) → IsTrue (is_normal (t ∷ ts)) → IsTrue (is_before_all t.atom us) → ((x : Atom) → power_in (t ∷ ts) x ≡ power_in us x) → ⊥
apart t ts us h k same =
    let z : t.power ≡ pos 0 = sym (power_in-head t ts (head_before_all t ts h)) ∙ same t.atom ∙ power_in-before_all t.atom us k in
    let e : is_zero t.power ≡ true = ap is_zero z in
    let f : is_zero t.power ≡ false = head_nonzero t ts h in cc

pub same_terms : (ts us : List Term) → IsTrue (is_normal ts) → IsTrue (is_normal us) → ((x : Atom) → power_in ts x ≡ power_in us x) → ts ≡ us
same_terms [] [] h k same = refl
same_terms [] (u ∷ us) h k same = absurd (apart u us [] k refl (λ x. sym (same x)))
same_terms (t ∷ ts) [] h k same = absurd (apart t ts [] h refl same)
same_terms (t ∷ ts) (u ∷ us) h k same =
    elim (atom_cases t.atom u.atom) [
      | inl b ↦ absurd (apart t ts (u ∷ us) h (and_from _ _ b (before_all_trans t.atom u.atom us b (head_before_all u us k))) same)
      | inr (inl e) ↦
          let p : t.power ≡ u.power = sym (power_in-head t ts (head_before_all t ts h)) ∙ same t.atom ∙ ap (power_in (u ∷ us)) e ∙ power_in-head u us (head_before_all u us k) in
          let whole : t ≡ u = λ i. record { atom = e i; power = p i } in
          let tails : ts ≡ us = same_terms ts us (tail_normal t ts h) (tail_normal u us k)
          (λ x. let s = same x in let w : t.power *ℤ indicator x t.atom ≡ u.power *ℤ indicator x u.atom = ap (λ (v : Term). v.power *ℤ indicator x v.atom) whole in omega (arith, ints, s, w)) in
          (λ i. whole i ∷ tails i)
      | inr (inr b) ↦ absurd (apart u us (t ∷ ts) k (and_from _ _ b (before_all_trans u.atom t.atom ts b (head_before_all t ts h))) (λ x. sym (same x)))
    ]

-- two units with equal powers are equal
pub same_unit : (u v : PowerMap) → ((x : Atom) → power_of u x ≡ power_of v x) → u ≡ v
same_unit u v same = same_from_terms u v (same_terms u.terms v.terms u.normal v.normal same)

-- ---- a list in normal form is its own normal form
times_term-first : (t : Term) (ts : List Term) → is_zero t.power ≡ false → IsTrue (is_before_all t.atom ts) → times_term t ts ≡ t ∷ ts
times_term-first t [] n h = cond-false (is_zero t.power) [] (t ∷ []) n
times_term-first t (s ∷ ts) n h =
    cond-true (is_before t.atom s.atom) _ _ (and_parts (is_before t.atom s.atom) (is_before_all t.atom ts) h).0 ∙ cond-false (is_zero t.power) (s ∷ ts) (t ∷ s ∷ ts) n

pub normal_form-normal : (ts : List Term) → IsTrue (is_normal ts) → normal_form ts ≡ ts
normal_form-normal [] h = refl
normal_form-normal (t ∷ ts) h = ap (times_term t) (normal_form-normal ts (tail_normal t ts h)) ∙ times_term-first t ts (head_nonzero t ts h) (head_before_all t ts h)

pub product-terms : (ts : List Term) → (product ts).terms ≡ normal_form ts
unfolding product
product-terms ts = refl

pub product-normal : (ts : List Term) → IsTrue (is_normal ts) → (product ts).terms ≡ ts
product-normal ts h = product-terms ts ∙ normal_form-normal ts h

-- the terms of a unit make it
pub product-of_terms : (u : PowerMap) → product u.terms ≡ u
product-of_terms u = same_from_terms (product u.terms) u (product-normal u.terms u.normal)

-- two lists with equal powers have one product
pub same_product : (ts us : List Term) → ((x : Atom) → power_in ts x ≡ power_in us x) → product ts ≡ product us
same_product ts us same = same_unit _ _ (λ x. weigh-product (indicator x) ts ∙ same x ∙ sym (weigh-product (indicator x) us))
