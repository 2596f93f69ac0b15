-- Lemmas, which `product` of `PowerMap` takes: a normal form is normal, so that each list of terms has a product. Those
-- on the way are on the order of atoms and on the parts of a list in normal form. No definition stands here.
use Rattle.std.proofs.Common.{◌≡◌, ◌⊎◌, true, false, not, ◌&&◌, List, [], ◌∷◌, ◌+ℤ◌, refl, ap, subst, inl, inr, arith}
use Rattle.std.specs.Prelude.{IsTrue}
use Rattle.std.proofs.lemmas.Bool.{cases_order, lt-ltb, ltb-true, eqb-true, eq-eqb}
use Rattle.std.proofs.lemmas.Bool.{and_parts, and_from, cond_both, not_from_false, false_from_ne_true}
use Rattle.um_units.specs.declared.Atom.{Atom}
use Rattle.um_units.specs.declared.Atom.TheVariants.{Base, Var}
use Rattle.um_units.specs.declared.Term.{Term}
use Rattle.um_units.specs.Atoms.{is_before, same_atom}
use Rattle.um_units.specs.Terms.{is_zero, is_before_all, is_normal, unless_zero, times_term, normal_form}

-- ---- the order of atoms
pub before_trans : (x y z : Atom) → IsTrue (is_before x y) → IsTrue (is_before y z) → IsTrue (is_before x z)
before_trans (Base a) (Base b) (Base c) h k = lt-ltb a c (omega (arith, ltb-true a b h, ltb-true b c k))
before_trans (Base a) (Base b) (Var c) h k = refl
before_trans (Base a) (Var b) (Base c) h k = cc
before_trans (Base a) (Var b) (Var c) h k = refl
before_trans (Var a) (Base b) z h k = cc
before_trans (Var a) (Var b) (Base c) h k = cc
before_trans (Var a) (Var b) (Var c) h k = lt-ltb a c (omega (arith, ltb-true a b h, ltb-true b c k))

pub atom_cases : (x y : Atom) → IsTrue (is_before x y) ⊎ ((x ≡ y) ⊎ IsTrue (is_before y x))
atom_cases (Base a) (Base b) =
    elim (cases_order a b) [
      | inl e ↦ inr (inl (ap Base e))
      | inr (inl h) ↦ inl (lt-ltb a b h)
      | inr (inr h) ↦ inr (inr (lt-ltb b a h))
    ]
atom_cases (Base a) (Var b) = inl refl
atom_cases (Var a) (Base b) = inr (inr refl)
atom_cases (Var a) (Var b) =
    elim (cases_order a b) [
      | inl e ↦ inr (inl (ap Var e))
      | inr (inl h) ↦ inl (lt-ltb a b h)
      | inr (inr h) ↦ inr (inr (lt-ltb b a h))
    ]

pub same_atom-eq : (x y : Atom) → IsTrue (same_atom x y) → x ≡ y
same_atom-eq (Base a) (Base b) h = ap Base (eqb-true a b h)
same_atom-eq (Base a) (Var b) h = cc
same_atom-eq (Var a) (Base b) h = cc
same_atom-eq (Var a) (Var b) h = ap Var (eqb-true a b h)

pub same_atom_refl : (x : Atom) → IsTrue (same_atom x x)
same_atom_refl (Base a) = eq-eqb a a refl
same_atom_refl (Var a) = eq-eqb a a refl

-- neither before nor the same: after
pub after_else : (x y : Atom) → is_before x y ≡ false → same_atom x y ≡ false → IsTrue (is_before y x)
after_else x y e f = elim (atom_cases x y) [
  | inl h ↦ cc
  | inr (inl g) ↦ let s : same_atom x y ≡ true = subst (λ z. same_atom x z ≡ true) g (same_atom_refl x) in cc
  | inr (inr h) ↦ h
]

-- ---- lists
pub before_all_trans : (x y : Atom) (ts : List Term) →
    IsTrue (is_before x y) → IsTrue (is_before_all y ts) → IsTrue (is_before_all x ts)
before_all_trans x y [] h k = refl
before_all_trans x y (t ∷ ts) h k =
    let parts = and_parts (is_before y t.atom) (is_before_all y ts) k in
    and_from _ _ (before_trans x y t.atom h parts.0) (before_all_trans x y ts h parts.1)

pub before_all-unless_zero : (x : Atom) (t : Term) (ts : List Term) →
    IsTrue (is_before x t.atom) → IsTrue (is_before_all x ts) → IsTrue (is_before_all x (unless_zero t ts))
before_all-unless_zero x t ts h k =
    cond_both (is_zero t.power) ts (t ∷ ts) (λ us. IsTrue (is_before_all x us)) (λ e. k) (λ e. and_from _ _ h k)

pub before_all-times_term : (x : Atom) (t : Term) (ts : List Term) →
    IsTrue (is_before x t.atom) → IsTrue (is_before_all x ts) → IsTrue (is_before_all x (times_term t ts))
before_all-times_term x t [] h k = before_all-unless_zero x t [] h k
before_all-times_term x t (s ∷ ts) h k =
    let parts = and_parts (is_before x s.atom) (is_before_all x ts) k in
    cond_both (is_before t.atom s.atom) _ _ (λ us. IsTrue (is_before_all x us))
    (λ e. before_all-unless_zero x t (s ∷ ts) h k)
    (λ e. cond_both (same_atom t.atom s.atom) _ _ (λ us. IsTrue (is_before_all x us))
    (λ g. before_all-unless_zero x (record { atom = s.atom; power = t.power +ℤ s.power }) ts parts.0 parts.1)
    (λ g. and_from _ _ parts.0 (before_all-times_term x t ts h parts.1)))

-- the parts of a list in normal form
pub head_nonzero : (t : Term) (ts : List Term) → IsTrue (is_normal (t ∷ ts)) → is_zero t.power ≡ false
head_nonzero t ts h =
    let p = (and_parts (not (is_zero t.power)) (is_before_all t.atom ts && is_normal ts) h).0 in
    false_from_ne_true (is_zero t.power) (λ e. let q : not (is_zero t.power) ≡ false = ap not e in cc)

pub head_before_all : (t : Term) (ts : List Term) → IsTrue (is_normal (t ∷ ts)) → IsTrue (is_before_all t.atom ts)
head_before_all t ts h =
    let parts = and_parts (not (is_zero t.power)) (is_before_all t.atom ts && is_normal ts) h in
    (and_parts (is_before_all t.atom ts) (is_normal ts) parts.1).0

pub tail_normal : (t : Term) (ts : List Term) → IsTrue (is_normal (t ∷ ts)) → IsTrue (is_normal ts)
tail_normal t ts h =
    let parts = and_parts (not (is_zero t.power)) (is_before_all t.atom ts && is_normal ts) h in
    (and_parts (is_before_all t.atom ts) (is_normal ts) parts.1).1

pub cons_normal : (t : Term) (ts : List Term) →
    is_zero t.power ≡ false → IsTrue (is_before_all t.atom ts) → IsTrue (is_normal ts) → IsTrue (is_normal (t ∷ ts))
cons_normal t ts z b n = and_from _ _ (not_from_false _ z) (and_from _ _ b n)

pub normal-unless_zero : (t : Term) (ts : List Term) →
    IsTrue (is_before_all t.atom ts) → IsTrue (is_normal ts) → IsTrue (is_normal (unless_zero t ts))
normal-unless_zero t ts h k =
    cond_both (is_zero t.power) ts (t ∷ ts) (λ us. IsTrue (is_normal us)) (λ e. k) (λ e. cons_normal t ts e h k)

pub normal-times_term : (t : Term) (ts : List Term) → IsTrue (is_normal ts) → IsTrue (is_normal (times_term t ts))
normal-times_term t [] k = normal-unless_zero t [] refl refl
normal-times_term t (s ∷ ts) k =
    let below = head_before_all s ts k in
    let rest = tail_normal s ts k in
    cond_both (is_before t.atom s.atom) _ _ (λ us. IsTrue (is_normal us))
    (λ e. normal-unless_zero t (s ∷ ts) (and_from _ _ e (before_all_trans t.atom s.atom ts e below)) k)
    (λ e. cond_both (same_atom t.atom s.atom) _ _ (λ us. IsTrue (is_normal us))
    (λ g. normal-unless_zero (record { atom = s.atom; power = t.power +ℤ s.power }) ts below rest)
    (λ g. cons_normal s (times_term t ts) (head_nonzero s ts k)
    (before_all-times_term s.atom t ts (after_else t.atom s.atom e g) below)
    (normal-times_term t ts rest)))

pub normal-normal_form : (ts : List Term) → IsTrue (is_normal (normal_form ts))
normal-normal_form [] = refl
normal-normal_form (t ∷ ts) = normal-times_term t (normal_form ts) (normal-normal_form ts)
