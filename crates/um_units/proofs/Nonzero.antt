-- Terms in order with powers that may be 0: their normal form leaves out those powers.
use Rattle.std.proofs.Common.{◌≡◌, true, false, cond, ℕ, ◌+◌, ◌<◌, length, take, get_or, List, [], ◌∷◌, ◌++◌, map, ℤ, refl, ap, ◌∙◌}
use Rattle.std.specs.Prelude.{IsTrue}
use Rattle.std.proofs.lemmas.Bool.{and_parts, and_from, cond-true}
use Rattle.std.proofs.lemmas.List.{take_more, map-append}
use Rattle.um_units.specs.declared.Atom.{Atom}
use Rattle.um_units.specs.declared.Term.{Term}
use Rattle.um_units.specs.Atoms.{is_before}
use Rattle.um_units.specs.Terms.{is_zero, is_before_all, is_normal, unless_zero, times_term, normal_form}
use Rattle.um_units.specs.NormalForm.{before_all-unless_zero, head_before_all, tail_normal}
use Rattle.um_units.specs.PowerMap.{scale}

-- the terms whose power isn't 0
abbrev pub nonzero : List Term → List Term
nonzero [] = []
nonzero (t ∷ ts) = unless_zero t (nonzero ts)

pub unless_zero-append : (t : Term) (ts us : List Term) → unless_zero t (ts ++ us) ≡ unless_zero t ts ++ us
unless_zero-append t ts us = elim (is_zero t.power) as (λ b. cond b (ts ++ us) (t ∷ ts ++ us) ≡ cond b ts (t ∷ ts) ++ us) [ true ↦ refl | false ↦ refl ]

nonzero-append : (ts us : List Term) → nonzero (ts ++ us) ≡ nonzero ts ++ nonzero us
nonzero-append [] us = refl
nonzero-append (t ∷ ts) us = ap (unless_zero t) (nonzero-append ts us) ∙ unless_zero-append t (nonzero ts) (nonzero us)

before_all-nonzero : (x : Atom) (ts : List Term) → IsTrue (is_before_all x ts) → IsTrue (is_before_all x (nonzero ts))
before_all-nonzero x [] h = refl
before_all-nonzero x (t ∷ ts) h = let p = and_parts (is_before x t.atom) (is_before_all x ts) h in before_all-unless_zero x t (nonzero ts) p.0 (before_all-nonzero x ts p.1)

pub before_all-scale : (k : ℤ) (x : Atom) (ts : List Term) → IsTrue (is_before_all x ts) → IsTrue (is_before_all x (map (scale k) ts))
before_all-scale k x [] h = refl
before_all-scale k x (t ∷ ts) h = let p = and_parts (is_before x t.atom) (is_before_all x ts) h in and_from _ _ p.0 (before_all-scale k x ts p.1)

pub times_term-before_all : (t : Term) (ts : List Term) → IsTrue (is_before_all t.atom ts) → times_term t ts ≡ unless_zero t ts
times_term-before_all t [] h = refl
times_term-before_all t (s ∷ ts) h = cond-true (is_before t.atom s.atom) _ _ (and_parts (is_before t.atom s.atom) (is_before_all t.atom ts) h).0

-- the k-th power of terms in normal form
pub normal_form-scale : (k : ℤ) (ts : List Term) → IsTrue (is_normal ts) → normal_form (map (scale k) ts) ≡ nonzero (map (scale k) ts)
normal_form-scale k [] h = refl
normal_form-scale k (t ∷ ts) h =
    ap (times_term (scale k t)) (normal_form-scale k ts (tail_normal t ts h))
    ∙ times_term-before_all (scale k t) (nonzero (map (scale k) ts)) (before_all-nonzero t.atom (map (scale k) ts) (before_all-scale k t.atom ts (head_before_all t ts h)))

-- one term more
pub nonzero-scale_more : (k : ℤ) (ts : List Term) (i : ℕ) (d : Term) → i < length ts → nonzero (map (scale k) (take (i + 1) ts)) ≡ nonzero (map (scale k) (take i ts)) ++ unless_zero (scale k (get_or ts i d)) []
nonzero-scale_more k ts i d h =
    ap (λ us. nonzero (map (scale k) us)) (take_more ts i d h)
    ∙ ap nonzero (map-append (scale k) (take i ts) (get_or ts i d ∷ [])) ∙ nonzero-append (map (scale k) (take i ts)) (scale k (get_or ts i d) ∷ [])
