-- Terms as the code has them, and the units that they make.
use Rattle.std.proofs.Common.{◌≡◌, ℕ, zero, suc, ◌+◌, ◌<◌, true, false, cond, Some, List, [], ◌∷◌, ◌++◌, map, take, drop, length, get_or, ℤ, pos, ◌+ℤ◌, ◌*ℤ◌, refl, sym, ap, ◌∙◌, subst, arith}
use Rattle.std.specs.Prelude.{IsTrue, option_map}
use Rattle.std.specs.List.{find}
use Rattle.std.proofs.lemmas.Bool.{and_parts, and_from}
use Rattle.std.proofs.lemmas.Int.{ints}
use Rattle.std.proofs.lemmas.List.{take-append-drop}
use Rattle.std.proofs.lemmas.List.Concat.{flat_map-append}
use Rattle.um_units.specs.declared.Atom.{Atom}
use Rattle.um_units.specs.declared.Term.{Term}
use Rattle.um_units.specs.Atoms.{is_before, same_atom}
use Rattle.um_units.specs.Terms.{indicator, power_in, is_before_all, is_normal, unless_zero}
use Rattle.um_units.specs.NormalForm.{head_nonzero, head_before_all, tail_normal, cons_normal, before_all_trans, normal-unless_zero}
use Rattle.um_units.specs.PowerMap.{PowerMap, product, one, atom, mul, scale, pow, image, images}
use Rattle.um_units.proofs.Weights.{weigh-product, weigh-++, weigh-unless_zero}
use Rattle.um_units.proofs.Equality.{same_unit, product-normal, product-of_terms}
use Rattle.um_units.proofs.Group.{power_of-mul, power_of-pow, weight-atom}
use Rattle.um_units.specs.declared.wide.WideTerm.{WideTerm}
use Rattle.um_units.specs.Wide.{as_term, as_terms}

-- ---- a unit and its terms
pub normal_terms : (ws : List WideTerm) (u : PowerMap) → as_terms ws ≡ u.terms → IsTrue (is_normal (as_terms ws))
normal_terms ws u e = subst (λ ts. IsTrue (is_normal ts)) (sym e) u.normal

pub product_terms : (ws : List WideTerm) (u : PowerMap) → as_terms ws ≡ u.terms → product (as_terms ws) ≡ u
product_terms ws u e = ap product e ∙ product-of_terms u

pub terms_of : (ws : List WideTerm) (u : PowerMap) → IsTrue (is_normal (as_terms ws)) → product (as_terms ws) ≡ u → as_terms ws ≡ u.terms
terms_of ws u n e = sym (product-normal (as_terms ws) n) ∙ ap (λ (v : PowerMap). v.terms) e

pub as_terms_inj : (ws vs : List WideTerm) → as_terms ws ≡ as_terms vs → ws ≡ vs
as_terms_inj [] [] e = refl
as_terms_inj [] (v ∷ vs) e = cc
as_terms_inj (w ∷ ws) [] e = cc
as_terms_inj (w ∷ ws) (v ∷ vs) e =
    let f : as_term w ≡ as_term v = cc e in
    let g : as_terms ws ≡ as_terms vs = cc e in
    let tails = as_terms_inj ws vs g in
    λ i. record { atom = (f i).atom; power = (f i).power } ∷ tails i

pub find_terms : (x : Atom) (ws : List WideTerm) → find (λ (t : Term). same_atom x t.atom) (as_terms ws) ≡ option_map as_term (find (λ (w : WideTerm). same_atom x w.atom) ws)
find_terms x [] = refl
find_terms x (w ∷ ws) =
    elim (same_atom x w.atom) as (λ b. cond b (Some (as_term w)) (find (λ (t : Term). same_atom x t.atom) (as_terms ws)) ≡ option_map as_term (cond b (Some w) (find (λ (v : WideTerm). same_atom x v.atom) ws))) [
      | true ↦ refl
      | false ↦ find_terms x ws
    ]

-- ---- one atom
pub atom_terms : (x : Atom) (k : ℤ) (ts : List Term) → ts ≡ unless_zero (record { atom = x; power = k }) [] → ts ≡ (pow (atom x) k).terms
atom_terms x k ts e =
    e ∙ sym (product-normal (unless_zero t []) (normal-unless_zero t [] refl refl))
    ∙ ap (λ (u : PowerMap). u.terms)
    (same_unit (product (unless_zero t [])) (pow (atom x) k) (λ y. weigh-product (indicator y) (unless_zero t []) ∙ weigh-unless_zero (indicator y) t [] ∙ alone (k *ℤ indicator y x)
    ∙ sym (power_of-pow (atom x) k y ∙ ap (λ n. k *ℤ n) (weight-atom (indicator y) x))))
  where
    t : Term
    t = record { atom = x; power = k }

    alone : (a : ℤ) → a +ℤ pos 0 ≡ a
    alone a = omega (arith, ints)

-- ---- images
pub images-none : (s : ℕ → PowerMap) (ts : List Term) → length ts < 1 → one ≡ product (images s ts)
images-none s [] h = refl
images-none s (t ∷ ts) h = absurd (omega arith)

pub images-halves : (s : ℕ → PowerMap) (ts front back : List Term) (n : ℕ) → front ≡ take n ts → back ≡ drop n ts → mul (product (images s front)) (product (images s back)) ≡ product (images s ts)
images-halves s ts front back n e f =
    same_unit (mul (product (images s front)) (product (images s back))) (product (images s ts)) (λ x. power_of-mul (product (images s front)) (product (images s back)) x
    ∙ (λ i. weigh-product (indicator x) (images s front) i +ℤ weigh-product (indicator x) (images s back) i)
    ∙ sym (weigh-++ (indicator x) (images s front) (images s back))
    ∙ ap (λ us. power_in us x) (sym (flat_map-append (λ t. map (scale t.power) (image s t.atom).terms) front back) ∙ ap (images s) (ap (λ us. us ++ back) e ∙ ap (λ us. take n ts ++ us) f ∙ take-append-drop n ts))
    ∙ sym (weigh-product (indicator x) (images s ts)))

-- ---- one list after another
pub no_terms : (ws : List WideTerm) → length ws < 1 → ws ≡ []
no_terms [] h = refl
no_terms (w ∷ ws) h = absurd (omega (arith, h))

pub normal_after : (ws vs : List WideTerm) (i : ℕ) (d e : WideTerm) → i + 1 ≡ length ws → 0 < length vs → IsTrue (is_normal (as_terms ws)) → IsTrue (is_normal (as_terms vs)) →
    IsTrue (is_before (get_or ws i d).atom (get_or vs 0 e).atom) → IsTrue (is_normal (as_terms ws ++ as_terms vs))
normal_after [] vs i d e last some n m h = absurd (omega (arith, last))
normal_after (w ∷ ws) [] i d e last some n m h = absurd (omega (arith, some))
normal_after (w ∷ []) (v ∷ vs) zero d e last some n m h =
    cons_normal (as_term w) (as_terms (v ∷ vs)) (head_nonzero (as_term w) [] n)
    (and_from _ _ h (before_all_trans w.atom v.atom (as_terms vs) h (head_before_all (as_term v) (as_terms vs) m))) m
normal_after (w ∷ []) (v ∷ vs) (suc i) d e last some n m h = absurd (omega (arith, last))
normal_after (w ∷ x ∷ ws) (v ∷ vs) zero d e last some n m h = absurd (omega (arith, last))
normal_after (w ∷ x ∷ ws) (v ∷ vs) (suc i) d e last some n m h =
    let rest = normal_after (x ∷ ws) (v ∷ vs) i d e (omega (arith, last)) some (tail_normal (as_term w) (as_terms (x ∷ ws)) n) m h in
    let first = (and_parts (is_before w.atom x.atom) (is_before_all w.atom (as_terms ws)) (head_before_all (as_term w) (as_terms (x ∷ ws)) n)).0 in
    cons_normal (as_term w) (as_terms (x ∷ ws) ++ as_terms (v ∷ vs)) (head_nonzero (as_term w) (as_terms (x ∷ ws)) n)
    (and_from _ _ first (before_all_trans w.atom x.atom (as_terms ws ++ as_terms (v ∷ vs)) first (head_before_all (as_term x) (as_terms ws ++ as_terms (v ∷ vs)) rest))) rest
