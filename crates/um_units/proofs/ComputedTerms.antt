-- What the lists of terms that the code computes stand for.
use Rattle.std.proofs.Common.{◌≡◌, ℕ, ◌<◌, ◌+ℤ◌, length, take, drop, true, false, List, [], ◌∷◌, ◌++◌, map, ℤ, pos, negsuc, ◌*ℤ◌, nat_abs, refl, sym, ap, ◌∙◌, arith}
use Rattle.std.specs.Prelude.{IsTrue, nat_le}
use Rattle.std.proofs.lemmas.Bool.{and_parts, and_from, false_from_ne_true, ltb-true}
use Rattle.std.proofs.lemmas.Int.{ints}
use Rattle.std.proofs.lemmas.List.Concat.{flat_map-append}
use Rattle.std.proofs.lemmas.List.{take-append-drop, append-nil}
use Rattle.std.proofs.lemmas.List.Folds.{list_all-append}
use Rattle.um_units.specs.declared.Atom.{Atom}
use Rattle.um_units.specs.declared.Atom.TheVariants.{Base, Var}
use Rattle.um_units.specs.declared.Term.{Term}
use Rattle.um_units.specs.Atoms.{is_before}
use Rattle.um_units.specs.Terms.{indicator, power_in, is_zero, is_before_all, is_normal, normal_form}
use Rattle.um_units.specs.NormalForm.{head_nonzero, head_before_all, tail_normal, cons_normal}
use Rattle.um_units.specs.PowerMap.{PowerMap, product, atom, mul, scale, pow, image, images, replace}
use Rattle.um_units.specs.Range.{in_range, all_in_range, IsKept}
use Rattle.um_units.proofs.Weights.{zero_is, weigh-product, weigh-++}
use Rattle.um_units.proofs.Equality.{product-of_terms, product-terms, same_product}
use Rattle.um_units.specs.Variables.{atom_below, variables_below}
use Rattle.um_units.proofs.Replacement.{images-same, replace-closed}
use Rattle.um_units.proofs.Variables.{IsClosed-below_zero, VariablesBelow-from_terms}
use Rattle.um_units.proofs.Nonzero.{before_all-scale}

product-append : (ts us ls rs : List Term) → ls ≡ (product ts).terms → rs ≡ (product us).terms → product (ls ++ rs) ≡ product (ts ++ us)
product-append ts us ls rs e f =
    same_product (ls ++ rs) (ts ++ us) (λ x. weigh-++ (indicator x) ls rs
    ∙ ap (λ n. n +ℤ power_in rs x) (ap (λ vs. power_in vs x) e ∙ weigh-product (indicator x) ts)
    ∙ ap (λ n. power_in ts x +ℤ n) (ap (λ vs. power_in vs x) f ∙ weigh-product (indicator x) us)
    ∙ sym (weigh-++ (indicator x) ts us))

-- the terms of a unit and of another's power, multiplied
pub terms-mul_pow : (u v : PowerMap) (k z : ℤ) (ts us : List Term) → ts ≡ u.terms → us ≡ v.terms → z ≡ k → normal_form (ts ++ map (scale z) us) ≡ (mul u (pow v k)).terms
terms-mul_pow u v k z ts us e f g =
    sym (product-terms (ts ++ map (scale z) us))
    ∙ ap (λ (w : PowerMap). w.terms) (ap (λ vs. product (vs ++ map (scale z) us)) e ∙ ap (λ vs. product (u.terms ++ map (scale z) vs)) f ∙ ap (λ n. product (u.terms ++ map (scale n) v.terms)) g
    ∙ sym (product-append u.terms (map (scale k) v.terms) u.terms (pow v k).terms (ap (λ (w : PowerMap). w.terms) (sym (product-of_terms u))) refl))

-- a list of terms that are those of a unit
pub product-terms_of : (u : PowerMap) (ts : List Term) → ts ≡ u.terms → product ts ≡ u
product-terms_of u ts e = ap product e ∙ product-of_terms u

-- ---- each power negated
negated_zero : (z : ℤ) → is_zero z ≡ false → is_zero (negsuc 0 *ℤ z) ≡ false
negated_zero z n = false_from_ne_true (is_zero (negsuc 0 *ℤ z)) (λ e. let f = zero_is (negsuc 0 *ℤ z) e in let g : z ≡ pos 0 = omega (arith, ints, f) in let h : is_zero z ≡ true = ap is_zero g in cc)

normal-inverted : (ts : List Term) → IsTrue (is_normal ts) → IsTrue (is_normal (map (scale (negsuc 0)) ts))
normal-inverted [] h = refl
normal-inverted (t ∷ ts) h =
    cons_normal (scale (negsuc 0) t) (map (scale (negsuc 0)) ts) (negated_zero t.power (head_nonzero t ts h)) (before_all-scale (negsuc 0) t.atom ts (head_before_all t ts h)) (normal-inverted ts (tail_normal t ts h))

in_range-inverted : (ts : List Term) → IsTrue (all_in_range ts) → IsTrue (all_in_range (map (scale (negsuc 0)) ts))
in_range-inverted [] h = refl
in_range-inverted (t ∷ ts) h =
    let p = and_parts (in_range t.power) (all_in_range ts) h in
    and_from _ _ (ap (λ n. nat_le n 2147483647) (same_abs t.power) ∙ p.0) (in_range-inverted ts p.1)
  where
    same_abs : (z : ℤ) → nat_abs (negsuc 0 *ℤ z) ≡ nat_abs z
    same_abs z = omega (arith, ints)

pub kept-inverted : (ts : List Term) → IsKept ts → IsKept (map (scale (negsuc 0)) ts)
kept-inverted ts kept = record { normal = normal-inverted ts kept.normal; fit = in_range-inverted ts kept.fit }

-- ---- images
-- the halves of the terms
pub product-halves : (s : ℕ → PowerMap) (ts front back ls rs : List Term) (n : ℕ) → front ≡ take n ts → back ≡ drop n ts → ls ≡ (product (images s front)).terms → rs ≡ (product (images s back)).terms →
    product (ls ++ rs) ≡ product (images s ts)
product-halves s ts front back ls rs n e f g h =
    product-append (images s front) (images s back) ls rs g h
    ∙ ap product (sym (flat_map-append (λ t. map (scale t.power) (image s t.atom).terms) front back)
    ∙ ap (images s) (ap (λ us. us ++ back) e ∙ ap (λ us. take n ts ++ us) f ∙ take-append-drop n ts))

pub images-none : (s : ℕ → PowerMap) (ts : List Term) → length ts < 1 → [] ≡ (product (images s ts)).terms
images-none s [] h = sym (product-terms [])
images-none s (t ∷ ts) h = absurd (omega arith)

-- ---- base units in front
pub normal_front : (ts us : List Term) → IsTrue (is_normal (ts ++ us)) → IsTrue (is_normal ts)
normal_front [] us n = refl
normal_front (t ∷ ts) us n =
    cons_normal t ts (head_nonzero t (ts ++ us) n)
    (and_parts (is_before_all t.atom ts) (is_before_all t.atom us) (sym (list_all-append (λ s. is_before t.atom s.atom) ts us) ∙ head_before_all t (ts ++ us) n)).0
    (normal_front ts us (tail_normal t (ts ++ us) n))

-- base units alone
pub replace-base_units : (s : ℕ → PowerMap) (u : PowerMap) (front back : List Term) → front ++ back ≡ u.terms → IsTrue (variables_below 0 front) → back ≡ [] → replace s u ≡ u
replace-base_units s u front back e h f =
    replace-closed s u (IsClosed-below_zero u (VariablesBelow-from_terms 0 u (ap (variables_below 0) (sym e ∙ ap (λ ts. front ++ ts) f ∙ append-nil front) ∙ h)))

scale-one : (ts : List Term) → map (scale (pos 1)) ts ≡ ts
scale-one [] = refl
scale-one (t ∷ ts) = λ i. record { atom = t.atom; power = same t.power i } ∷ scale-one ts i
  where
    same : (z : ℤ) → pos 1 *ℤ z ≡ z
    same z = omega (arith, ints)

images-closed : (s : ℕ → PowerMap) (ts : List Term) → IsTrue (variables_below 0 ts) → product (images s ts) ≡ product ts
images-closed s ts h = ap product (alike ts h) ∙ images-same ts
  where
    at : (x : Atom) → IsTrue (atom_below 0 x) → image s x ≡ image (λ k. atom (Var k)) x
    at (Base n) h = refl
    at (Var k) h = absurd (let l = ltb-true k 0 h in omega (arith, l))

    alike : (ts : List Term) → IsTrue (variables_below 0 ts) → images s ts ≡ images (λ k. atom (Var k)) ts
    alike [] h = refl
    alike (t ∷ ts) h =
        let p = and_parts (atom_below 0 t.atom) (variables_below 0 ts) h in
        ap (λ us. map (scale t.power) (image s t.atom).terms ++ us) (alike ts p.1)
        ∙ ap (λ (u : PowerMap). map (scale t.power) u.terms ++ images (λ k. atom (Var k)) ts) (at t.atom p.0)

-- base units, and what is put for the other terms
pub product-parts : (s : ℕ → PowerMap) (front back ls rs : List Term) → IsTrue (variables_below 0 front) → ls ≡ (product (map (scale (pos 1)) front)).terms → rs ≡ (product (images s back)).terms →
    product (ls ++ rs) ≡ product (images s (front ++ back))
product-parts s front back ls rs h e f =
    product-append (images s front) (images s back) ls rs (e ∙ ap (λ (u : PowerMap). u.terms) (ap product (scale-one front) ∙ sym (images-closed s front h))) f
    ∙ ap product (sym (flat_map-append (λ t. map (scale t.power) (image s t.atom).terms) front back))
