-- The k-th power of a list of terms in normal form, term by term.
use Rattle.std.proofs.Common.{◌≡◌, ℕ, suc, ◌+◌, ◌<◌, ◌≤◌, ◌^◌, true, false, cond, List, [], ◌∷◌, ◌++◌, append_assoc, map, ℤ, pos, ◌+ℤ◌, ◌*ℤ◌, nat_abs, to_z, of_z, length, take, drop, get_or, drop-cons, add-one, refl, sym, ap, ◌∙◌, subst, arith}
use Rattle.std.specs.Int.{w128}
use Rattle.std.specs.Prelude.{IsTrue}
use Rattle.std.proofs.lemmas.Int.{ints}
use Rattle.std.proofs.lemmas.Bool.{and_parts, and_from}
use Rattle.std.proofs.lemmas.List.Folds.{list_all-append}
use Rattle.std.proofs.lemmas.List.{append-nil, take_more, take_all, map-append}
use Rattle.std.proofs.Math.ListN.{drop_of_length-le}
use Rattle.std.proofs.Math.IntN.{*ℤ-zero}
use Rattle.um_frac.proofs.Integers.{*ℤ-+ℤ, *ℤ_assoc}
use Rattle.um_units.specs.declared.Atom.{Atom}
use Rattle.um_units.specs.declared.Term.{Term}
use Rattle.um_units.specs.Atoms.{is_before}
use Rattle.um_units.specs.Terms.{indicator, power_in, is_zero, is_before_all, is_normal, unless_zero}
use Rattle.um_units.specs.NormalForm.{head_nonzero, head_before_all, tail_normal, cons_normal}
use Rattle.um_units.specs.PowerMap.{PowerMap, product, scale}
use Rattle.um_units.specs.Wide.{as_term, as_terms}
use Rattle.um_units.specs.declared.wide.WideTerm.{WideTerm}
use Rattle.um_units.proofs.Weights.{weigh-++, weigh-unless_zero}
use Rattle.um_units.proofs.Equality.{product-normal, same_product}
use Rattle.um_units.proofs.Group.{weigh-scale}

-- ---- lists in normal form with one front
in_front : (x : Atom) (ts us : List Term) → IsTrue (is_before_all x (ts ++ us)) → IsTrue (is_before_all x ts) × IsTrue (is_before_all x us)
in_front x ts us h = and_parts (is_before_all x ts) (is_before_all x us) (sym (list_all-append (λ t. is_before x t.atom) ts us) ∙ h)

in_front_of : (x : Atom) (ts us : List Term) → IsTrue (is_before_all x ts) → IsTrue (is_before_all x us) → IsTrue (is_before_all x (ts ++ us))
in_front_of x ts us h k = list_all-append (λ t. is_before x t.atom) ts us ∙ and_from _ _ h k

-- a term is left out
left_out : (out : List Term) (s : Term) (ss : List Term) → IsTrue (is_normal (out ++ s ∷ ss)) → IsTrue (is_normal (out ++ ss))
left_out [] s ss n = tail_normal s ss n
left_out (o ∷ out) s ss n =
    let p = in_front o.atom out (s ∷ ss) (head_before_all o (out ++ s ∷ ss) n) in
    cons_normal o (out ++ ss) (head_nonzero o (out ++ s ∷ ss) n)
    (in_front_of o.atom out ss p.0 (and_parts (is_before o.atom s.atom) (is_before_all o.atom ss) p.1).1)
    (left_out out s ss (tail_normal o (out ++ s ∷ ss) n))

-- a term gets another power
with_power : (out : List Term) (s : Term) (ss : List Term) (k : ℤ) → is_zero k ≡ false → IsTrue (is_normal (out ++ s ∷ ss)) → IsTrue (is_normal (out ++ record { atom = s.atom; power = k } ∷ ss))
with_power [] s ss k z n = cons_normal (record { atom = s.atom; power = k }) ss z (head_before_all s ss n) (tail_normal s ss n)
with_power (o ∷ out) s ss k z n =
    let p = in_front o.atom out (s ∷ ss) (head_before_all o (out ++ s ∷ ss) n) in
    cons_normal o (out ++ record { atom = s.atom; power = k } ∷ ss) (head_nonzero o (out ++ s ∷ ss) n) (in_front_of o.atom out (record { atom = s.atom; power = k } ∷ ss) p.0 p.1)
    (with_power out s ss k z (tail_normal o (out ++ s ∷ ss) n))

-- the first term that is left goes out, with another power or not at all
gone_out : (out new : List Term) (s : Term) (ss : List Term) (k : ℤ) → new ≡ out ++ unless_zero (record { atom = s.atom; power = k }) [] → IsTrue (is_normal (out ++ s ∷ ss)) → IsTrue (is_normal (new ++ ss))
gone_out out new s ss k e n =
    elim (is_zero k) as (λ b. is_zero k ≡ b → new ≡ out ++ cond b [] (record { atom = s.atom; power = k } ∷ []) → IsTrue (is_normal (new ++ ss))) [
      | true ↦ λ z f. subst (λ ts. IsTrue (is_normal (ts ++ ss))) (sym (f ∙ append-nil out)) (left_out out s ss n)
      | false ↦ λ z f.
          subst (λ ts. IsTrue (is_normal ts)) (sym (ap (λ ts. ts ++ ss) f ∙ append_assoc out (record { atom = s.atom; power = k } ∷ []) ss)) (with_power out s ss k z n)
    ] refl e

power_in-out : (out new : List Term) (t : Term) (x : Atom) → new ≡ out ++ unless_zero t [] → power_in new x ≡ power_in out x +ℤ (t.power *ℤ indicator x t.atom +ℤ pos 0)
power_in-out out new t x e = ap (λ ts. power_in ts x) e ∙ weigh-++ (indicator x) out (unless_zero t []) ∙ ap (λ n. power_in out x +ℤ n) (weigh-unless_zero (indicator x) t [])

-- ---- the power, term by term
-- out holds the k-th power of the first i terms, and is in normal form with those that are left
pub record IsScaling (k : ℤ) (ws : List WideTerm) (out : List Term) (i : ℕ) : Type 0 where
  pub powers : (x : Atom) → power_in out x ≡ k *ℤ power_in (as_terms (take i ws)) x
  pub normal : IsTrue (is_normal (out ++ as_terms (drop i ws)))

pub scaling_first : (k : ℤ) (ws : List WideTerm) (out : List Term) → IsTrue (is_normal (as_terms ws)) → out ≡ [] → IsScaling k ws out 0
scaling_first k ws out n e = subst (λ ts. IsScaling k ws ts 0) (sym e) (record { powers = λ x. sym (*ℤ-zero k); normal = n })

pub scaling_more : (k : ℤ) (ws : List WideTerm) (out new : List Term) (i : ℕ) (d : WideTerm) (z : ℤ) → IsScaling k ws out i → i < length ws → z ≡ k *ℤ (get_or ws i d).power →
    new ≡ out ++ unless_zero (record { atom = (get_or ws i d).atom; power = z }) [] → IsScaling k ws new (i + 1)
scaling_more k ws out new i d z s h f e = record {
  powers = λ x.
      let u = indicator x t.atom in
      let p = power_in-out out new (record { atom = t.atom; power = z }) x e in
      let q = s.powers x in
      let r = ap (λ us. power_in (as_terms us) x) (take_more ws i d h) ∙ ap (λ us. power_in us x) (map-append as_term (take i ws) (get_or ws i d ∷ [])) ∙ weigh-++ (indicator x) (as_terms (take i ws)) (t ∷ []) in
      let v = ap (λ n. n *ℤ u) f ∙ *ℤ_assoc k t.power u in
      let w = ap (λ n. k *ℤ n) (r ∙ ap (λ n. power_in (as_terms (take i ws)) x +ℤ n) (alone (t.power *ℤ u))) ∙ *ℤ-+ℤ k (power_in (as_terms (take i ws)) x) (t.power *ℤ u) in
      omega (arith, ints, p, q, v, w);
  normal =
      subst (λ n. IsTrue (is_normal (new ++ as_terms (drop n ws)))) (sym (add-one i))
      (gone_out out new t (as_terms (drop (suc i) ws)) z e (subst (λ us. IsTrue (is_normal (out ++ as_terms us))) (drop-cons ws i d h) s.normal));
}
  where
    t : Term
    t = as_term (get_or ws i d)

    alone : (a : ℤ) → a +ℤ pos 0 ≡ a
    alone a = omega (arith, ints)

pub scaling_last : (k : ℤ) (ws : List WideTerm) (out : List Term) (i : ℕ) → IsScaling k ws out i → length ws ≤ i → out ≡ (product (map (scale k) (as_terms ws))).terms
scaling_last k ws out i s h =
    sym (product-normal out normal)
    ∙ ap (λ (u : PowerMap). u.terms)
    (same_product out (map (scale k) (as_terms ws)) (λ x. s.powers x ∙ ap (λ us. k *ℤ power_in (as_terms us) x) (take_all i ws h) ∙ sym (weigh-scale (indicator x) k (as_terms ws))))
  where
    normal : IsTrue (is_normal out)
    normal = subst (λ ts. IsTrue (is_normal ts)) (ap (λ us. out ++ as_terms us) (drop_of_length-le ws h) ∙ append-nil out) s.normal

-- ---- powers as the code holds them
pub wide : (z : ℤ) (n : ℕ) → nat_abs z ≤ n → n < 2 ^ 127 → to_z w128 (of_z w128 z) ≡ z
wide z n h k = omega (arith, ints)
