-- What is printed for a closed unit that isn't 1 is a unit text that stands for it.
use Rattle.std.proofs.Common.{◌≡◌, ◌≢◌, ℕ, zero, suc, ◌≤◌, ◌<◌, ℤ, pos, negsuc, nat_abs, Bool, true, false, cond, IsTrue, List, [], ◌∷◌, ◌++◌, filter, Option, Some, refl, sym, ap, ◌∙◌, arith}
use Rattle.std.specs.Prelude.{int_lt}
use Rattle.std.proofs.lemmas.Bool.{and_parts, leb-true}
use Rattle.um_units.specs.declared.Atom.{Atom}
use Rattle.um_units.specs.declared.Atom.TheVariants.{Base, Var}
use Rattle.um_units.specs.declared.Term.{Term}
use Rattle.um_units.specs.Atoms.{same_atom}
use Rattle.um_units.specs.Terms.{power_in, is_zero, is_before_all, is_normal}
use Rattle.um_units.specs.NormalForm.{same_atom-eq, head_nonzero, head_before_all, tail_normal}
use Rattle.um_units.specs.PowerMap.{PowerMap, atom, power_of}
use Rattle.um_units.specs.Range.{fits, all_in_range, in_range}
use Rattle.um_units.specs.Variables.{IsClosed}
use Rattle.um_units.proofs.Equality.{power_in-before_all, power_in-head, power_in-tail}
use Rattle.um_tree.specs.Formed.{BasesBelow}
use Rattle.um_show.specs.UnitText.{base_name, variable_text, stands_before, with_term, ordered_terms, is_factor, is_divisor, factors_text, divisors_text, terms_text, unit_text}
use Rattle.um_show.proofs.Chain.{fresh, full, IsGoodName}
use Rattle.um_all_answers.proofs.Segments.{Segment, segment_of}
use Rattle.um_all_answers.proofs.UnitTexts.{IsUnitOf}
use Rattle.um_all_answers.proofs.UnitSizes.{size_in, size_filter, ordered_size, ordered_power, size_low, power_split, is_above}
use Rattle.um_all_answers.proofs.OwnUnits.{IsBaseTerm, AreBaseTerms, segment_parts}

-- ---- the terms of a closed unit

abbrev IsLowBase : ℕ → Atom → Type 0
IsLowBase n (Base k) = k < n
IsLowBase n (Var k) = ⊥

base_term : (n : ℕ) (t : Term) (x : Atom) → t.atom ≡ x → IsLowBase n x → is_zero t.power ≡ false → nat_abs t.power ≤ 2147483647 → IsBaseTerm n t
base_term n t (Base k) is low some small = record { base = k; atom = is; low = low; some = above t.power some; small = small } where
  above : (z : ℤ) → is_zero z ≡ false → 0 < nat_abs z
  above (pos zero) e = absurd (cc e)
  above (pos (suc m)) e = omega arith
  above (negsuc m) e = omega arith
base_term n t (Var k) is low some small = absurd low

nonzero : (z : ℤ) → is_zero z ≡ false → z ≢ pos 0
nonzero z e none = absurd (cc (sym e ∙ ap is_zero none))

base_terms : (n : ℕ) (ts : List Term) → IsTrue (is_normal ts) → IsTrue (all_in_range ts) → ((x : Atom) → power_in ts x ≢ pos 0 → IsLowBase n x) → AreBaseTerms n ts
base_terms n [] normal fit low = tt
base_terms n (t ∷ ts) normal fit low = (first, base_terms n ts (tail_normal t ts normal) (and_parts (in_range t.power) (all_in_range ts) fit).1 others) where
  before : IsTrue (is_before_all t.atom ts)
  before = head_before_all t ts normal

  some : is_zero t.power ≡ false
  some = head_nonzero t ts normal

  first : IsBaseTerm n t
  first =
      base_term n t t.atom refl (low t.atom (λ none. nonzero t.power some (sym (power_in-head t ts before) ∙ none))) some
      (leb-true (nat_abs t.power) 2147483647 (and_parts (in_range t.power) (all_in_range ts) fit).0)

  others : (x : Atom) → power_in ts x ≢ pos 0 → IsLowBase n x
  others x there = by (same_atom x t.atom) refl where
    by : (b : Bool) → same_atom x t.atom ≡ b → IsLowBase n x
    by true e = absurd (there (ap (power_in ts) (same_atom-eq x t.atom e) ∙ power_in-before_all t.atom ts before))
    by false e = low x (λ none. there (sym (power_in-tail t ts x e) ∙ none))

-- ---- in the order of printing

with_base : (bases : List (List ℕ)) (n : ℕ) (t : Term) (ss : List Term) → IsBaseTerm n t → AreBaseTerms n ss → AreBaseTerms n (with_term bases t ss)
with_base bases n t [] h k = (h, tt)
with_base bases n t (s ∷ ss) h k = go (stands_before bases t s) (with_base bases n t ss h k.1) where
  go : (b : Bool) → AreBaseTerms n (with_term bases t ss) → AreBaseTerms n (cond b (t ∷ s ∷ ss) (s ∷ with_term bases t ss))
  go true rest = (h, k)
  go false rest = (k.0, rest)

ordered_base : (bases : List (List ℕ)) (n : ℕ) (ts : List Term) → AreBaseTerms n ts → AreBaseTerms n (ordered_terms bases ts)
ordered_base bases n [] h = tt
ordered_base bases n (t ∷ ts) h = with_base bases n t (ordered_terms bases ts) h.0 (ordered_base bases n ts h.1)

filter_base : (n : ℕ) (p : Term → Bool) (ts : List Term) → AreBaseTerms n ts → AreBaseTerms n (filter p ts)
filter_base n p [] h = tt
filter_base n p (t ∷ ts) h = go (p t) (filter_base n p ts h.1) where
  go : (b : Bool) → AreBaseTerms n (filter p ts) → AreBaseTerms n (cond b (t ∷ filter p ts) (filter p ts))
  go true rest = (h.0, rest)
  go false rest = rest

with_some : (bases : List (List ℕ)) (t : Term) (ss : List Term) → with_term bases t ss ≡ [] → ⊥
with_some bases t [] e = cc e
with_some bases t (s ∷ ss) e = go (stands_before bases t s) e where
  go : (b : Bool) → cond b (t ∷ s ∷ ss) (s ∷ with_term bases t ss) ≡ [] → ⊥
  go true e = cc e
  go false e = cc e

ordered_some : (bases : List (List ℕ)) (ts : List Term) → (ts ≡ [] → ⊥) → ordered_terms bases ts ≡ [] → ⊥
ordered_some bases [] some e = some refl
ordered_some bases (t ∷ ts) some e = with_some bases t (ordered_terms bases ts) e

some_left : (t : Term) (ts : List Term) → t ∷ ts ≡ [] → ⊥
some_left t ts e = cc e

-- each term is a factor or a divisor
none_left : (n : ℕ) (ts : List Term) → AreBaseTerms n ts → filter is_factor ts ≡ [] → filter is_divisor ts ≡ [] → ts ≡ []
none_left n [] h e f = refl
none_left n (t ∷ ts) h e f = by t.power refl where
  by : (z : ℤ) → t.power ≡ z → t ∷ ts ≡ []
  by (pos zero) is = absurd (let some = h.0.some in let size : nat_abs t.power ≡ 0 = ap nat_abs is in omega (arith, some, size))
  by (pos (suc m)) is = absurd (some_left t (filter is_factor ts) (sym (ap (λ b. cond b (t ∷ filter is_factor ts) (filter is_factor ts)) (ap (λ z. int_lt (pos 0) z) is ∙ is_above m)) ∙ e))
  by (negsuc m) is = absurd (some_left t (filter is_divisor ts) (sym (ap (λ b. cond b (t ∷ filter is_divisor ts) (filter is_divisor ts)) (ap (λ z. int_lt z (pos 0)) is)) ∙ f))

-- ---- the text

module _ (measures : List ℕ → Option PowerMap) (bases : List (List ℕ)) (n : ℕ) (names : (k : ℕ) → k < n → IsGoodName (base_name bases k)) (known : (k : ℕ) → k < n → measures (base_name bases k) ≡ Some (atom (Base k))) where
  pub segment_own_unit : (w : PowerMap) → BasesBelow n w → IsClosed w → IsTrue (fits w) → (w.terms ≡ [] → ⊥) → Segment (unit_text bases w) (fresh true false) full (IsUnitOf measures w)
  segment_own_unit w over closed fit some = by (ordered_terms bases w.terms) refl where
    low : (x : Atom) → power_of w x ≢ pos 0 → IsLowBase n x
    low (Base k) there = over k there
    low (Var k) there = absurd (there (closed k))

    own : AreBaseTerms n (ordered_terms bases w.terms)
    own = ordered_base bases n w.terms (base_terms n w.terms w.normal fit low)

    fs : List Term
    fs = filter is_factor (ordered_terms bases w.terms)

    ds : List Term
    ds = filter is_divisor (ordered_terms bases w.terms)

    small : (p : Term → Bool) (x : Atom) → size_in (filter p (ordered_terms bases w.terms)) x ≤ 2147483647
    small p x =
        let part = size_filter p (ordered_terms bases w.terms) x in let all = ordered_size bases w.terms x in let most = size_low w.terms w.normal fit x in
        omega (arith, part, all, most)

    parts : Segment (factors_text variable_text bases fs ++ divisors_text variable_text bases ds) (fresh true false) full (IsUnitOf measures w)
    parts =
        segment_parts measures bases n names known w fit fs ds (filter_base n is_factor (ordered_terms bases w.terms) own) (filter_base n is_divisor (ordered_terms bases w.terms) own)
        (λ x. sym (ordered_power bases w.terms x) ∙ power_split (ordered_terms bases w.terms) x) (small is_factor) (small is_divisor)
        (λ e f. ordered_some bases w.terms some (none_left n (ordered_terms bases w.terms) own e f))

    by : (ts : List Term) → ordered_terms bases w.terms ≡ ts → Segment (unit_text bases w) (fresh true false) full (IsUnitOf measures w)
    by [] none = absurd (ordered_some bases w.terms some none)
    by (t ∷ ts) is =
        segment_of (factors_text variable_text bases fs ++ divisors_text variable_text bases ds) (unit_text bases w) (fresh true false) full (IsUnitOf measures w)
        (ap (λ us. factors_text variable_text bases (filter is_factor us) ++ divisors_text variable_text bases (filter is_divisor us)) is ∙ ap (terms_text variable_text bases) (sym is)) parts
