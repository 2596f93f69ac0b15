-- The powers of a unit by its terms as they are printed: the factors, and the divisors with their signs dropped.
use Rattle.std.proofs.Common.{◌≡◌, ℕ, zero, suc, ◌+◌, ◌≤◌, ℤ, pos, negsuc, neg_ℤ, ◌+ℤ◌, ◌*ℤ◌, nat_abs, Bool, true, false, cond, IsTrue, List, [], ◌∷◌, filter, refl, sym, ap, subst, ◌∙◌, arith}
use Rattle.std.specs.Prelude.{int_lt}
use Rattle.std.proofs.lemmas.Bool.{and_parts, leb-true}
use Rattle.std.proofs.lemmas.Bool.Decides.{nat_tests}
use Rattle.std.proofs.lemmas.Int.{ints}
use Rattle.um_units.specs.declared.Atom.{Atom}
use Rattle.um_units.specs.declared.Term.{Term}
use Rattle.um_units.specs.Atoms.{is_before, same_atom}
use Rattle.um_units.specs.Terms.{indicator, power_in, is_before_all, is_normal}
use Rattle.um_units.specs.NormalForm.{same_atom-eq, head_before_all, tail_normal}
use Rattle.um_units.specs.Range.{all_in_range, in_range}
use Rattle.um_units.proofs.Equality.{before-not_same}
use Rattle.um_show.specs.UnitText.{stands_before, with_term, ordered_terms, is_factor, is_divisor}

-- the power of an atom in a list of terms, each sign dropped
abbrev pub size_at : Atom → Term → ℕ
size_at x t = cond (same_atom x t.atom) (nat_abs t.power) 0

abbrev pub size_in : List Term → Atom → ℕ
size_in [] x = 0
size_in (t ∷ ts) x = size_at x t + size_in ts x

-- ---- some of the terms

pub size_filter : (p : Term → Bool) (ts : List Term) (x : Atom) → size_in (filter p ts) x ≤ size_in ts x
size_filter p [] x = omega arith
size_filter p (t ∷ ts) x = go (p t) (size_filter p ts x) where
  go : (b : Bool) → size_in (filter p ts) x ≤ size_in ts x → size_in (cond b (t ∷ filter p ts) (filter p ts)) x ≤ size_in (t ∷ ts) x
  go true h = omega (arith, h)
  go false h = omega (arith, h)

-- ---- another order

with_size : (bases : List (List ℕ)) (t : Term) (ss : List Term) (x : Atom) → size_in (with_term bases t ss) x ≡ size_in (t ∷ ss) x
with_size bases t [] x = refl
with_size bases t (s ∷ ss) x = go (stands_before bases t s) (with_size bases t ss x) where
  go : (b : Bool) → size_in (with_term bases t ss) x ≡ size_in (t ∷ ss) x → size_in (cond b (t ∷ s ∷ ss) (s ∷ with_term bases t ss)) x ≡ size_in (t ∷ s ∷ ss) x
  go true h = refl
  go false h = omega (arith, h)

pub ordered_size : (bases : List (List ℕ)) (ts : List Term) (x : Atom) → size_in (ordered_terms bases ts) x ≡ size_in ts x
ordered_size bases [] x = refl
ordered_size bases (t ∷ ts) x = with_size bases t (ordered_terms bases ts) x ∙ ap (λ n. size_at x t + n) (ordered_size bases ts x)

with_power : (bases : List (List ℕ)) (t : Term) (ss : List Term) (x : Atom) → power_in (with_term bases t ss) x ≡ power_in (t ∷ ss) x
with_power bases t [] x = refl
with_power bases t (s ∷ ss) x = go (stands_before bases t s) (with_power bases t ss x) where
  swap : (a b c : ℤ) → b +ℤ (a +ℤ c) ≡ a +ℤ (b +ℤ c)
  swap a b c = omega (arith, ints)

  go : (b : Bool) → power_in (with_term bases t ss) x ≡ power_in (t ∷ ss) x → power_in (cond b (t ∷ s ∷ ss) (s ∷ with_term bases t ss)) x ≡ power_in (t ∷ s ∷ ss) x
  go true h = refl
  go false h = ap (λ z. s.power *ℤ indicator x s.atom +ℤ z) h ∙ swap (t.power *ℤ indicator x t.atom) (s.power *ℤ indicator x s.atom) (power_in ss x)

pub ordered_power : (bases : List (List ℕ)) (ts : List Term) (x : Atom) → power_in (ordered_terms bases ts) x ≡ power_in ts x
ordered_power bases [] x = refl
ordered_power bases (t ∷ ts) x = with_power bases t (ordered_terms bases ts) x ∙ ap (λ z. t.power *ℤ indicator x t.atom +ℤ z) (ordered_power bases ts x)

-- ---- in normal form each atom stands once

none_before : (x : Atom) (ts : List Term) → IsTrue (is_before_all x ts) → size_in ts x ≡ 0
none_before x [] h = refl
none_before x (t ∷ ts) h =
    let parts = and_parts (is_before x t.atom) (is_before_all x ts) h in
    let here : size_at x t ≡ 0 = ap (λ b. cond b (nat_abs t.power) 0) (before-not_same x t.atom parts.0) in
    let later = none_before x ts parts.1 in
    omega (arith, here, later)

pub size_low : (ts : List Term) → IsTrue (is_normal ts) → IsTrue (all_in_range ts) → (x : Atom) → size_in ts x ≤ 2147483647
size_low [] normal fit x = omega arith
size_low (t ∷ ts) normal fit x = go (same_atom x t.atom) refl (size_low ts (tail_normal t ts normal) (and_parts (in_range t.power) (all_in_range ts) fit).1 x) where
  own : nat_abs t.power ≤ 2147483647
  own = leb-true (nat_abs t.power) 2147483647 (and_parts (in_range t.power) (all_in_range ts) fit).0

  go : (b : Bool) → same_atom x t.atom ≡ b → size_in ts x ≤ 2147483647 → size_in (t ∷ ts) x ≤ 2147483647
  go true e later =
      let same : x ≡ t.atom = same_atom-eq x t.atom e in
      let none : size_in ts x ≡ 0 = none_before x ts (subst (λ y. IsTrue (is_before_all y ts)) (sym same) (head_before_all t ts normal)) in
      let here : size_at x t ≡ nat_abs t.power = ap (λ b. cond b (nat_abs t.power) 0) e in
      let low = own in
      omega (arith, none, here, low)
  go false e later =
      let here : size_at x t ≡ 0 = ap (λ b. cond b (nat_abs t.power) 0) e in
      omega (arith, here, later)

-- ---- factors and divisors

pub not_below : (n : ℕ) → int_lt (pos n) (pos 0) ≡ false
not_below n = grind (arith, nat_tests)

pub is_above : (n : ℕ) → int_lt (pos 0) (pos (suc n)) ≡ true
is_above n = grind (arith, nat_tests)

-- a term's part in the power is its size, as a factor or as a divisor
pub power_split : (ts : List Term) (x : Atom) → power_in ts x ≡ pos (size_in (filter is_factor ts) x) +ℤ neg_ℤ (pos (size_in (filter is_divisor ts) x))
power_split [] x = refl
power_split (t ∷ ts) x = by t.power refl (power_split ts x) where
  Rest : Type 0
  Rest = power_in ts x ≡ pos (size_in (filter is_factor ts) x) +ℤ neg_ℤ (pos (size_in (filter is_divisor ts) x))

  Split : Bool → Bool → Type 0
  Split f d =
      t.power *ℤ indicator x t.atom +ℤ power_in ts x
      ≡ pos (size_in (cond f (t ∷ filter is_factor ts) (filter is_factor ts)) x) +ℤ neg_ℤ (pos (size_in (cond d (t ∷ filter is_divisor ts) (filter is_divisor ts)) x))

  above : (n : ℕ) → t.power ≡ pos n → Rest → Split true false
  above n e h = go (same_atom x t.atom) refl where
    go : (b : Bool) → same_atom x t.atom ≡ b → Split true false
    go true s =
        let one : indicator x t.atom ≡ pos 1 = ap (λ b. cond b (pos 1) (pos 0)) s in
        let size : size_at x t ≡ n = ap (λ b. cond b (nat_abs t.power) 0) s ∙ ap nat_abs e in
        let product : t.power *ℤ indicator x t.atom ≡ pos n *ℤ pos 1 = λ i. e i *ℤ one i in
        omega (arith, ints, product, size, h)
    go false s =
        let none : indicator x t.atom ≡ pos 0 = ap (λ b. cond b (pos 1) (pos 0)) s in
        let size : size_at x t ≡ 0 = ap (λ b. cond b (nat_abs t.power) 0) s in
        let product : t.power *ℤ indicator x t.atom ≡ pos n *ℤ pos 0 = λ i. e i *ℤ none i in
        omega (arith, ints, product, size, h)

  below : (n : ℕ) → t.power ≡ negsuc n → Rest → Split false true
  below n e h = go (same_atom x t.atom) refl where
    go : (b : Bool) → same_atom x t.atom ≡ b → Split false true
    go true s =
        let one : indicator x t.atom ≡ pos 1 = ap (λ b. cond b (pos 1) (pos 0)) s in
        let size : size_at x t ≡ suc n = ap (λ b. cond b (nat_abs t.power) 0) s ∙ ap nat_abs e in
        let product : t.power *ℤ indicator x t.atom ≡ negsuc n *ℤ pos 1 = λ i. e i *ℤ one i in
        omega (arith, ints, product, size, h)
    go false s =
        let none : indicator x t.atom ≡ pos 0 = ap (λ b. cond b (pos 1) (pos 0)) s in
        let size : size_at x t ≡ 0 = ap (λ b. cond b (nat_abs t.power) 0) s in
        let product : t.power *ℤ indicator x t.atom ≡ negsuc n *ℤ pos 0 = λ i. e i *ℤ none i in
        omega (arith, ints, product, size, h)

  neither : t.power ≡ pos 0 → Rest → Split false false
  neither e h =
      let product : t.power *ℤ indicator x t.atom ≡ pos 0 *ℤ indicator x t.atom = ap (λ z. z *ℤ indicator x t.atom) e in
      omega (arith, ints, product, h)

  by : (z : ℤ) → t.power ≡ z → Rest → Split (is_factor t) (is_divisor t)
  by (pos zero) e h = subst (λ b. Split b (is_divisor t)) (sym (ap (λ z. int_lt (pos 0) z) e)) (subst (λ b. Split false b) (sym (ap (λ z. int_lt z (pos 0)) e)) (neither e h))
  by (pos (suc n)) e h = subst (λ b. Split b (is_divisor t)) (sym (ap (λ z. int_lt (pos 0) z) e ∙ is_above n)) (subst (λ b. Split true b) (sym (ap (λ z. int_lt z (pos 0)) e ∙ not_below (suc n))) (above (suc n) e h))
  by (negsuc n) e h = subst (λ b. Split b (is_divisor t)) (sym (ap (λ z. int_lt (pos 0) z) e)) (subst (λ b. Split false b) (sym (ap (λ z. int_lt z (pos 0)) e)) (below n e h))
