-- Which variable is the pivot, and what the tests on a unit say of its powers.
use Rattle.std.proofs.Common.{◌≡◌, ◌≢◌, ℕ, ◌≤◌, inl, inr, true, false, Option, Some, None, List, [], ◌∷◌, ℤ, pos, nat_abs, refl, sym, ap, ◌∙◌, subst, arith}
use Rattle.std.specs.Prelude.{IsTrue, ◌==◌, nat_lt}
use Rattle.std.specs.List.{list_any}
use Rattle.std.proofs.lemmas.Bool.{ltb-true, ltb-false, eqb-true, or_cases, or_parts, not-true, not-false, and_parts}
use Rattle.um_units.specs.declared.Atom.{Atom}
use Rattle.um_units.specs.declared.Atom.TheVariants.{Base, Var}
use Rattle.um_units.specs.declared.Term.{Term}
use Rattle.um_units.specs.Atoms.{is_before, same_atom}
use Rattle.um_units.specs.Terms.{power_in, is_normal, is_zero, is_before_all}
use Rattle.um_units.specs.NormalForm.{same_atom-eq, head_nonzero, head_before_all, tail_normal}
use Rattle.um_units.specs.PowerMap.{PowerMap, power_of}
use Rattle.um_units.proofs.Equality.{power_in-head, power_in-tail, power_in-before_all}
use Rattle.um_pivots.specs.declared.pivot.Pivot.{Pivot}
use Rattle.um_pivots.specs.Pivot.{lesser, lesser_with, pivot_of, pivot, is_base, is_other, has_other, has_base}
use Rattle.um_elim.proofs.Cases.{on_test}

-- ---- the head and the tail of terms in normal form
head_power : (t : Term) (ts : List Term) → IsTrue (is_normal (t ∷ ts)) → power_in (t ∷ ts) t.atom ≡ t.power
head_power t ts h = power_in-head t ts (head_before_all t ts h)

nonzero : (t : Term) (ts : List Term) → IsTrue (is_normal (t ∷ ts)) → t.power ≢ pos 0
nonzero t ts h e = let f : is_zero t.power ≡ true = ap is_zero e in let g = head_nonzero t ts h in cc

head_held : (t : Term) (ts : List Term) (x : Atom) → IsTrue (is_normal (t ∷ ts)) → t.atom ≡ x → power_in (t ∷ ts) x ≢ pos 0
head_held t ts x h e z = nonzero t ts h (sym (head_power t ts h) ∙ ap (power_in (t ∷ ts)) e ∙ z)

-- an atom that the tail holds is not the head's
differs : (t : Term) (ts : List Term) (x : Atom) → IsTrue (is_normal (t ∷ ts)) → power_in ts x ≢ pos 0 → same_atom x t.atom ≡ false
differs t ts x h n = on_test (same_atom x t.atom)
    (λ e. absurd (n (ap (power_in ts) (same_atom-eq x t.atom e) ∙ power_in-before_all t.atom ts (head_before_all t ts h)))) (λ e. e)

tail_held : (t : Term) (ts : List Term) (x : Atom) → IsTrue (is_normal (t ∷ ts)) → power_in ts x ≢ pos 0 → power_in (t ∷ ts) x ≢ pos 0
tail_held t ts x h n z = n (sym (power_in-tail t ts x (differs t ts x h n)) ∙ z)

-- what the tail holds comes after the head
held_after : (x : Atom) (ts : List Term) (y : Atom) → IsTrue (is_before_all x ts) → power_in ts y ≢ pos 0 → IsTrue (is_before x y)
held_after x [] y b n = absurd (n refl)
held_after x (t ∷ ts) y b n =
    let q = and_parts (is_before x t.atom) (is_before_all x ts) b in
    on_test (same_atom y t.atom)
    (λ e. subst (λ z. IsTrue (is_before x z)) (sym (same_atom-eq y t.atom e)) q.0)
    (λ e. held_after x ts y q.1 (λ z. n (power_in-tail t ts y e ∙ z)))

-- a variable that the list holds is the head's, or the tail holds it with the same power
by_head : {P : Type 0} (s : Term) (ts : List Term) (k : ℕ) → power_in (s ∷ ts) (Var k) ≢ pos 0 → (s.atom ≡ Var k → P) → (power_in ts (Var k) ≢ pos 0 → power_in (s ∷ ts) (Var k) ≡ power_in ts (Var k) → P) → P
by_head s ts k n head tail = on_test (same_atom (Var k) s.atom)
    (λ e. head (sym (same_atom-eq (Var k) s.atom e)))
    (λ e. let w = power_in-tail s ts (Var k) e in tail (λ z. n (w ∙ z)) w)

number : Atom → ℕ
number (Base n) = n
number (Var k) = k

same_number : (m k : ℕ) → Var m ≡ Var k → m ≡ k
unfolding number
same_number m k e = ap number e

-- ---- the pivot
-- a variable that stands in the list, with the least absolute power, and of those with this power the greatest number
pub record IsPivot (ts : List Term) (p : Pivot) : Type 0 where
  pub is : power_in ts (Var p.variable) ≡ p.power
  pub nonzero : p.power ≢ pos 0
  pub least : (k : ℕ) → power_in ts (Var k) ≢ pos 0 → nat_abs p.power ≤ nat_abs (power_in ts (Var k))
  pub greatest : (k : ℕ) → power_in ts (Var k) ≢ pos 0 → nat_abs (power_in ts (Var k)) ≡ nat_abs p.power → k ≤ p.variable

abbrev Answer : List Term → Option Pivot → Type 0
Answer ts None = (k : ℕ) → power_in ts (Var k) ≡ pos 0
Answer ts (Some p) = IsPivot ts p

behind_base : (s : Term) (ts : List Term) (n : ℕ) → s.atom ≡ Base n → (o : Option Pivot) → Answer ts o → Answer (s ∷ ts) o
behind_base s ts n e None a = λ k. power_in-tail s ts (Var k) (ap (same_atom (Var k)) e) ∙ a k
behind_base s ts n e (Some p) a = record {
  is = power_in-tail s ts (Var p.variable) (ap (same_atom (Var p.variable)) e) ∙ a.is;
  nonzero = a.nonzero;
  least = λ k h. let q : power_in (s ∷ ts) (Var k) ≡ power_in ts (Var k) = power_in-tail s ts (Var k) (ap (same_atom (Var k)) e) in
      subst (λ z. nat_abs p.power ≤ nat_abs z) (sym q) (a.least k (λ z. h (q ∙ z)));
  greatest = λ k h f. let q : power_in (s ∷ ts) (Var k) ≡ power_in ts (Var k) = power_in-tail s ts (Var k) (ap (same_atom (Var k)) e) in
      a.greatest k (λ z. h (q ∙ z)) (ap nat_abs (sym q) ∙ f);
}

-- what holds of the head's power and of each variable's in the tail holds of each variable's in the list
at_each : (s : Term) (ts : List Term) (k : ℕ) (P : ℤ → Type 0) → IsTrue (is_normal (s ∷ ts)) → P s.power → (power_in ts (Var k) ≢ pos 0 → P (power_in ts (Var k))) → power_in (s ∷ ts) (Var k) ≢ pos 0 → P (power_in (s ∷ ts) (Var k))
at_each s ts k P h p q n = on_test (same_atom (Var k) s.atom)
    (λ e. let w : power_in (s ∷ ts) (Var k) ≡ s.power = ap (power_in (s ∷ ts)) (same_atom-eq (Var k) s.atom e) ∙ head_power s ts h in subst P (sym w) p)
    (λ e. let w : power_in (s ∷ ts) (Var k) ≡ power_in ts (Var k) = power_in-tail s ts (Var k) e in subst P (sym w) (q (λ z. n (w ∙ z))))

with_head : (s : Term) (ts : List Term) (n : ℕ) → IsTrue (is_normal (s ∷ ts)) → s.atom ≡ Var n → (o : Option Pivot) → Answer ts o → Answer (s ∷ ts) (lesser (record { variable = n; power = s.power }) o)
with_head s ts n h e None a = record {
  is = ap (power_in (s ∷ ts)) (sym e) ∙ head_power s ts h;
  nonzero = nonzero s ts h;
  least = λ k. at_each s ts k (λ z. nat_abs s.power ≤ nat_abs z) h (omega arith) (λ w. absurd (w (a k)));
  greatest = λ k m f. by_head s ts k m (λ q. let i = same_number n k (sym e ∙ q) in omega (arith, i)) (λ w q. absurd (w (a k)));
}
with_head s ts n h e (Some p) a =
    let there : power_in ts (Var p.variable) ≢ pos 0 = λ z. a.nonzero (sym a.is ∙ z) in
    on_test (nat_lt (nat_abs s.power) (nat_abs p.power))
    (λ b. rw b (record {
      is = ap (power_in (s ∷ ts)) (sym e) ∙ head_power s ts h;
      nonzero = nonzero s ts h;
      least = λ k. at_each s ts k (λ z. nat_abs s.power ≤ nat_abs z) h (omega arith) (λ w. let i = a.least k w in let j = ltb-true (nat_abs s.power) (nat_abs p.power) b in omega (arith, i, j));
      greatest = λ k m f. by_head s ts k m (λ q. let i = same_number n k (sym e ∙ q) in omega (arith, i))
          (λ w q. let i = a.least k w in let j = ltb-true (nat_abs s.power) (nat_abs p.power) b in let l = ap nat_abs q in absurd (omega (arith, i, j, l, f)));
    }))
    (λ b. rw b (record {
      is = power_in-tail s ts (Var p.variable) (differs s ts (Var p.variable) h there) ∙ a.is;
      nonzero = a.nonzero;
      least = λ k. at_each s ts k (λ z. nat_abs p.power ≤ nat_abs z) h (ltb-false (nat_abs s.power) (nat_abs p.power) b) (a.least k);
      greatest = λ k m f. by_head s ts k m
          (λ q. let i = same_number n k (sym e ∙ q) in
          let j : IsTrue (is_before (Var n) (Var p.variable)) = subst (λ x. IsTrue (is_before x (Var p.variable))) e (held_after s.atom ts (Var p.variable) (head_before_all s ts h) there) in
          let l = ltb-true n p.variable j in omega (arith, i, l))
          (λ w q. a.greatest k w (ap nat_abs (sym q) ∙ f));
    }))

with_atom : (s : Term) (ts : List Term) → IsTrue (is_normal (s ∷ ts)) → (x : Atom) → s.atom ≡ x → (o : Option Pivot) → Answer ts o → Answer (s ∷ ts) (lesser_with x s.power o)
with_atom s ts h (Base n) e o a = behind_base s ts n e o a
with_atom s ts h (Var n) e o a = with_head s ts n h e o a

answer : (ts : List Term) → IsTrue (is_normal ts) → Answer ts (pivot_of ts)
answer [] h = λ k. refl
answer (s ∷ ts) h = with_atom s ts h s.atom refl (pivot_of ts) (answer ts (tail_normal s ts h))

pub no_pivot : (r : PowerMap) → pivot r ≡ None → (k : ℕ) → power_of r (Var k) ≡ pos 0
no_pivot r e = subst (Answer r.terms) e (answer r.terms r.normal)

pub is_pivot : (r : PowerMap) (p : Pivot) → pivot r ≡ Some p → IsPivot r.terms p
is_pivot r p e = subst (Answer r.terms) e (answer r.terms r.normal)

-- ---- the tests
base_number : (x : Atom) → IsTrue (is_base x) → (n : ℕ) × (x ≡ Base n)
base_number (Base n) h = (n, refl)
base_number (Var n) h = cc

base_in : (ts : List Term) → IsTrue (is_normal ts) → list_any (λ t. is_base t.atom) ts ≡ true → (n : ℕ) × (power_in ts (Base n) ≢ pos 0)
base_in [] h b = cc
base_in (t ∷ ts) h b = elim (or_cases (is_base t.atom) _ b) [
  | inl c ↦ let w = base_number t.atom c in (w.0, head_held t ts (Base w.0) h w.1)
  | inr c ↦ let w = base_in ts (tail_normal t ts h) c in (w.0, tail_held t ts (Base w.0) h w.1)
]

pub some_base : (r : PowerMap) → has_base r ≡ true → (n : ℕ) × (power_of r (Base n) ≢ pos 0)
some_base r b = base_in r.terms r.normal b

not_base_atom : (x : Atom) (n : ℕ) → is_base x ≡ false → same_atom (Base n) x ≡ false
not_base_atom (Base m) n h = cc
not_base_atom (Var m) n h = refl

no_base_in : (ts : List Term) → list_any (λ t. is_base t.atom) ts ≡ false → (n : ℕ) → power_in ts (Base n) ≡ pos 0
no_base_in [] b n = refl
no_base_in (t ∷ ts) b n = let w = or_parts (is_base t.atom) _ b in power_in-tail t ts (Base n) (not_base_atom t.atom n w.0) ∙ no_base_in ts w.1 n

pub no_base : (r : PowerMap) → has_base r ≡ false → (n : ℕ) → power_of r (Base n) ≡ pos 0
no_base r b n = no_base_in r.terms b n

other_number : (m : ℕ) (y : Atom) → IsTrue (is_other m y) → (n : ℕ) × (y ≡ Var n) × ((m == n) ≡ false)
other_number m (Base n) h = cc
other_number m (Var n) h = (n, refl, not-true (m == n) h)

other_in : (m : ℕ) (ts : List Term) → IsTrue (is_normal ts) → list_any (λ t. is_other m t.atom) ts ≡ true → (n : ℕ) × ((m == n) ≡ false) × (power_in ts (Var n) ≢ pos 0)
other_in m [] h b = cc
other_in m (t ∷ ts) h b = elim (or_cases (is_other m t.atom) _ b) [
  | inl c ↦ let w = other_number m t.atom c in (w.0, w.2, head_held t ts (Var w.0) h w.1)
  | inr c ↦ let w = other_in m ts (tail_normal t ts h) c in (w.0, w.1, tail_held t ts (Var w.0) h w.2)
]

pub some_other : (m : ℕ) (r : PowerMap) → has_other m r ≡ true → (n : ℕ) × ((m == n) ≡ false) × (power_of r (Var n) ≢ pos 0)
some_other m r b = other_in m r.terms r.normal b

not_other_atom : (m : ℕ) (y : Atom) (n : ℕ) → is_other m y ≡ false → (m == n) ≡ false → same_atom (Var n) y ≡ false
not_other_atom m (Base k) n h e = refl
not_other_atom m (Var k) n h e = on_test (n == k)
    (λ f. let q : n ≡ k = eqb-true n k f in let g : (m == n) ≡ true = ap (λ i. m == i) q ∙ not-false (m == k) h in cc)
    (λ f. f)

no_other_in : (m : ℕ) (ts : List Term) → list_any (λ t. is_other m t.atom) ts ≡ false → (n : ℕ) → (m == n) ≡ false → power_in ts (Var n) ≡ pos 0
no_other_in m [] b n e = refl
no_other_in m (t ∷ ts) b n e = let w = or_parts (is_other m t.atom) _ b in power_in-tail t ts (Var n) (not_other_atom m t.atom n w.0 e) ∙ no_other_in m ts w.1 n e

pub no_other : (m : ℕ) (r : PowerMap) → has_other m r ≡ false → (n : ℕ) → (m == n) ≡ false → power_of r (Var n) ≡ pos 0
no_other m r b n e = no_other_in m r.terms b n e
