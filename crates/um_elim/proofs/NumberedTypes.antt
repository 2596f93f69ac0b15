-- The renumbered types are numbered, and have the same instances.
use Rattle.std.proofs.Common.{◌≡◌, ◌≢◌, inl, inr, ℕ, suc, ◌+◌, ◌-◌, ◌<◌, ◌≤◌, true, false, not, List, [], ◌∷◌, ◌++◌, length, get_or, map, pos, refl, sym, ap, ◌∙◌, subst, length-append, arith}
use Rattle.std.specs.Prelude.{IsTrue, Contains}
use Rattle.std.specs.List.{flat_map}
use Rattle.std.proofs.lemmas.Bool.{cases_lt, cases_eq, ne_eqb, lt-ltb, and_parts}
use Rattle.std.proofs.lemmas.List.{append-nil, append_assoc, map-append, get_or_append_left, get_or-append_right}
use Rattle.std.proofs.lemmas.Grind.{flat_map-append}
use Rattle.std.proofs.lemmas.Map.Views.{list_any-from_Contains}
use Rattle.std.proofs.lemmas.Cmp.{nat_eq_equiv}
use Rattle.um_units.specs.declared.Atom.{Atom}
use Rattle.um_units.specs.declared.Atom.TheVariants.{Base, Var}
use Rattle.um_units.specs.declared.Term.{Term}
use Rattle.um_units.specs.Atoms.{is_before, same_atom}
use Rattle.um_units.specs.Terms.{power_in, is_zero, is_before_all, is_normal}
use Rattle.um_units.specs.NormalForm.{before_all_trans, head_nonzero, head_before_all, tail_normal}
use Rattle.um_units.specs.PowerMap.{PowerMap, power_of, atom, replace}
use Rattle.um_units.specs.Variables.{VariablesBelow}
use Rattle.um_units.proofs.Equality.{power_in-before_all, power_in-head, power_in-tail}
use Rattle.um_units.proofs.Replacement.{replace-variable}
use Rattle.um_units.proofs.Variables.{VariablesBelow-replace, VariablesBelow-variable, VariablesBelow-more}
use Rattle.um_tree.specs.TypeTree.{TypeTree, bool_type, num_type, list_type, record_type}
use Rattle.um_tree.specs.Typing.{put}
use Rattle.um_tree.specs.Scheme.{unit_variables, type_variables, variables, atom_variables, FirstComeInOrder, IsNumberedBy}
use Rattle.um_elim.specs.Numbering.{first_occurrences, variable_order, place, by_place, renumbered, AreRenamedOneForOne, HaveSameInstances}
use Rattle.um_elim.proofs.FirstOccurrences.{member, distinct, member-front, member-back, added, distinct-first, member-first, member-filter, member-at, first-append, place-low, place-at, at-place, place-append, same_place}
use Rattle.um_elim.proofs.RenamedUnits.{term_variables, held-member, member-held, power_of-renamed, puts_alike, puts-put}

-- ---- numbers that come in order
pub FirstComeInOrder-append : (k m n : ℕ) (xs ys : List ℕ) → FirstComeInOrder k xs m → FirstComeInOrder m ys n → FirstComeInOrder k (xs ++ ys) n
FirstComeInOrder-append k m n [] ys e h = subst (λ i. FirstComeInOrder i ys n) (sym e) h
FirstComeInOrder-append k m n (x ∷ xs) ys g h = elim g [
  | inl p ↦ inl (p.0, FirstComeInOrder-append k m n xs ys p.1 h)
  | inr p ↦ inr (p.0, FirstComeInOrder-append (suc k) m n xs ys p.1 h)
]

-- ---- within one unit: old numbers come first, and the new ones rise
module _ (t : Term) (ts : List Term) (x : ℕ) (is : t.atom ≡ Var x) (h : IsTrue (is_before_all t.atom ts)) where
  own_zero : power_in ts (Var x) ≡ pos 0
  own_zero = ap (power_in ts) (sym is) ∙ power_in-before_all t.atom ts h

  apart : (j : ℕ) → j ≢ x → same_atom (Var j) t.atom ≡ false
  apart j ne = ap (same_atom (Var j)) is ∙ ne_eqb j x ne

  held_before : (j : ℕ) → power_in ts (Var j) ≢ pos 0 → power_in (t ∷ ts) (Var j) ≢ pos 0
  held_before j held z = elim (cases_eq j x) [
    | inl e ↦ held (ap (λ i. power_in ts (Var i)) e ∙ own_zero)
    | inr ne ↦ held (sym (power_in-tail t ts (Var j) (apart j ne)) ∙ z)
  ]

  held_after : (j : ℕ) → j ≢ x → power_in (t ∷ ts) (Var j) ≢ pos 0 → power_in ts (Var j) ≢ pos 0
  held_after j ne held z = held (power_in-tail t ts (Var j) (apart j ne) ∙ z)

  -- no variable below the first is held
  none_below : (j : ℕ) → j < x → power_in (t ∷ ts) (Var j) ≡ pos 0
  none_below j l =
      let before : IsTrue (is_before (Var j) t.atom) = ap (is_before (Var j)) is ∙ lt-ltb j x l in
      power_in-tail t ts (Var j) (apart j (λ e. omega (arith, e, l))) ∙ power_in-before_all (Var j) ts (before_all_trans (Var j) t.atom ts before h)

base_tail : (t : Term) (ts : List Term) (n j : ℕ) → t.atom ≡ Base n → power_in (t ∷ ts) (Var j) ≡ power_in ts (Var j)
base_tail t ts n j is = power_in-tail t ts (Var j) (ap (same_atom (Var j)) is)

-- each variable that is held is below m
abbrev Low : List Term → ℕ → Type 0
Low ts m = (j : ℕ) → power_in ts (Var j) ≢ pos 0 → j < m

-- each variable from n on and below m is held
abbrev New : List Term → ℕ → ℕ → Type 0
New ts n m = (j : ℕ) → n ≤ j → j < m → power_in ts (Var j) ≢ pos 0

abbrev InOrder : List Term → ℕ → Type 0
InOrder ts m = (n : ℕ) → n ≤ m → Low ts m → New ts n m → FirstComeInOrder n (term_variables ts) m

module _ (t : Term) (ts : List Term) (n m : ℕ) (normal : IsTrue (is_normal (t ∷ ts))) (le : n ≤ m) (low : Low (t ∷ ts) m) (new : New (t ∷ ts) n m) (rest : InOrder ts m) where
  at_base : (b : ℕ) → t.atom ≡ Base b → FirstComeInOrder n (term_variables ts) m
  at_base b is =
      rest n le (λ j held. low j (λ z. held (sym (base_tail t ts b j is) ∙ z))) (λ j l h z. new j l h (base_tail t ts b j is ∙ z))

  module _ (x : ℕ) (is : t.atom ≡ Var x) where
    behind : IsTrue (is_before_all t.atom ts)
    behind = head_before_all t ts normal

    low_rest : Low ts m
    low_rest j held = low j (held_before t ts x is behind j held)

    below : x < m
    below = low x (λ z.
        let w : is_zero t.power ≡ true = ap is_zero (sym (power_in-head t ts behind) ∙ ap (power_in (t ∷ ts)) is ∙ z) in
        let f : is_zero t.power ≡ false = head_nonzero t ts normal in cc)

    old : x < n → FirstComeInOrder n (term_variables ts) m
    old l = rest n le low_rest (λ j g h. held_after t ts x is behind j (λ e. omega (arith, e, g, l)) (new j g h))

    first : n ≤ x → x ≡ n
    first g = elim (cases_lt n x) [
      | inl l ↦ let b = below in absurd (new n (omega arith) (omega (arith, b, l)) (none_below t ts x is behind n l))
      | inr h ↦ omega (arith, g, h)
    ]

    next : n ≤ x → FirstComeInOrder (suc n) (term_variables ts) m
    next g =
        let e = first g in
        let b = below in
        rest (suc n) (omega (arith, e, b)) low_rest (λ j l h. held_after t ts x is behind j (λ f. omega (arith, e, f, l)) (new j (omega (arith, l)) h))

    at_variable : FirstComeInOrder n (x ∷ term_variables ts) m
    at_variable = elim (cases_lt x n) [ inl l ↦ inl (l, old l) | inr g ↦ inr (first g, next g) ]

  at_atom : (x : Atom) → t.atom ≡ x → FirstComeInOrder n (atom_variables x ++ term_variables ts) m
  at_atom (Base b) is = at_base b is
  at_atom (Var x) is = at_variable x is

terms_in_order : (ts : List Term) (m : ℕ) → IsTrue (is_normal ts) → InOrder ts m
terms_in_order [] m normal n le low new = elim (cases_lt n m) [ inl l ↦ absurd (new n (omega arith) l refl) | inr g ↦ omega (arith, le, g) ]
terms_in_order (t ∷ ts) m normal n le low new = at_atom t ts n m normal le low new (terms_in_order ts m (tail_normal t ts normal)) t.atom refl

pub unit_in_order : (u : PowerMap) (n m : ℕ) → n ≤ m → VariablesBelow m u → ((j : ℕ) → n ≤ j → j < m → power_of u (Var j) ≢ pos 0) → FirstComeInOrder n (unit_variables u) m
unit_in_order u n m le low new = terms_in_order u.terms m u.normal n le low new

-- ---- unit by unit
-- a number that is new in ys stands in ys
member-added : (k : ℕ) (ks ys : List ℕ) → IsTrue (member k (added ks ys)) → IsTrue (member k ys)
member-added k ks ys h = sym (member-first k ys) ∙ (and_parts (not (member k ks)) (member k (first_occurrences ys)) (sym (member-filter (λ j. not (member j ks)) k (first_occurrences ys)) ∙ h)).1

module _ (o done : List ℕ) (u : PowerMap) (more : List ℕ) (d : IsTrue (distinct o)) (is : o ≡ first_occurrences (done ++ unit_variables u) ++ more) where
  abbrev before : List ℕ
  before = first_occurrences done

  abbrev after : List ℕ
  after = first_occurrences (done ++ unit_variables u)

  after_is : after ≡ before ++ added before (unit_variables u)
  after_is = first-append done (unit_variables u)

  inside_after : (k : ℕ) → IsTrue (member k (unit_variables u)) → IsTrue (member k after)
  inside_after k h = member-first k (done ++ unit_variables u) ∙ member-back k done (unit_variables u) h

  inside_order : (k : ℕ) → IsTrue (member k (unit_variables u)) → IsTrue (member k o)
  inside_order k h = ap (member k) is ∙ member-front k after more (inside_after k h)

  not_longer : length before ≤ length after
  not_longer = let e = ap length after_is ∙ length-append before (added before (unit_variables u)) in omega (arith, e)

  renamed_low : VariablesBelow (length after) (replace (by_place o) u)
  renamed_low = VariablesBelow-replace (length after) (by_place o) u (λ k held.
      let h = held-member u k held in
      let low = place-low after k (inside_after k h) in
      let same : place o k ≡ place after k = ap (λ l. place l k) is ∙ place-append after more k (inside_after k h) in
      VariablesBelow-more (place o k + 1) (length after) (atom (Var (place o k))) (omega (arith, same, low)) (VariablesBelow-variable (place o k)))

  renamed_new : (j : ℕ) → length before ≤ j → j < length after → power_of (replace (by_place o) u) (Var j) ≢ pos 0
  renamed_new j l h z =
      let k = get_or o j 0 in
      let sum = ap length is ∙ length-append after more in
      let whole : j < length o = omega (arith, sum, h) in
      let in_after : get_or o j 0 ≡ get_or after j 0 = ap (λ xs. get_or xs j 0) is ∙ get_or_append_left after more 0 j h in
      let parts = ap length after_is ∙ length-append before (added before (unit_variables u)) in
      let in_added : get_or after j 0 ≡ get_or (added before (unit_variables u)) (j - length before) 0 = ap (λ xs. get_or xs j 0) after_is ∙ get_or-append_right before (added before (unit_variables u)) (length before) j 0 refl l in
      let low : j - length before < length (added before (unit_variables u)) = omega (arith, parts, l, h) in
      let new = subst (λ i. IsTrue (member i (added before (unit_variables u)))) (sym (in_after ∙ in_added)) (member-at (added before (unit_variables u)) (j - length before) low) in
      member-held u k (member-added k before (unit_variables u) new)
      (sym (power_of-renamed o u inside_order k (member-at o j whole)) ∙ ap (λ i. power_of (replace (by_place o) u) (Var i)) (place-at o j d whole) ∙ z)

  renamed_in_order : FirstComeInOrder (length before) (unit_variables (replace (by_place o) u)) (length after)
  renamed_in_order = unit_in_order (replace (by_place o) u) (length before) (length after) not_longer renamed_low renamed_new

units_in_order :
    (o : List ℕ) → IsTrue (distinct o) → (done : List ℕ) (us : List PowerMap) → first_occurrences (done ++ flat_map unit_variables us) ≡ o →
    FirstComeInOrder (length (first_occurrences done)) (flat_map unit_variables (map (replace (by_place o)) us)) (length o)
units_in_order o d done [] e = ap (λ l. length (first_occurrences l)) (sym (append-nil done)) ∙ ap length e
units_in_order o d done (u ∷ us) e =
    let rest = flat_map unit_variables us in
    let whole : first_occurrences ((done ++ unit_variables u) ++ rest) ≡ o = ap first_occurrences (append_assoc done (unit_variables u) rest) ∙ e in
    let is : o ≡ first_occurrences (done ++ unit_variables u) ++ added (first_occurrences (done ++ unit_variables u)) rest = sym whole ∙ first-append (done ++ unit_variables u) rest in
    FirstComeInOrder-append (length (first_occurrences done)) (length (first_occurrences (done ++ unit_variables u))) (length o)
    (unit_variables (replace (by_place o) u))
    (flat_map unit_variables (map (replace (by_place o)) us))
    (renamed_in_order o done u (added (first_occurrences (done ++ unit_variables u)) rest) d is)
    (units_in_order o d (done ++ unit_variables u) us whole)

-- ---- the units of types
abbrev type_units : TypeTree → List PowerMap
type_units bool_type = []
type_units (num_type u) = u ∷ []
type_units (list_type t) = type_units t
type_units (record_type r us) = us

type_variables-units : (t : TypeTree) → type_variables t ≡ flat_map unit_variables (type_units t)
type_variables-units bool_type = refl
type_variables-units (num_type u) = sym (append-nil (unit_variables u))
type_variables-units (list_type t) = type_variables-units t
type_variables-units (record_type r us) = refl

type_units-put : (s : ℕ → PowerMap) (t : TypeTree) → type_units (put s t) ≡ map (replace s) (type_units t)
type_units-put s bool_type = refl
type_units-put s (num_type u) = refl
type_units-put s (list_type t) = type_units-put s t
type_units-put s (record_type r us) = refl

variables-units : (ts : List TypeTree) → variables ts ≡ flat_map unit_variables (flat_map type_units ts)
variables-units [] = refl
variables-units (t ∷ ts) =
    ap (λ ks. ks ++ variables ts) (type_variables-units t) ∙ ap (λ ks. flat_map unit_variables (type_units t) ++ ks) (variables-units ts) ∙ sym (flat_map-append unit_variables (type_units t) (flat_map type_units ts))

units-put : (s : ℕ → PowerMap) (ts : List TypeTree) → flat_map type_units (map (put s) ts) ≡ map (replace s) (flat_map type_units ts)
units-put s [] = refl
units-put s (t ∷ ts) =
    ap (λ us. us ++ flat_map type_units (map (put s) ts)) (type_units-put s t) ∙ ap (λ us. map (replace s) (type_units t) ++ us) (units-put s ts) ∙ sym (map-append (replace s) (type_units t) (flat_map type_units ts))

-- ---- the renumbered types
pub renumbered_is_numbered : (ts : List TypeTree) → IsNumberedBy (length (variable_order ts)) (renumbered ts)
renumbered_is_numbered ts =
    let o = variable_order ts in
    subst (λ ks. FirstComeInOrder 0 ks (length o)) (sym (variables-units (renumbered ts) ∙ ap (flat_map unit_variables) (units-put (by_place o) ts)))
    (units_in_order o (distinct-first (variables ts)) [] (flat_map type_units ts) (ap first_occurrences (sym (variables-units ts))))

-- two variables have two numbers
Contains-member : (xs : List ℕ) (k : ℕ) → Contains xs k → IsTrue (member k xs)
Contains-member xs k h = list_any-from_Contains nat_eq_equiv k xs h

pub one_for_one : (ts : List TypeTree) → AreRenamedOneForOne ts
one_for_one ts j k h g e =
    same_place (variable_order ts) j k (member-first j (variables ts) ∙ Contains-member (variables ts) j h) (member-first k (variables ts) ∙ Contains-member (variables ts) k g) e

-- the numbers of an order put back
abbrev put_back : List ℕ → (ℕ → PowerMap) → ℕ → PowerMap
put_back o s j = s (get_or o j 0)

pub same_instances : (ts : List TypeTree) → HaveSameInstances ts (renumbered ts)
same_instances ts vs = (
  (λ p. (put_back o p.0, p.1 ∙ sym (again p.0))),
  (λ p. ((λ k. replace p.0 (by_place o k)), p.1 ∙ puts-put (by_place o) p.0 ts)),
)
  where
    o : List ℕ
    o = variable_order ts

    again : (s : ℕ → PowerMap) → map (put (put_back o s)) (renumbered ts) ≡ map (put s) ts
    again s =
        puts-put (by_place o) (put_back o s) ts
        ∙ puts_alike (λ k. replace (put_back o s) (by_place o k)) s ts (λ k h.
        replace-variable (put_back o s) (place o k) ∙ ap s (at-place o k (member-first k (variables ts) ∙ h)))
