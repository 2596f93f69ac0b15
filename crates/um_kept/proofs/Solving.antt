-- What is kept is what the elimination of the rows gives, and a row that is refused it refuses too, unless a power passes the
-- range before: the steps of a unit are determined by it, and where they end further steps change nothing.
use Rattle.std.proofs.Common.{◌≡◌, ◌≢◌, ◌⊎◌, inl, inr, ℕ, zero, suc, ◌+◌, ◌<◌, ◌≤◌, false, Some, List, [], ◌∷◌, map, length, drop, get_or, ℤ, pos, neg_ℤ, nat_abs, ◌+ℤ◌, ◌*ℤ◌, refl, sym, ap, ◌∙◌, subst, arith}
use Rattle.std.specs.Prelude.{◌==◌, All}
use Rattle.std.specs.Int.{int_div_euclid}
use Rattle.std.proofs.lemmas.Bool.{eqb-true, eqb-false, ne_eqb}
use Rattle.std.proofs.lemmas.Int.{ints}
use Rattle.std.proofs.lemmas.List.{get_or-map, drop_more, drop_all}
use Rattle.std.proofs.Math.IntN.{*ℤ-zero}
use Rattle.std.proofs.Math.Nat.{div-eq_of_lt}
use Rattle.um_units.specs.declared.Atom.{Atom}
use Rattle.um_units.specs.declared.Atom.TheVariants.{Base, Var}
use Rattle.um_units.specs.Atoms.{same_atom}
use Rattle.um_units.specs.NormalForm.{same_atom-eq}
use Rattle.um_units.specs.PowerMap.{PowerMap, power_of, one, atom, mul, pow, replace, nth}
use Rattle.um_units.specs.Variables.{VariablesBelow}
use Rattle.um_units.proofs.Equality.{same_unit}
use Rattle.um_units.proofs.Group.{power_of-one, power_of-atom, power_of-other_atom, power_of-pow, mul-one, one-pow}
use Rattle.um_pivots.specs.declared.pivot.Pivot.{Pivot}
use Rattle.um_elim.specs.declared.elim_step.ElimStep.{ElimStep}
use Rattle.um_elim.specs.ElimStep.{substitute, multiply, quotients, inverted_if_negative, signed, is_negative, step_of, IsStepOf}
use Rattle.um_elim.specs.Elimination.{Elimination, Solved, NoSolution, Range, eliminate}
use Rattle.um_elim.specs.Solution.{rigid_units}
use Rattle.um_elim.proofs.Cases.{on_test}
use Rattle.um_elim.proofs.PivotLaws.{is_pivot}
use Rattle.um_elim.proofs.Shear.{power_of-multiply, replace-multiply}
use Rattle.um_elim.proofs.StepLaws.{power_of-quotients_pivot, less, power_of-quotients}
use Rattle.um_equal_types.specs.declared.row.Row.{Row}
use Rattle.um_equal_types.specs.Steps.{units_of}
use Rattle.um_rows.specs.FirstUnsolvable.{Solving, solved, unsolved, out_of_range, after_row, solve}
use Rattle.um_elim.specs.EliminationSteps.{unit_after, units_after, AreStepsOf, IsSolvedBySteps, IsClosedLeft, IsStuck}
use Rattle.um_elim.proofs.FollowedSteps.{eliminate_treated, eliminate_refused}
use Rattle.um_kept.specs.declared.row.Refused.{Refused}
use Rattle.um_kept.specs.Kept.{Kept, row_unit, IsRowMade, IsReached, first}
use Rattle.um_kept.specs.Answers.{IsRefusedAs}

-- ---- a unit that is left: 1, or a variable to a positive power
abbrev IsLeft : PowerMap → Type 0
IsLeft r = (r ≡ one) ⊎ ((m p : ℕ) × (0 < p) × (r ≡ pow (atom (Var m)) (pos p)))

power_at : (m p : ℕ) (x : Atom) → power_of (pow (atom (Var m)) (pos p)) x ≡ pos p *ℤ power_of (atom (Var m)) x
power_at m p x = power_of-pow (atom (Var m)) (pos p) x

power_same : (m p : ℕ) → power_of (pow (atom (Var m)) (pos p)) (Var m) ≡ pos p
power_same m p = power_at m p (Var m) ∙ ap (λ z. pos p *ℤ z) (power_of-atom (Var m)) ∙ once (pos p)
  where
    once : (z : ℤ) → z *ℤ pos 1 ≡ z
    once z = omega (arith, ints)

power_other : (m p : ℕ) (x : Atom) → same_atom x (Var m) ≡ false → power_of (pow (atom (Var m)) (pos p)) x ≡ pos 0
power_other m p x e = power_at m p x ∙ ap (λ z. pos p *ℤ z) (power_of-other_atom x (Var m) e) ∙ *ℤ-zero (pos p)

left_no_base : (r : PowerMap) → IsLeft r → (n : ℕ) → power_of r (Base n) ≡ pos 0
left_no_base r (inl e) n = ap (λ u. power_of u (Base n)) e ∙ power_of-one (Base n)
left_no_base r (inr h) n = ap (λ u. power_of u (Base n)) h.3 ∙ power_other h.0 h.1 (Base n) refl

-- ---- no variable, no step
no_step : (r : PowerMap) (t : ElimStep) → ((k : ℕ) → power_of r (Var k) ≡ pos 0) → IsStepOf r t → ⊥
no_step r t closed is = let found = is_pivot r is.0 is.1 in found.nonzero (sym found.is ∙ closed (is.0).variable)

-- ---- the step of a unit that holds one variable, to a positive power
module _ (r : PowerMap) (m p : ℕ) (positive : 0 < p) (at_m : power_of r (Var m) ≡ pos p) (alone : (k : ℕ) → (m == k) ≡ false → power_of r (Var k) ≡ pos 0) (t : ElimStep) (is : IsStepOf r t) where
  pivot_is : (is.0).variable ≡ m
  pivot_is =
      let q = is.0 in
      let found = is_pivot r q is.1 in
      on_test (m == q.variable)
      (λ e. sym (eqb-true m q.variable e))
      (λ e. absurd (found.nonzero (sym found.is ∙ alone q.variable e)))

  pivot_power : (is.0).power ≡ pos p
  pivot_power = let found = is_pivot r is.0 is.1 in sym found.is ∙ ap (λ k. power_of r (Var k)) pivot_is ∙ at_m

  step_is : t ≡ record { variable = m; inverted = false; by = quotients m p r }
  step_is =
      is.2 ∙ ap (λ z. record { variable = (is.0).variable; inverted = is_negative z; by = quotients (is.0).variable (nat_abs z) (inverted_if_negative z r) }) pivot_power
      ∙ ap (λ k. record { variable = k; inverted = false; by = quotients k p r }) pivot_is

  unit_is : replace (multiply t.variable t.by) (signed t.inverted r) ≡ replace (multiply m (quotients m p r)) r
  unit_is = ap (λ (x : ElimStep). replace (multiply x.variable x.by) (signed x.inverted r)) step_is

  units_are : (us : List PowerMap) → map (replace (multiply t.variable t.by)) us ≡ map (replace (multiply m (quotients m p r))) us
  units_are us = ap (λ (x : ElimStep). map (replace (multiply x.variable x.by)) us) step_is

  pub power_after : (x : Atom) → power_of (replace (multiply t.variable t.by) (signed t.inverted r)) x ≡ power_of r x +ℤ pos p *ℤ power_of (quotients m p r) x
  power_after x = ap (λ u. power_of u x) unit_is ∙ power_of-multiply m (quotients m p r) r x ∙ ap (λ z. power_of r x +ℤ z *ℤ power_of (quotients m p r) x) at_m

-- the quotient of what is below p
below_quotient : (m p e : ℕ) (r : PowerMap) (x : Atom) → e < p → power_of r x ≡ pos e → power_of (quotients m p r) x ≡ pos 0
below_quotient m p e r x l is = power_of-quotients m p r x ∙ ap (less m p x) is ∙ on_test (same_atom (Var m) x) (λ f. rw f refl) (λ f. rw f (small e p l))
  where
    small : (e p : ℕ) → e < p → neg_ℤ (int_div_euclid (pos e) (pos p)) ≡ pos 0
    small e p l = ap (λ n. neg_ℤ (pos n)) (div-eq_of_lt l)

stays : (a b p : ℤ) → b ≡ pos 0 → a +ℤ p *ℤ b ≡ a
stays a b p e = ap (λ z. a +ℤ p *ℤ z) e ∙ ap (λ z. a +ℤ z) (*ℤ-zero p) ∙ nothing a
  where
    nothing : (a : ℤ) → a +ℤ pos 0 ≡ a
    nothing a = omega (arith, ints)

-- ---- the steps of a variable to a power alone change nothing
replace-multiply_one : (m : ℕ) (w u : PowerMap) → w ≡ one → replace (multiply m w) u ≡ u
replace-multiply_one m w u e = replace-multiply m w u ∙ ap (λ v. mul u (pow v (power_of u (Var m)))) e ∙ ap (mul u) (one-pow (power_of u (Var m))) ∙ mul-one u

all_same : (f : PowerMap → PowerMap) → ((u : PowerMap) → f u ≡ u) → (us : List PowerMap) → map f us ≡ us
all_same f same [] = refl
all_same f same (u ∷ us) = λ i. same u i ∷ all_same f same us i

abbrev ChangesNothing : List ElimStep → PowerMap → Type 0
ChangesNothing ts r = (unit_after ts r ≡ r) × ((us : List PowerMap) → units_after ts us ≡ us)

power_stays : (m p : ℕ) (ts : List ElimStep) (r : PowerMap) → 0 < p → r ≡ pow (atom (Var m)) (pos p) → AreStepsOf r ts → ChangesNothing ts r
power_stays m p [] r h e are = (refl, (λ us. refl))
power_stays m p (t ∷ ts) r h e are =
    let rest = power_stays m p ts (replace (multiply t.variable t.by) (signed t.inverted r)) h (same ∙ e) are.1 in (
      rest.0 ∙ same,
      (λ us. rest.1 (map (replace (multiply t.variable t.by)) us) ∙ units_are r m p h at_m alone t are.0 us ∙ all_same (replace (multiply m (quotients m p r))) (λ u. replace-multiply_one m (quotients m p r) u none) us),
    )
  where
    at_m : power_of r (Var m) ≡ pos p
    at_m = ap (λ u. power_of u (Var m)) e ∙ power_same m p

    other : (x : Atom) → same_atom (Var m) x ≡ false → power_of r x ≡ pos 0
    other (Base n) f = ap (λ u. power_of u (Base n)) e ∙ power_other m p (Base n) refl
    other (Var k) f = ap (λ u. power_of u (Var k)) e ∙ power_other m p (Var k) (turned_round f)
      where
        turned_round : (m == k) ≡ false → (k == m) ≡ false
        turned_round g = ne_eqb k m (λ q. eqb-false m k g (sym q))

    alone : (k : ℕ) → (m == k) ≡ false → power_of r (Var k) ≡ pos 0
    alone k f = other (Var k) f

    none : quotients m p r ≡ one
    none = same_unit _ _ (λ x. on_test (same_atom (Var m) x)
        (λ f. ap (power_of (quotients m p r)) (sym (same_atom-eq (Var m) x f)) ∙ power_of-quotients_pivot m p r ∙ sym (power_of-one x))
        (λ f. below_quotient m p 0 r x h (other x f) ∙ sym (power_of-one x)))

    same : replace (multiply t.variable t.by) (signed t.inverted r) ≡ r
    same = unit_is r m p h at_m alone t are.0 ∙ replace-multiply_one m (quotients m p r) r none

left_stays : (ts : List ElimStep) (r : PowerMap) → IsLeft r → AreStepsOf r ts → ChangesNothing ts r
left_stays [] r l are = (refl, (λ us. refl))
left_stays (t ∷ ts) r (inl e) are = absurd (no_step r t (λ k. ap (λ u. power_of u (Var k)) e ∙ power_of-one (Var k)) are.0)
left_stays (t ∷ ts) r (inr h) are = power_stays h.0 h.1 (t ∷ ts) r h.2 h.3 are

-- ---- steps are determined
same_step : (r : PowerMap) (t s : ElimStep) → IsStepOf r t → IsStepOf r s → t ≡ s
same_step r t s a b = let q : a.0 ≡ b.0 = some (sym a.1 ∙ b.1) in a.2 ∙ ap (λ (p : Pivot). step_of p r) q ∙ sym b.2
  where
    some : {p q : Pivot} → Some p ≡ Some q → p ≡ q
    some e = cc e

-- units after both ends
pub same_units : (ts ss : List ElimStep) (r : PowerMap) (us : List PowerMap) → AreStepsOf r ts → AreStepsOf r ss → IsLeft (unit_after ts r) → IsLeft (unit_after ss r) →
    (unit_after ts r ≡ unit_after ss r) × (units_after ts us ≡ units_after ss us)
same_units [] ss r us a b l k = let w = left_stays ss r l b in (sym w.0, sym (w.1 us))
same_units (t ∷ ts) [] r us a b l k = let w = left_stays (t ∷ ts) r k a in (w.0, w.1 us)
same_units (t ∷ ts) (s ∷ ss) r us a b l k =
    let e : s ≡ t = same_step r s t b.0 a.0 in
    let f = λ (x : ElimStep). replace (multiply x.variable x.by) (signed x.inverted r) in
    let g = λ (x : ElimStep). map (replace (multiply x.variable x.by)) us in
    let rest = same_units ts ss (f t) (g t) a.1 (subst (λ x. AreStepsOf (f x) ss) e b.1) l (subst (λ x. IsLeft (unit_after ss (f x))) e k) in
    (rest.0 ∙ ap (λ x. unit_after ss (f x)) (sym e), rest.1 ∙ ap (λ x. units_after ss (g x)) (sym e))

-- ---- the base unit that keeps a unit from becoming 1 stays
stuck_stays : (m p n e : ℕ) (ts : List ElimStep) (r : PowerMap) → 0 < p → power_of r (Var m) ≡ pos p → ((k : ℕ) → (m == k) ≡ false → power_of r (Var k) ≡ pos 0) → e < p → power_of r (Base n) ≡ pos e → AreStepsOf r ts →
    power_of (unit_after ts r) (Base n) ≡ pos e
stuck_stays m p n e [] r h at_m alone l base are = base
stuck_stays m p n e (t ∷ ts) r h at_m alone l base are =
    stuck_stays m p n e ts (replace (multiply t.variable t.by) (signed t.inverted r)) h
    (power_after r m p h at_m alone t are.0 (Var m) ∙ stays (power_of r (Var m)) (power_of (quotients m p r) (Var m)) (pos p) (power_of-quotients_pivot m p r) ∙ at_m)
    (λ k f. power_after r m p h at_m alone t are.0 (Var k) ∙ stays (power_of r (Var k)) (power_of (quotients m p r) (Var k)) (pos p) (below_quotient m p 0 r (Var k) h (alone k f)) ∙ alone k f)
    l
    (power_after r m p h at_m alone t are.0 (Base n) ∙ stays (power_of r (Base n)) (power_of (quotients m p r) (Base n)) (pos p) (below_quotient m p e r (Base n) l base) ∙ base)
    are.1

-- what refuses a unit
abbrev Refuses : List ElimStep → PowerMap → Type 0
Refuses ts r = IsClosedLeft ts r ⊎ IsStuck ts r

no_zero : (e : ℕ) → 0 < e → pos e ≡ pos 0 → ⊥
no_zero e h q = omega (arith, ints, h, q)

refused_base : (ts : List ElimStep) (r : PowerMap) → Refuses ts r → (n : ℕ) × (power_of (unit_after ts r) (Base n) ≢ pos 0)
refused_base ts r (inl c) = (c.n, c.nonzero)
refused_base ts r (inr s) = (s.n, λ z. no_zero s.e s.e_positive (sym s.base ∙ z))

refused_behind : (t : ElimStep) (ts : List ElimStep) (r : PowerMap) → Refuses (t ∷ ts) r → Refuses ts (replace (multiply t.variable t.by) (signed t.inverted r))
refused_behind t ts r (inl c) = inl (record { closed = c.closed; n = c.n; nonzero = c.nonzero })
refused_behind t ts r (inr s) =
    inr (record { m = s.m; p = s.p; positive = s.positive; is = s.is; alone = s.alone; n = s.n; e = s.e; e_positive = s.e_positive; below = s.below; base = s.base })

-- a unit isn't left as 1 or a power and refused too
pub not_both : (ts ss : List ElimStep) (r : PowerMap) → AreStepsOf r ts → AreStepsOf r ss → IsLeft (unit_after ts r) → Refuses ss r → ⊥
not_both [] ss r a b l refused =
    let w = left_stays ss r l b in
    let q = refused_base ss r refused in
    q.1 (ap (λ u. power_of u (Base q.0)) w.0 ∙ left_no_base r l q.0)
not_both (t ∷ ts) [] r a b l (inl c) = no_step r t c.closed a.0
not_both (t ∷ ts) [] r a b l (inr s) =
    no_zero s.e s.e_positive (sym (stuck_stays s.m s.p s.n s.e (t ∷ ts) r s.positive s.is s.alone s.below s.base a) ∙ left_no_base (unit_after (t ∷ ts) r) l s.n)
not_both (t ∷ ts) (s ∷ ss) r a b l refused =
    let e : s ≡ t = same_step r s t b.0 a.0 in
    let f = λ (x : ElimStep). replace (multiply x.variable x.by) (signed x.inverted r) in
    not_both ts ss (f t) a.1 (subst (λ x. AreStepsOf (f x) ss) e b.1) l (subst (λ x. Refuses ss (f x)) e (refused_behind s ss r refused))

-- ---- a row
abbrev Eliminates : List PowerMap → PowerMap → Elimination → Type 0
Eliminates us row o = (eliminate us row ≡ o) ⊎ (eliminate us row ≡ Range)

no_power_one : (m p : ℕ) → 0 < p → one ≡ pow (atom (Var m)) (pos p) → ⊥
no_power_one m p h e = no_zero p h (sym (power_same m p) ∙ ap (λ u. power_of u (Var m)) (sym e) ∙ power_of-one (Var m))

same_variable : (m p k q : ℕ) → 0 < p → pow (atom (Var m)) (pos p) ≡ pow (atom (Var k)) (pos q) → m ≡ k
same_variable m p k q h e =
    on_test (m == k)
    (λ f. eqb-true m k f)
    (λ f. absurd (no_zero p h (sym (power_same m p) ∙ ap (λ u. power_of u (Var m)) e ∙ power_other k q (Var m) f)))

module _ (rows : List PowerMap) (kept : Kept) (k : ℕ) where
  abbrev us : List PowerMap
  us = kept.solution

  abbrev r : PowerMap
  r = row_unit rows kept k

  made_left : (next : Kept) → (made : IsRowMade rows kept k next) → IsLeft (unit_after made.0 r)
  made_left next made = elim made.2 [ inl h ↦ inl h.0 | inr h ↦ inr (h.0, h.1, (h.2).0, (h.2).1) ]

  treated_left : (vs : List PowerMap) (t : IsSolvedBySteps us r vs) → IsLeft (unit_after t.steps r)
  treated_left vs t = elim t.ends [ inl h ↦ inl h.left | inr h ↦ inr (h.m, h.p, h.positive, h.left) ]

  same_solution : (next : Kept) (vs : List PowerMap) → IsRowMade rows kept k next → IsSolvedBySteps us r vs → vs ≡ next.solution
  same_solution next vs made t =
      let w = same_units t.steps made.0 r us t.are made.1 (treated_left vs t) (made_left next made) in
      elim t.ends [
        | inl a ↦ elim made.2 [
          | inl b ↦ a.units ∙ w.1 ∙ ap (λ (x : Kept). x.solution) (sym b.1)
          | inr b ↦ absurd (no_power_one b.0 b.1 (b.2).0 (sym a.left ∙ w.0 ∙ (b.2).1))
        ]
        | inr a ↦ elim made.2 [
          | inl b ↦ absurd (no_power_one a.m a.p a.positive (sym b.0 ∙ sym w.0 ∙ a.left))
          | inr b ↦
              let q = same_variable a.m a.p b.0 b.1 a.positive (sym a.left ∙ w.0 ∙ (b.2).1) in
              a.units ∙ ap (map (replace (substitute a.m one))) w.1 ∙ ap (λ v. map (replace (substitute v one)) (units_after made.0 us)) q ∙ ap (λ (x : Kept). x.solution) (sym b.3)
        ]
      ]

  pub made_eliminates : (next : Kept) → IsRowMade rows kept k next → Eliminates us (nth rows k) (Solved next.solution)
  made_eliminates next made = at (eliminate us (nth rows k)) refl
    where
      at : (o : Elimination) → eliminate us (nth rows k) ≡ o → Eliminates us (nth rows k) (Solved next.solution)
      at (Solved vs) e = inl (e ∙ ap Solved (same_solution next vs made (eliminate_treated us (nth rows k) vs e)))
      at NoSolution e = let refused = eliminate_refused us (nth rows k) e in absurd (not_both made.0 refused.steps r made.1 refused.are (made_left next made) refused.ends)
      at Range e = inr e

  pub refused_eliminates : (refused : Refused) → IsRefusedAs rows kept k refused → Eliminates us (nth rows k) NoSolution
  refused_eliminates refused by = at (eliminate us (nth rows k)) refl
    where
      at : (o : Elimination) → eliminate us (nth rows k) ≡ o → Eliminates us (nth rows k) NoSolution
      at (Solved vs) e = let t = eliminate_treated us (nth rows k) vs e in absurd (not_both t.steps by.steps r t.are by.are (treated_left vs t) by.ends)
      at NoSolution e = inl e
      at Range e = inr e

-- ---- rows
abbrev Comes : List Row → List PowerMap → Solving → Type 0
Comes rows start end = (solve 0 rows start ≡ end) ⊎ ((at : ℕ) × (solve 0 rows start ≡ out_of_range at))

module _ (rows : List Row) (start : List PowerMap) where
  -- the next row
  on_row : (k : ℕ) (us : List PowerMap) (o : Elimination) → k < length rows → Comes rows start (solve k (drop k rows) us) → Eliminates us (nth (units_of rows) k) o →
      (at : ℕ) × Comes rows start (after_row k at o (solve (suc k) (drop (suc k) rows)))
  on_row k us o l so e = (
    row.at,
    elim so [
      | inl f ↦ elim e [
        | inl g ↦ inl (f ∙ step ∙ ap (λ q. after_row k row.at q (solve (suc k) (drop (suc k) rows))) (ap (eliminate us) (sym unit) ∙ g))
        | inr g ↦ inr (row.at, f ∙ step ∙ ap (λ q. after_row k row.at q (solve (suc k) (drop (suc k) rows))) (ap (eliminate us) (sym unit) ∙ g))
      ]
      | inr f ↦ inr f
    ],
  )
    where
      none : Row
      none = record { at = 0; unit = one }

      row : Row
      row = get_or rows k none

      unit : nth (units_of rows) k ≡ row.unit
      unit = get_or-map (λ (x : Row). x.unit) rows k none (atom (Var k)) l

      one_more : drop k rows ≡ row ∷ drop (suc k) rows
      one_more = drop_more rows k none l ∙ ap (λ n. row ∷ drop n rows) (next k)
        where
          next : (k : ℕ) → k + 1 ≡ suc k
          next k = omega arith

      step : solve k (drop k rows) us ≡ after_row k row.at (eliminate us row.unit) (solve (suc k) (drop (suc k) rows))
      step = ap (λ l. solve k l us) one_more

module _ (bases parameters slots : ℕ) (rows : List Row) where
  abbrev begin : List PowerMap
  begin = rigid_units bases parameters slots

  reached_comes : (k : ℕ) (kept : Kept) → k ≤ length rows → IsReached (units_of rows) (first bases parameters slots) k kept → Comes rows begin (solve k (drop k rows) kept.solution)
  reached_comes zero kept l h = inl (ap (solve 0 rows) (ap (λ (x : Kept). x.solution) (sym h)))
  reached_comes (suc k) kept l h =
      (on_row rows begin k (h.0).solution (Solved kept.solution) (omega (arith, l)) (reached_comes k h.0 (omega (arith, l)) h.1) (made_eliminates (units_of rows) h.0 k kept h.2)).1

pub reached_solved : (bases parameters slots : ℕ) (rows : List Row) (kept : Kept) → parameters ≤ slots → All (VariablesBelow slots) (units_of rows) →
    IsReached (units_of rows) (first bases parameters slots) (length rows) kept →
    (solve 0 rows (rigid_units bases parameters slots) ≡ solved kept.solution) ⊎ ((at : ℕ) × (solve 0 rows (rigid_units bases parameters slots) ≡ out_of_range at))
reached_solved bases parameters slots rows kept few low h =
    subst (λ l. Comes rows (rigid_units bases parameters slots) (solve (length rows) l kept.solution)) (drop_all (length rows) rows (omega arith))
    (reached_comes bases parameters slots rows (length rows) kept (omega arith) h)

pub refused_unsolved : (bases parameters slots : ℕ) (rows : List Row) (row : ℕ) (kept : Kept) (refused : Refused) → parameters ≤ slots → All (VariablesBelow slots) (units_of rows) → row < length rows →
    IsReached (units_of rows) (first bases parameters slots) row kept → IsRefusedAs (units_of rows) kept row refused →
    ((at : ℕ) × (solve 0 rows (rigid_units bases parameters slots) ≡ unsolved row at)) ⊎ ((at : ℕ) × (solve 0 rows (rigid_units bases parameters slots) ≡ out_of_range at))
refused_unsolved bases parameters slots rows row kept refused few low inside h by =
    let w = on_row rows (rigid_units bases parameters slots) row kept.solution NoSolution inside (reached_comes bases parameters slots rows row kept (omega (arith, inside)) h) (refused_eliminates (units_of rows) kept row refused by) in
    elim w.1 [ inl e ↦ inl (w.0, e) | inr e ↦ inr e ]
