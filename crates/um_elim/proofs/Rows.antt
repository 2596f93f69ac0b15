-- Rows: the elimination of a row keeps exactly those instances that satisfy it, and row after row the instances are
-- exactly the joint solutions.
-- Source: Kennedy (1996), on unification in the free abelian group.
use Rattle.std.proofs.Common.{◌≡◌, ℕ, zero, suc, ◌<◌, true, ◌&&◌, Option, Some, None, List, [], ◌∷◌, ◌++◌, map, length, pos, nat_abs, refl, sym, ◌∙◌, subst, arith}
use Rattle.std.specs.List.{list_all}
use Rattle.std.proofs.lemmas.List.Elements.{All-nil, All-cons, All-head}
use Rattle.um_units.specs.declared.Atom.TheVariants.{Var}
use Rattle.um_units.specs.PowerMap.{PowerMap, power_of, one, replace, nth}
use Rattle.um_units.specs.Range.{fits}
use Rattle.um_units.specs.Variables.{VariablesBelow}
use Rattle.um_units.specs.Solutions.{Solves, IsSolvable}
use Rattle.um_units.proofs.Replacement.{replace-nth_map}
use Rattle.um_units.proofs.Solutions.{IsJointSolution-append, IsJointSolution-front, Solves-back, length-instance, IsSubstitutionInstance_refl}
use Rattle.um_pivots.specs.declared.pivot.Pivot.{Pivot}
use Rattle.um_pivots.specs.Pivot.{pivot, size, least_power, has_other}
use Rattle.um_elim.specs.ElimStep.{step, inverted_if_negative}
use Rattle.um_elim.specs.Elimination.{Elimination, Solved, NoSolution, Range, after_step, step_at, steps, eliminate}
use Rattle.um_elim.specs.Instances.{Satisfies, IsMostGeneral, IsUnsatisfiable, IsRight, SolvesExactly}
use Rattle.um_elim.proofs.Cases.{on_test}
use Rattle.um_elim.proofs.PivotLaws.{is_pivot}
use Rattle.um_elim.proofs.StepLaws.{power_of-step_other, least_power-falls, positive_pivot, positive_size}
use Rattle.um_elim.proofs.MostGeneral.{IsSound, steps_sound}

-- ---- one row
right_from_sound : (old : List PowerMap) (row : PowerMap) → VariablesBelow (length old) row → (o : Elimination) → IsSound old (replace (nth old) row) o → IsRight old row o
right_from_sound old row h (Solved new) g = λ v. (
  (λ i. let w = g.only i.0 in ((w.0, w.2 ∙ i.1), subst (λ z. Satisfies z row) (w.2 ∙ i.1) (replace-nth_map w.0 old row h ∙ w.1))),
  (λ b. let i = b.0 in let w = g.each i.0 (sym (replace-nth_map i.0 old row h) ∙ subst (λ z. Satisfies z row) (sym i.1) b.1) in (w.0, w.1 ∙ i.1)),
)
right_from_sound old row h NoSolution g = λ v i e. g i.0 (sym (replace-nth_map i.0 old row h) ∙ subst (λ z. Satisfies z row) (sym i.1) e)
right_from_sound old row h Range g = tt

pub eliminate_right : (old : List PowerMap) (row : PowerMap) → VariablesBelow (length old) row → IsRight old row (eliminate old row)
eliminate_right old row h =
    let r = replace (nth old) row in
    on_test (fits r)
    (λ e. rw e (right_from_sound old row h _ (steps_sound (suc (least_power r)) old r (omega arith))))
    (λ e. rw e tt)

pub solved_is_most_general : (old : List PowerMap) (row : PowerMap) (new : List PowerMap) → VariablesBelow (length old) row → eliminate old row ≡ Solved new → IsMostGeneral old row new
solved_is_most_general old row new h e = subst (IsRight old row) e (eliminate_right old row h)

pub refused_is_unsatisfiable : (old : List PowerMap) (row : PowerMap) → VariablesBelow (length old) row → eliminate old row ≡ NoSolution → IsUnsatisfiable old row
refused_is_unsatisfiable old row h e = subst (IsRight old row) e (eliminate_right old row h)

pub length-solved : (old : List PowerMap) (row : PowerMap) (new : List PowerMap) → IsMostGeneral old row new → length new ≡ length old
length-solved old row new g = length-instance old new ((g new).0 (IsSubstitutionInstance_refl new)).0

-- ---- rows one after another
single : (s : ℕ → PowerMap) (row : PowerMap) → replace s row ≡ one → Solves s (row ∷ [])
single s row e = All-cons (λ row. replace s row ≡ one) row [] e (All-nil (λ row. replace s row ≡ one))

last_row : (s : ℕ → PowerMap) (rows : List PowerMap) (row : PowerMap) → Solves s (rows ++ row ∷ []) → replace s row ≡ one
last_row s rows row h = All-head (λ row. replace s row ≡ one) row [] (Solves-back s rows (row ∷ []) h)

pub exactly-more : (slots : ℕ) (rows : List PowerMap) (row : PowerMap) (old new : List PowerMap) → SolvesExactly slots rows old → IsMostGeneral old row new → SolvesExactly slots (rows ++ row ∷ []) new
exactly-more slots rows row old new exact g v = (
  (λ i. let w = (g v).0 i in IsJointSolution-append slots rows (row ∷ []) v ((exact v).0 w.0) (single (nth v) row w.1)),
  (λ joint. (g v).1 ((exact v).1 (IsJointSolution-front slots rows (row ∷ []) v joint), last_row (nth v) rows row joint.solves)),
)

pub unsolvable-more : (slots : ℕ) (rows : List PowerMap) (row : PowerMap) (old : List PowerMap) → SolvesExactly slots rows old → IsUnsatisfiable old row → IsSolvable slots (rows ++ row ∷ []) → ⊥
unsolvable-more slots rows row old exact g solvable =
    let v = solvable.0 in
    let joint = solvable.1 in
    g v ((exact v).1 (IsJointSolution-front slots rows (row ∷ []) v joint)) (last_row (nth v) rows row joint.solves)

-- ---- more steps than are needed change nothing
after_step-alike : (f g : List PowerMap → PowerMap → Elimination) (m : ℕ) (us : List PowerMap) (r : PowerMap) → (has_other m r ≡ true → f us r ≡ g us r) → after_step f m us r ≡ after_step g m us r
after_step-alike f g m us r same = on_test (fits r && list_all fits us)
    (λ e. rw e (on_test (has_other m r) (λ o. rw o (same o)) (λ o. rw o)))
    (λ e. rw e)

step_at-alike : (f g : List PowerMap → PowerMap → Elimination) (us : List PowerMap) (r : PowerMap) (o : Option Pivot) → pivot r ≡ o →
    ((vs : List PowerMap) (v : PowerMap) → least_power v < size o → f vs v ≡ g vs v) → step_at f us r o ≡ step_at g us r o
step_at-alike f g us r None e same = refl
step_at-alike f g us r (Some t) e same =
    let found = is_pivot r t e in
    let m = t.variable in
    let p = nat_abs t.power in
    let q = inverted_if_negative t.power r in
    let at : power_of q (Var m) ≡ pos p = positive_pivot t.power m r found.is in
    let h : 0 < p = positive_size t.power found.nonzero in
    after_step-alike f g m (map (replace (step m p q)) us) (replace (step m p q) q)
    (λ o. same (map (replace (step m p q)) us) (replace (step m p q) q) (least_power-falls m p (replace (step m p q) q) (power_of-step_other m p q h at) o))

pub steps-enough : (n m : ℕ) (us : List PowerMap) (r : PowerMap) → least_power r < n → least_power r < m → steps n us r ≡ steps m us r
steps-enough zero m us r h k = absurd (omega (arith, h))
steps-enough (suc n) zero us r h k = absurd (omega (arith, k))
steps-enough (suc n) (suc m) us r h k = step_at-alike (steps n) (steps m) us r (pivot r) refl (λ vs v l. steps-enough n m vs v (omega (arith, l, h)) (omega (arith, l, k)))
