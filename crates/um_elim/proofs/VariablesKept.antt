-- The elimination brings no variable into the units of the slots that isn't below a number that those before were below.
use Rattle.std.proofs.Common.{◌≡◌, ℕ, zero, suc, ◌+◌, ◌<◌, nat_lt, ◌&&◌, Option, Some, None, List, [], ◌∷◌, map, length, ℤ, pos, negsuc, nat_abs, refl, sym, ap, ◌∙◌, subst, arith}
use Rattle.std.specs.Prelude.{◌==◌, All}
use Rattle.std.specs.List.{list_all, flat_map}
use Rattle.std.proofs.lemmas.List.Elements.{All-nil, All-cons, All-head, All-tail, All-append}
use Rattle.std.proofs.lemmas.List.FromFn.{get_or-map-range_with_len}
use Rattle.um_units.specs.declared.Atom.TheVariants.{Base, Var}
use Rattle.um_units.specs.PowerMap.{PowerMap, one, atom, mul, replace, nth}
use Rattle.um_units.specs.Variables.{VariablesBelow}
use Rattle.um_units.specs.Range.{fits}
use Rattle.um_units.proofs.Variables.{IsClosed-one, IsClosed-base, VariablesBelow-closed, VariablesBelow-more, VariablesBelow-variable, VariablesBelow-mul, VariablesBelow-inv, VariablesBelow-replace, VariablesBelow-replace_nth, variables_below-from_VariablesBelow}
use Rattle.um_tree.specs.TypeTree.{TypeTree, bool_type, num_type, list_type, record_type}
use Rattle.um_tree.specs.Typing.{put}
use Rattle.um_tree.specs.Scheme.{unit_variables, type_variables}
use Rattle.um_pivots.specs.declared.pivot.Pivot.{Pivot}
use Rattle.um_pivots.specs.Pivot.{pivot, least_power, has_other, has_base}
use Rattle.um_elim.specs.ElimStep.{substitute, quotients, step, inverted_if_negative}
use Rattle.um_elim.specs.Elimination.{Elimination, Solved, NoSolution, Range, is_empty, ended, after_step, step_at, steps, eliminate}
use Rattle.um_elim.specs.Solution.{own_variables, rigid_unit, rigid_units}
use Rattle.um_elim.proofs.Cases.{on_test}
use Rattle.um_elim.proofs.PivotLaws.{is_pivot}
use Rattle.um_elim.proofs.StepLaws.{less, less-zero, power_of-quotients}
use Rattle.um_elim.proofs.Slots.{length-own, length-rigid}
use Rattle.um_elim.proofs.RenamedUnits.{held-member}
use Rattle.um_elim.proofs.GrowingOrder.{All-front, All-back, All-member, All-from_below}

-- ---- substitutions that stay below
pub own_below : (n k : ℕ) → k < n → VariablesBelow n (atom (Var k))
own_below n k h = VariablesBelow-more (k + 1) n (atom (Var k)) (omega (arith, h)) (VariablesBelow-variable k)

one_below : (n : ℕ) → VariablesBelow n one
one_below n = VariablesBelow-closed n one IsClosed-one

pub quotients_below : (n m p : ℕ) (r : PowerMap) → VariablesBelow n r → VariablesBelow n (quotients m p r)
quotients_below n m p r below k held = below k (λ z. held (power_of-quotients m p r (Var k) ∙ ap (less m p (Var k)) z ∙ less-zero m p (Var k)))

pub inverted_below : (n : ℕ) (a : ℤ) (r : PowerMap) → VariablesBelow n r → VariablesBelow n (inverted_if_negative a r)
inverted_below n (pos a) r below = below
inverted_below n (negsuc a) r below = VariablesBelow-inv n r below

-- each variable below n becomes a unit whose variables are below n
abbrev pub Stays : ℕ → (ℕ → PowerMap) → Type 0
Stays n s = (k : ℕ) → k < n → VariablesBelow n (s k)

substitute_stays : (n m : ℕ) (w : PowerMap) → VariablesBelow n w → Stays n (substitute m w)
substitute_stays n m w below k h = on_test (m == k) (λ e. rw e below) (λ e. rw e (own_below n k h))

step_stays : (n m p : ℕ) (r : PowerMap) → m < n → VariablesBelow n r → Stays n (step m p r)
step_stays n m p r h below =
    substitute_stays n m (mul (atom (Var m)) (quotients m p r)) (VariablesBelow-mul n (atom (Var m)) (quotients m p r) (own_below n m h) (quotients_below n m p r below))

pub replaced_below : (n : ℕ) (s : ℕ → PowerMap) → Stays n s → (u : PowerMap) → VariablesBelow n u → VariablesBelow n (replace s u)
replaced_below n s stays u below = VariablesBelow-replace n s u (λ j held. stays j (below j held))

all_replaced_below : (n : ℕ) (s : ℕ → PowerMap) → Stays n s → (us : List PowerMap) → All (VariablesBelow n) us → All (VariablesBelow n) (map (replace s) us)
all_replaced_below n s stays [] all = All-nil (VariablesBelow n)
all_replaced_below n s stays (u ∷ us) all =
    All-cons (VariablesBelow n) (replace s u) (map (replace s) us)
    (replaced_below n s stays u (All-head (VariablesBelow n) u us all))
    (all_replaced_below n s stays us (All-tail (VariablesBelow n) u us all))

-- ---- the elimination
abbrev SolvedBelow : ℕ → Elimination → Type 0
SolvedBelow n (Solved us) = All (VariablesBelow n) us
SolvedBelow n NoSolution = Unit {0}
SolvedBelow n Range = Unit {0}

module _ (n : ℕ) (again : List PowerMap → PowerMap → Elimination) (rest : (us : List PowerMap) (r : PowerMap) → All (VariablesBelow n) us → VariablesBelow n r → SolvedBelow n (again us r)) where
  ended_below : (m : ℕ) (us : List PowerMap) (r : PowerMap) → All (VariablesBelow n) us → SolvedBelow n (ended m us r)
  ended_below m us r all =
      on_test (has_base r) (λ f. rw f tt) (λ f. rw f (all_replaced_below n (substitute m one) (substitute_stays n m one (one_below n)) us all))

  after_step_below : (m : ℕ) (us : List PowerMap) (r : PowerMap) → All (VariablesBelow n) us → VariablesBelow n r → SolvedBelow n (after_step again m us r)
  after_step_below m us r all below =
      on_test (fits r && list_all fits us)
      (λ f. rw f (on_test (has_other m r) (λ g. rw g (rest us r all below)) (λ g. rw g (ended_below m us r all))))
      (λ f. rw f tt)

  step_at_below : (us : List PowerMap) (r : PowerMap) (o : Option Pivot) → pivot r ≡ o → All (VariablesBelow n) us → VariablesBelow n r → SolvedBelow n (step_at again us r o)
  step_at_below us r None e all below = on_test (is_empty r.terms) (λ f. rw f all) (λ f. rw f tt)
  step_at_below us r (Some t) e all below =
      let found = is_pivot r t e in
      let q = inverted_if_negative t.power r in
      let low = inverted_below n t.power r below in
      let stays = step_stays n t.variable (nat_abs t.power) q (below t.variable (λ z. found.nonzero (sym found.is ∙ z))) low in
      after_step_below t.variable (map (replace (step t.variable (nat_abs t.power) q)) us) (replace (step t.variable (nat_abs t.power) q) q) (all_replaced_below n _ stays us all) (replaced_below n _ stays q low)

steps_below : (n fuel : ℕ) (us : List PowerMap) (r : PowerMap) → All (VariablesBelow n) us → VariablesBelow n r → SolvedBelow n (steps fuel us r)
steps_below n zero us r all below = tt
steps_below n (suc f) us r all below = step_at_below n (steps f) (steps_below n f) us r (pivot r) refl all below

eliminate_below : (n : ℕ) (us : List PowerMap) (row : PowerMap) → VariablesBelow (length us) row → All (VariablesBelow n) us → SolvedBelow n (eliminate us row)
eliminate_below n us row slots all =
    on_test (fits (replace (nth us) row))
    (λ f. rw f (steps_below n (suc (least_power (replace (nth us) row))) us (replace (nth us) row) all (VariablesBelow-replace_nth n us row all slots)))
    (λ f. rw f tt)

pub solved_below : (us : List PowerMap) (row : PowerMap) (new : List PowerMap) → VariablesBelow (length us) row → eliminate us row ≡ Solved new → (n : ℕ) → All (VariablesBelow n) us → All (VariablesBelow n) new
solved_below us row new slots e n all = subst (SolvedBelow n) e (eliminate_below n us row slots all)

pub all_rigid_below : (bases parameters slots : ℕ) → All (VariablesBelow slots) (rigid_units bases parameters slots)
all_rigid_below bases parameters slots k d h =
    let low : k < slots = omega (arith, h, length-rigid bases parameters slots) in
    subst (VariablesBelow slots) (sym (get_or-map-range_with_len (rigid_unit bases parameters) 0 slots k k d low (omega arith)))
    (on_test (nat_lt k parameters)
    (λ t. rw t (VariablesBelow-closed slots (atom (Base (bases + k))) (IsClosed-base (bases + k))))
    (λ t. rw t (own_below slots k low)))

pub all_own_below : (slots : ℕ) → All (VariablesBelow slots) (own_variables slots)
all_own_below slots k d h =
    let low : k < slots = omega (arith, h, length-own slots) in
    subst (VariablesBelow slots) (sym (get_or-map-range_with_len (λ i. atom (Var i)) 0 slots k k d low (omega arith))) (own_below slots k low)

-- ---- a type with units put in
pub unit_all : (n : ℕ) (u : PowerMap) → VariablesBelow n u → All (λ k. k < n) (unit_variables u)
unit_all n u below = All-from_below n u.terms (variables_below-from_VariablesBelow n u below)

pub unit_below : (n : ℕ) (u : PowerMap) → All (λ k. k < n) (unit_variables u) → VariablesBelow n u
unit_below n u all k held = All-member (λ i. i < n) (unit_variables u) k all (held-member u k held)

module _ (n : ℕ) (units : List PowerMap) (all : All (VariablesBelow n) units) where
  put_unit : (u : PowerMap) → All (λ k. k < length units) (unit_variables u) → All (λ k. k < n) (unit_variables (replace (nth units) u))
  put_unit u slots = unit_all n (replace (nth units) u) (VariablesBelow-replace_nth n units u all (unit_below (length units) u slots))

  put_units : (us : List PowerMap) → All (λ k. k < length units) (flat_map unit_variables us) → All (λ k. k < n) (flat_map unit_variables (map (replace (nth units)) us))
  put_units [] slots = All-nil (λ k. k < n)
  put_units (u ∷ us) slots =
      All-append (λ k. k < n) (unit_variables (replace (nth units) u)) (flat_map unit_variables (map (replace (nth units)) us))
      (put_unit u (All-front (λ k. k < length units) (unit_variables u) (flat_map unit_variables us) slots))
      (put_units us (All-back (λ k. k < length units) (unit_variables u) (flat_map unit_variables us) slots))

  pub put_below : (t : TypeTree) → All (λ k. k < length units) (type_variables t) → All (λ k. k < n) (type_variables (put (nth units) t))
  put_below bool_type slots = All-nil (λ k. k < n)
  put_below (num_type u) slots = put_unit u slots
  put_below (list_type t) slots = put_below t slots
  put_below (record_type r us) slots = put_units us slots
