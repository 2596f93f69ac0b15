-- A variable that no unit of the slots holds: the elimination brings it into none, and neither do unit parameters that become
-- other variables.
use Rattle.std.proofs.Common.{◌≡◌, ◌≢◌, ℕ, zero, suc, ◌+◌, ◌-◌, ◌<◌, ◌≤◌, nat_lt, ◌&&◌, Option, Some, None, List, [], ◌∷◌, map, length, ℤ, pos, negsuc, ◌+ℤ◌, ◌*ℤ◌, nat_abs, cond, refl, sym, ap, ◌∙◌, subst, arith}
use Rattle.std.specs.Prelude.{◌==◌, All}
use Rattle.std.specs.List.{list_all}
use Rattle.std.proofs.lemmas.Bool.{ne_eqb}
use Rattle.std.proofs.lemmas.Bool.Decides.{nat_tests}
use Rattle.std.proofs.Math.IntN.{*ℤ-zero}
use Rattle.std.proofs.lemmas.List.Elements.{All-nil, All-cons, All-head, All-tail, All-get_or}
use Rattle.std.proofs.lemmas.List.FromFn.{get_or-map-range_with_len}
use Rattle.um_units.specs.declared.Atom.{Atom}
use Rattle.um_units.specs.declared.Atom.TheVariants.{Base, Var}
use Rattle.um_units.specs.declared.Term.{Term}
use Rattle.um_units.specs.Terms.{weigh, indicator}
use Rattle.um_units.specs.PowerMap.{PowerMap, power_of, one, atom, mul, inv, image, replace, nth}
use Rattle.um_units.specs.Range.{fits}
use Rattle.um_units.specs.Variables.{VariablesBelow}
use Rattle.um_units.proofs.Equality.{tail_only}
use Rattle.um_units.proofs.Group.{weight-mul, weight-pow, power_of-other_atom}
use Rattle.um_units.proofs.Replacement.{power_of-replace, weight_held, extension-mul, extension-atom}
use Rattle.um_units.proofs.Variables.{IsClosed-one, IsClosed-base}
use Rattle.um_tree.proofs.Homomorphisms.{power_of-h}
use Rattle.um_pivots.specs.declared.pivot.Pivot.{Pivot}
use Rattle.um_pivots.specs.Pivot.{pivot, least_power, has_other, has_base}
use Rattle.um_elim.specs.ElimStep.{substitute, quotients, step, inverted_if_negative}
use Rattle.um_elim.specs.Elimination.{Elimination, Solved, NoSolution, Range, is_empty, ended, after_step, step_at, steps, eliminate}
use Rattle.um_elim.specs.Solution.{rigid_unit, rigid_units}
use Rattle.um_elim.proofs.Cases.{on_test}
use Rattle.um_elim.proofs.PivotLaws.{is_pivot}
use Rattle.um_elim.proofs.StepLaws.{less, less-zero, power_of-quotients}
use Rattle.um_elim.proofs.Rows.{solved_is_most_general, length-solved}
use Rattle.um_elim.proofs.Slots.{length-rigid}
use Rattle.um_equal_types.specs.declared.row.Row.{Row}
use Rattle.um_equal_types.specs.Steps.{units_of}
use Rattle.um_rows.specs.FirstUnsolvable.{Solving, solved, unsolved, out_of_range, after_row, solve}
use Rattle.um_rows.specs.Generalised.{is_parameter, generalised_atom, generalised_unit}

-- the unit doesn't hold variable k
abbrev pub Lacks : ℕ → PowerMap → Type 0
Lacks k u = power_of u (Var k) ≡ pos 0

weigh-zero : (ts : List Term) → weigh (λ _. pos 0) ts ≡ pos 0
weigh-zero [] = refl
weigh-zero (t ∷ ts) = ap (λ z. t.power *ℤ pos 0 +ℤ z) (weigh-zero ts) ∙ tail_only t.power (pos 0)

module _ (k : ℕ) where
  -- ---- operations
  other_lacks : (j : ℕ) → k ≢ j → Lacks k (atom (Var j))
  other_lacks j ne = power_of-other_atom (Var k) (Var j) (ne_eqb k j ne)

  mul_lacks : (u v : PowerMap) → Lacks k u → Lacks k v → Lacks k (mul u v)
  mul_lacks u v a b = weight-mul (indicator (Var k)) u v ∙ ap (λ n. n +ℤ power_of v (Var k)) a ∙ ap (λ n. pos 0 +ℤ n) b

  inv_lacks : (u : PowerMap) → Lacks k u → Lacks k (inv u)
  inv_lacks u a = weight-pow (indicator (Var k)) u (negsuc 0) ∙ ap (λ z. negsuc 0 *ℤ z) a ∙ *ℤ-zero (negsuc 0)

  -- where each variable that the unit holds becomes a unit without it
  pub replace_lacks : (s : ℕ → PowerMap) (u : PowerMap) → ((j : ℕ) → power_of u (Var j) ≢ pos 0 → Lacks k (s j)) → Lacks k (replace s u)
  replace_lacks s u lacks = power_of-replace s u (Var k) ∙ weight_held _ (λ _. pos 0) u at ∙ weigh-zero u.terms
    where
      at : (x : Atom) → power_of u x ≢ pos 0 → power_of (image s x) (Var k) ≡ pos 0
      at (Base m) held = IsClosed-base m k
      at (Var j) held = lacks j held

  -- ---- substitutions under which each other variable becomes a unit without it
  abbrev Stays : (ℕ → PowerMap) → Type 0
  Stays s = (j : ℕ) → k ≢ j → Lacks k (s j)

  held_other : (u : PowerMap) → Lacks k u → (j : ℕ) → power_of u (Var j) ≢ pos 0 → k ≢ j
  held_other u lacks j held e = held (ap (λ i. power_of u (Var i)) (sym e) ∙ lacks)

  replaced : (s : ℕ → PowerMap) → Stays s → (u : PowerMap) → Lacks k u → Lacks k (replace s u)
  replaced s stays u lacks = replace_lacks s u (λ j held. stays j (held_other u lacks j held))

  all_replaced : (s : ℕ → PowerMap) → Stays s → (us : List PowerMap) → All (Lacks k) us → All (Lacks k) (map (replace s) us)
  all_replaced s stays [] all = All-nil (Lacks k)
  all_replaced s stays (u ∷ us) all =
      All-cons (Lacks k) (replace s u) (map (replace s) us) (replaced s stays u (All-head (Lacks k) u us all)) (all_replaced s stays us (All-tail (Lacks k) u us all))

  quotients_lack : (m p : ℕ) (r : PowerMap) → Lacks k r → Lacks k (quotients m p r)
  quotients_lack m p r lacks = power_of-quotients m p r (Var k) ∙ ap (less m p (Var k)) lacks ∙ less-zero m p (Var k)

  inverted_lacks : (a : ℤ) (r : PowerMap) → Lacks k r → Lacks k (inverted_if_negative a r)
  inverted_lacks (pos a) r lacks = lacks
  inverted_lacks (negsuc a) r lacks = inv_lacks r lacks

  substitute_stays : (m : ℕ) (w : PowerMap) → Lacks k w → Stays (substitute m w)
  substitute_stays m w lacks j ne = on_test (m == j) (λ e. rw e lacks) (λ e. rw e (other_lacks j ne))

  step_stays : (m p : ℕ) (r : PowerMap) → k ≢ m → Lacks k r → Stays (step m p r)
  step_stays m p r ne lacks = substitute_stays m (mul (atom (Var m)) (quotients m p r)) (mul_lacks (atom (Var m)) (quotients m p r) (other_lacks m ne) (quotients_lack m p r lacks))

  -- ---- the elimination
  abbrev SolvedLacks : Elimination → Type 0
  SolvedLacks (Solved us) = All (Lacks k) us
  SolvedLacks NoSolution = Unit {0}
  SolvedLacks Range = Unit {0}

  module _ (again : List PowerMap → PowerMap → Elimination) (rest : (us : List PowerMap) (r : PowerMap) → All (Lacks k) us → Lacks k r → SolvedLacks (again us r)) where
    ended_lacks : (m : ℕ) (us : List PowerMap) (r : PowerMap) → All (Lacks k) us → SolvedLacks (ended m us r)
    ended_lacks m us r all = on_test (has_base r) (λ f. rw f tt) (λ f. rw f (all_replaced (substitute m one) (substitute_stays m one (IsClosed-one k)) us all))

    after_step_lacks : (m : ℕ) (us : List PowerMap) (r : PowerMap) → All (Lacks k) us → Lacks k r → SolvedLacks (after_step again m us r)
    after_step_lacks m us r all lacks =
        on_test (fits r && list_all fits us)
        (λ f. rw f (on_test (has_other m r) (λ g. rw g (rest us r all lacks)) (λ g. rw g (ended_lacks m us r all))))
        (λ f. rw f tt)

    step_at_lacks : (us : List PowerMap) (r : PowerMap) (o : Option Pivot) → pivot r ≡ o → All (Lacks k) us → Lacks k r → SolvedLacks (step_at again us r o)
    step_at_lacks us r None e all lacks = on_test (is_empty r.terms) (λ f. rw f all) (λ f. rw f tt)
    step_at_lacks us r (Some t) e all lacks =
        let found = is_pivot r t e in
        let q = inverted_if_negative t.power r in
        let other : k ≢ t.variable = held_other r lacks t.variable (λ z. found.nonzero (sym found.is ∙ z)) in
        let low = inverted_lacks t.power r lacks in
        let stays = step_stays t.variable (nat_abs t.power) q other low in
        after_step_lacks t.variable (map (replace (step t.variable (nat_abs t.power) q)) us) (replace (step t.variable (nat_abs t.power) q) q) (all_replaced _ stays us all) (replaced _ stays q low)

  steps_lack : (fuel : ℕ) (us : List PowerMap) (r : PowerMap) → All (Lacks k) us → Lacks k r → SolvedLacks (steps fuel us r)
  steps_lack zero us r all lacks = tt
  steps_lack (suc f) us r all lacks = step_at_lacks (steps f) (steps_lack f) us r (pivot r) refl all lacks

  -- the row's slots have units without it
  pub put_lacks : (us : List PowerMap) (row : PowerMap) → VariablesBelow (length us) row → All (Lacks k) us → Lacks k (replace (nth us) row)
  put_lacks us row slots all = replace_lacks (nth us) row (λ j held. All-get_or (Lacks k) us j (atom (Var j)) (slots j held) all)

  eliminate_lacks : (us : List PowerMap) (row : PowerMap) → VariablesBelow (length us) row → All (Lacks k) us → SolvedLacks (eliminate us row)
  eliminate_lacks us row slots all =
      on_test (fits (replace (nth us) row))
      (λ f. rw f (steps_lack (suc (least_power (replace (nth us) row))) us (replace (nth us) row) all (put_lacks us row slots all)))
      (λ f. rw f tt)

  -- ---- row after row
  abbrev SolvingLacks : Solving → Type 0
  SolvingLacks (solved us) = All (Lacks k) us
  SolvingLacks (unsolved i at) = Unit {0}
  SolvingLacks (out_of_range at) = Unit {0}

  solving_lacks : (n i : ℕ) (rows : List Row) (us : List PowerMap) → length us ≡ n → All (VariablesBelow n) (units_of rows) → All (Lacks k) us → SolvingLacks (solve i rows us)
  solving_lacks n i [] us l low all = all
  solving_lacks n i (r ∷ rows) us l low all = found (λ vs m more. solving_lacks n (suc i) rows vs m (All-tail (VariablesBelow n) r.unit (units_of rows) low) more) (eliminate us r.unit) refl
    where
      h : VariablesBelow (length us) r.unit
      h = subst (λ m. VariablesBelow m r.unit) (sym l) (All-head (VariablesBelow n) r.unit (units_of rows) low)

      found : ((vs : List PowerMap) → length vs ≡ n → All (Lacks k) vs → SolvingLacks (solve (suc i) rows vs)) → (o : Elimination) → eliminate us r.unit ≡ o → SolvingLacks (after_row i r.at o (solve (suc i) rows))
      found rest (Solved vs) e =
          rest vs (length-solved us r.unit vs (solved_is_most_general us r.unit vs h e) ∙ l) (subst SolvedLacks e (eliminate_lacks us r.unit h all))
      found rest NoSolution e = tt
      found rest Range e = tt

  pub solved_lack : (n : ℕ) (rows : List Row) (us new : List PowerMap) → length us ≡ n → All (VariablesBelow n) (units_of rows) → All (Lacks k) us → solve 0 rows us ≡ solved new → All (Lacks k) new
  solved_lack n rows us new l low all e = subst SolvingLacks e (solving_lacks n 0 rows us l low all)

  -- ---- unit parameters
  module _ (bases parameters slots : ℕ) where
    -- the slot of a unit parameter has its base unit, and no other slot has its variable
    pub rigid_lack : k < parameters → All (Lacks k) (rigid_units bases parameters slots)
    rigid_lack below i d h =
        let low : i < slots = omega (arith, h, length-rigid bases parameters slots) in
        subst (Lacks k) (sym (get_or-map-range_with_len (rigid_unit bases parameters) 0 slots i i d low (omega arith)))
        (on_test (nat_lt i parameters)
        (λ t. rw t (IsClosed-base (bases + i) k))
        (λ t. let past : parameters ≤ i = grind (arith, nat_tests) in rw t (other_lacks i (λ e. absurd (omega (arith, e, past, below))))))

    abbrev in_place : Atom → PowerMap
    in_place x = atom (generalised_atom bases parameters slots x)

    behind_lacks : k < slots → (m : ℕ) → Lacks k (in_place (Base m))
    behind_lacks below m =
        on_test (is_parameter bases parameters slots m)
        (λ t. ap (λ b. power_of (atom (cond b (Var (slots + (m - bases))) (Base m))) (Var k)) t ∙ other_lacks (slots + (m - bases)) (λ e. absurd (omega (arith, e, below))))
        (λ t. ap (λ b. power_of (atom (cond b (Var (slots + (m - bases))) (Base m))) (Var k)) t ∙ IsClosed-base m k)

    -- and they become variables behind the slots
    pub general_lacks : k < slots → (u : PowerMap) → Lacks k u → Lacks k (generalised_unit bases parameters slots u)
    general_lacks below u lacks =
        power_of-h (generalised_unit bases parameters slots) (extension-mul in_place) u (Var k) ∙ weight_held _ (λ _. pos 0) u at ∙ weigh-zero u.terms
      where
        at : (x : Atom) → power_of u x ≢ pos 0 → power_of (generalised_unit bases parameters slots (atom x)) (Var k) ≡ pos 0
        at (Base m) held = ap (λ v. power_of v (Var k)) (extension-atom in_place (Base m)) ∙ behind_lacks below m
        at (Var j) held = ap (λ v. power_of v (Var k)) (extension-atom in_place (Var j)) ∙ other_lacks j (held_other u lacks j held)
