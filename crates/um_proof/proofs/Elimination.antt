-- Solving rows brings no base unit into the units of the slots, and a scheme holds no base unit of a unit parameter.
use Rattle.std.proofs.Common.{◌≡◌, ◌≢◌, ℕ, suc, ◌+◌, ◌-◌, ◌<◌, ◌≤◌, inl, inr, nat_lt, leb, false, cond, Option, Some, None, List, [], ◌∷◌, map, ℤ, pos, negsuc, ◌+ℤ◌, ◌*ℤ◌, nat_abs, get_or, refl, sym, ap, ◌∙◌, subst, arith}
use Rattle.std.specs.Prelude.{◌==◌, All}
use Rattle.std.proofs.lemmas.Bool.Decides.{nat_tests}
use Rattle.std.proofs.lemmas.List.{length-map}
use Rattle.std.proofs.lemmas.List.Elements.{All-head, All-tail, All-map}
use Rattle.std.proofs.lemmas.List.FromFn.{get_or-map-range_with_len}
use Rattle.um_units.specs.declared.Atom.{Atom}
use Rattle.um_units.specs.declared.Atom.TheVariants.{Base, Var}
use Rattle.um_units.specs.declared.Term.{Term}
use Rattle.um_units.specs.Terms.{weigh}
use Rattle.um_units.specs.PowerMap.{PowerMap, power_of, one, atom, mul, replace, nth}
use Rattle.um_units.proofs.Equality.{tail_only}
use Rattle.um_units.proofs.Replacement.{weight_held, extension-mul, extension-atom}
use Rattle.um_tree.specs.TypeTree.{TypeTree, bool_type, num_type, list_type, record_type}
use Rattle.um_tree.specs.ProgramTree.{Signature}
use Rattle.um_tree.specs.Typing.{put, put_signature, moved}
use Rattle.um_tree.specs.Scheme.{signature_types}
use Rattle.um_tree.proofs.Homomorphisms.{power_of-h}
use Rattle.um_elim.specs.declared.elim_step.ElimStep.{ElimStep}
use Rattle.um_elim.specs.ElimStep.{substitute, multiply, quotients, inverted_if_negative, signed, is_negative, IsStepOf}
use Rattle.um_elim.specs.Elimination.{Elimination, Solved, NoSolution, Range, eliminate}
use Rattle.um_elim.specs.Numbering.{variable_order, by_place, place}
use Rattle.um_elim.specs.Solution.{own_variables, rigid_unit, rigid_units}
use Rattle.um_elim.proofs.Cases.{on_test}
use Rattle.um_elim.proofs.StepLaws.{less, less-zero, power_of-quotients}
use Rattle.um_elim.proofs.Slots.{length-rigid}
use Rattle.um_elim.specs.EliminationSteps.{units_after, AreStepsOf}
use Rattle.um_elim.proofs.FollowedSteps.{eliminate_treated}
use Rattle.um_equal_types.specs.declared.row.Row.{Row}
use Rattle.um_equal_types.specs.Steps.{units_of}
use Rattle.um_rows.specs.FirstUnsolvable.{Solving, solved, unsolved, out_of_range, after_row, solve, rows_up_to}
use Rattle.um_rows.specs.Generalised.{is_parameter, generalised_atom, generalised_unit, generalised}
use Rattle.um_rows.specs.Judgement.{numbered_scheme, signature_fits, Judgement, has_scheme, too_many_slots, passes_range, has_no_typing, not_general, by_slots, by_solving, by_rows, by_range}
use Rattle.um_proof.proofs.Lacks.{Lacks, one_lacks, variable_lacks, base_lacks, mul_lacks, inv_lacks, replace_lacks, all_replaced, nth_lacks, TypeLacks, TypesLack, SignatureLacks, put_lacks, types_put_lack}

weigh_zero : (ts : List Term) → weigh (λ _. pos 0) ts ≡ pos 0
weigh_zero [] = refl
weigh_zero (t ∷ ts) = ap (λ z. t.power *ℤ pos 0 +ℤ z) (weigh_zero ts) ∙ tail_only t.power (pos 0)

module _ (m : ℕ) where
  -- ---- steps
  signed_lacks : (a : ℤ) (r : PowerMap) → Lacks m r → Lacks m (signed (is_negative a) r)
  signed_lacks (pos n) r h = h
  signed_lacks (negsuc n) r h = inv_lacks m r h

  inverted_lacks : (a : ℤ) (r : PowerMap) → Lacks m r → Lacks m (inverted_if_negative a r)
  inverted_lacks (pos n) r h = h
  inverted_lacks (negsuc n) r h = inv_lacks m r h

  quotients_lack : (k p : ℕ) (r : PowerMap) → Lacks m r → Lacks m (quotients k p r)
  quotients_lack k p r h = power_of-quotients k p r (Base m) ∙ ap (less k p (Base m)) h ∙ less-zero k p (Base m)

  pub substitute_lacks : (k : ℕ) (w : PowerMap) → Lacks m w → (j : ℕ) → Lacks m (substitute k w j)
  substitute_lacks k w h j = on_test (k == j) (λ e. rw e h) (λ e. rw e (variable_lacks m j))

  -- a step of a unit that lacks it brings it into no unit
  pub by_lacks : (r : PowerMap) (t : ElimStep) → IsStepOf r t → Lacks m r → Lacks m t.by
  by_lacks r t w h = subst (λ (s : ElimStep). Lacks m s.by) (sym w.2) (quotients_lack w.0.variable (nat_abs w.0.power) (inverted_if_negative w.0.power r) (inverted_lacks w.0.power r h))

  pub multiply_lacks : (r : PowerMap) (t : ElimStep) → IsStepOf r t → Lacks m r → (j : ℕ) → Lacks m (multiply t.variable t.by j)
  multiply_lacks r t w h = substitute_lacks t.variable (mul (atom (Var t.variable)) t.by) (mul_lacks m (atom (Var t.variable)) t.by (variable_lacks m t.variable) (by_lacks r t w h))

  pub unit_after_step_lacks : (r : PowerMap) (t : ElimStep) → IsStepOf r t → Lacks m r → Lacks m (signed t.inverted r)
  unit_after_step_lacks r t w h = subst (λ (s : ElimStep). Lacks m (signed s.inverted r)) (sym w.2) (signed_lacks w.0.power r h)

  pub after_lack : (ts : List ElimStep) (r : PowerMap) (us : List PowerMap) → AreStepsOf r ts → Lacks m r → All (Lacks m) us → All (Lacks m) (units_after ts us)
  after_lack [] r us w h all = all
  after_lack (t ∷ ts) r us w h all =
      let s = multiply t.variable t.by in
      let each = multiply_lacks r t w.0 h in
      after_lack ts (replace s (signed t.inverted r)) (map (replace s) us) w.1 (replace_lacks m s each (signed t.inverted r) (unit_after_step_lacks r t w.0 h)) (all_replaced m s each us all)

  eliminated_lack : (us : List PowerMap) (row : PowerMap) (vs : List PowerMap) → eliminate us row ≡ Solved vs → Lacks m row → All (Lacks m) us → All (Lacks m) vs
  eliminated_lack us row vs e h all =
      let treated = eliminate_treated us row vs e in
      let r = replace (nth us) row in
      let left = after_lack treated.steps r us treated.are (replace_lacks m (nth us) (nth_lacks m us all) row h) all in
      elim treated.ends [
        | inl ends ↦ subst (All (Lacks m)) (sym ends.units) left
        | inr ends ↦ subst (All (Lacks m)) (sym ends.units) (all_replaced m (substitute ends.m one) (substitute_lacks ends.m one (one_lacks m)) (units_after treated.steps us) left)
      ]

  -- ---- row after row
  abbrev SolvingLacks : Solving → Type 0
  SolvingLacks (solved us) = All (Lacks m) us
  SolvingLacks (unsolved i at) = Unit {0}
  SolvingLacks (out_of_range at) = Unit {0}

  solving_lacks : (i : ℕ) (rows : List Row) (us : List PowerMap) → All (Lacks m) (units_of rows) → All (Lacks m) us → SolvingLacks (solve i rows us)
  solving_lacks i [] us h all = all
  solving_lacks i (r ∷ rows) us h all = found (λ vs more. solving_lacks (suc i) rows vs (All-tail (Lacks m) r.unit (units_of rows) h) more) (eliminate us r.unit) refl
    where
      found : ((vs : List PowerMap) → All (Lacks m) vs → SolvingLacks (solve (suc i) rows vs)) → (o : Elimination) → eliminate us r.unit ≡ o → SolvingLacks (after_row i r.at o (solve (suc i) rows))
      found rest (Solved vs) e = rest vs (eliminated_lack us r.unit vs e (All-head (Lacks m) r.unit (units_of rows) h) all)
      found rest NoSolution e = tt
      found rest Range e = tt

  pub solved_lack : (rows : List Row) (us new : List PowerMap) → All (Lacks m) (units_of rows) → All (Lacks m) us → solve 0 rows us ≡ solved new → All (Lacks m) new
  solved_lack rows us new h all e = subst SolvingLacks e (solving_lacks 0 rows us h all)

  -- ---- unit parameters
  module _ (bases parameters slots : ℕ) (undeclared : bases ≤ m) where
    -- the slots of unit parameters have base units below bases + parameters
    pub rigid_lack : bases + parameters ≤ m → All (Lacks m) (rigid_units bases parameters slots)
    rigid_lack past i d h =
        let low : i < slots = omega (arith, h, length-rigid bases parameters slots) in
        subst (Lacks m) (sym (get_or-map-range_with_len (rigid_unit bases parameters) 0 slots i i d low (omega arith)))
        (on_test (nat_lt i parameters)
        (λ t. let inside : i < parameters = grind (arith, nat_tests) in rw t (base_lacks m (bases + i) (λ e. absurd (omega (arith, e, past, inside)))))
        (λ t. rw t (variable_lacks m i)))

    abbrev in_place : Atom → PowerMap
    in_place x = atom (generalised_atom bases parameters slots x)

    -- behind the declared base units the first that stand for no unit parameter
    pub past_parameters : (n : ℕ) → is_parameter bases parameters slots n ≡ false → m ≡ n → bases + parameters ≤ m
    past_parameters n t e =
        on_test (nat_lt n bases)
        (λ b. let low : n < bases = grind (arith, nat_tests) in absurd (omega (arith, e, low, undeclared)))
        (λ b. let past : bases + parameters ≤ n = grind (arith, nat_tests) in omega (arith, e, past))

    -- a declared base unit stays, and the unit parameters' own become variables
    pub general_lacks : (u : PowerMap) → (bases + parameters ≤ m → Lacks m u) → Lacks m (generalised_unit bases parameters slots u)
    general_lacks u lacks =
        power_of-h (generalised_unit bases parameters slots) (extension-mul in_place) u (Base m) ∙ weight_held _ (λ _. pos 0) u at ∙ weigh_zero u.terms
      where
        at : (x : Atom) → power_of u x ≢ pos 0 → power_of (generalised_unit bases parameters slots (atom x)) (Base m) ≡ pos 0
        at (Base n) held =
            ap (λ v. power_of v (Base m)) (extension-atom in_place (Base n))
            ∙ on_test (is_parameter bases parameters slots n)
            (λ t. ap (λ b. power_of (atom (cond b (Var (slots + (n - bases))) (Base n))) (Base m)) t ∙ variable_lacks m (slots + (n - bases)))
            (λ t. ap (λ b. power_of (atom (cond b (Var (slots + (n - bases))) (Base n))) (Base m)) t ∙ base_lacks m n (λ e. held (ap (λ i. power_of u (Base i)) (sym e) ∙ lacks (past_parameters n t e))))
        at (Var k) held = ap (λ v. power_of v (Base m)) (extension-atom in_place (Var k)) ∙ variable_lacks m k

    -- ---- the scheme that a solution gives
    module _ (us : List PowerMap) (all : bases + parameters ≤ m → All (Lacks m) us) where
      abbrev general : PowerMap → PowerMap
      general = generalised_unit bases parameters slots

      unit_lacks : (u : PowerMap) → Lacks m u → Lacks m (general (replace (nth us) u))
      unit_lacks u h = general_lacks (replace (nth us) u) (λ past. replace_lacks m (nth us) (nth_lacks m us (all past)) u h)

      type_lacks : (t : TypeTree) → TypeLacks m t → TypeLacks m (moved general (put (nth us) t))
      type_lacks bool_type h = tt
      type_lacks (num_type u) h = unit_lacks u h
      type_lacks (list_type t) h = type_lacks t h
      type_lacks (record_type r vs) h =
          let put_in = map (replace (nth us)) vs in
          let a = length-map vs (replace (nth us)) in
          let b = length-map put_in general in
          let l = h.1 in (
            All-map (Lacks m) general put_in (All-map (λ u. Lacks m (general u)) (replace (nth us)) vs (λ k d low. unit_lacks (get_or vs k d) (h.0 k d low))),
            omega (arith, a, b, l),
          )

      types_lack : (ts : List TypeTree) → TypesLack m ts → TypesLack m (map (moved general) (map (put (nth us)) ts))
      types_lack [] h = tt
      types_lack (t ∷ ts) h = (type_lacks t h.0, types_lack ts h.1)

      scheme_lacks : (g : Signature) → SignatureLacks m g → SignatureLacks m (numbered_scheme (generalised bases parameters slots (put_signature (nth us) g))).signature
      scheme_lacks g h =
          let s = by_place (variable_order (signature_types (generalised bases parameters slots (put_signature (nth us) g)))) in
          let each = λ (k : ℕ). variable_lacks m (place (variable_order (signature_types (generalised bases parameters slots (put_signature (nth us) g)))) k) in
          (types_put_lack m s each (map (moved general) (map (put (nth us)) g.params)) (types_lack g.params h.0), put_lacks m s each (moved general (put (nth us) g.result)) (type_lacks g.result h.1))

  -- ---- a judgement
  abbrev pub JudgementLacks : Judgement → Type 0
  JudgementLacks (has_scheme s) = SignatureLacks m s.signature
  JudgementLacks too_many_slots = Unit {0}
  JudgementLacks (passes_range at) = Unit {0}
  JudgementLacks (has_no_typing k at) = Unit {0}
  JudgementLacks (not_general k at) = Unit {0}

  slots_lack : (k at : ℕ) (r : Solving) → JudgementLacks (by_slots k at r)
  slots_lack k at (solved us) = tt
  slots_lack k at (unsolved j row) = tt
  slots_lack k at (out_of_range row) = tt

  range_lacks : (o : Option ℕ) (j : Judgement) → JudgementLacks j → JudgementLacks (by_range o j)
  range_lacks None j h = h
  range_lacks (Some at) j h = tt

  module _ (bases parameters slots at : ℕ) (undeclared : bases ≤ m) (g : Signature) (types : SignatureLacks m g) (rows : List Row) (lack : All (Lacks m) (units_of rows)) where
    solving_judged : (r : Solving) → solve 0 rows (rigid_units bases parameters slots) ≡ r → JudgementLacks (by_solving bases parameters slots at g rows r)
    solving_judged (solved us) e =
        let solution = put_signature (nth us) g in
        let scheme = numbered_scheme (generalised bases parameters slots solution) in
        let all : bases + parameters ≤ m → All (Lacks m) us = λ past. solved_lack rows (rigid_units bases parameters slots) us lack (rigid_lack bases parameters slots undeclared past) e in
        on_test (signature_fits solution)
        (λ t. subst (λ b. JudgementLacks (cond b (has_scheme scheme) (passes_range at))) (sym t) (scheme_lacks bases parameters slots undeclared us all g types))
        (λ t. subst (λ b. JudgementLacks (cond b (has_scheme scheme) (passes_range at))) (sym t) tt)
    solving_judged (unsolved k row) e = slots_lack k row (solve 0 (rows_up_to k rows) (own_variables slots))
    solving_judged (out_of_range row) e = tt

    -- by the rows and the types, whatever the limits
    pub limited_lacks : (o : Option ℕ) → JudgementLacks (cond (leb slots 2000) (by_range o (by_rows bases parameters slots at g rows)) too_many_slots)
    limited_lacks o =
        let j = by_range o (by_rows bases parameters slots at g rows) in
        let inner = range_lacks o (by_rows bases parameters slots at g rows) (solving_judged (solve 0 rows (rigid_units bases parameters slots)) refl) in
        on_test (leb slots 2000)
        (λ e. subst (λ b. JudgementLacks (cond b j too_many_slots)) (sym e) inner)
        (λ e. subst (λ b. JudgementLacks (cond b j too_many_slots)) (sym e) tt)
