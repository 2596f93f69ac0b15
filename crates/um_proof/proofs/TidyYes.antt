-- What is kept while rows are treated holds declared base units alone, but for those that stand for unit parameters in
-- the solution. So a Yes that is made of it is tidy.
use Rattle.std.proofs.Common.{◌≡◌, ◌≢◌, inl, inr, ℕ, zero, suc, ◌+◌, ◌-◌, ◌<◌, ◌≤◌, true, cond, List, [], ◌∷◌, map, length, get_or, pos, refl, sym, ap, ◌∙◌, subst, arith}
use Rattle.std.specs.Prelude.{All, nat_eq, nat_le, nat_lt, slice_index_or}
use Rattle.std.proofs.lemmas.Bool.{and_from, cases_lt, le-leb, lt-ltb}
use Rattle.std.proofs.lemmas.List.{get_or_default}
use Rattle.std.proofs.lemmas.List.Elements.{All-map}
use Rattle.um_units.specs.declared.Atom.{Atom}
use Rattle.um_units.specs.declared.Atom.TheVariants.{Base, Var}
use Rattle.um_units.specs.Atoms.{same_atom}
use Rattle.um_units.specs.Terms.{indicator}
use Rattle.um_units.specs.PowerMap.{PowerMap, power_of, one, atom, replace, nth, extension}
use Rattle.um_units.proofs.Replacement.{weight_held}
use Rattle.um_tree.specs.Formed.{BasesBelow}
use Rattle.um_elim.specs.declared.elim_step.ElimStep.{ElimStep}
use Rattle.um_elim.specs.ElimStep.{substitute, multiply, signed, IsStepOf}
use Rattle.um_elim.specs.EliminationSteps.{units_after, AreStepsOf}
use Rattle.um_elim.specs.Numbering.{by_place, place}
use Rattle.um_elim.proofs.Cases.{on_test}
use Rattle.um_rows.specs.Generalised.{is_parameter, generalised_unit}
use Rattle.um_check.specs.declared.certificate.Yes.{Yes}
use Rattle.um_check.specs.Existence.{divided_inverse, inverse_after}
use Rattle.um_check.specs.Tidy.{AreTidyParts, IsTidyYes}
use Rattle.um_check.proofs.Extensions.{weight-extension}
use Rattle.um_proof.proofs.Lacks.{Lacks, one_lacks, variable_lacks, base_lacks, quotient_lacks, replace_lacks, all_replaced, nth_lacks, below_lacks, all_bases_below}
use Rattle.um_proof.proofs.Elimination.{substitute_lacks, by_lacks, multiply_lacks, unit_after_step_lacks, after_lack, rigid_lack, past_parameters, general_lacks}
use Rattle.um_kept.specs.declared.kept.PartialCertificate.{PartialCertificate}
use Rattle.um_kept.specs.Kept.{Kept, row_unit, kept_after_steps, ended, IsRowMade, IsReached, first, first_back}
use Rattle.um_kept.specs.Answers.{Agrees}
use Rattle.um_proof.proofs.Closed.{weigh_zero}

-- ---- one base unit that isn't declared
module _ (m bases parameters : ℕ) (undeclared : bases ≤ m) where
  abbrev IsPast : Type 0
  IsPast = bases + parameters ≤ m

  -- what base units go back to, and that no variable goes back to the base unit
  pub record AreWays (back : Atom → PowerMap) : Type 0 where
    pub base : (n : ℕ) → back (Base n) ≡ first_back bases parameters (Base n)
    pub variable : (j : ℕ) → Lacks m (back (Var j))

  -- a unit goes back to none that holds it
  image_lacks : (back : Atom → PowerMap) → AreWays back → (w : PowerMap) → (IsPast → Lacks m w) → Lacks m (extension back w)
  image_lacks back ways w lacks = weight-extension (indicator (Base m)) back w ∙ weight_held _ (λ _. pos 0) w at ∙ weigh_zero w.terms
    where
      at : (x : Atom) → power_of w x ≢ pos 0 → power_of (back x) (Base m) ≡ pos 0
      at (Var j) held = ways.variable j
      at (Base n) held =
          ap (λ u. power_of u (Base m)) (ways.base n)
          ∙ on_test (is_parameter bases parameters 0 n)
          (λ t. rw t (variable_lacks m (n - bases)))
          (λ t. rw t (base_lacks m n (λ e. held (ap (λ i. power_of w (Base i)) (sym e) ∙ lacks (past_parameters m bases parameters 0 undeclared n t e)))))

  divided_ways : (back : Atom → PowerMap) → AreWays back → (r : PowerMap) (t : ElimStep) → IsStepOf r t → (IsPast → Lacks m r) → AreWays (divided_inverse t.variable t.by back)
  divided_ways back ways r t is lacks = record {
    base = ways.base;
    variable = λ j.
        on_test (same_atom (Var t.variable) (Var j))
        (λ e. rw e (quotient_lacks m (back (Var j)) (extension back t.by) (ways.variable j) (image_lacks back ways t.by (λ past. by_lacks m r t is (lacks past)))))
        (λ e. rw e (ways.variable j));
  }

  ways_after : (ts : List ElimStep) (r : PowerMap) (back : Atom → PowerMap) → AreStepsOf r ts → (IsPast → Lacks m r) → AreWays back → AreWays (inverse_after ts back)
  ways_after [] r back are lacks ways = ways
  ways_after (t ∷ ts) r back are lacks ways =
      let s = multiply t.variable t.by in
      ways_after ts (replace s (signed t.inverted r)) (divided_inverse t.variable t.by back) are.1
      (λ past. replace_lacks m s (multiply_lacks m r t are.0 (lacks past)) (signed t.inverted r) (unit_after_step_lacks m r t are.0 (lacks past)))
      (divided_ways back ways r t are.0 lacks)

  -- of all that is kept
  pub record IsFree (kept : Kept) : Type 0 where
    pub solution : IsPast → All (Lacks m) kept.solution
    pub ways : AreWays kept.back

  module _ (slots : ℕ) (rows : List PowerMap) (lack : All (Lacks m) rows) where
    starts_free : IsFree (first bases parameters slots)
    starts_free = record {
      solution = λ past. rigid_lack m bases parameters slots undeclared past;
      ways = record { base = λ n. refl; variable = λ j. variable_lacks m j };
    }

    row_free : (k : ℕ) (kept : Kept) → IsFree kept → (next : Kept) → IsRowMade rows kept k next → IsFree next
    row_free k kept free next (ts, are, ends) = elim ends [
      | inl h ↦ subst IsFree (sym h.1) (record { solution = after; ways = ways })
      | inr h ↦
          subst IsFree (sym h.3)
          (record { solution = λ past. all_replaced m (substitute h.0 one) (substitute_lacks m h.0 one (one_lacks m)) (units_after ts kept.solution) (after past); ways = ways })
    ]
      where
        row_lacks : IsPast → Lacks m (row_unit rows kept k)
        row_lacks past = replace_lacks m (nth kept.solution) (nth_lacks m kept.solution (free.solution past)) (nth rows k) (nth_lacks m rows lack k)

        after : IsPast → All (Lacks m) (units_after ts kept.solution)
        after past = after_lack m ts (row_unit rows kept k) kept.solution are (row_lacks past) (free.solution past)

        ways : AreWays (inverse_after ts kept.back)
        ways = ways_after ts (row_unit rows kept k) kept.back are row_lacks free.ways

    pub reached_free : (k : ℕ) (kept : Kept) → IsReached rows (first bases parameters slots) k kept → IsFree kept
    reached_free zero kept h = subst IsFree (sym h) starts_free
    reached_free (suc k) kept h = row_free k h.0 (reached_free k h.0 h.1) kept h.2

-- ---- all base units that aren't declared
module _ (bases parameters slots : ℕ) (rows : List PowerMap) (k : ℕ) (kept : Kept) (reached : IsReached rows (first bases parameters slots) k kept) (declared : All (BasesBelow bases) rows) where
  free : (m : ℕ) (l : bases ≤ m) → IsFree m bases parameters l kept
  free m l = reached_free m bases parameters l slots rows (λ i d low. below_lacks m bases l (get_or rows i d) (declared i d low)) k kept reached

  -- the closed solution
  closed_declared : All (BasesBelow (bases + parameters)) (map (replace (λ _. one)) kept.solution)
  closed_declared = all_bases_below (bases + parameters) (map (replace (λ _. one)) kept.solution) (λ m l. all_replaced m (λ _. one) (λ _. one_lacks m) kept.solution ((free m (omega (arith, l))).solution l))

  rigid_declared : (units : List PowerMap) → units ≡ cond (nat_eq parameters 0) [] (map (replace (λ _. one)) kept.solution) → All (BasesBelow (bases + parameters)) units
  rigid_declared units e =
      subst (All (BasesBelow (bases + parameters))) (sym e)
      (on_test (nat_eq parameters 0) (λ t. rw t (λ i d low. absurd (omega (arith, low)))) (λ t. rw t closed_declared))

  -- the solution with the variables of unit parameters, numbered
  solution_declared : (order : List ℕ) → All (BasesBelow bases) (map (replace (by_place order)) (map (generalised_unit bases parameters slots) kept.solution))
  solution_declared order =
      let general = generalised_unit bases parameters slots in
      all_bases_below bases (map (replace (by_place order)) (map general kept.solution))
      (λ m l.
      all_replaced m (by_place order) (λ j. variable_lacks m (place order j)) (map general kept.solution)
      (All-map (Lacks m) general kept.solution (λ i d low. general_lacks m bases parameters slots l (get_or kept.solution i d) (λ past. (free m l).solution past i d low))))

  -- the ways back as the code keeps them
  module _ (partial : PartialCertificate) (agrees : Agrees (record { slots = slots; parameters = parameters; bases = bases }) partial kept) where
    way_lacks : (m : ℕ) → bases ≤ m → (i : ℕ) (d : PowerMap) → i < length partial.back.items → Lacks m (get_or partial.back.items i d)
    way_lacks m l i d low =
        let bs = partial.back.items in
        elim (cases_lt i slots) [
          | inl small ↦
              subst (Lacks m) (agrees.back (Var i) (lt-ltb i slots small) ∙ sym (get_or_default bs i d (atom (Var i)) low)) ((free m l).ways.variable i)
          | inr big ↦
              let n = bases + (i - slots) in
              let count = agrees.back_count in
              let own : is_parameter bases parameters slots n ≡ true = and_from (nat_le bases n) (nat_lt n (bases + parameters)) (le-leb bases n (omega arith)) (lt-ltb n (bases + parameters) (omega (arith, big, low, count))) in
              let also : is_parameter bases parameters 0 n ≡ true = own in
              let same : slots + (n - bases) ≡ i = omega (arith, big) in
              let there : kept.back (Base n) ≡ get_or bs i one =
              agrees.back (Base n) refl ∙ ap (λ b. cond b (slice_index_or bs (slots + (n - bases)) one) (atom (Base n))) own ∙ ap (λ j. get_or bs j one) same in
              let variable : kept.back (Base n) ≡ atom (Var (n - bases)) = (free m l).ways.base n ∙ ap (λ b. cond b (atom (Var (n - bases))) (atom (Base n))) also in
              subst (Lacks m) (sym variable ∙ there ∙ sym (get_or_default bs i d one low)) (variable_lacks m (n - bases))
        ]

    ways_declared : All (BasesBelow bases) partial.back.items
    ways_declared = all_bases_below bases partial.back.items (λ m l i d low. way_lacks m l i d low)

    pub tidy_yes : (order : List ℕ) (back : List PowerMap) → ((n : ℕ) → All (BasesBelow n) partial.back.items → All (BasesBelow n) back) → (c : Yes) → c.solution ≡ map (replace (by_place order)) (map (generalised_unit bases parameters slots) kept.solution) → c.back ≡ back →
        All AreTidyParts c.parts → c.rigid ≡ cond (nat_eq parameters 0) [] (map (replace (λ _. one)) kept.solution) → IsTidyYes bases parameters c
    tidy_yes order back keeps c solution way parts rigid = record {
      parts = parts;
      solution = subst (All (BasesBelow bases)) (sym solution) (solution_declared order);
      back = subst (All (BasesBelow bases)) (sym way) (keeps bases ways_declared);
      rigid = rigid_declared c.rigid rigid;
    }
