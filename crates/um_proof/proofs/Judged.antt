-- What a judgement by rows says of how they are solved.
use Rattle.std.proofs.Common.{◌≡◌, ◌⊎◌, inl, inr, ℕ, zero, suc, ◌+◌, ◌<◌, ◌≤◌, cond, List, [], ◌∷◌, take, refl, sym, ap, ◌∙◌, subst, arith}
use Rattle.std.specs.Prelude.{IsTrue, All}
use Rattle.std.proofs.lemmas.List.Elements.{All-nil, All-cons, All-head, All-tail}
use Rattle.um_units.specs.PowerMap.{PowerMap, nth}
use Rattle.um_units.specs.Variables.{VariablesBelow}
use Rattle.um_units.specs.Solutions.{IsJointSolution}
use Rattle.um_units.proofs.Solutions.{IsSubstitutionInstance_refl, Solves-back}
use Rattle.um_tree.specs.ProgramTree.{Signature, SchemeTree}
use Rattle.um_tree.specs.Typing.{put_signature}
use Rattle.um_elim.specs.Elimination.{Elimination, Solved, NoSolution, Range, eliminate}
use Rattle.um_elim.specs.Solution.{own_variables, rigid_units, parameter_rows}
use Rattle.um_elim.proofs.Cases.{on_test}
use Rattle.um_elim.proofs.Slots.{rigid-own}
use Rattle.um_equal_types.specs.declared.row.Row.{Row}
use Rattle.um_equal_types.specs.Steps.{units_of}
use Rattle.um_rows.specs.FirstUnsolvable.{Solving, solved, unsolved, out_of_range, after_row, solve, rows_up_to}
use Rattle.um_rows.specs.Generalised.{generalised}
use Rattle.um_rows.specs.Judgement.{Judgement, has_scheme, passes_range, has_no_typing, not_general, signature_fits, numbered_scheme, by_slots, by_solution, by_solving, by_rows}
use Rattle.um_rows.proofs.SolvingLaws.{IsRightFor, solve_rigidly, solved_up_to}
use Rattle.um_proof.specs.Answers.{IsRefused}

module _ (bases parameters slots at : ℕ) (g : Signature) (rows : List Row) where
  abbrev start : List PowerMap
  start = rigid_units bases parameters slots

  -- ---- a scheme
  pub record IsSolvedFor (s : SchemeTree) : Type 0 where
    pub units : List PowerMap
    pub solves : solve 0 rows (rigid_units bases parameters slots) ≡ solved units
    pub fits : IsTrue (signature_fits (put_signature (nth units) g))
    pub scheme : s ≡ numbered_scheme (generalised bases parameters slots (put_signature (nth units) g))

  no_scheme : (k place : ℕ) (r : Solving) (s : SchemeTree) → by_slots k place r ≡ has_scheme s → ⊥
  no_scheme k place (solved us) s e = cc e
  no_scheme k place (unsolved j row) s e = cc e
  no_scheme k place (out_of_range row) s e = cc e

  scheme_by : (r : Solving) (s : SchemeTree) → solve 0 rows start ≡ r → by_solving bases parameters slots at g rows r ≡ has_scheme s → IsSolvedFor s
  scheme_by (solved us) s e h =
      let made = numbered_scheme (generalised bases parameters slots (put_signature (nth us) g)) in
      on_test (signature_fits (put_signature (nth us) g))
      (λ t.
      let same : made ≡ s = cc (subst (λ b. cond b (has_scheme made) (passes_range at) ≡ has_scheme s) t h) in
      record { units = us; solves = e; fits = t; scheme = sym same })
      (λ t. absurd (cc (subst (λ b. cond b (has_scheme made) (passes_range at) ≡ has_scheme s) t h)))
  scheme_by (unsolved k row) s e h = absurd (no_scheme k row (solve 0 (rows_up_to k rows) (own_variables slots)) s h)
  scheme_by (out_of_range row) s e h = absurd (cc h)

  pub judged_solved : (s : SchemeTree) → by_rows bases parameters slots at g rows ≡ has_scheme s → IsSolvedFor s
  judged_solved s h = scheme_by (solve 0 rows start) s refl h

  -- ---- a refusal: the row, and what the rows up to it come to where unit parameters are slots like the others
  pub record IsRefusedBySteps (j : Judgement) : Type 0 where
    pub row : ℕ
    pub place : ℕ
    pub unsolvable : solve 0 rows (rigid_units bases parameters slots) ≡ unsolved row place
    pub loosely : ((units : List PowerMap) × (solve 0 (rows_up_to row rows) (own_variables slots) ≡ solved units) × (j ≡ not_general row place))
        ⊎ ((k other : ℕ) × (solve 0 (rows_up_to row rows) (own_variables slots) ≡ unsolved k other) × (j ≡ has_no_typing row place))

  refused_slots : (k place : ℕ) (r : Solving) → solve 0 rows start ≡ unsolved k place → solve 0 (rows_up_to k rows) (own_variables slots) ≡ r → IsRefused (by_slots k place r) → IsRefusedBySteps (by_slots k place r)
  refused_slots k place (solved us) e f h = record { row = k; place = place; unsolvable = e; loosely = inl (us, f, refl) }
  refused_slots k place (unsolved j p) e f h = record { row = k; place = place; unsolvable = e; loosely = inr (j, p, f, refl) }
  refused_slots k place (out_of_range p) e f h = elim h.2 [ inl w ↦ absurd (cc w) | inr w ↦ absurd (cc w) ]

  refused_solution : (us : List PowerMap) → IsRefused (by_solution bases parameters slots at (put_signature (nth us) g)) → ⊥
  refused_solution us h =
      let made = numbered_scheme (generalised bases parameters slots (put_signature (nth us) g)) in
      on_test (signature_fits (put_signature (nth us) g))
      (λ t. elim (subst (λ b. IsRefused (cond b (has_scheme made) (passes_range at))) t h).2 [ inl w ↦ cc w | inr w ↦ cc w ])
      (λ t. elim (subst (λ b. IsRefused (cond b (has_scheme made) (passes_range at))) t h).2 [ inl w ↦ cc w | inr w ↦ cc w ])

  refused_by : (r : Solving) → solve 0 rows start ≡ r → IsRefused (by_solving bases parameters slots at g rows r) → IsRefusedBySteps (by_solving bases parameters slots at g rows r)
  refused_by (solved us) e h = absurd (refused_solution us h)
  refused_by (unsolved k place) e h = refused_slots k place (solve 0 (rows_up_to k rows) (own_variables slots)) e refl h
  refused_by (out_of_range place) e h = elim h.2 [ inl w ↦ absurd (cc w) | inr w ↦ absurd (cc w) ]

  pub judged_refused : IsRefused (by_rows bases parameters slots at g rows) → IsRefusedBySteps (by_rows bases parameters slots at g rows)
  judged_refused h = refused_by (solve 0 rows start) refl h

-- ---- the units that solve rows
module _ (bases parameters slots : ℕ) (rows : List Row) (few : parameters ≤ slots) (low : All (VariablesBelow slots) (units_of rows)) (us : List PowerMap) (is : solve 0 rows (rigid_units bases parameters slots) ≡ solved us) where
  right : IsRightFor slots (parameter_rows bases parameters) rows (solved us)
  right = subst (IsRightFor slots (parameter_rows bases parameters) rows) is (solve_rigidly bases parameters slots rows few low)

  pub solution_below : All (VariablesBelow slots) us
  solution_below = right.1

  pub solution_joint : IsJointSolution slots (units_of rows) us
  solution_joint =
      let h = (right.0 us).0 (IsSubstitutionInstance_refl us) in
      record { per_slot = h.per_slot; solves = Solves-back (nth us) (parameter_rows bases parameters) (units_of rows) h.solves }

-- ---- without unit parameters
pub own_unsolved : (bases slots : ℕ) (rows : List Row) (k at : ℕ) → solve 0 rows (rigid_units bases 0 slots) ≡ unsolved k at → solve 0 (rows_up_to k rows) (own_variables slots) ≡ unsolved k at
own_unsolved bases slots rows k at is = solved_up_to rows (own_variables slots) k at (ap (solve 0 rows) (sym (rigid-own bases slots)) ∙ is)

-- where rows from the front of a list have no solution, neither have all
after_front : (m n : ℕ) (rows : List Row) (us : List PowerMap) (k at : ℕ) → solve m (take n rows) us ≡ unsolved k at → solve m rows us ≡ unsolved k at
after_front m zero [] us k at e = e
after_front m (suc n) [] us k at e = e
after_front m zero (r ∷ rows) us k at e = absurd (cc e)
after_front m (suc n) (r ∷ rows) us k at e = found (eliminate us r.unit) (λ vs. after_front (suc m) n rows vs k at) e
  where
    found : (o : Elimination) → ((vs : List PowerMap) → solve (suc m) (take n rows) vs ≡ unsolved k at → solve (suc m) rows vs ≡ unsolved k at) → after_row m r.at o (solve (suc m) (take n rows)) ≡ unsolved k at → after_row m r.at o (solve (suc m) rows) ≡ unsolved k at
    found (Solved vs) more h = more vs h
    found NoSolution more h = h
    found Range more h = h

-- and the row is one of the front
inside_front : (m n : ℕ) (rows : List Row) (us : List PowerMap) (k at : ℕ) → solve m (take n rows) us ≡ unsolved k at → k < m + n
inside_front m zero rows us k at e = absurd (cc e)
inside_front m (suc n) [] us k at e = absurd (cc e)
inside_front m (suc n) (r ∷ rows) us k at e = found (eliminate us r.unit) (λ vs h. inside_front (suc m) n rows vs k at h) e
  where
    found : (o : Elimination) → ((vs : List PowerMap) → solve (suc m) (take n rows) vs ≡ unsolved k at → k < suc m + n) → after_row m r.at o (solve (suc m) (take n rows)) ≡ unsolved k at → k < m + suc n
    found (Solved vs) more h = let l = more vs h in omega (arith, l)
    found NoSolution more h = let same : m ≡ k = cc h in omega (arith, same)
    found Range more h = absurd (cc h)

pub front_inside : (rows : List Row) (us : List PowerMap) (last k at : ℕ) → solve 0 (rows_up_to last rows) us ≡ unsolved k at → k ≤ last
front_inside rows us last k at e = let l = inside_front 0 (suc last) rows us k at e in omega (arith, l)

pub front_unsolved : (rows : List Row) (us : List PowerMap) (last k at : ℕ) → solve 0 (rows_up_to last rows) us ≡ unsolved k at → solve 0 rows us ≡ unsolved k at
front_unsolved rows us last k at e = after_front 0 (suc last) rows us k at e

-- ---- rows and their units
pub rows_low : (n : ℕ) (rows : List Row) → All (VariablesBelow n) (units_of rows) → All (λ (row : Row). VariablesBelow n row.unit) rows
rows_low n [] low = All-nil (λ (row : Row). VariablesBelow n row.unit)
rows_low n (r ∷ rows) low = All-cons (λ (row : Row). VariablesBelow n row.unit) r rows (All-head (VariablesBelow n) r.unit (units_of rows) low) (rows_low n rows (All-tail (VariablesBelow n) r.unit (units_of rows) low))

pub units_low : (n : ℕ) (rows : List Row) → All (λ (row : Row). VariablesBelow n row.unit) rows → All (VariablesBelow n) (units_of rows)
units_low n [] low = All-nil (VariablesBelow n)
units_low n (r ∷ rows) low = All-cons (VariablesBelow n) r.unit (units_of rows) (All-head (λ (row : Row). VariablesBelow n row.unit) r rows low) (units_low n rows (All-tail (λ (row : Row). VariablesBelow n row.unit) r rows low))
