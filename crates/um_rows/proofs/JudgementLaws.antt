-- What a judgement of a function says of its typings.
-- Source: Kennedy (1996), on principal schemes and their generalisation.
use Rattle.std.proofs.Common.{◌≡◌, ◌↔◌, ℕ, suc, ◌<◌, cond, leb, Option, Some, None, List, [], ◌++◌, length, map, slice_get, refl, sym, ap, ◌∙◌, subst, arith}
use Rattle.std.specs.Prelude.{All}
use Rattle.um_units.specs.PowerMap.{PowerMap, replace, nth}
use Rattle.um_units.specs.Variables.{VariablesBelow}
use Rattle.um_units.specs.Solutions.{IsJointSolution, IsSolvable}
use Rattle.um_units.proofs.Replacement.{nth-map}
use Rattle.um_units.proofs.Solutions.{IsSubstitutionInstance_refl, Solves-append, Solves-front, Solves-back}
use Rattle.um_tree.specs.ProgramTree.{RecordTree, FunctionTree, ProgramTree, Signature, SchemeTree}
use Rattle.um_tree.specs.Typing.{put_signature, moved_signature, Earlier, IsRigidTypingOf, IsTypingOf, TypingAt, typings_below, Typing}
use Rattle.um_tree.specs.Scheme.{IsInstance, IsNumberedScheme}
use Rattle.um_tree.specs.Laws.{LiteralsAreClosed}
use Rattle.um_tree.proofs.Numbered.{numbered_below}
use Rattle.um_elim.specs.Instances.{SolvesExactly}
use Rattle.um_elim.specs.Solution.{own_variables, rigid_units, parameter_rows}
use Rattle.um_elim.proofs.Cases.{on_test}
use Rattle.um_elim.proofs.Slots.{rows_solved, fixed_by_rows}
use Rattle.um_equal_types.specs.declared.row.Row.{Row}
use Rattle.um_equal_types.specs.Steps.{rows_of, units_of, first_past}
use Rattle.um_slots.specs.Slots.{slot_count}
use Rattle.um_rows.specs.Equations.{slot_equations}
use Rattle.um_rows.specs.Solutions.{slot_signature, IsSolution, IsRigid, HaveSchemes}
use Rattle.um_rows.specs.FirstUnsolvable.{IsFirstUnsolvable, Solving, solved, unsolved, out_of_range, solve, rows_up_to}
use Rattle.um_rows.specs.Generalised.{generalised}
use Rattle.um_rows.specs.Judgement.{numbered_scheme, signature_fits, Judgement, has_scheme, too_many_slots, passes_range, has_no_typing, not_general, by_slots, by_solution, by_solving, by_rows, by_range, judge}
use Rattle.um_rows.specs.Laws.{IsFirstRow, AreSolvableUpTo, JudgedSchemesArePrincipal, JudgedUntypedHaveNone, JudgedNotGeneralHaveNone}
use Rattle.um_rows.proofs.PutTypes.{signature_put-put}
use Rattle.um_rows.proofs.Variables.{SignatureBelow, signature_put_alike_below, signature_put_below}
use Rattle.um_rows.proofs.VariableLists.{rows_all}
use Rattle.um_rows.proofs.FunctionLaws.{AllFit}
use Rattle.um_rows.proofs.Solved.{slots_below, parameters_in_slots, rigid_typings_are_solved, all_fit}
use Rattle.um_rows.proofs.SolvingLaws.{IsRightFor, solve_right, solve_rigidly, unsolvable_rows, solvable_rows, first_rows_below}
use Rattle.um_rows.proofs.NumberedSchemes.{numbered_instances, numbered_is_numbered}
use Rattle.um_rows.proofs.GeneralisedUnits.{instantiation, instantiation_is, instance_instantiated, changed, instantiated_instance}

module _ (earlier : Earlier) (schemes : List SchemeTree) (i : ℕ) (fit : AllFit earlier schemes i) (records : List RecordTree) (f : FunctionTree) (closed : LiteralsAreClosed f.body) (bases : ℕ) where
  abbrev sig : Signature
  sig = slot_signature records schemes i f

  abbrev n : ℕ
  n = slot_count records schemes i f

  abbrev rows : List Row
  rows = rows_of (slot_equations records schemes i f).steps

  abbrev given : List PowerMap
  given = parameter_rows bases f.units

  -- what each judgement says
  abbrev pub Says : Judgement → Type 0
  Says (has_scheme s) = (g : Signature) → IsTypingOf bases records earlier i f g ↔ IsInstance s g
  Says too_many_slots = Unit {0}
  Says (passes_range at) = Unit {0}
  Says (has_no_typing k at) =
      IsFirstUnsolvable (slot_count records schemes i f) (parameter_rows bases f.units) (rows_of (slot_equations records schemes i f).steps) k at
      × (IsSolvable (slot_count records schemes i f) (units_of (rows_up_to k (rows_of (slot_equations records schemes i f).steps))) → ⊥)
      × ((g : Signature) → IsTypingOf bases records earlier i f g → ⊥)
  Says (not_general k at) =
      IsFirstUnsolvable (slot_count records schemes i f) (parameter_rows bases f.units) (rows_of (slot_equations records schemes i f).steps) k at
      × IsSolvable (slot_count records schemes i f) (units_of (rows_up_to k (rows_of (slot_equations records schemes i f).steps)))
      × ((g : Signature) → IsTypingOf bases records earlier i f g → ⊥)

  -- ---- rigid joint solutions are the joint solutions of the parameters' equations and the rows
  pub rigid_joint : (units : List PowerMap) → IsSolution records schemes i f units → IsRigid bases f.units units → IsJointSolution n (given ++ units_of rows) units
  rigid_joint units h fixed = record {
    per_slot = h.per_slot;
    solves = Solves-append (nth units) given (units_of rows) (rows_solved bases f.units (nth units) 0 f.units (λ k low high. fixed k (omega (arith, high)))) h.solves;
  }

  pub joint_rigid : (units : List PowerMap) → IsJointSolution n (given ++ units_of rows) units → IsSolution records schemes i f units × IsRigid bases f.units units
  joint_rigid units h = (
    record { per_slot = h.per_slot; solves = Solves-back (nth units) given (units_of rows) h.solves },
    λ k low. fixed_by_rows bases f.units (nth units) (Solves-front (nth units) given (units_of rows) h.solves) k low,
  )

  -- ---- from the most general rigid solution to the scheme
  module _ (units : List PowerMap) (exact : SolvesExactly n (given ++ units_of rows) units) (below : All (VariablesBelow n) units) where
    abbrev solved_types : Signature
    solved_types = put_signature (nth units) sig

    long : length units ≡ n
    long = ((exact units).0 (IsSubstitutionInstance_refl units)).per_slot

    types_below : SignatureBelow n solved_types
    types_below = signature_put_below n units below sig (subst (λ m. SignatureBelow m sig) (sym long) (slots_below earlier schemes i fit records f).0)

    -- units of which the slots' units are an instance give an instance of the signature
    put_instance : (s : ℕ → PowerMap) → put_signature (nth (map (replace s) units)) sig ≡ put_signature s solved_types
    put_instance s =
        signature_put_alike_below n (nth (map (replace s) units)) (λ k. replace s (nth units k)) (λ k h. nth-map (replace s) units k (subst (λ m. k < m) (sym long) h)) sig (slots_below earlier schemes i fit records f).0
        ∙ sym (signature_put-put (nth units) s sig)

    -- a rigid typing puts units for the variables
    rigid_instance : (g : Signature) → IsRigidTypingOf bases records earlier i f g → (s : ℕ → PowerMap) × (g ≡ put_signature s solved_types)
    rigid_instance g h =
        let w = (rigid_typings_are_solved earlier schemes i fit records f closed bases g).0 h in
        let p = (exact w.0).1 (rigid_joint w.0 w.1 w.2) in
        (p.0, w.3 ∙ ap (λ v. put_signature (nth v) sig) (sym p.1) ∙ put_instance p.0)

    -- the signature itself is one
    solved_typed : IsRigidTypingOf bases records earlier i f solved_types
    solved_typed =
        let h = joint_rigid units ((exact units).0 (IsSubstitutionInstance_refl units)) in
        (rigid_typings_are_solved earlier schemes i fit records f closed bases solved_types).1 (units, h.0, h.1, refl)

    pub scheme_says : (g : Signature) → IsTypingOf bases records earlier i f g ↔ IsInstance (numbered_scheme (generalised bases f.units n solved_types)) g
    scheme_says g = (
      (λ h.
          let w = rigid_instance h.signature h.typing in
          (numbered_instances (generalised bases f.units n solved_types) g).1 (
            changed bases f.units n h.change h.instantiates w.0,
            h.given ∙ ap (moved_signature h.change) w.1 ∙ instantiated_instance bases f.units n h.change h.instantiates w.0 solved_types types_below,
          )),
      (λ h.
          let w = (numbered_instances (generalised bases f.units n solved_types) g).0 h in
          record {
            signature = solved_types;
            typing = solved_typed;
            change = instantiation bases f.units n w.0;
            instantiates = instantiation_is bases f.units n w.0;
            given = w.1 ∙ instance_instantiated bases f.units n w.0 solved_types;
          }),
    )

  -- ---- from an unsolvable row
  none_says : (k at : ℕ) → IsFirstUnsolvable n given rows k at → (g : Signature) → IsTypingOf bases records earlier i f g → ⊥
  none_says k at first g h =
      let w = (rigid_typings_are_solved earlier schemes i fit records f closed bases h.signature).0 h.typing in
      unsolvable_rows n given rows k at first (w.0, rigid_joint w.0 w.1 w.2)

  slots_say : (k at : ℕ) → IsFirstUnsolvable n given rows k at → (r : Solving) → IsRightFor n [] (rows_up_to k rows) r → Says (by_slots k at r)
  slots_say k at first (solved us) right = (first, solvable_rows n (rows_up_to k rows) us right, none_says k at first)
  slots_say k at first (unsolved j row) right = (first, (λ h. unsolvable_rows n [] (rows_up_to k rows) j row right h), none_says k at first)
  slots_say k at first (out_of_range row) right = tt

  -- ---- all together
  pub low : All (VariablesBelow n) (units_of rows)
  low = rows_all n (slot_equations records schemes i f).steps (slots_below earlier schemes i fit records f).1

  solving_says : (r : Solving) → IsRightFor n given rows r → Says (by_solving bases f.units n f.at sig rows r)
  solving_says (solved units) right =
      let g = put_signature (nth units) sig in
      on_test (signature_fits g)
      (λ e. subst (λ b. Says (cond b (has_scheme (numbered_scheme (generalised bases f.units n g))) (passes_range f.at))) (sym e) (scheme_says units right.0 right.1))
      (λ e. subst (λ b. Says (cond b (has_scheme (numbered_scheme (generalised bases f.units n g))) (passes_range f.at))) (sym e) tt)
  solving_says (unsolved k at) right =
      slots_say k at right (solve 0 (rows_up_to k rows) (own_variables n)) (solve_right n (rows_up_to k rows) (first_rows_below n rows (suc k) low))
  solving_says (out_of_range at) right = tt

  range_says : (o : Option ℕ) (j : Judgement) → Says j → Says (by_range o j)
  range_says None j h = h
  range_says (Some at) j h = tt

  pub judge_says : Says (judge bases records schemes i f)
  judge_says =
      let steps = (slot_equations records schemes i f).steps in
      let j = by_range (first_past steps) (by_rows bases f.units n f.at sig rows) in
      let few = parameters_in_slots earlier schemes i fit records f in
      let right = range_says (first_past steps) _ (solving_says (solve 0 rows (rigid_units bases f.units n)) (solve_rigidly bases f.units n rows few low)) in
      on_test (leb n 2000)
      (λ e. subst (λ b. Says (cond b j too_many_slots)) (sym e) right)
      (λ e. subst (λ b. Says (cond b j too_many_slots)) (sym e) tt)

-- ---- in a program
module _ (p : ProgramTree) (schemes : List SchemeTree) (i : ℕ) (f : FunctionTree) (e : slice_get p.functions i ≡ Some f) (closed : LiteralsAreClosed f.body) (have : HaveSchemes p schemes i) where
  abbrev before : Earlier
  before = typings_below p i

  is_typing : (g : Signature) → Typing p i g → IsTypingOf (length p.bases) p.records before i f g
  is_typing g h = subst (λ o. TypingAt (length p.bases) p.records before i o g) e h

  says : (j : Judgement) → judge (length p.bases) p.records schemes i f ≡ j → Says before schemes i (all_fit p schemes i have) p.records f closed (length p.bases) j
  says j is = subst (Says before schemes i (all_fit p schemes i have) p.records f closed (length p.bases)) is (judge_says before schemes i (all_fit p schemes i have) p.records f closed (length p.bases))

  judged_instances : (s : SchemeTree) → judge (length p.bases) p.records schemes i f ≡ has_scheme s → (g : Signature) → Typing p i g ↔ IsInstance s g
  judged_instances s is g =
      let both = says (has_scheme s) is g in
      ((λ h. both.0 (is_typing g h)), (λ h. subst (λ o. TypingAt (length p.bases) p.records before i o g) (sym e) (both.1 h)))

  judged_untyped : (k at : ℕ) → judge (length p.bases) p.records schemes i f ≡ has_no_typing k at → IsFirstRow p schemes i f k at × (AreSolvableUpTo p schemes i f k → ⊥) × ((g : Signature) → Typing p i g → ⊥)
  judged_untyped k at is = let h = says (has_no_typing k at) is in (h.0, h.1, λ g t. h.2 g (is_typing g t))

  judged_not_general : (k at : ℕ) → judge (length p.bases) p.records schemes i f ≡ not_general k at → IsFirstRow p schemes i f k at × AreSolvableUpTo p schemes i f k × ((g : Signature) → Typing p i g → ⊥)
  judged_not_general k at is = let h = says (not_general k at) is in (h.0, h.1, λ g t. h.2 g (is_typing g t))

-- a judged scheme is a numbered one
numbered_slots : (k at : ℕ) (r : Solving) (s : SchemeTree) → by_slots k at r ≡ has_scheme s → IsNumberedScheme s
numbered_slots k at (solved us) s h = absurd (cc h)
numbered_slots k at (unsolved j row) s h = absurd (cc h)
numbered_slots k at (out_of_range row) s h = absurd (cc h)

module _ (bases parameters slots at : ℕ) where
  numbered_solution : (g : Signature) (s : SchemeTree) → by_solution bases parameters slots at g ≡ has_scheme s → IsNumberedScheme s
  numbered_solution g s =
      let scheme = numbered_scheme (generalised bases parameters slots g) in
      on_test (signature_fits g)
      (λ e h. let same : scheme ≡ s = cc (subst (λ b. cond b (has_scheme scheme) (passes_range at) ≡ has_scheme s) e h) in subst IsNumberedScheme same (numbered_is_numbered (generalised bases parameters slots g)))
      (λ e h. absurd (cc (subst (λ b. cond b (has_scheme scheme) (passes_range at) ≡ has_scheme s) e h)))

  numbered_solving : (g : Signature) (rs : List Row) (r : Solving) (s : SchemeTree) → by_solving bases parameters slots at g rs r ≡ has_scheme s → IsNumberedScheme s
  numbered_solving g rs (solved units) s h = numbered_solution (put_signature (nth units) g) s h
  numbered_solving g rs (unsolved k row) s h = numbered_slots k row (solve 0 (rows_up_to k rs) (own_variables slots)) s h
  numbered_solving g rs (out_of_range row) s h = absurd (cc h)

  numbered_range : (o : Option ℕ) (g : Signature) (rs : List Row) (r : Solving) (s : SchemeTree) → by_range o (by_solving bases parameters slots at g rs r) ≡ has_scheme s → IsNumberedScheme s
  numbered_range None g rs r s h = numbered_solving g rs r s h
  numbered_range (Some k) g rs r s h = absurd (cc h)

pub judged_numbered : (bases : ℕ) (records : List RecordTree) (schemes : List SchemeTree) (i : ℕ) (f : FunctionTree) (s : SchemeTree) → judge bases records schemes i f ≡ has_scheme s → IsNumberedScheme s
judged_numbered bases records schemes i f s =
    let n = slot_count records schemes i f in
    let steps = (slot_equations records schemes i f).steps in
    let g = slot_signature records schemes i f in
    let r = solve 0 (rows_of steps) (rigid_units bases f.units n) in
    let j = by_range (first_past steps) (by_rows bases f.units n f.at g (rows_of steps)) in
    on_test (leb n 2000)
    (λ e h. numbered_range bases f.units n f.at (first_past steps) g (rows_of steps) r s (subst (λ b. cond b j too_many_slots ≡ has_scheme s) e h))
    (λ e h. absurd (cc (subst (λ b. cond b j too_many_slots ≡ has_scheme s) e h)))

pub judged_schemes_are_principal : JudgedSchemesArePrincipal
judged_schemes_are_principal p schemes i f e closed have s is =
    let numbered = judged_numbered (length p.bases) p.records schemes i f s is in
    (record { below = numbered_below s numbered; instances = judged_instances p schemes i f e closed have s is }, numbered)

pub judged_untyped_have_none : JudgedUntypedHaveNone
judged_untyped_have_none p schemes i f e closed have k at is = judged_untyped p schemes i f e closed have k at is

pub judged_not_general_have_none : JudgedNotGeneralHaveNone
judged_not_general_have_none p schemes i f e closed have k at is = judged_not_general p schemes i f e closed have k at is
