-- The two types of a reason are most general, and never equal.
-- Source: Kennedy (1996): a most general unifier.
use Rattle.std.proofs.Common.{◌≡◌, ◌⊎◌, inl, inr, ℕ, zero, suc, ◌+◌, ◌-◌, ◌<◌, ◌≤◌, Bool, true, false, cond, ◌&&◌, nat_eq, List, [], ◌∷◌, ◌++◌, map, length, get_or, Option, refl, sym, ap, ◌∙◌, subst, arith}
use Rattle.std.specs.Prelude.{All, Contains, filter}
use Rattle.std.specs.List.{list_any, range_with_len}
use Rattle.std.proofs.lemmas.Bool.{cases_eq}
use Rattle.std.proofs.lemmas.List.{append-nil, append_assoc, get_or-map}
use Rattle.std.proofs.lemmas.Cmp.{nat_eq_equiv}
use Rattle.std.proofs.lemmas.List.Elements.{All-nil, All-cons, All-head, All-tail, All-contains, All-contains_itself, All-weaker, All-map, Contains-append_right}
use Rattle.std.proofs.lemmas.Map.Views.{list_any-from_Contains}
use Rattle.um_units.specs.declared.Atom.TheVariants.{Var}
use Rattle.um_units.specs.PowerMap.{PowerMap, one, atom, replace, nth}
use Rattle.um_units.specs.Variables.{VariablesBelow}
use Rattle.um_units.specs.Solutions.{Solves, IsJointSolution}
use Rattle.um_units.proofs.Solutions.{Solves-append, Solves-front, Solves-back, IsSubstitutionInstance_refl}
use Rattle.um_tree.specs.TypeTree.{TypeTree}
use Rattle.um_tree.specs.Typing.{put}
use Rattle.um_tree.specs.Scheme.{type_variables}
use Rattle.um_elim.specs.Application.{type_fits}
use Rattle.um_elim.specs.Elimination.{Elimination, Solved, NoSolution, Range, eliminate, on_solved, eliminate_rows}
use Rattle.um_elim.specs.Instances.{SolvesExactly}
use Rattle.um_elim.specs.Solution.{rigid_units, parameter_rows}
use Rattle.um_elim.proofs.GrowingOrder.{All-member}
use Rattle.um_elim.proofs.RenamedUnits.{put-put, put_alike}
use Rattle.um_elim.proofs.Rows.{solved_is_most_general, length-solved, exactly-more}
use Rattle.um_elim.proofs.Slots.{length-rigid, rigid_is_general}
use Rattle.um_elim.proofs.VariablesKept.{solved_below, all_rigid_below, put_below}
use Rattle.um_equal_types.specs.Steps.{units_of}
use Rattle.um_agree.specs.Agreements.{Agreement, agreement_rows}
use Rattle.um_agree.proofs.AgreementRows.{agreements_are_equalities}
use Rattle.um_reasons.specs.Core.{picked}
use Rattle.um_reasons.proofs.Satisfying.{all_unmap}
use Rattle.um_reasons.proofs.CoreLemmas.{further_below}
use Rattle.um_reasons.specs.Reasons.{disagree, units_pass, factor, by_elimination, other_rows, numbered, reason}
use Rattle.um_reasons.specs.Laws.{HoldSlots, IsExplained, ToldTypesAreMostGeneral, ToldTypesNeverAgree, ToldTypesHoldSlots}

-- ---- rows that are solved one after another
exact_from : (slots : ℕ) (us done rows ws : List PowerMap) → length us ≡ slots → All (VariablesBelow slots) rows → SolvesExactly slots done us → eliminate_rows us rows ≡ Solved ws → SolvesExactly slots (done ++ rows) ws
exact_from slots us done [] ws l below exact e =
    let same : us ≡ ws = cc e in
    subst (λ rs. SolvesExactly slots rs ws) (sym (append-nil done)) (subst (SolvesExactly slots done) same exact)
exact_from slots us done (row ∷ rows) ws l below exact e =
    found (λ vs k x h. exact_from slots vs (done ++ row ∷ []) rows ws k (All-tail (VariablesBelow slots) row rows below) x h) (eliminate us row) refl e
  where
    low : VariablesBelow (length us) row
    low = subst (λ n. VariablesBelow n row) (sym l) (All-head (VariablesBelow slots) row rows below)

    found : ((vs : List PowerMap) → length vs ≡ slots → SolvesExactly slots (done ++ row ∷ []) vs → eliminate_rows vs rows ≡ Solved ws → SolvesExactly slots ((done ++ row ∷ []) ++ rows) ws) →
        (o : Elimination) → eliminate us row ≡ o → on_solved o (λ vs. eliminate_rows vs rows) ≡ Solved ws → SolvesExactly slots (done ++ row ∷ rows) ws
    found rest (Solved vs) h k =
        let g = solved_is_most_general us row vs low h in
        subst (λ rs. SolvesExactly slots rs ws) (append_assoc done (row ∷ []) rows) (rest vs (length-solved us row vs g ∙ l) (exactly-more slots done row us vs exact g) k)
    found rest NoSolution h k = absurd (cc k)
    found rest Range h k = absurd (cc k)

-- their units hold slots alone
below_from : (slots : ℕ) (us rows ws : List PowerMap) → length us ≡ slots → All (VariablesBelow slots) us → All (VariablesBelow slots) rows → eliminate_rows us rows ≡ Solved ws → All (VariablesBelow slots) ws
below_from slots us [] ws l held below e =
    let same : us ≡ ws = cc e in
    subst (All (VariablesBelow slots)) same held
below_from slots us (row ∷ rows) ws l held below e =
    found (λ vs k h x. below_from slots vs rows ws k h (All-tail (VariablesBelow slots) row rows below) x) (eliminate us row) refl e
  where
    low : VariablesBelow (length us) row
    low = subst (λ n. VariablesBelow n row) (sym l) (All-head (VariablesBelow slots) row rows below)

    found : ((vs : List PowerMap) → length vs ≡ slots → All (VariablesBelow slots) vs → eliminate_rows vs rows ≡ Solved ws → All (VariablesBelow slots) ws) →
        (o : Elimination) → eliminate us row ≡ o → on_solved o (λ vs. eliminate_rows vs rows) ≡ Solved ws → All (VariablesBelow slots) ws
    found rest (Solved vs) h k =
        rest vs (length-solved us row vs (solved_is_most_general us row vs low h) ∙ l) (solved_below us row vs low h slots held) k
    found rest NoSolution h k = absurd (cc k)
    found rest Range h k = absurd (cc k)

-- ---- rows by their numbers
row_holds : (rows : List PowerMap) (P : PowerMap → Type 0) (k : ℕ) → All P rows → k < length rows → P (get_or rows k one)
row_holds rows P k all l = all k one l

below_numbered : (slots : ℕ) (rows : List PowerMap) (ks : List ℕ) → All (VariablesBelow slots) rows → All (λ k. k < length rows) ks → All (VariablesBelow slots) (numbered rows ks)
below_numbered slots rows [] below few = All-nil (VariablesBelow slots)
below_numbered slots rows (k ∷ ks) below few =
    All-cons (VariablesBelow slots) (get_or rows k one) (numbered rows ks) (row_holds rows (VariablesBelow slots) k below (All-head (λ i. i < length rows) k ks few))
    (below_numbered slots rows ks below (All-tail (λ i. i < length rows) k ks few))

-- the numbers from a on that pass a test
passing_below : (test : ℕ → Bool) (a n m : ℕ) → a + n ≤ m → All (λ k. k < m) (filter test (range_with_len a n))
passing_below test a zero m l = All-nil (λ k. k < m)
passing_below test a (suc n) m l = by (test a) (passing_below test (a + 1) n m (omega (arith, l))) where
  by : (b : Bool) → All (λ k. k < m) (filter test (range_with_len (a + 1) n)) → All (λ k. k < m) (cond b (a ∷ filter test (range_with_len (a + 1) n)) (filter test (range_with_len (a + 1) n)))
  by true rest = All-cons (λ k. k < m) a (filter test (range_with_len (a + 1) n)) (omega (arith, l)) rest
  by false rest = rest

passing : (P : ℕ → Type 0) (test : ℕ → Bool) (a n k : ℕ) → All P (filter test (range_with_len a n)) → a ≤ k → k < a + n → test k ≡ true → P k
passing P test a zero k all low high h = absurd (omega (arith, low, high))
passing P test a (suc n) k all low high h =
    by (test a) refl all (cases_eq a k) (λ rest l. passing P test (a + 1) n k rest l (omega (arith, high)) h)
  where
    others : List ℕ
    others = filter test (range_with_len (a + 1) n)

    by : (b : Bool) → test a ≡ b → All P (cond b (a ∷ others) others) → (a ≡ k) ⊎ (a ≡ k → ⊥) → (All P others → a + 1 ≤ k → P k) → P k
    by true e all (inl same) rest = subst P same (All-head P a others all)
    by true e all (inr differ) rest = rest (All-tail P a others all) (omega (arith, low, differ))
    by false e all (inl same) rest = let clash : true ≡ false = sym h ∙ ap test (sym same) ∙ e in absurd (cc clash)
    by false e all (inr differ) rest = rest all (omega (arith, low, differ))

-- ---- what is told
pub record IsTold (bases parameters slots : ℕ) (rows : List PowerMap) (core : List ℕ) (s t first second : TypeTree) : Type 0 where
  pub units : List PowerMap
  pub solved : eliminate_rows (rigid_units bases parameters slots) (numbered rows (other_rows (length rows) core)) ≡ Solved units
  pub first_is : first ≡ put (nth units) s
  pub second_is : second ≡ put (nth units) t

is_told : (bases parameters slots : ℕ) (rows : List PowerMap) (core : List ℕ) (s t first second : TypeTree) (f : Option PowerMap) → reason bases parameters slots rows core s t ≡ disagree first second f → IsTold bases parameters slots rows core s t first second
is_told bases parameters slots rows core s t first second f =
    by (eliminate_rows (rigid_units bases parameters slots) (numbered rows (other_rows (length rows) core))) refl
  where
    row : PowerMap
    row = get_or rows (length rows - 1) one

    in_range : (units : List PowerMap) (b : Bool) → cond b (disagree (put (nth units) s) (put (nth units) t) (factor bases (replace (nth units) row))) units_pass ≡ disagree first second f →
        (first ≡ put (nth units) s) × (second ≡ put (nth units) t)
    in_range units true e = (cc e, cc e)
    in_range units false e = absurd (cc e)

    by : (o : Elimination) → eliminate_rows (rigid_units bases parameters slots) (numbered rows (other_rows (length rows) core)) ≡ o → by_elimination bases s t row o ≡ disagree first second f →
        IsTold bases parameters slots rows core s t first second
    by (Solved units) h e =
        let types = in_range units (type_fits (put (nth units) s) && type_fits (put (nth units) t)) e in
        record { units = units; solved = h; first_is = types.0; second_is = types.1 }
    by NoSolution h e = absurd (cc e)
    by Range h e = absurd (cc e)

module _ (slots bases parameters : ℕ) (rows : List PowerMap) (core : List ℕ) (a : Agreement) (hold : HoldSlots slots parameters rows a) (first second : TypeTree) (told : IsTold bases parameters slots rows core a.first a.second first second) where
  abbrev given : List PowerMap
  given = parameter_rows bases parameters

  abbrev others : List PowerMap
  others = numbered rows (other_rows (length rows) core)

  exact : SolvesExactly slots (given ++ others) told.units
  exact =
      exact_from slots (rigid_units bases parameters slots) given others told.units (length-rigid bases parameters slots)
      (below_numbered slots rows (other_rows (length rows) core) hold.rows_below (passing_below (λ k. list_any (nat_eq k) core) 0 (length rows - 1) (length rows) (omega arith)))
      (rigid_is_general bases parameters slots hold.few) told.solved

  per_slot : length told.units ≡ slots
  per_slot = ((exact told.units).0 (IsSubstitutionInstance_refl told.units)).per_slot

  held : All (VariablesBelow slots) told.units
  held =
      below_from slots (rigid_units bases parameters slots) others told.units (length-rigid bases parameters slots) (all_rigid_below bases parameters slots)
      (below_numbered slots rows (other_rows (length rows) core) hold.rows_below (passing_below (λ k. list_any (nat_eq k) core) 0 (length rows - 1) (length rows) (omega arith)))
      told.solved

  put_low : (t : TypeTree) → All (λ k. k < slots) (type_variables t) → All (λ k. k < slots) (type_variables (put (nth told.units) t))
  put_low t below = put_below slots told.units held t (subst (λ n. All (λ k. k < n) (type_variables t)) (sym per_slot) below)

  pub hold_slots : All (λ k. k < slots) (type_variables first) × All (λ k. k < slots) (type_variables second)
  hold_slots = (
    subst (λ t. All (λ k. k < slots) (type_variables t)) (sym told.first_is) (put_low a.first hold.first_below),
    subst (λ t. All (λ k. k < slots) (type_variables t)) (sym told.second_is) (put_low a.second hold.second_below),
  )

  -- the units of an instance, put into a type that holds slots alone
  through : (s : ℕ → PowerMap) (t : TypeTree) → All (λ k. k < slots) (type_variables t) → put (nth (map (replace s) told.units)) t ≡ put s (put (nth told.units) t)
  through s t below =
      put_alike (nth (map (replace s) told.units)) (λ k. replace s (nth told.units k)) t
      (λ k h. get_or-map (replace s) told.units k (atom (Var k)) (atom (Var k)) (let l = All-member (λ i. i < slots) (type_variables t) k below h in omega (arith, l, per_slot)))
      ∙ sym (put-put (nth told.units) s t)

  pub general : (units : List PowerMap) → IsJointSolution slots (given ++ others) units → (s : ℕ → PowerMap) × (put (nth units) a.first ≡ put s first) × (put (nth units) a.second ≡ put s second)
  general units joint =
      let w = (exact units).1 joint in (
        w.0,
        ap (λ us. put (nth us) a.first) (sym w.1) ∙ through w.0 a.first hold.first_below ∙ ap (put w.0) (sym told.first_is),
        ap (λ us. put (nth us) a.second) (sym w.1) ∙ through w.0 a.second hold.second_below ∙ ap (put w.0) (sym told.second_is),
      )

  pub never : IsExplained slots bases parameters rows core a → (s : ℕ → PowerMap) → put s first ≡ put s second → ⊥
  never why s same = why.whole.ends (v, record { per_slot = joint.per_slot; solves = Solves-append (nth v) given (picked slots given rows core) (Solves-front (nth v) given others joint.solves) all_listed })
    where
      v : List PowerMap
      v = map (replace s) told.units

      joint : IsJointSolution slots (given ++ others) v
      joint = (exact v).0 (s, refl)

      P : PowerMap → Type 0
      P row = replace (nth v) row ≡ one

      last : ℕ
      last = length rows - 1

      equal : put (nth v) a.first ≡ put (nth v) a.second
      equal =
          through s a.first hold.first_below ∙ ap (put s) (sym told.first_is) ∙ same
          ∙ ap (put s) told.second_is ∙ sym (through s a.second hold.second_below)

      last_holds : P (get_or rows last one)
      last_holds = All-contains P (units_of (agreement_rows a)) (get_or rows last one) ((agreements_are_equalities a (nth v)).1 equal) why.asked

      other_holds : All (λ k. P (get_or rows k one)) (other_rows (length rows) core)
      other_holds = all_unmap P (λ k. get_or rows k one) (other_rows (length rows) core) (Solves-back (nth v) given others joint.solves)

      each : (ks : List ℕ) → All (λ k. k < last) ks → ((k : ℕ) → Contains ks k → Contains core k) → All (λ k. P (get_or rows k one)) ks
      each ks low within =
          All-weaker (Contains ks) (λ k. P (get_or rows k one))
          (λ k c. passing (λ k. P (get_or rows k one)) (λ k. list_any (nat_eq k) core) 0 last k other_holds (omega arith) (let inside = All-contains (λ k. k < last) ks k low c in omega (arith, inside)) (list_any-from_Contains nat_eq_equiv k core (within k c)))
          ks (All-contains_itself ks)

      all_listed : Solves (nth v) (picked slots given rows core)
      all_listed =
          All-map P (λ k. get_or rows k one) core (subst (All (λ k. P (get_or rows k one))) (sym why.whole.begun.begins)
          (All-cons (λ k. P (get_or rows k one)) last why.whole.begun.further last_holds
          (each why.whole.begun.further (further_below slots given rows why.ends why.whole.begun.further why.whole.begun.grown) (λ k c. subst (λ l. Contains l k) (sym why.whole.begun.begins) (Contains-append_right (last ∷ []) why.whole.begun.further k c)))))

-- ---- the laws
pub told_types_are_most_general : ToldTypesAreMostGeneral
told_types_are_most_general slots bases parameters rows core a hold first second f is =
    general slots bases parameters rows core a hold first second (is_told bases parameters slots rows core a.first a.second first second f is)

pub told_types_never_agree : ToldTypesNeverAgree
told_types_never_agree slots bases parameters rows core a hold why first second f is =
    never slots bases parameters rows core a hold first second (is_told bases parameters slots rows core a.first a.second first second f is) why

pub told_types_hold_slots : ToldTypesHoldSlots
told_types_hold_slots slots bases parameters rows core a hold first second f is =
    hold_slots slots bases parameters rows core a hold first second (is_told bases parameters slots rows core a.first a.second first second f is)
