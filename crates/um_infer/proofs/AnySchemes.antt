-- The rows of a function by two lists of principal schemes of the functions before it.
use Rattle.std.proofs.Common.{◌≡◌, ℕ, zero, suc, ◌+◌, ◌<◌, ◌≤◌, eqb, ltb, ltb-true, lt-ltb, Bool, cond, ◌&&◌, List, [], ◌∷◌, ◌++◌, map, length, take, drop, get_or, Option, Some, None, slice_get, refl, sym, ap, ◌∙◌, subst, arith}
use Rattle.std.specs.Prelude.{All}
use Rattle.std.specs.Option.{option_map}
use Rattle.std.proofs.lemmas.List.{length-map, length-append, map-append, take-append-drop, drop_more}
use Rattle.std.proofs.lemmas.List.Elements.{All-cons, All-head, All-tail, All-take}
use Rattle.std.proofs.lemmas.Option.{same_Some, slice_get-map, slice_get-get_or}
use Rattle.um_units.specs.PowerMap.{PowerMap, one, replace, nth}
use Rattle.um_units.specs.Variables.{VariablesBelow}
use Rattle.um_units.specs.Solutions.{Solves, IsSolvable}
use Rattle.um_units.proofs.Replacement.{replace-variable}
use Rattle.um_units.proofs.Solutions.{Solves-nil, Solves-append, Solves-front, Solves-back}
use Rattle.um_tree.specs.TypeTree.{TypeTree, NoteTree}
use Rattle.um_tree.specs.ProgramTree.{FunctionTree, ProgramTree, Signature, SchemeTree}
use Rattle.um_tree.specs.Typing.{typings_below}
use Rattle.um_tree.specs.Scheme.{IsInstance}
use Rattle.um_elim.specs.Solution.{parameter_rows}
use Rattle.um_elim.proofs.Cases.{on_test}
use Rattle.um_elim.proofs.Slots.{rows_solved, fixed_by_rows}
use Rattle.um_slots.specs.Holes.{Callee, known_by, itself, nobody, notes_holes, result_holes, expr_holes}
use Rattle.um_slots.specs.Noted.{noted_types, noted_result}
use Rattle.um_slots.specs.Callees.{known_function, may_recur, callee, head_holes}
use Rattle.um_slots.specs.Keys.{Key, hole, name, text_keys}
use Rattle.um_slots.specs.Slots.{slot, slot_unit, function_slots, slot_count}
use Rattle.um_slots.proofs.ParameterSlots.{parameter_slot, parameters_have_slots}
use Rattle.um_equal_types.specs.declared.row.Row.{Row}
use Rattle.um_equal_types.specs.Steps.{types_at, rows_of, units_of}
use Rattle.um_equal_types.specs.Against.{against}
use Rattle.um_rows.specs.Derivation.{first_units, derive}
use Rattle.um_rows.specs.Equations.{result_rows, own_signature, head_steps, equations, slot_equations}
use Rattle.um_rows.specs.Solutions.{HaveSchemes}
use Rattle.um_rows.specs.Laws.{IsFirstRow, AreSolvableUpTo}
use Rattle.um_rows.proofs.FunctionLaws.{callee_below}
use Rattle.um_rows.proofs.SlotLaws.{slot_values, hole_value, name_value, length-first, nth-first}
use Rattle.um_rows.proofs.Solved.{all_fit, rows_hold_slots}
use Rattle.um_rows.proofs.Variables.{CalleeBelow, replace_alike_below}
use Rattle.um_infer.proofs.ReplacedSteps.{replaced_steps, replaced_row, replaced_rows, equations_put}
use Rattle.um_infer.proofs.OtherHoles.{OffersAll, Found, Shifted, note_shifted, notes_shifted, result_shifted, found}

-- ---- lists

map_take : {A B : Type 0} (g : A → B) (k : ℕ) (xs : List A) → map g (take k xs) ≡ take k (map g xs)
map_take g zero xs = refl
map_take g (suc k) [] = refl
map_take g (suc k) (x ∷ xs) = ap (λ ys. g x ∷ ys) (map_take g k xs)

take_front : {A : Type 0} (k : ℕ) (a b : List A) → length a ≡ k → take k (a ++ b) ≡ a
take_front zero [] b e = refl
take_front zero (x ∷ a) b e = absurd (omega (arith, e))
take_front (suc k) [] b e = absurd (omega (arith, e))
take_front (suc k) (x ∷ a) b e = ap (λ ys. x ∷ ys) (take_front k a b (omega (arith, e)))

take_through : {A : Type 0} (k : ℕ) (a : List A) (y : A) (b : List A) → length a ≡ k → take (suc k) (a ++ y ∷ b) ≡ a ++ y ∷ []
take_through zero [] y b e = refl
take_through zero (x ∷ a) y b e = absurd (omega (arith, e))
take_through (suc k) [] y b e = absurd (omega (arith, e))
take_through (suc k) (x ∷ a) y b e = ap (λ ys. x ∷ ys) (take_through k a y b (omega (arith, e)))

get_there : {A : Type 0} (k : ℕ) (a : List A) (y : A) (b : List A) → length a ≡ k → slice_get (a ++ y ∷ b) k ≡ Some y
get_there zero [] y b e = refl
get_there zero (x ∷ a) y b e = absurd (omega (arith, e))
get_there (suc k) [] y b e = absurd (omega (arith, e))
get_there (suc k) (x ∷ a) y b e = get_there k a y b (omega (arith, e))

take_next : {A : Type 0} (xs : List A) (k : ℕ) (d : A) → k < length xs → take (suc k) xs ≡ take k xs ++ get_or xs k d ∷ []
take_next [] k d low = absurd (omega (arith, low))
take_next (x ∷ xs) zero d low = refl
take_next (x ∷ xs) (suc k) d low = ap (λ ys. x ∷ ys) (take_next xs k d (omega (arith, low)))

length_front : {A : Type 0} (xs : List A) (k : ℕ) → k < length xs → length (take k xs) ≡ k
length_front [] k low = absurd (omega (arith, low))
length_front (x ∷ xs) zero low = refl
length_front (x ∷ xs) (suc k) low = ap suc (length_front xs k (omega (arith, low)))

-- ---- rows

-- rows that come to the same units are solved alike
solves_rows : (w v : ℕ → PowerMap) (a b : List Row) → map (replaced_row w) a ≡ map (replaced_row v) b → Solves v (units_of b) → Solves w (units_of a)
solves_rows w v [] b same h = Solves-nil w
solves_rows w v (r ∷ a) [] same h = absurd (cc same)
solves_rows w v (r ∷ a) (q ∷ b) same h =
    let first : replaced_row w r ≡ replaced_row v q = cc same in
    let rest : map (replaced_row w) a ≡ map (replaced_row v) b = cc same in
    All-cons (λ row. replace w row ≡ one) r.unit (units_of a)
    (ap (λ (x : Row). x.unit) first ∙ All-head (λ row. replace v row ≡ one) q.unit (units_of b) h)
    (solves_rows w v a b rest (All-tail (λ row. replace v row ≡ one) q.unit (units_of b) h))

solves_below : (n : ℕ) (s t : ℕ → PowerMap) → ((k : ℕ) → k < n → s k ≡ t k) → (rows : List PowerMap) → All (VariablesBelow n) rows → Solves s rows → Solves t rows
solves_below n s t alike [] low h = Solves-nil t
solves_below n s t alike (u ∷ rows) low h =
    All-cons (λ row. replace t row ≡ one) u rows
    (sym (replace_alike_below n s t alike u (All-head (VariablesBelow n) u rows low)) ∙ All-head (λ row. replace s row ≡ one) u rows h)
    (solves_below n s t alike rows (All-tail (VariablesBelow n) u rows low) (All-tail (λ row. replace s row ≡ one) u rows h))

places_kept : (v : ℕ → PowerMap) (rows : List Row) → map (λ (r : Row). r.at) (map (replaced_row v) rows) ≡ map (λ (r : Row). r.at) rows
places_kept v [] = refl
places_kept v (r ∷ rows) = ap (λ ps. r.at ∷ ps) (places_kept v rows)

rows_shifted : (g h m : ℕ → PowerMap) (at : ℕ) (t : TypeTree) (n : ℕ) (o : Option NoteTree) → Shifted g h m (result_holes o) n n → result_rows g m at t n o ≡ result_rows h m at t n o
rows_shifted g h m at t n None same = refl
rows_shifted g h m at t n (Some x) same = ap (against at t) (note_shifted g h m n n x same)

-- ---- what calls go to

module _ (p : ProgramTree) (schemes others : List SchemeTree) (i : ℕ) (f : FunctionTree) (have : HaveSchemes p schemes i) (also : HaveSchemes p others i) where
  abbrev first_callee : ℕ → Callee
  first_callee = callee schemes i f

  abbrev other_callee : ℕ → Callee
  other_callee = callee others i f

  callee_before : (ss : List SchemeTree) (s : SchemeTree) (j : ℕ) → j < i → slice_get ss j ≡ Some s → callee ss i f j ≡ known_by s
  callee_before ss s j l stands =
      ap (λ b. cond b (known_function (slice_get ss j)) (cond (eqb j i && may_recur f) itself nobody)) (lt-ltb j i l) ∙ ap known_function stands

  -- a scheme has the instances of the other: they are the typings
  offers_before : (j : ℕ) → j < i → OffersAll (first_callee j) (other_callee j)
  offers_before j l =
      let s = have j l in
      let t = also j l in
      let mine = callee_before schemes s.scheme j l s.stands in
      let theirs = callee_before others t.scheme j l t.stands in
      let below = subst CalleeBelow theirs (callee_below (typings_below p i) others i (all_fit p others i also) f j) in
      let instances : (g : Signature) → IsInstance s.scheme g → IsInstance t.scheme g = λ g h. (t.principal.instances g).0 ((s.principal.instances g).1 h) in
      subst (λ c. OffersAll c (other_callee j)) (sym mine) (subst (OffersAll (known_by s.scheme)) (sym theirs) (below, instances))

  offers_behind : (b : Bool) → OffersAll (cond b itself nobody) (cond b itself nobody)
  offers_behind b = on_test b (λ e. subst (λ x. OffersAll (cond x itself nobody) (cond x itself nobody)) (sym e) tt) (λ e. subst (λ x. OffersAll (cond x itself nobody) (cond x itself nobody)) (sym e) tt)

  offers : (j : ℕ) → OffersAll (first_callee j) (other_callee j)
  offers j =
      on_test (ltb j i) (λ e. offers_before j (ltb-true j i e))
      (λ e. subst (λ b. OffersAll (cond b (known_function (slice_get schemes j)) (cond (eqb j i && may_recur f) itself nobody)) (cond b (known_function (slice_get others j)) (cond (eqb j i && may_recur f) itself nobody))) (sym e)
      (offers_behind (eqb j i && may_recur f)))

  -- ---- the same equations, whatever units stand for the holes
  module _ (holes names : ℕ → PowerMap) where
    abbrev own : Signature
    own = own_signature holes names f

    abbrev BodySame : (ℕ → PowerMap) → Type 0
    BodySame g = (vars : List TypeTree) → derive g names p.records own other_callee (head_holes f) vars f.body ≡ derive holes names p.records own first_callee (head_holes f) vars f.body

    body_found : Found (expr_holes p.records other_callee f.body) (head_holes f) holes BodySame
    body_found = found holes names p.records own first_callee other_callee offers (head_holes f) (head_holes f) holes f.body

    abbrev other_holes : ℕ → PowerMap
    other_holes = body_found.units

    params_same : noted_types other_holes names 0 f.params ≡ noted_types holes names 0 f.params
    params_same = notes_shifted other_holes holes names 0 0 f.params (λ j low. body_found.kept (0 + j) (omega (arith, low)))

    result_same : noted_result other_holes names (notes_holes f.params) f.result ≡ noted_result holes names (notes_holes f.params) f.result
    result_same = result_shifted other_holes holes names (notes_holes f.params) (notes_holes f.params) f.result (λ j low. body_found.kept (notes_holes f.params + j) (omega (arith, low)))

    body_same : derive other_holes names p.records (own_signature other_holes names f) other_callee (head_holes f) (noted_types other_holes names 0 f.params) f.body ≡ derive holes names p.records own first_callee (head_holes f) (noted_types holes names 0 f.params) f.body
    body_same =
        (λ k. derive other_holes names p.records (record { params = params_same k; result = result_same k }) other_callee (head_holes f) (params_same k) f.body)
        ∙ body_found.holds other_holes (λ k low. refl) (noted_types holes names 0 f.params)

    steps_same : (equations other_holes names p.records others i f).steps ≡ (equations holes names p.records schemes i f).steps
    steps_same =
        let n = notes_holes f.params in
        let body = derive holes names p.records own first_callee (head_holes f) (noted_types holes names 0 f.params) f.body in
        (λ k. types_at f.at (params_same k ++ result_same k ∷ []) ++ ((body_same k).steps ++ result_rows other_holes names f.at (body_same k).type n f.result))
        ∙ ap (λ rows. head_steps holes names f ++ (body.steps ++ rows)) (rows_shifted other_holes holes names f.at body.type n f.result (λ j low. body_found.kept (n + j) (omega (arith, low))))

  -- ---- the same rows, with units put for the slots
  abbrev first_rows : List Row
  first_rows = rows_of (slot_equations p.records schemes i f).steps

  abbrev other_rows : List Row
  other_rows = rows_of (slot_equations p.records others i f).steps

  abbrev first_slots : ℕ
  first_slots = slot_count p.records schemes i f

  abbrev other_slots : ℕ
  other_slots = slot_count p.records others i f

  module _ (v : ℕ → PowerMap) where
    abbrev order : List Key
    order = function_slots p.records schemes i f

    abbrev other_order : List Key
    other_order = function_slots p.records others i f

    abbrev holes_by : ℕ → PowerMap
    holes_by k = replace v (slot_unit order (hole k))

    abbrev names_by : ℕ → PowerMap
    names_by k = replace v (slot_unit order (name k))

    abbrev holes_found : ℕ → PowerMap
    holes_found = other_holes holes_by names_by

    -- units for the slots by the other schemes
    abbrev other_units : ℕ → PowerMap
    other_units = slot_values other_order holes_found names_by

    steps_alike : replaced_steps other_units (slot_equations p.records others i f).steps ≡ replaced_steps v (slot_equations p.records schemes i f).steps
    steps_alike =
        sym (equations_put other_units (λ k. slot_unit other_order (hole k)) (λ k. slot_unit other_order (name k)) p.records others i f)
        ∙ (λ j. (equations (λ k. hole_value other_order holes_found names_by k j) (λ k. name_value other_order holes_found names_by k j) p.records others i f).steps)
        ∙ steps_same holes_by names_by ∙ equations_put v (λ k. slot_unit order (hole k)) (λ k. slot_unit order (name k)) p.records schemes i f

    rows_alike : map (replaced_row other_units) other_rows ≡ map (replaced_row v) first_rows
    rows_alike =
        sym (replaced_rows other_units (slot_equations p.records others i f).steps) ∙ ap rows_of steps_alike ∙ replaced_rows v (slot_equations p.records schemes i f).steps

    parameters_alike : (k : ℕ) → k < f.units → other_units k ≡ v k
    parameters_alike k low =
        ap other_units (sym (parameter_slot f.units (text_keys p.records others i f) k low))
        ∙ sym (replace-variable other_units (slot other_order (name k))) ∙ name_value other_order holes_found names_by k
        ∙ replace-variable v (slot order (name k)) ∙ ap v (parameter_slot f.units (text_keys p.records schemes i f) k low)

  -- ---- the same solvable rows
  transfer : (n k : ℕ) → n ≤ f.units → IsSolvable first_slots (parameter_rows (length p.bases) n ++ units_of (take k first_rows)) → IsSolvable other_slots (parameter_rows (length p.bases) n ++ units_of (take k other_rows))
  transfer n k few (units, joint) =
      let v = nth units in
      let w = other_units v in
      let given = parameter_rows (length p.bases) n in
      let enough = parameters_have_slots f.units (text_keys p.records others i f) in
      let alike : (j : ℕ) → j < other_slots → w j ≡ nth (first_units other_slots w) j = λ j low. sym (nth-first other_slots w j low) in
      let fixed = fixed_by_rows (length p.bases) n v (Solves-front v given (units_of (take k first_rows)) joint.solves) in
      let rows = solves_rows w v (take k other_rows) (take k first_rows) (map_take (replaced_row w) k other_rows ∙ ap (take k) (rows_alike v) ∙ sym (map_take (replaced_row v) k first_rows)) (Solves-back v given (units_of (take k first_rows)) joint.solves) in
      let below = subst (All (VariablesBelow other_slots)) (sym (map_take (λ (r : Row). r.unit) k other_rows)) (All-take (VariablesBelow other_slots) k (units_of other_rows) (rows_hold_slots p others i f also)) in (
        first_units other_slots w,
        record {
          per_slot = length-first other_slots w;
          solves = Solves-append (nth (first_units other_slots w)) given (units_of (take k other_rows))
              (rows_solved (length p.bases) n (nth (first_units other_slots w)) 0 n (λ j low high. sym (alike j (omega (arith, few, enough, high))) ∙ parameters_alike v j (omega (arith, few, high)) ∙ fixed j (omega (arith, high))))
              (solves_below other_slots w (nth (first_units other_slots w)) alike (units_of (take k other_rows)) below rows);
        },
      )

  places_same : map (λ (r : Row). r.at) other_rows ≡ map (λ (r : Row). r.at) first_rows
  places_same =
      let v : ℕ → PowerMap = λ k. one in
      sym (places_kept (other_units v) other_rows) ∙ ap (map (λ (r : Row). r.at)) (rows_alike v) ∙ places_kept v first_rows

-- ---- the first unsolvable row
module _ (p : ProgramTree) (schemes others : List SchemeTree) (i : ℕ) (f : FunctionTree) (have : HaveSchemes p schemes i) (also : HaveSchemes p others i) where
  abbrev given : List PowerMap
  given = parameter_rows (length p.bases) f.units

  abbrev mine : List Row
  mine = rows_of (slot_equations p.records schemes i f).steps

  abbrev theirs : List Row
  theirs = rows_of (slot_equations p.records others i f).steps

  pub same_first_row : (k at : ℕ) → IsFirstRow p schemes i f k at → IsFirstRow p others i f k at
  same_first_row k at h =
      let front : take k mine ≡ h.before = ap (take k) h.splits ∙ take_front k h.before (h.row ∷ h.behind) h.index in
      let through : take (suc k) mine ≡ h.before ++ h.row ∷ [] = ap (take (suc k)) h.splits ∙ take_through k h.before h.row h.behind h.index in
      let long : length mine ≡ length h.before + suc (length h.behind) = ap length h.splits ∙ length-append h.before (h.row ∷ h.behind) in
      let places = places_same p schemes others i f have also in
      let as_many : length theirs ≡ length mine = sym (length-map theirs (λ (r : Row). r.at)) ∙ ap length places ∙ length-map mine (λ (r : Row). r.at) in
      let counted = h.index in
      let below : k < length theirs = omega (arith, as_many, long, counted) in
      let row = get_or theirs k h.row in
      let next : take (suc k) theirs ≡ take k theirs ++ row ∷ [] = take_next theirs k h.row below in
      record {
        before = take k theirs;
        row = row;
        behind = drop (k + 1) theirs;
        splits = sym (take-append-drop k theirs) ∙ ap (λ rs. take k theirs ++ rs) (drop_more theirs k h.row below);
        index = length_front theirs k below;
        place =
            let here : slice_get (map (λ (r : Row). r.at) theirs) k ≡ Some row.at = slice_get-map (λ (r : Row). r.at) theirs k ∙ ap (option_map (λ (r : Row). r.at)) (slice_get-get_or theirs k h.row below) in
            let there : slice_get (map (λ (r : Row). r.at) mine) k ≡ Some h.row.at = slice_get-map (λ (r : Row). r.at) mine k ∙ ap (option_map (λ (r : Row). r.at)) (ap (λ rs. slice_get rs k) h.splits ∙ get_there k h.before h.row h.behind h.index) in
            let same : Some row.at ≡ Some h.row.at = sym here ∙ ap (λ ps. slice_get ps k) places ∙ there in
            same_Some row.at h.row.at same ∙ h.place;
        solvable = transfer p schemes others i f have also f.units k (omega arith) (subst (λ rs. IsSolvable (slot_count p.records schemes i f) (given ++ units_of rs)) (sym front) h.solvable);
        unsolvable = λ solvable.
            let theirs_solvable = subst (IsSolvable (slot_count p.records others i f)) (ap (λ us. given ++ us) (sym (map-append (λ (r : Row). r.unit) (take k theirs) (row ∷ []))) ∙ ap (λ rs. given ++ units_of rs) (sym next)) solvable in
            let back = transfer p others schemes i f also have f.units (suc k) (omega arith) theirs_solvable in
            h.unsolvable (subst (IsSolvable (slot_count p.records schemes i f)) (ap (λ rs. given ++ units_of rs) through ∙ ap (λ us. given ++ us) (map-append (λ (r : Row). r.unit) h.before (h.row ∷ []))) back);
      }

  pub same_solvable : (k : ℕ) → AreSolvableUpTo p schemes i f k → AreSolvableUpTo p others i f k
  same_solvable k h = transfer p schemes others i f have also 0 (suc k) (omega arith) h
