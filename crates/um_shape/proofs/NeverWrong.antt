-- A call at values of its parameters' shapes is never wrong, and its value has the result's shape.
use Rattle.std.proofs.Common.{◌≡◌, refl, sym, subst, ap, ◌∙◌, ℕ, zero, suc, ◌<◌, ◌≤◌, inl, inr, IsSome, true, false, cond, nat_eq, List, [], ◌∷◌, ◌++◌, map, length, Option, Some, None, Result, Ok, Err, slice_get, ℤ, arith, rules}
use Rattle.std.proofs.lemmas.List.{length-map}
use Rattle.std.proofs.lemmas.Bool.Decides.{nat_tests}
use Rattle.um_frac.specs.declared.number.Frac.{Frac}
use Rattle.um_frac.specs.declared.number.Trap.{Trap}
use Rattle.um_frac.specs.Arithmetic.{whole_power_of}
use Rattle.um_tree.specs.TypeTree.{ShapeTree, bool_shape, num_shape, list_shape, record_shape}
use Rattle.um_tree.specs.ValueTree.{ValueTree, ValueTrees, truth_value, number_value, list_value, record_value, no_values, more_values, values_in_order}
use Rattle.um_tree.specs.ExprTree.{ExprTree, ExprTrees, truth, number, local, call, negate, not_expr, pown, arith as arith_tree, compare, both, either, if, bind, split, nil, list_expr, cons, record_expr, field, none, more}
use Rattle.um_tree.specs.ProgramTree.{RecordTree, FunctionTree, ProgramTree}
use Rattle.um_tree.specs.Typing.{field_types}
use Rattle.um_tree.specs.Shapes.{type_shape, note_shape, ShapeSignature, EachShapeIs, HasShape, AllHaveShapes, CallShapes, ShapeAt, shapes_below, FunctionShape}
use Rattle.um_tree.specs.InputType.{ValueHas, EachValueHas, ValuesHave}
use Rattle.um_tree.specs.Meaning.{trap, budget_end, wrong, Out, gives, stops, then, Calling, spend, found, with_budget, number_result, arithmetic, calculated, compared, negated, not_of, raised, longer, value_at, field_of, choose, on_list, means, all_mean, body_means, running, Outcome, end_of}
use Rattle.um_tree.specs.declared.expression.Arith.{Arith}
use Rattle.um_tree.specs.declared.expression.Sign.{Sign}
use Rattle.um_tree.proofs.Below.{earlier_shapes_are}
use Rattle.um_tree.proofs.Moved.{slice_get_moved}
use Rattle.um_shape.specs.Laws.{CallsAreNeverWrong, ValuesHaveResultShape}

-- not wrong; a value has this property, and no more budget is left
abbrev pub Fine : {A : Type 0} → (A → Type 0) → ℕ → Out A → Type 0
Fine P b (gives x c) = P x × (c ≤ b)
Fine P b (stops (trap t)) = Unit {0}
Fine P b (stops budget_end) = Unit {0}
Fine P b (stops wrong) = ⊥

fine_more : {A : Type 0} (P : A → Type 0) (b c : ℕ) (o : Out A) → c ≤ b → Fine P c o → Fine P b o
fine_more P b c (gives x d) h f = (f.0, omega (arith, h, f.1))
fine_more P b c (stops (trap t)) h f = tt
fine_more P b c (stops budget_end) h f = tt
fine_more P b c (stops wrong) h f = f

fine_then : {A B : Type 0} (P : A → Type 0) (Q : B → Type 0) (b : ℕ) (m : Out A) (go : A → ℕ → Out B) → Fine P b m → ((x : A) (c : ℕ) → P x → c ≤ b → Fine Q c (go x c)) → Fine Q b (then m go)
fine_then P Q b (gives x c) go f g = fine_more Q b c (go x c) f.1 (g x c f.0 f.1)
fine_then P Q b (stops (trap t)) go f g = tt
fine_then P Q b (stops budget_end) go f g = tt
fine_then P Q b (stops wrong) go f g = f

module _ (records : List RecordTree) where
  abbrev pub Has : ShapeTree → ValueTree → Type 0
  Has s v = ValueHas records v s

  -- value by value
  abbrev pub Have : List ShapeTree → List ValueTree → Type 0
  Have [] [] = Unit {0}
  Have (s ∷ ss) (v ∷ vs) = Has s v × Have ss vs
  Have ss vs = ⊥

  pub have_all : (vs : List ValueTree) (ss : List ShapeTree) → ValuesHave records (values_in_order vs) ss → Have ss vs
  have_all [] ss h = subst (λ (xs : List ShapeTree). Have xs []) (sym h) tt
  have_all (v ∷ vs) ss h = subst (λ (xs : List ShapeTree). Have xs (v ∷ vs)) (sym h.4) (h.2, have_all vs h.1 h.3)

  all_have : (ss : List ShapeTree) (vs : List ValueTree) → Have ss vs → ValuesHave records (values_in_order vs) ss
  all_have [] [] h = refl
  all_have (s ∷ ss) (v ∷ vs) h = (s, ss, h.0, all_have ss vs h.1, refl)
  all_have [] (v ∷ vs) h = absurd h
  all_have (s ∷ ss) [] h = absurd h

  each_has : (s : ShapeTree) (ss : List ShapeTree) (vs : List ValueTree) → EachShapeIs s ss → Have ss vs → EachValueHas records (values_in_order vs) s
  each_has s [] [] e h = tt
  each_has s (t ∷ ss) (v ∷ vs) e h = (subst (λ x. Has x v) e.0 h.0, each_has s ss vs e.1 h.1)
  each_has s [] (v ∷ vs) e h = absurd h
  each_has s (t ∷ ss) [] e h = absurd h

  -- the items of a list that isn't empty
  items_have : (s : ShapeTree) (ss : List ShapeTree) (vs : List ValueTree) → EachShapeIs s ss → Have (s ∷ ss) vs → EachValueHas records (values_in_order vs) s
  items_have s ss (v ∷ vs) e h = (h.0, each_has s ss vs e h.1)
  items_have s ss [] e h = absurd h

  get_fine : (ss : List ShapeTree) (vs : List ValueTree) (k : ℕ) (s : ShapeTree) (b : ℕ) → Have ss vs → slice_get ss k ≡ Some s → Fine (Has s) b (found (slice_get vs k) b)
  get_fine [] [] zero s b h e = absurd cc
  get_fine [] [] (suc k) s b h e = absurd cc
  get_fine (x ∷ ss) (v ∷ vs) zero s b h e = let same : x ≡ s = cc in (subst (λ x. Has x v) same h.0, omega arith)
  get_fine (x ∷ ss) (v ∷ vs) (suc k) s b h e = get_fine ss vs k s b h.1 e
  get_fine [] (v ∷ vs) k s b h e = absurd h
  get_fine (x ∷ ss) [] k s b h e = absurd h

  have_both : (ss : List ShapeTree) (vs : List ValueTree) (ts : List ShapeTree) (ws : List ValueTree) → Have ss vs → Have ts ws → Have (ss ++ ts) (vs ++ ws)
  have_both [] [] ts ws h k = k
  have_both (s ∷ ss) (v ∷ vs) ts ws h k = (h.0, have_both ss vs ts ws h.1 k)
  have_both [] (v ∷ vs) ts ws h k = absurd h
  have_both (s ∷ ss) [] ts ws h k = absurd h

  same_length : (ss : List ShapeTree) (vs : List ValueTree) → Have ss vs → length vs ≡ length ss
  same_length [] [] h = refl
  same_length (s ∷ ss) (v ∷ vs) h = ap suc (same_length ss vs h.1)
  same_length [] (v ∷ vs) h = absurd h
  same_length (s ∷ ss) [] h = absurd h

  -- ---- operations

  result_fine : (r : Result Frac Trap) (b : ℕ) → Fine (Has num_shape) b (with_budget (number_result r) b)
  result_fine (Ok c) b = (refl, omega arith)
  result_fine (Err t) b = tt

  -- a value of one of these shapes is of their kind
  calculated_second : (op : Arith) (c : Frac) (w : ValueTree) (b : ℕ) → Has num_shape w → Fine (Has num_shape) b (with_budget (calculated op (number_value c) w) b)
  calculated_second op c (number_value d) b k = result_fine (arithmetic op c d) b
  calculated_second op c (truth_value x) b k = absurd cc
  calculated_second op c (list_value x) b k = let e : num_shape ≡ list_shape k.0 = k.2 in absurd cc
  calculated_second op c (record_value r x) b k = let e : num_shape ≡ record_shape r = k.3 in absurd cc

  calculated_fine : (op : Arith) (v w : ValueTree) (b : ℕ) → Has num_shape v → Has num_shape w → Fine (Has num_shape) b (with_budget (calculated op v w) b)
  calculated_fine op (number_value c) w b h k = calculated_second op c w b k
  calculated_fine op (truth_value x) w b h k = absurd cc
  calculated_fine op (list_value x) w b h k = let e : num_shape ≡ list_shape h.0 = h.2 in absurd cc
  calculated_fine op (record_value r x) w b h k = let e : num_shape ≡ record_shape r = h.3 in absurd cc

  compared_second : (sign : Sign) (c : Frac) (w : ValueTree) (b : ℕ) → Has num_shape w → Fine (Has bool_shape) b (with_budget (compared sign (number_value c) w) b)
  compared_second sign c (number_value d) b k = (refl, omega arith)
  compared_second sign c (truth_value x) b k = absurd cc
  compared_second sign c (list_value x) b k = let e : num_shape ≡ list_shape k.0 = k.2 in absurd cc
  compared_second sign c (record_value r x) b k = let e : num_shape ≡ record_shape r = k.3 in absurd cc

  compared_fine : (sign : Sign) (v w : ValueTree) (b : ℕ) → Has num_shape v → Has num_shape w → Fine (Has bool_shape) b (with_budget (compared sign v w) b)
  compared_fine sign (number_value c) w b h k = compared_second sign c w b k
  compared_fine sign (truth_value x) w b h k = absurd cc
  compared_fine sign (list_value x) w b h k = let e : num_shape ≡ list_shape h.0 = h.2 in absurd cc
  compared_fine sign (record_value r x) w b h k = let e : num_shape ≡ record_shape r = h.3 in absurd cc

  negated_fine : (v : ValueTree) (b : ℕ) → Has num_shape v → Fine (Has num_shape) b (with_budget (negated v) b)
  negated_fine (number_value c) b h = (refl, omega arith)
  negated_fine (truth_value x) b h = absurd cc
  negated_fine (list_value x) b h = let e : num_shape ≡ list_shape h.0 = h.2 in absurd cc
  negated_fine (record_value r x) b h = let e : num_shape ≡ record_shape r = h.3 in absurd cc

  raised_fine : (i : ℤ) (v : ValueTree) (b : ℕ) → Has num_shape v → Fine (Has num_shape) b (with_budget (raised i v) b)
  raised_fine i (number_value c) b h = result_fine (whole_power_of c i) b
  raised_fine i (truth_value x) b h = absurd cc
  raised_fine i (list_value x) b h = let e : num_shape ≡ list_shape h.0 = h.2 in absurd cc
  raised_fine i (record_value r x) b h = let e : num_shape ≡ record_shape r = h.3 in absurd cc

  opposite_fine : (v : ValueTree) (b : ℕ) → Has bool_shape v → Fine (Has bool_shape) b (with_budget (not_of v) b)
  opposite_fine (truth_value x) b h = (refl, omega arith)
  opposite_fine (number_value c) b h = absurd cc
  opposite_fine (list_value x) b h = let e : bool_shape ≡ list_shape h.0 = h.2 in absurd cc
  opposite_fine (record_value r x) b h = let e : bool_shape ≡ record_shape r = h.3 in absurd cc

  choose_fine : (s : ShapeTree) (v : ValueTree) (x y : ℕ → Out ValueTree) (b : ℕ) → Has bool_shape v → Fine (Has s) b (x b) → Fine (Has s) b (y b) → Fine (Has s) b (choose v x y b)
  choose_fine s (truth_value true) x y b h p q = p
  choose_fine s (truth_value false) x y b h p q = q
  choose_fine s (number_value c) x y b h p q = absurd cc
  choose_fine s (list_value z) x y b h p q = let e : bool_shape ≡ list_shape h.0 = h.2 in absurd cc
  choose_fine s (record_value r z) x y b h p q = let e : bool_shape ≡ record_shape r = h.3 in absurd cc

  -- what the items of a list have
  list_items : (t u : ShapeTree) (vs : ValueTrees) → EachValueHas records vs u → list_shape t ≡ list_shape u → EachValueHas records vs t
  list_items t u vs h e = let same : u ≡ t = cc in subst (EachValueHas records vs) same h

  longer_fine : (s : ShapeTree) (v w : ValueTree) (b : ℕ) → Has s v → Has (list_shape s) w → Fine (Has (list_shape s)) b (with_budget (longer v w) b)
  longer_fine s v (list_value vs) b h k = ((s, (h, list_items s k.0 vs k.1 k.2), refl), omega arith)
  longer_fine s v (truth_value x) b h k = absurd cc
  longer_fine s v (number_value c) b h k = absurd cc
  longer_fine s v (record_value r x) b h k = let e : list_shape s ≡ record_shape r = k.3 in absurd cc

  list_fine : (a s : ShapeTree) (v : ValueTree) (x : ℕ → Out ValueTree) (y : ValueTree → ValueTree → ℕ → Out ValueTree) (b : ℕ) → Has (list_shape a) v → Fine (Has s) b (x b) → ((h t : ValueTree) → Has a h → Has (list_shape a) t → Fine (Has s) b (y h t b)) → Fine (Has s) b (on_list v x y b)
  list_fine a s (list_value no_values) x y b h p q = p
  list_fine a s (list_value (more_values v vs)) x y b h p q = let w = list_items a h.0 (more_values v vs) h.1 h.2 in q v (list_value vs) w.0 (a, w.1, refl)
  list_fine a s (truth_value z) x y b h p q = absurd cc
  list_fine a s (number_value c) x y b h p q = absurd cc
  list_fine a s (record_value r z) x y b h p q = let e : list_shape a ≡ record_shape r = h.3 in absurd cc

  at_fine : (vs : ValueTrees) (ss : List ShapeTree) (k : ℕ) (s : ShapeTree) (b : ℕ) → ValuesHave records vs ss → slice_get ss k ≡ Some s → Fine (Has s) b (with_budget (value_at vs k) b)
  at_fine no_values ss zero s b h e = let f : slice_get [] 0 ≡ Some s = subst (λ xs. slice_get xs 0 ≡ Some s) h e in absurd cc
  at_fine no_values ss (suc k) s b h e = let f : slice_get [] (suc k) ≡ Some s = subst (λ xs. slice_get xs (suc k) ≡ Some s) h e in absurd cc
  at_fine (more_values v vs) ss zero s b h e =
      let f : slice_get (h.0 ∷ h.1) 0 ≡ Some s = subst (λ xs. slice_get xs 0 ≡ Some s) h.4 e in
      let same : h.0 ≡ s = cc in
      (subst (λ x. Has x v) same h.2, omega arith)
  at_fine (more_values v vs) ss (suc k) s b h e =
      let f : slice_get (h.0 ∷ h.1) (suc k) ≡ Some s = subst (λ xs. slice_get xs (suc k) ≡ Some s) h.4 e in
      at_fine vs h.1 k s b h.3 f

  part_fine : (r k : ℕ) (d : RecordTree) (s : ShapeTree) (v : ValueTree) (b : ℕ) → slice_get records r ≡ Some d → slice_get (map type_shape (field_types d)) k ≡ Some s → Has (record_shape r) v → Fine (Has s) b (with_budget (field_of r k v) b)
  part_fine r k d s (record_value q vs) b there here h =
      let same : r ≡ q = number_of r q h.3 in
      let test : nat_eq q r ≡ true = grind (arith, nat_tests) in
      let declared : h.0 ≡ d = some_same h.0 d (subst (λ x. slice_get records x ≡ Some h.0) (sym same) h.1) there in
      subst (λ t. Fine (Has s) b (with_budget (cond t (value_at vs k) (Err wrong)) b)) (sym test) (at_fine vs (map type_shape (field_types h.0)) k s b h.2 (subst (λ x. slice_get (map type_shape (field_types x)) k ≡ Some s) (sym declared) here)) where
        number_of : (r q : ℕ) → record_shape r ≡ record_shape q → r ≡ q
        number_of r q e = cc

        some_same : (x y : RecordTree) → slice_get records r ≡ Some x → slice_get records r ≡ Some y → x ≡ y
        some_same x y e f = let g : Some x ≡ Some y = sym e ∙ f in cc
  part_fine r k d s (truth_value x) b there here h = absurd cc
  part_fine r k d s (number_value c) b there here h = absurd cc
  part_fine r k d s (list_value vs) b there here h = let e : record_shape r ≡ list_shape h.0 = h.2 in absurd cc

  at_shape : (s t : ShapeTree) (b : ℕ) (o : Out ValueTree) → t ≡ s → Fine (Has s) b o → Fine (Has t) b o
  at_shape s t b o e h = subst (λ (t : ShapeTree). Fine (Has t) b o) (sym e) h

  -- ---- expressions

  module _ (calls : ℕ → ShapeSignature → Type 0) (n : ℕ) (calling : Calling) (fine_calls : (j : ℕ) (g : ShapeSignature) → calls j g → (vs : List ValueTree) (b : ℕ) → b ≤ n → Have g.params vs → Fine (Has g.result) b (calling j vs b)) where
    mutual
      pub fine : (vars : List ShapeTree) (e : ExprTree) (s : ShapeTree) (vs : List ValueTree) (b : ℕ) → b ≤ n → HasShape records calls vars e s → Have vars vs → Fine (Has s) b (means calling e vs b)
      fine vars (truth at x) s vs b l h r = (h, omega arith)
      fine vars (number at c u) s vs b l h r = (h, omega arith)
      fine vars (local at k) s vs b l h r = get_fine vars vs k s b r h
      fine vars (call at j es) s vs b l h r =
          fine_then (Have h.0) (Has s) b _ _ (all_fine vars es h.0 vs b l h.1 r) (λ ws c k m. fine_calls j (record { params = h.0; result = s }) h.2 ws c (omega (arith, l, m)) k)
      fine vars (negate at x) s vs b l h r =
          at_shape num_shape s b _ h.1 (fine_then (Has num_shape) (Has num_shape) b _ _ (fine vars x num_shape vs b l h.0 r) (λ v c k m. negated_fine v c k))
      fine vars (not_expr at x) s vs b l h r =
          at_shape bool_shape s b _ h.1 (fine_then (Has bool_shape) (Has bool_shape) b _ _ (fine vars x bool_shape vs b l h.0 r) (λ v c k m. opposite_fine v c k))
      fine vars (pown at x i) s vs b l h r =
          at_shape num_shape s b _ h.1 (fine_then (Has num_shape) (Has num_shape) b _ _ (fine vars x num_shape vs b l h.0 r) (λ v c k m. raised_fine i v c k))
      fine vars (arith_tree at op x y) s vs b l h r =
          at_shape num_shape s b _ h.2 (fine_then (Has num_shape) (Has num_shape) b _ _ (fine vars x num_shape vs b l h.0 r) (λ v c k m. fine_then (Has num_shape) (Has num_shape) c _ _ (fine vars y num_shape vs c (omega (arith, l, m)) h.1 r) (λ w d p q. calculated_fine op v w d k p)))
      fine vars (compare at sign x y) s vs b l h r =
          at_shape bool_shape s b _ h.2 (fine_then (Has num_shape) (Has bool_shape) b _ _ (fine vars x num_shape vs b l h.0 r) (λ v c k m. fine_then (Has num_shape) (Has bool_shape) c _ _ (fine vars y num_shape vs c (omega (arith, l, m)) h.1 r) (λ w d p q. compared_fine sign v w d k p)))
      fine vars (both at x y) s vs b l h r =
          at_shape bool_shape s b _ h.2 (fine_then (Has bool_shape) (Has bool_shape) b _ _ (fine vars x bool_shape vs b l h.0 r) (λ v c k m. choose_fine bool_shape v _ _ c k (fine vars y bool_shape vs c (omega (arith, l, m)) h.1 r) (refl, omega arith)))
      fine vars (either at x y) s vs b l h r =
          at_shape bool_shape s b _ h.2 (fine_then (Has bool_shape) (Has bool_shape) b _ _ (fine vars x bool_shape vs b l h.0 r) (λ v c k m. choose_fine bool_shape v _ _ c k (refl, omega arith) (fine vars y bool_shape vs c (omega (arith, l, m)) h.1 r)))
      fine vars (if at t x y) s vs b l h r =
          fine_then (Has bool_shape) (Has s) b _ _ (fine vars t bool_shape vs b l h.0 r) (λ v d k m. choose_fine s v _ _ d k (fine vars x s vs d (omega (arith, l, m)) h.1 r) (fine vars y s vs d (omega (arith, l, m)) h.2 r))
      fine vars (bind at x y) s vs b l h r =
          fine_then (Has h.0) (Has s) b _ _ (fine vars x h.0 vs b l h.1 r) (λ v c k m. fine (vars ++ h.0 ∷ []) y s (vs ++ v ∷ []) c (omega (arith, l, m)) h.2 (have_both vars vs (h.0 ∷ []) (v ∷ []) r (k, tt)))
      fine vars (split at t x y) s vs b l h r =
          fine_then (Has (list_shape h.0)) (Has s) b _ _ (fine vars t (list_shape h.0) vs b l h.1 r) (λ v c k m. list_fine h.0 s v _ _ c k (fine vars x s vs c (omega (arith, l, m)) h.2 r) (λ x0 xs p q. fine (vars ++ h.0 ∷ list_shape h.0 ∷ []) y s (vs ++ x0 ∷ xs ∷ []) c (omega (arith, l, m)) h.3 (have_both vars vs (h.0 ∷ list_shape h.0 ∷ []) (x0 ∷ xs ∷ []) r (p, (q, tt)))))
      fine vars (nil at note) s vs b l h r = ((h.0, tt, h.2), omega arith)
      fine vars (list_expr at es) s vs b l h r =
          fine_then (Have (h.0 ∷ h.1)) (Has s) b _ _ (all_fine vars es (h.0 ∷ h.1) vs b l h.2 r) (λ ws c k m. ((h.0, items_have h.0 h.1 ws h.3 k, h.4), omega arith))
      fine vars (cons at x y) s vs b l h r =
          at_shape (list_shape h.0) s b _ h.3 (fine_then (Has h.0) (Has (list_shape h.0)) b _ _ (fine vars x h.0 vs b l h.1 r) (λ v c k m. fine_then (Has (list_shape h.0)) (Has (list_shape h.0)) c _ _ (fine vars y (list_shape h.0) vs c (omega (arith, l, m)) h.2 r) (λ w d p q. longer_fine h.0 v w d k p)))
      fine vars (record_expr at r es) s vs b l h w =
          fine_then (Have (map type_shape (field_types h.0))) (Has s) b _ _ (all_fine vars es (map type_shape (field_types h.0)) vs b l h.2 w) (λ ws c k m. ((h.0, h.1, all_have (map type_shape (field_types h.0)) ws k, h.3), omega arith))
      fine vars (field at r k a) s vs b l h w =
          at_shape (type_shape h.1) s b _ h.5 (fine_then (Has (record_shape r)) (Has (type_shape h.1)) b _ _ (fine vars a (record_shape r) vs b l h.4 w) (λ v c p q. part_fine r k h.0 (type_shape h.1) v c h.2 (slice_get_moved type_shape (field_types h.0) k h.1 h.3) p))

      all_fine : (vars : List ShapeTree) (es : ExprTrees) (ss : List ShapeTree) (vs : List ValueTree) (b : ℕ) → b ≤ n → AllHaveShapes records calls vars es ss → Have vars vs → Fine (Have ss) b (all_mean calling es vs b)
      all_fine vars none ss vs b l h r =
          let o : Out (List ValueTree) = gives [] b in
          let p : Fine (Have []) b o = (tt, omega arith) in
          subst (λ (ss : List ShapeTree). Fine (Have ss) b o) (sym h) p
      all_fine vars (more e es) ss vs b l h r =
          subst
          (λ (ss : List ShapeTree). Fine (Have ss) b (all_mean calling (more e es) vs b))
          (sym h.4)
          (fine_then (Has h.0) (Have (h.0 ∷ h.1)) b _ _ (fine vars e h.0 vs b l h.2 r) (λ v c k m. fine_then (Have h.1) (Have (h.0 ∷ h.1)) c _ _ (all_fine vars es h.1 vs c (omega (arith, l, m)) h.3 r) (λ ws d p q. ((k, p), omega arith))))

-- ---- calls

spend_fine : (P : ValueTree → Type 0) (b : ℕ) (go : ℕ → Out ValueTree) → ((c : ℕ) → c < b → Fine P c (go c)) → Fine P b (spend b go)
spend_fine P zero go h = tt
spend_fine P (suc b) go h = fine_more P (suc b) b (go b) (omega arith) (h b (omega arith))

module _ (p : ProgramTree) where
  abbrev Runs : ℕ → Type 0
  Runs n = (j : ℕ) (g : ShapeSignature) → FunctionShape p j g → (vs : List ValueTree) (b : ℕ) → b < n → Have p.records g.params vs → Fine (Has p.records g.result) b (running p.functions n j vs b)

  -- what a body calls has its shapes
  called : (i j : ℕ) (f : FunctionTree) (g h : ShapeSignature) → FunctionShape p i g → CallShapes (shapes_below p i) i f g j h → FunctionShape p j h
  called i j f g h w (inl c) = (earlier_shapes_are p i j h c.0).0 c.1
  called i j f g h w (inr c) = subst (FunctionShape p j) (sym c.2) (subst (λ k. FunctionShape p k g) (sym c.0) w)

  body_fine : (n i : ℕ) (o : Option FunctionTree) (g : ShapeSignature) → Runs n → FunctionShape p i g → ShapeAt p.records (shapes_below p i) i o g → (vs : List ValueTree) (b : ℕ) → b < suc n → Have p.records g.params vs → Fine (Has p.records g.result) b (body_means (running p.functions n) o vs b)
  body_fine n i None g runs w at vs b l r = absurd at
  body_fine n i (Some f) g runs w at vs b l r =
      let count : length vs ≡ length f.params = same_length p.records g.params vs r ∙ ap length at.params ∙ length-map f.params note_shape in
      let test : nat_eq (length vs) (length f.params) ≡ true = grind (arith, nat_tests) in
      subst
      (λ t. Fine (Has p.records g.result) b (cond t (spend b (means (running p.functions n) f.body vs)) (stops wrong)))
      (sym test)
      (spend_fine (Has p.records g.result) b _ (λ c m. fine p.records (CallShapes (shapes_below p i) i f g) c (running p.functions n) (λ j h k ws d q s. runs j h (called i j f g h w k) ws d (omega (arith, l, m, q)) s) g.params f.body g.result vs c (omega arith) at.body r))

  runs_fine : (n : ℕ) → Runs n
  runs_fine zero j g w vs b l r = absurd (omega (arith, l))
  runs_fine (suc n) j g w vs b l r = body_fine n j (slice_get p.functions j) g (runs_fine n) w w vs b l r

  pub outcome_fine : (j : ℕ) (g : ShapeSignature) → FunctionShape p j g → (vs : List ValueTree) (b : ℕ) → Have p.records g.params vs → Fine (Has p.records g.result) b (Outcome p.functions j vs b)
  unfolding Outcome
  outcome_fine j g w vs b r = runs_fine (suc b) j g w vs b (omega arith) r

some_end : (P : ValueTree → Type 0) (b : ℕ) (o : Out ValueTree) → Fine P b o → IsSome (end_of o)
some_end P b (gives v c) f = search rules
some_end P b (stops (trap t)) f = search rules
some_end P b (stops budget_end) f = search rules
some_end P b (stops wrong) f = absurd f

pub calls_are_never_wrong : CallsAreNeverWrong
calls_are_never_wrong p i g vs b w h = some_end (Has p.records g.result) b _ (outcome_fine p i g w vs b (have_all p.records vs g.params h))

pub values_have_result_shape : ValuesHaveResultShape
values_have_result_shape p i g vs b v rest w h e = (subst (λ o. Fine (Has p.records g.result) b o) e (outcome_fine p i g w vs b (have_all p.records vs g.params h))).0
