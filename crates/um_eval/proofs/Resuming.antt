-- What follows when a frame is handed the value of the expression inside it.
use Rattle.std.proofs.Common.{◌≡◌, refl, sym, ap, ◌∙◌, subst, ℕ, zero, suc, ◌+◌, ◌-◌, ◌*◌, ◌<◌, ◌≤◌, List, [], ◌∷◌, ◌++◌, map, length, take, drop, arith, Bor, Option, Some, None, slice_get, Result, Ok, Err, inl, inr}
use Rattle.std.specs.Prelude.{Bool, true, false, ◌⊎◌}
use Rattle.std.proofs.lemmas.List.{length-append, take-append-le, drop-append-le}
use Rattle.um_frac.specs.declared.number.Trap.{Trap}
use Rattle.um_tree.specs.declared.expression.Expr.{Expr}
use Rattle.um_tree.specs.ValueTree.{ValueTree, truth_value, number_value, list_value, record_value, ValueTrees, no_values, more_values}
use Rattle.um_tree.specs.ExprTree.{none, more, expr_tree, in_order}
use Rattle.um_tree.specs.ProgramTree.{FunctionTree}
use Rattle.um_tree.specs.Meaning.{Stop, trap, budget_end, wrong, Out, gives, stops, then, spend, with_budget, choose, on_list, Means, AllMean, Outcome}
use Rattle.um_tree.proofs.Equations.{AllMean-none, AllMean-more, declared_calls_mean_their_body, other_calls_are_wrong, undeclared_calls_are_wrong}
use Rattle.um_eval.specs.Traces.{Trace, stop_at}
use Rattle.um_eval.specs.Stopping.{AfterItem, CallStops, inside}
use Rattle.um_cells.specs.declared.store.Store.{Store}
use Rattle.um_cells.specs.declared.word.Word.{Word}
use Rattle.um_cells.specs.declared.word.ListCase.TheVariants.{Empty, Items}
use Rattle.um_cells.specs.Stores.{DenotesIn, AllDenote, HasValue, HaveValues, Keeps}
use Rattle.um_cells.specs.declared.operations.WordOutcome.{WordOutcome}
use Rattle.um_cells.specs.declared.operations.WordOutcome.TheVariants as outcome
use Rattle.um_cells.specs.Operations.{truth_in, IsOutcome, TakenApart}
use Rattle.um_cells.proofs.Denoting.{retained_each, DenoteEach-append, length-DenoteEach}
use Rattle.um_eval.specs.declared.frame.Unary.{Unary}
use Rattle.um_eval.specs.declared.frame.Binary.{Binary}
use Rattle.um_eval.specs.declared.frame.Collection.{Collection}
use Rattle.um_eval.specs.declared.frame.Collection.TheVariants as collection
use Rattle.um_eval.specs.declared.frame.Frame.{Frame}
use Rattle.um_eval.specs.declared.frame.Frame.TheVariants as frame
use Rattle.um_eval.specs.declared.stop.Operands.{Operands}
use Rattle.um_eval.specs.declared.stop.Operands.TheVariants as operands
use Rattle.um_eval.specs.Tasks.{Task, Evaluate, Give, Halt, Break}
use Rattle.um_eval.specs.Through.{Whole, Traces, Later, here_of, spot_in, traces_of, operand_traces, right_traces, and_traces, or_traces, test_traces, matched_traces, collected_traces, collecting_traces, item_traces, called_traces, operand_values}
use Rattle.um_eval.specs.Frames.{applied, operated, collected, Completes}
use Rattle.um_eval.specs.Work.{steps, frames_steps, most_steps, task_steps, steps_left}
use Rattle.um_eval.specs.Settling.{settled, task_by, unary_place, binary_place, given_operands}
use Rattle.um_eval.specs.Progress.{Leads, Collecting, AllCollected, no_traces}
use Rattle.um_eval.proofs.Completing.{fewer, told, stopped, completes_kept}
use Rattle.um_eval.proofs.Stopped.{operand_stops, right_stops, item_stops, next_stops, body_stops}
use Rattle.um_eval.proofs.Outcomes.{first_added, item_moves, append_none, outside, spent}

pub variable_there : (s : Store) (ws : List Word) (vs : List ValueTree) (k : ℕ) (w : Word) → AllDenote s ws vs → slice_get ws k ≡ Some w → (v : ValueTree) × (slice_get vs k ≡ Some v) × DenotesIn s w v
variable_there s [] vs k w h e = absurd cc
variable_there s (x ∷ ws) [] k w h e = absurd h
variable_there s (x ∷ ws) (v ∷ vs) zero w (d, h) e = let same : x ≡ w = cc in (v, refl, subst (λ x. DenotesIn s x v) same d)
variable_there s (x ∷ ws) (v ∷ vs) (suc k) w (d, h) e = variable_there s ws vs k w h e

pub variable_missing : (s : Store) (ws : List Word) (vs : List ValueTree) (k : ℕ) → AllDenote s ws vs → slice_get ws k ≡ None → slice_get vs k ≡ None
variable_missing s [] [] zero h e = refl
variable_missing s [] [] (suc k) h e = refl
variable_missing s [] (v ∷ vs) k h e = absurd h
variable_missing s (x ∷ ws) [] k h e = absurd h
variable_missing s (x ∷ ws) (v ∷ vs) zero (d, h) e = absurd cc
variable_missing s (x ∷ ws) (v ∷ vs) (suc k) (d, h) e = variable_missing s ws vs k h e

pub taken_each : (s : Store) (ws : List Word) (vs : List ValueTree) (n : ℕ) → AllDenote s ws vs → AllDenote s (take n ws) (take n vs)
taken_each s ws vs zero h = tt
taken_each s [] [] (suc n) h = tt
taken_each s [] (v ∷ vs) (suc n) h = absurd h
taken_each s (w ∷ ws) [] (suc n) h = absurd h
taken_each s (w ∷ ws) (v ∷ vs) (suc n) (d, h) = (d, taken_each s ws vs n h)

pub one_more : (s : Store) (ws ns : List Word) (vs : List ValueTree) (w : Word) (v : ValueTree) → ns ≡ ws ++ w ∷ [] → AllDenote s ws vs → DenotesIn s w v → AllDenote s ns (vs ++ v ∷ [])
one_more s ws ns vs w v e h d = subst (λ xs. AllDenote s xs (vs ++ v ∷ [])) (sym e) (DenoteEach-append s.cells.items ws (w ∷ []) vs (v ∷ []) h (d, tt))

-- an operation of this place is done, on these operands if it traps
pub done_leads : (fs : List FunctionTree) (s : Store) (callers scope waiting : List Word) (b : ℕ) (frames : List Frame) (whole : Whole) (vars : List ValueTree) (value : Result ValueTree Stop) (P : Traces) (r : WordOutcome) (at : ℕ) (given : Operands) (n : ℕ) → AllDenote s scope vars → IsOutcome s value r → Completes fs s callers waiting frames vars (with_budget value b) P whole → ((why : Trap) → value ≡ Err (trap why) → P (stop_at (spot_in frames at) (trap why) (operand_values given))) → steps_left fs b frames 0 < n → Leads fs s callers scope waiting b frames (settled r at given) whole n
done_leads fs s callers scope waiting b frames whole vars (Ok v) P (outcome.Value w) at given n d x h stops_here l =
    ((vars, v, d, x, fewer fs s callers waiting frames vars (gives v b) P no_traces whole (λ t none. absurd none) h), l)
done_leads fs s callers scope waiting b frames whole vars (Ok v) P (outcome.Trap t) at given n d x h stops_here l = absurd x
done_leads fs s callers scope waiting b frames whole vars (Ok v) P outcome.Wrong at given n d x h stops_here l = absurd x
done_leads fs s callers scope waiting b frames whole vars (Err r) P (outcome.Value w) at given n d x h stops_here l = absurd x
done_leads fs s callers scope waiting b frames whole vars (Err r) P (outcome.Trap t) at given n d x h stops_here l = (
  (
    ap stops (sym x) ∙ stopped fs s callers waiting frames vars r P whole h,
    told fs s callers waiting frames vars (stops r) P whole (stop_at (spot_in frames at) (trap t) (operand_values given)) h (stops_here t (ap Err x)),
  ),
  l,
)
done_leads fs s callers scope waiting b frames whole vars (Err r) P outcome.Wrong at given n d x h stops_here l = (ap stops (sym x) ∙ stopped fs s callers waiting frames vars r P whole h, l)

-- a call leaves less to do: the budget falls, and the body has no more steps than the most
call_falls : (b k f one x n : ℕ) → x < k + 1 → one ≡ 1 → (b + 1) * k + f + 1 < n → b * k + (one + f) + x < n
call_falls b k f one x n less e l = omega (arith, l, less, e)

most_holds : (gs : List FunctionTree) (j : ℕ) (f : FunctionTree) → slice_get gs j ≡ Some f → steps f.body < most_steps gs + 1
most_holds [] j f e = absurd cc
most_holds (g ∷ gs) zero f e = let same : g ≡ f = cc in subst (λ g. steps f.body < steps g.body + most_steps gs + 1) (sym same) (omega arith)
most_holds (g ∷ gs) (suc j) f e = omega (arith, most_holds gs j f e)

module _ (fs : List FunctionTree) (s : Store) (callers scope waiting : List Word) (b : ℕ) (frames : List Frame) (whole : Whole) where
  abbrev Of : List ValueTree → Out ValueTree → Traces → Type 0
  Of vars m P = Completes fs s callers waiting frames vars m P whole

  -- one step more
  pub later : (task : Task) (n : ℕ) → Leads fs s callers scope waiting b frames task whole n → Leads fs s callers scope waiting b frames task whole (n + 1)
  later task n (h, l) = (h, omega (arith, l))

  -- as many steps as there are left
  pub at_least : (task : Task) (n : ℕ) → Leads fs s callers scope waiting b frames task whole n → Leads fs s callers scope waiting b frames task whole (steps_left fs b frames (task_steps task) + 1)
  at_least task n (h, l) = (h, omega arith)

  -- a value has no traces
  valued : (vars : List ValueTree) (v : ValueTree) (P : Traces) → Of vars (gives v b) P → Of vars (gives v b) no_traces
  valued vars v P h = fewer fs s callers waiting frames vars (gives v b) P no_traces whole (λ t none. absurd none) h

  -- the traces of what comes after the value v
  after : (vars : List ValueTree) (m : Out ValueTree) (v : ValueTree) (A : Traces) (next : Trace → ValueTree → ℕ → Type 0) (Q : Traces) → ((t : Trace) → Q t → next t v b) → Of vars m (λ t. A t ⊎ Later (gives v b) (next t)) → Of vars m Q
  after vars m v A next Q into h = fewer fs s callers waiting frames vars m (λ t. A t ⊎ Later (gives v b) (next t)) Q whole (λ t q. inr (v, b, refl, into t q)) h

  -- one of two follows by a test
  pub by_truth : (vars : List ValueTree) (v : ValueTree) (test : Option Bool) (x y : Task) (mx my : ℕ → Out ValueTree) (P : Traces) (n : ℕ) → truth_in v ≡ test → Of vars (choose v mx my b) P → (Of vars (mx b) P → v ≡ truth_value true → Leads fs s callers scope waiting b frames x whole n) → (Of vars (my b) P → v ≡ truth_value false → Leads fs s callers scope waiting b frames y whole n) → steps_left fs b frames 0 < n → Leads fs s callers scope waiting b frames (task_by test x y) whole n
  by_truth vars (truth_value true) test x y mx my P n e h p q l = subst (λ t. Leads fs s callers scope waiting b frames (task_by t x y) whole n) e (p h refl)
  by_truth vars (truth_value false) test x y mx my P n e h p q l = subst (λ t. Leads fs s callers scope waiting b frames (task_by t x y) whole n) e (q h refl)
  by_truth vars (number_value c) test x y mx my P n e h p q l = subst (λ t. Leads fs s callers scope waiting b frames (task_by t x y) whole n) e (stopped fs s callers waiting frames vars wrong P whole h, l)
  by_truth vars (list_value vs) test x y mx my P n e h p q l = subst (λ t. Leads fs s callers scope waiting b frames (task_by t x y) whole n) e (stopped fs s callers waiting frames vars wrong P whole h, l)
  by_truth vars (record_value r vs) test x y mx my P n e h p q l = subst (λ t. Leads fs s callers scope waiting b frames (task_by t x y) whole n) e (stopped fs s callers waiting frames vars wrong P whole h, l)

  -- ---- the value w is handed to a frame
  module _ (w : Word) (n : ℕ) where
    pub operand_leads : (op : Unary) (r : WordOutcome) → ((v : ValueTree) → DenotesIn s w v → IsOutcome s (applied op v) r) → Leads fs s callers scope waiting b (frame.Operand op ∷ frames) (Give w) whole (n + 1) → Leads fs s callers scope waiting b frames (settled r (unary_place op) (given_operands None w)) whole n
    operand_leads op r done ((vars, v, d, x, h), l) =
        done_leads fs s callers scope waiting b frames whole vars (applied op v) (operand_traces fs (here_of frames) op (gives v b) no_traces) r (unary_place op) (given_operands None w) n d (done v x) h
        (λ why e. operand_stops fs s (here_of frames) op v w b why x e) (omega (arith, l))

    pub left_leads : (op : Binary) (y : Bor Expr) → Leads fs s callers scope waiting b (frame.Left op y ∷ frames) (Give w) whole (n + 1) → Leads fs s callers scope waiting b (frame.Right op w ∷ frames) (Evaluate y) whole n
    left_leads op y ((vars, v, d, x, h), l) =
        let here = here_of frames in
        let my = Means fs vars (expr_tree y.now) b in (
          (
            vars,
            d,
            (
              v,
              x,
              after vars (then my (λ u c. with_budget (operated op v u) c)) v no_traces
                  (λ t u c. right_traces fs here op u (Means fs vars (expr_tree y.now) c) (traces_of fs here (expr_tree y.now) vars c) t)
                  (right_traces fs here op v my (traces_of fs here (expr_tree y.now) vars b)) (λ t q. q) h,
            ),
          ),
          omega (arith, l),
        )

    pub and_leads : (y : Bor Expr) (test : Option Bool) → ((s : Store) (v : ValueTree) → DenotesIn s w v → truth_in v ≡ test) → Leads fs s callers scope waiting b (frame.LeftOfAnd y ∷ frames) (Give w) whole (n + 1) → Leads fs s callers scope waiting b frames (task_by test (Evaluate y) (Give w)) whole n
    and_leads y test is ((vars, v, d, x, h), l) =
        let here = here_of frames in
        let P = and_traces fs here vars (expr_tree y.now) (gives v b) no_traces in
        by_truth vars v test (Evaluate y) (Give w) (Means fs vars (expr_tree y.now)) (gives (truth_value false)) P n (is s v x) h
        (λ k e. (
          (
            vars,
            d,
            after vars (Means fs vars (expr_tree y.now) b) v no_traces (λ t u c. (u ≡ truth_value true) × traces_of fs here (expr_tree y.now) vars c t)
                (traces_of fs here (expr_tree y.now) vars b) (λ t q. (e, q)) k,
          ),
          omega (arith, l),
        ))
        (λ k e. ((vars, truth_value false, d, subst (DenotesIn s w) e x, valued vars (truth_value false) P k), omega (arith, l)))
        (omega (arith, l))

    pub or_leads : (y : Bor Expr) (test : Option Bool) → ((s : Store) (v : ValueTree) → DenotesIn s w v → truth_in v ≡ test) → Leads fs s callers scope waiting b (frame.LeftOfOr y ∷ frames) (Give w) whole (n + 1) → Leads fs s callers scope waiting b frames (task_by test (Give w) (Evaluate y)) whole n
    or_leads y test is ((vars, v, d, x, h), l) =
        let here = here_of frames in
        let P = or_traces fs here vars (expr_tree y.now) (gives v b) no_traces in
        by_truth vars v test (Give w) (Evaluate y) (gives (truth_value true)) (Means fs vars (expr_tree y.now)) P n (is s v x) h
        (λ k e. ((vars, truth_value true, d, subst (DenotesIn s w) e x, valued vars (truth_value true) P k), omega (arith, l)))
        (λ k e. (
          (
            vars,
            d,
            after vars (Means fs vars (expr_tree y.now) b) v no_traces (λ t u c. (u ≡ truth_value false) × traces_of fs here (expr_tree y.now) vars c t)
                (traces_of fs here (expr_tree y.now) vars b) (λ t q. (e, q)) k,
          ),
          omega (arith, l),
        ))
        (omega (arith, l))

    pub test_leads : (x y : Bor Expr) (test : Option Bool) → ((s : Store) (v : ValueTree) → DenotesIn s w v → truth_in v ≡ test) → Leads fs s callers scope waiting b (frame.Test x y ∷ frames) (Give w) whole (n + 1) → Leads fs s callers scope waiting b frames (task_by test (Evaluate x) (Evaluate y)) whole n
    test_leads x y test is ((vars, v, d, k, h), l) =
        let here = here_of frames in
        let P = test_traces fs here vars (expr_tree x.now) (expr_tree y.now) (gives v b) no_traces in
        let next : Trace → ValueTree → ℕ → Type 0 =
        λ t u c.
        ((u ≡ truth_value true) × traces_of fs here (expr_tree x.now) vars c t) ⊎ ((u ≡ truth_value false) × traces_of fs here (expr_tree y.now) vars c t) in
        by_truth vars v test (Evaluate x) (Evaluate y) (Means fs vars (expr_tree x.now)) (Means fs vars (expr_tree y.now)) P n (is s v k) h
        (λ k e.
        ((vars, d, after vars (Means fs vars (expr_tree x.now) b) v no_traces next (traces_of fs here (expr_tree x.now) vars b) (λ t q. inl (e, q)) k), omega (arith, l)))
        (λ k e.
        ((vars, d, after vars (Means fs vars (expr_tree y.now) b) v no_traces next (traces_of fs here (expr_tree y.now) vars b) (λ t q. inr (e, q)) k), omega (arith, l)))
        (omega (arith, l))

    pub bound_leads : (y : Bor Expr) (inner : List Word) (k : ℕ) → inner ≡ scope ++ w ∷ [] → k ≡ length callers + length scope → Leads fs s callers scope waiting b (frame.Bound y ∷ frames) (Give w) whole (n + 1) → Leads fs s callers inner waiting b (frame.Inner k ∷ frames) (Evaluate y) whole n
    bound_leads y inner k e m ((vars, v, d, x, h), l) =
        let many : k - length callers ≡ length vars = omega (arith, m, length-DenoteEach s.cells.items scope vars d) in
        let here = here_of frames in
        let my = Means fs (vars ++ v ∷ []) (expr_tree y.now) b in
        let Q = traces_of fs here (expr_tree y.now) (vars ++ v ∷ []) b in
        let known : Of vars my Q =
        after vars my v no_traces (λ t u c. traces_of fs here (expr_tree y.now) (vars ++ u ∷ []) c t) Q (λ t q. q) h in (
          (
            vars ++ v ∷ [],
            one_more s scope inner vars w v e d x,
            (
              omega (arith, m),
              subst (λ us. Completes fs s callers waiting frames us my Q whole) (sym (outside vars (v ∷ []) (k - length callers) many)) known,
            ),
          ),
          omega (arith, l),
        )

    pub inner_within : (k m : ℕ) → Leads fs s callers scope waiting b (frame.Inner k ∷ frames) (Give w) whole m → length callers ≤ k
    inner_within k m ((vars, v, d, x, (e, h)), l) = e

    pub inner_leads : (k : ℕ) (cut : List Word) → cut ≡ take (k - length callers) scope → Leads fs s callers scope waiting b (frame.Inner k ∷ frames) (Give w) whole (n + 1) → Leads fs s callers cut waiting b frames (Give w) whole n
    inner_leads k cut e ((vars, v, d, x, (g, h)), l) =
        let own = take (k - length callers) vars in
        ((own, v, subst (λ ws. AllDenote s ws own) (sym e) (taken_each s scope vars (k - length callers) d), x, h), omega (arith, l))

  -- ---- a match
  no_list : (v : ValueTree) (x : ℕ → Out ValueTree) (y : ValueTree → ValueTree → ℕ → Out ValueTree) → TakenApart s v None → on_list v x y b ≡ stops wrong
  no_list (truth_value t) x y e = refl
  no_list (number_value c) x y e = refl
  no_list (list_value no_values) x y e = absurd cc
  no_list (list_value (more_values v vs)) x y (first, others, e, p, q) = absurd cc
  no_list (record_value r vs) x y e = refl

  empty_list : (v : ValueTree) (x : ℕ → Out ValueTree) (y : ValueTree → ValueTree → ℕ → Out ValueTree) → TakenApart s v (Some Empty) → on_list v x y b ≡ x b
  empty_list (truth_value t) x y e = absurd cc
  empty_list (number_value c) x y e = absurd cc
  empty_list (list_value no_values) x y e = refl
  empty_list (list_value (more_values v vs)) x y (first, others, e, p, q) = absurd cc
  empty_list (record_value r vs) x y e = absurd cc

  with_items : (v : ValueTree) (f o : Word) (x : ℕ → Out ValueTree) (y : ValueTree → ValueTree → ℕ → Out ValueTree) → TakenApart s v (Some (Items f o)) → (u : ValueTree) × (us : ValueTrees) × DenotesIn s f u × DenotesIn s o (list_value us) × (v ≡ list_value (more_values u us))
  with_items (truth_value t) f o x y e = absurd cc
  with_items (number_value c) f o x y e = absurd cc
  with_items (list_value no_values) f o x y e = absurd cc
  with_items (list_value (more_values v vs)) f o x y (first, others, e, p, q) =
      let a : first ≡ f = cc in
      let c : others ≡ o = cc in
      (v, vs, subst (λ z. DenotesIn s z v) a p, subst (λ z. DenotesIn s z (list_value vs)) c q, refl)
  with_items (record_value r vs) f o x y e = absurd cc

  is_empty : (v : ValueTree) → TakenApart s v (Some Empty) → v ≡ list_value no_values
  is_empty (truth_value t) e = absurd cc
  is_empty (number_value c) e = absurd cc
  is_empty (list_value no_values) e = refl
  is_empty (list_value (more_values v vs)) (first, others, e, p, q) = absurd cc
  is_empty (record_value r vs) e = absurd cc

  module _ (w : Word) (n : ℕ) (x y : Bor Expr) where
    abbrev arms : List ValueTree → Trace → ValueTree → ℕ → Type 0
    arms vars t u c =
        ((u ≡ list_value no_values) × traces_of fs (here_of frames) (expr_tree x.now) vars c t)
        ⊎ AfterItem fs (inside fs) (here_of frames) u (λ h l. traces_of fs (here_of frames) (expr_tree y.now) (vars ++ h ∷ l ∷ []) c t)

    pub no_list_leads : ((v : ValueTree) → DenotesIn s w v → TakenApart s v None) → Leads fs s callers scope waiting b (frame.Matched x y ∷ frames) (Give w) whole (n + 1) → Leads fs s callers scope waiting b frames Break whole n
    no_list_leads apart ((vars, v, d, k, h), l) =
        let P = matched_traces fs (here_of frames) vars (expr_tree x.now) (expr_tree y.now) (gives v b) no_traces in
        (stopped fs s callers waiting frames vars wrong P whole (subst (λ o. Of vars o P) (no_list v _ _ (apart v k)) h), omega (arith, l))

    pub empty_leads : ((v : ValueTree) → DenotesIn s w v → TakenApart s v (Some Empty)) → Leads fs s callers scope waiting b (frame.Matched x y ∷ frames) (Give w) whole (n + 1) → Leads fs s callers scope waiting b frames (Evaluate x) whole n
    empty_leads apart ((vars, v, d, k, h), l) =
        let here = here_of frames in
        let P = matched_traces fs here vars (expr_tree x.now) (expr_tree y.now) (gives v b) no_traces in (
          (
            vars,
            d,
            after vars (Means fs vars (expr_tree x.now) b) v no_traces (arms vars) (traces_of fs here (expr_tree x.now) vars b) (λ t q. inl (is_empty v (apart v k), q))
                (subst (λ o. Of vars o P) (empty_list v _ _ (apart v k)) h),
          ),
          omega (arith, l),
        )

    pub items_leads : (f o : Word) (inner : List Word) (k : ℕ) → inner ≡ scope ++ f ∷ o ∷ [] → k ≡ length callers + length scope → ((v : ValueTree) → DenotesIn s w v → TakenApart s v (Some (Items f o))) → Leads fs s callers scope waiting b (frame.Matched x y ∷ frames) (Give w) whole (n + 1) → Leads fs s callers inner waiting b (frame.Inner k ∷ frames) (Evaluate y) whole n
    items_leads f o inner k e m apart ((vars, v, d, p, h), l) =
        let here = here_of frames in
        let many : k - length callers ≡ length vars = omega (arith, m, length-DenoteEach s.cells.items scope vars d) in
        let mx = Means fs vars (expr_tree x.now) in
        let (u, us, df, dr, is) = with_items v f o mx (λ h t. Means fs (vars ++ h ∷ t ∷ []) (expr_tree y.now)) (apart v p) in
        let P = matched_traces fs here vars (expr_tree x.now) (expr_tree y.now) (gives v b) no_traces in
        let all = vars ++ u ∷ list_value us ∷ [] in
        let my = Means fs all (expr_tree y.now) b in
        let Q = traces_of fs here (expr_tree y.now) all b in
        let taken : Of vars my P =
        subst (λ z. Of vars (on_list z mx (λ h t. Means fs (vars ++ h ∷ t ∷ []) (expr_tree y.now)) b) P) is h in
        let known : Of vars my Q = after vars my v no_traces (arms vars) Q (λ t q. inr (u, us, is, q)) taken in (
          (
            all,
            subst (λ ws. AllDenote s ws all) (sym e) (DenoteEach-append s.cells.items scope (f ∷ o ∷ []) vars (u ∷ list_value us ∷ []) d (df, (dr, tt))),
            (
              omega (arith, m),
              subst (λ zs. Completes fs s callers waiting frames zs my Q whole) (sym (outside vars (u ∷ list_value us ∷ []) (k - length callers) many)) known,
            ),
          ),
          omega (arith, l),
        )

  -- ---- collections
  module _ (c : Collection) (first n : ℕ) where
    -- the value of an item is there
    pub item_there : (w : Word) (rest : Bor (List Expr)) (all : List Word) → all ≡ waiting ++ w ∷ [] → Leads fs s callers scope waiting b (frame.Item c rest first ∷ frames) (Give w) whole (n + 1) → Collecting fs s callers scope all b frames c (in_order (map expr_tree rest.now)) first whole n
    item_there w rest all e ((vars, v, d, x, (within, vs, p, h)), l) =
        let here = here_of frames in
        let size : length all ≡ length waiting + 1 = ap length e ∙ length-append waiting (w ∷ []) in
        let done : drop first all ≡ drop first waiting ++ w ∷ [] = ap (drop first) e ∙ drop-append-le first waiting (w ∷ []) within in
        let before : take first all ≡ take first waiting = ap (take first) e ∙ take-append-le first waiting (w ∷ []) within in
        let es = in_order (map expr_tree rest.now) in
        let others = AllMean fs vars es b in
        let m = then others (λ us d. collected fs c ((vs ++ v ∷ []) ++ us) d) in
        let P = item_traces fs here c vs vars es (gives v b) no_traces in
        let Q = collecting_traces fs here c (vs ++ v ∷ []) vars es b in
        let moved : Completes fs s callers (take first waiting) frames vars m P whole =
        subst (λ o. Completes fs s callers (take first waiting) frames vars o P whole) (item_moves others v vs (collected fs c)) h in
        let known : Completes fs s callers (take first waiting) frames vars m Q whole =
        fewer fs s callers (take first waiting) frames vars m P Q whole (λ t q. item_stops fs here c vs vars es v b t q) moved in (
          omega (arith, within, size),
          vars,
          vs ++ v ∷ [],
          d,
          one_more s (drop first waiting) (drop first all) vs w v done p x,
          subst (λ ws. Completes fs s callers ws frames vars m Q whole) (sym before) known,
          omega (arith, l),
        )

    -- the next item is evaluated
    pub next_item : (item : Bor Expr) (behind : Bor (List Expr)) → Collecting fs s callers scope waiting b frames c (more (expr_tree item.now) (in_order (map expr_tree behind.now))) first whole n → Leads fs s callers scope waiting b (frame.Item c behind first ∷ frames) (Evaluate item) whole n
    next_item item behind (within, vars, vs, d, p, h, l) =
        let here = here_of frames in
        let others = in_order (map expr_tree behind.now) in
        let mi = Means fs vars (expr_tree item.now) b in
        let m = then mi (λ v b. then (AllMean fs vars others b) (λ us d. collected fs c (vs ++ v ∷ us) d)) in
        let P = collecting_traces fs here c vs vars (more (expr_tree item.now) others) b in
        let Q = item_traces fs here c vs vars others mi (traces_of fs here (expr_tree item.now) vars b) in
        let head : Completes fs s callers (take first waiting) frames vars m P whole =
        subst (λ o. Completes fs s callers (take first waiting) frames vars o P whole)
        (ap (λ q. then q (λ us d. collected fs c (vs ++ us) d)) (AllMean-more fs vars (expr_tree item.now) others b)
        ∙ first_added (Means fs vars (expr_tree item.now) b) (AllMean fs vars others) vs (collected fs c)) h in
        let known : Completes fs s callers (take first waiting) frames vars m Q whole =
        fewer fs s callers (take first waiting) frames vars m P Q whole (λ t q. next_stops fs here c vs vars (expr_tree item.now) others b t q) head in
        ((vars, d, (within, vs, p, known)), omega (arith, l))

    -- no item is left
    pub all_there : Collecting fs s callers scope waiting b frames c none first whole n → AllCollected fs s callers scope waiting b frames c first whole n
    all_there (within, vars, vs, d, p, h, l) =
        let here = here_of frames in
        let P = collecting_traces fs here c vs vars none b in
        let made : Completes fs s callers (take first waiting) frames vars (collected fs c vs b) P whole =
        subst (λ o. Completes fs s callers (take first waiting) frames vars o P whole)
        (ap (λ q. then q (λ us d. collected fs c (vs ++ us) d)) (AllMean-none fs vars b) ∙ ap (λ us. collected fs c us b) (append_none vs)) h in (
          within,
          vars,
          vs,
          d,
          p,
          fewer fs s callers (take first waiting) frames vars (collected fs c vs b) P (collected_traces fs here c vs b) whole (λ t q. inr ([], b, AllMean-none fs vars b, subst (λ us. collected_traces fs here c us b t) (sym (append_none vs)) q)) made,
          omega (arith, l),
        )

    pub place_within : AllCollected fs s callers scope waiting b frames c first whole n → first ≤ length waiting
    place_within (within, vars, vs, d, p, h, l) = within

    pub values_there : AllCollected fs s callers scope waiting b frames c first whole n → HaveValues s (drop first waiting)
    values_there (within, vars, vs, d, p, h, l) = (vs, p)

    -- what is collected is made
    pub made_leads : (t : Store) (low : List Word) (w : Word) (value : List ValueTree → ValueTree) → low ≡ take first waiting → Keeps s t → ((vs : List ValueTree) → AllDenote s (drop first waiting) vs → DenotesIn t w (value vs)) → ((vs : List ValueTree) → collected fs c vs b ≡ gives (value vs) b) → AllCollected fs s callers scope waiting b frames c first whole n → Leads fs t callers scope low b frames (Give w) whole n
    made_leads t low w value e k den is (within, vars, vs, d, p, h, l) = (
      (
        vars,
        value vs,
        retained_each s.cells.items t.cells.items k scope vars d,
        den vs p,
        subst (λ ws. Completes fs t callers ws frames vars (gives (value vs) b) no_traces whole) (sym e)
            (completes_kept fs s t k callers (take first waiting) frames vars (gives (value vs) b) no_traces whole
            (fewer fs s callers (take first waiting) frames vars (gives (value vs) b) (collected_traces fs (here_of frames) c vs b) no_traces whole (λ u none. absurd none)
            (subst (λ o. Completes fs s callers (take first waiting) frames vars o (collected_traces fs (here_of frames) c vs b) whole) (is vs) h))),
      ),
      omega (arith, l),
    )

  -- ---- operations of two parts
  pub left_value : (op : Binary) (x w : Word) (n : ℕ) → Leads fs s callers scope waiting b (frame.Right op x ∷ frames) (Give w) whole n → HasValue s x
  left_value op x w n ((vars, u, d, y, (v, z, h)), l) = (v, z)

  pub right_value : (op : Binary) (x w : Word) (n : ℕ) → Leads fs s callers scope waiting b (frame.Right op x ∷ frames) (Give w) whole n → HasValue s w
  right_value op x w n ((vars, u, d, y, h), l) = (u, y)

  pub right_leads : (t : Store) (op : Binary) (x w : Word) (r : WordOutcome) (n : ℕ) → Keeps s t → ((v u : ValueTree) → DenotesIn s x v → DenotesIn s w u → IsOutcome t (operated op v u) r) → Leads fs s callers scope waiting b (frame.Right op x ∷ frames) (Give w) whole (n + 1) → Leads fs t callers scope waiting b frames (settled r (binary_place op) (given_operands (Some x) w)) whole n
  right_leads t op x w r n k done ((vars, u, d, y, (v, z, h)), l) =
      let P = right_traces fs (here_of frames) op v (gives u b) no_traces in
      done_leads fs t callers scope waiting b frames whole vars (operated op v u) P r (binary_place op) (given_operands (Some x) w) n (retained_each s.cells.items t.cells.items k scope vars d) (done v u z y)
      (completes_kept fs s t k callers waiting frames vars (with_budget (operated op v u) b) P whole h)
      (λ why e. right_stops fs s (here_of frames) op v u x w b why z y e) (omega (arith, l))

  -- ---- calls
  module _ (w : Word) (base j at n : ℕ) where
    pub body_within : Leads fs s callers scope waiting b (frame.Body base j at ∷ frames) (Give w) whole n → base ≤ length callers
    body_within ((vars, v, d, x, (e, own, p, h)), l) = e

    -- the value of the body is the call's, for the caller whose variables are next
    pub returned_leads : (before own : List Word) → own ≡ drop base callers → before ≡ take base callers → Leads fs s callers scope waiting b (frame.Body base j at ∷ frames) (Give w) whole (n + 1) → Leads fs s before own waiting b frames (Give w) whole n
    returned_leads before own eo eb ((vars, v, d, x, (e, vs, p, h)), l) = (
      (
        vs,
        v,
        subst (λ ws. AllDenote s ws vs) (sym eo) p,
        x,
        subst (λ ws. Completes fs s ws waiting frames vs (gives v b) no_traces whole) (sym eb)
            (fewer fs s (take base callers) waiting frames vs (gives v b) (called_traces (spot_in frames at) no_traces) no_traces whole (λ t none. absurd none) h),
      ),
      omega (arith, l),
    )

  module _ (j at first n : ℕ) where
    wrong_leads : ((vs : List ValueTree) → AllDenote s (drop first waiting) vs → Outcome fs j vs b ≡ stops wrong) → AllCollected fs s callers scope waiting b frames (collection.Call j at) first whole n → Leads fs s callers scope waiting b frames Break whole n
    wrong_leads is (within, vars, vs, d, p, h, l) =
        let P = collected_traces fs (here_of frames) (collection.Call j at) vs b in
        (stopped fs s callers (take first waiting) frames vars wrong P whole (subst (λ o. Completes fs s callers (take first waiting) frames vars o P whole) (is vs p) h), omega (arith, l))

    pub undeclared_leads : slice_get fs j ≡ None → AllCollected fs s callers scope waiting b frames (collection.Call j at) first whole n → Leads fs s callers scope waiting b frames Break whole n
    undeclared_leads e g = wrong_leads (λ vs p. undeclared_calls_are_wrong fs j vs b e) g

    pub other_count_leads : (f : FunctionTree) → slice_get fs j ≡ Some f → ¬ (length (drop first waiting) ≡ length f.params) → AllCollected fs s callers scope waiting b frames (collection.Call j at) first whole n → Leads fs s callers scope waiting b frames Break whole n
    other_count_leads f e other g = wrong_leads (λ vs p. other_calls_are_wrong fs j vs f b e (λ k. other (sym (length-DenoteEach s.cells.items (drop first waiting) vs p) ∙ k))) g

    pub no_budget_leads : (f : FunctionTree) → slice_get fs j ≡ Some f → length (drop first waiting) ≡ length f.params → b ≡ 0 → AllCollected fs s callers scope waiting b frames (collection.Call j at) first whole n → Leads fs s callers scope waiting b frames (Halt budget_end at operands.None) whole n
    no_budget_leads f e same empty (within, vars, vs, d, p, h, l) =
        let many : length vs ≡ length f.params = length-DenoteEach s.cells.items (drop first waiting) vs p ∙ same in
        let is : Outcome fs j vs b ≡ stops budget_end =
        declared_calls_mean_their_body fs j vs f b e many ∙ ap (λ k. spend k (Means fs vs f.body)) empty in
        let P = collected_traces fs (here_of frames) (collection.Call j at) vs b in
        let known = subst (λ o. Completes fs s callers (take first waiting) frames vars o P whole) is h in
        let end = stop_at (spot_in frames at) budget_end [] in
        let here : P end = subst (λ k. CallStops fs (inside fs) (here_of frames) at j vs k end) (sym empty) ((f, (e, many)), refl) in (
          (
            stopped fs s callers (take first waiting) frames vars budget_end P whole known,
            told fs s callers (take first waiting) frames vars (stops budget_end) P whole end known here,
          ),
          omega (arith, l),
        )

    pub body_leads : (f : FunctionTree) (body : Bor Expr) (before own low : List Word) (base : ℕ) → slice_get fs j ≡ Some f → length (drop first waiting) ≡ length f.params → expr_tree body.now ≡ f.body → 0 < b → base ≤ length before → take base before ≡ callers → drop base before ≡ scope → own ≡ drop first waiting → low ≡ take first waiting → AllCollected fs s callers scope waiting b frames (collection.Call j at) first whole n → Leads fs s before own low (b - 1) (frame.Body base j at ∷ frames) (Evaluate body) whole n
    body_leads f body before own low base e same is some fits et ed eo el (within, vars, vs, d, p, h, l) =
        let many : length vs ≡ length f.params = length-DenoteEach s.cells.items (drop first waiting) vs p ∙ same in
        let means : Outcome fs j vs b ≡ Means fs vs (expr_tree body.now) (b - 1) =
        declared_calls_mean_their_body fs j vs f b e many ∙ spent b (Means fs vs f.body) some ∙ ap (λ t. Means fs vs t (b - 1)) (sym is) in
        let m = Means fs vs (expr_tree body.now) (b - 1) in
        let most : steps f.body < most_steps fs + 1 = most_holds fs j f e in
        let size : steps (expr_tree body.now) ≡ steps f.body = ap steps is in
        let whole_budget : b ≡ (b - 1) + 1 = omega (arith, some) in
        let P = collected_traces fs (here_of frames) (collection.Call j at) vs b in
        let Q = called_traces (spot_in frames at) (traces_of fs j (expr_tree body.now) vs (b - 1)) in
        let called : Completes fs s callers (take first waiting) frames vars m P whole =
        subst (λ o. Completes fs s callers (take first waiting) frames vars o P whole) means h in
        let known : Completes fs s callers (take first waiting) frames vars m Q whole =
        fewer fs s callers (take first waiting) frames vars m P Q whole (λ t q. body_stops fs (here_of frames) at j vs b f (expr_tree body.now) t (e, many) is some q) called in (
          (
            vs,
            subst (λ ws. AllDenote s ws vs) (sym eo) p,
            (
              fits,
              vars,
              subst (λ ws. AllDenote s ws vars) (sym ed) d,
              subst (λ ws. Completes fs s ws low frames vars m Q whole) (sym et)
                  (subst (λ ws. Completes fs s callers ws frames vars m Q whole) (sym el) known),
            ),
          ),
          call_falls (b - 1) (most_steps fs) (frames_steps frames) 1 (steps (expr_tree body.now)) n (omega (arith, most, size)) refl
              (subst (λ k. k * most_steps fs + frames_steps frames + 1 < n) whole_budget l),
        )
