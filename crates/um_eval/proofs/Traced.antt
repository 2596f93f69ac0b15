-- Traces and the meaning: a trace tells why the meaning stops.
use Rattle.std.proofs.Common.{◌≡◌, ℕ, zero, suc, true, false, List, [], ◌∷◌, ◌++◌, length, Result, inl, inr, sym, ap, ◌∙◌, eq-eqb}
use Rattle.um_tree.specs.ValueTree.{ValueTree, truth_value, list_value, record_value, values_in_order}
use Rattle.um_tree.specs.ExprTree.{ExprTree, ExprTrees, truth, number, local, call, negate, not_expr, pown, arith as arith_tree, compare, both, either, if, bind, split, nil, list_expr, cons, record_expr, field, none, more}
use Rattle.um_tree.specs.ProgramTree.{FunctionTree}
use Rattle.um_tree.specs.Meaning.{Stop, budget_end, Out, gives, stops, then, with_budget, calculated, compared, negated, raised, not_of, longer, field_of, choose, on_list, Means, AllMean, Outcome}
use Rattle.um_tree.proofs.Equations.{Means-call, Means-negate, Means-not, Means-pown, Means-arith, Means-compare, Means-both, Means-either, Means-if, Means-bind, Means-split, Means-list, Means-cons, Means-record, Means-field, AllMean-more, Outcome-some}
use Rattle.um_eval.specs.Traces.{Trace, stop_at, inside_call}
use Rattle.um_eval.specs.Stopping.{Stopping, node_at, Fails, CallStops, Stops, SomeStops, stopping, StopsWith}
use Rattle.um_eval.specs.Laws.{TracesAreStops}

into : {A B : Type 0} (go : A → ℕ → Out B) {m n : Out A} → m ≡ n → then m go ≡ then n go
into go e = ap (λ m. then m go) e

-- ---- a trace tells why the meaning stops

module _ (fs : List FunctionTree) (body : Stopping) (here : ℕ) (sound : (j : ℕ) (vs : List ValueTree) (b : ℕ) (t : Trace) → body j vs b t → Outcome fs j vs (suc b) ≡ stops t.why) where
  told_why : (t u : Trace) → t ≡ u → ◌≡◌ {A = Out ValueTree} (stops u.why) (stops t.why)
  told_why t u told = ap (λ w. stops w.why) (sym told)

  failed : (at : ℕ) (operands : List ValueTree) (r : Result ValueTree Stop) (c : ℕ) (t : Trace) → Fails fs body here at operands r t → with_budget r c ≡ stops t.why
  failed at operands r c t (why, e, told) =
      ap (λ x. with_budget x c) e ∙ told_why t (stop_at (node_at fs body here at) why operands) told

  call_is : (at j : ℕ) (vs : List ValueTree) (b : ℕ) (t : Trace) → CallStops fs body here at j vs b t → Outcome fs j vs b ≡ stops t.why
  call_is at j vs zero t ((f, (there, count)), told) =
      Outcome-some fs j vs f zero there (eq-eqb (length vs) (length f.params) count)
      ∙ told_why t (stop_at (node_at fs body here at) budget_end []) told
  call_is at j vs (suc b) t (u, inside, told) =
      sound j vs b u inside ∙ told_why t (inside_call (node_at fs body here at) u) told

  mutual
    pub stops_is : (e : ExprTree) (vars : List ValueTree) (b : ℕ) (t : Trace) → Stops fs body here e vars b t → Means fs vars e b ≡ stops t.why
    stops_is (truth at x) vars b t h = absurd h
    stops_is (number at c n) vars b t h = absurd h
    stops_is (local at k) vars b t h = absurd h
    stops_is (call at j es) vars b t (inl h) = Means-call fs vars at j es b ∙ into (Outcome fs j) (some_is es vars b t h)
    stops_is (call at j es) vars b t (inr (vs, c, is, h)) =
        Means-call fs vars at j es b ∙ into (Outcome fs j) is ∙ call_is at j vs c t h
    stops_is (negate at x) vars b t h = Means-negate fs vars at x b ∙ into (λ v c. with_budget (negated v) c) (stops_is x vars b t h)
    stops_is (not_expr at x) vars b t h = Means-not fs vars at x b ∙ into (λ v c. with_budget (not_of v) c) (stops_is x vars b t h)
    stops_is (pown at x k) vars b t (inl h) = Means-pown fs vars at x k b ∙ into (λ v c. with_budget (raised k v) c) (stops_is x vars b t h)
    stops_is (pown at x k) vars b t (inr (v, c, is, h)) =
        Means-pown fs vars at x k b ∙ into (λ v c. with_budget (raised k v) c) is ∙ failed at (v ∷ []) (raised k v) c t h
    stops_is (arith_tree at op x y) vars b t (inl h) =
        Means-arith fs vars at op x y b ∙ into (λ v c. then (Means fs vars y c) (λ w d. with_budget (calculated op v w) d)) (stops_is x vars b t h)
    stops_is (arith_tree at op x y) vars b t (inr (v, c, is, inl h)) =
        Means-arith fs vars at op x y b ∙ into (λ v c. then (Means fs vars y c) (λ w d. with_budget (calculated op v w) d)) is
        ∙ into (λ w d. with_budget (calculated op v w) d) (stops_is y vars c t h)
    stops_is (arith_tree at op x y) vars b t (inr (v, c, is, inr (w, d, also, h))) =
        Means-arith fs vars at op x y b ∙ into (λ v c. then (Means fs vars y c) (λ w d. with_budget (calculated op v w) d)) is
        ∙ into (λ w d. with_budget (calculated op v w) d) also ∙ failed at (v ∷ w ∷ []) (calculated op v w) d t h
    stops_is (compare at sign x y) vars b t (inl h) =
        Means-compare fs vars at sign x y b ∙ into (λ v c. then (Means fs vars y c) (λ w d. with_budget (compared sign v w) d)) (stops_is x vars b t h)
    stops_is (compare at sign x y) vars b t (inr (v, c, is, h)) =
        Means-compare fs vars at sign x y b ∙ into (λ v c. then (Means fs vars y c) (λ w d. with_budget (compared sign v w) d)) is
        ∙ into (λ w d. with_budget (compared sign v w) d) (stops_is y vars c t h)
    stops_is (both at x y) vars b t (inl h) =
        Means-both fs vars at x y b ∙ into (λ v c. choose v (Means fs vars y) (gives (truth_value false)) c) (stops_is x vars b t h)
    stops_is (both at x y) vars b t (inr (v, c, is, (sure, h))) =
        Means-both fs vars at x y b ∙ into (λ v c. choose v (Means fs vars y) (gives (truth_value false)) c) is
        ∙ ap (λ u. choose u (Means fs vars y) (gives (truth_value false)) c) sure ∙ stops_is y vars c t h
    stops_is (either at x y) vars b t (inl h) =
        Means-either fs vars at x y b ∙ into (λ v c. choose v (gives (truth_value true)) (Means fs vars y) c) (stops_is x vars b t h)
    stops_is (either at x y) vars b t (inr (v, c, is, (deny, h))) =
        Means-either fs vars at x y b ∙ into (λ v c. choose v (gives (truth_value true)) (Means fs vars y) c) is
        ∙ ap (λ u. choose u (gives (truth_value true)) (Means fs vars y) c) deny ∙ stops_is y vars c t h
    stops_is (if at x y z) vars b t (inl h) =
        Means-if fs vars at x y z b ∙ into (λ v c. choose v (Means fs vars y) (Means fs vars z) c) (stops_is x vars b t h)
    stops_is (if at x y z) vars b t (inr (v, c, is, inl (sure, h))) =
        Means-if fs vars at x y z b ∙ into (λ v c. choose v (Means fs vars y) (Means fs vars z) c) is
        ∙ ap (λ u. choose u (Means fs vars y) (Means fs vars z) c) sure ∙ stops_is y vars c t h
    stops_is (if at x y z) vars b t (inr (v, c, is, inr (deny, h))) =
        Means-if fs vars at x y z b ∙ into (λ v c. choose v (Means fs vars y) (Means fs vars z) c) is
        ∙ ap (λ u. choose u (Means fs vars y) (Means fs vars z) c) deny ∙ stops_is z vars c t h
    stops_is (bind at x y) vars b t (inl h) =
        Means-bind fs vars at x y b ∙ into (λ v c. Means fs (vars ++ v ∷ []) y c) (stops_is x vars b t h)
    stops_is (bind at x y) vars b t (inr (v, c, is, h)) =
        Means-bind fs vars at x y b ∙ into (λ v c. Means fs (vars ++ v ∷ []) y c) is ∙ stops_is y (vars ++ v ∷ []) c t h
    stops_is (split at x y z) vars b t (inl h) =
        Means-split fs vars at x y z b ∙ into (λ v c. on_list v (Means fs vars y) (λ h l. Means fs (vars ++ h ∷ l ∷ []) z) c) (stops_is x vars b t h)
    stops_is (split at x y z) vars b t (inr (v, c, is, inl (empty, h))) =
        Means-split fs vars at x y z b ∙ into (λ v c. on_list v (Means fs vars y) (λ h l. Means fs (vars ++ h ∷ l ∷ []) z) c) is
        ∙ ap (λ u. on_list u (Means fs vars y) (λ h l. Means fs (vars ++ h ∷ l ∷ []) z) c) empty ∙ stops_is y vars c t h
    stops_is (split at x y z) vars b t (inr (v, c, is, inr (first, rest, full, h))) =
        Means-split fs vars at x y z b ∙ into (λ v c. on_list v (Means fs vars y) (λ h l. Means fs (vars ++ h ∷ l ∷ []) z) c) is
        ∙ ap (λ u. on_list u (Means fs vars y) (λ h l. Means fs (vars ++ h ∷ l ∷ []) z) c) full
        ∙ stops_is z (vars ++ first ∷ list_value rest ∷ []) c t h
    stops_is (nil at n) vars b t h = absurd h
    stops_is (list_expr at es) vars b t h =
        Means-list fs vars at es b ∙ into (λ vs c. gives (list_value (values_in_order vs)) c) (some_is es vars b t h)
    stops_is (cons at x y) vars b t (inl h) =
        Means-cons fs vars at x y b ∙ into (λ v c. then (Means fs vars y c) (λ w d. with_budget (longer v w) d)) (stops_is x vars b t h)
    stops_is (cons at x y) vars b t (inr (v, c, is, h)) =
        Means-cons fs vars at x y b ∙ into (λ v c. then (Means fs vars y c) (λ w d. with_budget (longer v w) d)) is
        ∙ into (λ w d. with_budget (longer v w) d) (stops_is y vars c t h)
    stops_is (record_expr at r es) vars b t h =
        Means-record fs vars at r es b ∙ into (λ vs c. gives (record_value r (values_in_order vs)) c) (some_is es vars b t h)
    stops_is (field at r k x) vars b t h = Means-field fs vars at r k x b ∙ into (λ v c. with_budget (field_of r k v) c) (stops_is x vars b t h)

    pub some_is : (es : ExprTrees) (vars : List ValueTree) (b : ℕ) (t : Trace) → SomeStops fs body here es vars b t → AllMean fs vars es b ≡ stops t.why
    some_is none vars b t h = absurd h
    some_is (more e es) vars b t (inl h) =
        AllMean-more fs vars e es b ∙ into (λ v c. then (AllMean fs vars es c) (λ vs d. gives (v ∷ vs) d)) (stops_is e vars b t h)
    some_is (more e es) vars b t (inr (v, c, is, h)) =
        AllMean-more fs vars e es b ∙ into (λ v c. then (AllMean fs vars es c) (λ vs d. gives (v ∷ vs) d)) is
        ∙ into (λ vs d. gives (v ∷ vs) d) (some_is es vars c t h)

pub stopping_is : (fs : List FunctionTree) (n j : ℕ) (vs : List ValueTree) (b : ℕ) (t : Trace) → stopping fs n j vs b t → Outcome fs j vs (suc b) ≡ stops t.why
stopping_is fs zero j vs b t h = absurd h
stopping_is fs (suc n) j vs b t (f, (there, count), h) =
    Outcome-some fs j vs f (suc b) there (eq-eqb (length vs) (length f.params) count)
    ∙ stops_is fs (stopping fs n) j (λ k us c u. stopping_is fs n k us c u) f.body vs b t h

pub traces_are_stops : TracesAreStops
unfolding StopsWith
traces_are_stops fs j vs zero t h = absurd h
traces_are_stops fs j vs (suc b) t h = stopping_is fs (suc b) j vs b t h
