-- A call that stops in its body has a trace.
use Rattle.std.proofs.Common.{◌≡◌, ℕ, zero, suc, ◌<◌, ◌≤◌, Bool, true, false, cond, List, [], ◌∷◌, ◌++◌, length, Option, Some, None, Result, Ok, Err, slice_get, inl, inr, refl, sym, ap, ◌∙◌, subst, eq-eqb, eqb, eqb-true, arith}
use Rattle.um_tree.specs.ValueTree.{ValueTree, ValueTrees, truth_value, number_value, list_value, record_value, no_values, more_values, values_in_order}
use Rattle.um_tree.specs.ExprTree.{ExprTree, ExprTrees, truth, number, local, call, negate, not_expr, pown, arith as arith_tree, compare, both, either, if, bind, split, nil, list_expr, cons, record_expr, field, none, more}
use Rattle.um_tree.specs.ProgramTree.{FunctionTree}
use Rattle.um_tree.specs.Meaning.{Stop, budget_end, wrong, Out, gives, stops, then, with_budget, calculated, compared, negated, raised, not_of, longer, field_of, value_at, choose, on_list, found, Means, AllMean, Outcome}
use Rattle.um_tree.proofs.Budget.{Within, Means-within, AllMean-within}
use Rattle.um_tree.proofs.Equations.{Means-truth, Means-number, Means-local, Means-nil, Means-call, Means-negate, Means-not, Means-pown, Means-arith, Means-compare, Means-both, Means-either, Means-if, Means-bind, Means-split, Means-list, Means-cons, Means-record, Means-field, AllMean-none, AllMean-more, Outcome-some, Outcome-none, Outcome-other_count}
use Rattle.um_eval.specs.Traces.{Trace, stop_at, inside_call}
use Rattle.um_eval.specs.Stopping.{Stopping, Takes, node_at, Stops, SomeStops, CallStops, stopping, StopsWith}
use Rattle.um_eval.specs.Laws.{IsStop, StopsHaveTraces}

-- ---- what stops, and where

-- either the first part stops so, or it has a value and what comes after it stops so
by_first : {A B G : Type 0} (m : Out A) (go : A → ℕ → Out B) (why : Stop) → then m go ≡ stops why → (m ≡ stops why → G)
    → ((v : A) (c : ℕ) → m ≡ gives v c → go v c ≡ stops why → G) → G
by_first (gives v c) go why e early later = later v c refl e
by_first (stops r) go why e early later = let same : r ≡ why = cc e in early (ap stops same)

-- a value is no stop, and a wrong shape is none of which something is claimed
no_stop : {A : Type 0} (v : A) (b : ℕ) (why : Stop) → gives v b ≡ stops why → ⊥
no_stop v b why e = cc e

not_wrong : {A : Type 0} (why : Stop) → IsStop why → ◌≡◌ {A = Out A} (stops wrong) (stops why) → ⊥
not_wrong why is e =
    let same : wrong ≡ why = cc e in
    subst IsStop (sym same) is

-- the operations that give a value or find a wrong shape
abbrev NeverStops : Result ValueTree Stop → Type 0
NeverStops r = (c : ℕ) (why : Stop) → IsStop why → with_budget r c ≡ stops why → ⊥

ok_never : (v : ValueTree) → NeverStops (Ok v)
ok_never v c why is e = no_stop v c why e

wrong_never : NeverStops (Err wrong)
wrong_never c why is e = not_wrong {A = ValueTree} why is e

pub negated_never : (v : ValueTree) → NeverStops (negated v)
negated_never (truth_value b) = wrong_never
negated_never (number_value a) = λ c why is e. no_stop _ c why e
negated_never (list_value vs) = wrong_never
negated_never (record_value r vs) = wrong_never

pub not_never : (v : ValueTree) → NeverStops (not_of v)
not_never (truth_value b) = λ c why is e. no_stop _ c why e
not_never (number_value a) = wrong_never
not_never (list_value vs) = wrong_never
not_never (record_value r vs) = wrong_never

pub compared_never : (sign : _) (v w : ValueTree) → NeverStops (compared sign v w)
compared_never sign (truth_value b) w = wrong_never
compared_never sign (number_value a) (truth_value b) = wrong_never
compared_never sign (number_value a) (number_value b) = λ c why is e. no_stop _ c why e
compared_never sign (number_value a) (list_value vs) = wrong_never
compared_never sign (number_value a) (record_value r vs) = wrong_never
compared_never sign (list_value vs) w = wrong_never
compared_never sign (record_value r vs) w = wrong_never

pub longer_never : (v w : ValueTree) → NeverStops (longer v w)
longer_never v (truth_value b) = wrong_never
longer_never v (number_value a) = wrong_never
longer_never v (list_value vs) = λ c why is e. no_stop _ c why e
longer_never v (record_value r vs) = wrong_never

at_never : (vs : ValueTrees) (k : ℕ) → NeverStops (value_at vs k)
at_never no_values k = wrong_never
at_never (more_values v vs) zero = ok_never v
at_never (more_values v vs) (suc k) = at_never vs k

pub field_never : (r k : ℕ) (v : ValueTree) → NeverStops (field_of r k v)
field_never r k (truth_value b) = wrong_never
field_never r k (number_value a) = wrong_never
field_never r k (list_value vs) = wrong_never
field_never r k (record_value q vs) = by (eqb q r) where
  by : (t : Bool) → NeverStops (cond t (value_at vs k) (Err wrong))
  by true = at_never vs k
  by false = wrong_never

found_never : (o : Option ValueTree) (b : ℕ) (why : Stop) → IsStop why → found o b ≡ stops why → ⊥
found_never None b why is e = not_wrong {A = ValueTree} why is e
found_never (Some v) b why is e = no_stop v b why e

-- a test, and a list taken apart
by_truth : {G : Type 0} (v : ValueTree) (x y : ℕ → Out ValueTree) (c : ℕ) (why : Stop) → IsStop why → choose v x y c ≡ stops why
    → (v ≡ truth_value true → x c ≡ stops why → G) → (v ≡ truth_value false → y c ≡ stops why → G) → G
by_truth (truth_value true) x y c why is e first second = first refl e
by_truth (truth_value false) x y c why is e first second = second refl e
by_truth (number_value a) x y c why is e first second = absurd (not_wrong {A = ValueTree} why is e)
by_truth (list_value vs) x y c why is e first second = absurd (not_wrong {A = ValueTree} why is e)
by_truth (record_value r vs) x y c why is e first second = absurd (not_wrong {A = ValueTree} why is e)

by_list : {G : Type 0} (v : ValueTree) (x : ℕ → Out ValueTree) (y : ValueTree → ValueTree → ℕ → Out ValueTree) (c : ℕ) (why : Stop) → IsStop why → on_list v x y c ≡ stops why
    → (v ≡ list_value no_values → x c ≡ stops why → G)
    → ((h : ValueTree) (l : ValueTrees) → v ≡ list_value (more_values h l) → y h (list_value l) c ≡ stops why → G) → G
by_list (truth_value t) x y c why is e empty full = absurd (not_wrong {A = ValueTree} why is e)
by_list (number_value a) x y c why is e empty full = absurd (not_wrong {A = ValueTree} why is e)
by_list (list_value no_values) x y c why is e empty full = empty refl e
by_list (list_value (more_values h l)) x y c why is e empty full = full h l refl e
by_list (record_value r vs) x y c why is e empty full = absurd (not_wrong {A = ValueTree} why is e)

-- the others stop for a trap
why_of : (r : Result ValueTree Stop) (c : ℕ) (why : Stop) → with_budget r c ≡ stops why → r ≡ Err why
why_of (Ok v) c why e = absurd (no_stop v c why e)
why_of (Err s) c why e =
    let same : s ≡ why = cc e in
    ap Err same

-- ---- expressions

abbrev Traced : (Trace → Type 0) → Stop → Type 0
Traced P why = (t : Trace) × P t × (t.why ≡ why)

mapped : {P Q : Trace → Type 0} {why : Stop} → ((t : Trace) → P t → Q t) → Traced P why → Traced Q why
mapped go (t, p, e) = (t, go t p, e)

module _
    (fs : List FunctionTree) (body : Stopping) (here most : ℕ)
    (some : (j : ℕ) (vs : List ValueTree) (b : ℕ) (why : Stop) → b < most → IsStop why → Outcome fs j vs (suc b) ≡ stops why → Traced (body j vs b) why)
    (takes : (j : ℕ) (vs : List ValueTree) (b : ℕ) (why : Stop) → IsStop why → Outcome fs j vs b ≡ stops why → (f : FunctionTree) × Takes fs j vs f)
  where
    abbrev Of : ExprTree → List ValueTree → ℕ → Trace → Type 0
    Of e vars b t = Stops fs body here e vars b t

    left : (e : ExprTree) (vars : List ValueTree) (b c : ℕ) (v : ValueTree) → b ≤ most → Means fs vars e b ≡ gives v c → c ≤ most
    left e vars b c v low given =
        let within : c ≤ b = subst (Within b) given (Means-within fs vars e b) in
        omega (arith, within, low)

    left_all : (es : ExprTrees) (vars : List ValueTree) (b c : ℕ) (vs : List ValueTree) → b ≤ most → AllMean fs vars es b ≡ gives vs c → c ≤ most
    left_all es vars b c vs low given =
        let within : c ≤ b = subst (Within b) given (AllMean-within fs vars es b) in
        omega (arith, within, low)

    failed : (at : ℕ) (operands : List ValueTree) (r : Result ValueTree Stop) (why : Stop) → r ≡ Err why
        → Traced (λ t. (w : Stop) × (r ≡ Err w) × (t ≡ stop_at (node_at fs body here at) w operands)) why
    failed at operands r why e = (stop_at (node_at fs body here at) why operands, (why, e, refl), refl)

    call_stops : (at j : ℕ) (vs : List ValueTree) (b : ℕ) (why : Stop) → b ≤ most → IsStop why → Outcome fs j vs b ≡ stops why → Traced (CallStops fs body here at j vs b) why
    call_stops at j vs zero why low is e =
        let (f, fits) = takes j vs zero why is e in
        let end : ◌≡◌ {A = Out ValueTree} (stops budget_end) (stops why) =
        sym (Outcome-some fs j vs f zero fits.0 (eq-eqb (length vs) (length f.params) fits.1)) ∙ e in
        let same : budget_end ≡ why = cc end in
        (stop_at (node_at fs body here at) budget_end [], ((f, fits), refl), same)
    call_stops at j vs (suc b) why low is e =
        let (u, inside, same) = some j vs b why (omega (arith, low)) is e in
        (inside_call (node_at fs body here at) u, (u, inside, refl), same)

    mutual
      pub stops_have : (e : ExprTree) (vars : List ValueTree) (b : ℕ) (why : Stop) → b ≤ most → IsStop why → Means fs vars e b ≡ stops why → Traced (Of e vars b) why
      stops_have (truth at x) vars b why low is e = absurd (no_stop _ b why (sym (Means-truth fs vars at x b) ∙ e))
      stops_have (number at c n) vars b why low is e = absurd (no_stop _ b why (sym (Means-number fs vars at c n b) ∙ e))
      stops_have (local at k) vars b why low is e = absurd (found_never (slice_get vars k) b why is (sym (Means-local fs vars at k b) ∙ e))
      stops_have (nil at n) vars b why low is e = absurd (no_stop _ b why (sym (Means-nil fs vars at n b) ∙ e))
      stops_have (call at j es) vars b why low is e =
          by_first (AllMean fs vars es b) (Outcome fs j) why (sym (Means-call fs vars at j es b) ∙ e)
          (λ h. mapped (λ t p. inl p) (some_have es vars b why low is h))
          (λ vs c given h. mapped (λ t p. inr (vs, c, given, p)) (call_stops at j vs c why (left_all es vars b c vs low given) is h))
      stops_have (negate at x) vars b why low is e =
          by_first (Means fs vars x b) (λ v c. with_budget (negated v) c) why (sym (Means-negate fs vars at x b) ∙ e)
          (λ h. stops_have x vars b why low is h) (λ v c given h. absurd (negated_never v c why is h))
      stops_have (not_expr at x) vars b why low is e =
          by_first (Means fs vars x b) (λ v c. with_budget (not_of v) c) why (sym (Means-not fs vars at x b) ∙ e)
          (λ h. stops_have x vars b why low is h) (λ v c given h. absurd (not_never v c why is h))
      stops_have (field at r k x) vars b why low is e =
          by_first (Means fs vars x b) (λ v c. with_budget (field_of r k v) c) why (sym (Means-field fs vars at r k x b) ∙ e)
          (λ h. stops_have x vars b why low is h) (λ v c given h. absurd (field_never r k v c why is h))
      stops_have (pown at x k) vars b why low is e =
          by_first (Means fs vars x b) (λ v c. with_budget (raised k v) c) why (sym (Means-pown fs vars at x k b) ∙ e)
          (λ h. mapped (λ t p. inl p) (stops_have x vars b why low is h))
          (λ v c given h. mapped (λ t p. inr (v, c, given, p)) (failed at (v ∷ []) (raised k v) why (why_of (raised k v) c why h)))
      stops_have (arith_tree at op x y) vars b why low is e =
          by_first (Means fs vars x b) (λ v c. then (Means fs vars y c) (λ w d. with_budget (calculated op v w) d)) why (sym (Means-arith fs vars at op x y b) ∙ e)
          (λ h. mapped (λ t p. inl p) (stops_have x vars b why low is h))
          (λ v c given next.
          by_first (Means fs vars y c) (λ w d. with_budget (calculated op v w) d) why next
          (λ h. mapped (λ t p. inr (v, c, given, inl p)) (stops_have y vars c why (left x vars b c v low given) is h))
          (λ w d also h.
          mapped (λ t p. inr (v, c, given, inr (w, d, also, p))) (failed at (v ∷ w ∷ []) (calculated op v w) why (why_of (calculated op v w) d why h))))
      stops_have (compare at sign x y) vars b why low is e =
          by_first (Means fs vars x b) (λ v c. then (Means fs vars y c) (λ w d. with_budget (compared sign v w) d)) why (sym (Means-compare fs vars at sign x y b) ∙ e)
          (λ h. mapped (λ t p. inl p) (stops_have x vars b why low is h))
          (λ v c given next.
          by_first (Means fs vars y c) (λ w d. with_budget (compared sign v w) d) why next
          (λ h. mapped (λ t p. inr (v, c, given, p)) (stops_have y vars c why (left x vars b c v low given) is h))
          (λ w d also h. absurd (compared_never sign v w d why is h)))
      stops_have (cons at x y) vars b why low is e =
          by_first (Means fs vars x b) (λ v c. then (Means fs vars y c) (λ w d. with_budget (longer v w) d)) why (sym (Means-cons fs vars at x y b) ∙ e)
          (λ h. mapped (λ t p. inl p) (stops_have x vars b why low is h))
          (λ v c given next.
          by_first (Means fs vars y c) (λ w d. with_budget (longer v w) d) why next
          (λ h. mapped (λ t p. inr (v, c, given, p)) (stops_have y vars c why (left x vars b c v low given) is h))
          (λ w d also h. absurd (longer_never v w d why is h)))
      stops_have (both at x y) vars b why low is e =
          by_first (Means fs vars x b) (λ v c. choose v (Means fs vars y) (gives (truth_value false)) c) why (sym (Means-both fs vars at x y b) ∙ e)
          (λ h. mapped (λ t p. inl p) (stops_have x vars b why low is h))
          (λ v c given next.
          by_truth v (Means fs vars y) (gives (truth_value false)) c why is next
          (λ sure h. mapped (λ t p. inr (v, c, given, (sure, p))) (stops_have y vars c why (left x vars b c v low given) is h))
          (λ deny h. absurd (no_stop (truth_value false) c why h)))
      stops_have (either at x y) vars b why low is e =
          by_first (Means fs vars x b) (λ v c. choose v (gives (truth_value true)) (Means fs vars y) c) why (sym (Means-either fs vars at x y b) ∙ e)
          (λ h. mapped (λ t p. inl p) (stops_have x vars b why low is h))
          (λ v c given next.
          by_truth v (gives (truth_value true)) (Means fs vars y) c why is next
          (λ sure h. absurd (no_stop (truth_value true) c why h))
          (λ deny h. mapped (λ t p. inr (v, c, given, (deny, p))) (stops_have y vars c why (left x vars b c v low given) is h)))
      stops_have (if at x y z) vars b why low is e =
          by_first (Means fs vars x b) (λ v c. choose v (Means fs vars y) (Means fs vars z) c) why (sym (Means-if fs vars at x y z b) ∙ e)
          (λ h. mapped (λ t p. inl p) (stops_have x vars b why low is h))
          (λ v c given next.
          by_truth v (Means fs vars y) (Means fs vars z) c why is next
          (λ sure h. mapped (λ t p. inr (v, c, given, inl (sure, p))) (stops_have y vars c why (left x vars b c v low given) is h))
          (λ deny h. mapped (λ t p. inr (v, c, given, inr (deny, p))) (stops_have z vars c why (left x vars b c v low given) is h)))
      stops_have (bind at x y) vars b why low is e =
          by_first (Means fs vars x b) (λ v c. Means fs (vars ++ v ∷ []) y c) why (sym (Means-bind fs vars at x y b) ∙ e)
          (λ h. mapped (λ t p. inl p) (stops_have x vars b why low is h))
          (λ v c given h. mapped (λ t p. inr (v, c, given, p)) (stops_have y (vars ++ v ∷ []) c why (left x vars b c v low given) is h))
      stops_have (split at x y z) vars b why low is e =
          by_first (Means fs vars x b) (λ v c. on_list v (Means fs vars y) (λ h l. Means fs (vars ++ h ∷ l ∷ []) z) c) why (sym (Means-split fs vars at x y z b) ∙ e)
          (λ h. mapped (λ t p. inl p) (stops_have x vars b why low is h))
          (λ v c given next.
          by_list v (Means fs vars y) (λ h l. Means fs (vars ++ h ∷ l ∷ []) z) c why is next
          (λ empty h. mapped (λ t p. inr (v, c, given, inl (empty, p))) (stops_have y vars c why (left x vars b c v low given) is h))
          (λ first rest full h.
          mapped (λ t p. inr (v, c, given, inr (first, rest, full, p)))
          (stops_have z (vars ++ first ∷ list_value rest ∷ []) c why (left x vars b c v low given) is h)))
      stops_have (list_expr at es) vars b why low is e =
          by_first (AllMean fs vars es b) (λ vs c. gives (list_value (values_in_order vs)) c) why (sym (Means-list fs vars at es b) ∙ e)
          (λ h. some_have es vars b why low is h) (λ vs c given h. absurd (no_stop (list_value (values_in_order vs)) c why h))
      stops_have (record_expr at r es) vars b why low is e =
          by_first (AllMean fs vars es b) (λ vs c. gives (record_value r (values_in_order vs)) c) why (sym (Means-record fs vars at r es b) ∙ e)
          (λ h. some_have es vars b why low is h) (λ vs c given h. absurd (no_stop (record_value r (values_in_order vs)) c why h))

      pub some_have : (es : ExprTrees) (vars : List ValueTree) (b : ℕ) (why : Stop) → b ≤ most → IsStop why → AllMean fs vars es b ≡ stops why → Traced (SomeStops fs body here es vars b) why
      some_have none vars b why low is e = absurd (no_stop {A = List ValueTree} [] b why (sym (AllMean-none fs vars b) ∙ e))
      some_have (more x es) vars b why low is e =
          by_first (Means fs vars x b) (λ v c. then (AllMean fs vars es c) (λ vs d. gives (v ∷ vs) d)) why (sym (AllMean-more fs vars x es b) ∙ e)
          (λ h. mapped (λ t p. inl p) (stops_have x vars b why low is h))
          (λ v c given next.
          by_first (AllMean fs vars es c) (λ vs d. gives (v ∷ vs) d) why next
          (λ h. mapped (λ t p. inr (v, c, given, p)) (some_have es vars c why (left x vars b c v low given) is h))
          (λ vs d also h. absurd (no_stop {A = List ValueTree} (v ∷ vs) d why h)))

-- ---- calls

-- a call that stops is one of a declared function with as many arguments as it has parameters
callable : (fs : List FunctionTree) (j : ℕ) (vs : List ValueTree) (b : ℕ) (why : Stop) → IsStop why → Outcome fs j vs b ≡ stops why → (f : FunctionTree) × Takes fs j vs f
callable fs j vs b why is e = by (slice_get fs j) refl where
  counted : (f : FunctionTree) → slice_get fs j ≡ Some f → (t : Bool) → eqb (length vs) (length f.params) ≡ t → (g : FunctionTree) × Takes fs j vs g
  counted f there true same = (f, (there, eqb-true (length vs) (length f.params) same))
  counted f there false other = absurd (not_wrong why is (sym (Outcome-other_count fs j vs f b there other) ∙ e))

  by : (o : Option FunctionTree) → slice_get fs j ≡ o → (f : FunctionTree) × Takes fs j vs f
  by None missing = absurd (not_wrong why is (sym (Outcome-none fs j vs b missing) ∙ e))
  by (Some f) there = counted f there (eqb (length vs) (length f.params)) refl

body_stops : (fs : List FunctionTree) (n j : ℕ) (vs : List ValueTree) (b : ℕ) (why : Stop) → b < n → IsStop why → Outcome fs j vs (suc b) ≡ stops why → Traced (stopping fs n j vs b) why
body_stops fs zero j vs b why low is e = absurd (omega (arith, low))
body_stops fs (suc n) j vs b why low is e =
    let (f, takes) = callable fs j vs (suc b) why is e in
    let meant : Means fs vs f.body b ≡ stops why =
    sym (Outcome-some fs j vs f (suc b) takes.0 (eq-eqb (length vs) (length f.params) takes.1)) ∙ e in
    mapped (λ t p. (f, takes, p))
    (stops_have fs (stopping fs n) j n (λ i us c w few stop h. body_stops fs n i us c w few stop h) (λ i us c w stop h. callable fs i us c w stop h)
    f.body vs b why (omega (arith, low)) is meant)

pub stops_have_traces : StopsHaveTraces
unfolding StopsWith
stops_have_traces fs j vs b why is e = body_stops fs (suc b) j vs b why (omega arith) is e
