-- A call has one trace at most.
use Rattle.std.proofs.Common.{◌≡◌, ℕ, zero, suc, true, false, List, [], ◌∷◌, ◌++◌, Some, Result, Err, inl, inr, sym, ap, ◌∙◌, subst}
use Rattle.std.specs.Prelude.{◌⊎◌}
use Rattle.um_tree.specs.ValueTree.{ValueTree, ValueTrees, truth_value, list_value, no_values, more_values}
use Rattle.um_tree.specs.ExprTree.{ExprTree, ExprTrees, truth, number, local, call, negate, not_expr, pown, arith as arith_tree, compare, both, either, if, bind, split, nil, list_expr, cons, record_expr, field, none, more}
use Rattle.um_tree.specs.ProgramTree.{FunctionTree}
use Rattle.um_tree.specs.Meaning.{Stop, Out, gives, stops, calculated, raised, Means, AllMean, Outcome}
use Rattle.um_eval.specs.Traces.{Trace, stop_at, inside_call}
use Rattle.um_eval.specs.Stopping.{Stopping, node_at, After, AfterItem, Fails, CallStops, Stops, SomeStops, stopping, StopsWith}
use Rattle.um_eval.specs.Laws.{TracesAreUnique}
use Rattle.um_eval.proofs.Traced.{stops_is, some_is, stopping_is}

either_way : {A B C D R : Type 0} → A ⊎ B → C ⊎ D → (A → C → R) → (A → D → R) → (B → C → R) → (B → D → R) → R
either_way (inl a) (inl c) f g h k = f a c
either_way (inl a) (inr d) f g h k = g a d
either_way (inr b) (inl c) f g h k = h b c
either_way (inr b) (inr d) f g h k = k b d

-- what stops gives no value
apart : {A : Type 0} (m : Out A) (r : Stop) (v : A) (b : ℕ) → m ≡ stops r → m ≡ gives v b → ⊥
apart m r v b e f = cc (sym e ∙ f)

module _
    (fs : List FunctionTree) (body : Stopping) (here : ℕ)
    (sound : (j : ℕ) (vs : List ValueTree) (b : ℕ) (t : Trace) → body j vs b t → Outcome fs j vs (suc b) ≡ stops t.why)
    (one : (j : ℕ) (vs : List ValueTree) (b : ℕ) (t u : Trace) → body j vs b t → body j vs b u → t ≡ u)
  where
    abbrev Of : ExprTree → List ValueTree → ℕ → Trace → Type 0
    Of e vars b t = Stops fs body here e vars b t

    abbrev Later : ExprTree → List ValueTree → ℕ → (ValueTree → ℕ → Type 0) → Type 0
    Later e vars b next = After fs body here e vars b next

    is : (e : ExprTree) (vars : List ValueTree) (b : ℕ) (t : Trace) → Of e vars b t → Means fs vars e b ≡ stops t.why
    is e vars b t h = stops_is fs body here sound e vars b t h

    -- a part that stops has deny value
    early : {P : ValueTree → ℕ → Type 0} {R : Type 0} (e : ExprTree) (vars : List ValueTree) (b : ℕ) (t : Trace) → Of e vars b t → Later e vars b P → R
    early e vars b t h (v, c, given, p) = absurd (apart (Means fs vars e b) t.why v c (is e vars b t h) given)

    -- both have the part's one value
    joined : (P Q : ValueTree → ℕ → Type 0) {R : Type 0} (e : ExprTree) (vars : List ValueTree) (b : ℕ) → Later e vars b P → Later e vars b Q
        → ((v : ValueTree) (c : ℕ) → P v c → Q v c → R) → R
    joined P Q e vars b (v, c, given, p) (w, d, also, q) go =
        let same : ◌≡◌ {A = Out ValueTree} (gives v c) (gives w d) = sym given ∙ also in
        let value : v ≡ w = cc same in
        let rest : c ≡ d = cc same in
        go w d (subst (λ x. P x d) value (subst (λ n. P v n) rest p)) q

    one_failure : (at : ℕ) (operands : List ValueTree) (r : Result ValueTree Stop) (t u : Trace) → Fails fs body here at operands r t → Fails fs body here at operands r u → t ≡ u
    one_failure at operands r t u (why, e, told) (other, f, also) =
        let same : ◌≡◌ {A = Result ValueTree Stop} (Err why) (Err other) = sym e ∙ f in
        let reason : why ≡ other = cc same in
        told ∙ ap (λ w. stop_at (node_at fs body here at) w operands) reason ∙ sym also

    one_call : (at j : ℕ) (vs : List ValueTree) (b : ℕ) (t u : Trace) → CallStops fs body here at j vs b t → CallStops fs body here at j vs b u → t ≡ u
    one_call at j vs zero t u (takes, told) (also, other) = told ∙ sym other
    one_call at j vs (suc b) t u (v, h, told) (w, k, other) =
        told ∙ ap (inside_call (node_at fs body here at)) (one j vs b v w h k) ∙ sym other

    -- truth values and lists are one thing alone
    not_both : (v : ValueTree) → v ≡ truth_value true → v ≡ truth_value false → ⊥
    not_both v sure deny = cc (sym sure ∙ deny)

    not_empty : (v : ValueTree) (first : ValueTree) (rest : ValueTrees) → v ≡ list_value no_values → v ≡ list_value (more_values first rest) → ⊥
    not_empty v first rest empty full = cc (sym empty ∙ full)

    items_joined : (P Q : ValueTree → ValueTree → Type 0) {R : Type 0} (v : ValueTree) → AfterItem fs body here v P → AfterItem fs body here v Q
        → ((h l : ValueTree) → P h l → Q h l → R) → R
    items_joined P Q v (a, l, e, p) (b, m, f, q) go =
        let same : list_value (more_values a l) ≡ list_value (more_values b m) = sym e ∙ f in
        let first : a ≡ b = cc same in
        let rest : l ≡ m = cc same in
        go b (list_value m) (subst (λ x. P x (list_value m)) first (subst (λ x. P a (list_value x)) rest p)) q

    mutual
      pub one_stop : (e : ExprTree) (vars : List ValueTree) (b : ℕ) (t u : Trace) → Of e vars b t → Of e vars b u → t ≡ u
      one_stop (truth at x) vars b t u h k = absurd h
      one_stop (number at c n) vars b t u h k = absurd h
      one_stop (local at n) vars b t u h k = absurd h
      one_stop (call at j es) vars b t u (inl h) (inl k) = one_of_some es vars b t u h k
      one_stop (call at j es) vars b t u (inl h) (inr (vs, c, given, k)) =
          absurd (apart (AllMean fs vars es b) t.why vs c (some_is fs body here sound es vars b t h) given)
      one_stop (call at j es) vars b t u (inr (vs, c, given, h)) (inl k) =
          absurd (apart (AllMean fs vars es b) u.why vs c (some_is fs body here sound es vars b u k) given)
      one_stop (call at j es) vars b t u (inr (vs, c, given, h)) (inr (ws, d, also, k)) =
          let same : ◌≡◌ {A = Out (List ValueTree)} (gives vs c) (gives ws d) = sym given ∙ also in
          let values : vs ≡ ws = cc same in
          let rest : c ≡ d = cc same in
          one_call at j ws d t u
          (subst (λ (xs : List ValueTree). CallStops fs body here at j xs d t) values (subst (λ n. CallStops fs body here at j vs n t) rest h)) k
      one_stop (negate at x) vars b t u h k = one_stop x vars b t u h k
      one_stop (not_expr at x) vars b t u h k = one_stop x vars b t u h k
      one_stop (pown at x n) vars b t u (inl h) (inl k) = one_stop x vars b t u h k
      one_stop (pown at x n) vars b t u (inl h) (inr k) = early x vars b t h k
      one_stop (pown at x n) vars b t u (inr h) (inl k) = early x vars b u k h
      one_stop (pown at x n) vars b t u (inr h) (inr k) = joined _ _ x vars b h k (λ v c p q. one_failure at (v ∷ []) (raised n v) t u p q)
      one_stop (arith_tree at op x y) vars b t u (inl h) (inl k) = one_stop x vars b t u h k
      one_stop (arith_tree at op x y) vars b t u (inl h) (inr k) = early x vars b t h k
      one_stop (arith_tree at op x y) vars b t u (inr h) (inl k) = early x vars b u k h
      one_stop (arith_tree at op x y) vars b t u (inr h) (inr k) =
          joined _ _ x vars b h k
          (λ v c p q.
          either_way p q (λ f g. one_stop y vars c t u f g) (λ f g. early y vars c t f g) (λ f g. early y vars c u g f)
          (λ f g. joined _ _ y vars c f g (λ w d i j. one_failure at (v ∷ w ∷ []) (calculated op v w) t u i j)))
      one_stop (compare at sign x y) vars b t u (inl h) (inl k) = one_stop x vars b t u h k
      one_stop (compare at sign x y) vars b t u (inl h) (inr k) = early x vars b t h k
      one_stop (compare at sign x y) vars b t u (inr h) (inl k) = early x vars b u k h
      one_stop (compare at sign x y) vars b t u (inr h) (inr k) = joined _ _ x vars b h k (λ v c p q. one_stop y vars c t u p q)
      one_stop (both at x y) vars b t u (inl h) (inl k) = one_stop x vars b t u h k
      one_stop (both at x y) vars b t u (inl h) (inr k) = early x vars b t h k
      one_stop (both at x y) vars b t u (inr h) (inl k) = early x vars b u k h
      one_stop (both at x y) vars b t u (inr h) (inr k) = joined _ _ x vars b h k (λ v c p q. one_stop y vars c t u p.1 q.1)
      one_stop (either at x y) vars b t u (inl h) (inl k) = one_stop x vars b t u h k
      one_stop (either at x y) vars b t u (inl h) (inr k) = early x vars b t h k
      one_stop (either at x y) vars b t u (inr h) (inl k) = early x vars b u k h
      one_stop (either at x y) vars b t u (inr h) (inr k) = joined _ _ x vars b h k (λ v c p q. one_stop y vars c t u p.1 q.1)
      one_stop (if at x y z) vars b t u (inl h) (inl k) = one_stop x vars b t u h k
      one_stop (if at x y z) vars b t u (inl h) (inr k) = early x vars b t h k
      one_stop (if at x y z) vars b t u (inr h) (inl k) = early x vars b u k h
      one_stop (if at x y z) vars b t u (inr h) (inr k) =
          joined _ _ x vars b h k
          (λ v c p q.
          either_way p q (λ f g. one_stop y vars c t u f.1 g.1) (λ f g. absurd (not_both v f.0 g.0)) (λ f g. absurd (not_both v g.0 f.0))
          (λ f g. one_stop z vars c t u f.1 g.1))
      one_stop (bind at x y) vars b t u (inl h) (inl k) = one_stop x vars b t u h k
      one_stop (bind at x y) vars b t u (inl h) (inr k) = early x vars b t h k
      one_stop (bind at x y) vars b t u (inr h) (inl k) = early x vars b u k h
      one_stop (bind at x y) vars b t u (inr h) (inr k) = joined _ _ x vars b h k (λ v c p q. one_stop y (vars ++ v ∷ []) c t u p q)
      one_stop (split at x y z) vars b t u (inl h) (inl k) = one_stop x vars b t u h k
      one_stop (split at x y z) vars b t u (inl h) (inr k) = early x vars b t h k
      one_stop (split at x y z) vars b t u (inr h) (inl k) = early x vars b u k h
      one_stop (split at x y z) vars b t u (inr h) (inr k) =
          joined _ _ x vars b h k
          (λ v c p q.
          either_way p q (λ f g. one_stop y vars c t u f.1 g.1) (λ f g. absurd (not_empty v g.0 g.1 f.0 g.2))
          (λ f g. absurd (not_empty v f.0 f.1 g.0 f.2))
          (λ f g. items_joined _ _ v f g (λ m l i j. one_stop z (vars ++ m ∷ l ∷ []) c t u i j)))
      one_stop (nil at n) vars b t u h k = absurd h
      one_stop (list_expr at es) vars b t u h k = one_of_some es vars b t u h k
      one_stop (cons at x y) vars b t u (inl h) (inl k) = one_stop x vars b t u h k
      one_stop (cons at x y) vars b t u (inl h) (inr k) = early x vars b t h k
      one_stop (cons at x y) vars b t u (inr h) (inl k) = early x vars b u k h
      one_stop (cons at x y) vars b t u (inr h) (inr k) = joined _ _ x vars b h k (λ v c p q. one_stop y vars c t u p q)
      one_stop (record_expr at r es) vars b t u h k = one_of_some es vars b t u h k
      one_stop (field at r n x) vars b t u h k = one_stop x vars b t u h k

      pub one_of_some : (es : ExprTrees) (vars : List ValueTree) (b : ℕ) (t u : Trace) → SomeStops fs body here es vars b t → SomeStops fs body here es vars b u → t ≡ u
      one_of_some none vars b t u h k = absurd h
      one_of_some (more e es) vars b t u (inl h) (inl k) = one_stop e vars b t u h k
      one_of_some (more e es) vars b t u (inl h) (inr k) = early e vars b t h k
      one_of_some (more e es) vars b t u (inr h) (inl k) = early e vars b u k h
      one_of_some (more e es) vars b t u (inr h) (inr k) = joined _ _ e vars b h k (λ v c p q. one_of_some es vars c t u p q)

one_body : (fs : List FunctionTree) (n j : ℕ) (vs : List ValueTree) (b : ℕ) (t u : Trace) → stopping fs n j vs b t → stopping fs n j vs b u → t ≡ u
one_body fs zero j vs b t u h k = absurd h
one_body fs (suc n) j vs b t u (f, (there, count), h) (g, (also, too), k) =
    let same : Some f ≡ Some g = sym there ∙ also in
    let function : f ≡ g = cc same in
    one_stop fs (stopping fs n) j (λ i us c v. stopping_is fs n i us c v) (λ i us c v w. one_body fs n i us c v w) g.body vs b t u
    (subst (λ (x : FunctionTree). Stops fs (stopping fs n) j x.body vs b t) function h) k

pub traces_are_unique : TracesAreUnique
unfolding StopsWith
traces_are_unique fs j vs zero t u h k = absurd h
traces_are_unique fs j vs (suc b) t u h k = one_body fs (suc b) j vs b t u h k
