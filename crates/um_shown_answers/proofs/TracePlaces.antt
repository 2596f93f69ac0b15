-- The nodes of a trace are nodes of the program: what holds of the place of each node holds of the places of a trace.
use Rattle.std.proofs.Common.{◌≡◌, ℕ, zero, suc, List, [], ◌∷◌, ◌++◌, Some, inl, inr, sym, subst, slice_get}
use Rattle.std.specs.Prelude.{All}
use Rattle.std.proofs.lemmas.List.Elements.{All-nil, All-push, All-get_or}
use Rattle.std.proofs.lemmas.Option.{slice_get_within, get_or_from_slice_get}
use Rattle.um_tree.specs.ValueTree.{ValueTree, list_value}
use Rattle.um_tree.specs.ExprTree.{ExprTree, ExprTrees, truth, number, local, call, negate, not_expr, pown, arith, compare, both, either, if, bind, split, nil, list_expr, cons, record_expr, field, none, more}
use Rattle.um_tree.specs.ProgramTree.{FunctionTree}
use Rattle.um_tree.specs.Meaning.{Stop, budget_end}
use Rattle.um_eval.specs.Traces.{Spot, Trace, stop_at}
use Rattle.um_eval.specs.Stopping.{Stopping, node_at, CallStops, Stops, SomeStops, stopping, StopsWith}
use Rattle.um_front.specs.Places.{EachPlace, EachPlaceOf}

module _ (P : ℕ → Type 0) where
  abbrev SpotHolds : Spot → Type 0
  SpotHolds s = P s.at

  -- P holds of the place of the node and of each open call
  abbrev pub TraceHolds : Trace → Type 0
  TraceHolds t = P t.node.at × All SpotHolds t.calls

  module _ (fs : List FunctionTree) (body : Stopping) (here : ℕ) (inside : (j : ℕ) (vs : List ValueTree) (b : ℕ) (t : Trace) → body j vs b t → TraceHolds t) where
    stop_holds : (at : ℕ) (why : Stop) (operands : List ValueTree) (t : Trace) → P at → t ≡ stop_at (node_at fs body here at) why operands → TraceHolds t
    stop_holds at why operands t p told = subst TraceHolds (sym told) (p, All-nil SpotHolds)

    call_holds : (at j : ℕ) (vs : List ValueTree) (b : ℕ) (t : Trace) → P at → CallStops fs body here at j vs b t → TraceHolds t
    call_holds at j vs zero t p (takes, told) = stop_holds at budget_end [] t p told
    call_holds at j vs (suc b) t p (u, h, told) =
        let own = inside j vs b u h in
        subst TraceHolds (sym told) (own.0, All-push SpotHolds u.calls (node_at fs body here at) own.1 p)

    mutual
      stops_hold : (e : ExprTree) (vars : List ValueTree) (b : ℕ) (t : Trace) → EachPlace P e → Stops fs body here e vars b t → TraceHolds t
      stops_hold (truth at x) vars b t p h = absurd h
      stops_hold (number at c n) vars b t p h = absurd h
      stops_hold (local at k) vars b t p h = absurd h
      stops_hold (call at j es) vars b t p (inl h) = some_hold es vars b t p.1 h
      stops_hold (call at j es) vars b t p (inr (vs, c, given, h)) = call_holds at j vs c t p.0 h
      stops_hold (negate at x) vars b t p h = stops_hold x vars b t p.1 h
      stops_hold (not_expr at x) vars b t p h = stops_hold x vars b t p.1 h
      stops_hold (pown at x k) vars b t p (inl h) = stops_hold x vars b t p.1 h
      stops_hold (pown at x k) vars b t p (inr (v, c, given, (why, e, told))) = stop_holds at why (v ∷ []) t p.0 told
      stops_hold (arith at op x y) vars b t p (inl h) = stops_hold x vars b t p.1 h
      stops_hold (arith at op x y) vars b t p (inr (v, c, given, inl h)) = stops_hold y vars c t p.2 h
      stops_hold (arith at op x y) vars b t p (inr (v, c, given, inr (w, d, also, (why, e, told)))) = stop_holds at why (v ∷ w ∷ []) t p.0 told
      stops_hold (compare at sign x y) vars b t p (inl h) = stops_hold x vars b t p.1 h
      stops_hold (compare at sign x y) vars b t p (inr (v, c, given, h)) = stops_hold y vars c t p.2 h
      stops_hold (both at x y) vars b t p (inl h) = stops_hold x vars b t p.1 h
      stops_hold (both at x y) vars b t p (inr (v, c, given, (sure, h))) = stops_hold y vars c t p.2 h
      stops_hold (either at x y) vars b t p (inl h) = stops_hold x vars b t p.1 h
      stops_hold (either at x y) vars b t p (inr (v, c, given, (deny, h))) = stops_hold y vars c t p.2 h
      stops_hold (if at x y z) vars b t p (inl h) = stops_hold x vars b t p.1 h
      stops_hold (if at x y z) vars b t p (inr (v, c, given, inl (sure, h))) = stops_hold y vars c t p.2 h
      stops_hold (if at x y z) vars b t p (inr (v, c, given, inr (deny, h))) = stops_hold z vars c t p.3 h
      stops_hold (bind at x y) vars b t p (inl h) = stops_hold x vars b t p.1 h
      stops_hold (bind at x y) vars b t p (inr (v, c, given, h)) = stops_hold y (vars ++ v ∷ []) c t p.2 h
      stops_hold (split at x y z) vars b t p (inl h) = stops_hold x vars b t p.1 h
      stops_hold (split at x y z) vars b t p (inr (v, c, given, inl (empty, h))) = stops_hold y vars c t p.2 h
      stops_hold (split at x y z) vars b t p (inr (v, c, given, inr (first, rest, full, h))) = stops_hold z (vars ++ first ∷ list_value rest ∷ []) c t p.3 h
      stops_hold (nil at n) vars b t p h = absurd h
      stops_hold (list_expr at es) vars b t p h = some_hold es vars b t p.1 h
      stops_hold (cons at x y) vars b t p (inl h) = stops_hold x vars b t p.1 h
      stops_hold (cons at x y) vars b t p (inr (v, c, given, h)) = stops_hold y vars c t p.2 h
      stops_hold (record_expr at r es) vars b t p h = some_hold es vars b t p.1 h
      stops_hold (field at r k x) vars b t p h = stops_hold x vars b t p.1 h

      some_hold : (es : ExprTrees) (vars : List ValueTree) (b : ℕ) (t : Trace) → EachPlaceOf P es → SomeStops fs body here es vars b t → TraceHolds t
      some_hold none vars b t p h = absurd h
      some_hold (more e es) vars b t p (inl h) = stops_hold e vars b t p.0 h
      some_hold (more e es) vars b t p (inr (v, c, given, h)) = some_hold es vars c t p.1 h

  module _ (fs : List FunctionTree) (each : All (λ (f : FunctionTree). EachPlace P f.body) fs) where
    body_of : (j : ℕ) (f : FunctionTree) → slice_get fs j ≡ Some f → EachPlace P f.body
    body_of j f there =
        subst (λ (g : FunctionTree). EachPlace P g.body) (get_or_from_slice_get fs j f f there)
        (All-get_or (λ (g : FunctionTree). EachPlace P g.body) fs j f (slice_get_within fs j f there) each)

    bodies_hold : (n j : ℕ) (vs : List ValueTree) (b : ℕ) (t : Trace) → stopping fs n j vs b t → TraceHolds t
    bodies_hold zero j vs b t h = absurd h
    bodies_hold (suc n) j vs b t (f, (there, count), h) =
        stops_hold fs (stopping fs n) j (λ i us c u k. bodies_hold n i us c u k) f.body vs b t (body_of j f there) h

    pub trace_holds : (j : ℕ) (vs : List ValueTree) (b : ℕ) (t : Trace) → StopsWith fs j vs b t → TraceHolds t
    unfolding StopsWith
    trace_holds j vs zero t h = absurd h
    trace_holds j vs (suc b) t h = bodies_hold (suc b) j vs b t h
