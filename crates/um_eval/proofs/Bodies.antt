-- A call stops with the traces of its body, whatever the bound on the calls inside one another.
use Rattle.std.proofs.Common.{◌≡◌, ℕ, zero, suc, ◌<◌, ◌≤◌, List, [], ◌∷◌, ◌++◌, inl, inr, subst, arith}
use Rattle.um_tree.specs.ValueTree.{ValueTree, list_value}
use Rattle.um_tree.specs.ExprTree.{ExprTree, ExprTrees, truth, number, local, call, negate, not_expr, pown, arith as arith_tree, compare, both, either, if, bind, split, nil, list_expr, cons, record_expr, field, none, more}
use Rattle.um_tree.specs.ProgramTree.{FunctionTree}
use Rattle.um_tree.specs.Meaning.{gives, Means, AllMean}
use Rattle.um_tree.proofs.Budget.{Within, Means-within, AllMean-within}
use Rattle.um_eval.specs.Traces.{Trace}
use Rattle.um_eval.specs.Stopping.{Stopping, CallStops, Stops, SomeStops, stopping, StopsWith, inside}
use Rattle.um_eval.specs.Laws.{InItsBody, BodiesStop}

-- ---- one condition on bodies implies another, up to a budget

module _
    (fs : List FunctionTree) (one two : Stopping) (here most : ℕ)
    (implied : (j : ℕ) (vs : List ValueTree) (b : ℕ) (t : Trace) → b < most → one j vs b t → two j vs b t)
  where
    left : (e : ExprTree) (vars : List ValueTree) (b c : ℕ) (v : ValueTree) → b ≤ most → Means fs vars e b ≡ gives v c → c ≤ most
    left e vars b c v low given =
        let within : c ≤ b = subst (Within b) given (Means-within fs vars e b) in
        omega (arith, within, low)

    left_all : (es : ExprTrees) (vars : List ValueTree) (b c : ℕ) (vs : List ValueTree) → b ≤ most → AllMean fs vars es b ≡ gives vs c → c ≤ most
    left_all es vars b c vs low given =
        let within : c ≤ b = subst (Within b) given (AllMean-within fs vars es b) in
        omega (arith, within, low)

    calls_stop : (at j : ℕ) (vs : List ValueTree) (b : ℕ) (t : Trace) → b ≤ most → CallStops fs one here at j vs b t → CallStops fs two here at j vs b t
    calls_stop at j vs zero t low h = h
    calls_stop at j vs (suc b) t low (u, h, told) = (u, implied j vs b u (omega (arith, low)) h, told)

    mutual
      pub stops_too : (e : ExprTree) (vars : List ValueTree) (b : ℕ) (t : Trace) → b ≤ most → Stops fs one here e vars b t → Stops fs two here e vars b t
      stops_too (truth at x) vars b t low h = h
      stops_too (number at c n) vars b t low h = h
      stops_too (local at k) vars b t low h = h
      stops_too (call at j es) vars b t low (inl h) = inl (some_too es vars b t low h)
      stops_too (call at j es) vars b t low (inr (vs, c, given, h)) =
          inr (vs, c, given, calls_stop at j vs c t (left_all es vars b c vs low given) h)
      stops_too (negate at x) vars b t low h = stops_too x vars b t low h
      stops_too (not_expr at x) vars b t low h = stops_too x vars b t low h
      stops_too (pown at x k) vars b t low (inl h) = inl (stops_too x vars b t low h)
      stops_too (pown at x k) vars b t low (inr h) = inr h
      stops_too (arith_tree at op x y) vars b t low (inl h) = inl (stops_too x vars b t low h)
      stops_too (arith_tree at op x y) vars b t low (inr (v, c, given, inl h)) =
          inr (v, c, given, inl (stops_too y vars c t (left x vars b c v low given) h))
      stops_too (arith_tree at op x y) vars b t low (inr (v, c, given, inr h)) = inr (v, c, given, inr h)
      stops_too (compare at sign x y) vars b t low (inl h) = inl (stops_too x vars b t low h)
      stops_too (compare at sign x y) vars b t low (inr (v, c, given, h)) =
          inr (v, c, given, stops_too y vars c t (left x vars b c v low given) h)
      stops_too (both at x y) vars b t low (inl h) = inl (stops_too x vars b t low h)
      stops_too (both at x y) vars b t low (inr (v, c, given, (sure, h))) =
          inr (v, c, given, (sure, stops_too y vars c t (left x vars b c v low given) h))
      stops_too (either at x y) vars b t low (inl h) = inl (stops_too x vars b t low h)
      stops_too (either at x y) vars b t low (inr (v, c, given, (deny, h))) =
          inr (v, c, given, (deny, stops_too y vars c t (left x vars b c v low given) h))
      stops_too (if at x y z) vars b t low (inl h) = inl (stops_too x vars b t low h)
      stops_too (if at x y z) vars b t low (inr (v, c, given, inl (sure, h))) =
          inr (v, c, given, inl (sure, stops_too y vars c t (left x vars b c v low given) h))
      stops_too (if at x y z) vars b t low (inr (v, c, given, inr (deny, h))) =
          inr (v, c, given, inr (deny, stops_too z vars c t (left x vars b c v low given) h))
      stops_too (bind at x y) vars b t low (inl h) = inl (stops_too x vars b t low h)
      stops_too (bind at x y) vars b t low (inr (v, c, given, h)) =
          inr (v, c, given, stops_too y (vars ++ v ∷ []) c t (left x vars b c v low given) h)
      stops_too (split at x y z) vars b t low (inl h) = inl (stops_too x vars b t low h)
      stops_too (split at x y z) vars b t low (inr (v, c, given, inl (empty, h))) =
          inr (v, c, given, inl (empty, stops_too y vars c t (left x vars b c v low given) h))
      stops_too (split at x y z) vars b t low (inr (v, c, given, inr (first, rest, full, h))) =
          inr (v, c, given, inr (first, rest, full, stops_too z (vars ++ first ∷ list_value rest ∷ []) c t (left x vars b c v low given) h))
      stops_too (nil at n) vars b t low h = h
      stops_too (list_expr at es) vars b t low h = some_too es vars b t low h
      stops_too (cons at x y) vars b t low (inl h) = inl (stops_too x vars b t low h)
      stops_too (cons at x y) vars b t low (inr (v, c, given, h)) =
          inr (v, c, given, stops_too y vars c t (left x vars b c v low given) h)
      stops_too (record_expr at r es) vars b t low h = some_too es vars b t low h
      stops_too (field at r k x) vars b t low h = stops_too x vars b t low h

      pub some_too : (es : ExprTrees) (vars : List ValueTree) (b : ℕ) (t : Trace) → b ≤ most → SomeStops fs one here es vars b t → SomeStops fs two here es vars b t
      some_too none vars b t low h = h
      some_too (more e es) vars b t low (inl h) = inl (stops_too e vars b t low h)
      some_too (more e es) vars b t low (inr (v, c, given, h)) =
          inr (v, c, given, some_too es vars c t (left e vars b c v low given) h)

-- ---- bounds

-- a bound above the budget is enough
other_bound : (fs : List FunctionTree) (n m j : ℕ) (vs : List ValueTree) (b : ℕ) (t : Trace) → b < m → stopping fs n j vs b t → stopping fs m j vs b t
other_bound fs zero m j vs b t low h = absurd h
other_bound fs (suc n) zero j vs b t low h = absurd (omega (arith, low))
other_bound fs (suc n) (suc m) j vs b t low (f, takes, h) = (
  f,
  takes,
  stops_too fs (stopping fs n) (stopping fs m) j b (λ i us c u few p. other_bound fs n m i us c u (omega (arith, few, low)) p) f.body vs b t (omega arith) h,
)

in_its_body : (fs : List FunctionTree) (j : ℕ) (vs : List ValueTree) (b : ℕ) (t : Trace) → StopsWith fs j vs (suc b) t → InItsBody fs j vs b t
unfolding StopsWith
in_its_body fs j vs b t (f, takes, h) = (
  f,
  takes,
  stops_too fs (stopping fs b) (inside fs) j b (λ i us c u few p. other_bound fs b (suc c) i us c u (omega arith) p) f.body vs b t (omega arith) h,
)

pub body_told : (fs : List FunctionTree) (j : ℕ) (vs : List ValueTree) (b : ℕ) (t : Trace) → InItsBody fs j vs b t → StopsWith fs j vs (suc b) t
unfolding StopsWith
body_told fs j vs b t (f, takes, h) = (
  f,
  takes,
  stops_too fs (inside fs) (stopping fs b) j b (λ i us c u few p. other_bound fs (suc c) b i us c u few p) f.body vs b t (omega arith) h,
)

pub bodies_stop : BodiesStop
bodies_stop fs j vs b t = (in_its_body fs j vs b t, body_told fs j vs b t)
