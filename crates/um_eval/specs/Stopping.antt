-- When the evaluation of an expression stops with a trace: the parts before have values by the meaning, each with what
-- is left of the budget, and then a part stops, or the operation of the node has no value on the values of its parts.
-- Source: the order of the parts is that of the meaning (um_tree's Meaning): call by value, from left to right.
use Rattle.std.specs.Prelude.{ℕ, zero, suc, ◌≡◌, ◌⊎◌, true, false, List, [], ◌∷◌, ◌++◌, length, Some, Result}
use Rattle.std.specs.Prelude.{Err, slice_get}
use Rattle.um_tree.specs.ValueTree.{ValueTree, ValueTrees, truth_value, list_value, no_values, more_values}
use Rattle.um_tree.specs.ExprTree.{ExprTree, ExprTrees, truth, number, local, call, negate, not_expr, pown, arith}
use Rattle.um_tree.specs.ExprTree.{compare, both, either, if, bind, split, nil, list_expr, cons, record_expr, field}
use Rattle.um_tree.specs.ExprTree.{none, more}
use Rattle.um_tree.specs.ProgramTree.{FunctionTree}
use Rattle.um_tree.specs.Meaning.{Stop, budget_end, gives, calculated, raised, Means, AllMean}
use Rattle.um_eval.specs.Traces.{Spot, Trace, stop_at, inside_call}

-- a function's body stops with the trace, on these values, at what is left of the budget after its call
abbrev pub Stopping : Type 1
Stopping = ℕ → List ValueTree → ℕ → Trace → Type 0

-- in a program with these functions: the function of number j is f, and takes so many values
abbrev pub Takes : List FunctionTree → ℕ → List ValueTree → FunctionTree → Type 0
Takes fs j vs f = (slice_get fs j ≡ Some f) × (length vs ≡ length f.params)

-- in the body of the function of this number
module _ (fs : List FunctionTree) (body : Stopping) (here : ℕ) where
  -- the node of this place
  abbrev pub node_at : ℕ → Spot
  node_at at = record { function = here; at = at }

  -- the expression has a value, and then this
  abbrev pub After : ExprTree → List ValueTree → ℕ → (ValueTree → ℕ → Type 0) → Type 0
  After e vars b next = (v : ValueTree) × (c : ℕ) × (Means fs vars e b ≡ gives v c) × next v c

  -- the value is a list with a first item, and then this
  abbrev pub AfterItem : ValueTree → (ValueTree → ValueTree → Type 0) → Type 0
  AfterItem v next =
      (h : ValueTree) × (l : ValueTrees) × (v ≡ list_value (more_values h l)) × next h (list_value l)

  -- the operation of the node has no value on these operands
  abbrev pub Fails : ℕ → List ValueTree → Result ValueTree Stop → Trace → Type 0
  Fails at operands r t = (why : Stop) × (r ≡ Err why) × (t ≡ stop_at (node_at at) why operands)

  -- a call at this place of function j on values: nothing is left of the budget, or the body of j stops inside this
  -- call
  abbrev pub CallStops : ℕ → ℕ → List ValueTree → ℕ → Trace → Type 0
  CallStops at j vs zero t = ((f : FunctionTree) × Takes fs j vs f) × (t ≡ stop_at (node_at at) budget_end [])
  CallStops at j vs (suc b) t = (u : Trace) × body j vs b u × (t ≡ inside_call (node_at at) u)

  abbrev mutual
    -- the expression stops with the trace, where the variables of the scope have these values
    pub Stops : ExprTree → List ValueTree → ℕ → Trace → Type 0
    Stops (truth at x) vars b t = ⊥
    Stops (number at c n) vars b t = ⊥
    Stops (local at k) vars b t = ⊥
    Stops (call at j es) vars b t =
        SomeStops es vars b t
        ⊎ ((vs : List ValueTree) × (c : ℕ) × (AllMean fs vars es b ≡ gives vs c) × CallStops at j vs c t)
    Stops (negate at x) vars b t = Stops x vars b t
    Stops (not_expr at x) vars b t = Stops x vars b t
    Stops (pown at x k) vars b t = Stops x vars b t ⊎ After x vars b (λ v c. Fails at (v ∷ []) (raised k v) t)
    Stops (arith at op x y) vars b t =
        Stops x vars b t
        ⊎ After x vars b
        (λ v c. Stops y vars c t ⊎ After y vars c (λ w d. Fails at (v ∷ w ∷ []) (calculated op v w) t))
    Stops (compare at sign x y) vars b t = Stops x vars b t ⊎ After x vars b (λ v c. Stops y vars c t)
    Stops (both at x y) vars b t =
        Stops x vars b t ⊎ After x vars b (λ v c. (v ≡ truth_value true) × Stops y vars c t)
    Stops (either at x y) vars b t =
        Stops x vars b t ⊎ After x vars b (λ v c. (v ≡ truth_value false) × Stops y vars c t)
    Stops (if at x y z) vars b t =
        Stops x vars b t
        ⊎ After x vars b
        (λ v c. ((v ≡ truth_value true) × Stops y vars c t) ⊎ ((v ≡ truth_value false) × Stops z vars c t))
    Stops (bind at x y) vars b t = Stops x vars b t ⊎ After x vars b (λ v c. Stops y (vars ++ v ∷ []) c t)
    Stops (split at x y z) vars b t =
        Stops x vars b t
        ⊎ After x vars b
        (λ v c.
        ((v ≡ list_value no_values) × Stops y vars c t) ⊎ AfterItem v (λ h l. Stops z (vars ++ h ∷ l ∷ []) c t))
    Stops (nil at n) vars b t = ⊥
    Stops (list_expr at es) vars b t = SomeStops es vars b t
    Stops (cons at x y) vars b t = Stops x vars b t ⊎ After x vars b (λ v c. Stops y vars c t)
    Stops (record_expr at r es) vars b t = SomeStops es vars b t
    Stops (field at r k x) vars b t = Stops x vars b t

    -- of some expressions in order the first that has no value
    pub SomeStops : ExprTrees → List ValueTree → ℕ → Trace → Type 0
    SomeStops none vars b t = ⊥
    SomeStops (more e es) vars b t = Stops e vars b t ⊎ After e vars b (λ v c. SomeStops es vars c t)

-- bodies, with at most n calls inside one another
abbrev pub stopping : List FunctionTree → ℕ → Stopping
stopping fs zero j vs b t = ⊥
stopping fs (suc n) j vs b t = (f : FunctionTree) × Takes fs j vs f × Stops fs (stopping fs n) j f.body vs b t

-- The call of function j, itself counted, stops in its body with the trace. No more calls stand inside one another than
-- the budget has.
unfoldable pub StopsWith : List FunctionTree → ℕ → List ValueTree → ℕ → Trace → Type 0
StopsWith fs j vs zero t = ⊥
StopsWith fs j vs (suc b) t = stopping fs (suc b) j vs b t

-- the same as a condition on bodies, after their calls are paid
abbrev pub inside : List FunctionTree → Stopping
inside fs j vs b t = StopsWith fs j vs (suc b) t
