-- What an expression means: values, traps, and a budget of calls.
-- Source: a big-step meaning of a call-by-value language, from left to right; the budget is this project's own.
-- There is no code, stack, frame or address here, and no order of work but that of the parts.
use Rattle.std.specs.Prelude.{ℕ, zero, suc, Bool, true, false, cond, not, nat_eq, length, List, [], ◌∷◌, ◌++◌, Option}
use Rattle.std.specs.Prelude.{Some, None, Result, Ok, Err, slice_get, ℤ}
use Rattle.um_frac.specs.declared.number.Frac.{Frac}
use Rattle.um_frac.specs.declared.number.Trap.{Trap}
use Rattle.um_frac.specs.Arithmetic.{sum_of, difference_of, product_of, quotient_of, whole_power_of, negation_of}
use Rattle.um_frac.specs.Arithmetic.{is_less, is_same}
use Rattle.um_tree.specs.ValueTree.{ValueTree, ValueTrees, truth_value, number_value, list_value, record_value}
use Rattle.um_tree.specs.ValueTree.{no_values, more_values, values_in_order, OutcomeTree, value_outcome, trap_outcome}
use Rattle.um_tree.specs.ValueTree.{budget_outcome}
use Rattle.um_tree.specs.ExprTree.{ExprTree, ExprTrees, truth, number, local, call, negate, not_expr, pown, arith}
use Rattle.um_tree.specs.ExprTree.{compare, both, either, if, bind, split, nil, list_expr, cons, record_expr, field}
use Rattle.um_tree.specs.ExprTree.{none, more}
use Rattle.um_tree.specs.ProgramTree.{FunctionTree, ProgramTree}
use Rattle.um_tree.specs.declared.expression.Arith.{Arith}
use Rattle.um_tree.specs.declared.expression.Arith.TheVariants.{Add, Sub, Mul, Div}
use Rattle.um_tree.specs.declared.expression.Sign.{Sign}
use Rattle.um_tree.specs.declared.expression.Sign.TheVariants.{Lt, Le, Eq, Gt, Ge, Ne}

-- why there is no value: a trap, the end of the budget, or a shape that is wrong, of which nothing is claimed
pub data Stop : Type 0 where
  trap : Trap → Stop
  budget_end : Stop
  wrong : Stop

-- a value with the rest of the budget, or a stop
pub data Out (A : Type 0) : Type 0 where
  gives : A → ℕ → Out A
  stops : Stop → Out A

-- the first part that gives no value gives the whole its stop
abbrev pub then : {A B : Type 0} → Out A → (A → ℕ → Out B) → Out B
then (gives x b) go = go x b
then (stops r) go = stops r

-- what operations give; they know nothing of the budget
abbrev pub with_budget : {A : Type 0} → Result A Stop → ℕ → Out A
with_budget (Ok v) b = gives v b
with_budget (Err r) b = stops r

abbrev pub number_result : Result Frac Trap → Result ValueTree Stop
number_result (Ok c) = Ok (number_value c)
number_result (Err t) = Err (trap t)

abbrev pub arithmetic : Arith → Frac → Frac → Result Frac Trap
arithmetic Add a b = sum_of a b
arithmetic Sub a b = difference_of a b
arithmetic Mul a b = product_of a b
arithmetic Div a b = quotient_of a b

abbrev pub comparison : Sign → Frac → Frac → Bool
comparison Lt a b = is_less a b
comparison Le a b = not (is_less b a)
comparison Eq a b = is_same a b
comparison Gt a b = is_less b a
comparison Ge a b = not (is_less a b)
comparison Ne a b = not (is_same a b)

abbrev pub calculated : Arith → ValueTree → ValueTree → Result ValueTree Stop
calculated op (number_value a) (number_value b) = number_result (arithmetic op a b)
calculated op v w = Err wrong

abbrev pub compared : Sign → ValueTree → ValueTree → Result ValueTree Stop
compared sign (number_value a) (number_value b) = Ok (truth_value (comparison sign a b))
compared sign v w = Err wrong

abbrev pub negated : ValueTree → Result ValueTree Stop
negated (number_value a) = Ok (number_value (negation_of a))
negated v = Err wrong

abbrev pub raised : ℤ → ValueTree → Result ValueTree Stop
raised k (number_value a) = number_result (whole_power_of a k)
raised k v = Err wrong

abbrev pub not_of : ValueTree → Result ValueTree Stop
not_of (truth_value b) = Ok (truth_value (not b))
not_of v = Err wrong

-- the list with one more item before it
abbrev pub longer : ValueTree → ValueTree → Result ValueTree Stop
longer v (list_value vs) = Ok (list_value (more_values v vs))
longer v w = Err wrong

abbrev pub value_at : ValueTrees → ℕ → Result ValueTree Stop
value_at no_values k = Err wrong
value_at (more_values v vs) zero = Ok v
value_at (more_values v vs) (suc k) = value_at vs k

-- the k-th field of a value of record r
abbrev pub field_of : ℕ → ℕ → ValueTree → Result ValueTree Stop
field_of r k (record_value q vs) = cond (nat_eq q r) (value_at vs k) (Err wrong)
field_of r k v = Err wrong

abbrev pub found : Option ValueTree → ℕ → Out ValueTree
found None b = stops wrong
found (Some v) b = gives v b

-- the first arm where the value is true, the second if it is false
abbrev pub choose : ValueTree → (ℕ → Out ValueTree) → (ℕ → Out ValueTree) → ℕ → Out ValueTree
choose (truth_value true) x y b = x b
choose (truth_value false) x y b = y b
choose v x y b = stops wrong

-- the first arm where the list is empty, the second with its head and tail where it isn't
abbrev pub on_list : ValueTree → (ℕ → Out ValueTree) → (ValueTree → ValueTree → ℕ → Out ValueTree) → ℕ → Out ValueTree
on_list (list_value no_values) x y b = x b
on_list (list_value (more_values v vs)) x y b = y v (list_value vs) b
on_list v x y b = stops wrong

-- what a call of a function on values gives at a budget
abbrev pub Calling : Type 0
Calling = ℕ → List ValueTree → ℕ → Out ValueTree

module _ (calling : Calling) where
  abbrev mutual
    -- the meaning, where the variables of the scope have these values
    pub means : ExprTree → List ValueTree → ℕ → Out ValueTree
    means (truth at x) vars b = gives (truth_value x) b
    means (number at c n) vars b = gives (number_value c) b
    means (local at k) vars b = found (slice_get vars k) b
    means (call at j es) vars b = then (all_mean es vars b) (calling j)
    means (negate at x) vars b = then (means x vars b) (λ v c. with_budget (negated v) c)
    means (not_expr at x) vars b = then (means x vars b) (λ v c. with_budget (not_of v) c)
    means (pown at x k) vars b = then (means x vars b) (λ v c. with_budget (raised k v) c)
    means (arith at op x y) vars b =
        then (means x vars b) (λ v c. then (means y vars c) (λ w d. with_budget (calculated op v w) d))
    means (compare at sign x y) vars b =
        then (means x vars b) (λ v c. then (means y vars c) (λ w d. with_budget (compared sign v w) d))
    means (both at x y) vars b =
        then (means x vars b) (λ v c. choose v (means y vars) (gives (truth_value false)) c)
    means (either at x y) vars b =
        then (means x vars b) (λ v c. choose v (gives (truth_value true)) (means y vars) c)
    means (if at c x y) vars b = then (means c vars b) (λ v d. choose v (means x vars) (means y vars) d)
    means (bind at x y) vars b = then (means x vars b) (λ v c. means y (vars ++ v ∷ []) c)
    means (split at l x y) vars b =
        then (means l vars b) (λ v c. on_list v (means x vars) (λ h t. means y (vars ++ h ∷ t ∷ [])) c)
    means (nil at n) vars b = gives (list_value no_values) b
    means (list_expr at es) vars b = then (all_mean es vars b) (λ vs c. gives (list_value (values_in_order vs)) c)
    means (cons at x y) vars b =
        then (means x vars b) (λ v c. then (means y vars c) (λ w d. with_budget (longer v w) d))
    means (record_expr at r es) vars b =
        then (all_mean es vars b) (λ vs c. gives (record_value r (values_in_order vs)) c)
    means (field at r k x) vars b = then (means x vars b) (λ v c. with_budget (field_of r k v) c)

    -- expression by expression
    pub all_mean : ExprTrees → List ValueTree → ℕ → Out (List ValueTree)
    all_mean none vars b = gives [] b
    all_mean (more e es) vars b =
        then (means e vars b) (λ v c. then (all_mean es vars c) (λ vs d. gives (v ∷ vs) d))

-- a call costs one, and ends the run if nothing is left
abbrev pub spend : ℕ → (ℕ → Out ValueTree) → Out ValueTree
spend zero go = stops budget_end
spend (suc b) go = go b

-- function and number of arguments are looked at before the budget
abbrev pub body_means : Calling → Option FunctionTree → List ValueTree → ℕ → Out ValueTree
body_means calling None vs b = stops wrong
body_means calling (Some f) vs b =
    cond (nat_eq (length vs) (length f.params)) (spend b (means calling f.body vs)) (stops wrong)

-- calls, at most n of them inside one another
abbrev pub running : List FunctionTree → ℕ → Calling
running fs zero j vs b = stops wrong
running fs (suc n) j vs b = body_means (running fs n) (slice_get fs j) vs b

-- The meaning of an expression. No more calls stand inside one another than the budget has.
unfoldable pub Means : List FunctionTree → List ValueTree → ExprTree → ℕ → Out ValueTree
Means fs vars e b = means (running fs (suc b)) e vars b

unfoldable pub AllMean : List FunctionTree → List ValueTree → ExprTrees → ℕ → Out (List ValueTree)
AllMean fs vars es b = all_mean (running fs (suc b)) es vars b

-- a call of function j, the call itself counted
unfoldable pub Outcome : List FunctionTree → ℕ → List ValueTree → ℕ → Out ValueTree
Outcome fs j vs b = running fs (suc b) j vs b

-- how the call ends; nothing if a shape is wrong
abbrev pub end_of : Out ValueTree → Option OutcomeTree
end_of (gives v b) = Some (value_outcome v)
end_of (stops (trap t)) = Some (trap_outcome t)
end_of (stops budget_end) = Some budget_outcome
end_of (stops wrong) = None

abbrev pub outcome_of_call : ProgramTree → ℕ → List ValueTree → ℕ → Option OutcomeTree
outcome_of_call p j vs b = end_of (Outcome p.functions j vs b)
