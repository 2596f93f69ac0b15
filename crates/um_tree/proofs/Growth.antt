-- A budget that sufficed suffices when it grows: the value stays, and the rest grows by as much.
use Rattle.std.proofs.Common.{◌≡◌, refl, ap, sym, length, subst, ℕ, zero, suc, ◌+◌, true, false, cond, nat_eq, List, [], ◌∷◌, ◌++◌, Option, Some, None, Result, Ok, Err, slice_get, arith}
use Rattle.um_tree.specs.ValueTree.{ValueTree, truth_value, number_value, list_value, record_value, no_values, more_values}
use Rattle.um_tree.specs.ExprTree.{ExprTree, ExprTrees, truth, number, local, call, negate, not_expr, pown, arith as arith_tree, compare, both, either, if, bind, split, nil, list_expr, cons, record_expr, field, none, more}
use Rattle.um_tree.specs.ProgramTree.{FunctionTree}
use Rattle.um_tree.specs.Meaning.{Out, gives, stops, Stop, trap, budget_end, wrong, then, Calling, spend, found, with_budget, calculated, compared, negated, not_of, raised, longer, field_of, choose, on_list, means, all_mean, body_means, running, Means, Outcome}
use Rattle.um_tree.proofs.Budget.{means_at, running_agree}

-- the second is what the first becomes where the budget grows by d: only the end of the budget may become anything
abbrev pub Grown : {A : Type 0} → ℕ → Out A → Out A → Type 0
Grown d (gives x c) o = o ≡ gives x (c + d)
Grown d (stops (trap t)) o = o ≡ stops (trap t)
Grown d (stops budget_end) o = Unit {0}
Grown d (stops wrong) o = o ≡ stops wrong

grown_then : {A B : Type 0} (d : ℕ) (o p : Out A) (go : A → ℕ → Out B) → Grown d o p → ((x : A) (c : ℕ) → Grown d (go x c) (go x (c + d))) → Grown d (then o go) (then p go)
grown_then d (gives x c) p go h k = subst (λ q. Grown d (go x c) (then q go)) (sym h) (k x c)
grown_then d (stops (trap t)) p go h k = ap (λ q. then q go) h
grown_then d (stops budget_end) p go h k = tt
grown_then d (stops wrong) p go h k = ap (λ q. then q go) h

grown_spend : (d b : ℕ) (go : ℕ → Out ValueTree) → ((c : ℕ) → Grown d (go c) (go (c + d))) → Grown d (spend b go) (spend (b + d) go)
grown_spend d zero go k = tt
grown_spend d (suc b) go k =
    let next : suc b + d ≡ suc (b + d) = omega arith in
    subst (λ n. Grown d (go b) (spend n go)) (sym next) (k b)

grown_found : (d : ℕ) (o : Option ValueTree) (b : ℕ) → Grown d (found o b) (found o (b + d))
grown_found d None b = refl
grown_found d (Some v) b = refl

grown_result : {A : Type 0} (d : ℕ) (r : Result A Stop) (b : ℕ) → Grown d (with_budget r b) (with_budget r (b + d))
grown_result d (Ok v) b = refl
grown_result d (Err (trap t)) b = refl
grown_result d (Err budget_end) b = tt
grown_result d (Err wrong) b = refl

grown_choose : (d : ℕ) (v : ValueTree) (x y : ℕ → Out ValueTree) (b : ℕ) → Grown d (x b) (x (b + d)) → Grown d (y b) (y (b + d)) → Grown d (choose v x y b) (choose v x y (b + d))
grown_choose d (truth_value true) x y b p q = p
grown_choose d (truth_value false) x y b p q = q
grown_choose d (number_value n) x y b p q = refl
grown_choose d (list_value vs) x y b p q = refl
grown_choose d (record_value r vs) x y b p q = refl

grown_list : (d : ℕ) (v : ValueTree) (x : ℕ → Out ValueTree) (y : ValueTree → ValueTree → ℕ → Out ValueTree) (b : ℕ) → Grown d (x b) (x (b + d)) → ((h t : ValueTree) → Grown d (y h t b) (y h t (b + d))) → Grown d (on_list v x y b) (on_list v x y (b + d))
grown_list d (list_value no_values) x y b p q = p
grown_list d (list_value (more_values v vs)) x y b p q = q v (list_value vs)
grown_list d (truth_value c) x y b p q = refl
grown_list d (number_value n) x y b p q = refl
grown_list d (record_value r vs) x y b p q = refl

module _ (d : ℕ) (calling : Calling) (grows : (j : ℕ) (vs : List ValueTree) (b : ℕ) → Grown d (calling j vs b) (calling j vs (b + d))) where
  mutual
    grown : (e : ExprTree) (vars : List ValueTree) (b : ℕ) → Grown d (means calling e vars b) (means calling e vars (b + d))
    grown (truth at x) vars b = refl
    grown (number at c n) vars b = refl
    grown (local at k) vars b = grown_found d (slice_get vars k) b
    grown (call at j es) vars b = grown_then d _ _ _ (grown_all es vars b) (λ vs c. grows j vs c)
    grown (negate at x) vars b = grown_then d _ _ _ (grown x vars b) (λ v c. grown_result d (negated v) c)
    grown (not_expr at x) vars b = grown_then d _ _ _ (grown x vars b) (λ v c. grown_result d (not_of v) c)
    grown (pown at x k) vars b = grown_then d _ _ _ (grown x vars b) (λ v c. grown_result d (raised k v) c)
    grown (arith_tree at op x y) vars b = grown_then d _ _ _ (grown x vars b) (λ v c. grown_then d _ _ _ (grown y vars c) (λ w e. grown_result d (calculated op v w) e))
    grown (compare at sign x y) vars b = grown_then d _ _ _ (grown x vars b) (λ v c. grown_then d _ _ _ (grown y vars c) (λ w e. grown_result d (compared sign v w) e))
    grown (both at x y) vars b = grown_then d _ _ _ (grown x vars b) (λ v c. grown_choose d v _ _ c (grown y vars c) refl)
    grown (either at x y) vars b = grown_then d _ _ _ (grown x vars b) (λ v c. grown_choose d v _ _ c refl (grown y vars c))
    grown (if at c x y) vars b = grown_then d _ _ _ (grown c vars b) (λ v e. grown_choose d v _ _ e (grown x vars e) (grown y vars e))
    grown (bind at x y) vars b = grown_then d _ _ _ (grown x vars b) (λ v c. grown y (vars ++ v ∷ []) c)
    grown (split at l x y) vars b = grown_then d _ _ _ (grown l vars b) (λ v c. grown_list d v _ _ c (grown x vars c) (λ h t. grown y (vars ++ h ∷ t ∷ []) c))
    grown (nil at n) vars b = refl
    grown (list_expr at es) vars b = grown_then d _ _ _ (grown_all es vars b) (λ vs c. refl)
    grown (cons at x y) vars b = grown_then d _ _ _ (grown x vars b) (λ v c. grown_then d _ _ _ (grown y vars c) (λ w e. grown_result d (longer v w) e))
    grown (record_expr at r es) vars b = grown_then d _ _ _ (grown_all es vars b) (λ vs c. refl)
    grown (field at r k x) vars b = grown_then d _ _ _ (grown x vars b) (λ v c. grown_result d (field_of r k v) c)

    grown_all : (es : ExprTrees) (vars : List ValueTree) (b : ℕ) → Grown d (all_mean calling es vars b) (all_mean calling es vars (b + d))
    grown_all none vars b = refl
    grown_all (more e es) vars b = grown_then d _ _ _ (grown e vars b) (λ v c. grown_then d _ _ _ (grown_all es vars c) (λ vs e. refl))

grown_body : (d : ℕ) (calling : Calling) → ((j : ℕ) (vs : List ValueTree) (b : ℕ) → Grown d (calling j vs b) (calling j vs (b + d))) → (f : Option FunctionTree) (vs : List ValueTree) (b : ℕ) → Grown d (body_means calling f vs b) (body_means calling f vs (b + d))
grown_body d calling grows None vs b = refl
grown_body d calling grows (Some f) vs b =
    elim (nat_eq (length vs) (length f.params)) as (λ t. Grown d (cond t (spend b (means calling f.body vs)) (stops wrong)) (cond t (spend (b + d) (means calling f.body vs)) (stops wrong))) [ true ↦ grown_spend d b _ (grown d calling grows f.body vs) | false ↦ refl ]

grown_running : (fs : List FunctionTree) (n d j : ℕ) (vs : List ValueTree) (b : ℕ) → Grown d (running fs n j vs b) (running fs n j vs (b + d))
grown_running fs zero d j vs b = refl
grown_running fs (suc n) d j vs b = grown_body d (running fs n) (grown_running fs n d) (slice_get fs j) vs b

-- what a meaning becomes with a larger budget
pub Means-grown : (fs : List FunctionTree) (vars : List ValueTree) (e : ExprTree) (b d : ℕ) → Grown d (Means fs vars e b) (Means fs vars e (b + d))
unfolding Means
Means-grown fs vars e b d = subst (λ o. Grown d o (Means fs vars e (b + d))) (means_at fs (suc (b + d)) e vars b (omega arith)) (grown d (running fs (suc (b + d))) (grown_running fs (suc (b + d)) d) e vars b)

pub Outcome-grown : (fs : List FunctionTree) (j : ℕ) (vs : List ValueTree) (b d : ℕ) → Grown d (Outcome fs j vs b) (Outcome fs j vs (b + d))
unfolding Outcome
Outcome-grown fs j vs b d = subst (λ o. Grown d o (Outcome fs j vs (b + d))) (running_agree fs (suc (b + d)) (suc b) j vs b (omega arith) (omega arith)) (grown_running fs (suc (b + d)) d j vs b)
