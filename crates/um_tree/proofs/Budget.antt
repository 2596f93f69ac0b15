-- How a meaning uses its budget: it never gives back more than it got, a larger budget changes nothing but the rest,
-- and how many calls may stand inside one another is no matter above the budget.
use Rattle.std.proofs.Common.{◌≡◌, refl, ap, length, subst, ℕ, zero, suc, ◌<◌, ◌≤◌, true, false, cond, nat_eq, List, [], ◌∷◌, ◌++◌, Option, Some, None, Result, Ok, Err, slice_get, arith}
use Rattle.um_tree.specs.ValueTree.{ValueTree, truth_value, number_value, list_value, record_value, no_values, more_values}
use Rattle.um_tree.specs.ExprTree.{ExprTree, ExprTrees, truth, number, local, call, negate, not_expr, pown, arith as arith_tree, compare, both, either, if, bind, split, nil, list_expr, cons, record_expr, field, none, more}
use Rattle.um_tree.specs.ProgramTree.{FunctionTree}
use Rattle.um_tree.specs.Meaning.{Out, gives, stops, Stop, wrong, then, Calling, spend, found, with_budget, calculated, compared, negated, not_of, raised, longer, field_of, choose, on_list, means, all_mean, body_means, running, Means, AllMean, Outcome}

-- the rest, where there is one, is at most the budget
abbrev pub Within : {A : Type 0} → ℕ → Out A → Type 0
Within b (gives x c) = c ≤ b
Within b (stops r) = Unit {0}

within_more : {A : Type 0} (b c : ℕ) (o : Out A) → b ≤ c → Within b o → Within c o
within_more b c (gives x d) h w = omega arith
within_more b c (stops r) h w = tt

within_then : {A B : Type 0} (b : ℕ) (o : Out A) (go : A → ℕ → Out B) → Within b o → ((x : A) (c : ℕ) → Within c (go x c)) → Within b (then o go)
within_then b (gives x c) go w h = within_more c b (go x c) w (h x c)
within_then b (stops r) go w h = tt

within_spend : (b : ℕ) (go : ℕ → Out ValueTree) → ((c : ℕ) → Within c (go c)) → Within b (spend b go)
within_spend zero go h = tt
within_spend (suc b) go h = within_more b (suc b) (go b) (omega arith) (h b)

within_found : (o : Option ValueTree) (b : ℕ) → Within b (found o b)
within_found None b = tt
within_found (Some v) b = omega arith

within_result : {A : Type 0} (r : Result A Stop) (b : ℕ) → Within b (with_budget r b)
within_result (Ok v) b = omega arith
within_result (Err r) b = tt

within_choose : (v : ValueTree) (x y : ℕ → Out ValueTree) (b : ℕ) → Within b (x b) → Within b (y b) → Within b (choose v x y b)
within_choose (truth_value true) x y b p q = p
within_choose (truth_value false) x y b p q = q
within_choose (number_value n) x y b p q = tt
within_choose (list_value vs) x y b p q = tt
within_choose (record_value r vs) x y b p q = tt

within_list : (v : ValueTree) (x : ℕ → Out ValueTree) (y : ValueTree → ValueTree → ℕ → Out ValueTree) (b : ℕ) → Within b (x b) → ((h t : ValueTree) → Within b (y h t b)) → Within b (on_list v x y b)
within_list (list_value no_values) x y b p q = p
within_list (list_value (more_values v vs)) x y b p q = q v (list_value vs)
within_list (truth_value c) x y b p q = tt
within_list (number_value n) x y b p q = tt
within_list (record_value r vs) x y b p q = tt

module _ (calling : Calling) (low : (j : ℕ) (vs : List ValueTree) (b : ℕ) → Within b (calling j vs b)) where
  mutual
    pub within : (e : ExprTree) (vars : List ValueTree) (b : ℕ) → Within b (means calling e vars b)
    within (truth at x) vars b = omega arith
    within (number at c n) vars b = omega arith
    within (local at k) vars b = within_found (slice_get vars k) b
    within (call at j es) vars b = within_then b _ _ (within_all es vars b) (λ vs c. low j vs c)
    within (negate at x) vars b = within_then b _ _ (within x vars b) (λ v c. within_result (negated v) c)
    within (not_expr at x) vars b = within_then b _ _ (within x vars b) (λ v c. within_result (not_of v) c)
    within (pown at x k) vars b = within_then b _ _ (within x vars b) (λ v c. within_result (raised k v) c)
    within (arith_tree at op x y) vars b = within_then b _ _ (within x vars b) (λ v c. within_then c _ _ (within y vars c) (λ w d. within_result (calculated op v w) d))
    within (compare at sign x y) vars b = within_then b _ _ (within x vars b) (λ v c. within_then c _ _ (within y vars c) (λ w d. within_result (compared sign v w) d))
    within (both at x y) vars b = within_then b _ _ (within x vars b) (λ v c. within_choose v _ _ c (within y vars c) (omega arith))
    within (either at x y) vars b = within_then b _ _ (within x vars b) (λ v c. within_choose v _ _ c (omega arith) (within y vars c))
    within (if at c x y) vars b = within_then b _ _ (within c vars b) (λ v d. within_choose v _ _ d (within x vars d) (within y vars d))
    within (bind at x y) vars b = within_then b _ _ (within x vars b) (λ v c. within y (vars ++ v ∷ []) c)
    within (split at l x y) vars b = within_then b _ _ (within l vars b) (λ v c. within_list v _ _ c (within x vars c) (λ h t. within y (vars ++ h ∷ t ∷ []) c))
    within (nil at n) vars b = omega arith
    within (list_expr at es) vars b = within_then b _ _ (within_all es vars b) (λ vs c. omega arith)
    within (cons at x y) vars b = within_then b _ _ (within x vars b) (λ v c. within_then c _ _ (within y vars c) (λ w d. within_result (longer v w) d))
    within (record_expr at r es) vars b = within_then b _ _ (within_all es vars b) (λ vs c. omega arith)
    within (field at r k x) vars b = within_then b _ _ (within x vars b) (λ v c. within_result (field_of r k v) c)

    pub within_all : (es : ExprTrees) (vars : List ValueTree) (b : ℕ) → Within b (all_mean calling es vars b)
    within_all none vars b = omega arith
    within_all (more e es) vars b = within_then b _ _ (within e vars b) (λ v c. within_then c _ _ (within_all es vars c) (λ vs d. omega arith))

within_body : (calling : Calling) → ((j : ℕ) (vs : List ValueTree) (b : ℕ) → Within b (calling j vs b)) → (f : Option FunctionTree) (vs : List ValueTree) (b : ℕ) → Within b (body_means calling f vs b)
within_body calling low None vs b = tt
within_body calling low (Some f) vs b = elim (nat_eq (length vs) (length f.params)) as (λ t. Within b (cond t (spend b (means calling f.body vs)) (stops wrong))) [ true ↦ within_spend b _ (within calling low f.body vs) | false ↦ tt ]

pub within_running : (fs : List FunctionTree) (n j : ℕ) (vs : List ValueTree) (b : ℕ) → Within b (running fs n j vs b)
within_running fs zero j vs b = tt
within_running fs (suc n) j vs b = within_body (running fs n) (within_running fs n) (slice_get fs j) vs b

-- the rest is at most the budget
pub Means-within : (fs : List FunctionTree) (vars : List ValueTree) (e : ExprTree) (b : ℕ) → Within b (Means fs vars e b)
unfolding Means
Means-within fs vars e b = within (running fs (suc b)) (within_running fs (suc b)) e vars b

pub AllMean-within : (fs : List FunctionTree) (vars : List ValueTree) (es : ExprTrees) (b : ℕ) → Within b (AllMean fs vars es b)
unfolding AllMean
AllMean-within fs vars es b = within_all (running fs (suc b)) (within_running fs (suc b)) es vars b

pub Outcome-within : (fs : List FunctionTree) (j : ℕ) (vs : List ValueTree) (b : ℕ) → Within b (Outcome fs j vs b)
unfolding Outcome
Outcome-within fs j vs b = within_running fs (suc b) j vs b

pub then_agree : {A B : Type 0} (b : ℕ) (o p : Out A) (go ho : A → ℕ → Out B) → Within b o → o ≡ p → ((x : A) (c : ℕ) → c ≤ b → go x c ≡ ho x c) → then o go ≡ then p ho
then_agree {A = A} {B = B} b o p go ho w e h = subst (λ q. then o go ≡ then q ho) e (here o w)
  where
    here : (o : Out A) → Within b o → then o go ≡ then o ho
    here (gives x c) w = h x c w
    here (stops r) w = refl

pub choose_agree : (v : ValueTree) (x y x' y' : ℕ → Out ValueTree) (b : ℕ) → x b ≡ x' b → y b ≡ y' b → choose v x y b ≡ choose v x' y' b
choose_agree (truth_value true) x y x' y' b p q = p
choose_agree (truth_value false) x y x' y' b p q = q
choose_agree (number_value n) x y x' y' b p q = refl
choose_agree (list_value vs) x y x' y' b p q = refl
choose_agree (record_value r vs) x y x' y' b p q = refl

pub list_agree : (v : ValueTree) (x x' : ℕ → Out ValueTree) (y y' : ValueTree → ValueTree → ℕ → Out ValueTree) (b : ℕ) → x b ≡ x' b → ((h t : ValueTree) → y h t b ≡ y' h t b) → on_list v x y b ≡ on_list v x' y' b
list_agree (list_value no_values) x x' y y' b p q = p
list_agree (list_value (more_values v vs)) x x' y y' b p q = q v (list_value vs)
list_agree (truth_value c) x x' y y' b p q = refl
list_agree (number_value n) x x' y y' b p q = refl
list_agree (record_value r vs) x x' y y' b p q = refl

spend_agree : (b : ℕ) (go ho : ℕ → Out ValueTree) → ((c : ℕ) → c < b → go c ≡ ho c) → spend b go ≡ spend b ho
spend_agree zero go ho e = refl
spend_agree (suc b) go ho e = e b (omega arith)

module _ (calling other : Calling) (low : (j : ℕ) (vs : List ValueTree) (b : ℕ) → Within b (calling j vs b)) (n : ℕ) (same : (j : ℕ) (vs : List ValueTree) (c : ℕ) → c ≤ n → calling j vs c ≡ other j vs c) where
  mutual
    agree : (e : ExprTree) (vars : List ValueTree) (b : ℕ) → b ≤ n → means calling e vars b ≡ means other e vars b
    agree (truth at x) vars b h = refl
    agree (number at m u) vars b h = refl
    agree (local at k) vars b h = refl
    agree (call at j es) vars b h = then_agree b _ _ _ _ (within_all calling low es vars b) (agree_all es vars b h) (λ vs c k. same j vs c (omega arith))
    agree (negate at x) vars b h = then_agree b _ _ _ _ (within calling low x vars b) (agree x vars b h) (λ v c k. refl)
    agree (not_expr at x) vars b h = then_agree b _ _ _ _ (within calling low x vars b) (agree x vars b h) (λ v c k. refl)
    agree (pown at x n) vars b h = then_agree b _ _ _ _ (within calling low x vars b) (agree x vars b h) (λ v c k. refl)
    agree (arith_tree at op x y) vars b h = then_agree b _ _ _ _ (within calling low x vars b) (agree x vars b h) (λ v c k. then_agree c _ _ _ _ (within calling low y vars c) (agree y vars c (omega arith)) (λ w d k. refl))
    agree (compare at sign x y) vars b h = then_agree b _ _ _ _ (within calling low x vars b) (agree x vars b h) (λ v c k. then_agree c _ _ _ _ (within calling low y vars c) (agree y vars c (omega arith)) (λ w d k. refl))
    agree (both at x y) vars b h = then_agree b _ _ _ _ (within calling low x vars b) (agree x vars b h) (λ v c k. choose_agree v _ _ _ _ c (agree y vars c (omega arith)) refl)
    agree (either at x y) vars b h = then_agree b _ _ _ _ (within calling low x vars b) (agree x vars b h) (λ v c k. choose_agree v _ _ _ _ c refl (agree y vars c (omega arith)))
    agree (if at c x y) vars b h = then_agree b _ _ _ _ (within calling low c vars b) (agree c vars b h) (λ v d k. choose_agree v _ _ _ _ d (agree x vars d (omega arith)) (agree y vars d (omega arith)))
    agree (bind at x y) vars b h = then_agree b _ _ _ _ (within calling low x vars b) (agree x vars b h) (λ v c k. agree y (vars ++ v ∷ []) c (omega arith))
    agree (split at l x y) vars b h = then_agree b _ _ _ _ (within calling low l vars b) (agree l vars b h) (λ v c k. list_agree v _ _ _ _ c (agree x vars c (omega arith)) (λ x0 xs. agree y (vars ++ x0 ∷ xs ∷ []) c (omega arith)))
    agree (nil at m) vars b h = refl
    agree (list_expr at es) vars b h = then_agree b _ _ _ _ (within_all calling low es vars b) (agree_all es vars b h) (λ vs c k. refl)
    agree (cons at x y) vars b h = then_agree b _ _ _ _ (within calling low x vars b) (agree x vars b h) (λ v c k. then_agree c _ _ _ _ (within calling low y vars c) (agree y vars c (omega arith)) (λ w d k. refl))
    agree (record_expr at r es) vars b h = then_agree b _ _ _ _ (within_all calling low es vars b) (agree_all es vars b h) (λ vs c k. refl)
    agree (field at r m x) vars b h = then_agree b _ _ _ _ (within calling low x vars b) (agree x vars b h) (λ v c k. refl)

    agree_all : (es : ExprTrees) (vars : List ValueTree) (b : ℕ) → b ≤ n → all_mean calling es vars b ≡ all_mean other es vars b
    agree_all none vars b h = refl
    agree_all (more e es) vars b h = then_agree b _ _ _ _ (within calling low e vars b) (agree e vars b h) (λ v c k. then_agree c _ _ _ _ (within_all calling low es vars c) (agree_all es vars c (omega arith)) (λ vs d k. refl))

agree_body : (calling other : Calling) → ((j : ℕ) (vs : List ValueTree) (b : ℕ) → Within b (calling j vs b)) → (b : ℕ) → ((j : ℕ) (vs : List ValueTree) (c : ℕ) → c < b → calling j vs c ≡ other j vs c) → (f : Option FunctionTree) (vs : List ValueTree) → body_means calling f vs b ≡ body_means other f vs b
agree_body calling other low b same None vs = refl
agree_body calling other low b same (Some f) vs =
    ap (λ o. cond (nat_eq (length vs) (length f.params)) o (stops wrong)) (spend_agree b _ _ (λ c h. agree calling other low c (λ j ws d k. same j ws d (omega arith)) f.body vs c (omega arith)))

-- how many calls may stand inside one another is no matter above the budget
pub running_agree : (fs : List FunctionTree) (m n j : ℕ) (vs : List ValueTree) (b : ℕ) → b < m → b < n → running fs m j vs b ≡ running fs n j vs b
running_agree fs zero n j vs b p q = absurd (omega arith)
running_agree fs (suc m) zero j vs b p q = absurd (omega arith)
running_agree fs (suc m) (suc n) j vs b p q =
    agree_body (running fs m) (running fs n) (within_running fs m) b (λ k ws c h. running_agree fs m n k ws c (omega arith) (omega arith)) (slice_get fs j) vs

pub means_at : (fs : List FunctionTree) (n : ℕ) (e : ExprTree) (vars : List ValueTree) (b : ℕ) → b < n → means (running fs n) e vars b ≡ Means fs vars e b
unfolding Means
means_at fs n e vars b h = agree (running fs n) (running fs (suc b)) (within_running fs n) b (λ j vs c k. running_agree fs n (suc b) j vs c (omega arith) (omega arith)) e vars b (omega arith)

pub all_mean_at : (fs : List FunctionTree) (n : ℕ) (es : ExprTrees) (vars : List ValueTree) (b : ℕ) → b < n → all_mean (running fs n) es vars b ≡ AllMean fs vars es b
unfolding AllMean
all_mean_at fs n es vars b h = agree_all (running fs n) (running fs (suc b)) (within_running fs n) b (λ j vs c k. running_agree fs n (suc b) j vs c (omega arith) (omega arith)) es vars b (omega arith)
