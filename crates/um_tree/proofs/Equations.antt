-- The equations of the meaning, one a node. Proofs about it use these and never unfold it.
use Rattle.std.proofs.Common.{◌≡◌, refl, ap, ◌∙◌, length, ℕ, zero, suc, IsTrue, Bool, true, false, cond, nat_eq, List, [], ◌∷◌, ◌++◌, Some, None, slice_get, ℤ, arith}
use Rattle.std.proofs.lemmas.Bool.Decides.{nat_tests}
use Rattle.um_frac.specs.declared.number.Frac.{Frac}
use Rattle.um_tree.specs.TypeTree.{NoteTree}
use Rattle.um_tree.specs.ValueTree.{ValueTree, truth_value, number_value, list_value, record_value, no_values, values_in_order}
use Rattle.um_tree.specs.ExprTree.{ExprTree, ExprTrees, truth, number, local, call, negate, not_expr, pown, arith as arith_tree, compare, both, either, if, bind, split, nil, list_expr, cons, record_expr, field, none, more}
use Rattle.um_tree.specs.ProgramTree.{FunctionTree}
use Rattle.um_tree.specs.Meaning.{gives, stops, budget_end, wrong, then, spend, found, with_budget, calculated, compared, negated, not_of, raised, longer, field_of, choose, on_list, means, all_mean, body_means, running, Means, AllMean, Outcome}
use Rattle.um_tree.specs.MeaningEquations.{EquationsOfMeaning, DeclaredCallsMeanTheirBody, OtherCallsAreWrong, UndeclaredCallsAreWrong}
use Rattle.um_tree.specs.declared.note.UnitNote.{UnitNote}
use Rattle.um_tree.specs.declared.expression.Arith.{Arith}
use Rattle.um_tree.specs.declared.expression.Sign.{Sign}
use Rattle.um_tree.proofs.Budget.{Within, within, within_all, within_running, then_agree, choose_agree, list_agree, running_agree, means_at, all_mean_at}

module _ (fs : List FunctionTree) (vars : List ValueTree) where
  own : (e : ExprTree) (b : ℕ) → Within b (means (running fs (suc b)) e vars b)
  own e b = within (running fs (suc b)) (within_running fs (suc b)) e vars b

  own_all : (es : ExprTrees) (b : ℕ) → Within b (all_mean (running fs (suc b)) es vars b)
  own_all es b = within_all (running fs (suc b)) (within_running fs (suc b)) es vars b

  pub Means-truth : (at : ℕ) (x : Bool) (b : ℕ) → Means fs vars (truth at x) b ≡ gives (truth_value x) b
  unfolding Means
  Means-truth at x b = refl

  pub Means-number : (at : ℕ) (c : Frac) (n : UnitNote) (b : ℕ) → Means fs vars (number at c n) b ≡ gives (number_value c) b
  unfolding Means
  Means-number at c n b = refl

  pub Means-local : (at k b : ℕ) → Means fs vars (local at k) b ≡ found (slice_get vars k) b
  unfolding Means
  Means-local at k b = refl

  pub Means-nil : (at : ℕ) (n : NoteTree) (b : ℕ) → Means fs vars (nil at n) b ≡ gives (list_value no_values) b
  unfolding Means
  Means-nil at n b = refl

  pub Means-call : (at j : ℕ) (es : ExprTrees) (b : ℕ) → Means fs vars (call at j es) b ≡ then (AllMean fs vars es b) (Outcome fs j)
  unfolding Means AllMean Outcome
  Means-call at j es b = then_agree b _ _ _ _ (own_all es b) refl (λ vs c k. running_agree fs (suc b) (suc c) j vs c (omega arith) (omega arith))

  pub Means-negate : (at : ℕ) (x : ExprTree) (b : ℕ) → Means fs vars (negate at x) b ≡ then (Means fs vars x b) (λ v c. with_budget (negated v) c)
  unfolding Means
  Means-negate at x b = refl

  pub Means-not : (at : ℕ) (x : ExprTree) (b : ℕ) → Means fs vars (not_expr at x) b ≡ then (Means fs vars x b) (λ v c. with_budget (not_of v) c)
  unfolding Means
  Means-not at x b = refl

  pub Means-pown : (at : ℕ) (x : ExprTree) (k : ℤ) (b : ℕ) → Means fs vars (pown at x k) b ≡ then (Means fs vars x b) (λ v c. with_budget (raised k v) c)
  unfolding Means
  Means-pown at x k b = refl

  pub Means-arith : (at : ℕ) (op : Arith) (x y : ExprTree) (b : ℕ) → Means fs vars (arith_tree at op x y) b ≡ then (Means fs vars x b) (λ v c. then (Means fs vars y c) (λ w d. with_budget (calculated op v w) d))
  unfolding Means
  Means-arith at op x y b = then_agree b _ _ _ _ (own x b) refl (λ v c k. ap (λ o. then o (λ w d. with_budget (calculated op v w) d)) (means_at fs (suc b) y vars c (omega arith)))

  pub Means-compare : (at : ℕ) (sign : Sign) (x y : ExprTree) (b : ℕ) → Means fs vars (compare at sign x y) b ≡ then (Means fs vars x b) (λ v c. then (Means fs vars y c) (λ w d. with_budget (compared sign v w) d))
  unfolding Means
  Means-compare at sign x y b = then_agree b _ _ _ _ (own x b) refl (λ v c k. ap (λ o. then o (λ w d. with_budget (compared sign v w) d)) (means_at fs (suc b) y vars c (omega arith)))

  pub Means-both : (at : ℕ) (x y : ExprTree) (b : ℕ) → Means fs vars (both at x y) b ≡ then (Means fs vars x b) (λ v c. choose v (Means fs vars y) (gives (truth_value false)) c)
  unfolding Means
  Means-both at x y b = then_agree b _ _ _ _ (own x b) refl (λ v c k. choose_agree v _ _ _ _ c (means_at fs (suc b) y vars c (omega arith)) refl)

  pub Means-either : (at : ℕ) (x y : ExprTree) (b : ℕ) → Means fs vars (either at x y) b ≡ then (Means fs vars x b) (λ v c. choose v (gives (truth_value true)) (Means fs vars y) c)
  unfolding Means
  Means-either at x y b = then_agree b _ _ _ _ (own x b) refl (λ v c k. choose_agree v _ _ _ _ c refl (means_at fs (suc b) y vars c (omega arith)))

  pub Means-if : (at : ℕ) (t x y : ExprTree) (b : ℕ) → Means fs vars (if at t x y) b ≡ then (Means fs vars t b) (λ v c. choose v (Means fs vars x) (Means fs vars y) c)
  unfolding Means
  Means-if at t x y b = then_agree b _ _ _ _ (own t b) refl (λ v c k. choose_agree v _ _ _ _ c (means_at fs (suc b) x vars c (omega arith)) (means_at fs (suc b) y vars c (omega arith)))

  pub Means-bind : (at : ℕ) (x y : ExprTree) (b : ℕ) → Means fs vars (bind at x y) b ≡ then (Means fs vars x b) (λ v c. Means fs (vars ++ v ∷ []) y c)
  unfolding Means
  Means-bind at x y b = then_agree b _ _ _ _ (own x b) refl (λ v c k. means_at fs (suc b) y (vars ++ v ∷ []) c (omega arith))

  pub Means-split : (at : ℕ) (l x y : ExprTree) (b : ℕ) → Means fs vars (split at l x y) b ≡ then (Means fs vars l b) (λ v c. on_list v (Means fs vars x) (λ h t. Means fs (vars ++ h ∷ t ∷ []) y) c)
  unfolding Means
  Means-split at l x y b = then_agree b _ _ _ _ (own l b) refl (λ v c k. list_agree v _ _ _ _ c (means_at fs (suc b) x vars c (omega arith)) (λ h t. means_at fs (suc b) y (vars ++ h ∷ t ∷ []) c (omega arith)))

  pub Means-list : (at : ℕ) (es : ExprTrees) (b : ℕ) → Means fs vars (list_expr at es) b ≡ then (AllMean fs vars es b) (λ vs c. gives (list_value (values_in_order vs)) c)
  unfolding Means AllMean
  Means-list at es b = refl

  pub Means-cons : (at : ℕ) (x y : ExprTree) (b : ℕ) → Means fs vars (cons at x y) b ≡ then (Means fs vars x b) (λ v c. then (Means fs vars y c) (λ w d. with_budget (longer v w) d))
  unfolding Means
  Means-cons at x y b = then_agree b _ _ _ _ (own x b) refl (λ v c k. ap (λ o. then o (λ w d. with_budget (longer v w) d)) (means_at fs (suc b) y vars c (omega arith)))

  pub Means-record : (at r : ℕ) (es : ExprTrees) (b : ℕ) → Means fs vars (record_expr at r es) b ≡ then (AllMean fs vars es b) (λ vs c. gives (record_value r (values_in_order vs)) c)
  unfolding Means AllMean
  Means-record at r es b = refl

  pub Means-field : (at r n : ℕ) (x : ExprTree) (b : ℕ) → Means fs vars (field at r n x) b ≡ then (Means fs vars x b) (λ v c. with_budget (field_of r n v) c)
  unfolding Means
  Means-field at r n x b = refl

  pub AllMean-none : (b : ℕ) → AllMean fs vars none b ≡ gives [] b
  unfolding AllMean
  AllMean-none b = refl

  pub AllMean-more : (e : ExprTree) (es : ExprTrees) (b : ℕ) → AllMean fs vars (more e es) b ≡ then (Means fs vars e b) (λ v c. then (AllMean fs vars es c) (λ vs d. gives (v ∷ vs) d))
  unfolding AllMean Means
  AllMean-more e es b = then_agree b _ _ _ _ (own e b) refl (λ v c k. ap (λ o. then o (λ vs d. gives (v ∷ vs) d)) (all_mean_at fs (suc b) es vars c (omega arith)))

-- a call of a declared function with its number of arguments
pub Outcome-some : (fs : List FunctionTree) (j : ℕ) (vs : List ValueTree) (f : FunctionTree) (b : ℕ) → slice_get fs j ≡ Some f → IsTrue (nat_eq (length vs) (length f.params)) → Outcome fs j vs b ≡ spend b (Means fs vs f.body)
unfolding Outcome Means
Outcome-some fs j vs f zero e t =
    ap (λ o. body_means (running fs 0) o vs 0) e ∙ ap (λ t. cond t (stops budget_end) (stops wrong)) t
Outcome-some fs j vs f (suc b) e t =
    ap (λ o. body_means (running fs (suc b)) o vs (suc b)) e ∙ ap (λ t. cond t (means (running fs (suc b)) f.body vs b) (stops wrong)) t

pub Outcome-none : (fs : List FunctionTree) (j : ℕ) (vs : List ValueTree) (b : ℕ) → slice_get fs j ≡ None → Outcome fs j vs b ≡ stops wrong
unfolding Outcome
Outcome-none fs j vs b e = ap (λ o. body_means (running fs b) o vs b) e

pub Outcome-other_count : (fs : List FunctionTree) (j : ℕ) (vs : List ValueTree) (f : FunctionTree) (b : ℕ) → slice_get fs j ≡ Some f → nat_eq (length vs) (length f.params) ≡ false → Outcome fs j vs b ≡ stops wrong
unfolding Outcome
Outcome-other_count fs j vs f b e t =
    ap (λ o. body_means (running fs b) o vs b) e ∙ ap (λ t. cond t (spend b (means (running fs b) f.body vs)) (stops wrong)) t

pub ruleset meaning_equations = (Means-truth, Means-number, Means-local, Means-call, Means-negate, Means-not, Means-pown, Means-arith, Means-compare, Means-both, Means-either, Means-if, Means-bind, Means-split, Means-nil, Means-list, Means-cons, Means-record, Means-field, AllMean-none, AllMean-more)

-- ---- as laws
pub equations_of_meaning : EquationsOfMeaning
equations_of_meaning fs vars b = record {
  of_truth = λ at x. Means-truth fs vars at x b;
  of_number = λ at c n. Means-number fs vars at c n b;
  of_local = λ at k. Means-local fs vars at k b;
  of_call = λ at j es. Means-call fs vars at j es b;
  of_negate = λ at x. Means-negate fs vars at x b;
  of_not = λ at x. Means-not fs vars at x b;
  of_pown = λ at x k. Means-pown fs vars at x k b;
  of_arith = λ at op x y. Means-arith fs vars at op x y b;
  of_compare = λ at sign x y. Means-compare fs vars at sign x y b;
  of_both = λ at x y. Means-both fs vars at x y b;
  of_either = λ at x y. Means-either fs vars at x y b;
  of_if = λ at t x y. Means-if fs vars at t x y b;
  of_bind = λ at x y. Means-bind fs vars at x y b;
  of_split = λ at l x y. Means-split fs vars at l x y b;
  of_nil = λ at n. Means-nil fs vars at n b;
  of_list = λ at es. Means-list fs vars at es b;
  of_cons = λ at x y. Means-cons fs vars at x y b;
  of_record = λ at r es. Means-record fs vars at r es b;
  of_field = λ at r k x. Means-field fs vars at r k x b;
  of_none = AllMean-none fs vars b;
  of_more = λ e es. AllMean-more fs vars e es b;
}

pub declared_calls_mean_their_body : DeclaredCallsMeanTheirBody
declared_calls_mean_their_body fs j vs f b e same = Outcome-some fs j vs f b e (grind (arith, nat_tests))

pub other_calls_are_wrong : OtherCallsAreWrong
other_calls_are_wrong fs j vs f b e other = Outcome-other_count fs j vs f b e (grind (arith, nat_tests))

pub undeclared_calls_are_wrong : UndeclaredCallsAreWrong
undeclared_calls_are_wrong fs j vs b e = Outcome-none fs j vs b e
