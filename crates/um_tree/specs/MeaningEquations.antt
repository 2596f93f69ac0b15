-- What the meaning comes to: one equation a node, and what a call gives. The definition does not rest on this.
-- Source: a big-step meaning of a call-by-value language. A crate above that follows the tree, or compiles it, needs
-- these equations alone: in them the bound on calls inside one another is gone.
use Rattle.std.specs.Prelude.{◌≡◌, ◌≢◌, ℕ, Bool, true, false, length, List, [], ◌∷◌, ◌++◌, Some, None, slice_get}
use Rattle.std.specs.Prelude.{ℤ}
use Rattle.um_frac.specs.declared.number.Frac.{Frac}
use Rattle.um_tree.specs.declared.note.UnitNote.{UnitNote}
use Rattle.um_tree.specs.declared.expression.Arith.{Arith}
use Rattle.um_tree.specs.declared.expression.Sign.{Sign}
use Rattle.um_tree.specs.TypeTree.{NoteTree}
use Rattle.um_tree.specs.ExprTree.{ExprTree, ExprTrees, truth, number, local, call, negate, not_expr, pown, arith}
use Rattle.um_tree.specs.ExprTree.{compare, both, either, if, bind, split, nil, list_expr, cons, record_expr, field}
use Rattle.um_tree.specs.ExprTree.{none, more}
use Rattle.um_tree.specs.ValueTree.{ValueTree, truth_value, number_value, list_value, record_value}
use Rattle.um_tree.specs.ValueTree.{no_values, values_in_order}
use Rattle.um_tree.specs.ProgramTree.{FunctionTree}
use Rattle.um_tree.specs.Meaning.{gives, stops, wrong, then, spend, found, with_budget, calculated, compared, negated}
use Rattle.um_tree.specs.Meaning.{not_of, raised, longer, field_of, choose, on_list, Means, AllMean, Outcome}

-- the equations of expressions, where the variables of the scope have these values
pub record MeansByNode (fs : List FunctionTree) (vars : List ValueTree) (b : ℕ) : Type 0 where
  pub of_truth : (at : ℕ) (x : Bool) → Means fs vars (truth at x) b ≡ gives (truth_value x) b
  pub of_number : (at : ℕ) (c : Frac) (n : UnitNote) → Means fs vars (number at c n) b ≡ gives (number_value c) b
  pub of_local : (at k : ℕ) → Means fs vars (local at k) b ≡ found (slice_get vars k) b
  pub of_call :
      (at j : ℕ) (es : ExprTrees) → Means fs vars (call at j es) b ≡ then (AllMean fs vars es b) (Outcome fs j)
  pub of_negate :
      (at : ℕ) (x : ExprTree) →
      Means fs vars (negate at x) b ≡ then (Means fs vars x b) (λ v c. with_budget (negated v) c)
  pub of_not :
      (at : ℕ) (x : ExprTree) →
      Means fs vars (not_expr at x) b ≡ then (Means fs vars x b) (λ v c. with_budget (not_of v) c)
  pub of_pown :
      (at : ℕ) (x : ExprTree) (k : ℤ) →
      Means fs vars (pown at x k) b ≡ then (Means fs vars x b) (λ v c. with_budget (raised k v) c)
  pub of_arith :
      (at : ℕ) (op : Arith) (x y : ExprTree) →
      Means fs vars (arith at op x y) b ≡
      then (Means fs vars x b) (λ v c. then (Means fs vars y c) (λ w d. with_budget (calculated op v w) d))
  pub of_compare :
      (at : ℕ) (sign : Sign) (x y : ExprTree) →
      Means fs vars (compare at sign x y) b ≡
      then (Means fs vars x b) (λ v c. then (Means fs vars y c) (λ w d. with_budget (compared sign v w) d))
  pub of_both :
      (at : ℕ) (x y : ExprTree) →
      Means fs vars (both at x y) b ≡
      then (Means fs vars x b) (λ v c. choose v (Means fs vars y) (gives (truth_value false)) c)
  pub of_either :
      (at : ℕ) (x y : ExprTree) →
      Means fs vars (either at x y) b ≡
      then (Means fs vars x b) (λ v c. choose v (gives (truth_value true)) (Means fs vars y) c)
  pub of_if :
      (at : ℕ) (t x y : ExprTree) →
      Means fs vars (if at t x y) b ≡
      then (Means fs vars t b) (λ v c. choose v (Means fs vars x) (Means fs vars y) c)
  pub of_bind :
      (at : ℕ) (x y : ExprTree) →
      Means fs vars (bind at x y) b ≡ then (Means fs vars x b) (λ v c. Means fs (vars ++ v ∷ []) y c)
  pub of_split :
      (at : ℕ) (l x y : ExprTree) →
      Means fs vars (split at l x y) b ≡
      then (Means fs vars l b) (λ v c. on_list v (Means fs vars x) (λ h t. Means fs (vars ++ h ∷ t ∷ []) y) c)
  pub of_nil : (at : ℕ) (n : NoteTree) → Means fs vars (nil at n) b ≡ gives (list_value no_values) b
  pub of_list :
      (at : ℕ) (es : ExprTrees) →
      Means fs vars (list_expr at es) b ≡
      then (AllMean fs vars es b) (λ vs c. gives (list_value (values_in_order vs)) c)
  pub of_cons :
      (at : ℕ) (x y : ExprTree) →
      Means fs vars (cons at x y) b ≡
      then (Means fs vars x b) (λ v c. then (Means fs vars y c) (λ w d. with_budget (longer v w) d))
  pub of_record :
      (at r : ℕ) (es : ExprTrees) →
      Means fs vars (record_expr at r es) b ≡
      then (AllMean fs vars es b) (λ vs c. gives (record_value r (values_in_order vs)) c)
  pub of_field :
      (at r k : ℕ) (x : ExprTree) →
      Means fs vars (field at r k x) b ≡ then (Means fs vars x b) (λ v c. with_budget (field_of r k v) c)
  -- expression by expression
  pub of_none : AllMean fs vars none b ≡ gives [] b
  pub of_more :
      (e : ExprTree) (es : ExprTrees) →
      AllMean fs vars (more e es) b ≡
      then (Means fs vars e b) (λ v c. then (AllMean fs vars es c) (λ vs d. gives (v ∷ vs) d))

abbrev pub EquationsOfMeaning : Type 0
EquationsOfMeaning = (fs : List FunctionTree) (vars : List ValueTree) (b : ℕ) → MeansByNode fs vars b

-- a call of a declared function with its number of arguments takes one from the budget, and gives what its body means
abbrev pub DeclaredCallsMeanTheirBody : Type 0
DeclaredCallsMeanTheirBody =
    (fs : List FunctionTree) (j : ℕ) (vs : List ValueTree) (f : FunctionTree) (b : ℕ) →
    slice_get fs j ≡ Some f → length vs ≡ length f.params → Outcome fs j vs b ≡ spend b (Means fs vs f.body)

-- nothing is claimed of a call of another number of arguments, or of no function
abbrev pub OtherCallsAreWrong : Type 0
OtherCallsAreWrong =
    (fs : List FunctionTree) (j : ℕ) (vs : List ValueTree) (f : FunctionTree) (b : ℕ) →
    slice_get fs j ≡ Some f → length vs ≢ length f.params → Outcome fs j vs b ≡ stops wrong

abbrev pub UndeclaredCallsAreWrong : Type 0
UndeclaredCallsAreWrong =
    (fs : List FunctionTree) (j : ℕ) (vs : List ValueTree) (b : ℕ) →
    slice_get fs j ≡ None → Outcome fs j vs b ≡ stops wrong
