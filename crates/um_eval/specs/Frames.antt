-- What frames stand for: what becomes of the outcome, and of the traces, of the expression that stands inside them.
-- Source: M. Felleisen and D. Friedman 1986 (the CEK machine: evaluation with its continuation as a stack of frames).
use Rattle.std.specs.Prelude.{◌≡◌, ◌-◌, ◌≤◌, ℕ, Bool, true, false, List, [], ◌∷◌, ◌++◌, length, map, take, drop, Result}
use Rattle.um_tree.specs.ValueTree.{ValueTree, truth_value, list_value, record_value, values_in_order}
use Rattle.um_tree.specs.ExprTree.{expr_tree, in_order}
use Rattle.um_tree.specs.ProgramTree.{FunctionTree}
use Rattle.um_tree.specs.Meaning.{Stop, Out, gives, then, with_budget, calculated, compared}
use Rattle.um_tree.specs.Meaning.{negated, raised, not_of, longer, field_of, choose, on_list, Means, AllMean, Outcome}
use Rattle.um_eval.specs.Traces.{Trace}
use Rattle.um_cells.specs.declared.store.Store.{Store}
use Rattle.um_cells.specs.declared.word.Word.{Word}
use Rattle.um_cells.specs.Stores.{DenotesIn, AllDenote}
use Rattle.um_eval.specs.declared.frame.Unary.{Unary}
use Rattle.um_eval.specs.declared.frame.Unary.TheVariants as unary
use Rattle.um_eval.specs.declared.frame.Binary.{Binary}
use Rattle.um_eval.specs.declared.frame.Binary.TheVariants as binary
use Rattle.um_eval.specs.declared.frame.Collection.{Collection}
use Rattle.um_eval.specs.declared.frame.Collection.TheVariants as collection
use Rattle.um_eval.specs.declared.frame.Frame.{Frame}
use Rattle.um_eval.specs.declared.frame.Frame.TheVariants as frame
use Rattle.um_eval.specs.Through.{Whole, Traces, whole_outcome, whole_traces, here_of, spot_in, operand_traces}
use Rattle.um_eval.specs.Through.{right_traces, left_traces, and_traces, or_traces, test_traces, bound_traces}
use Rattle.um_eval.specs.Through.{matched_traces, item_traces, called_traces}

abbrev pub applied : Unary → ValueTree → Result ValueTree Stop
applied unary.Negate v = negated v
applied unary.Not v = not_of v
applied (unary.Power k at) v = raised k v
applied (unary.Field r k) v = field_of r k v

abbrev pub operated : Binary → ValueTree → ValueTree → Result ValueTree Stop
operated (binary.Arith op at) v w = calculated op v w
operated (binary.Compare sign) v w = compared sign v w
operated binary.Cons v w = longer v w

abbrev pub collected : List FunctionTree → Collection → List ValueTree → ℕ → Out ValueTree
collected fs collection.List vs b = gives (list_value (values_in_order vs)) b
collected fs (collection.Rec r) vs b = gives (record_value r (values_in_order vs)) b
collected fs (collection.Call j at) vs b = Outcome fs j vs b

-- the frame of a body of a function
abbrev pub is_body : Frame → Bool
is_body (frame.Operand op) = false
is_body (frame.Left op y) = false
is_body (frame.Right op x) = false
is_body (frame.LeftOfAnd y) = false
is_body (frame.LeftOfOr y) = false
is_body (frame.Test x y) = false
is_body (frame.Bound y) = false
is_body (frame.Matched x y) = false
is_body (frame.Inner n) = false
is_body (frame.Item c rest first) = false
is_body (frame.Body base j at) = true

-- The frames, the innermost first, make the outcome of the whole call of that of the expression inside them, m, and its
-- traces of those of this expression, P. There the variables have these values, the first words are the callers'
-- variables, and the second the values of items that wait for those after them.
abbrev pub Completes :
    List FunctionTree → Store → List Word → List Word → List Frame → List ValueTree → Out ValueTree → Traces → Whole →
    Type 0
Completes fs s callers waiting [] vars m P whole =
    (m ≡ whole_outcome fs whole) × ((t : Trace) → P t → whole_traces fs whole t)
Completes fs s callers waiting (frame.Operand op ∷ frames) vars m P whole =
    Completes fs s callers waiting frames vars (then m (λ v c. with_budget (applied op v) c))
    (operand_traces fs (here_of frames) op m P) whole
Completes fs s callers waiting (frame.Left op y ∷ frames) vars m P whole =
    Completes fs s callers waiting frames vars
    (then m (λ v c. then (Means fs vars (expr_tree y.now) c) (λ w d. with_budget (operated op v w) d)))
    (left_traces fs (here_of frames) op vars (expr_tree y.now) m P) whole
Completes fs s callers waiting (frame.Right op x ∷ frames) vars m P whole =
    (v : ValueTree) × DenotesIn s x v
    × Completes fs s callers waiting frames vars (then m (λ w d. with_budget (operated op v w) d))
    (right_traces fs (here_of frames) op v m P) whole
Completes fs s callers waiting (frame.LeftOfAnd y ∷ frames) vars m P whole =
    Completes fs s callers waiting frames vars
    (then m (λ v c. choose v (Means fs vars (expr_tree y.now)) (gives (truth_value false)) c))
    (and_traces fs (here_of frames) vars (expr_tree y.now) m P) whole
Completes fs s callers waiting (frame.LeftOfOr y ∷ frames) vars m P whole =
    Completes fs s callers waiting frames vars
    (then m (λ v c. choose v (gives (truth_value true)) (Means fs vars (expr_tree y.now)) c))
    (or_traces fs (here_of frames) vars (expr_tree y.now) m P) whole
Completes fs s callers waiting (frame.Test x y ∷ frames) vars m P whole =
    Completes fs s callers waiting frames vars
    (then m (λ v c. choose v (Means fs vars (expr_tree x.now)) (Means fs vars (expr_tree y.now)) c))
    (test_traces fs (here_of frames) vars (expr_tree x.now) (expr_tree y.now) m P) whole
Completes fs s callers waiting (frame.Bound y ∷ frames) vars m P whole =
    Completes fs s callers waiting frames vars (then m (λ v c. Means fs (vars ++ v ∷ []) (expr_tree y.now) c))
    (bound_traces fs (here_of frames) vars (expr_tree y.now) m P) whole
Completes fs s callers waiting (frame.Matched x y ∷ frames) vars m P whole =
    Completes fs s callers waiting frames vars
    (then m
    (λ v c.
    on_list v (Means fs vars (expr_tree x.now)) (λ h t. Means fs (vars ++ h ∷ t ∷ []) (expr_tree y.now)) c))
    (matched_traces fs (here_of frames) vars (expr_tree x.now) (expr_tree y.now) m P) whole
Completes fs s callers waiting (frame.Inner n ∷ frames) vars m P whole =
    (length callers ≤ n) × Completes fs s callers waiting frames (take (n - length callers) vars) m P whole
Completes fs s callers waiting (frame.Item c rest first ∷ frames) vars m P whole =
    (first ≤ length waiting)
    × (vs : List ValueTree) × AllDenote s (drop first waiting) vs
    × Completes fs s callers (take first waiting) frames vars
    (then m
    (λ v b.
    then (AllMean fs vars (in_order (map expr_tree rest.now)) b) (λ us d. collected fs c (vs ++ v ∷ us) d)))
    (item_traces fs (here_of frames) c vs vars (in_order (map expr_tree rest.now)) m P) whole
Completes fs s callers waiting (frame.Body base j at ∷ frames) vars m P whole =
    (base ≤ length callers)
    × (own : List ValueTree) × AllDenote s (drop base callers) own
    × Completes fs s (take base callers) waiting frames own m (called_traces (spot_in frames at) P) whole
