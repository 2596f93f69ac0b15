-- The first step of each expression.
use Rattle.std.proofs.Common.{◌≡◌, refl, sym, ap, subst, ℕ, ◌+◌, ◌*◌, ◌<◌, List, [], ◌∷◌, length, arith, Bor, None, slice_get, inl, inr, ℤ}
use Rattle.std.proofs.Math.Seq.{take-length, drop-length}
use Rattle.std.specs.Prelude.{Bool, ◌⊎◌}
use Rattle.um_frac.specs.declared.number.Frac.{Frac}
use Rattle.um_tree.specs.declared.note.UnitNote.{UnitNote}
use Rattle.um_tree.specs.declared.expression.Expr.{Expr}
use Rattle.um_tree.specs.declared.expression.Arith.{Arith}
use Rattle.um_tree.specs.declared.expression.Sign.{Sign}
use Rattle.um_tree.specs.TypeTree.{NoteTree}
use Rattle.um_tree.specs.ValueTree.{ValueTree, truth_value, number_value, list_value, no_values}
use Rattle.um_tree.specs.ExprTree.{ExprTree, ExprTrees, truth, number, local, call, negate, not_expr, pown, arith as arith_tree, compare, both, either, if, bind, split, nil, list_expr, cons, record_expr, field, expr_tree}
use Rattle.um_tree.specs.ProgramTree.{FunctionTree}
use Rattle.um_tree.specs.Meaning.{Out, then, found, Means, AllMean}
use Rattle.um_tree.proofs.Equations.{Means-truth, Means-number, Means-local, Means-call, Means-negate, Means-not, Means-pown, Means-arith, Means-compare, Means-both, Means-either, Means-if, Means-bind, Means-split, Means-nil, Means-list, Means-cons, Means-record, Means-field}
use Rattle.um_eval.specs.Traces.{Trace}
use Rattle.um_cells.specs.declared.store.Store.{Store}
use Rattle.um_cells.specs.declared.word.Word.{Word}
use Rattle.um_cells.specs.Stores.{AllDenote}
use Rattle.um_cells.specs.declared.word.Word.TheVariants.{Bool as Truth, Num as Number, Nil}
use Rattle.um_eval.specs.declared.frame.Unary.TheVariants as unary
use Rattle.um_eval.specs.declared.frame.Binary.TheVariants as binary
use Rattle.um_eval.specs.declared.frame.Collection.{Collection}
use Rattle.um_eval.specs.declared.frame.Collection.TheVariants as collection
use Rattle.um_eval.specs.declared.frame.Frame.{Frame}
use Rattle.um_eval.specs.declared.frame.Frame.TheVariants as frame
use Rattle.um_eval.specs.Tasks.{Evaluate, Give}
use Rattle.um_eval.specs.Frames.{collected, Completes}
use Rattle.um_eval.specs.Work.{steps, steps_of_each, frame_steps, frames_steps, most_steps, steps_left}
use Rattle.um_eval.specs.Through.{Whole, Traces, Later, here_of, traces_of, collecting_traces}
use Rattle.um_eval.specs.Progress.{Leads, Collecting, no_traces}
use Rattle.um_eval.proofs.Completing.{fewer}

one_less : (b f k x t n : ℕ) → b + f + t < n + 1 → x + k < t → b + (k + f) + x < n
one_less b f k x t n l m = omega (arith, l, m)

module _ (fs : List FunctionTree) (s : Store) (callers scope waiting : List Word) (b : ℕ) (frames : List Frame) (whole : Whole) (n : ℕ) where
  -- the same of an equal expression
  meant_by : (vars : List ValueTree) (u t : ExprTree) → u ≡ t → Completes fs s callers waiting frames vars (Means fs vars u b) (traces_of fs (here_of frames) u vars b) whole → Completes fs s callers waiting frames vars (Means fs vars t b) (traces_of fs (here_of frames) t vars b) whole
  meant_by vars u t is h = subst (λ x. Completes fs s callers waiting frames vars (Means fs vars x b) (traces_of fs (here_of frames) x vars b) whole) is h

  -- a frame is opened for the first part
  begun : (f : Frame) (e x : Bor Expr) (t : ExprTree) → expr_tree e.now ≡ t → steps (expr_tree x.now) + frame_steps f < steps t → ((vars : List ValueTree) → Completes fs s callers waiting frames vars (Means fs vars t b) (traces_of fs (here_of frames) t vars b) whole → Completes fs s callers waiting (f ∷ frames) vars (Means fs vars (expr_tree x.now) b) (traces_of fs (here_of (f ∷ frames)) (expr_tree x.now) vars b) whole) → Leads fs s callers scope waiting b frames (Evaluate e) whole (n + 1) → Leads fs s callers scope waiting b (f ∷ frames) (Evaluate x) whole n
  begun f e x t is less go ((vars, d, h), l) =
      let left : steps_left fs b frames (steps t) < n + 1 = subst (λ u. steps_left fs b frames (steps u) < n + 1) is l in
      ((vars, d, go vars (meant_by vars (expr_tree e.now) t is h)), one_less (b * most_steps fs) (frames_steps frames) (frame_steps f) (steps (expr_tree x.now)) (steps t) n left less)

  -- the outcome by its equation
  by_equation : (vars : List ValueTree) (m o : Out ValueTree) (P : Traces) → m ≡ o → Completes fs s callers waiting frames vars m P whole → Completes fs s callers waiting frames vars o P whole
  by_equation vars m o P e h = subst (λ o. Completes fs s callers waiting frames vars o P whole) e h

  pub negate_begun : (at : ℕ) (e x : Bor Expr) → expr_tree e.now ≡ negate at (expr_tree x.now) → Leads fs s callers scope waiting b frames (Evaluate e) whole (n + 1) → Leads fs s callers scope waiting b (frame.Operand unary.Negate ∷ frames) (Evaluate x) whole n
  negate_begun at e x is h = begun (frame.Operand unary.Negate) e x (negate at (expr_tree x.now)) is (omega arith) (λ vars k. by_equation vars _ _ _ (Means-negate fs vars at (expr_tree x.now) b) k) h

  pub not_begun : (at : ℕ) (e x : Bor Expr) → expr_tree e.now ≡ not_expr at (expr_tree x.now) → Leads fs s callers scope waiting b frames (Evaluate e) whole (n + 1) → Leads fs s callers scope waiting b (frame.Operand unary.Not ∷ frames) (Evaluate x) whole n
  not_begun at e x is h = begun (frame.Operand unary.Not) e x (not_expr at (expr_tree x.now)) is (omega arith) (λ vars k. by_equation vars _ _ _ (Means-not fs vars at (expr_tree x.now) b) k) h

  pub power_begun : (at : ℕ) (i : ℤ) (e x : Bor Expr) → expr_tree e.now ≡ pown at (expr_tree x.now) i → Leads fs s callers scope waiting b frames (Evaluate e) whole (n + 1) → Leads fs s callers scope waiting b (frame.Operand (unary.Power i at) ∷ frames) (Evaluate x) whole n
  power_begun at i e x is h = begun (frame.Operand (unary.Power i at)) e x (pown at (expr_tree x.now) i) is (omega arith) (λ vars k. by_equation vars _ _ _ (Means-pown fs vars at (expr_tree x.now) i b) k) h

  pub field_begun : (at r i : ℕ) (e x : Bor Expr) → expr_tree e.now ≡ field at r i (expr_tree x.now) → Leads fs s callers scope waiting b frames (Evaluate e) whole (n + 1) → Leads fs s callers scope waiting b (frame.Operand (unary.Field r i) ∷ frames) (Evaluate x) whole n
  field_begun at r i e x is h = begun (frame.Operand (unary.Field r i)) e x (field at r i (expr_tree x.now)) is (omega arith) (λ vars k. by_equation vars _ _ _ (Means-field fs vars at r i (expr_tree x.now) b) k) h

  pub arith_begun : (at : ℕ) (op : Arith) (e x y : Bor Expr) → expr_tree e.now ≡ arith_tree at op (expr_tree x.now) (expr_tree y.now) → Leads fs s callers scope waiting b frames (Evaluate e) whole (n + 1) → Leads fs s callers scope waiting b (frame.Left (binary.Arith op at) y ∷ frames) (Evaluate x) whole n
  arith_begun at op e x y is h = begun (frame.Left (binary.Arith op at) y) e x (arith_tree at op (expr_tree x.now) (expr_tree y.now)) is (omega arith) (λ vars k. by_equation vars _ _ _ (Means-arith fs vars at op (expr_tree x.now) (expr_tree y.now) b) k) h

  pub compare_begun : (at : ℕ) (sign : Sign) (e x y : Bor Expr) → expr_tree e.now ≡ compare at sign (expr_tree x.now) (expr_tree y.now) → Leads fs s callers scope waiting b frames (Evaluate e) whole (n + 1) → Leads fs s callers scope waiting b (frame.Left (binary.Compare sign) y ∷ frames) (Evaluate x) whole n
  compare_begun at sign e x y is h = begun (frame.Left (binary.Compare sign) y) e x (compare at sign (expr_tree x.now) (expr_tree y.now)) is (omega arith) (λ vars k. by_equation vars _ _ _ (Means-compare fs vars at sign (expr_tree x.now) (expr_tree y.now) b) k) h

  pub cons_begun : (at : ℕ) (e x y : Bor Expr) → expr_tree e.now ≡ cons at (expr_tree x.now) (expr_tree y.now) → Leads fs s callers scope waiting b frames (Evaluate e) whole (n + 1) → Leads fs s callers scope waiting b (frame.Left binary.Cons y ∷ frames) (Evaluate x) whole n
  cons_begun at e x y is h = begun (frame.Left binary.Cons y) e x (cons at (expr_tree x.now) (expr_tree y.now)) is (omega arith) (λ vars k. by_equation vars _ _ _ (Means-cons fs vars at (expr_tree x.now) (expr_tree y.now) b) k) h

  pub and_begun : (at : ℕ) (e x y : Bor Expr) → expr_tree e.now ≡ both at (expr_tree x.now) (expr_tree y.now) → Leads fs s callers scope waiting b frames (Evaluate e) whole (n + 1) → Leads fs s callers scope waiting b (frame.LeftOfAnd y ∷ frames) (Evaluate x) whole n
  and_begun at e x y is h = begun (frame.LeftOfAnd y) e x (both at (expr_tree x.now) (expr_tree y.now)) is (omega arith) (λ vars k. by_equation vars _ _ _ (Means-both fs vars at (expr_tree x.now) (expr_tree y.now) b) k) h

  pub or_begun : (at : ℕ) (e x y : Bor Expr) → expr_tree e.now ≡ either at (expr_tree x.now) (expr_tree y.now) → Leads fs s callers scope waiting b frames (Evaluate e) whole (n + 1) → Leads fs s callers scope waiting b (frame.LeftOfOr y ∷ frames) (Evaluate x) whole n
  or_begun at e x y is h = begun (frame.LeftOfOr y) e x (either at (expr_tree x.now) (expr_tree y.now)) is (omega arith) (λ vars k. by_equation vars _ _ _ (Means-either fs vars at (expr_tree x.now) (expr_tree y.now) b) k) h

  pub test_begun : (at : ℕ) (e t x y : Bor Expr) → expr_tree e.now ≡ if at (expr_tree t.now) (expr_tree x.now) (expr_tree y.now) → Leads fs s callers scope waiting b frames (Evaluate e) whole (n + 1) → Leads fs s callers scope waiting b (frame.Test x y ∷ frames) (Evaluate t) whole n
  test_begun at e t x y is h = begun (frame.Test x y) e t (if at (expr_tree t.now) (expr_tree x.now) (expr_tree y.now)) is (omega arith) (λ vars k. by_equation vars _ _ _ (Means-if fs vars at (expr_tree t.now) (expr_tree x.now) (expr_tree y.now) b) k) h

  pub bound_begun : (at : ℕ) (e x y : Bor Expr) → expr_tree e.now ≡ bind at (expr_tree x.now) (expr_tree y.now) → Leads fs s callers scope waiting b frames (Evaluate e) whole (n + 1) → Leads fs s callers scope waiting b (frame.Bound y ∷ frames) (Evaluate x) whole n
  bound_begun at e x y is h = begun (frame.Bound y) e x (bind at (expr_tree x.now) (expr_tree y.now)) is (omega arith) (λ vars k. by_equation vars _ _ _ (Means-bind fs vars at (expr_tree x.now) (expr_tree y.now) b) k) h

  pub matched_begun : (at : ℕ) (e l x y : Bor Expr) → expr_tree e.now ≡ split at (expr_tree l.now) (expr_tree x.now) (expr_tree y.now) → Leads fs s callers scope waiting b frames (Evaluate e) whole (n + 1) → Leads fs s callers scope waiting b (frame.Matched x y ∷ frames) (Evaluate l) whole n
  matched_begun at e l x y is h = begun (frame.Matched x y) e l (split at (expr_tree l.now) (expr_tree x.now) (expr_tree y.now)) is (omega arith) (λ vars k. by_equation vars _ _ _ (Means-split fs vars at (expr_tree l.now) (expr_tree x.now) (expr_tree y.now) b) k) h

  -- a value is there at once
  at_once : (e : Bor Expr) → steps (expr_tree e.now) ≡ 1 → steps_left fs b frames (steps (expr_tree e.now)) < n + 1 → steps_left fs b frames 0 < n
  at_once e one l = omega (arith, l, one)

  pub truth_given : (at : ℕ) (x : Bool) (e : Bor Expr) → expr_tree e.now ≡ truth at x → Leads fs s callers scope waiting b frames (Evaluate e) whole (n + 1) → Leads fs s callers scope waiting b frames (Give (Truth x)) whole n
  truth_given at x e is ((vars, d, h), l) =
      ((vars, truth_value x, d, refl, by_equation vars _ _ _ (Means-truth fs vars at x b) (meant_by vars (expr_tree e.now) (truth at x) is h)), at_once e (ap steps is) l)

  pub number_given : (at : ℕ) (x : Frac) (note : UnitNote) (e : Bor Expr) → expr_tree e.now ≡ number at x note → Leads fs s callers scope waiting b frames (Evaluate e) whole (n + 1) → Leads fs s callers scope waiting b frames (Give (Number x)) whole n
  number_given at x note e is ((vars, d, h), l) =
      ((vars, number_value x, d, refl, by_equation vars _ _ _ (Means-number fs vars at x note b) (meant_by vars (expr_tree e.now) (number at x note) is h)), at_once e (ap steps is) l)

  pub nil_given : (at : ℕ) (note : NoteTree) (e : Bor Expr) → expr_tree e.now ≡ nil at note → Leads fs s callers scope waiting b frames (Evaluate e) whole (n + 1) → Leads fs s callers scope waiting b frames (Give Nil) whole n
  nil_given at note e is ((vars, d, h), l) =
      ((vars, list_value no_values, d, (None, refl, refl), by_equation vars _ _ _ (Means-nil fs vars at note b) (meant_by vars (expr_tree e.now) (nil at note) is h)), at_once e (ap steps is) l)

  -- parts are collected, none so far
  collection_begun : (c : Collection) (e : Bor Expr) (t : ExprTree) (rest : ExprTrees) → expr_tree e.now ≡ t → steps t ≡ steps_of_each rest + 2 → ((vars : List ValueTree) → Means fs vars t b ≡ then (AllMean fs vars rest b) (λ us d. collected fs c us d)) → ((vars : List ValueTree) (u : Trace) → collecting_traces fs (here_of frames) c [] vars rest b u → traces_of fs (here_of frames) t vars b u) → Leads fs s callers scope waiting b frames (Evaluate e) whole (n + 1) → Collecting fs s callers scope waiting b frames c rest (length waiting) whole n
  collection_begun c e t rest is many means stops ((vars, d, h), l) =
      let left : steps_left fs b frames (steps t) < n + 1 = subst (λ u. steps_left fs b frames (steps u) < n + 1) is l in
      let m = then (AllMean fs vars rest b) (λ us d. collected fs c us d) in
      let P = collecting_traces fs (here_of frames) c [] vars rest b in
      let known : Completes fs s callers waiting frames vars m P whole =
      fewer fs s callers waiting frames vars m (traces_of fs (here_of frames) t vars b) P whole (stops vars)
      (by_equation vars _ _ _ (means vars) (meant_by vars (expr_tree e.now) t is h)) in (
        omega arith,
        vars,
        [],
        d,
        subst (λ ws. AllDenote s ws []) (sym (drop-length waiting)) tt,
        subst (λ ws. Completes fs s callers ws frames vars m P whole) (sym (take-length waiting)) known,
        omega (arith, left, many),
      )

  -- only an item of a list or of a record can stop
  items_stop : {A : Type 0} (m : Out (List ValueTree)) → A ⊎ Later m (λ us d. ⊥) → A
  items_stop m (inl h) = h
  items_stop m (inr (us, d, is, never)) = absurd never

  pub call_begun : (at j : ℕ) (rest : ExprTrees) (e : Bor Expr) → expr_tree e.now ≡ call at j rest → Leads fs s callers scope waiting b frames (Evaluate e) whole (n + 1) → Collecting fs s callers scope waiting b frames (collection.Call j at) rest (length waiting) whole n
  call_begun at j rest e is h = collection_begun (collection.Call j at) e (call at j rest) rest is refl (λ vars. Means-call fs vars at j rest b) (λ vars u k. k) h

  pub list_begun : (at : ℕ) (rest : ExprTrees) (e : Bor Expr) → expr_tree e.now ≡ list_expr at rest → Leads fs s callers scope waiting b frames (Evaluate e) whole (n + 1) → Collecting fs s callers scope waiting b frames collection.List rest (length waiting) whole n
  list_begun at rest e is h = collection_begun collection.List e (list_expr at rest) rest is refl (λ vars. Means-list fs vars at rest b) (λ vars u k. items_stop (AllMean fs vars rest b) k) h

  pub record_begun : (at r : ℕ) (rest : ExprTrees) (e : Bor Expr) → expr_tree e.now ≡ record_expr at r rest → Leads fs s callers scope waiting b frames (Evaluate e) whole (n + 1) → Collecting fs s callers scope waiting b frames (collection.Rec r) rest (length waiting) whole n
  record_begun at r rest e is h = collection_begun (collection.Rec r) e (record_expr at r rest) rest is refl (λ vars. Means-record fs vars at r rest b) (λ vars u k. items_stop (AllMean fs vars rest b) k) h

  -- a variable is looked up
  pub local_begun : (at k : ℕ) (e : Bor Expr) → expr_tree e.now ≡ local at k → Leads fs s callers scope waiting b frames (Evaluate e) whole (n + 1) → (vars : List ValueTree) × AllDenote s scope vars × Completes fs s callers waiting frames vars (found (slice_get vars k) b) no_traces whole × (steps_left fs b frames 0 < n)
  local_begun at k e is ((vars, d, h), l) =
      (vars, d, by_equation vars _ _ _ (Means-local fs vars at k b) (meant_by vars (expr_tree e.now) (local at k) is h), at_once e (ap steps is) l)
