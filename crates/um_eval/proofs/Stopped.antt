-- Traces of operations, of items and of bodies.
use Rattle.std.proofs.Common.{◌≡◌, refl, ap, ◌∙◌, subst, ℕ, zero, suc, ◌-◌, ◌<◌, List, [], ◌∷◌, ◌++◌, Some, None, Err, inl, inr, append_assoc, arith}
use Rattle.std.specs.Prelude.{Result}
use Rattle.um_frac.specs.declared.number.Trap.{Trap}
use Rattle.um_tree.specs.declared.expression.Arith.{Arith}
use Rattle.um_tree.specs.ValueTree.{ValueTree, truth_value, number_value, list_value, record_value}
use Rattle.um_tree.specs.ExprTree.{ExprTree, ExprTrees, more}
use Rattle.um_tree.specs.ProgramTree.{FunctionTree}
use Rattle.um_tree.specs.Meaning.{Stop, trap, wrong, gives, then, with_budget, calculated, raised, Means, AllMean}
use Rattle.um_tree.proofs.Equations.{AllMean-more}
use Rattle.um_eval.specs.Traces.{Trace, stop_at}
use Rattle.um_eval.specs.Stopping.{Takes, CallStops, inside}
use Rattle.um_eval.proofs.SomeTrace.{negated_never, not_never, field_never, compared_never, longer_never}
use Rattle.um_eval.proofs.Bodies.{body_told}
use Rattle.um_cells.specs.declared.store.Store.{Store}
use Rattle.um_cells.specs.declared.word.Word.{Word}
use Rattle.um_cells.specs.Stores.{DenotesIn}
use Rattle.um_eval.specs.declared.frame.Unary.{Unary}
use Rattle.um_eval.specs.declared.frame.Unary.TheVariants as unary
use Rattle.um_eval.specs.declared.frame.Binary.{Binary}
use Rattle.um_eval.specs.declared.frame.Binary.TheVariants as binary
use Rattle.um_eval.specs.declared.frame.Collection.{Collection}
use Rattle.um_eval.specs.Through.{traces_of, operand_traces, right_traces, collected_traces, collecting_traces, item_traces, called_traces, operand_values}
use Rattle.um_eval.specs.Settling.{unary_place, binary_place, number_of, one_operand, two_operands, given_operands}
use Rattle.um_eval.specs.Frames.{applied, operated}
use Rattle.um_eval.specs.Progress.{no_traces}

-- ---- operations

-- a trap is no wrong shape
not_trap : {A : Type 0} (why : Trap) → ◌≡◌ {A = Result ValueTree Stop} (Err wrong) (Err (trap why)) → A
not_trap why e =
    let same : wrong ≡ trap why = cc e in
    absurd (cc same)

-- the base of a power that traps is a number
base_told : (s : Store) (k : _) (v : ValueTree) (w : Word) (why : Trap) → DenotesIn s w v → raised k v ≡ Err (trap why) → operand_values (given_operands None w) ≡ v ∷ []
base_told s k (truth_value b) w why d e = not_trap why e
base_told s k (number_value c) w why d e = ap (λ x. operand_values (one_operand (number_of x))) d
base_told s k (list_value vs) w why d e = not_trap why e
base_told s k (record_value r vs) w why d e = not_trap why e

sides_told : (s : Store) (op : Arith) (v u : ValueTree) (x w : Word) (why : Trap) → DenotesIn s x v → DenotesIn s w u → calculated op v u ≡ Err (trap why) → operand_values (given_operands (Some x) w) ≡ v ∷ u ∷ []
sides_told s op (truth_value b) u x w why d k e = not_trap why e
sides_told s op (number_value a) (truth_value b) x w why d k e = not_trap why e
sides_told s op (number_value a) (number_value b) x w why d k e =
    ap (λ y. operand_values (two_operands (number_of y) (number_of w))) d ∙ ap (λ y. operand_values (two_operands (Some a) (number_of y))) k
sides_told s op (number_value a) (list_value vs) x w why d k e = not_trap why e
sides_told s op (number_value a) (record_value r vs) x w why d k e = not_trap why e
sides_told s op (list_value vs) u x w why d k e = not_trap why e
sides_told s op (record_value r vs) u x w why d k e = not_trap why e

module _ (fs : List FunctionTree) where
  -- an operation that traps stops at its place
  pub operand_stops : (s : Store) (here : ℕ) (op : Unary) (v : ValueTree) (w : Word) (b : ℕ) (why : Trap) → DenotesIn s w v → applied op v ≡ Err (trap why) → operand_traces fs here op (gives v b) no_traces (stop_at (record { function = here; at = unary_place op }) (trap why) (operand_values (given_operands None w)))
  operand_stops s here unary.Negate v w b why d e = negated_never v b (trap why) tt (ap (λ r. with_budget r b) e)
  operand_stops s here unary.Not v w b why d e = not_never v b (trap why) tt (ap (λ r. with_budget r b) e)
  operand_stops s here (unary.Power k at) v w b why d e =
      inr (v, b, refl, (trap why, e, ap (stop_at (record { function = here; at = at }) (trap why)) (base_told s k v w why d e)))
  operand_stops s here (unary.Field r k) v w b why d e = field_never r k v b (trap why) tt (ap (λ r. with_budget r b) e)

  pub right_stops : (s : Store) (here : ℕ) (op : Binary) (v u : ValueTree) (x w : Word) (b : ℕ) (why : Trap) → DenotesIn s x v → DenotesIn s w u → operated op v u ≡ Err (trap why) → right_traces fs here op v (gives u b) no_traces (stop_at (record { function = here; at = binary_place op }) (trap why) (operand_values (given_operands (Some x) w)))
  right_stops s here (binary.Arith op at) v u x w b why d k e =
      inr (u, b, refl, (trap why, e, ap (stop_at (record { function = here; at = at }) (trap why)) (sides_told s op v u x w why d k e)))
  right_stops s here (binary.Compare sign) v u x w b why d k e = compared_never sign v u b (trap why) tt (ap (λ r. with_budget r b) e)
  right_stops s here binary.Cons v u x w b why d k e = longer_never v u b (trap why) tt (ap (λ r. with_budget r b) e)

  -- ---- items
  module _ (here : ℕ) (c : Collection) (vs vars : List ValueTree) where
    -- a value moves to those before
    pub item_stops : (rest : ExprTrees) (v : ValueTree) (b : ℕ) (t : Trace) → collecting_traces fs here c (vs ++ v ∷ []) vars rest b t → item_traces fs here c vs vars rest (gives v b) no_traces t
    item_stops rest v b t (inl h) = inr (v, b, refl, inl h)
    item_stops rest v b t (inr (us, d, is, h)) =
        inr (v, b, refl, inr (us, d, is, subst (λ xs. collected_traces fs here c xs d t) (append_assoc vs (v ∷ []) us) h))

    -- the next item comes before those after it
    pub next_stops : (e : ExprTree) (others : ExprTrees) (b : ℕ) (t : Trace) → item_traces fs here c vs vars others (Means fs vars e b) (traces_of fs here e vars b) t → collecting_traces fs here c vs vars (more e others) b t
    next_stops e others b t (inl h) = inl (inl h)
    next_stops e others b t (inr (v, k, is, inl h)) = inl (inr (v, k, is, h))
    next_stops e others b t (inr (v, k, is, inr (us, d, all, h))) =
        inr (v ∷ us, d, AllMean-more fs vars e others b ∙ ap (λ m. then m (λ v c. then (AllMean fs vars others c) (λ vs d. gives (v ∷ vs) d))) is ∙ ap (λ m. then m (λ vs d. gives (v ∷ vs) d)) all, h)

  -- ---- calls

  -- inside a call that is paid the body stops
  pub body_stops : (here at j : ℕ) (vs : List ValueTree) (b : ℕ) (f : FunctionTree) (body : ExprTree) (t : Trace) → Takes fs j vs f → body ≡ f.body → 0 < b → called_traces (record { function = here; at = at }) (traces_of fs j body vs (b - 1)) t → CallStops fs (inside fs) here at j vs b t
  body_stops here at j vs zero f body t takes is some q = absurd (omega (arith, some))
  body_stops here at j vs (suc b) f body t takes is some (u, h, told) =
      let same : suc b - 1 ≡ b = omega arith in
      let inner : traces_of fs j f.body vs b u = subst (λ k. traces_of fs j f.body vs k u) same (subst (λ e. traces_of fs j e vs (suc b - 1) u) is h) in
      (u, body_told fs j vs b u (f, takes, inner), told)
