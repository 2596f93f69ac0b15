-- The scaling law: through the calls of a program, and at every budget.
use Rattle.std.proofs.Common.{◌≡◌, refl, sym, subst, ap, ◌∙◌, inl, inr, ℕ, zero, suc, true, false, cond, nat_eq, List, [], ◌∷◌, length, Option, Some, None, slice_get}
use Rattle.um_tree.specs.TypeTree.{TypeTree}
use Rattle.um_tree.specs.ValueTree.{ValueTree}
use Rattle.um_tree.specs.ExprTree.{ExprTree}
use Rattle.um_tree.specs.ProgramTree.{FunctionTree, ProgramTree, Signature}
use Rattle.um_tree.specs.Typing.{Calls, TypingAt, typings_below, Typing}
use Rattle.um_tree.specs.Formed.{IsFormed}
use Rattle.um_tree.specs.Meaning.{wrong, Out, stops, spend, means, body_means, running, Outcome}
use Rattle.um_tree.proofs.Below.{earlier_typings}
use Rattle.um_scaling.specs.Rescaling.{Rescaling, ArePositive}
use Rattle.um_scaling.specs.RescaledProgram.{RescaledExpr, RescaledFunctions, IsRescaled}
use Rattle.um_scaling.specs.Laws.{ScalingLaw}
use Rattle.um_scaling.proofs.Alike.{Alike, alike_spend, ends_alike}
use Rattle.um_scaling.proofs.Operations.{Related, AllRelated, same_length}
use Rattle.um_scaling.proofs.Scaling.{alike}
use Rattle.um_scaling.proofs.LooseTypings.{loose_of_formed}

-- the function that stands in the place of f
pub function_at : (r : Rescaling) (fs gs : List FunctionTree) (i : ℕ) (f : FunctionTree) → RescaledFunctions r fs gs → slice_get fs i ≡ Some f → (x : ExprTree) × RescaledExpr r f.body x × (slice_get gs i ≡ Some (record f { body = x }))
function_at r [] gs zero f q e = absurd cc
function_at r [] gs (suc i) f q e = absurd cc
function_at r (g ∷ fs) gs zero f q e =
    let same : g ≡ f = cc e in
    let first : slice_get gs 0 ≡ Some q.0 = ap (λ (xs : List FunctionTree). slice_get xs 0) q.4 in
    let found = q.2 in
    subst (λ (f : FunctionTree). (x : ExprTree) × RescaledExpr r f.body x × (slice_get gs 0 ≡ Some (record f { body = x }))) same (found.0, found.1, first ∙ ap Some found.2)
function_at r (g ∷ fs) gs (suc i) f q e =
    let later = function_at r fs q.1 i f q.3 e in
    (later.0, later.1, ap (λ (xs : List FunctionTree). slice_get xs (suc i)) q.4 ∙ later.2)

module _ (p q : ProgramTree) (r : Rescaling) (positive : ArePositive r) (formed : IsFormed p) (rescaled : IsRescaled r p q) where
  abbrev Rel : TypeTree → ValueTree → ValueTree → Type 0
  Rel t v w = Related p.records r positive t v w

  abbrev AllRel : List TypeTree → List ValueTree → List ValueTree → Type 0
  AllRel ts vs ws = AllRelated p.records r positive ts vs ws

  -- calls of at most n inside one another
  abbrev RunsAlike : ℕ → Type 0
  RunsAlike n = (i : ℕ) (g : Signature) → Typing p i g → (vs ws : List ValueTree) (b : ℕ) → AllRel g.params vs ws → Alike (Rel g.result) (running p.functions n i vs b) (running q.functions n i ws b)

  -- what a body calls is typed
  called : (i j : ℕ) (f : FunctionTree) (g h : Signature) → Typing p i g → Calls (typings_below p i) i f g j h → Typing p j h
  called i j f g h w (inl c) = (earlier_typings p i j h c.0).0 c.1
  called i j f g h w (inr c) = subst (Typing p j) (sym c.2) (subst (λ (k : ℕ). Typing p k g) (sym c.0) w)

  same_arity : (t : TypeTree) (n : ℕ) (vs ws : List ValueTree) (x y : Out ValueTree) → length ws ≡ length vs → Alike (Rel t) x y → Alike (Rel t) (cond (nat_eq (length vs) n) x (stops wrong)) (cond (nat_eq (length ws) n) y (stops wrong))
  same_arity t n vs ws x y e h =
      subst (λ (m : ℕ). Alike (Rel t) (cond (nat_eq (length vs) n) x (stops wrong)) (cond (nat_eq m n) y (stops wrong))) (sym e)
      (elim (nat_eq (length vs) n) as (λ c. Alike (Rel t) (cond c x (stops wrong)) (cond c y (stops wrong))) [ true ↦ h | false ↦ refl ])

  body_alike : (n i : ℕ) (g : Signature) → RunsAlike n → Typing p i g → (o : Option FunctionTree) → slice_get p.functions i ≡ o → TypingAt (length p.bases) p.records (typings_below p i) i o g → (vs ws : List ValueTree) (b : ℕ) → AllRel g.params vs ws → Alike (Rel g.result) (body_means (running p.functions n) o vs b) (body_means (running q.functions n) (slice_get q.functions i) ws b)
  body_alike n i g runs w None at m vs ws b s = absurd m
  body_alike n i g runs w (Some f) at m vs ws b s =
      let there = function_at r p.functions q.functions i f rescaled.functions at in
      let loose = loose_of_formed p formed i f at g m in
      subst (λ (o : Option FunctionTree). Alike (Rel g.result) (body_means (running p.functions n) (Some f) vs b) (body_means (running q.functions n) o ws b)) (sym there.2)
      (same_arity g.result (length f.params) vs ws (spend b (means (running p.functions n) f.body vs)) (spend b (means (running q.functions n) there.0 ws)) (same_length p.records r positive vs g.params ws s)
      (alike_spend (Rel g.result) b _ _ (λ c. alike p.records r positive (Calls (typings_below p i) i f g) loose.choice (running p.functions n) (running q.functions n)
      (λ j h k xs ys d l. runs j h (called i j f g h w k) xs ys d l) g.params f.body there.0 g.result vs ws c there.1 loose.body s)))

  runs_alike : (n : ℕ) → RunsAlike n
  runs_alike zero i g w vs ws b s = refl
  runs_alike (suc n) i g w vs ws b s = body_alike n i g (runs_alike n) w (slice_get p.functions i) refl w vs ws b s

  pub outcomes_alike : (i : ℕ) (g : Signature) → Typing p i g → (vs ws : List ValueTree) (b : ℕ) → AllRel g.params vs ws → Alike (Rel g.result) (Outcome p.functions i vs b) (Outcome q.functions i ws b)
  unfolding Outcome
  outcomes_alike i g w vs ws b s = runs_alike (suc b) i g w vs ws b s

pub scaling_law : ScalingLaw
scaling_law p q r f g vs ws b o o' formed positive rescaled typing scaled e e' =
    ends_alike p.records r g.result (Outcome p.functions f vs b) (Outcome q.functions f ws b) o o' (outcomes_alike p q r positive formed rescaled f g typing vs ws b scaled) e e'
