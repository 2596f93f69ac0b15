-- Runs of verified images end, and are never stuck.
use Rattle.std.proofs.Common.{◌≡◌, ◌≢◌, refl, sym, subst, ◌∙◌, ℕ, zero, suc, ◌+◌, ◌*◌, ◌<◌, ◌≤◌, ap, List, length, map, Option, Some, None, slice_get, arith}
use Rattle.std.proofs.lemmas.Option.{slice_get_within}
use Rattle.um_tree.specs.ValueTree.{ValueTree, OutcomeTree, value_outcome, trap_outcome, budget_outcome}
use Rattle.um_machine.specs.declared.code.Entry.{Entry}
use Rattle.um_machine.specs.declared.code.Code.{Code}
use Rattle.um_machine.specs.Machine.{State, Step, going, done, stuck, step, next, runs, starts, Runs, EndsWith}
use Rattle.um_machine.proofs.Rank.{rank, Falls, step_falls}
use Rattle.um_verify.specs.StackShape.{StackShape, on_stack}
use Rattle.um_verify.specs.ImageTree.{HeadTree, ImageTree}
use Rattle.um_verify.specs.Rules.{Body, body_of, view_of}
use Rattle.um_verify.specs.Verified.{IsVerified}
use Rattle.um_verify.specs.Laws.{VerifiedGoForward, OutcomeHas, IsCall, NeverStuck, RunsEnd, EndsSoon, EndsHaveShape, CallsHaveEntries}
use Rattle.um_verify.proofs.Bodies.{body_at, entry_of, head_of}
use Rattle.um_verify.proofs.Fits.{same_length}
use Rattle.um_verify.proofs.Sound.{Good, SafeStep, step_safe, whole_safe, not_stuck, value_has}
use Rattle.um_verify.proofs.Stacked.{fields, all_stacked, has_unstacked}
use Rattle.um_verify.proofs.Forward.{code_forward}

-- a function of a verified image has an instruction
filled : (image : ImageTree) → IsVerified image → (f : ℕ) (b : Body) → slice_get (view_of image).bodies f ≡ Some b → b.start < b.end
filled image verified f b s =
    let h = head_of image.code.entries image.heads f b s in
    let some = (((verified.heads (length image.records + f)).function_holds) f h.0 refl h.2).some_instruction h.1 h.3 in
    subst (λ (x : Body). x.start < x.end) h.4 some

-- a run that has ended stays so
later_step : (code : Code) (o : OutcomeTree) (n m : ℕ) → ((t : State) → runs code n t ≡ done o → runs code m t ≡ done o) → (r : Step) → next r (runs code n) ≡ done o → next r (runs code m) ≡ done o
later_step code o n m ih (going t) h = ih t h
later_step code o n m ih (done p) h = h
later_step code o n m ih stuck h = absurd cc

ended_later : (code : Code) (o : OutcomeTree) (n m : ℕ) → n ≤ m → (s : State) → runs code n s ≡ done o → runs code m s ≡ done o
ended_later code o zero m l s h = absurd cc
ended_later code o (suc n) zero l s h = absurd (omega arith)
ended_later code o (suc n) (suc m) l s h = later_step code o n m (ended_later code o n m (omega arith)) (step code s) h

pub forward : VerifiedGoForward
forward image verified a i s =
    code_forward image verified.form.entries verified.form.follow verified.code a i (slice_get_within image.code.ops a i s) s

module _ (image : ImageTree) (f : ℕ) (head : HeadTree) (vs : List ValueTree) (b : ℕ) (verified : IsVerified image) (call : IsCall image f head vs) where
  abbrev outer : StackShape
  outer = on_stack head.result

  abbrev Safe : Step → Type 0
  Safe r = SafeStep image verified.form.entries outer r

  run_safe : (n : ℕ) → Safe (Runs image.code f vs b n)
  run_safe n =
      let e = body_at image.code.entries image.heads verified.form.entries f head call.listed in
      whole_safe image verified.form.entries outer (filled image verified) verified.code f (body_of e.0 head) e.2 refl vs (all_stacked image.records vs head.params call.values) b n

  pub run_not_stuck : (n : ℕ) → Runs image.code f vs b n ≢ stuck
  run_not_stuck n = not_stuck image verified.form.entries outer (Runs image.code f vs b n) (run_safe n)

  -- at most so many steps end it
  abbrev Ending : Step → ℕ → Type 0
  Ending r k = (o : OutcomeTree) × (n : ℕ) × (next r (runs image.code n) ≡ done o) × (n ≤ k)

  abbrev l : ℕ
  l = length image.code.ops

  abbrev EndBelow : ℕ → Type 0
  EndBelow k = (s : State) → Good image verified.form.entries outer s → rank l s < k → Ending (going s) k

  step_ends : (k : ℕ) → EndBelow k → (r : Step) (m : ℕ) → Safe r → Falls image.code l m r → m ≤ k → Ending r k
  step_ends k ih (going t) m g h w = ih t g (omega arith)
  step_ends k ih (done o) m g h w = (o, 0, refl, omega arith)
  step_ends k ih stuck m g h w = absurd g

  -- a state whose rank is below k ends in k steps
  state_ends : (k : ℕ) → EndBelow k
  state_ends zero s g h = absurd (omega arith)
  state_ends (suc k) s g h =
      let r = step_ends k (state_ends k) (step image.code s) (rank l s) (step_safe image verified.form.entries outer (filled image verified) verified.code s g) (step_falls image.code (forward image verified) s) (omega arith) in
      let few = r.3 in
      (r.0, suc r.1, r.2, omega arith)

  abbrev bound : ℕ
  bound = b * (l + 1)

  -- what a step comes to has a rank below the bound, if it goes on
  abbrev Bounded : Step → Type 0
  Bounded (going s) = rank l s < bound
  Bounded (done o) = Unit {0}
  Bounded stuck = Unit {0}

  start_ends : (r : Step) → Safe r → Bounded r → Ending r bound
  start_ends (going s) g w = state_ends bound s g w
  start_ends (done o) g w = (o, 0, refl, omega arith)
  start_ends stuck g w = absurd g

  next_none : (r : Step) → next r (runs image.code 0) ≡ r
  next_none (going s) = refl
  next_none (done o) = refl
  next_none stuck = refl

  outcome_has : (o : OutcomeTree) (r : Step) → Safe r → r ≡ done o → OutcomeHas image.records o head.result
  outcome_has (value_outcome v) r g e = has_unstacked image.records v head.result (value_has image verified.form.entries outer r g v e)
  outcome_has (trap_outcome t) r g e = tt
  outcome_has budget_outcome r g e = tt

  start_bounded : (c : ℕ) (e : Option Entry) → c ≡ b → Bounded (starts image.code f vs c e)
  start_bounded zero e w = tt
  start_bounded (suc c) None w = tt
  start_bounded (suc c) (Some e) w =
      let more : suc c * (l + 1) ≡ c * (l + 1) + (l + 1) = omega arith in
      let same : suc c * (l + 1) ≡ bound = ap (λ (n : ℕ). n * (l + 1)) w in
      omega arith

  start_ending : Ending (starts image.code f vs b (slice_get image.code.entries f)) bound
  start_ending =
      let first = starts image.code f vs b (slice_get image.code.entries f) in
      start_ends first (subst Safe (next_none first) (run_safe 0)) (start_bounded b (slice_get image.code.entries f) refl)

  pub run_ends : (o : OutcomeTree) × EndsWith image.code f vs b o × OutcomeHas image.records o head.result
  run_ends =
      let e = start_ending in
      (e.0, (e.1, e.2, λ m h. run_not_stuck m), outcome_has e.0 (Runs image.code f vs b e.1) (run_safe e.1) e.2)

  pub run_ended : (n : ℕ) → bound ≤ n → (o : OutcomeTree) × (Runs image.code f vs b n ≡ done o)
  run_ended n w =
      let e = start_ending in
      let few = e.3 in
      (e.0, later_step image.code e.0 e.1 n (ended_later image.code e.0 e.1 n (omega arith)) (starts image.code f vs b (slice_get image.code.entries f)) e.2)

  pub end_has_shape : (n : ℕ) (o : OutcomeTree) → Runs image.code f vs b n ≡ done o → OutcomeHas image.records o head.result
  end_has_shape n o e = outcome_has o (Runs image.code f vs b n) (run_safe n) e

pub never_stuck : NeverStuck
never_stuck image f head vs b n verified call = run_not_stuck image f head vs b verified call n

pub runs_end : RunsEnd
runs_end image f head vs b verified call = run_ends image f head vs b verified call

pub ends_soon : EndsSoon
ends_soon image f head vs b n verified call w = run_ended image f head vs b verified call n w

pub ends_have_shape : EndsHaveShape
ends_have_shape image f head vs b n o verified call e = end_has_shape image f head vs b verified call n o e

pub calls_have_entries : CallsHaveEntries
calls_have_entries image f head vs verified call =
    let body = body_at image.code.entries image.heads verified.form.entries f head call.listed in
    let entry = entry_of image.code.entries image.heads verified.form.entries f (body_of body.0 head) body.2 in
    let many = same_length (fields image.records) vs (map on_stack head.params) (all_stacked image.records vs head.params call.values) in
    (entry.0, entry.1, many ∙ sym entry.4)
