-- Runs: one step after another, from a call to its end.
use Rattle.std.proofs.Common.{◌≡◌, refl, sym, subst, ℕ, ◌+◌, ◌<◌, List, [], Option, Some, None, arith}
use Rattle.std.specs.Prelude.{Bool, true, false, IfSome}
use Rattle.um_tree.specs.ValueTree.{ValueTree}
use Rattle.um_tree.specs.ProgramTree.{FunctionTree}
use Rattle.um_tree.specs.Meaning.{gives}
use Rattle.um_cells.specs.declared.store.Store.{Store}
use Rattle.um_cells.specs.declared.word.Word.{Word}
use Rattle.um_cells.specs.Stores.{DenotesIn, AllDenote}
use Rattle.um_eval.specs.declared.next.Next.{Next}
use Rattle.um_eval.specs.declared.frame.Collection.TheVariants as collection
use Rattle.um_eval.specs.declared.frame.Frame.{Frame}
use Rattle.um_eval.specs.declared.evaluator.Evaluator.{Evaluator}
use Rattle.um_eval.specs.Variables.{own_of, callers_of}
use Rattle.um_eval.specs.Tasks.{Task, Give, task_of}
use Rattle.um_eval.specs.Through.{Whole, whole_outcome, here_of, collected_traces}
use Rattle.um_eval.specs.Frames.{collected, Completes}
use Rattle.um_eval.specs.Work.{task_steps, steps_left}
use Rattle.um_eval.specs.Settling.{either, task_by}
use Rattle.um_eval.specs.Progress.{Leads, LeadsTo, Goes, AllCollected, frames_of}
use Rattle.um_eval.proofs.Resuming.{at_least}

-- how many steps are left; none for want of memory
abbrev pub left_of : List FunctionTree → Evaluator → Option Task → ℕ
left_of fs m None = 0
left_of fs m (Some task) = steps_left fs m.budget (frames_of m) (task_steps task) + 1

abbrev pub Does : List FunctionTree → Evaluator → Option Task → Whole → ℕ → Type 0
Does fs m o whole n = IfSome o (λ task. LeadsTo fs m task whole n)

-- from one evaluator and its task to another
abbrev pub Steps : List FunctionTree → Evaluator → Task → Evaluator → Option Task → Type 0
Steps fs m task t o = (whole : Whole) (n : ℕ) → LeadsTo fs m task whole (n + 1) → Does fs t o whole n

pub counted : (fs : List FunctionTree) (m : Evaluator) (o : Option Task) (whole : Whole) (n : ℕ) → Does fs m o whole n → Does fs m o whole (left_of fs m o)
counted fs m None whole n h = tt
counted fs m (Some task) whole n h = at_least fs m.store (callers_of m.scope) (own_of m.scope) m.values.items m.budget (frames_of m) whole task n h

module _ (fs : List FunctionTree) (m : Evaluator) (task : Task) (t : Evaluator) (o : Option Task) (step : Steps fs m task t o) where
  pub step_leads : (whole : Whole) → LeadsTo fs m task whole (left_of fs m (Some task)) → Does fs t o whole (left_of fs t o)
  step_leads whole h = counted fs t o whole (steps_left fs m.budget (frames_of m) (task_steps task)) (step whole (steps_left fs m.budget (frames_of m) (task_steps task)) h)

  pub step_some : (whole : Whole) × (n : ℕ) × LeadsTo fs m task whole n → (whole : Whole) × (n : ℕ) × Does fs t o whole n
  step_some (whole, n, h) = (whole, steps_left fs m.budget (frames_of m) (task_steps task), step whole (steps_left fs m.budget (frames_of m) (task_steps task)) (counted fs m (Some task) whole n h))

-- the steps fall
pub falls : (fs : List FunctionTree) (t : Evaluator) (o : Option Task) (whole : Whole) (n : ℕ) → Does fs t o whole n → left_of fs t o < n + 1
falls fs t None whole n h = omega arith
falls fs t (Some task) whole n (h, l) = omega (arith, l)

pub step_falls : (fs : List FunctionTree) (m : Evaluator) (task : Task) (t : Evaluator) (o : Option Task) → Steps fs m task t o → (whole : Whole) × (n : ℕ) × LeadsTo fs m task whole n → left_of fs t o < left_of fs m (Some task)
step_falls fs m task t o step (whole, n, h) =
    let left = steps_left fs m.budget (frames_of m) (task_steps task) in
    falls fs t o whole left (step whole left (counted fs m (Some task) whole n h))

-- what follows on a test
pub either_goes : (fs : List FunctionTree) (m : Evaluator) (test : Option Bool) (x y : Next) (tx ty : Task) (whole : Whole) (n : ℕ) → task_of m x ≡ Some tx → task_of m y ≡ Some ty → LeadsTo fs m (task_by test tx ty) whole n → Goes fs m (either test x y) whole n
either_goes fs m (Some true) x y tx ty whole n ex ey h = subst (λ o. Does fs m o whole n) (sym ex) h
either_goes fs m (Some false) x y tx ty whole n ex ey h = subst (λ o. Does fs m o whole n) (sym ey) h
either_goes fs m None x y tx ty whole n ex ey h = h

-- a value without a frame is the run's
pub given_ends : (fs : List FunctionTree) (s : Store) (callers scope waiting : List Word) (b : ℕ) (frames : List Frame) (w : Word) (whole : Whole) (n : ℕ) → frames ≡ [] → Leads fs s callers scope waiting b frames (Give w) whole n → (v : ValueTree) × (c : ℕ) × DenotesIn s w v × (gives v c ≡ whole_outcome fs whole)
given_ends fs s callers scope waiting b frames w whole n e h = ended (subst (λ fr. Leads fs s callers scope waiting b fr (Give w) whole n) e h)
  where
    ended : Leads fs s callers scope waiting b [] (Give w) whole n → (v : ValueTree) × (c : ℕ) × DenotesIn s w v × (gives v c ≡ whole_outcome fs whole)
    ended ((vars, v, d, x, (k, none)), l) = (v, b, x, k)

-- a call without frames comes to the outcome
pub called : (fs : List FunctionTree) (s : Store) (callers scope waiting : List Word) (b : ℕ) (frames : List Frame) (j : ℕ) (vs : List ValueTree) → scope ≡ [] → frames ≡ [] → AllDenote s waiting vs → AllCollected fs s callers scope waiting b frames (collection.Call j 0) 0 (record { function = j; arguments = vs; budget = b }) (steps_left fs b frames 1 + 1)
called fs s callers scope waiting b frames j vs e g d =
    let whole : Whole = record { function = j; arguments = vs; budget = b } in (
      omega arith,
      [],
      vs,
      subst (λ ws. AllDenote s ws []) (sym e) tt,
      d,
      subst (λ fr. Completes fs s callers [] fr [] (collected fs (collection.Call j 0) vs b) (collected_traces fs (here_of fr) (collection.Call j 0) vs b) whole) (sym g) (refl, λ t h. h),
      omega arith,
    )
