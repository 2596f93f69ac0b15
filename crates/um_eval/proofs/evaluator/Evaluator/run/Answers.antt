use Rattle.std.proofs.Common.{◌∷◌, ◌+◌, ◌<◌, ◌∙◌, [], Some, ap, subst, sym, map, reverse}
use Rattle.std.proofs.lemmas.List.{reverse-append, nil_from_length}
use Rattle.um_tree.specs.ProgramTree.{function_tree}
use Rattle.um_eval.specs.Variables.{own_of, callers_of}
use Rattle.um_eval.specs.Tasks.{Evaluate, Give, task_of}
use Rattle.um_eval.specs.Progress.{Leads, Goes, frames_of}
use Rattle.um_eval.proofs.Running.{left_of, Steps, counted, step_leads, step_some, step_falls, given_ends}
use Rattle.um_eval.proofs.evaluator.Evaluator.run.Goals as goal

pub loop-next-init : goal.loop-next-init
loop-next-init c = record {
  leads = λ whole n h. counted (map function_tree c.args.functions.now) c.args.self.now (task_of c.args.self.now c.args.first) whole n h;
  some = c.requires;
}

pub evaluate-next-requires : goal.evaluate-next-requires
evaluate-next-requires c =
    let m = c.loop-next.self in
    let fs = map function_tree c.args.functions.now in
    let (whole, n, h) = c.loop-next.invariant.some in
    (whole, n, subst (λ x. Goes fs m x whole n) c.in-Evaluate.is h)

pub loop-next-preserved-in-Evaluate : goal.loop-next-preserved-in-Evaluate
loop-next-preserved-in-Evaluate c =
    let m = c.loop-next.self in
    let fs = map function_tree c.args.functions.now in
    let t = c.evaluate-next.new.self in
    let x = task_of t c.evaluate-next.result in
    let task = Evaluate c.in-Evaluate.e in
    let step : Steps fs m task t x = λ whole n h. c.evaluate-next.ensures whole n h in
    record {
      leads = λ whole n h. step_leads fs m task t x step whole (subst (λ y. Goes fs m y whole (left_of fs m (task_of m y))) c.in-Evaluate.is (c.loop-next.invariant.leads whole n h));
      some =
          let (whole, n, h) = c.loop-next.invariant.some in
          step_some fs m task t x step (whole, n, subst (λ y. Goes fs m y whole n) c.in-Evaluate.is h);
    }

pub loop-next-smaller-in-Evaluate : goal.loop-next-smaller-in-Evaluate
loop-next-smaller-in-Evaluate c =
    let m = c.loop-next.self in
    let fs = map function_tree c.args.functions.now in
    let t = c.evaluate-next.new.self in
    let x = task_of t c.evaluate-next.result in
    let task = Evaluate c.in-Evaluate.e in
    let step : Steps fs m task t x = λ whole n h. c.evaluate-next.ensures whole n h in
    let (whole, n, h) = c.loop-next.invariant.some in
    subst (λ y. left_of fs t x < left_of fs m (task_of m y)) (sym c.in-Evaluate.is)
    (step_falls fs m task t x step (whole, n, subst (λ y. Goes fs m y whole n) c.in-Evaluate.is h))

pub resume-next-requires : goal.resume-next-requires
resume-next-requires c =
    let m = c.loop-next.self in
    let fs = map function_tree c.args.functions.now in
    let popped = ap reverse c.in-Some.ensures.items ∙ reverse-append c.pop.new.self.items (c.in-Some.frame ∷ []) in
    let (whole, n, h) = c.loop-next.invariant.some in
    (whole, n, subst (λ fr. Leads fs m.store (callers_of m.scope) (own_of m.scope) m.values.items m.budget fr (Give m.value) whole n) popped (subst (λ x. Goes fs m x whole n) c.in-Give.is h))

pub loop-next-preserved : goal.loop-next-preserved
loop-next-preserved c =
    let m = c.loop-next.self in
    let fs = map function_tree c.args.functions.now in
    let t = c.resume-next.new.self in
    let x = task_of t c.resume-next.result in
    let task = Give m.value in
    let popped = ap reverse c.in-Some.ensures.items ∙ reverse-append c.pop.new.self.items (c.in-Some.frame ∷ []) in
    let step : Steps fs m task t x = λ whole n h. c.resume-next.ensures whole n (subst (λ fr. Leads fs m.store (callers_of m.scope) (own_of m.scope) m.values.items m.budget fr task whole (n + 1)) popped h) in
    record {
      leads = λ whole n h. step_leads fs m task t x step whole (subst (λ y. Goes fs m y whole (left_of fs m (task_of m y))) c.in-Give.is (c.loop-next.invariant.leads whole n h));
      some =
          let (whole, n, h) = c.loop-next.invariant.some in
          step_some fs m task t x step (whole, n, subst (λ y. Goes fs m y whole n) c.in-Give.is h);
    }

pub loop-next-smaller : goal.loop-next-smaller
loop-next-smaller c =
    let m = c.loop-next.self in
    let fs = map function_tree c.args.functions.now in
    let t = c.resume-next.new.self in
    let x = task_of t c.resume-next.result in
    let task = Give m.value in
    let popped = ap reverse c.in-Some.ensures.items ∙ reverse-append c.pop.new.self.items (c.in-Some.frame ∷ []) in
    let step : Steps fs m task t x = λ whole n h. c.resume-next.ensures whole n (subst (λ fr. Leads fs m.store (callers_of m.scope) (own_of m.scope) m.values.items m.budget fr task whole (n + 1)) popped h) in
    let (whole, n, h) = c.loop-next.invariant.some in
    subst (λ y. left_of fs t x < left_of fs m (task_of m y)) (sym c.in-Give.is)
    (step_falls fs m task t x step (whole, n, subst (λ y. Goes fs m y whole n) c.in-Give.is h))

pub returns-in-None : goal.returns-in-None
returns-in-None c = λ whole n h.
    let m = c.loop-next.self in
    let fs = map function_tree c.args.functions.now in
    let left = left_of fs m (Some (Give m.value)) in
    let empty = ap reverse (nil_from_length m.frames.items (sym m.frames.ok.0 ∙ c.in-None.ensures.cases.0)) in (
      given_ends fs m.store (callers_of m.scope) (own_of m.scope) m.values.items m.budget (frames_of m) m.value whole left empty
          (subst (λ x. Goes fs m x whole (left_of fs m (task_of m x))) c.in-Give.is (c.loop-next.invariant.leads whole n h)),
      tt,
    )

pub returns-in-Trap : goal.returns-in-Trap
returns-in-Trap c = λ whole n h.
    let m = c.loop-next.self in
    let fs = map function_tree c.args.functions.now in
    (subst (λ x. Goes fs m x whole (left_of fs m (task_of m x))) c.in-Trap.is (c.loop-next.invariant.leads whole n h)).0

pub returns-in-BudgetEnd : goal.returns-in-BudgetEnd
returns-in-BudgetEnd c = λ whole n h.
    let m = c.loop-next.self in
    let fs = map function_tree c.args.functions.now in
    (subst (λ x. Goes fs m x whole (left_of fs m (task_of m x))) c.in-BudgetEnd.is (c.loop-next.invariant.leads whole n h)).0

pub returns-in-Wrong : goal.returns-in-Wrong
returns-in-Wrong c = λ whole n h.
    let m = c.loop-next.self in
    let fs = map function_tree c.args.functions.now in
    ((subst (λ x. Goes fs m x whole (left_of fs m (task_of m x))) c.in-Wrong.is (c.loop-next.invariant.leads whole n h)).0, tt)
