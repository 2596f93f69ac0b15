-- Whichever way a call is run, it ends as its meaning has it.
use Rattle.std.proofs.Common.{◌≡◌, ℕ, List, ◌++◌, map, Some, None, Ok, inl, inr, refl, sym, ap, ◌∙◌}
use Rattle.std.specs.declared.option.Option.{Option}
use Rattle.std.proofs.lemmas.List.{append-nil}
use Rattle.um_frac.specs.declared.number.Frac.{Frac}
use Rattle.um_tree.specs.TypeTree.{TypeTree}
use Rattle.um_tree.specs.ValueTree.{OutcomeTree, value_outcome, trap_outcome, budget_outcome}
use Rattle.um_tree.specs.ProgramTree.{ProgramTree}
use Rattle.um_tree.specs.Meaning.{outcome_of_call}
use Rattle.um_tree.specs.Shapes.{IsShaped}
use Rattle.um_shape.proofs.Complete.{faultless_is_shaped}
use Rattle.um_cells.specs.Arguments.{AreArgumentsOf}
use Rattle.um_show.specs.ValueText.{value_text}
use Rattle.um_machine.specs.Machine.{EndsWith}
use Rattle.um_gen.specs.ProgramCode.{program_code}
use Rattle.um_gen.proofs.EndsAsMeant.{outcomes_are_reached}
use Rattle.um_vm.proofs.Calls.{counted_ends, run_is_meant}
use Rattle.um_scale.specs.Sizes.{AreSizes, sizes}
use Rattle.um_scale.specs.RescaledLiterals.{misfit_in, rescaled_program}
use Rattle.um_scale.specs.RescaledInputs.{rescaled_input}
use Rattle.um_scale.proofs.Rescaled.{program_rescaled}
use Rattle.um_scale.proofs.RescaledFaults.{same_fault}
use Rattle.um_scale.proofs.RescaledCalls.{all_rescaled, rescaled_arguments}
use Rattle.um_sizes.specs.BaseSizes.{AreScalesRead}
use Rattle.um_sizes.proofs.UniqueSizes.{scales_are_positive}
use Rattle.um_run.specs.Calls.{CallTree, call_values}
use Rattle.um_reports.specs.declared.status.Status.{Status}
use Rattle.um_reports.specs.Steps.{line}
use Rattle.um_front.specs.Stages.{CheckedTree, IsCheckedText}
use Rattle.um_call_answers.specs.declared.way.Way.TheVariants as way
use Rattle.um_call_answers.specs.AskedCall.{AskedCall}
use Rattle.um_call_answers.specs.OfCall.{IsAskedCall}
use Rattle.um_call_answers.specs.CallAnswer.{steps_text, IsOutcomeReply, RunAnswer, IsCallAnswer, CallAnswer}
use Rattle.um_call_answers.specs.TwinAnswer.{misfit_among, rescaled_values}
use Rattle.um_call_answers.specs.EndLaws.{CallsEndAsMeant, WaysAnswerAlike, StepsFollowRuns, TwinsEndAsMeant}
use Rattle.um_call_answers.proofs.TwinArguments.{all_fit}
use Rattle.um_call_answers.proofs.CallEnds.{meant_ends, ends_meant, checked_shaped, asked_arguments}

pub calls_end_as_meant : CallsEndAsMeant
calls_end_as_meant way asked bytes c call o is named =
    let shaped = checked_shaped bytes c is in
    let allowed = asked_arguments asked bytes c is call named in (
      (λ t. let (steps, ended) = t in ends_meant asked.budget c.text.program call shaped allowed way o steps ended),
      meant_ends asked.budget c.text.program call way o,
    )

-- ---- `run` and `eval`
module _ (budget : ℕ) (p : ProgramTree) (call : CallTree) (text : List ℕ) (status : Status) where
  by_tree : IsShaped p → AreArgumentsOf p call.function (call_values call) → RunAnswer way.Code budget p call text status → RunAnswer way.Tree budget p call text status
  unfolding RunAnswer
  by_tree shaped allowed (o, steps, (by, none), printed) = (o, steps, (run_is_meant p call.function (call_values call) allowed budget o shaped by, none), printed)

  by_code : RunAnswer way.Tree budget p call text status → RunAnswer way.Code budget p call text status
  unfolding RunAnswer
  by_code (o, steps, (meant, none), printed) = (o, steps, (outcomes_are_reached p call.function (call_values call) budget o meant, none), printed)

-- ---- `steps`
module _ (p : ProgramTree) (t : TypeTree) (text : List ℕ) (status : Status) where
  -- without the line of the steps
  uncounted : (o : OutcomeTree) (steps : Option ℕ) → IsOutcomeReply p t o steps text status → (first : List ℕ) × (more : Option ℕ) × IsOutcomeReply p t o None first status × (text ≡ first ++ steps_text more)
  uncounted (value_outcome v) steps (inl (fits, (is, done))) =
      let first = line (value_text p v t) ++ steps_text None in
      (first, steps, inl (fits, (refl, done)), is ∙ ap (λ l. l ++ steps_text steps) (sym (append-nil (line (value_text p v t)))))
  uncounted (value_outcome v) steps (inr (unfit, reply)) = (text, None, inr (unfit, reply), sym (append-nil text))
  uncounted (trap_outcome why) steps reply = (text, None, reply, sym (append-nil text))
  uncounted budget_outcome steps reply = (text, None, reply, sym (append-nil text))

module _ (budget : ℕ) (p : ProgramTree) (call : CallTree) (text : List ℕ) (status : Status) where
  run_first : RunAnswer way.Counted budget p call text status → (first : List ℕ) × (steps : Option ℕ) × RunAnswer way.Code budget p call first status × (text ≡ first ++ steps_text steps)
  unfolding RunAnswer
  run_first (o, steps, (k, counts, told), printed) =
      let (first, more, reply, is) = uncounted p call.type text status o steps printed in
      (first, more, (o, None, (counted_ends (program_code p.functions) call.function (call_values call) budget o k counts, refl), reply), is)

-- ---- of a text
module _ (asked : AskedCall) (bytes text : List ℕ) (status : Status) where
  to_tree : CallAnswer way.Code asked bytes text status → CallAnswer way.Tree asked bytes text status
  unfolding CallAnswer IsCallAnswer
  to_tree (inl (c, is, inl (call, named, run))) =
      inl (c, is, inl (call, named, by_tree asked.budget c.text.program call text status (checked_shaped bytes c is) (asked_arguments asked bytes c is call named) run))
  to_tree (inl (c, is, inr refused)) = inl (c, is, inr refused)
  to_tree (inr unchecked) = inr unchecked

  to_code : CallAnswer way.Tree asked bytes text status → CallAnswer way.Code asked bytes text status
  unfolding CallAnswer IsCallAnswer
  to_code (inl (c, is, inl (call, named, run))) = inl (c, is, inl (call, named, by_code asked.budget c.text.program call text status run))
  to_code (inl (c, is, inr refused)) = inl (c, is, inr refused)
  to_code (inr unchecked) = inr unchecked

  follows : CallAnswer way.Counted asked bytes text status → (first : List ℕ) × (steps : Option ℕ) × CallAnswer way.Code asked bytes first status × (text ≡ first ++ steps_text steps)
  unfolding CallAnswer IsCallAnswer
  follows (inl (c, is, inl (call, named, run))) =
      let (first, steps, answer, same) = run_first asked.budget c.text.program call text status run in
      (first, steps, inl (c, is, inl (call, named, answer)), same)
  follows (inl (c, is, inr refused)) = (text, None, inl (c, is, inr refused), sym (append-nil text))
  follows (inr unchecked) = (text, None, inr unchecked, sym (append-nil text))

pub ways_answer_alike : WaysAnswerAlike
ways_answer_alike asked bytes text status = (to_tree asked bytes text status, to_code asked bytes text status)

pub steps_follow_runs : StepsFollowRuns
steps_follow_runs asked bytes text status answer = follows asked bytes text status answer

-- ---- `twin`
module _ (word : List ℕ) (asked : AskedCall) (bytes : List ℕ) (c : CheckedTree) (cs : List Frac) (call : CallTree)
    (is : IsCheckedText bytes c) (read : AreScalesRead c.text.program.bases word (Ok cs)) (named : IsAskedCall asked c call)
    (fit : misfit_in cs c.text.program.functions ≡ None) (all : misfit_among cs call.inputs ≡ None) where
  abbrev p : ProgramTree
  p = c.text.program

  abbrev q : ProgramTree
  q = rescaled_program cs c.text.program

  above : AreSizes cs
  above = scales_are_positive p.bases word cs read

  other_shaped : IsShaped q
  other_shaped = faultless_is_shaped q (same_fault p q (sizes cs) (program_rescaled cs above p fit) ∙ is.shaped.faultless)

  other_allowed : AreArgumentsOf q call.function (rescaled_values cs call)
  other_allowed =
      rescaled_arguments p q (sizes cs) call.function call.inputs (map (rescaled_input cs) call.inputs) (program_rescaled cs above p fit)
      (all_rescaled cs above call.inputs (all_fit cs call.inputs all)) (asked_arguments asked bytes c is call named)

  pub second_is_meant : (o : OutcomeTree) → EndsWith (program_code q.functions) call.function (rescaled_values cs call) asked.budget o → outcome_of_call q call.function (rescaled_values cs call) asked.budget ≡ Some o
  second_is_meant o by = run_is_meant q call.function (rescaled_values cs call) other_allowed asked.budget o other_shaped by

pub twins_end_as_meant : TwinsEndAsMeant
twins_end_as_meant word asked bytes c cs call o is read named fit all = (
  second_is_meant word asked bytes c cs call is read named fit all o,
  outcomes_are_reached (rescaled_program cs c.text.program) call.function (rescaled_values cs call) asked.budget o,
)
