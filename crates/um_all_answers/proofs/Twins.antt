-- A call in two sizes of the base units has both outcomes.
use Rattle.std.proofs.Common.{◌≡◌, inl, inr, ℕ, ◌+◌, List, ◌++◌, codes, decimal, map, Option, Some, None, MatchOption, refl, sym, subst, ◌∙◌}
use Rattle.std.specs.Prelude.{Ok, Err}
use Rattle.um_elim.proofs.Cases.{on_test}
use Rattle.um_frac.specs.declared.number.Frac.{Frac}
use Rattle.um_tree.specs.TypeTree.{TypeTree}
use Rattle.um_tree.specs.ValueTree.{ValueTree, OutcomeTree, value_outcome, trap_outcome, budget_outcome}
use Rattle.um_tree.specs.ProgramTree.{ProgramTree}
use Rattle.um_show.specs.ValueText.{value_text, parts_fit}
use Rattle.um_syntax.specs.Laws.{EachTextIsAnswered}
use Rattle.um_shape.specs.Laws.{FaultlessIsShaped}
use Rattle.um_gen.specs.Laws.{CodeEndsAsMeant}
use Rattle.um_scale.specs.Sizes.{AreSizes, sizes}
use Rattle.um_scale.specs.RescaledLiterals.{misfit_in, rescaled_program}
use Rattle.um_scale.specs.RescaledInputs.{rescaled_input}
use Rattle.um_scale.specs.Laws.{RescaledKeepsFault}
use Rattle.um_scale.proofs.Rescaled.{program_rescaled}
use Rattle.um_scale.proofs.RescaledCalls.{all_rescaled, rescaled_arguments}
use Rattle.um_sizes.specs.declared.read.ScalesRefusal.TheVariants.{NoBaseUnit}
use Rattle.um_sizes.specs.BaseSizes.{AreScalesRead}
use Rattle.um_sizes.proofs.UniqueSizes.{scales_are_positive}
use Rattle.um_run.specs.Calls.{CallTree}
use Rattle.um_run.proofs.CallLaws.{calls_are_typed}
use Rattle.um_reports.specs.declared.status.Status.{Status}
use Rattle.um_reports.specs.declared.status.Status.TheVariants.{Done, PowerRange, Input, BudgetEnd, ScaleRange}
use Rattle.um_reports.specs.declared.status.Status.TheVariants.{Trap as Trapped}
use Rattle.um_reports.specs.Refusals.{placed}
use Rattle.um_reports.specs.ScaleRefusals.{trap_name, IsLiteralReply, IsMisfitReply}
use Rattle.um_reports.specs.Steps.{line}
use Rattle.um_front.specs.Stages.{CheckedTree, IsCheckedText}
use Rattle.um_front.proofs.CheckedTexts.{checked_is_known}
use Rattle.um_call_answers.specs.AskedCall.{AskedCall}
use Rattle.um_call_answers.specs.OfCall.{IsAskedCall}
use Rattle.um_call_answers.specs.TwinAnswer.{IsSecondReply, AreValueReplies, BySecond, AreOutcomeReplies, rescaled_values, TwinRunAnswer, misfit_among, InputsAnswer, TwinLiteralsAnswer, SizedAnswer, IsTwinAnswer, TwinAnswer}
use Rattle.um_call_answers.proofs.TwinArguments.{all_fit}
use Rattle.um_all_answers.specs.TextLaws.{EachTextHasStages}
use Rattle.um_all_answers.proofs.Answers.{Told, of_checked}
use Rattle.um_all_answers.proofs.Sizes.{SizesOrRefusal, sizes_or_refusal}
use Rattle.um_all_answers.specs.CallLaws.{TwinsHaveAnswers}
use Rattle.um_all_answers.proofs.Outcomes.{Ended, each_ends}
use Rattle.um_all_answers.proofs.Calls.{of_call, asked_ends}

-- ---- two outcomes are told

module _ (p : ProgramTree) (t : TypeTree) where
  second_told : (first : List ℕ) (w : ValueTree) → Told (IsSecondReply p t first w)
  second_told first w =
      on_test (parts_fit p w t)
      (λ fits. (line first ++ line (value_text p w t), Done, inl (fits, (refl, refl))))
      (λ passes. (line (codes "error 10: power range of the call"), PowerRange, inr ((λ fits. cc (sym fits ∙ passes)), (refl, refl))))

  values_told : (v w : ValueTree) → Told (AreValueReplies p t v w)
  values_told v w =
      on_test (parts_fit p v t)
      (λ fits. let (text, status, reply) = second_told (value_text p v t) w in (text, status, inl (fits, reply)))
      (λ passes. (line (codes "error 10: power range of the call"), PowerRange, inr ((λ fits. cc (sym fits ∙ passes)), (refl, refl))))

  after_first : (v : ValueTree) (o : OutcomeTree) → Told (BySecond p t v o)
  after_first v (value_outcome w) = values_told v w
  after_first v (trap_outcome why) = (line (codes "error 12: " ++ codes "second" ++ codes " run: " ++ trap_name why), Trapped, (refl, refl))
  after_first v budget_outcome = (line (codes "error 13: budget"), BudgetEnd, (refl, refl))

  outcomes_told : (o other : OutcomeTree) → Told (AreOutcomeReplies p t o other)
  outcomes_told (value_outcome v) other = after_first v other
  outcomes_told (trap_outcome why) other = (line (codes "error 12: " ++ codes "first" ++ codes " run: " ++ trap_name why), Trapped, (refl, refl))
  outcomes_told budget_outcome other = (line (codes "error 13: budget"), BudgetEnd, (refl, refl))

-- ---- of a call
module _ (each : EachTextIsAnswered) (stages : EachTextHasStages) (shaped : FaultlessIsShaped) (law : CodeEndsAsMeant) (same_fault : RescaledKeepsFault) (word : List ℕ) (asked : AskedCall) (bytes : List ℕ) where
  module _ (c : CheckedTree) (is : IsCheckedText bytes c) (cs : List Frac) (read : AreScalesRead c.text.program.bases word (Ok cs)) where
    abbrev p : ProgramTree
    p = c.text.program

    module _ (call : CallTree) (named : IsAskedCall asked c call) where
      -- the call in other sizes ends, too
      also_ends : misfit_in cs p.functions ≡ None → misfit_among cs call.inputs ≡ None → Ended (rescaled_program cs p) call.function (rescaled_values cs call) asked.budget
      also_ends fit all =
          let above : AreSizes cs = scales_are_positive p.bases word cs read in
          let q = rescaled_program cs p in
          let rescaled = program_rescaled cs above p fit in
          let inputs = all_rescaled cs above call.inputs (all_fit cs call.inputs all) in
          let js = map (rescaled_input cs) call.inputs in
          let typed = calls_are_typed p c.text.abbreviations c.schemes asked.name asked.texts (checked_is_known bytes c is) call named in
          each_ends law q (shaped q (same_fault p q (sizes cs) rescaled ∙ is.shaped.faultless)) call.function (rescaled_values cs call) asked.budget
          (rescaled_arguments p q (sizes cs) call.function call.inputs js rescaled inputs typed.arguments)

      runs_told : misfit_in cs p.functions ≡ None → misfit_among cs call.inputs ≡ None → Told (TwinRunAnswer asked.budget cs p call)
      unfolding TwinRunAnswer
      runs_told fit all =
          let (o, meant, ends) = asked_ends asked c shaped law bytes is call named in
          let (other, also, end) = also_ends fit all in
          let (text, status, reply) = outcomes_told p call.type o other in
          (text, status, (o, ends, other, end, reply))

      abbrev ByArguments : Option ℕ → List ℕ → Status → Type 0
      ByArguments m text status = MatchOption m (TwinRunAnswer asked.budget cs p call text status) (λ k. IsMisfitReply k text status)

      inputs_told : misfit_in cs p.functions ≡ None → (m : Option ℕ) → misfit_among cs call.inputs ≡ m → Told (InputsAnswer asked.budget cs p call)
      unfolding InputsAnswer
      inputs_told fit None e = let (text, status, says) = runs_told fit e in (text, status, subst (λ (m : Option ℕ). ByArguments m text status) (sym e) says)
      inputs_told fit (Some k) e =
          let text = line (codes "error 14: argument " ++ decimal (k + 1)) in (text, ScaleRange, subst (λ (m : Option ℕ). ByArguments m text ScaleRange) (sym e) (refl, refl))

      abbrev ByLiterals : Option ℕ → List ℕ → Status → Type 0
      ByLiterals m text status = MatchOption m (InputsAnswer asked.budget cs p call text status) (λ at. IsLiteralReply bytes at text status)

      literals_told : (m : Option ℕ) → misfit_in cs p.functions ≡ m → Told (TwinLiteralsAnswer asked.budget cs bytes p call)
      unfolding TwinLiteralsAnswer
      literals_told None e =
          let (text, status, says) = inputs_told e (misfit_among cs call.inputs) refl in (text, status, subst (λ (m : Option ℕ). ByLiterals m text status) (sym e) says)
      literals_told (Some at) e =
          let text = placed (codes "error 14: literal at ") bytes at in (text, ScaleRange, subst (λ (m : Option ℕ). ByLiterals m text ScaleRange) (sym e) (refl, refl))

    sized_told : Told (SizedAnswer cs asked bytes c)
    unfolding SizedAnswer
    sized_told = of_call asked c (TwinLiteralsAnswer asked.budget cs bytes) (λ call named. literals_told call named (misfit_in cs p.functions) refl) each bytes is

  twin_told : (c : CheckedTree) → IsCheckedText bytes c → SizesOrRefusal c.text.program.bases word → Told (IsTwinAnswer word asked bytes c)
  unfolding IsTwinAnswer
  twin_told c is (inl (cs, read)) = let (text, status, says) = sized_told c is cs read in (text, status, (Ok cs, read, says))
  twin_told c is (inr read) = (line (codes "error 11: no such base unit"), Input, (Err NoBaseUnit, read, (refl, refl)))

pub twins_have_answers : EachTextIsAnswered → EachTextHasStages → FaultlessIsShaped → CodeEndsAsMeant → RescaledKeepsFault → TwinsHaveAnswers
unfolding TwinAnswer
twins_have_answers each stages shaped law same_fault word asked bytes stated =
    of_checked bytes (IsTwinAnswer word asked bytes)
    (λ c is. twin_told each stages shaped law same_fault word asked bytes c is (sizes_or_refusal c.text.program.bases word stated))
    (stages bytes).1
