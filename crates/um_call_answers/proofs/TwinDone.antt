-- A call that is made twice is done if the sizes and the arguments fit, and both meanings give values that can be
-- printed.
use Rattle.std.proofs.Common.{◌≡◌, ◌⊎◌, ℕ, List, MatchOption, Option, Result, Ok, Err, Some, None, inl, inr, sym, subst}
use Rattle.um_frac.specs.declared.number.Frac.{Frac}
use Rattle.um_tree.specs.ValueTree.{value_outcome}
use Rattle.um_tree.specs.ProgramTree.{ProgramTree}
use Rattle.um_tree.specs.Meaning.{outcome_of_call}
use Rattle.um_show.specs.ValueText.{value_text}
use Rattle.um_gen.specs.ProgramCode.{program_code}
use Rattle.um_gen.proofs.EndsAsMeant.{outcomes_are_reached}
use Rattle.um_vm.proofs.Calls.{one_outcome}
use Rattle.um_scale.specs.RescaledLiterals.{rescaled_program}
use Rattle.um_sizes.specs.declared.read.ScalesRefusal.{ScalesRefusal}
use Rattle.um_sizes.specs.declared.read.ScalesRefusal.TheVariants as scales_refusal
use Rattle.um_sizes.proofs.UniqueSizes.{scales_are_unique}
use Rattle.um_run.specs.Calls.{CallTree, call_values}
use Rattle.um_run.proofs.CallLaws.{fitting_calls_are_calls}
use Rattle.um_reports.specs.declared.status.Status.{Status}
use Rattle.um_reports.specs.declared.status.Status.TheVariants.{Done}
use Rattle.um_reports.specs.ScaleRefusals.{IsLiteralReply, IsMisfitReply}
use Rattle.um_front.specs.Stages.{CheckedTree, IsCheckedText}
use Rattle.um_front.proofs.CheckedTexts.{shaped_is_formed, checked_is_known}
use Rattle.um_front.proofs.StageLaws.{checked_given}
use Rattle.um_call_answers.specs.AskedCall.{AskedCall}
use Rattle.um_call_answers.specs.TwinAnswer.{IsSecondReply, AreValueReplies, AreOutcomeReplies, TwinRunAnswer, misfit_among, rescaled_values, InputsAnswer, TwinLiteralsAnswer, SizedAnswer, ByTwinSizes, IsTwinAnswer, TwinAnswer}
use Rattle.um_call_answers.specs.OfCall.{IsAskedCall}
use Rattle.um_call_answers.specs.Passing.{GivesTwins}
use Rattle.um_call_answers.proofs.CallStage.{call_given}

module _ (word : List ℕ) (asked : AskedCall) (c : CheckedTree) (g : GivesTwins word asked c) (text : List ℕ) (status : Status) where
  abbrev p : ProgramTree
  p = c.text.program

  abbrev cs : List Frac
  cs = g.scales

  -- both values can be printed at the type of the call
  module _ (call : CallTree) (named : IsAskedCall asked c call) where
    second_done : (first : List ℕ) → IsSecondReply p call.type first g.second text status → status ≡ Done
    second_done first (inl (fits, lines)) = lines.1
    second_done first (inr (unfit, line)) = absurd (unfit (g.in_range call named).1)

    values_done : AreValueReplies p call.type g.first g.second text status → status ≡ Done
    values_done (inl (fits, replies)) = second_done (value_text p g.first call.type) replies
    values_done (inr (unfit, line)) = absurd (unfit (g.in_range call named).0)

    module _ (meant : outcome_of_call p call.function (call_values call) asked.budget ≡ Some (value_outcome g.first))
        (also_meant : outcome_of_call (rescaled_program cs p) call.function (rescaled_values cs call) asked.budget ≡ Some (value_outcome g.second))
        (fit : misfit_among cs call.inputs ≡ None) where
      runs_done : TwinRunAnswer asked.budget cs p call text status → status ≡ Done
      unfolding TwinRunAnswer
      runs_done (o, ended, e, also, replies) =
          let q = rescaled_program cs p in
          let first = outcomes_are_reached p call.function (call_values call) asked.budget (value_outcome g.first) meant in
          let second = outcomes_are_reached q call.function (rescaled_values cs call) asked.budget (value_outcome g.second) also_meant in
          let same = one_outcome (program_code p.functions) call.function (call_values call) asked.budget o (value_outcome g.first) ended first in
          let alike = one_outcome (program_code q.functions) call.function (rescaled_values cs call) asked.budget e (value_outcome g.second) also second in
          values_done (subst (λ x. AreOutcomeReplies p call.type (value_outcome g.first) x text status) alike (subst (λ x. AreOutcomeReplies p call.type x e text status) same replies))

      inputs_done : InputsAnswer asked.budget cs p call text status → status ≡ Done
      unfolding InputsAnswer
      inputs_done answer = runs_done (subst (λ (m : Option ℕ). MatchOption m (TwinRunAnswer asked.budget cs p call text status) (λ k. IsMisfitReply k text status)) fit answer)

      literals_done : (bytes : List ℕ) → TwinLiteralsAnswer asked.budget cs bytes p call text status → status ≡ Done
      unfolding TwinLiteralsAnswer
      literals_done bytes answer =
          inputs_done (subst (λ (m : Option ℕ). MatchOption m (InputsAnswer asked.budget cs p call text status) (λ at. IsLiteralReply bytes at text status)) g.literals answer)

  module _ (bytes : List ℕ) (is : IsCheckedText bytes c) where
    sized_done : SizedAnswer cs asked bytes c text status → status ≡ Done
    unfolding SizedAnswer
    sized_done answer =
        let fitting = fitting_calls_are_calls p c.text.abbreviations c.schemes asked.name asked.texts (checked_is_known bytes c is) g.fits in
        let call : CallTree = record { function = g.fits.number; inputs = g.fits.inputs; type = fitting.0 } in
        literals_done call fitting.1 g.gives g.also_gives g.arguments bytes
        (call_given (TwinLiteralsAnswer asked.budget cs bytes) asked c text status (shaped_is_formed bytes c.text is.shaped) call fitting.1 answer)

    by_sizes_done : (r : Result (List Frac) ScalesRefusal) → (Ok cs ≡ r) ⊎ ((Ok cs ≡ Err scales_refusal.NoMemory) ⊎ (r ≡ Err scales_refusal.NoMemory)) → ByTwinSizes asked bytes c r text status → status ≡ Done
    by_sizes_done r (inl same) answer = sized_done (subst (λ q. ByTwinSizes asked bytes c q text status) (sym same) answer)
    by_sizes_done r (inr (inl wrong)) answer = absurd (cc wrong)
    by_sizes_done r (inr (inr wanting)) answer = absurd (subst (λ q. ByTwinSizes asked bytes c q text status) wanting answer)

    in_sizes_done : IsTwinAnswer word asked bytes c text status → status ≡ Done
    unfolding IsTwinAnswer
    in_sizes_done (r, read, answer) = by_sizes_done r (scales_are_unique p.bases word (Ok cs) r g.read read) answer

    pub twin_done : TwinAnswer word asked bytes text status → status ≡ Done
    unfolding TwinAnswer
    twin_done answer = in_sizes_done (checked_given (IsTwinAnswer word asked bytes) bytes text status c is answer)
