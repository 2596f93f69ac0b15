-- What is answered to a call in two sizes whose arguments fit a typing, and whose numbers fit the sizes.
use Rattle.std.proofs.Common.{◌≡◌, ◌⊎◌, ℕ, List, MatchOption, Option, Result, Ok, Err, None, refl, sym, subst, inl, inr}
use Rattle.um_frac.specs.declared.number.Frac.{Frac}
use Rattle.um_tree.specs.ProgramTree.{ProgramTree}
use Rattle.um_sizes.specs.declared.read.ScalesRefusal.{ScalesRefusal}
use Rattle.um_sizes.specs.declared.read.ScalesRefusal.TheVariants as scales_refusal
use Rattle.um_sizes.proofs.UniqueSizes.{scales_are_unique}
use Rattle.um_run.specs.Calls.{CallTree}
use Rattle.um_run.proofs.CallLaws.{fitting_calls_are_calls}
use Rattle.um_reports.specs.declared.status.Status.{Status}
use Rattle.um_reports.specs.ScaleRefusals.{IsLiteralReply, IsMisfitReply}
use Rattle.um_front.specs.Stages.{CheckedTree, IsCheckedText}
use Rattle.um_front.proofs.CheckedTexts.{shaped_is_formed, checked_is_known}
use Rattle.um_front.proofs.StageLaws.{checked_given}
use Rattle.um_call_answers.specs.AskedCall.{AskedCall}
use Rattle.um_call_answers.specs.TwinAnswer.{misfit_among, TwinRunAnswer, InputsAnswer, TwinLiteralsAnswer, SizedAnswer, ByTwinSizes, IsTwinAnswer, TwinAnswer}
use Rattle.um_call_answers.specs.OfCall.{IsAskedCall}
use Rattle.um_tool.specs.Asked.{twin_sizes, called_twice}
use Rattle.um_tool.specs.Answer.{Answer}
use Rattle.um_tool.specs.ScaleLaws.{IsTwinCall}
use Rattle.um_tool.specs.Headline.{FitsTwice, FittingTwinsAreRelated}
use Rattle.um_tool.proofs.CallStages.{twin_stage, said_of_call}
use Rattle.um_tool.proofs.TwinsMeant.{runs_related}

module _ (word : List ℕ) (asked : AskedCall) (bytes text : List ℕ) (status : Status) (c : CheckedTree) (is : IsCheckedText bytes c) (h : FitsTwice word asked c) where
  abbrev p : ProgramTree
  p = c.text.program

  abbrev cs : List Frac
  cs = h.scales

  abbrev IsRelated : Type 0
  IsRelated = IsTwinCall word asked bytes text status

  -- the call that fits
  module _ (call : CallTree) (named : IsAskedCall asked c call) (inputs : call.inputs ≡ h.fits.inputs) where
    runs_fit : InputsAnswer asked.budget cs p call text status → IsRelated
    unfolding InputsAnswer
    runs_fit answer =
        let fit = subst (λ is. misfit_among cs is ≡ None) (sym inputs) h.arguments in
        runs_related word asked bytes text status c is cs h.read call named h.literals fit
        (subst (λ (m : Option ℕ). MatchOption m (TwinRunAnswer asked.budget cs p call text status) (λ k. IsMisfitReply k text status)) fit answer)

    literals_fit : TwinLiteralsAnswer asked.budget cs bytes p call text status → IsRelated
    unfolding TwinLiteralsAnswer
    literals_fit answer =
        runs_fit
        (subst (λ (m : Option ℕ). MatchOption m (InputsAnswer asked.budget cs p call text status) (λ at. IsLiteralReply bytes at text status)) h.literals answer)

  sized_fits : SizedAnswer cs asked bytes c text status → IsRelated
  sized_fits answer =
      let fitting = fitting_calls_are_calls p c.text.abbreviations c.schemes asked.name asked.texts (checked_is_known bytes c is) h.fits in
      let call : CallTree = record { function = h.fits.number; inputs = h.fits.inputs; type = fitting.0 } in
      literals_fit call fitting.1 refl
      (said_of_call asked c text status (shaped_is_formed bytes c.text is.shaped) (TwinLiteralsAnswer asked.budget cs bytes) call fitting.1 (twin_stage asked c text status cs bytes answer))

  sizes_fit : (r : Result (List Frac) ScalesRefusal) → (Ok cs ≡ r) ⊎ ((Ok cs ≡ Err scales_refusal.NoMemory) ⊎ (r ≡ Err scales_refusal.NoMemory)) → ByTwinSizes asked bytes c r text status → IsRelated
  sizes_fit r (inl same) answer = sized_fits (subst (λ q. ByTwinSizes asked bytes c q text status) (sym same) answer)
  sizes_fit r (inr (inl wrong)) answer = absurd (cc wrong)
  sizes_fit r (inr (inr wanting)) answer = absurd (subst (λ q. ByTwinSizes asked bytes c q text status) wanting answer)

  checked_fits : IsTwinAnswer word asked bytes c text status → IsRelated
  unfolding IsTwinAnswer
  checked_fits (r, read, answer) = sizes_fit r (scales_are_unique p.bases word (Ok cs) r h.read read) answer

  twin_fits : TwinAnswer word asked bytes text status → IsRelated
  unfolding TwinAnswer
  twin_fits answer = checked_fits (checked_given (IsTwinAnswer word asked bytes) bytes text status c is answer)

pub fitting_twins_are_related : FittingTwinsAreRelated
unfolding Answer
fitting_twins_are_related budget words bytes text status ordered (c, is, fits) answer =
    let given : TwinAnswer (twin_sizes words) (called_twice budget words) bytes text status = rw ordered at answer in
    twin_fits (twin_sizes words) (called_twice budget words) bytes text status c is fits given
