-- What is said of a program with its schemes never has the status of a refusal for units.
use Rattle.std.proofs.Common.{◌≡◌, ℕ, zero, suc, false, IsTrue, List, codes, MatchOption, Option, Result, Ok, Err, None, Some, refl, inl, inr}
use Rattle.um_frac.specs.declared.number.Frac.{Frac}
use Rattle.um_tree.specs.TypeTree.{TypeTree}
use Rattle.um_tree.specs.ValueTree.{ValueTree, OutcomeTree, value_outcome, trap_outcome, budget_outcome}
use Rattle.um_tree.specs.ProgramTree.{ProgramTree}
use Rattle.um_tree.specs.Meaning.{Stop, trap, budget_end}
use Rattle.um_measures.specs.Known.{number_of, function_names}
use Rattle.um_measures.specs.ClosedUnits.{given}
use Rattle.um_scale.specs.RescaledLiterals.{misfit_in, rescaled_program}
use Rattle.um_scale.specs.RescaledText.{IsRescaledText}
use Rattle.um_sizes.specs.declared.read.ScalesRefusal.{ScalesRefusal}
use Rattle.um_sizes.specs.declared.read.ScalesRefusal.TheVariants as scales_refusal
use Rattle.um_run.specs.Calls.{CallTree}
use Rattle.um_sig.specs.declared.signature.Signature.{Signature as ReadSignature}
use Rattle.um_sig.specs.declared.stop.SigText.{SigText}
use Rattle.um_sig.specs.declared.stop.SigStop.{SigStop}
use Rattle.um_sig.specs.declared.stop.SigStop.TheVariants as sig_stop
use Rattle.um_reports.specs.declared.status.Status.{Status}
use Rattle.um_reports.specs.declared.status.Status.TheVariants.{Done, PowerRange, Input, ScaleRange, Trap, BudgetEnd, NotConform}
use Rattle.um_reports.specs.CallRefusals.{IsUnnamedReply, IsConformReply}
use Rattle.um_reports.specs.ScaleRefusals.{IsSizesReply, IsLiteralReply, IsMisfitReply}
use Rattle.um_front.specs.Stages.{CheckedTree}
use Rattle.um_answers.specs.TypesAnswer.{IsSchemeList}
use Rattle.um_answers.specs.AnnotAnswer.{Listing, listed, past, listing, IsListingReply, IsAnnotReply}
use Rattle.um_answers.specs.CodeAnswer.{IsListing}
use Rattle.um_answers.specs.ConformAnswer.{IsConformAnswer, SignatureAnswer, BySignature, MatchingAnswer}
use Rattle.um_answers.specs.RescaleAnswer.{LiteralsAnswer, BySizes, IsRescaled}
use Rattle.um_answers.specs.ImageAnswer.{IsImageReply}
use Rattle.um_call_answers.specs.declared.way.Way.{Way}
use Rattle.um_call_answers.specs.AskedCall.{AskedCall}
use Rattle.um_call_answers.specs.OfCall.{OfCall}
use Rattle.um_call_answers.specs.CallAnswer.{IsCallAnswer, RunAnswer, IsOutcomeReply}
use Rattle.um_call_answers.specs.TwinAnswer.{AreValueReplies, IsStopReply, AreOutcomeReplies, TwinRunAnswer, misfit_among, InputsAnswer, TwinLiteralsAnswer, ByTwinSizes, IsTwinAnswer}
use Rattle.um_shown_answers.specs.TraceAnswer.{IsStopTold, IsTracedEnd, TracedRun, IsTraceAnswer}
use Rattle.um_display.specs.declared.unit.DisplayUnit.{DisplayUnit}
use Rattle.um_display.specs.declared.unit.UnitsStop.{UnitsStop}
use Rattle.um_display.specs.declared.unit.UnitsStop.TheVariants as units_stop
use Rattle.um_display.specs.DisplayUnits.{display_units}
use Rattle.um_shown_answers.specs.ShowAnswer.{IsDisplayedEnd, DisplayedRun, ByUnits, IsShowAnswer}
use Rattle.um_tool.specs.Headline.{names_untyped}
use Rattle.um_tool.proofs.CallsMeant.{refuted, call_fails, signature_fails}
use Rattle.um_tool.proofs.CallStages.{call_stage, twin_stage}

module _ (text : List ℕ) (status : Status) where
  abbrev Named : Type 0
  Named = IsTrue (names_untyped status)

  not_named : (wanted : Status) → status ≡ wanted → names_untyped wanted ≡ false → Named → ⊥
  not_named wanted e none named = refuted names_untyped status wanted e none named

  -- ---- texts
  pub types_not_named : (c : CheckedTree) → IsSchemeList c text status → Named → ⊥
  types_not_named c reply = not_named Done reply.1 refl

  listing_not_named : (bytes : List ℕ) (l : Listing) → IsListingReply bytes l text status → Named → ⊥
  listing_not_named bytes (listed lines) reply = not_named Done reply.1 refl
  listing_not_named bytes (past f at) reply = not_named PowerRange reply.1 refl

  pub annot_not_named : (bytes : List ℕ) (c : CheckedTree) → IsAnnotReply bytes c text status → Named → ⊥
  annot_not_named bytes c reply = listing_not_named bytes (listing bytes c.text.program c.schemes 0 c.text.program.functions c.schemes) reply

  pub code_not_named : (c : CheckedTree) → IsListing c text status → Named → ⊥
  code_not_named c reply = not_named Done reply.1 refl

  pub image_not_named : (c : CheckedTree) → IsImageReply c text status → Named → ⊥
  unfolding IsImageReply
  image_not_named c (image, is, fits, reply) = not_named Done reply.1 refl

  -- ---- calls
  outcome_not_named : (p : ProgramTree) (t : TypeTree) (o : OutcomeTree) (steps : Option ℕ) → IsOutcomeReply p t o steps text status → Named → ⊥
  outcome_not_named p t (value_outcome v) steps (inl (fits, reply)) = not_named Done reply.1 refl
  outcome_not_named p t (value_outcome v) steps (inr (unfit, reply)) = not_named PowerRange reply.1 refl
  outcome_not_named p t (trap_outcome why) steps reply = not_named Trap reply.1 refl
  outcome_not_named p t budget_outcome steps reply = not_named BudgetEnd reply.1 refl

  run_not_named : (way : Way) (budget : ℕ) (p : ProgramTree) (call : CallTree) → RunAnswer way budget p call text status → Named → ⊥
  unfolding RunAnswer
  run_not_named way budget p call (o, steps, ended, reply) = outcome_not_named p call.type o steps reply

  of_call_not_named : (Says : ProgramTree → CallTree → List ℕ → Status → Type 0) (asked : AskedCall) (c : CheckedTree) → ((call : CallTree) → Says c.text.program call text status → Named → ⊥) → OfCall Says asked c text status → Named → ⊥
  of_call_not_named Says asked c none (inl (call, named, says)) = none call says
  of_call_not_named Says asked c none (inr (refused, named, reply)) = call_fails names_untyped refl refl refl asked.texts refused text status reply

  pub call_not_named : (way : Way) (asked : AskedCall) (c : CheckedTree) → IsCallAnswer way asked c text status → Named → ⊥
  call_not_named way asked c answer =
      of_call_not_named (RunAnswer way asked.budget) asked c (run_not_named way asked.budget c.text.program) (call_stage asked c text status way answer)

  -- ---- traced calls
  told_not_named : (budget : ℕ) (bytes : List ℕ) (p : ProgramTree) (call : CallTree) (why : Stop) → IsStopTold budget bytes p call why text status → Named → ⊥
  told_not_named zero bytes p call why reply = not_named Done reply.1 refl
  told_not_named (suc budget) bytes p call why (t, stopped, same, reply) = not_named Done reply.1 refl

  end_not_named : (budget : ℕ) (bytes : List ℕ) (p : ProgramTree) (call : CallTree) (o : OutcomeTree) → IsTracedEnd budget bytes p call o text status → Named → ⊥
  end_not_named budget bytes p call (value_outcome v) (inl (fits, reply)) = not_named Done reply.1 refl
  end_not_named budget bytes p call (value_outcome v) (inr (unfit, reply)) = not_named PowerRange reply.1 refl
  end_not_named budget bytes p call (trap_outcome why) told = told_not_named budget bytes p call (trap why) told
  end_not_named budget bytes p call budget_outcome told = told_not_named budget bytes p call budget_end told

  traced_not_named : (bytes : List ℕ) (budget : ℕ) (p : ProgramTree) (call : CallTree) → TracedRun bytes budget p call text status → Named → ⊥
  unfolding TracedRun
  traced_not_named bytes budget p call (o, meant, end) = end_not_named budget bytes p call o end

  pub trace_not_named : (asked : AskedCall) (bytes : List ℕ) (c : CheckedTree) → IsTraceAnswer asked bytes c text status → Named → ⊥
  unfolding IsTraceAnswer
  trace_not_named asked bytes c answer = of_call_not_named (TracedRun bytes asked.budget) asked c (traced_not_named bytes asked.budget c.text.program) answer

  -- ---- displayed values
  displayed_not_named : (digits : ℕ) (units : List DisplayUnit) (p : ProgramTree) (t : TypeTree) (o : OutcomeTree) → IsDisplayedEnd digits units p t o text status → Named → ⊥
  displayed_not_named digits units p t (value_outcome v) (inl (fits, reply)) = not_named Done reply.1 refl
  displayed_not_named digits units p t (value_outcome v) (inr (unfit, reply)) = not_named PowerRange reply.1 refl
  displayed_not_named digits units p t (trap_outcome why) reply = not_named Trap reply.1 refl
  displayed_not_named digits units p t budget_outcome reply = not_named BudgetEnd reply.1 refl

  display_run_not_named : (digits : ℕ) (units : List DisplayUnit) (budget : ℕ) (p : ProgramTree) (call : CallTree) → DisplayedRun digits units budget p call text status → Named → ⊥
  unfolding DisplayedRun
  display_run_not_named digits units budget p call (o, meant, end) = displayed_not_named digits units p call.type o end

  by_units_not_named : (digits : ℕ) (asked : AskedCall) (c : CheckedTree) (r : Result (List DisplayUnit) UnitsStop) → ByUnits digits asked c r text status → Named → ⊥
  by_units_not_named digits asked c (Ok units) answer =
      of_call_not_named (DisplayedRun digits units asked.budget) asked c (display_run_not_named digits units asked.budget c.text.program) answer
  by_units_not_named digits asked c (Err units_stop.NoUnit) reply = not_named Input reply.1 refl
  by_units_not_named digits asked c (Err units_stop.PowerRange) reply = not_named Input reply.1 refl
  by_units_not_named digits asked c (Err units_stop.NoMemory) reply = absurd reply

  pub show_not_named : (digits : ℕ) (word : List ℕ) (asked : AskedCall) (c : CheckedTree) → IsShowAnswer digits word asked c text status → Named → ⊥
  unfolding IsShowAnswer
  show_not_named digits word asked c (parts, stated, answer) =
      by_units_not_named digits asked c (display_units (given c.text.program c.text.abbreviations) parts) answer

  -- ---- signatures
  matched_not_named : (name : List ℕ) (r : Result (Unit {0}) SigStop) → IsConformReply name r text status → Named → ⊥
  matched_not_named name (Ok done) reply = not_named Done reply.1 refl
  matched_not_named name (Err (sig_stop.Form i)) reply = not_named NotConform reply.1 refl
  matched_not_named name (Err (sig_stop.Units i)) reply = not_named NotConform reply.1 refl
  matched_not_named name (Err (sig_stop.Range i)) reply = not_named PowerRange reply.1 refl
  matched_not_named name (Err sig_stop.NoMemory) reply = absurd reply

  by_signature_not_named : (k : ℕ) (name word : List ℕ) (c : CheckedTree) (r : Result ReadSignature SigText) → BySignature k name word c r text status → Named → ⊥
  unfolding MatchingAnswer
  by_signature_not_named k name word c (Ok signature) (s, given, (r, conformed, reply)) = matched_not_named name r reply
  by_signature_not_named k name word c (Err stop) reply = signature_fails names_untyped refl refl refl word stop text status reply

  by_name_not_named : (name word : List ℕ) (c : CheckedTree) (found : Option ℕ) → MatchOption found (IsUnnamedReply text status) (λ k. SignatureAnswer k name word c text status) → Named → ⊥
  unfolding SignatureAnswer
  by_name_not_named name word c None reply = not_named Input reply.1 refl
  by_name_not_named name word c (Some k) (r, read, answer) = by_signature_not_named k name word c r answer

  pub conform_not_named : (name word : List ℕ) (c : CheckedTree) → IsConformAnswer name word c text status → Named → ⊥
  unfolding IsConformAnswer
  conform_not_named name word c answer = by_name_not_named name word c (number_of (function_names c.text.program.functions) name) answer

  -- ---- sizes
  sizes_not_named : (refused : ScalesRefusal) → IsSizesReply refused text status → Named → ⊥
  sizes_not_named scales_refusal.NoBaseUnit reply = not_named Input reply.1 refl
  sizes_not_named scales_refusal.NoMemory reply = absurd reply

  literals_not_named : (cs : List Frac) (bytes : List ℕ) (p : ProgramTree) → LiteralsAnswer cs bytes p text status → Named → ⊥
  unfolding LiteralsAnswer
  literals_not_named cs bytes p answer = by (misfit_in cs p.functions) answer where
    by : (m : Option ℕ) → MatchOption m (IsRescaledText bytes (rescaled_program cs p) text × (status ≡ Done)) (λ at. IsLiteralReply bytes at text status) → Named → ⊥
    by None says = not_named Done says.1 refl
    by (Some at) reply = not_named ScaleRange reply.1 refl

  by_sizes_not_named : (bytes : List ℕ) (p : ProgramTree) (r : Result (List Frac) ScalesRefusal) → BySizes bytes p r text status → Named → ⊥
  by_sizes_not_named bytes p (Ok cs) answer = literals_not_named cs bytes p answer
  by_sizes_not_named bytes p (Err refused) reply = sizes_not_named refused reply

  pub rescale_not_named : (word bytes : List ℕ) (c : CheckedTree) → IsRescaled word bytes c text status → Named → ⊥
  unfolding IsRescaled
  rescale_not_named word bytes c (r, read, answer) = by_sizes_not_named bytes c.text.program r answer

  -- ---- calls in two sizes
  stop_not_named : (run : List ℕ) (o : OutcomeTree) → IsStopReply run o text status → Named → ⊥
  stop_not_named run (value_outcome v) reply = absurd reply
  stop_not_named run (trap_outcome why) reply = not_named Trap reply.1 refl
  stop_not_named run budget_outcome reply = not_named BudgetEnd reply.1 refl

  values_not_named : (p : ProgramTree) (t : TypeTree) (v w : ValueTree) → AreValueReplies p t v w text status → Named → ⊥
  values_not_named p t v w (inl (fits, inl (also, reply))) = not_named Done reply.1 refl
  values_not_named p t v w (inl (fits, inr (unfit, reply))) = not_named PowerRange reply.1 refl
  values_not_named p t v w (inr (unfit, reply)) = not_named PowerRange reply.1 refl

  outcomes_not_named : (p : ProgramTree) (t : TypeTree) (o e : OutcomeTree) → AreOutcomeReplies p t o e text status → Named → ⊥
  outcomes_not_named p t (value_outcome v) (value_outcome w) replies = values_not_named p t v w replies
  outcomes_not_named p t (value_outcome v) (trap_outcome why) reply = stop_not_named (codes "second") (trap_outcome why) reply
  outcomes_not_named p t (value_outcome v) budget_outcome reply = stop_not_named (codes "second") budget_outcome reply
  outcomes_not_named p t (trap_outcome why) e reply = stop_not_named (codes "first") (trap_outcome why) reply
  outcomes_not_named p t budget_outcome e reply = stop_not_named (codes "first") budget_outcome reply

  runs_not_named : (budget : ℕ) (cs : List Frac) (p : ProgramTree) (call : CallTree) → TwinRunAnswer budget cs p call text status → Named → ⊥
  unfolding TwinRunAnswer
  runs_not_named budget cs p call (o, ended, e, also, replies) = outcomes_not_named p call.type o e replies

  inputs_not_named : (budget : ℕ) (cs : List Frac) (p : ProgramTree) (call : CallTree) → InputsAnswer budget cs p call text status → Named → ⊥
  unfolding InputsAnswer
  inputs_not_named budget cs p call answer = by (misfit_among cs call.inputs) answer where
    by : (m : Option ℕ) → MatchOption m (TwinRunAnswer budget cs p call text status) (λ k. IsMisfitReply k text status) → Named → ⊥
    by None says = runs_not_named budget cs p call says
    by (Some k) reply = not_named ScaleRange reply.1 refl

  twin_literals_not_named : (budget : ℕ) (cs : List Frac) (bytes : List ℕ) (p : ProgramTree) (call : CallTree) → TwinLiteralsAnswer budget cs bytes p call text status → Named → ⊥
  unfolding TwinLiteralsAnswer
  twin_literals_not_named budget cs bytes p call answer = by (misfit_in cs p.functions) answer where
    by : (m : Option ℕ) → MatchOption m (InputsAnswer budget cs p call text status) (λ at. IsLiteralReply bytes at text status) → Named → ⊥
    by None says = inputs_not_named budget cs p call says
    by (Some at) reply = not_named ScaleRange reply.1 refl

  by_twin_sizes_not_named : (asked : AskedCall) (bytes : List ℕ) (c : CheckedTree) (r : Result (List Frac) ScalesRefusal) → ByTwinSizes asked bytes c r text status → Named → ⊥
  by_twin_sizes_not_named asked bytes c (Ok cs) answer =
      of_call_not_named (TwinLiteralsAnswer asked.budget cs bytes) asked c (twin_literals_not_named asked.budget cs bytes c.text.program) (twin_stage asked c text status cs bytes answer)
  by_twin_sizes_not_named asked bytes c (Err refused) reply = sizes_not_named refused reply

  pub twin_not_named : (word : List ℕ) (asked : AskedCall) (bytes : List ℕ) (c : CheckedTree) → IsTwinAnswer word asked bytes c text status → Named → ⊥
  unfolding IsTwinAnswer
  twin_not_named word asked bytes c (r, read, answer) = by_twin_sizes_not_named asked bytes c r answer
