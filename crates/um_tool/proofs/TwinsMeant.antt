-- What answers to `rescale` and `twin` say of the program that the bytes spell.
use Rattle.std.proofs.Common.{◌≡◌, ℕ, ◌≤◌, IsTrue, List, length, map, Option, Result, Ok, Err, Some, None, MatchOption, inl, inr, refl, sym, ap, subst, ◌∙◌}
use Rattle.um_frac.specs.declared.number.Frac.{Frac}
use Rattle.um_syntax.specs.declared.token.Token.{Token}
use Rattle.um_tree.specs.RawTree.{DeclSyntax}
use Rattle.um_tree.specs.ValueTree.{without_units}
use Rattle.um_tree.specs.ProgramTree.{ProgramTree}
use Rattle.um_tree.specs.Meaning.{outcome_of_call}
use Rattle.um_scaling.proofs.ScalingLaw.{scaling_law}
use Rattle.um_vm.proofs.Calls.{run_is_meant}
use Rattle.um_scale.specs.Sizes.{AreSizes, sizes}
use Rattle.um_scale.specs.RescaledLiterals.{misfit_in, rescaled_program}
use Rattle.um_scale.specs.RescaledInputs.{rescaled_input}
use Rattle.um_scale.specs.RescaledText.{respelled, IsRescaledText}
use Rattle.um_scale.proofs.RescaledTexts.{texts_are_unique}
use Rattle.um_scale.proofs.SizeFactors.{sizes_positive}
use Rattle.um_scale.proofs.Rescaled.{program_rescaled}
use Rattle.um_rescaled.specs.NumberLaws.{rescaled_numbers, Spells}
use Rattle.um_rescaled.specs.UnplacedPrograms.{unplaced_program}
use Rattle.um_rescaled.specs.PlaceLaws.{RescaledTextsAreRead as RescaledTextsAreReadAgain}
use Rattle.um_scale.proofs.RescaledCalls.{all_rescaled, twins_are_scaled, twins_have_free_zeros}
use Rattle.um_sizes.specs.declared.read.ScalesRefusal.{ScalesRefusal}
use Rattle.um_sizes.specs.declared.read.ScalesRefusal.TheVariants.{NoBaseUnit, NoMemory}
use Rattle.um_sizes.specs.BaseSizes.{AreScalesRead}
use Rattle.um_sizes.proofs.UniqueSizes.{scales_are_positive}
use Rattle.um_run.specs.Calls.{CallTree, call_values}
use Rattle.um_run.proofs.CallLaws.{calls_are_typed}
use Rattle.um_orders.specs.declared.order.Order.TheVariants.{Rescale}
use Rattle.um_orders.specs.Orders.{order_of}
use Rattle.um_reports.specs.declared.status.Status.{Status}
use Rattle.um_reports.specs.declared.status.Status.TheVariants.{Done, Input, ScaleRange}
use Rattle.um_reports.specs.ScaleRefusals.{IsLiteralReply, IsMisfitReply}
use Rattle.um_front.specs.Stages.{ShapedTree, IsShapedText, CheckedTree, IsCheckedText}
use Rattle.um_front.proofs.CheckedTexts.{checked_is_known, schemes_are_principal}
use Rattle.um_front.proofs.StageLaws.{checked_reached}
use Rattle.um_answers.specs.RescaleAnswer.{LiteralsAnswer, BySizes, IsRescaled, RescaleAnswer}
use Rattle.um_call_answers.specs.AskedCall.{AskedCall}
use Rattle.um_call_answers.specs.OfCall.{IsAskedCall}
use Rattle.um_call_answers.specs.TwinAnswer.{TwinRunAnswer, misfit_among, rescaled_values, InputsAnswer, TwinLiteralsAnswer, SizedAnswer, ByTwinSizes, IsTwinAnswer, TwinAnswer}
use Rattle.um_call_answers.proofs.CallEnds.{checked_shaped}
use Rattle.um_call_answers.proofs.EndsAsMeant.{second_is_meant}
use Rattle.um_call_answers.proofs.TwinArguments.{all_fit}
use Rattle.um_tool.specs.Asked.{rescale_sizes, twin_sizes, called_twice}
use Rattle.um_tool.specs.Answer.{Answer}
use Rattle.um_tool.specs.CallLaws.{ends_a_call}
use Rattle.um_tool.specs.ScaleLaws.{InSizes, RescaledTextsAreRescaled, RescaledTextsAreRead, IsTwinCall, EndedTwinsAreRelated}
use Rattle.um_tool.proofs.CallsMeant.{refuted, late_ends, call_refusal}

-- the program in the sizes that a word states
abbrev in_sizes : (word bytes : List ℕ) (c : CheckedTree) → IsCheckedText bytes c → (cs : List Frac) → AreScalesRead c.text.program.bases word (Ok cs) → misfit_in cs c.text.program.functions ≡ None → InSizes word bytes
in_sizes word bytes c is cs read fit = record {
  checked = c;
  spelled = is;
  scales = cs;
  read = read;
  fit = fit;
  other = rescaled_program cs c.text.program;
  rescaled = program_rescaled cs (scales_are_positive c.text.program.bases word cs read) c.text.program fit;
}

-- ---- `rescale`
module _ (word bytes text : List ℕ) where
  abbrev pub IsInSizes : Type 0
  IsInSizes =
      (s : InSizes word bytes) × (s.other ≡ rescaled_program s.scales s.checked.text.program) × IsRescaledText bytes s.other text

  sized_says : (c : CheckedTree) → IsCheckedText bytes c → (cs : List Frac) → AreScalesRead c.text.program.bases word (Ok cs) → LiteralsAnswer cs bytes c.text.program text Done → IsInSizes
  unfolding LiteralsAnswer
  sized_says c is cs read answer = by (misfit_in cs c.text.program.functions) refl answer where
    by : (m : Option ℕ) → misfit_in cs c.text.program.functions ≡ m → MatchOption m (IsRescaledText bytes (rescaled_program cs c.text.program) text × (Done ≡ Done)) (λ at. IsLiteralReply bytes at text Done) → IsInSizes
    by None fit says = (in_sizes word bytes c is cs read fit, refl, says.0)
    by (Some at) misfit reply = absurd (cc reply.1)

  by_sizes_says : (c : CheckedTree) → IsCheckedText bytes c → (r : Result (List Frac) ScalesRefusal) → AreScalesRead c.text.program.bases word r → BySizes bytes c.text.program r text Done → IsInSizes
  by_sizes_says c is (Ok cs) read answer = sized_says c is cs read answer
  by_sizes_says c is (Err NoBaseUnit) read reply = absurd (cc reply.1)
  by_sizes_says c is (Err NoMemory) read reply = absurd reply

  checked_says : (c : CheckedTree) → IsCheckedText bytes c → IsRescaled word bytes c text Done → IsInSizes
  unfolding IsRescaled
  checked_says c is (r, read, answer) = by_sizes_says c is r read answer

  answered_says : RescaleAnswer word bytes text Done → IsInSizes
  unfolding RescaleAnswer
  answered_says answer =
      let r = checked_reached (IsRescaled word bytes) bytes text Done refl answer in
      checked_says r.0 r.1 r.2

  pub read_again : RescaledTextsAreReadAgain → (s : InSizes word bytes) → s.other ≡ rescaled_program s.scales s.checked.text.program → IsRescaledText bytes s.other text
      → (tokens : List Token) × (raw : List DeclSyntax) × (again : ShapedTree) × Spells text tokens raw again.program × (unplaced_program again.program ≡ unplaced_program s.other) × (again.abbreviations ≡ s.checked.text.abbreviations) × (length text ≤ 1048576 → IsShapedText text again)
  read_again law s same is =
      let c = s.checked.text in
      let w = s.spelled.shaped in
      let tokens = w.written.tokens in
      let other = rescaled_program s.scales c.program in
      let new = respelled bytes (rescaled_numbers s.scales c.program) 0 tokens in
      let spelled : Spells bytes tokens w.raw c.program = record { lexed = w.written.lexed; read = w.written.read.is; resolved = w.resolved } in
      let out = law bytes tokens w.raw c.program s.scales (scales_are_positive c.program.bases word s.scales s.read) spelled in
      let own : IsRescaledText bytes other new = (tokens, w.written.lexed.1, refl) in
      let text_is : text ≡ new = texts_are_unique bytes other text new (subst (λ q. IsRescaledText bytes q text) same is) own in
      let again : ShapedTree = record { program = out.2; abbreviations = c.abbreviations } in
      let spells : Spells text out.0 out.1 out.2 = subst (λ b. Spells b out.0 out.1 out.2) (sym text_is) out.3 in
      let shaped : length text ≤ 1048576 → IsShapedText text again = λ short. record {
        raw = out.1;
        written = record { short = short; tokens = out.0; lexed = spells.lexed; read = out.6 w.written.read };
        resolved = spells.resolved;
        abbreviated = out.5 ∙ w.abbreviated;
        faultless = out.7 s.fit w.faultless;
      } in
      (out.0, out.1, again, spells, out.4 ∙ ap unplaced_program (sym same), refl, shaped)

pub found_sizes : (words : List (List ℕ)) (bytes text : List ℕ) → order_of words ≡ Some Rescale → Answer words bytes text Done → IsInSizes (rescale_sizes words) bytes text
unfolding Answer
found_sizes words bytes text ordered answer =
    let given : RescaleAnswer (rescale_sizes words) bytes text Done = rw ordered at answer in
    answered_says (rescale_sizes words) bytes text given

pub rescaled_texts_are_rescaled : RescaledTextsAreRescaled
rescaled_texts_are_rescaled words bytes text ordered answer = let r = found_sizes words bytes text ordered answer in (r.0, r.2)

pub rescaled_texts_are_read : RescaledTextsAreReadAgain → RescaledTextsAreRead
rescaled_texts_are_read law words bytes text ordered answer =
    let r = found_sizes words bytes text ordered answer in
    let q = read_again (rescale_sizes words) bytes text law r.0 r.1 r.2 in
    (r.0, q.0, q.1, q.2, q.3, q.4, q.5, q.6)

-- ---- `twin`

-- both runs of a call whose numbers have rescaled ones in range
module _ (word : List ℕ) (asked : AskedCall) (bytes text : List ℕ) (status : Status) (c : CheckedTree) (is : IsCheckedText bytes c) (cs : List Frac) (read : AreScalesRead c.text.program.bases word (Ok cs)) where
  pub runs_related : (call : CallTree) → IsAskedCall asked c call → misfit_in cs c.text.program.functions ≡ None → misfit_among cs call.inputs ≡ None → TwinRunAnswer asked.budget cs c.text.program call text status → IsTwinCall word asked bytes text status
  unfolding TwinRunAnswer
  runs_related call named fit all (o, ended, e, ended_too, printed) =
      let p = c.text.program in
      let known = checked_is_known bytes c is in
      let typed = calls_are_typed p c.text.abbreviations c.schemes asked.name asked.texts known call named in
      let above : AreSizes cs = scales_are_positive p.bases word cs read in
      let q = rescaled_program cs p in
      let rescaled = program_rescaled cs above p fit in
      let inputs = all_rescaled cs above call.inputs (all_fit cs call.inputs all) in
      let js = map (rescaled_input cs) call.inputs in
      let meant = run_is_meant p call.function (call_values call) typed.arguments asked.budget o (checked_shaped bytes c is) ended in
      let also = second_is_meant word asked bytes c cs call is read named fit all e ended_too in
      record {
        both = in_sizes word bytes c is cs read fit;
        principal = schemes_are_principal bytes c is;
        call = call;
        named = named;
        typed = typed;
        fit = all;
        others = js;
        rescaled = inputs;
        first = o;
        meant = meant;
        second = e;
        also_meant = also;
        related =
            twins_are_scaled p q (sizes cs) call.function call.inputs js call.type o e known.formed rescaled inputs typed.type
            (λ f r g t s. scaling_law p q (sizes cs) call.function g (map without_units call.inputs) (map without_units js) asked.budget o e f (sizes_positive cs above) r t s meant also);
        free_zeros = λ v w first second.
            twins_have_free_zeros p q (sizes cs) call.function call.inputs js call.type asked.budget v w (sizes_positive cs above) known.formed rescaled typed.inputs inputs typed.type
            (subst (λ x. outcome_of_call p call.function (call_values call) asked.budget ≡ Some x) first meant)
            (subst (λ x. outcome_of_call q call.function (rescaled_values cs call) asked.budget ≡ Some x) second also);
        printed = printed;
      }

module _ (word : List ℕ) (asked : AskedCall) (bytes text : List ℕ) (status : Status) (ends : IsTrue (ends_a_call status)) where
  abbrev IsRelated : Type 0
  IsRelated = IsTwinCall word asked bytes text status

  module _ (c : CheckedTree) (is : IsCheckedText bytes c) (cs : List Frac) (read : AreScalesRead c.text.program.bases word (Ok cs)) where
    abbrev p : ProgramTree
    p = c.text.program

    inputs_related : (call : CallTree) → IsAskedCall asked c call → misfit_in cs p.functions ≡ None → InputsAnswer asked.budget cs p call text status → IsRelated
    unfolding InputsAnswer
    inputs_related call named fit answer = by (misfit_among cs call.inputs) refl answer where
      by : (m : Option ℕ) → misfit_among cs call.inputs ≡ m → MatchOption m (TwinRunAnswer asked.budget cs p call text status) (λ k. IsMisfitReply k text status) → IsRelated
      by None all says = runs_related word asked bytes text status c is cs read call named fit all says
      by (Some k) misfit reply = absurd (refuted ends_a_call status ScaleRange reply.1 refl ends)

    literals_related : (call : CallTree) → IsAskedCall asked c call → TwinLiteralsAnswer asked.budget cs bytes p call text status → IsRelated
    unfolding TwinLiteralsAnswer
    literals_related call named answer = by (misfit_in cs p.functions) refl answer where
      by : (m : Option ℕ) → misfit_in cs p.functions ≡ m → MatchOption m (InputsAnswer asked.budget cs p call text status) (λ at. IsLiteralReply bytes at text status) → IsRelated
      by None fit says = inputs_related call named fit says
      by (Some at) misfit reply = absurd (refuted ends_a_call status ScaleRange reply.1 refl ends)

    sized_related : SizedAnswer cs asked bytes c text status → IsRelated
    unfolding SizedAnswer
    sized_related (inl (call, named, answer)) = literals_related call named answer
    sized_related (inr (refused, named, reply)) = absurd (call_refusal asked.texts refused text status reply ends)

  sizes_related : (c : CheckedTree) → IsCheckedText bytes c → (r : Result (List Frac) ScalesRefusal) → AreScalesRead c.text.program.bases word r → ByTwinSizes asked bytes c r text status → IsRelated
  sizes_related c is (Ok cs) read answer = sized_related c is cs read answer
  sizes_related c is (Err NoBaseUnit) read reply = absurd (refuted ends_a_call status Input reply.1 refl ends)
  sizes_related c is (Err NoMemory) read reply = absurd reply

  checked_related : (c : CheckedTree) → IsCheckedText bytes c → IsTwinAnswer word asked bytes c text status → IsRelated
  unfolding IsTwinAnswer
  checked_related c is (r, read, answer) = sizes_related c is r read answer

  answered_related : TwinAnswer word asked bytes text status → IsRelated
  unfolding TwinAnswer
  answered_related answer =
      let r = checked_reached (IsTwinAnswer word asked bytes) bytes text status (late_ends status ends) answer in
      checked_related r.0 r.1 r.2

pub ended_twins_are_related : EndedTwinsAreRelated
unfolding Answer
ended_twins_are_related budget words bytes text status ordered answer ends =
    let given : TwinAnswer (twin_sizes words) (called_twice budget words) bytes text status = rw ordered at answer in
    answered_related (twin_sizes words) (called_twice budget words) bytes text status ends given
