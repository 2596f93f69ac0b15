-- What is said of a call of a text's program, by each command that calls a function.
use Rattle.std.proofs.Common.{◌≡◌, ◌≢◌, inl, inr, ℕ, zero, suc, List, [], ◌∷◌, codes, get_or, Option, Some, None, refl, sym, ap, ◌∙◌}
use Rattle.std.specs.Prelude.{◌-◌, Result, Ok, Err}
use Rattle.um_elim.proofs.Cases.{on_test}
use Rattle.um_frac.specs.declared.number.Trap.{Trap}
use Rattle.um_syntax.specs.Laws.{EachTextIsAnswered}
use Rattle.um_tree.specs.ValueTree.{ValueTree, OutcomeTree, value_outcome, trap_outcome, budget_outcome}
use Rattle.um_tree.specs.ProgramTree.{ProgramTree}
use Rattle.um_tree.specs.Meaning.{Out, gives, stops, Stop, trap, budget_end, wrong, end_of, Outcome, outcome_of_call}
use Rattle.um_eval.specs.Laws.{IsStop, StopsHaveTraces}
use Rattle.um_show.specs.ValueText.{parts_fit}
use Rattle.um_shape.specs.Laws.{FaultlessIsShaped}
use Rattle.um_gen.specs.Laws.{CodeEndsAsMeant}
use Rattle.um_units.specs.PowerMap.{PowerMap}
use Rattle.um_measures.specs.Faults.{Fault, unknown, twice, wrong_count, hole, range, Found}
use Rattle.um_measures.specs.Known.{Known, measure_unit}
use Rattle.um_measures.specs.UnitNames.{resolved_unit}
use Rattle.um_measures.specs.ClosedUnits.{given}
use Rattle.um_value.specs.declared.stop.InputStop.{InputStop}
use Rattle.um_value.specs.declared.stop.InputStop.TheVariants as input_stop
use Rattle.um_display.specs.declared.unit.DisplayUnit.{DisplayUnit}
use Rattle.um_display.specs.declared.unit.UnitsStop.{UnitsStop}
use Rattle.um_display.specs.declared.unit.UnitsStop.TheVariants as units_stop
use Rattle.um_display.specs.UnitWords.{PartSyntax, IsUnitWord}
use Rattle.um_display.specs.DisplayUnits.{units_fault, unit_of_part, before_others, part_unit, part_units, display_units}
use Rattle.um_display.specs.DisplayText.{display_text}
use Rattle.um_run.specs.declared.call.CallRefusal.{CallRefusal}
use Rattle.um_run.specs.declared.call.CallRefusal.TheVariants as refusal
use Rattle.um_run.specs.Calls.{CallTree, call_values, IsCallOf}
use Rattle.um_run.proofs.CallLaws.{calls_are_typed}
use Rattle.um_reports.specs.declared.status.Status.{Status}
use Rattle.um_reports.specs.declared.status.Status.TheVariants.{Done, Limit, PowerRange, Input, BudgetEnd}
use Rattle.um_reports.specs.declared.status.Status.TheVariants.{Trap as Trapped}
use Rattle.um_reports.specs.CallRefusals.{positioned, argument_label, IsArgumentReply, IsCallReply, trap_line}
use Rattle.um_reports.specs.Steps.{line}
use Rattle.um_front.specs.Stages.{CheckedTree, IsCheckedText}
use Rattle.um_front.proofs.CheckedTexts.{shaped_is_formed, checked_is_known}
use Rattle.um_call_answers.specs.declared.way.Way.{Way}
use Rattle.um_call_answers.specs.declared.way.Way.TheVariants as way
use Rattle.um_call_answers.specs.AskedCall.{AskedCall}
use Rattle.um_call_answers.specs.OfCall.{IsAskedCall, OfCall}
use Rattle.um_call_answers.specs.CallAnswer.{RunAnswer, IsCallAnswer, CallAnswer}
use Rattle.um_call_answers.specs.BigAnswer.{last_call, run_told, IsBigAnswer, BigAnswer}
use Rattle.um_call_answers.specs.BigText.{big_text}
use Rattle.um_shown_answers.specs.TraceText.{stop_label, trace_text}
use Rattle.um_shown_answers.specs.TraceAnswer.{IsStopTold, IsTracedEnd, TracedRun, IsTraceAnswer, TraceAnswer}
use Rattle.um_shown_answers.specs.ShowAnswer.{IsDisplayedEnd, DisplayedRun, ByUnits, IsShowAnswer, ShowAnswer}
use Rattle.um_all_answers.specs.TextLaws.{EachTextHasStages}
use Rattle.um_all_answers.proofs.Answers.{Told, of_checked}
use Rattle.um_all_answers.specs.CallLaws.{CallsHaveAnswers, TracesHaveAnswers, DisplaysHaveAnswers, GeneratedProgramsHaveAnswers}
use Rattle.um_all_answers.proofs.Named.{call_or_refusal}
use Rattle.um_all_answers.proofs.Outcomes.{Ended, each_ends, value_told, outcome_told, ends_by}

-- ---- refusals of words

pub argument_told : (index : ℕ) (word : List ℕ) (stop : InputStop) → stop ≢ input_stop.NoMemory → Told (IsArgumentReply index word stop)
argument_told index word (input_stop.Text at) some = (positioned (argument_label index (codes "text")) word at, Input, (refl, refl))
argument_told index word (input_stop.Shape at) some = (positioned (argument_label index (codes "shape")) word at, Input, (refl, refl))
argument_told index word (input_stop.Names at) some = (positioned (argument_label index (codes "name")) word at, Input, (refl, refl))
argument_told index word (input_stop.PowerRange at) some = (positioned (argument_label index (codes "power range")) word at, Input, (refl, refl))
argument_told index word input_stop.NoMemory some = absurd (some refl)

module _ (asked : AskedCall) (c : CheckedTree) where
  abbrev Asks : Result CallTree CallRefusal → Type 0
  Asks r = IsCallOf c.text.program c.text.abbreviations c.schemes asked.name asked.texts r

  refusal_told : (why : CallRefusal) → why ≢ refusal.NoMemory → Asks (Err why) → Told (IsCallReply asked.texts why)
  refusal_told refusal.NoFunction some is = (line (codes "error 11: no such function"), Input, (refl, refl))
  refusal_told refusal.WrongCount some is = (line (codes "error 11: wrong number of arguments"), Input, (refl, refl))
  refusal_told (refusal.Argument index stop) some (k, f, named, (many, first)) = argument_told index (get_or asked.texts index []) stop first.cause
  refusal_told refusal.Units some is = (line (codes "error 11: units of the arguments"), Input, (refl, refl))
  refusal_told refusal.PowerRange some is = (line (codes "error 10: power range of the call"), PowerRange, (refl, refl))
  refusal_told refusal.Slots some is = (line (codes "error 6: limit slots in the call"), Limit, (refl, refl))
  refusal_told refusal.NoMemory some is = absurd (some refl)

  -- what is said of the call, or the refusal
  module _ (Says : ProgramTree → CallTree → List ℕ → Status → Type 0) (said : (call : CallTree) → IsAskedCall asked c call → Told (Says c.text.program call)) where
    by_answer : (r : Result CallTree CallRefusal) → r ≢ Err refusal.NoMemory → Asks r → Told (OfCall Says asked c)
    by_answer (Ok call) some is = let (text, status, says) = said call is in (text, status, inl (call, is, says))
    by_answer (Err why) some is = let (text, status, reply) = refusal_told why (λ same. some (ap (λ (x : CallRefusal). Err x) same)) is in (text, status, inr (why, is, reply))

    pub of_call : EachTextIsAnswered → (bytes : List ℕ) → IsCheckedText bytes c → Told (OfCall Says asked c)
    of_call each bytes checked =
        let (r, some, is) = call_or_refusal each c.text.program c.text.abbreviations c.schemes (shaped_is_formed bytes c.text checked.shaped) asked.name asked.texts in
        by_answer r some is

  -- a call that the words name has an outcome
  pub asked_ends : FaultlessIsShaped → CodeEndsAsMeant → (bytes : List ℕ) → IsCheckedText bytes c → (call : CallTree) → IsAskedCall asked c call → Ended c.text.program call.function (call_values call) asked.budget
  asked_ends shaped law bytes checked call named =
      let typed = calls_are_typed c.text.program c.text.abbreviations c.schemes asked.name asked.texts (checked_is_known bytes c checked) call named in
      each_ends law c.text.program (shaped c.text.program checked.shaped.faultless) call.function (call_values call) asked.budget typed.arguments

-- ---- how calls stop

trap_is : (r : Out ValueTree) (why : Trap) → end_of r ≡ Some (trap_outcome why) → r ≡ stops (trap why)
trap_is (gives v b) why e = absurd (cc e)
trap_is (stops (trap t)) why e = let same : t ≡ why = cc e in ap (λ x. stops (trap x)) same
trap_is (stops budget_end) why e = absurd (cc e)
trap_is (stops wrong) why e = absurd (cc e)

budget_is : (r : Out ValueTree) → end_of r ≡ Some budget_outcome → r ≡ stops budget_end
budget_is (gives v b) e = absurd (cc e)
budget_is (stops (trap t)) e = absurd (cc e)
budget_is (stops budget_end) e = refl
budget_is (stops wrong) e = absurd (cc e)

module _ (traced : StopsHaveTraces) (bytes : List ℕ) (p : ProgramTree) (call : CallTree) where
  stop_told : (budget : ℕ) (why : Stop) → IsStop why → Outcome p.functions call.function (call_values call) budget ≡ stops why → Told (IsStopTold budget bytes p call why)
  stop_told zero why is e = (line (stop_label why), Done, (refl, refl))
  stop_told (suc budget) why is e =
      let (t, ended, same) = traced p.functions call.function (call_values call) budget why is e in
      (trace_text p.functions bytes t, Done, (t, ended, same, (refl, refl)))

  traced_told : (budget : ℕ) (o : OutcomeTree) → outcome_of_call p call.function (call_values call) budget ≡ Some o → Told (IsTracedEnd budget bytes p call o)
  traced_told budget (value_outcome v) e = value_told p call.type v None
  traced_told budget (trap_outcome why) e = stop_told budget (trap why) tt (trap_is (Outcome p.functions call.function (call_values call) budget) why e)
  traced_told budget budget_outcome e = stop_told budget budget_end tt (budget_is (Outcome p.functions call.function (call_values call) budget) e)

-- ---- in chosen units

displayed_told : (digits : ℕ) (units : List DisplayUnit) (p : ProgramTree) (call : CallTree) (o : OutcomeTree) → Told (IsDisplayedEnd digits units p call.type o)
displayed_told digits units p call (value_outcome v) =
    on_test (parts_fit p v call.type)
    (λ fits. (line (display_text p digits units v call.type), Done, inl (fits, (refl, refl))))
    (λ passes. (line (codes "error 10: power range of the call"), PowerRange, inr ((λ fits. cc (sym fits ∙ passes)), (refl, refl))))
displayed_told digits units p call (trap_outcome why) = (trap_line why, Trapped, (refl, refl))
displayed_told digits units p call budget_outcome = (line (codes "error 13: budget"), BudgetEnd, (refl, refl))

-- the units of a word in a program are units, or a fault of theirs
fault_told : (f : Fault) → units_fault f ≢ units_stop.NoMemory
fault_told (range at) e = cc e
fault_told (unknown at) e = cc e
fault_told (twice at) e = cc e
fault_told (wrong_count at) e = cc e
fault_told (hole at) e = cc e

abbrev HasMemory : {A : Type 0} → Result A UnitsStop → Type 0
HasMemory r = r ≢ Err units_stop.NoMemory

part_has_memory : (part : PartSyntax) (r : Found PowerMap) → HasMemory (unit_of_part part r)
part_has_memory part (Ok u) e = cc e
part_has_memory part (Err f) e = fault_told f (cc e)

others_have_memory : (one : Result DisplayUnit UnitsStop) (others : Result (List DisplayUnit) UnitsStop) → HasMemory one → HasMemory others → HasMemory (before_others one others)
others_have_memory (Err f) others first later e = let same : f ≡ units_stop.NoMemory = cc e in first (ap (λ (x : UnitsStop). Err x) same)
others_have_memory (Ok unit) (Err f) first later e = let same : f ≡ units_stop.NoMemory = cc e in later (ap (λ (x : UnitsStop). Err x) same)
others_have_memory (Ok unit) (Ok units) first later e = cc e

parts_have_memory : (measures : List ℕ → Option PowerMap) (parts : List PartSyntax) → HasMemory (part_units measures parts)
parts_have_memory measures [] e = cc e
parts_have_memory measures (part ∷ parts) e =
    others_have_memory (part_unit measures part) (part_units measures parts) (part_has_memory part (resolved_unit measures [] part.unit)) (parts_have_memory measures parts) e

units_have_memory : (known : Known) (parts : List PartSyntax) → HasMemory (display_units known parts)
units_have_memory known parts = parts_have_memory (measure_unit known) parts

-- ---- the commands
module _ (each : EachTextIsAnswered) (stages : EachTextHasStages) (shaped : FaultlessIsShaped) (law : CodeEndsAsMeant) where
  module _ (asked : AskedCall) (bytes : List ℕ) (c : CheckedTree) (is : IsCheckedText bytes c) where
    run_told_by : (w : Way) (call : CallTree) → IsAskedCall asked c call → Told (RunAnswer w asked.budget c.text.program call)
    unfolding RunAnswer
    run_told_by w call named =
        let (o, meant, ends) = asked_ends asked c shaped law bytes is call named in
        let (steps, ended) = ends_by w asked.budget c.text.program call o meant ends in
        let (text, status, reply) = outcome_told c.text.program call.type o steps in
        (text, status, (o, steps, ended, reply))

    pub call_told : (w : Way) → Told (IsCallAnswer w asked c)
    unfolding IsCallAnswer
    call_told w = of_call asked c (RunAnswer w asked.budget) (run_told_by w) each bytes is

    trace_told : StopsHaveTraces → (call : CallTree) → IsAskedCall asked c call → Told (TracedRun bytes asked.budget c.text.program call)
    unfolding TracedRun
    trace_told traced call named =
        let (o, meant, ends) = asked_ends asked c shaped law bytes is call named in
        let (text, status, reply) = traced_told traced bytes c.text.program call asked.budget o meant in
        (text, status, (o, meant, reply))

    traced_call : StopsHaveTraces → Told (IsTraceAnswer asked bytes c)
    unfolding IsTraceAnswer
    traced_call traced = of_call asked c (TracedRun bytes asked.budget) (trace_told traced) each bytes is

    module _ (digits : ℕ) where
      display_told : (units : List DisplayUnit) (call : CallTree) → IsAskedCall asked c call → Told (DisplayedRun digits units asked.budget c.text.program call)
      unfolding DisplayedRun
      display_told units call named =
          let (o, meant, ends) = asked_ends asked c shaped law bytes is call named in
          let (text, status, reply) = displayed_told digits units c.text.program call o in
          (text, status, (o, meant, reply))

      by_units : (r : Result (List DisplayUnit) UnitsStop) → r ≢ Err units_stop.NoMemory → Told (ByUnits digits asked c r)
      by_units (Ok units) some = of_call asked c (DisplayedRun digits units asked.budget) (display_told units) each bytes is
      by_units (Err units_stop.NoUnit) some = (line (codes "error 11: no such unit"), Input, (refl, refl))
      by_units (Err units_stop.PowerRange) some = (line (codes "error 11: power range of the units"), Input, (refl, refl))
      by_units (Err units_stop.NoMemory) some = absurd (some refl)

      displayed_call : (word : List ℕ) (parts : List PartSyntax) → IsUnitWord word parts → Told (IsShowAnswer digits word asked c)
      unfolding IsShowAnswer
      displayed_call word parts stated =
          let known = given c.text.program c.text.abbreviations in
          let (text, status, reply) = by_units (display_units known parts) (units_have_memory known parts) in
          (text, status, (parts, stated, reply))

  pub calls_have_answers : CallsHaveAnswers
  unfolding CallAnswer
  calls_have_answers w asked bytes = of_checked bytes (IsCallAnswer w asked) (λ c is. call_told asked bytes c is w) (stages bytes).1

  pub traces_have_answers : StopsHaveTraces → TracesHaveAnswers
  unfolding TraceAnswer
  traces_have_answers traced asked bytes = of_checked bytes (IsTraceAnswer asked bytes) (λ c is. traced_call asked bytes c is traced) (stages bytes).1

  pub displays_have_answers : DisplaysHaveAnswers
  unfolding ShowAnswer
  displays_have_answers digits word parts asked bytes stated =
      of_checked bytes (IsShowAnswer digits word asked) (λ c is. displayed_call asked bytes c is digits word parts stated) (stages bytes).1

  module _ (n : ℕ) where
    big_told : (c : CheckedTree) → IsCheckedText (big_text n) c → Told (IsBigAnswer n c)
    unfolding IsBigAnswer
    big_told c is =
        let (run, status, answer) = call_told (last_call (n - 1)) (big_text n) c is way.Code in
        (run_told n c.text.program c.schemes run status, status, (run, answer, refl))

  pub generated_programs_have_answers : GeneratedProgramsHaveAnswers
  unfolding BigAnswer
  generated_programs_have_answers n = of_checked (big_text n) (IsBigAnswer n) (big_told n) (stages (big_text n)).1
