-- What answers to calls and to signatures say of the program that the bytes spell.
use Rattle.std.proofs.Common.{◌≡◌, ◌⊎◌, ℕ, Bool, false, IsTrue, List, ◌++◌, codes, map, length, chars, get_or, Result, Ok, Err, Some, None, MatchOption, [], ◌∷◌, inl, inr, refl, sym, ap, subst, ◌∙◌}
use Rattle.std.specs.declared.option.Option.{Option}
use Rattle.um_tree.specs.TypeTree.{TypeTree, type_trees}
use Rattle.um_tree.specs.ValueTree.{InputTree, values_in_order, more_values, inputs_in_order, without_units, without_units_each}
use Rattle.um_tree.specs.ProgramTree.{ProgramTree, SchemeTree}
use Rattle.um_tree.specs.Meaning.{outcome_of_call}
use Rattle.um_tree.specs.Formed.{IsFormed}
use Rattle.um_tree.specs.Scheme.{IsPrincipal}
use Rattle.um_measures.specs.Known.{number_of, function_names}
use Rattle.um_value.specs.declared.stop.InputStop.{InputStop}
use Rattle.um_value.specs.declared.stop.InputStop.TheVariants as input_stop
use Rattle.um_run.specs.declared.call.CallRefusal.{CallRefusal}
use Rattle.um_run.specs.declared.call.CallRefusal.TheVariants as refusal
use Rattle.um_run.specs.Calls.{CallTree, call_values}
use Rattle.um_run.proofs.CallLaws.{calls_are_typed}
use Rattle.um_scaling.proofs.FreeZeroLaws.{free_zeros_of_calls}
use Rattle.um_sig.specs.declared.signature.Signature.{Signature as ReadSignature}
use Rattle.um_sig.specs.declared.stop.SigText.{SigText}
use Rattle.um_sig.specs.declared.stop.SigText.TheVariants as sig_text
use Rattle.um_sig.specs.declared.stop.SigStop.{SigStop}
use Rattle.um_sig.specs.declared.stop.SigStop.TheVariants as sig_stop
use Rattle.um_sig.specs.Reading.{IsRead}
use Rattle.um_sig.specs.Answers.{IsConformed}
use Rattle.um_sig.specs.Instances.{AreOverBases, AreAllTypings}
use Rattle.um_sig.proofs.TypingLaws.{answers_say_what_typings_are}
use Rattle.um_orders.specs.declared.order.Order.{Order}
use Rattle.um_orders.specs.declared.order.Order.TheVariants.{Run, Steps, Eval}
use Rattle.um_reports.specs.declared.status.Status.{Status}
use Rattle.um_reports.specs.declared.status.Status.TheVariants.{Done, Limit, PowerRange, Input, Trap, BudgetEnd, NotConform}
use Rattle.um_reports.specs.CallRefusals.{IsArgumentReply, IsCallReply, IsUnnamedReply, IsSignatureReply, IsConformReply}
use Rattle.um_reports.specs.Steps.{line}
use Rattle.um_front.specs.Stages.{CheckedTree, IsCheckedText}
use Rattle.um_front.proofs.CheckedTexts.{shaped_is_formed, units_are_closed, checked_is_known, schemes_are_principal}
use Rattle.um_front.proofs.RefusalStatuses.{is_refusal}
use Rattle.um_front.proofs.StageLaws.{checked_reached}
use Rattle.um_answers.specs.ConformAnswer.{ConformAnswer, IsConformAnswer, SignatureAnswer, BySignature, MatchingAnswer}
use Rattle.um_answers.proofs.ConformsDone.{read_over_bases}
use Rattle.um_call_answers.specs.declared.way.Way.{Way}
use Rattle.um_call_answers.specs.AskedCall.{AskedCall}
use Rattle.um_call_answers.specs.OfCall.{IsAskedCall, OfCall}
use Rattle.um_call_answers.specs.CallAnswer.{CallAnswer, IsCallAnswer, RunAnswer}
use Rattle.um_call_answers.proofs.CallEnds.{ends_meant, checked_shaped}
use Rattle.um_tool.specs.Asked.{called, held_name, signature_text}
use Rattle.um_tool.specs.Answer.{Answer, ByOrder}
use Rattle.um_tool.specs.CallLaws.{IsCall, ends_a_call, IsMeantCall, EndedCallsAreMeant, is_verdict, IsVerdict, VerdictsSayWhatTypingsAre}

-- ---- no refusal has a status that ends a call, and none that is a verdict

pub refuted : (test : Status → Bool) (status wanted : Status) → status ≡ wanted → test wanted ≡ false → IsTrue (test status) → ⊥
refuted test status wanted e none last = cc (sym none ∙ subst (λ s. IsTrue (test s)) e last)

pub late_ends : (status : Status) → IsTrue (ends_a_call status) → is_refusal status ≡ false
late_ends Done ends = refl
late_ends Trap ends = refl
late_ends BudgetEnd ends = refl
late_ends status ends = absurd cc

late_verdicts : (status : Status) → IsTrue (is_verdict status) → is_refusal status ≡ false
late_verdicts Done verdict = refl
late_verdicts NotConform verdict = refl
late_verdicts status verdict = absurd cc

-- what fails at the statuses of refused words fails at a refused call
module _ (test : Status → Bool) (input : test Input ≡ false) (range : test PowerRange ≡ false) (limit : test Limit ≡ false) where
  argument_fails : (index : ℕ) (word : List ℕ) (stop : InputStop) (text : List ℕ) (status : Status) → IsArgumentReply index word stop text status → IsTrue (test status) → ⊥
  argument_fails index word (input_stop.Text at) text status reply holds = refuted test status Input reply.1 input holds
  argument_fails index word (input_stop.Shape at) text status reply holds = refuted test status Input reply.1 input holds
  argument_fails index word (input_stop.Names at) text status reply holds = refuted test status Input reply.1 input holds
  argument_fails index word (input_stop.PowerRange at) text status reply holds = refuted test status Input reply.1 input holds
  argument_fails index word input_stop.NoMemory text status reply holds = reply

  pub call_fails : (texts : List (List ℕ)) (refused : CallRefusal) (text : List ℕ) (status : Status) → IsCallReply texts refused text status → IsTrue (test status) → ⊥
  call_fails texts refusal.NoFunction text status reply holds = refuted test status Input reply.1 input holds
  call_fails texts refusal.WrongCount text status reply holds = refuted test status Input reply.1 input holds
  call_fails texts (refusal.Argument index stop) text status reply holds = argument_fails index (get_or texts index []) stop text status reply holds
  call_fails texts refusal.Units text status reply holds = refuted test status Input reply.1 input holds
  call_fails texts refusal.PowerRange text status reply holds = refuted test status PowerRange reply.1 range holds
  call_fails texts refusal.Slots text status reply holds = refuted test status Limit reply.1 limit holds
  call_fails texts refusal.NoMemory text status reply holds = reply

  pub signature_fails : (word : List ℕ) (stop : SigText) (text : List ℕ) (status : Status) → IsSignatureReply word stop text status → IsTrue (test status) → ⊥
  signature_fails word (sig_text.Text at) text status reply holds = refuted test status Input reply.1 input holds
  signature_fails word (sig_text.Syntax at) text status reply holds = refuted test status Input reply.1 input holds
  signature_fails word (sig_text.Height at) text status reply holds = refuted test status Input reply.1 input holds
  signature_fails word (sig_text.Names at) text status reply holds = refuted test status Input reply.1 input holds
  signature_fails word (sig_text.PowerRange at) text status reply holds = refuted test status Input reply.1 input holds
  signature_fails word sig_text.NoMemory text status reply holds = reply

pub call_refusal : (texts : List (List ℕ)) (refused : CallRefusal) (text : List ℕ) (status : Status) → IsCallReply texts refused text status → IsTrue (ends_a_call status) → ⊥
call_refusal texts refused text status reply ends = call_fails ends_a_call refl refl refl texts refused text status reply ends

signature_refusal : (word : List ℕ) (stop : SigText) (text : List ℕ) (status : Status) → IsSignatureReply word stop text status → IsTrue (is_verdict status) → ⊥
signature_refusal word stop text status reply verdict = signature_fails is_verdict refl refl refl word stop text status reply verdict

-- ---- calls

in_order : (inputs : List InputTree) → values_in_order (map without_units inputs) ≡ without_units_each (inputs_in_order inputs)
in_order [] = refl
in_order (input ∷ inputs) = ap (more_values (without_units input)) (in_order inputs)

module _ (way : Way) (asked : AskedCall) (bytes text : List ℕ) (status : Status) where
  -- the run of a call that has a type
  pub run_meant : (c : CheckedTree) → IsCheckedText bytes c → (call : CallTree) → IsAskedCall asked c call → RunAnswer way asked.budget c.text.program call text status → IsMeantCall way asked bytes text status
  unfolding RunAnswer
  run_meant c is call named (o, steps, ended, printed) =
      let p = c.text.program in
      let known = checked_is_known bytes c is in
      let typed = calls_are_typed p c.text.abbreviations c.schemes asked.name asked.texts known call named in
      let meant = ends_meant asked.budget p call (checked_shaped bytes c is) typed.arguments way o steps ended in
      record {
        checked = c;
        spelled = is;
        principal = schemes_are_principal bytes c is;
        call = call;
        named = named;
        typed = typed;
        outcome = o;
        meant = meant;
        free_zeros = λ v value. free_zeros_of_calls p call.function (inputs_in_order call.inputs) (call_values call) call.type asked.budget v known.formed typed.inputs (in_order call.inputs) typed.type (subst (λ out. outcome_of_call p call.function (call_values call) asked.budget ≡ Some out) value meant);
        steps = steps;
        ended = ended;
        printed = printed;
      }

module _ (way : Way) (asked : AskedCall) (bytes text : List ℕ) (status : Status) (ends : IsTrue (ends_a_call status)) where
  call_meant : (c : CheckedTree) → IsCheckedText bytes c → OfCall (RunAnswer way asked.budget) asked c text status → IsMeantCall way asked bytes text status
  call_meant c is (inl (call, named, answer)) = run_meant way asked bytes text status c is call named answer
  call_meant c is (inr (refused, named, reply)) = absurd (call_refusal asked.texts refused text status reply ends)

  checked_meant : (c : CheckedTree) → IsCheckedText bytes c → IsCallAnswer way asked c text status → IsMeantCall way asked bytes text status
  unfolding IsCallAnswer
  checked_meant c is answer = call_meant c is answer

  answered_meant : CallAnswer way asked bytes text status → IsMeantCall way asked bytes text status
  unfolding CallAnswer
  answered_meant answer =
      let r = checked_reached (IsCallAnswer way asked) bytes text status (late_ends status ends) answer in
      checked_meant r.0 r.1 r.2

-- an order that calls is answered as its call
pub call_answer : (order : Order) (w : Way) (budget : ℕ) (words : List (List ℕ)) (bytes text : List ℕ) (status : Status) → IsCall order w budget → ByOrder order words bytes text status → CallAnswer w (called budget words) bytes text status
call_answer (Run n) w budget words bytes text status (way, same) answer = subst (λ b. CallAnswer w (called b words) bytes text status) same (subst (λ v. CallAnswer v (called n words) bytes text status) (sym way) answer)
call_answer (Steps n) w budget words bytes text status (way, same) answer = subst (λ b. CallAnswer w (called b words) bytes text status) same (subst (λ v. CallAnswer v (called n words) bytes text status) (sym way) answer)
call_answer (Eval n) w budget words bytes text status (way, same) answer = subst (λ b. CallAnswer w (called b words) bytes text status) same (subst (λ v. CallAnswer v (called n words) bytes text status) (sym way) answer)
call_answer order w budget words bytes text status c answer = absurd c

pub ended_calls_are_meant : EndedCallsAreMeant
unfolding Answer
ended_calls_are_meant order w budget words bytes text status c ordered answer ends =
    let given : ByOrder order words bytes text status = rw ordered at answer in
    answered_meant w (called budget words) bytes text status ends (call_answer order w budget words bytes text status c given)

-- ---- signatures

module _ (words : List (List ℕ)) (bytes text : List ℕ) (status : Status) (verdict : IsTrue (is_verdict status)) where
  abbrev Says : ProgramTree → ℕ → List TypeTree → Type 0
  Says p k types =
      ((status ≡ Done) × AreAllTypings p k types × (text ≡ line (held_name words ++ codes " conforms")))
      ⊎ ((status ≡ NotConform) × (AreAllTypings p k types → ⊥))

  matched_says : (p : ProgramTree) (k : ℕ) (types : List TypeTree) (s : SchemeTree) (r : Result (Unit {0}) SigStop) → IsFormed p → IsPrincipal p k s → AreOverBases (length p.bases) types
      → IsConformed (length p.bases) s types r → IsConformReply (held_name words) r text status → Says p k types
  matched_says p k types s (Ok done) formed principal over conformed reply = inl (reply.1, answers_say_what_typings_are p k s types (Ok done) formed principal over conformed, reply.0)
  matched_says p k types s (Err (sig_stop.Form i)) formed principal over conformed reply = inr (reply.1, answers_say_what_typings_are p k s types (Err (sig_stop.Form i)) formed principal over conformed)
  matched_says p k types s (Err (sig_stop.Units i)) formed principal over conformed reply = inr (reply.1, answers_say_what_typings_are p k s types (Err (sig_stop.Units i)) formed principal over conformed)
  matched_says p k types s (Err (sig_stop.Range i)) formed principal over conformed reply = absurd (refuted is_verdict status PowerRange reply.1 refl verdict)
  matched_says p k types s (Err sig_stop.NoMemory) formed principal over conformed reply = absurd reply

  signature_says : (c : CheckedTree) → IsCheckedText bytes c → (k : ℕ) → number_of (function_names c.text.program.functions) (held_name words) ≡ Some k → (r : Result ReadSignature SigText)
      → IsRead c.text.program c.text.abbreviations (chars (signature_text words)) (length (signature_text words)) r → BySignature k (held_name words) (signature_text words) c r text status → IsVerdict words bytes text status
  unfolding MatchingAnswer
  signature_says c is k named (Ok signature) read (s, given, matched) =
      let p = c.text.program in
      let principal = schemes_are_principal bytes c is in
      record {
        checked = c;
        spelled = is;
        number = k;
        named = named;
        signature = signature;
        read = read;
        verdict = matched_says p k (type_trees signature.types) s matched.0 (shaped_is_formed bytes c.text is.shaped) (principal.principal k s given) (read_over_bases p c.text.abbreviations (signature_text words) signature (units_are_closed bytes c.text is.shaped) read) matched.1 matched.2;
      }
  signature_says c is k named (Err stop) read reply = absurd (signature_refusal (signature_text words) stop text status reply verdict)

  name_says : (c : CheckedTree) → IsCheckedText bytes c → (named : Option ℕ) → number_of (function_names c.text.program.functions) (held_name words) ≡ named
      → MatchOption named (IsUnnamedReply text status) (λ k. SignatureAnswer k (held_name words) (signature_text words) c text status) → IsVerdict words bytes text status
  unfolding SignatureAnswer
  name_says c is None named reply = absurd (refuted is_verdict status Input reply.1 refl verdict)
  name_says c is (Some k) named (r, read, answer) = signature_says c is k named r read answer

  checked_says : (c : CheckedTree) → IsCheckedText bytes c → IsConformAnswer (held_name words) (signature_text words) c text status → IsVerdict words bytes text status
  unfolding IsConformAnswer
  checked_says c is answer = name_says c is (number_of (function_names c.text.program.functions) (held_name words)) refl answer

  answered_says : ConformAnswer (held_name words) (signature_text words) bytes text status → IsVerdict words bytes text status
  unfolding ConformAnswer
  answered_says answer =
      let r = checked_reached (IsConformAnswer (held_name words) (signature_text words)) bytes text status (late_verdicts status verdict) answer in
      checked_says r.0 r.1 r.2

pub verdicts_say_what_typings_are : VerdictsSayWhatTypingsAre
unfolding Answer
verdicts_say_what_typings_are words bytes text status ordered answer verdict =
    let given : ConformAnswer (held_name words) (signature_text words) bytes text status = rw ordered at answer in
    answered_says words bytes text status verdict given
