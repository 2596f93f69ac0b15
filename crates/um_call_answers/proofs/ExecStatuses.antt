-- A call of an image has none of the statuses of texts, of schemes and of powers.
use Rattle.std.proofs.Common.{ℕ, List, [], IsTrue, get_or, Result, Ok, Err, None, inl, inr, refl}
use Rattle.um_tree.specs.TypeTree.{TypeTree}
use Rattle.um_tree.specs.ValueTree.{OutcomeTree, value_outcome, trap_outcome, budget_outcome}
use Rattle.um_value.specs.declared.stop.InputStop.{InputStop}
use Rattle.um_value.specs.declared.stop.InputStop.TheVariants as input_stop
use Rattle.um_verify.specs.ImageTree.{ImageTree, HasForm}
use Rattle.um_verifier.specs.declared.stop.VerifyStop.{VerifyStop}
use Rattle.um_verifier.specs.declared.stop.VerifyStop.TheVariants as verify_stop
use Rattle.um_image.specs.declared.stop.DecodeStop.{DecodeStop}
use Rattle.um_image.specs.declared.stop.DecodeStop.TheVariants as decode_stop
use Rattle.um_image.specs.ProgramImage.{type_of_shape}
use Rattle.um_run.specs.declared.call.CallRefusal.{CallRefusal}
use Rattle.um_run.specs.declared.call.CallRefusal.TheVariants as refusal
use Rattle.um_run.specs.ImageCalls.{ImageCallTree, image_program, IsImageCallOf}
use Rattle.um_reports.specs.declared.status.Status.{Status}
use Rattle.um_reports.specs.CallRefusals.{IsArgumentReply, IsCallReply}
use Rattle.um_call_answers.specs.AskedCall.{AskedCall}
use Rattle.um_call_answers.specs.CallAnswer.{IsOutcomeReply}
use Rattle.um_call_answers.specs.ExecAnswer.{IsDecodeReply, IsVerifyReply, ImageRunAnswer, ByImageCall, VerifiedAnswer, DecodedAnswer, BytesAnswer, ExecAnswer}
use Rattle.um_call_answers.specs.Laws.{is_exec_status}
use Rattle.um_call_answers.proofs.ImageValues.{value_fits}

module _ (text : List ℕ) (status : Status) where
  abbrev IsFew : Type 0
  IsFew = IsTrue (is_exec_status status)

  argument_few : (index : ℕ) (word : List ℕ) (stop : InputStop) → IsArgumentReply index word stop text status → IsFew
  argument_few index word (input_stop.Text at) reply = rw reply.1 refl
  argument_few index word (input_stop.Shape at) reply = rw reply.1 refl
  argument_few index word (input_stop.Names at) reply = rw reply.1 refl
  argument_few index word (input_stop.PowerRange at) reply = rw reply.1 refl
  argument_few index word input_stop.NoMemory reply = absurd reply

  verify_few : (stop : VerifyStop) → IsVerifyReply stop text status → IsFew
  verify_few (verify_stop.Head index) reply = rw reply.1 refl
  verify_few (verify_stop.Code at) reply = rw reply.1 refl
  verify_few verify_stop.NoMemory reply = absurd reply

  decode_few : (stop : DecodeStop) → IsDecodeReply stop text status → IsFew
  decode_few (decode_stop.Bad at) reply = rw reply.1 refl
  decode_few decode_stop.NoMemory reply = absurd reply

  module _ (image : ImageTree) (form : HasForm image) where
    outcome_few : (t : TypeTree) (o : OutcomeTree) → IsOutcomeReply (image_program image) t o None text status → IsFew
    outcome_few t (value_outcome v) (inl (fit, reply)) = rw reply.1 refl
    outcome_few t (value_outcome v) (inr (unfit, reply)) = absurd (unfit (value_fits (image_program image) form.records v t))
    outcome_few t (trap_outcome why) reply = rw reply.1 refl
    outcome_few t budget_outcome reply = rw reply.1 refl

    run_few : (budget : ℕ) (call : ImageCallTree) → ImageRunAnswer budget image call text status → IsFew
    unfolding ImageRunAnswer
    run_few budget call (h, listed, o, ends, reply) = outcome_few (type_of_shape h.result) o reply

    -- a call of an image isn't typed
    refused_few : (name : List ℕ) (texts : List (List ℕ)) (refused : CallRefusal) → IsImageCallOf image name texts (Err refused) → IsCallReply texts refused text status → IsFew
    refused_few name texts refusal.NoFunction named reply = rw reply.1 refl
    refused_few name texts refusal.WrongCount named reply = rw reply.1 refl
    refused_few name texts (refusal.Argument index stop) named reply = argument_few index (get_or texts index []) stop reply
    refused_few name texts refusal.Units (k, h, named, never) reply = absurd never
    refused_few name texts refusal.PowerRange (k, h, named, never) reply = absurd never
    refused_few name texts refusal.Slots (k, h, named, never) reply = absurd never
    refused_few name texts refusal.NoMemory named reply = absurd reply

    call_few : (asked : AskedCall) (r : Result ImageCallTree CallRefusal) → IsImageCallOf image asked.name asked.texts r → ByImageCall asked image r text status → IsFew
    call_few asked (Ok call) named answer = run_few asked.budget call answer
    call_few asked (Err refused) named reply = refused_few asked.name asked.texts refused named reply

    verified_few : (asked : AskedCall) → VerifiedAnswer asked image text status → IsFew
    unfolding VerifiedAnswer
    verified_few asked (r, named, answer) = call_few asked r named answer

    decoded_few : (asked : AskedCall) → DecodedAnswer asked image text status → IsFew
    unfolding DecodedAnswer
    decoded_few asked (inl (verified, answer)) = verified_few asked answer
    decoded_few asked (inr (stop, refused, reply)) = verify_few stop reply

  bytes_few : (asked : AskedCall) (bytes : List ℕ) → BytesAnswer asked bytes text status → IsFew
  unfolding BytesAnswer
  bytes_few asked bytes (inl (image, is, answer)) = decoded_few image is.writable.form asked answer
  bytes_few asked bytes (inr (stop, are, reply)) = decode_few stop reply

  pub exec_few : (asked : AskedCall) (bytes : List ℕ) → ExecAnswer asked bytes text status → IsFew
  unfolding ExecAnswer
  exec_few asked bytes (inl (long, reply)) = rw reply.1 refl
  exec_few asked bytes (inr (short, answer)) = bytes_few asked bytes answer
