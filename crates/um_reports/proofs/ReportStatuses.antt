-- No report line has the status of a fault.
use Rattle.std.proofs.Common.{◌≡◌, ℕ, List, [], Bool, true, false, IsTrue, Result, Ok, Err, get_or, refl, sym, ◌∙◌}
use Rattle.um_value.specs.declared.stop.InputStop.{InputStop}
use Rattle.um_value.specs.declared.stop.InputStop.TheVariants as input_stop
use Rattle.um_run.specs.declared.call.CallRefusal.{CallRefusal}
use Rattle.um_run.specs.declared.call.CallRefusal.TheVariants as refusal
use Rattle.um_sig.specs.declared.stop.SigText.{SigText}
use Rattle.um_sig.specs.declared.stop.SigText.TheVariants as sig_text
use Rattle.um_sig.specs.declared.stop.SigStop.{SigStop}
use Rattle.um_sig.specs.declared.stop.SigStop.TheVariants as sig_stop
use Rattle.um_sizes.specs.declared.read.ScalesRefusal.{ScalesRefusal}
use Rattle.um_sizes.specs.declared.read.ScalesRefusal.TheVariants.{NoBaseUnit, NoMemory as OutOfMemory}
use Rattle.um_reports.specs.ScaleRefusals.{IsSizesReply}
use Rattle.um_reports.specs.CallRefusals.{IsArgumentReply, IsCallReply, IsSignatureReply, IsConformReply}
use Rattle.um_reports.specs.declared.status.Status.{Status}
use Rattle.um_reports.specs.declared.status.Status.TheVariants.{ReadFault, WriteFault, NoMemory}

-- it is none of the faults'
abbrev pub is_answered : Status → Bool
is_answered ReadFault = false
is_answered WriteFault = false
is_answered NoMemory = false
is_answered status = true

-- ---- calls and signatures

pub argument_reply : (index : ℕ) (word : List ℕ) (stop : InputStop) (text : List ℕ) (status : Status) → IsArgumentReply index word stop text status → IsTrue (is_answered status)
argument_reply index word (input_stop.Text at) text status reply = rw reply.1 refl
argument_reply index word (input_stop.Shape at) text status reply = rw reply.1 refl
argument_reply index word (input_stop.Names at) text status reply = rw reply.1 refl
argument_reply index word (input_stop.PowerRange at) text status reply = rw reply.1 refl
argument_reply index word input_stop.NoMemory text status reply = absurd reply

pub call_reply : (texts : List (List ℕ)) (refused : CallRefusal) (text : List ℕ) (status : Status) → IsCallReply texts refused text status → IsTrue (is_answered status)
call_reply texts refusal.NoFunction text status reply = rw reply.1 refl
call_reply texts refusal.WrongCount text status reply = rw reply.1 refl
call_reply texts (refusal.Argument index stop) text status reply = argument_reply index (get_or texts index []) stop text status reply
call_reply texts refusal.Units text status reply = rw reply.1 refl
call_reply texts refusal.PowerRange text status reply = rw reply.1 refl
call_reply texts refusal.Slots text status reply = rw reply.1 refl
call_reply texts refusal.NoMemory text status reply = absurd reply

pub signature_reply : (word : List ℕ) (stop : SigText) (text : List ℕ) (status : Status) → IsSignatureReply word stop text status → IsTrue (is_answered status)
signature_reply word (sig_text.Text at) text status reply = rw reply.1 refl
signature_reply word (sig_text.Syntax at) text status reply = rw reply.1 refl
signature_reply word (sig_text.Height at) text status reply = rw reply.1 refl
signature_reply word (sig_text.Names at) text status reply = rw reply.1 refl
signature_reply word (sig_text.PowerRange at) text status reply = rw reply.1 refl
signature_reply word sig_text.NoMemory text status reply = absurd reply

pub conform_reply : (name : List ℕ) (r : Result (Unit {0}) SigStop) (text : List ℕ) (status : Status) → IsConformReply name r text status → IsTrue (is_answered status)
conform_reply name (Ok done) text status reply = rw reply.1 refl
conform_reply name (Err (sig_stop.Form index)) text status reply = rw reply.1 refl
conform_reply name (Err (sig_stop.Units index)) text status reply = rw reply.1 refl
conform_reply name (Err (sig_stop.Range index)) text status reply = rw reply.1 refl
conform_reply name (Err sig_stop.NoMemory) text status reply = absurd reply

-- ---- sizes

pub sizes_reply : (refused : ScalesRefusal) (text : List ℕ) (status : Status) → IsSizesReply refused text status → IsTrue (is_answered status)
sizes_reply NoBaseUnit text status reply = rw reply.1 refl
sizes_reply OutOfMemory text status reply = absurd reply

pub one_sizes_reply : (text other : List ℕ) (status another : Status) (refused : ScalesRefusal) → IsSizesReply refused text status → IsSizesReply refused other another → (text ≡ other) × (status ≡ another)
one_sizes_reply text other status another NoBaseUnit a b = (a.0 ∙ sym b.0, a.1 ∙ sym b.1)
one_sizes_reply text other status another OutOfMemory a b = absurd a
