-- What a command says of a call: it is one, it has the status of no fault, and it is what is said of the call.
use Rattle.std.proofs.Common.{◌≡◌, ◌⊎◌, ℕ, List, [], get_or, IsTrue, Result, Ok, Err, inl, inr, sym, subst, ◌∙◌}
use Rattle.um_tree.specs.ProgramTree.{ProgramTree}
use Rattle.um_tree.specs.Formed.{IsFormed}
use Rattle.um_value.specs.declared.stop.InputStop.{InputStop}
use Rattle.um_value.specs.declared.stop.InputStop.TheVariants as input_stop
use Rattle.um_run.specs.declared.call.CallRefusal.{CallRefusal}
use Rattle.um_run.specs.declared.call.CallRefusal.TheVariants as refusal
use Rattle.um_run.specs.Calls.{CallTree, IsCallOf}
use Rattle.um_run.proofs.UniqueCalls.{calls_are_unique}
use Rattle.um_reports.specs.declared.status.Status.{Status}
use Rattle.um_reports.specs.CallRefusals.{IsArgumentReply, IsCallReply}
use Rattle.um_reports.proofs.ReportStatuses.{is_answered, call_reply}
use Rattle.um_front.specs.Stages.{CheckedTree}
use Rattle.um_call_answers.specs.AskedCall.{AskedCall}
use Rattle.um_call_answers.specs.OfCall.{IsAskedCall, IsRefusedCall, OfCall}

module _ (text other : List ℕ) (status another : Status) where
  abbrev AreSame : Type 0
  AreSame = (text ≡ other) × (status ≡ another)

  -- ---- one refusal has one line
  one_argument_reply : (index : ℕ) (word : List ℕ) (stop : InputStop) → IsArgumentReply index word stop text status → IsArgumentReply index word stop other another → AreSame
  one_argument_reply index word (input_stop.Text at) a b = (a.0 ∙ sym b.0, a.1 ∙ sym b.1)
  one_argument_reply index word (input_stop.Shape at) a b = (a.0 ∙ sym b.0, a.1 ∙ sym b.1)
  one_argument_reply index word (input_stop.Names at) a b = (a.0 ∙ sym b.0, a.1 ∙ sym b.1)
  one_argument_reply index word (input_stop.PowerRange at) a b = (a.0 ∙ sym b.0, a.1 ∙ sym b.1)
  one_argument_reply index word input_stop.NoMemory a b = absurd a

  pub one_call_reply : (texts : List (List ℕ)) (refused : CallRefusal) → IsCallReply texts refused text status → IsCallReply texts refused other another → AreSame
  one_call_reply texts refusal.NoFunction a b = (a.0 ∙ sym b.0, a.1 ∙ sym b.1)
  one_call_reply texts refusal.WrongCount a b = (a.0 ∙ sym b.0, a.1 ∙ sym b.1)
  one_call_reply texts (refusal.Argument index stop) a b = one_argument_reply index (get_or texts index []) stop a b
  one_call_reply texts refusal.Units a b = (a.0 ∙ sym b.0, a.1 ∙ sym b.1)
  one_call_reply texts refusal.PowerRange a b = (a.0 ∙ sym b.0, a.1 ∙ sym b.1)
  one_call_reply texts refusal.Slots a b = (a.0 ∙ sym b.0, a.1 ∙ sym b.1)
  one_call_reply texts refusal.NoMemory a b = absurd a

module _ (asked : AskedCall) (c : CheckedTree) (formed : IsFormed c.text.program) where
  abbrev Asks : Result CallTree CallRefusal → Type 0
  Asks r = IsCallOf c.text.program c.text.abbreviations c.schemes asked.name asked.texts r

  -- they are one, but for want of memory
  abbrev AreOne : Result CallTree CallRefusal → Result CallTree CallRefusal → Type 0
  AreOne r q = (r ≡ q) ⊎ ((r ≡ Err refusal.NoMemory) ⊎ (q ≡ Err refusal.NoMemory))

  unique : (r q : Result CallTree CallRefusal) → Asks r → Asks q → AreOne r q
  unique = calls_are_unique c.text.program c.text.abbreviations c.schemes asked.name asked.texts formed

  -- the words ask for one call
  pub one_asked : (call other : CallTree) → IsAskedCall asked c call → IsAskedCall asked c other → call ≡ other
  one_asked call other named also = by (unique (Ok call) (Ok other) named also)
    where
      by : AreOne (Ok call) (Ok other) → call ≡ other
      by (inl same) = cc same
      by (inr (inl wrong)) = absurd (cc wrong)
      by (inr (inr wrong)) = absurd (cc wrong)

  -- and they aren't refused then
  pub asked_or_refused : (call : CallTree) (text : List ℕ) (status : Status) → IsAskedCall asked c call → IsRefusedCall asked c text status → ⊥
  asked_or_refused call text status named (refused, also, reply) = by (unique (Ok call) (Err refused) named also)
    where
      by : AreOne (Ok call) (Err refused) → ⊥
      by (inl wrong) = cc wrong
      by (inr (inl wrong)) = cc wrong
      by (inr (inr wanting)) = let none : refused ≡ refusal.NoMemory = cc wanting in subst (λ r. IsCallReply asked.texts r text status) none reply

  -- they are refused in one way
  pub refused_once : (text other : List ℕ) (status another : Status) → IsRefusedCall asked c text status → IsRefusedCall asked c other another → (text ≡ other) × (status ≡ another)
  refused_once text other status another (first, named, a) (second, also, b) = by (unique (Err first) (Err second) named also)
    where
      by : AreOne (Err first) (Err second) → (text ≡ other) × (status ≡ another)
      by (inl same) = let one : first ≡ second = cc same in one_call_reply text other status another asked.texts second (subst (λ r. IsCallReply asked.texts r text status) one a) b
      by (inr (inl wanting)) = let none : first ≡ refusal.NoMemory = cc wanting in absurd (subst (λ r. IsCallReply asked.texts r text status) none a)
      by (inr (inr wanting)) = let none : second ≡ refusal.NoMemory = cc wanting in absurd (subst (λ r. IsCallReply asked.texts r other another) none b)

module _ (Says : ProgramTree → CallTree → List ℕ → Status → Type 0) (asked : AskedCall) (c : CheckedTree) (text : List ℕ) (status : Status) where
  pub call_answered : ((call : CallTree) → Says c.text.program call text status → IsTrue (is_answered status)) → OfCall Says asked c text status → IsTrue (is_answered status)
  call_answered answered (inl (call, named, says)) = answered call says
  call_answered answered (inr (refused, named, reply)) = call_reply asked.texts refused text status reply

  module _ (formed : IsFormed c.text.program) where
    pub call_given : (call : CallTree) → IsAskedCall asked c call → OfCall Says asked c text status → Says c.text.program call text status
    call_given call named (inl (other, also, says)) = subst (λ x. Says c.text.program x text status) (one_asked asked c formed other call also named) says
    call_given call named (inr refused) = absurd (asked_or_refused asked c formed call text status named refused)

    pub call_said_once : (other : List ℕ) (another : Status) → ((call : CallTree) → Says c.text.program call text status → Says c.text.program call other another → (text ≡ other) × (status ≡ another))
        → OfCall Says asked c text status → OfCall Says asked c other another → (text ≡ other) × (status ≡ another)
    call_said_once other another once (inl (call, named, a)) (inl (found, also, b)) = once found (subst (λ x. Says c.text.program x text status) (one_asked asked c formed call found named also) a) b
    call_said_once other another once (inl (call, named, a)) (inr refused) = absurd (asked_or_refused asked c formed call other another named refused)
    call_said_once other another once (inr refused) (inl (call, named, b)) = absurd (asked_or_refused asked c formed call text status named refused)
    call_said_once other another once (inr a) (inr b) = refused_once asked c formed text other status another a b
