-- The answer to `conform` is one, and has no status of a fault.
use Rattle.std.proofs.Common.{◌≡◌, ◌⊎◌, ℕ, List, IsTrue, length, chars, Result, Ok, Err, Some, None, MatchOption, inl, inr, refl, sym, subst, ◌∙◌}
use Rattle.std.specs.declared.option.Option.{Option}
use Rattle.um_parse.specs.Laws.{AnswersAreUnique}
use Rattle.um_tree.specs.TypeTree.{TypeTree, type_trees}
use Rattle.um_measures.specs.Known.{number_of, function_names}
use Rattle.um_sig.specs.declared.signature.Signature.{Signature as ReadSignature}
use Rattle.um_sig.specs.declared.stop.SigText.{SigText}
use Rattle.um_sig.specs.declared.stop.SigText.TheVariants as sig_text
use Rattle.um_sig.specs.declared.stop.SigStop.{SigStop}
use Rattle.um_sig.specs.declared.stop.SigStop.TheVariants as sig_stop
use Rattle.um_sig.specs.Answers.{IsConformed}
use Rattle.um_sig.specs.Laws.{AreSameReading, ReadingsAreUnique}
use Rattle.um_sig.proofs.UniqueAnswers.{answers_are_unique}
use Rattle.um_reports.specs.declared.status.Status.{Status}
use Rattle.um_reports.specs.CallRefusals.{IsUnnamedReply, IsSignatureReply, IsConformReply}
use Rattle.um_reports.proofs.ReportStatuses.{is_answered, signature_reply, conform_reply}
use Rattle.um_front.specs.Stages.{CheckedTree}
use Rattle.um_front.proofs.StageLaws.{checked_answered, checked_once}
use Rattle.um_answers.specs.ConformAnswer.{ConformAnswer, IsConformAnswer, SignatureAnswer, BySignature, MatchingAnswer}
use Rattle.um_answers.proofs.ConformsDone.{types_of_readings}

-- ---- statuses

by_signature_status : (k : ℕ) (name word : List ℕ) (c : CheckedTree) (r : Result ReadSignature SigText) (text : List ℕ) (status : Status) → BySignature k name word c r text status → IsTrue (is_answered status)
unfolding MatchingAnswer
by_signature_status k name word c (Ok signature) text status (s, given, matched) = conform_reply name matched.0 text status matched.2
by_signature_status k name word c (Err stop) text status reply = signature_reply word stop text status reply

by_name_status : (named : Option ℕ) (name word : List ℕ) (c : CheckedTree) (text : List ℕ) (status : Status) → MatchOption named (IsUnnamedReply text status) (λ k. SignatureAnswer k name word c text status) → IsTrue (is_answered status)
unfolding SignatureAnswer
by_name_status None name word c text status reply = rw reply.1 refl
by_name_status (Some k) name word c text status (r, read, answer) = by_signature_status k name word c r text status answer

conform_status : (name word : List ℕ) (c : CheckedTree) (text : List ℕ) (status : Status) → IsConformAnswer name word c text status → IsTrue (is_answered status)
unfolding IsConformAnswer
conform_status name word c text status answer = by_name_status (number_of (function_names c.text.program.functions) name) name word c text status answer

pub ConformAnswer-status : (name word bytes text : List ℕ) (status : Status) → ConformAnswer name word bytes text status → IsTrue (is_answered status)
unfolding ConformAnswer
ConformAnswer-status name word bytes text status answer = checked_answered (IsConformAnswer name word) bytes text status (λ c. conform_status name word c text status) answer

-- ---- one answer
module _ (text other : List ℕ) (status another : Status) where
  abbrev AreSame : Type 0
  AreSame = (text ≡ other) × (status ≡ another)

  one_signature_reply : (word : List ℕ) (stop : SigText) → IsSignatureReply word stop text status → IsSignatureReply word stop other another → AreSame
  one_signature_reply word (sig_text.Text at) a b = (a.0 ∙ sym b.0, a.1 ∙ sym b.1)
  one_signature_reply word (sig_text.Syntax at) a b = (a.0 ∙ sym b.0, a.1 ∙ sym b.1)
  one_signature_reply word (sig_text.Height at) a b = (a.0 ∙ sym b.0, a.1 ∙ sym b.1)
  one_signature_reply word (sig_text.Names at) a b = (a.0 ∙ sym b.0, a.1 ∙ sym b.1)
  one_signature_reply word (sig_text.PowerRange at) a b = (a.0 ∙ sym b.0, a.1 ∙ sym b.1)
  one_signature_reply word sig_text.NoMemory a b = absurd a

  one_conform_reply : (name : List ℕ) (r : Result (Unit {0}) SigStop) → IsConformReply name r text status → IsConformReply name r other another → AreSame
  one_conform_reply name (Ok done) a b = (a.0 ∙ sym b.0, a.1 ∙ sym b.1)
  one_conform_reply name (Err (sig_stop.Form i)) a b = (a.0 ∙ sym b.0, a.1 ∙ sym b.1)
  one_conform_reply name (Err (sig_stop.Units i)) a b = (a.0 ∙ sym b.0, a.1 ∙ sym b.1)
  one_conform_reply name (Err (sig_stop.Range i)) a b = (a.0 ∙ sym b.0, a.1 ∙ sym b.1)
  one_conform_reply name (Err sig_stop.NoMemory) a b = absurd a

  conforms_one : (name : List ℕ) (r q : Result (Unit {0}) SigStop) → (r ≡ q) ⊎ ((r ≡ Err sig_stop.NoMemory) ⊎ (q ≡ Err sig_stop.NoMemory))
      → IsConformReply name r text status → IsConformReply name q other another → AreSame
  conforms_one name r q (inl one) a b = one_conform_reply name q (subst (λ x. IsConformReply name x text status) one a) b
  conforms_one name r q (inr (inl wanting)) a b = absurd (subst (λ x. IsConformReply name x text status) wanting a)
  conforms_one name r q (inr (inr wanting)) a b = absurd (subst (λ x. IsConformReply name x other another) wanting b)

  matching_one : (k : ℕ) (name : List ℕ) (c : CheckedTree) (types : List TypeTree) → MatchingAnswer k name c types text status → MatchingAnswer k name c types other another → AreSame
  unfolding MatchingAnswer
  matching_one k name c types (s, given, a) (t, found, b) =
      let both : Some s ≡ Some t = sym given ∙ found in let same : s ≡ t = cc both in
      let bases = length c.text.program.bases in
      let one = answers_are_unique bases t types a.0 b.0 (subst (λ x. IsConformed bases x types a.0) same a.1) b.1 in
      conforms_one name a.0 b.0 one a.2 b.2

  -- two refusals of one text are one
  same_refusal : (word : List ℕ) (e f : SigText) → AreSameReading (Err e) (Err f) → IsSignatureReply word e text status → IsSignatureReply word f other another → e ≡ f
  same_refusal word sig_text.NoMemory f same a b = absurd a
  same_refusal word e sig_text.NoMemory same a b = absurd b
  same_refusal word e f same a b = same

  by_signature_one : (k : ℕ) (name word : List ℕ) (c : CheckedTree) (r q : Result ReadSignature SigText) → AreSameReading r q → BySignature k name word c r text status → BySignature k name word c q other another → AreSame
  by_signature_one k name word c (Ok s) (Ok t) same a b =
      matching_one k name c (type_trees t.types) (subst (λ ts. MatchingAnswer k name c ts text status) (types_of_readings s t same) a) b
  by_signature_one k name word c (Err e) (Err f) same a b =
      let one = same_refusal word e f same a b in
      one_signature_reply word f (subst (λ x. IsSignatureReply word x text status) one a) b
  by_signature_one k name word c (Ok s) (Err sig_text.NoMemory) same a b = absurd b
  by_signature_one k name word c (Ok s) (Err f) same a b = absurd same
  by_signature_one k name word c (Err sig_text.NoMemory) (Ok t) same a b = absurd a
  by_signature_one k name word c (Err e) (Ok t) same a b = absurd same

  by_name_one : ReadingsAreUnique → (named : Option ℕ) (name word : List ℕ) (c : CheckedTree) → MatchOption named (IsUnnamedReply text status) (λ k. SignatureAnswer k name word c text status)
      → MatchOption named (IsUnnamedReply other another) (λ k. SignatureAnswer k name word c other another) → AreSame
  unfolding SignatureAnswer
  by_name_one one_reading None name word c a b = (a.0 ∙ sym b.0, a.1 ∙ sym b.1)
  by_name_one one_reading (Some k) name word c (r, read, a) (q, also, b) =
      by_signature_one k name word c r q (one_reading c.text.program c.text.abbreviations (chars word) (length word) r q read also) a b

  conform_once : ReadingsAreUnique → (name word : List ℕ) (c : CheckedTree) → IsConformAnswer name word c text status → IsConformAnswer name word c other another → AreSame
  unfolding IsConformAnswer
  conform_once one_reading name word c a b = by_name_one one_reading (number_of (function_names c.text.program.functions) name) name word c a b

  pub conform_one : AnswersAreUnique → ReadingsAreUnique → (name word bytes : List ℕ) → ConformAnswer name word bytes text status → ConformAnswer name word bytes other another → AreSame
  unfolding ConformAnswer
  conform_one one one_reading name word bytes a b = checked_once (IsConformAnswer name word) bytes text status other another one (λ c is. conform_once one_reading name word c) a b
