-- What is answered to a function and a signature that was read.
use Rattle.std.proofs.Common.{◌≡◌, ◌⊎◌, ℕ, List, length, chars, MatchOption, Result, Ok, Err, Some, sym, subst, ◌∙◌, inl, inr, arith}
use Rattle.std.proofs.lemmas.Option.{same_Some}
use Rattle.um_tree.specs.TypeTree.{TypeTree, type_trees}
use Rattle.um_tree.specs.ProgramTree.{ProgramTree, SchemeTree}
use Rattle.um_tree.specs.Formed.{IsFormed}
use Rattle.um_tree.specs.Scheme.{IsPrincipal}
use Rattle.um_shape.proofs.Complete.{faultless_is_shaped}
use Rattle.um_proof.proofs.Inferred.{schemes_hold_declared_units}
use Rattle.um_sig.specs.declared.signature.Signature.{Signature as ReadSignature}
use Rattle.um_sig.specs.declared.stop.SigText.{SigText}
use Rattle.um_sig.specs.declared.stop.SigText.TheVariants as sig_text
use Rattle.um_sig.specs.declared.stop.SigStop.{SigStop}
use Rattle.um_sig.specs.declared.stop.SigStop.TheVariants as sig_stop
use Rattle.um_sig.specs.Answers.{IsConformed}
use Rattle.um_sig.specs.Instances.{scheme_types, AreOverBases}
use Rattle.um_sig.specs.Laws.{AreSameReading}
use Rattle.um_sig.proofs.InstanceLaws.{answers_say_what_instances_are}
use Rattle.um_sig.proofs.TypingLaws.{answers_say_what_typings_are}
use Rattle.um_sig.proofs.UniqueAnswers.{answers_are_unique}
use Rattle.um_sig.proofs.UniqueReadings.{readings_are_unique}
use Rattle.um_reports.specs.declared.status.Status.{Status}
use Rattle.um_reports.specs.CallRefusals.{IsUnnamedReply, IsConformReply}
use Rattle.um_front.proofs.CheckedTexts.{shaped_is_formed, units_are_closed, schemes_are_principal}
use Rattle.um_front.proofs.StageLaws.{checked_given}
use Rattle.um_answers.specs.ConformAnswer.{ConformAnswer, IsConformAnswer, SignatureAnswer, BySignature, MatchingAnswer}
use Rattle.um_answers.proofs.ConformsDone.{read_over_bases, types_of_readings}
use Rattle.um_tool.specs.Asked.{held_name, signature_text}
use Rattle.um_tool.specs.Answer.{Answer}
use Rattle.um_tool.specs.Verdicts.{HasSignature, Conforms, Differs, MeetsRange, PassesRange, SignaturesHaveVerdicts}

module _ (words : List (List ℕ)) (bytes : List ℕ) (h : HasSignature words bytes) (text : List ℕ) (status : Status) where
  abbrev p : ProgramTree
  p = h.checked.text.program

  abbrev name : List ℕ
  name = held_name words

  abbrev word : List ℕ
  word = signature_text words

  abbrev types : List TypeTree
  types = type_trees h.signature.types

  abbrev IsJudged : Type 0
  IsJudged =
      ((MeetsRange words bytes h text status → ⊥) × (Conforms words bytes h text status ⊎ Differs words bytes h text status))
      ⊎ PassesRange words bytes h text status

  formed : IsFormed p
  formed = shaped_is_formed bytes h.checked.text h.spelled.shaped

  principal : IsPrincipal p h.number h.scheme
  principal = (schemes_are_principal bytes h.checked h.spelled).principal h.number h.scheme h.given

  over : AreOverBases (length p.bases) types
  over = read_over_bases p h.checked.text.abbreviations word h.signature (units_are_closed bytes h.checked.text h.spelled.shaped) h.read

  scheme_over : AreOverBases (length p.bases) (scheme_types h.scheme)
  scheme_over =
      schemes_hold_declared_units p (length p.functions) h.checked.schemes formed (faultless_is_shaped p h.spelled.shaped.faultless) (omega arith) h.spelled.inferred h.number h.scheme h.given

  abbrev IsWanting : Result (Unit {0}) SigStop → Type 0
  IsWanting r = r ≡ Err sig_stop.NoMemory

  abbrev AreOne : Result (Unit {0}) SigStop → Result (Unit {0}) SigStop → Type 0
  AreOne r q = (r ≡ q) ⊎ (IsWanting r ⊎ IsWanting q)

  -- the answers of the matching are one
  meets_none : (r : Result (Unit {0}) SigStop) → IsConformed (length p.bases) h.scheme types r → ((i : ℕ) → r ≡ Err (sig_stop.Range i) → ⊥) → (IsWanting r → ⊥) → MeetsRange words bytes h text status → ⊥
  meets_none r conformed other told (i, met) = by (answers_are_unique (length p.bases) h.scheme types r (Err (sig_stop.Range i)) conformed met) where
    by : AreOne r (Err (sig_stop.Range i)) → ⊥
    by (inl same) = other i same
    by (inr (inl wanting)) = told wanting
    by (inr (inr wrong)) = cc wrong

  matched_as : (r : Result (Unit {0}) SigStop) → IsConformed (length p.bases) h.scheme types r → IsConformReply name r text status → IsJudged
  matched_as (Ok done) conformed reply =
      let typings = answers_say_what_typings_are p h.number h.scheme types (Ok done) formed principal over conformed in
      inl (meets_none (Ok done) conformed (λ i e. cc e) (λ e. cc e), inl (reply.1, typings, reply.0))
  matched_as (Err (sig_stop.Form i)) conformed reply =
      let none = answers_say_what_typings_are p h.number h.scheme types (Err (sig_stop.Form i)) formed principal over conformed in
      inl (meets_none (Err (sig_stop.Form i)) conformed (λ k e. cc e) (λ e. cc e), inr (reply.1, none, (i, inl (conformed, reply.0))))
  matched_as (Err (sig_stop.Units i)) conformed reply =
      let none = answers_say_what_typings_are p h.number h.scheme types (Err (sig_stop.Units i)) formed principal over conformed in
      let first = answers_say_what_instances_are (length p.bases) h.scheme types (Err (sig_stop.Units i)) principal.below scheme_over over conformed in
      inl (meets_none (Err (sig_stop.Units i)) conformed (λ k e. cc e) (λ e. cc e), inr (reply.1, none, (i, inr (first.1, reply.0))))
  matched_as (Err (sig_stop.Range i)) conformed reply = inr (reply.1, reply.0, (i, conformed))
  matched_as (Err sig_stop.NoMemory) conformed reply = absurd reply

  matching_as : MatchingAnswer h.number name h.checked types text status → IsJudged
  unfolding MatchingAnswer
  matching_as (s, given, (r, conformed, reply)) =
      let same : s ≡ h.scheme = same_Some s h.scheme (sym given ∙ h.given) in
      matched_as r (subst (λ (x : SchemeTree). IsConformed (length p.bases) x types r) same conformed) reply

  -- no other reading is answered
  read_as : (r : Result ReadSignature SigText) → AreSameReading (Ok h.signature) r → BySignature h.number name word h.checked r text status → IsJudged
  read_as (Ok other) same answer = matching_as (subst (λ ts. MatchingAnswer h.number name h.checked ts text status) (sym (types_of_readings h.signature other same)) answer)
  read_as (Err (sig_text.Text at)) same reply = absurd same
  read_as (Err (sig_text.Syntax at)) same reply = absurd same
  read_as (Err (sig_text.Height at)) same reply = absurd same
  read_as (Err (sig_text.Names at)) same reply = absurd same
  read_as (Err (sig_text.PowerRange at)) same reply = absurd same
  read_as (Err sig_text.NoMemory) same reply = absurd reply

  reading_as : SignatureAnswer h.number name word h.checked text status → IsJudged
  unfolding SignatureAnswer
  reading_as (r, read, answer) =
      read_as r (readings_are_unique p h.checked.text.abbreviations (chars word) (length word) (Ok h.signature) r h.read read) answer

  named_as : IsConformAnswer name word h.checked text status → IsJudged
  unfolding IsConformAnswer
  named_as answer =
      let given : MatchOption (Some h.number) (IsUnnamedReply text status) (λ k. SignatureAnswer k name word h.checked text status) = rw h.named at answer in
      reading_as given

  judged_as : ConformAnswer name word bytes text status → IsJudged
  unfolding ConformAnswer
  judged_as answer = named_as (checked_given (IsConformAnswer name word) bytes text status h.checked h.spelled answer)

pub signatures_have_verdicts : SignaturesHaveVerdicts
unfolding Answer
signatures_have_verdicts words bytes h ordered text status answer =
    let given : ConformAnswer (held_name words) (signature_text words) bytes text status = rw ordered at answer in
    judged_as words bytes h text status given
