-- The answers to `types`, `code`, `fmt`, `tidy` and `prove`: each but the last is one, and none has the status of a fault.
use Rattle.std.proofs.Common.{◌≡◌, ℕ, ℤ, List, IsTrue, length, Result, Ok, Err, refl, sym, ap, subst, ◌∙◌}
use Rattle.std.specs.Str.{chars}
use Rattle.um_syntax.proofs.Whole.{unique_tokens}
use Rattle.um_parse.specs.Laws.{AnswersAreUnique}
use Rattle.um_tree.specs.RawTree.{DeclSyntax}
use Rattle.um_tree.specs.ProgramTree.{ProgramTree}
use Rattle.um_infer.specs.Inference.{infer}
use Rattle.um_infer.specs.Schemes.{AreTyped}
use Rattle.um_infer.specs.Laws.{IsLimited}
use Rattle.um_infer.proofs.InferenceLaws.{schemes_are_given_to_typed}
use Rattle.um_infer.proofs.SchemeLists.{item_at}
use Rattle.um_proof.specs.declared.proofs.Proofs.{Proofs}
use Rattle.um_proof.specs.declared.stop.ProveStop.{ProveStop}
use Rattle.um_proof.specs.declared.stop.ProveStop.TheVariants as prove_stop
use Rattle.um_proof.specs.Proving.{PassesInFunction, IsProved}
use Rattle.um_reports.specs.declared.status.Status.{Status}
use Rattle.um_reports.specs.declared.status.Status.TheVariants.{Done}
use Rattle.um_reports.proofs.ReportStatuses.{is_answered}
use Rattle.um_front.specs.Stages.{IsReadText, ShapedTree, CheckedTree, IsCheckedText}
use Rattle.um_front.proofs.CheckedTexts.{shaped_is_formed}
use Rattle.um_front.proofs.StageLaws.{read_given, read_answered, read_once, shaped_given, shaped_answered, checked_given, checked_answered, checked_once}
use Rattle.um_answers.specs.TypesAnswer.{IsSchemeList, TypesAnswer}
use Rattle.um_answers.specs.CodeAnswer.{IsListing, CodeAnswer}
use Rattle.um_answers.specs.FmtAnswer.{IsLayout, FmtAnswer}
use Rattle.um_tidy.specs.Tidied.{tidied}
use Rattle.um_answers.specs.TidyAnswer.{IsTidied, TidyAnswer}
use Rattle.um_answers.specs.ProveAnswer.{IsProofReply, IsProveReply, ProveAnswer}
use Rattle.um_answers.specs.Passing.{IsTypedText, IsProvableText}

done_answered : (status : Status) → status ≡ Done → IsTrue (is_answered status)
done_answered status done = rw done refl

-- a typed text has its schemes
pub typed_text_is_checked : (bytes : List ℕ) (t : IsTypedText bytes) → (c : CheckedTree) × IsCheckedText bytes c × (c.text ≡ t.text)
typed_text_is_checked bytes t =
    let p = t.text.program in
    let typed : AreTyped p (length p.functions) = λ i below. (let f = item_at p.functions i below in t.typed i f.0 f.1) in
    let given = (schemes_are_given_to_typed p (shaped_is_formed bytes t.text t.shaped)).1 (typed, t.unlimited) in
    (record { text = t.text; schemes = given.0 }, record { shaped = t.shaped; inferred = given.1 }, refl)

module _ (bytes text : List ℕ) (status : Status) where
  -- ---- types
  pub TypesAnswer-status : TypesAnswer bytes text status → IsTrue (is_answered status)
  unfolding TypesAnswer
  TypesAnswer-status answer = checked_answered IsSchemeList bytes text status (λ c reply. done_answered status reply.1) answer

  pub types_one : (other : List ℕ) (another : Status) → AnswersAreUnique → TypesAnswer bytes text status → TypesAnswer bytes other another → (text ≡ other) × (status ≡ another)
  unfolding TypesAnswer
  types_one other another one a b = checked_once IsSchemeList bytes text status other another one (λ c is x y. (x.0 ∙ sym y.0, x.1 ∙ sym y.1)) a b

  pub types_done : (c : CheckedTree) → IsCheckedText bytes c → TypesAnswer bytes text status → status ≡ Done
  unfolding TypesAnswer
  types_done c is answer = (checked_given IsSchemeList bytes text status c is answer).1

  -- ---- code
  pub CodeAnswer-status : CodeAnswer bytes text status → IsTrue (is_answered status)
  unfolding CodeAnswer
  CodeAnswer-status answer = checked_answered IsListing bytes text status (λ c reply. done_answered status reply.1) answer

  pub code_one : (other : List ℕ) (another : Status) → AnswersAreUnique → CodeAnswer bytes text status → CodeAnswer bytes other another → (text ≡ other) × (status ≡ another)
  unfolding CodeAnswer
  code_one other another one a b = checked_once IsListing bytes text status other another one (λ c is x y. (x.0 ∙ sym y.0, x.1 ∙ sym y.1)) a b

  pub code_done : (c : CheckedTree) → IsCheckedText bytes c → CodeAnswer bytes text status → status ≡ Done
  unfolding CodeAnswer
  code_done c is answer = (checked_given IsListing bytes text status c is answer).1

  -- ---- fmt
  pub FmtAnswer-status : FmtAnswer bytes text status → IsTrue (is_answered status)
  unfolding FmtAnswer
  FmtAnswer-status answer = read_answered IsLayout bytes text status (λ raw reply. done_answered status reply.1) answer

  pub fmt_one : (other : List ℕ) (another : Status) → AnswersAreUnique → FmtAnswer bytes text status → FmtAnswer bytes other another → (text ≡ other) × (status ≡ another)
  unfolding FmtAnswer
  fmt_one other another one a b = read_once IsLayout bytes text status other another one (λ raw x y. (x.0 ∙ sym y.0, x.1 ∙ sym y.1)) a b

  pub fmt_done : (raw : List DeclSyntax) → IsReadText bytes raw → FmtAnswer bytes text status → status ≡ Done
  unfolding FmtAnswer
  fmt_done raw is answer = (read_given IsLayout bytes text status raw is answer).1

  -- ---- tidy
  pub TidyAnswer-status : TidyAnswer bytes text status → IsTrue (is_answered status)
  unfolding TidyAnswer
  TidyAnswer-status answer = read_answered (IsTidied bytes) bytes text status (λ raw reply. done_answered status reply.2.1) answer

  pub tidy_one : (other : List ℕ) (another : Status) → AnswersAreUnique → TidyAnswer bytes text status → TidyAnswer bytes other another → (text ≡ other) × (status ≡ another)
  unfolding TidyAnswer
  tidy_one other another one a b =
      read_once (IsTidied bytes) bytes text status other another one
      (λ raw x y. (x.2.0 ∙ ap (tidied bytes) (unique_tokens (chars bytes) x.0 y.0 x.1.1 y.1.1) ∙ sym y.2.0, x.2.1 ∙ sym y.2.1)) a b

  pub tidy_done : (raw : List DeclSyntax) → IsReadText bytes raw → TidyAnswer bytes text status → status ≡ Done
  unfolding TidyAnswer
  tidy_done raw is answer = (read_given (IsTidied bytes) bytes text status raw is answer).2.1

  -- ---- prove
  abbrev IsOfText : ShapedTree → List ℕ → Status → Type 0
  IsOfText s reply end = IsProveReply bytes s.program reply end

  proof_status : (p : ProgramTree) (r : Result Proofs ProveStop) → IsProofReply bytes p r text status → IsTrue (is_answered status)
  proof_status p (Ok proofs) reply = rw reply.1 refl
  proof_status p (Err (prove_stop.Slots i)) reply = rw reply.2.1 refl
  proof_status p (Err (prove_stop.PowerRange i at)) reply = rw reply.2.1 refl
  proof_status p (Err (prove_stop.CertRange i number)) reply = rw reply.2.1 refl
  proof_status p (Err prove_stop.NoMemory) reply = absurd reply

  prove_status : (s : ShapedTree) → IsOfText s text status → IsTrue (is_answered status)
  unfolding IsProveReply
  prove_status s (r, proved, reply) = proof_status s.program r reply

  pub ProveAnswer-status : ProveAnswer bytes text status → IsTrue (is_answered status)
  unfolding ProveAnswer
  ProveAnswer-status answer = shaped_answered IsOfText bytes text status prove_status answer

  proofs_done : (p : ProgramTree) (r : Result Proofs ProveStop) → (IsLimited (infer p) → ⊥) → ((i : ℕ) (number : ℤ) → PassesInFunction p i number → ⊥) → IsProved p r → IsProofReply bytes p r text status → status ≡ Done
  proofs_done p (Ok proofs) unlimited held proved reply = reply.1
  proofs_done p (Err (prove_stop.Slots i)) unlimited held proved reply = absurd (unlimited (subst IsLimited (sym proved) tt))
  proofs_done p (Err (prove_stop.PowerRange i at)) unlimited held proved reply = absurd (unlimited (subst IsLimited (sym proved) tt))
  proofs_done p (Err (prove_stop.CertRange i number)) unlimited held proved reply = absurd (held i number proved.1)
  proofs_done p (Err prove_stop.NoMemory) unlimited held proved reply = absurd reply

  reply_done : (t : IsProvableText bytes) → IsOfText t.text text status → status ≡ Done
  unfolding IsProveReply
  reply_done t (r, proved, reply) = proofs_done t.text.program r t.unlimited t.held proved reply

  pub prove_done : (t : IsProvableText bytes) → ProveAnswer bytes text status → status ≡ Done
  unfolding ProveAnswer
  prove_done t answer = reply_done t (shaped_given IsOfText bytes text status t.text t.shaped answer)
