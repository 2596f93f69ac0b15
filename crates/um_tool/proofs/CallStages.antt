-- What is said of the call that words name, or of the words that name none.
use Rattle.std.proofs.Common.{◌≡◌, ◌⊎◌, ℕ, List, Result, Ok, Err, sym, subst, inl, inr}
use Rattle.um_frac.specs.declared.number.Frac.{Frac}
use Rattle.um_tree.specs.ProgramTree.{ProgramTree}
use Rattle.um_tree.specs.Formed.{IsFormed}
use Rattle.um_run.specs.declared.call.CallRefusal.{CallRefusal}
use Rattle.um_run.specs.declared.call.CallRefusal.TheVariants as refusal
use Rattle.um_run.specs.Calls.{CallTree, IsCallOf}
use Rattle.um_run.proofs.UniqueCalls.{calls_are_unique}
use Rattle.um_reports.specs.declared.status.Status.{Status}
use Rattle.um_reports.specs.CallRefusals.{IsCallReply}
use Rattle.um_front.specs.Stages.{CheckedTree}
use Rattle.um_call_answers.specs.declared.way.Way.{Way}
use Rattle.um_call_answers.specs.AskedCall.{AskedCall}
use Rattle.um_call_answers.specs.OfCall.{IsAskedCall, OfCall}
use Rattle.um_call_answers.specs.CallAnswer.{IsCallAnswer, RunAnswer}
use Rattle.um_call_answers.specs.TwinAnswer.{TwinLiteralsAnswer, SizedAnswer}

module _ (asked : AskedCall) (c : CheckedTree) (text : List ℕ) (status : Status) where
  abbrev IsOfWords : Result CallTree CallRefusal → Type 0
  IsOfWords r = IsCallOf c.text.program c.text.abbreviations c.schemes asked.name asked.texts r

  abbrev IsWanting : Result CallTree CallRefusal → Type 0
  IsWanting r = r ≡ Err refusal.NoMemory

  -- they are one, unless memory was wanting
  abbrev AreOne : Result CallTree CallRefusal → Result CallTree CallRefusal → Type 0
  AreOne r q = (r ≡ q) ⊎ (IsWanting r ⊎ IsWanting q)

  -- ---- the answers say so
  pub call_stage : (way : Way) → IsCallAnswer way asked c text status → OfCall (RunAnswer way asked.budget) asked c text status
  unfolding IsCallAnswer
  call_stage way answer = answer

  pub twin_stage : (cs : List Frac) (bytes : List ℕ) → SizedAnswer cs asked bytes c text status → OfCall (TwinLiteralsAnswer asked.budget cs bytes) asked c text status
  unfolding SizedAnswer
  twin_stage cs bytes answer = answer

  -- ---- the words name one call, or are refused in one way
  module _ (formed : IsFormed c.text.program) where
    unique : (r q : Result CallTree CallRefusal) → IsOfWords r → IsOfWords q → AreOne r q
    unique r q here there = calls_are_unique c.text.program c.text.abbreviations c.schemes asked.name asked.texts formed r q here there

    no_reply : (refused : CallRefusal) → IsWanting (Err refused) → IsCallReply asked.texts refused text status → ⊥
    no_reply refused wanting reply = let none : refused ≡ refusal.NoMemory = cc wanting in subst (λ r. IsCallReply asked.texts r text status) none reply

    pub said_of_call : (Says : ProgramTree → CallTree → List ℕ → Status → Type 0) (call : CallTree) → IsAskedCall asked c call → OfCall Says asked c text status → Says c.text.program call text status
    said_of_call Says call named (inl (other, also, says)) = by (unique (Ok call) (Ok other) named also)
      where
        by : AreOne (Ok call) (Ok other) → Says c.text.program call text status
        by (inl same) = let one : other ≡ call = cc (sym same) in subst (λ x. Says c.text.program x text status) one says
        by (inr (inl wrong)) = absurd (cc wrong)
        by (inr (inr wrong)) = absurd (cc wrong)
    said_of_call Says call named (inr (refused, also, reply)) = by (unique (Ok call) (Err refused) named also)
      where
        by : AreOne (Ok call) (Err refused) → Says c.text.program call text status
        by (inl wrong) = absurd (cc wrong)
        by (inr (inl wrong)) = absurd (cc wrong)
        by (inr (inr wanting)) = absurd (no_reply refused wanting reply)

    pub said_of_refusal : (Says : ProgramTree → CallTree → List ℕ → Status → Type 0) (refused : CallRefusal) → IsOfWords (Err refused) → (IsWanting (Err refused) → ⊥) → OfCall Says asked c text status → IsCallReply asked.texts refused text status
    said_of_refusal Says refused named told (inl (call, also, says)) = by (unique (Err refused) (Ok call) named also)
      where
        by : AreOne (Err refused) (Ok call) → IsCallReply asked.texts refused text status
        by (inl wrong) = absurd (cc wrong)
        by (inr (inl wanting)) = absurd (told wanting)
        by (inr (inr wrong)) = absurd (cc wrong)
    said_of_refusal Says refused named told (inr (other, also, reply)) = by (unique (Err refused) (Err other) named also)
      where
        by : AreOne (Err refused) (Err other) → IsCallReply asked.texts refused text status
        by (inl same) = let one : other ≡ refused = cc (sym same) in subst (λ r. IsCallReply asked.texts r text status) one reply
        by (inr (inl wanting)) = absurd (told wanting)
        by (inr (inr wanting)) = absurd (no_reply other wanting reply)
