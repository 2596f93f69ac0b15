-- An answer that is handed out.
use Rattle.std.proofs.Common.{◌≡◌, ℕ, IsTrue, List, Result, Ok, Err, inl, inr, sym, ◌∙◌}
use Rattle.std.specs.Prelude.{◌≢◌, Option, IfOk, MatchResult}
use Rattle.std.specs.declared.alloc.AllocError.{AllocError}
use Rattle.um_reports.specs.declared.reply.Reply.{Reply}
use Rattle.um_reports.specs.declared.status.Status.{Status}
use Rattle.um_reports.specs.declared.status.Status.TheVariants.{Done, TooLong, Utf8, Lexical, Syntax, Limit, Names, Shape, Units, NotGeneral, PowerRange, NoMemory}
use Rattle.um_reports.specs.Numbers.{number_of}
use Rattle.um_front.specs.Refused.{IsUnchecked}
use Rattle.um_front.proofs.RefusalStatuses.{is_refusal, unchecked_refusal}
use Rattle.um_answers.specs.Passing.{IsTypedText}
use Rattle.um_answers.specs.TypesAnswer.{TypesAnswer}
use Rattle.um_answers.proofs.TextAnswers.{typed_text_is_checked, types_done}
use Rattle.um_embed.specs.Embedded.{HeldAnswer, IsHanded, IsWanting, Answered}

module _ (number size : ℕ) (old new : List ℕ) where
  abbrev pub Handed : Result Reply AllocError → Type 0
  Handed r = MatchResult r (λ reply. IsHanded reply.text.items reply.status number size old new) (λ _. IsWanting number size)

  pub answered : (text : Option (List ℕ)) (words : List (List ℕ)) (r : Result Reply AllocError) → IfOk r (λ reply. HeldAnswer text words reply.text.items reply.status) → Handed r
      → Answered text words number size old new
  answered text words (Ok reply) says handed = inr (reply.text.items, reply.status, says, handed)
  answered text words (Err error) says wanting = inl wanting

  -- ---- the answer to `types`
  pub typed_is_done : (bytes : List ℕ) → IsTypedText bytes → (r : Result Reply AllocError) → IfOk r (λ reply. TypesAnswer bytes reply.text.items reply.status) → Handed r
      → number ≢ number_of NoMemory → number ≡ number_of Done
  typed_is_done bytes typed (Ok reply) says handed other =
      let checked = typed_text_is_checked bytes typed in
      handed.0 ∙ (λ i. number_of (types_done bytes reply.text.items reply.status checked.0 checked.1 says i))
  typed_is_done bytes typed (Err error) says wanting other = absurd (other wanting.0)

-- ---- a refusal is not done
refusal_number : (status : Status) → IsTrue (is_refusal status) → number_of status ≡ 0 → ⊥
refusal_number TooLong refused is = cc is
refusal_number Utf8 refused is = cc is
refusal_number Lexical refused is = cc is
refusal_number Syntax refused is = cc is
refusal_number Limit refused is = cc is
refusal_number Names refused is = cc is
refusal_number PowerRange refused is = cc is
refusal_number Shape refused is = cc is
refusal_number Units refused is = cc is
refusal_number NotGeneral refused is = cc is
refusal_number status refused is = absurd (cc refused)

pub refused_not_done : (number size : ℕ) (old new bytes : List ℕ) (r : Result Reply AllocError) → IfOk r (λ reply. IsUnchecked bytes reply.text.items reply.status) → Handed number size old new r
    → number ≡ number_of Done → ⊥
refused_not_done number size old new bytes (Ok reply) refused handed done = refusal_number reply.status (unchecked_refusal bytes reply.text.items reply.status refused) (sym handed.0 ∙ done)
refused_not_done number size old new bytes (Err error) refused wanting done = let wrong : number_of NoMemory ≡ number_of Done = sym wanting.0 ∙ done in cc wrong

pub refused_types : (bytes text : List ℕ) (status : Status) → IsUnchecked bytes text status → TypesAnswer bytes text status
unfolding TypesAnswer
refused_types bytes text status refused = inr refused
