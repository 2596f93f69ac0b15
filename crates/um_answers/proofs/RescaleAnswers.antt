-- The answer to `rescale` is one, is done if the word states sizes of base units and each literal fits, and has no
-- status of a fault.
use Rattle.std.proofs.Common.{◌≡◌, ◌⊎◌, ℕ, List, IsTrue, MatchOption, Option, Result, Ok, Err, Some, None, inl, inr, refl, sym, subst, ◌∙◌}
use Rattle.um_frac.specs.declared.number.Frac.{Frac}
use Rattle.um_tree.specs.ProgramTree.{ProgramTree}
use Rattle.um_scale.specs.RescaledLiterals.{misfit_in, rescaled_program}
use Rattle.um_scale.specs.RescaledText.{IsRescaledText}
use Rattle.um_scale.proofs.RescaledTexts.{texts_are_unique}
use Rattle.um_sizes.specs.declared.read.ScalesRefusal.{ScalesRefusal}
use Rattle.um_sizes.specs.declared.read.ScalesRefusal.TheVariants.{NoMemory}
use Rattle.um_sizes.proofs.UniqueSizes.{scales_are_unique}
use Rattle.um_reports.specs.declared.status.Status.{Status}
use Rattle.um_reports.specs.declared.status.Status.TheVariants.{Done}
use Rattle.um_reports.specs.ScaleRefusals.{IsLiteralReply}
use Rattle.um_reports.proofs.ReportStatuses.{is_answered, sizes_reply, one_sizes_reply}
use Rattle.um_parse.specs.Laws.{AnswersAreUnique}
use Rattle.um_front.specs.Stages.{CheckedTree, IsCheckedText}
use Rattle.um_front.proofs.StageLaws.{checked_given, checked_answered, checked_once}
use Rattle.um_answers.specs.RescaleAnswer.{LiteralsAnswer, BySizes, IsRescaled, RescaleAnswer}
use Rattle.um_answers.specs.Passing.{HasSizes}

-- ---- statuses

literals_status : (cs : List Frac) (bytes : List ℕ) (p : ProgramTree) (text : List ℕ) (status : Status) → LiteralsAnswer cs bytes p text status → IsTrue (is_answered status)
unfolding LiteralsAnswer
literals_status cs bytes p text status answer = by (misfit_in cs p.functions) answer where
  by : (o : Option ℕ) → MatchOption o (IsRescaledText bytes (rescaled_program cs p) text × (status ≡ Done)) (λ at. IsLiteralReply bytes at text status) → IsTrue (is_answered status)
  by None done = rw done.1 refl
  by (Some at) reply = rw reply.1 refl

by_sizes_status : (bytes : List ℕ) (p : ProgramTree) (r : Result (List Frac) ScalesRefusal) (text : List ℕ) (status : Status) → BySizes bytes p r text status → IsTrue (is_answered status)
by_sizes_status bytes p (Ok cs) text status answer = literals_status cs bytes p text status answer
by_sizes_status bytes p (Err refused) text status reply = sizes_reply refused text status reply

rescaled_status : (word bytes : List ℕ) (c : CheckedTree) (text : List ℕ) (status : Status) → IsRescaled word bytes c text status → IsTrue (is_answered status)
unfolding IsRescaled
rescaled_status word bytes c text status (r, read, answer) = by_sizes_status bytes c.text.program r text status answer

pub RescaleAnswer-status : (word bytes text : List ℕ) (status : Status) → RescaleAnswer word bytes text status → IsTrue (is_answered status)
unfolding RescaleAnswer
RescaleAnswer-status word bytes text status answer = checked_answered (IsRescaled word bytes) bytes text status (λ c. rescaled_status word bytes c text status) answer

-- ---- one answer
module _ (text other : List ℕ) (status another : Status) where
  abbrev AreSame : Type 0
  AreSame = (text ≡ other) × (status ≡ another)

  literals_one : (cs : List Frac) (bytes : List ℕ) (p : ProgramTree) → LiteralsAnswer cs bytes p text status → LiteralsAnswer cs bytes p other another → AreSame
  unfolding LiteralsAnswer
  literals_one cs bytes p a b = by (misfit_in cs p.functions) a b where
    by : (o : Option ℕ) → MatchOption o (IsRescaledText bytes (rescaled_program cs p) text × (status ≡ Done)) (λ at. IsLiteralReply bytes at text status)
        → MatchOption o (IsRescaledText bytes (rescaled_program cs p) other × (another ≡ Done)) (λ at. IsLiteralReply bytes at other another) → AreSame
    by None x y = (texts_are_unique bytes (rescaled_program cs p) text other x.0 y.0, x.1 ∙ sym y.1)
    by (Some at) x y = (x.0 ∙ sym y.0, x.1 ∙ sym y.1)

  by_sizes_one : (bytes : List ℕ) (p : ProgramTree) (r : Result (List Frac) ScalesRefusal) → BySizes bytes p r text status → BySizes bytes p r other another → AreSame
  by_sizes_one bytes p (Ok cs) a b = literals_one cs bytes p a b
  by_sizes_one bytes p (Err refused) a b = one_sizes_reply text other status another refused a b

  sizes_one : (bytes : List ℕ) (p : ProgramTree) (r q : Result (List Frac) ScalesRefusal) → (r ≡ q) ⊎ ((r ≡ Err NoMemory) ⊎ (q ≡ Err NoMemory)) → BySizes bytes p r text status → BySizes bytes p q other another → AreSame
  sizes_one bytes p r q (inl same) a b = by_sizes_one bytes p q (subst (λ x. BySizes bytes p x text status) same a) b
  sizes_one bytes p r q (inr (inl wanting)) a b = absurd (subst (λ x. BySizes bytes p x text status) wanting a)
  sizes_one bytes p r q (inr (inr wanting)) a b = absurd (subst (λ x. BySizes bytes p x other another) wanting b)

  rescaled_once : (word bytes : List ℕ) (c : CheckedTree) → IsRescaled word bytes c text status → IsRescaled word bytes c other another → AreSame
  unfolding IsRescaled
  rescaled_once word bytes c (r, read, a) (q, also, b) = sizes_one bytes c.text.program r q (scales_are_unique c.text.program.bases word r q read also) a b

  pub rescale_one : AnswersAreUnique → (word bytes : List ℕ) → RescaleAnswer word bytes text status → RescaleAnswer word bytes other another → AreSame
  unfolding RescaleAnswer
  rescale_one one word bytes a b = checked_once (IsRescaled word bytes) bytes text status other another one (λ c is. rescaled_once word bytes c) a b

-- ---- done
literals_done : (cs : List Frac) (bytes : List ℕ) (p : ProgramTree) (text : List ℕ) (status : Status) → misfit_in cs p.functions ≡ None → LiteralsAnswer cs bytes p text status → status ≡ Done
unfolding LiteralsAnswer
literals_done cs bytes p text status fit answer =
    (subst (λ (o : Option ℕ). MatchOption o (IsRescaledText bytes (rescaled_program cs p) text × (status ≡ Done)) (λ at. IsLiteralReply bytes at text status)) fit answer).1

module _ (cs : List Frac) (bytes : List ℕ) (p : ProgramTree) (text : List ℕ) (status : Status) (fit : misfit_in cs p.functions ≡ None) where
  sized_done : (r : Result (List Frac) ScalesRefusal) → (Ok cs ≡ r) ⊎ ((Ok cs ≡ Err NoMemory) ⊎ (r ≡ Err NoMemory)) → BySizes bytes p r text status → status ≡ Done
  sized_done r (inl same) answer = literals_done cs bytes p text status fit (subst (λ x. BySizes bytes p x text status) (sym same) answer)
  sized_done r (inr (inl wrong)) answer = absurd (cc wrong)
  sized_done r (inr (inr wanting)) answer = absurd (subst (λ x. BySizes bytes p x text status) wanting answer)

module _ (word bytes : List ℕ) (c : CheckedTree) (is : IsCheckedText bytes c) (h : HasSizes word c.text.program) (text : List ℕ) (status : Status) where
  rescaled_done : IsRescaled word bytes c text status → status ≡ Done
  unfolding IsRescaled
  rescaled_done (r, read, answer) =
      sized_done h.scales bytes c.text.program text status h.literals r (scales_are_unique c.text.program.bases word (Ok h.scales) r h.read read) answer

  pub rescale_done : RescaleAnswer word bytes text status → status ≡ Done
  unfolding RescaleAnswer
  rescale_done answer = rescaled_done (checked_given (IsRescaled word bytes) bytes text status c is answer)
