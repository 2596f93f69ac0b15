-- Reading has an answer besides want of memory: a machine goes from token to token, until one is refused or too high or
-- all are read. Published: crates above use it.
use Rattle.std.proofs.Common.{◌≡◌, ◌≢◌, ◌⊎◌, inl, inr, ℕ, zero, suc, ◌+◌, ◌≤◌, List, length, take, Option, Some, None, refl, sym, ◌∙◌, subst, arith}
use Rattle.std.specs.Prelude.{Result, Ok, Err}
use Rattle.std.proofs.lemmas.Bool.{cases_lt}
use Rattle.um_reader.specs.Texts.{BeginsText}
use Rattle.um_reader.specs.ReadTo.{ReadAll}
use Rattle.um_reader.specs.Machine.{Machine, reached, IsReaderOf}
use Rattle.um_reader.specs.RunTo.{IsRead, RunAll}
use Rattle.um_reader.specs.declared.reading.ReadStop.{ReadStop}
use Rattle.um_reader.specs.declared.reading.ReadStop.TheVariants as stop
use Rattle.um_reader.proofs.Readers.{none_some, begins_text, begins_none}
use Rattle.um_reader.proofs.Answers.{reads_all}

-- some answer besides want of memory
abbrev pub HasReading : {A : Type 0} → (Result A ReadStop → Type 0) → Type 0
HasReading {A} Answers = (r : Result A ReadStop) × (r ≢ Err stop.NoMemory) × Answers r

-- decides: whether a state is the refused one
module _ {S T A : Type 0} (m : Machine S T A) (decides : (s : S) → (s ≡ m.refused) ⊎ (s ≢ m.refused)) where
  module _ (limit : ℕ) (tokens : List T) where
    abbrev IsRun : Result A ReadStop → Type 0
    IsRun r = RunAll m limit (λ (t : A). t) tokens r

    at_end : (k : ℕ) → k ≡ length tokens → IsRead m limit tokens k → (o : Option A) → m.finish (reached m (take k tokens)) ≡ o → HasReading IsRun
    at_end k all r (Some t) e =
        (Ok t, (λ h. cc h), (subst (λ n. IsRead m limit tokens n) all r, subst (λ n. m.finish (reached m (take n tokens)) ≡ Some t) all e))
    at_end k all r None e = (Err (stop.Syntax k), (λ h. cc h), (r, (λ below. absurd (omega (arith, below, all))), (λ whole. e)))

    -- n tokens are left
    run : (n k : ℕ) → k + n ≡ length tokens → IsRead m limit tokens k → HasReading IsRun
    run zero k e r = at_end k (omega (arith, e)) r (m.finish (reached m (take k tokens))) refl
    run (suc n) k e r =
        elim (decides (reached m (take (k + 1) tokens))) [
          | inl refused ↦ (Err (stop.Syntax k), (λ h. cc h), (r, (λ below. refused), (λ all. absurd (omega (arith, e, all)))))
          | inr goes ↦
              elim (cases_lt limit (m.least (reached m (take (k + 1) tokens)))) [
                | inl high ↦ (Err (stop.High k), (λ h. cc h), (r, (omega (arith, e), goes, high)))
                | inr low ↦ run n (k + 1) (omega (arith, e)) (omega (arith, e), goes, low)
              ]
        ]

  module _ {Is : List T → A → Type 0} {height : A → ℕ} (law : IsReaderOf m Is height) where
    pub each_has_reading : (limit : ℕ) → m.start ≢ m.refused → m.least m.start ≤ limit → (tokens : List T) → HasReading (ReadAll Is height limit (λ (t : A). t) tokens)
    each_has_reading limit starts low tokens =
        let (r, some, is) = run limit tokens (length tokens) 0 (omega arith) (omega arith, starts, low) in
        (r, some, reads_all law limit tokens (λ (t : A). t) r is)

    -- whether tokens begin a text, and whether they are one
    pub begins_or_not : (tokens : List T) → BeginsText Is tokens ⊎ (BeginsText Is tokens → ⊥)
    begins_or_not tokens =
        elim (decides (reached m tokens)) [
          | inl refused ↦ inr (begins_none law tokens refused)
          | inr goes ↦ inl (begins_text law tokens goes)
        ]

    is_or_not : (tokens : List T) (o : Option A) → m.finish (reached m tokens) ≡ o → ((t : A) × Is tokens t) ⊎ ((t : A) → Is tokens t → ⊥)
    is_or_not tokens (Some t) e = inl (t, law.found tokens t e)
    is_or_not tokens None e = inr (λ t is. none_some t (sym e ∙ law.finds tokens t is))

    pub text_or_not : (tokens : List T) → ((t : A) × Is tokens t) ⊎ ((t : A) → Is tokens t → ⊥)
    text_or_not tokens = is_or_not tokens (m.finish (reached m tokens)) refl
