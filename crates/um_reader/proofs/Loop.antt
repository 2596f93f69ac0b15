-- One turn of the loop over the tokens, and its end.
use Rattle.std.proofs.Common.{◌≡◌, ℕ, ◌+◌, ◌≤◌, ◌<◌, List, [], ◌∷◌, ◌++◌, length, take, get_or, Option, Some, None, sym, ap, subst, ◌∙◌, arith}
use Rattle.std.proofs.lemmas.List.{take_more}
use Rattle.std.specs.Prelude.{option_map}
use Rattle.um_reader.specs.Machine.{Machine, reached}
use Rattle.um_reader.specs.Takes.{Takes}
use Rattle.um_reader.specs.RunTo.{IsRead, IsRefused, IsHigh, RunTo, ended_at}
use Rattle.um_reader.specs.declared.taken.Taken.TheVariants as taken
use Rattle.um_reader.proofs.Readers.{one_more}

-- the first tokens are read within the limit, and this is the state
abbrev pub Stands : {S T A : Type 0} → Machine S T A → ℕ → List T → ℕ → S → Type 0
Stands m limit tokens k state = IsRead m limit tokens k × (state ≡ reached m (take k tokens))

module _ {S T A : Type 0} (m : Machine S T A) (limit : ℕ) (tokens : List T) where
  -- the state through the next token
  pub through : (i : ℕ) (x : T) (state : S) → i < length tokens → get_or tokens i x ≡ x → state ≡ reached m (take i tokens) → m.step state x ≡ reached m (take (i + 1) tokens)
  through i x state lt same is =
      ap (λ s. m.step s x) is ∙ one_more m (take i tokens) x ∙ sym (ap (reached m) (take_more tokens i x lt ∙ ap (λ y. take i tokens ++ y ∷ []) same))

  pub goes : (i : ℕ) (x : T) (old new : S) → i < length tokens → get_or tokens i x ≡ x → Stands m limit tokens i old → Takes m limit old x taken.Goes new → Stands m limit tokens (i + 1) new
  goes i x old new lt same s t =
      let e : new ≡ reached m (take (i + 1) tokens) = t.0 ∙ through i x old lt same s.1 in
      ((omega arith, (λ h. t.1 (e ∙ h)), subst (λ w. m.least w ≤ limit) e t.2), e)

  pub too_high : (i : ℕ) (x : T) (old new : S) → i < length tokens → get_or tokens i x ≡ x → Stands m limit tokens i old → Takes m limit old x taken.High new → IsRead m limit tokens i × IsHigh m limit tokens i
  too_high i x old new lt same s t =
      let e : m.step old x ≡ reached m (take (i + 1) tokens) = through i x old lt same s.1 in
      (s.0, (lt, (λ h. t.0 (e ∙ h)), subst (λ w. limit < m.least w) e t.1))

  ends : {R : Type 0} → (view : R → A) (i : ℕ) (found : Option R) → IsRead m limit tokens i → IsRefused m tokens i → option_map view found ≡ m.finish (reached m (take i tokens)) → RunTo m limit view tokens (ended_at found i)
  ends view i (Some tree) r refused e = (r, refused, sym e)
  ends view i None r refused e = (r, refused, sym e)

  pub stops : {R : Type 0} → (view : R → A) (i : ℕ) (x : T) (old new : S) (found : Option R) → i < length tokens → get_or tokens i x ≡ x → Stands m limit tokens i old → Takes m limit old x taken.Stops new
      → option_map view found ≡ m.finish new → RunTo m limit view tokens (ended_at found i)
  stops view i x old new found lt same s t is =
      ends view i found s.0 (λ below. sym (through i x old lt same s.1) ∙ t.0) (is ∙ t.1 ∙ ap m.finish s.1)

  pub at_end : {R : Type 0} → (view : R → A) (i : ℕ) (state : S) (found : Option R) → length tokens ≤ i → Stands m limit tokens i state → option_map view found ≡ m.finish state → RunTo m limit view tokens (ended_at found (length tokens))
  at_end view i state found le s is =
      let within = s.0.0 in
      let all : i ≡ length tokens = omega (arith, within, le) in
      subst (λ k. RunTo m limit view tokens (ended_at found k)) all (ends view i found s.0 (λ below. absurd (omega (arith, below, le))) (is ∙ ap m.finish s.1))
