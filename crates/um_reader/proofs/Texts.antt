-- What more tokens begin, fewer begin.
use Rattle.std.proofs.Common.{◌≡◌, ℕ, ◌≤◌, List, [], ◌++◌, take, drop, sym, ap, subst, ◌∙◌, append_assoc}
use Rattle.std.proofs.lemmas.List.{take-append-drop, take-take, append-nil}
use Rattle.um_reader.specs.Texts.{BeginsText, BeginsTextWithin}

-- fewer tokens, and then the others
fewer : {T : Type 0} → (tokens more : List T) (m n : ℕ) → m ≤ n → take n tokens ++ more ≡ take m tokens ++ (drop m (take n tokens) ++ more)
fewer tokens more m n le =
    ap (λ w. w ++ more) (sym (take-append-drop m (take n tokens)))
    ∙ append_assoc (take m (take n tokens)) (drop m (take n tokens)) more
    ∙ ap (λ w. w ++ (drop m (take n tokens) ++ more)) (take-take m n tokens le)

module _ {T A : Type 0} (Is : List T → A → Type 0) where
  pub begins_before : (tokens : List T) (m n : ℕ) → m ≤ n → BeginsText Is (take n tokens) → BeginsText Is (take m tokens)
  begins_before tokens m n le b = (drop m (take n tokens) ++ b.0, b.1, subst (λ w. Is w b.1) (fewer tokens b.0 m n le) b.2)

  -- what the tokens of a text begin
  pub begins_front : (tokens : List T) (t : A) (k : ℕ) → Is tokens t → BeginsText Is (take k tokens)
  begins_front tokens t k p = (drop k tokens, t, subst (λ w. Is w t) (sym (take-append-drop k tokens)) p)

module _ {T A : Type 0} (Is : List T → A → Type 0) (height : A → ℕ) (limit : ℕ) where
  pub within_before : (tokens : List T) (m n : ℕ) → m ≤ n → BeginsTextWithin Is height limit (take n tokens) → BeginsTextWithin Is height limit (take m tokens)
  within_before tokens m n le b = (drop m (take n tokens) ++ b.0, b.1, subst (λ w. Is w b.1) (fewer tokens b.0 m n le) b.2, b.3)

  pub within_front : (tokens : List T) (t : A) (k : ℕ) → Is tokens t → height t ≤ limit → BeginsTextWithin Is height limit (take k tokens)
  within_front tokens t k p low = (drop k tokens, t, subst (λ w. Is w t) (sym (take-append-drop k tokens)) p, low)

  pub within_whole : (tokens : List T) (t : A) → Is tokens t → height t ≤ limit → BeginsTextWithin Is height limit tokens
  within_whole tokens t p low = ([], t, subst (λ w. Is w t) (sym (append-nil tokens)) p, low)
