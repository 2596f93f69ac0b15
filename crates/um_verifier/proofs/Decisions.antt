-- What is decided: it holds, or it doesn't. Published: crates above use it.
use Rattle.std.proofs.Common.{◌≡◌, ◌⊎◌, inl, inr, ℕ, zero, suc, ◌+◌, ◌≤◌, ◌<◌, Bool, true, false, List, [], ◌∷◌, Option, Some, None, refl, subst, arith}
use Rattle.std.specs.Prelude.{All}
use Rattle.std.proofs.lemmas.Bool.{cases_lt}
use Rattle.std.proofs.lemmas.List.Elements.{All-nil, All-cons, All-head, All-tail}

abbrev pub Dec : Type 0 → Type 0
Dec P = P ⊎ (P → ⊥)

module _ {P Q : Type 0} where
  pub both : Dec P → Dec Q → Dec (P × Q)
  both (inl p) (inl q) = inl (p, q)
  both (inl p) (inr none) = inr (λ h. none h.1)
  both (inr none) other = inr (λ h. none h.0)

  pub if_so : Dec P → Dec Q → Dec (P → Q)
  if_so (inr none) other = inl (λ p. absurd (none p))
  if_so (inl p) (inl q) = inl (λ _. q)
  if_so (inl p) (inr none) = inr (λ f. none (f p))

  -- the same in other words
  pub as_well : Dec P → (P → Q) → (Q → P) → Dec Q
  as_well (inl p) there back = inl (there p)
  as_well (inr none) there back = inr (λ q. none (back q))

pub fails : {P : Type 0} → Dec P → Dec (P → ⊥)
fails (inl p) = inr (λ f. f p)
fails (inr none) = inl none

pub is_test : (b c : Bool) → Dec (b ≡ c)
is_test true true = inl refl
is_test true false = inr (λ e. cc e)
is_test false true = inr (λ e. cc e)
is_test false false = inl refl

pub less : (m n : ℕ) → Dec (m < n)
less m n =
    elim (cases_lt m n) [
      | inl lt ↦ inl lt
      | inr le ↦ inr (λ lt. absurd (omega (arith, le, lt)))
    ]

pub at_most : (m n : ℕ) → Dec (m ≤ n)
at_most m n =
    elim (cases_lt n m) [
      | inl lt ↦ inr (λ le. absurd (omega (arith, le, lt)))
      | inr le ↦ inl le
    ]

module _ {A : Type 0} (P : A → Type 0) (decides : (x : A) → Dec (P x)) where
  pub all : (xs : List A) → Dec (All P xs)
  all [] = inl (All-nil P)
  all (x ∷ xs) = as_well (both (decides x) (all xs)) (λ h. All-cons P x xs h.0 h.1) (λ h. (All-head P x xs h, All-tail P x xs h))

  -- of the one that is there, if one is
  pub if_there : (o : Option A) → Dec ((x : A) → o ≡ Some x → P x)
  if_there None = inl (λ x e. absurd (cc e))
  if_there (Some y) = as_well (decides y) (λ p x e. let same : y ≡ x = cc e in subst P same p) (λ f. f y refl)

module _ (P : ℕ → Type 0) (decides : (n : ℕ) → Dec (P n)) where
  -- it holds of all from the start up to the end, or there is a first of which it doesn't
  abbrev pub FirstFailing : ℕ → ℕ → Type 0
  FirstFailing start end = (n : ℕ) × (n < end) × (P n → ⊥) × ((m : ℕ) → m < n → P m)

  further : (left n : ℕ) → ((m : ℕ) → m < n → P m) → ((m : ℕ) → m < n + left → P m) ⊎ FirstFailing n (n + left)
  further zero n before = inl (λ m low. before m (omega (arith, low)))
  further (suc left) n before =
      elim (decides n) [
        | inr none ↦ inr (n, omega arith, none, before)
        | inl p ↦
            elim (further left (suc n) (up_to p)) [
              | inl every ↦ inl (λ m low. every m (omega (arith, low)))
              | inr w ↦ let low = w.1 in inr (w.0, omega (arith, low), w.2, w.3)
            ]
      ]
    where
      up_to : P n → (m : ℕ) → m < suc n → P m
      up_to p m low =
          elim (cases_lt m n) [
            | inl lt ↦ before m lt
            | inr le ↦ let same : n ≡ m = omega (arith, low, le) in subst P same p
          ]

  pub first_failing : (end : ℕ) → ((m : ℕ) → m < end → P m) ⊎ FirstFailing 0 end
  first_failing end =
      elim (further end 0 (λ m low. absurd (omega (arith, low)))) [
        | inl every ↦ inl (λ m low. every m (omega (arith, low)))
        | inr w ↦ let low = w.1 in inr (w.0, omega (arith, low), w.2, w.3)
      ]
