-- Where the reading of tokens ends, by a grammar alone, and that no two answers stand together.
-- Source: this project's own; the stop is the end of the longest viable prefix, as in Knuth, On the Translation of
-- Languages from Left to Right.
use Rattle.std.specs.Prelude.{◌≡◌, ℕ, ◌+◌, ◌≤◌, ◌<◌, List, length, take}
use Rattle.um_reader.specs.Texts.{BeginsText, BeginsTextWithin}

module _ {T A : Type 0} (Is : List T → A → Type 0) where
  -- the first token through which the tokens begin no text, or the end
  pub record StopsAt (tokens : List T) (k : ℕ) : Type 0 where
    pub within : k ≤ length tokens
    pub before : BeginsText Is (take k tokens)
    pub through : k < length tokens → BeginsText Is (take (k + 1) tokens) → ⊥

module _ {T A : Type 0} (Is : List T → A → Type 0) (height : A → ℕ) (limit : ℕ) where
  -- up to the stop stands this tree, within the height
  pub record Reads (tokens : List T) (k : ℕ) (t : A) : Type 0 where
    pub stop : StopsAt Is tokens k
    pub is : Is (take k tokens) t
    pub low : height t ≤ limit

  -- up to the stop stands no tree, and no token before it is too high
  pub record Misread (tokens : List T) (k : ℕ) : Type 0 where
    pub stop : StopsAt Is tokens k
    pub none : (t : A) → Is (take k tokens) t → ⊥
    pub low : BeginsTextWithin Is height limit (take k tokens)

  -- the first token through which the tokens begin no text, or the end of tokens that are none; no token before it
  -- makes them too high
  pub record Fails (tokens : List T) (k : ℕ) : Type 0 where
    pub within : k ≤ length tokens
    pub before : BeginsTextWithin Is height limit (take k tokens)
    pub through : k < length tokens → BeginsText Is (take (k + 1) tokens) → ⊥
    pub none : k ≡ length tokens → (t : A) → Is tokens t → ⊥

  -- the first token through which the tokens begin a text and none within the height
  pub record HighAt (tokens : List T) (k : ℕ) : Type 0 where
    pub within : k < length tokens
    pub before : BeginsTextWithin Is height limit (take k tokens)
    pub through : BeginsText Is (take (k + 1) tokens)
    pub none : BeginsTextWithin Is height limit (take (k + 1) tokens) → ⊥

module _ {T A : Type 0} (Is : List T → A → Type 0) (height : A → ℕ) (limit : ℕ) (tokens : List T) where
  -- no two answers on what stands up to the stop stand together
  pub record HasOneReading : Type 0 where
    pub one_text : (j k : ℕ) (t u : A) → Reads Is height limit tokens j t → Reads Is height limit tokens k u
        → (j ≡ k) × (t ≡ u)
    pub one_misread : (j k : ℕ) → Misread Is height limit tokens j → Misread Is height limit tokens k → j ≡ k
    pub one_high : (j k : ℕ) → HighAt Is height limit tokens j → HighAt Is height limit tokens k → j ≡ k
    pub text_or_misread : (j k : ℕ) (t : A) → Reads Is height limit tokens j t → Misread Is height limit tokens k → ⊥
    pub text_or_high : (j k : ℕ) (t : A) → Reads Is height limit tokens j t → HighAt Is height limit tokens k → ⊥
    pub misread_or_high : (j k : ℕ) → Misread Is height limit tokens j → HighAt Is height limit tokens k → ⊥

  -- no two answers on what all tokens are stand together
  pub record HasOneAnswer : Type 0 where
    pub one_text : (t u : A) → Is tokens t → Is tokens u → t ≡ u
    pub one_failure : (j k : ℕ) → Fails Is height limit tokens j → Fails Is height limit tokens k → j ≡ k
    pub one_high : (j k : ℕ) → HighAt Is height limit tokens j → HighAt Is height limit tokens k → j ≡ k
    pub text_or_failure : (t : A) (k : ℕ) → Is tokens t → Fails Is height limit tokens k → ⊥
    pub text_or_high : (t : A) (k : ℕ) → Is tokens t → height t ≤ limit → HighAt Is height limit tokens k → ⊥
    pub failure_or_high : (j k : ℕ) → Fails Is height limit tokens j → HighAt Is height limit tokens k → ⊥
