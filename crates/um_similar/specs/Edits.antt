-- Words that differ by one edit. A word is its list of characters.
-- Source: Damerau (1964), A technique for computer detection and correction of spelling errors: one character too many,
-- one missing, one wrong, or two neighbours exchanged.
use Rattle.std.specs.Prelude.{◌≡◌, ◌≢◌, ◌⊎◌, ℕ, List, [], ◌∷◌, ◌++◌}

-- the words are alike but for a middle part, which is this one in the first and that one in the second
pub record DifferAt (first second this that : List ℕ) : Type 0 where
  pub front : List ℕ
  pub back : List ℕ
  pub one : first ≡ front ++ (this ++ back)
  pub other : second ≡ front ++ (that ++ back)

-- the second has one character more
abbrev pub IsPutIn : List ℕ → List ℕ → Type 0
IsPutIn first second = (c : ℕ) × DifferAt first second [] (c ∷ [])

-- or one less
abbrev pub IsLeftOut : List ℕ → List ℕ → Type 0
IsLeftOut first second = (c : ℕ) × DifferAt first second (c ∷ []) []

-- or another one in the place of one
abbrev pub IsChanged : List ℕ → List ℕ → Type 0
IsChanged first second = (c d : ℕ) × (c ≢ d) × DifferAt first second (c ∷ []) (d ∷ [])

-- or two neighbours, which are not alike, in the other order
abbrev pub IsExchanged : List ℕ → List ℕ → Type 0
IsExchanged first second = (c d : ℕ) × (c ≢ d) × DifferAt first second (c ∷ d ∷ []) (d ∷ c ∷ [])

abbrev pub IsOneEdit : List ℕ → List ℕ → Type 0
IsOneEdit first second =
    IsPutIn first second ⊎ (IsLeftOut first second ⊎ (IsChanged first second ⊎ IsExchanged first second))
