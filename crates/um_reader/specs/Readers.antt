-- What the clauses of a reader come to, by the grammar alone.
-- Source: this project's own.
use Rattle.std.specs.Prelude.{◌≡◌, ℕ, List, [], ◌∷◌, ◌++◌, Option}
use Rattle.um_reader.specs.Texts.{BeginsText, BeginsTextWithin, IsUnambiguous, IsTreeOf}
use Rattle.um_reader.specs.Machine.{Machine, reached}
use Rattle.um_reader.specs.Takes.{Takes}
use Rattle.um_reader.specs.declared.taken.Taken.{Taken}
use Rattle.um_reader.specs.declared.taken.Taken.TheVariants as taken

-- the state is that of these tokens, taken one by one
abbrev pub HasTaken : {S T A : Type 0} → Machine S T A → S → List T → Type 0
HasTaken m state read = state ≡ reached m read

-- what ends in the state is what these tokens are
abbrev pub EndsAs : {S T A : Type 0} → Machine S T A → S → List T → Type 0
EndsAs m state read = m.finish state ≡ m.finish (reached m read)

-- What one token more tells: the reader goes on, and the tokens through it begin a text within the height; or they
-- begin none, and the reader still ends as before it; or they begin texts, but none within the height.
abbrev pub TokenTells : {S T A : Type 0} → Machine S T A → (List T → A → Type 0) → (A → ℕ) → ℕ → List T → T → Taken → S
    → Type 0
TokenTells m Is height limit read token taken.Goes new =
    HasTaken m new (read ++ token ∷ []) × BeginsTextWithin Is height limit (read ++ token ∷ [])
TokenTells m Is height limit read token taken.Stops new =
    (BeginsText Is (read ++ token ∷ []) → ⊥) × EndsAs m new read
TokenTells m Is height limit read token taken.High new =
    BeginsText Is (read ++ token ∷ []) × (BeginsTextWithin Is height limit (read ++ token ∷ []) → ⊥)

module _ {S T A : Type 0} (m : Machine S T A) (Is : List T → A → Type 0) (height : A → ℕ) (limit : ℕ) where
  -- No two trees have the same tokens; what `take` ensures of a token tells the above; what `finish` ensures is the
  -- tree of the tokens that were taken, or that no tree has them.
  pub record ReadsTexts : Type 0 where
    pub one_text : IsUnambiguous Is
    pub tells : (old new : S) (read : List T) (token : T) (given : Taken) → HasTaken m old read
        → Takes m limit old token given new → TokenTells m Is height limit read token given new
    pub finds : (state : S) (read : List T) (found : Option A) → EndsAs m state read → found ≡ m.finish state
        → IsTreeOf Is read found
