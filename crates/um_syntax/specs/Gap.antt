-- What is skipped between tokens: white space and comments. A comment runs from two slashes to its line feed (this
-- project's own).
use Rattle.std.specs.Prelude.{◌≡◌, ℕ, Bool, true, false, ◌==◌, ◌||◌, List, [], ◌∷◌, ◌++◌}

-- space, tab, carriage return and line feed
abbrev pub is_space : ℕ → Bool
is_space c = c == 32 || (c == 9 || (c == 13 || c == 10))

-- no line feed stands among the characters
abbrev pub IsLine : List ℕ → Type 0
IsLine [] = Unit {0}
IsLine (c ∷ cs) = ((c == 10) ≡ false) × IsLine cs

-- white space and comments, each comment with its line feed
pub data IsGap : List ℕ → Type 0 where
  nothing : IsGap []
  space : {c : ℕ} {more : List ℕ} → is_space c ≡ true → IsGap more → IsGap (c ∷ more)
  comment : (line : List ℕ) {more : List ℕ} → IsLine line → IsGap more → IsGap (47 ∷ 47 ∷ line ++ 10 ∷ more)

-- The same at the end of a text, where the last comment may lack its line feed.
pub data IsLastGap : List ℕ → Type 0 where
  closed : {gap : List ℕ} → IsGap gap → IsLastGap gap
  unclosed : (line : List ℕ) {gap : List ℕ} → IsGap gap → IsLine line → IsLastGap (gap ++ 47 ∷ 47 ∷ line)
