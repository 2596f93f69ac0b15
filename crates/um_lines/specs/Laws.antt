-- What it means that a source is cut, in its bytes. The definitions do not rest on this.
-- Source: this project's own.
use Rattle.std.specs.Prelude.{ℕ, ◌≡◌, ◌≤◌, ◌⊎◌, List, [], ◌++◌, length, codes}
use Rattle.um_lines.specs.Sources.{program_in, calls_of, call_lines}

-- The bytes are a text, a line that is `---` alone, and calls. The line begins where the text is empty or ends with a
-- line feed; it ends with a line feed, with a carriage return and a line feed, or with the bytes.
pub record AreCut (bytes text calls : List ℕ) : Type 0 where
  pub end : List ℕ
  pub whole : bytes ≡ text ++ codes "---" ++ end ++ calls
  pub begins : (text ≡ []) ⊎ ((front : List ℕ) × (text ≡ front ++ codes "\n"))
  pub ends : (end ≡ codes "\n") ⊎ ((end ≡ codes "\r\n") ⊎ ((end ≡ []) × (calls ≡ [])))

-- A source is cut at the first such line; if there is none, it is all text, and has no calls.
abbrev pub SourceIsCut : Type 0
SourceIsCut =
    (bytes : List ℕ) →
    ((calls : List ℕ) × AreCut bytes (program_in bytes) calls × (calls_of bytes ≡ call_lines calls)
    × ((text other : List ℕ) → AreCut bytes text other → length (program_in bytes) ≤ length text))
    ⊎ ((program_in bytes ≡ bytes) × (calls_of bytes ≡ []) × ((text other : List ℕ) → AreCut bytes text other → ⊥))
