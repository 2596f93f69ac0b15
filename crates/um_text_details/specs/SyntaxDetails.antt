-- What is told of a refused token: the words that could stand in its place, and the `let` that has no `in`.
-- Source: this project's own texts; expected words are those after viable prefixes, as in Knuth, On the Translation of
-- Languages from Left to Right.
use Rattle.std.specs.Prelude.{ℕ, ◌≡◌, ◌&&◌, Bool, true, false, if◌then◌else◌, List, ◌++◌, codes, slice_get, take}
use Rattle.std.specs.Prelude.{Option, Some, None}
use Rattle.std.specs.List.{flat_map, list_any}
use Rattle.um_syntax.specs.declared.token.Token.{Token}
use Rattle.um_vocabulary.specs.declared.vocabulary.Keyword.TheVariants as keyword
use Rattle.um_unit_texts.specs.UnitStops.{place_of}
use Rattle.um_parse.specs.ProgramStops.{StopsAt}
use Rattle.um_text_details.specs.declared.word.Word.{Word}
use Rattle.um_text_details.specs.declared.word.Word.TheVariants as word
use Rattle.um_text_details.specs.Words.{word_text}
use Rattle.um_text_details.specs.Expected.{Place, AreExpected}
use Rattle.um_text_details.specs.OpenLets.{ends_body, open_let}

-- ---- the words

abbrev pub is_glued : Option Token → Bool
is_glued None = false
is_glued (Some t) = t.glued

-- token number k of a text of so many bytes, or its end
abbrev pub refused_place : List Token → ℕ → ℕ → Place
refused_place tokens k end = record {
  before = take k tokens;
  at = place_of tokens k end;
  glued = is_glued (slice_get tokens k);
}

-- each word after a space
abbrev pub spaced_word : Word → List ℕ
spaced_word w = codes " " ++ word_text w

abbrev pub expected_line : List Word → List ℕ
expected_line told = codes "expected:" ++ flat_map spaced_word told ++ codes "\n"

-- ---- a `let` without `in`

abbrev pub is_in_word : Word → Bool
is_in_word (word.Keyword keyword.In) = true
is_in_word _ = false

-- the place of the `let`, if `in` is one of the words, and a declaration begins there or the text ends
abbrev pub missing_in : List Token → ℕ → List Word → Option ℕ
missing_in tokens k told =
    if list_any is_in_word told && ends_body (slice_get tokens k) then open_let (take k tokens) else None

-- ---- a refused token

-- The token that is refused, or the end, and the words that could stand there; the line tells them.
pub record IsToldOf (tokens : List Token) (end : ℕ) (text : List ℕ) (missing : Option ℕ) : Type 0 where
  pub number : ℕ
  pub stops : StopsAt tokens number
  pub words : List Word
  pub expected : AreExpected (refused_place tokens number end) words
  pub line : text ≡ expected_line words
  pub missing_in : missing ≡ missing_in tokens number words
