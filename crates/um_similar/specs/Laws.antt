-- What the test of one edit and the search for similar names come to. The definitions do not rest on this.
-- Source: Damerau (1964), A technique for computer detection and correction of spelling errors.
use Rattle.std.specs.Prelude.{◌≡◌, ◌↔◌, ℕ, List, [], true}
use Rattle.um_similar.specs.Edits.{IsOneEdit}
use Rattle.um_similar.specs.OneEdit.{one_edit}
use Rattle.um_similar.specs.SimilarNames.{similar_names, looked_at_all}

-- words pass the test exactly if they are at one edit
abbrev pub SimilarAreOneEdit : Type 0
SimilarAreOneEdit = (first second : List ℕ) → (one_edit first second ≡ true) ↔ IsOneEdit first second

-- to look at the known names one by one finds those that are similar, the first four and each once
abbrev pub SearchesFindSimilar : Type 0
SearchesFindSimilar =
    (unknown : List ℕ) (known : List (List ℕ)) →
    looked_at_all (record { unknown = unknown; found = [] }) known
    ≡ record { unknown = unknown; found = similar_names unknown known }
