-- What holds of each text that has tokens, whether it is a program or not.
-- Source: this project's own.
use Rattle.std.specs.Prelude.{◌≡◌, ℕ, List, [], ◌∷◌, ◌++◌, Ok, drop, map, slice_range}
use Rattle.std.specs.Str.{chars}
use Rattle.um_syntax.specs.declared.token.Kind.{Kind}
use Rattle.um_syntax.specs.declared.token.Token.{Token}
use Rattle.um_syntax.specs.Feeding.{IsTextAnswer}
use Rattle.um_syntax.specs.Lexing.{body_place}
use Rattle.um_tidy.specs.Gaps.{lines, comment}
use Rattle.um_tidy.specs.Tidied.{spelling, tidied}

abbrev pub kind_of : Token → Kind
kind_of token = token.kind

abbrev pub kinds : List Token → List Kind
kinds tokens = map kind_of tokens

-- the tokens as they are spelled
abbrev pub spellings : List ℕ → List Token → List (List ℕ)
spellings text tokens = map (spelling text) tokens

-- The text laid out anew has the same tokens in the same order, as they were spelled.
abbrev pub TokensStay : Type 0
TokensStay =
    (text : List ℕ) (tokens : List Token) → IsTextAnswer text (Ok tokens)
    → (others : List Token) × IsTextAnswer (tidied text tokens) (Ok others) × (kinds others ≡ kinds tokens)
    × (spellings (tidied text tokens) others ≡ spellings text tokens)

-- the comments of lines, without the white space at their ends
abbrev pub with_comment : List ℕ → List (List ℕ) → List (List ℕ)
with_comment [] more = more
with_comment (c ∷ cs) more = (c ∷ cs) ∷ more

abbrev pub comments_in : List (List ℕ) → List (List ℕ)
comments_in [] = []
comments_in (line ∷ ls) = with_comment (comment line) (comments_in ls)

-- those of a text from a place on, with the tokens that stand there
abbrev pub comments_from : ℕ → List ℕ → List Token → List (List ℕ)
comments_from at text [] = comments_in (lines (drop at text))
comments_from at text (t ∷ ts) = comments_in (lines (slice_range text at t.start)) ++ comments_from t.end text ts

abbrev pub comments : List ℕ → List Token → List (List ℕ)
comments text tokens = comments_from (body_place (chars text)) text tokens

-- The text laid out anew has the same comments in the same order, less the white space at their ends.
abbrev pub CommentsStay : Type 0
CommentsStay =
    (text : List ℕ) (tokens : List Token) → IsTextAnswer text (Ok tokens)
    → (others : List Token) × IsTextAnswer (tidied text tokens) (Ok others)
    × (comments (tidied text tokens) others ≡ comments text tokens)

-- The text laid out anew is laid out as it stands.
abbrev pub TidiedStays : Type 0
TidiedStays =
    (text : List ℕ) (tokens : List Token) → IsTextAnswer text (Ok tokens)
    → (others : List Token) × IsTextAnswer (tidied text tokens) (Ok others)
    × (tidied (tidied text tokens) others ≡ tidied text tokens)
