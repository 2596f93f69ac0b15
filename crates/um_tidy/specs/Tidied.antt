-- A text laid out anew with its own tokens, comments and line breaks.
-- Source: this project's own.
use Rattle.std.specs.Prelude.{ℕ, List, [], ◌∷◌, ◌++◌, drop, slice_range}
use Rattle.std.specs.Str.{chars}
use Rattle.um_syntax.specs.declared.token.Token.{Token}
use Rattle.um_syntax.specs.Lexing.{body_place}
use Rattle.um_tidy.specs.declared.stand.Stand.{Stand}
use Rattle.um_tidy.specs.Stands.{start, stand_of}
use Rattle.um_tidy.specs.Spaces.{is_spaced}
use Rattle.um_tidy.specs.Gaps.{first_gap, inner_gap, last_gap, only_gap}

-- a token as it is spelled in the text
abbrev pub spelling : List ℕ → Token → List ℕ
spelling text token = slice_range text token.start token.end

-- what follows a token that stands so
abbrev pub tidied_after : List ℕ → Stand → Token → List Token → List ℕ
tidied_after text s token [] = last_gap (drop token.end text)
tidied_after text s token (t ∷ ts) =
    inner_gap (is_spaced s token.kind (stand_of s t) t.kind) (stand_of s t).begins (slice_range text token.end t.start)
    ++ (spelling text t ++ tidied_after text (stand_of s t) t ts)

-- the text from a place on, with the tokens that stand there
abbrev pub tidied_from : ℕ → List ℕ → List Token → List ℕ
tidied_from at text [] = only_gap (drop at text)
tidied_from at text (t ∷ ts) =
    first_gap (stand_of start t).begins (slice_range text at t.start)
    ++ (spelling text t ++ tidied_after text (stand_of start t) t ts)

-- A text with these tokens. A byte order mark at its front goes.
abbrev pub tidied : List ℕ → List Token → List ℕ
tidied text tokens = tidied_from (body_place (chars text)) text tokens
