-- Tokens in which the numbers before units are those of a table, at the places where they stood.
-- Source: this project's own.
use Rattle.std.specs.Prelude.{◌≡◌, ℕ, Bool, List, [], ◌∷◌, slice_get, Option, Some, None}
use Rattle.um_frac.specs.declared.number.Frac.{Frac}
use Rattle.um_syntax.specs.declared.token.Kind.TheVariants as kind
use Rattle.um_syntax.specs.declared.token.Token.{Token}
use Rattle.um_scale.specs.RescaledText.{opens_unit, new_number}

-- the second token is this number at the place of the first, or the first one if there is no number
abbrev pub IsReplaced : Option Frac → Token → Token → Type 0
IsReplaced None t u = u ≡ t
IsReplaced (Some c) t u = (digits one : Bool) × (u ≡ record t { kind = kind.Number c digits one })

-- token by token
abbrev pub AreReplaced : (ℕ → Option Frac) → List Token → List Token → Type 0
AreReplaced numbers [] us = us ≡ []
AreReplaced numbers (t ∷ ts) us =
    (u : Token) × (vs : List Token) × (us ≡ u ∷ vs)
    × IsReplaced (new_number numbers t (opens_unit (slice_get ts 0))) t u × AreReplaced numbers ts vs
