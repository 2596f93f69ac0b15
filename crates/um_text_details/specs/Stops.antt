-- Mirrors the code: what it asks of the place where a text stops.
-- Source: this project's own.
use Rattle.std.specs.Prelude.{ℕ, ◌≡◌, ◌≤◌, ◌+◌, ◌==◌, if◌then◌else◌, List, [], ◌∷◌, ◌++◌, drop, length}
use Rattle.std.specs.Prelude.{Option}
use Rattle.std.specs.Str.{IsUtf8}
use Rattle.um_syntax.specs.declared.token.Token.{Token}
use Rattle.um_syntax.specs.declared.token.TextStop.{TextStop}
use Rattle.um_syntax.specs.declared.token.TextStop.TheVariants as stop
use Rattle.um_text_details.specs.SyntaxDetails.{IsToldOf}

-- a character that begins no token stands at the place
abbrev pub IsCharacterStop : List ℕ → TextStop → Type 0
IsCharacterStop bytes (stop.BadChar at) = (at ≤ length bytes) × IsUtf8 (drop at bytes)
IsCharacterStop bytes (stop.Utf8 at) = Unit {0}
IsCharacterStop bytes (stop.NumberRange at) = Unit {0}
IsCharacterStop bytes (stop.PowerText at) = Unit {0}
IsCharacterStop bytes stop.NoMemory = Unit {0}

-- the number of the first token that begins at the place, or of the end
abbrev pub number_at : List Token → ℕ → ℕ
number_at [] at = 0
number_at (t ∷ ts) at = if t.start == at then 0 else 1 + number_at ts at

-- what is told of a refused token is added
abbrev pub AddsTold : List Token → ℕ → List ℕ → List ℕ → Option ℕ → Type 0
AddsTold tokens end before after missing = (text : List ℕ) × (after ≡ before ++ text) × IsToldOf tokens end text missing
