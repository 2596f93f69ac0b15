-- Mirrors the code: tokens that follow one another in a text.
-- Source: this project's own.
use Rattle.std.specs.Prelude.{ℕ, ◌≤◌, List, [], ◌∷◌}
use Rattle.um_syntax.specs.declared.token.Token.{Token}

-- each token begins after the one before it, and ends within the text
abbrev pub AreInOrder : ℕ → List Token → ℕ → Type 0
AreInOrder from [] len = from ≤ len
AreInOrder from (token ∷ tokens) len =
    (from ≤ token.start) × (token.start ≤ token.end) × (token.end ≤ len) × AreInOrder token.end tokens len
