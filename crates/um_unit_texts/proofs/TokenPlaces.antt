-- Places of tokens by their numbers. Published: crates above use it.
use Rattle.std.proofs.Common.{◌≡◌, ℕ, zero, suc, ◌<◌, List, [], ◌∷◌, length, get_or, refl, ap, arith}
use Rattle.um_syntax.specs.declared.token.Token.{Token}
use Rattle.um_unit_texts.specs.UnitStops.{place_of}

-- of a token by its number
pub place_at : (tokens : List Token) (i end : ℕ) (x : Token) → i < length tokens → get_or tokens i x ≡ x → place_of tokens i end ≡ x.start
place_at [] i end x lt same = absurd (omega (arith, lt))
place_at (t ∷ ts) zero end x lt same = ap (λ (y : Token). y.start) same
place_at (t ∷ ts) (suc i) end x lt same = place_at ts i end x (omega (arith, lt)) same

-- after all tokens
pub place_behind : (tokens : List Token) (end : ℕ) → place_of tokens (length tokens) end ≡ end
place_behind [] end = refl
place_behind (t ∷ ts) end = place_behind ts end
