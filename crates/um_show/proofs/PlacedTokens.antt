-- The places of the tokens of pieces that stand one behind the other.
use Rattle.std.proofs.Common.{◌≡◌, ℕ, ◌+◌, Bool, true, false, List, [], ◌∷◌, length}
use Rattle.std.proofs.lemmas.Bool.{false≢true}
use Rattle.um_syntax.specs.declared.token.Token.{Token}
use Rattle.um_show.specs.Pieces.{Piece, name, variable, number, digits, word, sign, hole, space, line_end, piece_text}
use Rattle.um_show.proofs.PieceTokens.{IsKind}
use Rattle.um_show.proofs.Opens.{is_token}

-- the first token is the piece's; it begins where the piece begins in the text, and ends where it ends
pub record IsPlaced (p : Piece) (glued : Bool) (at : ℕ) (tokens : List Token) (later : ℕ → List Token → Type 0) : Type 0 where
  pub token : Token
  pub rest : List Token
  pub first : tokens ≡ token ∷ rest
  pub kind : IsKind p token.kind
  pub gap : token.glued ≡ glued
  pub start : token.start ≡ at
  pub end : token.end ≡ at + length (piece_text p)
  pub others : later token.end rest

-- The tokens are those of the pieces, that begin at this place. The flag says whether the first is directly behind a token.
abbrev pub Placed : List Piece → Bool → ℕ → List Token → Type 0
Placed [] g at tokens = tokens ≡ []
Placed (name x ∷ ps) g at tokens = IsPlaced (name x) g at tokens (Placed ps true)
Placed (variable x ∷ ps) g at tokens = IsPlaced (variable x) g at tokens (Placed ps true)
Placed (number c ∷ ps) g at tokens = IsPlaced (number c) g at tokens (Placed ps true)
Placed (digits n ∷ ps) g at tokens = IsPlaced (digits n) g at tokens (Placed ps true)
Placed (word k ∷ ps) g at tokens = IsPlaced (word k) g at tokens (Placed ps true)
Placed (sign k ∷ ps) g at tokens = IsPlaced (sign k) g at tokens (Placed ps true)
Placed (hole ∷ ps) g at tokens = IsPlaced hole g at tokens (Placed ps true)
Placed (space ∷ ps) g at tokens = Placed ps false (at + 1) tokens
Placed (line_end ∷ ps) g at tokens = Placed ps false (at + 1) tokens

pub as_placed : (p : Piece) (ps : List Piece) (g : Bool) (at : ℕ) (tokens : List Token) → is_token p ≡ true → IsPlaced p g at tokens (Placed ps true) → Placed (p ∷ ps) g at tokens
as_placed (name x) ps g at tokens t i = i
as_placed (variable x) ps g at tokens t i = i
as_placed (number c) ps g at tokens t i = i
as_placed (digits n) ps g at tokens t i = i
as_placed (word k) ps g at tokens t i = i
as_placed (sign k) ps g at tokens t i = i
as_placed hole ps g at tokens t i = i
as_placed space ps g at tokens t i = absurd (false≢true t)
as_placed line_end ps g at tokens t i = absurd (false≢true t)
