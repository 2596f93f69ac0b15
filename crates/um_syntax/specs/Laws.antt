-- What holds of all texts, by the definitions alone.
use Rattle.std.specs.Prelude.{◌≡◌, ◌≢◌, ℕ, ◌+◌, ◌⊎◌, List, [], ◌∷◌, ◌++◌}
use Rattle.um_syntax.specs.declared.token.Token.{Token}
use Rattle.um_syntax.specs.declared.token.LexStop.{LexStop}
use Rattle.um_syntax.specs.Gap.{IsGap, IsLastGap}
use Rattle.um_syntax.specs.Lexeme.{Lexeme, text_of, IsLexeme, Ends}
use Rattle.um_syntax.specs.Lexing.{size_of, body, body_place, HasTokens, HasFault}

-- Each text has tokens or a fault.
abbrev pub EachTextIsAnswered : Type 0
EachTextIsAnswered =
    (chars : List ℕ) → ((tokens : List Token) × HasTokens chars tokens) ⊎ ((stop : LexStop) × HasFault chars stop)

-- The tokens of a text are unique.
abbrev pub TokensAreUnique : Type 0
TokensAreUnique =
    (chars : List ℕ) (tokens others : List Token) → HasTokens chars tokens → HasTokens chars others → tokens ≡ others

-- The leftmost fault of a text is unique.
abbrev pub FaultIsUnique : Type 0
FaultIsUnique = (chars : List ℕ) (stop other : LexStop) → HasFault chars stop → HasFault chars other → stop ≡ other

-- A text with tokens has no fault.
abbrev pub TokensExcludeFault : Type 0
TokensExcludeFault =
    (chars : List ℕ) (tokens : List Token) (stop : LexStop) → HasTokens chars tokens → HasFault chars stop → ⊥

-- If a token's text may end, no longer token stands at its place.
abbrev pub NoTokenIsLonger : Type 0
NoTokenIsLonger =
    (lexeme other : Lexeme) (c : ℕ) (extra rest : List ℕ) → IsLexeme lexeme → IsLexeme other
    → Ends lexeme (c ∷ extra ++ rest) → text_of other ≢ text_of lexeme ++ c ∷ extra

-- gaps and texts in turn, and what follows the last
abbrev pub laid_out : List (List ℕ × List ℕ) → List ℕ → List ℕ
laid_out [] last = last
laid_out (piece ∷ pieces) last = piece.0 ++ (piece.1 ++ laid_out pieces last)

-- From a place on, each token follows its gap and takes up its text.
abbrev pub LieAt : ℕ → List (List ℕ × List ℕ) → List Token → Type 0
LieAt at [] [] = Unit {0}
LieAt at [] (token ∷ tokens) = ⊥
LieAt at (piece ∷ pieces) [] = ⊥
LieAt at (piece ∷ pieces) (token ∷ tokens) =
    IsGap piece.0 × (token.start ≡ at + size_of piece.0) × (token.end ≡ token.start + size_of piece.1)
    × LieAt token.end pieces tokens

-- The tokens and what is skipped make up the text.
abbrev pub TokensMakeUpText : Type 0
TokensMakeUpText = (chars : List ℕ) (tokens : List Token) → HasTokens chars tokens
    → (pieces : List (List ℕ × List ℕ)) × (last : List ℕ) × (body chars ≡ laid_out pieces last) × IsLastGap last
    × LieAt (body_place chars) pieces tokens
