-- One more piece in front of a text whose tokens are known.
use Rattle.std.proofs.Common.{◌≡◌, ℕ, ◌+◌, true, List, [], ◌∷◌, ◌++◌, Some, refl, ap, arith}
use Rattle.std.specs.Char.{len_utf8}
use Rattle.um_syntax.specs.declared.token.Token.{Token}
use Rattle.um_syntax.specs.declared.token.Kind.{Kind}
use Rattle.um_syntax.specs.Gap.{is_space, nothing, space, IsLastGap, closed, unclosed}
use Rattle.um_syntax.specs.Lexeme.{Lexeme, text_of, IsLexeme, Ends, IsAlone, kind_of}
use Rattle.um_syntax.specs.Lexing.{size_of, is_glued, is_power_place, Lexes}
use Rattle.um_show.specs.Pieces.{Piece}
use Rattle.um_show.proofs.PieceTokens.{IsKind}

-- behind these tokens and in front of these characters the piece is a token's text
pub record Entry (p : Piece) (before : List Token) (more : List ℕ) : Type 0 where
  pub lexeme : Lexeme
  pub fits : IsLexeme lexeme
  pub ends : Ends lexeme more
  pub alone : IsAlone lexeme more
  pub which : Kind
  pub kind : kind_of (is_power_place before) lexeme ≡ Some which
  pub is : IsKind p which

abbrev pub token_of : (p : Piece) (before : List Token) (more : List ℕ) → Entry p before more → ℕ → Token
token_of p before more e at = record { kind = e.which; start = at; end = at + size_of (text_of e.lexeme); glued = is_glued before at }

-- a token directly behind what stands before
pub next_token : (p : Piece) (before : List Token) (at : ℕ) (more : List ℕ) (tokens : List Token) (e : Entry p before more) → Lexes (before ++ token_of p before more e at ∷ []) (token_of p before more e at).end more tokens → Lexes before at (text_of e.lexeme ++ more) (token_of p before more e at ∷ tokens)
next_token p before at more tokens e l =
    (more, record { gap = []; lexeme = e.lexeme; cut = refl; skipped = nothing; fits = e.fits; longest = e.ends; alone = e.alone; kind = e.kind; start = omega arith; end = refl; glued = refl }, l)

last_blank : (c : ℕ) (cs : List ℕ) → is_space c ≡ true → IsLastGap cs → IsLastGap (c ∷ cs)
last_blank c cs s (closed g) = closed (space s g)
last_blank c cs s (unclosed line g h) = unclosed line (space s g) h

-- white space in front changes places alone
pub next_blank : (c : ℕ) → is_space c ≡ true → len_utf8 c ≡ 1 → (before : List Token) (at : ℕ) (cs : List ℕ) (tokens : List Token) → Lexes before (at + 1) cs tokens → Lexes before at (c ∷ cs) tokens
next_blank c s one before at cs [] l = last_blank c cs s l
next_blank c s one before at cs (token ∷ tokens) l =
    let n = l.1 in
    (l.0, record { gap = c ∷ n.gap; lexeme = n.lexeme; cut = ap (λ r. c ∷ r) n.cut; skipped = space s n.skipped; fits = n.fits; longest = n.longest; alone = n.alone; kind = n.kind; start = omega (arith, n.start, one); end = n.end; glued = n.glued }, l.2)
