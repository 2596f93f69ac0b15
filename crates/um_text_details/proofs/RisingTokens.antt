-- The tokens of a text begin at places that rise, so that the place of a token tells its number.
use Rattle.std.proofs.Common.{◌≡◌, ℕ, zero, suc, ◌+◌, ◌≤◌, ◌<◌, false, ◌==◌, List, [], ◌∷◌, ◌++◌, length, refl, ap, arith}
use Rattle.std.specs.Str.{chars, IsUtf8}
use Rattle.std.proofs.lemmas.Bool.{eq-eqb, ne_eqb}
use Rattle.std.proofs.lemmas.Str.{len_utf8_bounds}
use Rattle.um_syntax.specs.declared.token.Token.{Token}
use Rattle.um_syntax.specs.Lexeme.{Lexeme, text_of, IsLexeme}
use Rattle.um_syntax.specs.Lexing.{size_of, body, body_place, Lexes, HasTokens}
use Rattle.um_syntax.proofs.InOrder.{body_size}
use Rattle.um_syntax.proofs.Places.{size_of-append, size_of-chars}
use Rattle.um_syntax.proofs.Texts.{head_of}
use Rattle.um_unit_texts.specs.UnitStops.{place_of}
use Rattle.um_text_details.specs.Stops.{number_at}

-- each begins after the one before it
abbrev pub Rise : ℕ → List Token → ℕ → Type 0
Rise from [] end = from ≤ end
Rise from (t ∷ ts) end = (from ≤ t.start) × Rise (t.start + 1) ts end

-- a token takes a byte at least
some_bytes : (lexeme : Lexeme) → IsLexeme lexeme → 1 ≤ size_of (text_of lexeme)
some_bytes lexeme fits =
    let h = head_of lexeme fits in
    let size : size_of (text_of lexeme) ≡ size_of (h.0 ∷ h.1) = ap size_of h.2 in
    let first = len_utf8_bounds h.0 in
    omega (arith, size, first.0)

lexed_rise : (tokens before : List Token) (at from end : ℕ) (cs : List ℕ) → from ≤ at → at + size_of cs ≤ end → Lexes before at cs tokens → Rise from tokens end
lexed_rise [] before at from end cs low within l = omega (arith, low, within)
lexed_rise (t ∷ ts) before at from end cs low within l =
    let n = l.1 in
    let text = text_of n.lexeme in
    let some = some_bytes n.lexeme n.fits in
    let cut : size_of cs ≡ size_of (n.gap ++ (text ++ l.0)) = ap size_of n.cut in
    let after_gap = size_of-append n.gap (text ++ l.0) in
    let after_text = size_of-append text l.0 in
    let start = n.start in
    let ended = n.end in
    let here : from ≤ t.start = omega (arith, low, start) in
    let next : t.start + 1 ≤ t.end = omega (arith, ended, some) in
    let rest : t.end + size_of l.0 ≤ end = omega (arith, within, cut, after_gap, after_text, start, ended) in
    (here, lexed_rise ts (before ++ t ∷ []) t.end (t.start + 1) end l.0 next rest l.2)

pub tokens_rise : (bytes : List ℕ) (tokens : List Token) → IsUtf8 bytes → HasTokens (chars bytes) tokens → Rise 0 tokens (length bytes)
tokens_rise bytes tokens utf8 lexed =
    let cs = chars bytes in
    let whole = body_size cs in
    let size = size_of-chars bytes utf8 in
    lexed_rise tokens [] (body_place cs) 0 (length bytes) (body cs) (omega arith) (omega (arith, whole, size)) lexed

-- as many places stand before a token as tokens
pub place_after : (tokens : List Token) (k from end : ℕ) → Rise from tokens end → k ≤ length tokens → from + k ≤ place_of tokens k end
place_after [] zero from end r le = omega (arith, r)
place_after [] (suc k) from end r le = absurd (omega (arith, le))
place_after (t ∷ ts) zero from end r le = omega (arith, r.0)
place_after (t ∷ ts) (suc k) from end r le =
    let rest = place_after ts k (t.start + 1) end r.1 (omega (arith, le)) in
    let first = r.0 in
    omega (arith, rest, first)

apart : (x y : ℕ) → x < y → (x == y) ≡ false
apart x y lt = ne_eqb x y (λ same. omega (arith, same, lt))

-- the number of the token at its place
pub number_of_place : (tokens : List Token) (k from end : ℕ) → Rise from tokens end → k ≤ length tokens → number_at tokens (place_of tokens k end) ≡ k
number_of_place [] zero from end r le = refl
number_of_place [] (suc k) from end r le = absurd (omega (arith, le))
number_of_place (t ∷ ts) zero from end r le = rw (eq-eqb t.start t.start refl) refl
number_of_place (t ∷ ts) (suc k) from end r le =
    let above = place_after ts k (t.start + 1) end r.1 (omega (arith, le)) in
    let differs = apart t.start (place_of ts k end) (omega (arith, above)) in
    let rest = number_of_place ts k (t.start + 1) end r.1 (omega (arith, le)) in
    rw (differs, rest) (omega arith)
