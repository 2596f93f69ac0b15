-- A text has no more tokens than characters, and no more than bytes: each token has a character of its own.
use Rattle.std.proofs.Common.{◌≡◌, ℕ, ◌+◌, ◌≤◌, Bool, true, false, cond, ◌==◌, List, [], ◌∷◌, ◌++◌, length, length-append, ap, arith}
use Rattle.std.specs.Str.{chars, IsUtf8}
use Rattle.std.proofs.lemmas.Str.{encodes-chars, length-le-encodes}
use Rattle.um_syntax.specs.declared.token.Token.{Token}
use Rattle.um_syntax.specs.Lexeme.{text_of}
use Rattle.um_syntax.specs.Lexing.{IsNext, Lexes, HasTokens, body, body_place}
use Rattle.um_syntax.proofs.Texts.{head_of}

next_within : (before : List Token) (at : ℕ) (cs : List ℕ) (token : Token) (more : List ℕ) → IsNext before at cs token more → length more + 1 ≤ length cs
next_within before at cs token more n =
    let h = head_of n.lexeme n.fits in
    let head : length (text_of n.lexeme) ≡ length (h.0 ∷ h.1) = ap length h.2 in
    let cut : length cs ≡ length (n.gap ++ (text_of n.lexeme ++ more)) = ap length n.cut in
    let after_gap = length-append n.gap (text_of n.lexeme ++ more) in
    let after_text = length-append (text_of n.lexeme) more in
    omega (arith, head, cut, after_gap, after_text)

lexes_within : (tokens before : List Token) (at : ℕ) (cs : List ℕ) → Lexes before at cs tokens → length tokens ≤ length cs
lexes_within [] before at cs l = omega arith
lexes_within (t ∷ ts) before at cs l =
    let one = next_within before at cs t l.0 l.1 in
    let others = lexes_within ts (before ++ t ∷ []) t.end l.0 l.2 in
    omega (arith, one, others)

-- the byte order mark is no part of it
body_within : (cs : List ℕ) → length (body cs) ≤ length cs
body_within [] = omega arith
body_within (c ∷ cs) = marked (c == 65279)
  where
    marked : (b : Bool) → length (cond b cs (c ∷ cs)) ≤ length (c ∷ cs)
    marked true = omega arith
    marked false = omega arith

pub tokens_within : (cs : List ℕ) (tokens : List Token) → HasTokens cs tokens → length tokens ≤ length cs
tokens_within cs tokens lexed =
    let few = lexes_within tokens [] (body_place cs) (body cs) lexed in
    let whole = body_within cs in
    omega (arith, few, whole)

pub chars_within : (text : List ℕ) → IsUtf8 text → length (chars text) ≤ length text
chars_within text utf8 =
    let short = length-le-encodes (chars text) in
    let same = ap length (encodes-chars text utf8) in
    omega (arith, short, same)

pub tokens_within_bytes : (text : List ℕ) (tokens : List Token) → IsUtf8 text → HasTokens (chars text) tokens → length tokens ≤ length text
tokens_within_bytes text tokens utf8 lexed =
    let few = tokens_within (chars text) tokens lexed in
    let short = chars_within text utf8 in
    omega (arith, few, short)
