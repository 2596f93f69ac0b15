-- The tokens of a text lie in it one after another.
use Rattle.std.proofs.Common.{◌≡◌, refl, sym, ap, ◌∙◌, ℕ, ◌+◌, ◌≤◌, Bool, true, false, cond, ◌==◌, List, [], ◌∷◌, ◌++◌, length, arith}
use Rattle.std.specs.Char.{len_utf8}
use Rattle.std.specs.Str.{chars, IsUtf8}
use Rattle.std.proofs.lemmas.Bool.{eqb-true}
use Rattle.um_syntax.specs.declared.token.Token.{Token}
use Rattle.um_syntax.specs.Laws.{laid_out, LieAt}
use Rattle.um_syntax.specs.Lexing.{size_of, body, body_place, HasTokens}
use Rattle.um_syntax.specs.Order.{AreInOrder}
use Rattle.um_syntax.proofs.Places.{size_of-append, size_of-chars}
use Rattle.um_syntax.proofs.Whole.{tokens_make_up}

in_order_from : (pieces : List (List ℕ × List ℕ)) (last : List ℕ) (tokens : List Token) (from at len : ℕ) → from ≤ at → at + size_of (laid_out pieces last) ≤ len → LieAt at pieces tokens → AreInOrder from tokens len
in_order_from [] last [] from at len h g lie = omega (arith, h, g)
in_order_from [] last (t ∷ ts) from at len h g lie = absurd lie
in_order_from (p ∷ ps) last [] from at len h g lie = absurd lie
in_order_from (p ∷ ps) last (t ∷ ts) from at len h g lie =
    let sizes = size_of-append p.0 (p.1 ++ laid_out ps last) in
    let others = size_of-append p.1 (laid_out ps last) in
    let start = lie.1 in
    let end = lie.2 in
    (omega (arith, h, start), omega (arith, end), omega (arith, g, sizes, others, start, end), in_order_from ps last ts t.end t.end len (omega arith) (omega (arith, g, sizes, others, start, end)) lie.3)

mark_size : len_utf8 65279 ≡ 3
mark_size = refl

-- the byte order mark takes what the body leaves out
pub body_size : (cs : List ℕ) → body_place cs + size_of (body cs) ≡ size_of cs
body_size [] = refl
body_size (c ∷ cs) = marked (c == 65279) refl
  where
    marked : (b : Bool) → (c == 65279) ≡ b → cond b 3 0 + size_of (cond b cs (c ∷ cs)) ≡ size_of (c ∷ cs)
    marked true e = let wide : len_utf8 c ≡ 3 = ap len_utf8 (eqb-true c 65279 e) ∙ mark_size in omega (arith, wide)
    marked false e = omega arith

-- from any place that isn't after the byte order mark
pub tokens_in_order : (text : List ℕ) (tokens : List Token) (from : ℕ) → from ≤ body_place (chars text) → IsUtf8 text → HasTokens (chars text) tokens → AreInOrder from tokens (length text)
tokens_in_order text tokens from before utf8 lexed =
    let cs = chars text in
    let laid = tokens_make_up cs tokens lexed in
    let fits : body_place cs + size_of (laid_out laid.0 laid.1) ≡ length text = ap (λ xs. body_place cs + size_of xs) (sym laid.2) ∙ body_size cs ∙ size_of-chars text utf8 in
    in_order_from laid.0 laid.1 tokens from (body_place cs) (length text) before (omega (arith, fits)) laid.4
