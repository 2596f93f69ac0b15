-- The tokens of the layout of a program are the same program, places aside.
use Rattle.std.proofs.Common.{◌≡◌, ℕ, ◌<◌, Bool, true, false, cond, ◌==◌, List, [], ◌∷◌, get_or, refl, sym, ap, ◌∙◌, subst, arith, lit<}
use Rattle.std.proofs.lemmas.Bool.{eqb-true}
use Rattle.std.proofs.lemmas.Str.{chars_from_encodes, scalars-chars}
use Rattle.std.specs.Prelude.{Ok}
use Rattle.std.specs.Str.{chars, IsUtf8}
use lib.Utf8.{encodes, encode}
use Rattle.um_syntax.specs.declared.token.Token.{Token}
use Rattle.um_syntax.specs.Lexeme.{begins}
use Rattle.um_syntax.specs.Feeding.{IsTextAnswer}
use Rattle.um_syntax.specs.Lexing.{body_place, Lexes, HasTokens}
use Rattle.um_tree.specs.RawTree.{DeclSyntax, base_syntax, short_syntax, record_decl_syntax, function_syntax}
use Rattle.um_show.specs.Layout.{program_pieces, layout}
use Rattle.um_show.specs.Laws.{LayoutIsReadBack}
use Rattle.um_parse.specs.DeclGrammar.{IsProgram}
use Rattle.um_show.proofs.Chain.{fresh, Chain}
use Rattle.um_show.proofs.ChainTexts.{Begun, chain_lexes}
use Rattle.um_show.proofs.GoodTokens.{tokens_good}
use Rattle.um_show.proofs.DeclLinks.{program_links}
use Rattle.um_show.proofs.DeclsAgain.{program_again}

-- a byte order mark
abbrev is_order : ℕ → Bool
is_order c = c == 65279

-- a layout begins with a word or sign
layout_front : (ds : List DeclSyntax) → get_or (layout ds) 0 0 < 128
layout_front [] = lit< tt
layout_front (base_syntax at x ∷ ds) = lit< tt
layout_front (short_syntax at x u ∷ ds) = lit< tt
layout_front (record_decl_syntax at x vs fs ∷ ds) = lit< tt
layout_front (function_syntax f ∷ ds) = lit< tt

high_byte : (more : List ℕ) → get_or (encodes (65279 ∷ more)) 0 0 < 128 → ⊥
unfolding lib.Utf8.encode
high_byte more h = let byte : get_or (encodes (65279 ∷ more)) 0 0 ≡ 239 = refl in omega (arith, h, byte)

no_order : (cs bytes : List ℕ) → encodes cs ≡ bytes → get_or bytes 0 0 < 128 → begins is_order cs ≡ false
no_order [] bytes e low = refl
no_order (c ∷ cs) bytes e low = go (is_order c) refl
  where
    go : (b : Bool) → is_order c ≡ b → is_order c ≡ false
    go false is = is
    go true is = absurd (high_byte cs (subst (λ x. get_or (encodes (x ∷ cs)) 0 0 < 128) (eqb-true c 65279 is) (subst (λ x. get_or x 0 0 < 128) (sym e) low)))

from_start : (cs : List ℕ) (tokens : List Token) → begins is_order cs ≡ false → Lexes [] 0 cs tokens → HasTokens cs tokens
from_start [] tokens none l = l
from_start (c ∷ cs) tokens none l = subst (λ b. Lexes [] (cond b 3 0) (cond b cs (c ∷ cs)) tokens) (sym none) l

no_place : (cs : List ℕ) → begins is_order cs ≡ false → body_place cs ≡ 0
no_place [] none = refl
no_place (c ∷ cs) none = ap (λ b. cond b 3 0) none

-- the layout of a program is a text that has the tokens of its pieces
pub record LayoutRead (ds : List DeclSyntax) : Type 0 where
  pub chain : Chain (fresh false false) (program_pieces ds) (fresh false false)
  pub begun : Begun (program_pieces ds)
  pub read : IsTextAnswer (layout ds) (Ok begun.tokens)
  pub place : body_place (chars (layout ds)) ≡ 0

pub layout_read : (text : List ℕ) (tokens : List Token) (ds : List DeclSyntax) → IsTextAnswer text (Ok tokens) → IsProgram tokens ds → LayoutRead ds
layout_read text tokens ds answer program =
    let good = tokens_good (chars text) tokens (scalars-chars text answer.0) answer.1 in
    let chain = program_links ds tokens [] program.spelled program.fits good in
    let b = chain_lexes (program_pieces ds) (fresh false false) chain in
    let utf8 : IsUtf8 (layout ds) = (b.cs, (b.scalars, b.encoded)) in
    let same : b.cs ≡ chars (layout ds) = chars_from_encodes b.cs (layout ds) utf8 b.encoded in
    let none = no_order b.cs (layout ds) b.encoded (layout_front ds) in
    record {
      chain = chain;
      begun = b;
      read = (utf8, subst (λ cs. HasTokens cs b.tokens) same (from_start b.cs b.tokens none b.lexes));
      place = ap body_place (sym same) ∙ no_place b.cs none;
    }

pub layout_is_read_back : LayoutIsReadBack
layout_is_read_back text tokens ds answer program =
    let r = layout_read text tokens ds answer program in
    let again = program_again ds tokens r.begun.tokens r.begun.flag program r.begun.spelled in
    (r.begun.tokens, again.0, r.read, again.1, again.2)
