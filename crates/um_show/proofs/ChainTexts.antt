-- The text of a chain of pieces has tokens, and they are those of the pieces.
use Rattle.std.proofs.Common.{◌≡◌, ℕ, zero, suc, ◌+◌, ◌-◌, ◌<◌, Bool, true, false, ◌==◌, ◌||◌, ◌&&◌, List, [], ◌∷◌, ◌++◌, length, Option, Some, None, refl, sym, ap, ◌∙◌, subst, arith, lit<, length-append}
use Rattle.std.proofs.lemmas.Bool.{false≢true, eqb-true}
use Rattle.std.proofs.lemmas.Bool.Decides.{nat_tests}
use Rattle.std.proofs.lemmas.Str.{encodes-append, encode_ascii}
use Rattle.std.specs.List.{slice_get}
use Rattle.std.specs.Str.{all_scalars}
use lib.Utf8.{encodes}
use Rattle.unicode_ident.proofs.IdentLemmas.{is_xid_continue-ascii}
use Rattle.um_syntax.specs.declared.token.Token.{Token}
use Rattle.um_syntax.specs.declared.token.Kind.{Kind}
use Rattle.um_syntax.specs.declared.token.Kind.TheVariants as kind_is
use Rattle.um_vocabulary.specs.declared.vocabulary.Symbol.TheVariants as symbol
use Rattle.um_syntax.specs.Gap.{nothing, closed}
use Rattle.um_syntax.specs.Lexeme.{text_of as lexeme_text, kind_of}
use Rattle.um_syntax.specs.Lexing.{ends_at, is_glued, is_caret_kind, is_minus_kind, is_caret, is_minus, is_power_place, Lexes}
use Rattle.um_show.specs.Pieces.{Piece, name, variable, number, digits, word, sign, hole, space, line_end, text_of}
use Rattle.um_syntax.proofs.Places.{size_of-encodes}
use Rattle.um_show.proofs.PieceTokens.{IsToken, PieceSpells, PiecesSpell}
use Rattle.um_show.proofs.PlacedTokens.{Placed, as_placed}
use Rattle.um_show.proofs.NextToken.{Entry, token_of, next_token, next_blank}
use Rattle.um_show.proofs.Chain.{Place, fresh, full, raised, lowered, pointed, after, takes_blank, may, Good, Chain, Clear, is_behind, is_raised, is_power}
use Rattle.um_show.proofs.SignRoles.{and_no}
use Rattle.um_show.proofs.Beginnings.{scalars_append, blank_clear, blank_behind}
use Rattle.um_show.proofs.Opens.{Opens, is_token, opens}

-- what a place says of the tokens before it
pub record Matches (s : Place) (before : List Token) (at : ℕ) : Type 0 where
  pub glued : is_glued before at ≡ is_behind s
  pub power : is_power_place before ≡ is_power s
  pub caret : is_caret (slice_get before (length before - 1)) ≡ is_raised s

pub record Lexed (s : Place) (ps : List Piece) (before : List Token) (at : ℕ) (cs : List ℕ) : Type 0 where
  pub tokens : List Token
  pub flag : Bool
  pub lexes : Lexes before at cs tokens
  pub spelled : PiecesSpell ps (is_behind s) tokens flag []
  pub placed : Placed ps (is_behind s) at tokens

pub record Reads (s : Place) (ps : List Piece) : Type 0 where
  pub cs : List ℕ
  pub encoded : encodes cs ≡ text_of ps
  pub scalars : all_scalars cs ≡ true
  pub clear : Clear s cs
  pub lexed : (before : List Token) (at : ℕ) → Matches s before at → Lexed s ps before at cs

-- ---- the last tokens

at_end : {A : Type 0} (xs : List A) (x : A) → slice_get (xs ++ x ∷ []) (length xs) ≡ Some x
at_end [] x = refl
at_end (y ∷ xs) x = at_end xs x

within : {A : Type 0} (xs ys : List A) (i : ℕ) → i < length xs → slice_get (xs ++ ys) i ≡ slice_get xs i
within [] ys i h = absurd (omega (arith, h))
within (x ∷ xs) ys zero h = refl
within (x ∷ xs) ys (suc i) h = within xs ys i (omega (arith, h))

last_is : {A : Type 0} (xs : List A) (x : A) → slice_get (xs ++ x ∷ []) (length (xs ++ x ∷ []) - 1) ≡ Some x
last_is xs x =
    let count = length-append xs (x ∷ []) in let index : length (xs ++ x ∷ []) - 1 ≡ length xs = omega (arith, count) in
    ap (slice_get (xs ++ x ∷ [])) index ∙ at_end xs x

same_place : (n : ℕ) → (n == n) ≡ true
same_place n = grind (arith, nat_tests)

-- no sign is both `-` and `^`
two_signs : (k : Kind) → (is_minus_kind k && is_caret_kind k) ≡ false
two_signs (kind_is.Sign symbol.Minus) = refl
two_signs _ = refl

-- whether the last is `-` and the one before it is `^`
last_two : (before : List Token) (token : Token) (up : Bool) → is_caret (slice_get before (length before - 1)) ≡ up
    → (is_minus_kind token.kind && is_caret (slice_get (before ++ token ∷ []) (length (before ++ token ∷ []) - 2))) ≡ (is_minus_kind token.kind && up)
last_two [] token up e = two_signs token.kind ∙ sym (and_no (is_minus_kind token.kind) up (sym e))
last_two (t ∷ ts) token up e =
    let count = length-append (t ∷ ts) (token ∷ []) in
    let index : length ((t ∷ ts) ++ token ∷ []) - 2 ≡ length ts = omega (arith, count) in let last : length (t ∷ ts) - 1 ≡ length ts = omega arith in
    let there : slice_get ((t ∷ ts) ++ token ∷ []) (length ((t ∷ ts) ++ token ∷ []) - 2) ≡ slice_get (t ∷ ts) (length (t ∷ ts) - 1) =
    ap (slice_get ((t ∷ ts) ++ token ∷ [])) index ∙ within (t ∷ ts) (token ∷ []) (length ts) (omega arith) ∙ ap (slice_get (t ∷ ts)) (sym last) in
    ap (λ o. is_minus_kind token.kind && is_caret o) there ∙ ap (λ b. is_minus_kind token.kind && b) e

next_matches : (p : Piece) (s : Place) (before : List Token) (at : ℕ) (token : Token) → Matches s before at
    → is_caret_kind token.kind ≡ is_raised (after p s) → (is_caret_kind token.kind || (is_minus_kind token.kind && is_raised s)) ≡ is_power (after p s) → is_behind (after p s) ≡ true
    → Matches (after p s) (before ++ token ∷ []) token.end
next_matches p s before at token m caret power behind =
    let last = last_is before token in
    record {
      glued = ap (ends_at token.end) last ∙ same_place token.end ∙ sym behind;
      power =
          ap (λ o. is_caret o || (is_minus o && is_caret (slice_get (before ++ token ∷ []) (length (before ++ token ∷ []) - 2)))) last
          ∙ ap (λ b. is_caret_kind token.kind || b) (last_two before token (is_raised s) m.caret) ∙ power;
      caret = ap is_caret last ∙ caret;
    }

-- ---- one more piece

as_piece : (p : Piece) (g : Bool) (tokens : List Token) (h : Bool) (rest : List Token) → is_token p ≡ true → IsToken p g tokens h rest → PieceSpells p g tokens h rest
as_piece (name x) g tokens h rest t i = i
as_piece (variable x) g tokens h rest t i = i
as_piece (number c) g tokens h rest t i = i
as_piece (digits n) g tokens h rest t i = i
as_piece (word k) g tokens h rest t i = i
as_piece (sign k) g tokens h rest t i = i
as_piece hole g tokens h rest t i = i
as_piece space g tokens h rest t i = absurd (false≢true t)
as_piece line_end g tokens h rest t i = absurd (false≢true t)

token_lexed : (p : Piece) (s : Place) (ps : List Piece) → is_token p ≡ true → (r : Reads (after p s) ps) (o : Opens p s r.cs) (before : List Token) (at : ℕ) → Matches s before at
    → Lexed s (p ∷ ps) before at (lexeme_text o.lexeme ++ r.cs)
token_lexed p s ps t r o before at m =
    let e : Entry p before r.cs = record { lexeme = o.lexeme; fits = o.fits; ends = o.ends; alone = o.alone; which = o.which; kind = ap (λ b. kind_of b o.lexeme) m.power ∙ o.kind; is = o.is } in
    let token = token_of p before r.cs e at in
    let l = r.lexed (before ++ token ∷ []) token.end (next_matches p s before at token m o.caret o.power o.behind) in
    record {
      tokens = token ∷ l.tokens;
      flag = l.flag;
      lexes = next_token p before at r.cs l.tokens e l.lexes;
      spelled = record {
        flag = is_behind (after p s);
        next = l.tokens;
        here = as_piece p (is_behind s) (token ∷ l.tokens) (is_behind (after p s)) l.tokens t (record { token = token; kind = o.is; gap = m.glued; open_end = o.behind; first = refl });
        later = l.spelled;
      };
      placed = as_placed p ps (is_behind s) at (token ∷ l.tokens) t (record { token = token; rest = l.tokens; first = refl; kind = o.is; gap = m.glued; start = refl; end = ap (λ n. at + n) (size_of-encodes (lexeme_text o.lexeme) ∙ ap length o.encoded); others = subst (λ b. Placed ps b token.end l.tokens) o.behind l.placed });
    }

token_reads : (p : Piece) (s : Place) (ps : List Piece) → is_token p ≡ true → Good p → may s p ≡ true → Reads (after p s) ps → Reads s (p ∷ ps)
token_reads p s ps t g m r =
    let o = opens p s r.cs t g m r.clear in
    record {
      cs = lexeme_text o.lexeme ++ r.cs;
      encoded = encodes-append (lexeme_text o.lexeme) r.cs ∙ (λ i. o.encoded i ++ r.encoded i);
      scalars = scalars_append (lexeme_text o.lexeme) r.cs o.scalars r.scalars;
      clear = o.clears;
      lexed = token_lexed p s ps t r o;
    }

-- ---- white space

ends_later : (at : ℕ) (o : Option Token) → ends_at at o ≡ true → ends_at (at + 1) o ≡ false
ends_later at None e = refl
ends_later at (Some token) e = let same = eqb-true token.end at e in grind (arith, nat_tests)

blank_matches : (s : Place) (before : List Token) (at : ℕ) → takes_blank s ≡ true → Matches s before at → Matches (fresh false false) before (at + 1)
blank_matches s before at b m =
    let h = blank_behind s b in
    record { glued = ends_later at (slice_get before (length before - 1)) (m.glued ∙ h.0); power = m.power ∙ h.2; caret = m.caret ∙ h.1 }

space_reads : (s : Place) (ps : List Piece) → takes_blank s ≡ true → Reads (fresh false false) ps → Reads s (space ∷ ps)
space_reads s ps b r = record {
  cs = 32 ∷ r.cs;
  encoded = (λ i. encode_ascii 32 (lit< tt) i ++ r.encoded i);
  scalars = r.scalars;
  clear = blank_clear s b 32 refl refl (is_xid_continue-ascii 32 (lit< tt)) refl r.cs;
  lexed = λ before at m. let l = r.lexed before (at + 1) (blank_matches s before at b m) in
      record { tokens = l.tokens; flag = l.flag; lexes = next_blank 32 refl refl before at r.cs l.tokens l.lexes; spelled = record { flag = false; next = l.tokens; here = record { blank_end = refl; none = refl }; later = l.spelled }; placed = l.placed };
}

line_reads : (s : Place) (ps : List Piece) → takes_blank s ≡ true → Reads (fresh false false) ps → Reads s (line_end ∷ ps)
line_reads s ps b r = record {
  cs = 10 ∷ r.cs;
  encoded = (λ i. encode_ascii 10 (lit< tt) i ++ r.encoded i);
  scalars = r.scalars;
  clear = blank_clear s b 10 refl refl (is_xid_continue-ascii 10 (lit< tt)) refl r.cs;
  lexed = λ before at m. let l = r.lexed before (at + 1) (blank_matches s before at b m) in
      record { tokens = l.tokens; flag = l.flag; lexes = next_blank 10 refl refl before at r.cs l.tokens l.lexes; spelled = record { flag = false; next = l.tokens; here = record { blank_end = refl; none = refl }; later = l.spelled }; placed = l.placed };
}

-- ---- all pieces

clear_end : (s : Place) → Clear s []
clear_end (fresh g d) = (and_no g false refl, and_no d false refl)
clear_end full = (refl, refl)
clear_end raised = tt
clear_end lowered = refl
clear_end pointed = refl

pub reads : (ps : List Piece) (s t : Place) → Chain s ps t → Reads s ps
reads [] s t c = record {
  cs = [];
  encoded = refl;
  scalars = refl;
  clear = clear_end s;
  lexed = λ before at m. record { tokens = []; flag = is_behind s; lexes = closed nothing; spelled = record { same_flag = refl; same = refl }; placed = refl };
}
reads (name x ∷ ps) s t c = token_reads (name x) s ps refl c.0 c.1 (reads ps full t c.2)
reads (variable x ∷ ps) s t c = token_reads (variable x) s ps refl c.0 c.1 (reads ps full t c.2)
reads (number f ∷ ps) s t c = token_reads (number f) s ps refl c.0 c.1 (reads ps full t c.2)
reads (digits n ∷ ps) s t c = token_reads (digits n) s ps refl c.0 c.1 (reads ps full t c.2)
reads (word k ∷ ps) s t c = token_reads (word k) s ps refl c.0 c.1 (reads ps full t c.2)
reads (sign k ∷ ps) s t c = token_reads (sign k) s ps refl c.0 c.1 (reads ps (after (sign k) s) t c.2)
reads (hole ∷ ps) s t c = token_reads hole s ps refl c.0 c.1 (reads ps full t c.2)
reads (space ∷ ps) s t c = space_reads s ps c.1 (reads ps (fresh false false) t c.2)
reads (line_end ∷ ps) s t c = line_reads s ps c.1 (reads ps (fresh false false) t c.2)

-- the same at the start of a text
pub record Begun (ps : List Piece) : Type 0 where
  pub cs : List ℕ
  pub encoded : encodes cs ≡ text_of ps
  pub scalars : all_scalars cs ≡ true
  pub tokens : List Token
  pub flag : Bool
  pub lexes : Lexes [] 0 cs tokens
  pub spelled : PiecesSpell ps false tokens flag []
  pub placed : Placed ps false 0 tokens

pub chain_lexes : (ps : List Piece) (t : Place) → Chain (fresh false false) ps t → Begun ps
chain_lexes ps t c =
    let r = reads ps (fresh false false) t c in let l = r.lexed [] 0 (record { glued = refl; power = refl; caret = refl }) in
    record { cs = r.cs; encoded = r.encoded; scalars = r.scalars; tokens = l.tokens; flag = l.flag; lexes = l.lexes; spelled = l.spelled; placed = l.placed }
