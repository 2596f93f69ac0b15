-- A text that stands between others, and its tokens there. Places say what stands before it and after it.
use Rattle.std.proofs.Common.{◌≡◌, ℕ, zero, suc, ◌+◌, ◌-◌, ◌<◌, Bool, true, false, ◌==◌, ◌||◌, ◌&&◌, List, [], ◌∷◌, ◌++◌, append_assoc, length, length-append, codes, Option, Some, None, refl, sym, ap, subst, ◌∙◌, arith, lit<}
use Rattle.std.proofs.lemmas.Bool.{eqb-true}
use Rattle.std.proofs.lemmas.Bool.Decides.{nat_tests}
use Rattle.std.proofs.lemmas.List.{append-nil}
use Rattle.std.proofs.lemmas.Str.{encodes-append, encode_ascii}
use Rattle.std.specs.List.{slice_get}
use Rattle.std.specs.Str.{all_scalars}
use lib.Utf8.{encodes}
use Rattle.unicode_ident.proofs.IdentLemmas.{is_xid_continue-ascii}
use Rattle.um_syntax.specs.declared.token.Token.{Token}
use Rattle.um_syntax.specs.declared.token.Kind.{Kind}
use Rattle.um_syntax.specs.declared.token.Kind.TheVariants as kind_is
use Rattle.um_vocabulary.specs.declared.vocabulary.Symbol.TheVariants as symbol
use Rattle.um_syntax.specs.Lexeme.{Lexeme, IsLexeme, Ends, IsAlone, kind_of}
use Rattle.um_syntax.specs.Lexeme.{text_of as lexeme_text}
use Rattle.um_syntax.specs.Lexing.{size_of, ends_at, is_glued, is_caret_kind, is_minus_kind, is_caret, is_minus, is_power_place, Lexes}
use Rattle.um_syntax.specs.Gap.{nothing}
use Rattle.um_show.proofs.NextToken.{next_blank}
use Rattle.um_show.proofs.Chain.{Place, fresh, takes_blank, Clear, is_behind, is_raised, is_power}
use Rattle.um_show.proofs.ChainTexts.{Matches}
use Rattle.um_show.proofs.SignRoles.{and_no}
use Rattle.um_show.proofs.Beginnings.{scalars_append, blank_clear, blank_behind}

-- a relation between tokens and what is left of them
abbrev pub Spelling : Type 1
Spelling = List Token → List Token → Type 0

-- ---- the last tokens

at_end : {A : Type 0} (xs : List A) (x : A) → slice_get (xs ++ x ∷ []) (length xs) ≡ Some x
at_end [] x = refl
at_end (y ∷ xs) x = at_end xs x

within : {A : Type 0} (xs ys : List A) (i : ℕ) → i < length xs → slice_get (xs ++ ys) i ≡ slice_get xs i
within [] ys i h = absurd (omega (arith, h))
within (x ∷ xs) ys zero h = refl
within (x ∷ xs) ys (suc i) h = within xs ys i (omega (arith, h))

last_is : {A : Type 0} (xs : List A) (x : A) → slice_get (xs ++ x ∷ []) (length (xs ++ x ∷ []) - 1) ≡ Some x
last_is xs x =
    let count = length-append xs (x ∷ []) in let index : length (xs ++ x ∷ []) - 1 ≡ length xs = omega (arith, count) in
    ap (slice_get (xs ++ x ∷ [])) index ∙ at_end xs x

same_place : (n : ℕ) → (n == n) ≡ true
same_place n = grind (arith, nat_tests)

-- no sign is both `-` and `^`
two_signs : (k : Kind) → (is_minus_kind k && is_caret_kind k) ≡ false
two_signs (kind_is.Sign symbol.Minus) = refl
two_signs _ = refl

-- whether the last is `-` and the one before it is `^`
last_two : (before : List Token) (token : Token) (up : Bool) → is_caret (slice_get before (length before - 1)) ≡ up
    → (is_minus_kind token.kind && is_caret (slice_get (before ++ token ∷ []) (length (before ++ token ∷ []) - 2))) ≡ (is_minus_kind token.kind && up)
last_two [] token up e = two_signs token.kind ∙ sym (and_no (is_minus_kind token.kind) up (sym e))
last_two (t ∷ ts) token up e =
    let count = length-append (t ∷ ts) (token ∷ []) in
    let index : length ((t ∷ ts) ++ token ∷ []) - 2 ≡ length ts = omega (arith, count) in let last : length (t ∷ ts) - 1 ≡ length ts = omega arith in
    let there : slice_get ((t ∷ ts) ++ token ∷ []) (length ((t ∷ ts) ++ token ∷ []) - 2) ≡ slice_get (t ∷ ts) (length (t ∷ ts) - 1) =
    ap (slice_get ((t ∷ ts) ++ token ∷ [])) index ∙ within (t ∷ ts) (token ∷ []) (length ts) (omega arith) ∙ ap (slice_get (t ∷ ts)) (sym last) in
    ap (λ o. is_minus_kind token.kind && is_caret o) there ∙ ap (λ b. is_minus_kind token.kind && b) e

-- one more token: whether it is `^`, whether a number after it is a power, and that the next token may be glued to it
pub caret_after : (before : List Token) (token : Token) → is_caret (slice_get (before ++ token ∷ []) (length (before ++ token ∷ []) - 1)) ≡ is_caret_kind token.kind
caret_after before token = ap is_caret (last_is before token)

pub power_after : (before : List Token) (token : Token) (up : Bool) → is_caret (slice_get before (length before - 1)) ≡ up
    → is_power_place (before ++ token ∷ []) ≡ (is_caret_kind token.kind || (is_minus_kind token.kind && up))
power_after before token up e =
    ap (λ o. is_caret o || (is_minus o && is_caret (slice_get (before ++ token ∷ []) (length (before ++ token ∷ []) - 2)))) (last_is before token)
    ∙ ap (λ b. is_caret_kind token.kind || b) (last_two before token up e)

pub glued_after : (before : List Token) (token : Token) → is_glued (before ++ token ∷ []) token.end ≡ true
glued_after before token = ap (ends_at token.end) (last_is before token) ∙ same_place token.end

pub next_matches : (s t : Place) (before : List Token) (at : ℕ) (token : Token) → Matches s before at
    → is_caret_kind token.kind ≡ is_raised t → (is_caret_kind token.kind || (is_minus_kind token.kind && is_raised s)) ≡ is_power t → is_behind t ≡ true
    → Matches t (before ++ token ∷ []) token.end
next_matches s t before at token m caret power behind = record {
  glued = glued_after before token ∙ sym behind;
  power = power_after before token (is_raised s) m.caret ∙ power;
  caret = caret_after before token ∙ caret;
}

-- ---- texts

-- the bytes are these characters
pub record IsTextOf (cs text : List ℕ) : Type 0 where
  pub scalars : all_scalars cs ≡ true
  pub encoded : encodes cs ≡ text

pub texts_join : (cs ds a b : List ℕ) → IsTextOf cs a → IsTextOf ds b → IsTextOf (cs ++ ds) (a ++ b)
texts_join cs ds a b h k = record {
  scalars = scalars_append cs ds h.scalars k.scalars;
  encoded = encodes-append cs ds ∙ (λ i. h.encoded i ++ k.encoded i);
}

-- the tokens of the characters, after these tokens and before other characters; the place says what these are after
-- all of them
pub record Read (cs : List ℕ) (t : Place) (S : Spelling) (before : List Token) (at : ℕ) (more : List ℕ) : Type 0 where
  pub own : List Token
  pub end : ℕ
  pub matches : Matches t (before ++ own) end
  pub lexes : (rest : List Token) → Lexes (before ++ own) end more rest → Lexes before at (cs ++ more) (own ++ rest)
  pub spelled : (rest : List Token) → S (own ++ rest) rest

-- the text may stand between the two places, and has these tokens there
pub record Segment (text : List ℕ) (s t : Place) (S : Spelling) : Type 0 where
  pub cs : List ℕ
  pub is : IsTextOf cs text
  pub clear : (more : List ℕ) → Clear t more → Clear s (cs ++ more)
  pub read : (before : List Token) (at : ℕ) (more : List ℕ) → Matches s before at → Clear t more → Read cs t S before at more

abbrev pub Then : Spelling → Spelling → Spelling
Then S T tokens rest = (mid : List Token) × S tokens mid × T mid rest

read_then : (cs ds : List ℕ) (t u : Place) (S T : Spelling) (before : List Token) (at : ℕ) (more : List ℕ) (r : Read cs t S before at (ds ++ more)) → Read ds u T (before ++ r.own) r.end more
    → Read (cs ++ ds) u (Then S T) before at more
read_then cs ds t u S T before at more r q = record {
  own = r.own ++ q.own;
  end = q.end;
  matches = subst (λ w. Matches u w q.end) (append_assoc before r.own q.own) q.matches;
  lexes = λ rest l.
      let after : Lexes (before ++ r.own) r.end (ds ++ more) (q.own ++ rest) = q.lexes rest (subst (λ w. Lexes w q.end more rest) (sym (append_assoc before r.own q.own)) l) in
      let all : Lexes before at (cs ++ (ds ++ more)) (r.own ++ (q.own ++ rest)) = r.lexes (q.own ++ rest) after in
      let flat : Lexes before at ((cs ++ ds) ++ more) (r.own ++ (q.own ++ rest)) = subst (λ w. Lexes before at w (r.own ++ (q.own ++ rest))) (sym (append_assoc cs ds more)) all in
      subst (λ w. Lexes before at ((cs ++ ds) ++ more) w) (sym (append_assoc r.own q.own rest)) flat;
  spelled = λ rest. (q.own ++ rest, subst (λ w. S w (q.own ++ rest)) (sym (append_assoc r.own q.own rest)) (r.spelled (q.own ++ rest)), q.spelled rest);
}

pub segment_then : (a b : List ℕ) (s t u : Place) (S T : Spelling) → Segment a s t S → Segment b t u T → Segment (a ++ b) s u (Then S T)
segment_then a b s t u S T x y = record {
  cs = x.cs ++ y.cs;
  is = texts_join x.cs y.cs a b x.is y.is;
  clear = λ more c. subst (λ w. Clear s w) (sym (append_assoc x.cs y.cs more)) (x.clear (y.cs ++ more) (y.clear more c));
  read = λ before at more m c.
      let r = x.read before at (y.cs ++ more) m (y.clear more c) in
      read_then x.cs y.cs t u S T before at more r (y.read (before ++ r.own) r.end more r.matches c);
}

-- the same tokens are told in other words
pub segment_as : (a : List ℕ) (s t : Place) (S T : Spelling) → ((tokens rest : List Token) → S tokens rest → T tokens rest) → Segment a s t S → Segment a s t T
segment_as a s t S T told x = record {
  cs = x.cs;
  is = x.is;
  clear = x.clear;
  read = λ before at more m c.
      let r = x.read before at more m c in
      record { own = r.own; end = r.end; matches = r.matches; lexes = r.lexes; spelled = λ rest. told (r.own ++ rest) rest (r.spelled rest) };
}

-- the same text by another name
pub segment_of : (a b : List ℕ) (s t : Place) (S : Spelling) → a ≡ b → Segment a s t S → Segment b s t S
segment_of a b s t S same x = subst (λ text. Segment text s t S) same x

abbrev pub Skips : Spelling
Skips tokens rest = tokens ≡ rest

-- no text
pub segment_none : (s : Place) → Segment [] s s Skips
segment_none s = record {
  cs = [];
  is = record { scalars = refl; encoded = refl };
  clear = λ more c. c;
  read = λ before at more m c. record {
    own = [];
    end = at;
    matches = subst (λ w. Matches s w at) (sym (append-nil before)) m;
    lexes = λ rest l. subst (λ w. Lexes w at more rest) (append-nil before) l;
    spelled = λ rest. refl;
  };
}

-- ---- one token

-- what is known of a text that is one token's, from one place to the other
pub record IsOneToken (text : List ℕ) (s t : Place) (k : Kind) : Type 0 where
  pub lexeme : Lexeme
  pub fits : IsLexeme lexeme
  pub is : IsTextOf (lexeme_text lexeme) text
  pub ends : (more : List ℕ) → Clear t more → Ends lexeme more × IsAlone lexeme more
  pub clear : (more : List ℕ) → Clear t more → Clear s (lexeme_text lexeme ++ more)
  pub kind : kind_of (is_power s) lexeme ≡ Some k
  pub caret : is_caret_kind k ≡ is_raised t
  pub power : (is_caret_kind k || (is_minus_kind k && is_raised s)) ≡ is_power t
  pub behind : is_behind t ≡ true

-- the first token is of the kind, and directly after the token before it or not
abbrev pub FirstToken : Kind → Bool → Spelling
FirstToken k glued tokens rest = (token : Token) × (token.kind ≡ k) × (token.glued ≡ glued) × (tokens ≡ token ∷ rest)

pub segment_token : (text : List ℕ) (s t : Place) (k : Kind) → IsOneToken text s t k → Segment text s t (FirstToken k (is_behind s))
segment_token text s t k o = record {
  cs = lexeme_text o.lexeme;
  is = o.is;
  clear = o.clear;
  read = λ before at more m c.
      let token : Token = record { kind = k; start = at; end = at + size_of (lexeme_text o.lexeme); glued = is_glued before at } in
      let e = o.ends more c in
      record {
        own = token ∷ [];
        end = token.end;
        matches = next_matches s t before at token m o.caret o.power o.behind;
        lexes = λ rest l. (
          more,
          record {
            gap = [];
            lexeme = o.lexeme;
            cut = refl;
            skipped = nothing;
            fits = o.fits;
            longest = e.0;
            alone = e.1;
            kind = ap (λ b. kind_of b o.lexeme) m.power ∙ o.kind;
            start = omega arith;
            end = refl;
            glued = refl;
          },
          l,
        );
        spelled = λ rest. (token, refl, m.glued, refl);
      };
}

-- ---- a space

ends_later : (at : ℕ) (o : Option Token) → ends_at at o ≡ true → ends_at (at + 1) o ≡ false
ends_later at None e = refl
ends_later at (Some token) e = let same = eqb-true token.end at e in grind (arith, nat_tests)

blank_matches : (s : Place) (before : List Token) (at : ℕ) → takes_blank s ≡ true → Matches s before at → Matches (fresh false false) before (at + 1)
blank_matches s before at b m =
    let h = blank_behind s b in
    record { glued = ends_later at (slice_get before (length before - 1)) (m.glued ∙ h.0); power = m.power ∙ h.2; caret = m.caret ∙ h.1 }

pub segment_blank : (s : Place) → takes_blank s ≡ true → Segment (codes " ") s (fresh false false) Skips
segment_blank s b = record {
  cs = 32 ∷ [];
  is = record { scalars = refl; encoded = ap (λ w. w ++ []) (encode_ascii 32 (lit< tt)) };
  clear = λ more c. blank_clear s b 32 refl refl (is_xid_continue-ascii 32 (lit< tt)) refl more;
  read = λ before at more m c. record {
    own = [];
    end = at + 1;
    matches = subst (λ w. Matches (fresh false false) w (at + 1)) (sym (append-nil before)) (blank_matches s before at b m);
    lexes = λ rest l. next_blank 32 refl refl before at more rest (subst (λ w. Lexes w (at + 1) more rest) (append-nil before) l);
    spelled = λ rest. refl;
  };
}
