-- The text laid out anew has the same tokens, as they were spelled.
use Rattle.std.proofs.Common.{Ok, ◌≡◌, refl, sym, ap, ◌∙◌, subst, ℕ, ◌+◌, ◌-◌, ◌<◌, Bool, true, false, cond, ◌==◌, ◌&&◌, List, [], ◌∷◌, ◌++◌, length, take, drop, append_assoc, ⊎_elim, arith}
use Rattle.std.proofs.lemmas.Bool.{false≢true, eqb-true, or_from}
use Rattle.std.proofs.lemmas.List.{length-append}
use Rattle.std.proofs.lemmas.Str.{encodes-append, encodes-chars, chars-encodes, scalars-chars, length-encode}
use Rattle.std.proofs.Math.Seq.{take-append_seam, drop-append_seam}
use Rattle.std.specs.Char.{is_ascii_digit}
use Rattle.std.specs.Str.{chars, IsUtf8}
use Rattle.std.specs.Prelude.{slice_range}
use lib.Utf8.{scalar, scalars, encode, encodes}
use Rattle.unicode_ident.specs.Ident.{is_xid_start}
use Rattle.unicode_ident.proofs.Computing.{unicode_ident}
use Rattle.um_syntax.specs.declared.token.Token.{Token}
use Rattle.um_syntax.specs.Gap.{is_space, IsGap, nothing, space, comment, closed}
use Rattle.um_vocabulary.specs.Vocabulary.{symbol_text}
use Rattle.um_syntax.specs.Lexeme.{starts_name, Lexeme, Name, Var, Number, Word, Hole, Sign, text_of, IsLexeme, begins}
use Rattle.um_syntax.specs.Feeding.{IsTextAnswer}
use Rattle.um_syntax.specs.Lexing.{size_of, body, body_place, Lexes, HasTokens}
use Rattle.um_syntax.proofs.Places.{size_of-encodes}
use Rattle.um_vocabulary.proofs.Tables.{symbol_form}
use Rattle.um_syntax.proofs.Texts.{head_of}
use Rattle.um_tidy.specs.declared.stand.Stand.{Stand}
use Rattle.um_tidy.specs.Stands.{start, stand_of}
use Rattle.um_tidy.specs.Spaces.{is_spaced}
use Rattle.um_tidy.specs.Gaps.{first_gap, inner_gap, last_gap, only_gap}
use Rattle.um_tidy.specs.Tidied.{spelling, tidied_after, tidied_from, tidied}
use Rattle.um_tidy.specs.Laws.{kinds, spellings, TokensStay}
use Rattle.um_tidy.proofs.Beside.{first_of, mark_low}
use Rattle.um_tidy.proofs.Encoded.{first_gap_encodes, inner_gap_encodes, last_gap_encodes, only_gap_encodes}
use Rattle.um_tidy.proofs.Printed.{AllPass, pass_append, pass_parts, first_pass, inner_pass, last_pass, only_pass}
use Rattle.um_tidy.proofs.GapLines.{first_is_gap, only_is_gap}
use Rattle.um_tidy.proofs.Anew.{gap_of, rest_of, moved, tokens_of, same_kinds, next_anew, lexes_anew}

-- ---- the bytes of a token and of what stands before it

pub record IsCutAt (text : List ℕ) (a b c : ℕ) (gap lex more : List ℕ) : Type 0 where
  pub between : slice_range text a b ≡ encodes gap
  pub spelled : slice_range text b c ≡ encodes lex
  pub front : List ℕ
  pub whole : text ≡ front ++ encodes more
  pub place : length front ≡ c

-- the part of a text that follows another
pub part_at : (text pre part post : List ℕ) (a b : ℕ) → text ≡ pre ++ (part ++ post) → length pre ≡ a → b ≡ a + length part → slice_range text a b ≡ part
part_at text pre part post a b whole place size =
    let rest : drop a text ≡ part ++ post = ap (drop a) whole ∙ ap (λ n. drop n (pre ++ (part ++ post))) (sym place) ∙ drop-append_seam pre (part ++ post) in
    let many : b - a ≡ length part = omega (arith, size) in
    ap (λ n. take n (drop a text)) many ∙ ap (take (length part)) rest ∙ take-append_seam part post

pub cut_text : (text pre cs gap lex more : List ℕ) (a b c : ℕ) → text ≡ pre ++ encodes cs → length pre ≡ a → cs ≡ gap ++ (lex ++ more) → b ≡ a + size_of gap → c ≡ b + size_of lex → IsCutAt text a b c gap lex more
cut_text text pre cs gap lex more a b c whole place cut start end =
    let g = encodes gap in
    let x = encodes lex in
    let m = encodes more in
    let parts : encodes cs ≡ g ++ (x ++ m) = ap encodes cut ∙ encodes-append gap (lex ++ more) ∙ ap (λ xs. g ++ xs) (encodes-append lex more) in
    let all : text ≡ pre ++ (g ++ (x ++ m)) = whole ∙ ap (λ xs. pre ++ xs) parts in
    let later : text ≡ (pre ++ g) ++ (x ++ m) = all ∙ sym (append_assoc pre g (x ++ m)) in
    let gap_size = size_of-encodes gap in
    let lex_size = size_of-encodes lex in
    let before : length (pre ++ g) ≡ b = length-append pre g ∙ omega (arith, place, start, gap_size) in
    record {
      between = part_at text pre g (x ++ m) a b all place (omega (arith, start, gap_size));
      spelled = part_at text (pre ++ g) x m b c later before (omega (arith, end, lex_size));
      front = (pre ++ g) ++ x;
      whole = later ∙ sym (append_assoc (pre ++ g) x m);
      place = length-append (pre ++ g) x ∙ omega (arith, before, end, lex_size);
    }

three_encodes : (gap lex more : List ℕ) → encodes (gap ++ (lex ++ more)) ≡ encodes gap ++ (encodes lex ++ encodes more)
three_encodes gap lex more = encodes-append gap (lex ++ more) ∙ ap (λ xs. encodes gap ++ xs) (encodes-append lex more)

-- ---- the bytes of what follows a token

pub after_bytes : (ts before : List Token) (at : ℕ) (cs : List ℕ) (s : Stand) (t : Token) (l : Lexes before at cs ts) (text pre : List ℕ) → text ≡ pre ++ encodes cs → length pre ≡ at → t.end ≡ at → tidied_after text s t ts ≡ encodes (rest_of ts before at cs s t l)
after_bytes [] before at cs s t l text pre whole place end =
    let rest : drop t.end text ≡ encodes cs = ap (drop t.end) whole ∙ ap (λ n. drop n (pre ++ encodes cs)) (end ∙ sym place) ∙ drop-append_seam pre (encodes cs) in
    ap last_gap rest ∙ last_gap_encodes cs
after_bytes (u ∷ us) before at cs s t l text pre whole place end =
    let n = l.1 in
    let spaced = is_spaced s t.kind (stand_of s u) u.kind in
    let begins = (stand_of s u).begins in
    let cut = cut_text text pre cs n.gap (text_of n.lexeme) l.0 t.end u.start u.end whole (place ∙ sym end) n.cut (n.start ∙ ap (λ k. k + size_of n.gap) (sym end)) n.end in
    let more = rest_of us (before ++ u ∷ []) u.end l.0 (stand_of s u) u l.2 in
    ap (λ xs. inner_gap spaced begins xs ++ (spelling text u ++ tidied_after text (stand_of s u) u us)) cut.between
    ∙ ap (λ xs. xs ++ (spelling text u ++ tidied_after text (stand_of s u) u us)) (inner_gap_encodes spaced begins n.gap)
    ∙ ap (λ xs. encodes (gap_of s t u n.gap) ++ (xs ++ tidied_after text (stand_of s u) u us)) cut.spelled
    ∙ ap (λ xs. encodes (gap_of s t u n.gap) ++ (encodes (text_of n.lexeme) ++ xs)) (after_bytes us (before ++ u ∷ []) u.end l.0 (stand_of s u) u l.2 text cut.front cut.whole cut.place refl)
    ∙ sym (three_encodes (gap_of s t u n.gap) (text_of n.lexeme) more)

-- ---- the tokens as they are spelled

pub spelled_after : (ts before : List Token) (at : ℕ) (cs : List ℕ) (s : Stand) (t : Token) (l : Lexes before at cs ts) (others : List Token) (to : ℕ) (text pre new front : List ℕ) → text ≡ pre ++ encodes cs → length pre ≡ at → new ≡ front ++ encodes (rest_of ts before at cs s t l) → length front ≡ to
    → spellings new (tokens_of ts before at cs s t l others to) ≡ spellings text ts
spelled_after [] before at cs s t l others to text pre new front whole place made there = refl
spelled_after (u ∷ us) before at cs s t l others to text pre new front whole place made there =
    let n = l.1 in
    let gap = gap_of s t u n.gap in
    let lex = text_of n.lexeme in
    let more = rest_of us (before ++ u ∷ []) u.end l.0 (stand_of s u) u l.2 in
    let v = moved u others (to + size_of gap) (size_of lex) in
    let old = cut_text text pre cs n.gap lex l.0 at u.start u.end whole place n.cut n.start n.end in
    let cut = cut_text new front (gap ++ (lex ++ more)) gap lex more to v.start v.end made there refl refl refl in
    ap (λ xs. xs ∷ spellings new (tokens_of us (before ++ u ∷ []) u.end l.0 (stand_of s u) u l.2 (others ++ v ∷ []) v.end)) (cut.spelled ∙ sym old.spelled)
    ∙ ap (λ xs. spelling text u ∷ xs) (spelled_after us (before ++ u ∷ []) u.end l.0 (stand_of s u) u l.2 (others ++ v ∷ []) v.end text old.front new cut.front old.whole old.place cut.whole cut.place)

-- ---- the whole text

abbrev pub whole_of : (ts : List Token) (at : ℕ) (cs : List ℕ) → Lexes [] at cs ts → List ℕ
whole_of [] at cs l = only_gap cs
whole_of (t ∷ ts) at cs l = first_gap (stand_of start t).begins l.1.gap ++ (text_of l.1.lexeme ++ rest_of ts (t ∷ []) t.end l.0 (stand_of start t) t l.2)

abbrev pub first_token : (t : Token) (gap lex : List ℕ) → Token
first_token t gap lex = moved t [] (0 + size_of (first_gap (stand_of start t).begins gap)) (size_of lex)

abbrev pub all_of : (ts : List Token) (at : ℕ) (cs : List ℕ) → Lexes [] at cs ts → List Token
all_of [] at cs l = []
all_of (t ∷ ts) at cs l =
    first_token t l.1.gap (text_of l.1.lexeme)
    ∷ tokens_of ts (t ∷ []) t.end l.0 (stand_of start t) t l.2 (first_token t l.1.gap (text_of l.1.lexeme) ∷ []) (first_token t l.1.gap (text_of l.1.lexeme)).end

pub whole_kinds : (ts : List Token) (at : ℕ) (cs : List ℕ) (l : Lexes [] at cs ts) → kinds (all_of ts at cs l) ≡ kinds ts
whole_kinds [] at cs l = refl
whole_kinds (t ∷ ts) at cs l =
    let v = first_token t l.1.gap (text_of l.1.lexeme) in
    ap (λ ks. t.kind ∷ ks) (same_kinds ts (t ∷ []) t.end l.0 (stand_of start t) t l.2 (v ∷ []) v.end)

abbrev pub whole_lexes : (ts : List Token) (at : ℕ) (cs : List ℕ) (l : Lexes [] at cs ts) → Lexes [] 0 (whole_of ts at cs l) (all_of ts at cs l)
whole_lexes [] at cs l = closed (only_is_gap cs l)
whole_lexes (t ∷ ts) at cs l =
    let gap = first_gap (stand_of start t).begins l.1.gap in
    let v = first_token t l.1.gap (text_of l.1.lexeme) in (
      rest_of ts (t ∷ []) t.end l.0 (stand_of start t) t l.2,
      next_anew ts [] at cs t l.0 l.1 (stand_of start t) l.2 [] 0 gap (first_is_gap (stand_of start t).begins l.1.gap l.1.skipped) refl,
      lexes_anew ts (t ∷ []) t.end l.0 (stand_of start t) t l.2 (v ∷ []) v.end refl,
    )

pub whole_bytes : (ts : List Token) (at : ℕ) (cs : List ℕ) (l : Lexes [] at cs ts) (text pre : List ℕ) → text ≡ pre ++ encodes cs → length pre ≡ at → tidied_from at text ts ≡ encodes (whole_of ts at cs l)
whole_bytes [] at cs l text pre whole place =
    let rest : drop at text ≡ encodes cs = ap (drop at) whole ∙ ap (λ n. drop n (pre ++ encodes cs)) (sym place) ∙ drop-append_seam pre (encodes cs) in
    ap only_gap rest ∙ only_gap_encodes cs
whole_bytes (t ∷ ts) at cs l text pre whole place =
    let n = l.1 in
    let begins = (stand_of start t).begins in
    let cut = cut_text text pre cs n.gap (text_of n.lexeme) l.0 at t.start t.end whole place n.cut n.start n.end in
    let more = rest_of ts (t ∷ []) t.end l.0 (stand_of start t) t l.2 in
    ap (λ xs. first_gap begins xs ++ (spelling text t ++ tidied_after text (stand_of start t) t ts)) cut.between
    ∙ ap (λ xs. xs ++ (spelling text t ++ tidied_after text (stand_of start t) t ts)) (first_gap_encodes begins n.gap)
    ∙ ap (λ xs. encodes (first_gap begins n.gap) ++ (xs ++ tidied_after text (stand_of start t) t ts)) cut.spelled
    ∙ ap (λ xs. encodes (first_gap begins n.gap) ++ (encodes (text_of n.lexeme) ++ xs)) (after_bytes ts (t ∷ []) t.end l.0 (stand_of start t) t l.2 text cut.front cut.whole cut.place refl)
    ∙ sym (three_encodes (first_gap begins n.gap) (text_of n.lexeme) more)

pub whole_spelled : (ts : List Token) (at : ℕ) (cs : List ℕ) (l : Lexes [] at cs ts) (text pre : List ℕ) → text ≡ pre ++ encodes cs → length pre ≡ at → spellings (encodes (whole_of ts at cs l)) (all_of ts at cs l) ≡ spellings text ts
whole_spelled [] at cs l text pre whole place = refl
whole_spelled (t ∷ ts) at cs l text pre whole place =
    let n = l.1 in
    let gap = first_gap (stand_of start t).begins n.gap in
    let lex = text_of n.lexeme in
    let more = rest_of ts (t ∷ []) t.end l.0 (stand_of start t) t l.2 in
    let v = first_token t n.gap lex in
    let new = encodes (gap ++ (lex ++ more)) in
    let old = cut_text text pre cs n.gap lex l.0 at t.start t.end whole place n.cut n.start n.end in
    let cut = cut_text new [] (gap ++ (lex ++ more)) gap lex more 0 v.start v.end refl refl refl refl refl in
    ap (λ xs. xs ∷ spellings new (tokens_of ts (t ∷ []) t.end l.0 (stand_of start t) t l.2 (v ∷ []) v.end)) (cut.spelled ∙ sym old.spelled)
    ∙ ap (λ xs. spelling text t ∷ xs) (spelled_after ts (t ∷ []) t.end l.0 (stand_of start t) t l.2 (v ∷ []) v.end text old.front new cut.front old.whole old.place cut.whole cut.place)

-- ---- its characters

rest_pass : (p : ℕ → Bool) → p 32 ≡ true → p 10 ≡ true → (ts before : List Token) (at : ℕ) (cs : List ℕ) (s : Stand) (t : Token) (l : Lexes before at cs ts) → AllPass p cs → AllPass p (rest_of ts before at cs s t l)
rest_pass p blank feed [] before at cs s t l h = last_pass p blank feed cs h
rest_pass p blank feed (u ∷ us) before at cs s t l h =
    let n = l.1 in
    let parts = pass_parts p n.gap (text_of n.lexeme ++ l.0) (subst (AllPass p) n.cut h) in
    let later = pass_parts p (text_of n.lexeme) l.0 parts.1 in
    pass_append p (gap_of s t u n.gap) (text_of n.lexeme ++ rest_of us (before ++ u ∷ []) u.end l.0 (stand_of s u) u l.2)
    (inner_pass p blank feed (is_spaced s t.kind (stand_of s u) u.kind) (stand_of s u).begins n.gap parts.0)
    (pass_append p (text_of n.lexeme) (rest_of us (before ++ u ∷ []) u.end l.0 (stand_of s u) u l.2) later.0 (rest_pass p blank feed us (before ++ u ∷ []) u.end l.0 (stand_of s u) u l.2 later.1))

whole_pass : (p : ℕ → Bool) → p 32 ≡ true → p 10 ≡ true → (ts : List Token) (at : ℕ) (cs : List ℕ) (l : Lexes [] at cs ts) → AllPass p cs → AllPass p (whole_of ts at cs l)
whole_pass p blank feed [] at cs l h = only_pass p blank feed cs h
whole_pass p blank feed (t ∷ ts) at cs l h =
    let n = l.1 in
    let parts = pass_parts p n.gap (text_of n.lexeme ++ l.0) (subst (AllPass p) n.cut h) in
    let later = pass_parts p (text_of n.lexeme) l.0 parts.1 in
    pass_append p (first_gap (stand_of start t).begins n.gap) (text_of n.lexeme ++ rest_of ts (t ∷ []) t.end l.0 (stand_of start t) t l.2)
    (first_pass p blank feed (stand_of start t).begins n.gap parts.0)
    (pass_append p (text_of n.lexeme) (rest_of ts (t ∷ []) t.end l.0 (stand_of start t) t l.2) later.0 (rest_pass p blank feed ts (t ∷ []) t.end l.0 (stand_of start t) t l.2 later.1))

and_true : (a b : Bool) → (a && b) ≡ true → (a ≡ true) × (b ≡ true)
and_true true b e = (refl, e)
and_true false b e = absurd (false≢true e)

and_from : (a b : Bool) → a ≡ true → b ≡ true → (a && b) ≡ true
and_from true b e f = f
and_from false b e f = absurd (false≢true e)

scalars_pass : (cs : List ℕ) → scalars cs ≡ true → AllPass scalar cs
scalars_pass [] h = tt
scalars_pass (c ∷ cs) h = let both = and_true (scalar c) (scalars cs) h in (both.0, scalars_pass cs both.1)

pass_scalars : (cs : List ℕ) → AllPass scalar cs → scalars cs ≡ true
pass_scalars [] h = refl
pass_scalars (c ∷ cs) h = and_from (scalar c) (scalars cs) h.0 (pass_scalars cs h.1)

body_pass : (p : ℕ → Bool) (cs : List ℕ) → AllPass p cs → AllPass p (body cs)
body_pass p [] h = tt
body_pass p (c ∷ cs) h = by_test (c == 65279)
  where
    by_test : (b : Bool) → AllPass p (cond b cs (c ∷ cs))
    by_test true = h.1
    by_test false = h

-- ---- no byte order mark is made

abbrev is_mark : ℕ → Bool
is_mark c = c == 65279

mark_no_start : is_xid_start 65279 ≡ false
unfolding unicode_ident
mark_no_start = refl

other : (p : ℕ → Bool) (c : ℕ) → p c ≡ true → p 65279 ≡ false → is_mark c ≡ false
other p c passes fails = by_test (is_mark c) refl
  where
    by_test : (b : Bool) → is_mark c ≡ b → is_mark c ≡ false
    by_test true e = absurd (false≢true (sym fails ∙ ap p (sym (eqb-true c 65279 e)) ∙ passes))
    by_test false e = e

gap_no_mark : {gap : List ℕ} → IsGap gap → (more : List ℕ) → begins is_mark more ≡ false → begins is_mark (gap ++ more) ≡ false
gap_no_mark nothing more h = h
gap_no_mark (space {c} e g) more h = other is_space c e refl
gap_no_mark (comment line l g) more h = refl

sign_low : (c : ℕ) → c < 128 → is_mark c ≡ false
sign_low c low = by_test (is_mark c) refl
  where
    by_test : (b : Bool) → is_mark c ≡ b → is_mark c ≡ false
    by_test true e = let same : c ≡ 65279 = eqb-true c 65279 e in absurd (omega (arith, same, low))
    by_test false e = e

letter_no_mark : (c : ℕ) → starts_name c ≡ true → is_mark c ≡ false
letter_no_mark c passes = other starts_name c passes (or_from (65279 == 95) (is_xid_start 65279) refl mark_no_start)

front_no_mark : (c : ℕ) (cs text more : List ℕ) → text ≡ c ∷ cs → is_mark c ≡ false → begins is_mark (text ++ more) ≡ false
front_no_mark c cs text more e fails = subst (λ xs. begins is_mark (xs ++ more) ≡ false) (sym e) fails

lexeme_no_mark : (lexeme : Lexeme) (more : List ℕ) → IsLexeme lexeme → begins is_mark (text_of lexeme ++ more) ≡ false
lexeme_no_mark (Name text) more fits = let h = head_of (Name text) fits in front_no_mark h.0 h.1 text more h.2 (letter_no_mark h.0 h.3)
lexeme_no_mark (Var name) more fits = refl
lexeme_no_mark (Number n) more fits = let h = head_of (Number n) fits in front_no_mark h.0 h.1 (text_of (Number n)) more h.2 (other is_ascii_digit h.0 h.3 refl)
lexeme_no_mark (Word k) more fits = let h = head_of (Word k) fits in front_no_mark h.0 h.1 (text_of (Word k)) more h.2 (letter_no_mark h.0 h.3)
lexeme_no_mark Hole more fits = refl
lexeme_no_mark (Sign k) more fits =
    ⊎_elim (λ f. front_no_mark f.0 [] (symbol_text k) more f.1 (low f.0 [] f.1)) (λ f. front_no_mark f.0 (f.1 ∷ []) (symbol_text k) more f.2 (low f.0 (f.1 ∷ []) f.2)) (symbol_form k)
  where
    low : (c : ℕ) (cs : List ℕ) → symbol_text k ≡ c ∷ cs → is_mark c ≡ false
    low c cs e = sign_low c (subst (λ x. x < 128) (ap first_of e) (mark_low k))

whole_no_mark : (ts : List Token) (at : ℕ) (cs : List ℕ) (l : Lexes [] at cs ts) → begins is_mark (whole_of ts at cs l) ≡ false
whole_no_mark [] at cs l = subst (λ xs. begins is_mark xs ≡ false) (none (only_gap cs)) (gap_no_mark (only_is_gap cs l) [] refl)
  where
    none : (xs : List ℕ) → xs ++ [] ≡ xs
    none [] = refl
    none (x ∷ xs) = ap (λ ys. x ∷ ys) (none xs)
whole_no_mark (t ∷ ts) at cs l =
    let more = rest_of ts (t ∷ []) t.end l.0 (stand_of start t) t l.2 in
    gap_no_mark (first_is_gap (stand_of start t).begins l.1.gap l.1.skipped) (text_of l.1.lexeme ++ more) (lexeme_no_mark l.1.lexeme more l.1.fits)

from_start : (cs : List ℕ) (tokens : List Token) → begins is_mark cs ≡ false → Lexes [] 0 cs tokens → HasTokens cs tokens
from_start [] tokens none l = l
from_start (c ∷ cs) tokens none l = subst (λ b. Lexes [] (cond b 3 0) (cond b cs (c ∷ cs)) tokens) (sym none) l

-- ---- the law

pub record IsMarked (cs : List ℕ) : Type 0 where
  pub mark : List ℕ
  pub whole : encodes cs ≡ mark ++ encodes (body cs)
  pub place : length mark ≡ body_place cs

pub marked : (cs : List ℕ) → IsMarked cs
marked [] = record { mark = []; whole = refl; place = refl }
marked (c ∷ cs) = by_test (is_mark c) refl
  where
    size : (c == 65279) ≡ true → length (encode c) ≡ 3
    size e = ap (λ x. length (encode x)) (eqb-true c 65279 e) ∙ length-encode 65279

    by_test : (b : Bool) → is_mark c ≡ b → IsMarked (c ∷ cs)
    by_test true e = record { mark = encode c; whole = ap (λ b. encode c ++ encodes (cond b cs (c ∷ cs))) (sym e); place = size e ∙ sym (ap (λ b. cond b 3 0) e) }
    by_test false e = record { mark = []; whole = ap (λ b. encodes (cond b cs (c ∷ cs))) (sym e); place = sym (ap (λ b. cond b 3 0) e) }

-- the characters of the text laid out anew, and its tokens
pub record LaidOut (text : List ℕ) (tokens : List Token) (l : HasTokens (chars text) tokens) : Type 0 where
  pub bytes : tidied text tokens ≡ encodes (whole_of tokens (body_place (chars text)) (body (chars text)) l)
  pub read : IsTextAnswer (tidied text tokens) (Ok (all_of tokens (body_place (chars text)) (body (chars text)) l))
  pub place : body_place (chars (tidied text tokens)) ≡ 0
  pub spelled : spellings (tidied text tokens) (all_of tokens (body_place (chars text)) (body (chars text)) l) ≡ spellings text tokens

no_place : (cs : List ℕ) → begins is_mark cs ≡ false → body_place cs ≡ 0
no_place [] none = refl
no_place (c ∷ cs) none = ap (λ b. cond b 3 0) none

pub laid_out : (text : List ℕ) (tokens : List Token) → IsUtf8 text → (l : HasTokens (chars text) tokens) → LaidOut text tokens l
laid_out text tokens utf8 l =
    let cs = chars text in
    let at = body_place cs in
    let m = marked cs in
    let whole : text ≡ m.mark ++ encodes (body cs) = sym (encodes-chars text utf8) ∙ m.whole in
    let made = whole_of tokens at (body cs) l in
    let others = all_of tokens at (body cs) l in
    let made_bytes : tidied text tokens ≡ encodes made = whole_bytes tokens at (body cs) l text m.mark whole m.place in
    let scalar_all : scalars made ≡ true = pass_scalars made (whole_pass scalar refl refl tokens at (body cs) l (body_pass scalar cs (scalars_pass cs (scalars-chars text utf8)))) in
    let same : chars (tidied text tokens) ≡ made = ap chars made_bytes ∙ chars-encodes made scalar_all in
    let none = whole_no_mark tokens at (body cs) l in
    record {
      bytes = made_bytes;
      read = ((made, (scalar_all, sym made_bytes)), subst (λ xs. HasTokens xs others) (sym same) (from_start made others none (whole_lexes tokens at (body cs) l)));
      place = ap body_place same ∙ no_place made none;
      spelled = ap (λ xs. spellings xs others) made_bytes ∙ whole_spelled tokens at (body cs) l text m.mark whole m.place;
    }

pub tokens_stay : TokensStay
tokens_stay text tokens answer =
    let l = answer.1 in
    let out = laid_out text tokens answer.0 l in
    (all_of tokens (body_place (chars text)) (body (chars text)) l, out.read, whole_kinds tokens (body_place (chars text)) (body (chars text)) l, out.spelled)
