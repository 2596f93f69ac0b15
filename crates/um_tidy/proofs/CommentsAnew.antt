-- The text laid out anew has the same comments.
use Rattle.std.proofs.Common.{◌≡◌, refl, sym, ap, ◌∙◌, subst, ℕ, ◌+◌, List, [], ◌∷◌, ◌++◌, length, drop, map}
use Rattle.std.proofs.lemmas.List.{map-append}
use Rattle.std.proofs.lemmas.Str.{encodes-chars}
use Rattle.std.proofs.Math.Seq.{drop-append_seam}
use Rattle.std.specs.Str.{chars}
use lib.Utf8.{encodes}
use Rattle.um_syntax.specs.declared.token.Token.{Token}
use Rattle.um_syntax.specs.Lexeme.{text_of}
use Rattle.um_syntax.specs.Lexing.{size_of, body, body_place, Lexes}
use Rattle.um_tidy.specs.declared.stand.Stand.{Stand}
use Rattle.um_tidy.specs.Stands.{start, stand_of}
use Rattle.um_tidy.specs.Spaces.{is_spaced}
use Rattle.um_tidy.specs.Gaps.{lines, comment}
use Rattle.um_tidy.specs.Tidied.{tidied}
use Rattle.um_tidy.specs.Laws.{kinds, with_comment, comments_in, comments_from, CommentsStay}
use Rattle.um_tidy.proofs.Encoded.{IsSome, some_bytes, lines_encodes, comment_encodes}
use Rattle.um_tidy.proofs.GapComments.{inner_comments, last_comments, first_comments, only_comments}
use Rattle.um_tidy.proofs.Anew.{kinds_more, gap_of, rest_of, moved, tokens_of, lexes_anew}
use Rattle.um_tidy.proofs.TokensAnew.{cut_text, whole_of, first_token, all_of, whole_lexes, marked, laid_out}

-- ---- the bytes of comments

with_some : (text : List ℕ) (more : List (List ℕ)) → IsSome text → with_comment text more ≡ text ∷ more
with_some text more s = subst (λ xs. with_comment xs more ≡ xs ∷ more) (sym s.is) refl

with_encodes : (text : List ℕ) (more : List (List ℕ)) → with_comment (encodes text) (map encodes more) ≡ map encodes (with_comment text more)
with_encodes [] more = refl
with_encodes (c ∷ cs) more = with_some (encodes (c ∷ cs)) (map encodes more) (some_bytes c cs)

in_encodes : (ls : List (List ℕ)) → comments_in (map encodes ls) ≡ map encodes (comments_in ls)
in_encodes [] = refl
in_encodes (line ∷ ls) =
    ap (λ t. with_comment t (comments_in (map encodes ls))) (comment_encodes line) ∙ ap (with_comment (encodes (comment line))) (in_encodes ls) ∙ with_encodes (comment line) (comments_in ls)

gap_encodes : (gap : List ℕ) → comments_in (lines (encodes gap)) ≡ map encodes (comments_in (lines gap))
gap_encodes gap = ap comments_in (lines_encodes gap) ∙ in_encodes (lines gap)

-- ---- gap by gap

abbrev comments_of : (ts before : List Token) (at : ℕ) (cs : List ℕ) → Lexes before at cs ts → List (List ℕ)
comments_of [] before at cs l = comments_in (lines cs)
comments_of (u ∷ us) before at cs l = comments_in (lines l.1.gap) ++ comments_of us (before ++ u ∷ []) u.end l.0 l.2

comments_bytes : (ts before : List Token) (at : ℕ) (cs : List ℕ) (l : Lexes before at cs ts) (text pre : List ℕ) → text ≡ pre ++ encodes cs → length pre ≡ at → comments_from at text ts ≡ map encodes (comments_of ts before at cs l)
comments_bytes [] before at cs l text pre whole place =
    let rest : drop at text ≡ encodes cs = ap (drop at) whole ∙ ap (λ n. drop n (pre ++ encodes cs)) (sym place) ∙ drop-append_seam pre (encodes cs) in
    ap (λ xs. comments_in (lines xs)) rest ∙ gap_encodes cs
comments_bytes (u ∷ us) before at cs l text pre whole place =
    let n = l.1 in
    let cut = cut_text text pre cs n.gap (text_of n.lexeme) l.0 at u.start u.end whole place n.cut n.start n.end in
    let more = comments_of us (before ++ u ∷ []) u.end l.0 l.2 in
    ap (λ xs. comments_in (lines xs) ++ comments_from u.end text us) cut.between
    ∙ ap (λ xs. xs ++ comments_from u.end text us) (gap_encodes n.gap)
    ∙ ap (λ xs. map encodes (comments_in (lines n.gap)) ++ xs) (comments_bytes us (before ++ u ∷ []) u.end l.0 l.2 text cut.front cut.whole cut.place)
    ∙ sym (map-append encodes (comments_in (lines n.gap)) more)

rest_comments : (ts before : List Token) (at : ℕ) (cs : List ℕ) (s : Stand) (t : Token) (l : Lexes before at cs ts) (others : List Token) (place : ℕ) (same : kinds before ≡ kinds others)
    → comments_of (tokens_of ts before at cs s t l others place) others place (rest_of ts before at cs s t l) (lexes_anew ts before at cs s t l others place same) ≡ comments_of ts before at cs l
rest_comments [] before at cs s t l others place same = last_comments cs l
rest_comments (u ∷ us) before at cs s t l others place same =
    let n = l.1 in
    let gap = gap_of s t u n.gap in
    let w = moved u others (place + size_of gap) (size_of (text_of n.lexeme)) in
    let more = rest_of us (before ++ u ∷ []) u.end l.0 (stand_of s u) u l.2 in
    let ws = tokens_of us (before ++ u ∷ []) u.end l.0 (stand_of s u) u l.2 (others ++ w ∷ []) w.end in
    let later = lexes_anew us (before ++ u ∷ []) u.end l.0 (stand_of s u) u l.2 (others ++ w ∷ []) w.end (kinds_more before others u w same refl) in
    ap (λ xs. xs ++ comments_of ws (others ++ w ∷ []) w.end more later) (inner_comments (is_spaced s t.kind (stand_of s u) u.kind) (stand_of s u).begins n.gap n.skipped)
    ∙ ap (λ xs. comments_in (lines n.gap) ++ xs) (rest_comments us (before ++ u ∷ []) u.end l.0 (stand_of s u) u l.2 (others ++ w ∷ []) w.end (kinds_more before others u w same refl))

whole_comments : (ts : List Token) (at : ℕ) (cs : List ℕ) (l : Lexes [] at cs ts) → comments_of (all_of ts at cs l) [] 0 (whole_of ts at cs l) (whole_lexes ts at cs l) ≡ comments_of ts [] at cs l
whole_comments [] at cs l = only_comments cs l
whole_comments (t ∷ ts) at cs l =
    let n = l.1 in
    let v = first_token t n.gap (text_of n.lexeme) in
    let more = rest_of ts (t ∷ []) t.end l.0 (stand_of start t) t l.2 in
    let ws = tokens_of ts (t ∷ []) t.end l.0 (stand_of start t) t l.2 (v ∷ []) v.end in
    let later = lexes_anew ts (t ∷ []) t.end l.0 (stand_of start t) t l.2 (v ∷ []) v.end refl in
    ap (λ xs. xs ++ comments_of ws (v ∷ []) v.end more later) (first_comments (stand_of start t).begins n.gap n.skipped)
    ∙ ap (λ xs. comments_in (lines n.gap) ++ xs) (rest_comments ts (t ∷ []) t.end l.0 (stand_of start t) t l.2 (v ∷ []) v.end refl)

-- ---- the law

pub comments_stay : CommentsStay
comments_stay text tokens answer =
    let cs = chars text in
    let at = body_place cs in
    let l = answer.1 in
    let m = marked cs in
    let whole : text ≡ m.mark ++ encodes (body cs) = sym (encodes-chars text answer.0) ∙ m.whole in
    let out = laid_out text tokens answer.0 l in
    let made = whole_of tokens at (body cs) l in
    let others = all_of tokens at (body cs) l in (
      others,
      out.read,
      ap (λ n. comments_from n (tidied text tokens) others) out.place
          ∙ comments_bytes others [] 0 made (whole_lexes tokens at (body cs) l) (tidied text tokens) [] out.bytes refl
          ∙ ap (map encodes) (whole_comments tokens at (body cs) l)
          ∙ sym (comments_bytes tokens [] at (body cs) l text m.mark whole m.place),
    )
