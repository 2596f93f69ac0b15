-- A text that was laid out is laid out as it stands.
use Rattle.std.proofs.Common.{◌≡◌, refl, sym, ap, ◌∙◌, ℕ, ◌+◌, ◌-◌, Bool, true, false, not, cond, ◌==◌, ◌||◌, List, [], ◌∷◌, ◌++◌, length, Some, slice_get, ◌⊎◌, inl, inr, arith}
use Rattle.std.proofs.lemmas.Bool.{false≢true, eqb-true, eq-eqb}
use Rattle.std.proofs.lemmas.List.{length-append}
use Rattle.std.proofs.lemmas.Option.{slice_get_read}
use Rattle.std.proofs.lemmas.Str.{len_utf8_bounds}
use Rattle.std.proofs.Math.Seq.{get_or-append_seam}
use Rattle.std.specs.Str.{chars}
use lib.Utf8.{encodes}
use Rattle.um_syntax.specs.declared.token.Token.{Token}
use Rattle.um_syntax.specs.Lexeme.{text_of}
use Rattle.um_syntax.specs.Lexing.{size_of, ends_at, is_glued, Lexes, body, body_place}
use Rattle.um_tidy.specs.declared.stand.Stand.{Stand}
use Rattle.um_tidy.specs.Stands.{start, stand_of}
use Rattle.um_tidy.specs.Spaces.{is_spaced}
use Rattle.um_tidy.specs.Gaps.{first_gap, inner_gap}
use Rattle.um_tidy.specs.Tidied.{tidied_from, tidied}
use Rattle.um_tidy.specs.Laws.{kinds, TidiedStays}
use Rattle.um_tidy.proofs.GapLines.{BeginsBlank, inner_form}
use Rattle.um_tidy.proofs.GapsAgain.{inner_again, last_again, first_again, only_again}
use Rattle.um_tidy.proofs.StandAgain.{is_number_next, is_less, stand_same, after_number, less_unlettered, NumberStands, number_stands}
use Rattle.um_tidy.proofs.Anew.{kinds_more, gap_of, rest_of, moved, tokens_of, lexes_anew}
use Rattle.um_tidy.proofs.TokensAnew.{whole_of, first_token, all_of, whole_lexes, whole_bytes, laid_out}

-- ---- nothing stands between two tokens where nothing stood

pub size_none : (cs : List ℕ) → size_of cs ≡ 0 → cs ≡ []
size_none [] e = refl
size_none (c ∷ cs) e = let least = (len_utf8_bounds c).0 in absurd (omega (arith, e, least))

pub blank_size : (xs : List ℕ) → BeginsBlank xs → size_of xs ≡ 0 → ⊥
blank_size xs b e =
    let least = (len_utf8_bounds b.first).0 in
    let size : size_of (b.first ∷ b.others) ≡ 0 = ap size_of (sym b.is) ∙ e in
    omega (arith, size, least)

last_is : (xs : List Token) (t : Token) → slice_get (xs ++ t ∷ []) (length (xs ++ t ∷ []) - 1) ≡ Some t
last_is xs t =
    let n = length-append xs (t ∷ []) in
    let at : length (xs ++ t ∷ []) - 1 ≡ length xs = omega (arith, n) in
    ap (slice_get (xs ++ t ∷ [])) at ∙ slice_get_read (xs ++ t ∷ []) (length (xs ++ t ∷ [])) (length xs) t refl (omega (arith, n)) (sym (get_or-append_seam xs t [] t))

pub glued_is : (xs : List Token) (t : Token) (from : ℕ) → is_glued (xs ++ t ∷ []) from ≡ (t.end == from)
glued_is xs t from = ap (ends_at from) (last_is xs t)

glue_again : (s : Stand) (t u v : Token) (at place : ℕ) (gap : List ℕ) (h : Bool) → NumberStands s t.kind → t.end ≡ at → v.end ≡ place → u.start ≡ at + size_of gap → u.glued ≡ (t.end == u.start) → h ≡ (v.end == place + size_of (gap_of s t u gap))
    → is_number_next s.next ≡ true → is_less u.kind ≡ true → h ≡ u.glued
glue_again s t u v at place gap h stands end ends begin glued new number less = by_glue (t.end == u.start) refl
  where
    spaced : is_spaced s t.kind (stand_of s u) u.kind ≡ (not (false || u.glued) || false)
    spaced = λ i. not ((stands number).0 i || after_number s.next s.within u.glued u.kind number less i) || ((stands number).1 u.kind ∙ less_unlettered u.kind less) i

    no_gap : u.glued ≡ true → gap ≡ [] → gap_of s t u gap ≡ []
    no_gap on none =
        ap (inner_gap (is_spaced s t.kind (stand_of s u) u.kind) (stand_of s u).begins) none
        ∙ ap (λ b. cond b (32 ∷ []) []) (spaced ∙ ap (λ g. not (false || g) || false) on)

    apart : u.glued ≡ false → ((gap_of s t u gap ≡ []) × (is_spaced s t.kind (stand_of s u) u.kind ≡ false)) ⊎ BeginsBlank (gap_of s t u gap) → size_of (gap_of s t u gap) ≡ 0 → ⊥
    apart off (inl none) e = false≢true (sym none.1 ∙ spaced ∙ ap (λ g. not (false || g) || false) off)
    apart off (inr blank) e = blank_size (gap_of s t u gap) blank e

    no_glue : u.glued ≡ false → (b : Bool) → (v.end == place + size_of (gap_of s t u gap)) ≡ b → b ≡ false
    no_glue off true e =
        let same = eqb-true v.end (place + size_of (gap_of s t u gap)) e in
        absurd (apart off (inner_form (is_spaced s t.kind (stand_of s u) u.kind) (stand_of s u).begins gap) (omega (arith, same, ends)))
    no_glue off false e = refl

    by_glue : (b : Bool) → (t.end == u.start) ≡ b → h ≡ u.glued
    by_glue true e =
        let same = eqb-true t.end u.start e in
        let none : gap ≡ [] = size_none gap (omega (arith, same, end, begin)) in
        let size : size_of (gap_of s t u gap) ≡ 0 = ap size_of (no_gap (glued ∙ e) none) in
        new ∙ eq-eqb v.end (place + size_of (gap_of s t u gap)) (omega (arith, ends, size)) ∙ sym (glued ∙ e)
    by_glue false e = new ∙ no_glue (glued ∙ e) (v.end == place + size_of (gap_of s t u gap)) refl ∙ sym (glued ∙ e)

-- ---- what follows a token

rest_again : (ts xs : List Token) (at : ℕ) (cs : List ℕ) (s : Stand) (t : Token) (l : Lexes (xs ++ t ∷ []) at cs ts) (ys : List Token) (v : Token) (place : ℕ) (same : kinds (xs ++ t ∷ []) ≡ kinds (ys ++ v ∷ [])) → t.end ≡ at → v.end ≡ place → v.kind ≡ t.kind → NumberStands s t.kind
    → rest_of (tokens_of ts (xs ++ t ∷ []) at cs s t l (ys ++ v ∷ []) place) (ys ++ v ∷ []) place (rest_of ts (xs ++ t ∷ []) at cs s t l) s v (lexes_anew ts (xs ++ t ∷ []) at cs s t l (ys ++ v ∷ []) place same) ≡ rest_of ts (xs ++ t ∷ []) at cs s t l
rest_again [] xs at cs s t l ys v place same end ends kind stands = last_again cs l
rest_again (u ∷ us) xs at cs s t l ys v place same end ends kind stands =
    let before = xs ++ t ∷ [] in
    let others = ys ++ v ∷ [] in
    let n = l.1 in
    let gap = gap_of s t u n.gap in
    let lex = text_of n.lexeme in
    let w = moved u others (place + size_of gap) (size_of lex) in
    let more = rest_of us (before ++ u ∷ []) u.end l.0 (stand_of s u) u l.2 in
    let ws = tokens_of us (before ++ u ∷ []) u.end l.0 (stand_of s u) u l.2 (others ++ w ∷ []) w.end in
    let later = lexes_anew us (before ++ u ∷ []) u.end l.0 (stand_of s u) u l.2 (others ++ w ∷ []) w.end (kinds_more before others u w same refl) in
    let stand : stand_of s w ≡ stand_of s u =
    stand_same s.next s.within w.glued u.glued u.kind
    (λ number less. glue_again s t u v at place n.gap w.glued stands end ends n.start (n.glued ∙ glued_is xs t u.start) (glued_is ys v (place + size_of gap)) number less) in
    ap (λ k. inner_gap (is_spaced s k (stand_of s w) u.kind) (stand_of s w).begins gap ++ (lex ++ rest_of ws (others ++ w ∷ []) w.end more (stand_of s w) w later)) kind
    ∙ ap (λ (x : Stand). inner_gap (is_spaced s t.kind x u.kind) x.begins gap ++ (lex ++ rest_of ws (others ++ w ∷ []) w.end more x w later)) stand
    ∙ ap (λ xs. xs ++ (lex ++ rest_of ws (others ++ w ∷ []) w.end more (stand_of s u) w later)) (inner_again (is_spaced s t.kind (stand_of s u) u.kind) (stand_of s u).begins n.gap n.skipped)
    ∙ ap (λ xs. gap ++ (lex ++ xs)) (rest_again us before u.end l.0 (stand_of s u) u l.2 others w w.end (kinds_more before others u w same refl) refl refl refl (number_stands s.next s.within u.glued u.kind))

-- ---- the whole text

pub whole_again : (ts : List Token) (at : ℕ) (cs : List ℕ) (l : Lexes [] at cs ts) → whole_of (all_of ts at cs l) 0 (whole_of ts at cs l) (whole_lexes ts at cs l) ≡ whole_of ts at cs l
whole_again [] at cs l = only_again cs l
whole_again (t ∷ ts) at cs l =
    let n = l.1 in
    let lex = text_of n.lexeme in
    let gap = first_gap (stand_of start t).begins n.gap in
    let v = first_token t n.gap lex in
    let more = rest_of ts (t ∷ []) t.end l.0 (stand_of start t) t l.2 in
    let ws = tokens_of ts (t ∷ []) t.end l.0 (stand_of start t) t l.2 (v ∷ []) v.end in
    let later = lexes_anew ts (t ∷ []) t.end l.0 (stand_of start t) t l.2 (v ∷ []) v.end refl in
    let stand : stand_of start v ≡ stand_of start t = stand_same start.next start.within v.glued t.glued t.kind (λ number less. absurd (false≢true number)) in
    ap (λ (x : Stand). first_gap x.begins gap ++ (lex ++ rest_of ws (v ∷ []) v.end more x v later)) stand
    ∙ ap (λ xs. xs ++ (lex ++ rest_of ws (v ∷ []) v.end more (stand_of start t) v later)) (first_again (stand_of start t).begins n.gap n.skipped)
    ∙ ap (λ xs. gap ++ (lex ++ xs)) (rest_again ts [] t.end l.0 (stand_of start t) t l.2 [] v v.end refl refl refl refl (number_stands start.next start.within t.glued t.kind))

-- ---- the law

pub tidied_stays : TidiedStays
tidied_stays text tokens answer =
    let cs = chars text in
    let l = answer.1 in
    let out = laid_out text tokens answer.0 l in
    let made = whole_of tokens (body_place cs) (body cs) l in
    let others = all_of tokens (body_place cs) (body cs) l in (
      others,
      out.read,
      ap (λ at. tidied_from at (tidied text tokens) others) out.place
          ∙ whole_bytes others 0 made (whole_lexes tokens (body_place cs) (body cs) l) (tidied text tokens) [] out.bytes refl
          ∙ ap encodes (whole_again tokens (body_place cs) (body cs) l) ∙ sym out.bytes,
    )
