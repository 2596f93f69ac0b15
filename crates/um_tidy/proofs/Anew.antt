-- The tokens of a text laid out anew, one after another.
use Rattle.std.proofs.Common.{◌≡◌, refl, sym, ap, ◌∙◌, subst, ℕ, ◌+◌, ◌-◌, Bool, true, false, not, ◌==◌, ◌||◌, ◌&&◌, List, [], ◌∷◌, ◌++◌, length, Option, Some, None, option_map, slice_get, ◌⊎◌, inl, inr}
use Rattle.std.proofs.lemmas.Bool.{eqb-true}
use Rattle.std.proofs.lemmas.List.{length-map, map-append}
use Rattle.std.proofs.lemmas.Option.{slice_get-map}
use Rattle.std.specs.Char.{is_ascii_digit}
use Rattle.um_syntax.specs.declared.token.Kind.{Kind}
use Rattle.um_syntax.specs.declared.token.Token.{Token}
use Rattle.um_vocabulary.specs.declared.vocabulary.Symbol.{Symbol}
use Rattle.um_syntax.specs.Gap.{IsGap, closed}
use Rattle.um_syntax.specs.Lexeme.{Lexeme, Name, Var, Number, Word, Hole, Sign, text_of, begins, kind_of}
use Rattle.um_syntax.specs.Lexing.{size_of, is_glued, is_caret_kind, is_minus_kind, is_caret, is_minus, is_power_place, IsNext, Lexes}
use Rattle.um_syntax.proofs.Closing.{or_false}
use Rattle.um_tidy.specs.declared.stand.Stand.{Stand}
use Rattle.um_tidy.specs.Stands.{stand_of}
use Rattle.um_tidy.specs.Spaces.{is_dot, runs_into, is_spaced}
use Rattle.um_tidy.specs.Gaps.{inner_gap, last_gap}
use Rattle.um_tidy.specs.Laws.{kinds}
use Rattle.um_tidy.specs.Laws.{kind_of as token_kind}
use Rattle.um_tidy.proofs.Beside.{Stops, is_blank, stops_at_blank, lexeme_runs, PointStops, beside, after_point, runs_alike}
use Rattle.um_tidy.proofs.GapLines.{inner_is_gap, last_is_gap, BeginsBlank, last_begins, inner_form}

-- ---- powers stand where they stood

abbrev caret_of : Option Kind → Bool
caret_of None = false
caret_of (Some k) = is_caret_kind k

abbrev minus_of : Option Kind → Bool
minus_of None = false
minus_of (Some k) = is_minus_kind k

caret_alike : (o : Option Token) → is_caret o ≡ caret_of (option_map token_kind o)
caret_alike None = refl
caret_alike (Some t) = refl

minus_alike : (o : Option Token) → is_minus o ≡ minus_of (option_map token_kind o)
minus_alike None = refl
minus_alike (Some t) = refl

abbrev power_of : List Kind → Bool
power_of ks = caret_of (slice_get ks (length ks - 1)) || (minus_of (slice_get ks (length ks - 1)) && caret_of (slice_get ks (length ks - 2)))

caret_at : (ts : List Token) (n : ℕ) → is_caret (slice_get ts (length ts - n)) ≡ caret_of (slice_get (kinds ts) (length (kinds ts) - n))
caret_at ts n =
    caret_alike (slice_get ts (length ts - n)) ∙ ap caret_of (sym (slice_get-map token_kind ts (length ts - n)))
    ∙ ap (λ k. caret_of (slice_get (kinds ts) (k - n))) (sym (length-map ts token_kind))

minus_at : (ts : List Token) (n : ℕ) → is_minus (slice_get ts (length ts - n)) ≡ minus_of (slice_get (kinds ts) (length (kinds ts) - n))
minus_at ts n =
    minus_alike (slice_get ts (length ts - n)) ∙ ap minus_of (sym (slice_get-map token_kind ts (length ts - n)))
    ∙ ap (λ k. minus_of (slice_get (kinds ts) (k - n))) (sym (length-map ts token_kind))

power_alike : (ts : List Token) → is_power_place ts ≡ power_of (kinds ts)
power_alike ts = λ i. caret_at ts 1 i || (minus_at ts 1 i && caret_at ts 2 i)

pub power_stays : (before others : List Token) → kinds before ≡ kinds others → is_power_place before ≡ is_power_place others
power_stays before others same = power_alike before ∙ ap power_of same ∙ sym (power_alike others)

pub kinds_more : (before others : List Token) (u v : Token) → kinds before ≡ kinds others → u.kind ≡ v.kind → kinds (before ++ u ∷ []) ≡ kinds (others ++ v ∷ [])
kinds_more before others u v same kind =
    map-append token_kind before (u ∷ []) ∙ (λ i. same i ++ kind i ∷ []) ∙ sym (map-append token_kind others (v ∷ []))

-- ---- what follows a token

-- the gap between two tokens, laid out anew
abbrev pub gap_of : Stand → Token → Token → List ℕ → List ℕ
gap_of s t u gap = inner_gap (is_spaced s t.kind (stand_of s u) u.kind) (stand_of s u).begins gap

abbrev pub rest_of : (ts before : List Token) (at : ℕ) (cs : List ℕ) → Stand → Token → Lexes before at cs ts → List ℕ
rest_of [] before at cs s t l = last_gap cs
rest_of (u ∷ us) before at cs s t l =
    gap_of s t u l.1.gap ++ (text_of l.1.lexeme ++ rest_of us (before ++ u ∷ []) u.end l.0 (stand_of s u) u l.2)

-- a token at its new place
abbrev pub moved : Token → List Token → ℕ → ℕ → Token
moved u others start size = record { kind = u.kind; start = start; end = start + size; glued = is_glued others start }

abbrev pub tokens_of : (ts before : List Token) (at : ℕ) (cs : List ℕ) (s : Stand) (t : Token) → Lexes before at cs ts → List Token → ℕ → List Token
tokens_of [] before at cs s t l others place = []
tokens_of (u ∷ us) before at cs s t l others place =
    moved u others (place + size_of (gap_of s t u l.1.gap)) (size_of (text_of l.1.lexeme))
    ∷ tokens_of us (before ++ u ∷ []) u.end l.0 (stand_of s u) u l.2
    (others ++ moved u others (place + size_of (gap_of s t u l.1.gap)) (size_of (text_of l.1.lexeme)) ∷ [])
    (place + size_of (gap_of s t u l.1.gap) + size_of (text_of l.1.lexeme))

pub same_kinds : (ts before : List Token) (at : ℕ) (cs : List ℕ) (s : Stand) (t : Token) (l : Lexes before at cs ts) (others : List Token) (place : ℕ) → kinds (tokens_of ts before at cs s t l others place) ≡ kinds ts
same_kinds [] before at cs s t l others place = refl
same_kinds (u ∷ us) before at cs s t l others place =
    ap (λ ks. u.kind ∷ ks) (same_kinds us (before ++ u ∷ []) u.end l.0 (stand_of s u) u l.2
    (others ++ moved u others (place + size_of (gap_of s t u l.1.gap)) (size_of (text_of l.1.lexeme)) ∷ [])
    (place + size_of (gap_of s t u l.1.gap) + size_of (text_of l.1.lexeme)))

-- ---- no token runs into the next

blank_no_digit : (c : ℕ) → is_blank c ≡ true → is_ascii_digit c ≡ false
blank_no_digit c e = by_test (c == 32) refl
  where
    by_test : (b : Bool) → (c == 32) ≡ b → is_ascii_digit c ≡ false
    by_test true t = ap is_ascii_digit (eqb-true c 32 t)
    by_test false t = ap is_ascii_digit (eqb-true c 10 (sym (ap (λ b. b || (c == 10)) t) ∙ e))

blank_stops : (lexeme : Lexeme) (xs more : List ℕ) → BeginsBlank xs → Stops lexeme (xs ++ more)
blank_stops lexeme xs more b = subst (λ ys. Stops lexeme (ys ++ more)) (sym b.is) (stops_at_blank lexeme b.first (b.others ++ more) b.blank)

digit_stops : (xs more : List ℕ) → BeginsBlank xs → begins is_ascii_digit (xs ++ more) ≡ false
digit_stops xs more b = subst (λ ys. begins is_ascii_digit (ys ++ more) ≡ false) (sym b.is) (blank_no_digit b.first b.blank)

append_none : (xs : List ℕ) → xs ++ [] ≡ xs
append_none [] = refl
append_none (x ∷ xs) = ap (λ l. x ∷ l) (append_none xs)

apart_runs : (p q : Bool) (u v : Lexeme) (k l : Kind) (b : Bool) → kind_of p u ≡ Some k → kind_of q v ≡ Some l → (b || runs_into k l) ≡ false → lexeme_runs u v ≡ false
apart_runs p q u v k l b is also unspaced = sym (runs_alike p q u v k l is also) ∙ (or_false b (runs_into k l) unspaced).1

-- no digit stands directly after a point
pub point_stops : (p : Bool) (k : Symbol) (u : Token) → kind_of p (Sign k) ≡ Some u.kind → is_dot k ≡ true → (ts before : List Token) (at : ℕ) (cs : List ℕ) (s : Stand) (l : Lexes before at cs ts) → begins is_ascii_digit (rest_of ts before at cs s u l) ≡ false
point_stops p k u is dot [] before at cs s l = subst (λ xs. begins is_ascii_digit xs ≡ false) (append_none (last_gap cs)) (digit_stops (last_gap cs) [] (last_begins cs))
point_stops p k u is dot (v ∷ vs) before at cs s l = by_form (inner_form (is_spaced s u.kind (stand_of s v) v.kind) (stand_of s v).begins l.1.gap)
  where
    more : List ℕ
    more = text_of l.1.lexeme ++ rest_of vs (before ++ v ∷ []) v.end l.0 (stand_of s v) v l.2

    by_form : ((gap_of s u v l.1.gap ≡ []) × (is_spaced s u.kind (stand_of s v) v.kind ≡ false)) ⊎ BeginsBlank (gap_of s u v l.1.gap) → begins is_ascii_digit (gap_of s u v l.1.gap ++ more) ≡ false
    by_form (inl none) =
        subst (λ xs. begins is_ascii_digit (xs ++ more) ≡ false) (sym none.0)
        (after_point k l.1.lexeme (rest_of vs (before ++ v ∷ []) v.end l.0 (stand_of s v) v l.2) dot l.1.fits
        (apart_runs p (is_power_place before) (Sign k) l.1.lexeme u.kind v.kind (not (s.before || (stand_of s v).after)) is l.1.kind none.1))
    by_form (inr blank) = digit_stops (gap_of s u v l.1.gap) more blank

point_rest : (p : Bool) (lexeme : Lexeme) (u : Token) → kind_of p lexeme ≡ Some u.kind → (ts before : List Token) (at : ℕ) (cs : List ℕ) (s : Stand) (l : Lexes before at cs ts) → PointStops lexeme (rest_of ts before at cs s u l)
point_rest p (Sign k) u is ts before at cs s l = λ dot. point_stops p k u is dot ts before at cs s l
point_rest p (Name text) u is ts before at cs s l = tt
point_rest p (Var name) u is ts before at cs s l = tt
point_rest p (Number n) u is ts before at cs s l = tt
point_rest p (Word k) u is ts before at cs s l = tt
point_rest p Hole u is ts before at cs s l = tt

-- the text of a token ends where it ended
pub stops_rest : (p : Bool) (lexeme : Lexeme) (u : Token) → kind_of p lexeme ≡ Some u.kind → (ts before : List Token) (at : ℕ) (cs : List ℕ) (s : Stand) (l : Lexes before at cs ts) → Stops lexeme (rest_of ts before at cs s u l)
stops_rest p lexeme u is [] before at cs s l = subst (Stops lexeme) (append_none (last_gap cs)) (blank_stops lexeme (last_gap cs) [] (last_begins cs))
stops_rest p lexeme u is (v ∷ vs) before at cs s l = by_form (inner_form (is_spaced s u.kind (stand_of s v) v.kind) (stand_of s v).begins l.1.gap)
  where
    after : List ℕ
    after = rest_of vs (before ++ v ∷ []) v.end l.0 (stand_of s v) v l.2

    by_form : ((gap_of s u v l.1.gap ≡ []) × (is_spaced s u.kind (stand_of s v) v.kind ≡ false)) ⊎ BeginsBlank (gap_of s u v l.1.gap) → Stops lexeme (gap_of s u v l.1.gap ++ (text_of l.1.lexeme ++ after))
    by_form (inl none) =
        subst (λ xs. Stops lexeme (xs ++ (text_of l.1.lexeme ++ after))) (sym none.0)
        (beside lexeme l.1.lexeme after l.1.fits
        (apart_runs p (is_power_place before) lexeme l.1.lexeme u.kind v.kind (not (s.before || (stand_of s v).after)) is l.1.kind none.1)
        (point_rest (is_power_place before) l.1.lexeme v l.1.kind vs (before ++ v ∷ []) v.end l.0 (stand_of s v) l.2))
    by_form (inr blank) = blank_stops lexeme (gap_of s u v l.1.gap) (text_of l.1.lexeme ++ after) blank

-- ---- the tokens

abbrev pub next_anew : (us before : List Token) (at : ℕ) (cs : List ℕ) (u : Token) (more : List ℕ) (n : IsNext before at cs u more) (s : Stand) (l : Lexes (before ++ u ∷ []) u.end more us) (others : List Token) (place : ℕ) (gap : List ℕ) → IsGap gap → kinds before ≡ kinds others
    → IsNext others place (gap ++ (text_of n.lexeme ++ rest_of us (before ++ u ∷ []) u.end more s u l)) (moved u others (place + size_of gap) (size_of (text_of n.lexeme))) (rest_of us (before ++ u ∷ []) u.end more s u l)
next_anew us before at cs u more n s l others place gap skipped same =
    let stops = stops_rest (is_power_place before) n.lexeme u n.kind us (before ++ u ∷ []) u.end more s l in
    record {
      gap = gap;
      lexeme = n.lexeme;
      cut = refl;
      skipped = skipped;
      fits = n.fits;
      longest = stops.ends;
      alone = stops.alone;
      kind = ap (λ b. kind_of b n.lexeme) (sym (power_stays before others same)) ∙ n.kind;
      start = refl;
      end = refl;
      glued = refl;
    }

abbrev pub lexes_anew : (ts before : List Token) (at : ℕ) (cs : List ℕ) (s : Stand) (t : Token) (l : Lexes before at cs ts) (others : List Token) (place : ℕ) → kinds before ≡ kinds others
    → Lexes others place (rest_of ts before at cs s t l) (tokens_of ts before at cs s t l others place)
lexes_anew [] before at cs s t l others place same = closed (last_is_gap cs l)
lexes_anew (u ∷ us) before at cs s t l others place same =
    let gap = gap_of s t u l.1.gap in
    let v = moved u others (place + size_of gap) (size_of (text_of l.1.lexeme)) in (
      rest_of us (before ++ u ∷ []) u.end l.0 (stand_of s u) u l.2,
      next_anew us before at cs u l.0 l.1 (stand_of s u) l.2 others place gap (inner_is_gap (is_spaced s t.kind (stand_of s u) u.kind) (stand_of s u).begins l.1.gap l.1.skipped) same,
      lexes_anew us (before ++ u ∷ []) u.end l.0 (stand_of s u) u l.2 (others ++ v ∷ []) v.end (kinds_more before others u v same refl),
    )
