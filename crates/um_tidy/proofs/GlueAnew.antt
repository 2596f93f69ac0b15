-- What stands directly after a token in a text laid out anew.
use Rattle.std.proofs.Common.{◌≡◌, refl, sym, ap, ◌∙◌, ℕ, ◌+◌, Bool, true, false, cond, ◌==◌, List, [], ◌∷◌, ◌++◌, ◌⊎◌, inl, inr, arith}
use Rattle.std.proofs.lemmas.Bool.{false≢true, eqb-true, eq-eqb}
use Rattle.um_syntax.specs.declared.token.Token.{Token}
use Rattle.um_syntax.specs.Lexeme.{text_of}
use Rattle.um_syntax.specs.Lexing.{size_of, Lexes}
use Rattle.um_tidy.specs.declared.stand.Stand.{Stand}
use Rattle.um_tidy.specs.Stands.{start, stand_of}
use Rattle.um_tidy.specs.Spaces.{is_spaced}
use Rattle.um_tidy.specs.Gaps.{inner_gap}
use Rattle.um_tidy.specs.Laws.{kinds}
use Rattle.um_tidy.proofs.GapLines.{BeginsBlank, inner_form}
use Rattle.um_tidy.proofs.Anew.{kinds_more, gap_of, moved, tokens_of}
use Rattle.um_tidy.proofs.TokensAnew.{first_token, all_of}
use Rattle.um_tidy.proofs.TidiedAgain.{size_none, blank_size, glued_is}

-- A token of the text laid out anew is of the same kind. It stands directly after the token before it if it stood so and
-- the table has no space there. It doesn't if it didn't and the table has one.
pub record GlueStays (s : Stand) (t u v : Token) : Type 0 where
  pub kind : v.kind ≡ u.kind
  pub joined : u.glued ≡ true → is_spaced s t.kind (stand_of s u) u.kind ≡ false → v.glued ≡ true
  pub parted : u.glued ≡ false → is_spaced s t.kind (stand_of s u) u.kind ≡ true → v.glued ≡ false

-- the same of all that follow a token
pub record NextStays (s : Stand) (t u : Token) (vs : List Token) (later : Stand → Token → List Token → Type 0) : Type 0 where
  pub token : Token
  pub rest : List Token
  pub first : vs ≡ token ∷ rest
  pub stays : GlueStays s t u token
  pub others : later (stand_of s u) u rest

abbrev pub AllStay : List Token → Stand → Token → List Token → Type 0
AllStay [] s t vs = vs ≡ []
AllStay (u ∷ us) s t vs = NextStays s t u vs (AllStay us)

-- ---- one gap

joined_again : (s : Stand) (t u v : Token) (at place : ℕ) (gap : List ℕ) (h : Bool) → t.end ≡ at → v.end ≡ place → u.start ≡ at + size_of gap → u.glued ≡ (t.end == u.start) → h ≡ (v.end == place + size_of (gap_of s t u gap))
    → u.glued ≡ true → is_spaced s t.kind (stand_of s u) u.kind ≡ false → h ≡ true
joined_again s t u v at place gap h end ends begin glued new on unspaced =
    let same = eqb-true t.end u.start (sym glued ∙ on) in
    let none : gap ≡ [] = size_none gap (omega (arith, same, end, begin)) in
    let empty : gap_of s t u gap ≡ [] = ap (inner_gap (is_spaced s t.kind (stand_of s u) u.kind) (stand_of s u).begins) none ∙ ap (λ b. cond b (32 ∷ []) []) unspaced in
    let size : size_of (gap_of s t u gap) ≡ 0 = ap size_of empty in
    new ∙ eq-eqb v.end (place + size_of (gap_of s t u gap)) (omega (arith, ends, size))

parted_again : (s : Stand) (t u v : Token) (place : ℕ) (gap : List ℕ) (h : Bool) → v.end ≡ place → h ≡ (v.end == place + size_of (gap_of s t u gap)) → is_spaced s t.kind (stand_of s u) u.kind ≡ true → h ≡ false
parted_again s t u v place gap h ends new spaced = new ∙ by_test (v.end == place + size_of (gap_of s t u gap)) refl
  where
    none : ((gap_of s t u gap ≡ []) × (is_spaced s t.kind (stand_of s u) u.kind ≡ false)) ⊎ BeginsBlank (gap_of s t u gap) → size_of (gap_of s t u gap) ≡ 0 → ⊥
    none (inl f) e = false≢true (sym f.1 ∙ spaced)
    none (inr blank) e = blank_size (gap_of s t u gap) blank e

    by_test : (b : Bool) → (v.end == place + size_of (gap_of s t u gap)) ≡ b → b ≡ false
    by_test true e =
        let same = eqb-true v.end (place + size_of (gap_of s t u gap)) e in
        absurd (none (inner_form (is_spaced s t.kind (stand_of s u) u.kind) (stand_of s u).begins gap) (omega (arith, same, ends)))
    by_test false e = refl

-- ---- all

all_stay : (ts xs : List Token) (at : ℕ) (cs : List ℕ) (s : Stand) (t : Token) (l : Lexes (xs ++ t ∷ []) at cs ts) (ys : List Token) (v : Token) (place : ℕ) → kinds (xs ++ t ∷ []) ≡ kinds (ys ++ v ∷ []) → t.end ≡ at → v.end ≡ place
    → AllStay ts s t (tokens_of ts (xs ++ t ∷ []) at cs s t l (ys ++ v ∷ []) place)
all_stay [] xs at cs s t l ys v place same end ends = refl
all_stay (u ∷ us) xs at cs s t l ys v place same end ends =
    let before = xs ++ t ∷ [] in
    let others = ys ++ v ∷ [] in
    let n = l.1 in
    let gap = gap_of s t u n.gap in
    let w = moved u others (place + size_of gap) (size_of (text_of n.lexeme)) in
    let old = n.glued ∙ glued_is xs t u.start in
    let new = glued_is ys v (place + size_of gap) in
    record {
      token = w;
      rest = tokens_of us (before ++ u ∷ []) u.end l.0 (stand_of s u) u l.2 (others ++ w ∷ []) w.end;
      first = refl;
      stays = record {
        kind = refl;
        joined = joined_again s t u v at place n.gap w.glued end ends n.start old new;
        parted = λ off spaced. parted_again s t u v place n.gap w.glued ends new spaced;
      };
      others = all_stay us before u.end l.0 (stand_of s u) u l.2 others w w.end (kinds_more before others u w same refl) refl refl;
    }

-- the same from the first token on
abbrev pub FirstStays : List Token → List Token → Type 0
FirstStays [] vs = vs ≡ []
FirstStays (t ∷ ts) vs = (v : Token) × (rest : List Token) × (vs ≡ v ∷ rest) × (v.kind ≡ t.kind) × AllStay ts (stand_of start t) t rest

pub whole_stays : (ts : List Token) (at : ℕ) (cs : List ℕ) (l : Lexes [] at cs ts) → FirstStays ts (all_of ts at cs l)
whole_stays [] at cs l = refl
whole_stays (t ∷ ts) at cs l =
    let v = first_token t l.1.gap (text_of l.1.lexeme) in
    (v, tokens_of ts (t ∷ []) t.end l.0 (stand_of start t) t l.2 (v ∷ []) v.end, refl, refl, all_stay ts [] t.end l.0 (stand_of start t) t l.2 [] v v.end refl refl refl)
