-- The layout of a program is laid out as it stands.
use Rattle.std.proofs.Common.{◌≡◌, refl, sym, ap, ◌∙◌, subst, ℕ, ◌+◌, true, false, cond, not, ◌||◌, List, [], ◌∷◌, ◌++◌, length, append_assoc, length-append, arith}
use Rattle.std.proofs.Math.Seq.{drop-append_seam}
use Rattle.std.specs.Prelude.{drop, slice_range}
use Rattle.std.proofs.lemmas.Bool.{false≢true}
use Rattle.um_syntax.specs.declared.token.Token.{Token}
use Rattle.um_syntax.specs.declared.token.Kind.{Kind}
use Rattle.um_syntax.specs.declared.token.Kind.TheVariants as kind
use Rattle.um_tree.specs.RawTree.{DeclSyntax, base_syntax, short_syntax, record_decl_syntax, function_syntax}
use Rattle.um_show.specs.Pieces.{Piece, name, variable, number, digits, word, sign, hole, space, line_end, piece_text, text_of, attribute_open, type_word, let_word}
use Rattle.um_show.specs.Layout.{program_pieces, layout}
use Rattle.um_show.proofs.PieceTokens.{IsKind}
use Rattle.um_show.proofs.PlacedTokens.{IsPlaced, Placed}
use Rattle.um_show.proofs.Chain.{Place, fresh, after, may, Chain}
use Rattle.um_show.proofs.Opens.{is_token}
use Rattle.um_show.proofs.ReadBack.{layout_read}
use Rattle.um_tidy.specs.declared.stand.Stand.{Stand}
use Rattle.um_tidy.specs.Stands.{start, kind_stand, stand_of}
use Rattle.um_tidy.specs.Spaces.{runs_into, is_spaced}
use Rattle.um_tidy.specs.Gaps.{first_gap, inner_gap, last_gap, only_gap}
use Rattle.um_tidy.specs.Tidied.{spelling, tidied_after, tidied_from}
use Rattle.um_tidy.proofs.TokensAnew.{part_at}
use Rattle.um_tidy.specs.ProgramLaws.{LayoutIsTidy}
use Rattle.um_tidy.proofs.SpacedPieces.{Gap, joined, parted, ended, is_joined, settled, piece_stand, Stood, Spaced}
use Rattle.um_tidy.proofs.PiecesApart.{Apart, apart_after}
use Rattle.um_tidy.proofs.DeclsSpaced.{program_spaced}

abbrev gap_text : Gap → List ℕ
gap_text joined = []
gap_text parted = 32 ∷ []
gap_text ended = 10 ∷ []

-- ---- a gap stays

gap_same : (g : Gap) (s v : Stand) (k l : Kind) → Stood (settled s) g v → (g ≡ joined → runs_into k l ≡ false) → inner_gap (is_spaced s k v l) v.begins (gap_text g) ≡ gap_text g
gap_same joined s v k l stood runs =
    ap (λ b. cond (not b || runs_into k l) (32 ∷ []) []) stood ∙ ap (λ b. cond b (32 ∷ []) []) (runs refl)
gap_same parted s v k l stood runs = ap (λ b. cond (not b || runs_into k l) (32 ∷ []) []) stood
gap_same ended s v k l stood runs = ap (λ b. inner_gap (is_spaced s k v l) b (10 ∷ [])) stood

-- a token stands as its piece does
stand_is : (p : Piece) (s : Stand) (g : Gap) (u : Token) → is_token p ≡ true → IsKind p u.kind → u.glued ≡ is_joined g → stand_of s u ≡ piece_stand (settled s) g p
stand_is (name x) s g u t k e = ap (kind_stand s.next s.within u.glued) k
stand_is (variable x) s g u t k e = ap (kind_stand s.next s.within u.glued) k
stand_is (number c) s g u t k e = ap (kind_stand s.next s.within u.glued) k.2
stand_is (digits n) s g u t k e = ap (kind_stand s.next s.within u.glued) k.is
stand_is (word w) s g u t k e = ap (kind_stand s.next s.within u.glued) k
stand_is (sign w) s g u t k e = ap (kind_stand s.next s.within u.glued) k ∙ ap (λ b. kind_stand s.next s.within b (kind.Sign w)) e
stand_is hole s g u t k e = ap (kind_stand s.next s.within u.glued) k
stand_is space s g u t k e = absurd (false≢true t)
stand_is line_end s g u t k e = absurd (false≢true t)

-- ---- what follows a token

-- Pieces behind a token that stands so, with such a gap between them, are laid out as they stand.
abbrev StaysAfter : List Piece → Type 0
StaysAfter ps =
    (text front : List ℕ) (s : Stand) (t : Token) (g : Gap) (end : Stand) (place fin : Place) (tokens : List Token)
    → text ≡ front ++ (gap_text g ++ text_of ps) → length front ≡ t.end → Spaced (settled s) g ps end ended → Chain place ps fin → (g ≡ joined → Apart place t.kind)
    → Placed ps (is_joined g) (t.end + length (gap_text g)) tokens → tidied_after text s t tokens ≡ gap_text g ++ text_of ps

token_stays : (p : Piece) (ps : List Piece) → is_token p ≡ true → StaysAfter ps → (text front : List ℕ) (s : Stand) (t : Token) (g : Gap) (end : Stand) (place fin : Place) (tokens : List Token)
    → text ≡ front ++ (gap_text g ++ (piece_text p ++ text_of ps)) → length front ≡ t.end → Stood (settled s) g (piece_stand (settled s) g p) → Spaced (settled (piece_stand (settled s) g p)) joined ps end ended
    → may place p ≡ true → Chain (after p place) ps fin → (g ≡ joined → Apart place t.kind) → IsPlaced p (is_joined g) (t.end + length (gap_text g)) tokens (Placed ps true)
    → tidied_after text s t tokens ≡ gap_text g ++ (piece_text p ++ text_of ps)
token_stays p ps is later text front s t g end place fin tokens whole size stood spaced may chain apart i =
    let u = i.token in
    let gap = gap_text g in
    let x = piece_text p in
    let more = text_of ps in
    let v = piece_stand (settled s) g p in
    let same = stand_is p s g u is i.kind i.gap in
    let before : length (front ++ gap) ≡ u.start = length-append front gap ∙ ap (λ n. n + length gap) size ∙ sym i.start in
    let split : text ≡ (front ++ gap) ++ (x ++ more) = whole ∙ sym (append_assoc front gap (x ++ more)) in
    let all : text ≡ ((front ++ gap) ++ x) ++ more = split ∙ sym (append_assoc (front ++ gap) x more) in
    let long : u.end ≡ u.start + length x = i.end ∙ ap (λ n. n + length x) (sym i.start) in
    let behind : length ((front ++ gap) ++ x) ≡ u.end = length-append (front ++ gap) x ∙ ap (λ n. n + length x) before ∙ sym long in
    let between : slice_range text t.end u.start ≡ gap = part_at text front gap (x ++ more) t.end u.start whole size i.start in
    let spelled : spelling text u ≡ x = part_at text (front ++ gap) x more u.start u.end split before long in
    let placed : Placed ps true (u.end + 0) i.rest = subst (λ n. Placed ps true n i.rest) (omega arith) i.others in
    let rest : tidied_after text (stand_of s u) u i.rest ≡ more =
    later text ((front ++ gap) ++ x) (stand_of s u) u joined end (after p place) fin i.rest all behind (subst (λ (z : Stand). Spaced (settled z) joined ps end ended) (sym same) spaced) chain (λ e. apart_after p place u.kind is i.kind) placed in
    let kept : inner_gap (is_spaced s t.kind (stand_of s u) u.kind) (stand_of s u).begins gap ≡ gap =
    gap_same g s (stand_of s u) t.kind u.kind (subst (λ (z : Stand). Stood (settled s) g z) (sym same) stood) (λ e. apart e p u.kind is may i.kind) in
    ap (λ ts. tidied_after text s t ts) i.first
    ∙ ap (λ xs. inner_gap (is_spaced s t.kind (stand_of s u) u.kind) (stand_of s u).begins xs ++ (spelling text u ++ tidied_after text (stand_of s u) u i.rest)) between
    ∙ ap (λ xs. xs ++ (spelling text u ++ tidied_after text (stand_of s u) u i.rest)) kept
    ∙ (λ j. gap ++ (spelled j ++ rest j))

parted_not : parted ≡ joined → ⊥
parted_not e = cc

ended_not : ended ≡ joined → ⊥
ended_not e = cc

joined_not : joined ≡ ended → ⊥
joined_not e = cc

parted_end : parted ≡ ended → ⊥
parted_end e = cc

pub stays_after : (ps : List Piece) → StaysAfter ps
stays_after [] text front s t joined end place fin tokens whole size spaced chain apart placed = absurd (joined_not spaced.1)
stays_after [] text front s t parted end place fin tokens whole size spaced chain apart placed = absurd (parted_end spaced.1)
stays_after [] text front s t ended end place fin tokens whole size spaced chain apart placed =
    let rest : drop t.end text ≡ 10 ∷ [] = ap (drop t.end) whole ∙ ap (λ n. drop n (front ++ 10 ∷ [])) (sym size) ∙ drop-append_seam front (10 ∷ []) in
    ap (tidied_after text s t) placed ∙ ap last_gap rest
stays_after (name x ∷ ps) text front s t g end place fin tokens whole size spaced chain apart placed =
    token_stays (name x) ps refl (stays_after ps) text front s t g end place fin tokens whole size spaced.0 spaced.1 chain.1 chain.2 apart placed
stays_after (variable x ∷ ps) text front s t g end place fin tokens whole size spaced chain apart placed =
    token_stays (variable x) ps refl (stays_after ps) text front s t g end place fin tokens whole size spaced.0 spaced.1 chain.1 chain.2 apart placed
stays_after (number c ∷ ps) text front s t g end place fin tokens whole size spaced chain apart placed =
    token_stays (number c) ps refl (stays_after ps) text front s t g end place fin tokens whole size spaced.0 spaced.1 chain.1 chain.2 apart placed
stays_after (digits n ∷ ps) text front s t g end place fin tokens whole size spaced chain apart placed =
    token_stays (digits n) ps refl (stays_after ps) text front s t g end place fin tokens whole size spaced.0 spaced.1 chain.1 chain.2 apart placed
stays_after (word k ∷ ps) text front s t g end place fin tokens whole size spaced chain apart placed =
    token_stays (word k) ps refl (stays_after ps) text front s t g end place fin tokens whole size spaced.0 spaced.1 chain.1 chain.2 apart placed
stays_after (sign k ∷ ps) text front s t g end place fin tokens whole size spaced chain apart placed =
    token_stays (sign k) ps refl (stays_after ps) text front s t g end place fin tokens whole size spaced.0 spaced.1 chain.1 chain.2 apart placed
stays_after (hole ∷ ps) text front s t g end place fin tokens whole size spaced chain apart placed =
    token_stays hole ps refl (stays_after ps) text front s t g end place fin tokens whole size spaced.0 spaced.1 chain.1 chain.2 apart placed
stays_after (space ∷ ps) text front s t joined end place fin tokens whole size spaced chain apart placed =
    stays_after ps text front s t parted end (fresh false false) fin tokens whole size spaced.1 chain.2 (λ e. absurd (parted_not e)) (subst (λ n. Placed ps false n tokens) (omega arith) placed)
stays_after (space ∷ ps) text front s t parted end place fin tokens whole size spaced chain apart placed = absurd (parted_not spaced.0)
stays_after (space ∷ ps) text front s t ended end place fin tokens whole size spaced chain apart placed = absurd (ended_not spaced.0)
stays_after (line_end ∷ ps) text front s t joined end place fin tokens whole size spaced chain apart placed =
    stays_after ps text front s t ended end (fresh false false) fin tokens whole size spaced.1 chain.2 (λ e. absurd (ended_not e)) (subst (λ n. Placed ps false n tokens) (omega arith) placed)
stays_after (line_end ∷ ps) text front s t parted end place fin tokens whole size spaced chain apart placed = absurd (parted_not spaced.0)
stays_after (line_end ∷ ps) text front s t ended end place fin tokens whole size spaced chain apart placed = absurd (ended_not spaced.0)

-- ---- the whole text

abbrev tail : List Piece → List Piece
tail [] = []
tail (p ∷ ps) = ps

-- the first token of a text begins a declaration
first_stays : (p : Piece) (ps : List Piece) → is_token p ≡ true → (text : List ℕ) (end : Stand) (place fin : Place) (tokens : List Token) → text ≡ piece_text p ++ text_of ps → Stood start ended (piece_stand start ended p)
    → Spaced (settled (piece_stand start ended p)) joined ps end ended → Chain (after p place) ps fin → IsPlaced p false 0 tokens (Placed ps true) → tidied_from 0 text tokens ≡ piece_text p ++ text_of ps
first_stays p ps is text end place fin tokens whole stood spaced chain i =
    let u = i.token in
    let x = piece_text p in
    let more = text_of ps in
    let same = stand_is p start ended u is i.kind i.gap in
    let long : u.end ≡ u.start + length x = i.end ∙ ap (λ n. n + length x) (sym i.start) in
    let between : slice_range text 0 u.start ≡ [] = part_at text [] [] (x ++ more) 0 u.start whole refl i.start in
    let spelled : spelling text u ≡ x = part_at text [] x more u.start u.end whole (sym i.start) long in
    let placed : Placed ps true (u.end + 0) i.rest = subst (λ n. Placed ps true n i.rest) (omega arith) i.others in
    let size : length x ≡ u.end = omega (arith, i.end) in
    let rest : tidied_after text (stand_of start u) u i.rest ≡ more =
    stays_after ps text x (stand_of start u) u joined end (after p place) fin i.rest whole size (subst (λ (z : Stand). Spaced (settled z) joined ps end ended) (sym same) spaced) chain (λ e. apart_after p place u.kind is i.kind) placed in
    ap (λ ts. tidied_from 0 text ts) i.first
    ∙ ap (λ xs. first_gap (stand_of start u).begins xs ++ (spelling text u ++ tidied_after text (stand_of start u) u i.rest)) between
    ∙ ap (λ (z : Stand). first_gap z.begins [] ++ (spelling text u ++ tidied_after text (stand_of start u) u i.rest)) same
    ∙ ap (λ b. first_gap b [] ++ (spelling text u ++ tidied_after text (stand_of start u) u i.rest)) stood
    ∙ (λ j. spelled j ++ rest j)

-- a layout begins with a word or a sign
all_stay : (ds : List DeclSyntax) (text : List ℕ) (end : Stand) (place fin : Place) (tokens : List Token) → text ≡ layout ds → Spaced start ended (program_pieces ds) end ended → Chain place (program_pieces ds) fin → Placed (program_pieces ds) false 0 tokens → tidied_from 0 text tokens ≡ layout ds
all_stay [] text end place fin tokens whole spaced chain placed = ap (tidied_from 0 text) placed ∙ ap only_gap whole
all_stay (base_syntax at x ∷ ds) text end place fin tokens whole spaced chain placed =
    first_stays attribute_open (tail (program_pieces (base_syntax at x ∷ ds))) refl text end place fin tokens whole spaced.0 spaced.1 chain.2 placed
all_stay (short_syntax at x u ∷ ds) text end place fin tokens whole spaced chain placed =
    first_stays attribute_open (tail (program_pieces (short_syntax at x u ∷ ds))) refl text end place fin tokens whole spaced.0 spaced.1 chain.2 placed
all_stay (record_decl_syntax at x vs fs ∷ ds) text end place fin tokens whole spaced chain placed =
    first_stays type_word (tail (program_pieces (record_decl_syntax at x vs fs ∷ ds))) refl text end place fin tokens whole spaced.0 spaced.1 chain.2 placed
all_stay (function_syntax f ∷ ds) text end place fin tokens whole spaced chain placed =
    first_stays let_word (tail (program_pieces (function_syntax f ∷ ds))) refl text end place fin tokens whole spaced.0 spaced.1 chain.2 placed

pub layout_is_tidy : LayoutIsTidy
layout_is_tidy text tokens ds answer program =
    let r = layout_read text tokens ds answer program in
    let s = program_spaced tokens ds program in
    let others = r.begun.tokens in (
      others,
      r.read,
      ap (λ n. tidied_from n (layout ds) others) r.place ∙ all_stay ds (layout ds) s.0 (fresh false false) (fresh false false) others refl s.1 r.chain r.begun.placed,
    )
