-- A text with fewer spaces in runs of spaces: its tokens end where they did.
use Rattle.std.proofs.Common.{◌≡◌, ℕ, Bool, true, false, ◌||◌, ◌&&◌, cond, eqb, ◌⊎◌, inl, inr, List, [], ◌∷◌, ◌++◌, Some, refl, sym, ap, subst, ◌∙◌, lit<}
use Rattle.std.proofs.lemmas.Bool.{false≢true, eqb-true}
use Rattle.std.specs.Char.{is_ascii_digit}
use Rattle.unicode_ident.specs.Ident.{is_xid_continue}
use Rattle.unicode_ident.proofs.IdentLemmas.{is_xid_continue-ascii}
use Rattle.um_syntax.specs.declared.token.Kind.{Kind}
use Rattle.um_syntax.specs.declared.token.Kind.TheVariants as kind_is
use Rattle.um_vocabulary.specs.declared.vocabulary.Symbol.{Symbol}
use Rattle.um_vocabulary.specs.declared.vocabulary.Symbol.TheVariants as symbol
use Rattle.um_vocabulary.specs.Vocabulary.{symbol_text}
use Rattle.um_syntax.specs.Numeral.{Numeral, Whole, Decimal, Ratio}
use Rattle.um_syntax.specs.Lexeme.{Lexeme, Name, Var, Number, Word, Hole, Sign, Ends, IsAlone, SignEnds, LeavesLetter, NumeralEnds, begins, begins_part, kind_of}
use Rattle.um_unit_texts.specs.UnitTokens.{unit_token}
use Rattle.um_show.proofs.Chain.{full, Clear}
use Rattle.um_show.proofs.SignRoles.{sign_stops}
use Rattle.um_show.proofs.Beginnings.{numeral_ends}
use Rattle.um_display.specs.UnitWords.{one_space_each}
use Rattle.um_all_answers.proofs.Spaces.{is_blank, NoSpaces}
use Rattle.um_all_answers.proofs.UnitEdges.{may_end}

-- a space may be left out before another
abbrev pub Loose : List ℕ → List ℕ → Type 0
Loose [] ds = ds ≡ []
Loose (c ∷ cs) ds = ((es : List ℕ) × (ds ≡ c ∷ es) × Loose cs es) ⊎ ((is_blank c ≡ true) × (begins is_blank cs ≡ true) × Loose cs ds)

pub loose_one : (cs : List ℕ) → Loose cs (one_space_each cs)
loose_one [] = refl
loose_one (b ∷ []) = inl ([], refl, refl)
loose_one (b ∷ c ∷ cs) = by (is_blank b) (is_blank c) refl refl (loose_one (c ∷ cs)) where
  by : (s t : Bool) → is_blank b ≡ s → is_blank c ≡ t → Loose (c ∷ cs) (one_space_each (c ∷ cs)) → Loose (b ∷ c ∷ cs) (cond (s && t) (one_space_each (c ∷ cs)) (b ∷ one_space_each (c ∷ cs)))
  by true true e f l = inr (e, f, l)
  by true false e f l = inl (one_space_each (c ∷ cs), refl, l)
  by false t e f l = inl (one_space_each (c ∷ cs), refl, l)

-- the text of a token stays
pub loose_text : (t more ds : List ℕ) → NoSpaces t → Loose (t ++ more) ds → (es : List ℕ) × (ds ≡ t ++ es) × Loose more es
loose_text [] more ds h l = (ds, refl, l)
loose_text (c ∷ t) more ds h (inl (es, is, l)) =
    let rest = loose_text t more es h.1 l in
    (rest.0, is ∙ ap (λ w. c ∷ w) rest.1, rest.2)
loose_text (c ∷ t) more ds h (inr (e, f, l)) = absurd (false≢true (sym h.0 ∙ e))

abbrev pub AllSpaces : List ℕ → Type 0
AllSpaces [] = Unit {0}
AllSpaces (c ∷ cs) = (is_blank c ≡ true) × AllSpaces cs

-- spaces stay spaces
pub loose_spaces : (g more ds : List ℕ) → AllSpaces g → Loose (g ++ more) ds → (h es : List ℕ) × AllSpaces h × (ds ≡ h ++ es) × Loose more es
loose_spaces [] more ds s l = ([], ds, tt, refl, l)
loose_spaces (c ∷ g) more ds s (inl (es, is, l)) =
    let (h, rest, spaces, cut, loose) = loose_spaces g more es s.1 l in
    (c ∷ h, rest, (s.0, spaces), is ∙ ap (λ w. c ∷ w) cut, loose)
loose_spaces (c ∷ g) more ds s (inr (e, f, l)) = loose_spaces g more ds s.1 l

-- ---- the first characters

pub loose_head : (c : ℕ) (cs es : List ℕ) → Loose (c ∷ cs) es → (rest : List ℕ) × (es ≡ c ∷ rest)
loose_head c cs es (inl (rest, is, l)) = (rest, is)
loose_head c [] es (inr (e, f, l)) = absurd (false≢true f)
loose_head c (d ∷ cs) es (inr (e, f, l)) =
    let (rest, is) = loose_head d cs es l in
    let same : d ≡ c = eqb-true d 32 f ∙ sym (eqb-true c 32 e) in
    (rest, is ∙ ap (λ (x : ℕ). x ∷ rest) same)

begins_loose : (test : ℕ → Bool) (more es tail : List ℕ) → Loose more es → begins test more ≡ false → begins test tail ≡ false → begins test (es ++ tail) ≡ false
begins_loose test [] es tail l e f = ap (λ w. begins test (w ++ tail)) l ∙ f
begins_loose test (c ∷ cs) es tail l e f = let (rest, is) = loose_head c cs es l in ap (λ w. begins test (w ++ tail)) is ∙ e

-- what follows a character that is no space follows it still
loose_behind : (c : ℕ) (cs es : List ℕ) → is_blank c ≡ false → Loose (c ∷ cs) es → (rest : List ℕ) × (es ≡ c ∷ rest) × Loose cs rest
loose_behind c cs es none (inl h) = h
loose_behind c cs es none (inr (e, f, l)) = absurd (false≢true (sym none ∙ e))

pub no_blank_from : (test : ℕ → Bool) (c : ℕ) → test 32 ≡ false → test c ≡ true → is_blank c ≡ false
no_blank_from test c none e = go (is_blank c) refl where
  go : (b : Bool) → is_blank c ≡ b → is_blank c ≡ false
  go true is = absurd (false≢true (sym none ∙ ap test (sym (eqb-true c 32 is)) ∙ e))
  go false is = is

no_digit : (tail : List ℕ) → Clear full tail → begins is_ascii_digit tail ≡ false
no_digit tail clear = numeral_ends (Decimal [] []) tail clear

abbrev is_mark : ℕ → Bool
is_mark c = eqb c 46 || eqb c 114

part_loose : (more es tail : List ℕ) → Loose more es → begins_part more ≡ false → Clear full tail → begins_part (es ++ tail) ≡ false
part_loose [] es tail l e clear = ap (λ w. begins_part (w ++ tail)) l ∙ clear.1
part_loose (c ∷ cs) es tail l e clear = by (is_mark c) refl where
  by : (b : Bool) → is_mark c ≡ b → begins_part (es ++ tail) ≡ false
  by false none = let (rest, is) = loose_head c cs es l in ap (λ w. begins_part (w ++ tail)) is ∙ ap (λ b. b && begins is_ascii_digit (rest ++ tail)) none
  by true mark =
      let (rest, is, loose) = loose_behind c cs es (no_blank_from is_mark c refl mark) l in
      let none : begins is_ascii_digit cs ≡ false = ap (λ b. b && begins is_ascii_digit cs) (sym mark) ∙ e in
      ap (λ w. begins_part (w ++ tail)) is ∙ ap (λ b. b && begins is_ascii_digit (rest ++ tail)) mark
      ∙ begins_loose is_ascii_digit cs rest tail loose none (no_digit tail clear)

no_letter : is_xid_continue 32 ≡ false
no_letter = is_xid_continue-ascii 32 (lit< tt)

sign_loose : (text : List ℕ) (c : ℕ) (cs es tail : List ℕ) → Loose (c ∷ cs) es → SignEnds text (c ∷ cs) → SignEnds text (es ++ tail)
sign_loose text c cs es tail l e = let (rest, is) = loose_head c cs es l in subst (λ w. SignEnds text (w ++ tail)) (sym is) e

-- ---- where a token ends

-- the last token of a unit text
last_ends : (lexeme : Lexeme) (power : Bool) (k : Kind) (tail : List ℕ) → kind_of power lexeme ≡ Some k → may_end (unit_token k) ≡ true → Clear full tail → Ends lexeme tail
last_ends (Name text) power k tail e m clear = clear.0
last_ends (Var name) power k tail e m clear = inl clear.0
last_ends (Number numeral) power k tail e m clear = numeral_ends numeral tail clear
last_ends (Word w) power k tail e m clear = clear.0
last_ends Hole power k tail e m clear = clear.0
last_ends (Sign s) power k tail e m clear = by s (let is : kind_is.Sign s ≡ k = cc e in ap (λ (x : Kind). may_end (unit_token x)) is ∙ m) where
  by : (s : Symbol) → may_end (unit_token (kind_is.Sign s)) ≡ true → SignEnds (symbol_text s) tail
  by symbol.RightParen t = sign_stops symbol.RightParen full tail clear
  by _ t = absurd (false≢true t)

-- a number before others
number_inner : (n : Numeral) (c : ℕ) (cs es tail : List ℕ) → Loose (c ∷ cs) es → NumeralEnds n (c ∷ cs) → Clear full tail → NumeralEnds n (es ++ tail)
number_inner (Whole digits) c cs es tail l e clear =
    (begins_loose is_ascii_digit (c ∷ cs) es tail l e.0 (no_digit tail clear), part_loose (c ∷ cs) es tail l e.1 clear)
number_inner (Decimal whole part) c cs es tail l e clear = begins_loose is_ascii_digit (c ∷ cs) es tail l e (no_digit tail clear)
number_inner (Ratio above below) c cs es tail l e clear = begins_loose is_ascii_digit (c ∷ cs) es tail l e (no_digit tail clear)

-- a token before others
inner_ends : (lexeme : Lexeme) (c : ℕ) (cs es tail : List ℕ) → Loose (c ∷ cs) es → Ends lexeme (c ∷ cs) → IsAlone lexeme (c ∷ cs) → Clear full tail → Ends lexeme (es ++ tail)
inner_ends (Name text) c cs es tail l e alone clear = begins_loose is_xid_continue (c ∷ cs) es tail l e clear.0
inner_ends (Var name) c cs es tail l (inl e) alone clear = inl (begins_loose is_xid_continue (c ∷ cs) es tail l e clear.0)
inner_ends (Var name) c cs es tail l (inr (letter, word, stops)) alone clear =
    let (rest, is, loose) = loose_behind c cs es (no_blank_from is_xid_continue c no_letter letter) l in
    inr (subst (λ w. LeavesLetter name (w ++ tail)) (sym is) (letter, word, begins_loose is_xid_continue cs rest tail loose stops clear.0))
inner_ends (Number numeral) c cs es tail l e alone clear = number_inner numeral c cs es tail l e clear
inner_ends (Word k) c cs es tail l e alone clear = begins_loose is_xid_continue (c ∷ cs) es tail l e clear.0
inner_ends Hole c cs es tail l e alone clear = begins_loose is_xid_continue (c ∷ cs) es tail l e clear.0
inner_ends (Sign k) c cs es tail l e alone clear = sign_loose (symbol_text k) c cs es tail l e

inner_alone : (lexeme : Lexeme) (c : ℕ) (cs es tail : List ℕ) → Loose (c ∷ cs) es → IsAlone lexeme (c ∷ cs) → Clear full tail → IsAlone lexeme (es ++ tail)
inner_alone (Number numeral) c cs es tail l e clear = begins_loose is_xid_continue (c ∷ cs) es tail l e clear.0
inner_alone (Name text) c cs es tail l e clear = tt
inner_alone (Var name) c cs es tail l e clear = tt
inner_alone (Word k) c cs es tail l e clear = tt
inner_alone Hole c cs es tail l e clear = tt
inner_alone (Sign k) c cs es tail l e clear = tt

last_alone : (lexeme : Lexeme) (tail : List ℕ) → Clear full tail → IsAlone lexeme tail
last_alone (Number numeral) tail clear = clear.0
last_alone (Name text) tail clear = tt
last_alone (Var name) tail clear = tt
last_alone (Word k) tail clear = tt
last_alone Hole tail clear = tt
last_alone (Sign k) tail clear = tt

-- a token ends there: before other characters, or at the end of a unit text if it may be the last of one
pub ends_loose : (lexeme : Lexeme) (power : Bool) (k : Kind) (more es tail : List ℕ) → kind_of power lexeme ≡ Some k → (more ≡ [] → may_end (unit_token k) ≡ true)
    → Loose more es → Ends lexeme more → IsAlone lexeme more → Clear full tail → Ends lexeme (es ++ tail) × IsAlone lexeme (es ++ tail)
ends_loose lexeme power k [] es tail is last l e alone clear = (
  subst (λ w. Ends lexeme (w ++ tail)) (sym l) (last_ends lexeme power k tail is (last refl) clear),
  subst (λ w. IsAlone lexeme (w ++ tail)) (sym l) (last_alone lexeme tail clear),
)
ends_loose lexeme power k (c ∷ cs) es tail is last l e alone clear =
    (inner_ends lexeme c cs es tail l e alone clear, inner_alone lexeme c cs es tail l alone clear)
