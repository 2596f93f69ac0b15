-- A unit text as a word states it, with each run of spaces as one, in angle brackets: it has the same tokens, places
-- aside.
use Rattle.std.proofs.Common.{◌≡◌, ℕ, ◌+◌, ◌-◌, Bool, true, false, ◌==◌, ◌||◌, ◌&&◌, not, eqb, List, [], ◌∷◌, ◌++◌, append_assoc, length, refl, sym, ap, subst, ◌∙◌, lit<}
use Rattle.std.proofs.lemmas.Bool.{false≢true, eqb-true}
use Rattle.std.proofs.lemmas.List.{append-nil}
use Rattle.std.specs.List.{list_any, slice_get}
use Rattle.std.specs.Char.{is_ascii_digit}
use Rattle.unicode_ident.specs.Ident.{is_xid_continue}
use Rattle.unicode_ident.proofs.IdentLemmas.{is_xid_continue-ascii}
use Rattle.um_syntax.specs.declared.token.Token.{Token}
use Rattle.um_vocabulary.specs.declared.vocabulary.Keyword.{Keyword}
use Rattle.um_vocabulary.specs.declared.vocabulary.Symbol.{Symbol}
use Rattle.um_vocabulary.specs.declared.vocabulary.Symbol.TheVariants as symbol
use Rattle.um_vocabulary.specs.Vocabulary.{keyword_text, symbol_text}
use Rattle.um_syntax.specs.Gap.{is_space, IsGap, IsLastGap, nothing, space, comment, closed, unclosed}
use Rattle.um_syntax.specs.Numeral.{AreDigits, IsDigits, Numeral, Whole, Decimal, Ratio, numeral_text, IsNumeral}
use Rattle.um_syntax.specs.Lexeme.{starts_name, AllContinue, IsIdentifier, Lexeme, Name, Var, Number, Word, Hole, Sign, IsLexeme, kind_of}
use Rattle.um_syntax.specs.Lexeme.{text_of as lexeme_text}
use Rattle.um_syntax.specs.Lexing.{size_of, is_glued, is_caret, is_caret_kind, is_minus_kind, is_power_place, Lexes}
use Rattle.um_syntax.proofs.Reading.{ascii_no_name}
use Rattle.um_syntax.proofs.Closing.{or_false}
use Rattle.um_syntax.proofs.WordLetters.{keyword_identifier}
use Rattle.um_syntax.proofs.Texts.{head_of}
use Rattle.um_unit_texts.specs.UnitTokens.{unit_token}
use Rattle.um_show.proofs.Chain.{full, Clear}
use Rattle.um_display.specs.UnitWords.{is_other_white}
use Rattle.um_all_answers.proofs.Segments.{caret_after, power_after, glued_after}
use Rattle.um_all_answers.proofs.Spaces.{is_blank, NoSpaces}
use Rattle.um_all_answers.proofs.Loosened.{Loose, loose_text, AllSpaces, loose_spaces, no_blank_from, ends_loose}
use Rattle.um_all_answers.proofs.UnitEdges.{may_end}
use Rattle.um_all_answers.proofs.UnitAlike.{SameKinds}

-- ---- no token has a space

continue_no_space : (cs : List ℕ) → AllContinue cs → NoSpaces cs
continue_no_space [] h = tt
continue_no_space (c ∷ cs) h = (no_blank_from is_xid_continue c (is_xid_continue-ascii 32 (lit< tt)) h.0, continue_no_space cs h.1)

identifier_no_space : (cs : List ℕ) → IsIdentifier cs → NoSpaces cs
identifier_no_space [] h = absurd h
identifier_no_space (c ∷ cs) h = (no_blank_from starts_name c (ascii_no_name 32 (lit< tt) refl) h.0, continue_no_space cs h.1)

digits_no_space : (ds : List ℕ) → AreDigits ds → NoSpaces ds
digits_no_space [] h = tt
digits_no_space (d ∷ ds) h = (no_blank_from is_ascii_digit d refl h.0, digits_no_space ds h.1)

some_no_space : (ds : List ℕ) → IsDigits ds → NoSpaces ds
some_no_space [] h = absurd h
some_no_space (d ∷ ds) h = digits_no_space (d ∷ ds) h

both_no_space : (xs ys : List ℕ) → NoSpaces xs → NoSpaces ys → NoSpaces (xs ++ ys)
both_no_space [] ys h k = k
both_no_space (x ∷ xs) ys h k = (h.0, both_no_space xs ys h.1 k)

numeral_no_space : (n : Numeral) → IsNumeral n → NoSpaces (numeral_text n)
numeral_no_space (Whole ds) h = some_no_space ds h
numeral_no_space (Decimal w q) h = both_no_space w (46 ∷ q) (some_no_space w h.0) (refl, some_no_space q h.1)
numeral_no_space (Ratio a b) h = both_no_space a (114 ∷ b) (some_no_space a h.0) (refl, some_no_space b h.1)

word_no_space : (k : Keyword) → NoSpaces (keyword_text k)
word_no_space k = identifier_no_space (keyword_text k) (keyword_identifier k)

sign_no_space : (k : Symbol) → NoSpaces (symbol_text k)
sign_no_space symbol.LeftParen = (refl, tt)
sign_no_space symbol.RightParen = (refl, tt)
sign_no_space symbol.LeftBracket = (refl, tt)
sign_no_space symbol.RightBracket = (refl, tt)
sign_no_space symbol.LeftBrace = (refl, tt)
sign_no_space symbol.RightBrace = (refl, tt)
sign_no_space symbol.AttributeOpen = (refl, (refl, tt))
sign_no_space symbol.Less = (refl, tt)
sign_no_space symbol.Greater = (refl, tt)
sign_no_space symbol.Equal = (refl, tt)
sign_no_space symbol.LessEqual = (refl, (refl, tt))
sign_no_space symbol.NotEqual = (refl, (refl, tt))
sign_no_space symbol.Plus = (refl, tt)
sign_no_space symbol.Minus = (refl, tt)
sign_no_space symbol.Star = (refl, tt)
sign_no_space symbol.Slash = (refl, tt)
sign_no_space symbol.Caret = (refl, tt)
sign_no_space symbol.Semicolon = (refl, tt)
sign_no_space symbol.Colon = (refl, tt)
sign_no_space symbol.ColonColon = (refl, (refl, tt))
sign_no_space symbol.Comma = (refl, tt)
sign_no_space symbol.Dot = (refl, tt)
sign_no_space symbol.Bar = (refl, tt)
sign_no_space symbol.BarBar = (refl, (refl, tt))
sign_no_space symbol.AndAnd = (refl, (refl, tt))
sign_no_space symbol.Arrow = (refl, (refl, tt))

token_no_space : (lexeme : Lexeme) → IsLexeme lexeme → NoSpaces (lexeme_text lexeme)
token_no_space (Name text) h = identifier_no_space text h.0
token_no_space (Var name) h = (refl, identifier_no_space name h.0)
token_no_space (Number numeral) h = numeral_no_space numeral h
token_no_space (Word k) h = word_no_space k
token_no_space Hole h = (refl, tt)
token_no_space (Sign k) h = sign_no_space k

-- ---- gaps

-- no comment and no white space but spaces, and no space at the end
pub record IsQuiet (cs : List ℕ) : Type 0 where
  pub no_comment : (front back : List ℕ) → cs ≡ front ++ 47 ∷ 47 ∷ back → ⊥
  pub no_white : list_any is_other_white cs ≡ false
  pub no_space_last : (front : List ℕ) → cs ≡ front ++ 32 ∷ [] → ⊥

pub any_parts : (test : ℕ → Bool) (xs ys : List ℕ) → list_any test (xs ++ ys) ≡ false → list_any test ys ≡ false
any_parts test [] ys e = e
any_parts test (x ∷ xs) ys e = any_parts test xs ys (or_false (test x) (list_any test (xs ++ ys)) e).1

quiet_behind : (xs ys : List ℕ) → IsQuiet (xs ++ ys) → IsQuiet ys
quiet_behind xs ys q = record {
  no_comment = λ front back is. q.no_comment (xs ++ front) back (ap (λ w. xs ++ w) is ∙ sym (append_assoc xs front (47 ∷ 47 ∷ back)));
  no_white = any_parts is_other_white xs ys q.no_white;
  no_space_last = λ front is. q.no_space_last (xs ++ front) (ap (λ w. xs ++ w) is ∙ sym (append_assoc xs front (32 ∷ [])));
}

blank_white : (c : ℕ) → is_space c ≡ true → is_other_white c ≡ false → is_blank c ≡ true
blank_white c e f = go (is_blank c) refl where
  go : (b : Bool) → is_blank c ≡ b → is_blank c ≡ true
  go true is = is
  go false is = absurd (false≢true (sym f ∙ ap (λ b. (b && not (is_blank c)) || (c == 65279)) e ∙ ap (λ b. (true && not b) || (c == 65279)) is))

pub gap_spaces : (gap back : List ℕ) → IsGap gap → IsQuiet (gap ++ back) → AllSpaces gap
gap_spaces _ back nothing q = tt
gap_spaces _ back (space {c} {more} e g) q =
    (blank_white c e (or_false (is_other_white c) (list_any is_other_white (more ++ back)) q.no_white).0, gap_spaces more back g (quiet_behind (c ∷ []) (more ++ back) q))
gap_spaces _ back (comment line {more} h g) q = absurd (q.no_comment [] ((line ++ 10 ∷ more) ++ back) refl)

spaces_gap : (cs : List ℕ) → AllSpaces cs → IsGap cs
spaces_gap [] h = nothing
spaces_gap (c ∷ cs) h = space (ap (λ b. b || (eqb c 9 || (eqb c 13 || eqb c 10))) h.0) (spaces_gap cs h.1)

spaces_last : (c : ℕ) (cs : List ℕ) → AllSpaces (c ∷ cs) → (front : List ℕ) × (c ∷ cs ≡ front ++ 32 ∷ [])
spaces_last c [] h = ([], ap (λ (x : ℕ). x ∷ []) (eqb-true c 32 h.0))
spaces_last c (d ∷ cs) h = let (front, is) = spaces_last d cs h.1 in (c ∷ front, ap (λ w. c ∷ w) is)

all_spaces_none : (cs : List ℕ) → AllSpaces cs → IsQuiet cs → cs ≡ []
all_spaces_none [] h q = refl
all_spaces_none (c ∷ cs) h q = let (front, is) = spaces_last c cs h in absurd (q.no_space_last front is)

last_gap_none : (cs : List ℕ) → IsLastGap cs → IsQuiet cs → cs ≡ []
last_gap_none cs (closed g) q = all_spaces_none cs (gap_spaces cs [] g (subst IsQuiet (sym (append-nil cs)) q)) q
last_gap_none _ (unclosed line {gap} g h) q = absurd (q.no_comment gap line refl)

-- ---- the tokens in their new place

-- after both, a number is a power or not alike, and `^` is the last token or not alike
pub record SaysAsMuch (before other : List Token) : Type 0 where
  pub power : is_power_place before ≡ is_power_place other
  pub caret : is_caret (slice_get before (length before - 1)) ≡ is_caret (slice_get other (length other - 1))

says_more : (before other : List Token) (t s : Token) → t.kind ≡ s.kind → SaysAsMuch before other → SaysAsMuch (before ++ t ∷ []) (other ++ s ∷ [])
says_more before other t s same m = record {
  power =
      power_after before t (is_caret (slice_get before (length before - 1))) refl
      ∙ (λ i. is_caret_kind (same i) || (is_minus_kind (same i) && m.caret i))
      ∙ sym (power_after other s (is_caret (slice_get other (length other - 1))) refl);
  caret = caret_after before t ∙ ap is_caret_kind same ∙ sym (caret_after other s);
}

abbrev pub LastMay : List Token → Type 0
LastMay [] = Unit {0}
LastMay (t ∷ []) = may_end (unit_token t.kind) ≡ true
LastMay (t ∷ s ∷ ss) = LastMay (s ∷ ss)

pub record Moved (tokens : List Token) (ds : List ℕ) (from before : List Token) (at : ℕ) (tail : List ℕ) : Type 0 where
  pub own : List Token
  pub end : ℕ
  pub same : SameKinds tokens own
  pub glued : is_glued (before ++ own) end ≡ true
  pub says : SaysAsMuch (from ++ tokens) (before ++ own)
  pub lexes : (rest : List Token) → Lexes (before ++ own) end tail rest → Lexes before at (ds ++ tail) (own ++ rest)

may_others : (t : Token) (ts : List Token) → LastMay (t ∷ ts) → LastMay ts
may_others t [] m = tt
may_others t (s ∷ ss) m = m

no_text : (lexeme : Lexeme) (gap more : List ℕ) → IsLexeme lexeme → [] ≡ gap ++ (lexeme_text lexeme ++ more) → ⊥
no_text lexeme [] more fits e = let h = head_of lexeme fits in cc (e ∙ ap (λ w. w ++ more) h.2)
no_text lexeme (c ∷ gap) more fits e = cc e

-- a token with nothing after it is the last
last_may : (t : Token) (ts : List Token) (from : List Token) (at : ℕ) (more : List ℕ) → Lexes from at more ts → LastMay (t ∷ ts) → more ≡ [] → may_end (unit_token t.kind) ≡ true
last_may t [] from at more l m none = m
last_may t (s ∷ ss) from at more (rest, n, l) m none = absurd (no_text n.lexeme n.gap rest n.fits (sym none ∙ n.cut))

pub moved : (tokens : List Token) (from : List Token) (old : ℕ) (cs : List ℕ) → Lexes from old cs tokens → IsQuiet cs → LastMay tokens → (ds : List ℕ) → Loose cs ds
    → (before : List Token) (at : ℕ) (tail : List ℕ) → SaysAsMuch from before → is_glued before at ≡ true → Clear full tail → Moved tokens ds from before at tail
moved [] from old cs l q m ds loose before at tail says glued clear =
    let none : cs ≡ [] = last_gap_none cs l q in
    let empty : ds ≡ [] = subst (λ w. Loose w ds) none loose in
    record {
      own = [];
      end = at;
      same = tt;
      glued = ap (λ w. is_glued w at) (append-nil before) ∙ glued;
      says = subst (λ w. SaysAsMuch w (before ++ [])) (sym (append-nil from)) (subst (λ w. SaysAsMuch from w) (sym (append-nil before)) says);
      lexes = λ rest h. subst (λ w. Lexes before at (w ++ tail) rest) (sym empty) (subst (λ w. Lexes w at tail rest) (append-nil before) h);
    }
moved (token ∷ tokens) from old cs (more, n, l) q m ds loose before at tail says glued clear =
    let text = lexeme_text n.lexeme in
    let quiet : IsQuiet (n.gap ++ (text ++ more)) = subst IsQuiet n.cut q in
    let spaces = gap_spaces n.gap (text ++ more) n.skipped quiet in
    let behind : IsQuiet more = quiet_behind text more (quiet_behind n.gap (text ++ more) quiet) in
    let (gap, inside, blank, cut, looser) = loose_spaces n.gap (text ++ more) ds spaces (subst (λ w. Loose w ds) n.cut loose) in
    let (es, split, last) = loose_text text more inside (token_no_space n.lexeme n.fits) looser in
    let start = at + size_of gap in
    let here : Token = record { kind = token.kind; start = start; end = start + size_of text; glued = is_glued before start } in
    let says_here = says_more from before token here refl says in
    let ends = ends_loose n.lexeme (is_power_place from) token.kind more es tail n.kind (last_may token tokens (from ++ token ∷ []) token.end more l m) last n.longest n.alone clear in
    let r = moved tokens (from ++ token ∷ []) token.end more l behind (may_others token tokens m) es last (before ++ here ∷ []) here.end tail says_here (glued_after before here) clear in
    let whole : (before ++ here ∷ []) ++ r.own ≡ before ++ here ∷ r.own = append_assoc before (here ∷ []) r.own in
    let all : (from ++ token ∷ []) ++ tokens ≡ from ++ token ∷ tokens = append_assoc from (token ∷ []) tokens in
    record {
      own = here ∷ r.own;
      end = r.end;
      same = (refl, r.same);
      glued = ap (λ w. is_glued w r.end) (sym whole) ∙ r.glued;
      says = subst (λ w. SaysAsMuch w (before ++ here ∷ r.own)) all (subst (λ w. SaysAsMuch ((from ++ token ∷ []) ++ tokens) w) whole r.says);
      lexes = λ rest h. (
        es ++ tail,
        record {
          gap = gap;
          lexeme = n.lexeme;
          cut = ap (λ w. w ++ tail) (cut ∙ ap (λ w. gap ++ w) split) ∙ append_assoc gap (text ++ es) tail ∙ ap (λ w. gap ++ w) (append_assoc text es tail);
          skipped = spaces_gap gap blank;
          fits = n.fits;
          longest = ends.0;
          alone = ends.1;
          kind = ap (λ b. kind_of b n.lexeme) (sym says.power) ∙ n.kind;
          start = refl;
          end = refl;
          glued = refl;
        },
        r.lexes rest (subst (λ w. Lexes w r.end tail rest) (sym whole) h),
      );
    }
