-- A text with numbers spelled anew has tokens, alike those of the text.
use Rattle.std.proofs.Common.{◌≡◌, ℕ, zero, suc, ◌+◌, ◌-◌, ◌≤◌, Bool, true, ◌==◌, ◌||◌, ◌&&◌, List, [], ◌∷◌, ◌++◌, length, length-append, slice_get, Option, Some, None, is_some, refl, sym, ap, subst, ◌∙◌, arith, lit<, eqb-true}
use Rattle.std.specs.Prelude.{option_map}
use Rattle.std.specs.Char.{len_utf8, is_ascii_digit}
use Rattle.std.specs.Str.{bytes_eq, encode_utf8_all}
use Rattle.std.proofs.lemmas.Bool.{false≢true}
use Rattle.std.proofs.lemmas.Bool.Decides.{nat_tests}
use Rattle.unicode_ident.proofs.IdentLemmas.{is_xid_continue-ascii}
use Rattle.um_frac.specs.declared.number.Frac.{Frac}
use Rattle.um_syntax.specs.declared.token.Kind.{Kind}
use Rattle.um_syntax.specs.declared.token.Kind.TheVariants as kind
use Rattle.um_syntax.specs.declared.token.Token.{Token}
use Rattle.um_vocabulary.specs.declared.vocabulary.Symbol.{Symbol}
use Rattle.um_vocabulary.specs.declared.vocabulary.Symbol.TheVariants as symbol
use Rattle.um_vocabulary.specs.Vocabulary.{symbol_text}
use Rattle.um_syntax.specs.Numeral.{Numeral, Whole, Decimal, Ratio, numeral_text, IsNumeral, IsDigits, number_value}
use Rattle.um_syntax.specs.Lexeme.{Lexeme, Name, Var, Number, Word, Hole, Sign, text_of, IsLexeme, NumeralEnds, is_whole, kind_of}
use Rattle.um_syntax.specs.Lexing.{size_of, ends_at, is_glued, is_caret_kind, is_minus_kind, is_caret, is_minus, is_power_place, IsNext, Lexes}
use Rattle.um_scale.specs.RescaledText.{is_less, opens_unit}
use Rattle.um_rescaled.specs.Respelling.{AlikeKinds, AreAlike, HasKindOf, AllHaveKinds, CanRespell, AllCan, new_text, respelled}
use Rattle.um_rescaled.proofs.Alike.{AlikeTexts, alike_same, alike_front, alike_digits}
use Rattle.um_rescaled.proofs.Ends.{both_true, ends_alike, alone_alike}

-- ---- kinds

alike_kind : (k : Kind) → AlikeKinds k k
alike_kind (kind.Number v d o) = tt
alike_kind (kind.Name x) = refl
alike_kind (kind.Var x) = refl
alike_kind (kind.Word k) = refl
alike_kind kind.Hole = refl
alike_kind (kind.Sign k) = refl

caret_same : (k j : Kind) → AlikeKinds k j → is_caret_kind k ≡ is_caret_kind j
caret_same (kind.Number v d o) (kind.Number w e p) h = refl
caret_same k j h = ap is_caret_kind h

minus_same : (k j : Kind) → AlikeKinds k j → is_minus_kind k ≡ is_minus_kind j
minus_same (kind.Number v d o) (kind.Number w e p) h = refl
minus_same k j h = ap is_minus_kind h

-- ---- tokens that are alike

alike_push : (ts us : List Token) (t u : Token) → AreAlike ts us → AlikeKinds t.kind u.kind → u.glued ≡ t.glued → AreAlike (ts ++ t ∷ []) (us ++ u ∷ [])
alike_push [] [] t u h k g = (k, g, tt)
alike_push [] (y ∷ us) t u h k g = absurd h
alike_push (x ∷ ts) [] t u h k g = absurd h
alike_push (x ∷ ts) (y ∷ us) t u h k g = (h.0, h.1, alike_push ts us t u h.2 k g)

same_length : (ts us : List Token) → AreAlike ts us → length ts ≡ length us
same_length [] [] h = refl
same_length [] (y ∷ us) h = absurd h
same_length (x ∷ ts) [] h = absurd h
same_length (x ∷ ts) (y ∷ us) h = ap suc (same_length ts us h.2)

caret_at : (ts us : List Token) (i : ℕ) → AreAlike ts us → is_caret (slice_get ts i) ≡ is_caret (slice_get us i)
caret_at [] [] i h = refl
caret_at [] (y ∷ us) i h = absurd h
caret_at (x ∷ ts) [] i h = absurd h
caret_at (x ∷ ts) (y ∷ us) zero h = caret_same x.kind y.kind h.0
caret_at (x ∷ ts) (y ∷ us) (suc i) h = caret_at ts us i h.2

minus_at : (ts us : List Token) (i : ℕ) → AreAlike ts us → is_minus (slice_get ts i) ≡ is_minus (slice_get us i)
minus_at [] [] i h = refl
minus_at [] (y ∷ us) i h = absurd h
minus_at (x ∷ ts) [] i h = absurd h
minus_at (x ∷ ts) (y ∷ us) zero h = minus_same x.kind y.kind h.0
minus_at (x ∷ ts) (y ∷ us) (suc i) h = minus_at ts us i h.2

some_at : (ts us : List Token) (i : ℕ) → AreAlike ts us → is_some (slice_get ts i) ≡ is_some (slice_get us i)
some_at [] [] i h = refl
some_at [] (y ∷ us) i h = absurd h
some_at (x ∷ ts) [] i h = absurd h
some_at (x ∷ ts) (y ∷ us) zero h = refl
some_at (x ∷ ts) (y ∷ us) (suc i) h = some_at ts us i h.2

same_power : (ts us : List Token) → AreAlike ts us → is_power_place ts ≡ is_power_place us
same_power ts us h =
    let n = same_length ts us h in
    let one : is_caret (slice_get ts (length ts - 1)) ≡ is_caret (slice_get us (length us - 1)) = caret_at ts us (length ts - 1) h ∙ ap (λ m. is_caret (slice_get us (m - 1))) n in
    let two : is_caret (slice_get ts (length ts - 2)) ≡ is_caret (slice_get us (length us - 2)) = caret_at ts us (length ts - 2) h ∙ ap (λ m. is_caret (slice_get us (m - 2))) n in
    let minus : is_minus (slice_get ts (length ts - 1)) ≡ is_minus (slice_get us (length us - 1)) = minus_at ts us (length ts - 1) h ∙ ap (λ m. is_minus (slice_get us (m - 1))) n in
    λ i. one i || (minus i && two i)

-- ---- where the last token ends

abbrev pub EndsAt : Option Token → ℕ → Type 0
EndsAt None at = Unit {0}
EndsAt (Some t) at = t.end ≡ at

abbrev pub last_of : List Token → Option Token
last_of ts = slice_get ts (length ts - 1)

pushed_at : (ts : List Token) (t : Token) → slice_get (ts ++ t ∷ []) (length ts) ≡ Some t
pushed_at [] t = refl
pushed_at (x ∷ ts) t = pushed_at ts t

last_pushed : (ts : List Token) (t : Token) → last_of (ts ++ t ∷ []) ≡ Some t
last_pushed ts t =
    let long = length-append ts (t ∷ []) in
    let same : length (ts ++ t ∷ []) - 1 ≡ length ts = omega (arith, long) in
    ap (λ n. slice_get (ts ++ t ∷ []) n) same ∙ pushed_at ts t

pushed_ends : (ts : List Token) (t : Token) → EndsAt (last_of (ts ++ t ∷ [])) t.end
pushed_ends ts t = subst (λ o. EndsAt o t.end) (sym (last_pushed ts t)) refl

behind_itself : (a b g : ℕ) → (a == a + g) ≡ (b == b + g)
behind_itself a b g = grind (arith, nat_tests)

glued_same : (o p : Option Token) (a b g : ℕ) → is_some o ≡ is_some p → EndsAt o a → EndsAt p b → ends_at (a + g) o ≡ ends_at (b + g) p
glued_same None None a b g h e f = refl
glued_same None (Some u) a b g h e f = absurd (false≢true h)
glued_same (Some t) None a b g h e f = absurd (false≢true (sym h))
glued_same (Some t) (Some u) a b g h e f = ap (λ n. n == a + g) e ∙ behind_itself a b g ∙ ap (λ n. n == b + g) (sym f)

glued_alike : (ts us : List Token) (a b g : ℕ) → AreAlike ts us → EndsAt (last_of ts) a → EndsAt (last_of us) b → is_glued ts (a + g) ≡ is_glued us (b + g)
glued_alike ts us a b g h e f =
    glued_same (last_of ts) (last_of us) a b g (some_at ts us (length ts - 1) h ∙ ap (λ n. is_some (slice_get us (n - 1))) (same_length ts us h)) e f

-- ---- a `<` directly after

no_gap : (o : Option Token) (at start g : ℕ) → EndsAt o at → start ≡ at + g → ends_at start o ≡ true → g ≡ 0
no_gap None at start g e s h = absurd (false≢true h)
no_gap (Some t) at start g e s h = let same = eqb-true t.end start h in omega (arith, same, e, s)

some_bytes : (c : ℕ) → 1 ≤ len_utf8 c
some_bytes c = grind (arith, nat_tests)

empty : (gap : List ℕ) → size_of gap ≡ 0 → gap ≡ []
empty [] e = refl
empty (c ∷ cs) e = let some = some_bytes c in absurd (omega (arith, some, e))

less_sign : (s : Symbol) → is_less (kind.Sign s) ≡ true → symbol_text s ≡ 60 ∷ []
less_sign symbol.Less e = refl
less_sign _ e = absurd (false≢true e)

less_text : (power : Bool) (lexeme : Lexeme) (k : Kind) → kind_of power lexeme ≡ Some k → is_less k ≡ true → text_of lexeme ≡ 60 ∷ []
less_text power (Name text) k is e = let same : kind.Name (encode_utf8_all text) ≡ k = cc is in absurd (false≢true (ap is_less same ∙ e))
less_text power (Var name) k is e = let same : kind.Var (encode_utf8_all name) ≡ k = cc is in absurd (false≢true (ap is_less same ∙ e))
less_text power (Number n) k is e = by (number_value power n) is where
  by : (o : Option Frac) → option_map (λ v. kind.Number v (is_whole n) (bytes_eq (numeral_text n) (49 ∷ []))) o ≡ Some k → numeral_text n ≡ 60 ∷ []
  by None h = absurd (cc h)
  by (Some v) h = let same : kind.Number v (is_whole n) (bytes_eq (numeral_text n) (49 ∷ [])) ≡ k = cc h in absurd (false≢true (ap is_less same ∙ e))
less_text power (Word w) k is e = let same : kind.Word w ≡ k = cc is in absurd (false≢true (ap is_less same ∙ e))
less_text power Hole k is e = let same : kind.Hole ≡ k = cc is in absurd (false≢true (ap is_less same ∙ e))
less_text power (Sign s) k is e = let same : kind.Sign s ≡ k = cc is in less_sign s (ap is_less same ∙ e)

opened : (before : List Token) (at : ℕ) (more : List ℕ) (ts : List Token) → Lexes before at more ts → EndsAt (last_of before) at → opens_unit (slice_get ts 0) ≡ true → (r : List ℕ) × (more ≡ 60 ∷ r)
opened before at more [] l last e = absurd (false≢true e)
opened before at more (u ∷ us) l last e =
    let n = l.1 in
    let parts = both_true u.glued (is_less u.kind) e in
    let none = empty n.gap (no_gap (last_of before) at u.start (size_of n.gap) last n.start (sym n.glued ∙ parts.0)) in
    let text = less_text (is_power_place before) n.lexeme u.kind n.kind parts.1 in
    (l.0, n.cut ∙ ap (λ gap. gap ++ (text_of n.lexeme ++ l.0)) none ∙ ap (λ t. t ++ l.0) text)

number_ends : (n : Numeral) (r : List ℕ) → NumeralEnds n (60 ∷ r)
number_ends (Whole ds) r = (refl, refl)
number_ends (Decimal a b) r = refl
number_ends (Ratio a b) r = refl

-- ---- numbers

digits_begin : (ds more : List ℕ) → IsDigits ds → (d : ℕ) × (rest : List ℕ) × (ds ++ more ≡ d ∷ rest) × (is_ascii_digit d ≡ true)
digits_begin [] more h = absurd h
digits_begin (d ∷ ds) more h = (d, ds ++ more, refl, h.0)

numeral_begins : (n : Numeral) (more : List ℕ) → IsNumeral n → (d : ℕ) × (rest : List ℕ) × (numeral_text n ++ more ≡ d ∷ rest) × (is_ascii_digit d ≡ true)
numeral_begins (Whole ds) more h = digits_begin ds more h
numeral_begins (Decimal (d ∷ ds) b) more h = (d, (ds ++ 46 ∷ b) ++ more, refl, h.0.0)
numeral_begins (Decimal [] b) more h = absurd h.0
numeral_begins (Ratio (d ∷ ds) b) more h = (d, (ds ++ 114 ∷ b) ++ more, refl, h.0.0)
numeral_begins (Ratio [] b) more h = absurd h.0

numeral_lexeme : (power : Bool) (lexeme : Lexeme) (v : Frac) (d o : Bool) → kind_of power lexeme ≡ Some (kind.Number v d o) → (n : Numeral) × (lexeme ≡ Number n)
numeral_lexeme power (Name text) v d o is = absurd (cc is)
numeral_lexeme power (Var name) v d o is = absurd (cc is)
numeral_lexeme power (Number n) v d o is = (n, refl)
numeral_lexeme power (Word w) v d o is = absurd (cc is)
numeral_lexeme power Hole v d o is = absurd (cc is)
numeral_lexeme power (Sign s) v d o is = absurd (cc is)

module _ (spell : Token → List Token → Option Numeral) where
  text_alike : (before : List Token) (at : ℕ) (chars : List ℕ) (t : Token) (more later : List ℕ) (ts : List Token) (n : IsNext before at chars t more) (o : Option Numeral) → ((m : Numeral) → o ≡ Some m → CanRespell before t ts m) → AlikeTexts more later
      → AlikeTexts (text_of n.lexeme ++ more) (new_text spell o (text_of n.lexeme) ++ later)
  text_alike before at chars t more later ts n None can h = alike_front (text_of n.lexeme) more later h
  text_alike before at chars t more later ts n (Some m) can h =
      let c = can m refl in
      let old = numeral_lexeme (is_power_place before) n.lexeme c.value c.digits c.one (n.kind ∙ ap Some c.number) in
      let fits : IsNumeral old.0 = subst IsLexeme old.1 n.fits in
      let a = numeral_begins old.0 more fits in
      let b = numeral_begins m later c.fits in
      let first : text_of n.lexeme ++ more ≡ a.0 ∷ a.1 = ap (λ x. text_of x ++ more) old.1 ∙ a.2 in
      subst (λ xs. AlikeTexts xs (numeral_text m ++ later)) (sym first) (subst (λ ys. AlikeTexts (a.0 ∷ a.1) ys) (sym b.2) (alike_digits a.0 b.0 a.1 b.1 a.3 b.3))

  -- the characters begin as those that are spelled anew
  pub begun : (tokens before : List Token) (at : ℕ) (chars : List ℕ) (l : Lexes before at chars tokens) → AllCan spell before tokens → AlikeTexts chars (respelled spell tokens before at chars l)
  begun [] before at chars l can = alike_same chars
  begun (t ∷ ts) before at chars l can =
      let n = l.1 in
      let later = respelled spell ts (before ++ t ∷ []) t.end l.0 l.2 in
      let rest = begun ts (before ++ t ∷ []) t.end l.0 l.2 can.1 in
      let new = new_text spell (spell t ts) (text_of n.lexeme) ++ later in
      subst (λ cs. AlikeTexts cs (n.gap ++ new)) (sym n.cut) (alike_front n.gap (text_of n.lexeme ++ l.0) new (text_alike before at chars t l.0 later ts n (spell t ts) can.0 rest))

  -- ---- one token

  module _ (before others : List Token) (at start : ℕ) (chars : List ℕ) (t : Token) (more later : List ℕ) (ts : List Token) (n : IsNext before at chars t more) (alike : AreAlike before others) (e : EndsAt (last_of before) at) (f : EndsAt (last_of others) start) where
    abbrev Next : Option Numeral → Type 0
    Next o = (u : Token) × IsNext others start (n.gap ++ (new_text spell o (text_of n.lexeme) ++ later)) u later × AlikeKinds t.kind u.kind × (u.glued ≡ t.glued) × HasKindOf o t.kind u.kind

    abbrev begin : ℕ
    begin = start + size_of n.gap

    same_glued : is_glued others (start + size_of n.gap) ≡ t.glued
    same_glued = sym (glued_alike before others at start (size_of n.gap) alike e f) ∙ ap (is_glued before) (sym n.start) ∙ sym n.glued

    next_one : (o : Option Numeral) → ((m : Numeral) → o ≡ Some m → CanRespell before t ts m) → AlikeTexts more later → Lexes (before ++ t ∷ []) t.end more ts → Next o
    next_one None can h l =
        let u : Token = record { kind = t.kind; start = begin; end = begin + size_of (text_of n.lexeme); glued = is_glued others begin } in
        let next : IsNext others start (n.gap ++ (text_of n.lexeme ++ later)) u later = record {
          gap = n.gap;
          lexeme = n.lexeme;
          cut = refl;
          skipped = n.skipped;
          fits = n.fits;
          longest = ends_alike n.lexeme more later h n.longest;
          alone = alone_alike n.lexeme more later h n.alone;
          kind = ap (λ p. kind_of p n.lexeme) (sym (same_power before others alike)) ∙ n.kind;
          start = refl;
          end = refl;
          glued = refl;
        } in
        (u, next, alike_kind t.kind, same_glued, refl)
    next_one (Some m) can h l =
        let c = can m refl in
        let sign = opened (before ++ t ∷ []) t.end more ts l (pushed_ends before t) c.opens in
        let behind : AlikeTexts (60 ∷ sign.0) later = subst (λ xs. AlikeTexts xs later) sign.1 h in
        let new : Kind = kind.Number c.new (is_whole m) (bytes_eq (numeral_text m) (49 ∷ [])) in
        let u : Token = record { kind = new; start = begin; end = begin + size_of (numeral_text m); glued = is_glued others begin } in
        let next : IsNext others start (n.gap ++ (numeral_text m ++ later)) u later = record {
          gap = n.gap;
          lexeme = Number m;
          cut = refl;
          skipped = n.skipped;
          fits = c.fits;
          longest = ends_alike (Number m) (60 ∷ sign.0) later behind (number_ends m sign.0);
          alone = alone_alike (Number m) (60 ∷ sign.0) later behind (is_xid_continue-ascii 60 (lit< tt));
          kind = ap (λ p. kind_of p (Number m)) (sym (same_power before others alike) ∙ c.no_power) ∙ ap (option_map (λ v. kind.Number v (is_whole m) (bytes_eq (numeral_text m) (49 ∷ [])))) c.has;
          start = refl;
          end = refl;
          glued = refl;
        } in
        (u, next, subst (λ k. AlikeKinds k new) (sym c.number) tt, same_glued, (c.new, is_whole m, bytes_eq (numeral_text m) (49 ∷ []), c.has, refl))

  -- ---- all of them

  pub all : (tokens before others : List Token) (at start : ℕ) (chars : List ℕ) (l : Lexes before at chars tokens) → AllCan spell before tokens → AreAlike before others → EndsAt (last_of before) at → EndsAt (last_of others) start
      → (new : List Token) × Lexes others start (respelled spell tokens before at chars l) new × AllHaveKinds spell tokens new
  all [] before others at start chars l can alike e f = ([], l, tt)
  all (t ∷ ts) before others at start chars l can alike e f =
      let n = l.1 in
      let later = respelled spell ts (before ++ t ∷ []) t.end l.0 l.2 in
      let h = begun ts (before ++ t ∷ []) t.end l.0 l.2 can.1 in
      let one = next_one before others at start chars t l.0 later ts n alike e f (spell t ts) can.0 h l.2 in
      let rest = all ts (before ++ t ∷ []) (others ++ one.0 ∷ []) t.end (one.0).end l.0 l.2 can.1 (alike_push before others t one.0 alike one.2 one.3) (pushed_ends before t) (pushed_ends others one.0) in
      (one.0 ∷ rest.0, (later, one.1, rest.1), (one.4, one.3, rest.2))
