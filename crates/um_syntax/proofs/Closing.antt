-- What has begun stands for its text, and the tokens that it ends in are those of the text.
use Rattle.std.proofs.Common.{◌≡◌, ◌≢◌, ℕ, ◌+◌, ◌-◌, ◌<◌, Bool, true, false, ◌&&◌, ◌||◌, eqb, List, [], ◌∷◌, ◌++◌, length, take, drop, Option, None, Some, is_some, Result, Ok, Err, refl, sym, ap, subst, ◌∙◌, arith, append_assoc, inl, inr, lit<}
use Rattle.std.proofs.lemmas.Bool.{false≢true, eqb-true}
use Rattle.std.specs.Str.{bytes_eq}
use Rattle.std.specs.Char.{is_ascii_digit, len_utf8}
use lib.Utf8.{encodes}
use Rattle.unicode_ident.specs.Ident.{is_xid_start, is_xid_continue}
use Rattle.unicode_ident.proofs.IdentLemmas.{is_xid_start-ascii, is_xid_continue-ascii, is_xid_start-is_xid_continue}
use Rattle.um_vocabulary.specs.declared.vocabulary.Keyword.{Keyword}
use Rattle.um_vocabulary.specs.declared.vocabulary.Symbol.{Symbol}
use Rattle.um_vocabulary.specs.declared.vocabulary.Symbol.TheVariants as symbol
use Rattle.um_syntax.specs.declared.token.Kind.{Kind}
use Rattle.um_syntax.specs.declared.token.Kind.TheVariants as kind
use Rattle.um_syntax.specs.declared.token.Token.{Token}
use Rattle.um_syntax.specs.declared.token.LexStop.{LexStop}
use Rattle.um_syntax.specs.declared.token.LexStop.TheVariants.{BadChar, NumberRange, PowerText}
use Rattle.um_syntax.specs.declared.number.Part.{Part}
use Rattle.um_syntax.specs.declared.number.Part.TheVariants as part
use Rattle.um_syntax.specs.declared.pending.Pending.{Pending}
use Rattle.um_syntax.specs.declared.pending.Pending.TheVariants as pending
use Rattle.um_vocabulary.specs.Vocabulary.{keyword_text, symbol_text}
use Rattle.um_syntax.specs.Gap.{IsLine}
use Rattle.um_syntax.specs.Numeral.{Numeral, Whole, Decimal, Ratio, numeral_text, IsNumeral}
use Rattle.um_syntax.specs.Lexeme.{starts_name, IsIdentifier, IsName, Name, Var, Number, Sign, begins, NumeralEnds, SignEnds, is_whole, kind_of}
use Rattle.um_syntax.specs.Lexing.{size_of, is_glued, is_power_place, IsNumberAt}
use Rattle.um_syntax.specs.Machine.{Scan, part_takes, takes, is_whole_part, pushed, letters_kind, identifier_pushed, variable_pushed, part_pushed, number_pushed, sign_pushed, close, ends_in_digit}
use Rattle.um_vocabulary.specs.Tables.{keyword_of, single_symbol, double_symbol}
use Rattle.um_syntax.proofs.Places.{size_of-append}
use Rattle.um_syntax.proofs.Digits.{figures_of, figures_kind-of}
use Rattle.std.proofs.lemmas.Slice.Eq.{bytes_eq-Decides}
use Rattle.um_syntax.proofs.WordLetters.{keyword_of-none, keyword_encoded, keyword_parts, letters_encoded, last_encoded, letter_starts_name, letter_starts}
use Rattle.um_vocabulary.proofs.Tables.{single_symbol-text, symbol_text-double}
use Rattle.um_syntax.proofs.Texts.{NoHead, nothing_at, identifier_head, hole_from, no_hole_from, word_from, no_word_from, identifier_read}
use Rattle.um_syntax.proofs.Meaning.{Means, next_token, faulty_here, token_here}

-- what has been read after a number's last digit
abbrev pub tail_of : Part → List ℕ
tail_of part.Whole = []
tail_of part.Point = 46 ∷ []
tail_of part.Decimal = []
tail_of part.Over = 114 ∷ []
tail_of part.Ratio = []

abbrev pub FitsPart : Part → Numeral → Type 0
FitsPart part.Whole (Whole ds) = Unit {0}
FitsPart part.Point (Whole ds) = Unit {0}
FitsPart part.Over (Whole ds) = Unit {0}
FitsPart part.Decimal (Decimal w q) = Unit {0}
FitsPart part.Ratio (Ratio a b) = Unit {0}
FitsPart _ _ = ⊥

-- What has begun, with the letters at hand and the place after it, stands for a text from a place on.
abbrev pub Pends : Pending → List ℕ → ℕ → ℕ → List ℕ → Type 0
Pends pending.Start letters at start text = ⊥
Pends pending.Free letters at start text = (letters ≡ []) × (text ≡ []) × (at ≡ start)
Pends pending.Comment letters at start text = (letters ≡ []) × (at ≡ start + size_of text) × ((line : List ℕ) × (text ≡ 47 ∷ 47 ∷ line) × IsLine line)
Pends (pending.Identifier b) letters at start text = (b ≡ start) × (at ≡ start + size_of text) × (letters ≡ encodes text) × IsIdentifier text
Pends (pending.Quote b) letters at start text = (b ≡ start) × (at ≡ start + size_of text) × (letters ≡ []) × (text ≡ 39 ∷ [])
Pends (pending.Variable b last) letters at start text =
    (b ≡ start) × (at ≡ start + size_of text)
    × ((prefix : List ℕ) × (c : ℕ) × (text ≡ 39 ∷ (prefix ++ c ∷ [])) × IsIdentifier (prefix ++ c ∷ []) × (letters ≡ encodes (prefix ++ c ∷ [])) × (last ≡ start + size_of (39 ∷ prefix)))
Pends (pending.Number b e p f) letters at start text =
    (b ≡ start) × (at ≡ start + size_of text) × (letters ≡ [])
    × ((numeral : Numeral) × IsNumeral numeral × (f ≡ figures_of numeral) × (text ≡ numeral_text numeral ++ tail_of p) × (e ≡ start + size_of (numeral_text numeral)) × FitsPart p numeral)
Pends (pending.Symbol b first) letters at start text =
    (b ≡ start) × (at ≡ start + size_of text) × (letters ≡ []) × (text ≡ first ∷ []) × ((is_some (single_symbol first) || eqb first 38) ≡ true)

-- The state in which what has begun ended means for the characters what it meant.
abbrev pub CloseMeans : List Token → ℕ → List ℕ → ℕ → List ℕ → Pending → Result Scan LexStop → Type 0
CloseMeans before start text at more p (Ok s) =
    (s ≡ record { at = at; tokens = s.tokens; letters = []; pending = pending.Free })
    × ((answer : Result (List Token) LexStop) → (ends_in_digit p ≡ true → begins is_xid_continue more ≡ false) → Means s.tokens at more answer → Means before start (text ++ more) answer)
CloseMeans before start text at more p (Err stop) = Means before start (text ++ more) (Err stop)

abbrev pub scan_at : ℕ → List Token → List ℕ → Pending → Scan
scan_at at before letters p = record { at = at; tokens = before; letters = letters; pending = p }

pub close_identifier : (before : List Token) (start at : ℕ) (letters text more : List ℕ) → at ≡ start + size_of text → letters ≡ encodes text → IsIdentifier text → begins is_xid_continue more ≡ false
    → CloseMeans before start text at more (pending.Identifier start) (Ok (identifier_pushed (scan_at at before letters (pending.Identifier start)) start))
close_identifier before start at letters text more place same is stops =
    let r = identifier_read text is in (
      refl,
      λ answer alone m.
          next_token before start (text ++ more) _ more answer
          (token_here before start r.lexeme more (text ++ more) (letters_kind letters) at (ap (λ x. x ++ more) (sym r.text_is)) r.fits (r.ends more stops) (r.alone more)
          (r.kind (is_power_place before) ∙ ap (λ x. Some (letters_kind x)) (sym same)) (place ∙ ap (λ x. start + size_of x) (sym r.text_is)))
          m,
    )

-- no name starts with a quote or an ampersand, and no letter is one
no_name : (c : ℕ) → c < 128 → is_xid_start c ≡ false → eqb c 95 ≡ false → starts_name c ≡ false
no_name c small e f = ap (λ b. b || is_xid_start c) f ∙ e

quote_no_name : starts_name 39 ≡ false
quote_no_name = no_name 39 (lit< tt) (is_xid_start-ascii 39 (lit< tt)) refl

ampersand_no_name : starts_name 38 ≡ false
ampersand_no_name = no_name 38 (lit< tt) (is_xid_start-ascii 38 (lit< tt)) refl

quote_head : (more : List ℕ) → ((name rest : List ℕ) → IsName name → more ≢ name ++ rest) → NoHead 39 more
quote_head more no_variable = record {
  name = quote_no_name;
  digit = refl;
  single = refl;
  double = λ b rest e. refl;
  variable = λ e. no_variable;
}

pub close_quote : (before : List Token) (start : ℕ) (more : List ℕ) → begins starts_name more ≡ false → Means before start (39 ∷ more) (Err (BadChar start))
close_quote before start more stops = faulty_here before start (39 ∷ more) (BadChar start) (inl (refl, nothing_at 39 more refl (quote_head more no_variable)))
  where
    no_variable : (name rest : List ℕ) → IsName name → more ≢ name ++ rest
    no_variable name rest is e =
        let h = identifier_head name is.0 in
        let starts = ap (begins starts_name) (e ∙ ap (λ x. x ++ rest) h.2) in
        false≢true (sym stops ∙ starts ∙ h.3)

hole_variable : (before : List Token) (start : ℕ) (more : List ℕ) → begins is_xid_continue more ≡ false → Means before start (39 ∷ 95 ∷ more) (Err (BadChar start))
hole_variable before start more stops = faulty_here before start (39 ∷ 95 ∷ more) (BadChar start) (inl (refl, nothing_at 39 (95 ∷ more) refl (quote_head (95 ∷ more) no_variable)))
  where
    no_variable : (name rest : List ℕ) → IsName name → 95 ∷ more ≢ name ++ rest
    no_variable [] rest is e = is.0
    no_variable (d ∷ []) rest is e = let same : d ≡ 95 = cc in is.1 (ap (λ x. x ∷ []) same)
    no_variable (d ∷ x ∷ xs) rest is e =
        let others : more ≡ x ∷ (xs ++ rest) = cc in
        false≢true (sym stops ∙ ap (begins is_xid_continue) others ∙ is.0.1.0)

pub not_hole : (text : List ℕ) → bytes_eq text (95 ∷ []) ≡ false → text ≢ 95 ∷ []
not_hole text e same = false≢true (sym e ∙ (bytes_eq-Decides text (95 ∷ [])).1 same)

pub snoc_same : (xs ys : List ℕ) (x y : ℕ) → xs ++ x ∷ [] ≡ ys ++ y ∷ [] → (xs ≡ ys) × (x ≡ y)
snoc_same [] [] x y e = (refl, cc)
snoc_same [] (b ∷ []) x y e = absurd (nil_cons e)
  where
    nil_cons : ◌≡◌ {A = List ℕ} (x ∷ []) (b ∷ y ∷ []) → ⊥
    nil_cons e = cc
snoc_same [] (b ∷ c ∷ ys) x y e = absurd (nil_cons e)
  where
    nil_cons : ◌≡◌ {A = List ℕ} (x ∷ []) (b ∷ c ∷ (ys ++ y ∷ [])) → ⊥
    nil_cons e = cc
snoc_same (a ∷ []) [] x y e = absurd (cons_nil e)
  where
    cons_nil : ◌≡◌ {A = List ℕ} (a ∷ x ∷ []) (y ∷ []) → ⊥
    cons_nil e = cc
snoc_same (a ∷ c ∷ xs) [] x y e = absurd (cons_nil e)
  where
    cons_nil : ◌≡◌ {A = List ℕ} (a ∷ c ∷ (xs ++ x ∷ [])) (y ∷ []) → ⊥
    cons_nil e = cc
snoc_same (a ∷ xs) (b ∷ ys) x y e =
    let head : a ≡ b = cc in
    let rest : xs ++ x ∷ [] ≡ ys ++ y ∷ [] = cc in
    let r = snoc_same xs ys x y rest in
    (ap (λ z. z ∷ xs) head ∙ ap (λ z. b ∷ z) r.0, r.1)

pub size_of-snoc : (xs : List ℕ) (x : ℕ) → size_of (xs ++ x ∷ []) ≡ size_of xs + len_utf8 x
size_of-snoc xs x = let e = size_of-append xs (x ∷ []) in omega (arith, e)

-- a variable whose letters are a word leaves its last letter to a name
word_variable : (k : Keyword) (before : List Token) (start last at : ℕ) (more : List ℕ)
    → last ≡ start + size_of (39 ∷ (keyword_parts k).prefix) → at ≡ start + size_of (39 ∷ ((keyword_parts k).prefix ++ (keyword_parts k).last ∷ []))
    → begins is_xid_continue more ≡ false → (answer : Result (List Token) LexStop)
    → Means (pushed (pushed (scan_at at before (keyword_text k) (pending.Variable start last)) (kind.Var (take (length (keyword_text k) - 1) (keyword_text k))) start last) (kind.Name (drop (length (keyword_text k) - 1) (keyword_text k))) last at).tokens at more answer
    → Means before start ((39 ∷ ((keyword_parts k).prefix ++ (keyword_parts k).last ∷ [])) ++ more) answer
word_variable k before start last at more last_place place stops answer m =
    let p = keyword_parts k in
    let cut : 39 ∷ ((p.prefix ++ p.last ∷ []) ++ more) ≡ 39 ∷ (p.prefix ++ (p.last ∷ more)) = ap (λ x. 39 ∷ x) (append_assoc p.prefix (p.last ∷ []) more) in
    let continues = is_xid_start-is_xid_continue p.last (letter_starts p.last p.last_letter) in
    let end : at ≡ last + size_of (p.last ∷ []) = omega (arith, last_place, place, size_of-snoc p.prefix p.last) in
    next_token before start _ _ (p.last ∷ more) answer
    (token_here before start (Var p.prefix) (p.last ∷ more) _ (kind.Var (take (length (keyword_text k) - 1) (keyword_text k))) last cut
    (p.prefix_identifier, not_hole p.prefix p.prefix_no_hole, keyword_of-none p.prefix p.prefix_no_word)
    (inr (continues, (k, sym p.text), stops)) tt
    (ap (λ x. Some (kind.Var x)) (letters_encoded p.prefix p.prefix_letters ∙ sym p.prefix_taken)) last_place)
    (next_token (before ++ _ ∷ []) last (p.last ∷ more) _ more answer
    (token_here (before ++ _ ∷ []) last (Name (p.last ∷ [])) more (p.last ∷ more) (kind.Name (drop (length (keyword_text k) - 1) (keyword_text k))) at refl
    ((letter_starts_name p.last p.last_letter, tt), not_hole (p.last ∷ []) p.last_no_hole, keyword_of-none (p.last ∷ []) p.last_no_word)
    stops tt (ap (λ x. Some (kind.Name x)) (last_encoded p.last p.last_letter ∙ sym p.last_dropped)) end)
    m)

abbrev variable_state : List Token → ℕ → ℕ → ℕ → List ℕ → Scan
variable_state before start at last letters = scan_at at before letters (pending.Variable start last)

abbrev VariableMeans : List Token → ℕ → ℕ → ℕ → List ℕ → List ℕ → Result Scan LexStop → Type 0
VariableMeans before start at last name more r = CloseMeans before start (39 ∷ name) at more (pending.Variable start last) r

-- the letters aren't a word
variable_plain : (before : List Token) (start at last : ℕ) (name more : List ℕ) → IsIdentifier name → at ≡ start + size_of (39 ∷ name) → begins is_xid_continue more ≡ false
    → bytes_eq (encodes name) (95 ∷ []) ≡ false → keyword_of (encodes name) ≡ None
    → VariableMeans before start at last name more (Ok (variable_pushed (variable_state before start at last (encodes name)) start last))
variable_plain before start at last name more is place stops no_hole e = rw e (
  refl,
  λ answer alone m.
      next_token before start (39 ∷ (name ++ more)) _ more answer
      (token_here before start (Var name) more _ (kind.Var (encodes name)) at refl (is, no_hole_from name no_hole, no_word_from name e) (inl stops) tt refl place)
      m,
)

abbrev word_pushed : List Token → ℕ → ℕ → ℕ → List ℕ → Scan
word_pushed before start at last letters =
    pushed (pushed (variable_state before start at last letters) (kind.Var (take (length letters - 1) letters)) start last) (kind.Name (drop (length letters - 1) letters)) last at

-- the letters are a word
variable_word : (before : List Token) (start at last : ℕ) (prefix more : List ℕ) (c : ℕ) (k : Keyword) → last ≡ start + size_of (39 ∷ prefix) → at ≡ start + size_of (39 ∷ (prefix ++ c ∷ []))
    → begins is_xid_continue more ≡ false → keyword_of (encodes (prefix ++ c ∷ [])) ≡ Some k
    → VariableMeans before start at last (prefix ++ c ∷ []) more (Ok (variable_pushed (variable_state before start at last (encodes (prefix ++ c ∷ []))) start last))
variable_word before start at last prefix more c k last_place place stops e =
    let w = word_from (prefix ++ c ∷ []) k e in
    let p = keyword_parts k in
    let parts = w ∙ p.text in
    let same = snoc_same prefix p.prefix c p.last parts in
    let letters : encodes (prefix ++ c ∷ []) ≡ keyword_text k = ap encodes w ∙ keyword_encoded k in
    let last_there : last ≡ start + size_of (39 ∷ p.prefix) = last_place ∙ ap (λ x. start + size_of (39 ∷ x)) same.0 in
    let there : at ≡ start + size_of (39 ∷ (p.prefix ++ p.last ∷ [])) = place ∙ ap (λ x. start + size_of (39 ∷ x)) parts in
    let m : VariableMeans before start at last (p.prefix ++ p.last ∷ []) more (Ok (word_pushed before start at last (keyword_text k))) =
    (refl, λ answer alone m. word_variable k before start last at more last_there there stops answer m) in
    rw e (subst (λ x. VariableMeans before start at last x more (Ok (word_pushed before start at last (encodes (prefix ++ c ∷ []))))) (sym parts)
    (subst (λ l. VariableMeans before start at last (p.prefix ++ p.last ∷ []) more (Ok (word_pushed before start at last l))) (sym letters) m))

variable_hole : (before : List Token) (start : ℕ) (name more : List ℕ) → begins is_xid_continue more ≡ false → bytes_eq (encodes name) (95 ∷ []) ≡ true → Means before start ((39 ∷ name) ++ more) (Err (BadChar start))
variable_hole before start name more stops e = subst (λ x. Means before start ((39 ∷ x) ++ more) (Err (BadChar start))) (sym (hole_from name e)) (hole_variable before start more stops)

pub close_variable : (before : List Token) (start at last : ℕ) (prefix more : List ℕ) (c : ℕ) → IsIdentifier (prefix ++ c ∷ []) → last ≡ start + size_of (39 ∷ prefix) → at ≡ start + size_of (39 ∷ (prefix ++ c ∷ []))
    → begins is_xid_continue more ≡ false
    → VariableMeans before start at last (prefix ++ c ∷ []) more (close (variable_state before start at last (encodes (prefix ++ c ∷ []))) (pending.Variable start last))
close_variable before start at last prefix more c is last_place place stops = by_hole (bytes_eq (encodes (prefix ++ c ∷ [])) (95 ∷ [])) refl
  where
    by_number : bytes_eq (encodes (prefix ++ c ∷ [])) (95 ∷ []) ≡ false → (o : Option Keyword) → keyword_of (encodes (prefix ++ c ∷ [])) ≡ o
        → VariableMeans before start at last (prefix ++ c ∷ []) more (Ok (variable_pushed (variable_state before start at last (encodes (prefix ++ c ∷ []))) start last))
    by_number no_hole (Some k) e = variable_word before start at last prefix more c k last_place place stops e
    by_number no_hole None e = variable_plain before start at last (prefix ++ c ∷ []) more is place stops no_hole e

    by_hole : (b : Bool) → bytes_eq (encodes (prefix ++ c ∷ [])) (95 ∷ []) ≡ b
        → VariableMeans before start at last (prefix ++ c ∷ []) more (close (variable_state before start at last (encodes (prefix ++ c ∷ []))) (pending.Variable start last))
    by_hole true e = rw e (variable_hole before start (prefix ++ c ∷ []) more stops e)
    by_hole false e = rw e (by_number e (keyword_of (encodes (prefix ++ c ∷ []))) refl)

pub append_nil : (xs : List ℕ) → xs ++ [] ≡ xs
append_nil [] = refl
append_nil (x ∷ xs) = ap (λ l. x ∷ l) (append_nil xs)

pub or_false : (a b : Bool) → (a || b) ≡ false → (a ≡ false) × (b ≡ false)
or_false true b e = absurd (false≢true (sym e))
or_false false b e = (refl, e)

and_false_left : (a b : Bool) → a ≡ false → (a && b) ≡ false
and_false_left true b e = absurd (false≢true (sym e))
and_false_left false b e = refl

pub whole_part : (p : Part) (n : Numeral) → FitsPart p n → is_whole_part p ≡ is_whole n
whole_part part.Whole (Whole ds) fits = refl
whole_part part.Whole (Decimal w q) fits = absurd fits
whole_part part.Whole (Ratio a b) fits = absurd fits
whole_part part.Point (Whole ds) fits = refl
whole_part part.Point (Decimal w q) fits = absurd fits
whole_part part.Point (Ratio a b) fits = absurd fits
whole_part part.Over (Whole ds) fits = refl
whole_part part.Over (Decimal w q) fits = absurd fits
whole_part part.Over (Ratio a b) fits = absurd fits
whole_part part.Decimal (Whole ds) fits = absurd fits
whole_part part.Decimal (Decimal w q) fits = refl
whole_part part.Decimal (Ratio a b) fits = absurd fits
whole_part part.Ratio (Whole ds) fits = absurd fits
whole_part part.Ratio (Decimal w q) fits = absurd fits
whole_part part.Ratio (Ratio a b) fits = refl

whole_ends : (ds more : List ℕ) → begins (part_takes part.Whole) more ≡ false → NumeralEnds (Whole ds) more
whole_ends ds [] e = (refl, refl)
whole_ends ds (c ∷ cs) e =
    let digit = or_false (is_ascii_digit c) (eqb c 46 || eqb c 114) e in
    (digit.0, and_false_left (eqb c 46 || eqb c 114) (begins is_ascii_digit cs) digit.1)

-- a number that takes no more has ended
numeral_ends : (p : Part) (n : Numeral) (more : List ℕ) → FitsPart p n → begins (part_takes p) more ≡ false → NumeralEnds n (tail_of p ++ more)
numeral_ends part.Whole (Whole ds) more fits e = whole_ends ds more e
numeral_ends part.Point (Whole ds) more fits e = (refl, e)
numeral_ends part.Over (Whole ds) more fits e = (refl, e)
numeral_ends part.Decimal (Decimal w q) more fits e = e
numeral_ends part.Ratio (Ratio a b) more fits e = e
numeral_ends part.Whole (Decimal w q) more fits e = absurd fits
numeral_ends part.Whole (Ratio a b) more fits e = absurd fits
numeral_ends part.Point (Decimal w q) more fits e = absurd fits
numeral_ends part.Point (Ratio a b) more fits e = absurd fits
numeral_ends part.Over (Decimal w q) more fits e = absurd fits
numeral_ends part.Over (Ratio a b) more fits e = absurd fits
numeral_ends part.Decimal (Whole ds) more fits e = absurd fits
numeral_ends part.Decimal (Ratio a b) more fits e = absurd fits
numeral_ends part.Ratio (Whole ds) more fits e = absurd fits
numeral_ends part.Ratio (Decimal w q) more fits e = absurd fits

abbrev pub number_state : List Token → ℕ → ℕ → ℕ → Part → Numeral → Scan
number_state before start at e p n = scan_at at before [] (pending.Number start e p (figures_of n))

abbrev NumberMeans : List Token → ℕ → ℕ → ℕ → Part → Numeral → List ℕ → Result Scan LexStop → Type 0
NumberMeans before start at e p n more r = CloseMeans before start (numeral_text n ++ tail_of p) at more (pending.Number start e p (figures_of n)) r

-- what is known of a number that takes no more
record IsNumberRead (start at e : ℕ) (p : Part) (n : Numeral) (more : List ℕ) : Type 0 where
  pub fits : IsNumeral n
  pub ends : NumeralEnds n (tail_of p ++ more)
  pub end : e ≡ start + size_of (numeral_text n)
  pub place : at ≡ start + size_of (numeral_text n ++ tail_of p)

-- a number that has its last digit
digit_ended : (before : List Token) (start at e : ℕ) (p : Part) (n : Numeral) (more : List ℕ) (kind : Kind) → tail_of p ≡ [] → ends_in_digit (pending.Number start e p (figures_of n)) ≡ true → IsNumberRead start at e p n more
    → kind_of (is_power_place before) (Number n) ≡ Some kind → NumberMeans before start at e p n more (Ok (pushed (number_state before start at e p n) kind start e))
digit_ended before start at e p n more kind no_tail digit r is_kind =
    let text : numeral_text n ++ tail_of p ≡ numeral_text n = ap (λ x. numeral_text n ++ x) no_tail ∙ append_nil (numeral_text n) in
    let same : at ≡ e = r.place ∙ ap (λ x. start + size_of x) text ∙ sym r.end in (
      refl,
      λ answer alone m.
          next_token before start _ _ more answer
          (token_here before start (Number n) more _ kind e (ap (λ x. x ++ more) text) r.fits (subst (λ x. NumeralEnds n (x ++ more)) no_tail r.ends) (alone digit) is_kind r.end)
          (subst (λ x. Means (before ++ record { kind = kind; start = start; end = e; glued = is_glued before start } ∷ []) x more answer) same m),
    )

pub dot_ends : (more : List ℕ) → SignEnds (46 ∷ []) more
dot_ends [] = tt
dot_ends (c ∷ cs) = (λ k e. double_none (symbol_text-double 46 c k e), λ e. dot_slash e)
  where
    double_none : {k : Symbol} → ◌≡◌ {A = Option Symbol} None (Some k) → ⊥
    double_none e = cc

    dot_slash : ◌≡◌ {A = List ℕ} (46 ∷ c ∷ []) (47 ∷ 47 ∷ []) → ⊥
    dot_slash e = let same : ◌≡◌ {A = ℕ} 46 47 = cc in omega (arith, same)

point_ended : (before : List Token) (start at e : ℕ) (n : Numeral) (more : List ℕ) (which : Kind) → IsNumberRead start at e part.Point n more
    → kind_of (is_power_place before) (Number n) ≡ Some which → NumberMeans before start at e part.Point n more (Ok (pushed (pushed (number_state before start at e part.Point n) which start e) (kind.Sign symbol.Dot) e at))
point_ended before start at e n more which r is_kind = (
  refl,
  λ answer alone m.
      next_token before start _ _ (46 ∷ more) answer
      (token_here before start (Number n) (46 ∷ more) _ which e (append_assoc (numeral_text n) (46 ∷ []) more) r.fits r.ends (is_xid_continue-ascii 46 (lit< tt)) is_kind r.end)
      (next_token (before ++ _ ∷ []) e (46 ∷ more) _ more answer
      (token_here (before ++ _ ∷ []) e (Sign symbol.Dot) more (46 ∷ more) (kind.Sign symbol.Dot) at refl tt (dot_ends more) tt refl (omega (arith, r.place, r.end, size_of-append (numeral_text n) (46 ∷ []))))
      m),
)

is_number_at : (start at e : ℕ) (p : Part) (n : Numeral) (more : List ℕ) → IsNumberRead start at e p n more → IsNumberAt ((numeral_text n ++ tail_of p) ++ more) n (tail_of p ++ more)
is_number_at start at e p n more r = record { cut = append_assoc (numeral_text n) (tail_of p) more; fits = r.fits; longest = r.ends }

over_ended : (before : List Token) (start at e : ℕ) (n : Numeral) (more : List ℕ) (kind : Kind) → IsNumberRead start at e part.Over n more
    → kind_of (is_power_place before) (Number n) ≡ Some kind → NumberMeans before start at e part.Over n more (Err (BadChar e))
over_ended before start at e n more kind r is_kind =
    faulty_here before start _ (BadChar e) (inr (n, 114 ∷ more, is_number_at start at e part.Over n more r, λ none. none_some (sym none ∙ is_kind), is_xid_continue-ascii 114 (lit< tt), r.end))
  where
    none_some : ◌≡◌ {A = Option Kind} None (Some kind) → ⊥
    none_some e = cc

number_kept : (before : List Token) (start at e : ℕ) (p : Part) (n : Numeral) (more : List ℕ) (kind : Kind) → IsNumberRead start at e p n more
    → kind_of (is_power_place before) (Number n) ≡ Some kind → NumberMeans before start at e p n more (part_pushed p (pushed (number_state before start at e p n) kind start e) e)
number_kept before start at e part.Whole n more kind r is_kind = digit_ended before start at e part.Whole n more kind refl refl r is_kind
number_kept before start at e part.Decimal n more kind r is_kind = digit_ended before start at e part.Decimal n more kind refl refl r is_kind
number_kept before start at e part.Ratio n more kind r is_kind = digit_ended before start at e part.Ratio n more kind refl refl r is_kind
number_kept before start at e part.Point n more kind r is_kind = point_ended before start at e n more kind r is_kind
number_kept before start at e part.Over n more kind r is_kind = over_ended before start at e n more kind r is_kind

number_refused : (before : List Token) (start at e : ℕ) (p : Part) (n : Numeral) (more : List ℕ) → IsNumberRead start at e p n more → (power : Bool) → is_power_place before ≡ power
    → kind_of power (Number n) ≡ None → NumberMeans before start at e p n more (number_pushed (number_state before start at e p n) start e p power None)
number_refused before start at e p n more r true power none = faulty_here before start _ (PowerText start) (refl, power, (n, _, is_number_at start at e p n more r, none))
number_refused before start at e p n more r false power none = faulty_here before start _ (NumberRange start) (refl, power, (n, _, is_number_at start at e p n more r, none))

pub close_number : (before : List Token) (start at e : ℕ) (p : Part) (n : Numeral) (more : List ℕ) → IsNumeral n → FitsPart p n → e ≡ start + size_of (numeral_text n) → at ≡ start + size_of (numeral_text n ++ tail_of p)
    → begins (part_takes p) more ≡ false → NumberMeans before start at e p n more (close (number_state before start at e p n) (pending.Number start e p (figures_of n)))
close_number before start at e p n more fits has end place untaken =
    rw (figures_kind-of (is_power_place before) p n fits (whole_part p n has)) (by_kind (kind_of (is_power_place before) (Number n)) refl)
  where
    r : IsNumberRead start at e p n more
    r = record { fits = fits; ends = numeral_ends p n more has untaken; end = end; place = place }

    by_kind : (o : Option Kind) → kind_of (is_power_place before) (Number n) ≡ o → NumberMeans before start at e p n more (number_pushed (number_state before start at e p n) start e p (is_power_place before) o)
    by_kind (Some kind) is = number_kept before start at e p n more kind r is
    by_kind None is = number_refused before start at e p n more r (is_power_place before) refl is

-- signs
single_ends : (k : Symbol) (c : ℕ) (more : List ℕ) → symbol_text k ≡ c ∷ [] → begins (takes (pending.Symbol 0 c)) more ≡ false → SignEnds (symbol_text k) more
single_ends k c more e untaken = subst (λ x. SignEnds x more) (sym e) (ends more untaken)
  where
    ends : (more : List ℕ) → begins (takes (pending.Symbol 0 c)) more ≡ false → SignEnds (c ∷ []) more
    ends [] u = tt
    ends (d ∷ ds) u =
        let parts = or_false (is_some (double_symbol c d)) (eqb c 47 && eqb d 47) u in (
          λ j t. false≢true (sym parts.0 ∙ ap is_some (symbol_text-double c d j t)),
          λ t. let first : c ≡ 47 = cc in let second : d ≡ 47 = cc in false≢true (sym parts.1 ∙ ap (λ x. eqb x 47 && eqb d 47) first ∙ ap (λ y. eqb y 47) second),
        )

ampersand_head : (more : List ℕ) → begins (takes (pending.Symbol 0 38)) more ≡ false → NoHead 38 more
ampersand_head more untaken = record {
  name = ampersand_no_name;
  digit = refl;
  single = refl;
  double = λ b rest e. let u = sym (ap (begins (takes (pending.Symbol 0 38))) e) ∙ untaken in (or_false (is_some (double_symbol 38 b)) (eqb 38 47 && eqb b 47) u).0;
  variable = λ e. absurd (not_quote e);
}
  where
    not_quote : ◌≡◌ {A = ℕ} 38 39 → ⊥
    not_quote e = omega (arith, e)

abbrev SymbolMeans : List Token → ℕ → ℕ → ℕ → List ℕ → Result Scan LexStop → Type 0
SymbolMeans before start at first more r = CloseMeans before start (first ∷ []) at more (pending.Symbol start first) r

pub close_symbol : (before : List Token) (start at first : ℕ) (more : List ℕ) → at ≡ start + size_of (first ∷ []) → (is_some (single_symbol first) || eqb first 38) ≡ true
    → begins (takes (pending.Symbol 0 first)) more ≡ false → SymbolMeans before start at first more (close (scan_at at before [] (pending.Symbol start first)) (pending.Symbol start first))
close_symbol before start at first more place begun untaken = by_sign (single_symbol first) refl
  where
    sign : (k : Symbol) → single_symbol first ≡ Some k → SymbolMeans before start at first more (sign_pushed (scan_at at before [] (pending.Symbol start first)) start (Some k))
    sign k e =
        let t = single_symbol-text first k e in (
          refl,
          λ answer alone m.
              next_token before start _ _ more answer
              (token_here before start (Sign k) more _ (kind.Sign k) at (ap (λ x. x ++ more) (sym t)) tt (single_ends k first more t untaken) tt refl (place ∙ ap (λ x. start + size_of x) (sym t)))
              m,
        )

    ampersand : single_symbol first ≡ None → Means before start (first ∷ more) (Err (BadChar start))
    ampersand e =
        let is : eqb first 38 ≡ true = sym (ap (λ o. is_some o || eqb first 38) e) ∙ begun in
        let same = eqb-true first 38 is in
        subst (λ x. Means before start (x ∷ more) (Err (BadChar start))) (sym same)
        (faulty_here before start (38 ∷ more) (BadChar start) (inl (refl, nothing_at 38 more refl (ampersand_head more (subst (λ x. begins (takes (pending.Symbol 0 x)) more ≡ false) same untaken)))))

    by_sign : (o : Option Symbol) → single_symbol first ≡ o → SymbolMeans before start at first more (close (scan_at at before [] (pending.Symbol start first)) (pending.Symbol start first))
    by_sign (Some k) e = rw e (sign k e)
    by_sign None e = rw e (ampersand e)

-- a letter directly after a number that keeps its rule
none_refused : (s : Scan) (start e : ℕ) (p : Part) (power : Bool) (new : Scan) → number_pushed s start e p power None ≡ Ok new → ⊥
none_refused s start e p true new same = cc
none_refused s start e p false new same = cc

pub number_tail : (before : List Token) (start at e : ℕ) (p : Part) (n : Numeral) (more : List ℕ) (new : Scan) → IsNumeral n → FitsPart p n → e ≡ start + size_of (numeral_text n) → at ≡ start + size_of (numeral_text n ++ tail_of p)
    → begins (part_takes p) more ≡ false → tail_of p ≡ [] → begins is_xid_continue more ≡ true → close (number_state before start at e p n) (pending.Number start e p (figures_of n)) ≡ Ok new
    → Means before start ((numeral_text n ++ tail_of p) ++ more) (Err (BadChar at))
number_tail before start at e p n more new fits has end place untaken no_tail letter ok =
    faulty_here before start ((numeral_text n ++ tail_of p) ++ more) (BadChar at) (inr (n, tail_of p ++ more, is_number_at start at e p n more r, kept, subst (λ x. begins is_xid_continue (x ++ more) ≡ true) (sym no_tail) letter, place ∙ ap (λ x. start + size_of x) text))
  where
    r : IsNumberRead start at e p n more
    r = record { fits = fits; ends = numeral_ends p n more has untaken; end = end; place = place }

    text : numeral_text n ++ tail_of p ≡ numeral_text n
    text = ap (λ x. numeral_text n ++ x) no_tail ∙ append_nil (numeral_text n)

    kept : kind_of (is_power_place before) (Number n) ≡ None → ⊥
    kept none = none_refused (number_state before start at e p n) start e p (is_power_place before) new
        (ap (λ o. number_pushed (number_state before start at e p n) start e p (is_power_place before) o) (sym none ∙ sym (figures_kind-of (is_power_place before) p n fits (whole_part p n has))) ∙ ok)
