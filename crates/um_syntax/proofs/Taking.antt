-- A character that belongs to what has begun, and one that begins something.
use Rattle.std.proofs.Common.{◌≡◌, ℕ, ◌+◌, ◌-◌, Bool, true, false, cond, ◌&&◌, ◌||◌, eqb, List, [], ◌∷◌, ◌++◌, Option, None, Some, is_some, Result, Ok, Err, refl, sym, ap, subst, ◌∙◌, arith, append_assoc, inl}
use Rattle.std.proofs.lemmas.Bool.{false≢true, eqb-true}
use Rattle.std.proofs.lemmas.Str.{encodes-append}
use Rattle.std.specs.Char.{is_ascii_digit, len_utf8}
use lib.Utf8.{encode, encodes}
use Rattle.unicode_ident.specs.Ident.{is_xid_continue}
use Rattle.um_vocabulary.specs.declared.vocabulary.Symbol.{Symbol}
use Rattle.um_syntax.specs.declared.token.Kind.TheVariants as kind
use Rattle.um_syntax.specs.declared.token.Token.{Token}
use Rattle.um_syntax.specs.declared.token.LexStop.{LexStop}
use Rattle.um_syntax.specs.declared.token.LexStop.TheVariants.{BadChar}
use Rattle.um_syntax.specs.declared.number.Part.{Part}
use Rattle.um_syntax.specs.declared.number.Part.TheVariants as part
use Rattle.um_syntax.specs.declared.pending.Pending.{Pending}
use Rattle.um_syntax.specs.declared.pending.Pending.TheVariants as pending
use Rattle.um_vocabulary.specs.Vocabulary.{symbol_text}
use Rattle.um_syntax.specs.Gap.{is_space, IsLine, nothing, space, comment}
use Rattle.um_syntax.specs.Numeral.{Numeral, Whole, Decimal, Ratio, numeral_text, IsNumeral, IsDigits}
use Rattle.um_syntax.specs.Lexeme.{starts_name, AllContinue, IsIdentifier, Sign, SignEnds}
use Rattle.um_syntax.specs.Lexing.{size_of}
use Rattle.um_syntax.specs.Machine.{Scan, part_takes, takes, first_figures, more_figures, part_after_digit, number_taken, symbol_taken, taken, begun}
use Rattle.um_vocabulary.specs.Tables.{single_symbol, double_symbol}
use Rattle.um_syntax.proofs.Digits.{figures_of, figures-first, figures-whole, figures-point, figures-decimal, figures-over, figures-ratio, AreDigits-append}
use Rattle.um_vocabulary.proofs.Tables.{double_symbol-first, double_symbol-text, symbol_text-three}
use Rattle.um_syntax.proofs.Texts.{nothing_at}
use Rattle.um_syntax.proofs.Meaning.{Means, skip, next_token, faulty_here, token_here}
use Rattle.um_syntax.proofs.Closing.{tail_of, FitsPart, Pends, scan_at, size_of-snoc, append_nil}
use Rattle.um_vocabulary.proofs.Bools.{and_parts}

-- The state after a character means what the state before it meant.
abbrev pub TakeMeans : List Token → ℕ → List ℕ → ℕ → List ℕ → Scan → Type 0
TakeMeans before start text c more s =
    (from : ℕ) × (read : List ℕ) × Pends s.pending s.letters s.at from read
    × ((answer : Result (List Token) LexStop) → Means s.tokens from (read ++ more) answer → Means before start (text ++ c ∷ more) answer)

-- what has begun goes on
goes_on : (before : List Token) (start at : ℕ) (text : List ℕ) (c : ℕ) (more letters : List ℕ) (p : Pending) → Pends p letters at start (text ++ c ∷ []) → TakeMeans before start text c more (scan_at at before letters p)
goes_on before start at text c more letters p pends = (start, text ++ c ∷ [], pends, λ answer m. subst (λ x. Means before start x answer) (append_assoc text (c ∷ []) more) m)

place_on : (start at next : ℕ) (text : List ℕ) (c : ℕ) → at ≡ start + size_of text → next ≡ at + len_utf8 c → next ≡ start + size_of (text ++ c ∷ [])
place_on start at next text c place after = omega (arith, place, after, size_of-snoc text c)

encodes-snoc : (text letters : List ℕ) (c : ℕ) → letters ≡ encodes text → letters ++ encode c ≡ encodes (text ++ c ∷ [])
encodes-snoc text letters c e = ap (λ x. x ++ encode c) e ∙ ap (λ x. encodes text ++ x) (sym (append_nil (encode c))) ∙ sym (encodes-append text (c ∷ []))

IsLine-snoc : (line : List ℕ) (c : ℕ) → IsLine line → eqb c 10 ≡ false → IsLine (line ++ c ∷ [])
IsLine-snoc [] c l e = (e, tt)
IsLine-snoc (d ∷ ds) c l e = (l.0, IsLine-snoc ds c l.1 e)

AllContinue-snoc : (text : List ℕ) (c : ℕ) → AllContinue text → is_xid_continue c ≡ true → AllContinue (text ++ c ∷ [])
AllContinue-snoc [] c a e = (e, tt)
AllContinue-snoc (d ∷ ds) c a e = (a.0, AllContinue-snoc ds c a.1 e)

IsIdentifier-snoc : (text : List ℕ) (c : ℕ) → IsIdentifier text → is_xid_continue c ≡ true → IsIdentifier (text ++ c ∷ [])
IsIdentifier-snoc [] c i e = absurd i
IsIdentifier-snoc (d ∷ ds) c i e = (i.0, AllContinue-snoc ds c i.1 e)

take_comment : (before : List Token) (start at next : ℕ) (line : List ℕ) (c : ℕ) (more : List ℕ) → IsLine line → at ≡ start + size_of (47 ∷ 47 ∷ line) → next ≡ at + len_utf8 c
    → TakeMeans before start (47 ∷ 47 ∷ line) c more (scan_at next before [] (cond (eqb c 10) pending.Free pending.Comment))
take_comment before start at next line c more l place after = by_end (eqb c 10) refl
  where
    ends : eqb c 10 ≡ true → TakeMeans before start (47 ∷ 47 ∷ line) c more (scan_at next before [] pending.Free)
    ends e =
        let feed = eqb-true c 10 e in
        let there : next ≡ start + size_of (47 ∷ 47 ∷ line ++ 10 ∷ []) = place_on start at next (47 ∷ 47 ∷ line) c place after ∙ ap (λ x. start + size_of (47 ∷ 47 ∷ line ++ x ∷ [])) feed in (
          next,
          [],
          (refl, refl, refl),
          λ answer m.
              subst (λ x. Means before start (47 ∷ 47 ∷ (line ++ x ∷ more)) answer) (sym feed)
              (subst (λ x. Means before start (47 ∷ 47 ∷ x) answer) (append_assoc line (10 ∷ []) more)
              (skip (47 ∷ 47 ∷ line ++ 10 ∷ []) (comment line l nothing) before start more answer (subst (λ x. Means before x more answer) there m))),
        )

    by_end : (b : Bool) → eqb c 10 ≡ b → TakeMeans before start (47 ∷ 47 ∷ line) c more (scan_at next before [] (cond (eqb c 10) pending.Free pending.Comment))
    by_end true e = rw e (ends e)
    by_end false e = rw e (goes_on before start next (47 ∷ 47 ∷ line) c more [] pending.Comment
        (refl, place_on start at next (47 ∷ 47 ∷ line) c place after, (line ++ c ∷ [], refl, IsLine-snoc line c l e)))

-- digits of a number
IsDigits-snoc : (ds : List ℕ) (d : ℕ) → IsDigits ds → is_ascii_digit d ≡ true → IsDigits (ds ++ d ∷ [])
IsDigits-snoc [] d i e = absurd i
IsDigits-snoc (x ∷ xs) d i e = (i.0, AreDigits-append xs (d ∷ []) i.1 (e, tt))

-- what a number has become
abbrev NumberPends : Pending → ℕ → ℕ → List ℕ → Type 0
NumberPends p at start text = Pends p [] at start text

digit_taken : (start at next : ℕ) (p : Part) (n : Numeral) (c : ℕ) → IsNumeral n → FitsPart p n → at ≡ start + size_of (numeral_text n ++ tail_of p) → next ≡ at + len_utf8 c → is_ascii_digit c ≡ true
    → NumberPends (pending.Number start next (part_after_digit p) (more_figures p (figures_of n) (c - 48))) next start ((numeral_text n ++ tail_of p) ++ c ∷ [])
digit_taken start at next p n c fits has place after digit = go p n fits has place
  where
    build : (p q : Part) (n m : Numeral) → IsNumeral m → FitsPart q m → more_figures p (figures_of n) (c - 48) ≡ figures_of m → (numeral_text n ++ tail_of p) ++ c ∷ [] ≡ numeral_text m → tail_of q ≡ []
        → at ≡ start + size_of (numeral_text n ++ tail_of p)
        → NumberPends (pending.Number start next q (more_figures p (figures_of n) (c - 48))) next start ((numeral_text n ++ tail_of p) ++ c ∷ [])
    build p q n m is fit same text no_tail place =
        let there = place_on start at next (numeral_text n ++ tail_of p) c place after in
        let whole : (numeral_text n ++ tail_of p) ++ c ∷ [] ≡ numeral_text m ++ tail_of q = text ∙ sym (append_nil (numeral_text m)) ∙ ap (λ x. numeral_text m ++ x) (sym no_tail) in
        (refl, there, refl, (m, is, same, whole, there ∙ ap (λ x. start + size_of x) text, fit))

    go : (p : Part) (n : Numeral) → IsNumeral n → FitsPart p n → at ≡ start + size_of (numeral_text n ++ tail_of p)
        → NumberPends (pending.Number start next (part_after_digit p) (more_figures p (figures_of n) (c - 48))) next start ((numeral_text n ++ tail_of p) ++ c ∷ [])
    go part.Whole (Whole ds) i f place = build part.Whole part.Whole (Whole ds) (Whole (ds ++ c ∷ [])) (IsDigits-snoc ds c i digit) tt (figures-whole ds c digit) (ap (λ x. x ++ c ∷ []) (append_nil ds)) refl place
    go part.Point (Whole ds) i f place = build part.Point part.Decimal (Whole ds) (Decimal ds (c ∷ [])) (i, (digit, tt)) tt (figures-point ds c digit) (append_assoc ds (46 ∷ []) (c ∷ [])) refl place
    go part.Over (Whole ds) i f place = build part.Over part.Ratio (Whole ds) (Ratio ds (c ∷ [])) (i, (digit, tt)) tt (figures-over ds c digit) (append_assoc ds (114 ∷ []) (c ∷ [])) refl place
    go part.Decimal (Decimal w q) i f place =
        build part.Decimal part.Decimal (Decimal w q) (Decimal w (q ++ c ∷ [])) (i.0, IsDigits-snoc q c i.1 digit) tt (figures-decimal w q c digit) (ap (λ x. x ++ c ∷ []) (append_nil (w ++ 46 ∷ q)) ∙ append_assoc w (46 ∷ q) (c ∷ [])) refl place
    go part.Ratio (Ratio a b) i f place =
        build part.Ratio part.Ratio (Ratio a b) (Ratio a (b ++ c ∷ [])) (i.0, IsDigits-snoc b c i.1 digit) tt (figures-ratio a b c digit) (ap (λ x. x ++ c ∷ []) (append_nil (a ++ 114 ∷ b)) ∙ append_assoc a (114 ∷ b) (c ∷ [])) refl place
    go part.Whole (Decimal w q) i f place = absurd f
    go part.Whole (Ratio a b) i f place = absurd f
    go part.Point (Decimal w q) i f place = absurd f
    go part.Point (Ratio a b) i f place = absurd f
    go part.Over (Decimal w q) i f place = absurd f
    go part.Over (Ratio a b) i f place = absurd f
    go part.Decimal (Whole ds) i f place = absurd f
    go part.Decimal (Ratio a b) i f place = absurd f
    go part.Ratio (Whole ds) i f place = absurd f
    go part.Ratio (Decimal w q) i f place = absurd f

or_left_false : (a b : Bool) → (a || b) ≡ true → a ≡ false → b ≡ true
or_left_false true b e f = absurd (false≢true (sym f))
or_left_false false b e f = e

-- a point or an r after digits
mark_taken : (start at next e : ℕ) (n : Numeral) (ds : List ℕ) (c : ℕ) → n ≡ Whole ds → IsDigits ds → at ≡ start + size_of (ds ++ []) → e ≡ start + size_of ds → next ≡ at + len_utf8 c → (eqb c 46 || eqb c 114) ≡ true
    → NumberPends (pending.Number start e (cond (eqb c 46) part.Point part.Over) (figures_of (Whole ds))) next start ((ds ++ []) ++ c ∷ [])
mark_taken start at next e n ds c same digits place end after mark = by_mark (eqb c 46) refl
  where
    there : next ≡ start + size_of ((ds ++ []) ++ c ∷ [])
    there = place_on start at next (ds ++ []) c place after

    text : (x : ℕ) → c ≡ x → (ds ++ []) ++ c ∷ [] ≡ ds ++ x ∷ []
    text x is = ap (λ y. y ++ c ∷ []) (append_nil ds) ∙ ap (λ y. ds ++ y ∷ []) is

    by_mark : (b : Bool) → eqb c 46 ≡ b → NumberPends (pending.Number start e (cond (eqb c 46) part.Point part.Over) (figures_of (Whole ds))) next start ((ds ++ []) ++ c ∷ [])
    by_mark true e = rw e (refl, there, refl, (Whole ds, digits, refl, text 46 (eqb-true c 46 e), end, tt))
    by_mark false e = let is = eqb-true c 114 (or_left_false (eqb c 46) (eqb c 114) mark e) in rw e (refl, there, refl, (Whole ds, digits, refl, text 114 is, end, tt))

take_number : (before : List Token) (start at next e : ℕ) (p : Part) (n : Numeral) (c : ℕ) (more : List ℕ) → IsNumeral n → FitsPart p n → e ≡ start + size_of (numeral_text n) → at ≡ start + size_of (numeral_text n ++ tail_of p)
    → next ≡ at + len_utf8 c → part_takes p c ≡ true
    → TakeMeans before start (numeral_text n ++ tail_of p) c more (scan_at next before [] (number_taken start e p (figures_of n) c next))
take_number before start at next e p n c more fits has end place after taking = by_digit (is_ascii_digit c) refl
  where
    marked : (p : Part) (n : Numeral) → IsNumeral n → FitsPart p n → e ≡ start + size_of (numeral_text n) → at ≡ start + size_of (numeral_text n ++ tail_of p) → part_takes p c ≡ true → is_ascii_digit c ≡ false
        → NumberPends (pending.Number start e (cond (eqb c 46) part.Point part.Over) (figures_of n)) next start ((numeral_text n ++ tail_of p) ++ c ∷ [])
    marked part.Whole (Whole ds) i f end place t d = mark_taken start at next e (Whole ds) ds c refl i place end after (or_left_false (is_ascii_digit c) (eqb c 46 || eqb c 114) t d)
    marked part.Whole (Decimal w q) i f end place t d = absurd f
    marked part.Whole (Ratio a b) i f end place t d = absurd f
    marked part.Point n i f end place t d = absurd (false≢true (sym d ∙ t))
    marked part.Decimal n i f end place t d = absurd (false≢true (sym d ∙ t))
    marked part.Over n i f end place t d = absurd (false≢true (sym d ∙ t))
    marked part.Ratio n i f end place t d = absurd (false≢true (sym d ∙ t))

    by_digit : (b : Bool) → is_ascii_digit c ≡ b → TakeMeans before start (numeral_text n ++ tail_of p) c more (scan_at next before [] (number_taken start e p (figures_of n) c next))
    by_digit true d = rw d (goes_on before start next (numeral_text n ++ tail_of p) c more [] (pending.Number start next (part_after_digit p) (more_figures p (figures_of n) (c - 48))) (digit_taken start at next p n c fits has place after d))
    by_digit false d = rw d (goes_on before start next (numeral_text n ++ tail_of p) c more [] (pending.Number start e (cond (eqb c 46) part.Point part.Over) (figures_of n)) (marked p n fits has end place taking d))

-- no sign of two characters goes on
double_ends : (a b : ℕ) (k : Symbol) (more : List ℕ) → symbol_text k ≡ a ∷ b ∷ [] → SignEnds (symbol_text k) more
double_ends a b k more e = subst (λ x. SignEnds x more) (sym e) (ends more)
  where
    ends : (more : List ℕ) → SignEnds (a ∷ b ∷ []) more
    ends [] = tt
    ends (c ∷ cs) = (λ j t. symbol_text-three a b c [] j t, λ t. three_two t)
      where
        three_two : ◌≡◌ {A = List ℕ} (a ∷ b ∷ c ∷ []) (47 ∷ 47 ∷ []) → ⊥
        three_two t = cc

take_symbol : (before : List Token) (start at next first : ℕ) (c : ℕ) (more : List ℕ) → at ≡ start + size_of (first ∷ []) → next ≡ at + len_utf8 c → (is_some (double_symbol first c) || (eqb first 47 && eqb c 47)) ≡ true
    → TakeMeans before start (first ∷ []) c more (symbol_taken (scan_at at before [] (pending.Symbol start first)) start next (double_symbol first c))
take_symbol before start at next first c more place after taking = by_sign (double_symbol first c) refl
  where
    there : next ≡ start + size_of (first ∷ c ∷ [])
    there = place_on start at next (first ∷ []) c place after

    sign : (k : Symbol) → double_symbol first c ≡ Some k → TakeMeans before start (first ∷ []) c more (symbol_taken (scan_at at before [] (pending.Symbol start first)) start next (Some k))
    sign k e =
        let t = double_symbol-text first c k e in (
          next,
          [],
          (refl, refl, refl),
          λ answer m.
              next_token before start _ _ more answer
              (token_here before start (Sign k) more _ (kind.Sign k) next (ap (λ x. x ++ more) (sym t)) tt (double_ends first c k more t) tt refl (there ∙ ap (λ x. start + size_of x) (sym t)))
              m,
        )

    slashes : double_symbol first c ≡ None → TakeMeans before start (first ∷ []) c more (symbol_taken (scan_at at before [] (pending.Symbol start first)) start next None)
    slashes e =
        let is = and_parts (eqb first 47) (eqb c 47) (sym (ap (λ o. is_some o || (eqb first 47 && eqb c 47)) e) ∙ taking) in
        let one = eqb-true first 47 is.0 in
        let two = eqb-true c 47 is.1 in
        goes_on before start next (first ∷ []) c more [] pending.Comment (refl, there, ([], ap (λ x. x ∷ c ∷ []) one ∙ ap (λ x. 47 ∷ x ∷ []) two, tt))

    by_sign : (o : Option Symbol) → double_symbol first c ≡ o → TakeMeans before start (first ∷ []) c more (symbol_taken (scan_at at before [] (pending.Symbol start first)) start next (double_symbol first c))
    by_sign (Some k) e = rw e (sign k e)
    by_sign None e = rw e (slashes e)

-- a character that belongs to what has begun
pub take_sound : (before : List Token) (start at next : ℕ) (letters text : List ℕ) (p : Pending) (c : ℕ) (more : List ℕ) → Pends p letters at start text → next ≡ at + len_utf8 c → takes p c ≡ true
    → TakeMeans before start text c more (taken (scan_at at before letters p) p c next)
take_sound before start at next letters text pending.Start c more h after t = absurd h
take_sound before start at next letters text pending.Free c more h after t = absurd (false≢true t)
take_sound before start at next letters text pending.Comment c more h after t =
    let m = take_comment before start at next h.2.0 c more h.2.2 (h.1 ∙ ap (λ x. start + size_of x) h.2.1) after in
    subst (λ x. TakeMeans before start x c more (scan_at next before letters (cond (eqb c 10) pending.Free pending.Comment))) (sym h.2.1)
    (subst (λ l. TakeMeans before start (47 ∷ 47 ∷ h.2.0) c more (scan_at next before l (cond (eqb c 10) pending.Free pending.Comment))) (sym h.0) m)
take_sound before start at next letters text (pending.Identifier b) c more h after t =
    goes_on before start next text c more (letters ++ encode c) (pending.Identifier b)
    (h.0, place_on start at next text c h.1 after, encodes-snoc text letters c h.2, IsIdentifier-snoc text c h.3 t)
take_sound before start at next letters text (pending.Quote b) c more h after t =
    goes_on before start next text c more (letters ++ encode c) (pending.Variable b at)
    (h.0, place_on start at next text c h.1 after, ([], c, ap (λ x. x ++ c ∷ []) h.3, (t, tt), encodes-snoc [] letters c h.2, h.1 ∙ ap (λ x. start + size_of x) h.3))
take_sound before start at next letters text (pending.Variable b last) c more h after t =
    let w = h.2 in
    goes_on before start next text c more (letters ++ encode c) (pending.Variable b at) (
      h.0,
      place_on start at next text c h.1 after,
      (w.0 ++ w.1 ∷ [], c, ap (λ x. x ++ c ∷ []) w.2, IsIdentifier-snoc (w.0 ++ w.1 ∷ []) c w.3 t, encodes-snoc (w.0 ++ w.1 ∷ []) letters c w.4, h.1 ∙ ap (λ x. start + size_of x) w.2),
    )
take_sound before start at next letters text (pending.Number b e p f) c more h after t =
    let w = h.3 in
    let m = take_number before start at next e p w.0 c more w.1 w.5 w.4 (h.1 ∙ ap (λ x. start + size_of x) w.3) after t in
    subst (λ x. TakeMeans before start x c more (scan_at next before letters (number_taken b e p f c next))) (sym w.3)
    (subst (λ l. TakeMeans before start (numeral_text w.0 ++ tail_of p) c more (scan_at next before l (number_taken b e p f c next))) (sym h.2)
    (subst (λ g. TakeMeans before start (numeral_text w.0 ++ tail_of p) c more (scan_at next before [] (number_taken b e p g c next))) (sym w.2)
    (subst (λ s. TakeMeans before start (numeral_text w.0 ++ tail_of p) c more (scan_at next before [] (number_taken s e p (figures_of w.0) c next))) (sym h.0) m)))
take_sound before start at next letters text (pending.Symbol b first) c more h after t =
    let m = take_symbol before start at next first c more (h.1 ∙ ap (λ x. start + size_of x) h.3) after t in
    subst (λ x. TakeMeans before start x c more (symbol_taken (scan_at at before letters (pending.Symbol b first)) b next (double_symbol first c))) (sym h.3)
    (subst (λ l. TakeMeans before start (first ∷ []) c more (symbol_taken (scan_at at before l (pending.Symbol b first)) b next (double_symbol first c))) (sym h.2)
    (subst (λ s. TakeMeans before start (first ∷ []) c more (symbol_taken (scan_at at before [] (pending.Symbol s first)) s next (double_symbol first c))) (sym h.0) m))

-- the state after a character that begins something
abbrev pub BeginMeans : List Token → ℕ → ℕ → List ℕ → Result Scan LexStop → Type 0
BeginMeans before at c more (Ok s) =
    (from : ℕ) × (read : List ℕ) × Pends s.pending s.letters s.at from read
    × ((answer : Result (List Token) LexStop) → Means s.tokens from (read ++ more) answer → Means before at (c ∷ more) answer)
BeginMeans before at c more (Err stop) = Means before at (c ∷ more) (Err stop)

stands : (before : List Token) (at next c : ℕ) (more letters : List ℕ) (p : Pending) → Pends p letters next at (c ∷ []) → BeginMeans before at c more (Ok (scan_at next before letters p))
stands before at next c more letters p pends = (at, c ∷ [], pends, λ answer m. m)

free_state : List Token → ℕ → Scan
free_state before at = scan_at at before [] pending.Free

-- the five tests, one after the other
begin_space : (before : List Token) (at next c : ℕ) (more : List ℕ) → next ≡ at + len_utf8 c → is_space c ≡ true → BeginMeans before at c more (Ok (scan_at next before [] pending.Free))
begin_space before at next c more after e =
    let there : next ≡ at + size_of (c ∷ []) = omega (arith, after) in
    (next, [], (refl, refl, refl), λ answer m. skip (c ∷ []) (space e nothing) before at more answer (subst (λ x. Means before x more answer) there m))

begin_name : (before : List Token) (at next c : ℕ) (more : List ℕ) → next ≡ at + len_utf8 c → starts_name c ≡ true → BeginMeans before at c more (Ok (scan_at next before ([] ++ encode c) (pending.Identifier at)))
begin_name before at next c more after e =
    let there : next ≡ at + size_of (c ∷ []) = omega (arith, after) in
    stands before at next c more ([] ++ encode c) (pending.Identifier at) (refl, there, encodes-snoc [] [] c refl, (e, tt))

begin_digit : (before : List Token) (at next c : ℕ) (more : List ℕ) → next ≡ at + len_utf8 c → is_ascii_digit c ≡ true → BeginMeans before at c more (Ok (scan_at next before [] (pending.Number at next part.Whole (first_figures (c - 48)))))
begin_digit before at next c more after e =
    let there : next ≡ at + size_of (c ∷ []) = omega (arith, after) in
    stands before at next c more [] (pending.Number at next part.Whole (first_figures (c - 48))) (refl, there, refl, (Whole (c ∷ []), (e, tt), figures-first c e, refl, there, tt))

begin_quote : (before : List Token) (at next c : ℕ) (more : List ℕ) → next ≡ at + len_utf8 c → eqb c 39 ≡ true → BeginMeans before at c more (Ok (scan_at next before [] (pending.Quote at)))
begin_quote before at next c more after e =
    let there : next ≡ at + size_of (c ∷ []) = omega (arith, after) in
    stands before at next c more [] (pending.Quote at) (refl, there, refl, ap (λ x. x ∷ []) (eqb-true c 39 e))

begin_symbol : (before : List Token) (at next c : ℕ) (more : List ℕ) → next ≡ at + len_utf8 c → (is_some (single_symbol c) || eqb c 38) ≡ true → BeginMeans before at c more (Ok (scan_at next before [] (pending.Symbol at c)))
begin_symbol before at next c more after e =
    let there : next ≡ at + size_of (c ∷ []) = omega (arith, after) in
    stands before at next c more [] (pending.Symbol at c) (refl, there, refl, refl, e)

-- a sign of two characters begins with a sign, or with an ampersand
double_begins : (a b : ℕ) → is_some (double_symbol a b) ≡ true → (is_some (single_symbol a) || eqb a 38) ≡ true
double_begins a b e = by_sign (double_symbol a b) refl e
  where
    by_sign : (o : Option Symbol) → double_symbol a b ≡ o → is_some o ≡ true → (is_some (single_symbol a) || eqb a 38) ≡ true
    by_sign (Some k) is e = double_symbol-first a b k is
    by_sign None is e = absurd (false≢true e)

begin_none : (before : List Token) (at c : ℕ) (more : List ℕ) → is_space c ≡ false → starts_name c ≡ false → is_ascii_digit c ≡ false → eqb c 39 ≡ false → (is_some (single_symbol c) || eqb c 38) ≡ false
    → Means before at (c ∷ more) (Err (BadChar at))
begin_none before at c more no_space no_name no_digit no_quote no_sign = faulty_here before at (c ∷ more) (BadChar at) (inl (
  refl,
  nothing_at c more no_space (record {
    name = no_name;
    digit = no_digit;
    single = or_false-left (is_some (single_symbol c)) (eqb c 38) no_sign;
    double = λ b rest e. is_false (is_some (double_symbol c b)) (λ d. false≢true (sym no_sign ∙ double_begins c b d));
    variable = λ e. absurd (quote e);
  }),
))
  where
    or_false-left : (a b : Bool) → (a || b) ≡ false → a ≡ false
    or_false-left true b e = absurd (false≢true (sym e))
    or_false-left false b e = refl

    is_false : (b : Bool) → (b ≡ true → ⊥) → b ≡ false
    is_false true h = absurd (h refl)
    is_false false h = refl

    quote : c ≡ 39 → ⊥
    quote e = false≢true (sym no_quote ∙ ap (λ x. eqb x 39) e)

pub begin_sound : (before : List Token) (at next c : ℕ) (more : List ℕ) → next ≡ at + len_utf8 c → BeginMeans before at c more (begun (scan_at at before [] pending.Free) c next)
begin_sound before at next c more after = by_space (is_space c) refl
  where
    by_sign : is_space c ≡ false → starts_name c ≡ false → is_ascii_digit c ≡ false → eqb c 39 ≡ false → (b : Bool) → (is_some (single_symbol c) || eqb c 38) ≡ b
        → BeginMeans before at c more (cond b (Ok (scan_at next before [] (pending.Symbol at c))) (Err (BadChar at)))
    by_sign s n d q true e = begin_symbol before at next c more after e
    by_sign s n d q false e = begin_none before at c more s n d q e

    by_quote : is_space c ≡ false → starts_name c ≡ false → is_ascii_digit c ≡ false → (b : Bool) → eqb c 39 ≡ b
        → BeginMeans before at c more (cond b (Ok (scan_at next before [] (pending.Quote at))) (cond (is_some (single_symbol c) || eqb c 38) (Ok (scan_at next before [] (pending.Symbol at c))) (Err (BadChar at))))
    by_quote s n d true e = begin_quote before at next c more after e
    by_quote s n d false e = by_sign s n d e (is_some (single_symbol c) || eqb c 38) refl

    by_digit : is_space c ≡ false → starts_name c ≡ false → (b : Bool) → is_ascii_digit c ≡ b
        → BeginMeans before at c more (cond b (Ok (scan_at next before [] (pending.Number at next part.Whole (first_figures (c - 48))))) (cond (eqb c 39) (Ok (scan_at next before [] (pending.Quote at))) (cond (is_some (single_symbol c) || eqb c 38) (Ok (scan_at next before [] (pending.Symbol at c))) (Err (BadChar at)))))
    by_digit s n true e = begin_digit before at next c more after e
    by_digit s n false e = by_quote s n e (eqb c 39) refl

    by_name : is_space c ≡ false → (b : Bool) → starts_name c ≡ b
        → BeginMeans before at c more (cond b (Ok (scan_at next before ([] ++ encode c) (pending.Identifier at))) (cond (is_ascii_digit c) (Ok (scan_at next before [] (pending.Number at next part.Whole (first_figures (c - 48))))) (cond (eqb c 39) (Ok (scan_at next before [] (pending.Quote at))) (cond (is_some (single_symbol c) || eqb c 38) (Ok (scan_at next before [] (pending.Symbol at c))) (Err (BadChar at))))))
    by_name s true e = begin_name before at next c more after e
    by_name s false e = by_digit s e (is_ascii_digit c) refl

    by_space : (b : Bool) → is_space c ≡ b → BeginMeans before at c more (begun (scan_at at before [] pending.Free) c next)
    by_space true e = rw e (begin_space before at next c more after e)
    by_space false e = rw e (by_name e (starts_name c) refl)
