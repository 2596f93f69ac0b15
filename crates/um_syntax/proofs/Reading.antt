-- How the machine reads a gap and the text of a token.
use Rattle.std.proofs.Common.{◌≡◌, ℕ, ◌+◌, ◌-◌, ◌<◌, Bool, true, false, ◌||◌, eqb, List, [], ◌∷◌, ◌++◌, is_some, Result, Ok, Err, refl, sym, ap, ◌∙◌, arith, append_assoc, add_assoc, ◌⊎◌, inl, inr, ⊎_elim, lit<}
use Rattle.std.proofs.lemmas.Bool.{false≢true, eqb-true}
use Rattle.std.proofs.lemmas.Bool.Decides.{nat_tests}
use Rattle.std.specs.Char.{is_ascii_digit, is_ascii_alphabetic, len_utf8}
use lib.Utf8.{encode, encodes}
use Rattle.unicode_ident.specs.Ident.{is_xid_continue}
use Rattle.unicode_ident.proofs.IdentLemmas.{is_xid_start-ascii}
use Rattle.um_syntax.specs.declared.token.Token.{Token}
use Rattle.um_syntax.specs.declared.token.LexStop.{LexStop}
use Rattle.um_syntax.specs.declared.number.Part.{Part}
use Rattle.um_syntax.specs.declared.number.Part.TheVariants as part
use Rattle.um_syntax.specs.declared.pending.Pending.TheVariants as pending
use Rattle.um_syntax.specs.Gap.{is_space, IsLine, IsGap, nothing, space, comment}
use Rattle.um_syntax.specs.Numeral.{Numeral, Whole, Decimal, Ratio, numeral_text, IsNumeral, AreDigits, IsDigits}
use Rattle.um_syntax.specs.Lexeme.{starts_name, AllContinue, IsIdentifier}
use Rattle.um_syntax.specs.Lexing.{size_of}
use Rattle.um_syntax.specs.Machine.{Scan, first_figures, more_figures, part_after_digit, step, steps, ended}
use Rattle.um_vocabulary.specs.Tables.{single_symbol}
use Rattle.um_syntax.proofs.Places.{size_of-append}
use Rattle.um_syntax.proofs.Runs.{steps-stopped}
use Rattle.um_syntax.proofs.Digits.{figures_of, figures-first, figures-whole, figures-point, figures-decimal, figures-over, figures-ratio}
use Rattle.um_syntax.proofs.WordLetters.{IsMark}
use Rattle.um_syntax.proofs.Closing.{scan_at, append_nil, number_state}

-- the answer from a state on
abbrev pub run : Scan → List ℕ → Result (List Token) LexStop
run s cs = ended (steps (Ok s) cs)

pub run_on : (s new : Scan) (c : ℕ) (cs : List ℕ) → step s c ≡ Ok new → run s (c ∷ cs) ≡ run new cs
run_on s new c cs e = ap (λ r. ended (steps r cs)) e

pub run_stop : (s : Scan) (c : ℕ) (cs : List ℕ) (stop : LexStop) → step s c ≡ Err stop → run s (c ∷ cs) ≡ Err stop
run_stop s c cs stop e = ap (λ r. ended (steps r cs)) e ∙ ap ended (steps-stopped stop cs)

abbrev pub free : List Token → ℕ → Scan
free before at = scan_at at before [] pending.Free

-- no letter and no digit is white space, and no digit is a letter
pub starts_no_space : (c : ℕ) → starts_name c ≡ true → is_space c ≡ false
starts_no_space c e = by_space (is_space c) refl
  where
    no_name : (x : ℕ) → x < 128 → (eqb x 95 || is_ascii_alphabetic x) ≡ false → c ≡ x → ⊥
    no_name x small letters same = false≢true (sym letters ∙ ap (λ b. eqb x 95 || b) (sym (is_xid_start-ascii x small)) ∙ ap starts_name (sym same) ∙ e)

    or_cases : (a b : Bool) → (a || b) ≡ true → (a ≡ true) ⊎ (b ≡ true)
    or_cases true b e = inl refl
    or_cases false b e = inr e

    white : is_space c ≡ true → ⊥
    white s =
        ⊎_elim (λ h. no_name 32 (lit< tt) refl (eqb-true c 32 h))
        (λ h. ⊎_elim (λ h. no_name 9 (lit< tt) refl (eqb-true c 9 h))
        (λ h. ⊎_elim (λ h. no_name 13 (lit< tt) refl (eqb-true c 13 h)) (λ h. no_name 10 (lit< tt) refl (eqb-true c 10 h)) (or_cases (eqb c 13) (eqb c 10) h))
        (or_cases (eqb c 9) (eqb c 13 || eqb c 10) h))
        (or_cases (eqb c 32) (eqb c 9 || (eqb c 13 || eqb c 10)) s)

    by_space : (b : Bool) → is_space c ≡ b → is_space c ≡ false
    by_space true s = absurd (white s)
    by_space false s = s

pub digit_no_space : (c : ℕ) → is_ascii_digit c ≡ true → is_space c ≡ false
digit_no_space c e = grind (arith, nat_tests)

digit_small : (c : ℕ) → is_ascii_digit c ≡ true → c < 128
digit_small c e = grind (arith, nat_tests)

digit_no_letter : (c : ℕ) → is_ascii_digit c ≡ true → (eqb c 95 || is_ascii_alphabetic c) ≡ false
digit_no_letter c e = grind (arith, nat_tests)

pub digit_no_name : (c : ℕ) → is_ascii_digit c ≡ true → starts_name c ≡ false
digit_no_name c e = ap (λ b. eqb c 95 || b) (is_xid_start-ascii c (digit_small c e)) ∙ digit_no_letter c e

-- a character that begins something
abbrev begin_step : List Token → ℕ → ℕ → Result Scan LexStop
begin_step before at c = step (free before at) c

pub begin_space : (before : List Token) (at c : ℕ) → is_space c ≡ true → begin_step before at c ≡ Ok (free before (at + len_utf8 c))
begin_space before at c e = rw e refl

pub begin_name : (before : List Token) (at c : ℕ) → starts_name c ≡ true → begin_step before at c ≡ Ok (scan_at (at + len_utf8 c) before (encode c) (pending.Identifier at))
begin_name before at c e = rw (starts_no_space c e, e) refl

pub begin_digit : (before : List Token) (at c : ℕ) → is_ascii_digit c ≡ true
    → begin_step before at c ≡ Ok (scan_at (at + len_utf8 c) before [] (pending.Number at (at + len_utf8 c) part.Whole (first_figures (c - 48))))
begin_digit before at c e = rw (digit_no_space c e, digit_no_name c e, e) refl

pub ascii_no_name : (c : ℕ) → c < 128 → (eqb c 95 || is_ascii_alphabetic c) ≡ false → starts_name c ≡ false
ascii_no_name c small e = ap (λ b. eqb c 95 || b) (is_xid_start-ascii c small) ∙ e

pub begin_quote : (before : List Token) (at : ℕ) → begin_step before at 39 ≡ Ok (scan_at (at + 1) before [] (pending.Quote at))
begin_quote before at = rw (ascii_no_name 39 (lit< tt) refl) refl

pub begin_symbol : (before : List Token) (at c : ℕ) → IsMark c → (is_some (single_symbol c) || eqb c 38) ≡ true → begin_step before at c ≡ Ok (scan_at (at + len_utf8 c) before [] (pending.Symbol at c))
begin_symbol before at c m e = rw (m.0, ascii_no_name c m.1 m.2, m.3, m.4, e) refl

-- a gap
same_place : (p : ℕ → Scan) (a b c : ℕ) → p (a + b + c) ≡ p (a + (b + c))
same_place p a b c = ap p (add_assoc a b c)

comment_run : (before : List Token) (at : ℕ) (line rest : List ℕ) → IsLine line → run (scan_at at before [] pending.Comment) (line ++ 10 ∷ rest) ≡ run (free before (at + size_of (line ++ 10 ∷ []))) rest
comment_run before at [] rest l = run_on (scan_at at before [] pending.Comment) (free before (at + (1 + 0))) 10 rest refl
comment_run before at (c ∷ cs) rest l =
    run_on (scan_at at before [] pending.Comment) (scan_at (at + len_utf8 c) before [] pending.Comment) c (cs ++ 10 ∷ rest) (rw l.0 refl)
    ∙ comment_run before (at + len_utf8 c) cs rest l.1
    ∙ ap (λ p. run (free before p) rest) (add_assoc at (len_utf8 c) (size_of (cs ++ 10 ∷ [])))

slash_mark : IsMark 47
slash_mark = (refl, lit< tt, refl, refl, refl)

pub gap_run : {gap : List ℕ} → IsGap gap → (before : List Token) (at : ℕ) (rest : List ℕ) → run (free before at) (gap ++ rest) ≡ run (free before (at + size_of gap)) rest
gap_run nothing before at rest = ap (λ p. run (free before p) rest) (let e : at ≡ at + 0 = omega arith in e)
gap_run (space {c} {more} e g) before at rest =
    run_on (free before at) (free before (at + len_utf8 c)) c (more ++ rest) (begin_space before at c e)
    ∙ gap_run g before (at + len_utf8 c) rest
    ∙ ap (λ p. run (free before p) rest) (add_assoc at (len_utf8 c) (size_of more))
gap_run (comment line {more} l g) before at rest =
    run_on (free before at) (scan_at (at + 1) before [] (pending.Symbol at 47)) 47 (47 ∷ ((line ++ 10 ∷ more) ++ rest)) (begin_symbol before at 47 slash_mark refl)
    ∙ run_on (scan_at (at + 1) before [] (pending.Symbol at 47)) (scan_at (at + 1 + 1) before [] pending.Comment) 47 ((line ++ 10 ∷ more) ++ rest) refl
    ∙ ap (λ x. run (scan_at (at + 1 + 1) before [] pending.Comment) x) (append_assoc line (10 ∷ more) rest)
    ∙ comment_run before (at + 1 + 1) line (more ++ rest) l
    ∙ gap_run g before (at + 1 + 1 + size_of (line ++ 10 ∷ [])) rest
    ∙ ap (λ p. run (free before p) rest) there
  where
    there : at + 1 + 1 + size_of (line ++ 10 ∷ []) + size_of more ≡ at + size_of (47 ∷ 47 ∷ line ++ 10 ∷ more)
    there = let a = size_of-append line (10 ∷ []) in let b = size_of-append line (10 ∷ more) in omega (arith, a, b)

-- the letters of an identifier and of a variable
letters_run : (before : List Token) (at start : ℕ) (letters cs more : List ℕ) → AllContinue cs → run (scan_at at before letters (pending.Identifier start)) (cs ++ more) ≡ run (scan_at (at + size_of cs) before (letters ++ encodes cs) (pending.Identifier start)) more
letters_run before at start letters [] more all =
    ap (λ p. run (scan_at p before letters (pending.Identifier start)) more) (let e : at ≡ at + 0 = omega arith in e)
    ∙ ap (λ l. run (scan_at (at + 0) before l (pending.Identifier start)) more) (sym (append_nil letters))
letters_run before at start letters (c ∷ cs) more all =
    run_on (scan_at at before letters (pending.Identifier start)) (scan_at (at + len_utf8 c) before (letters ++ encode c) (pending.Identifier start)) c (cs ++ more) (rw all.0 refl)
    ∙ letters_run before (at + len_utf8 c) start (letters ++ encode c) cs more all.1
    ∙ ap (λ p. run (scan_at p before ((letters ++ encode c) ++ encodes cs) (pending.Identifier start)) more) (add_assoc at (len_utf8 c) (size_of cs))
    ∙ ap (λ l. run (scan_at (at + size_of (c ∷ cs)) before l (pending.Identifier start)) more) (append_assoc letters (encode c) (encodes cs))

pub identifier_run : (before : List Token) (at : ℕ) (text more : List ℕ) → IsIdentifier text → run (free before at) (text ++ more) ≡ run (scan_at (at + size_of text) before (encodes text) (pending.Identifier at)) more
identifier_run before at [] more is = absurd is
identifier_run before at (c ∷ cs) more is =
    run_on (free before at) (scan_at (at + len_utf8 c) before (encode c) (pending.Identifier at)) c (cs ++ more) (begin_name before at c is.0)
    ∙ letters_run before (at + len_utf8 c) at (encode c) cs more is.1
    ∙ ap (λ p. run (scan_at p before (encode c ++ encodes cs) (pending.Identifier at)) more) (add_assoc at (len_utf8 c) (size_of cs))

-- a variable's state: the last letter's place counts too
abbrev pub variable_at : List Token → ℕ → ℕ → ℕ → List ℕ → Scan
variable_at before start at last letters = scan_at at before letters (pending.Variable start last)

pub variable_step : (before : List Token) (start at last c : ℕ) (letters : List ℕ) (more : List ℕ) → is_xid_continue c ≡ true
    → run (variable_at before start at last letters) (c ∷ more) ≡ run (variable_at before start (at + len_utf8 c) at (letters ++ encode c)) more
variable_step before start at last c letters more e = run_on (variable_at before start at last letters) (variable_at before start (at + len_utf8 c) at (letters ++ encode c)) c more (rw e refl)

variable_letters_run : (before : List Token) (start at last c : ℕ) (letters cs more : List ℕ) → AllContinue (cs ++ c ∷ [])
    → run (variable_at before start at last letters) ((cs ++ c ∷ []) ++ more) ≡ run (variable_at before start (at + size_of (cs ++ c ∷ [])) (at + size_of cs) (letters ++ encodes (cs ++ c ∷ []))) more
variable_letters_run before start at last c letters [] more all =
    variable_step before start at last c letters more all.0
    ∙ ap (λ p. run (variable_at before start p at (letters ++ encode c)) more) (let e : at + len_utf8 c ≡ at + (len_utf8 c + 0) = omega arith in e)
    ∙ ap (λ p. run (variable_at before start (at + (len_utf8 c + 0)) p (letters ++ encode c)) more) (let e : at ≡ at + 0 = omega arith in e)
    ∙ ap (λ l. run (variable_at before start (at + (len_utf8 c + 0)) (at + 0) (letters ++ l)) more) (sym (append_nil (encode c)))
variable_letters_run before start at last c letters (d ∷ ds) more all =
    variable_step before start at last d letters ((ds ++ c ∷ []) ++ more) all.0
    ∙ variable_letters_run before start (at + len_utf8 d) at c (letters ++ encode d) ds more all.1
    ∙ ap (λ p. run (variable_at before start p (at + len_utf8 d + size_of ds) ((letters ++ encode d) ++ encodes (ds ++ c ∷ []))) more) (add_assoc at (len_utf8 d) (size_of (ds ++ c ∷ [])))
    ∙ ap (λ p. run (variable_at before start (at + size_of (d ∷ (ds ++ c ∷ []))) p ((letters ++ encode d) ++ encodes (ds ++ c ∷ []))) more) (add_assoc at (len_utf8 d) (size_of ds))
    ∙ ap (λ l. run (variable_at before start (at + size_of (d ∷ (ds ++ c ∷ []))) (at + size_of (d ∷ ds)) l) more) (append_assoc letters (encode d) (encodes (ds ++ c ∷ [])))

pub first_letter : (before : List Token) (at c : ℕ) (more : List ℕ) → starts_name c ≡ true → run (free before at) (39 ∷ c ∷ more) ≡ run (variable_at before at (at + 1 + len_utf8 c) (at + 1) (encode c)) more
first_letter before at c more e =
    run_on (free before at) (scan_at (at + 1) before [] (pending.Quote at)) 39 (c ∷ more) (begin_quote before at)
    ∙ run_on (scan_at (at + 1) before [] (pending.Quote at)) (variable_at before at (at + 1 + len_utf8 c) (at + 1) (encode c)) c more (rw e refl)

pub variable_run : (before : List Token) (at c : ℕ) (prefix more : List ℕ) → IsIdentifier (prefix ++ c ∷ [])
    → run (free before at) (39 ∷ ((prefix ++ c ∷ []) ++ more)) ≡ run (variable_at before at (at + size_of (39 ∷ (prefix ++ c ∷ []))) (at + size_of (39 ∷ prefix)) (encodes (prefix ++ c ∷ []))) more
variable_run before at c [] more is =
    first_letter before at c more is.0
    ∙ ap (λ p. run (variable_at before at p (at + 1) (encode c)) more) (let e : at + 1 + len_utf8 c ≡ at + (1 + (len_utf8 c + 0)) = omega arith in e)
    ∙ ap (λ l. run (variable_at before at (at + (1 + (len_utf8 c + 0))) (at + 1) l) more) (sym (append_nil (encode c)))
variable_run before at c (d ∷ ds) more is =
    first_letter before at d ((ds ++ c ∷ []) ++ more) is.0
    ∙ variable_letters_run before at (at + 1 + len_utf8 d) (at + 1) c (encode d) ds more is.1
    ∙ ap (λ p. run (variable_at before at p (at + 1 + len_utf8 d + size_of ds) (encode d ++ encodes (ds ++ c ∷ []))) more) (let e : at + 1 + len_utf8 d + size_of (ds ++ c ∷ []) ≡ at + (1 + (len_utf8 d + size_of (ds ++ c ∷ []))) = omega arith in e)
    ∙ ap (λ p. run (variable_at before at (at + size_of (39 ∷ d ∷ (ds ++ c ∷ []))) p (encode d ++ encodes (ds ++ c ∷ []))) more) (let e : at + 1 + len_utf8 d + size_of ds ≡ at + (1 + (len_utf8 d + size_of ds)) = omega arith in e)

-- the digits of a number; its state has read its last digit
abbrev pub digits_at : List Token → ℕ → ℕ → Part → Numeral → Scan
digits_at before start at p n = number_state before start at at p n

digit_step : (before : List Token) (start at e d : ℕ) (p : Part) (n m : Numeral) (more : List ℕ) → is_ascii_digit d ≡ true → more_figures p (figures_of n) (d - 48) ≡ figures_of m
    → run (number_state before start at e p n) (d ∷ more) ≡ run (digits_at before start (at + len_utf8 d) (part_after_digit p) m) more
digit_step before start at e d p n m more digit same =
    run_on (number_state before start at e p n) (scan_at (at + len_utf8 d) before [] (pending.Number start (at + len_utf8 d) (part_after_digit p) (more_figures p (figures_of n) (d - 48)))) d more (takes_digit p)
    ∙ ap (λ f. run (scan_at (at + len_utf8 d) before [] (pending.Number start (at + len_utf8 d) (part_after_digit p) f)) more) same
  where
    takes_digit : (p : Part) → step (number_state before start at e p n) d ≡ Ok (scan_at (at + len_utf8 d) before [] (pending.Number start (at + len_utf8 d) (part_after_digit p) (more_figures p (figures_of n) (d - 48))))
    takes_digit part.Whole = rw digit refl
    takes_digit part.Point = rw digit refl
    takes_digit part.Decimal = rw digit refl
    takes_digit part.Over = rw digit refl
    takes_digit part.Ratio = rw digit refl

digits_run : (grow : List ℕ → Numeral) (p : Part) → part_after_digit p ≡ p
    → ((ds : List ℕ) (d : ℕ) → is_ascii_digit d ≡ true → more_figures p (figures_of (grow ds)) (d - 48) ≡ figures_of (grow (ds ++ d ∷ [])))
    → (before : List Token) (start at : ℕ) (ds cs more : List ℕ) → AreDigits cs → run (digits_at before start at p (grow ds)) (cs ++ more) ≡ run (digits_at before start (at + size_of cs) p (grow (ds ++ cs))) more
digits_run grow p stays grows before start at ds [] more all =
    ap (λ q. run (digits_at before start q p (grow ds)) more) (let e : at ≡ at + 0 = omega arith in e)
    ∙ ap (λ x. run (digits_at before start (at + 0) p (grow x)) more) (sym (append_nil ds))
digits_run grow p stays grows before start at ds (c ∷ cs) more all =
    digit_step before start at at c p (grow ds) (grow (ds ++ c ∷ [])) (cs ++ more) all.0 (grows ds c all.0)
    ∙ ap (λ q. run (digits_at before start (at + len_utf8 c) q (grow (ds ++ c ∷ []))) (cs ++ more)) stays
    ∙ digits_run grow p stays grows before start (at + len_utf8 c) (ds ++ c ∷ []) cs more all.1
    ∙ ap (λ q. run (digits_at before start q p (grow ((ds ++ c ∷ []) ++ cs))) more) (add_assoc at (len_utf8 c) (size_of cs))
    ∙ ap (λ x. run (digits_at before start (at + size_of (c ∷ cs)) p (grow x)) more) (append_assoc ds (c ∷ []) cs)

whole_run : (before : List Token) (at : ℕ) (ds more : List ℕ) → IsDigits ds → run (free before at) (ds ++ more) ≡ run (digits_at before at (at + size_of ds) part.Whole (Whole ds)) more
whole_run before at [] more is = absurd is
whole_run before at (d ∷ ds) more is =
    run_on (free before at) (scan_at (at + len_utf8 d) before [] (pending.Number at (at + len_utf8 d) part.Whole (first_figures (d - 48)))) d (ds ++ more) (begin_digit before at d is.0)
    ∙ ap (λ f. run (scan_at (at + len_utf8 d) before [] (pending.Number at (at + len_utf8 d) part.Whole f)) (ds ++ more)) (figures-first d is.0)
    ∙ digits_run (λ x. Whole x) part.Whole refl figures-whole before at (at + len_utf8 d) (d ∷ []) ds more is.1
    ∙ ap (λ q. run (digits_at before at q part.Whole (Whole (d ∷ ds))) more) (add_assoc at (len_utf8 d) (size_of ds))

abbrev pub part_of : Numeral → Part
part_of (Whole ds) = part.Whole
part_of (Decimal w q) = part.Decimal
part_of (Ratio a b) = part.Ratio

decimal_run : (before : List Token) (start at : ℕ) (w q more : List ℕ) → IsDigits q → run (digits_at before start at part.Whole (Whole w)) (46 ∷ (q ++ more)) ≡ run (digits_at before start (at + size_of (46 ∷ q)) part.Decimal (Decimal w q)) more
decimal_run before start at w [] more is = absurd is
decimal_run before start at w (d ∷ ds) more is =
    run_on (digits_at before start at part.Whole (Whole w)) (number_state before start (at + 1) at part.Point (Whole w)) 46 (d ∷ (ds ++ more)) refl
    ∙ digit_step before start (at + 1) at d part.Point (Whole w) (Decimal w (d ∷ [])) (ds ++ more) is.0 (figures-point w d is.0)
    ∙ digits_run (λ x. Decimal w x) part.Decimal refl (figures-decimal w) before start (at + 1 + len_utf8 d) (d ∷ []) ds more is.1
    ∙ ap (λ q. run (digits_at before start q part.Decimal (Decimal w (d ∷ ds))) more) (let e : at + 1 + len_utf8 d + size_of ds ≡ at + (1 + (len_utf8 d + size_of ds)) = omega arith in e)

ratio_run : (before : List Token) (start at : ℕ) (a b more : List ℕ) → IsDigits b → run (digits_at before start at part.Whole (Whole a)) (114 ∷ (b ++ more)) ≡ run (digits_at before start (at + size_of (114 ∷ b)) part.Ratio (Ratio a b)) more
ratio_run before start at a [] more is = absurd is
ratio_run before start at a (d ∷ ds) more is =
    run_on (digits_at before start at part.Whole (Whole a)) (number_state before start (at + 1) at part.Over (Whole a)) 114 (d ∷ (ds ++ more)) refl
    ∙ digit_step before start (at + 1) at d part.Over (Whole a) (Ratio a (d ∷ [])) (ds ++ more) is.0 (figures-over a d is.0)
    ∙ digits_run (λ x. Ratio a x) part.Ratio refl (figures-ratio a) before start (at + 1 + len_utf8 d) (d ∷ []) ds more is.1
    ∙ ap (λ q. run (digits_at before start q part.Ratio (Ratio a (d ∷ ds))) more) (let e : at + 1 + len_utf8 d + size_of ds ≡ at + (1 + (len_utf8 d + size_of ds)) = omega arith in e)

pub number_run : (before : List Token) (at : ℕ) (n : Numeral) (more : List ℕ) → IsNumeral n → run (free before at) (numeral_text n ++ more) ≡ run (digits_at before at (at + size_of (numeral_text n)) (part_of n) n) more
number_run before at (Whole ds) more is = whole_run before at ds more is
number_run before at (Decimal w q) more is =
    ap (λ x. run (free before at) x) (append_assoc w (46 ∷ q) more)
    ∙ whole_run before at w (46 ∷ (q ++ more)) is.0
    ∙ decimal_run before at (at + size_of w) w q more is.1
    ∙ ap (λ p. run (digits_at before at p part.Decimal (Decimal w q)) more) (let e = size_of-append w (46 ∷ q) in let there : at + size_of w + size_of (46 ∷ q) ≡ at + size_of (w ++ 46 ∷ q) = omega (arith, e) in there)
number_run before at (Ratio a b) more is =
    ap (λ x. run (free before at) x) (append_assoc a (114 ∷ b) more)
    ∙ whole_run before at a (114 ∷ (b ++ more)) is.0
    ∙ ratio_run before at (at + size_of a) a b more is.1
    ∙ ap (λ p. run (digits_at before at p part.Ratio (Ratio a b)) more) (let e = size_of-append a (114 ∷ b) in let there : at + size_of a + size_of (114 ∷ b) ≡ at + size_of (a ++ 114 ∷ b) = omega (arith, e) in there)
