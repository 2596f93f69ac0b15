-- What a text means is what the machine answers.
use Rattle.std.proofs.Common.{◌≡◌, ◌≢◌, ℕ, ◌+◌, ◌-◌, Bool, true, false, ◌&&◌, ◌||◌, eqb, List, [], ◌∷◌, ◌++◌, length, take, drop, Option, None, Some, is_some, Result, Ok, Err, refl, sym, ap, subst, ◌∙◌, arith, append_assoc, ◌⊎◌, inl, inr, ⊎_elim, lit<}
use Rattle.std.proofs.lemmas.Bool.{false≢true, eqb-true}
use Rattle.std.specs.Str.{bytes_eq}
use Rattle.std.proofs.lemmas.Slice.Eq.{bytes_eq-Decides}
use Rattle.std.specs.Char.{is_ascii_digit, len_utf8}
use lib.Utf8.{encodes}
use Rattle.unicode_ident.specs.Ident.{is_xid_continue}
use Rattle.unicode_ident.proofs.IdentLemmas.{is_xid_continue-ascii}
use Rattle.um_vocabulary.specs.declared.vocabulary.Keyword.{Keyword}
use Rattle.um_vocabulary.specs.declared.vocabulary.Symbol.{Symbol}
use Rattle.um_vocabulary.specs.declared.vocabulary.Symbol.TheVariants as symbol
use Rattle.um_syntax.specs.declared.token.Kind.{Kind}
use Rattle.um_syntax.specs.declared.token.Kind.TheVariants as kind
use Rattle.um_syntax.specs.declared.token.Token.{Token}
use Rattle.um_syntax.specs.declared.token.LexStop.{LexStop}
use Rattle.um_syntax.specs.declared.token.LexStop.TheVariants.{BadChar, NumberRange, PowerText}
use Rattle.um_syntax.specs.declared.number.Part.{Part}
use Rattle.um_syntax.specs.declared.number.Part.TheVariants as part
use Rattle.um_syntax.specs.declared.pending.Pending.{Pending}
use Rattle.um_syntax.specs.declared.pending.Pending.TheVariants as pending
use Rattle.um_vocabulary.specs.Vocabulary.{keyword_text, symbol_text}
use Rattle.um_syntax.specs.Gap.{IsLastGap, closed, unclosed, IsLine}
use Rattle.um_syntax.specs.Numeral.{Numeral, Whole, Decimal, Ratio, numeral_text, IsNumeral}
use Rattle.um_syntax.specs.Lexeme.{starts_name, AllContinue, IsIdentifier, IsWord, IsName, Lexeme, Name, Var, Number, Word, Hole, Sign, text_of, IsLexeme, begins, NumeralEnds, LeavesLetter, SignEnds, Ends, IsAlone, is_whole, kind_of}
use Rattle.um_syntax.specs.Lexing.{size_of, is_glued, is_power_place, IsNext, Lexes}
use Rattle.um_syntax.specs.Machine.{Scan, takes, part_takes, is_whole_part, letters_kind, word_kind, part_pushed, number_pushed, close, ends_in_digit, step, steps, ended, tokens_of}
use Rattle.um_vocabulary.specs.Tables.{keyword_of, single_symbol, double_symbol}
use Rattle.um_syntax.proofs.Digits.{figures_of, figures_kind-of}
use Rattle.um_syntax.proofs.WordLetters.{keyword_parts, keyword_encoded, keyword_identifier, letters_encoded, last_encoded, letter_starts_name, single_symbol-mark, double_symbol-mark, IsMark}
use Rattle.um_vocabulary.proofs.Tables.{keyword_of-keyword, symbol_form, double_symbol-first, double_symbol-text}
use Rattle.um_syntax.proofs.Texts.{hole_from, word_from, hole_encoded}
use Rattle.um_syntax.proofs.Closing.{scan_at, append_nil, number_state, snoc_same, size_of-snoc, dot_ends}
use Rattle.um_syntax.proofs.Reading.{run, run_on, run_stop, free, gap_run, identifier_run, begin_symbol, variable_at, variable_run, digits_at, part_of, number_run}

and_false : (a b : Bool) → (a ≡ true → b ≡ false) → (a && b) ≡ false
and_false true b h = h refl
and_false false b h = refl

-- what has begun ends before what follows, and the machine goes on after it
pub closed_run : (before tokens : List Token) (letters : List ℕ) (at : ℕ) (p : Pending) (more : List ℕ) → close (scan_at at before letters p) p ≡ Ok (free tokens at) → begins (takes p) more ≡ false
    → (ends_in_digit p ≡ true → begins is_xid_continue more ≡ false) → run (scan_at at before letters p) more ≡ run (free tokens at) more
closed_run before tokens letters at p [] ok untaken alone = ap tokens_of ok
closed_run before tokens letters at p (c ∷ cs) ok untaken alone =
    let no_tail = and_false (ends_in_digit p) (is_xid_continue c) alone in
    let same : step (scan_at at before letters p) c ≡ step (free tokens at) c = rw (untaken, ok, no_tail) refl in
    ap (λ r. ended (steps r cs)) same

pub stopped_run : (before : List Token) (letters : List ℕ) (at : ℕ) (p : Pending) (more : List ℕ) (stop : LexStop) → close (scan_at at before letters p) p ≡ Err stop → begins (takes p) more ≡ false
    → run (scan_at at before letters p) more ≡ Err stop
stopped_run before letters at p [] stop bad untaken = ap tokens_of bad
stopped_run before letters at p (c ∷ cs) stop bad untaken = run_stop (scan_at at before letters p) c cs stop (rw (untaken, bad) refl)

pub tail_run : (before tokens : List Token) (letters : List ℕ) (at : ℕ) (p : Pending) (more : List ℕ) → close (scan_at at before letters p) p ≡ Ok (free tokens at) → begins (takes p) more ≡ false
    → ends_in_digit p ≡ true → begins is_xid_continue more ≡ true → run (scan_at at before letters p) more ≡ Err (BadChar at)
tail_run before tokens letters at p [] ok untaken digit letter = absurd (false≢true letter)
tail_run before tokens letters at p (c ∷ cs) ok untaken digit letter = run_stop (scan_at at before letters p) c cs (BadChar at) (rw (untaken, ok, digit, letter) refl)

-- a token between two places
abbrev pub token_from : List Token → Kind → ℕ → ℕ → Token
token_from before kind start end = record { kind = kind; start = start; end = end; glued = is_glued before start }

-- the kinds of letters
name_kind : (text : List ℕ) → IsName text → letters_kind (encodes text) ≡ kind.Name (encodes text)
name_kind text is = by_number (keyword_of (encodes text)) refl
  where
    by_hole : (b : Bool) → bytes_eq (encodes text) (95 ∷ []) ≡ b → word_kind (encodes text) None ≡ kind.Name (encodes text)
    by_hole true e = absurd (is.1 (hole_from text e))
    by_hole false e = rw e refl

    by_number : (o : Option Keyword) → keyword_of (encodes text) ≡ o → letters_kind (encodes text) ≡ kind.Name (encodes text)
    by_number (Some k) e = absurd (is.2 (k, word_from text k e))
    by_number None e = rw e (by_hole (bytes_eq (encodes text) (95 ∷ [])) refl)

word_kind-word : (k : Keyword) → letters_kind (encodes (keyword_text k)) ≡ kind.Word k
word_kind-word k = ap letters_kind (keyword_encoded k) ∙ ap (λ o. word_kind (keyword_text k) o) (keyword_of-keyword k)

hole_kind : letters_kind (encodes (95 ∷ [])) ≡ kind.Hole
hole_kind = ap letters_kind hole_encoded

-- an identifier
identifier_token : (before : List Token) (at : ℕ) (text more : List ℕ) → IsIdentifier text → begins is_xid_continue more ≡ false
    → run (free before at) (text ++ more) ≡ run (free (before ++ token_from before (letters_kind (encodes text)) at (at + size_of text) ∷ []) (at + size_of text)) more
identifier_token before at text more is stops =
    identifier_run before at text more is
    ∙ closed_run before (before ++ token_from before (letters_kind (encodes text)) at (at + size_of text) ∷ []) (encodes text) (at + size_of text) (pending.Identifier at) more refl stops (λ d. absurd (false≢true d))

abbrev pub AfterToken : List Token → ℕ → List ℕ → Kind → List ℕ → Type 0
AfterToken before at text kind more = run (free before at) (text ++ more) ≡ run (free (before ++ token_from before kind at (at + size_of text) ∷ []) (at + size_of text)) more

of_kind : (before : List Token) (at : ℕ) (text : List ℕ) (k l : Kind) (more : List ℕ) → k ≡ l → AfterToken before at text k more → AfterToken before at text l more
of_kind before at text k l more e m = subst (λ x. AfterToken before at text x more) e m

-- a variable
snoc_of : (text : List ℕ) → IsIdentifier text → (prefix : List ℕ) × (c : ℕ) × (text ≡ prefix ++ c ∷ [])
snoc_of [] is = absurd is
snoc_of (c ∷ cs) is = go c cs
  where
    go : (c : ℕ) (cs : List ℕ) → (prefix : List ℕ) × (last : ℕ) × (c ∷ cs ≡ prefix ++ last ∷ [])
    go c [] = ([], c, refl)
    go c (d ∷ ds) = let r = go d ds in (c ∷ r.0, r.1, ap (λ x. c ∷ x) r.2)

no_word : (text : List ℕ) → ¬ (IsWord text) → keyword_of (encodes text) ≡ None
no_word text h = by_number (keyword_of (encodes text)) refl
  where
    by_number : (o : Option Keyword) → keyword_of (encodes text) ≡ o → keyword_of (encodes text) ≡ None
    by_number (Some k) e = absurd (h (k, word_from text k e))
    by_number None e = e

no_hole : (text : List ℕ) → text ≢ 95 ∷ [] → bytes_eq (encodes text) (95 ∷ []) ≡ false
no_hole text h = by_hole (bytes_eq (encodes text) (95 ∷ [])) refl
  where
    by_hole : (b : Bool) → bytes_eq (encodes text) (95 ∷ []) ≡ b → bytes_eq (encodes text) (95 ∷ []) ≡ false
    by_hole true e = absurd (h (hole_from text e))
    by_hole false e = e

name_variable : (before : List Token) (at : ℕ) (prefix more : List ℕ) (c : ℕ) → IsName (prefix ++ c ∷ []) → begins is_xid_continue more ≡ false
    → AfterToken before at (39 ∷ (prefix ++ c ∷ [])) (kind.Var (encodes (prefix ++ c ∷ []))) more
name_variable before at prefix more c is stops =
    variable_run before at c prefix more is.0
    ∙ closed_run before (before ++ token_from before (kind.Var (encodes (prefix ++ c ∷ []))) at (at + size_of (39 ∷ (prefix ++ c ∷ []))) ∷ []) (encodes (prefix ++ c ∷ [])) (at + size_of (39 ∷ (prefix ++ c ∷ [])))
    (pending.Variable at (at + size_of (39 ∷ prefix))) more (rw (no_hole (prefix ++ c ∷ []) is.1, no_word (prefix ++ c ∷ []) is.2) refl) stops (λ d. absurd (false≢true d))

AllContinue-snoc : (text : List ℕ) (c : ℕ) → AllContinue text → is_xid_continue c ≡ true → AllContinue (text ++ c ∷ [])
AllContinue-snoc [] c a e = (e, tt)
AllContinue-snoc (d ∷ ds) c a e = (a.0, AllContinue-snoc ds c a.1 e)

IsIdentifier-snoc : (text : List ℕ) (c : ℕ) → IsIdentifier text → is_xid_continue c ≡ true → IsIdentifier (text ++ c ∷ [])
IsIdentifier-snoc [] c i e = absurd i
IsIdentifier-snoc (d ∷ ds) c i e = (i.0, AllContinue-snoc ds c i.1 e)

word_no_hole : (k : Keyword) → bytes_eq (keyword_text k) (95 ∷ []) ≡ false
word_no_hole k = by_hole (bytes_eq (keyword_text k) (95 ∷ [])) refl
  where
    hole_number : keyword_of (95 ∷ []) ≡ None
    hole_number = refl

    none_some : ◌≡◌ {A = Option Keyword} None (Some k) → ⊥
    none_some e = cc

    by_hole : (b : Bool) → bytes_eq (keyword_text k) (95 ∷ []) ≡ b → bytes_eq (keyword_text k) (95 ∷ []) ≡ false
    by_hole true e = absurd (none_some (sym hole_number ∙ ap keyword_of (sym ((bytes_eq-Decides (keyword_text k) (95 ∷ [])).0 e)) ∙ keyword_of-keyword k))
    by_hole false e = e

-- both tokens of a quote and a word
abbrev both_tokens : List Token → ℕ → List ℕ → ℕ → List ℕ → List Token
both_tokens before at name c letters =
    (before ++ token_from before (kind.Var (take (length letters - 1) letters)) at (at + size_of (39 ∷ name)) ∷ [])
    ++ token_from (before ++ token_from before (kind.Var (take (length letters - 1) letters)) at (at + size_of (39 ∷ name)) ∷ []) (kind.Name (drop (length letters - 1) letters)) (at + size_of (39 ∷ name)) (at + size_of (39 ∷ (name ++ c ∷ []))) ∷ []

word_tokens : (before : List Token) (at : ℕ) (k : Keyword) (c : ℕ) (name more : List ℕ) → IsIdentifier (name ++ c ∷ []) → name ++ c ∷ [] ≡ keyword_text k → begins is_xid_continue more ≡ false
    → run (free before at) (39 ∷ ((name ++ c ∷ []) ++ more)) ≡ run (free (both_tokens before at name c (keyword_text k)) (at + size_of (39 ∷ (name ++ c ∷ [])))) more
word_tokens before at k c name more is same stops =
    variable_run before at c name more is
    ∙ ap (λ l. run (variable_at before at (at + size_of (39 ∷ (name ++ c ∷ []))) (at + size_of (39 ∷ name)) l) more) (ap encodes same ∙ keyword_encoded k)
    ∙ closed_run before (both_tokens before at name c (keyword_text k)) (keyword_text k) (at + size_of (39 ∷ (name ++ c ∷ []))) (pending.Variable at (at + size_of (39 ∷ name))) more
    (rw (word_no_hole k, keyword_of-keyword k) refl) stops (λ d. absurd (false≢true d))

letter_kind : (k : Keyword) (c : ℕ) → c ≡ (keyword_parts k).last → letters_kind (encodes (c ∷ [])) ≡ kind.Name (drop (length (keyword_text k) - 1) (keyword_text k))
letter_kind k c same =
    let p = keyword_parts k in
    let plain : letters_kind (p.last ∷ []) ≡ kind.Name (p.last ∷ []) = rw (p.last_no_word, p.last_no_hole) refl in
    ap (λ x. letters_kind (encodes (x ∷ []))) same ∙ ap letters_kind (last_encoded p.last p.last_letter) ∙ plain ∙ ap (λ x. kind.Name x) (sym p.last_dropped)

-- the state after a variable and a letter
abbrev behind_letter : List Token → ℕ → List ℕ → List ℕ → Kind → Kind → ℕ → Result (List Token) LexStop
behind_letter before at name more v n e =
    run (free ((before ++ token_from before v at (at + size_of (39 ∷ name)) ∷ []) ++ token_from (before ++ token_from before v at (at + size_of (39 ∷ name)) ∷ []) n (at + size_of (39 ∷ name)) e ∷ []) e) more

letter_variable : (before : List Token) (at c : ℕ) (name more : List ℕ) → IsName name → LeavesLetter name (c ∷ more) → AfterToken before at (39 ∷ name) (kind.Var (encodes name)) (c ∷ more)
letter_variable before at c name more is leaves =
    let k = leaves.1.0 in
    let same = leaves.1.1 in
    let p = keyword_parts k in
    let parts = snoc_same name p.prefix c p.last (same ∙ p.text) in
    let kind_is : kind.Var (take (length (keyword_text k) - 1) (keyword_text k)) ≡ kind.Var (encodes name) =
    ap (λ x. kind.Var x) (p.prefix_taken ∙ sym (letters_encoded p.prefix p.prefix_letters) ∙ ap encodes (sym parts.0)) in
    let letter_is = letter_kind k c parts.1 in
    let starts : starts_name c ≡ true = rw parts.1 (letter_starts_name p.last p.last_letter) in
    let whole = word_tokens before at k c name more (IsIdentifier-snoc name c is.0 leaves.0) same leaves.2 in
    let letter = identifier_token (before ++ token_from before (kind.Var (encodes name)) at (at + size_of (39 ∷ name)) ∷ []) (at + size_of (39 ∷ name)) (c ∷ []) more (starts, tt) leaves.2 in
    let there : at + size_of (39 ∷ (name ++ c ∷ [])) ≡ at + size_of (39 ∷ name) + size_of (c ∷ []) = omega (arith, size_of-snoc name c) in
    ap (λ x. run (free before at) (39 ∷ x)) (sym (append_assoc name (c ∷ []) more))
    ∙ whole
    ∙ ap (λ v. behind_letter before at name more v (kind.Name (drop (length (keyword_text k) - 1) (keyword_text k))) (at + size_of (39 ∷ (name ++ c ∷ [])))) kind_is
    ∙ ap (λ n. behind_letter before at name more (kind.Var (encodes name)) n (at + size_of (39 ∷ (name ++ c ∷ [])))) (sym letter_is)
    ∙ ap (λ e. behind_letter before at name more (kind.Var (encodes name)) (letters_kind (encodes (c ∷ []))) e) there
    ∙ sym letter

-- a sign
or_both : (a b : Bool) → a ≡ false → b ≡ false → (a || b) ≡ false
or_both true b e f = e
or_both false b e f = f

sign_untaken : (k c : ℕ) (more : List ℕ) → SignEnds (c ∷ []) more → begins (takes (pending.Symbol k c)) more ≡ false
sign_untaken k c [] ends = refl
sign_untaken k c (d ∷ ds) ends = or_both (is_some (double_symbol c d)) (eqb c 47 && eqb d 47) (by_sign (double_symbol c d) refl) (and_false (eqb c 47) (eqb d 47) (λ one. by_slash one (eqb d 47) refl))
  where
    by_sign : (o : Option Symbol) → double_symbol c d ≡ o → is_some (double_symbol c d) ≡ false
    by_sign (Some j) e = absurd (ends.0 j (double_symbol-text c d j e))
    by_sign None e = ap is_some e

    by_slash : eqb c 47 ≡ true → (b : Bool) → eqb d 47 ≡ b → eqb d 47 ≡ false
    by_slash one true two = absurd (ends.1 (ap (λ x. x ∷ d ∷ []) (eqb-true c 47 one) ∙ ap (λ x. 47 ∷ x ∷ []) (eqb-true d 47 two)))
    by_slash one false two = two

single_token : (before : List Token) (at : ℕ) (k : Symbol) (c : ℕ) (more : List ℕ) → single_symbol c ≡ Some k → SignEnds (c ∷ []) more → AfterToken before at (c ∷ []) (kind.Sign k) more
single_token before at k c more e ends =
    let there : at + len_utf8 c ≡ at + size_of (c ∷ []) = omega arith in
    run_on (free before at) (scan_at (at + len_utf8 c) before [] (pending.Symbol at c)) c more (begin_symbol before at c (single_symbol-mark c k e) (ap (λ o. is_some o || eqb c 38) e))
    ∙ ap (λ x. run (scan_at x before [] (pending.Symbol at c)) more) there
    ∙ closed_run before (before ++ token_from before (kind.Sign k) at (at + size_of (c ∷ [])) ∷ []) [] (at + size_of (c ∷ [])) (pending.Symbol at c) more (rw e refl) (sign_untaken at c more ends) (λ d. absurd (false≢true d))

double_token : (before : List Token) (at : ℕ) (k : Symbol) (a b : ℕ) (more : List ℕ) → double_symbol a b ≡ Some k → AfterToken before at (a ∷ b ∷ []) (kind.Sign k) more
double_token before at k a b more e =
    let there : at + len_utf8 a + len_utf8 b ≡ at + size_of (a ∷ b ∷ []) = omega arith in
    run_on (free before at) (scan_at (at + len_utf8 a) before [] (pending.Symbol at a)) a (b ∷ more) (begin_symbol before at a (double_symbol-mark a b k e) (double_symbol-first a b k e))
    ∙ run_on (scan_at (at + len_utf8 a) before [] (pending.Symbol at a)) (free (before ++ token_from before (kind.Sign k) at (at + len_utf8 a + len_utf8 b) ∷ []) (at + len_utf8 a + len_utf8 b)) b more (rw e refl)
    ∙ ap (λ x. run (free (before ++ token_from before (kind.Sign k) at x ∷ []) x) more) there

pub sign_token : (before : List Token) (at : ℕ) (k : Symbol) (more : List ℕ) → SignEnds (symbol_text k) more → AfterToken before at (symbol_text k) (kind.Sign k) more
sign_token before at k more ends =
    ⊎_elim (λ f. subst (λ x. AfterToken before at x (kind.Sign k) more) (sym f.1) (single_token before at k f.0 more f.2 (subst (λ x. SignEnds x more) f.1 ends)))
    (λ f. subst (λ x. AfterToken before at x (kind.Sign k) more) (sym f.2) (double_token before at k f.0 f.1 more f.3))
    (symbol_form k)

-- a number
whole_of : (n : Numeral) → is_whole_part (part_of n) ≡ is_whole n
whole_of (Whole ds) = refl
whole_of (Decimal w q) = refl
whole_of (Ratio a b) = refl

number_close : (before : List Token) (start at e : ℕ) (p : Part) (n : Numeral) (o : Option Kind) → IsNumeral n → is_whole_part p ≡ is_whole n → kind_of (is_power_place before) (Number n) ≡ o
    → close (number_state before start at e p n) (pending.Number start e p (figures_of n)) ≡ number_pushed (number_state before start at e p n) start e p (is_power_place before) o
number_close before start at e p n o is whole kind_is =
    ap (λ k. number_pushed (number_state before start at e p n) start e p (is_power_place before) k) (figures_kind-of (is_power_place before) p n is whole ∙ kind_is)

-- A number's text has ended: at a character that isn't taken, or at a point or an r that belongs to no number.
abbrev pub number_end : Numeral → List ℕ → Type 0
number_end n more =
    (begins (part_takes (part_of n)) more ≡ false)
    ⊎ ((ds cs : List ℕ) × (n ≡ Whole ds) × (more ≡ 46 ∷ cs) × (begins is_ascii_digit cs ≡ false))
    ⊎ ((ds cs : List ℕ) × (n ≡ Whole ds) × (more ≡ 114 ∷ cs) × (begins is_ascii_digit cs ≡ false))

ends_whole : (ds more : List ℕ) → NumeralEnds (Whole ds) more → number_end (Whole ds) more
ends_whole ds [] ends = inl refl
ends_whole ds (c ∷ cs) ends = by_point (eqb c 46) refl
  where
    by_letter : eqb c 46 ≡ false → (b : Bool) → eqb c 114 ≡ b → number_end (Whole ds) (c ∷ cs)
    by_letter p true e = let same = eqb-true c 114 e in inr (inr (ds, cs, refl, ap (λ x. x ∷ cs) same, sym (ap (λ x. (eqb x 46 || eqb x 114) && begins is_ascii_digit cs) same) ∙ ends.1))
    by_letter p false e = inl (or_both (is_ascii_digit c) (eqb c 46 || eqb c 114) ends.0 (or_both (eqb c 46) (eqb c 114) p e))

    by_point : (b : Bool) → eqb c 46 ≡ b → number_end (Whole ds) (c ∷ cs)
    by_point true e = let same = eqb-true c 46 e in inr (inl (ds, cs, refl, ap (λ x. x ∷ cs) same, sym (ap (λ x. (eqb x 46 || eqb x 114) && begins is_ascii_digit cs) same) ∙ ends.1))
    by_point false e = by_letter e (eqb c 114) refl

pub number_ends : (n : Numeral) (more : List ℕ) → NumeralEnds n more → number_end n more
number_ends (Whole ds) more ends = ends_whole ds more ends
number_ends (Decimal w q) more ends = inl ends
number_ends (Ratio a b) more ends = inl ends

digit_part : (start at e : ℕ) (n : Numeral) → ends_in_digit (pending.Number start e (part_of n) (figures_of n)) ≡ true
digit_part start at e (Whole ds) = refl
digit_part start at e (Decimal w q) = refl
digit_part start at e (Ratio a b) = refl

part_done : (n : Numeral) (s : Scan) (e : ℕ) → part_pushed (part_of n) s e ≡ Ok s
part_done (Whole ds) s e = refl
part_done (Decimal w q) s e = refl
part_done (Ratio a b) s e = refl

-- the answer from a number's text on
abbrev number_answer : List Token → ℕ → Numeral → List ℕ → Result (List Token) LexStop
number_answer before at n more = run (digits_at before at (at + size_of (numeral_text n)) (part_of n) n) more

abbrev number_behind : List Token → ℕ → Numeral → Kind → List ℕ → Result (List Token) LexStop
number_behind before at n which more = run (free (before ++ token_from before which at (at + size_of (numeral_text n)) ∷ []) (at + size_of (numeral_text n))) more

-- a point or an r after digits is taken at first
mark_taken : (before : List Token) (at c : ℕ) (ds cs : List ℕ) (p : Part) → step (digits_at before at (at + size_of ds) part.Whole (Whole ds)) c ≡ Ok (number_state before at (at + size_of ds + 1) (at + size_of ds) p (Whole ds))
    → number_answer before at (Whole ds) (c ∷ cs) ≡ run (number_state before at (at + size_of ds + 1) (at + size_of ds) p (Whole ds)) cs
mark_taken before at c ds cs p e = run_on (digits_at before at (at + size_of ds) part.Whole (Whole ds)) (number_state before at (at + size_of ds + 1) (at + size_of ds) p (Whole ds)) c cs e

point_token : (before : List Token) (at : ℕ) (ds cs : List ℕ) (which : Kind) → IsNumeral (Whole ds) → begins is_ascii_digit cs ≡ false → kind_of (is_power_place before) (Number (Whole ds)) ≡ Some which
    → number_answer before at (Whole ds) (46 ∷ cs) ≡ number_behind before at (Whole ds) which (46 ∷ cs)
point_token before at ds cs which is no_digit kind_is =
    let e : ℕ = at + size_of ds in
    let tokens : List Token = before ++ token_from before which at (at + size_of ds) ∷ [] in
    mark_taken before at 46 ds cs part.Point refl
    ∙ closed_run before (tokens ++ token_from tokens (kind.Sign symbol.Dot) e (e + 1) ∷ []) [] (e + 1) (pending.Number at e part.Point (figures_of (Whole ds))) cs (number_close before at (e + 1) e part.Point (Whole ds) (Some which) is refl kind_is) no_digit (λ d. absurd (false≢true d))
    ∙ sym (sign_token tokens e symbol.Dot cs (dot_ends cs))

number_token : (before : List Token) (at : ℕ) (n : Numeral) (more : List ℕ) (which : Kind) → IsNumeral n → NumeralEnds n more → begins is_xid_continue more ≡ false → kind_of (is_power_place before) (Number n) ≡ Some which
    → AfterToken before at (numeral_text n) which more
number_token before at n more which is ends alone kind_is = number_run before at n more is ∙ by_end (number_ends n more ends)
  where
    closed_here : begins (part_takes (part_of n)) more ≡ false → number_answer before at n more ≡ number_behind before at n which more
    closed_here u =
        closed_run before (before ++ token_from before which at (at + size_of (numeral_text n)) ∷ []) [] (at + size_of (numeral_text n)) (pending.Number at (at + size_of (numeral_text n)) (part_of n) (figures_of n)) more
        (number_close before at (at + size_of (numeral_text n)) (at + size_of (numeral_text n)) (part_of n) n (Some which) is (whole_of n) kind_is ∙ part_done n _ (at + size_of (numeral_text n))) u (λ d. alone)

    point : (ds cs : List ℕ) → n ≡ Whole ds → more ≡ 46 ∷ cs → begins is_ascii_digit cs ≡ false → number_answer before at n more ≡ number_behind before at n which more
    point ds cs same rest no_digit =
        subst (λ m. number_answer before at n m ≡ number_behind before at n which m) (sym rest)
        (subst (λ m. IsNumeral m → kind_of (is_power_place before) (Number m) ≡ Some which → number_answer before at m (46 ∷ cs) ≡ number_behind before at m which (46 ∷ cs)) (sym same) (λ is kind_is. point_token before at ds cs which is no_digit kind_is) is kind_is)

    letter : (cs : List ℕ) → more ≡ 114 ∷ cs → ⊥
    letter cs rest = false≢true (sym alone ∙ ap (begins is_xid_continue) rest ∙ is_xid_continue-ascii 114 (lit< tt))

    by_end : number_end n more → number_answer before at n more ≡ number_behind before at n which more
    by_end u = ⊎_elim closed_here (λ m. ⊎_elim (λ w. point w.0 w.1 w.2 w.3 w.4) (λ w. absurd (letter w.1 w.3)) m) u

-- a letter directly after a number that keeps its rule
over_letter : (before : List Token) (at : ℕ) (ds cs : List ℕ) (which : Kind) → IsNumeral (Whole ds) → begins is_ascii_digit cs ≡ false → kind_of (is_power_place before) (Number (Whole ds)) ≡ Some which
    → number_answer before at (Whole ds) (114 ∷ cs) ≡ Err (BadChar (at + size_of ds))
over_letter before at ds cs which is no_digit kind_is =
    mark_taken before at 114 ds cs part.Over refl
    ∙ stopped_run before [] (at + size_of ds + 1) (pending.Number at (at + size_of ds) part.Over (figures_of (Whole ds))) cs (BadChar (at + size_of ds)) (number_close before at (at + size_of ds + 1) (at + size_of ds) part.Over (Whole ds) (Some which) is refl kind_is) no_digit

pub number_letter : (before : List Token) (at : ℕ) (n : Numeral) (more : List ℕ) (which : Kind) → IsNumeral n → NumeralEnds n more → begins is_xid_continue more ≡ true → kind_of (is_power_place before) (Number n) ≡ Some which
    → run (free before at) (numeral_text n ++ more) ≡ Err (BadChar (at + size_of (numeral_text n)))
number_letter before at n more which is ends letter kind_is = number_run before at n more is ∙ by_end (number_ends n more ends)
  where
    tail_here : begins (part_takes (part_of n)) more ≡ false → number_answer before at n more ≡ Err (BadChar (at + size_of (numeral_text n)))
    tail_here u =
        tail_run before (before ++ token_from before which at (at + size_of (numeral_text n)) ∷ []) [] (at + size_of (numeral_text n)) (pending.Number at (at + size_of (numeral_text n)) (part_of n) (figures_of n)) more
        (number_close before at (at + size_of (numeral_text n)) (at + size_of (numeral_text n)) (part_of n) n (Some which) is (whole_of n) kind_is ∙ part_done n _ (at + size_of (numeral_text n))) u (digit_part at at (at + size_of (numeral_text n)) n) letter

    point : (cs : List ℕ) → more ≡ 46 ∷ cs → ⊥
    point cs rest = false≢true (sym (is_xid_continue-ascii 46 (lit< tt)) ∙ ap (begins is_xid_continue) (sym rest) ∙ letter)

    over : (ds cs : List ℕ) → n ≡ Whole ds → more ≡ 114 ∷ cs → begins is_ascii_digit cs ≡ false → number_answer before at n more ≡ Err (BadChar (at + size_of (numeral_text n)))
    over ds cs same rest no_digit =
        subst (λ m. number_answer before at n m ≡ Err (BadChar (at + size_of (numeral_text n)))) (sym rest)
        (subst (λ m. IsNumeral m → kind_of (is_power_place before) (Number m) ≡ Some which → number_answer before at m (114 ∷ cs) ≡ Err (BadChar (at + size_of (numeral_text m)))) (sym same) (λ is kind_is. over_letter before at ds cs which is no_digit kind_is) is kind_is)

    by_end : number_end n more → number_answer before at n more ≡ Err (BadChar (at + size_of (numeral_text n)))
    by_end u = ⊎_elim tail_here (λ m. ⊎_elim (λ w. absurd (point w.1 w.3)) (λ w. over w.0 w.1 w.2 w.3 w.4) m) u

-- a number that breaks its rule
abbrev pub range_stop : Bool → ℕ → LexStop
range_stop true at = PowerText at
range_stop false at = NumberRange at

none_pushed : (s : Scan) (start e : ℕ) (p : Part) (power : Bool) → number_pushed s start e p power None ≡ Err (range_stop power start)
none_pushed s start e p true = refl
none_pushed s start e p false = refl

mark_refused : (before : List Token) (at c : ℕ) (ds cs : List ℕ) (p : Part) → step (digits_at before at (at + size_of ds) part.Whole (Whole ds)) c ≡ Ok (number_state before at (at + size_of ds + 1) (at + size_of ds) p (Whole ds))
    → is_whole_part p ≡ true → begins (part_takes p) cs ≡ false → IsNumeral (Whole ds) → kind_of (is_power_place before) (Number (Whole ds)) ≡ None → number_answer before at (Whole ds) (c ∷ cs) ≡ Err (range_stop (is_power_place before) at)
mark_refused before at c ds cs p taken whole untaken is none =
    mark_taken before at c ds cs p taken
    ∙ stopped_run before [] (at + size_of ds + 1) (pending.Number at (at + size_of ds) p (figures_of (Whole ds))) cs (range_stop (is_power_place before) at)
    (number_close before at (at + size_of ds + 1) (at + size_of ds) p (Whole ds) None is whole none ∙ none_pushed (number_state before at (at + size_of ds + 1) (at + size_of ds) p (Whole ds)) at (at + size_of ds) p (is_power_place before)) untaken

pub number_refused : (before : List Token) (at : ℕ) (n : Numeral) (more : List ℕ) → IsNumeral n → NumeralEnds n more → kind_of (is_power_place before) (Number n) ≡ None
    → run (free before at) (numeral_text n ++ more) ≡ Err (range_stop (is_power_place before) at)
number_refused before at n more is ends none = number_run before at n more is ∙ by_end (number_ends n more ends)
  where
    here : begins (part_takes (part_of n)) more ≡ false → number_answer before at n more ≡ Err (range_stop (is_power_place before) at)
    here u =
        stopped_run before [] (at + size_of (numeral_text n)) (pending.Number at (at + size_of (numeral_text n)) (part_of n) (figures_of n)) more (range_stop (is_power_place before) at)
        (number_close before at (at + size_of (numeral_text n)) (at + size_of (numeral_text n)) (part_of n) n None is (whole_of n) none ∙ none_pushed (number_state before at (at + size_of (numeral_text n)) (at + size_of (numeral_text n)) (part_of n) n) at (at + size_of (numeral_text n)) (part_of n) (is_power_place before)) u

    marked : (c : ℕ) (p : Part) (ds cs : List ℕ) → n ≡ Whole ds → more ≡ c ∷ cs → number_answer before at (Whole ds) (c ∷ cs) ≡ Err (range_stop (is_power_place before) at) → number_answer before at n more ≡ Err (range_stop (is_power_place before) at)
    marked c p ds cs same rest m = ap (λ x. number_answer before at x more) same ∙ ap (λ x. number_answer before at (Whole ds) x) rest ∙ m

    by_end : number_end n more → number_answer before at n more ≡ Err (range_stop (is_power_place before) at)
    by_end u = ⊎_elim here
        (λ m. ⊎_elim
        (λ w. marked 46 part.Point w.0 w.1 w.2 w.3 (mark_refused before at 46 w.0 w.1 part.Point refl refl w.4 (subst IsNumeral w.2 is) (subst (λ x. kind_of (is_power_place before) (Number x) ≡ None) w.2 none)))
        (λ w. marked 114 part.Over w.0 w.1 w.2 w.3 (mark_refused before at 114 w.0 w.1 part.Over refl refl w.4 (subst IsNumeral w.2 is) (subst (λ x. kind_of (is_power_place before) (Number x) ≡ None) w.2 none)))
        m)
        u

-- the next token
lexeme_run : (before : List Token) (at : ℕ) (lexeme : Lexeme) (more : List ℕ) (which : Kind) → IsLexeme lexeme → Ends lexeme more → IsAlone lexeme more → kind_of (is_power_place before) lexeme ≡ Some which → AfterToken before at (text_of lexeme) which more
lexeme_run before at (Name text) more which is ends alone e =
    let same : kind.Name (encodes text) ≡ which = cc in
    of_kind before at text (letters_kind (encodes text)) which more (name_kind text is ∙ same) (identifier_token before at text more is.0 ends)
lexeme_run before at (Word k) more which is ends alone e =
    let same : kind.Word k ≡ which = cc in
    of_kind before at (keyword_text k) (letters_kind (encodes (keyword_text k))) which more (word_kind-word k ∙ same) (identifier_token before at (keyword_text k) more (keyword_identifier k) ends)
lexeme_run before at Hole more which is ends alone e =
    let same : kind.Hole ≡ which = cc in
    of_kind before at (95 ∷ []) (letters_kind (encodes (95 ∷ []))) which more (hole_kind ∙ same) (identifier_token before at (95 ∷ []) more (refl, tt) ends)
lexeme_run before at (Var name) more which is ends alone e =
    let same : kind.Var (encodes name) ≡ which = cc in
    of_kind before at (39 ∷ name) (kind.Var (encodes name)) which more same (by_end more ends)
  where
    whole : (more : List ℕ) → begins is_xid_continue more ≡ false → AfterToken before at (39 ∷ name) (kind.Var (encodes name)) more
    whole more stops =
        let r = snoc_of name is.0 in
        subst (λ x. AfterToken before at (39 ∷ x) (kind.Var (encodes x)) more) (sym r.2) (name_variable before at r.0 more r.1 (subst IsName r.2 is) stops)

    letter : (more : List ℕ) → LeavesLetter name more → AfterToken before at (39 ∷ name) (kind.Var (encodes name)) more
    letter [] leaves = absurd leaves
    letter (c ∷ cs) leaves = letter_variable before at c name cs is leaves

    by_end : (more : List ℕ) → (begins is_xid_continue more ≡ false) ⊎ LeavesLetter name more → AfterToken before at (39 ∷ name) (kind.Var (encodes name)) more
    by_end more ends = ⊎_elim (whole more) (letter more) ends
lexeme_run before at (Number n) more which is ends alone e = number_token before at n more which is ends alone e
lexeme_run before at (Sign k) more which is ends alone e =
    let same : kind.Sign k ≡ which = cc in
    of_kind before at (symbol_text k) (kind.Sign k) which more same (sign_token before at k more ends)

same_token : (before : List Token) (token : Token) (start end : ℕ) → token.start ≡ start → token.end ≡ end → token.glued ≡ is_glued before start → token ≡ token_from before token.kind start end
same_token before token start end p q r = λ i. record { kind = token.kind; start = p i; end = q i; glued = r i }

pub next_run : (before : List Token) (at : ℕ) (chars : List ℕ) (token : Token) (more : List ℕ) → IsNext before at chars token more → run (free before at) chars ≡ run (free (before ++ token ∷ []) token.end) more
next_run before at chars token more n =
    let start : ℕ = at + size_of n.gap in
    let end = n.end ∙ ap (λ x. x + size_of (text_of n.lexeme)) n.start in
    let same = same_token before token start (start + size_of (text_of n.lexeme)) n.start end (n.glued ∙ ap (is_glued before) n.start) in
    ap (run (free before at)) n.cut
    ∙ gap_run n.skipped before at (text_of n.lexeme ++ more)
    ∙ lexeme_run before start n.lexeme more token.kind n.fits n.longest n.alone n.kind
    ∙ ap (λ t. run (free (before ++ t ∷ []) (start + size_of (text_of n.lexeme))) more) (sym same)
    ∙ ap (λ x. run (free (before ++ token ∷ []) x) more) (sym end)

-- the end of a text
append_no_token : (xs : List Token) → xs ++ [] ≡ xs
append_no_token [] = refl
append_no_token (x ∷ xs) = ap (λ l. x ∷ l) (append_no_token xs)

line_run : (before : List Token) (at : ℕ) (line : List ℕ) → IsLine line → run (scan_at at before [] pending.Comment) line ≡ Ok before
line_run before at [] l = refl
line_run before at (c ∷ cs) l =
    run_on (scan_at at before [] pending.Comment) (scan_at (at + len_utf8 c) before [] pending.Comment) c cs (rw l.0 refl)
    ∙ line_run before (at + len_utf8 c) cs l.1

slash_mark : IsMark 47
slash_mark = (refl, lit< tt, refl, refl, refl)

last_run : {chars : List ℕ} → IsLastGap chars → (before : List Token) (at : ℕ) → run (free before at) chars ≡ Ok (before ++ [])
last_run {chars} (closed g) before at =
    ap (run (free before at)) (sym (append_nil chars)) ∙ gap_run g before at [] ∙ ap (λ x. Ok x) (sym (append_no_token before))
last_run (unclosed line {gap} g l) before at =
    gap_run g before at (47 ∷ 47 ∷ line)
    ∙ run_on (free before (at + size_of gap)) (scan_at (at + size_of gap + 1) before [] (pending.Symbol (at + size_of gap) 47)) 47 (47 ∷ line) (begin_symbol before (at + size_of gap) 47 slash_mark refl)
    ∙ run_on (scan_at (at + size_of gap + 1) before [] (pending.Symbol (at + size_of gap) 47)) (scan_at (at + size_of gap + 1 + 1) before [] pending.Comment) 47 line refl
    ∙ line_run before (at + size_of gap + 1 + 1) line l
    ∙ ap (λ x. Ok x) (sym (append_no_token before))

pub complete : (tokens before : List Token) (at : ℕ) (chars : List ℕ) → Lexes before at chars tokens → run (free before at) chars ≡ Ok (before ++ tokens)
complete [] before at chars l = last_run l before at
complete (t ∷ ts) before at chars l = next_run before at chars t l.0 l.1 ∙ complete ts (before ++ t ∷ []) t.end l.0 l.2 ∙ ap (λ x. Ok x) (append_assoc before (t ∷ []) ts)
