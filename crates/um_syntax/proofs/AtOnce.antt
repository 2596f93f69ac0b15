-- Bytes that are taken at once: a token whose end is seen.
use Rattle.std.proofs.Common.{◌≡◌, ℕ, suc, ◌+◌, ◌<◌, ◌≤◌, Bool, true, false, cond, not, ltb, ◌||◌, ◌&&◌, eqb, List, [], ◌∷◌, ◌++◌, length, take, drop, get_or, Option, None, Some, is_some, Result, Ok, Err, OnOk, IfOk, ◌⊎◌, inl, inr, ⊎_elim, refl, sym, ap, subst, ◌∙◌, arith, append_assoc, lit<, ◌-◌}
use Rattle.std.proofs.lemmas.Bool.{false≢true, eqb-true, ltb-true}
use Rattle.std.proofs.lemmas.List.{append-nil, take_more, length-take-le, drop-drop}
use Rattle.std.proofs.lemmas.Str.{encode_ascii, len_utf8_ascii, IsUtf8-drop, IsCharBoundary-start, IsCharBoundary-after_ascii, IsCharBoundary-from_rest, chars-nil, chars_past_char}
use Rattle.std.specs.Char.{is_ascii_digit, len_utf8}
use Rattle.std.specs.Str.{IsUtf8, IsCharBoundary, chars, bytes_eq}
use Rattle.unicode_ident.specs.Ident.{is_xid_continue}
use Rattle.unicode_ident.proofs.IdentLemmas.{is_xid_start-ascii, is_xid_continue-ascii}
use Rattle.um_syntax.specs.declared.token.Kind.{Kind}
use Rattle.um_syntax.specs.declared.token.Kind.TheVariants as kind
use Rattle.um_syntax.specs.declared.token.Token.{Token}
use Rattle.um_syntax.specs.declared.token.LexStop.TheVariants.{BadChar}
use Rattle.um_syntax.specs.declared.number.Part.{Part}
use Rattle.um_syntax.specs.declared.number.Part.TheVariants as part
use Rattle.um_syntax.specs.declared.number.Figures.{Figures}
use Rattle.um_syntax.specs.declared.pending.Pending.{Pending}
use Rattle.um_syntax.specs.declared.pending.Pending.TheVariants as pending
use Rattle.um_vocabulary.specs.declared.vocabulary.Symbol.{Symbol}
use Rattle.um_syntax.specs.Gap.{IsLine}
use Rattle.um_syntax.specs.Lexing.{is_power_place}
use Rattle.um_syntax.specs.Lexeme.{starts_name}
use Rattle.um_syntax.specs.Machine.{Scan, letters_kind, takes, part_takes, close, taken, begun, followed, ends_in_digit, keeps, AllKept, IsNameRun, ends_name, ends_number, IsNumberRun, free_at, pushed, sign_pushed, symbol_taken, variable_pushed, number_taken, number_pushed, figures_kind, first_figures, step, steps, Reaches}
use Rattle.um_vocabulary.specs.Tables.{single_symbol, double_symbol, chosen_symbol, front_symbol, keyword_of}
use Rattle.um_syntax.specs.Scanning.{Scans}
use Rattle.um_syntax.proofs.Runs.{steps-append, reaches_now, reaches_on}
use Rattle.um_syntax.proofs.Closing.{scan_at}
use Rattle.um_syntax.proofs.WordLetters.{IsMark, single_symbol-mark, double_symbol-mark}
use Rattle.um_vocabulary.proofs.Tables.{double_symbol-first, double_symbol-feed}
use Rattle.um_syntax.proofs.Reading.{begin_digit, begin_quote, begin_symbol}
use Rattle.um_vocabulary.proofs.Bools.{and_parts}
use Rattle.um_syntax.proofs.Kept.{kept_letters, kept_ascii, kept_line, kept_boundary, kept_chars, kept_more, plain_byte, plain, name_kept, steps_kept, steps_name, IsLine-both, chars_cut, chars_on}

-- nothing is taken
pub scans_none : (s : Scan) (text : List ℕ) → IsUtf8 text → Scans s text 0 s
scans_none s text utf8 = record {
  front = IsCharBoundary-start text utf8;
  line = subst IsLine (sym chars-nil) tt;
  reaches = subst (λ l. Reaches s l s (chars text)) (sym chars-nil) (reaches_now s s [] (chars text) refl);
}

-- bytes by which the state is reached
pub scans_now : (q : Pending) (old new : Scan) (text : List ℕ) (n : ℕ) → IsUtf8 text → n ≤ length text → AllKept q (take n text) → steps (Ok old) (take n text) ≡ Ok new → Scans old text n new
scans_now q old new text n utf8 within plain e = record {
  front = kept_boundary q text n utf8 within plain;
  line = subst IsLine (sym (kept_chars q (take n text) plain)) (kept_line q (take n text) plain);
  reaches = reaches_now old new (chars (take n text)) (chars (drop n text)) (ap (λ l. steps (Ok old) l) (kept_chars q (take n text) plain) ∙ e);
}

-- bytes by which it is reached once the next character is seen
pub scans_next : (q : Pending) (old new : Scan) (text : List ℕ) (n b : ℕ) (more : List ℕ) → IsUtf8 text → n ≤ length text → AllKept q (take n text) → drop n text ≡ b ∷ more → b < 128
    → steps (Ok old) (take n text ++ b ∷ []) ≡ step new b → Scans old text n new
scans_next q old new text n b more utf8 within plain next low e =
    let boundary = kept_boundary q text n utf8 within plain in
    let same = kept_chars q (take n text) plain in
    let behind = chars_past_char (drop n text) more b (IsUtf8-drop text n utf8 boundary) (next ∙ ap (λ l. l ++ more) (sym (encode_ascii b low))) in
    record {
      front = boundary;
      line = subst IsLine (sym same) (kept_line q (take n text) plain);
      reaches = subst (Reaches old (chars (take n text)) new) (sym behind) (ap (λ l. steps (Ok old) (l ++ b ∷ [])) same ∙ e);
    }

-- The state of a token that has ended goes on by a character as that in which it was pushed.
early : (s u : Scan) (k : Kind) (start end c : ℕ) → takes s.pending c ≡ false → (ends_in_digit s.pending && is_xid_continue c) ≡ false → close s s.pending ≡ Ok (pushed u k start end) → u.at ≡ s.at
    → step s c ≡ step (pushed u k start end) c
early s u k start end c untaken alone closed place =
    ap (λ b. cond b (Ok (taken s s.pending c (s.at + len_utf8 c))) (followed (close s s.pending) s.pending c (s.at + len_utf8 c))) untaken
    ∙ ap (λ r. followed r s.pending c (s.at + len_utf8 c)) closed
    ∙ ap (λ b. cond b (Err (BadChar u.at)) (begun (pushed u k start end) c (s.at + len_utf8 c))) alone
    ∙ ap (λ n. begun (pushed u k start end) c (n + len_utf8 c)) (sym place)

-- the byte after a name, and after a number
not_false : (b : Bool) → not b ≡ true → b ≡ false
not_false true e = absurd (false≢true e)
not_false false e = refl

pub record Behind (bs : List ℕ) : Type 0 where
  pub byte : ℕ
  pub more : List ℕ
  pub is : bs ≡ byte ∷ more
  pub low : byte < 128
  pub other : keeps (pending.Identifier 0) byte ≡ false

pub behind_name : (bs : List ℕ) → ends_name bs ≡ true → Behind bs
behind_name [] h = absurd (false≢true h)
behind_name (b ∷ bs) h =
    let p = and_parts (ltb b 128) (not (keeps (pending.Identifier 0) b)) h in
    record { byte = b; more = bs; is = refl; low = ltb-true b 128 p.0; other = not_false (keeps (pending.Identifier 0) b) p.1 }

pub behind_number : (bs : List ℕ) → ends_number bs ≡ true → (b : Behind bs) × (eqb b.byte 46 ≡ false)
unfolding behind_name
behind_number [] h = absurd (false≢true h)
behind_number (b ∷ bs) h = let p = and_parts (ends_name (b ∷ bs)) (not (eqb b 46)) h in (behind_name (b ∷ bs) p.0, not_false (eqb b 46) p.1)

-- ---- names

name_next : (at : ℕ) (tokens : List Token) (bs : List ℕ) (c : ℕ) → IsNameRun bs → c < 128 → keeps (pending.Identifier 0) c ≡ false
    → steps (Ok (free_at at tokens)) (bs ++ c ∷ []) ≡ step (pushed (free_at (at + length bs) tokens) (letters_kind bs) at (at + length bs)) c
name_next at tokens bs c h low other =
    steps-append (Ok (free_at at tokens)) bs (c ∷ [])
    ∙ ap (λ r. steps r (c ∷ [])) (steps_name at tokens [] bs h)
    ∙ early (scan_at (at + length bs) tokens bs (pending.Identifier at)) (free_at (at + length bs) tokens) (letters_kind bs) at (at + length bs) c (is_xid_continue-ascii c low ∙ other) refl refl refl

pub scans_name : (at : ℕ) (tokens : List Token) (text : List ℕ) (n : ℕ) → IsUtf8 text → n ≤ length text → IsNameRun (take n text) → Behind (drop n text)
    → Scans (free_at at tokens) text n (pushed (free_at (at + n) tokens) (letters_kind (take n text)) at (at + n))
scans_name at tokens text n utf8 within h b =
    scans_next (pending.Identifier 0) _ _ text n b.byte b.more utf8 within (name_kept (take n text) h) b.is b.low
    (name_next at tokens (take n text) b.byte h b.low b.other
    ∙ ap (λ m. step (pushed (free_at (at + m) tokens) (letters_kind (take n text)) at (at + m)) b.byte) (length-take-le n text within))

-- ---- variables

variable_letters : (at start last : ℕ) (tokens : List Token) (letters bs : List ℕ) → AllKept (pending.Identifier 0) bs
    → (end : ℕ) × (steps (Ok (scan_at at tokens letters (pending.Variable start last))) bs ≡ Ok (scan_at (at + length bs) tokens (letters ++ bs) (pending.Variable start end)))
variable_letters at start last tokens letters [] h =
    let here : at ≡ at + 0 = omega arith in
    (last, ap (λ l. Ok (scan_at at tokens l (pending.Variable start last))) (sym (append-nil letters)) ∙ ap (λ n. Ok (scan_at n tokens (letters ++ []) (pending.Variable start last))) here)
variable_letters at start last tokens letters (b ∷ bs) h =
    let low = kept_ascii (pending.Identifier 0) (b ∷ bs) h 0 in
    let there : at + 1 + length bs ≡ at + length (b ∷ bs) = omega arith in
    let rest = variable_letters (at + 1) start at tokens (letters ++ b ∷ []) bs h.1 in (
      rest.0,
      ap (λ r. steps r bs) (variable_step at start last tokens letters b low h.0)
          ∙ rest.1
          ∙ ap (λ n. Ok (scan_at n tokens ((letters ++ b ∷ []) ++ bs) (pending.Variable start rest.0))) there
          ∙ ap (λ l. Ok (scan_at (at + length (b ∷ bs)) tokens l (pending.Variable start rest.0))) (append_assoc letters (b ∷ []) bs),
    )
  where
    variable_step : (at start last : ℕ) (tokens : List Token) (letters : List ℕ) (b : ℕ) → b < 128 → keeps (pending.Identifier 0) b ≡ true
        → step (scan_at at tokens letters (pending.Variable start last)) b ≡ Ok (scan_at (at + 1) tokens (letters ++ b ∷ []) (pending.Variable start at))
    variable_step at start last tokens letters b low h = rw (is_xid_continue-ascii b low ∙ h, len_utf8_ascii b low, encode_ascii b low) refl

variable_run : (at : ℕ) (tokens : List Token) (bs : List ℕ) → IsNameRun bs
    → (end : ℕ) × (steps (Ok (free_at at tokens)) (39 ∷ bs) ≡ Ok (scan_at (at + (length bs + 1)) tokens bs (pending.Variable at end)))
variable_run at tokens [] h = absurd h
variable_run at tokens (b ∷ bs) h =
    let low = kept_ascii (pending.Identifier 0) (b ∷ bs) (name_kept (b ∷ bs) h) 0 in
    let name : starts_name b ≡ true = ap (λ x. eqb b 95 || x) (is_xid_start-ascii b low) ∙ h.0 in
    let there : at + 1 + 1 + length bs ≡ at + (length (b ∷ bs) + 1) = omega arith in
    let rest = variable_letters (at + 1 + 1) at (at + 1) tokens (b ∷ []) bs h.1 in (
      rest.0,
      ap (λ r. steps r (b ∷ bs)) (begin_quote tokens at)
          ∙ ap (λ r. steps r bs) (first_step name low)
          ∙ rest.1
          ∙ ap (λ n. Ok (scan_at n tokens (b ∷ bs) (pending.Variable at rest.0))) there,
    )
  where
    first_step : starts_name b ≡ true → b < 128 → step (scan_at (at + 1) tokens [] (pending.Quote at)) b ≡ Ok (scan_at (at + 1 + 1) tokens (b ∷ []) (pending.Variable at (at + 1)))
    first_step name low = rw (name, len_utf8_ascii b low, encode_ascii b low) refl

pub quote_boundary : (text : List ℕ) → IsUtf8 text → 0 < length text → get_or text 0 0 ≡ 39 → IsCharBoundary text 1
quote_boundary text utf8 some quote = IsCharBoundary-after_ascii text 0 utf8 some (omega (arith, quote))

variable_closed : (s : Scan) (start last : ℕ) → bytes_eq s.letters (95 ∷ []) ≡ false → keyword_of s.letters ≡ None → close s (pending.Variable start last) ≡ Ok (pushed s (kind.Var s.letters) start s.at)
variable_closed s start last letter word =
    ap (λ b. cond b (Err (BadChar start)) (Ok (variable_pushed s start last))) letter
    ∙ ap (λ o. Ok (cond (is_some o) (pushed (pushed s (kind.Var (take (length s.letters - 1) s.letters)) start last) (kind.Name (drop (length s.letters - 1) s.letters)) last s.at) (pushed s (kind.Var s.letters) start s.at))) word

pub scans_variable : (at : ℕ) (tokens : List Token) (text : List ℕ) (n : ℕ) → IsUtf8 text → 0 < length text → get_or text 0 0 ≡ 39 → n ≤ length (drop 1 text) → IsNameRun (take n (drop 1 text)) → Behind (drop n (drop 1 text))
    → bytes_eq (take n (drop 1 text)) (95 ∷ []) ≡ false → keyword_of (take n (drop 1 text)) ≡ None
    → Scans (free_at at tokens) text (n + 1) (pushed (free_at (at + (n + 1)) tokens) (kind.Var (take n (drop 1 text))) at (at + (n + 1)))
scans_variable at tokens [] n utf8 some quote within h b letter word = absurd (omega (arith, some))
scans_variable at tokens (q ∷ text) n utf8 some quote within h b letter word =
    let bs = take n text in
    let len : length bs ≡ n = length-take-le n text within in
    let run = variable_run at tokens bs h in
    let s = scan_at (at + (length bs + 1)) tokens bs (pending.Variable at run.0) in
    let more : n + 1 ≡ suc n = omega arith in
    let front : take (n + 1) (q ∷ text) ≡ 39 ∷ bs = ap (λ m. take m (q ∷ text)) more ∙ ap (λ x. x ∷ bs) quote in
    let behind : drop (n + 1) (q ∷ text) ≡ drop n text = ap (λ m. drop m (q ∷ text)) more in
    scans_next pending.Comment _ _ (q ∷ text) (n + 1) b.byte b.more utf8 (omega (arith, within)) (subst (AllKept pending.Comment) (sym front) (refl, plain (pending.Identifier 0) bs (name_kept bs h))) (behind ∙ b.is) b.low
    (ap (λ l. steps (Ok (free_at at tokens)) (l ++ b.byte ∷ [])) front
    ∙ steps-append (Ok (free_at at tokens)) (39 ∷ bs) (b.byte ∷ [])
    ∙ ap (λ r. steps r (b.byte ∷ [])) run.1
    ∙ early s (free_at (at + (length bs + 1)) tokens) (kind.Var bs) at (at + (length bs + 1)) b.byte (is_xid_continue-ascii b.byte b.low ∙ b.other) refl (variable_closed s at run.0 letter word) refl
    ∙ ap (λ m. step (pushed (free_at (at + (m + 1)) tokens) (kind.Var bs) at (at + (m + 1))) b.byte) len)

-- ---- symbols

mark_plain : (c : ℕ) → IsMark c → keeps pending.Comment c ≡ true
mark_plain c m = let space = m.0 in let low = m.1 in grind arith

pub scans_sign : (at : ℕ) (tokens : List Token) (text more : List ℕ) (a c : ℕ) (k : Symbol) → IsUtf8 text → text ≡ a ∷ c ∷ more → c < 128 → single_symbol a ≡ Some k → double_symbol a c ≡ None → (eqb a 47 && eqb c 47) ≡ false
    → Scans (free_at at tokens) text 1 (pushed (free_at (at + 1) tokens) (kind.Sign k) at (at + 1))
scans_sign at tokens text more a c k utf8 is low e none slashes =
    let mark = single_symbol-mark a k e in
    let s = scan_at (at + 1) tokens [] (pending.Symbol at a) in
    let front : take 1 text ≡ a ∷ [] = ap (λ l. take 1 l) is in
    scans_next pending.Comment _ _ text 1 c more utf8 (subst (λ l. 1 ≤ length l) (sym is) (omega arith)) (subst (AllKept pending.Comment) (sym front) (mark_plain a mark, tt)) (ap (λ l. drop 1 l) is) low
    (ap (λ l. steps (Ok (free_at at tokens)) (l ++ c ∷ [])) front
    ∙ ap (λ r. steps r (c ∷ [])) (begin_symbol tokens at a mark (ap (λ o. is_some o || eqb a 38) e) ∙ ap (λ n. Ok (scan_at (at + n) tokens [] (pending.Symbol at a))) (len_utf8_ascii a mark.1))
    ∙ early s (free_at (at + 1) tokens) (kind.Sign k) at (at + 1) c (ap (λ o. is_some o || (eqb a 47 && eqb c 47)) none ∙ slashes) refl (ap (λ o. sign_pushed s at o) e) refl)

pub scans_double : (at : ℕ) (tokens : List Token) (text more : List ℕ) (a b : ℕ) (k : Symbol) → IsUtf8 text → text ≡ a ∷ b ∷ more → b < 128 → double_symbol a b ≡ Some k
    → Scans (free_at at tokens) text 2 (pushed (free_at (at + 2) tokens) (kind.Sign k) at (at + 2))
scans_double at tokens text more a b k utf8 is low e =
    let mark = double_symbol-mark a b k e in
    let s = scan_at (at + 1) tokens [] (pending.Symbol at a) in
    let front : take 2 text ≡ a ∷ b ∷ [] = ap (λ l. take 2 l) is in
    let there : at + 1 + 1 ≡ at + 2 = omega arith in
    scans_now pending.Comment _ _ text 2 utf8 (subst (λ l. 2 ≤ length l) (sym is) (omega arith)) (subst (AllKept pending.Comment) (sym front) (mark_plain a mark, (second_plain, tt)))
    (ap (λ l. steps (Ok (free_at at tokens)) l) front
    ∙ ap (λ r. steps r (b ∷ [])) (begin_symbol tokens at a mark (double_symbol-first a b k e) ∙ ap (λ n. Ok (scan_at (at + n) tokens [] (pending.Symbol at a))) (len_utf8_ascii a mark.1))
    ∙ ap (λ o. cond (is_some o || (eqb a 47 && eqb b 47)) (Ok (symbol_taken s at (at + 1 + len_utf8 b) o)) (followed (close s s.pending) s.pending b (at + 1 + len_utf8 b))) e
    ∙ ap (λ n. Ok (pushed (free_at n tokens) (kind.Sign k) at n)) (ap (λ n. at + 1 + n) (len_utf8_ascii b low) ∙ there))
  where
    no_feed : (x : Bool) → eqb b 10 ≡ x → eqb b 10 ≡ false
    no_feed true f = absurd (double_symbol-feed a k (sym (ap (λ x. double_symbol a x) (eqb-true b 10 f)) ∙ e))
    no_feed false f = f

    second_plain : keeps pending.Comment b ≡ true
    second_plain = plain_byte b low (no_feed (eqb b 10) refl)

pub scans_slashes : (at : ℕ) (tokens : List Token) (text more : List ℕ) → IsUtf8 text → text ≡ 47 ∷ 47 ∷ more → Scans (free_at at tokens) text 2 (scan_at (at + 2) tokens [] pending.Comment)
scans_slashes at tokens text more utf8 is =
    let front : take 2 text ≡ 47 ∷ 47 ∷ [] = ap (λ l. take 2 l) is in
    let there : at + 1 + 1 ≡ at + 2 = omega arith in
    scans_now pending.Comment _ _ text 2 utf8 (subst (λ l. 2 ≤ length l) (sym is) (omega arith)) (subst (AllKept pending.Comment) (sym front) (refl, (refl, tt)))
    (ap (λ l. steps (Ok (free_at at tokens)) l) front
    ∙ ap (λ r. steps r (47 ∷ [])) (begin_symbol tokens at 47 (refl, lit< tt, refl, refl, refl) refl)
    ∙ ap (λ n. Ok (scan_at n tokens [] pending.Comment)) there)

-- the parts of a symbol that was chosen
abbrev kept_symbol : Option (Symbol × ℕ) → Symbol → Symbol
kept_symbol None k = k
kept_symbol (Some x) k = x.0

abbrev kept_len : Option (Symbol × ℕ) → ℕ
kept_len None = 0
kept_len (Some x) = x.1

chosen_few : (two : Option Symbol) (slashes : Bool) (one : Option Symbol) (k : Symbol) (n : ℕ) → chosen_symbol two slashes one ≡ Some (k, n)
    → ((two ≡ Some k) × (n ≡ 2)) ⊎ ((two ≡ None) × (slashes ≡ false) × (one ≡ Some k) × (n ≡ 1))
chosen_few (Some j) slashes one k n h = inl (ap (λ o. Some (kept_symbol o j)) h, sym (ap kept_len h))
chosen_few None true one k n h = absurd (false≢true (ap is_some h))
chosen_few None false (Some j) k n h = inr (refl, refl, ap (λ o. Some (kept_symbol o j)) h, sym (ap kept_len h))
chosen_few None false None k n h = absurd (false≢true (ap is_some h))

pub scans_symbol : (at : ℕ) (tokens : List Token) (text more : List ℕ) (a c : ℕ) (k : Symbol) (n : ℕ) → IsUtf8 text → text ≡ a ∷ c ∷ more → c < 128 → front_symbol a c ≡ Some (k, n)
    → Scans (free_at at tokens) text n (pushed (free_at (at + n) tokens) (kind.Sign k) at (at + n))
scans_symbol at tokens text more a c k n utf8 is low front =
    ⊎_elim (λ h. subst (λ m. Scans (free_at at tokens) text m (pushed (free_at (at + m) tokens) (kind.Sign k) at (at + m))) (sym h.1) (scans_double at tokens text more a c k utf8 is low h.0))
    (λ h. subst (λ m. Scans (free_at at tokens) text m (pushed (free_at (at + m) tokens) (kind.Sign k) at (at + m))) (sym h.3) (scans_sign at tokens text more a c k utf8 is low h.2 h.0 h.1))
    (chosen_few (double_symbol a c) (eqb a 47 && eqb c 47) (single_symbol a) k n front)

-- the first two bytes of a text
pub two_front : (text : List ℕ) → 1 < length text → text ≡ get_or text 0 0 ∷ get_or text 1 0 ∷ drop 2 text
two_front [] h = absurd (omega (arith, h))
two_front (a ∷ []) h = absurd (omega (arith, h))
two_front (a ∷ b ∷ text) h = refl

-- ---- numbers

abbrev pub number_at : ℕ → List Token → ℕ → ℕ → Part → Figures → Scan
number_at at tokens len end p f = scan_at (at + len) tokens [] (pending.Number at (at + end) p f)

pub first_run : (bs : List ℕ) → 0 < length bs → 48 ≤ get_or bs 0 0 → get_or bs 0 0 ≤ 57
    → AllKept pending.Comment (take 1 bs) × IsNumberRun (take 1 bs) 1 part.Whole (first_figures (get_or bs 0 0 - 48))
first_run [] some from to = absurd (omega (arith, some))
first_run (d ∷ ds) some from to =
    let low : d < 128 = omega (arith, to) in (
      (plain_byte d low (feed d from), tt),
      λ at tokens. begin_digit tokens at d (digit d from to) ∙ ap (λ n. Ok (scan_at (at + n) tokens [] (pending.Number at (at + n) part.Whole (first_figures (d - 48))))) (len_utf8_ascii d low),
    )
  where
    feed : (d : ℕ) → 48 ≤ d → eqb d 10 ≡ false
    feed d from = grind arith

    digit : (d : ℕ) → 48 ≤ d → d ≤ 57 → is_ascii_digit d ≡ true
    digit d from to = grind arith

part_plain : (p : Part) (b : ℕ) → part_takes p b ≡ true → keeps pending.Comment b ≡ true
part_plain part.Whole b h = grind arith
part_plain part.Point b h = grind arith
part_plain part.Decimal b h = grind arith
part_plain part.Over b h = grind arith
part_plain part.Ratio b h = grind arith

pub more_run : (bs : List ℕ) (n end to d : ℕ) (p q : Part) (f g : Figures) → n < length bs → AllKept pending.Comment (take n bs) → IsNumberRun (take n bs) end p f → part_takes p (get_or bs n d) ≡ true
    → ((at : ℕ) → number_taken at (at + end) p f (get_or bs n d) (at + (n + 1)) ≡ pending.Number at (at + to) q g)
    → AllKept pending.Comment (take (n + 1) bs) × IsNumberRun (take (n + 1) bs) to q g
more_run bs n end to d p q f g within plain run takes taken =
    let b = get_or bs n d in
    let more = take_more bs n d within in
    let kept = part_plain p b takes in
    let low = kept_ascii pending.Comment (b ∷ []) (kept, tt) 0 in
    let len = length-take-le n bs (omega (arith, within)) in
    let len_more = length-take-le (n + 1) bs (omega (arith, within)) in (
      kept_more pending.Comment bs n d plain within kept,
      λ at tokens.
          let there : at + length (take n bs) + 1 ≡ at + (n + 1) = omega (arith, len) in
          ap (λ l. steps (Ok (free_at at tokens)) l) more
          ∙ steps-append (Ok (free_at at tokens)) (take n bs) (b ∷ [])
          ∙ ap (λ r. steps r (b ∷ [])) (run at tokens)
          ∙ ap (λ x. cond x (Ok (scan_at (at + length (take n bs) + len_utf8 b) tokens [] (number_taken at (at + end) p f b (at + length (take n bs) + len_utf8 b)))) (followed (close (number_at at tokens (length (take n bs)) end p f) (pending.Number at (at + end) p f)) (pending.Number at (at + end) p f) b (at + length (take n bs) + len_utf8 b))) takes
          ∙ ap (λ m. Ok (scan_at m tokens [] (number_taken at (at + end) p f b m))) (ap (λ m. at + length (take n bs) + m) (len_utf8_ascii b low) ∙ there)
          ∙ ap (λ x. Ok (scan_at (at + (n + 1)) tokens [] x)) (taken at)
          ∙ ap (λ m. Ok (scan_at (at + m) tokens [] (pending.Number at (at + to) q g))) (sym len_more),
    )

number_closed : (s : Scan) (start end : ℕ) (p : Part) (f : Figures) (power : Bool) (k : Kind) → ends_in_digit (pending.Number 0 0 p f) ≡ true → figures_kind power p f ≡ Some k
    → number_pushed s start end p power (figures_kind power p f) ≡ Ok (pushed s k start end)
number_closed s start end p f power k whole e = ap (λ o. number_pushed s start end p power o) e ∙ by_part p whole
  where
    by_part : (p : Part) → ends_in_digit (pending.Number 0 0 p f) ≡ true → number_pushed s start end p power (Some k) ≡ Ok (pushed s k start end)
    by_part part.Whole w = refl
    by_part part.Decimal w = refl
    by_part part.Ratio w = refl
    by_part part.Point w = absurd (false≢true w)
    by_part part.Over w = absurd (false≢true w)

untaken : (p : Part) (c : ℕ) → keeps (pending.Identifier 0) c ≡ false → eqb c 46 ≡ false → part_takes p c ≡ false
untaken part.Whole c other point = grind arith
untaken part.Point c other point = grind arith
untaken part.Decimal c other point = grind arith
untaken part.Over c other point = grind arith
untaken part.Ratio c other point = grind arith

pub scans_number : (at : ℕ) (tokens : List Token) (text : List ℕ) (n : ℕ) (p : Part) (f : Figures) (k : Kind) → IsUtf8 text → n ≤ length text → AllKept pending.Comment (take n text) → IsNumberRun (take n text) n p f
    → ends_in_digit (pending.Number 0 0 p f) ≡ true → figures_kind (is_power_place tokens) p f ≡ Some k → (b : Behind (drop n text)) → eqb b.byte 46 ≡ false
    → Scans (free_at at tokens) text n (pushed (free_at (at + n) tokens) k at (at + n))
scans_number at tokens text n p f k utf8 within plain run whole e b point =
    let bs = take n text in
    let len : length bs ≡ n = length-take-le n text within in
    let s = number_at at tokens (length bs) n p f in
    let letters = is_xid_continue-ascii b.byte b.low ∙ b.other in
    scans_next pending.Comment _ _ text n b.byte b.more utf8 within plain b.is b.low
    (steps-append (Ok (free_at at tokens)) bs (b.byte ∷ [])
    ∙ ap (λ r. steps r (b.byte ∷ [])) (run at tokens)
    ∙ early s (free_at (at + length bs) tokens) k at (at + n) b.byte (untaken p b.byte b.other point) (ap (λ x. ends_in_digit (pending.Number at (at + n) p f) && x) letters ∙ and_false (ends_in_digit (pending.Number at (at + n) p f))) (number_closed s at (at + n) p f (is_power_place tokens) k whole e) refl
    ∙ ap (λ m. step (pushed (free_at (at + m) tokens) k at (at + n)) b.byte) len)
  where
    and_false : (x : Bool) → (x && false) ≡ false
    and_false true = refl
    and_false false = refl

-- ---- blanks and comments

pub scans_kept : (s : Scan) (p : Pending) (text : List ℕ) (n : ℕ) → s.pending ≡ p → kept_letters p (take n text) ≡ [] → IsUtf8 text → n ≤ length text → AllKept p (take n text)
    → Scans s text n (scan_at (s.at + n) s.tokens s.letters p)
scans_kept s p text n is none utf8 within kept =
    scans_now p s (scan_at (s.at + n) s.tokens s.letters p) text n utf8 within kept
    (ap (λ q. steps (Ok (scan_at s.at s.tokens s.letters q)) (take n text)) is
    ∙ steps_kept s.at s.tokens s.letters p (take n text) kept
    ∙ ap (λ l. Ok (scan_at (s.at + length (take n text)) s.tokens l p)) (ap (λ l. s.letters ++ l) none ∙ append-nil s.letters)
    ∙ ap (λ m. Ok (scan_at (s.at + m) s.tokens s.letters p)) (length-take-le n text within))

pub kept_none : (p : Pending) (bs : List ℕ) → (p ≡ pending.Free) ⊎ (p ≡ pending.Comment) → kept_letters p bs ≡ []
kept_none p bs free = ⊎_elim (λ e. ap (λ q. kept_letters q bs) e) (λ e. ap (λ q. kept_letters q bs) e) free

pub scans_blank : (s : Scan) (text : List ℕ) → s.pending ≡ pending.Free → IsUtf8 text → 0 < length text → keeps pending.Free (get_or text 0 0) ≡ true
    → Scans s text 1 (scan_at (s.at + 1) s.tokens s.letters s.pending)
scans_blank s [] free utf8 some blank = absurd (omega (arith, some))
scans_blank s (b ∷ bs) free utf8 some blank =
    scans_kept s s.pending (b ∷ bs) 1 refl (kept_none s.pending (b ∷ []) (inl free)) utf8 (omega (arith, some)) (subst (λ p. AllKept p (b ∷ [])) (sym free) (blank, tt))

-- ---- one after another

pub scans_more : (old mid new : Scan) (text : List ℕ) (n m : ℕ) → IsUtf8 text → Scans old text n mid → Scans mid (drop n text) m new → Scans old text (n + m) new
scans_more old mid new text n m utf8 one two =
    let front = chars (take n text) in
    let behind = chars (take m (drop n text)) in
    let on = chars_on text n m utf8 one.front in
    let cut = chars_cut (drop n text) m (IsUtf8-drop text n utf8 one.front) two.front in
    let before = subst (λ l. Reaches old front mid l) (sym cut) one.reaches in
    let both = reaches_on old mid new front behind (chars (drop m (drop n text))) before two.reaches in
    record {
      front = IsCharBoundary-from_rest text n m one.front.0 two.front;
      line = subst IsLine on (IsLine-both front behind one.line two.line);
      reaches = subst (λ l. Reaches old l new (chars (drop (n + m) text))) on (subst (λ l. Reaches old (front ++ behind) new (chars l)) (drop-drop m n text) both);
    }

-- ---- the token that was put after the others

pub put_scans : {E : Type 0} (r : Result ℕ E) (at : ℕ) (tokens : List Token) (letters : List ℕ) (p : Pending) (new t : Scan) (text : List ℕ) (n : ℕ) → p ≡ pending.Free → letters ≡ []
    → OnOk r (new ≡ t) → IfOk r (λ m. m ≡ n) → Scans (free_at at tokens) text n t → IfOk r (λ m. Scans (scan_at at tokens letters p) text m new)
put_scans (Err e) at tokens letters p new t text n free none goes len h = tt
put_scans (Ok m) at tokens letters p new t text n free none goes len h =
    let is : scan_at at tokens letters p ≡ free_at at tokens = ap (λ l. scan_at at tokens l p) none ∙ ap (λ q. scan_at at tokens [] q) free in
    subst (λ m. Scans (scan_at at tokens letters p) text m new) (sym len) (subst (λ s. Scans (scan_at at tokens letters p) text n s) (sym goes) (subst (λ s. Scans s text n t) (sym is) h))

pub none_of : {A : Type 0} (o : Option A) → is_some o ≡ false → o ≡ None
none_of None e = refl
none_of (Some x) e = absurd (false≢true (sym e))

pub none_unless : {A : Type 0} (o : Option A) → ((x : A) → o ≡ Some x → ⊥) → o ≡ None
none_unless None h = refl
none_unless (Some x) h = absurd (h x refl)
