-- Characters that keep what has begun.
use Rattle.std.proofs.Common.{◌≡◌, ℕ, zero, suc, ◌+◌, ◌<◌, ◌≤◌, ◌||◌, true, false, not, ltb, eqb, List, [], ◌∷◌, ◌++◌, length, take, drop, get_or, Option, None, Some, is_some, Ok, refl, sym, ap, subst, ◌∙◌, arith, append_assoc}
use Rattle.std.proofs.lemmas.Bool.{false≢true, lt-ltb}
use Rattle.std.proofs.lemmas.List.{take_more, append-nil, drop-take, take-take, take-append-drop}
use Rattle.std.proofs.Math.Seq.{take-append_seam}
use Rattle.std.proofs.lemmas.Str.{encode_ascii, len_utf8_ascii, chars-IsAscii, IsUtf8-from_ascii, IsUtf8-take, IsUtf8-past_char, IsCharBoundary-from_take, IsCharBoundary-at_seam, length-encode, chars-append, chars-nil, chars_past_char}
use Rattle.std.specs.Char.{is_ascii_alphabetic, len_utf8}
use Rattle.std.specs.Str.{IsAscii, IsUtf8, IsCharBoundary, chars}
use lib.Utf8.{encode, scalar, scalars}
use Rattle.unicode_ident.proofs.IdentLemmas.{is_xid_start-ascii, is_xid_continue-ascii}
use Rattle.um_syntax.specs.declared.token.Token.{Token}
use Rattle.um_syntax.specs.declared.token.TextStop.{TextStop}
use Rattle.um_syntax.specs.declared.pending.Pending.{Pending}
use Rattle.um_syntax.specs.declared.pending.Pending.TheVariants as pending
use Rattle.um_syntax.specs.Gap.{is_space, IsLine}
use Rattle.um_syntax.specs.Lexeme.{starts_name}
use Rattle.um_syntax.specs.Machine.{Scan, scan_start, keeps, AllKept, begins_name, IsNameRun, ends_name, step, steps, Reaches}
use Rattle.um_syntax.specs.Feeding.{CountsLines, HasScanned}
use Rattle.um_syntax.proofs.Runs.{reaches_on}
use Rattle.um_syntax.proofs.Closing.{scan_at}
use Rattle.um_vocabulary.proofs.Bools.{and_true, and_parts}

-- a byte that keeps something is ASCII, and no line feed
keeps_ascii : (p : Pending) (b : ℕ) → keeps p b ≡ true → (b < 128) × (eqb b 10 ≡ false)
keeps_ascii pending.Free b h = grind arith
keeps_ascii pending.Comment b h = grind arith
keeps_ascii (pending.Identifier start) b h = grind arith
keeps_ascii pending.Start b h = absurd (false≢true h)
keeps_ascii (pending.Quote start) b h = absurd (false≢true h)
keeps_ascii (pending.Variable start last) b h = absurd (false≢true h)
keeps_ascii (pending.Number start end part figures) b h = absurd (false≢true h)
keeps_ascii (pending.Symbol start first) b h = absurd (false≢true h)

pub kept_ascii : (p : Pending) (bs : List ℕ) → AllKept p bs → IsAscii bs
kept_ascii p [] h i = omega arith
kept_ascii p (b ∷ bs) h zero = (keeps_ascii p b h.0).0
kept_ascii p (b ∷ bs) h (suc i) = kept_ascii p bs h.1 i

pub kept_line : (p : Pending) (bs : List ℕ) → AllKept p bs → IsLine bs
kept_line p [] h = tt
kept_line p (b ∷ bs) h = ((keeps_ascii p b h.0).1, kept_line p bs h.1)

pub plain_byte : (b : ℕ) → b < 128 → eqb b 10 ≡ false → keeps pending.Comment b ≡ true
plain_byte b low feed = grind arith

-- such bytes are those of a comment, too
pub plain : (p : Pending) (bs : List ℕ) → AllKept p bs → AllKept pending.Comment bs
plain p [] h = tt
plain p (b ∷ bs) h = (plain_byte b (keeps_ascii p b h.0).0 (keeps_ascii p b h.0).1, plain p bs h.1)

AllKept-snoc : (p : Pending) (bs : List ℕ) (b : ℕ) → AllKept p bs → keeps p b ≡ true → AllKept p (bs ++ b ∷ [])
AllKept-snoc p [] b h k = (k, tt)
AllKept-snoc p (a ∷ bs) b h k = (h.0, AllKept-snoc p bs b h.1 k)

pub kept_more : (p : Pending) (bs : List ℕ) (n d : ℕ) → AllKept p (take n bs) → n < length bs → keeps p (get_or bs n d) ≡ true → AllKept p (take (n + 1) bs)
kept_more p bs n d h l k = subst (AllKept p) (sym (take_more bs n d l)) (AllKept-snoc p (take n bs) (get_or bs n d) h k)

-- the letters with those of the bytes
abbrev pub kept_letters : Pending → List ℕ → List ℕ
kept_letters (pending.Identifier start) bs = bs
kept_letters _ bs = []

step_identifier : (at : ℕ) (tokens : List Token) (letters : List ℕ) (start b : ℕ) → keeps (pending.Identifier start) b ≡ true
    → step (scan_at at tokens letters (pending.Identifier start)) b ≡ Ok (scan_at (at + 1) tokens (letters ++ b ∷ []) (pending.Identifier start))
step_identifier at tokens letters start b h =
    let low = (keeps_ascii (pending.Identifier start) b h).0 in
    rw (is_xid_continue-ascii b low ∙ h, len_utf8_ascii b low, encode_ascii b low) refl

step_comment : (at : ℕ) (tokens : List Token) (letters : List ℕ) (b : ℕ) → keeps pending.Comment b ≡ true
    → step (scan_at at tokens letters pending.Comment) b ≡ Ok (scan_at (at + 1) tokens letters pending.Comment)
step_comment at tokens letters b h =
    let k = keeps_ascii pending.Comment b h in
    rw (len_utf8_ascii b k.0, k.1) refl

step_blank : (at : ℕ) (tokens : List Token) (letters : List ℕ) (b : ℕ) → keeps pending.Free b ≡ true
    → step (scan_at at tokens letters pending.Free) b ≡ Ok (scan_at (at + 1) tokens letters pending.Free)
step_blank at tokens letters b h =
    let low = (keeps_ascii pending.Free b h).0 in
    let space : is_space b ≡ true = grind arith in
    rw (space, len_utf8_ascii b low) refl

no_letters : (p : Pending) → kept_letters p [] ≡ []
no_letters (pending.Identifier start) = refl
no_letters pending.Comment = refl
no_letters pending.Free = refl
no_letters pending.Start = refl
no_letters (pending.Quote start) = refl
no_letters (pending.Variable start last) = refl
no_letters (pending.Number start end part figures) = refl
no_letters (pending.Symbol start first) = refl

-- the machine after bytes that keep what has begun
pub steps_kept : (at : ℕ) (tokens : List Token) (letters : List ℕ) (p : Pending) (bs : List ℕ) → AllKept p bs
    → steps (Ok (scan_at at tokens letters p)) bs ≡ Ok (scan_at (at + length bs) tokens (letters ++ kept_letters p bs) p)
steps_kept at tokens letters p [] h =
    let here : at ≡ at + 0 = omega arith in
    ap (λ l. Ok (scan_at at tokens l p)) (sym (append-nil letters) ∙ ap (λ l. letters ++ l) (sym (no_letters p)))
    ∙ ap (λ n. Ok (scan_at n tokens (letters ++ kept_letters p []) p)) here
steps_kept at tokens letters (pending.Identifier start) (b ∷ bs) h =
    let there : at + 1 + length bs ≡ at + length (b ∷ bs) = omega arith in
    ap (λ r. steps r bs) (step_identifier at tokens letters start b h.0)
    ∙ steps_kept (at + 1) tokens (letters ++ b ∷ []) (pending.Identifier start) bs h.1
    ∙ ap (λ n. Ok (scan_at n tokens ((letters ++ b ∷ []) ++ bs) (pending.Identifier start))) there
    ∙ ap (λ l. Ok (scan_at (at + length (b ∷ bs)) tokens l (pending.Identifier start))) (append_assoc letters (b ∷ []) bs)
steps_kept at tokens letters pending.Comment (b ∷ bs) h =
    let there : at + 1 + length bs ≡ at + length (b ∷ bs) = omega arith in
    ap (λ r. steps r bs) (step_comment at tokens letters b h.0)
    ∙ steps_kept (at + 1) tokens letters pending.Comment bs h.1
    ∙ ap (λ n. Ok (scan_at n tokens (letters ++ []) pending.Comment)) there
steps_kept at tokens letters pending.Free (b ∷ bs) h =
    let there : at + 1 + length bs ≡ at + length (b ∷ bs) = omega arith in
    ap (λ r. steps r bs) (step_blank at tokens letters b h.0)
    ∙ steps_kept (at + 1) tokens letters pending.Free bs h.1
    ∙ ap (λ n. Ok (scan_at n tokens (letters ++ []) pending.Free)) there
steps_kept at tokens letters pending.Start (b ∷ bs) h = absurd (false≢true h.0)
steps_kept at tokens letters (pending.Quote start) (b ∷ bs) h = absurd (false≢true h.0)
steps_kept at tokens letters (pending.Variable start last) (b ∷ bs) h = absurd (false≢true h.0)
steps_kept at tokens letters (pending.Number start end part figures) (b ∷ bs) h = absurd (false≢true h.0)
steps_kept at tokens letters (pending.Symbol start first) (b ∷ bs) h = absurd (false≢true h.0)

-- ---- bytes that begin a name

begins_keeps : (b : ℕ) → (eqb b 95 || is_ascii_alphabetic b) ≡ true → keeps (pending.Identifier 0) b ≡ true
begins_keeps b h = grind arith

pub name_kept : (bs : List ℕ) → IsNameRun bs → AllKept (pending.Identifier 0) bs
name_kept [] h = absurd h
name_kept (b ∷ bs) h = (begins_keeps b h.0, h.1)

-- bytes of a name keep it wherever it began
any_start : (start : ℕ) (bs : List ℕ) → AllKept (pending.Identifier 0) bs → AllKept (pending.Identifier start) bs
any_start start [] h = tt
any_start start (b ∷ bs) h = (h.0, any_start start bs h.1)

step_name : (at : ℕ) (tokens : List Token) (letters : List ℕ) (b : ℕ) → (eqb b 95 || is_ascii_alphabetic b) ≡ true
    → step (scan_at at tokens letters pending.Free) b ≡ Ok (scan_at (at + 1) tokens (letters ++ b ∷ []) (pending.Identifier at))
step_name at tokens letters b h =
    let low = (keeps_ascii (pending.Identifier 0) b (begins_keeps b h)).0 in
    let space : is_space b ≡ false = grind arith in
    let name : starts_name b ≡ true = ap (λ x. eqb b 95 || x) (is_xid_start-ascii b low) ∙ h in
    rw (space, name, len_utf8_ascii b low, encode_ascii b low) refl

-- the machine after such bytes
pub steps_name : (at : ℕ) (tokens : List Token) (letters bs : List ℕ) → IsNameRun bs
    → steps (Ok (scan_at at tokens letters pending.Free)) bs ≡ Ok (scan_at (at + length bs) tokens (letters ++ bs) (pending.Identifier at))
steps_name at tokens letters [] h = absurd h
steps_name at tokens letters (b ∷ bs) h =
    let there : at + 1 + length bs ≡ at + length (b ∷ bs) = omega arith in
    ap (λ r. steps r bs) (step_name at tokens letters b h.0)
    ∙ steps_kept (at + 1) tokens (letters ++ b ∷ []) (pending.Identifier at) bs (any_start at bs h.1)
    ∙ ap (λ n. Ok (scan_at n tokens ((letters ++ b ∷ []) ++ bs) (pending.Identifier at))) there
    ∙ ap (λ l. Ok (scan_at (at + length (b ∷ bs)) tokens l (pending.Identifier at))) (append_assoc letters (b ∷ []) bs)

-- bytes of a name, by where it begins and how far they go on with it
pub name_run : (bs : List ℕ) (n : ℕ) → begins_name bs ≡ true → AllKept (pending.Identifier 0) (take n bs) → 0 < n → IsNameRun (take n bs)
name_run bs zero h k some = absurd (omega (arith, some))
name_run [] (suc n) h k some = absurd (false≢true h)
name_run (b ∷ bs) (suc n) h k some = (h, k.1)

-- the first byte of a name
pub first_kept : (bs : List ℕ) → begins_name bs ≡ true → (1 ≤ length bs) × AllKept (pending.Identifier 0) (take 1 bs)
first_kept [] h = absurd (false≢true h)
first_kept (b ∷ bs) h = (omega arith, (begins_keeps b h, tt))

-- the byte after a name
pub name_ends : (bs : List ℕ) (n d : ℕ) → n < length bs → get_or bs n d < 128 → keeps (pending.Identifier 0) (get_or bs n d) ≡ false → ends_name (drop n bs) ≡ true
name_ends [] n d within low other = absurd (omega (arith, within))
name_ends (b ∷ bs) zero d within low other = and_true (ltb b 128) (not (keeps (pending.Identifier 0) b)) (lt-ltb b 128 low) (ap not other)
name_ends (b ∷ bs) (suc n) d within low other = name_ends bs n d (omega (arith, within)) low other

-- what a lexer has read, with more characters
pub scalars-both : (cs ds : List ℕ) → scalars cs ≡ true → scalars ds ≡ true → scalars (cs ++ ds) ≡ true
scalars-both [] ds e f = f
scalars-both (c ∷ cs) ds e f = let h = and_parts (scalar c) (scalars cs) e in and_true (scalar c) (scalars (cs ++ ds)) h.0 (scalars-both cs ds h.1 f)

pub scanned_on : (f : Option TextStop) (scan new : Scan) (cs ds es : List ℕ) → is_some f ≡ false → HasScanned f scan cs (ds ++ es) → Reaches scan ds new es → HasScanned f new (cs ++ ds) es
scanned_on None scan new cs ds es none h r = reaches_on scan_start scan new cs ds es h r
scanned_on (Some t) scan new cs ds es none h r = absurd (false≢true (sym none))

pub IsLine-both : (xs ys : List ℕ) → IsLine xs → IsLine ys → IsLine (xs ++ ys)
IsLine-both [] ys l m = m
IsLine-both (x ∷ xs) ys l m = (l.0, IsLine-both xs ys l.1 m)

pub counts_line_on : (n : ℕ) (cs line : List ℕ) → IsLine line → CountsLines n cs → CountsLines n (cs ++ line)
counts_line_on n cs line l k = (k.0, k.1 ++ line, ap (λ x. x ++ line) k.2 ∙ append_assoc k.0 k.1 line, k.3, IsLine-both k.1 line k.4 l, k.5)

-- where such bytes end, a character does
pub kept_boundary : (p : Pending) (text : List ℕ) (n : ℕ) → IsUtf8 text → n ≤ length text → AllKept p (take n text) → IsCharBoundary text n
kept_boundary p text n utf8 within h = IsCharBoundary-from_take text n utf8 within (IsUtf8-from_ascii (take n text) (kept_ascii p (take n text) h))

pub kept_chars : (p : Pending) (bs : List ℕ) → AllKept p bs → chars bs ≡ bs
kept_chars p bs h = chars-IsAscii bs (kept_ascii p bs h)

-- the characters of a text, cut where one begins
pub chars_cut : (text : List ℕ) (n : ℕ) → IsUtf8 text → IsCharBoundary text n → chars (take n text) ++ chars (drop n text) ≡ chars text
chars_cut text n utf8 boundary = sym (chars-append (take n text) (drop n text) (IsUtf8-take text n utf8 boundary)) ∙ ap chars (take-append-drop n text)

-- the character at the front of a text
pub first_char : (text rest : List ℕ) (c : ℕ) → IsUtf8 text → text ≡ encode c ++ rest → IsCharBoundary text (len_utf8 c) × (chars (take (len_utf8 c) text) ≡ c ∷ [])
first_char text rest c utf8 e =
    let boundary = subst (IsCharBoundary text) (length-encode c) (IsCharBoundary-at_seam text (encode c) rest e (IsUtf8-past_char text rest c utf8 e)) in
    let front = subst (λ n. take n text ≡ encode c) (length-encode c) (ap (take (length (encode c))) e ∙ take-append_seam (encode c) rest) in
    (boundary, chars_past_char (take (len_utf8 c) text) [] c (IsUtf8-take text (len_utf8 c) utf8 boundary) (front ∙ sym (append-nil (encode c))) ∙ ap (λ l. c ∷ l) chars-nil)

-- the characters of a text up to a place after another
pub chars_on : (text : List ℕ) (at n : ℕ) → IsUtf8 text → IsCharBoundary text at → chars (take at text) ++ chars (take n (drop at text)) ≡ chars (take (at + n) text)
chars_on text at n utf8 boundary =
    sym (chars-append (take at text) (take n (drop at text)) (IsUtf8-take text at utf8 boundary))
    ∙ ap chars (
    ap (λ l. take at text ++ l) (sym (drop-take at n text))
    ∙ ap (λ l. l ++ drop at (take (at + n) text)) (sym (take-take at (at + n) text (omega arith)))
    ∙ take-append-drop at (take (at + n) text)
    )
