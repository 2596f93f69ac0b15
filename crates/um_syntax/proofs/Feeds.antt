-- A lexer that is fed goes on standing for what it was fed.
use Rattle.std.proofs.Common.{◌≡◌, ◌≢◌, ℕ, ◌+◌, ◌/◌, ◌%◌, ◌<◌, ◌≤◌, Bool, true, false, cond, ◌&&◌, ◌||◌, eqb, List, [], ◌∷◌, ◌++◌, length, take, Option, None, Some, is_some, Result, Ok, Err, OnOk, is_err, get_or, refl, sym, ap, subst, ◌∙◌, arith, append_assoc, ◌⊎◌, inl, inr, ⊎_elim, lit<, length-append}
use Rattle.std.proofs.lemmas.Bool.{false≢true, eqb-true, cases_lt, lt-ltb, le-ltb}
use Rattle.std.proofs.lemmas.Str.{encodes-append, encode_same, encode_ascii, chars-encodes, encodes-chars, encodes_same, chars-nil}
use Rattle.std.specs.Str.{chars, IsUtf8}
use lib.Utf8.{encode, encodes, scalar, scalars, next}
use Rattle.unicode_ident.proofs.IdentLemmas.{is_xid_continue-ascii}
use Rattle.um_vocabulary.specs.declared.vocabulary.Symbol.{Symbol}
use Rattle.um_syntax.specs.declared.token.Token.{Token}
use Rattle.um_syntax.specs.declared.token.LexStop.{LexStop}
use Rattle.um_syntax.specs.declared.token.LexStop.TheVariants as lex
use Rattle.um_syntax.specs.declared.token.TextStop.{TextStop}
use Rattle.um_syntax.specs.declared.token.TextStop.TheVariants as text
use Rattle.um_syntax.specs.declared.number.Part.TheVariants as part
use Rattle.um_syntax.specs.declared.pending.Pending.{Pending}
use Rattle.um_syntax.specs.declared.pending.Pending.TheVariants as pending
use Rattle.um_syntax.specs.declared.feed.Lexer.{Lexer}
use Rattle.um_syntax.specs.Gap.{IsLine, nothing, closed}
use Rattle.um_syntax.specs.Lexing.{HasTokens}
use Rattle.um_syntax.specs.Machine.{Scan, scan_start, takes, close, ends_in_digit, followed, at_state, taken, step, steps, ended, tokens_of}
use Rattle.um_vocabulary.specs.Tables.{double_symbol}
use Rattle.um_syntax.specs.Scanning.{Stops}
use Rattle.um_syntax.specs.Feeding.{HasRead, EndsLine, CountsTokens, CountsLines, is_readable, IsReadable, text_stop, HasScanned, HasBehind}
use Rattle.um_syntax.specs.Decoding.{char_len, NoWhole, NoChar}
use Rattle.um_syntax.proofs.Closing.{snoc_same}
use Rattle.um_syntax.proofs.DecodedChars.{no_whole}
use Rattle.std.proofs.Math.ListN.{set, length-set}
use Rattle.std.proofs.lemmas.List.{take_more_set, length-take-le, length-take}
use Rattle.um_syntax.proofs.Runs.{steps-append, reaches_now}
use Rattle.unicode_ident.specs.Ident.{is_xid_continue}
use Rattle.um_vocabulary.proofs.Tables.{double_symbol-feed}
use Rattle.um_syntax.proofs.Reading.{ascii_no_name}
use Rattle.um_syntax.proofs.Whole.{scanned_complete, unique_tokens}
use Rattle.um_vocabulary.proofs.Bools.{and_true, and_parts}

-- no characters, no tokens
pub none_counted : (tokens : List Token) → HasTokens [] tokens → 0 ≡ length tokens
none_counted tokens h = ap length (unique_tokens [] [] tokens (closed nothing) h)

pub scalars-snoc : (cs : List ℕ) (c : ℕ) → scalars cs ≡ true → scalar c ≡ true → scalars (cs ++ c ∷ []) ≡ true
scalars-snoc [] c e f = and_true (scalar c) true f refl
scalars-snoc (d ∷ ds) c e f = let p = and_parts (scalar d) (scalars ds) e in and_true (scalar d) (scalars (ds ++ c ∷ [])) p.0 (scalars-snoc ds c p.1 f)

-- the machine after one more character after a fault
steps-snoc_stopped : (cs : List ℕ) (c : ℕ) (stop : LexStop) → steps (Ok scan_start) cs ≡ Err stop → steps (Ok scan_start) (cs ++ c ∷ []) ≡ Err stop
steps-snoc_stopped cs c stop e = steps-append (Ok scan_start) cs (c ∷ []) ∙ ap (λ r. steps r (c ∷ [])) e

-- what the machine has answered, whatever follows
pub scanned_now : (f : Option TextStop) (scan : Scan) (cs more : List ℕ) → HasScanned f scan cs [] → HasScanned f scan cs more
scanned_now None scan cs more h = reaches_now scan_start scan cs more h
scanned_now (Some (text.Utf8 at)) scan cs more h = h
scanned_now (Some (text.BadChar at)) scan cs more h = h
scanned_now (Some (text.NumberRange at)) scan cs more h = h
scanned_now (Some (text.PowerText at)) scan cs more h = h
scanned_now (Some text.NoMemory) scan cs more h = h

pub scanned_stays : (f : Option TextStop) (scan : Scan) (cs : List ℕ) (c : ℕ) (more : List ℕ) → is_some f ≡ true → IsReadable f → HasScanned f scan cs (c ∷ more) → HasScanned f scan (cs ++ c ∷ []) more
scanned_stays None scan cs c more some r h = absurd (false≢true some)
scanned_stays (Some (text.Utf8 at)) scan cs c more some r h = absurd (false≢true r)
scanned_stays (Some (text.BadChar at)) scan cs c more some r h = steps-snoc_stopped cs c (lex.BadChar at) h
scanned_stays (Some (text.NumberRange at)) scan cs c more some r h = steps-snoc_stopped cs c (lex.NumberRange at) h
scanned_stays (Some (text.PowerText at)) scan cs c more some r h = steps-snoc_stopped cs c (lex.PowerText at) h
scanned_stays (Some text.NoMemory) scan cs c more some r h = absurd (false≢true r)

-- the machine with the next character
scanned_next : (f : Option TextStop) (scan : Scan) (cs : List ℕ) (c : ℕ) (more : List ℕ) → is_some f ≡ false → HasScanned f scan cs (c ∷ more) → steps (Ok scan_start) (cs ++ c ∷ []) ≡ step scan c
scanned_next None scan cs c more none h = h
scanned_next (Some t) scan cs c more none h = absurd (false≢true (sym none))

pub scanned_goes : (f : Option TextStop) (scan new : Scan) (cs : List ℕ) (c : ℕ) (more : List ℕ) → is_some f ≡ false → HasScanned f scan cs (c ∷ more) → step scan c ≡ Ok new → HasScanned f new (cs ++ c ∷ []) more
scanned_goes None scan new cs c more none h e = reaches_now scan_start new (cs ++ c ∷ []) more (h ∙ e)
scanned_goes (Some t) scan new cs c more none h e = absurd (false≢true (sym none))

pub scanned_stops : (f : Option TextStop) (stop : LexStop) (scan new : Scan) (cs : List ℕ) (c : ℕ) (more : List ℕ) → is_some f ≡ false → HasScanned f scan cs (c ∷ more) → stop ≢ lex.NoMemory → Stops stop (step scan c) → HasScanned (Some (text_stop stop)) new (cs ++ c ∷ []) more
scanned_stops f (lex.BadChar at) scan new cs c more none h no_memory e = scanned_next f scan cs c more none h ∙ e
scanned_stops f (lex.NumberRange at) scan new cs c more none h no_memory e = scanned_next f scan cs c more none h ∙ e
scanned_stops f (lex.PowerText at) scan new cs c more none h no_memory e = scanned_next f scan cs c more none h ∙ e
scanned_stops f lex.NoMemory scan new cs c more none h no_memory e = tt

-- the count of tokens up to the last line feed
IsLine-snoc : (line : List ℕ) (c : ℕ) → IsLine line → eqb c 10 ≡ false → IsLine (line ++ c ∷ [])
IsLine-snoc [] c l e = (e, tt)
IsLine-snoc (d ∷ ds) c l e = (l.0, IsLine-snoc ds c l.1 e)

counts_on : (n : ℕ) (cs : List ℕ) (c : ℕ) → eqb c 10 ≡ false → CountsLines n cs → CountsLines n (cs ++ c ∷ [])
counts_on n cs c e k = (k.0, k.1 ++ c ∷ [], ap (λ x. x ++ c ∷ []) k.2 ∙ append_assoc k.0 k.1 (c ∷ []), k.3, IsLine-snoc k.1 c k.4 e, k.5)

append_nil : (xs : List ℕ) → xs ++ [] ≡ xs
append_nil [] = refl
append_nil (x ∷ xs) = ap (λ l. x ∷ l) (append_nil xs)

-- a line feed ends a line, whose tokens are these
counts_line : (n : ℕ) (cs : List ℕ) (c : ℕ) → eqb c 10 ≡ true → ((tokens : List Token) → HasTokens (cs ++ c ∷ []) tokens → n ≡ length tokens) → CountsLines n (cs ++ c ∷ [])
counts_line n cs c e k = (cs ++ c ∷ [], [], sym (append_nil (cs ++ c ∷ [])), inr (cs, ap (λ x. cs ++ x ∷ []) (eqb-true c 10 e)), tt, k)

refused_counts : (n : ℕ) (cs : List ℕ) (stop : LexStop) → steps (Ok scan_start) cs ≡ Err stop → (tokens : List Token) → HasTokens cs tokens → n ≡ length tokens
refused_counts n cs stop e tokens h = absurd (err_ok (sym (ap ended e) ∙ scanned_complete cs tokens h))
  where
    err_ok : ◌≡◌ {A = Result (List Token) LexStop} (Err stop) (Ok tokens) → ⊥
    err_ok e = cc

counts_refused : (n : ℕ) (cs : List ℕ) (c : ℕ) (stop : LexStop) → steps (Ok scan_start) (cs ++ c ∷ []) ≡ Err stop → CountsLines n cs → CountsLines n (cs ++ c ∷ [])
counts_refused n cs c stop e k = by_feed (eqb c 10) refl
  where
    by_feed : (b : Bool) → eqb c 10 ≡ b → CountsLines n (cs ++ c ∷ [])
    by_feed true f = counts_line n cs c f (refused_counts n (cs ++ c ∷ []) stop e)
    by_feed false f = counts_on n cs c f k

pub counts_stays : (f : Option TextStop) (scan : Scan) (n : ℕ) (cs : List ℕ) (c : ℕ) (more : List ℕ) → is_some f ≡ true → IsReadable f → HasScanned f scan cs (c ∷ more) → CountsLines n cs → CountsLines n (cs ++ c ∷ [])
counts_stays None scan n cs c more some r h k = absurd (false≢true some)
counts_stays (Some (text.Utf8 at)) scan n cs c more some r h k = absurd (false≢true r)
counts_stays (Some (text.BadChar at)) scan n cs c more some r h k = counts_refused n cs c (lex.BadChar at) (steps-snoc_stopped cs c (lex.BadChar at) h) k
counts_stays (Some (text.NumberRange at)) scan n cs c more some r h k = counts_refused n cs c (lex.NumberRange at) (steps-snoc_stopped cs c (lex.NumberRange at) h) k
counts_stays (Some (text.PowerText at)) scan n cs c more some r h k = counts_refused n cs c (lex.PowerText at) (steps-snoc_stopped cs c (lex.PowerText at) h) k
counts_stays (Some text.NoMemory) scan n cs c more some r h k = absurd (false≢true r)

pub counts_stops : (f : Option TextStop) (stop : LexStop) (scan : Scan) (n : ℕ) (cs : List ℕ) (c : ℕ) (more : List ℕ) → is_some f ≡ false → HasScanned f scan cs (c ∷ more) → stop ≢ lex.NoMemory → Stops stop (step scan c) → CountsLines n cs → CountsLines n (cs ++ c ∷ [])
counts_stops f (lex.BadChar at) scan n cs c more none h no_memory e k = counts_refused n cs c (lex.BadChar at) (scanned_next f scan cs c more none h ∙ e) k
counts_stops f (lex.NumberRange at) scan n cs c more none h no_memory e k = counts_refused n cs c (lex.NumberRange at) (scanned_next f scan cs c more none h ∙ e) k
counts_stops f (lex.PowerText at) scan n cs c more none h no_memory e k = counts_refused n cs c (lex.PowerText at) (scanned_next f scan cs c more none h ∙ e) k
counts_stops f lex.NoMemory scan n cs c more none h no_memory e k = absurd (no_memory refl)

pub counts_goes : (n : ℕ) (cs : List ℕ) (c : ℕ) → ¬ (c ≡ 10) → CountsLines n cs → CountsLines n (cs ++ c ∷ [])
counts_goes n cs c other k = counts_on n cs c (is_false (eqb c 10) refl) k
  where
    is_false : (b : Bool) → eqb c 10 ≡ b → eqb c 10 ≡ false
    is_false true e = absurd (other (eqb-true c 10 e))
    is_false false e = e

-- a line feed ends what has begun
no_pair : (first : ℕ) → is_some (double_symbol first 10) ≡ false
no_pair first = by_sign (double_symbol first 10) refl
  where
    by_sign : (o : Option Symbol) → double_symbol first 10 ≡ o → is_some (double_symbol first 10) ≡ false
    by_sign (Some k) e = absurd (double_symbol-feed first k e)
    by_sign None e = ap is_some e

line_feed_begun : (p : Pending) (r : Result Scan LexStop) (new : Scan) (next : ℕ) → followed r p 10 next ≡ Ok new → new.pending ≡ pending.Free
line_feed_begun p (Err stop) new next e = absurd (err_ok e)
  where
    err_ok : ◌≡◌ {A = Result Scan LexStop} (Err stop) (Ok new) → ⊥
    err_ok e = cc
line_feed_begun p (Ok s) new next e = by_tail (ends_in_digit p && is_xid_continue 10) refl
  where
    by_tail : (b : Bool) → (ends_in_digit p && is_xid_continue 10) ≡ b → new.pending ≡ pending.Free
    by_tail true t = let w = and_parts (ends_in_digit p) (is_xid_continue 10) t in absurd (false≢true (sym (is_xid_continue-ascii 10 (lit< tt)) ∙ w.1))
    by_tail false t = let q = sym (ap (λ b. cond b (Err (lex.BadChar s.at)) (Ok (at_state s next s.letters pending.Free))) t) ∙ e in let same : at_state s next s.letters pending.Free ≡ new = cc in ap (λ x. x.pending) (sym same)

line_feed_step : (s new : Scan) (p : Pending) → s.pending ≡ p → takes p 10 ≡ false → step s 10 ≡ Ok new → new.pending ≡ pending.Free
line_feed_step s new p is untaken e =
    line_feed_begun s.pending (close s s.pending) new (s.at + 1) (sym (ap (λ b. cond b (Ok (taken s s.pending 10 (s.at + 1))) (followed (close s s.pending) s.pending 10 (s.at + 1))) (ap (λ x. takes x 10) is ∙ untaken)) ∙ e)

no_slash : (first : ℕ) → (eqb first 47 && eqb 10 47) ≡ false
no_slash first = by_test (eqb first 47)
  where
    by_test : (b : Bool) → (b && false) ≡ false
    by_test true = refl
    by_test false = refl

or_both : (a b : Bool) → a ≡ false → b ≡ false → (a || b) ≡ false
or_both true b e f = e
or_both false b e f = f

pub line_feed_free : (s new : Scan) → step s 10 ≡ Ok new → new.pending ≡ pending.Free
line_feed_free s new e = by_pending s.pending refl
  where
    by_pending : (p : Pending) → s.pending ≡ p → new.pending ≡ pending.Free
    by_pending pending.Comment is =
        let q = sym (ap (λ x. cond (takes x 10) (Ok (taken s x 10 (s.at + 1))) (followed (close s x) x 10 (s.at + 1))) is) ∙ e in
        let same : at_state s (s.at + 1) s.letters pending.Free ≡ new = cc in
        ap (λ x. x.pending) (sym same)
    by_pending pending.Start is = line_feed_step s new pending.Start is refl e
    by_pending pending.Free is = line_feed_step s new pending.Free is refl e
    by_pending (pending.Identifier b) is = line_feed_step s new (pending.Identifier b) is (is_xid_continue-ascii 10 (lit< tt)) e
    by_pending (pending.Quote b) is = line_feed_step s new (pending.Quote b) is (ascii_no_name 10 (lit< tt) refl) e
    by_pending (pending.Variable b last) is = line_feed_step s new (pending.Variable b last) is (is_xid_continue-ascii 10 (lit< tt)) e
    by_pending (pending.Number b n part.Whole f) is = line_feed_step s new (pending.Number b n part.Whole f) is refl e
    by_pending (pending.Number b n part.Point f) is = line_feed_step s new (pending.Number b n part.Point f) is refl e
    by_pending (pending.Number b n part.Decimal f) is = line_feed_step s new (pending.Number b n part.Decimal f) is refl e
    by_pending (pending.Number b n part.Over f) is = line_feed_step s new (pending.Number b n part.Over f) is refl e
    by_pending (pending.Number b n part.Ratio f) is = line_feed_step s new (pending.Number b n part.Ratio f) is refl e
    by_pending (pending.Symbol b first) is = line_feed_step s new (pending.Symbol b first) is (or_both (is_some (double_symbol first 10)) (eqb first 47 && eqb 10 47) (no_pair first) (no_slash first)) e

-- the tokens after a line feed
free_answer : (s : Scan) → s.pending ≡ pending.Free → ended (Ok s) ≡ Ok s.tokens
free_answer s is = ap (λ p. tokens_of (close s p)) is

pub counts_feed : (f : Option TextStop) (scan new : Scan) (n : ℕ) (cs : List ℕ) (c : ℕ) (more : List ℕ) → is_some f ≡ false → HasScanned f scan cs (c ∷ more) → step scan c ≡ Ok new → c ≡ 10 → n ≡ length new.tokens → CountsLines n (cs ++ c ∷ [])
counts_feed f scan new n cs c more none h e feed count =
    let stepped = scanned_next f scan cs c more none h ∙ e in
    let free = line_feed_free scan new (subst (λ x. step scan x ≡ Ok new) feed e) in
    counts_line n cs c (ap (λ x. eqb x 10) feed) (λ tokens t.
    let answer = sym (scanned_complete (cs ++ c ∷ []) tokens t) ∙ ap ended stepped ∙ free_answer new free in
    let same : tokens ≡ new.tokens = cc in
    count ∙ ap length (sym same))

-- no characters were read after these
pub none_read : (l : Lexer) (cs more : List ℕ) → HasRead l cs more → HasRead l (cs ++ chars []) more
none_read l cs more h = subst (λ x. HasRead l x more) (sym (ap (λ x. cs ++ x) chars-nil ∙ append_nil cs)) h

-- what stands after the characters
NoChar-more : (tail : List ℕ) (b : ℕ) → NoChar tail → NoChar (tail ++ b ∷ [])
NoChar-more tail b h after = subst NoWhole (sym (append_assoc tail (b ∷ []) after)) (h (b ∷ after))

pub behind_closed : (f : Option TextStop) (valid b : ℕ) (partial tail : List ℕ) → is_readable f ≡ false → HasBehind f valid partial tail → HasBehind f valid partial (tail ++ b ∷ [])
behind_closed None valid b partial tail e h = absurd (false≢true (sym e))
behind_closed (Some (text.Utf8 at)) valid b partial tail e h = (h.0, NoChar-more tail b h.1)
behind_closed (Some (text.BadChar at)) valid b partial tail e h = absurd (false≢true (sym e))
behind_closed (Some (text.NumberRange at)) valid b partial tail e h = absurd (false≢true (sym e))
behind_closed (Some (text.PowerText at)) valid b partial tail e h = absurd (false≢true (sym e))
behind_closed (Some text.NoMemory) valid b partial tail e h = absurd h

pub behind_is : (f : Option TextStop) (valid : ℕ) (partial tail : List ℕ) → IsReadable f → HasBehind f valid partial tail → tail ≡ partial
behind_is None valid partial tail r h = h
behind_is (Some (text.Utf8 at)) valid partial tail r h = absurd (false≢true r)
behind_is (Some (text.BadChar at)) valid partial tail r h = h
behind_is (Some (text.NumberRange at)) valid partial tail r h = h
behind_is (Some (text.PowerText at)) valid partial tail r h = h
behind_is (Some text.NoMemory) valid partial tail r h = absurd (false≢true r)

pub behind_from : (f : Option TextStop) (valid : ℕ) (partial tail : List ℕ) → IsReadable f → tail ≡ partial → HasBehind f valid partial tail
behind_from None valid partial tail r h = h
behind_from (Some (text.Utf8 at)) valid partial tail r h = absurd (false≢true r)
behind_from (Some (text.BadChar at)) valid partial tail r h = h
behind_from (Some (text.NumberRange at)) valid partial tail r h = h
behind_from (Some (text.PowerText at)) valid partial tail r h = h
behind_from (Some text.NoMemory) valid partial tail r h = absurd (false≢true r)

-- the bytes with one more
pub bytes-more : (bytes cs tail : List ℕ) (b : ℕ) → bytes ≡ encodes cs ++ tail → bytes ++ b ∷ [] ≡ encodes cs ++ (tail ++ b ∷ [])
bytes-more bytes cs tail b e = ap (λ x. x ++ b ∷ []) e ∙ append_assoc (encodes cs) tail (b ∷ [])

-- the held bytes with one more
pub held-more : (partial : List ℕ) (held b : ℕ) → held < length partial → take (held + 1) (set partial held b) ≡ take held partial ++ b ∷ []
held-more partial held b h = take_more_set partial held b h

pub held-length : (partial : List ℕ) (held b : ℕ) → held < length partial → length (take (held + 1) (set partial held b)) ≡ held + 1
held-length partial held b h = let n = length-set partial held b in length-take-le (held + 1) (set partial held b) (omega (arith, n, h))

-- a whole character is read
pub whole-read : (bytes cs tail held_bytes : List ℕ) (b c : ℕ) → bytes ≡ encodes cs ++ tail → held_bytes ≡ tail ++ b ∷ [] → held_bytes ≡ encode c → bytes ++ b ∷ [] ≡ encodes (cs ++ c ∷ []) ++ []
whole-read bytes cs tail held_bytes b c e held whole =
    bytes-more bytes cs tail b e
    ∙ ap (λ x. encodes cs ++ x) (sym held ∙ whole ∙ sym (append_nil (encode c)))
    ∙ sym (encodes-append cs (c ∷ []))
    ∙ sym (append_nil (encodes (cs ++ c ∷ [])))

-- a text is read, where no character has begun
pub text_stands : (bytes cs tail text : List ℕ) → IsUtf8 text → bytes ≡ encodes cs ++ tail → tail ≡ [] → bytes ++ text ≡ encodes (cs ++ chars text) ++ []
text_stands bytes cs tail text utf8 e none =
    ap (λ x. x ++ text) (e ∙ ap (λ x. encodes cs ++ x) none ∙ append_nil (encodes cs))
    ∙ ap (λ x. encodes cs ++ x) (sym (encodes-chars text utf8))
    ∙ sym (encodes-append cs (chars text))
    ∙ sym (append_nil (encodes (cs ++ chars text)))

pub both_ok : {T E P Q R : Type 0} (r : Result T E) → OnOk r P → OnOk r Q → (P → Q → R) → OnOk r R
both_ok (Ok x) p q f = f p q
both_ok (Err e) p q f = tt

-- Bytes that begin with a text begin with its characters, where no whole character stands after those that were read.
pub text_front : (ps cs rest tail : List ℕ) → scalars ps ≡ true → NoWhole tail → encodes ps ++ rest ≡ encodes cs ++ tail → (qs : List ℕ) × (cs ≡ ps ++ qs) × (rest ≡ encodes qs ++ tail)
text_front [] cs rest tail s none e = (cs, refl, e)
text_front (p ∷ ps) [] rest tail s none e = absurd (none p (encodes ps ++ rest) (and_parts (scalar p) (scalars ps) s).0 (sym e ∙ append_assoc (encode p) (encodes ps) rest))
text_front (p ∷ ps) (c ∷ cs) rest tail s none e =
    let same = encode_same p c (encodes ps ++ rest) (encodes cs ++ tail) (sym (append_assoc (encode p) (encodes ps) rest) ∙ e ∙ append_assoc (encode c) (encodes cs) tail) in
    let r = text_front ps cs rest tail (and_parts (scalar p) (scalars ps) s).1 none same.1 in
    (r.0, ap (λ x. x ∷ cs) (sym same.0) ∙ ap (λ x. p ∷ x) r.1, r.2)

no_feed : (zs before more : List ℕ) → IsLine zs → zs ≡ before ++ 10 ∷ more → ⊥
no_feed [] [] more l e = nil_cons e
  where
    nil_cons : ◌≡◌ {A = List ℕ} [] (10 ∷ more) → ⊥
    nil_cons e = cc
no_feed [] (b ∷ before) more l e = nil_cons e
  where
    nil_cons : ◌≡◌ {A = List ℕ} [] (b ∷ (before ++ 10 ∷ more)) → ⊥
    nil_cons e = cc
no_feed (z ∷ zs) [] more l e = let same : z ≡ 10 = cc in false≢true (sym l.0 ∙ ap (λ x. eqb x 10) same)
no_feed (z ∷ zs) (b ∷ before) more l e = let rest : zs ≡ before ++ 10 ∷ more = cc in no_feed zs before more l.1 rest

EndsLine-tail : (x : ℕ) (xs : List ℕ) → EndsLine (x ∷ xs) → EndsLine xs
EndsLine-tail x xs ends = ⊎_elim (λ e. absurd (cons_nil e)) (λ w. go w.0 w.1) ends
  where
    cons_nil : x ∷ xs ≡ [] → ⊥
    cons_nil e = cc

    go : (before : List ℕ) → x ∷ xs ≡ before ++ 10 ∷ [] → EndsLine xs
    go [] e = let none : xs ≡ [] = cc in inl none
    go (b ∷ before) e = let rest : xs ≡ before ++ 10 ∷ [] = cc in inr (before, rest)

-- the lines before the last are told apart from it
line_split : (xs us ys vs : List ℕ) → EndsLine xs → IsLine us → EndsLine ys → IsLine vs → xs ++ us ≡ ys ++ vs → xs ≡ ys
line_split [] us [] vs ex lu ey lv e = refl
line_split [] us (y ∷ ys) vs ex lu ey lv e =
    ⊎_elim (λ n. sym n) (λ w. absurd (no_feed us w.0 vs lu (e ∙ ap (λ x. x ++ vs) w.1 ∙ append_assoc w.0 (10 ∷ []) vs))) ey
line_split (x ∷ xs) us [] vs ex lu ey lv e =
    ⊎_elim (λ n. n) (λ w. absurd (no_feed vs w.0 us lv (sym e ∙ ap (λ x. x ++ us) w.1 ∙ append_assoc w.0 (10 ∷ []) us))) ex
line_split (x ∷ xs) us (y ∷ ys) vs ex lu ey lv e =
    let head : x ≡ y = cc in
    let rest : xs ++ us ≡ ys ++ vs = cc in
    ap (λ z. z ∷ xs) head ∙ ap (λ l. y ∷ l) (line_split xs us ys vs (EndsLine-tail x xs ex) lu (EndsLine-tail y ys ey) lv rest)

IsLine-right : (xs ys : List ℕ) → IsLine (xs ++ ys) → IsLine ys
IsLine-right [] ys l = l
IsLine-right (x ∷ xs) ys l = IsLine-right xs ys l.1

IsLine-left : (xs ys : List ℕ) → IsLine (xs ++ ys) → IsLine xs
IsLine-left [] ys l = tt
IsLine-left (x ∷ xs) ys l = (l.0, IsLine-left xs ys l.1)

-- characters without a line feed, by their bytes
IsLine-chars : (qs : List ℕ) → IsLine (encodes qs) → IsLine qs
IsLine-chars [] l = tt
IsLine-chars (c ∷ cs) l = (by_feed (eqb c 10) refl, IsLine-chars cs (IsLine-right (encode c) (encodes cs) l))
  where
    feed : c ≡ 10 → ⊥
    feed same = no_feed (encode c ++ encodes cs) [] (encodes cs) l (ap (λ x. encode x ++ encodes cs) same ∙ ap (λ x. x ++ encodes cs) (encode_ascii 10 (lit< tt)))

    by_feed : (b : Bool) → eqb c 10 ≡ b → eqb c 10 ≡ false
    by_feed true e = absurd (feed (eqb-true c 10 e))
    by_feed false e = e

-- the last byte of a character tells whether it is a line feed
last_byte : (c : ℕ) → (before : List ℕ) × (b : ℕ) × (encode c ≡ before ++ b ∷ []) × (b ≡ 10 → c ≡ 10)
unfolding encode
last_byte c = ⊎_elim one (λ l. ⊎_elim (two l) (λ m. ⊎_elim (three m) four (cases_lt c 65536)) (cases_lt c 2048)) (cases_lt c 128)
  where
    high : (x : ℕ) → 128 + x ≡ 10 → c ≡ 10
    high x e = absurd (omega arith)

    one : c < 128 → (before : List ℕ) × (b : ℕ) × (encode c ≡ before ++ b ∷ []) × (b ≡ 10 → c ≡ 10)
    one h = ([], c, rw (lt-ltb c 128 h) refl, λ e. e)

    two : 128 ≤ c → c < 2048 → (before : List ℕ) × (b : ℕ) × (encode c ≡ before ++ b ∷ []) × (b ≡ 10 → c ≡ 10)
    two l h = ((192 + c / 64) ∷ [], 128 + c % 64, rw (le-ltb c 128 l, lt-ltb c 2048 h) refl, high (c % 64))

    three : 2048 ≤ c → c < 65536 → (before : List ℕ) × (b : ℕ) × (encode c ≡ before ++ b ∷ []) × (b ≡ 10 → c ≡ 10)
    three m h = let l : 128 ≤ c = omega arith in ((224 + c / 4096) ∷ next (c / 64) ∷ [], 128 + c % 64, rw (le-ltb c 128 l, le-ltb c 2048 m, lt-ltb c 65536 h) refl, high (c % 64))

    four : 65536 ≤ c → (before : List ℕ) × (b : ℕ) × (encode c ≡ before ++ b ∷ []) × (b ≡ 10 → c ≡ 10)
    four n = let l : 128 ≤ c = omega arith in let m : 2048 ≤ c = omega arith in
        ((240 + c / 262144) ∷ next (c / 4096) ∷ next (c / 64) ∷ [], 128 + c % 64, rw (le-ltb c 128 l, le-ltb c 2048 m, le-ltb c 65536 n) refl, high (c % 64))

snoc_view : (xs : List ℕ) → (xs ≡ []) ⊎ ((prefix : List ℕ) × (c : ℕ) × (xs ≡ prefix ++ c ∷ []))
snoc_view [] = inl refl
snoc_view (x ∷ xs) = inr (go x xs)
  where
    go : (x : ℕ) (xs : List ℕ) → (prefix : List ℕ) × (c : ℕ) × (x ∷ xs ≡ prefix ++ c ∷ [])
    go x [] = ([], x, refl)
    go x (y ∷ ys) = let r = go y ys in (x ∷ r.0, r.1, ap (λ l. x ∷ l) r.2)

no_snoc : (before : List ℕ) (b : ℕ) → [] ≡ before ++ b ∷ [] → ⊥
no_snoc before b e = let n = ap length e ∙ length-append before (b ∷ []) in omega (arith, n)

-- bytes that end with a line feed are of characters that do
EndsLine-chars : (ps : List ℕ) → EndsLine (encodes ps) → EndsLine ps
EndsLine-chars ps ends = ⊎_elim (λ none. inl (none_chars ps none)) (λ w. ⊎_elim (λ n. inl n) (λ v. by_last w.0 w.1 v.0 v.1 v.2) (snoc_view ps)) ends
  where
    none_chars : (ps : List ℕ) → encodes ps ≡ [] → ps ≡ []
    none_chars ps none = encodes_same ps [] none

    by_last : (before : List ℕ) → encodes ps ≡ before ++ 10 ∷ [] → (prefix : List ℕ) (c : ℕ) → ps ≡ prefix ++ c ∷ [] → EndsLine ps
    by_last before e prefix c same =
        let l = last_byte c in
        let bytes : (encodes prefix ++ l.0) ++ l.1 ∷ [] ≡ before ++ 10 ∷ [] =
        append_assoc (encodes prefix) l.0 (l.1 ∷ []) ∙ ap (λ x. encodes prefix ++ x) (sym l.2 ∙ sym (append_nil (encode c))) ∙ sym (encodes-append prefix (c ∷ [])) ∙ ap encodes (sym same) ∙ e in
        let feed = l.3 (snoc_same (encodes prefix ++ l.0) before l.1 10 bytes).1 in
        inr (prefix, same ∙ ap (λ x. prefix ++ x ∷ []) feed)

pub behind_no_whole : (f : Option TextStop) (valid held : ℕ) (partial tail : List ℕ) → held < char_len (get_or (take held partial) 0 0) → HasBehind f valid (take held partial) tail → NoWhole tail
behind_no_whole f valid held partial tail begun h = by_fault f h
  where
    plain : tail ≡ take held partial → NoWhole tail
    plain e = subst NoWhole (sym e) (no_whole (take held partial) (let n = length-take held partial in omega (arith, n, begun)))

    by_fault : (f : Option TextStop) → HasBehind f valid (take held partial) tail → NoWhole tail
    by_fault None h = plain h
    by_fault (Some (text.Utf8 at)) h = subst NoWhole (append_nil tail) (h.1 [])
    by_fault (Some (text.BadChar at)) h = plain h
    by_fault (Some (text.NumberRange at)) h = plain h
    by_fault (Some (text.PowerText at)) h = plain h
    by_fault (Some text.NoMemory) h = absurd h

pub counts_tokens : (bytes cs tail : List ℕ) (count : ℕ) → bytes ≡ encodes cs ++ tail → NoWhole tail → CountsLines count cs → CountsTokens bytes count
counts_tokens bytes cs tail count whole none k = λ prefix rest tokens e ends line text has.
    let ps = text.0 in
    let cut : encodes ps ++ rest ≡ encodes cs ++ tail = ap (λ x. x ++ rest) text.1.1 ∙ sym e ∙ whole in
    let r = text_front ps cs rest tail text.1.0 none cut in
    let last : IsLine (encodes r.0 ++ tail) = subst IsLine r.2 line in
    let same = line_split k.0 k.1 ps r.0 k.3 k.4 (EndsLine-chars ps (subst EndsLine (sym text.1.1) ends)) (IsLine-chars r.0 (IsLine-left (encodes r.0) tail last)) (sym k.2 ∙ r.1) in
    let characters : chars prefix ≡ ps = ap chars (sym text.1.1) ∙ chars-encodes ps text.1.0 in
    k.5 tokens (subst (λ x. HasTokens x tokens) (characters ∙ sym same) has)

pub ok_from : {T E P : Type 0} (r : Result T E) → OnOk r P → is_err r ≡ false → P
ok_from (Ok x) p e = p
ok_from (Err d) p e = absurd (false≢true (sym e))

pub readable_stop : (stop : LexStop) → stop ≢ lex.NoMemory → IsReadable (Some (text_stop stop))
readable_stop (lex.BadChar at) h = refl
readable_stop (lex.NumberRange at) h = refl
readable_stop (lex.PowerText at) h = refl
readable_stop lex.NoMemory h = absurd (h refl)
