-- What the machine answers is what the text means.
use Rattle.std.proofs.Common.{◌≡◌, ℕ, ◌+◌, Bool, true, false, cond, ◌&&◌, List, [], ◌∷◌, ◌++◌, Result, Ok, Err, refl, sym, ap, subst, ◌∙◌}
use Rattle.std.proofs.lemmas.Bool.{false≢true}
use Rattle.std.specs.Char.{len_utf8}
use lib.Utf8.{encodes}
use Rattle.unicode_ident.specs.Ident.{is_xid_continue}
use Rattle.um_syntax.specs.declared.token.Token.{Token}
use Rattle.um_syntax.specs.declared.token.LexStop.{LexStop}
use Rattle.um_syntax.specs.declared.token.LexStop.TheVariants.{BadChar}
use Rattle.um_syntax.specs.declared.number.Part.{Part}
use Rattle.um_syntax.specs.declared.number.Part.TheVariants as part
use Rattle.um_syntax.specs.declared.number.Figures.{Figures}
use Rattle.um_syntax.specs.declared.pending.Pending.{Pending}
use Rattle.um_syntax.specs.declared.pending.Pending.TheVariants as pending
use Rattle.um_syntax.specs.Gap.{nothing, IsLastGap, closed, unclosed}
use Rattle.um_syntax.specs.Numeral.{numeral_text}
use Rattle.um_syntax.specs.Lexeme.{begins}
use Rattle.um_syntax.specs.Lexing.{size_of}
use Rattle.um_syntax.specs.Machine.{Scan, takes, close, ends_in_digit, followed, begun, step, steps, tokens_of, ended}
use Rattle.um_syntax.proofs.Runs.{steps-stopped}
use Rattle.um_syntax.proofs.Digits.{figures_of}
use Rattle.um_syntax.proofs.Meaning.{Means}
use Rattle.um_syntax.proofs.Closing.{tail_of, Pends, CloseMeans, scan_at, close_identifier, close_quote, close_variable, close_number, close_symbol, number_tail}
use Rattle.um_syntax.proofs.Taking.{TakeMeans, take_sound, BeginMeans, begin_sound}
use Rattle.um_vocabulary.proofs.Bools.{and_parts}

abbrev pub is_comment : Pending → Bool
is_comment pending.Comment = true
is_comment _ = false

abbrev CloseSound : List Token → List ℕ → ℕ → ℕ → List ℕ → List ℕ → Pending → Type 0
CloseSound before letters at start text more p = CloseMeans before start text at more p (close (scan_at at before letters p) p)

-- what has begun ends before a character that doesn't belong to it
close_sound : (before : List Token) (letters : List ℕ) (at start : ℕ) (text more : List ℕ) (p : Pending) → Pends p letters at start text → is_comment p ≡ false → begins (takes p) more ≡ false → CloseSound before letters at start text more p
close_sound before letters at start text more pending.Start h n u = absurd h
close_sound before letters at start text more pending.Comment h n u = absurd (false≢true (sym n))
close_sound before letters at start text more pending.Free h n u = (
  ap (λ l. scan_at at before l pending.Free) h.0,
  λ answer alone m.
      subst (λ x. Means before start (x ++ more) answer) (sym h.1) (subst (λ x. Means before x more answer) h.2 m),
)
close_sound before letters at start text more (pending.Identifier b) h n u =
    subst (λ x. CloseSound before letters at start text more (pending.Identifier x)) (sym h.0) (close_identifier before start at letters text more h.1 h.2 h.3 u)
close_sound before letters at start text more (pending.Quote b) h n u =
    subst (λ x. Means before start (x ++ more) (Err (BadChar b))) (sym h.3) (subst (λ x. Means before start (39 ∷ more) (Err (BadChar x))) (sym h.0) (close_quote before start more u))
close_sound before letters at start text more (pending.Variable b last) h n u =
    let w = h.2 in
    let m = close_variable before start at last w.0 more w.1 w.3 w.5 (h.1 ∙ ap (λ x. start + size_of x) w.2) u in
    subst (λ x. CloseSound before letters at start x more (pending.Variable b last)) (sym w.2)
    (subst (λ l. CloseSound before l at start (39 ∷ (w.0 ++ w.1 ∷ [])) more (pending.Variable b last)) (sym w.4)
    (subst (λ s. CloseSound before (encodes (w.0 ++ w.1 ∷ [])) at start (39 ∷ (w.0 ++ w.1 ∷ [])) more (pending.Variable s last)) (sym h.0) m))
close_sound before letters at start text more (pending.Number b e p f) h n u =
    let w = h.3 in
    let m = close_number before start at e p w.0 more w.1 w.5 w.4 (h.1 ∙ ap (λ x. start + size_of x) w.3) u in
    subst (λ x. CloseSound before letters at start x more (pending.Number b e p f)) (sym w.3)
    (subst (λ l. CloseSound before l at start (numeral_text w.0 ++ tail_of p) more (pending.Number b e p f)) (sym h.2)
    (subst (λ g. CloseSound before [] at start (numeral_text w.0 ++ tail_of p) more (pending.Number b e p g)) (sym w.2)
    (subst (λ s. CloseSound before [] at start (numeral_text w.0 ++ tail_of p) more (pending.Number s e p (figures_of w.0))) (sym h.0) m)))
close_sound before letters at start text more (pending.Symbol b first) h n u =
    let m = close_symbol before start at first more (h.1 ∙ ap (λ x. start + size_of x) h.3) h.4 u in
    subst (λ x. CloseSound before letters at start x more (pending.Symbol b first)) (sym h.3)
    (subst (λ l. CloseSound before l at start (first ∷ []) more (pending.Symbol b first)) (sym h.2)
    (subst (λ s. CloseSound before [] at start (first ∷ []) more (pending.Symbol s first)) (sym h.0) m))

append_none : (xs : List ℕ) → xs ++ [] ≡ xs
append_none [] = refl
append_none (x ∷ xs) = ap (λ l. x ∷ l) (append_none xs)

-- the text ends
end_closed : (before : List Token) (start at : ℕ) (text : List ℕ) (p : Pending) (r : Result Scan LexStop) → CloseMeans before start text at [] p r → Means before start (text ++ []) (tokens_of r)
end_closed before start at text p (Ok s) m = m.1 (Ok s.tokens) (λ d. refl) ([], sym (append_nothing s.tokens), closed nothing)
  where
    append_nothing : (xs : List Token) → xs ++ [] ≡ xs
    append_nothing [] = refl
    append_nothing (x ∷ xs) = ap (λ l. x ∷ l) (append_nothing xs)
end_closed before start at text p (Err stop) m = m

append_no_token : (xs : List Token) → xs ++ [] ≡ xs
append_no_token [] = refl
append_no_token (x ∷ xs) = ap (λ l. x ∷ l) (append_no_token xs)

end_begun : (before : List Token) (letters : List ℕ) (at start : ℕ) (text : List ℕ) (p : Pending) → Pends p letters at start text → is_comment p ≡ false → Means before start (text ++ []) (tokens_of (close (scan_at at before letters p) p))
end_begun before letters at start text p h n = end_closed before start at text p (close (scan_at at before letters p) p) (close_sound before letters at start text [] p h n refl)

end_sound : (before : List Token) (letters : List ℕ) (at start : ℕ) (text : List ℕ) (p : Pending) → Pends p letters at start text → Means before start (text ++ []) (tokens_of (close (scan_at at before letters p) p))
end_sound before letters at start text pending.Comment h =
    ([], sym (append_no_token before), subst (λ x. IsLastGap (x ++ [])) (sym h.2.1) (subst IsLastGap (sym (append_none (47 ∷ 47 ∷ h.2.0))) (unclosed h.2.0 nothing h.2.2)))
end_sound before letters at start text pending.Start h = absurd h
end_sound before letters at start text pending.Free h = end_begun before letters at start text pending.Free h refl
end_sound before letters at start text (pending.Identifier b) h = end_begun before letters at start text (pending.Identifier b) h refl
end_sound before letters at start text (pending.Quote b) h = end_begun before letters at start text (pending.Quote b) h refl
end_sound before letters at start text (pending.Variable b last) h = end_begun before letters at start text (pending.Variable b last) h refl
end_sound before letters at start text (pending.Number b e p f) h = end_begun before letters at start text (pending.Number b e p f) h refl
end_sound before letters at start text (pending.Symbol b first) h = end_begun before letters at start text (pending.Symbol b first) h refl

-- one character
abbrev StepMeans : List Token → ℕ → List ℕ → ℕ → List ℕ → Result Scan LexStop → Type 0
StepMeans before start text c more (Ok s) = TakeMeans before start text c more s
StepMeans before start text c more (Err stop) = Means before start (text ++ c ∷ more) (Err stop)

taken_comment : (p : Pending) (c : ℕ) → takes p c ≡ false → is_comment p ≡ false
taken_comment pending.Comment c e = e
taken_comment pending.Start c e = refl
taken_comment pending.Free c e = refl
taken_comment (pending.Identifier b) c e = refl
taken_comment (pending.Quote b) c e = refl
taken_comment (pending.Variable b last) c e = refl
taken_comment (pending.Number b e p f) c t = refl
taken_comment (pending.Symbol b first) c e = refl

abbrev TailSound : List Token → List ℕ → ℕ → ℕ → List ℕ → List ℕ → Scan → Pending → Type 0
TailSound before letters at start text more new p =
    begins (takes p) more ≡ false → begins is_xid_continue more ≡ true → close (scan_at at before letters p) p ≡ Ok new → Means before start (text ++ more) (Err (BadChar at))

digit_tail : (before : List Token) (letters : List ℕ) (at start : ℕ) (text more : List ℕ) (new : Scan) (b e : ℕ) (p : Part) (f : Figures) → tail_of p ≡ [] → Pends (pending.Number b e p f) letters at start text
    → TailSound before letters at start text more new (pending.Number b e p f)
digit_tail before letters at start text more new b e p f no_tail h =
    let w = h.3 in
    let m : TailSound before [] at start (numeral_text w.0 ++ tail_of p) more new (pending.Number start e p (figures_of w.0)) =
    λ u letter ok. number_tail before start at e p w.0 more new w.1 w.5 w.4 (h.1 ∙ ap (λ x. start + size_of x) w.3) u no_tail letter ok in
    subst (λ x. TailSound before letters at start x more new (pending.Number b e p f)) (sym w.3)
    (subst (λ l. TailSound before l at start (numeral_text w.0 ++ tail_of p) more new (pending.Number b e p f)) (sym h.2)
    (subst (λ g. TailSound before [] at start (numeral_text w.0 ++ tail_of p) more new (pending.Number b e p g)) (sym w.2)
    (subst (λ s. TailSound before [] at start (numeral_text w.0 ++ tail_of p) more new (pending.Number s e p (figures_of w.0))) (sym h.0) m)))

tail_sound : (before : List Token) (letters : List ℕ) (at start : ℕ) (text more : List ℕ) (new : Scan) (p : Pending) → ends_in_digit p ≡ true → Pends p letters at start text → TailSound before letters at start text more new p
tail_sound before letters at start text more new (pending.Number b e part.Whole f) d h = digit_tail before letters at start text more new b e part.Whole f refl h
tail_sound before letters at start text more new (pending.Number b e part.Decimal f) d h = digit_tail before letters at start text more new b e part.Decimal f refl h
tail_sound before letters at start text more new (pending.Number b e part.Ratio f) d h = digit_tail before letters at start text more new b e part.Ratio f refl h
tail_sound before letters at start text more new (pending.Number b e part.Point f) d h = absurd (false≢true d)
tail_sound before letters at start text more new (pending.Number b e part.Over f) d h = absurd (false≢true d)
tail_sound before letters at start text more new pending.Start d h = absurd (false≢true d)
tail_sound before letters at start text more new pending.Free d h = absurd (false≢true d)
tail_sound before letters at start text more new pending.Comment d h = absurd (false≢true d)
tail_sound before letters at start text more new (pending.Identifier b) d h = absurd (false≢true d)
tail_sound before letters at start text more new (pending.Quote b) d h = absurd (false≢true d)
tail_sound before letters at start text more new (pending.Variable b last) d h = absurd (false≢true d)
tail_sound before letters at start text more new (pending.Symbol b first) d h = absurd (false≢true d)

second_false : (a b : Bool) → (a && b) ≡ false → a ≡ true → b ≡ false
second_false true b e t = e
second_false false b e t = absurd (false≢true t)

-- what begins after what has ended
begin_behind : (before : List Token) (start at next : ℕ) (text : List ℕ) (c : ℕ) (more : List ℕ) (p : Pending) (tokens : List Token) (r : Result Scan LexStop) → (ends_in_digit p ≡ true → is_xid_continue c ≡ false)
    → CloseMeans before start text at (c ∷ more) p (Ok (scan_at at tokens [] pending.Free)) → BeginMeans tokens at c more r → StepMeans before start text c more r
begin_behind before start at next text c more p tokens (Ok s) alone m b = (b.0, b.1, b.2, λ answer n. m.1 answer alone (b.3 answer n))
begin_behind before start at next text c more p tokens (Err stop) alone m b = m.1 (Err stop) alone b

followed_sound : (before : List Token) (letters : List ℕ) (at start next : ℕ) (text : List ℕ) (p : Pending) (c : ℕ) (more : List ℕ) → Pends p letters at start text → next ≡ at + len_utf8 c → takes p c ≡ false
    → (r : Result Scan LexStop) → close (scan_at at before letters p) p ≡ r → CloseMeans before start text at (c ∷ more) p r → StepMeans before start text c more (followed r p c next)
followed_sound before letters at start next text p c more h after u (Err stop) ok m = m
followed_sound before letters at start next text p c more h after u (Ok s) ok m =
    subst (λ x. StepMeans before start text c more (followed (Ok x) p c next)) (sym m.0) (by_tail (ends_in_digit p && is_xid_continue c) refl)
  where
    closed_means : CloseMeans before start text at (c ∷ more) p (Ok (scan_at at s.tokens [] pending.Free))
    closed_means = (refl, m.1)

    letter : (ends_in_digit p && is_xid_continue c) ≡ true → Means before start (text ++ c ∷ more) (Err (BadChar at))
    letter e = let t = and_parts (ends_in_digit p) (is_xid_continue c) e in tail_sound before letters at start text (c ∷ more) s p t.0 h u t.1 ok

    by_tail : (b : Bool) → (ends_in_digit p && is_xid_continue c) ≡ b → StepMeans before start text c more (cond (ends_in_digit p && is_xid_continue c) (Err (BadChar at)) (begun (scan_at at s.tokens [] pending.Free) c next))
    by_tail true e = rw e (letter e)
    by_tail false e = rw e (begin_behind before start at next text c more p s.tokens (begun (scan_at at s.tokens [] pending.Free) c next) (λ d. second_false (ends_in_digit p) (is_xid_continue c) e d) closed_means (begin_sound s.tokens at next c more after))

pub step_sound : (before : List Token) (letters : List ℕ) (at start : ℕ) (text : List ℕ) (p : Pending) (c : ℕ) (more : List ℕ) → Pends p letters at start text → StepMeans before start text c more (step (scan_at at before letters p) c)
step_sound before letters at start text p c more h = by_take (takes p c) refl
  where
    by_take : (b : Bool) → takes p c ≡ b → StepMeans before start text c more (step (scan_at at before letters p) c)
    by_take true e = rw e (take_sound before start at (at + len_utf8 c) letters text p c more h refl e)
    by_take false e = rw e (followed_sound before letters at start (at + len_utf8 c) text p c more h refl e (close (scan_at at before letters p) p) refl (close_sound before letters at start text (c ∷ more) p h (taken_comment p c e) e))

-- all characters
pub sound : (chars : List ℕ) (before : List Token) (letters : List ℕ) (at start : ℕ) (text : List ℕ) (p : Pending) → Pends p letters at start text → Means before start (text ++ chars) (ended (steps (Ok (scan_at at before letters p)) chars))
sound [] before letters at start text p h = end_sound before letters at start text p h
sound (c ∷ cs) before letters at start text p h = go (step (scan_at at before letters p) c) (step_sound before letters at start text p c cs h) (λ s from read pends. sound cs s.tokens s.letters s.at from read s.pending pends)
  where
    go : (r : Result Scan LexStop) → StepMeans before start text c cs r → ((s : Scan) (from : ℕ) (read : List ℕ) → Pends s.pending s.letters s.at from read → Means s.tokens from (read ++ cs) (ended (steps (Ok s) cs))) → Means before start (text ++ c ∷ cs) (ended (steps r cs))
    go (Ok s) m rest = m.3 (ended (steps (Ok s) cs)) (rest s m.0 m.1 m.2)
    go (Err stop) m rest = rw steps-stopped m
