-- What a lexer answers at the end.
use Rattle.std.proofs.Common.{◌≡◌, ℕ, ◌<◌, ◌≤◌, ltb, Bool, true, false, ◌&&◌, List, [], ◌∷◌, ◌++◌, length, take, drop, get_or, Option, None, Some, Ok, Err, refl, sym, ap, subst, ◌∙◌, arith, lit<, length-append}
use Rattle.std.proofs.lemmas.Bool.{false≢true, ltb-true, ltb-false}
use Rattle.std.proofs.lemmas.Str.{encodes-append, encode_ascii, chars-encodes}
use Rattle.std.proofs.lemmas.List.{take-append-drop, length-take}
use Rattle.std.proofs.Math.Seq.{take-append_seam}
use Rattle.std.specs.Str.{chars, IsUtf8, IsValidUpTo}
use lib.Utf8.{encodes, scalars}
use Rattle.um_syntax.specs.declared.token.Token.{Token}
use Rattle.um_syntax.specs.declared.token.LexStop.{LexStop}
use Rattle.um_syntax.specs.declared.token.LexStop.TheVariants as lex
use Rattle.um_syntax.specs.declared.token.TextStop.{TextStop}
use Rattle.um_syntax.specs.declared.token.TextStop.TheVariants as text
use Rattle.um_syntax.specs.Lexing.{size_of, HasTokens, HasFault}
use Rattle.um_syntax.specs.Machine.{Scan, scan_start, steps, ended, scanned}
use Rattle.um_syntax.specs.Scanning.{Answers}
use Rattle.um_syntax.specs.Decoding.{char_len, NoWhole, NoChar}
use Rattle.um_syntax.specs.Feeding.{IsTextAnswer, is_readable, IsReadable, text_stop, HasScanned, HasBehind}
use Rattle.um_syntax.proofs.Places.{size_of-encodes}
use Rattle.um_syntax.proofs.Whole.{tokens_from, fault_from}
use Rattle.um_syntax.proofs.Feeds.{text_front, behind_is, behind_no_whole}
use Rattle.um_vocabulary.proofs.Bools.{and_parts}

valid_up_to : (cs tail : List ℕ) → scalars cs ≡ true → NoWhole tail → 0 < length tail → IsValidUpTo (encodes cs ++ tail) (length (encodes cs))
valid_up_to cs tail s none some = record {
  short = (let n = length-append (encodes cs) tail in omega (arith, n, some));
  front = subst IsUtf8 (sym (take-append_seam (encodes cs) tail)) (cs, (s, refl));
  longest = λ m more t. too_long m more t.0 t.1.0 t.1.1;
}
  where
    too_long : (m : ℕ) → length (encodes cs) < m → (ds : List ℕ) → scalars ds ≡ true → encodes ds ≡ take m (encodes cs ++ tail) → ⊥
    too_long m more ds t e =
        let r = text_front ds cs (drop m (encodes cs ++ tail)) tail t none (ap (λ x. x ++ drop m (encodes cs ++ tail)) e ∙ take-append-drop m (encodes cs ++ tail)) in
        let whole = ap (λ x. length (encodes x)) r.1 ∙ ap length (encodes-append ds r.0) ∙ length-append (encodes ds) (encodes r.0) in
        let taken = ap length e ∙ length-take m (encodes cs ++ tail) in
        let all = length-append (encodes cs) tail in
        omega (arith, whole, taken, all, some, more)

-- bytes that end within a character
pub partial_answer : (bytes cs tail : List ℕ) (f : Option TextStop) (valid held : ℕ) (partial : List ℕ) → bytes ≡ encodes cs ++ tail → scalars cs ≡ true → valid ≡ size_of cs → IsReadable f → 0 < held → held ≤ length partial
    → held < char_len (get_or (take held partial) 0 0) → HasBehind f valid (take held partial) tail → IsValidUpTo bytes valid
partial_answer bytes cs tail f valid held partial whole s place readable some room begun h =
    let same = behind_is f valid (take held partial) tail readable h in
    let n = ap length same ∙ length-take held partial in
    let long : 0 < length tail = omega (arith, n, some, room) in
    subst (λ x. IsValidUpTo x valid) (sym whole) (subst (IsValidUpTo (encodes cs ++ tail)) (sym (place ∙ size_of-encodes cs)) (valid_up_to cs tail s (behind_no_whole f valid held partial tail begun h) long))

-- no byte is no beginning
broken_some : (tail : List ℕ) → NoChar tail → 0 < length tail
broken_some [] h = absurd (h (0 ∷ []) 0 [] refl (sym (ap (λ x. x ++ []) (encode_ascii 0 (lit< tt)))))
broken_some (b ∷ bs) h = omega arith

append_nil : (xs : List ℕ) → xs ++ [] ≡ xs
append_nil [] = refl
append_nil (x ∷ xs) = ap (λ l. x ∷ l) (append_nil xs)

-- bytes of whole characters
whole_bytes : (bytes cs tail : List ℕ) → bytes ≡ encodes cs ++ tail → tail ≡ [] → bytes ≡ encodes cs
whole_bytes bytes cs tail whole none = whole ∙ ap (λ x. encodes cs ++ x) none ∙ append_nil (encodes cs)

text_fault : (bytes cs : List ℕ) (stop : LexStop) → bytes ≡ encodes cs → scalars cs ≡ true → steps (Ok scan_start) cs ≡ Err stop → IsUtf8 bytes × HasFault (chars bytes) stop
text_fault bytes cs stop same s e =
    ((cs, (s, sym same)), subst (λ x. HasFault x stop) (sym (ap chars same ∙ chars-encodes cs s)) (fault_from cs stop (ap ended e)))

text_tokens : (bytes cs : List ℕ) (tokens : List Token) → bytes ≡ encodes cs → scalars cs ≡ true → scanned cs ≡ Ok tokens → IsUtf8 bytes × HasTokens (chars bytes) tokens
text_tokens bytes cs tokens same s e =
    ((cs, (s, sym same)), subst (λ x. HasTokens x tokens) (sym (ap chars same ∙ chars-encodes cs s)) (tokens_from cs tokens e))

-- a fault that was met
pub fault_answer : (bytes cs tail partial : List ℕ) (stop : TextStop) (valid : ℕ) (scan : Scan) → bytes ≡ encodes cs ++ tail → scalars cs ≡ true → valid ≡ size_of cs → (IsReadable (Some stop) → partial ≡ [])
    → HasScanned (Some stop) scan cs [] → HasBehind (Some stop) valid partial tail → IsTextAnswer bytes (Err stop)
fault_answer bytes cs tail partial (text.Utf8 at) valid scan whole s place empty read h =
    let valid_here = subst (IsValidUpTo (encodes cs ++ tail)) (sym (place ∙ size_of-encodes cs)) (valid_up_to cs tail s (subst NoWhole (append_nil tail) (h.1 [])) (broken_some tail h.1)) in
    subst (λ x. IsValidUpTo x at) (sym whole) (subst (IsValidUpTo (encodes cs ++ tail)) (sym h.0) valid_here)
fault_answer bytes cs tail partial (text.BadChar at) valid scan whole s place empty read h = text_fault bytes cs (lex.BadChar at) (whole_bytes bytes cs tail whole (h ∙ empty refl)) s read
fault_answer bytes cs tail partial (text.NumberRange at) valid scan whole s place empty read h = text_fault bytes cs (lex.NumberRange at) (whole_bytes bytes cs tail whole (h ∙ empty refl)) s read
fault_answer bytes cs tail partial (text.PowerText at) valid scan whole s place empty read h = text_fault bytes cs (lex.PowerText at) (whole_bytes bytes cs tail whole (h ∙ empty refl)) s read
fault_answer bytes cs tail partial text.NoMemory valid scan whole s place empty read h = tt

-- no fault so far
pub tokens_answer : (bytes cs tail partial : List ℕ) (valid : ℕ) (scan : Scan) (tokens : List Token) → bytes ≡ encodes cs ++ tail → scalars cs ≡ true → partial ≡ [] → HasScanned None scan cs [] → HasBehind None valid partial tail
    → Answers (Ok tokens) (ended (Ok scan)) → IsTextAnswer bytes (Ok tokens)
tokens_answer bytes cs tail partial valid scan tokens whole s empty read h e = text_tokens bytes cs tokens (whole_bytes bytes cs tail whole (h ∙ empty)) s (ap ended read ∙ e)

text_ended : (bytes cs : List ℕ) (stop : LexStop) → bytes ≡ encodes cs → scalars cs ≡ true → scanned cs ≡ Err stop → IsUtf8 bytes × HasFault (chars bytes) stop
text_ended bytes cs stop same s e = ((cs, (s, sym same)), subst (λ x. HasFault x stop) (sym (ap chars same ∙ chars-encodes cs s)) (fault_from cs stop e))

pub refusal_answer : (bytes cs tail partial : List ℕ) (valid : ℕ) (scan : Scan) (stop : LexStop) → bytes ≡ encodes cs ++ tail → scalars cs ≡ true → partial ≡ [] → HasScanned None scan cs [] → HasBehind None valid partial tail
    → Answers (Err stop) (ended (Ok scan)) → IsTextAnswer bytes (Err (text_stop stop))
refusal_answer bytes cs tail partial valid scan (lex.BadChar at) whole s empty read h e = text_ended bytes cs (lex.BadChar at) (whole_bytes bytes cs tail whole (h ∙ empty)) s (ap ended read ∙ e)
refusal_answer bytes cs tail partial valid scan (lex.NumberRange at) whole s empty read h e = text_ended bytes cs (lex.NumberRange at) (whole_bytes bytes cs tail whole (h ∙ empty)) s (ap ended read ∙ e)
refusal_answer bytes cs tail partial valid scan (lex.PowerText at) whole s empty read h e = text_ended bytes cs (lex.PowerText at) (whole_bytes bytes cs tail whole (h ∙ empty)) s (ap ended read ∙ e)
refusal_answer bytes cs tail partial valid scan lex.NoMemory whole s empty read h e = tt

second_false : (a b : Bool) → (a && b) ≡ false → a ≡ true → b ≡ false
second_false true b e t = e
second_false false b e t = absurd (false≢true t)

pub something_held : (f : Option TextStop) (held : ℕ) → (is_readable f && ltb 0 held) ≡ true → IsReadable f × (0 < held)
something_held f held e = let p = and_parts (is_readable f) (ltb 0 held) e in (p.0, ltb-true 0 held p.1)

pub nothing_held : (f : Option TextStop) (held : ℕ) (partial : List ℕ) → (is_readable f && ltb 0 held) ≡ false → IsReadable f → take held partial ≡ []
nothing_held f held partial e readable =
    let few = ltb-false 0 held (second_false (is_readable f) (ltb 0 held) e readable) in
    let none : held ≡ 0 = omega arith in
    ap (λ n. take n partial) none
