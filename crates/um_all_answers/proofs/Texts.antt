-- Bytes are read, or refused. Published: crates above use it.
use Rattle.std.proofs.Common.{◌≡◌, ◌⊎◌, ℕ, zero, suc, ◌<◌, ◌≤◌, nat_le, true, false, List, [], ◌∷◌, ◌++◌, length, take, codes, chars, Ok, Err, refl, sym, subst, inl, inr, arith}
use Rattle.std.specs.Str.{IsUtf8, IsValidUpTo, is_utf8}
use Rattle.std.proofs.lemmas.Str.{IsUtf8-nil, IsUtf8-from_is_utf8, is_utf8-from_IsUtf8}
use Rattle.std.proofs.lemmas.Bool.Decides.{nat_tests}
use Rattle.std.proofs.lemmas.List.{take_all}
use Rattle.um_elim.proofs.Cases.{on_test}
use Rattle.um_syntax.specs.declared.token.Token.{Token}
use Rattle.um_syntax.specs.declared.token.LexStop.{LexStop}
use Rattle.um_syntax.specs.declared.token.LexStop.TheVariants as lex
use Rattle.um_syntax.specs.declared.token.TextStop.{TextStop}
use Rattle.um_syntax.specs.declared.token.TextStop.TheVariants as text_stop
use Rattle.um_syntax.specs.Lexing.{Refuses, HasFault, HasTokens}
use Rattle.um_syntax.specs.Laws.{EachTextIsAnswered}
use Rattle.um_syntax.specs.Feeding.{IsTextAnswer}
use Rattle.um_types.specs.declared.parse.ParseStop.{ParseStop}
use Rattle.um_types.specs.declared.parse.ParseStop.TheVariants as parse_stop
use Rattle.um_parse.specs.Parsed.{Parsed}
use Rattle.um_parse.specs.Laws.{AreReadOrRefused, EachListIsAnswered}
use Rattle.um_reports.specs.declared.status.Status.TheVariants.{TooLong, Utf8, Lexical, Syntax, Limit}
use Rattle.um_reports.specs.Steps.{line}
use Rattle.um_reports.specs.Refusals.{placed, limit_label}
use Rattle.um_front.specs.Refused.{IsUnread}
use Rattle.um_all_answers.specs.Answered.{HasAnswer, IsReadOrRefused}
use Rattle.um_all_answers.specs.TextLaws.{EachTextIsReadOrRefused}

pub within : (a b : ℕ) → nat_le a b ≡ true → a ≤ b
within a b t = grind (arith, nat_tests)

pub beyond : (a b : ℕ) → nat_le a b ≡ false → b < a
beyond a b t = grind (arith, nat_tests)

-- ---- bytes that aren't UTF-8 have a longest front that is
module _ (bytes : List ℕ) where
  last_valid : (k : ℕ) → k ≤ length bytes → ((m : ℕ) → k ≤ m → IsUtf8 (take m bytes) → ⊥) → (n : ℕ) × IsValidUpTo bytes n
  last_valid zero low none = absurd (none zero (omega arith) IsUtf8-nil)
  last_valid (suc k) low none =
      on_test (is_utf8 (take k bytes))
      (λ t. (k, record { short = omega (arith, low); front = IsUtf8-from_is_utf8 (take k bytes) t; longest = λ m more. none m (omega (arith, more)) }))
      (λ t. last_valid k (omega (arith, low)) (none_from t))
    where
      none_from : is_utf8 (take k bytes) ≡ false → (m : ℕ) → k ≤ m → IsUtf8 (take m bytes) → ⊥
      none_from t m more valid =
          on_test (nat_le (suc k) m)
          (λ above. none m (within (suc k) m above) valid)
          (λ here. let below = beyond (suc k) m here in let same : m ≡ k = omega (arith, below, more) in cc (sym (is_utf8-from_IsUtf8 (take k bytes) (subst (λ n. IsUtf8 (take n bytes)) same valid)), t))

  valid_up_to : is_utf8 bytes ≡ false → (n : ℕ) × IsValidUpTo bytes n
  valid_up_to t = last_valid (length bytes) (omega arith) (λ m more valid. cc (sym (is_utf8-from_IsUtf8 bytes (subst IsUtf8 (take_all m bytes more) valid)), t))

-- ---- a fault of a text is one of its characters
pub no_memory : (before : List Token) (at : ℕ) (cs : List ℕ) (tokens : List Token) → Refuses before at cs tokens lex.NoMemory → ⊥
no_memory before at cs [] (gap, rest, cut, is, faulty) = faulty
no_memory before at cs (token ∷ tokens) (more, next, refuses) = no_memory (before ++ token ∷ []) token.end more tokens refuses

-- ---- the answer to bytes that aren't too long
module _ (bytes : List ℕ) (short : length bytes ≤ 1048576) where
  unlexed : (stop : TextStop) → (stop ≡ text_stop.NoMemory → ⊥) → IsTextAnswer bytes (Err stop) → HasAnswer IsUnread bytes
  unfolding IsUnread
  unlexed (text_stop.Utf8 at) some is = (placed (codes "error 3: not UTF-8 at ") bytes at, Utf8, inr (inl (short, text_stop.Utf8 at, is, (refl, refl))))
  unlexed (text_stop.BadChar at) some is = (placed (codes "error 4: character at ") bytes at, Lexical, inr (inl (short, text_stop.BadChar at, is, (refl, refl))))
  unlexed (text_stop.NumberRange at) some is = (placed (codes "error 4: number at ") bytes at, Lexical, inr (inl (short, text_stop.NumberRange at, is, (refl, refl))))
  unlexed (text_stop.PowerText at) some is = (placed (codes "error 4: power at ") bytes at, Lexical, inr (inl (short, text_stop.PowerText at, is, (refl, refl))))
  unlexed text_stop.NoMemory some is = absurd (some refl)

  faulty : (stop : LexStop) → IsUtf8 bytes → HasFault (chars bytes) stop → HasAnswer IsUnread bytes
  faulty (lex.BadChar at) valid fault = unlexed (text_stop.BadChar at) (λ e. cc e) (valid, fault)
  faulty (lex.NumberRange at) valid fault = unlexed (text_stop.NumberRange at) (λ e. cc e) (valid, fault)
  faulty (lex.PowerText at) valid fault = unlexed (text_stop.PowerText at) (λ e. cc e) (valid, fault)
  faulty lex.NoMemory valid (tokens, refuses) = absurd (no_memory [] _ _ tokens refuses)

  unparsed : (tokens : List Token) → IsTextAnswer bytes (Ok tokens) → (stop : ParseStop) → (stop ≡ parse_stop.NoMemory → ⊥) → Parsed tokens (length bytes) (Err stop) → HasAnswer IsUnread bytes
  unfolding IsUnread
  unparsed tokens lexed (parse_stop.Syntax at) some is = (placed (codes "error 5: syntax at ") bytes at, Syntax, inr (inr (short, tokens, lexed, parse_stop.Syntax at, is, (refl, refl))))
  unparsed tokens lexed (parse_stop.Limit kind at) some is = (placed (limit_label kind) bytes at, Limit, inr (inr (short, tokens, lexed, parse_stop.Limit kind at, is, (refl, refl))))
  unparsed tokens lexed parse_stop.NoMemory some is = absurd (some refl)

  of_tokens : (tokens : List Token) → IsTextAnswer bytes (Ok tokens) → AreReadOrRefused tokens (length bytes) → IsReadOrRefused bytes
  of_tokens tokens lexed (inl (raw, read)) = inl (raw, record { short = short; tokens = tokens; lexed = lexed; read = read })
  of_tokens tokens lexed (inr (stop, some, is)) = inr (unparsed tokens lexed stop some is)

  of_chars : IsUtf8 bytes → EachListIsAnswered → ((tokens : List Token) × HasTokens (chars bytes) tokens) ⊎ ((stop : LexStop) × HasFault (chars bytes) stop) → IsReadOrRefused bytes
  of_chars valid parsed (inl (tokens, has)) = of_tokens tokens (valid, has) (parsed tokens (length bytes))
  of_chars valid parsed (inr (stop, fault)) = inr (faulty stop valid fault)

-- ---- and to all
too_long : (bytes : List ℕ) → 1048576 < length bytes → IsReadOrRefused bytes
unfolding IsUnread
too_long bytes long = inr (line (codes "error 2: text too long"), TooLong, inl (long, (refl, refl)))

pub each_is_read_or_refused : EachTextIsAnswered → EachListIsAnswered → EachTextIsReadOrRefused
each_is_read_or_refused each parsed bytes =
    on_test (nat_le (length bytes) 1048576)
    (λ fits.
    let short = within (length bytes) 1048576 fits in
    on_test (is_utf8 bytes)
    (λ valid. of_chars bytes short (IsUtf8-from_is_utf8 bytes valid) parsed (each (chars bytes)))
    (λ bad. let (at, up_to) = valid_up_to bytes bad in inr (unlexed bytes short (text_stop.Utf8 at) (λ e. cc e) up_to)))
    (λ over. too_long bytes (beyond (length bytes) 1048576 over))
