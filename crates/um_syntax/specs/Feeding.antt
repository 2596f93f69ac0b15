-- What a lexer that is fed in pieces answers, by the definitions of tokens, and what it stands for, by the scanner's
-- states.
use Rattle.std.specs.Prelude.{◌≡◌, ℕ, ◌⊎◌, Bool, true, false, List, [], ◌∷◌, ◌++◌, length, take, Option, None, Some}
use Rattle.std.specs.Prelude.{Result, Ok, Err}
use Rattle.std.specs.Str.{chars, IsUtf8, IsValidUpTo, encode_utf8_all, all_scalars}
use Rattle.um_syntax.specs.declared.token.Token.{Token}
use Rattle.um_syntax.specs.declared.token.LexStop.{LexStop}
use Rattle.um_syntax.specs.declared.token.LexStop.TheVariants as lex
use Rattle.um_syntax.specs.declared.token.TextStop.{TextStop}
use Rattle.um_syntax.specs.declared.token.TextStop.TheVariants as text
use Rattle.um_syntax.specs.declared.feed.Lexer.{Lexer}
use Rattle.um_syntax.specs.Gap.{IsLine}
use Rattle.um_syntax.specs.Lexing.{size_of, HasTokens, HasFault}
use Rattle.um_syntax.specs.Machine.{Scan, scan_start, steps, Reaches}
use Rattle.um_syntax.specs.Scanning.{scan_of}
use Rattle.um_syntax.specs.Decoding.{NoChar}

-- the characters or bytes are none, or end with a line feed
abbrev pub EndsLine : List ℕ → Type 0
EndsLine xs = (xs ≡ []) ⊎ ((before : List ℕ) × (xs ≡ before ++ 10 ∷ []))

-- Of the longest prefix of the bytes that is empty or ends with a line feed: if it has tokens, they are so many.
abbrev pub CountsTokens : List ℕ → ℕ → Type 0
CountsTokens bytes count =
    (prefix rest : List ℕ) (tokens : List Token) → bytes ≡ prefix ++ rest → EndsLine prefix → IsLine rest
    → IsUtf8 prefix → HasTokens (chars prefix) tokens → count ≡ length tokens

-- What the text of the bytes has: tokens, or its leftmost fault; bytes that aren't UTF-8 have none.
abbrev pub IsTextAnswer : List ℕ → Result (List Token) TextStop → Type 0
IsTextAnswer bytes (Ok tokens) = IsUtf8 bytes × HasTokens (chars bytes) tokens
IsTextAnswer bytes (Err (text.Utf8 at)) = IsValidUpTo bytes at
IsTextAnswer bytes (Err (text.BadChar at)) = IsUtf8 bytes × HasFault (chars bytes) (lex.BadChar at)
IsTextAnswer bytes (Err (text.NumberRange at)) = IsUtf8 bytes × HasFault (chars bytes) (lex.NumberRange at)
IsTextAnswer bytes (Err (text.PowerText at)) = IsUtf8 bytes × HasFault (chars bytes) (lex.PowerText at)
IsTextAnswer bytes (Err text.NoMemory) = Unit {0}

-- the number of bytes that a lexer was fed
abbrev pub fed_of : Lexer → ℕ
fed_of lexer = lexer.fed

-- the lexer met want of memory, and answers it from then on
abbrev pub IsSpent : Lexer → Type 0
IsSpent lexer = lexer.fault ≡ Some text.NoMemory

-- bytes can still be read
abbrev pub is_readable : Option TextStop → Bool
is_readable None = true
is_readable (Some (text.Utf8 at)) = false
is_readable (Some (text.BadChar at)) = true
is_readable (Some (text.NumberRange at)) = true
is_readable (Some (text.PowerText at)) = true
is_readable (Some text.NoMemory) = false

abbrev pub IsReadable : Option TextStop → Type 0
IsReadable fault = is_readable fault ≡ true

-- the fault of a text that is a refusal of its characters
abbrev pub text_stop : LexStop → TextStop
text_stop (lex.BadChar at) = text.BadChar at
text_stop (lex.NumberRange at) = text.NumberRange at
text_stop (lex.PowerText at) = text.PowerText at
text_stop lex.NoMemory = text.NoMemory

-- what the machine has answered to the characters, if others follow
abbrev pub HasScanned : Option TextStop → Scan → List ℕ → List ℕ → Type 0
HasScanned None scan cs more = Reaches scan_start cs scan more
HasScanned (Some (text.Utf8 at)) scan cs more = Unit {0}
HasScanned (Some (text.BadChar at)) scan cs more = steps (Ok scan_start) cs ≡ Err (lex.BadChar at)
HasScanned (Some (text.NumberRange at)) scan cs more = steps (Ok scan_start) cs ≡ Err (lex.NumberRange at)
HasScanned (Some (text.PowerText at)) scan cs more = steps (Ok scan_start) cs ≡ Err (lex.PowerText at)
HasScanned (Some text.NoMemory) scan cs more = Unit {0}

-- the count is that of the tokens up to the last line feed
abbrev pub CountsLines : ℕ → List ℕ → Type 0
CountsLines count cs =
    (prefix line : List ℕ) × (cs ≡ prefix ++ line) × EndsLine prefix × IsLine line
    × ((tokens : List Token) → HasTokens prefix tokens → count ≡ length tokens)

-- the lexer has read these characters, if others follow
pub record HasRead (lexer : Lexer) (cs more : List ℕ) : Type 0 where
  pub scalars : all_scalars cs ≡ true
  pub place : lexer.valid ≡ size_of cs
  pub scanned : HasScanned lexer.fault (scan_of lexer.scanner) cs more
  pub counted : CountsLines lexer.counted cs

-- What stands after the characters. A spent lexer stands for nothing.
abbrev pub HasBehind : Option TextStop → ℕ → List ℕ → List ℕ → Type 0
HasBehind (Some (text.Utf8 at)) valid partial tail = (at ≡ valid) × NoChar tail
HasBehind None valid partial tail = tail ≡ partial
HasBehind (Some (text.BadChar at)) valid partial tail = tail ≡ partial
HasBehind (Some (text.NumberRange at)) valid partial tail = tail ≡ partial
HasBehind (Some (text.PowerText at)) valid partial tail = tail ≡ partial
HasBehind (Some text.NoMemory) valid partial tail = ⊥

-- the lexer stands for these bytes
pub record Stands (lexer : Lexer) (bytes : List ℕ) : Type 0 where
  pub cs : List ℕ
  pub tail : List ℕ
  pub read : HasRead lexer cs []
  pub whole : bytes ≡ encode_utf8_all cs ++ tail
  pub behind : HasBehind lexer.fault lexer.valid (take lexer.held lexer.partial) tail
