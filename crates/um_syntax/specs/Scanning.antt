-- What the code's scanner does, by the machine.
use Rattle.std.specs.Prelude.{◌≡◌, ℕ, List, take, drop, Result, Ok, Err}
use Rattle.std.specs.Str.{chars, IsCharBoundary}
use Rattle.std.specs.String.{string_bytes}
use Rattle.um_syntax.specs.declared.token.Token.{Token}
use Rattle.um_syntax.specs.declared.token.LexStop.{LexStop}
use Rattle.um_syntax.specs.declared.token.LexStop.TheVariants.{BadChar, NumberRange, PowerText, NoMemory}
use Rattle.um_syntax.specs.declared.scanner.Scanner.{Scanner}
use Rattle.um_syntax.specs.Gap.{IsLine}
use Rattle.um_syntax.specs.Machine.{Scan, Reaches}

-- the machine's state that a scanner is in
abbrev pub scan_of : Scanner → Scan
scan_of s = record { at = s.at; tokens = s.tokens; letters = string_bytes s.letters; pending = s.pending }

-- The refusal of the machine, or want of memory, which is the one free answer.
abbrev pub Stops : LexStop → {A : Type 0} → Result A LexStop → Type 0
Stops (BadChar at) r = r ≡ Err (BadChar at)
Stops (NumberRange at) r = r ≡ Err (NumberRange at)
Stops (PowerText at) r = r ≡ Err (PowerText at)
Stops NoMemory r = Unit {0}

-- The scanner has gone on as the machine does.
abbrev pub Follows : {T : Type 0} → Result T LexStop → Scan → Result Scan LexStop → Type 0
Follows (Ok done) new r = r ≡ Ok new
Follows (Err stop) new r = Stops stop r

-- The answer is the machine's, or want of memory.
abbrev pub Answers : Result (List Token) LexStop → Result (List Token) LexStop → Type 0
Answers (Ok tokens) r = r ≡ Ok tokens
Answers (Err stop) r = Stops stop r

-- From one state to another, so many bytes at the front of a text are taken at once. No line feed is among them.
pub record Scans (old : Scan) (text : List ℕ) (n : ℕ) (new : Scan) : Type 0 where
  pub front : IsCharBoundary text n
  pub line : IsLine (chars (take n text))
  pub reaches : Reaches old (chars (take n text)) new (chars (drop n text))
