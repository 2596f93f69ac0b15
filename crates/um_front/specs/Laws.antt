-- Where texts and words are refused.
-- Source: this project's own.
use Rattle.std.specs.Prelude.{◌≡◌, ℕ, ◌⊎◌, List, length, Ok, Err}
use Rattle.std.specs.Str.{chars, IsUtf8, IsValidUpTo}
use Rattle.um_syntax.specs.declared.token.Token.{Token}
use Rattle.um_syntax.specs.declared.token.LexStop.{LexStop}
use Rattle.um_syntax.specs.Lexing.{HasFault}
use Rattle.um_syntax.specs.Feeding.{IsTextAnswer}
use Rattle.um_tree.specs.TypeTree.{ShapeTree}
use Rattle.um_tree.specs.ProgramTree.{ProgramTree}
use Rattle.um_measures.specs.declared.abbreviation.Abbreviation.{Abbreviation}
use Rattle.um_measures.specs.Known.{Known}
use Rattle.um_front.specs.Places.{IsPlace, BeginsTokenOrEnds}
use Rattle.um_value.specs.declared.stop.InputStop.{InputStop}
use Rattle.um_value.specs.declared.stop.InputStop.TheVariants as input_stop
use Rattle.um_value.specs.InputRead.{IsInputOf}
use Rattle.um_sig.specs.declared.stop.SigText.{SigText}
use Rattle.um_sig.specs.declared.stop.SigText.TheVariants as sig_text
use Rattle.um_sig.specs.Reading.{IsRead}
use Rattle.um_reports.specs.declared.status.Status.{Status}
use Rattle.um_reports.specs.declared.status.Status.TheVariants.{TooLong}
use Rattle.um_reports.specs.Refusals.{placed}
use Rattle.um_front.specs.Refused.{IsUnchecked}

-- the text has no tokens, and the place is before one of its characters
abbrev pub IsLexicalPlace : List ℕ → ℕ → Type 0
IsLexicalPlace bytes at = IsUtf8 bytes × ((stop : LexStop) × HasFault (chars bytes) stop) × IsPlace bytes at

-- one of its tokens begins at the place, or the text ends there
abbrev pub IsTokenPlace : List ℕ → ℕ → Type 0
IsTokenPlace bytes at =
    (tokens : List Token) × IsTextAnswer bytes (Ok tokens) × BeginsTokenOrEnds tokens (length bytes) at

-- Bytes that aren't UTF-8 are refused after the longest prefix that is. A text without tokens is refused at a
-- character, any other where a token begins or at its end.
abbrev pub IsRefusalPlace : List ℕ → ℕ → Type 0
IsRefusalPlace bytes at = IsValidUpTo bytes at ⊎ (IsLexicalPlace bytes at ⊎ IsTokenPlace bytes at)

-- Each line that refuses a text ends with such a place, but for that of a text that is too long.
abbrev pub RefusalsTellPlaces : Type 0
RefusalsTellPlaces =
    (bytes text : List ℕ) (status : Status) → IsUnchecked bytes text status
    → (status ≡ TooLong) ⊎ ((label : List ℕ) × (at : ℕ) × (text ≡ placed label bytes at) × IsRefusalPlace bytes at)

-- ---- arguments and signatures

-- the same of a word: a character if it has no tokens, and otherwise where a token begins or its end
abbrev pub IsWordPlace : List ℕ → ℕ → Type 0
IsWordPlace word at = IsLexicalPlace word at ⊎ IsTokenPlace word at

-- P holds of the place of the refusal; want of memory has none
abbrev pub InputPlace : (ℕ → Type 0) → InputStop → Type 0
InputPlace P (input_stop.Text at) = P at
InputPlace P (input_stop.Shape at) = P at
InputPlace P (input_stop.Names at) = P at
InputPlace P (input_stop.PowerRange at) = P at
InputPlace P input_stop.NoMemory = Unit {0}

abbrev pub SignaturePlace : (ℕ → Type 0) → SigText → Type 0
SignaturePlace P (sig_text.Text at) = P at
SignaturePlace P (sig_text.Syntax at) = P at
SignaturePlace P (sig_text.Height at) = P at
SignaturePlace P (sig_text.Names at) = P at
SignaturePlace P (sig_text.PowerRange at) = P at
SignaturePlace P sig_text.NoMemory = Unit {0}

-- An argument is refused at such a place of its word.
abbrev pub ArgumentsTellPlaces : Type 0
ArgumentsTellPlaces =
    (word : List ℕ) → IsUtf8 word → (known : Known) (s : ShapeTree) (stop : InputStop) →
    IsInputOf known s word (Err stop) → InputPlace (IsWordPlace word) stop

-- And so is a signature.
abbrev pub SignaturesTellPlaces : Type 0
SignaturesTellPlaces =
    (word : List ℕ) → IsUtf8 word → (p : ProgramTree) (shorts : List Abbreviation) (stop : SigText) →
    IsRead p shorts (chars word) (length word) (Err stop) → SignaturePlace (IsWordPlace word) stop
