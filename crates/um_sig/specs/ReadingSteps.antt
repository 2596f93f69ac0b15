-- The code's: what the steps of reading a signature text answer.
-- Source: this project's own; no public clause rests on it.
use Rattle.std.specs.Prelude.{◌≡◌, ◌≤◌, ℕ, List, Result, Ok, Err}
use Rattle.um_syntax.specs.declared.token.Token.{Token}
use Rattle.um_syntax.specs.Lexing.{HasTokens}
use Rattle.um_tree.specs.declared.raw.RawTypes.{RawTypes}
use Rattle.um_tree.specs.RawTree.{type_syntaxes}
use Rattle.um_unit_texts.specs.UnitStops.{greatest_height, place_of}
use Rattle.um_types.specs.TypeHeights.{all_height}
use Rattle.um_types.specs.SignatureGrammar.{IsSignature, SignatureFails, SignatureHighAt}
use Rattle.um_measures.specs.Faults.{Found, range}
use Rattle.um_sig.specs.SignatureNames.{SignatureTypes}
use Rattle.um_sig.specs.declared.signature.Signature.{Signature}
use Rattle.um_sig.specs.declared.stop.SigText.{SigText}
use Rattle.um_sig.specs.declared.stop.SigText.TheVariants as stop
use Rattle.um_sig.specs.Reading.{HasFaultAt, HasNameFaultAt, signature_types_of}

abbrev pub AreTokens : List ℕ → Result (List Token) SigText → Type 0
AreTokens chars (Ok tokens) = HasTokens chars tokens
AreTokens chars (Err (stop.Text at)) = HasFaultAt chars at
AreTokens chars (Err (stop.Syntax at)) = ⊥
AreTokens chars (Err (stop.Height at)) = ⊥
AreTokens chars (Err (stop.Names at)) = ⊥
AreTokens chars (Err (stop.PowerRange at)) = ⊥
AreTokens chars (Err stop.NoMemory) = Unit {0}

abbrev pub IsParsed : List Token → ℕ → Result RawTypes SigText → Type 0
IsParsed tokens end (Ok types) =
    IsSignature tokens (type_syntaxes types) × (all_height (type_syntaxes types) ≤ greatest_height)
IsParsed tokens end (Err (stop.Text at)) = ⊥
IsParsed tokens end (Err (stop.Syntax at)) = (k : ℕ) × (at ≡ place_of tokens k end) × SignatureFails tokens k
IsParsed tokens end (Err (stop.Height at)) = (k : ℕ) × (at ≡ place_of tokens k end) × SignatureHighAt tokens k
IsParsed tokens end (Err (stop.Names at)) = ⊥
IsParsed tokens end (Err (stop.PowerRange at)) = ⊥
IsParsed tokens end (Err stop.NoMemory) = Unit {0}

abbrev pub IsNamed : Found SignatureTypes → Result Signature SigText → Type 0
IsNamed found (Ok s) = found ≡ Ok (signature_types_of s)
IsNamed found (Err (stop.Text at)) = ⊥
IsNamed found (Err (stop.Syntax at)) = ⊥
IsNamed found (Err (stop.Height at)) = ⊥
IsNamed found (Err (stop.Names at)) = HasNameFaultAt found at
IsNamed found (Err (stop.PowerRange at)) = found ≡ Err (range at)
IsNamed found (Err stop.NoMemory) = Unit {0}
