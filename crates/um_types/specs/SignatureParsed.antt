-- What parsing a signature text answers.
-- Source: this project's own.
use Rattle.std.specs.Prelude.{◌≡◌, ℕ, ◌≤◌, List, Result, Ok, Err}
use Rattle.um_syntax.specs.declared.token.Token.{Token}
use Rattle.um_tree.specs.declared.raw.RawTypes.{RawTypes}
use Rattle.um_tree.specs.RawTree.{type_syntaxes}
use Rattle.um_types.specs.declared.parse.LimitKind.TheVariants as limit
use Rattle.um_types.specs.declared.parse.ParseStop.{ParseStop}
use Rattle.um_types.specs.declared.parse.ParseStop.TheVariants as stop
use Rattle.um_unit_texts.specs.UnitStops.{greatest_height, place_of}
use Rattle.um_types.specs.TypeHeights.{all_height}
use Rattle.um_types.specs.SignatureGrammar.{IsSignature, SignatureFails, SignatureHighAt}

abbrev pub SignatureParsed : List Token → ℕ → Result RawTypes ParseStop → Type 0
SignatureParsed tokens end (Ok types) =
    IsSignature tokens (type_syntaxes types) × (all_height (type_syntaxes types) ≤ greatest_height)
SignatureParsed tokens end (Err (stop.Syntax at)) = (k : ℕ) × (at ≡ place_of tokens k end) × SignatureFails tokens k
SignatureParsed tokens end (Err (stop.Limit kind at)) =
    (k : ℕ) × (kind ≡ limit.Height) × (at ≡ place_of tokens k end) × SignatureHighAt tokens k
SignatureParsed tokens end (Err stop.NoMemory) = Unit {0}
