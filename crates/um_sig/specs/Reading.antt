-- What reading a signature text answers.
-- Source: this project's own. A text is its list of characters, and places are byte offsets. Each fault is looked for
-- only if none before it is found; want of memory may come in place of every answer.
use Rattle.std.specs.Prelude.{◌≡◌, ◌≤◌, ◌⊎◌, ℕ, All, List, length, Result, Ok, Err}
use Rattle.um_syntax.specs.declared.token.Token.{Token}
use Rattle.um_syntax.specs.declared.token.LexStop.TheVariants.{BadChar, NumberRange, PowerText}
use Rattle.um_syntax.specs.Lexing.{HasTokens, HasFault}
use Rattle.um_tree.specs.TypeTree.{type_trees}
use Rattle.um_tree.specs.ProgramTree.{ProgramTree}
use Rattle.um_tree.specs.RawTree.{TypeSyntax}
use Rattle.um_tree.specs.Formed.{IsUnitIn, IsTypeIn}
use Rattle.um_unit_texts.specs.UnitStops.{greatest_height, place_of}
use Rattle.um_types.specs.TypeHeights.{all_height}
use Rattle.um_types.specs.SignatureGrammar.{IsSignature, SignatureFails, SignatureHighAt}
use Rattle.um_measures.specs.declared.abbreviation.Abbreviation.{Abbreviation}
use Rattle.um_measures.specs.ClosedUnits.{given}
use Rattle.um_measures.specs.Faults.{Found, unknown, wrong_count, hole, range}
use Rattle.um_sig.specs.SignatureNames.{SignatureTypes, resolved_signature}
use Rattle.um_sig.specs.declared.signature.Signature.{Signature}
use Rattle.um_sig.specs.declared.stop.SigText.{SigText}
use Rattle.um_sig.specs.declared.stop.SigText.TheVariants as stop

-- the leftmost fault of the characters stands at the place
abbrev pub HasFaultAt : List ℕ → ℕ → Type 0
HasFaultAt chars at =
    HasFault chars (BadChar at) ⊎ (HasFault chars (NumberRange at) ⊎ HasFault chars (PowerText at))

-- the characters have tokens, which are these types, none higher than the greatest height
pub record AreTypes (chars : List ℕ) (ts : List TypeSyntax) : Type 0 where
  pub tokens : List Token
  pub lexed : HasTokens chars tokens
  pub parsed : IsSignature tokens ts
  pub low : all_height ts ≤ greatest_height

-- the first fault at the place is a name that isn't known, a record with another number of units, or a hole
abbrev pub HasNameFaultAt : Found SignatureTypes → ℕ → Type 0
HasNameFaultAt found at =
    (found ≡ Err (unknown at)) ⊎ ((found ≡ Err (wrong_count at)) ⊎ (found ≡ Err (hole at)))

abbrev pub signature_types_of : Signature → SignatureTypes
signature_types_of s = record { types = type_trees s.types; vars = s.vars }

-- the characters, which end at this place, beside a program with its abbreviations
abbrev pub IsRead : ProgramTree → List Abbreviation → List ℕ → ℕ → Result Signature SigText → Type 0
IsRead p shorts chars end (Ok s) =
    (ts : List TypeSyntax) × AreTypes chars ts
    × (resolved_signature (given p shorts) ts ≡ Ok (signature_types_of s))
IsRead p shorts chars end (Err (stop.Text at)) = HasFaultAt chars at
IsRead p shorts chars end (Err (stop.Syntax at)) =
    (tokens : List Token) × (k : ℕ) × HasTokens chars tokens × (at ≡ place_of tokens k end) × SignatureFails tokens k
IsRead p shorts chars end (Err (stop.Height at)) =
    (tokens : List Token) × (k : ℕ) × HasTokens chars tokens × (at ≡ place_of tokens k end) × SignatureHighAt tokens k
IsRead p shorts chars end (Err (stop.Names at)) =
    (ts : List TypeSyntax) × AreTypes chars ts × HasNameFaultAt (resolved_signature (given p shorts) ts) at
IsRead p shorts chars end (Err (stop.PowerRange at)) =
    (ts : List TypeSyntax) × AreTypes chars ts × (resolved_signature (given p shorts) ts ≡ Err (range at))
IsRead p shorts chars end (Err stop.NoMemory) = Unit {0}

-- ---- what is read

-- the units of abbreviations are closed, and over the declared base units
abbrev pub AreClosedUnits : ℕ → List Abbreviation → Type 0
AreClosedUnits bases shorts = All (λ (a : Abbreviation). IsUnitIn bases 0 a.unit) shorts

-- the types are over the declared base units, the signature's variables and the declared records
abbrev pub IsSignatureIn : ProgramTree → Signature → Type 0
IsSignatureIn p s = All (IsTypeIn (length p.bases) s.vars p.records) (type_trees s.types)
