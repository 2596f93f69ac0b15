-- The answer to `conform NAME TYPE`: the function, its signature, and whether the function may be used at it.
-- Source: this project's own, on Kennedy (1996): a scheme at least as general as a signature has all its instances.
use Rattle.std.specs.Prelude.{ℕ, ◌≡◌, List, length, chars, Result, Ok, Err, Some, MatchOption, slice_get}
use Rattle.um_tree.specs.TypeTree.{TypeTree, type_trees}
use Rattle.um_tree.specs.ProgramTree.{SchemeTree}
use Rattle.um_measures.specs.Known.{number_of, function_names}
use Rattle.um_sig.specs.declared.signature.Signature.{Signature}
use Rattle.um_sig.specs.declared.stop.SigText.{SigText}
use Rattle.um_sig.specs.declared.stop.SigStop.{SigStop}
use Rattle.um_sig.specs.Reading.{IsRead}
use Rattle.um_sig.specs.Answers.{IsConformed}
use Rattle.um_reports.specs.declared.status.Status.{Status}
use Rattle.um_reports.specs.CallRefusals.{IsUnnamedReply, IsSignatureReply, IsConformReply}
use Rattle.um_front.specs.Stages.{CheckedTree}
use Rattle.um_front.specs.Staged.{OfChecked}

-- whether the scheme of function k has all instances of the types
unfoldable pub MatchingAnswer : ℕ → List ℕ → CheckedTree → List TypeTree → List ℕ → Status → Type 0
MatchingAnswer k name c types text status =
    (s : SchemeTree) × (slice_get c.schemes k ≡ Some s)
    × ((r : Result (Unit {0}) SigStop) × IsConformed (length c.text.program.bases) s types r
    × IsConformReply name r text status)

-- the signature, or the refusal of its text
abbrev pub BySignature :
    ℕ → List ℕ → List ℕ → CheckedTree → Result Signature SigText → List ℕ → Status → Type 0
BySignature k name word c (Ok signature) text status =
    MatchingAnswer k name c (type_trees signature.types) text status
BySignature k name word c (Err stop) text status = IsSignatureReply word stop text status

unfoldable pub SignatureAnswer : ℕ → List ℕ → List ℕ → CheckedTree → List ℕ → Status → Type 0
SignatureAnswer k name word c text status =
    (r : Result Signature SigText)
    × IsRead c.text.program c.text.abbreviations (chars word) (length word) r
    × BySignature k name word c r text status

-- the function of the name, which comes first
unfoldable pub IsConformAnswer : List ℕ → List ℕ → CheckedTree → List ℕ → Status → Type 0
IsConformAnswer name word c text status =
    MatchOption (number_of (function_names c.text.program.functions) name)
    (IsUnnamedReply text status)
    (λ k. SignatureAnswer k name word c text status)

-- of a text's program
unfoldable pub ConformAnswer : List ℕ → List ℕ → List ℕ → List ℕ → Status → Type 0
ConformAnswer name word bytes text status = OfChecked (IsConformAnswer name word) bytes text status
