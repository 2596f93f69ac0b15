-- The answer to `prove`: certificates of the functions' schemes, up to the first function that has none, and of that.
-- Source: this project's own certificates.
use Rattle.std.specs.Prelude.{ℕ, List, Result, Ok, Err}
use Rattle.um_tree.specs.ProgramTree.{ProgramTree}
use Rattle.um_proof.specs.declared.proofs.Proofs.{Proofs}
use Rattle.um_proof.specs.declared.stop.ProveStop.{ProveStop}
use Rattle.um_proof.specs.declared.stop.ProveStop.TheVariants as prove_stop
use Rattle.um_proof.specs.Proving.{IsProved}
use Rattle.um_certificates.specs.CertificateText.{certificates_text}
use Rattle.um_reports.specs.declared.status.Status.{Status}
use Rattle.um_reports.specs.declared.status.Status.TheVariants.{Done}
use Rattle.um_reports.specs.Refusals.{IsSlotsReply, IsRangeReply, IsCertificateReply}
use Rattle.um_reports.specs.Steps.{IsReply}
use Rattle.um_front.specs.Stages.{ShapedTree}
use Rattle.um_front.specs.Refused.{OfFunction}
use Rattle.um_front.specs.Staged.{OfShaped}

-- the lines of certificates, or why they aren't made
abbrev pub IsProofReply : List ℕ → ProgramTree → Result Proofs ProveStop → List ℕ → Status → Type 0
IsProofReply bytes p (Ok proofs) text status =
    IsReply text status (certificates_text p proofs.yes.items.items proofs.no) Done
IsProofReply bytes p (Err (prove_stop.Slots i)) text status =
    OfFunction p i (λ f. IsSlotsReply bytes f.at text status)
IsProofReply bytes p (Err (prove_stop.PowerRange i at)) text status =
    OfFunction p i (λ f. IsRangeReply bytes f.name at text status)
IsProofReply bytes p (Err (prove_stop.CertRange i number)) text status =
    OfFunction p i (λ f. IsCertificateReply f.name number text status)
IsProofReply bytes p (Err prove_stop.NoMemory) text status = ⊥

-- a scheme may have many certificates: any that are valid
unfoldable pub IsProveReply : List ℕ → ProgramTree → List ℕ → Status → Type 0
IsProveReply bytes p text status =
    (r : Result Proofs ProveStop) × IsProved p r × IsProofReply bytes p r text status

-- of a text's program
unfoldable pub ProveAnswer : List ℕ → List ℕ → Status → Type 0
ProveAnswer bytes text status =
    OfShaped (λ (s : ShapedTree) (reply : List ℕ) (end : Status). IsProveReply bytes s.program reply end)
    bytes text status
