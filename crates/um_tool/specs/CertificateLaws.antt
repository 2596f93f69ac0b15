-- What answers to `prove` say, in the subject's words.
-- Source: certificates are this project's own; what they show of typings is Kennedy's (1996).
use Rattle.std.specs.Prelude.{ℕ, ℤ, ◌≡◌, ◌⊎◌, Bool, true, false, IsTrue, List, [], ◌∷◌, length, codes, slice_get}
use Rattle.std.specs.Prelude.{Option, None, Some}
use Rattle.um_tree.specs.ProgramTree.{FunctionTree, ProgramTree}
use Rattle.um_infer.specs.Answers.{scheme_trees}
use Rattle.um_infer.specs.Schemes.{ArePrincipal, IsFirstWithoutUnits, IsFirstNotGeneral}
use Rattle.um_check.specs.declared.certificate.No.{No}
use Rattle.um_proof.specs.declared.proofs.Proofs.{Proofs}
use Rattle.um_proof.specs.Proving.{AreProofs, AreTidyProofs, PassesInFunction}
use Rattle.um_certificates.specs.CertificateText.{certificates_text}
use Rattle.um_orders.specs.declared.order.Order.TheVariants.{Prove}
use Rattle.um_orders.specs.Orders.{order_of}
use Rattle.um_reports.specs.declared.status.Status.{Status}
use Rattle.um_reports.specs.declared.status.Status.TheVariants.{Done, Units, NotGeneral, CertRange}
use Rattle.um_reports.specs.Refusals.{placed, units_label, not_general_label, IsCertificateReply}
use Rattle.um_front.specs.Stages.{ShapedTree, IsShapedText}
use Rattle.um_tool.specs.Answer.{Answer}
use Rattle.um_tool.specs.Laws.{TypesAnswers}

abbrev pub ProveAnswers : List ℕ → List ℕ → Status → Type 0
ProveAnswers bytes text status = Answer (codes "prove" ∷ []) bytes text status

-- ---- certificates that were printed

-- after certificates of the first n functions: there are no more functions, or the next is the first without a typing,
-- and its refusal is at its first unsolvable row: loose, if no units satisfy the rows up to it
abbrev pub EndsProofs : ProgramTree → ℕ → Option No → Type 0
EndsProofs p n None = n ≡ length p.functions
EndsProofs p n (Some c) =
    (at : ℕ)
    × (((c.loose ≡ true) × IsFirstWithoutUnits p n c.last at)
    ⊎ ((c.loose ≡ false) × IsFirstNotGeneral p n c.last at))

-- the schemes of the first functions are principal, each has a valid certificate, and so has the refusal of the next.
-- These certificates are tidy
pub record AreCertificates (p : ProgramTree) (proofs : Proofs) : Type 0 where
  pub valid : AreProofs p proofs
  pub tidy : AreTidyProofs p proofs
  pub principal : ArePrincipal p (length proofs.schemes.items.items) (scheme_trees proofs.schemes)
  pub ends : EndsProofs p (length proofs.schemes.items.items) proofs.no

-- What `prove` prints with status 0 are the lines of such certificates of the program that the bytes spell.
abbrev pub PrintedCertificatesAreValid : Type 0
PrintedCertificatesAreValid =
    (bytes text : List ℕ) → ProveAnswers bytes text Done →
    (s : ShapedTree) × IsShapedText bytes s
    × ((proofs : Proofs) × AreCertificates s.program proofs
    × (text ≡ certificates_text s.program proofs.yes.items.items proofs.no))

-- If it refuses a number, this is formed in making the certificate of the function that it names, and is too large.
abbrev pub RefusedCertificatesPass : Type 0
RefusedCertificatesPass =
    (bytes text : List ℕ) → ProveAnswers bytes text CertRange →
    (s : ShapedTree) × IsShapedText bytes s
    × ((i : ℕ) × (number : ℤ) × (f : FunctionTree) × (slice_get s.program.functions i ≡ Some f)
    × PassesInFunction s.program i number × IsCertificateReply f.name number text CertRange)

-- ---- certificates and `types`

-- What `types` answers the bytes: schemes, if there is no refusal. Otherwise it names the same function, with the place
-- of the same row: for its units if the refusal is loose, and as not general if it isn't.
abbrev pub EndsAsTypes : List ℕ → ProgramTree → ℕ → Option No → Type 0
EndsAsTypes bytes p n None = (lines : List ℕ) × TypesAnswers bytes lines Done
EndsAsTypes bytes p n (Some c) =
    (at : ℕ)
    × (((c.loose ≡ true) × ((untyped : IsFirstWithoutUnits p n c.last at)
    × TypesAnswers bytes (placed (units_label untyped.0.function.name) bytes at) Units))
    ⊎ ((c.loose ≡ false) × ((untyped : IsFirstNotGeneral p n c.last at)
    × TypesAnswers bytes (placed (not_general_label untyped.0.function.name) bytes at) NotGeneral)))

-- What `prove` prints with status 0 ends as `types` answers.
abbrev pub PrintedCertificatesEndAsTypes : Type 0
PrintedCertificatesEndAsTypes =
    (bytes text : List ℕ) → ProveAnswers bytes text Done →
    (s : ShapedTree) × IsShapedText bytes s
    × ((proofs : Proofs) × AreCertificates s.program proofs
    × (text ≡ certificates_text s.program proofs.yes.items.items proofs.no)
    × EndsAsTypes bytes s.program (length proofs.schemes.items.items) proofs.no)

-- ---- answers to `prove` are one, but for the certificates

-- certificates are printed, or a number is too large for one
abbrev pub tells_of_certificates : Status → Bool
tells_of_certificates Done = true
tells_of_certificates CertRange = true
tells_of_certificates status = false

abbrev pub ProofsAreUnique : Type 0
ProofsAreUnique =
    (words : List (List ℕ)) (bytes text other : List ℕ) (status another : Status) →
    order_of words ≡ Some Prove → Answer words bytes text status → Answer words bytes other another →
    ((text ≡ other) × (status ≡ another))
    ⊎ (IsTrue (tells_of_certificates status) × IsTrue (tells_of_certificates another))
