-- A text determines its certificates.
-- Source: this project's own texts.
use Rattle.std.specs.Prelude.{◌≡◌, ℕ, ◌+◌, ◌^◌, ◌<◌, IsTrue, All, List, length, Option, None, Some, FitsSigned}
use Rattle.std.specs.Int.{w64}
use Rattle.um_units.specs.PowerMap.{PowerMap}
use Rattle.um_units.specs.Range.{fits}
use Rattle.um_units.specs.Variables.{VariablesBelow}
use Rattle.um_tree.specs.ProgramTree.{ProgramTree}
use Rattle.um_tree.specs.Formed.{BasesBelow, IsFormed}
use Rattle.um_check.specs.declared.certificate.Part.{Part}
use Rattle.um_check.specs.declared.certificate.Yes.{Yes}
use Rattle.um_check.specs.declared.certificate.No.{No}
use Rattle.um_proof.specs.declared.proofs.Proofs.{Proofs}
use Rattle.um_proof.specs.Proving.{AreProofs, AreTidyProofs}
use Rattle.um_certificates.specs.CertificateText.{certificates_text}

-- ---- numbers fit into the fields of a certificate

pub record FitsUnit (u : PowerMap) : Type 0 where
  pub powers : IsTrue (fits u)
  pub variables : VariablesBelow (2 ^ 32) u

pub record FitsPart (p : Part) : Type 0 where
  pub row : p.row < 2 ^ 32
  pub times : FitsSigned w64 p.times

-- slots are numbered in 32 bits
pub record FitsYes (c : Yes) : Type 0 where
  pub slots : length c.solution < 2 ^ 32
  pub rigid_slots : length c.rigid < 2 ^ 32
  pub vars : c.vars < 2 ^ 32
  pub solution : All FitsUnit c.solution
  pub back : All FitsUnit c.back
  pub divisor : FitsSigned w64 c.divisor
  pub parts : All (All FitsPart) c.parts
  pub rigid : All FitsUnit c.rigid

pub record FitsNo (c : No) : Type 0 where
  pub last : c.last < 2 ^ 32
  pub modulus : FitsSigned w64 c.modulus
  pub parts : All FitsPart c.parts

abbrev pub FitsRefusal : Option No → Type 0
FitsRefusal None = Unit {0}
FitsRefusal (Some c) = FitsNo c

-- ---- certificates that are printed alike

-- each slot has its parts, and the base units of all units have names: so many declared ones, and in `rigid` those of
-- unit parameters too, of which there are not more than units in `rigid`
pub record IsNamed (bases : ℕ) (c : Yes) : Type 0 where
  pub per_slot : length c.parts ≡ length c.solution
  pub solution : All (BasesBelow bases) c.solution
  pub back : All (BasesBelow bases) c.back
  pub rigid : All (BasesBelow (bases + length c.rigid)) c.rigid

-- Such certificates of a formed program, whose numbers fit into their fields, are the same if their texts are.
abbrev pub TextsDetermineCertificates : Type 0
TextsDetermineCertificates =
    (p : ProgramTree) (list others : List Yes) (refusal other : Option No) → IsFormed p →
    All (IsNamed (length p.bases)) list → All FitsYes list → FitsRefusal refusal →
    All (IsNamed (length p.bases)) others → All FitsYes others → FitsRefusal other →
    certificates_text p list refusal ≡ certificates_text p others other → (list ≡ others) × (refusal ≡ other)

-- Valid and tidy certificates of a formed program, as `prove` makes them, are the same if their texts are. Their
-- numbers must fit into their fields.
abbrev pub TextsDetermineProofs : Type 0
TextsDetermineProofs =
    (p : ProgramTree) (proofs others : Proofs) → IsFormed p →
    AreProofs p proofs → AreTidyProofs p proofs → All FitsYes proofs.yes.items.items → FitsRefusal proofs.no →
    AreProofs p others → AreTidyProofs p others → All FitsYes others.yes.items.items → FitsRefusal others.no →
    certificates_text p proofs.yes.items.items proofs.no ≡ certificates_text p others.yes.items.items others.no →
    (proofs.yes.items.items ≡ others.yes.items.items) × (proofs.no ≡ others.no)
