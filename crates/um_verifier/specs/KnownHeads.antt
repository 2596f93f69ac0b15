-- What is known of an image after its first heads. This mirrors the code.
-- Source: this project's own.
use Rattle.std.specs.Prelude.{◌≡◌, ℕ, ◌+◌, ◌<◌, ◌&&◌, Bool, List, [], ◌∷◌, ◌++◌, map, take, slice_get, Some}
use Rattle.std.specs.List.{list_all}
use Rattle.um_tree.specs.ProgramTree.{RecordTree}
use Rattle.um_tree.specs.Formed.{AreDistinct, field_names}
use Rattle.um_shape.specs.RecordShapes.{RecordShape}
use Rattle.um_verify.specs.StackShape.{StackShape, on_stack}
use Rattle.um_verify.specs.ImageTree.{HeadTree, ImageTree}
use Rattle.um_verify.specs.Heads.{record_shapes, RecordHolds, FunctionHolds}
use Rattle.um_verify.specs.Rules.{fields_on_stack}
use Rattle.um_stacks.specs.FlatShapes.{flat_shape, flat_shapes}
use Rattle.um_verifier.specs.KnownImages.{known_fields, known_heights, admits, highest}
use Rattle.um_verifier.specs.declared.stop.VerifyStop.{VerifyStop}
use Rattle.um_verifier.specs.declared.stop.VerifyStop.TheVariants.{Head, Code, NoMemory}
use Rattle.um_verifier.specs.declared.known.KnownRecord.{KnownRecord}
use Rattle.um_verifier.specs.declared.known.KnownHead.{KnownHead}
use Rattle.um_verifier.specs.declared.known.Known.{Known}

-- ---- records

-- these are the records that are known
pub record KnowsRecords (records : List RecordTree) (known : Known) : Type 0 where
  pub fields : known_fields known ≡ map fields_on_stack records
  pub heights : known_heights known ≡ record_shapes records

-- and their names, and those of their fields, are taken once
pub record TakesRecords (records : List RecordTree) (known : Known) (taken of_fields : List (List ℕ)) : Type 0 where
  pub shapes : KnowsRecords records known
  pub names : taken ≡ map (λ d. d.name) records
  pub names_once : AreDistinct taken
  pub fields : of_fields ≡ field_names records
  pub fields_once : AreDistinct of_fields

-- a record whose fields have these shapes, over records of these heights
abbrev pub IsKnownRecord : List RecordShape → List StackShape → KnownRecord → Type 0
IsKnownRecord heights ss r = (flat_shapes r.fields.items ≡ ss) × (r.height ≡ highest heights ss + 1)

-- record i, and the names that are taken after it
pub record FindsRecord
    (records : List RecordTree) (i : ℕ) (d : RecordTree) (known : Known)
    (taken of_fields new_taken new_of_fields : List (List ℕ)) (r : KnownRecord) : Type 0 where
  pub holds : RecordHolds records i d
  pub shapes : IsKnownRecord (known_heights known) (fields_on_stack d) r
  pub names : new_taken ≡ taken ++ d.name ∷ []
  pub fields : new_of_fields ≡ of_fields ++ map (λ f. f.name) d.fields

-- these are known, each holds, and no function is known yet
pub record AreKnownRecords (records : List RecordTree) (known : Known) : Type 0 where
  pub heads : known.heads.items ≡ []
  pub shapes : KnowsRecords records known
  pub hold : (i : ℕ) (d : RecordTree) → slice_get records i ≡ Some d → RecordHolds records i d

-- record i is the first that breaks its rules
pub record IsFirstRecord (records : List RecordTree) (i : ℕ) : Type 0 where
  pub d : RecordTree
  pub there : slice_get records i ≡ Some d
  pub fails : RecordHolds records i d → ⊥
  pub before : (j : ℕ) (e : RecordTree) → j < i → slice_get records j ≡ Some e → RecordHolds records j e

abbrev pub IsRecordStop : List RecordTree → VerifyStop → Type 0
IsRecordStop records (Head i) = IsFirstRecord records i
IsRecordStop records (Code a) = ⊥
IsRecordStop records NoMemory = Unit {0}

-- ---- functions

pub record StackSignature : Type 0 where
  pub params : List StackShape
  pub result : StackShape

abbrev pub known_signature : KnownHead → StackSignature
known_signature h = record { params = flat_shapes h.params.items; result = flat_shape h.result }

abbrev pub head_signature : HeadTree → StackSignature
head_signature h = record { params = map on_stack h.params; result = on_stack h.result }

-- each shape of the signature is one over the known records
abbrev pub admits_signature : Known → StackSignature → Bool
admits_signature known s = list_all (admits known) s.params && admits known s.result

-- the records and the first k functions are known, and the names of these are taken once
pub record TakesHeads (image : ImageTree) (k : ℕ) (known : Known) (taken : List (List ℕ)) : Type 0 where
  pub shapes : KnowsRecords image.records known
  pub heads : map known_signature known.heads.items ≡ map head_signature (take k image.heads)
  pub names : taken ≡ map (λ h. h.name) (take k image.heads)
  pub names_once : AreDistinct taken

-- function k, and the names that are taken after it
pub record FindsHead
    (image : ImageTree) (k : ℕ) (h : HeadTree) (taken new_taken : List (List ℕ)) (found : KnownHead) : Type 0 where
  pub holds : FunctionHolds image k h
  pub signature : known_signature found ≡ head_signature h
  pub names : new_taken ≡ taken ++ h.name ∷ []

-- the image is known, and each of its heads holds
pub record AreKnownHeads (image : ImageTree) (known : Known) : Type 0 where
  pub shapes : KnowsRecords image.records known
  pub heads : map known_signature known.heads.items ≡ map head_signature image.heads
  pub records : (i : ℕ) (d : RecordTree) → slice_get image.records i ≡ Some d → RecordHolds image.records i d
  pub functions : (k : ℕ) (h : HeadTree) → slice_get image.heads k ≡ Some h → FunctionHolds image k h
