-- What the image of a program and images as bytes come to.
-- Source: this project's own.
use Rattle.std.specs.Prelude.{◌≡◌, ◌<◌, ◌≤◌, ◌^◌, ◌⊎◌, ℕ, All, List, length, None, Result, Ok, Err}
use Rattle.um_tree.specs.ProgramTree.{ProgramTree}
use Rattle.um_tree.specs.Formed.{IsFormed}
use Rattle.um_shape.specs.FirstFault.{first_fault}
use Rattle.um_gen.specs.ProgramCode.{program_code}
use Rattle.um_verify.specs.declared.image.Image.{Image}
use Rattle.um_verify.specs.ImageTree.{ImageTree, image_tree}
use Rattle.um_verify.specs.Verified.{IsVerified}
use Rattle.um_image.specs.declared.stop.DecodeStop.{DecodeStop}
use Rattle.um_image.specs.declared.stop.DecodeStop.TheVariants as stop
use Rattle.um_image.specs.ProgramImage.{IsImageOf}
use Rattle.um_image.specs.Encoding.{image_bytes}
use Rattle.um_image.specs.Places.{IsBadAt, IsWritable}

-- a name's length can be written in four bytes
abbrev pub IsShortName : List ℕ → Type 0
IsShortName name = length name < 2 ^ 32

pub record HasShortNames (p : ProgramTree) : Type 0 where
  pub records : All (λ d. IsShortName d.name × All (λ f. IsShortName f.name) d.fields) p.records
  pub functions : All (λ f. IsShortName f.name) p.functions

-- The image of a shaped program with its generated code is verified.
abbrev pub GeneratedIsVerified : Type 0
GeneratedIsVerified =
    (p : ProgramTree) (image : ImageTree) → IsFormed p → first_fault p ≡ None → HasShortNames p →
    IsImageOf p (program_code p.functions) image → IsVerified image

-- ---- reading

-- the answer is this image, or memory ran out
abbrev pub IsDecoded : ImageTree → Result Image DecodeStop → Type 0
IsDecoded image (Ok found) = image_tree found ≡ image
IsDecoded image (Err (stop.Bad at)) = ⊥
IsDecoded image (Err stop.NoMemory) = Unit {0}

-- bytes are refused at one place, and no image has them
abbrev pub PlacesAreUnique : Type 0
PlacesAreUnique =
    (bytes : List ℕ) (a b : ℕ) → All (λ x. x < 256) bytes → IsBadAt bytes a → IsBadAt bytes b → a ≡ b

abbrev pub BadBytesAreNoImage : Type 0
BadBytesAreNoImage =
    (bytes : List ℕ) (a : ℕ) (image : ImageTree) → All (λ x. x < 256) bytes → IsBadAt bytes a → IsWritable image →
    bytes ≡ image_bytes image → ⊥

-- an image has one spelling, and bytes spell one image
abbrev pub BytesSpellOneImage : Type 0
BytesSpellOneImage =
    (image other : ImageTree) → IsWritable image → IsWritable other → image_bytes image ≡ image_bytes other →
    image ≡ other

-- at most 16,777,216 bytes are those of an image, or they are refused at some place
abbrev pub BytesAreAnswered : Type 0
BytesAreAnswered =
    (bytes : List ℕ) → All (λ x. x < 256) bytes → length bytes ≤ 16777216 →
    ((image : ImageTree) × IsWritable image × (bytes ≡ image_bytes image) × (length image.records ≤ 16777216))
    ⊎ ((at : ℕ) × IsBadAt bytes at)
