-- What refusals of images come to.
-- Source: this project's own.
use Rattle.std.specs.Prelude.{◌≡◌, ◌≢◌, ◌⊎◌}
use Rattle.um_verify.specs.ImageTree.{ImageTree, HasForm}
use Rattle.um_verify.specs.Verified.{IsVerified}
use Rattle.um_verifier.specs.declared.stop.VerifyStop.{VerifyStop}
use Rattle.um_verifier.specs.declared.stop.VerifyStop.TheVariants.{NoMemory}
use Rattle.um_verifier.specs.Refusals.{IsRefusal}

-- an image has one refusal at most, besides want of memory
abbrev pub RefusalsAreOne : Type 0
RefusalsAreOne =
    (image : ImageTree) (x y : VerifyStop) → IsRefusal image x → IsRefusal image y → x ≢ NoMemory → y ≢ NoMemory →
    x ≡ y

-- and a verified one has none
abbrev pub VerifiedIsAccepted : Type 0
VerifiedIsAccepted = (image : ImageTree) (x : VerifyStop) → IsVerified image → IsRefusal image x → x ≡ NoMemory

-- Each image is verified, or there is a refusal of it. Want of memory is none.
abbrev pub ImagesAreVerifiedOrRefused : Type 0
ImagesAreVerifiedOrRefused =
    (image : ImageTree) → HasForm image →
    IsVerified image ⊎ ((stop : VerifyStop) × (stop ≢ NoMemory) × IsRefusal image stop)
