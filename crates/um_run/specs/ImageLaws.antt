-- What calls of an image's functions come to. The definitions do not rest on this.
-- Source: this project's own.
use Rattle.std.specs.Prelude.{◌≡◌, ◌≤◌, ◌⊎◌, ℕ, List, length, Result, Ok, Err}
use Rattle.um_verify.specs.ImageTree.{HeadTree, ImageTree}
use Rattle.um_verify.specs.Laws.{IsCall}
use Rattle.um_verify.specs.Verified.{IsVerified}
use Rattle.um_run.specs.declared.call.CallRefusal.{CallRefusal}
use Rattle.um_run.specs.declared.call.CallRefusal.TheVariants as refusal
use Rattle.um_run.specs.ImageCalls.{ImageCallTree, image_call_values, IsImageCallOf}

-- it can be run: the values have the shapes of the function's parameters
abbrev pub IsShapedCall : ImageTree → ImageCallTree → Type 0
IsShapedCall image call = (h : HeadTree) × IsCall image call.function h (image_call_values call)

abbrev pub ImageCallsAreShaped : Type 0
ImageCallsAreShaped =
    (image : ImageTree) (name : List ℕ) (texts : List (List ℕ)) (call : ImageCallTree) →
    IsImageCallOf image name texts (Ok call) → IsShapedCall image call

-- no two answers but want of memory stand together
abbrev pub ImageCallsAreUnique : Type 0
ImageCallsAreUnique =
    (image : ImageTree) (name : List ℕ) (texts : List (List ℕ)) (r q : Result ImageCallTree CallRefusal) →
    IsVerified image → length image.records ≤ 16777216 →
    IsImageCallOf image name texts r → IsImageCallOf image name texts q →
    (r ≡ q) ⊎ ((r ≡ Err refusal.NoMemory) ⊎ (q ≡ Err refusal.NoMemory))
