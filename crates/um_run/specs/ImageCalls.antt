-- A call of an image's function by its words, or why there is none.
-- Source: this project's own.
use Rattle.std.specs.Prelude.{◌≡◌, ◌≢◌, ℕ, List, [], length, map, slice_get, Some, None, Result, Ok, Err}
use Rattle.um_tree.specs.ValueTree.{ValueTree, InputTree, input_tree, without_units}
use Rattle.um_tree.specs.ProgramTree.{ProgramTree}
use Rattle.um_measures.specs.Known.{Known, number_of}
use Rattle.um_measures.specs.ClosedUnits.{given}
use Rattle.um_run.specs.Calls.{AreInputs, IsFirstRefused}
use Rattle.um_verify.specs.ImageTree.{HeadTree, ImageTree}
use Rattle.um_run.specs.declared.call.ImageCall.{ImageCall}
use Rattle.um_run.specs.declared.call.CallRefusal.{CallRefusal}
use Rattle.um_run.specs.declared.call.CallRefusal.TheVariants as refusal

-- the image's records alone: without base units, and without functions
abbrev pub image_program : ImageTree → ProgramTree
image_program image = record { bases = []; records = image.records; functions = [] }

abbrev pub known_in : ImageTree → Known
known_in image = given (image_program image) []

abbrev pub head_names : List HeadTree → List (List ℕ)
head_names heads = map (λ h. h.name) heads

-- a call: the function's number, and its inputs
pub record ImageCallTree : Type 0 where
  pub function : ℕ
  pub inputs : List InputTree

-- the values on which it runs
abbrev pub image_call_values : ImageCallTree → List ValueTree
image_call_values call = map without_units call.inputs

-- the function of this name, with its number
pub record IsNamedHead (image : ImageTree) (name : List ℕ) (k : ℕ) (h : HeadTree) : Type 0 where
  pub number : number_of (head_names image.heads) name ≡ Some k
  pub listed : slice_get image.heads k ≡ Some h

-- the call of function k, which has this head, on the inputs that the texts are; or it takes another number of
-- arguments, or an argument is refused
abbrev pub IsImageCallTo : ImageTree → ℕ → HeadTree → List (List ℕ) → Result ImageCallTree CallRefusal → Type 0
IsImageCallTo image k h texts (Ok call) = (call.function ≡ k) × AreInputs (known_in image) h.params texts call.inputs
IsImageCallTo image k h texts (Err refusal.NoFunction) = ⊥
IsImageCallTo image k h texts (Err refusal.WrongCount) = length texts ≢ length h.params
IsImageCallTo image k h texts (Err (refusal.Argument index stop)) =
    (length texts ≡ length h.params) × IsFirstRefused (known_in image) h.params texts index stop
IsImageCallTo image k h texts (Err refusal.Units) = ⊥
IsImageCallTo image k h texts (Err refusal.PowerRange) = ⊥
IsImageCallTo image k h texts (Err refusal.Slots) = ⊥
IsImageCallTo image k h texts (Err refusal.NoMemory) = Unit {0}

-- the call of the function of this name, or no function has the name
abbrev pub IsImageCallOf : ImageTree → List ℕ → List (List ℕ) → Result ImageCallTree CallRefusal → Type 0
IsImageCallOf image name texts (Err refusal.NoFunction) = number_of (head_names image.heads) name ≡ None
IsImageCallOf image name texts (Err refusal.NoMemory) = Unit {0}
IsImageCallOf image name texts r =
    (k : ℕ) × (h : HeadTree) × IsNamedHead image name k h × IsImageCallTo image k h texts r

-- ---- what the code's answer stands for

abbrev pub image_call_tree : ImageCall → ImageCallTree
image_call_tree call = record { function = call.function; inputs = map input_tree call.inputs.items.items }

abbrev pub image_call_answer : Result ImageCall CallRefusal → Result ImageCallTree CallRefusal
image_call_answer (Ok call) = Ok (image_call_tree call)
image_call_answer (Err stop) = Err stop
