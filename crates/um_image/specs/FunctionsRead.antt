-- Mirrors the code: the functions that are kept while an image is read, and the image of all parts.
-- Source: this project's own form.
use Rattle.std.specs.Prelude.{◌≡◌, ℕ, ◌+◌, List, [], ◌∷◌, ◌++◌, length, map, Result, Ok, Err}
use Rattle.std.specs.List.{flat_map}
use Rattle.um_tree.specs.declared.program.Records.{Records}
use Rattle.um_tree.specs.ProgramTree.{record_tree}
use Rattle.um_machine.specs.declared.code.Entry.{Entry}
use Rattle.um_verify.specs.declared.image.Image.{Image}
use Rattle.um_verify.specs.ImageTree.{ImageTree, image_tree, head_tree}
use Rattle.um_image.specs.declared.stop.ReadStop.{ReadStop}
use Rattle.um_image.specs.declared.function.Functions.{Functions}
use Rattle.um_image.specs.Encoding.{FunctionPart, ImageParts}
use Rattle.um_image.specs.Reading.{◌>>=◌, Fails, function_at}

-- the entries of functions that stand one after the other, from an address on
abbrev pub entries_from : ℕ → List FunctionPart → List Entry
entries_from a [] = []
entries_from a (f ∷ fs) =
    record { start = a; end = a + length f.ops; params = length f.head.params } ∷ entries_from (a + length f.ops) fs

-- these are kept
pub record Holds (kept : Functions) (fs : List FunctionPart) : Type 0 where
  pub heads : map head_tree kept.heads.items ≡ map (λ f. f.head) fs
  pub ops : kept.ops.items ≡ flat_map (λ f. f.ops) fs
  pub entries : kept.entries.items ≡ entries_from 0 fs

-- one more
abbrev pub function_onto : List FunctionPart → List ℕ → Result (List FunctionPart × List ℕ) ℕ
function_onto fs bytes = function_at bytes >>= λ f. Ok (fs ++ f.0 ∷ [], f.1)

-- the functions that reading gives are kept
abbrev pub GivesFunctions :
    {X : Type 0} → (X → List ℕ) → Functions → Result X ReadStop → Result (List FunctionPart × List ℕ) ℕ → Type 0
GivesFunctions view kept (Ok rest) read = (fs : List FunctionPart) × Holds kept fs × (read ≡ Ok (fs, view rest))
GivesFunctions view kept (Err e) read = Fails e read

abbrev pub AreFunctionsRead : Functions → Result (Unit {0}) ReadStop → Result (List FunctionPart) ℕ → Type 0
AreFunctionsRead kept (Ok done) read = (fs : List FunctionPart) × Holds kept fs × (read ≡ Ok fs)
AreFunctionsRead kept (Err e) read = Fails e read

abbrev pub AreLastFunctions : Result Functions ReadStop → Result (List FunctionPart) ℕ → Type 0
AreLastFunctions (Ok kept) read = (fs : List FunctionPart) × Holds kept fs × (read ≡ Ok fs)
AreLastFunctions (Err e) read = Fails e read

-- ---- the whole

abbrev pub image_of_parts : ImageParts → ImageTree
image_of_parts p = record {
  records = p.records;
  heads = map (λ f. f.head) p.functions;
  code = record { ops = flat_map (λ f. f.ops) p.functions; entries = entries_from 0 p.functions };
}

-- the image that was read is that of the parts
abbrev pub IsImageRead : Result Image ReadStop → Result ImageParts ℕ → Type 0
IsImageRead (Ok image) read = (p : ImageParts) × (read ≡ Ok p) × (image_tree image ≡ image_of_parts p)
IsImageRead (Err e) read = Fails e read

-- the image of what was kept
abbrev pub kept_image : Records → Functions → ImageTree
kept_image records kept = record {
  records = map record_tree records.items.items;
  heads = map head_tree kept.heads.items;
  code = record { ops = kept.ops.items; entries = kept.entries.items };
}
