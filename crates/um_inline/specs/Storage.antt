-- The bytes that are stored, in the value itself or on the heap.
use Rattle.std.specs.Prelude.{ℕ, List}
use Rattle.um_inline.specs.declared.bytes.Storage.{Storage}
use Rattle.um_inline.specs.declared.bytes.Storage.TheVariants.{Inline, Heap}

abbrev pub stored_bytes : Storage → List ℕ
stored_bytes (Inline bytes) = bytes
stored_bytes (Heap bytes) = bytes.value.items
