use Rattle.std.proofs.Common.{◌≡◌, ℕ, List, take, length}
use Rattle.um_measures.specs.Known.{number_of}
use Rattle.um_names.specs.Parts.{field_else, field_at}
use Rattle.um_names.specs.Tables.{numbered_field}
use Rattle.um_names.proofs.FieldNumbers.{decl_names}
use Rattle.um_names.proofs.records.add_fields.Given as goal

abbrev pub invariant-loop-i : goal.invariant-loop-i
invariant-loop-i l = record {
  counts : length l.names ≡ length l.numbers.items;
  fields : (x : List ℕ) → numbered_field l.numbers.items (number_of l.names x) ≡ field_else (numbered_field l.fn.numbers.items (number_of l.fn.names x)) (field_at l.record_number (number_of (decl_names (take l.i l.fields)) x));
}
