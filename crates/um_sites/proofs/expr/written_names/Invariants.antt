use Rattle.std.proofs.Common.{◌≡◌, ◌++◌, map, drop}
use Rattle.um_tree.specs.RawTree.{field_part, fields_in_order}
use Rattle.um_sites.specs.Sites.{written_fields}
use Rattle.um_sites.proofs.expr.written_names.Given as goal

abbrev pub invariant-loop-field : goal.invariant-loop-field
invariant-loop-field l = l.names.items ++ written_fields (fields_in_order (map field_part (drop l.field-index l.fields))) ≡ written_fields (fields_in_order (map field_part l.fields))
