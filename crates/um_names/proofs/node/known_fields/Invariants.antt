use Rattle.std.proofs.Common.{◌≡◌, map, drop}
use Rattle.um_tree.specs.RawTree.{field_part, fields_in_order}
use Rattle.um_names.specs.ExprNames.{known_fields}
use Rattle.um_names.specs.Tables.{known_of}
use Rattle.um_names.proofs.node.known_fields.Given as goal

abbrev pub invariant-loop-field : goal.invariant-loop-field
invariant-loop-field l = known_fields (known_of l.tables).program.records (fields_in_order (map field_part l.fields)) ≡ known_fields (known_of l.tables).program.records (fields_in_order (map field_part (drop l.field-index l.fields)))
