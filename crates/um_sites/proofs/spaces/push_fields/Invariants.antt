use Rattle.std.proofs.Common.{◌≡◌, ◌++◌, map, take}
use Rattle.um_tree.specs.RawTree.{field_decl_syntax}
use Rattle.um_sites.specs.Spaces.{field_named}
use Rattle.um_sites.proofs.spaces.push_fields.Given as goal

abbrev pub invariant-loop-field : goal.invariant-loop-field
invariant-loop-field l = l.names.items ≡ l.initial.names.items ++ map field_named (map field_decl_syntax (take l.field-index l.fields))
