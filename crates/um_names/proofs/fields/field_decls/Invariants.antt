use Rattle.std.proofs.Common.{◌≡◌, [], map, drop}
use Rattle.um_tree.specs.ProgramTree.{field_tree}
use Rattle.um_tree.specs.RawTree.{field_decl_syntax}
use Rattle.um_names.specs.Resolution.{resolved_field_decls}
use Rattle.um_names.specs.Tables.{known_of}
use Rattle.um_names.proofs.FieldDecls.{names_in}
use Rattle.um_names.proofs.fields.field_decls.Given as goal

abbrev pub invariant-loop-text : goal.invariant-loop-text
invariant-loop-text l = record {
  done : resolved_field_decls (known_of l.tables) l.variables [] (map field_decl_syntax l.raw) ≡ resolved_field_decls (known_of l.tables) l.variables (map field_tree l.fields.items) (map field_decl_syntax (drop l.text-index l.raw));
  own : l.own ≡ names_in (map field_tree l.fields.items);
}
