use Rattle.std.proofs.Common.{◌≡◌, map, drop}
use Rattle.um_tree.specs.RawTree.{decl_syntax}
use Rattle.um_names.specs.Resolution.{resolved_decls}
use Rattle.um_names.specs.Tables.{AreTables, known_of}
use Rattle.um_names.proofs.resolving.declare_all.Given as goal

abbrev pub invariant-loop-decl : goal.invariant-loop-decl
invariant-loop-decl l = record {
  are : AreTables l.tables;
  done : resolved_decls (known_of l.fn.tables) (map decl_syntax l.raw) ≡ resolved_decls (known_of l.tables) (map decl_syntax (drop l.decl-index l.raw));
}
