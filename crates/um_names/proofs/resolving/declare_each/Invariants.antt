use Rattle.std.proofs.Common.{◌≡◌, length, map, drop}
use Rattle.um_tree.specs.RawTree.{decl_syntax}
use Rattle.um_names.specs.Resolution.{resolved_decls}
use Rattle.um_names.specs.Tables.{AreTables, known_of}
use Rattle.um_names.proofs.resolving.declare_each.Given as goal

abbrev pub invariant-loop-decl : goal.invariant-loop-decl
invariant-loop-decl l = record {
  are : AreTables l.tables;
  done : resolved_decls (known_of l.fn.tables) (map decl_syntax l.fn.raw.items)
      ≡ resolved_decls (known_of l.tables) (map decl_syntax (drop (length l.yielded) l.fn.raw.items));
}
