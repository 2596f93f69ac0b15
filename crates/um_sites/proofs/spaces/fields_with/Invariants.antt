use Rattle.std.proofs.Common.{◌≡◌, map, drop}
use Rattle.um_tree.specs.RawTree.{decl_syntax}
use Rattle.um_sites.specs.Spaces.{fields_with}
use Rattle.um_sites.proofs.spaces.fields_with.Given as goal

abbrev pub invariant-loop-decl : goal.invariant-loop-decl
invariant-loop-decl l = fields_with (map decl_syntax (drop l.decl-index l.decls)) l.name ≡ fields_with (map decl_syntax l.decls) l.name
