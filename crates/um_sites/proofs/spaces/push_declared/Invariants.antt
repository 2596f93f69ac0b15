use Rattle.std.proofs.Common.{◌≡◌, ◌++◌, map, take}
use Rattle.um_tree.specs.RawTree.{decl_syntax}
use Rattle.um_sites.specs.Spaces.{declared}
use Rattle.um_sites.proofs.spaces.push_declared.Given as goal

abbrev pub invariant-loop-decl : goal.invariant-loop-decl
invariant-loop-decl l = l.names.items ≡ l.initial.names.items ++ declared l.space (map decl_syntax (take l.decl-index l.decls))
