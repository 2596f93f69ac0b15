use Rattle.std.proofs.Common.{◌≡◌, ◌++◌, [], map, take, drop}
use Rattle.um_tree.specs.RawTree.{decl_syntax}
use Rattle.um_sites.specs.Sites.{told_each, decl_told}
use Rattle.um_sites.proofs.declarations.declarations.Given as goal

abbrev pub invariant-loop-i : goal.invariant-loop-i
invariant-loop-i l =
    l.told.items ++ told_each (decl_told l.fault) (map decl_syntax (take l.i l.decls)) (map decl_syntax (drop l.i l.decls))
    ≡ l.fn.told.items ++ told_each (decl_told l.fault) [] (map decl_syntax l.decls)
