use Rattle.std.proofs.Common.{◌≡◌, ◌++◌, [], map, take, drop}
use Rattle.um_tree.specs.RawTree.{decl_syntax, var_syntax, field_decl_syntax}
use Rattle.um_sites.specs.Sites.{told_each, field_told}
use Rattle.um_sites.proofs.declarations.fields.Given as goal

abbrev pub invariant-loop-i : goal.invariant-loop-i
invariant-loop-i l =
    l.told.items ++ told_each (field_told l.asked.fault (map decl_syntax l.asked.before.now) (map var_syntax l.units)) (map field_decl_syntax (take l.i l.fields)) (map field_decl_syntax (drop l.i l.fields))
    ≡ l.fn.told.items ++ told_each (field_told l.asked.fault (map decl_syntax l.asked.before.now) (map var_syntax l.units)) [] (map field_decl_syntax l.fields)
