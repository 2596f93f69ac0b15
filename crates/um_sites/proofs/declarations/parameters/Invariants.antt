use Rattle.std.proofs.Common.{◌≡◌, ◌++◌, [], map, take, drop}
use Rattle.um_tree.specs.RawTree.{decl_syntax, param_syntax}
use Rattle.um_sites.specs.Sites.{told_each, parameter_told}
use Rattle.um_sites.proofs.declarations.parameters.Given as goal

abbrev pub invariant-loop-i : goal.invariant-loop-i
invariant-loop-i l =
    l.told.items ++ told_each (parameter_told l.asked.fault (map decl_syntax l.asked.before.now)) (map param_syntax (take l.i l.parameters)) (map param_syntax (drop l.i l.parameters))
    ≡ l.fn.told.items ++ told_each (parameter_told l.asked.fault (map decl_syntax l.asked.before.now)) [] (map param_syntax l.parameters)
