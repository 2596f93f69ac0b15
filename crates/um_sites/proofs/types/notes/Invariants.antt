use Rattle.std.proofs.Common.{◌≡◌, ◌++◌, map, drop}
use Rattle.std.specs.List.{flat_map}
use Rattle.um_tree.specs.RawTree.{decl_syntax, var_syntax, note_syntax}
use Rattle.um_sites.specs.Spaces.{variable_named}
use Rattle.um_sites.specs.Sites.{note_told}
use Rattle.um_sites.proofs.types.notes.Given as goal

abbrev pub invariant-loop-item : goal.invariant-loop-item
invariant-loop-item l =
    l.told.items ++ flat_map (note_told l.asked.fault (map decl_syntax l.asked.before.now) l.free (map variable_named (map var_syntax l.variables))) (map note_syntax (drop l.item-index l.raw))
    ≡ l.fn.told.items ++ flat_map (note_told l.asked.fault (map decl_syntax l.asked.before.now) l.free (map variable_named (map var_syntax l.variables))) (map note_syntax l.raw)
