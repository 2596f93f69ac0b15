use Rattle.std.proofs.Common.{◌≡◌, ◌+◌, ◌++◌, max, map, drop}
use Rattle.um_tree.proofs.raw.RawUnit.TheLaws.{the_size}
use Rattle.um_tree.specs.RawTree.{decl_syntax, var_syntax, unit_syntax, units_in_order}
use Rattle.um_sites.specs.Spaces.{variable_named}
use Rattle.um_sites.specs.Sites.{units_told}
use Rattle.um_sites.proofs.types.+unit.Given as goal

abbrev pub invariant-units-loop-i : goal.invariant-units-loop-i
invariant-units-loop-i l =
    l.told.items ++ units_told l.asked.fault (map decl_syntax l.asked.before.now) l.free (map variable_named (map var_syntax l.variables)) (units_in_order (map unit_syntax (drop l.i l.raw)))
    ≡ l.fn.told.items ++ units_told l.asked.fault (map decl_syntax l.asked.before.now) l.free (map variable_named (map var_syntax l.variables)) (units_in_order (map unit_syntax l.raw))

-- Twice the size of what is read, and how many calls a function is away from one with a smaller part.

abbrev pub decreases-unit : goal.decreases-unit
decreases-unit l = the_size l.raw.now + the_size l.raw.now

abbrev pub decreases-two : goal.decreases-two
decreases-two l = max (the_size l.u.now) (the_size l.v.now) + max (the_size l.u.now) (the_size l.v.now) + 1

abbrev pub decreases-units : goal.decreases-units
decreases-units l = goal.size-units l + goal.size-units l + 1
