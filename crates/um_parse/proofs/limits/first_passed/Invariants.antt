use Rattle.std.proofs.Common.{◌≡◌, ◌+◌, ◌≤◌, ◌<◌, ◌^◌, true, length, map}
use Rattle.um_tree.specs.RawTree.{decl_syntax}
use Rattle.um_parse.specs.ProgramNodes.{program_nodes}
use Rattle.um_parse.specs.Spaced.{Spaced}
use Rattle.um_parse.proofs.LimitLaws.{Behind}
use Rattle.um_parse.proofs.limits.first_passed.Given as goal

abbrev pub invariant-loop-decl : goal.invariant-loop-decl
invariant-loop-decl l =
    Behind (map decl_syntax l.decls) l.before (map decl_syntax l.later)
    × (program_nodes (map decl_syntax l.later) < 2 ^ 32)
    × (l.spaced ≡ true → Spaced (map decl_syntax l.later) l.end)
    × (l.before + length l.later ≤ length l.decls)

abbrev pub decreases-loop-decl : goal.decreases-loop-decl
decreases-loop-decl l = length l.later
