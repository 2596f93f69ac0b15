use Rattle.std.proofs.Common.{map}
use Rattle.um_tree.specs.RawTree.{decl_syntax}
use Rattle.um_unit_reasons.proofs.NameSteps.{FunctionsLeft}
use Rattle.um_unit_reasons.proofs.names.function_at.Given as goal

abbrev pub invariant-loop-decl : goal.invariant-loop-decl
invariant-loop-decl l = FunctionsLeft (map decl_syntax l.items) l.i l.decl-index l.left
