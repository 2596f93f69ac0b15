use Rattle.um_equal_types.specs.Steps.{units_of}
use Rattle.um_kept.specs.Kept.{Kept, IsReached}
use Rattle.um_kept.specs.Answers.{Agrees, start}
use Rattle.um_kept.proofs.made.make_rows.Given as goal

abbrev pub invariant-loop-k : goal.invariant-loop-k
invariant-loop-k l = (kept : Kept) × IsReached (units_of l.rows) (start l.head) l.k kept × Agrees l.head l.partial kept
