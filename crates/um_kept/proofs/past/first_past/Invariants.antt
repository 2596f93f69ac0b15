use Rattle.std.proofs.Common.{take, nat_abs}
use Rattle.std.specs.Prelude.{IsTrue}
use Rattle.std.specs.List.{list_all}
use Rattle.um_kept.proofs.Limits.{is_low}
use Rattle.um_kept.proofs.past.first_past.Given as goal

abbrev pub invariant-loop-term : goal.invariant-loop-term
invariant-loop-term l = IsTrue (list_all (is_low (nat_abs l.limit)) (take l.term-index l.term-items))
