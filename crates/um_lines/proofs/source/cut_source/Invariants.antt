use Rattle.std.proofs.Common.{length}
use Rattle.um_lines.proofs.Lines.{IsAt}
use Rattle.um_lines.proofs.source.cut_source.Given as goal

abbrev pub invariant-lines : goal.invariant-lines
invariant-lines l = record { at : IsAt l.fn.bytes l.rest }

abbrev pub decreases-lines : goal.decreases-lines
decreases-lines l = length l.rest
