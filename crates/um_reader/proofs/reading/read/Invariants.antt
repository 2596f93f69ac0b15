use Rattle.um_reader.proofs.Loop.{Stands}
use Rattle.um_reader.proofs.reading.read.Given as goal

abbrev pub invariant-loop-i : goal.invariant-loop-i
invariant-loop-i g l = Stands g.R.Reader.machine g.R.Reader.limit l.tokens l.i (g.R.Reader.state_in l.reader)
