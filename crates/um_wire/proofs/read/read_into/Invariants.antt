use Rattle.std.proofs.Common.{◌≡◌, ◌+◌, length}
use Rattle.std.specs.Io.KnownBytes.{Consumes}
use Rattle.um_wire.proofs.read.read_into.Given as goal

-- the taker has what was read so far
abbrev pub invariant-loop-count : goal.invariant-loop-count
invariant-loop-count g l = record {
  read : Consumes (g.S.Source.left l.fn.source) (g.S.Source.left l.source) (g.T.Taker.taken l.taker);
  fits : length (g.T.Taker.taken l.taker) + l.room ≡ l.limit;
  most : g.T.Taker.most l.taker ≡ g.T.Taker.most l.fn.taker;
  no_fault : g.S.Source.faults l.source ≡ g.S.Source.faults l.fn.source;
}

-- each turn takes at least one byte, or is the last
abbrev pub decreases-loop-count : goal.decreases-loop-count
decreases-loop-count g l = l.room
