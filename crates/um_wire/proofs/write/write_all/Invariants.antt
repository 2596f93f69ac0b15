use Rattle.std.proofs.Common.{◌≡◌, ◌++◌, [], List, ℕ, length}
use Rattle.std.specs.Io.KnownBytes.{Appends}
use Rattle.um_wire.proofs.write.write_all.Given as goal

-- what was taken so far, and the rest, are the bytes
abbrev pub invariant-loop-rest : goal.invariant-loop-rest
invariant-loop-rest g l = record {
  front : List ℕ;
  parts : l.bytes ≡ front ++ l.rest;
  added : Appends (g.K.Sink.taken l.fn.sink) (g.K.Sink.taken l.sink) front;
  nothing : l.bytes ≡ [] → l.sink ≡ l.fn.sink;
  no_fault : g.K.Sink.faults l.sink ≡ g.K.Sink.faults l.fn.sink;
}

-- each turn takes at least one byte
abbrev pub decreases-loop-rest : goal.decreases-loop-rest
decreases-loop-rest g l = length l.rest
