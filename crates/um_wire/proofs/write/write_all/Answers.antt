use Rattle.std.proofs.Common.{◌<◌, ◌++◌, length, take, rules, refl}
use Rattle.std.proofs.KnownBytes.{Appends-trans}
use Rattle.um_wire.proofs.Pieces.{append-moved, no_rest}
use Rattle.um_wire.proofs.write.write_all.Goals as goal

pub loop-rest-preserved : goal.loop-rest-preserved
loop-rest-preserved g c =
    let inv = c.loop-rest.invariant in
    let piece = take c.in_ok-count.count c.loop-rest.rest.now in
    let more : 0 < length c.loop-rest.rest.now = search rules in
    record {
      front = inv.front ++ piece;
      parts = append-moved _ _ _ c.in_ok-count.count _ inv.parts refl;
      added = Appends-trans _ _ _ inv.front piece inv.added c.in_ok-count.ensures.bytes;
      nothing = λ is. absurd (no_rest _ _ _ inv.parts is more);
      no_fault = cc c.in_ok-count.ensures.no_fault;
    }
