use Rattle.std.proofs.Common.{arith}
use Rattle.std.proofs.lemmas.Int.{ints}
use Rattle.um_wide.proofs.Rooms.{abs_32}
use Rattle.um_kept.proofs.Taken.{room_raised}
use Rattle.um_kept.proofs.kept.raised_parts.Goals as goal

pub mul_power-requires-clause-room : goal.mul_power-requires-clause-room
mul_power-requires-clause-room c =
    let p = abs_32 c.args.p c.ranges.p in
    let e = abs_32 c.args.e c.ranges.e in
    room_raised c.args.parts.now c.in_ok-made.made c.args.total.now _ _ c.in_ok-made.ensures.exact (omega (arith, ints, p)) (omega (arith, ints, e)) c.requires.parts c.requires.total
