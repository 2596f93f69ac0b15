use Rattle.std.proofs.Common.{◌≡◌, ◌^◌, subst, arith, ℤ}
use Rattle.std.specs.Prelude.{IfOk}
use Rattle.std.proofs.lemmas.Int.{ints}
use Rattle.std.proofs.lemmas.Result.{IfOk-weaker}
use Rattle.um_units.specs.PowerMap.{PowerMap, pow}
use Rattle.um_wide.specs.Room.{IsWithin}
use Rattle.um_wide.proofs.Rooms.{abs_32, within-weaker}
use Rattle.um_wide.proofs.images.raised.Goals as goal

pub returns-clause-power : goal.returns-clause-power
returns-clause-power c =
    let e = c.from.ensures in
    let f = c.ranges.k in
    subst (λ (z : ℤ). IfOk c.power.result (λ (u : PowerMap). u ≡ pow c.args.unit.now z)) (omega (arith, ints, e, f)) c.power.ensures.exact

pub returns-clause-room : goal.returns-clause-room
returns-clause-room c =
    let e = c.from.ensures in
    let l = abs_32 c.args.k c.ranges.k in
    IfOk-weaker c.power.result _ (IsWithin (2 ^ 62)) (λ u h. within-weaker _ (2 ^ 62) u (omega (arith, ints, e, l)) h) c.power.ensures.room
