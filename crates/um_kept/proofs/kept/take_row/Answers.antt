use Rattle.std.proofs.Common.{◌≡◌, ◌<◌, ℤ, neg_ℤ, nat_abs, sym, subst, rules, arith}
use Rattle.std.specs.Int.{w128}
use Rattle.std.proofs.lemmas.Int.{ints, to_z-of_z}
use Rattle.um_units.specs.PowerMap.{PowerMap, mul, pow}
use Rattle.um_wide.proofs.Rooms.{abs_32}
use Rattle.um_kept.specs.Formed.{IsPowerIn}
use Rattle.um_kept.proofs.Taken.{room_taken, taken_narrow}
use Rattle.um_kept.proofs.kept.take_row.Goals as goal

pub mul_power-requires-clause-room : goal.mul_power-requires-clause-room
mul_power-requires-clause-room c =
    let e = abs_32 c.args.e c.ranges.e in
    room_taken c.args.parts.now c.args.total.now _ (omega (arith, ints, e)) c.requires.parts c.requires.total

pub returns-in-None-clause-narrow : goal.returns-in-None-clause-narrow
returns-in-None-clause-narrow c =
    taken_narrow c.args.parts.now c.mul_power.new.self c.args.total.now _ c.in_ok-mul_power.ensures.exact c.requires.parts (c.first_past_of.ensures.none c.in-None.is)

pub returns-in-Some-clause-narrow : goal.returns-in-Some-clause-narrow
returns-in-Some-clause-narrow c =
    let e = c.from.ensures in
    let f = c.ranges.e in
    let parts = c.args.parts.now in
    let total = c.args.total.now in
    let made : c.mul_power.new.self ≡ mul parts (pow total (neg_ℤ c.args.e)) =
    subst (λ (z : ℤ). c.mul_power.new.self ≡ mul parts (pow total z)) (omega (arith, ints, e, f)) c.in_ok-mul_power.ensures.exact in
    subst (λ (z : ℤ). IsPowerIn z (mul parts (pow total (neg_ℤ c.args.e))) × (9223372036854775807 < nat_abs z)) (sym (to_z-of_z w128 c.in-Some.number (search rules)))
    (subst (λ (u : PowerMap). IsPowerIn c.in-Some.number u × (9223372036854775807 < nat_abs c.in-Some.number)) made (c.first_past_of.ensures.some c.in-Some.number c.in-Some.is))
